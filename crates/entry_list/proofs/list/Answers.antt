-- `write_listing`: the ticket is read, then listed.
use Rattle.ticket_decoding.proofs.DecodeLaws.{zeros-lent}
use Rattle.entry_list.proofs.ListLaws.{of-bytes}
use Rattle.entry_list.proofs.list.Goals as goal

pub decode-read-requires : goal.decode-read-requires
decode-read-requires c = zeros-lent

pub list_decoded-requires : goal.list_decoded-requires
list_decoded-requires c = c.decode-read.ensures.within

pub returns : goal.returns
returns c = let d = c.decode-read in let g = c.list_decoded in of-bytes
    _ d.result _ _ d.ensures _ _ g.result g.ensures
