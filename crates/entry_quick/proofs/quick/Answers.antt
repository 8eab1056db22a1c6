-- `quick`: the ticket is read, then tested.
use Rattle.ticket_decoding.proofs.DecodeLaws.{zeros-lent}
use Rattle.entry_quick.proofs.TestLaws.{of-bytes}
use Rattle.entry_quick.proofs.quick.Goals as goal

pub decode-read-requires : goal.decode-read-requires
decode-read-requires c = zeros-lent

pub quick_decoded-requires : goal.quick_decoded-requires
quick_decoded-requires c = c.decode-read.ensures.within

pub returns : goal.returns
returns c = let d = c.decode-read in let g = c.quick_decoded in of-bytes _ d.result _ _ d.ensures
    c.args.first c.args.second g.result g.ensures
