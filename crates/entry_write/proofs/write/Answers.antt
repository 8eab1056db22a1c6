-- `write`: the ticket is read and judged, then its new nest is encoded.
use Rattle.ticket_decoding.proofs.DecodeLaws.{zeros-lent}
use Rattle.ticket_judgement.proofs.VerdictLaws.{of-bytes}
use Rattle.entry_write.proofs.EntryLaws.{write-refused, encodable, write-complete, write-short}
use Rattle.entry_answers.proofs.AnswerLaws.{outcome-on}
use Rattle.entry_answers.proofs.DemandLaws.{write_keeps}
use Rattle.entry_write.proofs.write.Goals as goal

pub decode-read-requires : goal.decode-read-requires
decode-read-requires c = zeros-lent

pub decide-requires : goal.decide-requires
decide-requires c = c.decode-read.ensures.within

pub returns-in_err-decided : goal.returns-in_err-decided
returns-in_err-decided c = let d = c.decode-read in write_keeps _ _ _ _ (outcome-on _ _ c.from_residual.ensures.1
    (write-refused _ _ _ _ _ (of-bytes _ d.result _ _ d.ensures _ _ _ c.in_err-decided.ensures)))

pub encode_flat_nest-requires : goal.encode_flat_nest-requires
encode_flat_nest-requires c = let d = c.decode-read in encodable _ _ _ c.args.out.now _
    (of-bytes _ d.result _ _ d.ensures _ _ _ c.in_ok-decided.ensures)

pub returns-in-Ok : goal.returns-in-Ok
returns-in-Ok c = let d = c.decode-read in let g = c.encode_flat_nest in write_keeps _ _ _ _ (write-complete _ _ _ _ _
    (of-bytes _ d.result _ _ d.ensures _ _ _ c.in_ok-decided.ensures) _ g.result g.ensures _ c.in-Ok.is)

pub returns-in-Err : goal.returns-in-Err
returns-in-Err c = let d = c.decode-read in let g = c.encode_flat_nest in write_keeps _ _ _ _ (write-short _ _ _ _ _
    (of-bytes _ d.result _ _ d.ensures _ _ _ c.in_ok-decided.ensures) _ g.result g.ensures _ c.in-Err.is)
