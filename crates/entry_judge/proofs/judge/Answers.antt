-- `judge`: the ticket is read, then judged.
use Rattle.ticket_decoding.proofs.DecodeLaws.{zeros-lent}
use Rattle.ticket_judgement.proofs.VerdictLaws.{of-bytes}
use Rattle.entry_judge.proofs.EntryLaws.{judge-refused, judge-accepted}
use Rattle.entry_answers.proofs.AnswerLaws.{said}
use Rattle.entry_answers.proofs.DemandLaws.{judge-keeps}
use Rattle.entry_judge.proofs.judge.Goals as goal

pub decode-read-requires : goal.decode-read-requires
decode-read-requires c = zeros-lent

pub decide-requires : goal.decide-requires
decide-requires c = c.decode-read.ensures.within

pub returns-in_err-decided : goal.returns-in_err-decided
returns-in_err-decided c = let d = c.decode-read in judge-keeps _ _ (said _ _ c.from_residual.ensures.1
    (judge-refused _ _ _ _ (of-bytes _ d.result _ _ d.ensures _ _ _ c.in_err-decided.ensures)))

pub returns : goal.returns
returns c = let d = c.decode-read in judge-keeps _ _ (judge-accepted _ _ _ _
    (of-bytes _ d.result _ _ d.ensures _ _ _ c.in_ok-decided.ensures))
