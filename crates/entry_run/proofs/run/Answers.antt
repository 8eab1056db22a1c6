-- `run`: the ticket is read and judged, then its new nest is run.
use Rattle.ticket_decoding.proofs.DecodeLaws.{zeros-lent}
use Rattle.ticket_judgement.proofs.VerdictLaws.{of-bytes}
use Rattle.entry_run.proofs.EntryLaws.{run-refused, run_in, ran_out}
use Rattle.entry_answers.proofs.AnswerLaws.{outcome-on}
use Rattle.entry_answers.proofs.DemandLaws.{run-keeps}
use Rattle.entry_run.proofs.run.Goals as goal

pub decode-read-requires : goal.decode-read-requires
decode-read-requires c = zeros-lent

pub decide-requires : goal.decide-requires
decide-requires c = c.decode-read.ensures.within

pub returns-in_err-decided : goal.returns-in_err-decided
returns-in_err-decided c = let d = c.decode-read in run-keeps _ _ _ _ (outcome-on _ _ c.from_residual.ensures.1
    (run-refused _ c.args.store.now _ _ _ (of-bytes _ d.result _ _ d.ensures _ _ _ c.in_err-decided.ensures)))

pub run_judged-requires : goal.run_judged-requires
run_judged-requires c = let d = c.decode-read in run_in _ c.args.store.now _ _ _
    (of-bytes _ d.result _ _ d.ensures _ _ _ c.in_ok-decided.ensures)

pub returns : goal.returns
returns c = let d = c.decode-read in let g = c.run_judged in run-keeps _ _ _ _ (ran_out _ c.args.store.now _ _ _
    (of-bytes _ d.result _ _ d.ensures _ _ _ c.in_ok-decided.ensures) g.result _ g.ensures)
