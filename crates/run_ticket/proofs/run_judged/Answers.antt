-- `run_judged`: 15, then 16, then the run.
use Rattle.run_ticket.proofs.OutcomeLaws.{opaque-found, wrong-length, executed}
use Rattle.run_ticket.proofs.run_judged.Goals as goal

pub returns-in-Some : goal.returns-in-Some
returns-in-Some c = opaque-found _ _ _ _ _ _ c.in-Some.is

pub returns-then-store-elements : goal.returns-then-store-elements
returns-then-store-elements c = wrong-length _ _ _ _ _ (cc) c.if-store-elements.true

pub returns : goal.returns
returns c = executed c.args.elements c.args.count _
    c.args.store.now c.args.opaque (cc) c.if-store-elements.false _ c.execute.ensures
