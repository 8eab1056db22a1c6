-- `print_answer`: the count of the answer.
use mathlib.Core.Path.{sym, ap}
use Rattle.model.specs.Answer.{count_in}
use Prim.Native.Nat.{ℕ}
use Rattle.std.specs.Prelude.{Result}
use Rattle.ticket_refusals.specs.declared.Refusal.{Refusal}
use Rattle.ticket_refusals.specs.Refusals.{answer_of}
use Rattle.test_entries.proofs.print_answer.Goals as goal

pub returns-in-Ok : goal.returns-in-Ok
unfolding count_in
returns-in-Ok c = sym (ap (λ (x : Result ℕ Refusal). count_in (answer_of x)) c.in-Ok.is)

pub returns-in-Err : goal.returns-in-Err
unfolding count_in
returns-in-Err c = sym (ap (λ (x : Result ℕ Refusal). count_in (answer_of x)) c.in-Err.is)
