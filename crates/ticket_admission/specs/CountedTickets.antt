-- A ticket in its flat form with its points counted: the model's `admit` but for refusal 9, which is found once there is room for the points.
use Rattle.std.specs.Prelude.{◌≡◌, List, ℕ, ℤ, length, Result, IfOk, IsOkAnd}
use Rattle.model.specs.Answer.{accepted, ◌>>=◌}
use Rattle.model.specs.Points.{iterations}
use Rattle.model.specs.Bounds.{space}
use Rattle.ticket_refusals.specs.declared.Refusal.{Refusal}
use Rattle.ticket_steps.specs.declared.Steps.{Steps}
use Rattle.nest_flat.specs.FlatNests.{FlatNest, flat_nest, nest_of}
use Rattle.ticket_decoding.specs.Ticket.{ticket_of, TicketIn}
use Rattle.ticket_decoding.specs.declared.Decoded.{Decoded}
use Rattle.nest_admission.specs.Admission.{passed}

-- a ticket that passes 1 to 8 in its flat form, and the count of its points
pub record Laid (P : FlatNest) (S : Steps) (n : ℕ) : Type 0 where
  pub ticket : TicketIn P S
  pub space-accepted : space (nest_of P).loops ≡ accepted tt
  pub count : n ≡ length (iterations (nest_of P).loops)

-- 1 to 8 of what was decoded, and the count of its points
pub record Counts (read : Result Decoded Refusal) (l w : List ℤ) (r : Result ℕ Refusal) : Type 0 where
  pub same : passed r ≡ (ticket_of read l w >>= (λ T. space T.nest.loops))
  pub laid : IfOk r (λ n. IsOkAnd read (λ d. Laid (flat_nest d.header l w) d.steps n))
