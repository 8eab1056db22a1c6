-- For callers: the steps of a ticket that was read can be taken from its nest on, all of them, and lead to as many loops as the new nest has.
use mathlib.Core.Path.{◌≡◌, sym, ◌∙◌, ap, subst}
use mathlib.Core.List.{List, [], ◌∷◌}
use Prim.Native.Nat.{ℕ, ◌*◌, ◌≤◌}
use native.Mathlib.Omega.{arith}
use lib.IntN.{ℤ, pos}
use lib.ListN.{length, take, replicate, length-replicate}
use lib.Seq.{take-length}
use Rattle.model.specs.Ticket.{Step, Nest}
use Rattle.model.specs.Grammar.{most_loops}
use Rattle.model.specs.Ranges.{StepsThere}
use Rattle.model.specs.Steps.{forward, forward_all}
use Rattle.model.specs.Limits.{nest_after, nest_after_all}
use Rattle.model.proofs.Steps.LengthLaws.{loops-length}
use Rattle.nest_flat.specs.FlatNests.{FlatNest}
use Rattle.nest_points.specs.Nests.{PointsAre}
use Rattle.nest_points.proofs.NestLaws.{depth_is}
use Rattle.ticket_steps.specs.Steps.{steps_of, StepsIn}
use Rattle.ticket_steps.specs.declared.Steps.{Steps}
use Rattle.ticket_decoding.specs.Ticket.{ticket_on, TicketIn}
use Rattle.step_points.specs.Points.{StepsTaken, DepthAfter, PointsIn}
use Rattle.step_points.proofs.StepsLaws.{steps-length}

-- ---- what is asked

module _ {P : FlatNest} {S : Steps} (h : TicketIn P S) (done : ℕ) (few : done ≤ S.count) where
  pub ticket-moves : StepsTaken S P.depth done
  unfolding ticket_on
  ticket-moves = let s = h.shallow in record {
    steps = h.steps;
    few = few;
    shallow = omega arith;
    there = subst (λ n. StepsThere n (steps_of S)) (depth_is P) h.ranges.steps;
  }

  -- the points that were listed
  pub points-move : {points : List ℤ} {n : ℕ} → PointsAre P points n → (room : ℕ) → n * most_loops ≤ room → PointsIn points P.depth n S done room
  points-move p room g = record { stored = p.stored; taken = ticket-moves; fits = g }

pub all-steps : {S : Steps} → StepsIn S → take S.count (steps_of S) ≡ steps_of S
all-steps {S} j = ap (λ n. take n (steps_of S)) (sym (steps-length j)) ∙ take-length (steps_of S)

-- ---- the depth afterwards

loops-forward : (ts : List Step) (N : Nest) (p : List ℤ) → length N.loops ≡ length p
    → length (nest_after_all ts N).loops ≡ length (forward_all ts p)
unfolding nest_after_all nest_after forward_all
loops-forward [] N p e = e
loops-forward (t ∷ ts) N p e = loops-forward ts (nest_after t N) (forward t p) (loops-length t N.loops p e)

pub nest-depth : {S : Steps} {depth done r : ℕ} → DepthAfter S depth done r → (N : Nest) → length N.loops ≡ depth
    → length (nest_after_all (take done (steps_of S)) N).loops ≡ r
nest-depth {S} {depth} {done} f N e =
    let p : List ℤ = replicate depth (pos 0) in
    let l : length p ≡ depth = length-replicate depth (pos 0) in
    loops-forward (take done (steps_of S)) N p (e ∙ sym l) ∙ f.level p l
