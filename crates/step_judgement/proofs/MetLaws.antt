-- Every ticket that is read meets `JudgeIn`, with a set of marks that stands for its directions.
use mathlib.Core.Path.{◌≡◌, refl, sym, ◌∙◌, ap, subst}
use mathlib.Core.Bool.{Bool, true, false}
use mathlib.Core.List.Memᴰ
use mathlib.Core.List.{List, [], ◌∷◌}
use mathlib.Core.Logic.{⊎_elim}
use Prim.Native.Nat.{ℕ, suc, ◌≤◌}
use native.Mathlib.Omega.{arith}
use lib.IntN.{ℤ}
use lib.ListN.{length, set, replicate, length-replicate, length-set}
use Rattle.integers.specs.Sign.{Sign}
use Rattle.lists.specs.Membership.{All, SameMembers}
use Rattle.lists.proofs.MembershipLaws.{members-refl, members-trans}
use Rattle.lists.proofs.OrderLaws.{precedes-mem}
use Rattle.model.specs.Ticket as Model
use Rattle.model.specs.Points.{iterations}
use Rattle.model.specs.Machine.{accesses, order}
use Rattle.model.specs.Directions.{signs, vector_count}
use Rattle.model.specs.Judge.{directions_of}
use Rattle.model.proofs.Machine.DirectionLaws.{mem-directions}
use Rattle.model.proofs.Machine.InstanceLaws.{instances-mem}
use Rattle.model.proofs.Points.PointLaws.{iterations-length}
use Rattle.model.proofs.Promise.TradeLaws.{pair-lengths}
use Rattle.ticket_steps.specs.declared.Steps.{Steps}
use Rattle.nest_flat.specs.FlatNests.{FlatNest, nest_of}
use Rattle.nest_points.proofs.NestLaws.{depth_is}
use Rattle.ticket_decoding.specs.Ticket.{TicketIn}
use Rattle.dependence_vectors.specs.Numbers.{number}
use Rattle.step_directions.specs.Sets.{vectors_in}
use Rattle.step_directions.specs.declared.DirectionSet.{DirectionSet}
use Rattle.step_preimages.proofs.NumberLaws.{number-below}
use Rattle.step_directions.proofs.SetLaws.{no-vectors, added-vector}
use Rattle.step_judgement.specs.Judgement.{JudgeIn}

-- ---- the directions of a nest have a sign for each loop

signs-length : (p q : List ℤ) → length p ≡ length q → length (signs p q) ≡ length p
unfolding signs
signs-length [] q e = refl
signs-length (x ∷ p) [] e = absurd (omega arith)
signs-length (x ∷ p) (y ∷ q) e = ap suc (signs-length p q (omega arith))

directions-length : (N : Model.Nest) → All (λ v. length v ≡ length N.loops) (directions_of N)
unfolding directions_of
directions-length N v m =
    let d = mem-directions (accesses N.statements) (order N) v m in
    let i = instances-mem (length N.statements) (iterations N.loops) d.0 (precedes-mem (order N) d.0 d.1 d.2).0 in
    ap length d.4 ∙ signs-length d.0.iteration d.1.iteration (pair-lengths N d.0 d.1 d.2)
    ∙ iterations-length N.loops d.0.iteration i.1

-- ---- marks for them

record Marks (d : ℕ) (vs : List (List Sign)) : Type 0 where
  marks : List Bool
  room : length marks ≡ vector_count
  stand : SameMembers (vectors_in marks d) vs

marks-of : (d : ℕ) → d ≤ 6 → (vs : List (List Sign)) → All (λ v. length v ≡ d) vs → Marks d vs
marks-of d f [] a = record {
  marks = replicate vector_count false;
  room = length-replicate vector_count false;
  stand = subst (λ l. SameMembers l [])
      (sym (no-vectors d)) (members-refl []);
}
marks-of d f (v ∷ vs) a =
    let m = marks-of d f vs (λ u i. a u (Memᴰ.tail i)) in
    let r = m.room in
    let b = number-below v in
    record {
      marks = set m.marks (number v) true;
      room = length-set m.marks (number v) true ∙ r;
      stand = members-trans (added-vector m.marks d (number v) f (omega arith) v (a v (Memᴰ.head refl)) refl) (one_more m.stand);
    }
  where
    one_more : {l k : List (List Sign)} → SameMembers l k → SameMembers (v ∷ l) (v ∷ k)
    one_more s = record {
      into = λ u i. ⊎_elim Memᴰ.head (λ j. Memᴰ.tail (s.into u j)) (Memᴰ.cases_cons i);
      from = λ u i. ⊎_elim Memᴰ.head (λ j. Memᴰ.tail (s.from u j)) (Memᴰ.cases_cons i);
    }

-- ---- a ticket that was read

pub ticket-met : (P : FlatNest) (S : Steps) → TicketIn P S → (s : DirectionSet) × JudgeIn P S s
ticket-met P S h =
    let m = marks-of P.depth h.flat-nest.nest.shallow (directions_of (nest_of P)) (λ v i. directions-length (nest_of P) v i ∙ depth_is P) in (
      record { marks = m.marks; depth = P.depth },
      record { flat-nest = h.flat-nest; steps = h.steps; ranges = h.ranges; formed = h.formed; level = refl; vectors = m.stand },
    )
