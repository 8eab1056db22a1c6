-- The set after a step: the vectors that come from marked ones are the model's; and the loops after it.
use mathlib.Core.Path.{◌≡◌, sym, ap, subst}
use mathlib.Core.List.{List}
use Prim.Native.Nat.{ℕ, ◌≤◌}
use native.Mathlib.Omega.{arith}
use lib.IntN.{ℤ, pos, nat_abs}
use lib.ListN.{length}
use Rattle.integers.specs.Sign.{Sign}
use Rattle.lists.specs.Membership.{SameMembers}
use Rattle.model.specs.Ticket.{Step, exchange, reversal, skew, section, circulation}
use Rattle.model.specs.Grammar.{depth_after, most_loops, most_factor}
use Rattle.model.specs.Ranges.{InRange, StepThere}
use Rattle.model.specs.Steps.{vectors_after}
use Rattle.step_preimages.specs.Numbers.{marked}
use Rattle.step_directions.specs.Sets.{vectors_in, vectors_of, After}
use Rattle.step_directions.specs.Preimages.{loops_named, came}
use Rattle.step_directions.specs.declared.DirectionSet.{DirectionSet}
use Rattle.step_directions.proofs.StepLaws.{exchange-after, reversal-after, section-after, circulation-after}
use Rattle.step_directions.proofs.SkewLaws.{skew-after}

-- at most six loops stay at most six
pub few-after : (t : Step) (m : ℕ) → m ≤ most_loops → StepThere m t → depth_after t m ≤ most_loops
unfolding depth_after
few-after (exchange a) m h i = h
few-after (reversal a) m h i = h
few-after (skew a d c) m h i = h
few-after (section a w) m h i = let k = i.1 in omega arith
few-after (circulation a b) m h i = h

-- the loops that a step names are among those after it
pub named-after : (t : Step) (m : ℕ) → StepThere m t → loops_named t ≤ depth_after t m
unfolding depth_after
named-after (exchange a) m i = omega arith
named-after (reversal a) m i = omega arith
named-after (skew a d c) m i = let k = i.0 in omega arith
named-after (section a w) m i = let k = i.0 in omega arith
named-after (circulation a b) m i = let k = i.0 in let l = i.1 in omega arith

not-zero : (c : ℤ) → InRange 1 most_factor (nat_abs c) → c ≡ pos 0 → ⊥
not-zero c i e = let n = ap nat_abs e in let l = i.low in omega arith

module _ (s r : DirectionSet) where
  vectors-after : (t : Step) → StepThere s.depth t
      → ((v : List Sign) → length v ≡ depth_after t s.depth → marked r.marks v ≡ came s.marks t v)
      → SameMembers (vectors_in r.marks (depth_after t s.depth)) (vectors_after t (vectors_of s))
  unfolding depth_after
  vectors-after (exchange a) i e = exchange-after a s.marks r.marks s.depth e
  vectors-after (reversal a) i e = reversal-after a s.marks r.marks s.depth e
  vectors-after (skew a d c) i e = skew-after a d c (not-zero c i.1) s.marks r.marks s.depth i.0 e
  vectors-after (section a w) i e = section-after a w s.marks r.marks s.depth i.0 e
  vectors-after (circulation a b) i e = circulation-after a b s.marks r.marks s.depth e

  pub pulled-after : (t : Step) → StepThere s.depth t → r.depth ≡ depth_after t s.depth
      → ((v : List Sign) → length v ≡ r.depth → marked r.marks v ≡ came s.marks t v) → After t s r
  pulled-after t i d e = record {
    depth = d;
    vectors = subst (λ m. SameMembers (vectors_in r.marks m) (vectors_after t (vectors_of s))) (sym d)
        (vectors-after t i (subst (λ m. (v : List Sign) → length v ≡ m → marked r.marks v ≡ came s.marks t v) d e));
  }
