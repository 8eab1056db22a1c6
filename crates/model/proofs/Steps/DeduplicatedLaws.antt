-- Dropping a limit that is equal to an earlier one changes nothing that holds of all limits, and leaves every limit once; so the two loops that an
-- exchange makes have no limit twice.
use mathlib.Core.Path.{◌≡◌}
use mathlib.Core.Bool.{◌&&◌}
use mathlib.Core.Logic.{◌↔◌}
use mathlib.Core.List.{List, ◌∷◌}
use Prim.Native.Nat.{ℕ}
use lib.Dec.{T, eqb, eqb→eq, eqb_refl}
use lib.IntN.{ℤ}
use lib.ListN.{get_or}
use Rattle.lists.specs.Membership.{All, Distinct, SameMembers}
use Rattle.lists.specs.Tests.{Decides, same_by, unique}
use Rattle.lists.proofs.MembershipLaws.{members-all, members-sym}
use Rattle.lists.proofs.TestLaws.{and_both, and_intro, same-decides, unique-members, unique-distinct}
use Rattle.integers.specs.Sign.{eq_z}
use Rattle.integers.proofs.SignLaws.{eq_z-decides}
use Rattle.model.specs.Ticket.{Limit, Loop}
use Rattle.model.specs.Inside.{AtLeast, AtMost, InLimits}
use Rattle.model.specs.Limits.{same_limit, deduplicated, new_outer, new_inner, exchange_at}
use Rattle.model.proofs.Steps.InsideLaws.{limits-iff}

-- ---- what holds of all limits

pub same_limit-decides : Decides same_limit
same_limit-decides = record { equal = equal-when; itself = passes }
  where
    numbers : Decides (same_by eq_z)
    numbers = same-decides eq_z eq_z-decides

    equal-when : (l m : Limit) → T (same_limit l m) → l ≡ m
    equal-when l m h = unfold same_limit in
        let a = and_both (eqb l.multiplier m.multiplier) (eq_z l.constant m.constant && same_by eq_z l.coefficients m.coefficients) h
        in
        let b = and_both (eq_z l.constant m.constant) (same_by eq_z l.coefficients m.coefficients) a.1 in
        λ i. record {
          multiplier = eqb→eq l.multiplier m.multiplier a.0 i;
          constant = eq_z-decides.equal l.constant m.constant b.0 i;
          coefficients = numbers.equal l.coefficients m.coefficients b.1 i;
        }

    passes : (l : Limit) → T (same_limit l l)
    passes l = unfold same_limit in
        and_intro (eqb l.multiplier l.multiplier) (eq_z l.constant l.constant && same_by eq_z l.coefficients l.coefficients)
        (eqb_refl l.multiplier)
        (and_intro (eq_z l.constant l.constant) (same_by eq_z l.coefficients l.coefficients) (eq_z-decides.itself l.constant)
        (numbers.itself l.coefficients))

pub all-unique : (P : Limit → Type 0) (ls : List Limit) → All P ls ↔ All P (unique same_limit ls)
all-unique P ls = let s = unique-members same_limit same_limit-decides ls in (members-all P (members-sym s), members-all P s)

pub deduplicated-limits : (L : Loop) (outer : List ℤ) (i : ℤ) → InLimits L outer i ↔ InLimits (deduplicated L) outer i
unfolding deduplicated
deduplicated-limits L outer i = limits-iff (all-unique (AtLeast outer i) L.lower) (all-unique (AtMost outer i) L.upper)

-- ---- every limit once

-- M has the limits of L, and none twice on a side
pub record Tidied (L M : Loop) : Type 0 where
  pub once-lower : Distinct M.lower
  pub once-upper : Distinct M.upper
  pub same-lower : SameMembers M.lower L.lower
  pub same-upper : SameMembers M.upper L.upper

pub deduplicated-drops : (L : Loop) → Tidied L (deduplicated L)
unfolding deduplicated
deduplicated-drops L = record {
  once-lower = unique-distinct same_limit same_limit-decides L.lower;
  once-upper = unique-distinct same_limit same_limit-decides L.upper;
  same-lower = unique-members same_limit same_limit-decides L.lower;
  same-upper = unique-members same_limit same_limit-decides L.upper;
}

-- the first two loops after an exchange of them
pub exchange-drops : (a : ℕ) (I J : Loop) (N : List Loop) (d : Loop)
    → Tidied (new_outer a I J) (get_or (exchange_at a (I ∷ J ∷ N)) 0 d) × Tidied (new_inner a I J) (get_or (exchange_at a (I ∷ J ∷ N)) 1 d)
unfolding exchange_at
exchange-drops a I J N d = (deduplicated-drops (new_outer a I J), deduplicated-drops (new_inner a I J))
