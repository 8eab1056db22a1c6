-- What the two loops that an exchange makes are made of: a property holds of all their limits exactly if it holds of every part.
use mathlib.Core.Logic.Iff
use mathlib.Core.Logic.{◌↔◌}
use mathlib.Core.List.{List, ◌++◌, map, flat_map}
use Prim.Native.Nat.{ℕ}
use Rattle.lists.specs.Membership.{Mem, All}
use Rattle.lists.proofs.MembershipLaws.{append-iff}
use Rattle.lists.proofs.FlatMapLaws.{flat_map-iff}
use Rattle.model.specs.Ticket.{Limit, Loop}
use Rattle.model.specs.Limits.{outer_coefficient, outer_part, when_positive, when_negative, widened, new_outer, new_inner}

-- ---- what a limit of the old inner loop gives

-- to the new outer loop, on each side
abbrev pub outer_lower : ℕ → Loop → Limit → List Limit
outer_lower a I l = outer_part a I.lower I.upper (outer_coefficient a l) l

abbrev pub outer_upper : ℕ → Loop → Limit → List Limit
outer_upper a I l = outer_part a I.upper I.lower (outer_coefficient a l) l

-- to the new inner loop, where its coefficient is positive, and where it is negative
abbrev pub positive_part : ℕ → Limit → List Limit
positive_part a l = when_positive a (outer_coefficient a l) l

abbrev pub negative_part : ℕ → Limit → List Limit
negative_part a l = when_negative a (outer_coefficient a l) l

-- ---- the new loops

module _ (P : Limit → Type 0) (a : ℕ) (I J : Loop) where
  abbrev pub Each : (Limit → List Limit) → List Limit → Type 0
  Each f ls = (l : Limit) → Mem l ls → All P (f l)

  pub outer-lower : All P (new_outer a I J).lower ↔ Each (outer_lower a I) J.lower
  unfolding new_outer
  outer-lower = flat_map-iff (outer_lower a I) P J.lower

  pub outer-upper : All P (new_outer a I J).upper ↔ Each (outer_upper a I) J.upper
  unfolding new_outer
  outer-upper = flat_map-iff (outer_upper a I) P J.upper

  three : (f g : Limit → List Limit) (ls : List Limit)
      → All P (map widened ls ++ (flat_map f J.lower ++ flat_map g J.upper)) ↔ (All P (map widened ls) × (Each f J.lower × Each g J.upper))
  three f g ls =
      let rest = flat_map f J.lower ++ flat_map g J.upper in
      let both = append-iff P (flat_map f J.lower) (flat_map g J.upper) in
      let each = Iff.and (flat_map-iff f P J.lower) (flat_map-iff g P J.upper) in
      let all = append-iff P (map widened ls) rest in
      (λ h. ((all.0 h).0, each.0 (both.0 (all.0 h).1)), λ h. all.1 (h.0, both.1 (each.1 h.1)))

  pub inner-lower : All P (new_inner a I J).lower ↔ (All P (map widened I.lower)
      × (Each (negative_part a) J.lower × Each (positive_part a) J.upper))
  unfolding new_inner
  inner-lower = three (negative_part a) (positive_part a) I.lower

  pub inner-upper : All P (new_inner a I J).upper ↔ (All P (map widened I.upper)
      × (Each (positive_part a) J.lower × Each (negative_part a) J.upper))
  unfolding new_inner
  inner-upper = three (positive_part a) (negative_part a) I.upper
