-- Exchange: the limits of the two new loops hold exactly where those of the two old ones do; so the points inside the new nest are the old ones
-- with the two indices exchanged. One limit at a time is in `CombineLaws`, all of a loop's in `ExchangePartLaws`.
use mathlib.Core.Path.{◌≡◌, refl, subst}
use mathlib.Core.Logic.Iff
use mathlib.Core.Logic.{◌↔◌}
use mathlib.Core.List.{List, [], ◌∷◌, ◌++◌, map, append_assoc}
use Prim.Native.Nat.{ℕ, suc}
use native.Mathlib.Omega.{arith}
use lib.IntN.{ℤ}
use lib.ListN.{length}
use Rattle.lists.specs.Membership.{Mem, All}
use Rattle.lists.specs.Place.{under, swapped}
use Rattle.lists.proofs.MembershipLaws.{all_map}
use Rattle.model.specs.Ticket.{Limit, Loop}
use Rattle.model.specs.Inside.{AtLeast, AtMost, InLimits, Inside}
use Rattle.model.specs.Limits.{outer_coefficient, widened, new_outer, new_inner, deeper, exchange_at}
use Rattle.model.specs.Shape.{Sized, Shaped}
use Rattle.model.proofs.Steps.SubscriptLaws.{dot-swapped}
use Rattle.model.proofs.Steps.InsideLaws.{same-least, same-most, deep-at, under-inside}
use Rattle.model.proofs.Steps.DeduplicatedLaws.{deduplicated-limits}
use Rattle.model.proofs.Steps.ExchangePartLaws.{positive_part, negative_part, outer-lower, outer-upper, inner-lower, inner-upper}
use Rattle.model.proofs.Steps.CombineLaws.{Lower, Upper, value-widened, lower-is, upper_is, lower-outer, upper-outer, lower-inner, upper-inner, lower-back, upper-back}

-- ---- the two loops

module _ (a : ℕ) (outer : List ℤ) (len : length outer ≡ a) (I J : Loop) (sl : Sized a I.lower) (su : Sized a I.upper)
    (tl : Sized (suc a) J.lower) (tu : Sized (suc a) J.upper) (i j : ℤ) where
  abbrev inner : List ℤ
  inner = outer ++ (j ∷ [])

  widened-multiplier : (m : Limit) → (widened m).multiplier ≡ m.multiplier
  unfolding widened
  widened-multiplier m = refl

  keep-lower : All (AtLeast outer i) I.lower ↔ All (AtLeast inner i) (map widened I.lower)
  keep-lower = all_map widened (AtLeast outer i) (AtLeast inner i) I.lower (λ m e. same-least outer inner i m (widened m) (widened-multiplier m)
      (value-widened a outer len m j (sl m e)))

  keep-upper : All (AtMost outer i) I.upper ↔ All (AtMost inner i) (map widened I.upper)
  keep-upper = all_map widened (AtMost outer i) (AtMost inner i) I.upper (λ m e. same-most outer inner i m (widened m) (widened-multiplier m)
      (value-widened a outer len m j (su m e)))

  exchange-to : InLimits I outer i → InLimits J (outer ++ (i ∷ [])) j → InLimits (new_outer a I J) outer j × InLimits (new_inner a I J) inner i
  exchange-to g h = (
    record {
      low = (outer-lower (AtLeast outer j) a I J).1 (λ l m. lower-outer a outer len i j l (tl l m) I g sl su (outer_coefficient a l) (low l m));
      high = (outer-upper (AtMost outer j) a I J).1 (λ l m. upper-outer a outer len i j l (tu l m) I g sl su (outer_coefficient a l) (high l m));
    },
    record {
      low = (inner-lower (AtLeast inner i) a I J).1 (keep-lower.0 g.low, (λ l m. (low-inner l m).0, λ l m. (high-inner l m).0));
      high = (inner-upper (AtMost inner i) a I J).1 (keep-upper.0 g.high, (λ l m. (low-inner l m).1, λ l m. (high-inner l m).1));
    },
  )
    where
      low : (l : Limit) (m : Mem l J.lower) → Lower a outer len i j l (tl l m) (outer_coefficient a l)
      low l m = (lower-is a outer len i j l (tl l m)).0 (h.low l m)

      high : (l : Limit) (m : Mem l J.upper) → Upper a outer len i j l (tu l m) (outer_coefficient a l)
      high l m = (upper_is a outer len i j l (tu l m)).0 (h.high l m)

      low-inner : (l : Limit) → Mem l J.lower → All (AtLeast inner i) (negative_part a l) × All (AtMost inner i) (positive_part a l)
      low-inner l m = lower-inner a outer len i j l (tl l m) (outer_coefficient a l) (low l m)

      high-inner : (l : Limit) → Mem l J.upper → All (AtLeast inner i) (positive_part a l) × All (AtMost inner i) (negative_part a l)
      high-inner l m = upper-inner a outer len i j l (tu l m) (outer_coefficient a l) (high l m)

  exchange-from : InLimits (new_outer a I J) outer j → InLimits (new_inner a I J) inner i → InLimits I outer i × InLimits J (outer ++ (i ∷ [])) j
  exchange-from g h =
      let first = (outer-lower (AtLeast outer j) a I J).0 g.low in
      let last = (outer-upper (AtMost outer j) a I J).0 g.high in
      let low = (inner-lower (AtLeast inner i) a I J).0 h.low in
      let high = (inner-upper (AtMost inner i) a I J).0 h.high in (
        record { low = keep-lower.1 low.0; high = keep-upper.1 high.0 },
        record {
          low = λ l m. (lower-is a outer len i j l (tl l m)).1 (lower-back a outer len i j l (tl l m) I.lower I.upper (outer_coefficient a l)
              (first l m) (low.1.0 l m) (high.1.0 l m));
          high = λ l m. (upper_is a outer len i j l (tu l m)).1 (upper-back a outer len i j l (tu l m) I.upper I.lower (outer_coefficient a l)
              (last l m) (low.1.1 l m) (high.1.1 l m));
        },
      )

-- ---- in the nest

exchange-at : (a : ℕ) (outer y : List ℤ) (N : List Loop) → length outer ≡ a → Shaped a N
    → Inside N outer y ↔ Inside (exchange_at a N) outer (swapped y)
unfolding exchange_at swapped
exchange-at a outer [] [] e s = Iff.rfl
exchange-at a outer (i ∷ []) [] e s = Iff.rfl
exchange-at a outer (i ∷ j ∷ y) [] e s = Iff.rfl
exchange-at a outer [] (I ∷ []) e s = Iff.rfl
exchange-at a outer (i ∷ []) (I ∷ []) e s = Iff.rfl
exchange-at a outer (i ∷ j ∷ y) (I ∷ []) e s = (λ o. absurd o.1, λ o. absurd o.1)
exchange-at a outer [] (I ∷ J ∷ N) e s = Iff.rfl
exchange-at a outer (i ∷ []) (I ∷ J ∷ N) e s = (λ o. absurd o.1, λ o. absurd o.1)
exchange-at a outer (i ∷ j ∷ y) (I ∷ J ∷ N) e s =
    let d = deep-at swapped (i ∷ j ∷ []) (j ∷ i ∷ []) (λ z ds. dot-swapped ds (i ∷ j ∷ z)) a outer y N e
    (subst (λ k. Shaped k N) (omega arith) s.1.1) in
    let d' : Inside N (outer ++ (i ∷ []) ++ (j ∷ [])) y ↔ Inside (deeper (under a swapped) N) (outer ++ (j ∷ []) ++ (i ∷ [])) y = rw
    (append_assoc outer (i ∷ []) (j ∷ []), append_assoc outer (j ∷ []) (i ∷ [])) d in
    let t = deduplicated-limits (new_outer a I J) outer j in
    let u = deduplicated-limits (new_inner a I J) (outer ++ (j ∷ [])) i in (
      λ o. let r = exchange-to a outer e I J s.0.0 s.0.1 s.1.0.0 s.1.0.1 i j o.0 o.1.0
          in (t.0 r.0, (u.0 r.1, d'.0 o.1.1)),
      λ o. let r = exchange-from a outer e I J s.0.0 s.0.1 s.1.0.0 s.1.0.1 i j (t.1 o.0) (u.1 o.1.0)
          in (r.0, (r.1, d'.1 o.1.1)),
    )

pub exchange-inside : (a : ℕ) (y : List ℤ) (N : List Loop) → Shaped 0 N → Inside N [] y ↔ Inside (under a (exchange_at a) N) [] (under a swapped y)
exchange-inside a y N s = under-inside swapped (exchange_at a) a (exchange-at a) y N s
