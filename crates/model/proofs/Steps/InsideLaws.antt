-- What a change of a nest keeps of the points inside, for any step: one loop by its limits; a change that begins at a place, where nothing
-- outside it changes; the loops inside a step, which see the same values.
use mathlib.Core.Path.{◌≡◌, refl, ap, subst}
use mathlib.Core.Logic.Iff
use mathlib.Core.Logic.{◌↔◌}
use mathlib.Core.List.{List, [], ◌∷◌, ◌++◌, append_assoc, append-nil}
use Prim.Native.Nat.{ℕ, zero, suc, ◌+◌}
use native.Mathlib.Omega.{arith}
use lib.IntN.{ℤ, ◌+ℤ◌, ◌*ℤ◌}
use lib.ListN.{length, length-append}
use Rattle.lists.specs.Membership.{All}
use Rattle.lists.specs.Place.{under}
use Rattle.lists.proofs.MembershipLaws.{all_map}
use Rattle.integers.specs.Affine.{dot, affine}
use Rattle.model.specs.Ticket.{Limit, Loop}
use Rattle.model.specs.Points.{value}
use Rattle.model.specs.Inside.{AtLeast, AtMost, InLimits, Inside}
use Rattle.model.specs.Limits.{on_coefficients, on_limits, deeper}
use Rattle.model.specs.Shape.{Sized, Shaped}

-- ---- one loop

pub limits-iff : {L K : Loop} {outer outer' : List ℤ} {i j : ℤ} → (All (AtLeast outer i) L.lower ↔ All (AtLeast outer' j) K.lower)
    → (All (AtMost outer i) L.upper ↔ All (AtMost outer' j) K.upper) → InLimits L outer i ↔ InLimits K outer' j
limits-iff a b = (λ o. record { low = a.0 o.low; high = b.0 o.high }, λ o. record { low = a.1 o.low; high = b.1 o.high })

-- the multiplier and the value decide
module _ (outer outer' : List ℤ) (i : ℤ) (l k : Limit) (e : k.multiplier ≡ l.multiplier) (v : value k outer' ≡ value l outer) where
  pub same-least : AtLeast outer i l ↔ AtLeast outer' i k
  same-least = rw (v, e) Iff.rfl

  pub same-most : AtMost outer i l ↔ AtMost outer' i k
  same-most = rw (v, e) Iff.rfl

-- ---- a change that begins at a place: n loops after those at base and z are left alone

pub under-inside-from : (f : List ℤ → List ℤ) (G : List Loop → List Loop) (base : List ℤ) (d : ℕ)
    → ((z y : List ℤ) (N : List Loop) → length z ≡ d → Shaped (length base + d) N → Inside N (base ++ z) y ↔ Inside (G N) (base ++ z) (f y))
    → (n : ℕ) (z y : List ℤ) (N : List Loop) → length z + n ≡ d → Shaped (length base + length z) N
    → Inside N (base ++ z) y ↔ Inside (under n G N) (base ++ z) (under n f y)
unfolding under
under-inside-from f G base d h zero z y N e s = h z y N (omega arith) (subst (λ k. Shaped k N) (omega arith) s)
under-inside-from f G base d h (suc n) z [] [] e s = Iff.rfl
under-inside-from f G base d h (suc n) z [] (L ∷ N) e s = Iff.rfl
under-inside-from f G base d h (suc n) z (i ∷ y) [] e s = Iff.rfl
under-inside-from f G base d h (suc n) z (i ∷ y) (L ∷ N) e s =
    let len : length (z ++ (i ∷ [])) ≡ suc (length z) = simp length-append (omega arith) in
    Iff.and Iff.rfl (rw (append_assoc base z (i ∷ [])) (under-inside-from f G base d h n (z ++ (i ∷ [])) y N (omega arith)
    (subst (λ k. Shaped k N) (omega arith) s.1)))

pub under-inside : (f : List ℤ → List ℤ) (G : List Loop → List Loop) (a : ℕ)
    → ((outer y : List ℤ) (N : List Loop) → length outer ≡ a → Shaped a N → Inside N outer y ↔ Inside (G N) outer (f y))
    → (y : List ℤ) (N : List Loop) → Shaped 0 N → Inside N [] y ↔ Inside (under a G N) [] (under a f y)
under-inside f G a h y N s = under-inside-from f G [] a (λ z y N e s. h z y N e (subst (λ k. Shaped k N) (omega arith) s)) a [] y N (omega arith) s

-- ---- the loops inside a step

module _ (g : List ℤ → List ℤ) where
  deep-multiplier : (l : Limit) → (on_coefficients g l).multiplier ≡ l.multiplier
  unfolding on_coefficients
  deep-multiplier l = refl

  deep-value : (outer outer' : List ℤ) (l : Limit) → dot (g l.coefficients) outer' ≡ dot l.coefficients outer
      → value (on_coefficients g l) outer' ≡ value l outer
  unfolding on_coefficients value affine
  deep-value outer outer' l e = ap (λ d. l.constant +ℤ d) e

  deep-limits : (outer outer' : List ℤ) (n : ℕ) → ((cs : List ℤ) → length cs ≡ n → dot (g cs) outer' ≡ dot cs outer)
      → (L : Loop) (i : ℤ) → Sized n L.lower → Sized n L.upper → InLimits L outer i ↔ InLimits (on_limits (on_coefficients g) L) outer' i
  unfolding on_limits
  deep-limits outer outer' n h L i s t = limits-iff
      (all_map (on_coefficients g) (AtLeast outer i) (AtLeast outer' i) L.lower
      (λ l m. same-least outer outer' i l (on_coefficients g l) (deep-multiplier l) (deep-value outer outer' l (h l.coefficients (s l m)))))
      (all_map (on_coefficients g) (AtMost outer i) (AtMost outer' i) L.upper (λ l m. same-most outer outer' i l (on_coefficients g l)
      (deep-multiplier l) (deep-value outer outer' l (h l.coefficients (t l m)))))

  deep-inside : (outer outer' : List ℤ) → ((z cs : List ℤ) → length cs ≡ length (outer ++ z) → dot (g cs) (outer' ++ z) ≡ dot cs (outer ++ z))
      → (z y : List ℤ) (N : List Loop) → Shaped (length (outer ++ z)) N → Inside N (outer ++ z) y ↔ Inside (deeper g N) (outer' ++ z) y
  unfolding deeper
  deep-inside outer outer' h z [] [] s = Iff.rfl
  deep-inside outer outer' h z (i ∷ y) [] s = Iff.rfl
  deep-inside outer outer' h z [] (L ∷ N) s = Iff.rfl
  deep-inside outer outer' h z (i ∷ y) (L ∷ N) s =
      let len : suc (length (outer ++ z)) ≡ length (outer ++ (z ++ (i ∷ []))) = simp length-append (omega arith) in
      Iff.and (deep-limits (outer ++ z) (outer' ++ z) (length (outer ++ z)) (h z) L i s.0.0 s.0.1)
      (rw (append_assoc outer z (i ∷ []), append_assoc outer' z (i ∷ [])) (deep-inside outer outer' h (z ++ (i ∷ [])) y N
      (subst (λ k. Shaped k N) len s.1)))

-- a change of the coefficients from a place on, against one of the indices from there on
dot-from : (g : List ℤ → List ℤ) (u u' : List ℤ) → ((ds : List ℤ) → length ds ≡ length u → dot (g ds) u' ≡ dot ds u)
    → (outer cs : List ℤ) → length cs ≡ length outer + length u → dot (under (length outer) g cs) (outer ++ u') ≡ dot cs (outer ++ u)
unfolding under dot
dot-from g u u' h [] cs e = h cs (omega arith)
dot-from g u u' h (x ∷ outer) [] e = absurd (omega arith)
dot-from g u u' h (x ∷ outer) (c ∷ cs) e = ap (λ d. c *ℤ x +ℤ d) (dot-from g u u' h outer cs (omega arith))

-- u are the indices that the step takes, u' those that it gives
pub deep-at : (g : List ℤ → List ℤ) (u u' : List ℤ) → ((z ds : List ℤ) → length ds ≡ length (u ++ z) → dot (g ds) (u' ++ z) ≡ dot ds (u ++ z))
    → (a : ℕ) (outer y : List ℤ) (N : List Loop) → length outer ≡ a → Shaped (a + length u) N
    → Inside N (outer ++ u) y ↔ Inside (deeper (under a g) N) (outer ++ u') y
deep-at g u u' h a outer y N e s =
    let len : a + length u ≡ length (outer ++ u ++ []) = simp length-append (omega (arith, e)) in
    rw (append-nil (outer ++ u), append-nil (outer ++ u')) at (deep-inside (under a g) (outer ++ u) (outer ++ u')
    (λ z cs c. rw (append_assoc outer u z, append_assoc outer u' z, ← e) (dot-from g (u ++ z) (u' ++ z) (h z) outer cs
    (simp length-append (let k = simp length-append at c in omega arith))))
    [] y N (subst (λ k. Shaped k N) len s))
