-- Tallies: a count that stops above what is allowed; a tally of one list of points after another; what one loop adds, by the ends of its range.
use mathlib.Core.Path.{◌≡◌, refl, sym, ◌∙◌, ap, ap₂, subst}
use mathlib.Core.Bool.{Bool, true, false, ◌||◌, or_assoc, or-false}
use mathlib.Core.List.{List, [], ◌∷◌, ◌++◌, map}
use Prim.Native.Nat.{ℕ, suc, ◌+◌, ◌≤◌, ◌<◌, min}
use native.Mathlib.Omega.{arith}
use native.Mathlib.Nat.{add_assoc, add-zero}
use borrow.Author.Tests.{lt-ltb, le-ltb, ltb-true, ltb-false}
use lib.Dec.{ltb}
use lib.IntN.{ℤ, pos, neg_ℤ, ◌-ℤ◌, +ℤ_idl}
use lib.Signed.{lt_z}
use lib.ListN.{length, length-append, length-map}
use mir.Syntax.{w64}
use mir.Val.{SFits, to_z, of_z}
use Rattle.lists.specs.Tests.{any}
use Rattle.lists.proofs.TestLaws.{any-join, cond_cases}
use Rattle.integers.proofs.RangeLaws.{back, from-nat, size_fits, size-sub}
use Rattle.model.specs.Ticket.{Loop}
use Rattle.model.specs.Points.{span, ints}
use Rattle.model.specs.Bounds.{last_of, beyond}
use Rattle.nest_points.specs.declared.Tally.{Tally}
use Rattle.nest_index_range.specs.Ranges.{Narrow, Ranged}
use Rattle.nest_points.specs.Tallies.{through, capped, outside, seen}
use Rattle.nest_index_range.proofs.LimitLaws.{copied}
use Rattle.nest_points.proofs.ThroughLaws.{through-one, indices-are, length-ints}
use Rattle.nest_points.proofs.EndLaws.{ends-decide}

-- ---- counts

pub capped-above : (most n : ℕ) → most < n → capped most n ≡ suc most
unfolding capped
capped-above most n h = rw (lt-ltb most n h)

pub capped-below : (most n : ℕ) → n ≤ most → capped most n ≡ n
unfolding capped
capped-below most n h = rw (le-ltb most n h)

pub min-capped : (most n : ℕ) → min n (most + 1) ≡ capped most n
unfolding capped
min-capped most n = cond_cases (λ (k : ℕ). min n (most + 1) ≡ k) (ltb most n) (suc most) n (λ e. let h = ltb-true most n e in omega arith)
    (λ e. let h = ltb-false most n e in omega arith)

pub capped_le : (most n : ℕ) → capped most n ≤ suc most
unfolding capped
capped_le most n = cond_cases (λ (k : ℕ). k ≤ suc most) (ltb most n) (suc most) n (λ _. omega arith) (λ e. let h = ltb-false most n e in omega arith)

-- what is capped already
pub capped_same : (most n : ℕ) → n ≤ suc most → capped most n ≡ n
unfolding capped
capped_same most n h = cond_cases (λ (k : ℕ). k ≡ n) (ltb most n) (suc most) n (λ e. let g = ltb-true most n e in omega arith) (λ e. refl)

above_same : (most m n : ℕ) → most < m → most < n → capped most m ≡ capped most n
above_same most m n h g = capped-above most m h ∙ sym (capped-above most n g)

pub capped-add : (most m n : ℕ) → capped most (capped most m + n) ≡ capped most (m + n)
unfolding capped
capped-add most m n = cond_cases (λ (k : ℕ). capped most (k + n) ≡ capped most (m + n)) (ltb most m) (suc most) m
    (λ e. let h = ltb-true most m e in above_same most (suc most + n) (m + n) (omega arith) (omega arith)) (λ e. refl)

-- the test that a survey makes
pub capped-test : (most n : ℕ) → ltb most (capped most n) ≡ ltb most n
unfolding capped
capped-test most n = cond_cases (λ (k : ℕ). ltb most k ≡ ltb most n) (ltb most n) (suc most) n (λ e. lt-ltb most (suc most) (omega arith) ∙ sym e)
    (λ e. refl)

-- ---- the ends of a range

module _ (bound : ℕ) (lo hi : ℤ) (p : (bound ≤ 100000) × Narrow lo × Narrow hi) where
  bound-is : to_z w64 bound ≡ pos bound
  bound-is = from-nat (omega arith)

  pub bound-negated : SFits w64 (pos 0 -ℤ to_z w64 bound)
  bound-negated = rw bound-is (size_fits {n = 100000} (omega (arith, size-sub (pos 0) (pos bound))) (omega arith))

  low-test : lt_z (to_z w64 (of_z w64 lo)) (to_z w64 (of_z w64 (pos 0 -ℤ to_z w64 bound))) ≡ lt_z lo (neg_ℤ (pos bound))
  low-test = ap₂ lt_z (copied lo p.1) (back bound-negated ∙ ap (pos 0 -ℤ◌) bound-is ∙ +ℤ_idl (neg_ℤ (pos bound)))

  pub low-outside : lt_z (to_z w64 (of_z w64 lo)) (to_z w64 (of_z w64 (pos 0 -ℤ to_z w64 bound))) ≡ true → true ≡ outside bound lo hi
  unfolding outside
  low-outside e = let f : lt_z lo (neg_ℤ (pos bound)) ≡ true = sym low-test ∙ e in rw f

  pub high-outside : lt_z (to_z w64 (of_z w64 lo)) (to_z w64 (of_z w64 (pos 0 -ℤ to_z w64 bound))) ≡ false
      → lt_z (to_z w64 bound) (to_z w64 (of_z w64 hi)) ≡ outside bound lo hi
  unfolding outside
  high-outside e = let f : lt_z lo (neg_ℤ (pos bound)) ≡ false = sym low-test ∙ e in rw (bound-is, copied hi p.2, f)

-- ---- one list of points after another

tally-same : {f g : Bool} {m n : ℕ} → f ≡ g → m ≡ n → ◌≡◌ {A = Tally} (record { far = f; count = m }) (record { far = g; count = n })
tally-same e h = ap₂ (λ (f : Bool) (n : ℕ). record { far = f; count = n }) e h

pub seen-append : (bound most : ℕ) (a : Tally) (ps qs : List (List ℤ)) → seen bound most (seen bound most a ps) qs ≡ seen bound most a (ps ++ qs)
unfolding seen
seen-append bound most a ps qs = tally-same
    (or_assoc a.far (any (λ p. beyond bound (last_of p)) ps) (any (λ p. beyond bound (last_of p)) qs)
    ∙ ap (a.far ||◌) (sym (any-join (λ p. beyond bound (last_of p)) ps qs)))
    (capped-add most (a.count + length ps) (length qs) ∙ ap (capped most) (add_assoc a.count (length ps) (length qs)
    ∙ ap (a.count +◌) (sym (length-append ps qs))))

pub seen_none : (bound most : ℕ) (a : Tally) → a.count ≤ suc most → a ≡ seen bound most a []
unfolding seen any
seen_none bound most a h = sym (tally-same (or-false a.far) (rw (add-zero a.count) (capped_same most a.count h)))

-- ---- one loop

last_snoc : (p : List ℤ) (i : ℤ) → last_of (p ++ (i ∷ [])) ≡ i
unfolding last_of
last_snoc [] i = refl
last_snoc (x ∷ []) i = refl
last_snoc (x ∷ y ∷ p) i = last_snoc (y ∷ p) i

pub any_last : (bound : ℕ) (outer l : List ℤ) → any (λ p. beyond bound (last_of p)) (map (λ i. outer ++ (i ∷ [])) l) ≡ any (beyond bound) l
unfolding any
any_last bound outer [] = refl
any_last bound outer (i ∷ l) = rw (last_snoc outer i, any_last bound outer l)

module _ (bound most : ℕ) (a : Tally) (L : Loop) (outer : List ℤ) (lo hi : ℤ) (n : ℕ) (r : Ranged L outer lo hi) (e : n ≡ span (hi -ℤ lo)) where
  new-points : through (L ∷ []) outer ≡ map (λ i. outer ++ (i ∷ [])) (ints lo n)
  new-points = through-one L outer ∙ ap (map (λ i. outer ++ (i ∷ []))) (indices-are L outer lo hi n r e)

  pub empty-loop : a.count ≤ suc most → n ≡ 0 → (a ≡ seen bound most a (through (L ∷ []) outer)) × (a.count ≤ suc most)
  unfolding ints
  empty-loop h z = (seen_none bound most a h ∙ ap (seen bound most a) (sym (new-points ∙ rw z)), h)

  far-is : (n ≡ 0 → ⊥) → any (λ p. beyond bound (last_of p)) (through (L ∷ []) outer) ≡ outside bound lo hi
  far-is z = ap (any (λ p. beyond bound (last_of p))) new-points ∙ any_last bound outer (ints lo n) ∙ rw e (ends-decide bound lo hi (λ q. z (e ∙ q)))

  new-length : length (through (L ∷ []) outer) ≡ n
  new-length = ap length new-points ∙ length-map (ints lo n) (λ i. outer ++ (i ∷ [])) ∙ length-ints lo n

  pub one-loop : (far : Bool) (count : ℕ) → (n ≡ 0 → ⊥) → far ≡ outside bound lo hi → count ≡ capped most (a.count + n)
      → (record { far = a.far || far; count = count } ≡ seen bound most a (through (L ∷ []) outer)) × (count ≤ suc most)
  unfolding seen
  one-loop far count z f g = (
    tally-same (ap (a.far ||◌) (f ∙ sym (far-is z))) (g ∙ ap (λ (k : ℕ). capped most (a.count + k)) (sym new-length)),
    subst (λ (k : ℕ). k ≤ suc most) (sym g) (capped_le most (a.count + n)),
  )
