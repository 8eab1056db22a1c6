-- The walk along the chain of a sink, turn by turn. Then all sinks below y, and the search that is left because all that can be marked is.
use mathlib.Core.Path.{◌≡◌, refl, sym, ap, ◌∙◌}
use mathlib.Core.Bool.{Bool, true, false, ◌||◌, or-true, or-false, or_assoc}
use mathlib.Core.List.{List}
use Prim.Native.Nat.{ℕ, suc, ◌+◌, ◌-◌, ◌≤◌, ◌<◌}
use native.Mathlib.Numerals.{add-one}
use native.Mathlib.Omega.{arith}
use lib.Dec.{eqb}
use lib.IntN.{ℤ}
use lib.ListN.{length, get_or, set, length-set}
use lib.Seq.{get_or-set_same, get_or-set_other}
use borrow.Author.Tests.{eqb-true, eqb-false}
use Rattle.dependence_vectors.specs.Candidates.{code}
use Rattle.dependence_pair_search.specs.Search.{Adds, along, walked}
use Rattle.dependence_pair_search.proofs.ChainLaws.{along-enough}

pub set-mark : (m : List Bool) (p : ℕ) → p < length m → Adds m (set m p true) (eqb p)
set-mark m p h j = go (eqb p j) refl
  where
    go : (t : Bool) → eqb p j ≡ t → get_or (set m p true) j false ≡ (get_or m j false || eqb p j)
    go true e = let i : p ≡ j = eqb-true p j e in rw e (rw i (get_or-set_same m j true false (rw i at h)) ∙ sym (or-true (get_or m j false)))
    go false e = rw e (get_or-set_other m p j true false (λ a. eqb-false p j e (sym a)) ∙ sym (or-false (get_or m j false)))

module _ (d : ℕ) (s : List ℤ) (next : List ℕ) (base y : ℕ) where
  -- the marks m with what is left of the chain from l on are m₀ with the whole chain
  pub record Walking (first : ℕ) (m₀ m : List Bool) (l steps : ℕ) : Type 0 where
    pub inside : steps + l ≤ first
    pub same_length : length m ≡ length m₀
    pub adds : (j : ℕ) → (get_or m j false || walked d s next base y l j) ≡ (get_or m₀ j false || walked d s next base y first j)

  pub walk_begins : (m : List Bool) (first : ℕ) → Walking first m m first 0
  walk_begins m first = record { inside = omega arith; same_length = refl; adds = λ j. refl }

  walked_more : (j x v : ℕ) → v ≡ code d s x y → ((z : ℕ) → z < suc x → get_or next z 0 ≤ z)
      → (eqb (base + v) j || walked d s next base y (get_or next x 0) j) ≡ walked d s next base y (suc x) j
  unfolding walked along
  walked_more j x v e h = let a = h x (omega arith) in
      rw e (ap (eqb (base + code d s x y) j ||◌) (along-enough next (λ x. eqb (base + code d s x y) j) (get_or next x 0) x (get_or next x 0)
      (λ z k. h z (omega arith)) (omega arith) (omega arith)))

  pub walk-turns : (first : ℕ) (m₀ m : List Bool) (l steps v l' : ℕ) → ((x : ℕ) → x < first → get_or next x 0 ≤ x) → (l ≡ 0 → ⊥)
      → v ≡ code d s (l - 1) y → base + v < length m
      → l' ≡ get_or next (l - 1) 0 → Walking first m₀ m l steps → (l' < l) × Walking first m₀ (set m (base + v) true) l' (steps + 1)
  walk-turns first m₀ m l steps v l' falling nz ve b e w =
      let h = w.inside in
      let i : l ≡ suc (l - 1) = (let z : l ≡ (l - 1) + 1 = omega arith in z) ∙ add-one (l - 1) in
      let a = falling (l - 1) (omega arith) in (
        omega arith,
        record {
          inside = omega arith;
          same_length = length-set m (base + v) true ∙ w.same_length;
          adds = λ j. ap (◌|| walked d s next base y l' j) (set-mark m (base + v) b j)
              ∙ or_assoc (get_or m j false) (eqb (base + v) j) (walked d s next base y l' j)
              ∙ ap (get_or m j false ||◌) (ap (λ k. eqb (base + v) j || walked d s next base y k j) e
              ∙ walked_more j (l - 1) v ve (λ z k. falling z (omega arith)) ∙ ap (λ k. walked d s next base y k j) (sym i)) ∙ w.adds j;
        },
      )

  pub walk_ends : (first : ℕ) (m₀ m : List Bool) (l steps : ℕ) → l ≡ 0 → Walking first m₀ m l steps → Adds m₀ m (walked d s next base y first)
  unfolding walked along
  walk_ends first m₀ m l steps e w j = sym (or-false (get_or m j false)) ∙ (rw e at (w.adds j))
