-- The points that go on from the indices outside: the numbers of a range, one more at the end; then `through`, loop by loop, and what it is of
-- one loop, of no index outside, and of the loops of a flat nest.
use mathlib.Core.Path.{◌≡◌, refl, sym, ◌∙◌, ap}
use mathlib.Core.List.{List, [], ◌∷◌, ◌++◌, map, flat_map, append-nil, append_assoc}
use Prim.Native.Nat.{ℕ, zero, suc, ◌+◌, ◌-◌, ◌≤◌}
use native.Mathlib.Omega.{arith}
use native.Mathlib.Numerals.{add-one, one-add, sub-one}
use lib.IntN.{ℤ, pos, ◌+ℤ◌, ◌-ℤ◌, +ℤ_idr, +ℤ_assoc}
use lib.ListN.{length, take}
use Rattle.lists.proofs.MembershipLaws.{map_same}
use Rattle.lists.proofs.FlatMapLaws.{flat_map-snoc, flat_map-same, flat_map-single, map-flat_map}
use Rattle.model.specs.Ticket.{Loop}
use Rattle.model.specs.Points.{span, ints, indices, points, partial_points}
use Rattle.nest_flat.specs.Flat.{loop_at, loops_from}
use Rattle.nest_index_range.specs.Ranges.{Ranged}
use Rattle.nest_points.specs.Tallies.{through}

-- ---- the numbers of a range

step-in : (a : ℤ) (n : ℕ) → (a +ℤ pos 1) +ℤ pos n ≡ a +ℤ pos (suc n)
step-in a n = +ℤ_assoc a (pos 1) (pos n) ∙ ap (λ (k : ℕ). a +ℤ pos k) (one-add n)

pub ints-snoc : (a : ℤ) (n : ℕ) → ints a (n + 1) ≡ ints a n ++ ((a +ℤ pos n) ∷ [])
unfolding ints
ints-snoc a n = rw (add-one n) (go a n)
  where
    go : (a : ℤ) (n : ℕ) → ints a (suc n) ≡ ints a n ++ ((a +ℤ pos n) ∷ [])
    go a zero = rw (+ℤ_idr a)
    go a (suc n) = ap (a ∷◌) (go (a +ℤ pos 1) n ∙ ap (λ (z : ℤ). ints (a +ℤ pos 1) n ++ (z ∷ [])) (step-in a n))

pub length-ints : (a : ℤ) (n : ℕ) → length (ints a n) ≡ n
unfolding ints
length-ints a zero = refl
length-ints a (suc n) = ap suc (length-ints (a +ℤ pos 1) n)

pub indices-are : (L : Loop) (outer : List ℤ) (lo hi : ℤ) (n : ℕ) → Ranged L outer lo hi → n ≡ span (hi -ℤ lo) → indices L outer ≡ ints lo n
unfolding indices
indices-are L outer lo hi n r e = rw (e, r.first, r.last)

-- what one index more adds
pub turn : {B : Type 0} (f : ℤ → List B) (a : ℤ) (n : ℕ) → flat_map f (ints a (n + 1)) ≡ flat_map f (ints a n) ++ f (a +ℤ pos n)
turn f a n = ap (flat_map f) (ints-snoc a n) ∙ flat_map-snoc f (ints a n) (a +ℤ pos n)

pub no-turn : {B : Type 0} (f : ℤ → List B) (a : ℤ) → flat_map f (ints a 0) ≡ []
unfolding ints flat_map
no-turn f a = refl

-- ---- loop by loop

map-map : {A B C : Type 0} (g : B → C) (f : A → B) (l : List A) → map g (map f l) ≡ map (λ x. g (f x)) l
map-map g f [] = refl
map-map g f (x ∷ l) = ap (g (f x) ∷◌) (map-map g f l)

pub through-nil : (outer : List ℤ) → through [] outer ≡ outer ∷ []
unfolding through points
through-nil outer = ap (◌∷ []) (append-nil outer)

pub through-cons : (L : Loop) (N : List Loop) (outer : List ℤ)
    → through (L ∷ N) outer ≡ flat_map (λ i. through N (outer ++ (i ∷ []))) (indices L outer)
unfolding through points
through-cons L N outer =
    map-flat_map (λ y. outer ++ y) (λ i. map (λ y. i ∷ y) (points N (outer ++ (i ∷ [])))) (indices L outer)
    ∙ flat_map-same (λ i. map (λ y. outer ++ y) (map (λ y. i ∷ y) (points N (outer ++ (i ∷ [])))))
    (λ i. map (λ y. (outer ++ (i ∷ [])) ++ y) (points N (outer ++ (i ∷ []))))
    (λ i. map-map (λ y. outer ++ y) (λ y. i ∷ y) (points N (outer ++ (i ∷ [])))
    ∙ map_same (λ y. outer ++ (i ∷ y)) (λ y. (outer ++ (i ∷ [])) ++ y) (points N (outer ++ (i ∷ [])))
    (λ y _. sym (append_assoc outer (i ∷ []) y)))
    (indices L outer)

pub through-one : (L : Loop) (outer : List ℤ) → through (L ∷ []) outer ≡ map (λ i. outer ++ (i ∷ [])) (indices L outer)
through-one L outer =
    through-cons L [] outer
    ∙ flat_map-same (λ i. through [] (outer ++ (i ∷ []))) (λ i. (outer ++ (i ∷ [])) ∷ []) (λ i. through-nil (outer ++ (i ∷ []))) (indices L outer)
    ∙ flat_map-single (λ i. outer ++ (i ∷ [])) (indices L outer)

pub through-none : (N : List Loop) → through N [] ≡ points N []
unfolding through
through-none N = go (points N [])
  where
    go : (l : List (List ℤ)) → map (λ y. [] ++ y) l ≡ l
    go [] = refl
    go (y ∷ l) = ap (y ∷◌) (go l)

-- ---- of a flat nest

module _ (s : List ℤ) (c : List ℕ) where
  pub loops-step : (k left : ℕ) → 1 ≤ left → loops_from s c k left ≡ loop_at s c k ∷ loops_from s c (k + 1) (left - 1)
  unfolding loops_from
  loops-step k zero h = absurd (omega arith)
  loops-step k (suc n) h = rw (add-one k, sub-one (suc n))

  pub loops-none : (k left : ℕ) → left ≡ 0 → loops_from s c k left ≡ []
  unfolding loops_from
  loops-none k left e = rw e

  pub loops-length : (k n : ℕ) → length (loops_from s c k n) ≡ n
  unfolding loops_from
  loops-length k zero = refl
  loops-length k (suc n) = ap suc (loops-length (suc k) n)

  pub loops-take : (k j n : ℕ) → j ≤ n → take j (loops_from s c k n) ≡ loops_from s c k j
  unfolding loops_from
  loops-take k zero n h = refl
  loops-take k (suc j) zero h = absurd (omega arith)
  loops-take k (suc j) (suc n) h = ap (loop_at s c k ∷◌) (loops-take (suc k) j n (omega arith))

  -- the points of the loops inside loop k that go on from its index i
  abbrev pub after : ℕ → ℕ → List ℤ → ℤ → List (List ℤ)
  after k left outer i = through (loops_from s c (k + 1) (left - 1)) (outer ++ (i ∷ []))

  pub through-step : (k left : ℕ) (outer : List ℤ) (lo hi : ℤ) (n : ℕ) → 1 ≤ left → Ranged (loop_at s c k) outer lo hi → n ≡ span (hi -ℤ lo)
      → through (loops_from s c k left) outer ≡ flat_map (after k left outer) (ints lo n)
  through-step k left outer lo hi n h r e =
      ap (λ (N : List Loop). through N outer) (loops-step k left h)
      ∙ through-cons (loop_at s c k) (loops_from s c (k + 1) (left - 1)) outer
      ∙ ap (flat_map (after k left outer)) (indices-are (loop_at s c k) outer lo hi n r e)

  pub partial-are : (j n : ℕ) → j ≤ n → through (loops_from s c 0 j) [] ≡ partial_points j (loops_from s c 0 n)
  unfolding partial_points
  partial-are j n h = through-none (loops_from s c 0 j) ∙ ap (λ (N : List Loop). points N []) (sym (loops-take 0 j n h))
