-- Numbers of 64 bits, and what stores leave of a point: a skew, a section, a circulation exchange by exchange.
use mathlib.Core.Path.{◌≡◌, refl, sym, ◌∙◌, ap, ap₂, subst}
use mathlib.Core.List.{List, [], ◌∷◌, ◌++◌, append_assoc}
use Prim.Native.Nat.{ℕ, zero, suc, ◌<◌, ◌≤◌, ◌+◌}
use native.Mathlib.Omega.{arith}
use native.Mathlib.Numerals.{add-one}
use lib.IntN.{ℤ, pos, ◌+ℤ◌, ◌-ℤ◌, ◌*ℤ◌}
use lib.ListN.{length, get_or, take, drop, set, length-drop, length-append}
use lib.Seq.{get_or-take, length-take-le, take-set-lt, take-take, take-suc, take-length, set_at, get_or-drop, drop-cons}
use mir.Syntax.{w32, w64}
use mir.Val.{SFits, to_z, of_z}
use Rattle.integers.specs.Difference.{size}
use Rattle.integers.specs.Division.{floor_div}
use Rattle.integers.proofs.RangeLaws.{size-add, size-sub, size-mul, size_fits, back}
use Rattle.lists.specs.Place.{under, swapped, swap_all}
use Rattle.lists.proofs.MembershipLaws.{all_get_d}
use Rattle.lists.proofs.PlaceLaws.{under-on_head, under_split}
use Rattle.lists.proofs.SwapLaws.{swap_all-append}
use Rattle.integers.specs.Affine.{Within}
use Rattle.model.specs.Grammar.{depth_after}
use Rattle.model.specs.Ranges.{StepThere}
use Rattle.model.specs.Steps.{skewed, sectioned, chain, forward}
use Rattle.model.proofs.Steps.ChainLaws.{chain-below}
use Rattle.nest_rows.specs.Rows.{RowIs}
use Rattle.step_kinds.specs.Kinds.{step_of}
use Rattle.step_kinds.specs.declared.Step.{Step}
use Rattle.step_limits.proofs.NumberLaws.{small-back}
use Rattle.step_points.specs.Points.{farthest, grown, PointIn, PointAfter}
use Rattle.step_points.proofs.GrowthLaws.{within-forward}

-- ---- numbers

pub index-fits : (z : ℤ) → size z ≤ farthest → SFits w64 z
index-fits z h = size_fits h (omega arith)

pub index_back : (z : ℤ) → size z ≤ farthest → to_z w64 (of_z w64 z) ≡ z
index_back z h = back (index-fits z h)

module _ (x c y : ℤ) (h : size x ≤ farthest) (f : size c ≤ 32767) (g : size y ≤ farthest) where
  product-size : size (c *ℤ y) ≤ 144110790029344768
  product-size = size-mul c y f g

  pub product-fits : SFits w64 (c *ℤ y)
  product-fits = size_fits product-size (omega arith)

  pub sum_fits : SFits w64 (x +ℤ (c *ℤ y))
  sum_fits = let k = product-size in size_fits {n = 148508836540448768} (omega (arith, size-add x (c *ℤ y))) (omega arith)

  pub difference-fits : SFits w64 (x -ℤ c *ℤ y)
  difference-fits = let k = product-size in size_fits {n = 148508836540448768} (omega (arith, size-sub x (c *ℤ y))) (omega arith)

-- a factor of 32 bits, as it is read and as it is widened
module _ (c : ℤ) (h : size c ≤ 32767) where
  pub factor-fits : SFits w64 (to_z w32 (of_z w32 c))
  factor-fits = rw (small-back c h) (index-fits c (omega arith))

  pub factor-back : to_z w64 (of_z w64 (to_z w32 (of_z w32 c))) ≡ c
  factor-back = back factor-fits ∙ small-back c h

-- ---- skew

under-skewed : (d : ℕ) (c : ℤ) (a : ℕ) (l : List ℤ) → a + 1 + d < length l
    → under a (skewed d c) l ≡ set l (a + 1 + d) (get_or l (a + 1 + d) (pos 0) +ℤ (c *ℤ get_or l a (pos 0)))
unfolding under skewed
under-skewed d c zero [] h = absurd (omega arith)
under-skewed d c (suc a) [] h = absurd (omega arith)
under-skewed d c zero (x ∷ l) h = let e : 0 + 1 + d ≡ suc d = omega arith in
    rw e (ap (x ∷◌) (under-on_head (λ y. y +ℤ (c *ℤ x)) d l (pos 0)))
under-skewed d c (suc a) (x ∷ l) h = let e : suc a + 1 + d ≡ suc (a + 1 + d) = omega arith in
    rw e (ap (x ∷◌) (under-skewed d c a l (omega arith)))

pub front-skewed : (n a d : ℕ) (c : ℤ) (l : List ℤ) (z : ℤ) → n ≤ length l → a + 1 + d < n
    → z ≡ get_or l (a + 1 + d) (pos 0) +ℤ (c *ℤ get_or l a (pos 0))
    → take n (set l (a + 1 + d) z) ≡ under a (skewed d c) (take n l)
front-skewed n a d c l z g h e =
    let k : length (take n l) ≡ n = length-take-le n l g in
    take-set-lt n l (a + 1 + d) z h
    ∙ ap (set (take n l) (a + 1 + d)) e
    ∙ rw (← (get_or-take n l a (pos 0) (omega arith)), ← (get_or-take n l (a + 1 + d) (pos 0) h)) (sym (under-skewed d c a (take n l) (omega arith)))

-- ---- section: place a stands twice

module _ (w a n : ℕ) (r l : List ℤ) (hr : n < length r) (hl : n ≤ length l) (h : a < n)
    (e : take (n + 1) r ≡ take (a + 1) l ++ drop a (take n l)) where
  abbrev y : ℤ
  y = get_or l a (pos 0)

  abbrev inner : List ℤ
  inner = drop a (take n l)

  outer-length : length (take a l) ≡ a
  outer-length = length-take-le a l (omega arith)

  inner-is : inner ≡ y ∷ drop 1 inner
  inner-is =
      let m : length (take n l) ≡ n = length-take-le n l hl in
      let k = length-drop a (take n l) in
      let i : a + 0 ≡ a = omega arith in
      drop-cons inner 0 (pos 0) (omega arith)
      ∙ ap (◌∷ drop 1 inner) (get_or-drop a (take n l) 0 (pos 0) ∙ ap (λ i. get_or (take n l) i (pos 0)) i ∙ get_or-take n l a (pos 0) h)

  moved : take (n + 1) r ≡ take a l ++ (y ∷ inner)
  moved =
      let o : take (a + 1) l ≡ take a l ++ (y ∷ []) = rw add-one (take-suc l a (pos 0) (omega arith)) in
      e ∙ ap (◌++ inner) o ∙ append_assoc (take a l) (y ∷ []) inner

  -- the two stores that follow
  stored : (z u : ℤ) → take (n + 1) (set (set r a z) (a + 1) u) ≡ take a l ++ (z ∷ u ∷ drop 1 inner)
  stored z u =
      let p = outer-length in
      take-set-lt (n + 1) (set r a z) (a + 1) u (omega arith)
      ∙ ap (λ k. set k (a + 1) u) (take-set-lt (n + 1) r a z (omega arith) ∙ ap (λ k. set k a z) moved ∙ set_at (take a l) y inner z a p)
      ∙ ap (λ k. set (take a l ++ (z ∷ k)) (a + 1) u) inner-is
      ∙ ap (λ k. set k (a + 1) u) (sym (append_assoc (take a l) (z ∷ []) (y ∷ drop 1 inner)))
      ∙ set_at (take a l ++ (z ∷ [])) y (drop 1 inner) u (a + 1) (length-append (take a l) (z ∷ []) ∙ ap (◌+ 1) p)
      ∙ append_assoc (take a l) (z ∷ []) (u ∷ drop 1 inner)

  pub front-sectioned : (z u : ℤ) → z ≡ floor_div y (pos w) → u ≡ y -ℤ pos w *ℤ floor_div y (pos w)
      → take (n + 1) (set (set r a z) (a + 1) u) ≡ under a (sectioned w) (take n l)
  unfolding sectioned
  front-sectioned z u f g =
      let p = outer-length in
      let k : length (take n l) ≡ n = length-take-le n l hl in
      stored z u
      ∙ ap₂ (λ z u. take a l ++ (z ∷ u ∷ drop 1 inner)) f g
      ∙ sym (under_split (sectioned w) a (take n l) (omega arith) ∙ ap₂ (λ p k. p ++ sectioned w k) (take-take a n l (omega arith))
      inner-is)

-- ---- circulation

module _ (a b n : ℕ) (l : List ℤ) where
  -- j exchanges of the chain are done
  abbrev pub Walked : ℕ → List ℤ → Type 0
  Walked j r = RowIs n r (swap_all (take j (chain a b)) (take n l))

  pub none-walked : length l ≡ 6 → Walked 0 l
  unfolding swap_all
  none-walked h = record { is = refl; room = h }

  module _ (j k : ℕ) (inside : j < length (chain a b)) (at : k ≡ get_or (chain a b) j 0) where
    pub exchange-in : a < n → b < n → k + 1 < n
    exchange-in h g = let i = all_get_d (λ x. suc x < n) (chain a b) j 0 (chain-below a b n h g) inside in omega arith

    pub one-walked : (r s : List ℤ) → Walked j r → RowIs n s (under k swapped (take n r)) → Walked (j + 1) s
    unfolding swap_all
    one-walked r s v e = record {
      is = e.is ∙ ap (under k swapped) v.is
          ∙ sym (ap (λ ks. swap_all ks (take n l)) (ap (λ x. take x (chain a b)) (add-one j) ∙ take-suc (chain a b) j 0 inside)
          ∙ swap_all-append (take j (chain a b)) (get_or (chain a b) j 0 ∷ []) (take n l)
          ∙ ap (λ x. under x swapped (swap_all (take j (chain a b)) (take n l))) (sym at));
      room = e.room;
    }

  pub all-walked : (j : ℕ) (r : List ℤ) → j ≡ length (chain a b) → Walked j r → RowIs n r (swap_all (chain a b) (take n l))
  all-walked j r e v = subst (λ ks. RowIs n r (swap_all ks (take n l))) (ap (λ x. take x (chain a b)) e ∙ take-length (chain a b)) v

-- ---- the step that a match found

module _ {row : List ℤ} {n : ℕ} {t d : Step} (e : t ≡ d) (i : PointIn row n (step_of t)) where
  pub there : StepThere n (step_of d)
  there = subst (λ (x : Step). StepThere n (step_of x)) e i.there

  pub point-is : (r : List ℤ) → RowIs (depth_after (step_of d) n) r (forward (step_of d) (take n row)) → PointAfter row n (step_of t) r
  point-is r h = subst (λ (x : Step). PointAfter row n (step_of x) r) (sym e) (record {
    is = h;
    near = λ m k w. subst (Within (grown m)) (sym h.is) (within-forward m n (step_of d) there k (take n row) w);
  })
