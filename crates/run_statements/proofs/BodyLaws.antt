-- One statement through the part of its array, then the statements at a point and the points, one more at a time: what each asks, that the
-- store keeps its length, and what is left to run.
use Rattle.std.proofs.Common.{◌≡◌, ℕ, suc, ◌+◌, ◌-◌, ◌*◌, ◌<◌, ◌≤◌, List, [], ◌∷◌, length, get_or, drop, set, sym, refl, ap, ◌∙◌, subst, ap₂, mul-le-mul_right, add-one, arith, length-drop, length-set, length-take, drop-cons}
use borrow.Rule.Slice.PartMut.{put_mid, mid_of, set_mid_at}
use lib.Seq.{drop-length}
use Rattle.lists.proofs.PartLaws.{row_fits}
use Rattle.model.specs.Store.{sum, make}
use Rattle.nest_elements.proofs.LayoutLaws.{sum_drop}
use Rattle.run_statements.specs.Flat.{number_at, fetched, performed, body_from, points_from, FetchIn, PointIn, BodyIn}

-- ---- one statement

module _ {o bases numbers : List ℕ} {count room x : ℕ} (p : PointIn o bases numbers count room x) where
  pub reads_in : (k n : ℕ) → k + n < length o → FetchIn numbers count room x (k + 1) n
  reads_in k n h = let f = p.few in let m = p.numbered in let q : (k + 1 + n) * count ≤ length o * count = mul-le-mul_right count (omega arith)
      in record { few = omega arith; point = p.point; numbered = omega arith; inside = λ j l. p.inside j (omega arith) }

  pub write-numbered : (k n : ℕ) → k + n < length o → k * count + x < length numbers
  write-numbered k n h = let l = p.point in let m = p.numbered in let q = row_fits count k (length o) (omega arith) in omega arith

  pub write-inside : (k n : ℕ) → k + n < length o → (r : ℕ) → r ≡ number_at numbers count k x → (get_or bases (get_or o k 0) 0 ≤ r) × (r < room)
  write-inside k n h r e = let g = p.begins k (omega arith) in let i = p.inside k (omega arith) in (omega arith, omega arith)

  pub still : (room' : ℕ) → room' ≡ room → PointIn o bases numbers count room' x
  still room' e = subst (λ (n : ℕ). PointIn o bases numbers count n x) (sym e) p

module _ (numbers w : List ℕ) (count x rule constant k n : ℕ) where
  pub through-part : (b r v : ℕ) (e : List ℕ) → (b ≤ r) × (r < length w) → r ≡ number_at numbers count k x
      → v ≡ make rule constant (fetched numbers count x w (k + 1) n)
      → e ≡ set (mid_of b (length w - b) w) (r - b) v → put_mid b (length w - b) w e ≡ performed numbers count x rule constant k n w
  unfolding performed
  through-part b r v e (g, h) q f d =
      let z : b + (r - b) ≡ r = omega arith in
      ap (put_mid b (length w - b) w) d ∙ set_mid_at b (length w - b) (r - b) w v (simp (length-take, length-drop) (omega arith))
      ∙ ap₂ (set w) (z ∙ q) (f ∙ ap (λ (j : ℕ). make rule constant (fetched numbers count x w j n)) (add-one k))

  pub performed-length : length (performed numbers count x rule constant k n w) ≡ length w
  unfolding performed
  performed-length = length-set w (number_at numbers count k x) _

-- ---- the statements at a point

-- the statements before i are done; the next access is k
pub record Done (o sizes rules constants numbers : List ℕ) (count x : ℕ) (w₀ w : List ℕ) (k i : ℕ) : Type 0 where
  pub inside : i ≤ length sizes
  pub room : k + sum (drop i sizes) ≤ length o
  pub same : length w ≡ length w₀
  pub left : body_from rules constants numbers count x 0 0 sizes w₀ ≡ body_from rules constants numbers count x k i (drop i sizes) w

module _ {o sizes rules constants : List ℕ} (q : BodyIn o sizes rules constants) (numbers : List ℕ) (count x : ℕ) (w₀ : List ℕ) where
  pub none_done : Done o sizes rules constants numbers count x w₀ w₀ 0 0
  none_done = let s = q.all-accesses in record { inside = omega arith; room = omega arith; same = refl; left = refl }

  module _ {w : List ℕ} {k i : ℕ} (g : Done o sizes rules constants numbers count x w₀ w k i) where
    pub all_done : length sizes ≤ i → w ≡ body_from rules constants numbers count x 0 0 sizes w₀
    unfolding body_from
    all_done h = let e : i ≡ length sizes = (let j = g.inside in omega arith) in
        sym (g.left ∙ ap (λ (l : List ℕ). body_from rules constants numbers count x k i l w) (ap (λ (j : ℕ). drop j sizes) e ∙ drop-length sizes))

    module _ (h : i < length sizes) where
      pub accesses-end : (k + (get_or sizes i 0 - 1) < length o) × (1 ≤ get_or sizes i 0)
      accesses-end = let r = g.room in let e = q.each i h in (omega (arith, sum_drop i sizes h), e)

      pub one-done : (e : List ℕ) → e ≡ performed numbers count x (get_or rules i 0) (get_or constants i 0) k (get_or sizes i 0 - 1) w
          → Done o sizes rules constants numbers count x w₀ e (k + get_or sizes i 0) (i + 1)
      unfolding body_from
      one-done e f = let r = g.room in record {
        inside = omega arith;
        room = omega (arith, sum_drop i sizes h);
        same = ap length f ∙ performed-length numbers w count x (get_or rules i 0) (get_or constants i 0) k (get_or sizes i 0 - 1) ∙ g.same;
        left = g.left ∙ rw (drop-cons sizes i 0 h, add-one i, f);
      }

-- ---- the points

-- the points before x are passed
pub record Passed (rules constants sizes numbers : List ℕ) (count : ℕ) (w₀ w : List ℕ) (x : ℕ) : Type 0 where
  pub inside : x ≤ count
  pub same : length w ≡ length w₀
  pub left : points_from rules constants sizes numbers count 0 count w₀ ≡ points_from rules constants sizes numbers count x (count - x) w

body_from-length : (rules constants numbers : List ℕ) (count x k i : ℕ) (ms w : List ℕ)
    → length (body_from rules constants numbers count x k i ms w) ≡ length w
unfolding body_from
body_from-length rules constants numbers count x k i [] w = refl
body_from-length rules constants numbers count x k i (m ∷ ms) w = body_from-length rules constants numbers count x (k + m) (suc i) ms
    (performed numbers count x (get_or rules i 0) (get_or constants i 0) k (m - 1) w)
    ∙ performed-length numbers w count x (get_or rules i 0) (get_or constants i 0) k (m - 1)

module _ (rules constants sizes numbers : List ℕ) (count : ℕ) (w₀ : List ℕ) where
  pub none_passed : Passed rules constants sizes numbers count w₀ w₀ 0
  none_passed = let e : count ≡ count - 0 = omega arith in record {
    inside = omega arith;
    same = refl;
    left = ap
        (λ (n : ℕ). points_from rules constants sizes numbers count 0 n w₀) e;
  }

  module _ {w : List ℕ} {x : ℕ} (g : Passed rules constants sizes numbers count w₀ w x) where
    pub all-passed : count ≤ x → w ≡ points_from rules constants sizes numbers count 0 count w₀
    unfolding points_from
    all-passed h = let e : count - x ≡ 0 = omega arith in sym (g.left ∙ rw e)

    pub one-passed : x < count → (e : List ℕ) → e ≡ body_from rules constants numbers count x 0 0 sizes w
        → Passed rules constants sizes numbers count w₀ e (x + 1)
    unfolding points_from
    one-passed h e f = let z : count - x ≡ suc (count - (x + 1)) = omega arith in record {
      inside = omega arith;
      same = ap length f ∙ body_from-length rules constants numbers count x 0 0 sizes w ∙ g.same;
      left = g.left ∙ ap (λ (n : ℕ). points_from rules constants sizes numbers count x n w) z
          ∙ ap₂ (λ (y : ℕ) (l : List ℕ). points_from rules constants sizes numbers count y (count - (x + 1)) l) (sym (add-one x)) (sym f);
    }
