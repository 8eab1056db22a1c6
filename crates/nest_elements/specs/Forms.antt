-- The place of an access as one affine value of the indices. A form is 8 numbers, a constant and a coefficient for each loop; what stands
-- beyond the loops says nothing. That of an access is folded from the words of its subscripts, dimension by dimension.
use Rattle.std.specs.Prelude.{◌≡◌, ℕ, zero, suc, ◌+◌, ◌*◌, ◌≤◌, ◌<◌, ℤ, pos, nat_abs, ◌+ℤ◌, ◌*ℤ◌, ◌≤ℤ◌, length, get_or, take, drop, set, replicate}
use mathlib.Core.List.{List, zip_with}
use Rattle.integers.specs.Affine.{affine, Within, AffineIn}
use Rattle.model.specs.Grammar.{array_room, most_loops, most_elements, most_extent}
use Rattle.nest_index_range.specs.Ranges.{Narrow}
use Rattle.nest_flat.specs.Layout.{AccessesOk}

-- the words of subscript j of all
unfoldable pub words_at : List ℤ → ℕ → List ℤ
words_at w j = take 8 (drop (j * 8) w)

-- a form n times, and another
unfoldable pub folded : ℕ → List ℤ → List ℤ → List ℤ
folded n f g = zip_with (λ x y. x *ℤ pos n +ℤ y) f g

-- access k by its first d dimensions: its place in its array
unfoldable pub form_to : List ℤ → List ℕ → List ℕ → ℕ → ℕ → List ℤ
form_to w o a k zero = replicate 8 (pos 0)
form_to w o a k (suc d) = folded (get_or a (get_or o k 0 * array_room + 1 + d) 0) (form_to w o a k d) (words_at w (k * 3 + d))

-- with b more
unfoldable pub raised : ℕ → List ℤ → List ℤ
raised b f = set f 0 (get_or f 0 (pos 0) +ℤ pos b)

-- access k by all its dimensions, in the store: its array begins at b
unfoldable pub form_of : List ℤ → List ℕ → List ℕ → ℕ → ℕ → List ℤ
form_of w o a k b = raised b (form_to w o a k (get_or a (get_or o k 0 * array_room) 0))

unfoldable pub value_at : List ℤ → List ℤ → ℤ
value_at f point = affine (get_or f 0 (pos 0)) (take (length point) (drop 1 f)) point

-- a form of two dimensions at most, and one more: its extent and subscript j. No product leaves 64 bits
pub record FoldIn (f : List ℤ) (extent : ℕ) (w : List ℤ) (j : ℕ) : Type 0 where
  pub near : Within 134246399 f
  pub extents : extent ≤ most_extent
  pub inside : j * 8 + 8 ≤ length w
  pub small : Within 32767 w

pub record FormIn (w : List ℤ) (o a : List ℕ) (k b : ℕ) : Type 0 where
  pub loops : ℕ
  pub accesses : AccessesOk w o a loops
  pub there : k < length o
  pub begins : b ≤ most_elements

-- a form at a point where its value is small
pub record ValueIn (f point : List ℤ) : Type 0 where
  pub words : length f ≡ 8
  pub few : length point ≤ most_loops
  pub lent : AffineIn (get_or f 0 (pos 0)) (take (length point) (drop 1 f)) point
  pub narrow : Narrow (value_at f point)

-- where it is a place of the store
pub record PlacedIn (f point : List ℤ) : Type 0 where
  pub value : ValueIn f point
  pub inside : pos 0 ≤ℤ value_at f point
  pub below : nat_abs (value_at f point) < most_elements
