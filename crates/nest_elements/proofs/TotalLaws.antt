-- All elements: what stands before the last array and in it.
use mathlib.Core.Path.{◌≡◌, refl, sym, ◌∙◌, ap}
use mathlib.Core.List.{List, [], ◌∷◌}
use Prim.Native.Nat.{ℕ, ◌+◌, ◌/◌, ◌<◌}
use native.Mathlib.Omega.{arith}
use native.Mathlib.Nat.{mul-div_cancel}
use lib.ListN.{length}
use Rattle.model.specs.Grammar.{elements, total}
use Rattle.model.specs.Store.{base}
use Rattle.nest_flat.specs.Layout.{arrays_of}
use Rattle.nest_elements.proofs.ElementLaws.{arrays-length}
use Rattle.nest_elements.specs.Places.{BaseIn, TotalIn}

four : 0 < 4
four = omega arith

-- after the last array
base-all : (as' : List (List ℕ)) → base as' (length as') ≡ total as'
unfolding base total
base-all [] = refl
base-all (ns ∷ rest) = ap (elements ns +◌) (base-all rest)

module _ (a : List ℕ) (n : ℕ) (h : TotalIn a n) where
  pub all-before : BaseIn a n
  all-before = record { before = h.each; fits = h.fits }

  number_is : n ≡ length (arrays_of a)
  number_is = sym (arrays-length a ∙ ap (◌/ 4) h.all ∙ mul-div_cancel n four)

  pub after-all : (r : ℕ) → r ≡ base (arrays_of a) n → r ≡ total (arrays_of a)
  after-all r g = g ∙ ap (base (arrays_of a)) number_is ∙ base-all (arrays_of a)
