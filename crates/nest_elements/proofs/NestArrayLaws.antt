-- The arrays of a flat nest that are in use, and all their elements.
use mathlib.Core.Path.{◌≡◌, ◌∙◌, ap}
use Prim.Native.Nat.{ℕ, ◌/◌, ◌<◌}
use native.Mathlib.Omega.{arith}
use native.Mathlib.Nat.{mul-div_cancel}
use lib.ListN.{length}
use Rattle.model.specs.Grammar.{total}
use Rattle.nest_flat.specs.Layout.{arrays_of}
use Rattle.nest_elements.specs.Places.{TotalIn}
use Rattle.nest_elements.proofs.LayoutLaws.{array-in}
use Rattle.nest_flat.specs.FlatNests.{FlatNest, extents_in, nest_of, FlatNestIn}
use Rattle.nest_flat.specs.FlatNests as FlatNests
use Rattle.nest_flat.proofs.FlatNestLaws.{extents-count}

four : 0 < 4
four = omega arith

module _ (P : FlatNest) (h : FlatNestIn P) where
  pub arrays-in : TotalIn (extents_in P) P.arrays
  arrays-in = let l = extents-count P h in record {
    all = l;
    each = λ i g. array-in (FlatNests.words_in P) (FlatNests.accessed_in P) (extents_in P) P.depth i h.accesses-ok
        (let z : length (extents_in P) / 4 ≡ P.arrays = ap (◌/ 4) l ∙ mul-div_cancel P.arrays four in omega arith);
    fits = h.fits;
  }

  pub total-is : (r : ℕ) → r ≡ total (arrays_of (extents_in P)) → r ≡ total (nest_of P).arrays
  unfolding nest_of
  total-is r e = e
