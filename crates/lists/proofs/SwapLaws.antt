-- Neighbours exchanged at some places, one after another: lengths, two parts, back again, and all of it a place further in.
use mathlib.Core.Path.{◌≡◌, refl, sym, ap, ◌∙◌}
use mathlib.Core.List.{List, [], ◌∷◌, ◌++◌, map}
use Prim.Native.Nat.{ℕ, suc}
use lib.ListN.{length}
use Rattle.lists.specs.Place.{under, swapped, swap_all, swap_back}
use Rattle.lists.proofs.PlaceLaws.{under-length, under-inverse, swapped-swapped, length-swapped}

-- at one place
pub swap-lengths : {A B : Type 0} (k : ℕ) (l : List A) (m : List B) → length l ≡ length m → length (under k swapped l) ≡ length (under k swapped m)
swap-lengths k l m e = under-length swapped length-swapped k l ∙ e ∙ sym (under-length swapped length-swapped k m)

module _ {ℓ} {A : Type ℓ} where
  pub swap_all-length : (ks : List ℕ) (l : List A) → length (swap_all ks l) ≡ length l
  unfolding swap_all
  swap_all-length [] l = refl
  swap_all-length (k ∷ ks) l = swap_all-length ks (under k swapped l) ∙ under-length swapped length-swapped k l

  pub swap_all-append : (ks js : List ℕ) (l : List A) → swap_all (ks ++ js) l ≡ swap_all js (swap_all ks l)
  unfolding swap_all
  swap_all-append [] js l = refl
  swap_all-append (k ∷ ks) js l = swap_all-append ks js (under k swapped l)

  pub swap_back-append : (ks js : List ℕ) (l : List A) → swap_back (ks ++ js) l ≡ swap_back ks (swap_back js l)
  unfolding swap_back
  swap_back-append [] js l = refl
  swap_back-append (k ∷ ks) js l = ap (under k swapped) (swap_back-append ks js l)

  pub back-swap_all : (ks : List ℕ) (l : List A) → swap_back ks (swap_all ks l) ≡ l
  unfolding swap_all swap_back
  back-swap_all [] l = refl
  back-swap_all (k ∷ ks) l = ap (under k swapped) (back-swap_all ks (under k swapped l)) ∙ under-inverse swapped swapped swapped-swapped k l

  pub swap_all-back : (ks : List ℕ) (l : List A) → swap_all ks (swap_back ks l) ≡ l
  unfolding swap_all swap_back
  swap_all-back [] l = refl
  swap_all-back (k ∷ ks) l = ap (swap_all ks) (under-inverse swapped swapped swapped-swapped k (swap_back ks l)) ∙ swap_all-back ks l

  -- a place further in
  pub swap_all-inner : (ks : List ℕ) (x : A) (l : List A) → swap_all (map suc ks) (x ∷ l) ≡ x ∷ swap_all ks l
  unfolding swap_all under
  swap_all-inner [] x l = refl
  swap_all-inner (k ∷ ks) x l = swap_all-inner ks x (under k swapped l)
