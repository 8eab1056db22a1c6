-- A row in an array of six, of which the first n places count; and words put over a list if a test passes.
use Rattle.std.specs.Prelude.{◌≡◌, Bool, true, false, List, ℕ, ℤ, length, take}
use Rattle.lists.specs.Parts.{put}
use Rattle.model.specs.Grammar.{most_loops}

pub record RowIs {A : Type 0} (n : ℕ) (r : List A) (row : List A) : Type 0 where
  pub is : take n r ≡ row
  pub room : length r ≡ most_loops

-- xs were to be put over s from place `at` on: r says whether they passed, and t is what is left
pub record Tried (test : Bool) (s : List ℤ) (at : ℕ) (xs : List ℤ) (r : Bool) (t : List ℤ) : Type 0 where
  pub passed : r ≡ test
  pub made : r ≡ true → t ≡ put s at xs
  pub kept : r ≡ false → t ≡ s
  pub room : length t ≡ length s
