-- What a function hands out: the model's value, in arrays that hold it. n is the number of loops outside.
use Rattle.std.specs.Prelude.{◌≡◌, ℕ, ℤ, ◌+ℤ◌, ◌*ℤ◌}
use mathlib.Core.List.{List, zip_with}
use Rattle.model.specs.Ticket as Model
use Rattle.ticket_loops.specs.LoopReads.{limit_of, LimitIn}
use Rattle.ticket_loops.specs.declared.Limit.{Limit}
pub use Rattle.nest_rows.specs.Rows.{RowIs}

-- u xs + v ys
abbrev pub mixed : ℤ → ℤ → List ℤ → List ℤ → List ℤ
mixed u v xs ys = zip_with (λ x y. u *ℤ x +ℤ v *ℤ y) xs ys

pub record LimitIs (n : ℕ) (r : Limit) (l : Model.Limit) : Type 0 where
  pub is : limit_of n r ≡ l
  pub within : LimitIn r
