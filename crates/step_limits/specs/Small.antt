-- Limits whose numbers are within ±32767, as the arithmetic of a step asks them. The model's tests of the same are small_limit and small_loop.
use Rattle.std.specs.Prelude.{◌≤◌}
use Rattle.integers.specs.Affine.{Within}
use Rattle.integers.specs.Difference.{size}
use Rattle.lists.specs.Membership.{All}
use Rattle.model.specs.Ticket as Model

pub record SmallLimit (l : Model.Limit) : Type 0 where
  pub multiplier : l.multiplier ≤ 32767
  pub constant : size l.constant ≤ 32767
  pub coefficients : Within 32767 l.coefficients

pub record SmallLoop (L : Model.Loop) : Type 0 where
  pub lower : All SmallLimit L.lower
  pub upper : All SmallLimit L.upper
