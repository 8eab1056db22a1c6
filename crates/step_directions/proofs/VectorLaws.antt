-- Every sign is among the three.
use mathlib.Core.Path.{refl}
use mathlib.Core.List.Memᴰ
use Rattle.integers.specs.Sign.{Sign, less, equal, greater}
use Rattle.lists.specs.Membership.{Mem}
use Rattle.model.specs.Steps.{any_sign}

pub every-sign : (s : Sign) → Mem s any_sign
unfolding any_sign
every-sign less = Memᴰ.head refl
every-sign equal = Memᴰ.tail (Memᴰ.head refl)
every-sign greater = Memᴰ.tail (Memᴰ.tail (Memᴰ.head refl))
