-- An answer can be taken out of its number again where its fields fit: number, place and count are what they were.
use mathlib.Core.Path.{◌≡◌}
use Prim.Native.Nat.{ℕ, ◌+◌, ◌*◌, ◌%◌, ◌/◌, ◌<◌}
use native.Mathlib.Omega.{arith}
use Rattle.entry_packing.specs.Packed.{fields}

pub record Fit (n p c : ℕ) : Type 0 where
  pub number : n < 256
  pub place : p < 16777216
  pub count : c < 4294967296

module _ (n p c : ℕ) (h : Fit n p c) where
  fields-are : fields n p c ≡ n + p * 256 + c * 4294967296
  unfolding fields
  fields-are = let a = h.number in let b = h.place in let d = h.count in omega arith

  pub number-back : fields n p c % 256 ≡ n
  number-back = let e = fields-are in let a = h.number in omega arith

  pub place-back : fields n p c / 256 % 16777216 ≡ p
  place-back = let e = fields-are in let a = h.number in let b = h.place in omega arith

  pub count-back : fields n p c / 4294967296 ≡ c
  count-back = let e = fields-are in let a = h.number in let b = h.place in omega arith
