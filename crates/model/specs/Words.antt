-- A ticket as words: little-endian 16-bit two's complement. Words are counted from 1.
use Rattle.std.specs.Prelude.{cond, ℕ, ◌+◌, ◌*◌, ◌-◌, ◌/◌, ◌%◌, ltb, ℤ, pos, negsuc, drop}
use mathlib.Core.List.{List, [], ◌∷◌, flat_map}
use Rattle.model.specs.Answer.{Answer, accepted, refused}

-- two bytes as a signed number
unfoldable pub signed : ℕ → ℤ
signed v = cond (ltb v 32768) (pos v) (negsuc (65535 - v))

-- the first word of what is left; 1 (torn) where it is missing or half there. k is its number
unfoldable pub first_word : ℕ → List ℕ → Answer ℤ
first_word k [] = refused 1 k
first_word k (lo ∷ []) = refused 1 k
first_word k (lo ∷ hi ∷ rest) = accepted (signed (lo + 256 * hi))

-- word number k, from 1
unfoldable pub word_at : List ℕ → ℕ → Answer ℤ
word_at bytes k = first_word k (drop ((k - 1) * 2) bytes)

-- a number within ±32767 as two bytes
unfoldable pub bits : ℤ → ℕ
bits (pos n) = n
bits (negsuc n) = 65535 - n

unfoldable pub word_bytes : ℤ → List ℕ
word_bytes z = bits z % 256 ∷ bits z / 256 ∷ []

unfoldable pub bytes_of : List ℤ → List ℕ
unfolding flat_map
bytes_of ws = flat_map word_bytes ws
