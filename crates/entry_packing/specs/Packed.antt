-- An answer in one 64-bit number: document 01's number in bits 0 to 7, the place in bits 8 to 31, the count in bits 32 to 63.
use Rattle.std.specs.Prelude.{ℕ, ◌+◌, ◌*◌, ◌%◌}
use Rattle.model.specs.Answer.{Answer, accepted, refused, number_in, place_in, count_in}
use Rattle.model.specs.Quick.{Independence, apart, perhaps}

-- each field modulo its width; `Fields` (proofs) has the law that nothing is lost where they fit
unfoldable pub fields : ℕ → ℕ → ℕ → ℕ
fields n p c = n % 256 + p % 16777216 * 256 + c % 4294967296 * 4294967296

unfoldable pub packed : Answer ℕ → ℕ
packed a = fields (number_in a) (place_in a) (count_in a)

-- the quick test counts 1 for 'apart' and 0 for 'perhaps'
unfoldable pub counted : Answer Independence → Answer ℕ
counted (accepted apart) = accepted 1
counted (accepted perhaps) = accepted 0
counted (refused n p) = refused n p
