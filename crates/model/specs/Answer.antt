-- What an entry answers: accepted with a value, or refused with a number and a place.
use Rattle.std.specs.Prelude.{Bool, cond, ℕ}

pub data Answer (A : Type 0) : Type 0 where
  accepted : A → Answer A
  refused : ℕ → ℕ → Answer A

infixl 20 ◌>>=◌ ◌>>◌
-- go on with the value, or stay refused
unfoldable pub ◌>>=◌ : {A B : Type 0} → Answer A → (A → Answer B) → Answer B
accepted a >>= f = f a
refused n p >>= f = refused n p

unfoldable pub ◌>>◌ : {A B : Type 0} → Answer A → Answer B → Answer B
m >> r = m >>= (λ _. r)

-- refused with n at p unless the test passes
unfoldable pub require : Bool → ℕ → ℕ → Answer (Unit {0})
require t n p = cond t (accepted tt) (refused n p)

-- Document 01 decides the number 0 at acceptance, and number and place at a refusal. It decides neither a place at acceptance nor a count at
-- a refusal: these are 0.
unfoldable pub number_in : {A : Type 0} → Answer A → ℕ
number_in (accepted a) = 0
number_in (refused n p) = n

unfoldable pub place_in : {A : Type 0} → Answer A → ℕ
place_in (accepted a) = 0
place_in (refused n p) = p

unfoldable pub count_in : Answer ℕ → ℕ
count_in (accepted n) = n
count_in (refused n p) = 0
