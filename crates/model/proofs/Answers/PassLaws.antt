-- Answers put together: what passes goes on with the rest, what stops stays. Answers taken apart are in `AnswerLaws`.
use mathlib.Core.Path.{◌≡◌, refl}
use mathlib.Core.Bool.{Bool, true, false}
use Prim.Native.Nat.{ℕ}
use lib.Dec.{T}
use Rattle.model.specs.Answer.{Answer, accepted, refused, ◌>>=◌, ◌>>◌, require}

module _ {A B : Type 0} {m : Answer A} where
  pub bind-pass : {a : A} (f : A → Answer B) → m ≡ accepted a → m >>= f ≡ f a
  unfolding ◌>>=◌
  bind-pass f e = rw e

  pub bind-stop : {n p : ℕ} (f : A → Answer B) → m ≡ refused n p → m >>= f ≡ refused n p
  unfolding ◌>>=◌
  bind-stop f e = rw e

  pub then-pass : {a : A} (r : Answer B) → m ≡ accepted a → m >> r ≡ r
  unfolding ◌>>◌
  then-pass r e = bind-pass (λ _. r) e

  pub then-stop : {n p : ℕ} (r : Answer B) → m ≡ refused n p → m >> r ≡ refused n p
  unfolding ◌>>◌
  then-stop r e = bind-stop (λ _. r) e

pub require-pass : (t : Bool) (n p : ℕ) → T t → require t n p ≡ accepted tt
unfolding require
require-pass true n p h = refl
require-pass false n p h = absurd h

pub require-stop : (t : Bool) (n p : ℕ) → (T t → ⊥) → require t n p ≡ refused n p
unfolding require
require-stop true n p h = absurd (h tt)
require-stop false n p h = refl
