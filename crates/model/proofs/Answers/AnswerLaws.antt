-- Laws of answers: where an accepted and a refused answer come from, through `◌>>=◌`, `◌>>◌` and `require`; then a property of both
-- outcomes at once (`Leads`), through `◌>>=◌`.
use mathlib.Core.Path.{◌≡◌, refl, sym, subst}
use mathlib.Core.Bool.{Bool, true, false}
use mathlib.Core.Logic.{◌⊎◌, inl, inr}
use Prim.Native.Nat.{ℕ}
use native.Mathlib.Omega.{arith}
use lib.Dec.{T}
use Rattle.model.specs.Answer.{Answer, accepted, refused, ◌>>=◌, ◌>>◌, require}

pub not-both {ℓ} : {A : Type 0} {X : Type ℓ} {a : A} {n p : ℕ} → accepted a ≡ refused n p → X
not-both e = let z : ◌≡◌ {A = ℕ} 0 1 = cc in absurd (omega arith)

pub accepted-same : {A : Type 0} {a c : A} → accepted a ≡ accepted c → a ≡ c
accepted-same e = cc

-- ---- an answer and the rest that asks for its value

-- both were accepted
pub record Went {A B : Type 0} (m : Answer A) (f : A → Answer B) (y : B) : Type 0 where
  pub value : A
  pub first : m ≡ accepted value
  pub rest : f value ≡ accepted y

-- the rest was refused
pub record Stopped {A B : Type 0} (m : Answer A) (f : A → Answer B) (n p : ℕ) : Type 0 where
  pub value : A
  pub first : m ≡ accepted value
  pub rest : f value ≡ refused n p

module _ {A B : Type 0} where
  pub bind-accepted : (m : Answer A) (f : A → Answer B) {y : B} → m >>= f ≡ accepted y → Went m f y
  unfolding ◌>>=◌
  bind-accepted (accepted a) f e = record { value = a; first = refl; rest = e }
  bind-accepted (refused n p) f e = not-both (sym e)

  pub bind-refused : (m : Answer A) (f : A → Answer B) {n p : ℕ} → m >>= f ≡ refused n p → (m ≡ refused n p) ⊎ Stopped m f n p
  unfolding ◌>>=◌
  bind-refused (accepted a) f e = inr (record { value = a; first = refl; rest = e })
  bind-refused (refused n p) f e = inl (cc)

  pub then-accepted : (m : Answer A) (r : Answer B) {y : B} → m >> r ≡ accepted y → Went m (λ _. r) y
  unfolding ◌>>◌
  then-accepted m r e = bind-accepted m (λ _. r) e

  pub then-refused : (m : Answer A) (r : Answer B) {n p : ℕ} → m >> r ≡ refused n p → (m ≡ refused n p) ⊎ Stopped m (λ _. r) n p
  unfolding ◌>>◌
  then-refused m r e = bind-refused m (λ _. r) e

-- ---- tests

pub require-accepted : (t : Bool) (n p : ℕ) {u : Unit {0}} → require t n p ≡ accepted u → T t
unfolding require
require-accepted true n p e = tt
require-accepted false n p e = not-both (sym e)

-- the test fails, and number and place are its own
pub record Failed (t : Bool) (n p m q : ℕ) : Type 0 where
  pub fails : T t → ⊥
  pub number : m ≡ n
  pub place : q ≡ p

pub require-refused : (t : Bool) (n p : ℕ) {m q : ℕ} → require t n p ≡ refused m q → Failed t n p m q
unfolding require
require-refused true n p e = not-both e
require-refused false n p e = record { fails = λ h. h; number = cc; place = cc }

-- ---- both outcomes at once

abbrev pub Leads : {A : Type 0} → (A → Type 0) → (ℕ → ℕ → Type 0) → Answer A → Type 0
Leads P E (accepted a) = P a
Leads P E (refused n p) = E n p

module _ {A : Type 0} (P : A → Type 0) (E : ℕ → ℕ → Type 0) where
  pub leads-accepted : {x : Answer A} {a : A} → Leads P E x → x ≡ accepted a → P a
  leads-accepted h e = subst (Leads P E) e h

  pub leads-refused : {x : Answer A} {n p : ℕ} → Leads P E x → x ≡ refused n p → E n p
  leads-refused h e = subst (Leads P E) e h

  pub leads-map : {Q : A → Type 0} (x : Answer A) → ((a : A) → P a → Q a) → Leads P E x → Leads Q E x
  leads-map (accepted a) f h = f a h
  leads-map (refused n p) f h = h

  pub leads-bind : {B : Type 0} (Q : B → Type 0) (m : Answer A) (f : A → Answer B) → Leads P E m
      → ((a : A) → m ≡ accepted a → P a → Leads Q E (f a)) → Leads Q E (m >>= f)
  unfolding ◌>>=◌
  leads-bind Q (accepted a) f h g = g a refl h
  leads-bind Q (refused n p) f h g = h
