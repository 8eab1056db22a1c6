-- Instances that do not conflict commute on the plain machine. In order: what one instance leaves alone and what it depends on;
-- `commute`; then `reordering`, wherever instances without a conflict commute: two orders that keep every conflicting pair end with equal values.
use mathlib.Core.Path.{◌≡◌, refl, sym, ap, ◌∙◌, fun_ext}
use mathlib.Core.Bool.{cond}
use mathlib.Core.Logic.{◌⊎◌, inl, inr}
use mathlib.Core.List.Memᴰ
use mathlib.Core.List.{List, [], ◌∷◌}
use Prim.Native.Nat.{ℕ, suc}
use lib.Dec.{T}
use lib.IntN.{ℤ}
use Rattle.lists.specs.Membership.{Mem, All, Distinct, SameMembers}
use Rattle.lists.specs.Order.{Precedes}
use Rattle.lists.proofs.MembershipLaws.{map_same}
use Rattle.lists.proofs.OrderLaws.{precedes-ordered, precedes-irrefl, precedes-asym}
use Rattle.lists.proofs.TestLaws.{T_true, not-T-false, equal-test, mem-cases}
use Rattle.model.specs.Machine.{Element, same, Instance, Accesses, State, Rules, store, store_all, perform, run}
use Rattle.model.specs.Directions.{flow, anti, output, conflict}
use Rattle.model.proofs.Machine.ElementLaws.{same-decides, shared-conflict_of, kind-conflict}
use Rattle.model.proofs.Machine.ReorderLaws.{run-reordered}

-- ---- stores

pub store_same : (e : Element) (v : ℤ) (s : State) (x : Element) → x ≡ e → store e v s x ≡ v
unfolding store
store_same e v s x q = rw (T_true (same x e) (equal-test same same-decides x e q))

pub store_other : (e : Element) (v : ℤ) (s : State) (x : Element) → (x ≡ e → ⊥) → store e v s x ≡ s x
unfolding store
store_other e v s x q = rw (not-T-false (same x e) (λ t. q (same-decides.equal x e t)))

module _ (made : ℕ → ℤ) where
  -- an element that is not written keeps its value
  store_all-keeps : (k : ℕ) (es : List Element) (s : State) (x : Element) → (Mem x es → ⊥) → store_all made k es s x ≡ s x
  unfolding store_all
  store_all-keeps k [] s x h = refl
  store_all-keeps k (e ∷ es) s x h = store_all-keeps (suc k) es (store e (made k) s) x (λ m. h (Memᴰ.tail m))
      ∙ store_other e (made k) s x (λ q. h (Memᴰ.head q))

  -- an element that is written has a value that does not depend on the rest of the state
  store_all-depends : (k : ℕ) (es : List Element) (s s' : State) (x : Element) → Mem x es ⊎ (s x ≡ s' x)
      → store_all made k es s x ≡ store_all made k es s' x
  unfolding store_all
  store_all-depends k [] s s' x (inl m) = absurd (Memᴰ.not-nil m)
  store_all-depends k [] s s' x (inr p) = p
  store_all-depends k (e ∷ es) s s' x h = store_all-depends (suc k) es (store e (made k) s) (store e (made k) s') x (next h)
    where
      next : Mem x (e ∷ es) ⊎ (s x ≡ s' x) → Mem x es ⊎ (store e (made k) s x ≡ store e (made k) s' x)
      next (inl (Memᴰ.head q)) = inr (store_same e (made k) s x q ∙ sym (store_same e (made k) s' x q))
      next (inl (Memᴰ.tail m)) = inl m
      next (inr p) = inr (unfold store in ap (λ v. cond (same x e) (made k) v) p)

-- ---- one instance

module _ (A : Accesses) (rules : Rules) where
  pub perform-keeps : (i : Instance) (s : State) (x : Element) → (Mem x (A.writes i) → ⊥) → perform A rules i s x ≡ s x
  unfolding perform
  perform-keeps i s x h = store_all-keeps _ 0 (A.writes i) s x h

  pub perform-depends : (i : Instance) (s s' : State) (x : Element) → All (λ e. s e ≡ s' e) (A.reads i) → Mem x (A.writes i) ⊎ (s x ≡ s' x)
      → perform A rules i s x ≡ perform A rules i s' x
  unfolding perform
  perform-depends i s s' x r h = store_all-depends _ 0 (A.writes i) s s' x h
      ∙ ap (λ vs. store_all (λ k. rules i.statement k vs i.iteration) 0 (A.writes i) s' x) (map_same s s' (A.reads i) r)

-- ---- two instances of which neither writes what the other reads or writes: Bernstein's conditions

pub record Apart (A : Accesses) (i j : Instance) : Type 0 where
  pub anti-free : (x : Element) → Mem x (A.reads i) → Mem x (A.writes j) → ⊥
  pub flow-free : (x : Element) → Mem x (A.writes i) → Mem x (A.reads j) → ⊥
  pub output-free : (x : Element) → Mem x (A.writes i) → Mem x (A.writes j) → ⊥

module _ (A : Accesses) (rules : Rules) (i j : Instance) (free : Apart A i j) (s : State) where
  i-sees : (x : Element) → Mem x (A.reads i) → perform A rules j s x ≡ s x
  i-sees x m = perform-keeps A rules j s x (free.anti-free x m)

  j-sees : (x : Element) → Mem x (A.reads j) → perform A rules i s x ≡ s x
  j-sees x m = perform-keeps A rules i s x (λ w. free.flow-free x w m)

  commute-at : (x : Element) → Mem x (A.writes i) ⊎ (Mem x (A.writes i) → ⊥) → Mem x (A.writes j) ⊎ (Mem x (A.writes j) → ⊥)
      → perform A rules i (perform A rules j s) x ≡ perform A rules j (perform A rules i s) x
  commute-at x (inl w) d = perform-depends A rules i (perform A rules j s) s x i-sees (inl w)
      ∙ sym (perform-keeps A rules j (perform A rules i s) x (free.output-free x w))
  commute-at x (inr f) (inl w) = perform-keeps A rules i (perform A rules j s) x f
      ∙ sym (perform-depends A rules j (perform A rules i s) s x j-sees (inl w))
  commute-at x (inr f) (inr g) =
      perform-keeps A rules i (perform A rules j s) x f ∙ perform-keeps A rules j s x g
      ∙ sym (perform-keeps A rules j (perform A rules i s) x g ∙ perform-keeps A rules i s x f)

  pub apart-commute : perform A rules i (perform A rules j s) ≡ perform A rules j (perform A rules i s)
  apart-commute = fun_ext λ x. commute-at x (mem-cases same same-decides x (A.writes i)) (mem-cases same same-decides x (A.writes j))

-- ---- two instances without a conflict

free-apart : (A : Accesses) (i j : Instance) → (T (conflict A i j) → ⊥) → Apart A i j
free-apart A i j free = record {
  anti-free = λ x m w. free (kind-conflict A i j anti (shared-conflict_of A i j anti m w));
  flow-free = λ x w m. free (kind-conflict A i j flow (shared-conflict_of A i j flow w m));
  output-free = λ x w v. free (kind-conflict A i j output (shared-conflict_of A i j output w v));
}

-- instances that do not conflict commute
abbrev pub Commutes : Accesses → Rules → Type 0
Commutes A rules = (i j : Instance) → (T (conflict A i j) → ⊥) → (s : State)
    → perform A rules i (perform A rules j s) ≡ perform A rules j (perform A rules i s)

pub commute : (A : Accesses) (rules : Rules) → Commutes A rules
commute A rules i j free = apart-commute A rules i j (free-apart A i j free)

-- ---- two orders of the same instances

pub reordering : (A : Accesses) (rules : Rules) → Commutes A rules → (xs ys : List Instance) → Distinct xs → Distinct ys → SameMembers xs ys
    → ((a b : Instance) → Precedes xs a b → T (conflict A a b) → Precedes ys a b)
    → (s : State) → run (perform A rules) xs s ≡ run (perform A rules) ys s
reordering A rules commutes xs ys d d' e keep = run-reordered (perform A rules) (λ i j. T (conflict A i j)) commutes (Precedes xs) (Precedes ys)
    (precedes-irrefl xs d) (precedes-irrefl ys d') xs ys (precedes-ordered xs) (precedes-ordered ys) e
    (λ a b _ _ p q c. precedes-asym ys d' a b (keep a b p c) q)
