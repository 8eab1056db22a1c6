-- A new order in which no conflicting pair points backwards keeps every value. The new points, in order, are taken back to the original
-- iterations; `fwd` takes an original iteration to its new point. Then the same of a new program that is run at the new points.
use mathlib.Core.Path.{◌≡◌, sym, ap, ◌∙◌, subst, subst₂}
use mathlib.Core.Logic.{inl, inr, ⊎_elim}
use mathlib.Core.List.{List, map}
use Prim.Native.Nat.{ℕ}
use lib.Dec.{T}
use lib.IntN.{ℤ}
use Rattle.lists.specs.Membership.{Mem, All, SameMembers}
use Rattle.lists.specs.Order.{Ordered, Precedes}
use Rattle.lists.proofs.OrderLaws.{ordered-map, ordered-distinct, ordered-precedes, precedes-mem, precedes-cases}
use Rattle.model.specs.Inside.{Earlier}
use Rattle.model.specs.Machine.{Element, Instance, Accesses, State, Rules, instances, exec, originally}
use Rattle.model.specs.Directions.{signs, backwards, conflict}
use Rattle.model.proofs.Points.EarlierLaws.{earlier-irreflexive, backwards-earlier}
use Rattle.model.proofs.Machine.InstanceLaws.{Rises, rises-irreflexive, rises-transitive, Before, whole, instances-ordered, instances-members}
use Rattle.model.proofs.Machine.CommuteLaws.{Commutes, reordering}
use Rattle.model.proofs.Machine.SameRunLaws.{NamesAlike, run-same}

before-irreflexive : (key : List ℤ → List ℤ) (i : Instance) → Before key i i → ⊥
before-irreflexive key i (inl h) = earlier-irreflexive (key i.iteration) h
before-irreflexive key i (inr h) = rises-irreflexive i h

rises-not-before : (i j : Instance) → Rises j i → Before whole i j → ⊥
rises-not-before i j h (inl l) = earlier-irreflexive i.iteration (subst (Earlier i.iteration) h.0 l)
rises-not-before i j h (inr l) = rises-irreflexive i (rises-transitive i j i l h)

-- no conflicting pair of the list has a vector that points backwards after `fwd`
abbrev pub NoneBackwards : Accesses → (List ℤ → List ℤ) → List Instance → Type 0
NoneBackwards A fwd xs = (a b : Instance) → Precedes xs a b → T (conflict A a b) → T (backwards (signs (fwd a.iteration) (fwd b.iteration))) → ⊥

module _ (A : Accesses) (rules : Rules) (commutes : Commutes A rules) (n : ℕ) (fwd back : List ℤ → List ℤ) (ps qs : List (List ℤ)) where
  pub ordered-run : Ordered Earlier ps → Ordered Earlier qs → SameMembers ps (map back qs) → ((q : List ℤ) → Mem q qs → fwd (back q) ≡ q)
      → NoneBackwards A fwd (instances n ps)
      → (s : State) (x : Element) → exec A rules (instances n ps) s x ≡ exec A rules (instances n (map back qs)) s x
  ordered-run o o' e inverse none s x = ap (λ (t : State). t x)
      (reordering A rules commutes xs ys (ordered-distinct (Before whole) (before-irreflexive whole) xs old)
      (ordered-distinct (Before fwd) (before-irreflexive fwd) ys new) same kept s)
    where
      xs : List Instance
      xs = instances n ps

      ys : List Instance
      ys = instances n (map back qs)

      old : Ordered (Before whole) xs
      old = instances-ordered whole n ps o

      new : Ordered (Before fwd) ys
      new = instances-ordered fwd n (map back qs) (ordered-map back (λ p q. Earlier (fwd p) (fwd q)) qs Earlier o'
          (λ p q m l h. subst₂ Earlier (sym (inverse p m)) (sym (inverse q l)) h))

      same : SameMembers xs ys
      same = instances-members n ps (map back qs) e

      turned : (a b : Instance) → Precedes xs a b → T (conflict A a b) → Before fwd b a → ⊥
      turned a b p c (inl l) = none a b p c (subst T (sym (backwards-earlier (fwd a.iteration) (fwd b.iteration))) l)
      turned a b p c (inr l) = rises-not-before a b l (ordered-precedes (Before whole) xs old a b p)

      kept : (a b : Instance) → Precedes xs a b → T (conflict A a b) → Precedes ys a b
      kept a b p c =
          let m = precedes-mem xs a b p in
          ⊎_elim (λ q. absurd (before-irreflexive whole a (subst (Before whole a) (sym q) (ordered-precedes (Before whole) xs old a b p))))
          (λ d. ⊎_elim (λ r. r) (λ r. absurd (turned a b p c (ordered-precedes (Before fwd) ys new b a r))) d)
          (precedes-cases ys (same.into a m.0) (same.into b m.1))

  pub new-run : (A' : Accesses) → All (NamesAlike A A' back) qs → Ordered Earlier ps → Ordered Earlier qs → SameMembers ps (map back qs)
      → ((q : List ℤ) → Mem q qs → fwd (back q) ≡ q) → NoneBackwards A fwd (instances n ps)
      → (s : State) (x : Element) → exec A rules (instances n ps) s x ≡ exec A' (originally back rules) (instances n qs) s x
  new-run A' alike o o' e inverse none s x = ordered-run o o' e inverse none s x
      ∙ sym (ap (λ (t : State). t x) (run-same A A' back rules n qs alike s))
