-- The instances of n statements at a list of points: which there are, that none is there twice, and their order, by the points and then
-- by the statement. `comes_first` tells which of two stands first where the points are in order.
use mathlib.Core.Path.{◌≡◌, refl, sym, ap, ◌∙◌, subst₂}
use mathlib.Core.Logic.{◌⊎◌, inl, inr, ⊎_elim}
use mathlib.Core.List.Memᴰ
use mathlib.Core.List.{List}
use Prim.Native.Nat.{ℕ, zero, suc, ◌+◌, ◌≤◌, ◌<◌}
use native.Mathlib.Omega.{arith}
use native.Mathlib.Decide.{ℕ_discrete}
use lib.Dec.{T, ltb, ltb→lt, lt→ltb}
use lib.IntN.{ℤ}
use Rattle.integers.specs.Sign.{eq_z}
use Rattle.lists.specs.Membership.{Mem, Distinct, SameMembers}
use Rattle.lists.specs.Order.{Ordered, Precedes}
use Rattle.lists.specs.Tests.{same_by}
use Rattle.lists.proofs.OrderLaws.{ordered-distinct, ordered-imp, ordered-precedes, related-precedes}
use Rattle.lists.proofs.FlatMapLaws.{flat_map-mem, mem-flat_map, distinct-flat_map, ordered-flat_map, flat_map-precedes, precedes-flat_map-in, precedes-flat_map-across}
use Rattle.lists.proofs.TestLaws.{or_cases, or_left, or_right, and_both, and_intro, equal-test}
use Rattle.model.specs.Inside.{Earlier}
use Rattle.model.specs.Machine.{Instance, body, instances}
use Rattle.model.specs.Directions.{earlier, comes_first}
use Rattle.model.proofs.Machine.ElementLaws.{subscripts-decide}
use Rattle.model.proofs.Points.EarlierLaws.{earlier-irreflexive, earlier-transitive}

-- ---- one point

body-mem : (k n : ℕ) (p : List ℤ) (i : Instance) → Mem i (body k n p) → (k ≤ i.statement) × (i.statement < k + n) × (i.iteration ≡ p)
unfolding body
body-mem k zero p i m = absurd (Memᴰ.not-nil m)
body-mem k (suc n) p i (Memᴰ.head e) = let s = ap (λ (j : Instance). j.statement) e
    in (omega arith, omega arith, ap (λ (j : Instance). j.iteration) e)
body-mem k (suc n) p i (Memᴰ.tail m) = let r = body-mem (suc k) n p i m in (omega arith, omega arith, r.2)

mem-body : (k n : ℕ) (p : List ℤ) (i : Instance) → k ≤ i.statement → i.statement < k + n → i.iteration ≡ p → Mem i (body k n p)
unfolding body
mem-body k zero p i a b e = absurd (omega arith)
mem-body k (suc n) p i a b e =
    elim (ℕ_discrete i.statement k) [
      | yes q ↦ Memᴰ.head (λ t. record { statement = q t; iteration = e t })
      | no q ↦ Memᴰ.tail (mem-body (suc k) n p i (omega arith) (omega arith) e)
    ]

-- of one iteration, by the statement: the order of a body
abbrev pub Rises : Instance → Instance → Type 0
Rises i j = (i.iteration ≡ j.iteration) × (i.statement < j.statement)

pub rises-irreflexive : (i : Instance) → Rises i i → ⊥
rises-irreflexive i r = let h = r.1 in omega arith

pub rises-transitive : (i j k : Instance) → Rises i j → Rises j k → Rises i k
rises-transitive i j k r s = let h = r.1 in let l = s.1 in (r.0 ∙ s.0, omega arith)

body-rises : (k n : ℕ) (p : List ℤ) → Ordered Rises (body k n p)
unfolding body
body-rises k zero p = tt
body-rises k (suc n) p = (λ i m. let r = body-mem (suc k) n p i m in (sym r.2, r.0), body-rises (suc k) n p)

rises-precedes : (k n : ℕ) (p : List ℤ) (i j : Instance) → Mem i (body k n p) → Mem j (body k n p) → i.statement < j.statement
    → Precedes (body k n p) i j
rises-precedes k n p i j m l h = related-precedes Rises rises-irreflexive rises-transitive (body k n p) (body-rises k n p) m l
    ((body-mem k n p i m).2 ∙ sym (body-mem k n p j l).2, h)

-- ---- members

pub instances-mem : (n : ℕ) (ps : List (List ℤ)) (i : Instance) → Mem i (instances n ps) → (i.statement < n) × Mem i.iteration ps
unfolding instances
instances-mem n ps i m = let r = flat_map-mem (body 0 n) ps m in let b = body-mem 0 n r.0 i r.2 in let h = b.1
    in (omega arith, Memᴰ.cast b.2 r.1)

pub mem-instances : (n : ℕ) (ps : List (List ℤ)) (i : Instance) → i.statement < n → Mem i.iteration ps → Mem i (instances n ps)
unfolding instances
mem-instances n ps i h m = mem-flat_map (body 0 n) ps m (mem-body 0 n i.iteration i (omega arith) (omega arith) refl)

pub instances-members : (n : ℕ) (ps qs : List (List ℤ)) → SameMembers ps qs → SameMembers (instances n ps) (instances n qs)
instances-members n ps qs e = record {
  into = λ i m. let r = instances-mem n ps i m in mem-instances n qs i r.0 (e.into i.iteration r.1);
  from = λ i m. let r = instances-mem n qs i m in mem-instances n ps i r.0 (e.from i.iteration r.1);
}

pub instances-distinct : (n : ℕ) (ps : List (List ℤ)) → Distinct ps → Distinct (instances n ps)
unfolding instances
instances-distinct n ps d = distinct-flat_map (body 0 n) ps d
    (λ p m. ordered-distinct Rises rises-irreflexive (body 0 n p) (body-rises 0 n p))
    (λ p q _ _ i m l. sym (body-mem 0 n p i m).2 ∙ (body-mem 0 n q i l).2)

-- ---- order

-- by the key of the iteration, then by the statement
abbrev pub Before : (List ℤ → List ℤ) → Instance → Instance → Type 0
Before key i j = Earlier (key i.iteration) (key j.iteration) ⊎ Rises i j

pub instances-ordered : (key : List ℤ → List ℤ) (n : ℕ) (ps : List (List ℤ)) → Ordered (λ p q. Earlier (key p) (key q)) ps
    → Ordered (Before key) (instances n ps)
unfolding instances
instances-ordered key n ps o = ordered-flat_map (body 0 n) (λ p q. Earlier (key p) (key q)) (Before key) ps o
    (λ p m. ordered-imp Rises (body 0 n p) (body-rises 0 n p) (λ i j _ _ r. inr r))
    (λ p q _ _ h i j m l. inl (subst₂ (λ x y. Earlier (key x) (key y)) (sym (body-mem 0 n p i m).2) (sym (body-mem 0 n q j l).2) h))

module _ (n : ℕ) (ps : List (List ℤ)) (i j : Instance) where
  pub instances-precede : Precedes (instances n ps) i j → Precedes ps i.iteration j.iteration ⊎ Rises i j
  unfolding instances
  instances-precede p = ⊎_elim
      (λ r. inr (ordered-precedes Rises (body 0 n r.0) (body-rises 0 n r.0) i j r.2))
      (λ r. inl (subst₂ (Precedes ps) (sym (body-mem 0 n r.0 i r.3).2) (sym (body-mem 0 n r.1 j r.4).2) r.2))
      (flat_map-precedes (body 0 n) ps i j p)

  pub precede-instances : Mem i (instances n ps) → Mem j (instances n ps) → Precedes ps i.iteration j.iteration ⊎ Rises i j
      → Precedes (instances n ps) i j
  unfolding instances
  precede-instances m l (inl p) = let a = (instances-mem n ps i m).0 in let b = (instances-mem n ps j l).0 in
      precedes-flat_map-across (body 0 n) ps i.iteration j.iteration i j p
      (mem-body 0 n i.iteration i (omega arith) (omega arith) refl) (mem-body 0 n j.iteration j (omega arith) (omega arith) refl)
  precede-instances m l (inr r) = let a = instances-mem n ps i m in let h = r.1 in let b = (instances-mem n ps j l).0 in
      precedes-flat_map-in (body 0 n) ps i j a.1
      (rises-precedes 0 n i.iteration i j (mem-body 0 n i.iteration i (omega arith) (omega arith) refl)
      (mem-body 0 n i.iteration j (omega arith) (omega arith) (sym r.0)) h)

-- ---- which of two comes first

abbrev pub whole : List ℤ → List ℤ
whole p = p

pub comes_first-before : (i j : Instance) → T (comes_first i j) → Before whole i j
unfolding comes_first
comes_first-before i j h = ⊎_elim inl
    (λ b. let r = and_both (same_by eq_z i.iteration j.iteration) (ltb i.statement j.statement) b in
    inr (subscripts-decide.equal i.iteration j.iteration r.0, ltb→lt i.statement j.statement r.1))
    (or_cases (earlier i.iteration j.iteration) _ h)

pub before-comes_first : (i j : Instance) → Before whole i j → T (comes_first i j)
unfolding comes_first
before-comes_first i j (inl h) = or_left (earlier i.iteration j.iteration) _ h
before-comes_first i j (inr h) = or_right (earlier i.iteration j.iteration) _
    (and_intro (same_by eq_z i.iteration j.iteration) (ltb i.statement j.statement)
    (equal-test (same_by eq_z) subscripts-decide i.iteration j.iteration h.0) (lt→ltb i.statement j.statement h.1))

module _ (n : ℕ) (ps : List (List ℤ)) (o : Ordered Earlier ps) (i j : Instance) where
  pub precedes-comes_first : Precedes (instances n ps) i j → T (comes_first i j)
  precedes-comes_first p = before-comes_first i j (ordered-precedes (Before whole) (instances n ps) (instances-ordered whole n ps o) i j p)

  pub comes_first-precedes : Mem i (instances n ps) → Mem j (instances n ps) → T (comes_first i j) → Precedes (instances n ps) i j
  comes_first-precedes m l h = precede-instances n ps i j m l (⊎_elim
      (λ e. inl (related-precedes Earlier earlier-irreflexive earlier-transitive ps o (instances-mem n ps i m).1 (instances-mem n ps j l).1 e))
      inr (comes_first-before i j h))
