-- Elements in common: the test `same` decides equality; `meet` is an element of both lists; a conflict is an element that the kind's
-- access of the source and that of the sink name. Then conflicts of some kind, and of the instances exchanged.
use mathlib.Core.Path.{◌≡◌, refl, subst}
use mathlib.Core.List.Memᴰ
use mathlib.Core.List.{List}
use lib.Dec.{T, eqb, eqb→eq, eqb_refl}
use Rattle.integers.specs.Sign.{eq_z}
use Rattle.integers.proofs.SignLaws.{eq_z-decides}
use Rattle.lists.specs.Membership.{Mem}
use Rattle.lists.specs.Tests.{Decides, any, same_by}
use Rattle.lists.proofs.TestLaws.{and_both, and_intro, any_some, some-any, any-mem, mem-any}
use Rattle.lists.proofs.TestLaws as Tests
use Rattle.model.specs.Machine.{Element, same, meet, Instance, Accesses}
use Rattle.model.specs.Directions.{Kind, flow, anti, output, kinds, conflict_of, conflict}

-- ---- elements

pub subscripts-decide : Decides (same_by eq_z)
subscripts-decide = Tests.same-decides eq_z eq_z-decides

pub same-decides : Decides same
unfolding same
same-decides = record { equal = equal-when; itself = passes }
  where
    equal-when : (e f : Element) → T (same e f) → e ≡ f
    equal-when e f h = let r = and_both (eqb e.array f.array) (same_by eq_z e.subscripts f.subscripts) h in
        λ t. record { array = eqb→eq e.array f.array r.0 t; subscripts = subscripts-decide.equal e.subscripts f.subscripts r.1 t }

    passes : (e : Element) → T (same e e)
    passes e = and_intro (eqb e.array e.array) (same_by eq_z e.subscripts e.subscripts) (eqb_refl e.array)
        (subscripts-decide.itself e.subscripts)

-- ---- an element of both lists

abbrev pub Shared : List Element → List Element → Type 0
Shared es fs = (e : Element) × Mem e es × Mem e fs

pub meet-shared : (es fs : List Element) → T (meet es fs) → Shared es fs
unfolding meet
meet-shared es fs h = let r = any_some (λ e. any (same e) fs) es h in (r.0, r.1, any-mem same same-decides r.0 fs r.2)

pub shared-meet : {e : Element} (es fs : List Element) → Mem e es → Mem e fs → T (meet es fs)
unfolding meet
shared-meet es fs m n = some-any (λ e. any (same e) fs) es m (mem-any same same-decides fs n)

-- ---- conflicts of a kind

-- the access of the source, and that of the sink
abbrev pub source_of : Kind → Accesses → Instance → List Element
source_of flow A i = A.writes i
source_of anti A i = A.reads i
source_of output A i = A.writes i

abbrev pub sink_of : Kind → Accesses → Instance → List Element
sink_of flow A i = A.reads i
sink_of anti A i = A.writes i
sink_of output A i = A.writes i

-- the kind of the conflict with source and sink exchanged
abbrev pub exchanged : Kind → Kind
exchanged flow = anti
exchanged anti = flow
exchanged output = output

pub every-kind : (k : Kind) → Mem k kinds
unfolding kinds
every-kind flow = Memᴰ.head refl
every-kind anti = Memᴰ.tail (Memᴰ.head refl)
every-kind output = Memᴰ.tail (Memᴰ.tail (Memᴰ.head refl))

module _ (A : Accesses) (i j : Instance) where
  conflict_of-meet : (k : Kind) → conflict_of k A i j ≡ meet (source_of k A i) (sink_of k A j)
  unfolding conflict_of
  conflict_of-meet flow = refl
  conflict_of-meet anti = refl
  conflict_of-meet output = refl

  pub conflict_of-shared : (k : Kind) → T (conflict_of k A i j) → Shared (source_of k A i) (sink_of k A j)
  conflict_of-shared k h = meet-shared (source_of k A i) (sink_of k A j) (subst T (conflict_of-meet k) h)

  pub shared-conflict_of : {e : Element} (k : Kind) → Mem e (source_of k A i) → Mem e (sink_of k A j) → T (conflict_of k A i j)
  shared-conflict_of k m n = rw (conflict_of-meet k) (shared-meet (source_of k A i) (sink_of k A j) m n)

  -- ---- conflicts of some kind

  pub conflict-kind : T (conflict A i j) → (k : Kind) × T (conflict_of k A i j)
  unfolding conflict
  conflict-kind h = let r = any_some (λ k. conflict_of k A i j) kinds h in (r.0, r.2)

  pub kind-conflict : (k : Kind) → T (conflict_of k A i j) → T (conflict A i j)
  unfolding conflict
  kind-conflict k h = some-any (λ k. conflict_of k A i j) kinds (every-kind k) h

-- ---- the instances exchanged

pub conflict_of-exchanged : (A : Accesses) (i j : Instance) (k : Kind) → T (conflict_of k A i j) → T (conflict_of (exchanged k) A j i)
conflict_of-exchanged A i j flow h = let r = conflict_of-shared A i j flow h in shared-conflict_of A j i anti r.2 r.1
conflict_of-exchanged A i j anti h = let r = conflict_of-shared A i j anti h in shared-conflict_of A j i flow r.2 r.1
conflict_of-exchanged A i j output h = let r = conflict_of-shared A i j output h in shared-conflict_of A j i output r.2 r.1

pub conflict-symmetric : (A : Accesses) (i j : Instance) → T (conflict A i j) → T (conflict A j i)
conflict-symmetric A i j h = let r = conflict-kind A i j h in kind-conflict A j i (exchanged r.0) (conflict_of-exchanged A i j r.0 r.1)
