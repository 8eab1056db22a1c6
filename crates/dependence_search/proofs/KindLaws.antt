-- A place is that of one line only; kinds by number, and the accesses that a kind speaks of.
use mathlib.Core.Path.{◌≡◌, refl}
use mathlib.Core.Bool.{Bool, true, false}
use Prim.Native.Nat.{ℕ, ◌+◌, ◌*◌, ◌<◌}
use native.Mathlib.Omega.{arith}
use Rattle.lists.proofs.PartLaws.{row-unique}
use Rattle.model.specs.Ticket.{Statement}
use Rattle.model.specs.Directions.{Kind, flow, anti, output, kind_count, vector_count}
use Rattle.model.specs.Promises.{source_accesses, sink_accesses}
use Rattle.dependence_vectors.specs.Numbers.{kind_number, place_of}
use Rattle.dependence_search.specs.Flat.{kind_of}
use Rattle.dependence_search.proofs.UseLaws.{side}

-- ---- places

-- a place is that of one line only
pub record SameParts (s s' t t' k k' v v' : ℕ) : Type 0 where
  pub source : s ≡ s'
  pub sink : t ≡ t'
  pub kind : k ≡ k'
  pub vector : v ≡ v'

pub place-unique : (n s s' t t' k k' v v' : ℕ) → t < n → t' < n → k < kind_count → k' < kind_count → v < vector_count → v' < vector_count
    → place_of n s t k 0 + v ≡ place_of n s' t' k' v' → SameParts s s' t t' k k' v v'
place-unique n s s' t t' k k' v v' a a' b b' c c' e =
    let p = row-unique vector_count ((s * n + t) * kind_count + k) ((s' * n + t') * kind_count + k') v v' c c' (omega arith) in
    let q = row-unique kind_count (s * n + t) (s' * n + t') k k' b b' p.0 in
    let r = row-unique n s s' t t' a a' q.0 in
    record { source = r.0; sink = r.1; kind = q.1; vector = p.1 }

-- ---- kinds

abbrev pub source_writes : Kind → Bool
source_writes flow = true
source_writes anti = false
source_writes output = true

abbrev pub sink_writes : Kind → Bool
sink_writes flow = false
sink_writes anti = true
sink_writes output = true

pub kind-is : (k : Kind) → kind_of (source_writes k) (sink_writes k) ≡ kind_number k
kind-is flow = refl
kind-is anti = refl
kind-is output = refl

pub kind-small : (k : Kind) → kind_number k < kind_count
kind-small flow = omega arith
kind-small anti = omega arith
kind-small output = omega arith

pub is-kind : (w u : Bool) (k : Kind) → kind_of w u ≡ kind_number k → (w ≡ source_writes k) × (u ≡ sink_writes k)
is-kind true false flow e = (refl, refl)
is-kind true false anti e = absurd (omega arith)
is-kind true false output e = absurd (omega arith)
is-kind false true flow e = absurd (omega arith)
is-kind false true anti e = (refl, refl)
is-kind false true output e = absurd (omega arith)
is-kind true true flow e = absurd (omega arith)
is-kind true true anti e = absurd (omega arith)
is-kind true true output e = (refl, refl)
is-kind false false flow e = absurd (omega arith)
is-kind false false anti e = absurd (omega arith)
is-kind false false output e = absurd (omega arith)

pub kind-of : (w u : Bool) → kind_of w u < kind_count → (k : Kind) × (kind_of w u ≡ kind_number k)
kind-of true false h = (flow, refl)
kind-of false true h = (anti, refl)
kind-of true true h = (output, refl)
kind-of false false h = absurd (omega arith)

pub source-side : (k : Kind) (s : Statement) → source_accesses k s ≡ side (source_writes k) s
source-side flow s = refl
source-side anti s = refl
source-side output s = refl

pub sink-side : (k : Kind) (s : Statement) → sink_accesses k s ≡ side (sink_writes k) s
sink-side flow s = refl
sink-side anti s = refl
sink-side output s = refl
