-- A nest in its flat form. In order: the flat data of its accesses are as the pairs ask (`pairs-in`), and all pairs covered cover the flat nest; a
-- nest of few points can be listed (`list-few`).
use mathlib.Core.Path.{◌≡◌, sym, ap, ◌∙◌, subst}
use mathlib.Core.Bool.{Bool, true, false}
use mathlib.Core.List.{List, map}
use Prim.Native.Nat.{ℕ, ◌*◌, ◌≤◌, ◌<◌}
use native.Mathlib.Omega.{arith}
use native.Mathlib.Nat.{mul-le-mul}
use lib.IntN.{ℤ}
use lib.ListN.{length, get_or, take, length-map, get_or-map}
use Rattle.std.specs.Prelude.{Result, Ok}
use Rattle.lists.proofs.MembershipLaws.{get_d-mem}
use Rattle.model.specs.Answer.{accepted}
use Rattle.model.specs.Points.{iterations}
use Rattle.model.specs.Bounds.{space}
use Rattle.nest_loop_ranges.specs.declared.Range.{Range}
use Rattle.dependence_search.specs.Flat.{Use, uses, no_use}
use Rattle.dependence_search.proofs.UseLaws.{uses-of}
use Rattle.nest_flat.specs.FlatNests.{FlatNest, extents_in, accessed_in, words_in, nest_of}
use Rattle.nest_points.specs.Nests.{ListIn, PointsAre}
use Rattle.nest_flat.proofs.FlatNestLaws.{accessed-count}
use Rattle.nest_admission.specs.Admission.{passed, Counts, EnumerateIn}
use Rattle.nest_admission.proofs.AdmissionLaws.{list-in}
use Rattle.ticket_refusals.specs.declared.Refusal.{Refusal}
use Rattle.dependence_marks.specs.declared.Uses.{Uses}
use Rattle.dependence_marks.specs.Uses.{UsesAre}
use Rattle.dependence_marks.specs.Lines.{Markable}
use Rattle.dependence_marks.proofs.MarkLaws.{statement-count, use-count}
use Rattle.dependence_bounds.specs.Covered.{pairs, PairsIn, CoveredTo}
use Rattle.dependence_bounds.specs.KnownLines.{pairs_of, FlatNestCovered, CoverIn}

-- an answer that promises nothing
pub unsaid : {A : Type 0} → false ≡ true → A
unsaid e = absurd (let z : ◌≡◌ {A = ℕ} 0 1 = cc in omega arith)

-- ---- pairs

module _ (P : FlatNest) (rs : List Range) (m : List Bool) (h : CoverIn P rs m) where
  abbrev us : List Use
  us = uses (nest_of P).statements

  in-body : (a : ℕ) → a < length (accessed_in P) → get_or (map (λ (u : Use). u.statement) us) a 0 < P.statements
  in-body a l =
      let c = accessed-count P h.flat-nest in
      let k = use-count P h.flat-nest in
      let r = uses-of 0 (nest_of P).statements (get_d-mem us a no_use (omega arith)) in
      let t = r.there in
      let e = r.statement in
      let q = statement-count P h.flat-nest in
      let i : get_or (map (λ (u : Use). u.statement) us) a 0 ≡ (get_or us a no_use).statement = get_or-map (λ (u : Use). u.statement) us a no_use in
      omega arith

  flat-nest-pairs : PairsIn (pairs_of P rs) m
  flat-nest-pairs =
      let c = accessed-count P h.flat-nest in
      let k = use-count P h.flat-nest in
      record {
        accesses = h.flat-nest.accesses-ok;
        ranges = h.ranges;
        as-many-statements = length-map us (λ (u : Use). u.statement) ∙ k ∙ sym c;
        as-many-writes = length-map us (λ (u : Use). u.writes) ∙ k ∙ sym c;
        in-body = in-body;
        few = h.flat-nest.few-statements;
        room = h.room;
      }

  module _ (r : Uses) (u : UsesAre P r) where
    pub pairs-in : PairsIn (pairs (words_in P) (accessed_in P) (extents_in P) P.depth rs (take P.accesses r.statements)
        (take P.accesses r.writes) P.statements) m
    pairs-in = rw (u.statements, u.writes) flat-nest-pairs

    pub all-covered : (b : Bool)
        → (b ≡ true → CoveredTo (pairs (words_in P) (accessed_in P) (extents_in P) P.depth rs (take P.accesses r.statements)
        (take P.accesses r.writes) P.statements) m (length (accessed_in P)))
        → b ≡ true → FlatNestCovered P rs m
    all-covered b f e = subst (CoveredTo (pairs_of P rs) m) (accessed-count P h.flat-nest)
        (subst (λ (ws : List Bool). CoveredTo (pairs (words_in P) (accessed_in P) (extents_in P) P.depth rs (map (λ (u : Use). u.statement) us) ws
        P.statements) m (length (accessed_in P))) u.writes
        (subst (λ (ss : List ℕ). CoveredTo (pairs (words_in P) (accessed_in P) (extents_in P) P.depth rs ss (take P.accesses r.writes)
        P.statements) m (length (accessed_in P))) u.statements (f e)))

-- ---- few points

module _ (P : FlatNest) (m : List Bool) (h : Markable P m) (r : Result ℕ Refusal) (g : Counts P r) (n : ℕ) (e : r ≡ Ok n) (few : n ≤ 128) where
  space-accepted : space (nest_of P).loops ≡ accepted tt
  space-accepted = sym g.same ∙ ap passed e

  counted : n ≡ length (iterations (nest_of P).loops)
  counted = g.count n e

  few-in : EnumerateIn P 768
  few-in = record {
    flat-nest = h.flat-nest;
    space-accepted = space-accepted;
    fits = let a = mul-le-mul few h.flat-nest.nest.shallow in subst (λ (k : ℕ). k * P.depth ≤ 768) counted a;
  }

  pub list-few : ListIn P 768
  list-few = list-in P 768 few-in

  pub few-listed : (p : List ℤ) (k : ℕ) → PointsAre P p k → k ≤ 256
  few-listed p k q = let a = q.count in let b = counted in omega arith
