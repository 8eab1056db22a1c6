-- The blocks that are marked for two points are the kinds of conflict that the model finds at them (`conflict-is`); points without
-- conflicting accesses have none (`apart_none`).
use mathlib.Core.Path.{◌≡◌, sym, ap, ap₂, ◌∙◌, subst}
use mathlib.Core.Bool.{Bool, true, false, ◌&&◌, ◌||◌}
use mathlib.Core.List.{List}
use Prim.Native.Nat.{ℕ, ◌+◌, ◌*◌, ◌<◌}
use native.Mathlib.Omega.{arith}
use lib.Dec.{T, eqb, ltb, eqb→eq, ltb→lt, lt→ltb}
use lib.ListN.{length}
use borrow.Author.Tests.{eq-eqb}
use Rattle.lists.specs.Membership.{Mem}
use Rattle.lists.proofs.PartLaws.{row-unique}
use Rattle.lists.proofs.TestLaws.{true-T, T-same, false-not-T, and_both, and_intro, equal-test}
use Rattle.model.specs.Ticket.{Statement}
use Rattle.model.specs.Machine.{same, element, body_at, accesses}
use Rattle.model.specs.Directions.{Kind, kind_count, conflict_of}
use Rattle.model.proofs.Machine.ElementLaws.{same-decides}
use Rattle.model.proofs.Listing.LineLaws.{clash-exact}
use Rattle.dependence_vectors.specs.Numbers.{kind_number}
use Rattle.dependence_pair_search.specs.Search.{some}
use Rattle.dependence_pair_search.proofs.SomeLaws.{some-there, there-some}
use Rattle.dependence_search.specs.Flat.{Flat, number_at, statement_of, writes_at, point_at, use_at, Describes, kind_of}
use Rattle.dependence_search.proofs.UseLaws.{side, as_many, access-of, of-access}
use Rattle.dependence_search.proofs.KindLaws.{source_writes, sink_writes, kind-is, kind-small, is-kind, source-side, sink-side}
use Rattle.dependence_search.proofs.OrderLaws.{at}
use Rattle.pair_partners.specs.Chains.{names}
use Rattle.pair_partners.specs.Partners.{meets_access, conflicting}
use Rattle.pair_records.specs.Conflicts.{block_of, meets, clashes}

equal-passes : (m n : ℕ) → m ≡ n → T (eqb m n)
equal-passes m n e = true-T (eqb m n) (eq-eqb m n e)

module _ (F : Flat) (x y : ℕ) where
  -- what the flat data say of block j
  abbrev pub marks : ℕ → Bool
  marks = clashes F.count F.numbers F.statements F.writes F.body x y

  abbrev kind : ℕ → ℕ → ℕ
  kind a b = kind_of (writes_at F a) (writes_at F b)

  abbrev block : ℕ → ℕ → ℕ
  block a b = (statement_of F a * F.body + statement_of F b) * kind_count + kind a b

  abbrev meeting : ℕ → ℕ → ℕ → Bool
  meeting j a b = meets F.count F.numbers F.statements F.writes F.body x y j a b

  -- access a at point x and access b at point y name one element, and their block is j
  record Meets (j : ℕ) : Type 0 where
    pub a : ℕ
    pub b : ℕ
    pub source : a < length F.statements
    pub sink : b < length F.statements
    pub conflicts : kind a b < kind_count
    pub number : number_at F a x ≡ number_at F b y
    pub placed : block a b ≡ j

  marked-meets : (j : ℕ) → T (marks j) → Meets j
  unfolding clashes meets block_of
  marked-meets j h =
      let p = some-there (length F.statements) (λ a. some (length F.statements) (meeting j a)) h in
      let q = some-there (length F.statements) (meeting j p.0) p.2 in
      let a = p.0 in let b = q.0 in
      let r = and_both (eqb (number_at F a x) (number_at F b y)) (ltb (kind a b) kind_count && eqb (block a b) j) q.2 in
      let s = and_both (ltb (kind a b) kind_count) (eqb (block a b) j) r.1 in
      record {
        a = a;
        b = b;
        source = p.1;
        sink = q.1;
        conflicts = ltb→lt (kind a b) kind_count s.0;
        number = eqb→eq (number_at F a x) (number_at F b y) r.0;
        placed = eqb→eq (block a b) j s.1;
      }

  meets-marked : (j : ℕ) → Meets j → T (marks j)
  unfolding clashes meets block_of
  meets-marked j m = let a = m.a in let b = m.b in
      there-some (length F.statements) a (λ a. some (length F.statements) (meeting j a)) m.source
      (there-some (length F.statements) b (meeting j a) m.sink
      (and_intro (eqb (number_at F a x) (number_at F b y)) (ltb (kind a b) kind_count && eqb (block a b) j)
      (equal-passes (number_at F a x) (number_at F b y) m.number)
      (and_intro (ltb (kind a b) kind_count) (eqb (block a b) j) (lt→ltb (kind a b) kind_count m.conflicts)
      (equal-passes (block a b) j m.placed))))

  -- of two accesses with a kind of conflict one writes
  one_writes : (v w : Bool) → kind_of v w < kind_count → T (v || w)
  one_writes true w h = tt
  one_writes false true h = tt
  one_writes false false h = absurd (omega arith)

  -- points without conflicting accesses
  pub apart_none : conflicting F.numbers F.writes F.count (length F.statements) x y ≡ false → (j : ℕ) → T (marks j) → ⊥
  unfolding conflicting names
  apart_none e j h =
      let m = marked-meets j h in let a = m.a in let b = m.b in
      let l = length F.statements in
      false-not-T (conflicting F.numbers F.writes F.count l x y) e
      (there-some l a (λ k. meets_access F.numbers F.writes F.count l x k y) m.source
      (there-some l b (λ k. (writes_at F a || writes_at F k) && eqb (number_at F k y) (number_at F a x)) m.sink
      (and_intro (writes_at F a || writes_at F b) (eqb (number_at F b y) (number_at F a x)) (one_writes (writes_at F a) (writes_at F b) m.conflicts)
      (equal-passes (number_at F b y) (number_at F a x) (sym m.number)))))

  -- ---- the model's conflicts

  module _ (ss : List Statement) (d : Describes ss F) (early : x < F.count) (late : y < F.count)
      (in_body : (a : ℕ) → a < length F.statements → statement_of F a < F.body) where
    same-element : (a b : ℕ) → a < length F.statements → b < length F.statements
        → eqb (number_at F a x) (number_at F b y) ≡ same (element (point_at F x) (use_at ss a).access) (element (point_at F y) (use_at ss b).access)
    same-element a b h g = let e = as_many ss F d in d.elements a b x y (omega arith) (omega arith) early late

    module _ (s t : ℕ) (k : Kind) (source_in : s < F.body) (sink-in : t < F.body) where
      abbrev placed : ℕ
      placed = (s * F.body + t) * kind_count + kind_number k

      meets-conflict : Meets placed → T (conflict_of k (accesses ss) (at F s x) (at F t y))
      meets-conflict m =
          let a = m.a in let b = m.b in
          let p = row-unique kind_count (statement_of F a * F.body + statement_of F b) (s * F.body + t) (kind a b) (kind_number k) m.conflicts
          (kind-small k) m.placed in
          let q = row-unique F.body (statement_of F a) s (statement_of F b) t (in_body b m.sink) sink-in p.0 in
          let w = is-kind (writes_at F a) (writes_at F b) k p.1 in
          (clash-exact ss k (at F s x) (at F t y)).1 (record {
            early = (use_at ss a).access;
            late = (use_at ss b).access;
            of-source = subst (Mem (use_at ss a).access) (ap₂ (λ w s. side w (body_at ss s)) w.0 q.0 ∙ sym (source-side k (body_at ss s)))
                (access-of ss F d a m.source);
            of-sink = subst (Mem (use_at ss b).access) (ap₂ (λ w s. side w (body_at ss s)) w.1 q.1 ∙ sym (sink-side k (body_at ss t)))
                (access-of ss F d b m.sink);
            meet = same-decides.equal (element (point_at F x) (use_at ss a).access) (element (point_at F y) (use_at ss b).access)
                (subst T (same-element a b m.source m.sink) (equal-passes (number_at F a x) (number_at F b y) m.number));
          })

      conflict-meets : T (conflict_of k (accesses ss) (at F s x) (at F t y)) → Meets placed
      conflict-meets h =
          let n = d.body in
          let c = (clash-exact ss k (at F s x) (at F t y)).0 h in
          let a = of-access ss F d s (source_writes k) (omega arith) (subst (Mem c.early) (source-side k (body_at ss s)) c.of-source) in
          let b = of-access ss F d t (sink_writes k) (omega arith) (subst (Mem c.late) (sink-side k (body_at ss t)) c.of-sink) in
          let i : kind a.0 b.0 ≡ kind_number k = ap₂ kind_of a.3 b.3 ∙ kind-is k in
          record {
            a = a.0;
            b = b.0;
            source = a.1;
            sink = b.1;
            conflicts = let l = kind-small k in omega arith;
            number = eqb→eq (number_at F a.0 x) (number_at F b.0 y) (subst T (sym (same-element a.0 b.0 a.1 b.1))
                (equal-test same same-decides (element (point_at F x) (use_at ss a.0).access) (element (point_at F y) (use_at ss b.0).access)
                (ap (element (point_at F x)) a.4 ∙ c.meet ∙ sym (ap (element (point_at F y)) b.4))));
            placed = ap₂ (λ m r. m * kind_count + r) (ap₂ (λ u v. u * F.body + v) a.2 b.2) i;
          }

      pub conflict-is : conflict_of k (accesses ss) (at F s x) (at F t y) ≡ marks placed
      conflict-is = T-same (conflict_of k (accesses ss) (at F s x) (at F t y)) (marks placed) (λ h. meets-marked placed (conflict-meets h))
          (λ h. meets-conflict (marked-meets placed h))
