-- What a line of a listing means: it is there exactly if two conflicting instances have it (`line-exact`), each line once and in order
-- (`lines-distinct`, `lines-ordered`); then conflicts as accesses that name one element; then the vectors of the lines are the set of
-- vectors, kinds merged (`merged`).
use mathlib.Core.Path.{◌≡◌, refl, sym, ap, ◌∙◌, subst}
use mathlib.Core.Bool.{Bool, ◌&&◌}
use mathlib.Core.Logic.{◌↔◌}
use mathlib.Core.List.Memᴰ
use mathlib.Core.List.{List, [], ◌∷◌, map}
use Prim.Native.Nat.{ℕ, suc}
use native.Mathlib.Omega.{arith}
use lib.Dec.{T}
use lib.IntN.{ℤ}
use lib.ListN.{length}
use Rattle.integers.specs.Sign.{Sign, less, equal, greater}
use Rattle.lists.specs.Membership.{Mem, All, Distinct}
use Rattle.lists.specs.Order.{Ordered}
use Rattle.lists.specs.Tests.{Decides, any, same_by}
use Rattle.lists.proofs.OrderLaws.{ordered-distinct, precedes-mem}
use Rattle.lists.proofs.TestLaws.{and_both, and_intro, any_some, some-any, select-mem, mem-select, same-decides, equal-test, select-ordered}
use Rattle.model.specs.Ticket.{Access, Statement}
use Rattle.model.specs.Machine.{element, Instance, Accesses, body_at, accesses, instances}
use Rattle.model.specs.Inside.{Earlier}
use Rattle.model.specs.Directions.{signs, Kind, flow, anti, output, conflict_of, directions, Line, comes_first, same_sign, occurs, all_lines, lines}
use Rattle.model.specs.Promises.{LineBefore, Fitting, source_accesses, sink_accesses}
use Rattle.model.proofs.Machine.ElementLaws.{source_of, sink_of, conflict_of-shared, shared-conflict_of, conflict-kind, kind-conflict}
use Rattle.model.proofs.Machine.InstanceLaws.{instances-mem, mem-instances, precedes-comes_first, comes_first-precedes}
use Rattle.model.proofs.Machine.DirectionLaws.{directions-mem, mem-directions}
use Rattle.model.proofs.Listing.LineOrderLaws.{line-irreflexive, all_lines-mem, mem-all_lines, all_lines-ordered}

-- ---- signs compared

pub sign-decides : Decides same_sign
sign-decides = record { equal = equal-when; itself = passes }
  where
    equal-when : (s t : Sign) → T (same_sign s t) → s ≡ t
    equal-when less less h = refl
    equal-when less equal h = absurd h
    equal-when less greater h = absurd h
    equal-when equal less h = absurd h
    equal-when equal equal h = refl
    equal-when equal greater h = absurd h
    equal-when greater less h = absurd h
    equal-when greater equal h = absurd h
    equal-when greater greater h = refl

    passes : (s : Sign) → T (same_sign s s)
    passes less = tt
    passes equal = tt
    passes greater = tt

vectors-decide : Decides (same_by same_sign)
vectors-decide = same-decides same_sign sign-decides

-- ---- lines

-- two points at which the source comes first, in a conflict of the kind, with the signs
pub record Shows (A : Accesses) (ps : List (List ℤ)) (l : Line) : Type 0 where
  pub early : List ℤ
  pub late : List ℤ
  pub early-there : Mem early ps
  pub late-there : Mem late ps
  pub first : T (comes_first (record { statement = l.source; iteration = early }) (record { statement = l.sink; iteration = late }))
  pub clash : T (conflict_of l.kind A (record { statement = l.source; iteration = early }) (record { statement = l.sink; iteration = late }))
  pub vector : signs early late ≡ l.vector

module _ (A : Accesses) (ps : List (List ℤ)) (l : Line) where
  abbrev source : List ℤ → Instance
  source p = record { statement = l.source; iteration = p }

  abbrev sink : List ℤ → Instance
  sink q = record { statement = l.sink; iteration = q }

  abbrev has : List ℤ → List ℤ → Bool
  has p q = comes_first (source p) (sink q) && (conflict_of l.kind A (source p) (sink q) && same_by same_sign (signs p q) l.vector)

  occurs-shows : T (occurs A ps l) → Shows A ps l
  unfolding occurs
  occurs-shows h =
      let r = any_some (λ p. any (λ q. has p q) ps) ps h in
      let s = any_some (λ q. has r.0 q) ps r.2 in
      let a = and_both (comes_first (source r.0) (sink s.0)) (conflict_of l.kind A (source r.0) (sink s.0) && same_by same_sign
      (signs r.0 s.0) l.vector) s.2 in
      let b = and_both (conflict_of l.kind A (source r.0) (sink s.0)) (same_by same_sign (signs r.0 s.0) l.vector) a.1 in
      record {
        early = r.0;
        late = s.0;
        early-there = r.1;
        late-there = s.1;
        first = a.0;
        clash = b.0;
        vector = vectors-decide.equal (signs r.0 s.0) l.vector b.1;
      }

  shows-occurs : Shows A ps l → T (occurs A ps l)
  unfolding occurs
  shows-occurs r = some-any (λ p. any (λ q. has p q) ps) ps r.early-there (some-any (λ q. has r.early q) ps r.late-there
      (and_intro (comes_first (source r.early) (sink r.late)) (conflict_of l.kind A (source r.early) (sink r.late) && same_by same_sign
      (signs r.early r.late) l.vector) r.first
      (and_intro (conflict_of l.kind A (source r.early) (sink r.late)) (same_by same_sign (signs r.early r.late) l.vector) r.clash
      (equal-test (same_by same_sign) vectors-decide (signs r.early r.late) l.vector r.vector))))

module _ (A : Accesses) (n d : ℕ) (ps : List (List ℤ)) where
  pub line-exact : (l : Line) → Mem l (lines A n d ps) ↔ (Fitting n d l × Shows A ps l)
  unfolding lines
  line-exact l = (
    λ m. let r = select-mem (occurs A ps) (all_lines n d) m in let q = all_lines-mem n d r.0 in
        (record { source = q.0; sink = q.1; signs = q.2 }, occurs-shows A ps l r.1),
    λ h. mem-select (occurs A ps) (all_lines n d) (mem-all_lines n d l h.0.source h.0.sink h.0.signs) (shows-occurs A ps l h.1),
  )

  -- by source, sink, kind, signs
  pub lines-ordered : Ordered LineBefore (lines A n d ps)
  unfolding lines
  lines-ordered = select-ordered LineBefore (occurs A ps) (all_lines n d) (all_lines-ordered n d)

  pub lines-distinct : Distinct (lines A n d ps)
  lines-distinct = ordered-distinct LineBefore line-irreflexive (lines A n d ps) lines-ordered

-- ---- conflicts of a body's accesses

-- an access of the source and one of the sink name one element
pub record Clash (k : Kind) (ss : List Statement) (i j : Instance) : Type 0 where
  pub early : Access
  pub late : Access
  pub of-source : Mem early (source_accesses k (body_at ss i.statement))
  pub of-sink : Mem late (sink_accesses k (body_at ss j.statement))
  pub meet : element i.iteration early ≡ element j.iteration late

module _ (ss : List Statement) where
  source-elements : (k : Kind) (i : Instance) → source_of k (accesses ss) i ≡ map (element i.iteration)
      (source_accesses k (body_at ss i.statement))
  unfolding accesses
  source-elements flow i = refl
  source-elements anti i = refl
  source-elements output i = refl

  sink-elements : (k : Kind) (i : Instance) → sink_of k (accesses ss) i ≡ map (element i.iteration) (sink_accesses k (body_at ss i.statement))
  unfolding accesses
  sink-elements flow i = refl
  sink-elements anti i = refl
  sink-elements output i = refl

  pub clash-exact : (k : Kind) (i j : Instance) → T (conflict_of k (accesses ss) i j) ↔ Clash k ss i j
  clash-exact k i j = (
    λ h. let r = conflict_of-shared (accesses ss) i j k h in
        let a = Memᴰ.of_map (element i.iteration) (source_accesses k (body_at ss i.statement)) (subst (Mem r.0) (source-elements k i) r.1)
        in
        let b = Memᴰ.of_map (element j.iteration) (sink_accesses k (body_at ss j.statement)) (subst (Mem r.0) (sink-elements k j) r.2) in
        record { early = a.0; late = b.0; of-source = a.1; of-sink = b.1; meet = a.2 ∙ sym b.2 },
    λ c. shared-conflict_of (accesses ss) i j k
        (subst (Mem (element i.iteration c.early)) (sym (source-elements k i)) (Memᴰ.map (element i.iteration) c.of-source))
        (subst (Mem (element i.iteration c.early)) (sym (sink-elements k j))
        (Memᴰ.cast c.meet (Memᴰ.map (element j.iteration) c.of-sink))),
  )

-- ---- kinds merged

signs-length : (p q : List ℤ) → length p ≡ length q → length (signs p q) ≡ length p
unfolding signs
signs-length [] q e = refl
signs-length (x ∷ p) [] e = absurd (omega arith)
signs-length (x ∷ p) (y ∷ q) e = ap suc (signs-length p q (omega arith))

module _ (A : Accesses) (n d : ℕ) (ps : List (List ℤ)) (o : Ordered Earlier ps) (sized : All (λ p. length p ≡ d) ps) where
  pub merged : (v : List Sign) → Mem v (map (λ l. l.vector) (lines A n d ps)) ↔ Mem v (directions A (instances n ps))
  merged v = (to, from)
    where
      to : Mem v (map (λ l. l.vector) (lines A n d ps)) → Mem v (directions A (instances n ps))
      to m =
          let r = Memᴰ.of_map (λ l. l.vector) (lines A n d ps) m in
          let l = r.0 in
          let h = (line-exact A n d ps l).0 r.1 in
          let s = h.1 in
          let i = source A ps l s.early in
          let j = sink A ps l s.late in
          Memᴰ.cast (sym (s.vector ∙ r.2)) (directions-mem A (instances n ps) i j
          (comes_first-precedes n ps o i j (mem-instances n ps i h.0.source s.early-there) (mem-instances n ps j h.0.sink s.late-there)
          s.first)
          (kind-conflict A i j l.kind s.clash))

      from : Mem v (directions A (instances n ps)) → Mem v (map (λ l. l.vector) (lines A n d ps))
      from m =
          let r = mem-directions A (instances n ps) v m in
          let i = r.0 in
          let j = r.1 in
          let b = precedes-mem (instances n ps) i j r.2 in
          let a = instances-mem n ps i b.0 in
          let c = instances-mem n ps j b.1 in
          let k = conflict-kind A i j r.3 in
          let l : Line = record { kind = k.0; source = i.statement; sink = j.statement; vector = signs i.iteration j.iteration } in
          Memᴰ.cast r.4 (Memᴰ.map (λ l. l.vector) ((line-exact A n d ps l).1 (
            record {
              source = a.0;
              sink = c.0;
              signs = signs-length i.iteration j.iteration
                  (sized i.iteration a.1 ∙ sym (sized j.iteration c.1)) ∙ sized i.iteration a.1;
            },
            record {
              early = i.iteration;
              late = j.iteration;
              early-there = a.1;
              late-there = c.1;
              first = precedes-comes_first n ps o i j
                  r.2;
              clash = k.1;
              vector = refl;
            },
          )))
