-- Steps and conflicting pairs: through steps a pair's vector stays in the set; steps that pass keep every conflicting pair in order; and where
-- all steps so far exchange or reverse, a reached step is refused with 10 exactly if some conflicting pair trades places at it.
use mathlib.Core.Path.{◌≡◌, refl, sym, ap, ap₂, ◌∙◌, subst}
use mathlib.Core.Logic.{◌↔◌, inl, inr, ⊎_elim}
use mathlib.Core.List.Memᴰ
use mathlib.Core.List.{List, [], ◌∷◌, ◌++◌}
use Prim.Native.Nat.{ℕ, ◌+◌, ◌<◌}
use native.Mathlib.Omega.{arith}
use lib.Dec.{T}
use lib.IntN.{ℤ}
use lib.ListN.{length}
use Rattle.integers.specs.Sign.{Sign}
use Rattle.lists.specs.Membership.{Mem, All}
use Rattle.lists.specs.Order.{Precedes}
use Rattle.lists.proofs.FlatMapLaws.{flat_map-mem}
use Rattle.lists.proofs.OrderLaws.{precedes-mem, ordered-precedes}
use Rattle.model.specs.Answer.{refused}
use Rattle.model.specs.Ticket.{Step, exchange, reversal, skew, section, circulation, Nest}
use Rattle.model.specs.Points.{iterations}
use Rattle.model.specs.Machine.{Instance, accesses, order}
use Rattle.model.specs.Directions.{signs, backwards, conflict}
use Rattle.model.specs.Steps.{forward, forward_all, undo_all, vectors, vectors_after, vectors_after_all, some_points_back}
use Rattle.model.specs.Judge.{judge_steps, directions_of}
use Rattle.model.specs.Inside.{Earlier}
use Rattle.model.specs.Limits.{nest_after_all}
use Rattle.model.specs.Shape.{Proper, WellFormed}
use Rattle.model.specs.Reasons.{StepsPass}
use Rattle.model.specs.Promises.{Turns, moved, Crossed, Trade}
use Rattle.model.proofs.Points.EarlierLaws.{backwards-earlier, earlier-asymmetric, earlier-irreflexive, earlier-total}
use Rattle.model.proofs.Points.PointLaws.{iterations-length, iterations-rise}
use Rattle.model.proofs.Steps.LengthLaws.{step-length}
use Rattle.model.proofs.Steps.UndoLaws.{undo-forward_all}
use Rattle.model.proofs.Steps.KeepLaws.{steps-length, steps-take-points}
use Rattle.model.proofs.Promise.KeptLaws.{statements-kept}
use Rattle.model.proofs.Steps.VectorLaws.{vectors-after, exchange-signs, reversal-signs, circulation-signs}
use Rattle.model.proofs.Machine.InstanceLaws.{Before, whole, instances-mem, mem-instances, instances-ordered, before-comes_first}
use Rattle.model.proofs.Machine.InstanceLaws.{comes_first-precedes}
use Rattle.model.proofs.Machine.DirectionLaws.{directions-mem, mem-directions}
use Rattle.model.proofs.Verdict.JudgeStepLaws.{points-back, back-points}
use Rattle.model.proofs.Verdict.JudgeLaws.{ten-exact}

-- ---- a pair of points through steps

pub carried : (ts : List Step) → All Proper ts → (vs : List (List Sign)) (p q : List ℤ) → length p ≡ length q → Mem (signs p q) vs
    → Mem (signs (forward_all ts p) (forward_all ts q)) (vectors_after_all ts vs)
unfolding forward_all vectors_after_all
carried [] h vs p q e m = m
carried (t ∷ ts) h vs p q e m =
    carried ts (λ u i. h u (Memᴰ.tail i)) (vectors_after t vs) (forward t p) (forward t q) (step-length t p q e)
    (vectors-after t (h t (Memᴰ.head refl)) vs p q e m)

pub pass-forwards : (ts : List Step) → All Proper ts → (vs : List (List Sign)) (N : Nest) → StepsPass ts vs N → (p q : List ℤ)
    → length p ≡ length q → Mem (signs p q) vs
    → (T (backwards (signs p q)) → ⊥) → T (backwards (signs (forward_all ts p) (forward_all ts q))) → ⊥
unfolding forward_all
pass-forwards [] h vs N s p q e m f = f
pass-forwards (t ∷ ts) h vs N s p q e m f =
    let c = vectors-after t (h t (Memᴰ.head refl)) vs p q e m in
    pass-forwards ts (λ u i. h u (Memᴰ.tail i)) (vectors_after t vs) _ s.1 (forward t p) (forward t q) (step-length t p q e) c
    (s.0.forwards (signs (forward t p) (forward t q)) c)

-- ---- steps whose tables give one vector

turns-proper : (t : Step) → Turns t → Proper t
turns-proper (exchange a) h = tt
turns-proper (reversal a) h = tt
turns-proper (skew a d c) h = absurd h
turns-proper (section a w) h = absurd h
turns-proper (circulation a b) h = tt

pub turns-signs : (t : Step) → Turns t → (p q : List ℤ) → length p ≡ length q → vectors t (signs p q) ≡ signs (forward t p) (forward t q) ∷ []
turns-signs (exchange a) h p q e = exchange-signs a p q e
turns-signs (reversal a) h p q e = reversal-signs a p q e
turns-signs (skew a d c) h p q e = absurd h
turns-signs (section a w) h p q e = absurd h
turns-signs (circulation a b) h p q e = circulation-signs a b p q e

-- a vector that some pair in R has after f
record Had (R : List ℤ → List ℤ → Type 0) (f : List ℤ → List ℤ) (v : List Sign) : Type 0 where
  source : List ℤ
  sink : List ℤ
  pair : R source sink
  has : v ≡ signs (f source) (f sink)

module _ (R : List ℤ → List ℤ → Type 0) where
  traced : (ts : List Step) → All Turns ts → (f : List ℤ → List ℤ) → ((p q : List ℤ) → R p q → length (f p) ≡ length (f q))
      → (vs : List (List Sign)) → All (Had R f) vs
      → (w : List Sign) → Mem w (vectors_after_all ts vs) → Had R (λ p. forward_all ts (f p)) w
  unfolding forward_all vectors_after_all vectors_after
  traced [] h f l vs a w m = a w m
  traced (t ∷ ts) h f l vs a w m =
      let turns = h t (Memᴰ.head refl) in
      traced ts (λ u i. h u (Memᴰ.tail i)) (λ p. forward t (f p)) (λ p q r. step-length t (f p) (f q) (l p q r)) (vectors_after t vs)
      (λ u i. let g = flat_map-mem (vectors t) vs i in let b = a g.0 g.1 in record {
        source = b.source;
        sink = b.sink;
        pair = b.pair;
        has = Memᴰ.eq_of_singleton (subst (Mem u) (ap (vectors t) b.has ∙ turns-signs t turns (f b.source) (f b.sink)
            (l b.source b.sink b.pair)) g.2);
      }) w m

-- ---- one step more

after-snoc : (front : List Step) (t : Step) (vs : List (List Sign))
    → vectors_after_all (front ++ t ∷ []) vs ≡ vectors_after t (vectors_after_all front vs)
unfolding vectors_after_all
after-snoc [] t vs = refl
after-snoc (u ∷ front) t vs = after-snoc front t (vectors_after u vs)

-- ---- pairs of a nest

module _ (N : Nest) where
  pub pair-lengths : (i j : Instance) → Precedes (order N) i j → length i.iteration ≡ length j.iteration
  pair-lengths i j h =
      let m = precedes-mem (order N) i j h in
      let a = instances-mem (length N.statements) (iterations N.loops) i m.0 in
      let b = instances-mem (length N.statements) (iterations N.loops) j m.1 in
      iterations-length N.loops i.iteration a.1 ∙ sym (iterations-length N.loops j.iteration b.1)

  -- a source does not come after its sink
  pub pair-forwards : (i j : Instance) → Precedes (order N) i j → T (backwards (signs i.iteration j.iteration)) → ⊥
  pair-forwards i j h b =
      let l : Earlier j.iteration i.iteration = subst T (backwards-earlier i.iteration j.iteration) b in
      go l (ordered-precedes (Before whole) (order N) (instances-ordered whole (length N.statements) (iterations N.loops)
      (iterations-rise N.loops)) i j h)
    where
      go : Earlier j.iteration i.iteration → Before whole i j → ⊥
      go l (inl e) = earlier-asymmetric i.iteration j.iteration e l
      go l (inr e) = earlier-irreflexive i.iteration (subst (λ p. Earlier p i.iteration) (sym e.0) l)

  -- a source stands before its sink: of an earlier iteration, or of the same one and earlier in the body
  pair-before : (i j : Instance) → Precedes (order N) i j → Before whole i j
  pair-before i j h = ordered-precedes (Before whole) (order N)
      (instances-ordered whole (length N.statements) (iterations N.loops) (iterations-rise N.loops)) i j h

  -- points that steps take to one point are one
  same-origin : (ts : List Step) (p q : List ℤ) → forward_all ts p ≡ forward_all ts q → p ≡ q
  same-origin ts p q e = sym (undo-forward_all ts p) ∙ ap (undo_all ts) e ∙ undo-forward_all ts q

  same-rises : (ts : List Step) (i j : Instance) → Precedes (order N) i j → forward_all ts i.iteration ≡ forward_all ts j.iteration
      → i.statement < j.statement
  same-rises ts i j h e = ⊎_elim
      (λ l. absurd (earlier-irreflexive i.iteration (subst (Earlier i.iteration) (sym (same-origin ts i.iteration j.iteration e)) l)))
      (λ r. r.1) (pair-before i j h)

  -- a pair that stands the other way round crossed
  pub no-longer-first : (ts : List Step) (i j : Instance) → Precedes (order N) i j → Precedes (order (nest_after_all ts N)) (moved ts j) (moved ts i)
      → Earlier (forward_all ts j.iteration) (forward_all ts i.iteration)
  no-longer-first ts i j h g = ⊎_elim (λ l. l) (λ r. absurd (let a = same-rises ts i j h (sym r.0) in let b = r.1 in omega arith))
      (ordered-precedes (Before whole) (order (nest_after_all ts N))
      (instances-ordered whole (length (nest_after_all ts N).statements) (iterations (nest_after_all ts N).loops)
      (iterations-rise (nest_after_all ts N).loops)) (moved ts j) (moved ts i) g)

  -- ---- where steps take a pair

  module _ (formed : WellFormed N) (ts : List Step) (proper : All Proper ts) where
    moved-mem : (i : Instance) → Mem i (order N) → Mem (moved ts i) (order (nest_after_all ts N))
    moved-mem i m = let r = instances-mem (length N.statements) (iterations N.loops) i m in
        mem-instances (length (nest_after_all ts N).statements) (iterations (nest_after_all ts N).loops) (moved ts i)
        (subst (λ n. i.statement < n) (sym (statements-kept ts N)) r.0) (steps-take-points ts proper N formed r.1)

    pub before-moved : (i j : Instance) → Mem i (order N) → Mem j (order N) → Before whole (moved ts i) (moved ts j)
        → Precedes (order (nest_after_all ts N)) (moved ts i) (moved ts j)
    before-moved i j m l h =
        comes_first-precedes (length (nest_after_all ts N).statements) (iterations (nest_after_all ts N).loops)
        (iterations-rise (nest_after_all ts N).loops) (moved ts i) (moved ts j)
        (moved-mem i m) (moved-mem j l) (before-comes_first (moved ts i) (moved ts j) h)

    still-first : (i j : Instance) → Precedes (order N) i j → (Earlier (forward_all ts j.iteration) (forward_all ts i.iteration) → ⊥)
        → Precedes (order (nest_after_all ts N)) (moved ts i) (moved ts j)
    still-first i j h f = let m = precedes-mem (order N) i j h in before-moved i j m.0 m.1
        (⊎_elim (λ e. inr (e, same-rises ts i j h e)) (λ r. ⊎_elim inl (λ g. absurd (f g)) r)
        (earlier-total (forward_all ts i.iteration) (forward_all ts j.iteration)
        (steps-length ts i.iteration j.iteration (pair-lengths i j h))))

  Conflicting : List ℤ → List ℤ → Type 0
  Conflicting p q = (i : Instance) × (j : Instance) × Precedes (order N) i j × T (conflict (accesses N.statements) i j) × (p ≡ i.iteration) ×
      (q ≡ j.iteration)

  -- a step that is reached when all steps so far exchange or reverse
  module _ (front : List Step) (t : Step) (turns : All Turns (front ++ t ∷ [])) (pass : StepsPass front (directions_of N) N) where
    proper : All Proper (front ++ t ∷ [])
    proper u m = turns-proper u (turns u m)

    within-front : All Proper front
    within-front u m = proper u (Memᴰ.append_left (t ∷ []) m)

    all-had : All (Had Conflicting (λ p. p)) (directions_of N)
    unfolding directions_of Conflicting
    all-had v m = let d = mem-directions (accesses N.statements) (order N) v m in
        record { source = d.0.iteration; sink = d.1.iteration; pair = (d.0, d.1, d.2, d.3, refl, refl); has = d.4 }

    same-lengths : (p q : List ℤ) → Conflicting p q → length p ≡ length q
    unfolding Conflicting
    same-lengths p q c = ap length c.4 ∙ pair-lengths c.0 c.1 c.2 ∙ sym (ap length c.5)

    in-directions : (i j : Instance) → Precedes (order N) i j → T (conflict (accesses N.statements) i j)
        → Mem (signs i.iteration j.iteration) (directions_of N)
    unfolding directions_of
    in-directions i j h c = directions-mem (accesses N.statements) (order N) i j h c

    still_kept : (i j : Instance) → Precedes (order N) i j → T (conflict (accesses N.statements) i j)
        → Earlier (forward_all front j.iteration) (forward_all front i.iteration) → ⊥
    still_kept i j h c e =
        pass-forwards front within-front (directions_of N) N pass i.iteration j.iteration (pair-lengths i j h) (in-directions i j h c)
        (pair-forwards i j h)
        (subst T (sym (backwards-earlier (forward_all front i.iteration) (forward_all front j.iteration))) e)

    had-crossed : (v : List Sign) → T (backwards v) → Had Conflicting (forward_all (front ++ t ∷ [])) v → Crossed N front t
    unfolding Conflicting
    had-crossed v b r =
        let i = r.pair.0 in
        let j = r.pair.1 in
        let fwd = forward_all (front ++ t ∷ []) in
        let e : v ≡ signs (fwd i.iteration) (fwd j.iteration) = r.has ∙ ap₂ (λ p q. signs (fwd p) (fwd q)) r.pair.4 r.pair.5 in
        record {
          source = i;
          sink = j;
          old = r.pair.2;
          clash = r.pair.3;
          kept = still_kept i j r.pair.2 r.pair.3;
          crossed = subst T (ap backwards e ∙ backwards-earlier (fwd i.iteration) (fwd j.iteration)) b;
        }

    back-crossed : T (some_points_back (vectors_after t (vectors_after_all front (directions_of N)))) → Crossed N front t
    back-crossed b =
        let r = points-back (vectors_after t (vectors_after_all front (directions_of N))) b in
        had-crossed r.vector r.back
        (traced Conflicting (front ++ t ∷ []) turns (λ p. p) same-lengths (directions_of N) all-had r.vector
        (subst (Mem r.vector) (sym (after-snoc front t (directions_of N))) r.there))

    crossed-back : Crossed N front t → T (some_points_back (vectors_after t (vectors_after_all front (directions_of N))))
    crossed-back r =
        let p = r.source.iteration in
        let q = r.sink.iteration in
        let fwd = forward_all (front ++ t ∷ []) in
        back-points (vectors_after t (vectors_after_all front (directions_of N))) (record {
          vector = signs (fwd p) (fwd q);
          there = subst (Mem (signs (fwd p) (fwd q))) (after-snoc front t (directions_of N))
              (carried (front ++ t ∷ []) proper (directions_of N) p q (pair-lengths r.source r.sink r.old)
              (in-directions r.source r.sink r.old r.clash));
          back = subst T (sym (backwards-earlier (fwd p) (fwd q))) r.crossed;
        })

    -- the nests before and after the step
    -- of any nest
    pub ten-crossed : (k : ℕ) (back : List Step)
        → (judge_steps k (front ++ t ∷ back) (directions_of N) N ≡ refused 10 (k + length front)) ↔ Crossed N front t
    ten-crossed k back = let e = ten-exact k front t back (directions_of N) N pass in (λ h. back-crossed (e.0 h), λ r. e.1 (crossed-back r))

    module _ (formed : WellFormed N) where
      crossed-trade : Crossed N front t → Trade N front t
      crossed-trade r = record {
        source = r.source;
        sink = r.sink;
        clash = r.clash;
        old = r.old;
        before = still-first formed front within-front r.source r.sink r.old r.kept;
        after = let m = precedes-mem (order N) r.source r.sink r.old in
            before-moved formed (front ++ t ∷ []) proper r.sink r.source m.1 m.0 (inl r.crossed);
      }

      trade-crossed : Trade N front t → Crossed N front t
      trade-crossed r = record {
        source = r.source;
        sink = r.sink;
        old = r.old;
        clash = r.clash;
        kept = still_kept r.source r.sink r.old r.clash;
        crossed = no-longer-first (front ++ t ∷ []) r.source r.sink r.old r.after;
      }

      pub ten-trades : (k : ℕ) (back : List Step) → (judge_steps k (front ++ t ∷ back) (directions_of N) N ≡ refused 10
          (k + length front)) ↔ Trade N front t
      ten-trades k back = let e = ten-exact k front t back (directions_of N) N pass in
          (λ h. crossed-trade (back-crossed (e.0 h)), λ r. e.1 (crossed-back (trade-crossed r)))
