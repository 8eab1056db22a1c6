-- The loop E of a section: a side, which is a constant limit and then the old limits changed; and its two sides.
use mathlib.Core.Path.{◌≡◌, refl, sym, ap, ap₂, ◌∙◌, subst}
use mathlib.Core.Bool.{Bool, true, false, ◌&&◌}
use mathlib.Core.Logic.{inr}
use mathlib.Core.List.{List, ◌∷◌, map}
use Prim.Native.Nat.{ℕ, zero, suc, ◌+◌, ◌*◌, ◌-◌, ◌≤◌, ◌<◌}
use native.Mathlib.Omega.{arith}
use native.Mathlib.Nat.{add-zero}
use native.Mathlib.Numerals.{add-one}
use lib.IntN.{ℤ, pos}
use lib.Signed.{◌<ℤ◌}
use lib.ListN.{length, get_or, set, length-replicate}
use Rattle.lists.specs.Parts.{put}
use Rattle.lists.specs.Tests.{all}
use Rattle.lists.proofs.TestLaws.{true-T}
use Rattle.integers.specs.Affine.{Within}
use Rattle.integers.proofs.RingLaws.{zarith}
use Rattle.model.specs.Ticket.{Limit}
use Rattle.model.specs.Encode.{limit_words}
use Rattle.model.specs.Limits.{constant_limit, element_limit}
use Rattle.model.specs.Judge.{small_limit}
use Rattle.nest_flat.specs.Flat.{limit_at, limits_at, loop_at, Positive}
use Rattle.nest_rows.specs.Rows.{Tried}
use Rattle.step_limits.specs.Change.{change_of, outer_after, Allowed}
use Rattle.step_limits.specs.declared.Change.TheVariants.{SectionElement}
use Rattle.ticket_loops.proofs.PutLaws.{within-put}
use Rattle.step_limits.proofs.FlatLaws.{limit-same, limit-put, head-put, put-before, put-after, limit-small, words-within}
use Rattle.step_changes.specs.Sides.{SideIn, SideMade, changed_side}
use Rattle.step_changes.specs.Loops.{LoopMade}
use Rattle.step_changes.proofs.LoopLaws.{limits-same, positive-same, lower-stops, upper-stops, loop-ends}
use Rattle.step_loops.specs.Sections.{element_side, element_loop, ElementSideIn, ElementLoopIn}

-- ---- a side

module _ (s : List ℤ) (from n to count w v : ℕ) (p : ElementSideIn s from n to count w v) (X : Limit) (q : X ≡ constant_limit n v) (r : Bool)
    (t : List ℤ) (y : Tried (small_limit X) s (to * 8) (limit_words X) r t) where
  sides : element_side n w v (limits_at s n from count) ≡ X ∷ changed_side (SectionElement w) s from n count
  unfolding element_side changed_side change_of
  sides = ap (◌∷ map (element_limit w) (limits_at s n from count)) (sym q)

  pub element-stops : r ≡ false → SideMade s to (n + 1) (count + 1) (element_side n w v (limits_at s n from count)) false t
  unfolding all
  element-stops e = rw sides (record {
    room = y.room;
    tested = sym (ap (◌&& all small_limit (changed_side (SectionElement w) s from n count)) (sym y.passed ∙ e));
    whole = λ q. absurd (let z : ◌≡◌ {A = ℕ} 0 1 = cc in omega arith);
  })

  module _ (e : r ≡ true) where
    written : t ≡ put s (to * 8) (limit_words X)
    written = y.made e

    sized : length X.coefficients ≡ n + 1
    unfolding constant_limit
    sized = ap (λ (l : Limit). length l.coefficients) q ∙ length-replicate (suc n) (pos 0) ∙ sym (add-one n)

    one : X.multiplier ≡ 1
    unfolding constant_limit
    one = ap (λ (l : Limit). l.multiplier) q

    fits : to * 8 + 8 ≤ length s
    fits = let f = p.room in omega arith

    shallow : n + 1 ≤ 6
    shallow = let f = p.shallow in omega arith

    before : (i : ℕ) → i < to * 8 → get_or t i (pos 0) ≡ get_or s i (pos 0)
    before i h = ap (λ l. get_or l i (pos 0)) written ∙ put-before s to (n + 1) X shallow sized fits i h

    after : (i : ℕ) → to * 8 + 8 ≤ i → get_or t i (pos 0) ≡ get_or s i (pos 0)
    after i h = ap (λ l. get_or l i (pos 0)) written ∙ put-after s to (n + 1) X shallow sized fits i h

    passes : small_limit X ≡ true
    passes = sym y.passed ∙ e

    pub element-in : SideIn (SectionElement w) t from n (to + 1) (n + 1) count
    unfolding Allowed outer_after
    element-in =
        let f = p.shallow in
        let g = p.room in
        let a = p.apart in
        let m = y.room in
        record {
          allowed = (f, p.narrow.0);
          outer = refl;
          shallow = (omega arith, omega arith);
          reads = omega arith;
          writes = omega arith;
          clear = inr (omega arith);
          small = subst (Within 32767) (sym written) (within-put 32767 s (to * 8) (limit_words X) p.small
              (words-within X (limit-small X (true-T (small_limit X) passes))));
          positive = positive-same s t from count (λ i h g. before i (omega arith)) p.positive;
        }

    still : changed_side (SectionElement w) t from n count ≡ changed_side (SectionElement w) s from n count
    unfolding changed_side
    still =
        let f = p.shallow in
        let g = p.room in
        let a = p.apart in
        ap (map (change_of (SectionElement w))) (limits-same s t n from count (omega arith) (omega arith) y.room (λ i h g. before i (omega arith)))

    module _ (r' : Bool) (t' : List ℤ) (m : SideMade t (to + 1) (n + 1) count (changed_side (SectionElement w) t from n count) r' t') where
      all_tested : r' ≡ all small_limit (X ∷ changed_side (SectionElement w) s from n count)
      unfolding all
      all_tested = m.tested ∙ ap (all small_limit) still ∙ sym (ap (◌&& all small_limit (changed_side (SectionElement w) s from n count)) passes)

      module _ (f : r' ≡ true) where
        head-kept : (i : ℕ) → i < to * 8 + 8 → get_or t' i (pos 0) ≡ get_or t i (pos 0)
        head-kept i h = (m.whole f).kept.before i (omega arith)

        first_read : limit_at t' (n + 1) to ≡ X
        first_read = let z = y.room in let g = fits in
            limit-same t t' (n + 1) to shallow (omega arith) m.room (λ i h g. head-kept i g) ∙ ap (λ l. limit_at l (n + 1) to) written
            ∙ limit-put s to (n + 1) X shallow sized fits

        all_read : limits_at t' (n + 1) to (count + 1) ≡ X ∷ changed_side (SectionElement w) s from n count
        unfolding limits_at
        all_read = ap (limits_at t' (n + 1) to) (add-one count)
            ∙ ap₂ ◌∷◌ first_read (ap (λ i. limits_at t' (n + 1) i count) (sym (add-one to)) ∙ (m.whole f).made ∙ still)

        first-positive : pos 0 <ℤ get_or t' (to * 8) (pos 0)
        first-positive =
            let u = one in
            subst (λ (z : ℤ). pos 0 <ℤ z) (sym (head-kept (to * 8) (omega arith) ∙ ap (λ l. get_or l (to * 8) (pos 0)) written
            ∙ head-put s to (n + 1) X shallow sized fits)) (omega zarith)

        all-positive : Positive t' to (count + 1)
        all-positive zero h = subst (λ (i : ℕ). pos 0 <ℤ get_or t' (i * 8) (pos 0)) (sym (add-zero to)) first-positive
        all-positive (suc i) h = let a : to + 1 + i ≡ to + suc i = omega arith in subst (λ (i : ℕ). pos 0 <ℤ get_or t' (i * 8) (pos 0)) a
            ((m.whole f).positive i (omega arith))

      pub element-ends : SideMade s to (n + 1) (count + 1) (element_side n w v (limits_at s n from count)) r' t'
      element-ends = rw sides (record {
        room = m.room ∙ y.room;
        tested = all_tested;
        whole = λ f. record {
          made = all_read f;
          positive = all-positive f;
          small = (m.whole f).small;
          kept = record {
            before = λ i h. (m.whole f).kept.before i (omega arith) ∙ before i h;
            after = λ i h. (m.whole f).kept.after i (omega arith) ∙ after i (omega arith);
          };
        };
      })

-- ---- both sides

module _ (s : List ℤ) (c : List ℕ) (a w : ℕ) (p : ElementLoopIn s c a w) where
  abbrev low : ℕ
  low = get_or c (a * 2) 0

  abbrev up : ℕ
  up = get_or c (a * 2 + 1) 0

  abbrev lows : List Limit
  lows = element_side a w 0 (limits_at s a (a * 32) low)

  abbrev ups : List Limit
  ups = element_side a w (w - 1) (limits_at s a (a * 32 + 16) up)

  both : element_loop a w (loop_at s c a) ≡ record { lower = lows; upper = ups }
  unfolding element_loop loop_at
  both = refl

  some-low : (1 ≤ low + 1) × (low + 1 ≤ 16)
  some-low = let f = p.few in (omega arith, omega arith)

  some_up : (1 ≤ up + 1) × (up + 1 ≤ 16)
  some_up = let f = p.few in (omega arith, omega arith)

  pub lower_in : ElementSideIn s (a * 32) a ((a + 1) * 32) low w 0
  lower_in =
      let d = p.deep in
      let n = p.words in
      let f = p.few in
      record {
        shallow = omega arith;
        apart = omega arith;
        room = omega arith;
        narrow = (p.narrow, omega arith);
        small = p.small;
        positive = p.there.lower-positive;
      }

  module _ (r : Bool) (t : List ℤ) (m : SideMade s ((a + 1) * 32) (a + 1) (low + 1) lows r t) where
    pub loop-stops : r ≡ false → LoopMade s c (a + 1) (element_loop a w (loop_at s c a)) false t c
    loop-stops e = rw both (lower-stops s c (a + 1) (low + 1) (up + 1) lows ups p.words p.counts p.deep some-low some_up r t m e)

    module _ (e : r ≡ true) where
      points-counted : (i : ℕ) → i < (a + 1) * 256 → get_or t i (pos 0) ≡ get_or s i (pos 0)
      points-counted i h = (m.whole e).kept.before i (omega arith)

      pub upper_in : ElementSideIn t (a * 32 + 16) a ((a + 1) * 32 + 16) up w (w - 1)
      upper_in =
          let d = p.deep in
          let n = p.words in
          let f = p.few in
          let z = m.room in
          let g = p.narrow in
          record {
            shallow = omega arith;
            apart = omega arith;
            room = omega arith;
            narrow = (p.narrow, omega arith);
            small = (m.whole e).small;
            positive = positive-same s t (a * 32 + 16) up (λ i h g. points-counted i (omega arith)) p.there.upper-positive;
          }

      module _ (r' : Bool) (t' : List ℤ) (m' : SideMade t ((a + 1) * 32 + 16) (a + 1) (up + 1)
          (element_side a w (w - 1) (limits_at t a (a * 32 + 16) up)) r' t') where
        upper-still : limits_at t a (a * 32 + 16) up ≡ limits_at s a (a * 32 + 16) up
        upper-still =
            let d = p.deep in
            let n = p.words in
            let f = p.few in
            limits-same s t a (a * 32 + 16) up (omega arith) (omega arith) m.room (λ i h g. points-counted i (omega arith))

        second : SideMade t ((a + 1) * 32 + 16) (a + 1) (up + 1) ups r' t'
        second = subst (λ (ls : List Limit). SideMade t ((a + 1) * 32 + 16) (a + 1) (up + 1) (element_side a w (w - 1) ls) r' t') upper-still m'

        pub loop-stops-later : r' ≡ false → LoopMade s c (a + 1) (element_loop a w (loop_at s c a)) false t' c
        loop-stops-later f = rw both (upper-stops s c (a + 1) (low + 1) (up + 1) lows ups p.words p.counts p.deep some-low some_up r t m e
            r' t' second f)

        pub loop-made : r' ≡ true → LoopMade s c (a + 1) (element_loop a w (loop_at s c a)) true t'
            (set (set c ((a + 1) * 2) (low + 1)) ((a + 1) * 2 + 1) (up + 1))
        loop-made f = rw both (loop-ends s c (a + 1) (low + 1) (up + 1) lows ups p.words p.counts p.deep some-low some_up r t m e r' t'
            second f)
