-- A side whose first i limits are changed and put (`Under`): how it begins, what is read next, what is put, how it ends.
use mathlib.Core.Path.{◌≡◌, refl, sym, ap, ◌∙◌, subst}
use mathlib.Core.Bool.{Bool, true, false}
use mathlib.Core.Logic.{⊎_elim}
use mathlib.Core.List.{List}
use Prim.Native.Nat.{ℕ, ◌+◌, ◌*◌, ◌≤◌, ◌<◌}
use native.Mathlib.Omega.{arith}
use native.Mathlib.Decide.{dec_lt}
use native.Mathlib.Nat.{mul-le-mul}
use lib.Dec.{T}
use lib.IntN.{ℤ, pos}
use lib.Signed.{◌<ℤ◌}
use lib.ListN.{length, get_or}
use lib.Seq.{length-take-le}
use Rattle.lists.specs.Parts.{put}
use Rattle.lists.proofs.TestLaws.{T_true, true-T}
use Rattle.integers.specs.Affine.{Within}
use Rattle.integers.proofs.RingLaws.{zarith}
use Rattle.model.specs.Ticket as Model
use Rattle.model.specs.Limits.{on_coefficients, negated, skew_limit, section_lower, section_upper, element_limit}
use Rattle.model.specs.Encode.{limit_words}
use Rattle.model.specs.Judge.{small_limit}
use Rattle.ticket_loops.specs.LoopReads.{limit_of}
use Rattle.ticket_loops.specs.declared.Limit.{Limit}
use Rattle.nest_flat.specs.Flat.{limit_at, Positive}
use Rattle.nest_rows.specs.Rows.{Tried}
use Rattle.step_limits.specs.Small.{SmallLimit}
use Rattle.step_limits.specs.Makes.{LimitIs}
use Rattle.step_limits.specs.Words.{LimitRoom, LimitThere}
use Rattle.step_limits.specs.Change.{change_of, outer_after, Allowed}
use Rattle.step_changes.specs.Sides.{Beside, SideIn, SideMade, changed_side}
use Rattle.step_limits.specs.declared.Change.{Change}
use Rattle.step_limits.specs.declared.Change.TheVariants.{ReverseLimit, ReverseRow, ExchangeRow, SkewLimit, SkewRow, SectionLower, SectionUpper}
use Rattle.step_limits.specs.declared.Change.TheVariants.{SectionElement, SectionRow}
use Rattle.ticket_loops.proofs.PutLaws.{within-put}
use Rattle.step_limits.proofs.FlatLaws.{limit-same, limit-put, head-put, put-before, put-after, limit-near, limit-small, words-within}
use Rattle.step_changes.proofs.RunLaws.{limits-map, limits-pass, limits-fail}

-- ---- multipliers stay positive

pub change-positive : (ch : Change) (n : ℕ) (l : Model.Limit) → Allowed ch n → 1 ≤ l.multiplier → 1 ≤ (change_of ch l).multiplier
unfolding change_of Allowed negated on_coefficients skew_limit section_lower section_upper element_limit
change-positive ReverseLimit n l a h = h
change-positive (ReverseRow _) n l a h = h
change-positive (ExchangeRow _) n l a h = h
change-positive (SkewLimit _) n l a h = h
change-positive (SkewRow _) n l a h = h
change-positive (SectionLower w) n l a h = mul-le-mul h a.0
change-positive (SectionUpper w) n l a h = mul-le-mul h a.0
change-positive (SectionElement _) n l a h = h
change-positive (SectionRow _) n l a h = h

pub read-positive : (s : List ℤ) (k j : ℕ) → pos 0 <ℤ get_or s (j * 8) (pos 0) → 1 ≤ (limit_at s k j).multiplier
unfolding limit_at
read-positive s k j h = positive (get_or s (j * 8) (pos 0)) h
  where
    positive : (z : ℤ) → pos 0 <ℤ z → 1 ≤ lib.IntN.nat_abs z
    positive (pos n) h = omega zarith
    positive (lib.IntN.negsuc n) h = absurd (omega zarith)

-- ---- the first i limits

pub record Under (ch : Change) (s : List ℤ) (from n to m count : ℕ) (t : List ℤ) (i : ℕ) : Type 0 where
  pub low : i ≤ count
  pub room : length t ≡ length s
  pub small : Within 32767 t
  pub made : (j : ℕ) → j < i → limit_at t m (to + j) ≡ change_of ch (limit_at s n (from + j))
  pub positive : Positive t to i
  pub tested : (j : ℕ) → j < i → T (small_limit (change_of ch (limit_at s n (from + j))))
  pub kept : Beside (pos 0) s t (to * 8) ((to + i) * 8)

-- one index more
below-or-at : (P : ℕ → Type 0) (i : ℕ) → ((j : ℕ) → j < i → P j) → P i → (j : ℕ) → j < i + 1 → P j
below-or-at P i f p j h = elim (dec_lt j i) [
  | yes l ↦ f j l
  | no g ↦ let e : i ≡ j = omega arith in subst P e p
]

module _ (ch : Change) (s : List ℤ) (from n to m count : ℕ) (p : SideIn ch s from n to m count) where
  pub side-begins : Under ch s from n to m count s 0
  side-begins = record {
    low = omega arith;
    room = refl;
    small = p.small;
    made = λ j h. absurd (omega arith);
    positive = λ j h. absurd (omega arith);
    tested = λ j h. absurd (omega arith);
    kept = record { before = λ q h. refl; after = λ q h. refl };
  }

  module _ (t : List ℤ) (i : ℕ) (u : Under ch s from n to m count t i) (more : i < count) where
    -- the next limit stands as it did
    unread : (q : ℕ) → (from + i) * 8 ≤ q → q < (from + i) * 8 + 8 → get_or t q (pos 0) ≡ get_or s q (pos 0)
    unread q h g = ⊎_elim (λ (c : to ≤ from). u.kept.after q (omega arith)) (λ (c : from + count ≤ to). u.kept.before q (omega arith)) p.clear

    pub next-there : LimitThere t (from + i) n
    next-there =
        let r = p.reads in
        let e = u.room in
        record {
          room = record { fits = omega arith; shallow = p.shallow.0 };
          small = u.small;
          positive = subst (λ (z : ℤ). pos 0 <ℤ z) (sym (unread ((from + i) * 8) (omega arith) (omega arith))) (p.positive i more);
        }

    next-read : limit_at t n (from + i) ≡ limit_at s n (from + i)
    next-read = let r = p.reads in limit-same s t n (from + i) p.shallow.0 (omega arith) u.room unread

    pub next-room : LimitRoom t (to + i) m
    next-room = let w = p.writes in let e = u.room in record { fits = omega arith; shallow = p.shallow.1 }

    module _ (l : Limit) (q : LimitIs n l (limit_at t n (from + i))) where
      pub next_small : SmallLimit (limit_of n l)
      next_small = subst SmallLimit (sym q.is) (limit-near t n (from + i) u.small)

      module _ (x : Limit) (z : LimitIs (outer_after ch n) x (change_of ch (limit_of n l))) where
        -- the next limit, changed
        new_is : limit_of m x ≡ change_of ch (limit_at s n (from + i))
        new_is = ap (λ k. limit_of k x) (sym p.outer) ∙ z.is ∙ ap (change_of ch) (q.is ∙ next-read)

        new-sized : length (limit_of m x).coefficients ≡ m
        unfolding limit_of
        new-sized = let r = z.within.room in let h = p.shallow.1 in length-take-le m x.coefficients (omega arith)

        new-positive : 1 ≤ (limit_of m x).multiplier
        new-positive = subst (λ (y : Model.Limit). 1 ≤ y.multiplier) (sym new_is)
            (change-positive ch n (limit_at s n (from + i)) p.allowed (read-positive s n (from + i) (p.positive i more)))

        pub side-stops : (r : Bool) (t' : List ℤ) → Tried (small_limit (limit_of m x)) t ((to + i) * 8) (limit_words (limit_of m x)) r t' → r ≡ false
            → SideMade s to m count (changed_side ch s from n count) false t'
        unfolding changed_side
        side-stops r t' y f = record {
          room = y.room ∙ u.room;
          tested = sym (limits-fail (change_of ch) s n small_limit from count i more (ap small_limit (sym new_is) ∙ sym y.passed ∙ f));
          whole = λ e. absurd (let k : ◌≡◌ {A = ℕ} 0 1 = cc in omega arith);
        }

        pub side-goes-on : (r : Bool) (t' : List ℤ) → Tried (small_limit (limit_of m x)) t ((to + i) * 8) (limit_words (limit_of m x)) r t' → r ≡ true
            → Under ch s from n to m count t' (i + 1)
        side-goes-on r t' y f =
            let X = limit_of m x in
            let w = next-room in
            let fits : (to + i) * 8 + 8 ≤ length t = w.fits in
            let e : t' ≡ put t ((to + i) * 8) (limit_words X) = y.made f in
            let before : (q : ℕ) → q < (to + i) * 8 → get_or t' q (pos 0) ≡ get_or t q (pos 0) = λ q h. ap (λ v. get_or v q (pos 0)) e
            ∙ put-before t (to + i) m X p.shallow.1 new-sized fits q h in
            let after : (q : ℕ) → (to + i) * 8 + 8 ≤ q → get_or t' q (pos 0) ≡ get_or t q (pos 0) = λ q h. ap (λ v. get_or v q (pos 0)) e
            ∙ put-after t (to + i) m X p.shallow.1 new-sized fits q h in
            let pass : T (small_limit X) = true-T (small_limit X) (sym y.passed ∙ f) in
            record {
              low = omega arith;
              room = y.room ∙ u.room;
              small = subst (Within 32767) (sym e) (within-put 32767 t ((to + i) * 8) (limit_words X) u.small
                  (words-within X (limit-small X pass)));
              made = below-or-at (λ j. limit_at t' m (to + j) ≡ change_of ch (limit_at s n (from + j))) i
                  (λ j h. limit-same t t' m (to + j) p.shallow.1 (omega arith) y.room (λ q a b. before q (omega arith)) ∙ u.made j h)
                  (ap (λ v. limit_at v m (to + i)) e ∙ limit-put t (to + i) m X p.shallow.1 new-sized fits ∙ new_is);
              positive = below-or-at (λ j. pos 0 <ℤ get_or t' ((to + j) * 8) (pos 0)) i
                  (λ j h. subst (λ (z : ℤ). pos 0 <ℤ z) (sym (before ((to + j) * 8) (omega arith))) (u.positive j h))
                  (subst (λ (z : ℤ). pos 0 <ℤ z) (sym (ap (λ v. get_or v ((to + i) * 8) (pos 0)) e
                  ∙ head-put t (to + i) m X p.shallow.1 new-sized fits)) (let k = new-positive in omega zarith));
              tested = below-or-at (λ j. T (small_limit (change_of ch (limit_at s n (from + j))))) i u.tested
                  (subst (λ (y : Model.Limit). T (small_limit y)) new_is pass);
              kept = record {
                before = λ q h. before q (omega arith) ∙ u.kept.before q h;
                after = λ q h. after q (omega arith) ∙ u.kept.after q (omega arith);
              };
            }

  pub side-ends : (t : List ℤ) (i : ℕ) → Under ch s from n to m count t i → count ≤ i → SideMade s to m count (changed_side ch s from n count) true t
  unfolding changed_side
  side-ends t i u h =
      let l = u.low in
      let e : i ≡ count = omega arith in
      let v : Under ch s from n to m count t count = subst (λ (k : ℕ). Under ch s from n to m count t k) e u in
      record {
        room = v.room;
        tested = sym (T_true _ (limits-pass (change_of ch) s n small_limit from count v.tested));
        whole = λ _. record {
          made = limits-map (change_of ch) s n t m from to count v.made;
          positive = v.positive;
          small = v.small;
          kept = v.kept;
        };
      }
