-- Loops on flat slices. In order: sides and loops whose words stand as they did; two sides that make a loop; the two sides of a loop, changed
-- one after the other.
use mathlib.Core.Path.{◌≡◌, refl, sym, ap, ap₂, ◌∙◌, subst}
use mathlib.Core.Bool.{Bool, true, false, ◌&&◌}
use mathlib.Core.Logic.{◌⊎◌, inl, inr}
use mathlib.Core.List.{List, ◌∷◌, map}
use Prim.Native.Nat.{ℕ, zero, suc, ◌+◌, ◌*◌, ◌≤◌, ◌<◌}
use native.Mathlib.Omega.{arith}
use native.Mathlib.Decide.{dec_lt}
use native.Mathlib.Nat.{add-zero}
use lib.IntN.{ℤ, pos}
use lib.Signed.{◌<ℤ◌}
use lib.ListN.{length, get_or, set, length-set}
use lib.Seq.{get_or-set_same, get_or-set_other}
use Rattle.lists.specs.Tests.{all}
use Rattle.model.specs.Ticket as Model
use Rattle.model.specs.Judge.{small_limit, small_loop}
use Rattle.model.specs.Grammar.{most_sides, nest_room}
use Rattle.nest_flat.specs.Flat.{limits_at, loop_at, Positive}
use Rattle.step_limits.specs.Change.{change_of}
use Rattle.step_limits.specs.Words.{LoopOk}
use Rattle.step_changes.specs.Sides.{SideIn, SideMade, changed_side}
use Rattle.step_changes.specs.Loops.{on_sides, LoopIn, LoopMade}
use Rattle.step_limits.specs.declared.Change.{Change}
use Rattle.step_limits.proofs.FlatLaws.{limit-same}

-- ---- words that stand as they did

module _ (s t : List ℤ) where
  pub limits-same : (k j n : ℕ) → k ≤ 6 → (j + n) * 8 ≤ length s → length t ≡ length s
      → ((p : ℕ) → j * 8 ≤ p → p < (j + n) * 8 → get_or t p (pos 0) ≡ get_or s p (pos 0)) → limits_at t k j n ≡ limits_at s k j n
  unfolding limits_at
  limits-same k j zero h g e f = refl
  limits-same k j (suc n) h g e f =
      ap₂ ◌∷◌ (limit-same s t k j h (omega arith) e (λ p a b. f p a (omega arith)))
      (limits-same k (suc j) n h (omega arith) e (λ p a b. f p (omega arith) (omega arith)))

  pub positive-same : (j n : ℕ) → ((p : ℕ) → j * 8 ≤ p → p < (j + n) * 8 → get_or t p (pos 0) ≡ get_or s p (pos 0)) → Positive s j n → Positive t j n
  positive-same j n f p i h = subst (λ (z : ℤ). pos 0 <ℤ z) (sym (f ((j + i) * 8) (omega arith) (omega arith))) (p i h)

pub same-loop : {a b c d : List Model.Limit} → a ≡ b → c ≡ d
    → ◌≡◌ {A = Model.Loop} (record { lower = a; upper = c }) (record { lower = b; upper = d })
same-loop e f i = record { lower = e i; upper = f i }

-- a loop whose words and counts stand as they did
module _ (s t : List ℤ) (c d : List ℕ) (k : ℕ) (words : length s ≡ nest_room) (room : length t ≡ length s) (deep : k < 6) (ok : LoopOk s c k)
    (f : (p : ℕ) → k * 256 ≤ p → p < k * 256 + 256 → get_or t p (pos 0) ≡ get_or s p (pos 0))
    (g : (p : ℕ) → k * 2 ≤ p → p < k * 2 + 2 → get_or d p 0 ≡ get_or c p 0) where
  low_count : get_or d (k * 2) 0 ≡ get_or c (k * 2) 0
  low_count = g (k * 2) (omega arith) (omega arith)

  up-count : get_or d (k * 2 + 1) 0 ≡ get_or c (k * 2 + 1) 0
  up-count = g (k * 2 + 1) (omega arith) (omega arith)

  pub loop-same : loop_at t d k ≡ loop_at s c k
  unfolding loop_at
  loop-same =
      let a = ok.lower-count.1 in
      let b = ok.upper-count.1 in
      same-loop
      (ap (limits_at t k (k * 32)) low_count ∙ limits-same s t k (k * 32) (get_or c (k * 2) 0) (omega arith) (omega arith) room
      (λ p x y. f p (omega arith) (omega arith)))
      (ap (limits_at t k (k * 32 + 16)) up-count ∙ limits-same s t k (k * 32 + 16) (get_or c (k * 2 + 1) 0) (omega arith) (omega arith) room
      (λ p x y. f p (omega arith) (omega arith)))

  pub ok_same : LoopOk t d k
  ok_same =
      let a = ok.lower-count in
      let b = ok.upper-count in
      let x = low_count in
      let y = up-count in
      record {
        lower-count = (omega arith, omega arith);
        upper-count = (omega arith, omega arith);
        lower-positive = subst (Positive t (k * 32)) (sym x) (positive-same s t (k * 32) (get_or c (k * 2) 0)
            (λ p i j. f p (omega arith) (omega arith)) ok.lower-positive);
        upper-positive = subst (Positive t (k * 32 + 16)) (sym y) (positive-same s t (k * 32 + 16) (get_or c (k * 2 + 1) 0)
            (λ p i j. f p (omega arith) (omega arith)) ok.upper-positive);
      }

-- ---- two sides make a loop

module _ (s : List ℤ) (c : List ℕ) (to low up : ℕ) (ls us : List Model.Limit)
    (words : length s ≡ nest_room) (counts : length c ≡ most_sides) (deep : to < 6)
    (some-low : (1 ≤ low) × (low ≤ 16)) (some_up : (1 ≤ up) × (up ≤ 16)) where
  abbrev counted : List ℕ
  counted = set (set c (to * 2) low) (to * 2 + 1) up

  counted-low : get_or counted (to * 2) 0 ≡ low
  counted-low = get_or-set_other (set c (to * 2) low) (to * 2 + 1) (to * 2) up 0 (λ e. omega arith) ∙ get_or-set_same c (to * 2) low 0 (omega arith)

  counted-up : get_or counted (to * 2 + 1) 0 ≡ up
  counted-up = get_or-set_same (set c (to * 2) low) (to * 2 + 1) up 0 (simp length-set (omega arith))

  counted-beside : (q : ℕ) → (q ≡ to * 2 → ⊥) → (q ≡ to * 2 + 1 → ⊥) → get_or counted q 0 ≡ get_or c q 0
  counted-beside q f g = get_or-set_other (set c (to * 2) low) (to * 2 + 1) q up 0 g ∙ get_or-set_other c (to * 2) q low 0 f

  module _ (r : Bool) (t : List ℤ) (m : SideMade s (to * 32) to low ls r t) where
    pub lower-stops : r ≡ false → LoopMade s c to (record { lower = ls; upper = us }) false t c
    unfolding small_loop
    lower-stops e = record {
      words = m.room;
      counts = refl;
      tested = sym (ap (◌&& all small_limit us) (sym m.tested ∙ e));
      whole = λ q. absurd (let z : ◌≡◌ {A = ℕ} 0 1 = cc in omega arith);
    }

    module _ (e : r ≡ true) (r' : Bool) (t' : List ℤ) (m' : SideMade t (to * 32 + 16) to up us r' t') where
      both-tested : r' ≡ small_loop (record { lower = ls; upper = us })
      unfolding small_loop
      both-tested = m'.tested ∙ sym (ap (◌&& all small_limit us) (sym m.tested ∙ e))

      pub upper-stops : r' ≡ false → LoopMade s c to (record { lower = ls; upper = us }) false t' c
      upper-stops q = record {
        words = m'.room ∙ m.room;
        counts = refl;
        tested = sym q ∙ both-tested;
        whole = λ q. absurd (let z : ◌≡◌ {A = ℕ} 0 1 = cc in omega arith);
      }

      module _ (e' : r' ≡ true) where
        -- the lower limits stay as they were put
        lower-kept : (q : ℕ) → to * 32 * 8 ≤ q → q < (to * 32 + low) * 8 → get_or t' q (pos 0) ≡ get_or t q (pos 0)
        lower-kept q h g = (m'.whole e').kept.before q (omega arith)

        sides-made : loop_at t' counted to ≡ record { lower = ls; upper = us }
        unfolding loop_at
        sides-made =
            let z = m.room in
            same-loop
            (ap (limits_at t' to (to * 32)) counted-low ∙ limits-same t t' to (to * 32) low (omega arith) (omega arith) m'.room lower-kept
            ∙ (m.whole e).made)
            (ap (limits_at t' to (to * 32 + 16)) counted-up ∙ (m'.whole e').made)

        sides-ok : LoopOk t' counted to
        sides-ok =
            let x = counted-low in
            let y = counted-up in
            record {
              lower-count = (omega arith, omega arith);
              upper-count = (omega arith, omega arith);
              lower-positive = subst (Positive t' (to * 32)) (sym x) (positive-same t t' (to * 32) low lower-kept (m.whole e).positive);
              upper-positive = subst (Positive t' (to * 32 + 16)) (sym y) (m'.whole e').positive;
            }

        pub loop-ends : LoopMade s c to (record { lower = ls; upper = us }) true t' counted
        loop-ends = record {
          words = m'.room ∙ m.room;
          counts = length-set (set c (to * 2) low) (to * 2 + 1) up ∙ length-set c (to * 2) low;
          tested = sym e' ∙ both-tested;
          whole = λ _. record {
            made = sides-made;
            ok = sides-ok;
            small = (m'.whole e').small;
            words-kept = record {
              before = λ q h. (m'.whole e').kept.before q (omega arith) ∙ (m.whole e).kept.before q (omega arith);
              after = λ q h. (m'.whole e').kept.after q (omega arith) ∙ (m.whole e).kept.after q (omega arith);
            };
            counts-kept = record {
              before = λ q h. counted-beside q (λ e. omega arith) (λ e. omega arith);
              after = λ q h. counted-beside q
                  (λ e. omega arith) (λ e. omega arith);
            };
          };
        }

-- ---- the two sides of a loop, changed one after the other

module _ (lo hi : Change) (s : List ℤ) (c : List ℕ) (k to : ℕ) (p : LoopIn lo hi s c k to) where
  abbrev low : ℕ
  low = get_or c (k * 2) 0

  abbrev up : ℕ
  up = get_or c (k * 2 + 1) 0

  -- the loop stays, or moves past itself
  apart : (x : ℕ) → x ≤ 16 → (i : ℕ) → i ≤ 16 → (to * 32 + i ≤ k * 32 + i) ⊎ (k * 32 + i + x ≤ to * 32 + i)
  apart x h i g = let f = p.further in elim (dec_lt k to) [
    | yes l ↦ inr (omega arith)
    | no n ↦ inl (omega arith)
  ]

  pub lower_in : SideIn lo s (k * 32) k (to * 32) to low
  lower_in =
      let f = p.further in
      let w = p.words in
      let n = p.there.lower-count in
      record {
        allowed = p.allowed.0;
        outer = p.outer.0;
        shallow = (omega arith, omega arith);
        reads = omega arith;
        writes = omega arith;
        clear = subst (λ (x : ℕ × ℕ). (x.0 ≤ x.1) ⊎ (x.1 + low ≤ x.0)) (ap₂ (λ a b. (a, b)) (add-zero (to * 32)) (add-zero (k * 32)))
            (apart low n.1 0 (omega arith));
        small = p.small;
        positive = p.there.lower-positive;
      }

  unfolded : on_sides lo hi (loop_at s c k) ≡ record { lower = changed_side lo s (k * 32) k low; upper = changed_side hi s (k * 32 + 16) k up }
  unfolding on_sides loop_at changed_side
  unfolded = refl

  pub change-stops : (r : Bool) (t : List ℤ) → SideMade s (to * 32) to low (changed_side lo s (k * 32) k low) r t → r ≡ false
      → LoopMade s c to (on_sides lo hi (loop_at s c k)) false t c
  change-stops r t m e = rw unfolded
      (lower-stops s c to low up (changed_side lo s (k * 32) k low) (changed_side hi s (k * 32 + 16) k up) p.words p.counts p.further.1
      p.there.lower-count p.there.upper-count r t m e)

  module _ (r : Bool) (t : List ℤ) (m : SideMade s (to * 32) to low (changed_side lo s (k * 32) k low) r t) (e : r ≡ true) where
    -- the upper limits are still as they were
    upper-kept : (q : ℕ) → (k * 32 + 16) * 8 ≤ q → q < (k * 32 + 16 + up) * 8 → get_or t q (pos 0) ≡ get_or s q (pos 0)
    upper-kept q h g =
        let f = p.further in
        let n = p.there.lower-count in
        let u = p.there.upper-count in
        elim (dec_lt k to) [
          | yes l ↦ (m.whole e).kept.before q (omega arith)
          | no l ↦ (m.whole e).kept.after q (omega arith)
        ]

    pub upper_in : SideIn hi t (k * 32 + 16) k (to * 32 + 16) to up
    upper_in =
        let f = p.further in
        let w = p.words in
        let n = p.there.upper-count in
        let z = m.room in
        record {
          allowed = p.allowed.1;
          outer = p.outer.1;
          shallow = (omega arith, omega arith);
          reads = omega arith;
          writes = omega arith;
          clear = apart up n.1 16 (omega arith);
          small = (m.whole e).small;
          positive = positive-same s t (k * 32 + 16) up upper-kept p.there.upper-positive;
        }

    upper-read : changed_side hi t (k * 32 + 16) k up ≡ changed_side hi s (k * 32 + 16) k up
    unfolding changed_side
    upper-read =
        let f = p.further in
        let w = p.words in
        let n = p.there.upper-count in
        ap (map (change_of hi)) (limits-same s t k (k * 32 + 16) up (omega arith) (omega arith) m.room upper-kept)

    module _ (r' : Bool) (t' : List ℤ) (m' : SideMade t (to * 32 + 16) to up (changed_side hi t (k * 32 + 16) k up) r' t') where
      second : SideMade t (to * 32 + 16) to up (changed_side hi s (k * 32 + 16) k up) r' t'
      second = subst (λ (ls : List Model.Limit). SideMade t (to * 32 + 16) to up ls r' t') upper-read m'

      pub change-stops-later : r' ≡ false → LoopMade s c to (on_sides lo hi (loop_at s c k)) false t' c
      change-stops-later f = rw unfolded
          (upper-stops s c to low up (changed_side lo s (k * 32) k low) (changed_side hi s (k * 32 + 16) k up) p.words p.counts p.further.1
          p.there.lower-count p.there.upper-count r t m e r' t' second f)

      pub change-ends : r' ≡ true → LoopMade s c to (on_sides lo hi (loop_at s c k)) true t' (set (set c (to * 2) low) (to * 2 + 1) up)
      change-ends f = rw unfolded
          (loop-ends s c to low up (changed_side lo s (k * 32) k low) (changed_side hi s (k * 32 + 16) k up) p.words p.counts p.further.1
          p.there.lower-count p.there.upper-count r t m e r' t' second f)
