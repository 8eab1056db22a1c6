-- Loops from the innermost out, of which those from place `left` on are changed and moved (`Behind`): how it begins, what is read next, what is
-- put, how it ends.
use mathlib.Core.Path.{◌≡◌, refl, sym, ap, ◌∙◌, subst}
use mathlib.Core.Bool.{Bool, true, false}
use mathlib.Core.List.{List}
use Prim.Native.Nat.{ℕ, ◌+◌, ◌*◌, ◌≤◌, ◌<◌}
use native.Mathlib.Omega.{arith}
use native.Mathlib.Decide.{dec_lt}
use lib.Dec.{T}
use lib.IntN.{ℤ, pos}
use lib.ListN.{length, get_or}
use Rattle.lists.proofs.TestLaws.{T_true, true-T}
use Rattle.integers.specs.Affine.{Within}
use Rattle.model.specs.Ticket as Model
use Rattle.model.specs.Limits.{on_limits}
use Rattle.model.specs.Judge.{small_loop}
use Rattle.nest_flat.specs.Flat.{loop_at}
use Rattle.step_limits.specs.Change.{change_of}
use Rattle.step_limits.specs.Words.{LoopOk}
use Rattle.step_changes.specs.Loops.{on_sides, LoopIn, LoopMade, LoopsIn, LoopsMade}
use Rattle.step_limits.specs.declared.Change.{Change}
use Rattle.step_changes.proofs.RunLaws.{loops-map, loops-pass, loops-fail}
use Rattle.step_changes.proofs.LoopLaws.{loop-same, ok_same}

module _ (ch : Change) (s : List ℤ) (c : List ℕ) (start many by : ℕ) where
  -- loop j of them, changed
  abbrev new : ℕ → Model.Loop
  new j = on_limits (change_of ch) (loop_at s c (start + j))

  pub record Behind (t : List ℤ) (d : List ℕ) (left : ℕ) : Type 0 where
    pub low : left ≤ many
    pub words : length t ≡ length s
    pub counts : length d ≡ length c
    pub small : Within 32767 t
    pub made : (j : ℕ) → left ≤ j → j < many → loop_at t d (start + j + by) ≡ new j
    pub ok : (j : ℕ) → left ≤ j → j < many → LoopOk t d (start + j + by)
    pub tested : (j : ℕ) → left ≤ j → j < many → T (small_loop (new j))
    pub words-kept : (p : ℕ) → p < (start + left + by) * 256 → get_or t p (pos 0) ≡ get_or s p (pos 0)
    pub counts-kept : (p : ℕ) → p < (start + left + by) * 2 → get_or d p 0 ≡ get_or c p 0

  module _ (p : LoopsIn ch s c start many by) where
    pub loops-begin : Behind s c many
    loops-begin = record {
      low = omega arith;
      words = refl;
      counts = refl;
      small = p.small;
      made = λ j h g. absurd (omega arith);
      ok = λ j h g. absurd (omega arith);
      tested = λ j h g. absurd (omega arith);
      words-kept = λ q h. refl;
      counts-kept = λ q h. refl;
    }

    module _ (t : List ℤ) (d : List ℕ) (left i : ℕ) (u : Behind t d left) (e : left ≡ i + 1) where
      -- the next loop stands as it did
      next-same : loop_at t d (start + i) ≡ loop_at s c (start + i)
      next-same =
          let l = u.low in
          let r = p.room in
          loop-same s t c d (start + i) p.words u.words (omega arith) (p.there i (omega arith)) (λ q a b. u.words-kept q (omega arith))
          (λ q a b. u.counts-kept q (omega arith))

      pub next-in : LoopIn ch ch t d (start + i) (start + i + by)
      next-in =
          let l = u.low in
          let r = p.room in
          record {
            words = u.words ∙ p.words;
            counts = u.counts ∙ p.counts;
            further = (omega arith, omega arith);
            allowed = (p.allowed i (omega arith), p.allowed i (omega arith));
            outer = (p.outer i (omega arith), p.outer i (omega arith));
            small = u.small;
            there = ok_same s t c d (start + i) p.words u.words (omega arith) (p.there i (omega arith))
                (λ q a b. u.words-kept q (omega arith)) (λ q a b. u.counts-kept q (omega arith));
          }

      module _ (r : Bool) (t' : List ℤ) (d' : List ℕ) (m : LoopMade t d (start + i + by) (on_sides ch ch (loop_at t d (start + i))) r t' d') where
        next-new : on_sides ch ch (loop_at t d (start + i)) ≡ new i
        unfolding on_sides on_limits
        next-new = ap (on_limits (change_of ch)) next-same

        next-tested : r ≡ small_loop (new i)
        next-tested = m.tested ∙ ap small_loop next-new

        pub loops-stop : r ≡ false → LoopsMade ch s c start many by false t' d'
        loops-stop f =
            let l = u.low in
            record {
              words = m.words ∙ u.words;
              counts = m.counts ∙ u.counts;
              tested = sym (loops-fail (on_limits (change_of ch)) s c small_loop start many i (omega arith) (sym next-tested ∙ f));
              whole = λ q. absurd (let z : ◌≡◌ {A = ℕ} 0 1 = cc in omega arith);
            }

        module _ (f : r ≡ true) where
          -- this one, or one of those before
          each : (P : ℕ → Type 0) → P i → ((j : ℕ) → left ≤ j → j < many → P j) → (j : ℕ) → i ≤ j → j < many → P j
          each P x y j h g = elim (dec_lt i j) [
            | yes l ↦ y j (omega arith) g
            | no l ↦ let q : i ≡ j = omega arith in subst P q x
          ]

          module _ (j : ℕ) (h : left ≤ j) (g : j < many) where
            words-stay : (q : ℕ) → (start + j + by) * 256 ≤ q → q < (start + j + by) * 256 + 256 → get_or t' q (pos 0) ≡ get_or t q (pos 0)
            words-stay q a b = (m.whole f).words-kept.after q (omega arith)

            counts-stay : (q : ℕ) → (start + j + by) * 2 ≤ q → q < (start + j + by) * 2 + 2 → get_or d' q 0 ≡ get_or d q 0
            counts-stay q a b = (m.whole f).counts-kept.after q (omega arith)

            still-made : loop_at t' d' (start + j + by) ≡ new j
            still-made = let r = p.room in loop-same t t' d d' (start + j + by) (u.words ∙ p.words) m.words (omega arith) (u.ok j h g)
                words-stay counts-stay ∙ u.made j h g

            still-ok : LoopOk t' d' (start + j + by)
            still-ok = let r = p.room in ok_same t t' d d' (start + j + by) (u.words ∙ p.words) m.words (omega arith) (u.ok j h g) words-stay
                counts-stay

          pub loops-go-on : Behind t' d' i
          loops-go-on =
              let l = u.low in
              record {
                low = omega arith;
                words = m.words ∙ u.words;
                counts = m.counts ∙ u.counts;
                small = (m.whole f).small;
                made = each (λ j. loop_at t' d' (start + j + by) ≡ new j) ((m.whole f).made ∙ next-new) still-made;
                ok = each (λ j. LoopOk t' d' (start + j + by)) (m.whole f).ok still-ok;
                tested = each (λ j. T (small_loop (new j))) (true-T (small_loop (new i)) (sym next-tested ∙ f)) u.tested;
                words-kept = λ q h. (m.whole f).words-kept.before q h ∙ u.words-kept q (omega arith);
                counts-kept = λ q h. (m.whole f).counts-kept.before q h ∙ u.counts-kept q (omega arith);
              }

    pub loops-end : (t : List ℤ) (d : List ℕ) (left : ℕ) → Behind t d left → left ≤ 0 → LoopsMade ch s c start many by true t d
    loops-end t d left u h =
        let e : left ≡ 0 = omega arith in
        let v : Behind t d 0 = subst (Behind t d) e u in
        let F = on_limits (change_of ch) in
        record {
          words = v.words;
          counts = v.counts;
          tested = sym (T_true _ (loops-pass F s c small_loop start many (λ j g. v.tested j (omega arith) g)));
          whole = λ _. record {
            made = loops-map F s c t d start (start + by) many (λ j g. let q : start + by + j ≡ start + j + by = omega arith in ap (loop_at t d) q
                ∙ v.made j (omega arith) g);
            ok = λ j g. v.ok j (omega arith) g;
            small = v.small;
            words-kept = λ q g. v.words-kept q (omega arith);
            counts-kept = λ q g. v.counts-kept q (omega arith);
          };
        }
