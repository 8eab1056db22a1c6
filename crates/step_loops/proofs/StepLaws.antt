-- What stands in the slices after the loops inside are changed and then one loop, or two, are made: the nest that a step hands out.
use mathlib.Core.Path.{◌≡◌, sym, ap, ◌∙◌, subst}
use mathlib.Core.Bool.{Bool, true, false, not, ◌&&◌, and-true, and-false}
use mathlib.Core.List.{List, [], ◌∷◌, ◌++◌, map}
use Prim.Native.Nat.{ℕ, suc, ◌+◌, ◌*◌, ◌≤◌, ◌<◌}
use native.Mathlib.Omega.{arith}
use lib.Dec.{T}
use lib.IntN.{ℤ, pos}
use lib.ListN.{length, get_or}
use Rattle.lists.specs.Tests.{all}
use Rattle.lists.proofs.TestLaws.{T_true}
use Rattle.integers.specs.Affine.{Within}
use Rattle.model.specs.Ticket.{Loop, Step}
use Rattle.model.specs.Grammar.{depth_after, most_sides, nest_room}
use Rattle.model.specs.Limits.{on_limits, loops_after}
use Rattle.model.specs.Judge.{small_loop}
use Rattle.nest_flat.specs.Flat.{loop_at, loops_from, NestOk}
use Rattle.step_limits.specs.Change.{change_of}
use Rattle.step_limits.specs.declared.Change.{Change}
use Rattle.step_limits.specs.Words.{LoopOk}
use Rattle.step_changes.specs.Loops.{LoopIs, LoopMade, LoopsAre, LoopsMade}
use Rattle.std.specs.Prelude.{Err}
use Rattle.step_exchange.specs.Answers.{step_answer}
use Rattle.step_exchange.specs.declared.StepError.TheVariants.{NumberOutOfRange}
use Rattle.step_loops.specs.After.{After}
use Rattle.step_loops.proofs.HeldLaws.{HeldAll, ok_at, held-there, held_kept, held-append, held-run}
use Rattle.step_loops.proofs.AfterLaws.{few, length-loops, settled}

-- ---- a loop made after another that stood there for a while

pub loop-then : (s t t' : List ℤ) (c d d' : List ℕ) (k : ℕ) (M L : Loop) (r : Bool) → length t ≡ length s → length d ≡ length c → LoopIs s c k M t d
    → LoopMade t d k L r t' d' → LoopMade s c k L r t' d'
loop-then s t t' c d d' k M L r e f i m = record {
  words = m.words ∙ e;
  counts = m.counts ∙ f;
  tested = m.tested;
  whole = λ q. let w = m.whole q in record {
    made = w.made;
    ok = w.ok;
    small = w.small;
    words-kept = record {
      before = λ p h. w.words-kept.before p h ∙ i.words-kept.before p h;
      after = λ p h. w.words-kept.after p h
          ∙ i.words-kept.after p h;
    };
    counts-kept = record {
      before = λ p h. w.counts-kept.before p h ∙ i.counts-kept.before p h;
      after = λ p h. w.counts-kept.after p h
          ∙ i.counts-kept.after p h;
    };
  };
}

module _ (s : List ℤ) (c : List ℕ) (depth : ℕ) (ok : NestOk s c depth) where
  -- ---- the loops outside

  pub outside-held : (a : ℕ) (t : List ℤ) (d : List ℕ) → a ≤ depth → length t ≡ length s
      → ((p : ℕ) → p < a * 256 → get_or t p (pos 0) ≡ get_or s p (pos 0)) → ((p : ℕ) → p < a * 2 → get_or d p 0 ≡ get_or c p 0)
      → HeldAll t d 0 (loops_from s c 0 a)
  outside-held a t d h e f g = let few = ok.shallow in held-run s t c d 0 0 a (λ i l.
      held_kept s t c d (0 + i) (loop_at s c (0 + i)) ok.words e (omega arith) (λ p x y. f p (omega arith)) (λ p x y. g p (omega arith))
      (held-there s c (0 + i) (ok_at s c depth (0 + i) ok (omega arith))))

  -- ---- the loops inside, which later changes leave

  pub inside-held : (ch : Change) (start many by : ℕ) (t t' : List ℤ) (d d' : List ℕ) → start + many + by ≤ 6 → length t ≡ length s
      → LoopsAre ch s c start many by t d → length t' ≡ length t
      → ((p : ℕ) → (start + by) * 256 ≤ p → get_or t' p (pos 0) ≡ get_or t p (pos 0)) → ((p : ℕ) → (start + by) * 2 ≤ p → get_or d' p 0 ≡ get_or d p 0)
      → HeldAll t' d' (start + by) (map (on_limits (change_of ch)) (loops_from s c start many))
  inside-held ch start many by t t' d d' h e m n f g = subst (HeldAll t' d' (start + by)) m.made
      (held-run t t' d d' (start + by) (start + by) many (λ i l.
      let q : start + i + by ≡ start + by + i = omega arith in
      held_kept t t' d d' (start + by + i) (loop_at t d (start + by + i)) (e ∙ ok.words) n (omega arith) (λ p x y. f p (omega arith))
      (λ p x y. g p (omega arith))
      (held-there t d (start + by + i) (subst (LoopOk t d) q (m.ok i l)))))

  -- ---- all, from the loops at place a on

  pub all_held : (a : ℕ) (t : List ℤ) (d : List ℕ) (rest : List Loop) → HeldAll t d 0 (loops_from s c 0 a) → HeldAll t d a rest
      → HeldAll t d 0 (loops_from s c 0 a ++ rest)
  all_held a t d rest f g =
      let l = length-loops s c 0 a in
      let e : a ≡ 0 + length (loops_from s c 0 a) = omega arith in
      held-append t d 0 (loops_from s c 0 a) rest f (subst (λ (k : ℕ). HeldAll t d k rest) e g)

  -- ---- one loop: a reversal, a skew

  module _ (ch : Change) (a many : ℕ) (deep : depth ≡ a + 1 + many) (t : Step) (X : Loop)
      (is : loops_after t (loops_from s c 0 depth) ≡ loops_from s c 0 a ++ ((X ∷ []) ++ map (on_limits (change_of ch)) (loops_from s c (a + 1) many)))
      (same : depth_after t depth ≡ depth) (few-X : T (few X)) (r₁ : Bool) (t₁ : List ℤ) (d₁ : List ℕ)
      (m₁ : LoopsMade ch s c (a + 1) many 0 r₁ t₁ d₁) where
    one-few : all few (X ∷ []) ≡ true
    unfolding all
    one-few = ap (◌&& true) (T_true (few X) few-X)

    one-small : all small_loop (X ∷ []) ≡ small_loop X
    unfolding all
    one-small = and-true (small_loop X)

    one-settled : (small : Bool) (s' : List ℤ) (c' : List ℕ) → length s' ≡ nest_room → length c' ≡ most_sides → small ≡ small_loop X && r₁
        → (small ≡ true → HeldAll s' c' 0 (loops_from s c 0 a ++ ((X ∷ []) ++ map (on_limits (change_of ch)) (loops_from s c (a + 1) many)))
        × Within 32767 s')
        → After t s c depth (step_answer true small) s' c'
    one-settled small s' c' w n g h = let few = ok.shallow in
        settled ch s c depth ok a (a + 1) many (omega arith) (omega arith) (X ∷ []) t is (omega arith) (omega arith) false small s' c' w n
        (sym (ap not one-few)) (λ _. g ∙ ap (◌&& r₁) (sym one-small) ∙ ap (all small_loop (X ∷ []) &&◌) m₁.tested) (λ _. h)

    pub inside-large : r₁ ≡ false → After t s c depth (Err NumberOutOfRange) t₁ d₁
    inside-large e = one-settled false t₁ d₁ (m₁.words ∙ ok.words) (m₁.counts ∙ ok.counts)
        (sym (ap (small_loop X &&◌) e ∙ and-false (small_loop X))) (λ q. absurd (let z : ◌≡◌ {A = ℕ} 0 1 = cc in omega arith))

    module _ (e : r₁ ≡ true) (r : Bool) (t₂ : List ℤ) (d₂ : List ℕ) (m₂ : LoopMade t₁ d₁ a X r t₂ d₂) where
      one-held : r ≡ true → HeldAll t₂ d₂ 0 (loops_from s c 0 a ++ ((X ∷ []) ++ map (on_limits (change_of ch)) (loops_from s c (a + 1) many)))
      one-held q =
          let u = m₁.whole e in
          let v = m₂.whole q in
          let few = ok.shallow in
          let z : a + 1 + 0 ≡ suc a = omega arith in
          all_held a t₂ d₂ ((X ∷ []) ++ map (on_limits (change_of ch)) (loops_from s c (a + 1) many))
          (outside-held a t₂ d₂ (omega arith) (m₂.words ∙ m₁.words) (λ p h. v.words-kept.before p h ∙ u.words-kept p (omega arith))
          (λ p h. v.counts-kept.before p h ∙ u.counts-kept p (omega arith))) (
            record { made = v.made; ok = v.ok },
            subst (λ (k : ℕ). HeldAll t₂ d₂ k (map (on_limits (change_of ch)) (loops_from s c (a + 1) many))) z
                (inside-held ch (a + 1) many 0 t₁ t₂ d₁ d₂ (omega arith) m₁.words u m₂.words (λ p h. v.words-kept.after p (omega arith))
                (λ p h. v.counts-kept.after p (omega arith))),
          )

      pub one-done : After t s c depth (step_answer true r) t₂ d₂
      one-done = one-settled r t₂ d₂ (m₂.words ∙ m₁.words ∙ ok.words) (m₂.counts ∙ m₁.counts ∙ ok.counts)
          (m₂.tested ∙ sym (ap (small_loop X &&◌) e ∙ and-true (small_loop X))) (λ q. (one-held q, (m₂.whole q).small))
