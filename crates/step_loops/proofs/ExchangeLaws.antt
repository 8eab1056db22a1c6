-- Exchange: what its changes ask, and the nest that it makes.
use mathlib.Core.Path.{◌≡◌, refl, sym, ap, ap₂, ◌∙◌, subst}
use mathlib.Core.Bool.{Bool, true, false, not, ◌&&◌, and-true}
use mathlib.Core.List.{List, [], ◌∷◌, ◌++◌, map, map-id}
use Prim.Native.Nat.{ℕ, suc, ◌+◌, ◌<◌}
use native.Mathlib.Omega.{arith}
use lib.IntN.{ℤ}
use lib.ListN.{length}
use Rattle.lists.specs.Place.{under}
use Rattle.lists.specs.Tests.{all}
use Rattle.integers.specs.Affine.{Within}
use Rattle.model.specs.Ticket.{Loop, exchange}
use Rattle.model.specs.Grammar.{depth_after, most_sides, nest_room}
use Rattle.model.specs.Limits.{on_limits, loops_after, deeper, exchange_at, new_outer, new_inner, deduplicated}
use Rattle.model.specs.Judge.{few_limits, small_loop}
use Rattle.nest_flat.specs.Flat.{loop_at, loops_from, NestOk}
use Rattle.step_limits.specs.Change.{change_of, outer_after, Allowed}
use Rattle.step_limits.specs.declared.Change.TheVariants.{ExchangeRow}
use Rattle.step_changes.specs.Loops.{LoopsIn, LoopsMade}
use Rattle.step_changes.proofs.RunLaws.{loops-map}
use Rattle.step_exchange.specs.Pair.{PairIn, PairMade, Exchanges, few_in, outer_of, inner_of}
use Rattle.step_exchange.specs.declared.StepError.{StepError}
use Rattle.step_exchange.proofs.AnswerLaws.{refused-anyway, accepted}
use Rattle.std.specs.Prelude.{Ok, Err}
use Rattle.step_exchange.specs.Answers.{step_answer}
use Rattle.step_loops.specs.After.{After, ExchangeIn}
use Rattle.step_loops.proofs.HeldLaws.{Held, HeldAll, ok_at, held_kept, held-run}
use Rattle.step_loops.proofs.AfterLaws.{few, under-loops, settled, few-made, small-made}
use Rattle.step_loops.proofs.StepLaws.{inside-held, all_held}

module _ (s : List ℤ) (c : List ℕ) (depth a many : ℕ) (p : ExchangeIn s c depth a) (deep : depth ≡ a + 1 + 1 + many) where
  pub pair-in : PairIn s c a
  pair-in =
      let few = p.nest.shallow in
      let o = ok_at s c depth a p.nest (omega arith) in
      let i = ok_at s c depth (a + 1) p.nest (omega arith) in
      record {
        words = p.nest.words;
        counts = p.nest.counts;
        place = omega arith;
        small = p.nest.small;
        outer = record {
          lower-count = o.lower-count;
          upper-count = o.upper-count;
          lower-positive = o.lower-positive;
          upper-positive = o.upper-positive;
        };
        inner = record {
          lower-count = i.lower-count;
          upper-count = i.upper-count;
          lower-positive = i.lower-positive;
          upper-positive = i.upper-positive;
        };
      }

  abbrev X : Loop
  X = outer_of s c a

  abbrev Y : Loop
  Y = inner_of s c a

  abbrev inside : List Loop
  inside = map (on_limits (change_of (ExchangeRow a))) (loops_from s c (a + 1 + 1) many)

  exchanged-is : loops_after (exchange a) (loops_from s c 0 depth) ≡ loops_from s c 0 a ++ ((X ∷ Y ∷ []) ++ inside)
  unfolding loops_after exchange_at deeper change_of loops_from outer_of inner_of
  exchanged-is =
      let e : depth ≡ a + suc (suc many) = omega arith in
      let f : suc a ≡ a + 1 = omega arith in
      let g : suc (suc a) ≡ a + 1 + 1 = omega arith in
      let F = on_limits (change_of (ExchangeRow a)) in
      ap (λ n. under a (exchange_at a) (loops_from s c 0 n)) e ∙ under-loops (exchange_at a) s c a (suc (suc many))
      ∙ ap (λ k. loops_from s c 0 a ++ (deduplicated (new_outer a (loop_at s c a) (loop_at s c (suc a))) ∷ deduplicated
      (new_inner a (loop_at s c a) (loop_at s c (suc a))) ∷ map F (loops_from s c k many))) g
      ∙ ap (λ k. loops_from s c 0 a ++ (deduplicated (new_outer a (loop_at s c a) (loop_at s c k)) ∷ deduplicated
      (new_inner a (loop_at s c a) (loop_at s c k)) ∷ inside)) f

  both-few : all few (X ∷ Y ∷ []) ≡ few_in X && few_in Y
  unfolding all few_in
  both-few = ap (few X &&◌) (and-true (few Y))

  both_small : all small_loop (X ∷ Y ∷ []) ≡ small_loop X && small_loop Y
  unfolding all
  both_small = ap (small_loop X &&◌) (and-true (small_loop Y))

  same : depth_after (exchange a) depth ≡ depth
  unfolding depth_after
  same = refl

  exchanged-settled : (full small : Bool) (s' : List ℤ) (c' : List ℕ) → length s' ≡ nest_room → length c' ≡ most_sides
      → full ≡ not (few_in X && few_in Y) → (full ≡ false → small ≡ (small_loop X && small_loop Y) && all small_loop inside)
      → (full ≡ false → small ≡ true → HeldAll s' c' 0 (loops_from s c 0 a ++ ((X ∷ Y ∷ []) ++ inside)) × Within 32767 s')
      → After (exchange a) s c depth (step_answer (not full) small) s' c'
  exchanged-settled full small s' c' x n f g h = let few = p.nest.shallow in let d = same in
      settled (ExchangeRow a) s c depth p.nest a (a + 1 + 1) many (omega arith) (omega arith) (X ∷ Y ∷ []) (exchange a) exchanged-is
      (omega arith) (omega arith) full small s' c' x n
      (f ∙ ap not (sym both-few)) (λ q. g q ∙ ap (◌&& all small_loop inside) (sym both_small)) h

  pub pair-refused : (e : StepError) (t : List ℤ) (d : List ℕ) → Exchanges s c a (Err e) t d → After (exchange a) s c depth (Err e) t d
  pair-refused e t d m = let few = p.nest.shallow in record {
    words = m.words;
    counts = m.counts;
    answered = refused-anyway (few_in X && few_in Y) (small_loop X && small_loop Y) (all small_loop inside) e m.answered
        ∙ ap₂ step_answer (sym (ap few_limits exchanged-is ∙ few-made (ExchangeRow a) s c depth p.nest a (a + 1 + 1) many (omega arith) (omega arith) (X ∷ Y ∷ [])
        ∙ both-few)) (sym (ap (all small_loop) exchanged-is ∙ small-made (ExchangeRow a) s c depth p.nest a (a + 1 + 1) many (omega arith) (omega arith)
        (X ∷ Y ∷ []) ∙ ap (◌&& all small_loop inside) both_small));
    whole = λ q. absurd (let z : ◌≡◌ {A = ℕ} 0 1 = cc in omega arith);
    nest = λ q. absurd (let z : ◌≡◌ {A = ℕ} 0 1 = cc in omega arith);
  }

  module _ (t : List ℤ) (d : List ℕ) (m : Exchanges s c a (Ok tt) t d) where
    fits : (few_in X && few_in Y ≡ true) × (small_loop X && small_loop Y ≡ true)
    fits = accepted (few_in X && few_in Y) (small_loop X && small_loop Y) m.answered

    made : PairMade s c a X Y t d
    made = m.made refl

    ok : NestOk t d depth
    ok = made.ok depth p.nest

    stays : (k : ℕ) → k < depth → (k ≡ a → ⊥) → (k ≡ a + 1 → ⊥) → loop_at t d k ≡ loop_at s c k
    stays k h f g = made.others depth p.nest k h f g

    pub swap-in : LoopsIn (ExchangeRow a) t d (a + 1 + 1) many 0
    unfolding Allowed outer_after
    swap-in = let few = p.nest.shallow in record {
      words = m.words;
      counts = m.counts;
      room = omega arith;
      allowed = λ j h. (omega arith, omega arith);
      outer = λ j h. omega arith;
      small = ok.small;
      there = λ j h. ok_at t d depth (a + 1 + 1 + j) ok (omega arith);
    }

    inside-same : map (on_limits (change_of (ExchangeRow a))) (loops_from t d (a + 1 + 1) many) ≡ inside
    inside-same = ap (map (on_limits (change_of (ExchangeRow a))))
        (loops-map (λ L. L) s c t d (a + 1 + 1) (a + 1 + 1) many (λ i h. stays (a + 1 + 1 + i) (omega arith) (λ e. omega arith)
        (λ e. omega arith)) ∙ map-id (loops_from s c (a + 1 + 1) many))

    module _ (r' : Bool) (t' : List ℤ) (d' : List ℕ) (u : LoopsMade (ExchangeRow a) t d (a + 1 + 1) many 0 r' t' d') where
      all_tested : r' ≡ (small_loop X && small_loop Y) && all small_loop inside
      all_tested = u.tested ∙ ap (all small_loop) inside-same ∙ sym (ap (◌&& all small_loop inside) fits.1)

      module _ (e : r' ≡ true) where
        -- a loop outside those that are swapped
        kept : (k : ℕ) (L : Loop) → k < a + 1 + 1 → loop_at t d k ≡ L → Held t' d' k L
        kept k L h q = let few = p.nest.shallow in
            held_kept t t' d d' k L m.words u.words (omega arith) (λ i x y. (u.whole e).words-kept i (omega arith))
            (λ i x y. (u.whole e).counts-kept i (omega arith))
            (record { made = q; ok = ok_at t d depth k ok (omega arith) })

        held : HeldAll t' d' 0 (loops_from s c 0 a ++ ((X ∷ Y ∷ []) ++ inside))
        held =
            let few = p.nest.shallow in
            let y : a + 1 ≡ suc a = omega arith in
            let z : a + 1 + 1 + 0 ≡ suc (suc a) = omega arith in
            all_held s c depth p.nest a t' d' ((X ∷ Y ∷ []) ++ inside)
            (held-run s t' c d' 0 0 a (λ i h. kept (0 + i) (loop_at s c (0 + i)) (omega arith)
            (stays (0 + i) (omega arith) (λ e. omega arith) (λ e. omega arith)))) (
              kept a X (omega arith) made.outer,
              (
                subst (λ (k : ℕ). Held t' d' k Y) y (kept (a + 1) Y (omega arith) made.inner),
                subst (λ (k : ℕ). HeldAll t' d' k inside) z (subst (HeldAll t' d' (a + 1 + 1 + 0)) inside-same
                    (inside-held t d depth ok (ExchangeRow a) (a + 1 + 1) many 0 t' t' d' d' (omega arith) u.words (u.whole e) refl
                    (λ i h. refl) (λ i h. refl))),
              ),
            )

      pub exchanged-done : After (exchange a) s c depth (step_answer true r') t' d'
      exchanged-done = exchanged-settled false r' t' d' (u.words ∙ m.words) (u.counts ∙ m.counts) (sym (ap not fits.0)) (λ _. all_tested)
          (λ _ e. (held e, (u.whole e).small))
