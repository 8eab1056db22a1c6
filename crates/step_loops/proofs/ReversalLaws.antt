-- Reversal and skew: what their changes ask, and the nest that they make.
use mathlib.Core.Path.{◌≡◌, refl, ap, ◌∙◌, subst}
use mathlib.Core.Bool.{Bool, true, false}
use mathlib.Core.List.{List, [], ◌∷◌, ◌++◌, map}
use Prim.Native.Nat.{ℕ, suc, ◌+◌, ◌<◌}
use native.Mathlib.Omega.{arith}
use lib.Dec.{T}
use lib.IntN.{ℤ}
use lib.ListN.{length-map}
use Rattle.lists.specs.Place.{under}
use Rattle.lists.proofs.PlaceLaws.{under_same, under-under}
use Rattle.model.specs.Ticket.{Loop, reversal, skew}
use Rattle.model.specs.Grammar.{depth_after}
use Rattle.model.specs.Limits.{on_limits, loops_after, deeper, reverse_at, skew_inner, skew_at}
use Rattle.nest_flat.specs.Flat.{loop_at, loops_from, NestOk}
use Rattle.step_limits.specs.Change.{change_of, outer_after, Allowed}
use Rattle.step_limits.specs.declared.Change.{Change}
use Rattle.step_limits.specs.declared.CoefficientSkew.{CoefficientSkew}
use Rattle.step_limits.specs.declared.Change.TheVariants.{ReverseLimit, ReverseRow, SkewLimit, SkewRow}
use Rattle.step_limits.specs.Words.{LoopOk}
use Rattle.step_changes.specs.Loops.{LoopIn, on_sides, LoopMade, LoopsIn, LoopsMade}
use Rattle.step_changes.specs.Flips.{FlipIn, flipped, Flipped}
use Rattle.step_changes.proofs.LoopLaws.{loop-same, ok_same}
use Rattle.std.specs.Prelude.{Err}
use Rattle.step_exchange.specs.Answers.{step_answer}
use Rattle.step_exchange.specs.declared.StepError.TheVariants.{NumberOutOfRange}
use Rattle.step_loops.specs.After.{After, ReversalIn, SkewIn}
use Rattle.step_loops.proofs.HeldLaws.{ok_at}
use Rattle.step_loops.proofs.AfterLaws.{few, few-sides, lower-few, upper-few, under-loops}
use Rattle.step_loops.proofs.StepLaws.{loop-then, inside-large, one-done}

-- a loop outside those that were changed, as the slices hold it afterwards
module _ (ch : Change) (s : List ℤ) (c : List ℕ) (depth start many by : ℕ) (ok : NestOk s c depth) (t : List ℤ) (d : List ℕ)
    (m : LoopsMade ch s c start many by true t d) (k : ℕ) (before : k < start) (there : k < depth) where
  pub still-there : loop_at t d k ≡ loop_at s c k
  still-there = let few = ok.shallow in let w = m.whole refl in
      loop-same s t c d k ok.words m.words (omega arith) (ok_at s c depth k ok there) (λ p x y. w.words-kept p (omega arith))
      (λ p x y. w.counts-kept p (omega arith))

  pub still-ok : LoopOk t d k
  still-ok = let few = ok.shallow in let w = m.whole refl in
      ok_same s t c d k ok.words m.words (omega arith) (ok_at s c depth k ok there) (λ p x y. w.words-kept p (omega arith))
      (λ p x y. w.counts-kept p (omega arith))

-- ---- reversal

module _ (s : List ℤ) (c : List ℕ) (depth a many : ℕ) (p : ReversalIn s c depth a) (deep : depth ≡ a + 1 + many) where
  pub turn_in : LoopsIn (ReverseRow a) s c (a + 1) many 0
  unfolding Allowed outer_after
  turn_in = let few = p.nest.shallow in record {
    words = p.nest.words;
    counts = p.nest.counts;
    room = omega arith;
    allowed = λ j h. (omega arith, omega arith);
    outer = λ j h. omega arith;
    small = p.nest.small;
    there = λ j h. ok_at s c depth (a + 1 + j) p.nest (omega arith);
  }

  reversed_loop : Loop
  reversed_loop = on_sides ReverseLimit ReverseLimit (flipped (loop_at s c a))

  reversed-few : T (few reversed_loop)
  unfolding reversed_loop on_sides flipped
  reversed-few =
      let o = ok_at s c depth a p.nest p.place in
      let L = loop_at s c a in
      few-sides reversed_loop (omega (arith, upper-few s c a o, length-map L.upper (change_of ReverseLimit)))
      (omega (arith, lower-few s c a o, length-map L.lower (change_of ReverseLimit)))

  reversed-is : loops_after (reversal a) (loops_from s c 0 depth) ≡ loops_from s c 0 a ++
      ((reversed_loop ∷ []) ++ map (on_limits (change_of (ReverseRow a))) (loops_from s c (a + 1) many))
  unfolding loops_after reverse_at deeper change_of on_sides flipped loops_from reversed_loop
  reversed-is =
      let e : depth ≡ a + suc many = omega arith in
      let f : suc a ≡ a + 1 = omega arith in
      ap (λ n. under a (reverse_at a) (loops_from s c 0 n)) e ∙ under-loops (reverse_at a) s c a (suc many)
      ∙ ap (λ k. loops_from s c 0 a ++ (reversed_loop ∷ map (on_limits (change_of (ReverseRow a))) (loops_from s c k many))) f

  same : depth_after (reversal a) depth ≡ depth
  unfolding depth_after
  same = refl

  module _ (r₁ : Bool) (t₁ : List ℤ) (d₁ : List ℕ) (m₁ : LoopsMade (ReverseRow a) s c (a + 1) many 0 r₁ t₁ d₁) where
    pub reversed-large : r₁ ≡ false → After (reversal a) s c depth (Err NumberOutOfRange) t₁ d₁
    reversed-large e = inside-large s c depth p.nest (ReverseRow a) a many deep (reversal a) reversed_loop reversed-is same reversed-few r₁ t₁ d₁
        m₁ e

    module _ (e : r₁ ≡ true) where
      turned : LoopsMade (ReverseRow a) s c (a + 1) many 0 true t₁ d₁
      turned = subst (λ (b : Bool). LoopsMade (ReverseRow a) s c (a + 1) many 0 b t₁ d₁) e m₁

      here-ok : LoopOk t₁ d₁ a
      here-ok = still-ok (ReverseRow a) s c depth (a + 1) many 0 p.nest t₁ d₁ turned a (omega arith) p.place

      pub flip-in : FlipIn t₁ d₁ a
      flip-in = let few = p.nest.shallow in record {
        words = m₁.words ∙ p.nest.words;
        counts = m₁.counts
            ∙ p.nest.counts;
        deep = omega (arith, p.place);
        small = (m₁.whole e).small;
        there = here-ok;
      }

      module _ (t₂ : List ℤ) (d₂ : List ℕ) (f : Flipped t₁ d₁ a t₂ d₂) where
        pub negate-in : LoopIn ReverseLimit ReverseLimit t₂ d₂ a a
        unfolding Allowed outer_after
        negate-in = let few = p.nest.shallow in let h = p.place in record {
          words = f.words ∙ m₁.words ∙ p.nest.words;
          counts = f.counts ∙ m₁.counts ∙ p.nest.counts;
          further = (omega arith, omega arith);
          allowed = (omega arith, omega arith);
          outer = (refl, refl);
          small = f.whole.small;
          there = f.whole.ok;
        }

        pub reversed-done : (r : Bool) (t₃ : List ℤ) (d₃ : List ℕ) → LoopMade t₂ d₂ a (on_sides ReverseLimit ReverseLimit (loop_at t₂ d₂ a)) r t₃ d₃
            → After (reversal a) s c depth (step_answer true r) t₃ d₃
        unfolding reversed_loop
        reversed-done r t₃ d₃ m₃ =
            let q : on_sides ReverseLimit ReverseLimit (loop_at t₂ d₂ a) ≡ reversed_loop = ap (on_sides ReverseLimit ReverseLimit)
            (f.whole.made ∙ ap flipped (still-there (ReverseRow a) s c depth (a + 1) many 0 p.nest t₁ d₁ turned a (omega arith)
            p.place)) in
            one-done s c depth p.nest (ReverseRow a) a many deep (reversal a) reversed_loop reversed-is same reversed-few r₁ t₁ d₁ m₁ e r t₃ d₃
            (loop-then t₁ t₂ t₃ d₁ d₂ d₃ a (flipped (loop_at t₁ d₁ a)) reversed_loop r f.words f.counts f.whole
            (subst (λ (L : Loop). LoopMade t₂ d₂ a L r t₃ d₃) q m₃))

-- ---- skew of the loop b = a + 1 + d

abbrev pub skew-at : ℕ → ℕ → ℤ → CoefficientSkew
skew-at a d factor = record { outer = a; between = d; factor = factor }

module _ (s : List ℤ) (c : List ℕ) (depth a d : ℕ) (factor : ℤ) (many : ℕ) (p : SkewIn s c depth a d factor) (deep : depth ≡ a + 1 + d + 1 + many)
  where
    pub skew-in : LoopsIn (SkewRow (skew-at a d factor)) s c (a + 1 + d + 1) many 0
    unfolding Allowed outer_after
    skew-in = let few = p.nest.shallow in record {
      words = p.nest.words;
      counts = p.nest.counts;
      room = omega arith;
      allowed = λ j h. (omega arith, omega arith, p.near);
      outer = λ j h. omega arith;
      small = p.nest.small;
      there = λ j h. ok_at s c depth (a + 1 + d + 1 + j) p.nest (omega arith);
    }

    skewed_loop : Loop
    skewed_loop = on_sides (SkewLimit (skew-at a d factor)) (SkewLimit (skew-at a d factor)) (loop_at s c (a + 1 + d))

    skewed-few : T (few skewed_loop)
    unfolding skewed_loop on_sides
    skewed-few =
        let o = ok_at s c depth (a + 1 + d) p.nest p.place in
        let L = loop_at s c (a + 1 + d) in
        let f = change_of (SkewLimit (skew-at a d factor)) in
        few-sides skewed_loop (omega (arith, lower-few s c (a + 1 + d) o, length-map L.lower f))
        (omega (arith, upper-few s c (a + 1 + d) o, length-map L.upper f))

    -- it begins at the skewed loop
    skew-inner : (N : List Loop) → under a (skew_at a d factor) N ≡ under (a + 1 + d) (skew_inner a d factor) N
    skew-inner N =
        let e : a + suc d ≡ a + 1 + d = omega arith in
        under_same (skew_at a d factor) (under (suc d) (skew_inner a d factor)) at-outer a N ∙ under-under (skew_inner a d factor) a (suc d) N
        ∙ ap (λ i. under i (skew_inner a d factor) N) e
      where
        at-outer : (l : List Loop) → skew_at a d factor l ≡ under (suc d) (skew_inner a d factor) l
        at-outer [] = unfold skew_at in unfold under in refl
        at-outer (L ∷ l) = unfold skew_at in unfold under in refl

    skewed-is : loops_after (skew a d factor) (loops_from s c 0 depth) ≡ loops_from s c 0 (a + 1 + d) ++
        ((skewed_loop ∷ []) ++ map (on_limits (change_of (SkewRow (skew-at a d factor)))) (loops_from s c (a + 1 + d + 1) many))
    unfolding loops_after skew_inner deeper change_of on_sides on_limits loops_from skewed_loop
    skewed-is =
        let b = a + 1 + d in
        let e : depth ≡ b + suc many = omega arith in
        let f : suc b ≡ b + 1 = omega arith in
        skew-inner (loops_from s c 0 depth) ∙ ap (λ n. under b (skew_inner a d factor) (loops_from s c 0 n)) e
        ∙ under-loops (skew_inner a d factor) s c b (suc many)
        ∙ ap (λ k. loops_from s c 0 b ++ (skewed_loop ∷ map (on_limits (change_of (SkewRow (skew-at a d factor)))) (loops_from s c k many))) f

    skew-same : depth_after (skew a d factor) depth ≡ depth
    unfolding depth_after
    skew-same = refl

    module _ (r₁ : Bool) (t₁ : List ℤ) (d₁ : List ℕ) (m₁ : LoopsMade (SkewRow (skew-at a d factor)) s c (a + 1 + d + 1) many 0 r₁ t₁ d₁) where
      pub skewed-large : r₁ ≡ false → After (skew a d factor) s c depth (Err NumberOutOfRange) t₁ d₁
      skewed-large e = inside-large s c depth p.nest (SkewRow (skew-at a d factor)) (a + 1 + d) many deep (skew a d factor) skewed_loop skewed-is
          skew-same skewed-few r₁ t₁ d₁ m₁ e

      module _ (e : r₁ ≡ true) where
        leans : LoopsMade (SkewRow (skew-at a d factor)) s c (a + 1 + d + 1) many 0 true t₁ d₁
        leans = subst (λ (b : Bool). LoopsMade (SkewRow (skew-at a d factor)) s c (a + 1 + d + 1) many 0 b t₁ d₁) e m₁

        pub own-skew-in : LoopIn (SkewLimit (skew-at a d factor)) (SkewLimit (skew-at a d factor)) t₁ d₁ (a + 1 + d) (a + 1 + d)
        unfolding Allowed outer_after
        own-skew-in = let few = p.nest.shallow in let h = p.place in record {
          words = m₁.words ∙ p.nest.words;
          counts = m₁.counts ∙ p.nest.counts;
          further = (omega arith, omega arith);
          allowed = ((omega arith, omega arith, p.near), (omega arith, omega arith, p.near));
          outer = (refl, refl);
          small = (m₁.whole e).small;
          there = still-ok (SkewRow (skew-at a d factor)) s c depth (a + 1 + d + 1) many 0 p.nest t₁ d₁ leans (a + 1 + d) (omega arith) p.place;
        }

        pub skewed-done : (r : Bool) (t₂ : List ℤ) (d₂ : List ℕ)
            → LoopMade t₁ d₁ (a + 1 + d) (on_sides (SkewLimit (skew-at a d factor)) (SkewLimit (skew-at a d factor)) (loop_at t₁ d₁ (a + 1 + d))) r t₂ d₂
            → After (skew a d factor) s c depth (step_answer true r) t₂ d₂
        unfolding skewed_loop
        skewed-done r t₂ d₂ m₂ =
            let b = a + 1 + d in
            let q = still-there (SkewRow (skew-at a d factor)) s c depth (b + 1) many 0 p.nest t₁ d₁ leans b (omega arith) p.place in
            one-done s c depth p.nest (SkewRow (skew-at a d factor)) b many deep (skew a d factor) skewed_loop skewed-is skew-same skewed-few r₁ t₁
            d₁ m₁ e r t₂ d₂
            (subst (λ (L : Loop). LoopMade t₁ d₁ b (on_sides (SkewLimit (skew-at a d factor)) (SkewLimit (skew-at a d factor)) L) r t₂ d₂) q m₂)
