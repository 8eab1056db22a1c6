-- Section: what its changes ask, where a side is full, and the nest that it makes.
use mathlib.Core.Path.{◌≡◌, refl, sym, ap, ap₂, ◌∙◌, subst}
use mathlib.Core.Bool.{Bool, true, false, not, ◌&&◌, and-true, and-false}
use mathlib.Core.List.{List, [], ◌∷◌, ◌++◌, map}
use Prim.Native.Nat.{ℕ, suc, ◌+◌, ◌*◌, ◌≤◌, ◌<◌}
use native.Mathlib.Omega.{arith}
use lib.Dec.{leb, leb→le}
use lib.IntN.{ℤ, pos}
use lib.ListN.{length, get_or, length-map}
use Rattle.lists.specs.Place.{under}
use Rattle.lists.specs.Tests.{all}
use Rattle.lists.proofs.TestLaws.{T_true, not-T-false}
use Rattle.integers.specs.Affine.{Within}
use Rattle.model.specs.Ticket.{Loop, section}
use Rattle.model.specs.Grammar.{depth_after, most_sides, nest_room}
use Rattle.model.specs.Limits.{on_limits, loops_after, deeper, section_at, element_limit}
use Rattle.model.specs.Judge.{small_loop}
use Rattle.nest_flat.specs.Flat.{loop_at, loops_from}
use Rattle.step_limits.specs.Change.{change_of, outer_after, Allowed}
use Rattle.step_limits.specs.declared.CoefficientSection.{CoefficientSection}
use Rattle.step_limits.specs.declared.Change.TheVariants.{SectionLower, SectionUpper, SectionRow}
use Rattle.step_limits.specs.Words.{LoopOk}
use Rattle.step_changes.specs.Loops.{LoopIn, on_sides, LoopMade, LoopsIn, LoopsMade}
use Rattle.step_changes.proofs.LoopLaws.{loop-same, ok_same}
use Rattle.std.specs.Prelude.{Err}
use Rattle.step_exchange.specs.Answers.{step_answer}
use Rattle.step_exchange.specs.declared.StepError.TheVariants.{TooManyLimits, NumberOutOfRange}
use Rattle.step_loops.specs.After.{After, SectionIn}
use Rattle.step_loops.specs.Sections.{element_side, element_loop, ElementLoopIn}
use Rattle.step_loops.proofs.HeldLaws.{Held, HeldAll, ok_at, held_kept}
use Rattle.step_loops.proofs.AfterLaws.{few, few-sides, length-limits, lower-few, upper-few, under-loops, settled}
use Rattle.step_loops.proofs.StepLaws.{outside-held, inside-held, all_held}
use Rattle.step_loops.proofs.ReversalLaws.{still-there, still-ok}

abbrev pub coefficient_section : ℕ → ℕ → CoefficientSection
coefficient_section a w = record { place = a; width = w }

module _ (s : List ℤ) (c : List ℕ) (depth a w many : ℕ) (p : SectionIn s c depth a w) (deep : depth ≡ a + 1 + many) where
  here : LoopOk s c a
  here = ok_at s c depth a p.nest p.place

  abbrev S : Loop
  S = on_sides (SectionLower w) (SectionUpper w) (loop_at s c a)

  abbrev E : Loop
  E = element_loop a w (loop_at s c a)

  abbrev inside : List Loop
  inside = map (on_limits (change_of (SectionRow (coefficient_section a w)))) (loops_from s c (a + 1) many)

  sectioned-is : loops_after (section a w) (loops_from s c 0 depth) ≡ loops_from s c 0 a ++ ((S ∷ E ∷ []) ++ inside)
  unfolding loops_after section_at deeper change_of on_sides element_loop element_side loops_from
  sectioned-is =
      let e : depth ≡ a + suc many = omega arith in
      let f : suc a ≡ a + 1 = omega arith in
      ap (λ n. under a (section_at a w) (loops_from s c 0 n)) e ∙ under-loops (section_at a w) s c a (suc many)
      ∙ ap (λ k. loops_from s c 0 a ++ (S ∷ E ∷ map (on_limits (change_of (SectionRow (coefficient_section a w)))) (loops_from s c k many))) f

  -- ---- how many limits

  S-few : few S ≡ true
  unfolding on_sides
  S-few =
      let L = loop_at s c a in
      T_true (few S) (few-sides S (omega (arith, lower-few s c a here, length-map L.lower (change_of (SectionLower w))))
      (omega (arith, upper-few s c a here, length-map L.upper (change_of (SectionUpper w)))))

  both-few : all few (S ∷ E ∷ []) ≡ few E
  unfolding all
  both-few = ap (◌&& (few E && true)) S-few ∙ and-true (few E)

  lower-length : length E.lower ≡ suc (get_or c (a * 2) 0)
  unfolding element_loop element_side loop_at
  lower-length = ap suc (length-map (loop_at s c a).lower (element_limit w) ∙ length-limits s a (a * 32) (get_or c (a * 2) 0))

  upper-length : length E.upper ≡ suc (get_or c (a * 2 + 1) 0)
  unfolding element_loop element_side loop_at
  upper-length = ap suc (length-map (loop_at s c a).upper (element_limit w) ∙ length-limits s a (a * 32 + 16) (get_or c (a * 2 + 1) 0))

  too_many : (n : ℕ) → 16 < n → leb n 16 ≡ false
  too_many n h = not-T-false (leb n 16) (λ t. let k = leb→le n 16 t in absurd (omega arith))

  E-few : get_or c (a * 2) 0 < 16 → get_or c (a * 2 + 1) 0 < 16 → few E ≡ true
  E-few h g = T_true (few E) (few-sides E (omega (arith, lower-length)) (omega (arith, upper-length)))

  shallow : depth_after (section a w) depth ≤ 6
  unfolding depth_after
  shallow = let r = p.room in omega arith

  counted : depth_after (section a w) depth ≡ a + (length (S ∷ E ∷ []) + many)
  unfolding depth_after
  counted = omega arith

  sectioned-settled : (full small : Bool) (s' : List ℤ) (c' : List ℕ) → length s' ≡ nest_room → length c' ≡ most_sides
      → full ≡ not (few E) → (full ≡ false → small ≡ all small_loop (S ∷ E ∷ []) && all small_loop inside)
      → (full ≡ false → small ≡ true → HeldAll s' c' 0 (loops_from s c 0 a ++ ((S ∷ E ∷ []) ++ inside)) × Within 32767 s')
      → After (section a w) s c depth (step_answer (not full) small) s' c'
  sectioned-settled full small s' c' x n f g h =
      settled (SectionRow (coefficient_section a w)) s c depth p.nest a (a + 1) many (omega arith) (omega arith) (S ∷ E ∷ []) (section a w)
      sectioned-is counted shallow full small s' c' x n (f ∙ ap not (sym both-few)) g h

  full-settled : few E ≡ false → After (section a w) s c depth (Err TooManyLimits) s c
  full-settled e = sectioned-settled true false s c p.nest.words p.nest.counts (sym (ap not e))
      (λ q. absurd (let z : ◌≡◌ {A = ℕ} 0 1 = cc in omega arith)) (λ q. absurd (let z : ◌≡◌ {A = ℕ} 0 1 = cc in omega arith))

  pub lower-full : 16 ≤ get_or c (a * 2) 0 → After (section a w) s c depth (Err TooManyLimits) s c
  lower-full h = full-settled (ap (◌&& leb (length E.upper) 16) (too_many (length E.lower) (omega (arith, lower-length))))

  pub upper-full : 16 ≤ get_or c (a * 2 + 1) 0 → After (section a w) s c depth (Err TooManyLimits) s c
  upper-full h = full-settled (ap (leb (length E.lower) 16 &&◌) (too_many (length E.upper) (omega (arith, upper-length)))
      ∙ and-false (leb (length E.lower) 16))

  -- ---- the changes

  pub split-in : LoopsIn (SectionRow (coefficient_section a w)) s c (a + 1) many 1
  unfolding Allowed outer_after
  split-in = let r = p.room in record {
    words = p.nest.words;
    counts = p.nest.counts;
    room = omega arith;
    allowed = λ j h. (omega arith, omega arith, p.narrow);
    outer = λ j h. omega arith;
    small = p.nest.small;
    there = λ j h. ok_at s c depth (a + 1 + j) p.nest (omega arith);
  }

  module _ (low : get_or c (a * 2) 0 < 16) (up : get_or c (a * 2 + 1) 0 < 16) (r₁ : Bool) (t₁ : List ℤ) (d₁ : List ℕ)
      (m₁ : LoopsMade (SectionRow (coefficient_section a w)) s c (a + 1) many 1 r₁ t₁ d₁) where
    not_full : false ≡ not (few E)
    not_full = sym (ap not (E-few low up))

    large : (s' : List ℤ) (c' : List ℕ) → length s' ≡ nest_room → length c' ≡ most_sides → all small_loop (S ∷ E ∷ []) && all small_loop inside ≡ false
        → After (section a w) s c depth (Err NumberOutOfRange) s' c'
    large s' c' x n e = sectioned-settled false false s' c' x n not_full (λ _. sym e) (λ _ q. absurd (let z : ◌≡◌ {A = ℕ} 0 1 = cc in omega arith))

    pub inside-large : r₁ ≡ false → After (section a w) s c depth (Err NumberOutOfRange) t₁ d₁
    inside-large e = large t₁ d₁ (m₁.words ∙ p.nest.words) (m₁.counts ∙ p.nest.counts)
        (ap (all small_loop (S ∷ E ∷ []) &&◌) (sym m₁.tested ∙ e) ∙ and-false (all small_loop (S ∷ E ∷ [])))

    module _ (e₁ : r₁ ≡ true) where
      splits : LoopsMade (SectionRow (coefficient_section a w)) s c (a + 1) many 1 true t₁ d₁
      splits = subst (λ (b : Bool). LoopsMade (SectionRow (coefficient_section a w)) s c (a + 1) many 1 b t₁ d₁) e₁ m₁

      here₁ : loop_at t₁ d₁ a ≡ loop_at s c a
      here₁ = still-there (SectionRow (coefficient_section a w)) s c depth (a + 1) many 1 p.nest t₁ d₁ splits a (omega arith) p.place

      ok₁ : LoopOk t₁ d₁ a
      ok₁ = still-ok (SectionRow (coefficient_section a w)) s c depth (a + 1) many 1 p.nest t₁ d₁ splits a (omega arith) p.place

      pub element-in : ElementLoopIn t₁ d₁ a w
      element-in = let r = p.room in record {
        words = m₁.words ∙ p.nest.words;
        counts = m₁.counts ∙ p.nest.counts;
        deep = omega arith;
        positive = p.positive;
        narrow = p.narrow;
        small = (m₁.whole e₁).small;
        there = ok₁;
        few = (omega (arith, (m₁.whole e₁).counts-kept (a * 2) (omega arith)), omega (arith, (m₁.whole e₁).counts-kept (a * 2 + 1) (omega arith)));
      }

      module _ (r₂ : Bool) (t₂ : List ℤ) (d₂ : List ℕ) (k₂ : LoopMade t₁ d₁ (a + 1) (element_loop a w (loop_at t₁ d₁ a)) r₂ t₂ d₂) where
        m₂ : LoopMade t₁ d₁ (a + 1) E r₂ t₂ d₂
        m₂ = subst (λ (L : Loop). LoopMade t₁ d₁ (a + 1) (element_loop a w L) r₂ t₂ d₂) here₁ k₂

        inside-passes : all small_loop inside ≡ true
        inside-passes = sym m₁.tested ∙ e₁

        pub element-large : r₂ ≡ false → After (section a w) s c depth (Err NumberOutOfRange) t₂ d₂
        unfolding all
        element-large e = large t₂ d₂ (m₂.words ∙ m₁.words ∙ p.nest.words) (m₂.counts ∙ m₁.counts ∙ p.nest.counts)
            (ap (◌&& all small_loop inside) (ap (λ b. small_loop S && (b && true)) (sym m₂.tested ∙ e) ∙ and-false (small_loop S)))

        module _ (e₂ : r₂ ≡ true) where
          -- loop a still stands as it did
          words-wait : (q : ℕ) → q < (a + 1) * 256 → get_or t₂ q (pos 0) ≡ get_or t₁ q (pos 0)
          words-wait q h = (m₂.whole e₂).words-kept.before q h

          counts-wait : (q : ℕ) → q < (a + 1) * 2 → get_or d₂ q 0 ≡ get_or d₁ q 0
          counts-wait q h = (m₂.whole e₂).counts-kept.before q h

          here₂ : loop_at t₂ d₂ a ≡ loop_at s c a
          here₂ = let r = p.room in loop-same t₁ t₂ d₁ d₂ a (m₁.words ∙ p.nest.words) m₂.words (omega arith) ok₁
              (λ q x y. words-wait q (omega arith)) (λ q x y. counts-wait q (omega arith)) ∙ here₁

          pub section-in : LoopIn (SectionLower w) (SectionUpper w) t₂ d₂ a a
          unfolding Allowed outer_after
          section-in = let r = p.room in record {
            words = m₂.words ∙ m₁.words ∙ p.nest.words;
            counts = m₂.counts ∙ m₁.counts ∙ p.nest.counts;
            further = (omega arith, omega arith);
            allowed = ((p.positive, p.narrow), (p.positive, p.narrow));
            outer = (refl, refl);
            small = (m₂.whole e₂).small;
            there = ok_same t₁ t₂ d₁ d₂ a (m₁.words ∙ p.nest.words) m₂.words (omega arith) ok₁ (λ q x y. words-wait q (omega arith))
                (λ q x y. counts-wait q (omega arith));
          }

          module _ (r₃ : Bool) (t₃ : List ℤ) (d₃ : List ℕ) (k₃ : LoopMade t₂ d₂ a (on_sides (SectionLower w) (SectionUpper w) (loop_at t₂ d₂ a)) r₃ t₃
              d₃) where
            m₃ : LoopMade t₂ d₂ a S r₃ t₃ d₃
            m₃ = subst (λ (L : Loop). LoopMade t₂ d₂ a (on_sides (SectionLower w) (SectionUpper w) L) r₃ t₃ d₃) here₂ k₃

            all_tested : r₃ ≡ all small_loop (S ∷ E ∷ []) && all small_loop inside
            unfolding all
            all_tested = m₃.tested ∙ sym (ap₂ (λ x y. (small_loop S && (x && true)) && y) (sym m₂.tested ∙ e₂) inside-passes
                ∙ and-true (small_loop S && true) ∙ and-true (small_loop S))

            held : r₃ ≡ true → HeldAll t₃ d₃ 0 (loops_from s c 0 a ++ ((S ∷ E ∷ []) ++ inside))
            held e₃ =
                let u = m₁.whole e₁ in
                let v = m₂.whole e₂ in
                let x = m₃.whole e₃ in
                let r = p.room in
                let z : a + 1 + 1 ≡ suc (suc a) = omega arith in
                let y : a + 1 ≡ suc a = omega arith in
                let E-held : Held t₃ d₃ (a + 1) E =
                held_kept t₂ t₃ d₂ d₃ (a + 1) E (m₂.words ∙ m₁.words ∙ p.nest.words) m₃.words (omega arith)
                (λ q i j. x.words-kept.after q (omega arith)) (λ q i j. x.counts-kept.after q (omega arith))
                (record { made = v.made; ok = v.ok }) in
                all_held s c depth p.nest a t₃ d₃ ((S ∷ E ∷ []) ++ inside)
                (outside-held s c depth p.nest a t₃ d₃ (omega arith) (m₃.words ∙ m₂.words ∙ m₁.words)
                (λ q h. x.words-kept.before q h ∙ v.words-kept.before q (omega arith) ∙ u.words-kept q (omega arith))
                (λ q h. x.counts-kept.before q h ∙ v.counts-kept.before q (omega arith) ∙ u.counts-kept q (omega arith))) (
                  record { made = x.made; ok = x.ok },
                  (
                    subst (λ (k : ℕ). Held t₃ d₃ k E) y E-held,
                    subst (λ (k : ℕ). HeldAll t₃ d₃ k inside) z
                        (inside-held s c depth p.nest (SectionRow (coefficient_section a w)) (a + 1) many 1 t₁ t₃ d₁ d₃ (omega arith) m₁.words
                        u (m₃.words ∙ m₂.words)
                        (λ q h. x.words-kept.after q (omega arith) ∙ v.words-kept.after q (omega arith))
                        (λ q h. x.counts-kept.after q (omega arith) ∙ v.counts-kept.after q (omega arith))),
                  ),
                )

            pub sectioned-done : After (section a w) s c depth (step_answer true r₃) t₃ d₃
            sectioned-done = sectioned-settled false r₃ t₃ d₃ (m₃.words ∙ m₂.words ∙ m₁.words ∙ p.nest.words)
                (m₃.counts ∙ m₂.counts ∙ m₁.counts ∙ p.nest.counts) not_full (λ _. all_tested)
                (λ _ e₃. (held e₃, (m₃.whole e₃).small))
