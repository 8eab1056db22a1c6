-- Limits and loops that follow each other on flat slices, as the values of a function at n places: what holds of each, of all.
use mathlib.Core.Path.{◌≡◌, refl, sym, ap, ap₂, ◌∙◌, subst}
use mathlib.Core.Bool.{Bool, false}
use mathlib.Core.List.{List, [], ◌∷◌, map}
use Prim.Native.Nat.{ℕ, zero, suc, ◌+◌, ◌<◌}
use native.Mathlib.Omega.{arith}
use native.Mathlib.Nat.{add-zero}
use lib.Dec.{T}
use lib.IntN.{ℤ}
use Rattle.lists.specs.Tests.{all}
use Rattle.lists.proofs.TestLaws.{and_both, and_intro, not-T-false, false-not-T}
use Rattle.model.specs.Ticket.{Limit, Loop}
use Rattle.nest_flat.specs.Flat.{limit_at, limits_at, loop_at, loops_from}

-- ---- the values of g at the n places from j on

run : {A : Type 0} → (ℕ → A) → ℕ → ℕ → List A
run g j zero = []
run g j (suc n) = g j ∷ run g (suc j) n

module _ {A : Type 0} (f : A → A) (g : ℕ → A) where
  run-map : (h : ℕ → A) (j k n : ℕ) → ((i : ℕ) → i < n → h (k + i) ≡ f (g (j + i))) → run h k n ≡ map f (run g j n)
  unfolding run
  run-map h j k zero e = refl
  run-map h j k (suc n) e =
      ap₂ ◌∷◌ (ap h (sym (add-zero k)) ∙ e 0 (omega arith) ∙ ap (λ i. f (g i)) (add-zero j))
      (run-map h (suc j) (suc k) n (λ i l.
      let a : suc k + i ≡ k + suc i = omega arith in let b : j + suc i ≡ suc j + i = omega arith in
      ap h a ∙ e (suc i) (omega arith) ∙ ap (λ i. f (g i)) b))

  module _ (p : A → Bool) where
    run-pass : (j n : ℕ) → ((i : ℕ) → i < n → T (p (f (g (j + i))))) → T (all p (map f (run g j n)))
    unfolding all run
    run-pass j zero e = tt
    run-pass j (suc n) e =
        and_intro (p (f (g j))) (all p (map f (run g (suc j) n)))
        (subst (λ (i : ℕ). T (p (f (g i)))) (add-zero j) (e 0 (omega arith)))
        (run-pass (suc j) n (λ i h. let a : j + suc i ≡ suc j + i = omega arith in subst (λ (i : ℕ). T (p (f (g i)))) a (e (suc i) (omega arith))))

    passed-at : (j n : ℕ) → T (all p (map f (run g j n))) → (i : ℕ) → i < n → T (p (f (g (j + i))))
    unfolding all run
    passed-at j zero t i h = absurd (omega arith)
    passed-at j (suc n) t zero h = subst (λ (i : ℕ). T (p (f (g i)))) (sym (add-zero j))
        (and_both (p (f (g j))) (all p (map f (run g (suc j) n))) t).0
    passed-at j (suc n) t (suc i) h =
        let a : suc j + i ≡ j + suc i = omega arith in
        subst (λ (i : ℕ). T (p (f (g i)))) a (passed-at (suc j) n (and_both (p (f (g j))) (all p (map f (run g (suc j) n))) t).1 i (omega arith))

    run-fail : (j n i : ℕ) → i < n → p (f (g (j + i))) ≡ false → all p (map f (run g j n)) ≡ false
    run-fail j n i h e = not-T-false (all p (map f (run g j n))) (λ t. false-not-T (p (f (g (j + i)))) e (passed-at j n t i h))

-- ---- limits

limits-run : (s : List ℤ) (k j n : ℕ) → limits_at s k j n ≡ run (limit_at s k) j n
unfolding limits_at run
limits-run s k j zero = refl
limits-run s k j (suc n) = ap (limit_at s k j ∷◌) (limits-run s k (suc j) n)

module _ (f : Limit → Limit) (s : List ℤ) (k : ℕ) where
  pub limits-map : (t : List ℤ) (m from to n : ℕ) → ((i : ℕ) → i < n → limit_at t m (to + i) ≡ f (limit_at s k (from + i)))
      → limits_at t m to n ≡ map f (limits_at s k from n)
  limits-map t m from to n e = limits-run t m to n ∙ run-map f (limit_at s k) (limit_at t m) from to n e ∙ ap (map f) (sym (limits-run s k from n))

  pub limits-pass : (p : Limit → Bool) (j n : ℕ) → ((i : ℕ) → i < n → T (p (f (limit_at s k (j + i))))) → T (all p (map f (limits_at s k j n)))
  limits-pass p j n e = subst (λ (l : List Limit). T (all p (map f l))) (sym (limits-run s k j n)) (run-pass f (limit_at s k) p j n e)

  pub limits-fail : (p : Limit → Bool) (j n i : ℕ) → i < n → p (f (limit_at s k (j + i))) ≡ false → all p (map f (limits_at s k j n)) ≡ false
  limits-fail p j n i h e = ap (λ l. all p (map f l)) (limits-run s k j n) ∙ run-fail f (limit_at s k) p j n i h e

-- ---- loops

loops-run : (s : List ℤ) (c : List ℕ) (k n : ℕ) → loops_from s c k n ≡ run (loop_at s c) k n
unfolding loops_from run
loops-run s c k zero = refl
loops-run s c k (suc n) = ap (loop_at s c k ∷◌) (loops-run s c (suc k) n)

module _ (f : Loop → Loop) (s : List ℤ) (c : List ℕ) where
  pub loops-map : (t : List ℤ) (d : List ℕ) (from to n : ℕ) → ((i : ℕ) → i < n → loop_at t d (to + i) ≡ f (loop_at s c (from + i)))
      → loops_from t d to n ≡ map f (loops_from s c from n)
  loops-map t d from to n e = loops-run t d to n ∙ run-map f (loop_at s c) (loop_at t d) from to n e ∙ ap (map f) (sym (loops-run s c from n))

  pub loops-pass : (p : Loop → Bool) (k n : ℕ) → ((i : ℕ) → i < n → T (p (f (loop_at s c (k + i))))) → T (all p (map f (loops_from s c k n)))
  loops-pass p k n e = subst (λ (l : List Loop). T (all p (map f l))) (sym (loops-run s c k n)) (run-pass f (loop_at s c) p k n e)

  pub loops-fail : (p : Loop → Bool) (k n i : ℕ) → i < n → p (f (loop_at s c (k + i))) ≡ false → all p (map f (loops_from s c k n)) ≡ false
  loops-fail p k n i h e = ap (λ l. all p (map f l)) (loops-run s c k n) ∙ run-fail f (loop_at s c) p k n i h e
