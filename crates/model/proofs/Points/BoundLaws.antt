-- Refusals 7, 8 and 13 show their reason, and acceptance shows that there is none: what passes at a depth, then `survey` with any bounds, both
-- ways, then `nest_points` (7, 8) and `new_space` (13). What follows for iterations is in `WithinLaws`; refusal 9 is in `ArrayLaws`.
use mathlib.Core.Path.{◌≡◌, refl, sym, ◌∙◌, subst}
use mathlib.Core.Bool.{Bool, not}
use mathlib.Core.Logic.{inl, inr, ⊎_elim}
use mathlib.Core.List.{List}
use Prim.Native.Nat.{ℕ, zero, suc, ◌+◌, ◌≤◌, ◌<◌}
use native.Mathlib.Omega.{arith}
use native.Mathlib.Nat.{eq-or-lt_of_le}
use lib.Dec.{T, leb, ltb, T_not, not_T, leb→le, le→leb, ltb→lt, lt→ltb, nleb→lt, nltb→le}
use lib.IntN.{nat_abs}
use lib.ListN.{length}
use Rattle.lists.specs.Tests.{any}
use Rattle.lists.proofs.TestLaws.{any_some, some-any, refuted}
use Rattle.model.specs.Answer.{Answer, accepted, refused, require, ◌>>◌}
use Rattle.model.specs.Ticket.{Loop}
use Rattle.model.specs.Points.{partial_points}
use Rattle.model.specs.Bounds.{last_of, beyond, survey, space, new_space}
use Rattle.model.specs.Reasons.{Far, Near, Passes, Excess, Overrun}
use Rattle.model.proofs.Answers.AnswerLaws.{not-both, then-accepted, then-refused, require-accepted, require-refused}
use Rattle.model.proofs.Answers.PassLaws.{then-pass, then-stop, require-pass, require-stop}

-- ---- the partial points of depth k

abbrev some_far : ℕ → List Loop → ℕ → Bool
some_far m N k = any (λ p. beyond m (last_of p)) (partial_points k N)

module _ (m : ℕ) (N : List Loop) (k : ℕ) where
  test-far : T (some_far m N k) → Far m N k
  unfolding beyond
  test-far h = let r = any_some (λ p. beyond m (last_of p)) (partial_points k N) h in
      record { point = r.0; there = r.1; far = ltb→lt m (nat_abs (last_of r.0)) r.2 }

  far-test : Far m N k → T (some_far m N k)
  unfolding beyond
  far-test f = some-any (λ p. beyond m (last_of p)) (partial_points k N) f.there (lt→ltb m (nat_abs (last_of f.point)) f.far)

  test-near : (T (some_far m N k) → ⊥) → Near m N k
  test-near h y i = nltb→le m (nat_abs (last_of y)) (not_T (ltb m (nat_abs (last_of y)))
      (λ t. h (far-test (record { point = y; there = i; far = ltb→lt m (nat_abs (last_of y)) t }))))

  near-test : Near m N k → T (some_far m N k) → ⊥
  near-test h t = let f = test-far t in let a = h f.point f.there in let b = f.far in omega arith

module _ (far many m most : ℕ) (N : List Loop) where
  -- the checks at one depth
  abbrev alone : ℕ → Answer (Unit {0})
  alone k = require (not (some_far m N k)) far k

  abbrev together : ℕ → Answer (Unit {0})
  together k = require (leb (length (partial_points k N)) most) many k

  alone-accepted : (k : ℕ) {u : Unit {0}} → alone k ≡ accepted u → Near m N k
  alone-accepted k e = test-near m N k (T_not (some_far m N k) (require-accepted (not (some_far m N k)) far k e))

  accepted-alone : (k : ℕ) → Near m N k → alone k ≡ accepted tt
  accepted-alone k h = require-pass (not (some_far m N k)) far k (not_T (some_far m N k) (near-test m N k h))

  depth-accepted : (k : ℕ) {u : Unit {0}} → alone k >> together k ≡ accepted u → Passes m most N k
  depth-accepted k e = let r = then-accepted (alone k) (together k) e in
      record {
        near = alone-accepted k r.first;
        few = leb→le (length (partial_points k N)) most
            (require-accepted (leb (length (partial_points k N)) most) many k r.rest);
      }

  accepted-depth : (k : ℕ) → Passes m most N k → alone k >> together k ≡ accepted tt
  accepted-depth k h = then-pass (together k) (accepted-alone k h.near) ∙ require-pass (leb (length (partial_points k N)) most) many k
      (le→leb (length (partial_points k N)) most h.few)

  depth-refused : (k : ℕ) {x p : ℕ} → alone k >> together k ≡ refused x p → (p ≡ k) × Excess far many m most N k x
  depth-refused k e = ⊎_elim
      (λ f. let r = require-refused (not (some_far m N k)) far k f in
      (r.place, inl (r.number, test-far m N k (refuted (some_far m N k) r.fails))))
      (λ f. let r = require-refused (leb (length (partial_points k N)) most) many k f.rest in (
        r.place,
        inr (
          r.number,
          (
            alone-accepted k f.first,
            nleb→lt (length (partial_points k N)) most
                (not_T (leb (length (partial_points k N)) most) r.fails),
          ),
        ),
      ))
      (then-refused (alone k) (together k) e)

  refused-depth : (k : ℕ) {x : ℕ} → Excess far many m most N k x → alone k >> together k ≡ refused x k
  refused-depth k (inl f) = rw f.0 (then-stop (together k)
      (require-stop (not (some_far m N k)) far k (λ g. T_not (some_far m N k) g (far-test m N k f.1))))
  refused-depth k (inr f) = let h = f.1.1 in rw f.0
      (then-pass (together k) (accepted-alone k f.1.0) ∙ require-stop (leb (length (partial_points k N)) most) many k
      (λ t. let g = leb→le (length (partial_points k N)) most t in omega arith))

  -- ---- the survey, from depth k on, of n depths

  pub survey-accepted : (k n : ℕ) → survey far many m most N k n ≡ accepted tt → (j : ℕ) → k ≤ j → j < k + n → Passes m most N j
  unfolding survey
  survey-accepted k zero e j h g = absurd (omega arith)
  survey-accepted k (suc n) e j h g = let r = then-accepted (alone k >> together k) (survey far many m most N (suc k) n) e in
      ⊎_elim (λ q. subst (Passes m most N) q (depth-accepted k r.first)) (λ l. survey-accepted (suc k) n r.rest j l (omega arith))
      (eq-or-lt_of_le h)

  pub accepted-survey : (k n : ℕ) → ((j : ℕ) → k ≤ j → j < k + n → Passes m most N j) → survey far many m most N k n ≡ accepted tt
  unfolding survey
  accepted-survey k zero h = refl
  accepted-survey k (suc n) h =
      then-pass (survey far many m most N (suc k) n) (accepted-depth k (h k (omega arith) (omega arith))) ∙ accepted-survey (suc k) n
      (λ j l g. h j (omega arith) (omega arith))

  pub survey-refused : (k n x p : ℕ) → survey far many m most N k n ≡ refused x p → Overrun far many m most N k n x p
  unfolding survey
  survey-refused k zero x p e = not-both e
  survey-refused k (suc n) x p e = ⊎_elim (λ f. here (depth-refused k f))
      (λ f. later (depth-accepted k f.first) (survey-refused (suc k) n x p f.rest))
      (then-refused (alone k >> together k) (survey far many m most N (suc k) n) e)
    where
      here : (p ≡ k) × Excess far many m most N k x → Overrun far many m most N k (suc n) x p
      here r = let q = r.0 in record {
        from = omega arith;
        before = omega arith;
        pass = λ j h l. absurd (omega arith);
        reason = subst (λ j. Excess far many m most N j x) (sym q) r.1;
      }

      later : Passes m most N k → Overrun far many m most N (suc k) n x p → Overrun far many m most N k (suc n) x p
      later h r = let a = r.from in let b = r.before in record {
        from = omega arith;
        before = omega arith;
        pass = λ j l g. ⊎_elim (λ q. subst (Passes m most N) q h) (λ s. r.pass j s g) (eq-or-lt_of_le l);
        reason = r.reason;
      }

  pub refused-survey : (k n x p : ℕ) → Overrun far many m most N k n x p → survey far many m most N k n ≡ refused x p
  unfolding survey
  refused-survey k zero x p r = absurd (let a = r.from in let b = r.before in omega arith)
  refused-survey k (suc n) x p r = ⊎_elim
      (λ q. rw q (then-stop (survey far many m most N (suc p) n) (refused-depth p r.reason)))
      (λ l. then-pass (survey far many m most N (suc k) n) (accepted-depth k (r.pass k (omega arith) l)) ∙ refused-survey (suc k) n x p (record {
        from = l;
        before = let b = r.before in omega arith;
        pass = λ j h g. r.pass j (omega arith) g;
        reason = r.reason;
      }))
      (eq-or-lt_of_le r.from)

-- ---- 7 and 8, then 13: depths are counted from 1

module _ (N : List Loop) where
  pub space-accepted : space N ≡ accepted tt → (j : ℕ) → 1 ≤ j → j ≤ length N → Passes 32767 4096 N j
  unfolding space
  space-accepted e j h g = survey-accepted 7 8 32767 4096 N 1 (length N) e j h (omega arith)

  pub accepted-space : ((j : ℕ) → 1 ≤ j → j ≤ length N → Passes 32767 4096 N j) → space N ≡ accepted tt
  unfolding space
  accepted-space h = accepted-survey 7 8 32767 4096 N 1 (length N) (λ j l g. h j l (omega arith))

  pub space-refused : (x p : ℕ) → space N ≡ refused x p → Overrun 7 8 32767 4096 N 1 (length N) x p
  unfolding space
  space-refused x p e = survey-refused 7 8 32767 4096 N 1 (length N) x p e

  pub new-space-accepted : new_space N ≡ accepted tt → (j : ℕ) → 1 ≤ j → j ≤ length N → Passes 100000 65536 N j
  unfolding new_space
  new-space-accepted e j h g = survey-accepted 13 13 100000 65536 N 1 (length N) e j h (omega arith)

  pub new-space-refused : (x p : ℕ) → new_space N ≡ refused x p → Overrun 13 13 100000 65536 N 1 (length N) x p
  unfolding new_space
  new-space-refused x p e = survey-refused 13 13 100000 65536 N 1 (length N) x p e
