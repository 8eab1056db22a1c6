-- Items checked one after another, from number k on: accepted where every item passes, refused at the first that does not.
use mathlib.Core.Path.{◌≡◌, refl, sym, ap, ◌∙◌}
use mathlib.Core.Bool.{Bool, not}
use mathlib.Core.Logic.{⊎_elim}
use mathlib.Core.List.Memᴰ
use mathlib.Core.List.{List, [], ◌∷◌, ◌++◌}
use Prim.Native.Nat.{ℕ, suc, ◌+◌}
use native.Mathlib.Omega.{arith}
use lib.Dec.{T, T_not, not_T}
use lib.ListN.{length}
use Rattle.lists.specs.Membership.{All}
use Rattle.lists.proofs.MembershipLaws.{all_nil, all_cons, all-imp}
use Rattle.lists.proofs.TestLaws.{refuted}
use Rattle.model.specs.Answer.{Answer, accepted, refused, require, ◌>>◌}
use Rattle.model.specs.Reasons.{FirstBad}
use Rattle.model.proofs.Answers.AnswerLaws.{not-both, then-accepted, then-refused, require-accepted, require-refused}
use Rattle.model.proofs.Answers.PassLaws.{then-pass, then-stop, require-pass, require-stop}

pub first_bad-map : {A : Type 0} {Bad Good : A → Type 0} {k p : ℕ} {xs : List A} (Bad' Good' : A → Type 0)
    → ((x : A) → Bad x → Bad' x) → ((x : A) → Good x → Good' x) → FirstBad Bad Good k xs p → FirstBad Bad' Good' k xs p
first_bad-map {Good} Bad' Good' f g r = record {
  front = r.front;
  item = r.item;
  back = r.back;
  parts = r.parts;
  number = r.number;
  bad = f r.item r.bad;
  good = all-imp Good r.front r.good (λ x _ h. g x h);
}

-- n is the number of refusal, t the test of a bad item
module _ {A : Type 0} (n : ℕ) (t : A → Bool) (check : ℕ → List A → Answer (Unit {0}))
    (none : (k : ℕ) → check k [] ≡ accepted tt) (more : (k : ℕ) (x : A) (xs : List A)
    → check k (x ∷ xs) ≡ require (not (t x)) n k >> check (suc k) xs) where
  abbrev Good : A → Type 0
  Good x = T (t x) → ⊥

  pub checks-accepted : (k : ℕ) (xs : List A) → check k xs ≡ accepted tt → All (λ x. T (t x) → ⊥) xs
  checks-accepted k [] e = all_nil Good
  checks-accepted k (x ∷ xs) e = let r = then-accepted (require (not (t x)) n k) (check (suc k) xs) (sym (more k x xs) ∙ e) in
      all_cons Good (T_not (t x) (require-accepted (not (t x)) n k r.first)) (checks-accepted (suc k) xs r.rest)

  pub checks-refused : (k : ℕ) (xs : List A) {m p : ℕ} → check k xs ≡ refused m p → (m ≡ n) × FirstBad (λ x. T (t x)) (λ x. T (t x) → ⊥) k xs p
  checks-refused k [] e = not-both (sym (none k) ∙ e)
  checks-refused k (x ∷ xs) {m} {p} e = ⊎_elim
      (λ f. let r = require-refused (not (t x)) n k f in let q = r.place in (
        r.number,
        record {
          front = [];
          item = x;
          back = xs;
          parts = refl;
          number = omega arith;
          bad = refuted (t x) r.fails;
          good = all_nil Good;
        },
      ))
      (λ f. let r = checks-refused (suc k) xs f.rest in let q = r.1.number in (
        r.0,
        record {
          front = x ∷ r.1.front;
          item = r.1.item;
          back = r.1.back;
          parts = ap (x ∷◌) r.1.parts;
          number = omega arith;
          bad = r.1.bad;
          good = all_cons Good (T_not (t x) (require-accepted (not (t x)) n k f.first)) r.1.good;
        },
      ))
      (then-refused (require (not (t x)) n k) (check (suc k) xs) (sym (more k x xs) ∙ e))

  pub accepted-checks : (k : ℕ) (xs : List A) → All (λ x. T (t x) → ⊥) xs → check k xs ≡ accepted tt
  accepted-checks k [] h = none k
  accepted-checks k (x ∷ xs) h = more k x xs ∙ then-pass (check (suc k) xs) (require-pass (not (t x)) n k (not_T (t x) (h x (Memᴰ.head refl))))
      ∙ accepted-checks (suc k) xs (λ y m. h y (Memᴰ.tail m))

  pub refused-checks : (k : ℕ) (front : List A) (x : A) (back : List A) → All (λ y. T (t y) → ⊥) front → T (t x)
      → check k (front ++ x ∷ back) ≡ refused n (k + length front)
  refused-checks k [] x back h b = more k x back ∙ then-stop (check (suc k) back) (require-stop (not (t x)) n k (λ g. T_not (t x) g b))
      ∙ ap (refused n) (omega arith)
  refused-checks k (y ∷ front) x back h b =
      more k y (front ++ x ∷ back) ∙ then-pass (check (suc k) (front ++ x ∷ back))
      (require-pass (not (t y)) n k (not_T (t y) (h y (Memᴰ.head refl))))
      ∙ refused-checks (suc k) front x back (λ z m. h z (Memᴰ.tail m)) b ∙ ap (refused n) (omega arith)
