-- The steps' words: the tests of loop numbers as ranges, the factor of a skew, and the section step by step.
use mathlib.Core.Path.{◌≡◌, refl, sym, ap, ◌∙◌, subst, fun_ext}
use mathlib.Core.Bool.{Bool, true, false, cond, ◌&&◌, not, and-true, and-false}
use mathlib.Core.List.{List, [], ◌∷◌, ◌++◌}
use Prim.Native.Nat.{ℕ, zero, suc, min, ◌+◌, ◌<◌, ◌≤◌}
use native.Mathlib.Omega.{arith}
use native.Mathlib.Numerals.{add-one}
use lib.ListN.{length, take, set}
use lib.Seq.{take-suc-set, length-take-le}
use borrow.Author.Tests.{lt-ltb, le-leb, lt-leb, eq-eqb, leb-true, ltb-true, eqb-true}
use lib.Dec.{T, leb, ltb, eqb}
use lib.IntN.{ℤ, pos, negsuc, neg_ℤ, nat_abs}
use lib.Signed.{lt_z}
use Rattle.lists.proofs.TestLaws.{true-T, T_true, T-same, and_both, and_intro}
use Rattle.integers.specs.Sign.{eq_z}
use Rattle.model.specs.Answer as Answer
use Rattle.model.specs.Answer.{Answer, accepted, refused, require}
use Rattle.model.specs.Ticket as Model
use Rattle.model.specs.Grammar.{Read, Reader, ◌>>=◌, ◌>>◌, done, must, must_at, between, within, natural, number, loop_number, most_factor}
use Rattle.model.specs.Grammar.{step_kinds, step_of, depth_after, steps_from}
use Rattle.std.specs.Prelude.{Result, Err, IsErrAnd}
use Rattle.std.proofs.lemmas.Result.{err_from_is_err_and}
use Rattle.ticket_refusals.specs.declared.Refusal.{Refusal}
use Rattle.ticket_words.specs.Reads.{Reads, plain}
use Rattle.ticket_words.specs.declared.Words.{Words}
use Rattle.ticket_words.proofs.ReaderLaws.{regrouped, repeated}
use Rattle.ticket_steps.specs.Steps.{sectionable, factor, one_step, NumberedFrom}
use Rattle.ticket_steps.specs.declared.Numbered.{Numbered}

-- ---- tests of loop numbers

le_t : (a b : ℕ) → a ≤ b → T (leb a b)
le_t a b h = true-T (leb a b) (le-leb a b h)

T-le : (a b : ℕ) → T (leb a b) → a ≤ b
T-le a b t = leb-true a b (T_true (leb a b) t)

module _ (a m : ℕ) (low : 1 ≤ a) (high : a ≤ m) where
  exchange-into : (x : ℕ) → T ((leb 1 x && leb x m) && eqb x (suc a)) → T (leb (a + 1) x && leb x (min m (a + 1)))
  exchange-into x t =
      let p = and_both (leb 1 x && leb x m) (eqb x (suc a)) t in
      let q = and_both (leb 1 x) (leb x m) p.0 in
      let e = eqb-true x (suc a) (T_true (eqb x (suc a)) p.1) in
      let l = T-le x m q.1 in
      and_intro (leb (a + 1) x) (leb x (min m (a + 1))) (le_t (a + 1) x (omega arith)) (le_t x (min m (a + 1)) (omega arith))

  exchange-from : (x : ℕ) → T (leb (a + 1) x && leb x (min m (a + 1))) → T ((leb 1 x && leb x m) && eqb x (suc a))
  exchange-from x t =
      let p = and_both (leb (a + 1) x) (leb x (min m (a + 1))) t in
      let g = T-le (a + 1) x p.0 in
      let h = T-le x (min m (a + 1)) p.1 in
      and_intro (leb 1 x && leb x m) (eqb x (suc a)) (and_intro (leb 1 x) (leb x m) (le_t 1 x (omega arith)) (le_t x m (omega arith)))
      (true-T (eqb x (suc a)) (eq-eqb x (suc a) (omega arith)))

  pub exchange-test : (w : ℤ) → between (pos 1) (pos m) w && eq_z w (pos (suc a)) ≡ between (pos (a + 1)) (pos (min m (a + 1))) w
  unfolding between
  exchange-test (pos x) = T-same _ _ (exchange-into x) (exchange-from x)
  exchange-test (negsuc x) = refl

  skew-into : (x : ℕ) → T ((leb 1 x && leb x m) && ltb a x) → T (leb (a + 1) x && leb x m)
  skew-into x t =
      let p = and_both (leb 1 x && leb x m) (ltb a x) t in
      let q = and_both (leb 1 x) (leb x m) p.0 in
      let l = ltb-true a x (T_true (ltb a x) p.1) in
      and_intro (leb (a + 1) x) (leb x m) (le_t (a + 1) x (omega arith)) q.1

  skew-from : (x : ℕ) → T (leb (a + 1) x && leb x m) → T ((leb 1 x && leb x m) && ltb a x)
  skew-from x t =
      let p = and_both (leb (a + 1) x) (leb x m) t in
      let g = T-le (a + 1) x p.0 in
      and_intro (leb 1 x && leb x m) (ltb a x) (and_intro (leb 1 x) (leb x m) (le_t 1 x (omega arith)) p.1)
      (true-T (ltb a x) (lt-ltb a x (omega arith)))

  pub skew-test : (w : ℤ) → between (pos 1) (pos m) w && lt_z (pos a) w ≡ between (pos (a + 1)) (pos m) w
  unfolding between
  skew-test (pos x) = T-same _ _ (skew-into x) (skew-from x)
  skew-test (negsuc x) = refl

no_loop : (x : ℕ) → leb 1 x && leb x 0 ≡ false
no_loop zero = refl
no_loop (suc x) = rw (lt-leb (suc x) 0 (omega arith)) (and-false (leb 1 (suc x)))

section-by : (m : ℕ) (t : Bool) (w : ℤ) → between (pos 1) (pos m) w && t ≡ between (pos 1) (pos (cond t m 0)) w
unfolding between
section-by m true w = and-true (between (pos 1) (pos m) w)
section-by m false (pos x) = and-false (leb 1 x && leb x m) ∙ sym (no_loop x)
section-by m false (negsuc x) = refl

pub section-test : (m : ℕ) (w : ℤ) → between (pos 1) (pos m) w && ltb m 6 ≡ between (pos 1) (pos (sectionable m)) w
section-test m w = section-by m (ltb m 6) w

-- ---- what was refused is handed on

module _ {T A : Type 0} {view : T → A} {m : Reader A} {o e : Words} {q : Result T Refusal} {x : Refusal} where
  pub handed_on : IsErrAnd q (λ y. y ≡ x) → Reads view m o (Err x) e → Reads view m o q e
  handed_on d h = let p = err_from_is_err_and q d in rw (p.1, p.2) h

-- ---- another reader that answers the same

module _ {T A : Type 0} {view : T → A} {m n : Reader A} {o e : Words} {r : Result T Refusal} where
  pub reads-same : m ≡ n → Reads view n o r e → Reads view m o r e
  reads-same p h = subst (λ (x : Reader A). Reads view x o r e) (sym p) h

  reads-as : m o.bytes.now o.next ≡ n o.bytes.now o.next → Reads view n o r e → Reads view m o r e
  reads-as p h = record { same = h.same ∙ sym p; bytes = h.bytes }

-- a loop number by a test that agrees
module _ (step : ℕ) (f g : ℤ → Bool) (same : (w : ℤ) → f w ≡ g w) {o e : Words} {r : Result ℕ Refusal} where
  pub retested : Reads plain (loop_number step g) o r e → Reads plain (loop_number step f) o r e
  unfolding loop_number ◌>>=◌
  retested h = reads-as (by (number o.bytes.now o.next)) h
    where
      by : (a : Answer (Read ℤ)) → Answer.◌>>=◌ a (λ r. (must_at (f r.value) 6 step >> done (nat_abs r.value)) o.bytes.now r.next)
          ≡ Answer.◌>>=◌ a (λ r. (must_at (g r.value) 6 step >> done (nat_abs r.value)) o.bytes.now r.next)
      by (accepted r) = unfold Answer.◌>>=◌ in rw (same r.value)
      by (refused n p) = unfold Answer.◌>>=◌ in refl

-- hi is the last loop that b may name
pub next-read : (step a m hi : ℕ) → 1 ≤ a → a ≤ m → hi ≡ min m (a + 1) → {o e : Words} {r : Result ℕ Refusal}
    → Reads plain (loop_number step (between (pos (a + 1)) (pos hi))) o r e
    → Reads plain (loop_number step (λ w. between (pos 1) (pos m) w && eq_z w (pos (suc a)))) o r e
next-read step a m hi low high s h = retested step _ _ (λ w. exchange-test a m low high w ∙ ap (λ t. between (pos (a + 1)) (pos t) w) (sym s)) h

pub inner-read : (step a m : ℕ) → 1 ≤ a → a ≤ m → {o e : Words} {r : Result ℕ Refusal}
    → Reads plain (loop_number step (between (pos (a + 1)) (pos m))) o r e
    → Reads plain (loop_number step (λ w. between (pos 1) (pos m) w && lt_z (pos a) w)) o r e
inner-read step a m low high h = retested step _ _ (skew-test a m low high) h

pub target-read : (step m hi : ℕ) → hi ≡ sectionable m → {o e : Words} {r : Result ℕ Refusal}
    → Reads plain (loop_number step (between (pos 1) (pos hi))) o r e
    → Reads plain (loop_number step (λ w. between (pos 1) (pos m) w && ltb m 6)) o r e
target-read step m hi s h = retested step _ _ (λ w. section-test m w ∙ ap (λ t. between (pos 1) (pos t) w) (sym s)) h

-- ---- a skew, whose last word is a factor

-- the reader of a factor, then what is made of it
factor-last : {D : Type 0} (g : ℤ → D) (b : List ℕ) (k : ℕ)
    → (within (neg_ℤ (pos most_factor)) (pos most_factor) >>= (λ c. must (not (eq_z c (pos 0))) 4 >> done (g c))) b k ≡ (factor >>= (λ c. done (g c))) b k
unfolding factor ◌>>=◌
factor-last g b k = by (within (neg_ℤ (pos most_factor)) (pos most_factor) b k)
  where
    by-test : (t : Bool) (c : ℤ) (j : ℕ) → (must t 4 >> done (g c)) b j ≡ Answer.◌>>=◌ ((must t 4 >> done c) b j)
        (λ r. done (g r.value) b r.next)
    by-test true c j = unfold ◌>>◌ ◌>>=◌ must done require Answer.◌>>=◌ in refl
    by-test false c j = unfold ◌>>◌ ◌>>=◌ must done require Answer.◌>>=◌ in refl

    by : (a : Answer (Read ℤ)) → Answer.◌>>=◌ a (λ r. (must (not (eq_z r.value (pos 0))) 4 >> done (g r.value)) b r.next)
        ≡ Answer.◌>>=◌ (Answer.◌>>=◌ a (λ r. (must (not (eq_z r.value (pos 0))) 4 >> done r.value) b r.next))
        (λ r. done (g r.value) b r.next)
    by (accepted r) = unfold Answer.◌>>=◌ in by-test (not (eq_z r.value (pos 0))) r.value r.next
    by (refused n p) = unfold Answer.◌>>=◌ in refl

pub then-factor : {T D : Type 0} {view : T → D} (g : ℤ → D) {o e : Words} {r : Result T Refusal} → Reads view (factor >>= (λ c. done (g c))) o r e
    → Reads view (within (neg_ℤ (pos most_factor)) (pos most_factor) >>= (λ c. must (not (eq_z c (pos 0))) 4 >> done (g c))) o r e
then-factor g {o} h = reads-as (factor-last g o.bytes.now o.next) h

-- ---- the section, one step after another

numbered_more : (k : ℕ) (xs : List Numbered) (x : Numbered) → x.number ≡ k + length xs → NumberedFrom k xs → NumberedFrom k (xs ++ (x ∷ []))
numbered_more k [] x e h = (omega arith, tt)
numbered_more k (y ∷ xs) x e h = (h.0, numbered_more (suc k) xs x (omega arith) h.1)

pub numbered_next : (l : List Numbered) (i : ℕ) (x : Numbered) → i < length l → x.number ≡ i + 1 → NumberedFrom 1 (take i l)
    → NumberedFrom 1 (take (i + 1) (set l i x))
numbered_next l i x h e n =
    let s = length-take-le i l (omega arith) in
    let z : take i l ++ (x ∷ []) ≡ take (i + 1) (set l i x) = sym (ap (λ m. take m (set l i x)) (add-one i) ∙ take-suc-set l i x h) in
    subst (NumberedFrom 1) z (numbered_more 1 (take i l) x (omega arith) n)

one-step : (k m n : ℕ) (b : List ℕ) (j : ℕ) → steps_from k m (suc n) b j ≡ (one_step k m >>=
    (λ t. steps_from (suc k) (depth_after t m) n >>= (λ rest. done (t ∷ rest)))) b j
unfolding steps_from one_step
one-step k m n b j = regrouped (natural 1 step_kinds) (λ kind. step_of kind k m) _ b j

-- the number of the next step and that of the loops then
abbrev pub State : Type 0
State = ℕ × ℕ

abbrev pub reads_one : State → Reader Model.Step
reads_one s = one_step s.0 s.1

abbrev pub after : State → Model.Step → State
after s t = (suc s.0, depth_after t s.1)

one-more : (k m n : ℕ) → ((t : Model.Step) → steps_from (suc k) (depth_after t m) n ≡ repeated reads_one after n (after (k, m) t))
    → steps_from k m (suc n) ≡ repeated reads_one after (suc n) (k, m)
unfolding repeated
one-more k m n h = fun_ext (λ b. fun_ext (λ j. one-step k m n b j
    ∙ ap (λ (g : Model.Step → Reader (List Model.Step)). (one_step k m >>= (λ t. g t >>= (λ l. done (t ∷ l)))) b j) (fun_ext h)))

pub repeats : (k m n : ℕ) → steps_from k m n ≡ repeated reads_one after n (k, m)
unfolding steps_from repeated
repeats k m zero = refl
repeats k m (suc n) = one-more k m n (λ t. repeats (suc k) (depth_after t m) n)
