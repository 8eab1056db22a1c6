-- The readers of the steps: the loops that a step names are there, its width is in range, its words.
use mathlib.Core.Path.{◌≡◌, refl, sym, ap, ap₂, ◌∙◌, subst}
use mathlib.Core.Bool.{Bool, cond, not, ◌&&◌}
use mathlib.Core.List.{[], ◌∷◌, ◌++◌, flat_map, append-nil}
use Prim.Native.Nat.{ℕ, zero, suc, ◌+◌, ◌-◌, ◌≤◌}
use native.Mathlib.Omega.{arith}
use lib.Dec.{T, eqb, ltb, leb→le, ltb→lt, eqb_refl, eqb→eq, T_not}
use lib.IntN.{ℤ, pos, negsuc, neg_ℤ, nat_abs}
use lib.Signed.{le_z, lt_z}
use borrow.Author.Tests.{eqb-true, eqb-false}
use Rattle.lists.proofs.TestLaws.{and_both, cond_cases}
use Rattle.integers.specs.Sign.{eq_z}
use Rattle.model.specs.Ticket.{Step, exchange, reversal, skew, section, circulation}
use Rattle.model.specs.Grammar.{Reader, between, natural, loop_number, exchange_step, reversal_step, skew_step, section_step, circulation_step}
use Rattle.model.specs.Grammar.{most_factor}
use Rattle.model.specs.Grammar.{step_kinds, step_of, depth_after, steps_from, steps}
use Rattle.model.specs.Encode.{counted, kind_of, arguments, step_words}
use Rattle.model.specs.Ranges.{InRange, StepThere, StepsThere}
use Rattle.model.proofs.Grammar.ReaderLaws.{Meets, As, Long, Few, bind, must-at, must_at-at, done_at, done-meets, meets-map, alone, one}
use Rattle.model.proofs.Grammar.ReaderLaws.{between-natural, counted-meets, natural-meets, number-meets, within-meets}

-- ---- single words

-- a word that a step does not use
nought-meets : Meets (natural 0 0) (As (λ c. Unit {0}) (λ c. pos 0 ∷ []))
nought-meets = meets-map (λ c ws h. record { holds = tt; words = h.words ∙ ap one (let e = h.holds.high in omega arith) }) (natural-meets 0 0)

loop_number-meets : (k : ℕ) (ok : ℤ → Bool) → ((w : ℤ) → T (ok w) → w ≡ pos (nat_abs w)) → Meets (loop_number k ok) (As (λ n. T (ok (pos n))) one)
unfolding loop_number
loop_number-meets k ok natural = bind number-meets (λ w _. record {
  from = λ b j r. must_at-at (ok w) 6 k (λ h. done_at (nat_abs w)
      (record { holds = subst (λ z. T (ok z)) (natural w h) h; words = ap alone (natural w h) }));
})

pub factor-range : (c : ℤ) → T (between (neg_ℤ (pos most_factor)) (pos most_factor) c) → T (not (eq_z c (pos 0))) → InRange 1 most_factor (nat_abs c)
unfolding between
factor-range (pos zero) h n = absurd n
factor-range (pos (suc c)) h n = record { low = omega arith; high = leb→le (suc c) most_factor h }
factor-range (negsuc c) h n = let e = leb→le c (most_factor - 1)
    (and_both (le_z (neg_ℤ (pos most_factor)) (negsuc c)) (le_z (negsuc c) (pos most_factor)) h).0 in record { low = omega arith; high = omega arith }

-- ---- one step

-- the step is there, and of this kind
pub record StepRead (n m : ℕ) (t : Step) : Type 0 where
  pub there : StepThere m t
  pub kind : kind_of t ≡ n

-- step k, that finds m loops
module _ (k m : ℕ) where
  natural-word : (w : ℤ) → T (between (pos 1) (pos m) w) → w ≡ pos (nat_abs w)
  natural-word w h = (between-natural 1 m w h).1

  in-nest : (n : ℕ) → T (between (pos 1) (pos m) (pos n)) → InRange 1 m n
  in-nest n h = (between-natural 1 m (pos n) h).0

  -- the word a
  outer-meets : Meets (loop_number k (between (pos 1) (pos m))) (As (InRange 1 m) one)
  outer-meets = meets-map (λ n ws h. record { holds = in-nest n h.holds; words = h.words })
      (loop_number-meets k (between (pos 1) (pos m)) natural-word)

  -- a word with a rule besides
  ruled-meets : (ok : ℤ → Bool) → Meets (loop_number k (λ w. between (pos 1) (pos m) w && ok w)) (As (λ n. InRange 1 m n × T (ok (pos n))) one)
  ruled-meets ok = meets-map
      (λ n ws h. let q = and_both (between (pos 1) (pos m) (pos n)) (ok (pos n)) h.holds in
      record { holds = (in-nest n q.0, q.1); words = h.words })
      (loop_number-meets k (λ w. between (pos 1) (pos m) w && ok w) (λ w h. natural-word w (and_both (between (pos 1) (pos m) w) (ok w) h).0))

  exchange-meets : Meets (exchange_step k m) (As (StepRead 1 m) arguments)
  unfolding exchange_step
  exchange-meets = bind outer-meets (λ a h. bind (ruled-meets (λ w. eq_z w (pos (suc a)))) (λ n g. bind nought-meets (λ c _.
      let e = eqb→eq n (suc a) g.1 in let l = h.low in let u = g.0.high in
      done-meets (exchange (a - 1)) (record {
        holds = record { there = omega arith; kind = refl };
        words = ap₂ (λ x y. pos x ∷ pos y ∷ pos 0 ∷ [])
            (omega arith) (omega arith);
      }))))

  reversal-meets : Meets (reversal_step k m) (As (StepRead 2 m) arguments)
  unfolding reversal_step
  reversal-meets = bind outer-meets (λ a h. bind nought-meets (λ _ _. bind nought-meets (λ _ _. let l = h.low in let u = h.high in
      done-meets (reversal (a - 1)) (record {
        holds = record { there = omega arith; kind = refl };
        words = ap (λ x. pos x ∷ pos 0 ∷ pos 0 ∷ [])
            (omega arith);
      }))))

  skew-meets : Meets (skew_step k m) (As (StepRead 3 m) arguments)
  unfolding skew_step
  skew-meets = bind outer-meets (λ a h. bind (ruled-meets (λ w. lt_z (pos a) w))
      (λ n g. bind (within-meets (neg_ℤ (pos most_factor)) (pos most_factor)) (λ c i. record {
        from = λ b j r. must-at (not (eq_z c (pos 0))) 4 (λ q. let t = ltb→lt a n g.1 in let l = h.low in let u = g.0.high in
            done_at (skew (a - 1) (n - a - 1) c) (record {
              holds = record { there = (omega arith, factor-range c i q); kind = refl };
              words = let e : n ≡ suc (suc (a - 1 + (n - a - 1))) = omega arith in let d : a ≡ suc (a - 1) = omega arith in
                  ap₂ (λ x y. pos x ∷ pos y ∷ c ∷ []) d e;
            }));
      })))

  section-meets : Meets (section_step k m) (As (StepRead 4 m) arguments)
  unfolding section_step
  section-meets = bind (ruled-meets (λ w. ltb m 6)) (λ a h. bind (natural-meets 2 256)
      (λ w g. bind nought-meets (λ _ _. let l = h.0.low in let u = h.0.high in
      done-meets (section (a - 1) w) (record {
        holds = record { there = (omega arith, ltb→lt m 6 h.1, g); kind = refl };
        words = ap
            (λ x. pos x ∷ pos w ∷ pos 0 ∷ []) (omega arith);
      }))))

  circulation-meets : Meets (circulation_step k m) (As (StepRead 5 m) arguments)
  unfolding circulation_step
  circulation-meets = bind outer-meets (λ a h. bind (ruled-meets (λ w. not (eq_z w (pos a)))) (λ n g. bind nought-meets (λ _ _.
      let l = h.low in let u = h.high in let v = g.0.low in let w = g.0.high in
      done-meets (circulation (a - 1) (n - 1)) (record {
        holds = record {
          there = (omega arith, omega arith, λ e. T_not (eqb n a) g.1 (let f : n ≡ a = omega arith in subst (λ x. T (eqb n x)) f (eqb_refl n)));
          kind = refl;
        };
        words = ap₂ (λ x y. pos x ∷ pos y ∷ pos 0 ∷ []) (omega arith) (omega arith);
      }))))

  of-kind : {x : Reader Step} {i n : ℕ} → Meets x (As (StepRead i m) arguments) → n ≡ i → Meets x (As (StepRead n m) arguments)
  of-kind {x} h e = subst (λ j. Meets x (As (StepRead j m) arguments)) (sym e) h

  step-meets : (n : ℕ) → InRange 1 step_kinds n → Meets (step_of n k m) (As (StepRead n m) arguments)
  unfolding step_of
  step-meets n r =
      let Good : Reader Step → Type 0 = λ x. Meets x (As (StepRead n m) arguments) in
      let from-4 : Reader Step = cond (eqb n 4) (section_step k m) (circulation_step k m) in
      let from-3 : Reader Step = cond (eqb n 3) (skew_step k m) from-4 in
      cond_cases Good (eqb n 1) (exchange_step k m) (cond (eqb n 2) (reversal_step k m) from-3) (λ e. of-kind exchange-meets (eqb-true n 1 e)) (λ e.
      cond_cases Good (eqb n 2) (reversal_step k m) from-3 (λ f. of-kind reversal-meets (eqb-true n 2 f)) (λ f.
      cond_cases Good (eqb n 3) (skew_step k m) from-4 (λ g. of-kind skew-meets (eqb-true n 3 g)) (λ g.
      cond_cases Good (eqb n 4) (section_step k m) (circulation_step k m) (λ h. of-kind section-meets (eqb-true n 4 h)) (λ h.
      of-kind circulation-meets (last (eqb-false n 1 e) (eqb-false n 2 f) (eqb-false n 3 g) (eqb-false n 4 h))))))
    where
      last : (n ≡ 1 → ⊥) → (n ≡ 2 → ⊥) → (n ≡ 3 → ⊥) → (n ≡ 4 → ⊥) → n ≡ 5
      last e f g h = let low = r.low in let high = r.high in omega arith

-- ---- all steps

-- a nest has at most 6 loops
pub depth-there : (t : Step) (m : ℕ) → InRange 1 6 m → StepThere m t → InRange 1 6 (depth_after t m)
unfolding depth_after
depth-there (exchange a) m r h = r
depth-there (reversal a) m r h = r
depth-there (skew a d c) m r h = r
depth-there (section a w) m r h = record { low = omega arith; high = omega arith }
depth-there (circulation a b) m r h = r

steps_from-meets : (k m n : ℕ) → 1 ≤ k → k + n ≤ 9 → InRange 1 6 m → Meets (steps_from k m n) (As (Long n (StepsThere m)) (flat_map step_words))
unfolding steps_from flat_map
steps_from-meets k m zero l h d = done-meets [] (record { holds = record { number = refl; holds = tt }; words = refl })
steps_from-meets k m (suc n) l h d = bind (natural-meets 1 step_kinds) (λ i r. bind (step-meets k m i r) (λ t s.
    bind (steps_from-meets (suc k) (depth_after t m) n (omega arith) (omega arith) (depth-there t m d s.there))
    (λ ts e. done-meets (t ∷ ts) (record {
      holds = record { number = ap suc e.number; holds = (s.there, e.holds) };
      words = ap₂ (λ x ws. pos x ∷ (arguments t ++ ws)) (sym s.kind) (append-nil (flat_map step_words ts));
    }))))

pub steps-meets : (depth : ℕ) → InRange 1 6 depth → Meets (steps depth) (As (Few 0 8 (StepsThere depth)) (counted step_words))
unfolding steps
steps-meets depth d = counted-meets step_words 0 8 (λ n r. let h = r.high in steps_from-meets 1 depth n (omega arith) (omega arith) d)
