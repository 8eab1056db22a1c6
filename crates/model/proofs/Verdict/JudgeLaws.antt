-- The judgement of steps shows its reasons: acceptance, what holds at each step and of the final nest, how it goes on after some steps, refusal
-- at the first step that does not pass, and that a step that is reached is refused with 10 exactly if a vector points backwards.
-- One step is in `JudgeStepLaws`.
use mathlib.Core.Path.{◌≡◌, refl, sym, ap, ◌∙◌}
use mathlib.Core.Logic.{inl, inr, ⊎_elim, ◌↔◌}
use mathlib.Core.List.{List, [], ◌∷◌, ◌++◌}
use Prim.Native.Nat.{ℕ, suc, ◌+◌}
use native.Mathlib.Omega.{arith}
use native.Mathlib.Nat.{add-zero}
use lib.Dec.{T}
use lib.ListN.{length}
use Rattle.integers.specs.Sign.{Sign}
use Rattle.model.specs.Answer.{accepted, refused, ◌>>◌}
use Rattle.model.specs.Ticket.{Step, Nest}
use Rattle.model.specs.Steps.{vectors_after, vectors_after_all, some_points_back}
use Rattle.model.specs.Limits.{nest_after, nest_after_all}
use Rattle.model.specs.Judge.{stages, judge_steps}
use Rattle.model.specs.Reasons.{Backwards, StepPasses, Reason, StepsPass, Rejected}
use Rattle.model.proofs.Answers.AnswerLaws.{not-both, then-accepted, then-refused}
use Rattle.model.proofs.Answers.PassLaws.{then-pass, then-stop}
use Rattle.model.proofs.Verdict.JudgeStepLaws.{points-back, back-points, halted-number, ten, taking, step-accepted, accepted-step, step-refused, refused-step}

pub judge_steps-accepted : (k : ℕ) (ts : List Step) (vs : List (List Sign)) (N : Nest) {N' : Nest} → judge_steps k ts vs N ≡ accepted N'
    → (N' ≡ nest_after_all ts N) × StepsPass ts vs N
unfolding judge_steps nest_after_all
judge_steps-accepted k [] vs N e = (cc, tt)
judge_steps-accepted k (t ∷ ts) vs N e =
    let r = then-accepted (ten k t vs N >> taking k t vs N) (judge_steps (suc k) ts (vectors_after t vs) (nest_after t N)) e in
    let q = judge_steps-accepted (suc k) ts (vectors_after t vs) (nest_after t N) r.rest in
    (q.0, (step-accepted k t vs N r.first, q.1))

pub accepted-judge_steps : (k : ℕ) (ts : List Step) (vs : List (List Sign)) (N : Nest) → StepsPass ts vs N
    → judge_steps k ts vs N ≡ accepted (nest_after_all ts N)
unfolding judge_steps nest_after_all
accepted-judge_steps k [] vs N h = refl
accepted-judge_steps k (t ∷ ts) vs N h =
    then-pass (judge_steps (suc k) ts (vectors_after t vs) (nest_after t N)) (accepted-step k t vs N h.0)
    ∙ accepted-judge_steps (suc k) ts (vectors_after t vs) (nest_after t N) h.1

-- a step with some before it and some after it
pub passes_at : (front : List Step) (t : Step) (back : List Step) (vs : List (List Sign)) (N : Nest)
    → StepsPass (front ++ t ∷ back) vs N → StepPasses t (vectors_after_all front vs) (nest_after_all front N)
unfolding vectors_after_all nest_after_all
passes_at [] t back vs N h = h.0
passes_at (u ∷ front) t back vs N h = passes_at front t back (vectors_after u vs) (nest_after u N) h.1

-- after steps that pass the judgement goes on with what they made
pub judge_steps-resume : (k : ℕ) (front ts : List Step) (vs : List (List Sign)) (N : Nest) → StepsPass front vs N
    → judge_steps k (front ++ ts) vs N ≡ judge_steps (k + length front) ts (vectors_after_all front vs) (nest_after_all front N)
unfolding judge_steps vectors_after_all nest_after_all
judge_steps-resume k [] ts vs N h = rw (add-zero k)
judge_steps-resume k (t ∷ front) ts vs N h =
    then-pass (judge_steps (suc k) (front ++ ts) (vectors_after t vs) (nest_after t N)) (accepted-step k t vs N h.0)
    ∙ (judge_steps-resume (suc k) front ts (vectors_after t vs) (nest_after t N) h.1
    ∙ ap (λ j. judge_steps j ts (vectors_after_all front (vectors_after t vs)) (nest_after_all front (nest_after t N))) (omega arith))

pub judge_steps-refused : (k : ℕ) (ts : List Step) (vs : List (List Sign)) (N : Nest) {n p : ℕ} → judge_steps k ts vs N ≡ refused n p
    → Rejected k ts vs N n p
unfolding judge_steps vectors_after_all nest_after_all
judge_steps-refused k [] vs N e = not-both e
judge_steps-refused k (t ∷ ts) vs N e = ⊎_elim
    (λ f. let r = step-refused k t vs N f in let q = r.0 in record {
      front = [];
      step = t;
      back = ts;
      parts = refl;
      number = omega arith;
      pass = tt;
      reason = r.1;
    })
    (λ f. let r = judge_steps-refused (suc k) ts (vectors_after t vs) (nest_after t N) f.rest in let q = r.number in record {
      front = t ∷ r.front;
      step = r.step;
      back = r.back;
      parts = ap (t ∷◌) r.parts;
      number = omega arith;
      pass = (step-accepted k t vs N f.first, r.pass);
      reason = r.reason;
    })
    (then-refused (ten k t vs N >> taking k t vs N) (judge_steps (suc k) ts (vectors_after t vs) (nest_after t N)) e)

pub refused-judge_steps : (k : ℕ) (ts : List Step) (vs : List (List Sign)) (N : Nest) {n p : ℕ} → Rejected k ts vs N n p
    → judge_steps k ts vs N ≡ refused n p
unfolding judge_steps
refused-judge_steps k ts vs N {n} r =
    ap (λ us. judge_steps k us vs N) r.parts ∙ judge_steps-resume k r.front (r.step ∷ r.back) vs N r.pass
    ∙ then-stop (judge_steps (suc (k + length r.front)) r.back (vectors_after r.step (vectors_after_all r.front vs))
    (nest_after r.step (nest_after_all r.front N)))
    (refused-step (k + length r.front) r.step (vectors_after_all r.front vs) (nest_after_all r.front N) r.reason)
    ∙ ap (refused n) (sym r.number)

-- a step that is reached is refused with 10 exactly if a vector of the set after it points backwards
pub ten-exact : (k : ℕ) (front : List Step) (t : Step) (back : List Step) (vs : List (List Sign)) (N : Nest) → StepsPass front vs N
    → (judge_steps k (front ++ t ∷ back) vs N ≡ refused 10 (k + length front)) ↔ T (some_points_back (vectors_after t (vectors_after_all front vs)))
unfolding judge_steps
ten-exact k front t back vs N h = (to, from)
  where
    ws : List (List Sign)
    ws = vectors_after_all front vs

    M : Nest
    M = nest_after_all front N

    j : ℕ
    j = k + length front

    is-ten : Reason t ws M 10 → Backwards (vectors_after t ws)
    is-ten (inl r) = r.1
    is-ten (inr r) = absurd (let z = (halted-number (stages t) M 10 r.1).0 in omega arith)

    to : judge_steps k (front ++ t ∷ back) vs N ≡ refused 10 j → T (some_points_back (vectors_after t ws))
    to e = ⊎_elim
        (λ f. back-points (vectors_after t ws) (is-ten (step-refused j t ws M f).1))
        (λ f. absurd (let q = (judge_steps-refused (suc j) back (vectors_after t ws) (nest_after t M) f.rest).number in omega arith))
        (then-refused (ten j t ws M >> taking j t ws M) (judge_steps (suc j) back (vectors_after t ws) (nest_after t M))
        (sym (judge_steps-resume k front (t ∷ back) vs N h) ∙ e))

    from : T (some_points_back (vectors_after t ws)) → judge_steps k (front ++ t ∷ back) vs N ≡ refused 10 j
    from b = judge_steps-resume k front (t ∷ back) vs N h
        ∙ then-stop (judge_steps (suc j) back (vectors_after t ws) (nest_after t M))
        (refused-step j t ws M (inl (refl, points-back (vectors_after t ws) b)))
