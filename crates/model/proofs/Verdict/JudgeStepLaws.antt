-- One step judged, both ways: vectors that point backwards (10), then stage by stage loops with too many limits (11) and large numbers.
-- Its numbers (12) are in `SmallLaws`, a list of steps is in `JudgeLaws`.
use mathlib.Core.Path.{◌≡◌, refl, ap, ◌∙◌}
use mathlib.Core.Bool.{Bool, not, ◌&&◌}
use mathlib.Core.Logic.{◌⊎◌, inl, inr, ⊎_elim}
use mathlib.Core.List.{List, [], ◌∷◌, ◌++◌}
use Prim.Native.Nat.{ℕ, ◌≤◌, ◌<◌}
use native.Mathlib.Omega.{arith}
use lib.Dec.{T, leb, T_not, not_T, leb→le, le→leb, nleb→lt}
use lib.ListN.{length}
use Rattle.integers.specs.Sign.{Sign}
use Rattle.lists.proofs.TestLaws.{T-cases, and_both, and_intro, all-holds, holds-all, any_some, some-any, refuted, all-fails}
use Rattle.model.specs.Answer.{Answer, accepted, refused, require, ◌>>◌}
use Rattle.model.specs.Ticket.{Loop, Step, Nest}
use Rattle.model.specs.Directions.{backwards}
use Rattle.model.specs.Steps.{vectors_after, some_points_back}
use Rattle.model.specs.Limits.{nest_after, nest_after_all}
use Rattle.model.specs.Judge.{few_limits, small_numbers, stages, judge_stages}
use Rattle.model.specs.Reasons.{AllSmall, Backwards, Forwards, TooMany, FewLimits, StagePasses, StagesPass, StageReason, Halted, StepPasses, Reason}
use Rattle.model.proofs.Verdict.SmallLaws.{test-small, small-test, test-large, large-test}
use Rattle.model.proofs.Answers.AnswerLaws.{not-both, then-accepted, then-refused, require-accepted, require-refused}
use Rattle.model.proofs.Answers.PassLaws.{then-pass, then-stop, require-pass, require-stop}

-- ---- vectors

pub points-back : (vs : List (List Sign)) → T (some_points_back vs) → Backwards vs
unfolding some_points_back
points-back vs h = let r = any_some backwards vs h in record { vector = r.0; there = r.1; back = r.2 }

pub back-points : (vs : List (List Sign)) → Backwards vs → T (some_points_back vs)
unfolding some_points_back
back-points vs b = some-any backwards vs b.there b.back

pub points-forwards : (vs : List (List Sign)) → (T (some_points_back vs) → ⊥) → Forwards vs
points-forwards vs h v m t = h (back-points vs (record { vector = v; there = m; back = t }))

pub forwards-points : (vs : List (List Sign)) → Forwards vs → T (some_points_back vs) → ⊥
forwards-points vs h t = let b = points-back vs t in h b.vector b.there b.back

-- ---- limits

abbrev few_of : Loop → Bool
few_of L = leb (length L.lower) 16 && leb (length L.upper) 16

pub few-limits : (N : List Loop) → T (few_limits N) → FewLimits N
unfolding few_limits
few-limits N h L m = let r = and_both (leb (length L.lower) 16) (leb (length L.upper) 16) (all-holds few_of N h L m) in
    (leb→le (length L.lower) 16 r.0, leb→le (length L.upper) 16 r.1)

pub limits-few : (N : List Loop) → FewLimits N → T (few_limits N)
unfolding few_limits
limits-few N h = holds-all few_of N (λ L m. let r = h L m in
    and_intro (leb (length L.lower) 16) (leb (length L.upper) 16) (le→leb (length L.lower) 16 r.0) (le→leb (length L.upper) 16 r.1))

pub many-limits : (N : List Loop) → (T (few_limits N) → ⊥) → TooMany N
unfolding few_limits
many-limits N h = let r = all-fails few_of N h in record { loop = r.0; there = r.1; many = side r.0 r.2 }
  where
    side : (L : Loop) → (T (few_of L) → ⊥) → (16 < length L.lower) ⊎ (16 < length L.upper)
    side L t = ⊎_elim
        (λ a. inr (nleb→lt (length L.upper) 16 (not_T (leb (length L.upper) 16)
        (λ b. t (and_intro (leb (length L.lower) 16) (leb (length L.upper) 16) a b)))))
        (λ a. inl (nleb→lt (length L.lower) 16 (not_T (leb (length L.lower) 16) a)))
        (T-cases (leb (length L.lower) 16))

pub limits-many : (N : List Loop) → TooMany N → T (few_limits N) → ⊥
limits-many N r t = let h = few-limits N t r.loop r.there in let a = h.0 in let b = h.1 in ⊎_elim (λ g. omega arith) (λ g. omega arith)
    r.many

-- ---- the stages of a step

module _ (k : ℕ) (t : Step) (N : Nest) where
  abbrev pub eleven : Answer (Unit {0})
  eleven = require (few_limits (nest_after t N).loops) 11 k

  abbrev pub twelve : Answer (Unit {0})
  twelve = require (small_numbers (nest_after t N)) 12 k

  stage-accepted : {u : Unit {0}} → eleven >> twelve ≡ accepted u → StagePasses t N
  stage-accepted e =
      let r = then-accepted eleven twelve e in (
        few-limits (nest_after t N).loops (require-accepted (few_limits (nest_after t N).loops) 11 k r.first),
        test-small (nest_after t N)
            (require-accepted (small_numbers (nest_after t N)) 12 k r.rest),
      )

  accepted-stage : StagePasses t N → eleven >> twelve ≡ accepted tt
  accepted-stage h = then-pass twelve (require-pass (few_limits (nest_after t N).loops) 11 k (limits-few (nest_after t N).loops h.0))
      ∙ require-pass (small_numbers (nest_after t N)) 12 k (small-test (nest_after t N) h.1)

  stage-refused : {n p : ℕ} → eleven >> twelve ≡ refused n p → (p ≡ k) × StageReason t N n
  stage-refused {n} {p} e = ⊎_elim
      (λ f. let r = require-refused (few_limits (nest_after t N).loops) 11 k f in (
        r.place,
        inl
            (r.number, many-limits (nest_after t N).loops r.fails),
      ))
      (λ f. let r = require-refused (small_numbers (nest_after t N)) 12 k f.rest in (
        r.place,
        inr (
          r.number,
          (
            few-limits (nest_after t N).loops (require-accepted (few_limits (nest_after t N).loops) 11 k f.first),
            test-large (nest_after t N) r.fails,
          ),
        ),
      ))
      (then-refused eleven twelve e)

  refused-stage : {n : ℕ} → StageReason t N n → eleven >> twelve ≡ refused n k
  refused-stage (inl r) = rw r.0 (then-stop twelve (require-stop (few_limits (nest_after t N).loops) 11 k
      (limits-many (nest_after t N).loops r.1)))
  refused-stage (inr r) = rw r.0
      (then-pass twelve (require-pass (few_limits (nest_after t N).loops) 11 k (limits-few (nest_after t N).loops r.1.0))
      ∙ require-stop (small_numbers (nest_after t N)) 12 k (large-test (nest_after t N) r.1.1))

pub stages-accepted : (k : ℕ) (ts : List Step) (N : Nest) {u : Unit {0}} → judge_stages k ts N ≡ accepted u → StagesPass ts N
unfolding judge_stages
stages-accepted k [] N e = tt
stages-accepted k (t ∷ ts) N e = let r = then-accepted (eleven k t N >> twelve k t N) (judge_stages k ts (nest_after t N)) e
    in (stage-accepted k t N r.first, stages-accepted k ts (nest_after t N) r.rest)

pub accepted-stages : (k : ℕ) (ts : List Step) (N : Nest) → StagesPass ts N → judge_stages k ts N ≡ accepted tt
unfolding judge_stages
accepted-stages k [] N h = refl
accepted-stages k (t ∷ ts) N h = then-pass (judge_stages k ts (nest_after t N)) (accepted-stage k t N h.0)
    ∙ accepted-stages k ts (nest_after t N) h.1

pub stages-refused : (k : ℕ) (ts : List Step) (N : Nest) {n p : ℕ} → judge_stages k ts N ≡ refused n p → (p ≡ k) × Halted ts N n
unfolding judge_stages nest_after_all
stages-refused k [] N e = not-both e
stages-refused k (t ∷ ts) N e = ⊎_elim
    (λ f. let r = stage-refused k t N f in (r.0, record { front = []; stage = t; back = ts; parts = refl; pass = tt; reason = r.1 }))
    (λ f. let r = stages-refused k ts (nest_after t N) f.rest in let q = r.1 in (
      r.0,
      record {
        front = t ∷ q.front;
        stage = q.stage;
        back = q.back;
        parts = ap (t ∷◌) q.parts;
        pass = (stage-accepted k t N f.first, q.pass);
        reason = q.reason;
      },
    ))
    (then-refused (eleven k t N >> twelve k t N) (judge_stages k ts (nest_after t N)) e)

halt : (k : ℕ) (front : List Step) (t : Step) (back : List Step) (N : Nest) {n : ℕ} → StagesPass front N → StageReason t (nest_after_all front N) n
    → judge_stages k (front ++ t ∷ back) N ≡ refused n k
unfolding judge_stages nest_after_all
halt k [] t back N h r = then-stop (judge_stages k back (nest_after t N)) (refused-stage k t N r)
halt k (u ∷ front) t back N h r = then-pass (judge_stages k (front ++ t ∷ back) (nest_after u N)) (accepted-stage k u N h.0)
    ∙ halt k front t back (nest_after u N) h.1 r

pub refused-stages : (k : ℕ) (ts : List Step) (N : Nest) {n : ℕ} → Halted ts N n → judge_stages k ts N ≡ refused n k
refused-stages k ts N h = ap (λ us. judge_stages k us N) h.parts ∙ halt k h.front h.stage h.back N h.pass h.reason

-- the nest after the last stage
pub stages-final : (t : Step) (ts : List Step) (N : Nest) → StagesPass (t ∷ ts) N → FewLimits (nest_after_all (t ∷ ts) N).loops
    × AllSmall (nest_after_all (t ∷ ts) N)
unfolding nest_after_all
stages-final t [] N h = h.0
stages-final t (u ∷ ts) N h = stages-final u ts (nest_after t N) h.1

-- ---- one step, of the vectors vs and the nest N before it

stage-number : (t : Step) (N : Nest) (n : ℕ) → StageReason t N n → (11 ≤ n) × (n ≤ 12)
stage-number t N n (inl r) = let q = r.0 in (omega arith, omega arith)
stage-number t N n (inr r) = let q = r.0 in (omega arith, omega arith)

pub halted-number : (ts : List Step) (N : Nest) (n : ℕ) → Halted ts N n → (11 ≤ n) × (n ≤ 12)
halted-number ts N n h = stage-number h.stage (nest_after_all h.front N) n h.reason

pub reason-number : (t : Step) (vs : List (List Sign)) (N : Nest) (n : ℕ) → Reason t vs N n → (10 ≤ n) × (n ≤ 12)
reason-number t vs N n (inl r) = let q = r.0 in (omega arith, omega arith)
reason-number t vs N n (inr r) = let q = halted-number (stages t) N n r.1 in let a = q.0 in let b = q.1 in (omega arith, omega arith)

module _ (k : ℕ) (t : Step) (vs : List (List Sign)) (N : Nest) where
  abbrev pub ten : Answer (Unit {0})
  ten = require (not (some_points_back (vectors_after t vs))) 10 k

  abbrev pub taking : Answer (Unit {0})
  taking = judge_stages k (stages t) N

  ten-accepted : {u : Unit {0}} → ten ≡ accepted u → Forwards (vectors_after t vs)
  ten-accepted e = points-forwards (vectors_after t vs) (T_not (some_points_back (vectors_after t vs))
      (require-accepted (not (some_points_back (vectors_after t vs))) 10 k e))

  accepted-ten : Forwards (vectors_after t vs) → ten ≡ accepted tt
  accepted-ten h = require-pass (not (some_points_back (vectors_after t vs))) 10 k (not_T (some_points_back (vectors_after t vs))
      (forwards-points (vectors_after t vs) h))

  pub step-accepted : {u : Unit {0}} → ten >> taking ≡ accepted u → StepPasses t vs N
  step-accepted e = let r = then-accepted ten taking e in record {
    forwards = ten-accepted r.first;
    taken = stages-accepted k (stages t) N
        r.rest;
  }

  pub accepted-step : StepPasses t vs N → ten >> taking ≡ accepted tt
  accepted-step h = then-pass taking (accepted-ten h.forwards) ∙ accepted-stages k (stages t) N h.taken

  pub step-refused : {n p : ℕ} → ten >> taking ≡ refused n p → (p ≡ k) × Reason t vs N n
  step-refused {n} {p} e = ⊎_elim
      (λ f. let r = require-refused (not (some_points_back (vectors_after t vs))) 10 k f in
      (r.place, inl (r.number, points-back (vectors_after t vs) (refuted (some_points_back (vectors_after t vs)) r.fails))))
      (λ f. let r = stages-refused k (stages t) N f.rest in (r.0, inr (ten-accepted f.first, r.1)))
      (then-refused ten taking e)

  pub refused-step : {n : ℕ} → Reason t vs N n → ten >> taking ≡ refused n k
  refused-step (inl r) = rw r.0 (then-stop taking (require-stop (not (some_points_back (vectors_after t vs))) 10 k
      (λ g. T_not (some_points_back (vectors_after t vs)) g (back-points (vectors_after t vs) r.1))))
  refused-step (inr r) = then-pass taking (accepted-ten r.0) ∙ refused-stages k (stages t) N r.1
