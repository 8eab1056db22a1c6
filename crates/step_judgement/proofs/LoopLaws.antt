-- The steps of a ticket one after another: what has been judged so far, and what is left.
use mathlib.Core.Path.{◌≡◌, refl, sym, ◌∙◌, ap, ap₂, subst}
use mathlib.Core.Bool.{Bool, true, false}
use mathlib.Core.List.{List, [], ◌∷◌, map}
use Prim.Native.Nat.{ℕ, zero, suc, ◌+◌, ◌≤◌, ◌<◌}
use native.Mathlib.Omega.{arith}
use native.Mathlib.Numerals.{add-one}
use lib.IntN.{ℤ}
use lib.ListN.{length, get_or, take, drop}
use Rattle.integers.specs.Sign.{Sign}
use Rattle.lists.specs.Membership.{SameMembers}
use Rattle.lists.proofs.MembershipLaws.{members-refl, members-trans}
use Rattle.model.specs.Answer.{accepted}
use Rattle.model.specs.Ticket as Model
use Rattle.model.specs.Grammar.{depth_after}
use Rattle.model.specs.Ranges.{StepThere, StepsThere}
use Rattle.model.specs.Steps.{vectors_after_all, some_points_back}
use Rattle.model.specs.Judge.{stages, judge_steps, directions_of}
use Rattle.model.proofs.Verdict.SameVectorsLaws.{vectors_after-same, judge_steps-same}
use Rattle.ticket_refusals.specs.Refusals.{refusal}
use Rattle.ticket_refusals.specs.declared.Refusal.{Refusal}
use Rattle.ticket_refusals.specs.declared.Refusal.TheVariants.{DependenceReversed}
use Rattle.std.specs.Prelude.{Result, Ok, Err}
use Rattle.step_kinds.specs.Kinds.{step_of}
use Rattle.ticket_steps.specs.Steps.{steps_of, NumberedFrom, StepsIn}
use Rattle.ticket_steps.specs.declared.Numbered.{Numbered}
use Rattle.ticket_steps.specs.declared.Steps.{Steps}
use Rattle.nest_flat.specs.declared.Header.{Header}
use Rattle.nest_flat.specs.FlatNests.{FlatNest, flat_nest, nest_of, FlatNestIn, moved}
use Rattle.nest_points.proofs.NestLaws.{depth_is}
use Rattle.step_directions.specs.Sets.{vectors_of, After}
use Rattle.step_directions.specs.declared.DirectionSet.{DirectionSet}
use Rattle.ticket_decoding.specs.Ticket.{ticket_on}
use Rattle.step_judgement.specs.Judgement.{unless, Taken, JudgeIn, JudgesSteps}
use Rattle.step_judgement.proofs.StepLaws.{judged-back, judged-step, level-goes-on}

-- ---- the step at a place

steps-from : (n : ℕ) (l : List Numbered) (k : ℕ) (d : Numbered) → k < n → n ≤ length l
    → drop k (map (λ (x : Numbered). step_of x.step) (take n l)) ≡ step_of (get_or l k d).step ∷ drop (suc k)
    (map (λ (x : Numbered). step_of x.step) (take n l))
steps-from zero l k d h m = absurd (omega arith)
steps-from (suc n) [] k d h m = absurd (omega arith)
steps-from (suc n) (x ∷ l) zero d h m = refl
steps-from (suc n) (x ∷ l) (suc k) d h m = steps-from n l k d (omega arith) (omega arith)

number-from : (j n : ℕ) (l : List Numbered) (k : ℕ) (d : Numbered) → k < n → n ≤ length l → NumberedFrom j (take n l) → (get_or l k d).number ≡ j + k
number-from j zero l k d h m f = absurd (omega arith)
number-from j (suc n) [] k d h m f = absurd (omega arith)
number-from j (suc n) (x ∷ l) zero d h m f = let e = f.0 in omega arith
number-from j (suc n) (x ∷ l) (suc k) d h m f = let e = number-from (suc j) n l k d (omega arith) (omega arith) f.1 in omega arith

steps-end : (n : ℕ) (l : List Numbered) → drop n (map (λ (x : Numbered). step_of x.step) (take n l)) ≡ []
steps-end zero l = refl
steps-end (suc n) [] = refl
steps-end (suc n) (x ∷ l) = steps-end n l

-- ---- the first k steps of S are judged

-- on the flat nest P with the vectors s₀ they made Q and s
pub record SoFar (S : Steps) (P : FlatNest) (s₀ : DirectionSet) (Q : FlatNest) (s : DirectionSet) (k : ℕ) : Type 0 where
  pub few : k ≤ S.count
  pub so : judge_steps 1 (steps_of S) (vectors_of s₀) (nest_of P) ≡ judge_steps (suc k) (drop k (steps_of S)) (vectors_of s) (nest_of Q)
  pub flat-nest : FlatNestIn Q
  pub level : s.depth ≡ Q.depth
  pub vectors : SameMembers (vectors_after_all (drop k (steps_of S)) (vectors_of s)) (vectors_after_all (steps_of S) (vectors_of s₀))
  pub there : StepsThere Q.depth (drop k (steps_of S))

-- the vectors after further steps go by those before them
carried_same : (ts : List Model.Step) {vs ws : List (List Sign)} → SameMembers vs ws → SameMembers (vectors_after_all ts vs) (vectors_after_all ts ws)
unfolding vectors_after_all
carried_same [] h = h
carried_same (t ∷ ts) h = carried_same ts (vectors_after-same t h)

module _ (S : Steps) (j : StepsIn S) (P : FlatNest) (s₀ : DirectionSet) (Q : FlatNest) (s : DirectionSet) (k : ℕ) (v : SoFar S P s₀ Q s k)
    (d : Numbered) (h : k < S.count) where
  abbrev x : Numbered
  x = get_or S.steps k d

  next-is : drop k (steps_of S) ≡ step_of x.step ∷ drop (suc k) (steps_of S)
  unfolding steps_of
  next-is = let f = j.few in let r = j.room in steps-from S.count S.steps k d h (omega arith)

  number_is : x.number ≡ suc k
  number_is = let f = j.few in let r = j.room in let e = number-from 1 S.count S.steps k d h (omega arith) j.numbered in omega arith

  next-there : StepsThere Q.depth (step_of x.step ∷ drop (suc k) (steps_of S))
  next-there = subst (StepsThere Q.depth) next-is v.there

  pub step-there : StepThere Q.depth (step_of x.step)
  step-there = next-there.0

  so-next : judge_steps 1 (steps_of S) (vectors_of s₀) (nest_of P) ≡ judge_steps x.number (step_of x.step ∷ drop (suc k) (steps_of S)) (vectors_of s)
      (nest_of Q)
  so-next = v.so ∙ ap₂ (λ n ts. judge_steps n ts (vectors_of s) (nest_of Q)) (sym number_is) next-is

  module _ (q : DirectionSet) (a : After (step_of x.step) s q) (b : Bool) (p : b ≡ some_points_back (vectors_of q)) where
    vectors-next : SameMembers (vectors_after_all (drop (suc k) (steps_of S)) (vectors_of q)) (vectors_after_all (steps_of S) (vectors_of s₀))
    unfolding vectors_after_all
    vectors-next = members-trans (carried_same (drop (suc k) (steps_of S)) a.vectors)
        (subst (λ ts. SameMembers (vectors_after_all ts (vectors_of s)) (vectors_after_all (steps_of S) (vectors_of s₀))) next-is v.vectors)

    pub stops-back : b ≡ true → refusal {A = Model.Nest} (DependenceReversed x.number) ≡ judge_steps 1 (steps_of S) (vectors_of s₀) (nest_of P)
    stops-back e = sym (so-next ∙ judged-back Q v.flat-nest s v.level x.step step-there q a b p x.number (drop (suc k) (steps_of S)) e)

    abbrev depth : ℕ
    depth = depth_after (step_of x.step) Q.depth

    module _ (e : b ≡ false) (z : Result (Unit {0}) Refusal) (l : List ℤ) (c : List ℕ) (w : List ℤ) (g : Taken (stages (step_of x.step)) depth x.number Q z l c w)
      where
        abbrev R : ℕ → FlatNest
        R m = moved Q m l c w

        goes_on : judge_steps 1 (steps_of S) (vectors_of s₀) (nest_of P) ≡ unless z (judge_steps (suc (suc k)) (drop (suc k) (steps_of S)) (vectors_of q)
            (nest_of (R depth)))
        goes_on = so-next
            ∙ judged-step Q v.flat-nest s v.level x.step step-there q a b p x.number (drop (suc k) (steps_of S)) e depth z l c w g
            ∙ ap (λ n. unless z (judge_steps (suc n) (drop (suc k) (steps_of S)) (vectors_of q) (nest_of (R depth)))) number_is

        pub stops : (y : Refusal) → z ≡ Err y → refusal {A = Model.Nest} y ≡ judge_steps 1 (steps_of S) (vectors_of s₀) (nest_of P)
        stops y f = sym (goes_on ∙ ap (λ t. unless t (judge_steps (suc (suc k)) (drop (suc k) (steps_of S)) (vectors_of q) (nest_of (R depth)))) f)

        pub one_more : z ≡ Ok tt → (m : ℕ) → m ≡ depth → SoFar S P s₀ (R m) q (k + 1)
        one_more f m y = subst (λ n. SoFar S P s₀ (R n) q (k + 1)) (sym y) (rw (add-one k) (record {
          few = omega arith;
          so = goes_on ∙ ap (λ t. unless t (judge_steps (suc (suc k)) (drop (suc k) (steps_of S)) (vectors_of q) (nest_of (R depth)))) f;
          flat-nest = g.flat-nest f;
          level = level-goes-on Q v.flat-nest s v.level x.step step-there q a;
          vectors = vectors-next;
          there = next-there.1;
        }))

module _ (S : Steps) (P : FlatNest) (s₀ : DirectionSet) (Q : FlatNest) (s : DirectionSet) (k : ℕ) (v : SoFar S P s₀ Q s k) (h : S.count ≤ k) where
  none_left : drop k (steps_of S) ≡ []
  unfolding steps_of
  none_left = let z : k ≡ S.count = let f = v.few in omega arith in ap (λ n. drop n (steps_of S)) z ∙ steps-end S.count S.steps

  all-judged : judge_steps 1 (steps_of S) (vectors_of s₀) (nest_of P) ≡ accepted (nest_of Q)
  unfolding judge_steps
  all-judged = v.so ∙ ap (λ ts. judge_steps (suc k) ts (vectors_of s) (nest_of Q)) none_left

  all-carried : SameMembers (vectors_of s) (vectors_after_all (steps_of S) (vectors_of s₀))
  unfolding vectors_after_all
  all-carried = subst (λ ts. SameMembers (vectors_after_all ts (vectors_of s)) (vectors_after_all (steps_of S) (vectors_of s₀))) none_left v.vectors

-- ---- of a ticket

module _ (P : FlatNest) (S : Steps) (s₀ : DirectionSet) (i : JudgeIn P S s₀) where
  pub none-judged : SoFar S P s₀ P s₀ 0
  unfolding ticket_on
  none-judged = record {
    few = omega arith;
    so = refl;
    flat-nest = i.flat-nest;
    level = i.level;
    vectors = members-refl _;
    there = subst (λ m. StepsThere m (steps_of S)) (depth_is P) i.ranges.steps;
  }

  by-directions : judge_steps 1 (steps_of S) (vectors_of s₀) (nest_of P) ≡ judge_steps 1 (steps_of S) (directions_of (nest_of P)) (nest_of P)
  by-directions = judge_steps-same 1 (steps_of S) (nest_of P) i.vectors

  pub steps-stop : (l w : List ℤ) (y : Refusal) → refusal {A = Model.Nest} y ≡ judge_steps 1 (steps_of S) (vectors_of s₀) (nest_of P)
      → JudgesSteps P S (Err y) l w
  steps-stop l w y h = record { same = h ∙ by-directions; flat-nest = tt; directions = tt }

  pub steps-pass : (O : Header) (l w : List ℤ) (s : DirectionSet) (k : ℕ) → SoFar S P s₀ (flat_nest O l w) s k → S.count ≤ k
      → JudgesSteps P S (Ok (record { header = O; directions = s })) l w
  steps-pass O l w s k v h = record {
    same = sym (all-judged S P s₀ (flat_nest O l w) s k v h) ∙ by-directions;
    flat-nest = v.flat-nest;
    directions = record {
      level = v.level;
      vectors = members-trans (all-carried S P s₀ (flat_nest O l w) s k v h) (carried_same (steps_of S) i.vectors);
    };
  }
