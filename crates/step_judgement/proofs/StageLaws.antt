-- The stages of a step one after another: those that are left give what all give.
use mathlib.Core.Path.{◌≡◌, refl, sym, ◌∙◌, ap, subst}
use mathlib.Core.Bool.{true≢false}
use mathlib.Core.List.{List, [], ◌∷◌}
use Prim.Native.Nat.{ℕ, suc, ◌+◌, ◌≤◌, ◌<◌}
use native.Mathlib.Omega.{arith}
use native.Mathlib.Numerals.{add-one}
use lib.IntN.{ℤ}
use lib.ListN.{length, get_or, drop}
use lib.Seq.{drop-length, drop-cons}
use Rattle.model.specs.Answer.{Answer, accepted, refused, require, ◌>>=◌, ◌>>◌}
use Rattle.model.specs.Ticket as Model
use Rattle.model.specs.Ticket.{exchange}
use Rattle.model.specs.Grammar.{depth_after}
use Rattle.model.specs.Ranges.{StepsThere}
use Rattle.model.specs.Limits.{nest_after, nest_after_all}
use Rattle.model.specs.Judge.{few_limits, small_numbers, stages, judge_stages}
use Rattle.model.proofs.Verdict.StageLaws.{depth_after_all, stages-depth, stages-there}
use Rattle.ticket_refusals.specs.declared.Refusal.{Refusal}
use Rattle.std.specs.Prelude.{Result, Ok, Err, is_ok}
use Rattle.ticket_refusals.specs.Refusals.{answer_of}
use Rattle.nest_flat.specs.FlatNests.{FlatNest, nest_of, FlatNestIn, moved}
use Rattle.step_judgement.specs.Judgement.{TakeIn, Taken}

-- an error is no value
pub not-ok : {A B : Type 0} {x : A} (y : Refusal) → Err y ≡ Ok x → B
not-ok y e = absurd (true≢false (sym (ap is_ok e)))

-- ---- the first stage of some, and the others

regrouped : (x y z : Answer (Unit {0})) → x >> y >> z ≡ (x >> y >> accepted (tt {0})) >> z
unfolding ◌>>◌ ◌>>=◌
regrouped (accepted u) (accepted v) z = refl
regrouped (accepted u) (refused n p) z = refl
regrouped (refused n p) y z = refl

first_of : (k : ℕ) (t : Model.Step) (ts : List Model.Step) (N : Model.Nest)
    → judge_stages k (t ∷ ts) N ≡ judge_stages k (t ∷ []) N >> judge_stages k ts (nest_after t N)
unfolding judge_stages
first_of k t ts N = regrouped (require (few_limits (nest_after t N).loops) 11 k) (require (small_numbers (nest_after t N)) 12 k)
    (judge_stages k ts (nest_after t N))

-- ---- the stages us are left, to be taken on Q

pub record Underway (ts : List Model.Step) (m k : ℕ) (P : FlatNest) (us : List Model.Step) (Q : FlatNest) : Type 0 where
  pub so : judge_stages k ts (nest_of P) ≡ judge_stages k us (nest_of Q)
  pub made : nest_after_all ts (nest_of P) ≡ nest_after_all us (nest_of Q)
  pub deep : depth_after_all us Q.depth ≡ m
  pub there : StepsThere Q.depth us
  pub flat-nest : FlatNestIn Q

pub first-underway : (t : Model.Step) (k : ℕ) (P : FlatNest) → TakeIn P t → Underway (stages t) (depth_after t P.depth) k P (stages t) P
first-underway t k P i = record {
  so = refl;
  made = refl;
  deep = stages-depth t P.depth;
  there = stages-there P.depth t
      i.there;
  flat-nest = i.flat-nest;
}

module _ (ts : List Model.Step) (m k : ℕ) (P : FlatNest) (j : ℕ) (Q : FlatNest) (u : Underway ts m k P (drop j ts) Q) (h : j < length ts)
    (t : Model.Step) (e : t ≡ get_or ts j (exchange 0)) where
  next : drop j ts ≡ t ∷ drop (suc j) ts
  next = drop-cons ts j (exchange 0) h ∙ ap (λ x. x ∷ drop (suc j) ts) (sym e)

  at_next : Underway ts m k P (t ∷ drop (suc j) ts) Q
  at_next = subst (λ us. Underway ts m k P us Q) next u

  pub stage-in : TakeIn Q t
  stage-in = record { flat-nest = u.flat-nest; there = at_next.there.0 }

  module _ (r : Result (Unit {0}) Refusal) (l : List ℤ) (c : List ℕ) (w : List ℤ) (g : Taken (t ∷ []) (depth_after t Q.depth) k Q r l c w) where
    answer : judge_stages k ts (nest_of P) ≡ answer_of r >> judge_stages k (drop (suc j) ts) (nest_after t (nest_of Q))
    answer = at_next.so ∙ first_of k t (drop (suc j) ts) (nest_of Q)
        ∙ ap (λ x. x >> judge_stages k (drop (suc j) ts) (nest_after t (nest_of Q))) (sym g.same)

    pub stage-stops : (y : Refusal) → r ≡ Err y → (l' : List ℤ) (c' : List ℕ) (w' : List ℤ) → Taken ts m k P (Err y) l' c' w'
    unfolding ◌>>◌ ◌>>=◌
    stage-stops y f l' c' w' = record {
      same = sym (answer ∙ ap (λ x. answer_of x >> judge_stages k (drop (suc j) ts) (nest_after t (nest_of Q))) f);
      nest = λ x. not-ok y x;
      flat-nest = λ x. not-ok y x;
    }

    pub stage-passes : r ≡ Ok tt → (n : ℕ) → n ≡ depth_after t Q.depth → Underway ts m k P (drop (j + 1) ts) (moved Q n l c w)
    unfolding ◌>>◌ ◌>>=◌ nest_after_all depth_after_all
    stage-passes f n q = subst (λ d. Underway ts m k P (drop (j + 1) ts) (moved Q d l c w)) (sym q) (rw (add-one j) (record {
      so = answer ∙ ap (λ x. answer_of x >> judge_stages k (drop (suc j) ts) (nest_after t (nest_of Q))) f
          ∙ ap (judge_stages k (drop (suc j) ts)) (sym (g.nest f));
      made = at_next.made ∙ ap (nest_after_all (drop (suc j) ts)) (sym (g.nest f));
      deep = at_next.deep;
      there = at_next.there.1;
      flat-nest = g.flat-nest f;
    }))

pub stages-pass : (ts : List Model.Step) (m k : ℕ) (P : FlatNest) (j n : ℕ) (d : ℕ) (l : List ℤ) (c : List ℕ) (w : List ℤ)
    → Underway ts m k P (drop j ts) (moved P d l c w) → j ≤ length ts → n ≡ length ts → n ≤ j → Taken ts m k P (Ok tt) l c w
unfolding judge_stages nest_after_all depth_after_all
stages-pass ts m k P j n d l c w u h e g =
    let q : j ≡ length ts = omega arith in
    let v = subst (λ us. Underway ts m k P us (moved P d l c w)) (ap (λ i. drop i ts) q ∙ drop-length ts) u in
    record {
      same = sym v.so;
      nest = λ _. ap (λ x. nest_of (moved P x l c w)) (sym v.deep) ∙ sym v.made;
      flat-nest = λ _. subst (λ x. FlatNestIn (moved P x l c w)) v.deep v.flat-nest;
    }
