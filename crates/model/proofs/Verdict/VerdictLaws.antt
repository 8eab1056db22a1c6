-- Where a verdict on a ticket comes from: 7 to 9 from its space and arrays (`admitted`), 1 to 9 from what admits it (`admit`), 10 to 13 from its
-- steps and the new nest (`judge_ticket`), and all of them together (`judged`).
use mathlib.Core.Path.{◌≡◌, sym, ap, ◌∙◌, subst}
use mathlib.Core.Logic.{◌⊎◌, inl, inr, ⊎_elim}
use Prim.Native.Nat.{ℕ, ◌≤◌}
use native.Mathlib.Omega.{arith}
use lib.ListN.{length}
use Rattle.model.specs.Answer.{Answer, accepted, refused, ◌>>◌}
use Rattle.model.specs.Ticket.{Nest, Ticket}
use Rattle.model.specs.Points.{iterations}
use Rattle.model.specs.Bounds.{space, new_space, in_arrays, admitted}
use Rattle.model.specs.Steps.{vectors_after_all}
use Rattle.model.specs.Limits.{nest_after_all}
use Rattle.model.specs.Judge.{judge_steps, directions_of, admit_of, Judged, judge_ticket, judged_of}
use Rattle.model.specs.Reasons.{FirstBad, Overrun, Violates, Stays, Rejected, StepsPass, made}
use Rattle.model.proofs.Answers.AnswerLaws.{not-both, accepted-same, bind-accepted, bind-refused, then-accepted, then-refused}
use Rattle.model.proofs.Answers.PassLaws.{bind-pass, bind-stop, then-pass}
use Rattle.model.proofs.Points.BoundLaws.{space-refused, new-space-refused}
use Rattle.model.proofs.Points.ArrayLaws.{arrays-refused}
use Rattle.model.proofs.Verdict.JudgeStepLaws.{reason-number}
use Rattle.model.proofs.Verdict.JudgeLaws.{judge_steps-accepted, accepted-judge_steps, judge_steps-refused}

-- ---- 7, 8 and 9

module _ (N : Nest) where
  pub admitted-accepted : admitted N ≡ accepted tt → (space N.loops ≡ accepted tt)
      × (in_arrays N.arrays (iterations N.loops) 1 N.statements ≡ accepted tt)
  unfolding admitted
  admitted-accepted e = let r = then-accepted (space N.loops) (in_arrays N.arrays (iterations N.loops) 1 N.statements) e
      in (r.first, r.rest)

  -- 7 and 8 before 9
  pub admitted-refused : {n p : ℕ} → admitted N ≡ refused n p
      → Overrun 7 8 32767 4096 N.loops 1 (length N.loops) n p
      ⊎ ((space N.loops ≡ accepted tt) × ((n ≡ 9) × FirstBad (Violates N.arrays (iterations N.loops))
      (Stays N.arrays (iterations N.loops)) 1 N.statements p))
  unfolding admitted
  admitted-refused {n} {p} e = ⊎_elim (λ f. inl (space-refused N.loops n p f))
      (λ f. inr (f.first, arrays-refused N.arrays (iterations N.loops) 1 N.statements f.rest))
      (then-refused (space N.loops) (in_arrays N.arrays (iterations N.loops) 1 N.statements) e)

  pub admitted-number : {n p : ℕ} → admitted N ≡ refused n p → (7 ≤ n) × (n ≤ 9)
  admitted-number e = ⊎_elim
      (λ r. ⊎_elim (λ f. let q = f.0 in (omega arith, omega arith)) (λ f. let q = f.0 in (omega arith, omega arith)) r.reason)
      (λ r. let q = r.1.0 in (omega arith, omega arith))
      (admitted-refused e)

-- ---- 1 to 9

module _ (d : Answer Ticket) where
  pub admit-accepted : {T : Ticket} → admit_of d ≡ accepted T → (d ≡ accepted T) × (admitted T.nest ≡ accepted tt)
  unfolding admit_of
  admit-accepted {T} e =
      let r = bind-accepted d (λ T. admitted T.nest >> accepted T) e in
      let q = then-accepted (admitted r.value.nest) (accepted r.value) r.rest in
      let s : r.value ≡ T = accepted-same q.rest in
      (subst (λ T. d ≡ accepted T) s r.first, subst (λ T. admitted T.nest ≡ accepted tt) s q.first)

  pub accepted-admit : {T : Ticket} → d ≡ accepted T → admitted T.nest ≡ accepted tt → admit_of d ≡ accepted T
  unfolding admit_of
  accepted-admit {T} e f = bind-pass (λ T. admitted T.nest >> accepted T) e ∙ then-pass (accepted T) f

  pub admit-refused : {n p : ℕ} → admit_of d ≡ refused n p → (d ≡ refused n p) ⊎ ((T : Ticket) × (d ≡ accepted T) × (admitted T.nest ≡ refused n p))
  unfolding admit_of
  admit-refused e = ⊎_elim inl
      (λ r. ⊎_elim (λ f. inr (r.value, r.first, f)) (λ f. not-both f.rest) (then-refused (admitted r.value.nest) (accepted r.value)
      r.rest))
      (bind-refused d (λ T. admitted T.nest >> accepted T) e)

-- ---- 10 to 13

module _ (T : Ticket) where
  abbrev pub verdict : Nest → Answer Judged
  verdict N = new_space N.loops >> accepted (record { ticket = T; new = N })

  pub judge_ticket-accepted : {j : Judged} → judge_ticket T ≡ accepted j
      → (j ≡ record { ticket = T; new = made T }) × (StepsPass T.steps (directions_of T.nest) T.nest
      × (new_space (made T).loops ≡ accepted tt))
  unfolding judge_ticket
  judge_ticket-accepted {j} e =
      let r = bind-accepted (judge_steps 1 T.steps (directions_of T.nest) T.nest) verdict e in
      let s = judge_steps-accepted 1 T.steps (directions_of T.nest) T.nest r.first in
      let q = then-accepted (new_space r.value.loops) (accepted (record { ticket = T; new = r.value })) r.rest in (
        sym (accepted-same q.rest) ∙ ap (λ N. record { ticket = T; new = N }) s.0,
        (s.1, subst (λ N. new_space N.loops ≡ accepted tt) s.0 q.first),
      )

  pub accepted-judge_ticket : StepsPass T.steps (directions_of T.nest) T.nest → new_space (made T).loops ≡ accepted tt
      → judge_ticket T ≡ accepted (record { ticket = T; new = made T })
  unfolding judge_ticket
  accepted-judge_ticket h e = bind-pass verdict (accepted-judge_steps 1 T.steps (directions_of T.nest) T.nest h)
      ∙ then-pass (accepted (record { ticket = T; new = made T })) e

  -- 10, 11 and 12 before 13
  pub judge_ticket-refused : {n p : ℕ} → judge_ticket T ≡ refused n p
      → Rejected 1 T.steps (directions_of T.nest) T.nest n p
      ⊎ (StepsPass T.steps (directions_of T.nest) T.nest × Overrun 13 13 100000 65536 (made T).loops 1 (length (made T).loops) n p)
  unfolding judge_ticket
  judge_ticket-refused {n} {p} e = ⊎_elim (λ f. inl (judge_steps-refused 1 T.steps (directions_of T.nest) T.nest f))
      (λ r. let s = judge_steps-accepted 1 T.steps (directions_of T.nest) T.nest r.first in
      ⊎_elim (λ f. inr (s.1, new-space-refused (made T).loops n p (rw s.0 at f))) (λ f. not-both f.rest)
      (then-refused (new_space r.value.loops) (accepted (record { ticket = T; new = r.value })) r.rest))
      (bind-refused (judge_steps 1 T.steps (directions_of T.nest) T.nest) verdict e)

  pub judge_ticket-number : {n p : ℕ} → judge_ticket T ≡ refused n p → (10 ≤ n) × (n ≤ 13)
  judge_ticket-number {n} {p} e = ⊎_elim
      (λ r. let q = reason-number r.step (vectors_after_all r.front (directions_of T.nest)) (nest_after_all r.front T.nest) n r.reason in
      let a = q.0 in let b = q.1 in (omega arith, omega arith))
      (λ r. ⊎_elim (λ f. let q = f.0 in (omega arith, omega arith)) (λ f. let q = f.0 in (omega arith, omega arith)) r.1.reason)
      (judge_ticket-refused e)

-- ---- 1 to 13

module _ (d : Answer Ticket) where
  pub judged-accepted : {j : Judged} → judged_of d ≡ accepted j → (T : Ticket) × (admit_of d ≡ accepted T) × (judge_ticket T ≡ accepted j)
  unfolding judged_of
  judged-accepted e = let r = bind-accepted (admit_of d) judge_ticket e in (r.value, r.first, r.rest)

  pub judged-refused : {n p : ℕ} → judged_of d ≡ refused n p → (admit_of d ≡ refused n p)
      ⊎ ((T : Ticket) × (admit_of d ≡ accepted T) × (judge_ticket T ≡ refused n p))
  unfolding judged_of
  judged-refused e = ⊎_elim inl (λ r. inr (r.value, r.first, r.rest)) (bind-refused (admit_of d) judge_ticket e)

  pub refused-judged : {n p : ℕ} → admit_of d ≡ refused n p → judged_of d ≡ refused n p
  unfolding judged_of
  refused-judged e = bind-stop judge_ticket e

  pub admitted-judged : {T : Ticket} → admit_of d ≡ accepted T → judged_of d ≡ judge_ticket T
  unfolding judged_of
  admitted-judged e = bind-pass judge_ticket e
