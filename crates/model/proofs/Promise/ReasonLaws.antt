-- A refusal exactly on its condition, of every entry: 1 to 9 (`NotAdmitted`), 1 to 13 (`Because`), then 14 with a buffer, 15 and 16 with a store, and the
-- access numbers of the quick test. The reader's own refusals are given: what they mean, both ways. Last, what the quick test says.
use mathlib.Core.Path.{◌≡◌, sym, ap, ◌∙◌, subst}
use mathlib.Core.Logic.{◌↔◌, ◌⊎◌, inl, inr, ⊎_elim}
use mathlib.Core.List.{List}
use Prim.Native.Nat.{ℕ, ◌<◌}
use lib.ListN.{length, length-map}
use lib.Signed.{clash_ℤ}
use Rattle.model.specs.Answer.{Answer, accepted, refused, ◌>>◌}
use Rattle.model.specs.Ticket.{Statement, Ticket}
use Rattle.model.specs.Points.{iterations}
use Rattle.model.specs.Bounds as Bounds
use Rattle.model.specs.Bounds.{space, in_arrays, admitted, subscript_at}
use Rattle.model.specs.Quick.{apart}
use Rattle.model.specs.Judge.{Judged, admit_of, judge_ticket, judged_of, directions_of}
use Rattle.model.specs.Encode.{encode}
use Rattle.model.specs.Listing.{listing}
use Rattle.model.specs.Entries.{judge_of, write_of, list_of, quick_of, run_of, all_accesses}
use Rattle.model.specs.Reasons.{Violates, Stays, made, Short, NoAccess, NotRun, NotAdmitted, grammar, many, off, Because, not_admitted, step}
use Rattle.model.specs.Reasons.{new_space}
use Rattle.model.specs.Promises.{NeverMeet}
use Rattle.model.proofs.Answers.PassLaws.{bind-pass, bind-stop, then-pass, then-stop}
use Rattle.model.proofs.Grammar.GrammarLaws.{Sound}
use Rattle.model.proofs.Points.BoundLaws.{space-accepted, accepted-space, refused-survey}
use Rattle.model.proofs.Points.ArrayLaws.{refused-arrays}
use Rattle.model.proofs.Quick.QuickLaws.{quick-sound}
use Rattle.model.proofs.Verdict.JudgeLaws.{accepted-judge_steps, refused-judge_steps}
use Rattle.model.proofs.Verdict.VerdictLaws.{verdict, admitted-accepted, admitted-refused, admit-accepted, admit-refused, admitted-judged}
use Rattle.model.proofs.Verdict.VerdictLaws.{refused-judged, judge_ticket-refused, judged-refused}
use Rattle.model.proofs.Verdict.EntryLaws.{judge-refused, write-refused, refused-write, list-refused, refused-list, quick-accepted}
use Rattle.model.proofs.Verdict.EntryLaws.{quick-refused, refused-quick, access_number-mem}
use Rattle.model.proofs.Verdict.RunLaws.{run-refused, refused-run}

-- a statement has no subscript that is both off its extent and on it
not-violates : (as' : List (List ℕ)) (ps : List (List _)) (s : Statement) → Stays as' ps s → Violates as' ps s → ⊥
not-violates as' ps s g r =
    let o = r.off in
    let l = subst (λ m. o.dimension < m) (length-map r.access.subscripts (subscript_at r.point)) o.subscript in
    let i = g r.point r.reached r.access r.of o.dimension o.extent l in
    ⊎_elim (λ h. clash_ℤ h i.0) (λ h. clash_ℤ i.1 h) o.off

module _ (Why : ℕ → ℕ → Type 0) (d : Answer Ticket) (why : (n p : ℕ) → (d ≡ refused n p) ↔ Why n p) where
  -- ---- 1 to 9

  admit-because : {n p : ℕ} → admit_of d ≡ refused n p → NotAdmitted Why d n p
  admit-because {n} {p} e = ⊎_elim (λ f. grammar ((why n p).0 f))
      (λ r. ⊎_elim (λ f. many r.0 r.1 f) (λ f. off r.0 r.1 (space-accepted r.0.nest.loops f.0) f.1.0 f.1.1)
      (admitted-refused r.0.nest r.2))
      (admit-refused d e)

  refused-admitted : {n p : ℕ} (K : Ticket) → d ≡ accepted K → admitted K.nest ≡ refused n p → admit_of d ≡ refused n p
  unfolding admit_of
  refused-admitted K e f = bind-pass (λ T. admitted T.nest >> accepted T) e ∙ then-stop (accepted K) f

  because-admit : {n p : ℕ} → NotAdmitted Why d n p → admit_of d ≡ refused n p
  unfolding admit_of admitted space
  because-admit {n} {p} (grammar w) = bind-stop (λ T. admitted T.nest >> accepted T) ((why n p).1 w)
  because-admit {n} {p} (many K e o) = refused-admitted K e
      (then-stop (in_arrays K.nest.arrays (iterations K.nest.loops) 1 K.nest.statements)
      (refused-survey 7 8 32767 4096 K.nest.loops 1 (length K.nest.loops) n p o))
  because-admit {n} {p} (off K e s q f) =
      let as' = K.nest.arrays in
      let ps = iterations K.nest.loops in
      refused-admitted K e (then-pass (in_arrays as' ps 1 K.nest.statements) (accepted-space K.nest.loops s) ∙ ap (in_arrays as' ps 1)
      f.parts
      ∙ refused-arrays as' ps 1 f.front f.item f.back (λ t m. not-violates as' ps t (f.good t m)) f.bad
      ∙ ap (refused 9) (sym f.number) ∙ ap (λ i. refused i p) (sym q))

  pub admit-exact : (n p : ℕ) → (admit_of d ≡ refused n p) ↔ NotAdmitted Why d n p
  admit-exact n p = (admit-because, because-admit)

  -- ---- 1 to 13

  judged-because : {n p : ℕ} → judged_of d ≡ refused n p → Because Why d n p
  judged-because e = ⊎_elim (λ f. not_admitted (admit-because f))
      (λ r. ⊎_elim (λ f. step r.0 r.1 f) (λ f. new_space r.0 r.1 f.0 f.1) (judge_ticket-refused r.0 r.2))
      (judged-refused d e)

  because-judged : {n p : ℕ} → Because Why d n p → judged_of d ≡ refused n p
  unfolding judge_ticket Bounds.new_space
  because-judged (not_admitted h) = refused-judged d (because-admit h)
  because-judged (step K a r) = admitted-judged d a ∙ bind-stop (verdict K) (refused-judge_steps 1 K.steps (directions_of K.nest) K.nest r)
  because-judged {n} {p} (new_space K a s o) =
      admitted-judged d a ∙ bind-pass (verdict K) (accepted-judge_steps 1 K.steps (directions_of K.nest) K.nest s)
      ∙ then-stop (accepted (record { ticket = K; new = made K }))
      (refused-survey 13 13 100000 65536 (made K).loops 1 (length (made K).loops) n p o)

  pub judge-exact : (n p : ℕ) → (judge_of d ≡ refused n p) ↔ Because Why d n p
  unfolding judge_of
  judge-exact n p = (
    λ e. judged-because (judge-refused d e),
    λ h. bind-stop (λ j. accepted (length (iterations j.ticket.nest.loops)))
        (because-judged h),
  )

  -- ---- the other entries: their own numbers come after these, and lent memory is as it was

  pub write-exact : (buffer : List ℕ) (n p : ℕ)
      → ((write_of d buffer).answer ≡ refused n p) ↔ (Because Why d n p ⊎
      ((j : Judged) × (judged_of d ≡ accepted j) × Short (encode j.new) buffer n p))
  write-exact buffer n p = (
    λ e. ⊎_elim (λ f. inl (judged-because f)) inr (write-refused d buffer e).1,
    λ h. refused-write d buffer (⊎_elim (λ f. inl (because-judged f)) inr h),
  )

  pub list-exact : (buffer : List ℕ) (n p : ℕ)
      → ((list_of d buffer).answer ≡ refused n p) ↔ (NotAdmitted Why d n p ⊎
      ((T : Ticket) × (admit_of d ≡ accepted T) × Short (listing T.nest) buffer n p))
  list-exact buffer n p = (
    λ e. ⊎_elim (λ f. inl (admit-because f)) inr (list-refused d buffer e).1,
    λ h. refused-list d buffer (⊎_elim (λ f. inl (because-admit f)) inr h),
  )

  pub run-exact : (words : List ℕ) (n p : ℕ)
      → ((run_of d words).answer ≡ refused n p) ↔ (Because Why d n p ⊎ ((j : Judged) × (judged_of d ≡ accepted j) × NotRun j words n p))
  run-exact words n p = (
    λ e. ⊎_elim (λ f. inl (judged-because f)) inr (run-refused d words e).1,
    λ h. refused-run d words (⊎_elim (λ f. inl (because-judged f)) inr h),
  )

  pub quick-exact : (a b n p : ℕ) → (quick_of d a b ≡ refused n p)
      ↔ (NotAdmitted Why d n p ⊎ ((T : Ticket) × (admit_of d ≡ accepted T) ×
      (NoAccess (all_accesses T.nest) a n p ⊎ NoAccess (all_accesses T.nest) b n p)))
  quick-exact a b n p = (
    λ e. ⊎_elim (λ f. inl (admit-because f)) inr (quick-refused d a b e),
    λ h. refused-quick d a b (⊎_elim (λ f. inl (because-admit f)) inr h),
  )

-- ---- apart: the two accesses name no common element, in any two iterations or in one

pub apart-never : (d : Answer Ticket) → Sound d → (a b : ℕ) → quick_of d a b ≡ accepted apart → NeverMeet d a b
apart-never d sound a b e =
    let r = quick-accepted d a b e in
    let t = admit-accepted d r.3 in
    record {
      ticket = r.0;
      admits = r.3;
      first = r.1;
      second = r.2;
      first-number = r.4;
      second-number = r.5;
      never = quick-sound r.0.nest (sound.formed t.0) (admitted-accepted r.0.nest t.1).0 r.1 r.2
          (access_number-mem (all_accesses r.0.nest) a r.4) (sym r.6);
    }
