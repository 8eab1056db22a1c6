-- The entry `run`: refused with 1 to 13, then with 15 at the first opaque statement, then with 16 for a store of the wrong size, and then the
-- store is as it was; or run in the new order.
use mathlib.Core.Path.{◌≡◌, refl, sym, ap, ap₂, ◌∙◌, subst}
use mathlib.Core.Bool.{Bool, not}
use mathlib.Core.Logic.{◌⊎◌, inl, inr, ⊎_elim}
use mathlib.Core.List.{List, [], ◌∷◌}
use Prim.Native.Nat.{ℕ, suc}
use lib.Dec.{T, eqb, eqb→eq, eqb_refl}
use lib.ListN.{length}
use Rattle.lists.specs.Membership.{All}
use Rattle.model.specs.Answer.{Answer, accepted, refused, require, ◌>>◌}
use Rattle.model.specs.Ticket.{Statement, Ticket}
use Rattle.model.specs.Grammar.{total}
use Rattle.model.specs.Points.{iterations}
use Rattle.model.specs.Judge.{judged_of, Judged}
use Rattle.model.specs.Store.{run_nest}
use Rattle.model.specs.Entries.{transparent, runnable, run_outcome, run_of}
use Rattle.model.specs.Reasons.{FirstBad, Opaque, Clear, NotRun}
use Rattle.model.proofs.Answers.AnswerLaws.{not-both, accepted-same, bind-accepted, bind-refused, then-accepted, then-refused}
use Rattle.model.proofs.Answers.AnswerLaws.{require-accepted, require-refused}
use Rattle.model.proofs.Answers.CheckLaws.{first_bad-map, checks-accepted, checks-refused, accepted-checks, refused-checks}
use Rattle.model.proofs.Answers.PassLaws.{bind-pass, bind-stop, then-pass, then-stop, require-stop}

-- ---- statements with rule 0

abbrev is_opaque : Statement → Bool
is_opaque s = eqb s.rule 0

test-clear : (s : Statement) → (T (is_opaque s) → ⊥) → Clear s
test-clear s h e = h (subst (λ r. T (eqb r 0)) (sym e) tt)

checks : (k : ℕ) (s : Statement) (ss : List Statement) → transparent k (s ∷ ss) ≡ require (not (is_opaque s)) 15 k >> transparent (suc k) ss
unfolding transparent
checks k s ss = refl

ends : (k : ℕ) → transparent k [] ≡ accepted tt
unfolding transparent
ends k = refl

pub transparent-accepted : (k : ℕ) (ss : List Statement) → transparent k ss ≡ accepted tt → All Clear ss
transparent-accepted k ss e s m = test-clear s (checks-accepted 15 is_opaque transparent ends checks k ss e s m)

-- the first statement with rule 0, of those from number k on
pub transparent-refused : (k : ℕ) (ss : List Statement) {n p : ℕ} → transparent k ss ≡ refused n p → (n ≡ 15) × FirstBad Opaque Clear k ss p
transparent-refused k ss e = let r = checks-refused 15 is_opaque transparent ends checks k ss e in
    (r.0, first_bad-map Opaque Clear (λ s h. eqb→eq s.rule 0 h) test-clear r.1)

clear-test : (s : Statement) → Clear s → T (is_opaque s) → ⊥
clear-test s h t = h (eqb→eq s.rule 0 t)

accepted-transparent : (k : ℕ) (ss : List Statement) → All Clear ss → transparent k ss ≡ accepted tt
accepted-transparent k ss h = accepted-checks 15 is_opaque transparent ends checks k ss (λ s m. clear-test s (h s m))

refused-transparent : (k : ℕ) (ss : List Statement) {p : ℕ} → FirstBad Opaque Clear k ss p → transparent k ss ≡ refused 15 p
refused-transparent k ss r = ap (transparent k) r.parts
    ∙ refused-checks 15 is_opaque transparent ends checks k r.front r.item r.back (λ s m. clear-test s (r.good s m))
    (subst (λ i. T (eqb i 0)) (sym r.bad) tt)
    ∙ ap (refused 15) (sym r.number)

-- ---- the store's size, then all that is checked

-- what may run: accepted, with no opaque statement and a store of the right size
pub record MayRun (d : Answer Ticket) (words : List ℕ) (j : Judged) : Type 0 where
  pub verdict : judged_of d ≡ accepted j
  pub clear : All Clear j.ticket.nest.statements
  pub right : length words ≡ total j.ticket.nest.arrays

module _ (d : Answer Ticket) (words : List ℕ) where
  abbrev clearly : Judged → Answer (Unit {0})
  clearly j = transparent 1 j.ticket.nest.statements

  abbrev right_size : Judged → Bool
  right_size j = eqb (length words) (total j.ticket.nest.arrays)

  abbrev checked : Judged → Answer Judged
  checked j = clearly j >> require (right_size j) 16 0 >> accepted j

  pub runnable-accepted : {j : Judged} → runnable d words ≡ accepted j → MayRun d words j
  unfolding runnable
  runnable-accepted e =
      let r = bind-accepted (judged_of d) checked e in
      let j = r.value in
      let q = then-accepted (clearly j >> require (right_size j) 16 0) (accepted j) r.rest in
      let s = then-accepted (clearly j) (require (right_size j) 16 0) q.first in
      subst (MayRun d words) (accepted-same q.rest) (record {
        verdict = r.first;
        clear = transparent-accepted 1 j.ticket.nest.statements s.first;
        right = eqb→eq (length words) (total j.ticket.nest.arrays) (require-accepted (right_size j) 16 0 s.rest);
      })

  pub runnable-refused : {n p : ℕ} → runnable d words ≡ refused n p
      → (judged_of d ≡ refused n p) ⊎ ((j : Judged) × (judged_of d ≡ accepted j) × NotRun j words n p)
  unfolding runnable
  runnable-refused {n} {p} e = ⊎_elim inl (λ r. inr (r.value, r.first, why r.value r.rest)) (bind-refused (judged_of d) checked e)
    where
      why : (j : Judged) → checked j ≡ refused n p → NotRun j words n p
      why j f = ⊎_elim
          (λ g. ⊎_elim (λ h. inl (transparent-refused 1 j.ticket.nest.statements h))
          (λ h. let r = require-refused (right_size j) 16 0 h.rest in inr (
            transparent-accepted 1 j.ticket.nest.statements h.first,
            record {
              sixteen = r.number;
              nowhere = r.place;
              wrong = λ q. r.fails
                  (subst (λ m. T (eqb (length words) m)) q (eqb_refl (length words)));
            },
          ))
          (then-refused (clearly j) (require (right_size j) 16 0) g))
          (λ g. not-both g.rest)
          (then-refused (clearly j >> require (right_size j) 16 0) (accepted j) f)

  refused-runnable : {n p : ℕ} → (judged_of d ≡ refused n p) ⊎ ((j : Judged) × (judged_of d ≡ accepted j) × NotRun j words n p)
      → runnable d words ≡ refused n p
  unfolding runnable
  refused-runnable (inl e) = bind-stop checked e
  refused-runnable {n} {p} (inr r) = bind-pass checked r.1 ∙ why r.2
    where
      j : Judged
      j = r.0

      why : NotRun j words n p → checked j ≡ refused n p
      why (inl h) = then-stop (accepted j) (then-stop (require (right_size j) 16 0)
          (refused-transparent 1 j.ticket.nest.statements h.1 ∙ ap (λ i. refused i p) (sym h.0)))
      why (inr h) = then-stop (accepted j) (then-pass (require (right_size j) 16 0) (accepted-transparent 1 j.ticket.nest.statements h.0)
          ∙ require-stop (right_size j) 16 0 (λ t. h.1.wrong (eqb→eq (length words) (total j.ticket.nest.arrays) t)) ∙ sym
          (ap₂ refused h.1.sixteen h.1.nowhere))

-- ---- the entry

ran-refused : (a : Answer Judged) (words : List ℕ) {n p : ℕ} → (run_outcome a words).answer ≡ refused n p → ((run_outcome a words).memory ≡ words)
    × (a ≡ refused n p)
unfolding run_outcome
ran-refused (refused m q) words e = (refl, cc)
ran-refused (accepted j) words e = not-both e

refused-ran : (a : Answer Judged) (words : List ℕ) {n p : ℕ} → a ≡ refused n p → (run_outcome a words).answer ≡ refused n p
unfolding run_outcome
refused-ran a words e = ap (λ x. (run_outcome x words).answer) e

ran-accepted : (a : Answer Judged) (words : List ℕ) {c : ℕ} → (run_outcome a words).answer ≡ accepted c
    → (j : Judged) × (a ≡ accepted j) × (c ≡ length (iterations j.ticket.nest.loops)) × ((run_outcome a words).memory ≡ run_nest j.new words)
unfolding run_outcome
ran-accepted (refused m q) words e = not-both (sym e)
ran-accepted (accepted j) words e = (j, refl, sym (accepted-same e), refl)

module _ (d : Answer Ticket) (words : List ℕ) where
  -- a refused run leaves the store as it was
  pub run-refused : {n p : ℕ} → (run_of d words).answer ≡ refused n p
      → ((run_of d words).memory ≡ words) × ((judged_of d ≡ refused n p) ⊎ ((j : Judged) × (judged_of d ≡ accepted j) × NotRun j words n p))
  unfolding run_of
  run-refused e = let r = ran-refused (runnable d words) words e in (r.0, runnable-refused d words r.1)

  pub refused-run : {n p : ℕ} → (judged_of d ≡ refused n p) ⊎ ((j : Judged) × (judged_of d ≡ accepted j) × NotRun j words n p)
      → (run_of d words).answer ≡ refused n p
  unfolding run_of
  refused-run h = refused-ran (runnable d words) words (refused-runnable d words h)

  pub run-accepted : {c : ℕ} → (run_of d words).answer ≡ accepted c
      → (j : Judged) × MayRun d words j × (c ≡ length (iterations j.ticket.nest.loops)) × ((run_of d words).memory ≡ run_nest j.new words)
  unfolding run_of
  run-accepted e = let r = ran-accepted (runnable d words) words e in (r.0, runnable-accepted d words r.1, r.2, r.3)
