-- The entries but `run`: where each answer comes from, and what the lent memory holds in the end. In order: `judge`; text handed out (14), then
-- `write` and `list`; access numbers, then `nest_quick_test`. `run` is in `RunLaws`; what `admit_of` and `judged_of` refuse is in `VerdictLaws`.
use mathlib.Core.Path.{◌≡◌, refl, sym, ap, ap₂, ◌∙◌, subst}
use mathlib.Core.Logic.{◌⊎◌, inl, inr, ⊎_elim}
use mathlib.Core.List.Memᴰ
use mathlib.Core.List.{List, [], ◌++◌}
use Prim.Native.Nat.{ℕ, ◌-◌, ◌≤◌}
use native.Mathlib.Omega.{arith}
use lib.Dec.{leb, not_T, leb→le, nleb→lt}
use borrow.Author.Tests.{leb-true, leb-false}
use lib.ListN.{length, drop, get_or, length-append, length-drop}
use lib.Seq.{take_at, drop_at}
use Rattle.lists.specs.Membership.{Mem}
use Rattle.lists.proofs.MembershipLaws.{get_d-mem}
use Rattle.lists.proofs.TestLaws.{T-cases, cond_cases}
use Rattle.model.specs.Answer.{Answer, accepted, refused, require, ◌>>=◌, ◌>>◌}
use Rattle.model.specs.Ticket.{Access, Ticket}
use Rattle.model.specs.Points.{iterations}
use Rattle.model.specs.Judge.{admit_of, judged_of, Judged}
use Rattle.model.specs.Encode.{encode}
use Rattle.model.specs.Listing.{listing}
use Rattle.model.specs.Quick.{Independence, quick_test}
use Rattle.model.specs.Entries.{Outcome, judge_of, hand_out, write_of, list_of, all_accesses, access_number, quick_of}
use Rattle.model.specs.Reasons.{Short, NoAccess}
use Rattle.model.specs.Promises.{HandedOut}
use Rattle.model.proofs.Answers.AnswerLaws.{not-both, accepted-same, bind-accepted, bind-refused, then-accepted, then-refused}
use Rattle.model.proofs.Answers.AnswerLaws.{require-accepted, require-refused}
use Rattle.model.proofs.Answers.PassLaws.{bind-pass, bind-stop, then-pass, then-stop, require-pass, require-stop}

-- ---- judge: the count of iterations, or the verdict

pub judge-accepted : (d : Answer Ticket) {c : ℕ} → judge_of d ≡ accepted c
    → (j : Judged) × (judged_of d ≡ accepted j) × (c ≡ length (iterations j.ticket.nest.loops))
unfolding judge_of
judge-accepted d e = let r = bind-accepted (judged_of d) (λ j. accepted (length (iterations j.ticket.nest.loops))) e in
    (r.value, r.first, sym (accepted-same r.rest))

pub judge-refused : (d : Answer Ticket) {n p : ℕ} → judge_of d ≡ refused n p → judged_of d ≡ refused n p
unfolding judge_of
judge-refused d e = ⊎_elim (λ f. f) (λ r. not-both r.rest)
    (bind-refused (judged_of d) (λ j. accepted (length (iterations j.ticket.nest.loops))) e)

-- ---- text handed out

handed_out : (text buffer : List ℕ) (c : ℕ) (memory : List ℕ) → c ≡ length text → length text ≤ length buffer
    → memory ≡ text ++ drop (length text) buffer → HandedOut text buffer c memory
handed_out text buffer c memory e h w = record {
  count = e;
  fits = h;
  whole = w;
  front = rw (e, w) (take_at text (drop (length text) buffer) (length text) refl);
  rest = rw (e, w) (drop_at text (drop (length text) buffer) (length text) refl);
  size = rw w (simp (length-append, length-drop) (omega arith));
}

module _ (buffer : List ℕ) where
  abbrev taken : List ℕ → Outcome
  taken text = record { answer = accepted (length text); memory = text ++ drop (length text) buffer }

  abbrev left : Outcome
  left = record { answer = refused 14 0; memory = buffer }

  pub hand_out-refused : (a : Answer (List ℕ)) {n p : ℕ} → (hand_out a buffer).answer ≡ refused n p
      → ((hand_out a buffer).memory ≡ buffer) × ((a ≡ refused n p) ⊎ ((text : List ℕ) × (a ≡ accepted text) × Short text buffer n p))
  unfolding hand_out
  hand_out-refused (refused m q) e = (refl, inl (same e))
    where
      same : {m q n p : ℕ} → ◌≡◌ {A = Answer ℕ} (refused m q) (refused n p) → ◌≡◌ {A = Answer (List ℕ)} (refused m q) (refused n p)
      same e = cc
  hand_out-refused (accepted text) {n} {p} e =
      cond_cases (λ o. o.answer ≡ refused n p → (o.memory ≡ buffer) ×
      ((accepted text ≡ refused n p) ⊎ ((u : List ℕ) × (accepted text ≡ accepted u) × Short u buffer n p)))
      (leb (length text) (length buffer)) (taken text) left
      (λ t f. not-both f)
      (λ t f. (refl, inr (text, refl, record { fourteen = cc; nowhere = cc; short = leb-false (length text) (length buffer) t }))) e

  pub hand_out-accepted : (a : Answer (List ℕ)) {c : ℕ} → (hand_out a buffer).answer ≡ accepted c
      → (text : List ℕ) × (a ≡ accepted text) × HandedOut text buffer c (hand_out a buffer).memory
  unfolding hand_out
  hand_out-accepted (refused m q) e = not-both (sym e)
  hand_out-accepted (accepted text) {c} e =
      cond_cases (λ o. o.answer ≡ accepted c → (u : List ℕ) × (accepted text ≡ accepted u) × HandedOut u buffer c o.memory)
      (leb (length text) (length buffer)) (taken text) left
      (λ t f. (
        text,
        refl,
        handed_out text buffer c (text ++ drop (length text) buffer) (sym (accepted-same f))
            (leb-true (length text) (length buffer) t) refl,
      ))
      (λ t f. not-both (sym f)) e

  -- the other way: what is refused stays so, and a text too long is 14
  hand_out-stops : {a : Answer (List ℕ)} {n p : ℕ} → a ≡ refused n p → (hand_out a buffer).answer ≡ refused n p
  unfolding hand_out
  hand_out-stops e = ap (λ x. (hand_out x buffer).answer) e

  hand_out-short : {a : Answer (List ℕ)} {n p : ℕ} (text : List ℕ) → a ≡ accepted text → Short text buffer n p
      → (hand_out a buffer).answer ≡ refused n p
  unfolding hand_out
  hand_out-short {n = n} {p = p} text e h = ap (λ x. (hand_out x buffer).answer) e
      ∙ cond_cases (λ o. o.answer ≡ refused n p) (leb (length text) (length buffer)) (taken text) left
      (λ t. absurd (let l = leb-true (length text) (length buffer) t in let g = h.short in omega arith))
      (λ t. sym (ap₂ refused h.fourteen h.nowhere))

-- a text made of what was accepted before
module _ {A : Type 0} (m : Answer A) (text : A → List ℕ) (buffer : List ℕ) where
  abbrev handed : Outcome
  handed = hand_out (m >>= (λ a. accepted (text a))) buffer

  withheld : {n p : ℕ} → handed.answer ≡ refused n p
      → (handed.memory ≡ buffer) × ((m ≡ refused n p) ⊎ ((a : A) × (m ≡ accepted a) × Short (text a) buffer n p))
  withheld {n} {p} e =
      let r = hand_out-refused buffer (m >>= (λ a. accepted (text a))) e in (
        r.0,
        ⊎_elim (λ f. ⊎_elim inl (λ q. not-both q.rest) (bind-refused m (λ a. accepted (text a)) f))
            (λ f. let q = bind-accepted m (λ a. accepted (text a)) f.1 in
            inr (q.value, q.first, subst (λ t. Short t buffer n p) (sym (accepted-same q.rest)) f.2)) r.1,
      )

  refused-handed : {n p : ℕ} → (m ≡ refused n p) ⊎ ((a : A) × (m ≡ accepted a) × Short (text a) buffer n p) → handed.answer ≡ refused n p
  refused-handed (inl e) = hand_out-stops buffer (bind-stop (λ a. accepted (text a)) e)
  refused-handed (inr r) = hand_out-short buffer (text r.0) (bind-pass (λ a. accepted (text a)) r.1) r.2

  handed-over : {c : ℕ} → handed.answer ≡ accepted c → (a : A) × (m ≡ accepted a) × HandedOut (text a) buffer c handed.memory
  handed-over {c} e =
      let r = hand_out-accepted buffer (m >>= (λ a. accepted (text a))) e in
      let q = bind-accepted m (λ a. accepted (text a)) r.1 in
      (q.value, q.first, subst (λ t. HandedOut t buffer c handed.memory) (sym (accepted-same q.rest)) r.2)

module _ (d : Answer Ticket) (buffer : List ℕ) where
  -- write: 1 to 13, then 14
  pub write-refused : {n p : ℕ} → (write_of d buffer).answer ≡ refused n p
      → ((write_of d buffer).memory ≡ buffer) × ((judged_of d ≡ refused n p) ⊎
      ((j : Judged) × (judged_of d ≡ accepted j) × Short (encode j.new) buffer n p))
  unfolding write_of
  write-refused e = withheld (judged_of d) (λ j. encode j.new) buffer e

  pub refused-write : {n p : ℕ} → (judged_of d ≡ refused n p) ⊎ ((j : Judged) × (judged_of d ≡ accepted j) × Short (encode j.new) buffer n p)
      → (write_of d buffer).answer ≡ refused n p
  unfolding write_of
  refused-write h = refused-handed (judged_of d) (λ j. encode j.new) buffer h

  pub write-accepted : {c : ℕ} → (write_of d buffer).answer ≡ accepted c
      → (j : Judged) × (judged_of d ≡ accepted j) × HandedOut (encode j.new) buffer c (write_of d buffer).memory
  unfolding write_of
  write-accepted e = handed-over (judged_of d) (λ j. encode j.new) buffer e

  -- list: 1 to 9, then 14
  pub list-refused : {n p : ℕ} → (list_of d buffer).answer ≡ refused n p
      → ((list_of d buffer).memory ≡ buffer) × ((admit_of d ≡ refused n p) ⊎
      ((T : Ticket) × (admit_of d ≡ accepted T) × Short (listing T.nest) buffer n p))
  unfolding list_of
  list-refused e = withheld (admit_of d) (λ T. listing T.nest) buffer e

  pub refused-list : {n p : ℕ} → (admit_of d ≡ refused n p) ⊎ ((T : Ticket) × (admit_of d ≡ accepted T) × Short (listing T.nest) buffer n p)
      → (list_of d buffer).answer ≡ refused n p
  unfolding list_of
  refused-list h = refused-handed (admit_of d) (λ T. listing T.nest) buffer h

  pub list-accepted : {c : ℕ} → (list_of d buffer).answer ≡ accepted c
      → (T : Ticket) × (admit_of d ≡ accepted T) × HandedOut (listing T.nest) buffer c (list_of d buffer).memory
  unfolding list_of
  list-accepted e = handed-over (admit_of d) (λ T. listing T.nest) buffer e

-- ---- quick: 1 to 9, then the access numbers

abbrev pub blank : Access
blank = record { array = 0; subscripts = [] }

module _ (l : List Access) (a : ℕ) where
  pub access_number-accepted : {u : Access} → access_number l a ≡ accepted u → (1 ≤ a) × ((a ≤ length l) × (u ≡ get_or l (a - 1) blank))
  unfolding access_number
  access_number-accepted e =
      let r = then-accepted (require (leb 1 a) 4 0 >> require (leb a (length l)) 4 0) (accepted (get_or l (a - 1) blank)) e in
      let q = then-accepted (require (leb 1 a) 4 0) (require (leb a (length l)) 4 0) r.first in (
        leb→le 1 a (require-accepted (leb 1 a) 4 0 q.first),
        (leb→le a (length l) (require-accepted (leb a (length l)) 4 0 q.rest), sym (accepted-same r.rest)),
      )

  pub access_number-mem : {u : Access} → access_number l a ≡ accepted u → Mem u l
  access_number-mem e = let r = access_number-accepted e in let h = r.0 in let g = r.1.0 in
      Memᴰ.cast r.1.1 (get_d-mem l (a - 1) blank (omega arith))

  pub access_number-refused : {n p : ℕ} → access_number l a ≡ refused n p → NoAccess l a n p
  unfolding access_number
  access_number-refused e = ⊎_elim
      (λ f. ⊎_elim (λ g. let r = require-refused (leb 1 a) 4 0 g in
      record { four = r.number; nowhere = r.place; none = inl (nleb→lt 1 a (not_T (leb 1 a) r.fails)) })
      (λ g. let r = require-refused (leb a (length l)) 4 0 g.rest in
      record { four = r.number; nowhere = r.place; none = inr (nleb→lt a (length l) (not_T (leb a (length l)) r.fails)) })
      (then-refused (require (leb 1 a) 4 0) (require (leb a (length l)) 4 0) f))
      (λ f. not-both f.rest)
      (then-refused (require (leb 1 a) 4 0 >> require (leb a (length l)) 4 0) (accepted (get_or l (a - 1) blank)) e)

  refused-access_number : {n p : ℕ} → NoAccess l a n p → access_number l a ≡ refused n p
  unfolding access_number
  refused-access_number h = then-stop (accepted (get_or l (a - 1) blank)) (⊎_elim
      (λ t. then-pass (require (leb a (length l)) 4 0) (require-pass (leb 1 a) 4 0 t)
      ∙ require-stop (leb a (length l)) 4 0 (λ u. let x = leb→le 1 a t in let y = leb→le a (length l) u in
      ⊎_elim (λ z. omega arith) (λ z. omega arith) h.none))
      (λ f. then-stop (require (leb a (length l)) 4 0) (require-stop (leb 1 a) 4 0 f)) (T-cases (leb 1 a))) ∙ sym
      (ap₂ refused h.four h.nowhere)

module _ (d : Answer Ticket) (a b : ℕ) where
  abbrev second : Ticket → Access → Answer Independence
  second T u = access_number (all_accesses T.nest) b >>= (λ v. accepted (quick_test T.nest.loops u v))

  abbrev asked : Ticket → Answer Independence
  asked T = access_number (all_accesses T.nest) a >>= second T

  pub quick-accepted : {i : Independence} → quick_of d a b ≡ accepted i
      → (T : Ticket) × (u : Access) × (v : Access) × (admit_of d ≡ accepted T) × (access_number (all_accesses T.nest) a ≡ accepted u)
      × (access_number (all_accesses T.nest) b ≡ accepted v) × (i ≡ quick_test T.nest.loops u v)
  unfolding quick_of
  quick-accepted e =
      let r = bind-accepted (admit_of d) asked e in
      let q = bind-accepted (access_number (all_accesses r.value.nest) a) (second r.value) r.rest in
      let s = bind-accepted (access_number (all_accesses r.value.nest) b) (λ v. accepted (quick_test r.value.nest.loops q.value v))
      q.rest in
      (r.value, q.value, s.value, r.first, q.first, s.first, sym (accepted-same s.rest))

  pub quick-refused : {n p : ℕ} → quick_of d a b ≡ refused n p
      → (admit_of d ≡ refused n p)
      ⊎ ((T : Ticket) × (admit_of d ≡ accepted T) × (NoAccess (all_accesses T.nest) a n p ⊎ NoAccess (all_accesses T.nest) b n p))
  unfolding quick_of
  quick-refused {n} {p} e = ⊎_elim inl (λ r. inr (r.value, r.first, numbers r.value r.rest)) (bind-refused (admit_of d) asked e)
    where
      last : (T : Ticket) (u : Access) → second T u ≡ refused n p → NoAccess (all_accesses T.nest) b n p
      last T u f = ⊎_elim (λ g. access_number-refused (all_accesses T.nest) b g) (λ g. not-both g.rest)
          (bind-refused (access_number (all_accesses T.nest) b) (λ v. accepted (quick_test T.nest.loops u v)) f)

      numbers : (T : Ticket) → asked T ≡ refused n p → NoAccess (all_accesses T.nest) a n p ⊎ NoAccess (all_accesses T.nest) b n p
      numbers T f = ⊎_elim (λ g. inl (access_number-refused (all_accesses T.nest) a g)) (λ g. inr (last T g.value g.rest))
          (bind-refused (access_number (all_accesses T.nest) a) (second T) f)

  pub refused-quick : {n p : ℕ} → (admit_of d ≡ refused n p)
      ⊎ ((T : Ticket) × (admit_of d ≡ accepted T) × (NoAccess (all_accesses T.nest) a n p ⊎ NoAccess (all_accesses T.nest) b n p))
      → quick_of d a b ≡ refused n p
  unfolding quick_of
  refused-quick (inl e) = bind-stop asked e
  refused-quick {n} {p} (inr r) = bind-pass asked r.1 ∙ numbers r.2
    where
      l : List Access
      l = all_accesses r.0.nest

      later : NoAccess l b n p → (x : Answer Access) → access_number l a ≡ x → asked r.0 ≡ refused n p
      later h (accepted u) e = bind-pass (second r.0) e ∙ bind-stop (λ v. accepted (quick_test r.0.nest.loops u v))
          (refused-access_number l b h)
      later h (refused m q) e = let f = access_number-refused l a e in
          bind-stop (second r.0) (e ∙ ap₂ refused (f.four ∙ sym h.four) (f.nowhere ∙ sym h.nowhere))

      numbers : NoAccess l a n p ⊎ NoAccess l b n p → asked r.0 ≡ refused n p
      numbers (inl h) = bind-stop (second r.0) (refused-access_number l a h)
      numbers (inr h) = later h (access_number l a) refl
