-- The tool that shows the pairs that trade places: what each of its answers means, and what the lent list holds. In order: a lent list that is
-- filled; a list of records explained; the answers, by whether judge gives 10; that no pair traded places before the refused step.
use mathlib.Core.Path.{◌≡◌, refl, sym, ap, ◌∙◌, subst}
use mathlib.Core.Logic.{◌↔◌, ◌⊎◌, inl, inr, ⊎_elim}
use mathlib.Core.List.Memᴰ
use mathlib.Core.List.{List, [], ◌∷◌, map}
use Prim.Native.Nat.{ℕ, zero, suc, ◌≤◌, ◌<◌}
use native.Mathlib.Omega.{arith}
use native.Mathlib.Decide.{ℕ_discrete}
use lib.Dec.{T, eqb, eqb→eq}
use lib.IntN.{ℤ}
use lib.ListN.{length, take, get_or, length-map, length-append}
use lib.Seq.{take_at}
use Rattle.lists.specs.Membership.{Mem, All}
use Rattle.lists.proofs.MembershipLaws.{no-members}
use Rattle.lists.proofs.TestLaws.{not-T-false}
use Rattle.model.specs.Answer.{Answer, accepted, refused}
use Rattle.model.specs.Ticket.{Ticket}
use Rattle.model.specs.Machine.{accesses, order}
use Rattle.model.specs.Steps.{forward_all}
use Rattle.model.specs.Judge.{admit_of, directions_of}
use Rattle.model.specs.Entries.{judge_of}
use Rattle.model.specs.Pairs.{Pair, traded, Record, record_of, fill, Reason, verdict, table_alone, pairs, Reasoned, explain, traded_at, explain_ten}
use Rattle.model.specs.Pairs.{reason_of}
use Rattle.model.specs.Inside.{Earlier}
use Rattle.model.specs.Shape.{Proper}
use Rattle.model.specs.Reasons.{Rejected}
use Rattle.model.specs.Promises.{TradesAt}
use Rattle.model.proofs.Answers.AnswerLaws.{not-both}
use Rattle.model.proofs.Grammar.GrammarLaws.{Sound, sound-proper}
use Rattle.model.proofs.Points.EarlierLaws.{backwards-earlier}
use Rattle.model.proofs.Machine.ElementLaws.{kind-conflict}
use Rattle.model.proofs.Machine.DirectionLaws.{directions-mem}
use Rattle.model.proofs.Verdict.VerdictLaws.{admitted-number, admit-accepted, admit-refused, judged-refused, admitted-judged, judge_ticket-refused}
use Rattle.model.proofs.Verdict.EntryLaws.{judge-refused}
use Rattle.model.proofs.Promise.TradeLaws.{pass-forwards, pair-lengths, pair-forwards}
use Rattle.model.proofs.Promise.PairLaws.{pair-exact}

-- ---- a lent list that is filled

pub fill-length : (rs l : List Record) → length (fill rs l) ≡ length l
unfolding fill
fill-length [] [] = refl
fill-length [] (x ∷ l) = refl
fill-length (r ∷ rs) [] = refl
fill-length (r ∷ rs) (x ∷ l) = ap suc (fill-length rs l)

pub fill-front : (rs l : List Record) (i : ℕ) (d : Record) → i < length l → i < length rs → get_or (fill rs l) i d ≡ get_or rs i d
unfolding fill
fill-front [] l i d h g = absurd (omega arith)
fill-front (r ∷ rs) [] i d h g = absurd (omega arith)
fill-front (r ∷ rs) (x ∷ l) zero d h g = refl
fill-front (r ∷ rs) (x ∷ l) (suc i) d h g = fill-front rs l i d (omega arith) (omega arith)

pub fill-rest : (rs l : List Record) (i : ℕ) (d : Record) → length rs ≤ i → get_or (fill rs l) i d ≡ get_or l i d
unfolding fill
fill-rest [] [] i d g = refl
fill-rest [] (x ∷ l) i d g = refl
fill-rest (r ∷ rs) [] i d g = refl
fill-rest (r ∷ rs) (x ∷ l) zero d g = absurd (omega arith)
fill-rest (r ∷ rs) (x ∷ l) (suc i) d g = fill-rest rs l i d (omega arith)

-- ---- a list of records explained

-- 0, 1 and 2 for the three answers
abbrev sort : Reason → ℕ
sort (verdict a) = 0
sort (table_alone k) = 1
sort (pairs k c) = 2

-- no answer is of two sorts
not-same-sort : {X : Type 0} (a b : Reason) → (sort a ≡ sort b → ⊥) → a ≡ b → X
not-same-sort a b h e = absurd (h (ap sort e))

abbrev step_in : Reason → ℕ
step_in (verdict a) = 0
step_in (table_alone k) = k
step_in (pairs k c) = k

abbrev count_in : Reason → ℕ
count_in (verdict a) = 0
count_in (table_alone k) = 0
count_in (pairs k c) = c

module _ (list : List Record) where
  explain-none : (k : ℕ) (rs : List Record) → rs ≡ [] → explain k rs list ≡ record { answer = table_alone k; list = list }
  unfolding explain
  explain-none k rs e = ap (λ l. explain k l list) e

  explain-some : (k : ℕ) (rs : List Record) → 0 < length rs → explain k rs list ≡ record { answer = pairs k (length rs); list = fill rs list }
  unfolding explain
  explain-some k [] h = absurd (omega arith)
  explain-some k (r ∷ rs) h = refl

  none_or_some : (rs : List Record) → (rs ≡ []) ⊎ (0 < length rs)
  none_or_some [] = inl refl
  none_or_some (r ∷ rs) = inr (omega arith)

-- ---- the answers

module _ (d : Answer Ticket) (list : List Record) where
  abbrev answer_of : Reasoned → Reason
  answer_of r = r.answer

  abbrev list_of : Reasoned → List Record
  list_of r = r.list

  -- the pairs that trade places after the first k steps of an admitted ticket, and their records
  abbrev found : Ticket → ℕ → List Pair
  found K k = traded (take k K.steps) K.nest

  abbrev records : Ticket → ℕ → List Record
  records K k = map record_of (found K k)

  -- at a 10 the pairs decide
  pub at-ten : (k : ℕ) (K : Ticket) → admit_of d ≡ accepted K → judge_of d ≡ refused 10 k → reason_of d list ≡ explain k (records K k) list
  unfolding reason_of explain_ten traded_at
  at-ten k K a e = ap (λ x. explain_ten x (λ j. map record_of (traded_at (admit_of d) j)) list) e
      ∙ ap (λ x. explain k (map record_of (traded_at x k)) list) a

  -- any other answer is the judge's, and the list is as it was
  pub reason-judge : ((k : ℕ) → judge_of d ≡ refused 10 k → ⊥) → reason_of d list ≡ record { answer = verdict (judge_of d); list = list }
  unfolding reason_of
  reason-judge h = go (judge_of d) refl
    where
      at : ℕ → List Record
      at k = map record_of (traded_at (admit_of d) k)

      other : (n p : ℕ) → (n ≡ 10 → ⊥) → explain_ten (refused n p) at list ≡ record { answer = verdict (refused n p); list = list }
      other n p g = unfold explain_ten in rw (not-T-false (eqb n 10) (λ t. g (eqb→eq n 10 t))) refl

      go : (a : Answer ℕ) → judge_of d ≡ a → explain_ten a at list ≡ record { answer = verdict a; list = list }
      go (accepted c) e = unfold explain_ten in refl
      go (refused n p) e = other n p (λ q. h p (e ∙ ap (λ m. refused m p) q))

  -- the grammar's own refusals are 1 to 6
  module _ (low : (n p : ℕ) → d ≡ refused n p → n ≤ 6) where
    -- a ticket that is refused with 10 is admitted
    pub ten-admits : (k : ℕ) → judge_of d ≡ refused 10 k → (K : Ticket) × (admit_of d ≡ accepted K)
    ten-admits k e = ⊎_elim
        (λ f. absurd (⊎_elim (λ g. let h = low 10 k g in omega arith) (λ r. let h = (admitted-number r.0.nest r.2).1 in omega arith)
        (admit-refused d f)))
        (λ r. (r.0, r.1)) (judged-refused d (judge-refused d e))

    pub ten-or : ((k : ℕ) × (K : Ticket) × (admit_of d ≡ accepted K) × (judge_of d ≡ refused 10 k)) ⊎ ((k : ℕ) → judge_of d ≡ refused 10 k → ⊥)
    ten-or = go (judge_of d) refl
      where
        Ten : Type 0
        Ten = (k : ℕ) × (K : Ticket) × (admit_of d ≡ accepted K) × (judge_of d ≡ refused 10 k)

        number_in : Answer ℕ → ℕ
        number_in (accepted c) = 0
        number_in (refused n p) = n

        ten : (k : ℕ) → judge_of d ≡ refused 10 k → Ten
        ten k e = let r = ten-admits k e in (k, r.0, r.1, e)

        go : (a : Answer ℕ) → judge_of d ≡ a → Ten ⊎ ((k : ℕ) → judge_of d ≡ refused 10 k → ⊥)
        go (accepted c) e = inr (λ k f. not-both (sym e ∙ f))
        go (refused n p) e = elim (ℕ_discrete n 10) [
          | yes q ↦ inl (ten p (e ∙ ap (λ m. refused m p) q))
          | no q ↦ inr (λ k f. q (ap number_in (sym e ∙ f)))
        ]

    -- records, so many that the pairs are counted
    pub reason-pairs : (k c : ℕ) → ((reason_of d list).answer ≡ pairs k c)
        ↔ ((K : Ticket) × (admit_of d ≡ accepted K) × (judge_of d ≡ refused 10 k) × (c ≡ length (found K k)) × (0 < c))
    reason-pairs k c = (to, from)
      where
        Some : ℕ → Type 0
        Some j = (K : Ticket) × (admit_of d ≡ accepted K) × (judge_of d ≡ refused 10 j) × (c ≡ length (found K j)) × (0 < c)

        at : (reason_of d list).answer ≡ pairs k c → (j : ℕ) (K : Ticket) → admit_of d ≡ accepted K → judge_of d ≡ refused 10 j → Some k
        at e j K a t = ⊎_elim
            (λ q. not-same-sort (table_alone j) (pairs k c) (λ s. omega arith)
            (sym (ap answer_of (at-ten j K a t ∙ explain-none list j (records K j) q)) ∙ e))
            (λ q. let same : pairs j (length (records K j)) ≡ pairs k c =
            sym (ap answer_of (at-ten j K a t ∙ explain-some list j (records K j) q)) ∙ e in
            let n : length (records K j) ≡ c = ap count_in same in
            subst Some (ap step_in same) (K, a, t, sym n ∙ length-map (found K j) record_of, omega arith))
            (none_or_some list (records K j))

        to : (reason_of d list).answer ≡ pairs k c → Some k
        to e = ⊎_elim (λ t. at e t.0 t.1 t.2 t.3)
            (λ h. not-same-sort (verdict (judge_of d)) (pairs k c) (λ s. omega arith) (sym (ap answer_of (reason-judge h)) ∙ e)) ten-or

        from : Some k → (reason_of d list).answer ≡ pairs k c
        from r = let K = r.0 in let l = length-map (found K k) record_of in let n = r.3 in let z = r.4 in
            ap answer_of (at-ten k K r.1 r.2 ∙ explain-some list k (records K k) (omega arith)) ∙ ap (pairs k) (l ∙ sym n)

    -- as many of the lent records as there are pairs are filled
    pub pairs-filled : (k c : ℕ) (K : Ticket) → (reason_of d list).answer ≡ pairs k c → admit_of d ≡ accepted K
        → (reason_of d list).list ≡ fill (records K k) list
    pairs-filled k c K e a = let r = (reason-pairs k c).0 e in
        ⊎_elim
        (λ q. not-same-sort (table_alone k) (pairs k c) (λ s. omega arith)
        (sym (ap answer_of (at-ten k K a r.2 ∙ explain-none list k (records K k) q)) ∙ e))
        (λ q. ap list_of (at-ten k K a r.2 ∙ explain-some list k (records K k) q))
        (none_or_some list (records K k))

    -- by the table alone exactly if no pair trades places
    pub reason-table : (k : ℕ) → ((reason_of d list).answer ≡ table_alone k)
        ↔ ((K : Ticket) × (admit_of d ≡ accepted K) × (judge_of d ≡ refused 10 k) × ((r : Pair) → TradesAt (take k K.steps) K.nest r → ⊥))
    reason-table k = (to, from)
      where
        None : ℕ → Type 0
        None j = (K : Ticket) × (admit_of d ≡ accepted K) × (judge_of d ≡ refused 10 j) ×
            ((r : Pair) → TradesAt (take j K.steps) K.nest r → ⊥)

        at : (reason_of d list).answer ≡ table_alone k → (j : ℕ) (K : Ticket) → admit_of d ≡ accepted K → judge_of d ≡ refused 10 j → None k
        at e j K a t = ⊎_elim
            (λ q. subst None (ap step_in (sym (ap answer_of (at-ten j K a t ∙ explain-none list j (records K j) q)) ∙ e)) (
              K,
              a,
              t,
              λ r h. Memᴰ.not-nil (subst (Mem (record_of r)) q (Memᴰ.map record_of
                  ((pair-exact (take j K.steps) K.nest r).1 h))),
            ))
            (λ q. not-same-sort (pairs j (length (records K j))) (table_alone k) (λ s. omega arith)
            (sym (ap answer_of (at-ten j K a t ∙ explain-some list j (records K j) q)) ∙ e))
            (none_or_some list (records K j))

        to : (reason_of d list).answer ≡ table_alone k → None k
        to e = ⊎_elim (λ t. at e t.0 t.1 t.2 t.3)
            (λ h. not-same-sort (verdict (judge_of d)) (table_alone k) (λ s. omega arith) (sym (ap answer_of (reason-judge h)) ∙ e)) ten-or

        from : None k → (reason_of d list).answer ≡ table_alone k
        from r = let K = r.0 in ap answer_of (at-ten k K r.1 r.2 ∙ explain-none list k (records K k)
            (ap (map record_of) (no-members (found K k) (λ u m. r.3 u ((pair-exact (take k K.steps) K.nest u).0 m)))))

    -- on every answer without pairs the list is as it was
    pub list-kept : ((k c : ℕ) → (reason_of d list).answer ≡ pairs k c → ⊥) → (reason_of d list).list ≡ list
    list-kept h = ⊎_elim
        (λ t. let k = t.0 in let K = t.1 in let e = at-ten k K t.2 t.3 in ⊎_elim
        (λ q. ap list_of (e ∙ explain-none list k (records K k) q))
        (λ q. absurd (h k (length (records K k)) (ap answer_of (e ∙ explain-some list k (records K k) q))))
        (none_or_some list (records K k)))
        (λ g. ap list_of (reason-judge g)) ten-or

    -- its length stays on every answer
    pub list_length : length (reason_of d list).list ≡ length list
    list_length = ⊎_elim
        (λ t. let k = t.0 in let K = t.1 in let e = at-ten k K t.2 t.3 in ⊎_elim
        (λ q. ap (λ r. length (list_of r)) (e ∙ explain-none list k (records K k) q))
        (λ q. ap (λ r. length (list_of r)) (e ∙ explain-some list k (records K k) q) ∙ fill-length (records K k) list)
        (none_or_some list (records K k)))
        (λ g. ap (λ r. length (list_of r)) (reason-judge g)) ten-or

-- ---- the refused step

-- it is one of the ticket's
pub ten-reached : (d : Answer Ticket) (k : ℕ) (K : Ticket) → admit_of d ≡ accepted K → judge_of d ≡ refused 10 k → k ≤ length K.steps
ten-reached d k K a e = ⊎_elim
    (λ f. let z = f.number in let p = ap length f.parts ∙ length-append f.front (f.step ∷ f.back) in omega arith)
    (λ f. absurd (⊎_elim (λ u. let z = u.0 in omega arith) (λ u. let z = u.0 in omega arith) f.1.reason))
    (judge_ticket-refused K (sym (admitted-judged d a) ∙ judge-refused d e))

-- no pair has traded places before it

pub traded-now : (d : Answer Ticket) → Sound d → (k : ℕ) (K : Ticket) → admit_of d ≡ accepted K → judge_of d ≡ refused 10 (suc k)
    → (r : Pair) → TradesAt (take k K.steps) K.nest r → ⊥
unfolding directions_of
traded-now d sound k K a e r g = ⊎_elim rejected
    (λ f. absurd (⊎_elim (λ u. let z = u.0 in omega arith) (λ u. let z = u.0 in omega arith) f.1.reason))
    (judge_ticket-refused K (sym (admitted-judged d a) ∙ judge-refused d e))
  where
    p : List ℤ
    p = r.source.iteration

    q : List ℤ
    q = r.sink.iteration

    rejected : Rejected 1 K.steps (directions_of K.nest) K.nest 10 (suc k) → ⊥
    rejected f =
        let z = f.number in
        let front = f.front in
        let same : take k K.steps ≡ front = ap (take k) f.parts ∙ take_at front (f.step ∷ f.back) k (omega arith) in
        let proper : All Proper front = λ u m. sound-proper d sound (admit-accepted d a).0 u
        (subst (Mem u) (sym f.parts) (Memᴰ.append_left (f.step ∷ f.back) m)) in
        pass-forwards front proper (directions_of K.nest) K.nest f.pass p q (pair-lengths K.nest r.source r.sink g.old)
        (directions-mem (accesses K.nest.statements) (order K.nest) r.source r.sink g.old
        (kind-conflict (accesses K.nest.statements) r.source r.sink r.kind g.clash))
        (pair-forwards K.nest r.source r.sink g.old)
        (subst T (sym (backwards-earlier (forward_all front p) (forward_all front q)))
        (subst (λ us. Earlier (forward_all us q) (forward_all us p)) same g.crossed))
