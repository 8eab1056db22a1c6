-- The answers of every entry fit the fields that they are handed out in. In order: numbers and places of refusals; the count of iterations; the
-- entries. How long a written nest and a listing can be is in `SizeLaws`.
use mathlib.Core.Path.{◌≡◌, refl, sym, ap, subst, subst₂}
use mathlib.Core.Logic.{◌↔◌, inl, inr, ⊎_elim}
use mathlib.Core.List.{List, [], ◌∷◌, ◌++◌, map}
use Prim.Native.Nat.{ℕ, ◌≤◌, ◌<◌}
use native.Mathlib.Omega.{arith}
use lib.ListN.{length, take, length-append, length-map}
use Rattle.model.specs.Answer.{Answer, accepted, refused}
use Rattle.model.specs.Ticket.{Ticket}
use Rattle.model.specs.Points.{iterations}
use Rattle.model.specs.Judge.{Judged, directions_of, admit_of, judged_of}
use Rattle.model.specs.Encode.{encode}
use Rattle.model.specs.Listing.{listing}
use Rattle.model.specs.Entries.{judge_of, write_of, list_of, quick_of, run_of}
use Rattle.model.specs.Reasons.{NotRun, NotAdmitted, grammar, many, off, Because, not_admitted, step, new_space}
use Rattle.model.specs.Pairs.{Record, record_of, traded, Reasoned, explain, reason_of}
use Rattle.model.specs.Promises.{FitsFields, ReasonFits}
use Rattle.model.specs.Limits.{nest_after_all}
use Rattle.model.proofs.Answers.AnswerLaws.{not-both}
use Rattle.model.proofs.Grammar.WrongLaws.{refused-same}
use Rattle.model.proofs.Grammar.GrammarLaws.{Sound}
use Rattle.model.proofs.Points.PointLaws.{iterations-full}
use Rattle.model.proofs.Points.BoundLaws.{space-accepted}
use Rattle.model.proofs.Verdict.JudgeStepLaws.{reason-number}
use Rattle.model.proofs.Verdict.VerdictLaws.{admitted-accepted, admit-accepted, judge_ticket-accepted, judged-accepted}
use Rattle.model.proofs.Verdict.EntryLaws.{judge-accepted, write-accepted, list-accepted}
use Rattle.model.proofs.Verdict.RunLaws.{run-accepted}
use Rattle.model.proofs.Promise.WrittenLaws.{new-ranges, new-formed}
use Rattle.model.proofs.Promise.PromiseLaws.{judged-gives}
use Rattle.model.proofs.Promise.SizeLaws.{most_bytes, most-text, most-traded}
use Rattle.model.proofs.Promise.ReasonLaws.{judge-exact, write-exact, list-exact, run-exact, quick-exact}
use Rattle.model.proofs.Promise.ReasonToolLaws.{at-ten, reason-judge, ten-or}

front_below : {A : Type 0} (xs front : List A) (x : A) (back : List A) → xs ≡ front ++ x ∷ back → length front < length xs
front_below xs front x back e = let l = length-append front (x ∷ back) in let q = ap length e in omega arith

-- ---- refusals: the reader's own are given

module _ (Why : ℕ → ℕ → Type 0) (d : Answer Ticket) (low : (n p : ℕ) → Why n p → (n ≤ 6) × (p ≤ 505)) (sound : Sound d) where
  admitted-low : {n p : ℕ} → NotAdmitted Why d n p → (n ≤ 9) × (p ≤ 505)
  admitted-low {n} {p} (grammar w) = let r = low n p w in let a = r.0 in (omega arith, r.1)
  admitted-low (many K e o) = let h = (sound.ranges e).nest.few-loops.high in let q = o.before in
      ⊎_elim (λ x. let n = x.0 in (omega arith, omega arith)) (λ x. let n = x.0 in (omega arith, omega arith)) o.reason
  admitted-low (off K e s q f) = let h = (sound.ranges e).nest.few-statements.high in let m = f.number in
      let l = front_below K.nest.statements f.front f.item f.back f.parts in (omega arith, omega arith)

  because-low : {n p : ℕ} → Because Why d n p → (n ≤ 13) × (p ≤ 505)
  because-low (not_admitted h) = let r = admitted-low h in let a = r.0 in (omega arith, r.1)
  because-low {n} {p} (step K a r) = let h = (sound.ranges (admit-accepted d a).0).few-steps in let q = r.number in
      let l = front_below K.steps r.front r.step r.back r.parts in
      let c = (reason-number r.step _ _ n r.reason).1 in (omega arith, omega arith)
  because-low (new_space K a s o) = let e = (admit-accepted d a).0 in
      let h = (new-ranges K (sound.ranges e) (sound.formed e) (directions_of K.nest) s).few-loops.high in let q = o.before in
      ⊎_elim (λ x. let n = x.0 in (omega arith, omega arith)) (λ x. let n = x.0 in (omega arith, omega arith)) o.reason

-- ---- iterations

module _ (d : Answer Ticket) (sound : Sound d) where
  admitted-few : {K : Ticket} → admit_of d ≡ accepted K → length (iterations K.nest.loops) ≤ 4096
  admitted-few {K} e =
      let a = admit-accepted d e in
      let z = (sound.ranges a.0).nest.few-loops.low in
      let f = (space-accepted K.nest.loops (admitted-accepted K.nest a.1).0 (length K.nest.loops) z (omega arith)).few in
      let q = ap length (iterations-full K.nest.loops) in
      omega arith

  judged-few : {j : Judged} → judged_of d ≡ accepted j → length (iterations j.ticket.nest.loops) ≤ 4096
  judged-few {j} e = let r = judged-accepted d e in
      subst (λ (k : Judged). length (iterations k.ticket.nest.loops) ≤ 4096) (sym (judge_ticket-accepted r.0 r.2).0) (admitted-few r.1)

-- ---- the entries

module _ (Why : ℕ → ℕ → Type 0) (d : Answer Ticket) (why : (n p : ℕ) → (d ≡ refused n p) ↔ Why n p)
    (low : (n p : ℕ) → Why n p → (n ≤ 6) × (p ≤ 505)) (sound : Sound d) where
  fits : (x : Answer ℕ) → ((c : ℕ) → x ≡ accepted c → c < 4294967296) → ((n p : ℕ) → x ≡ refused n p → (n ≤ 16) × (p ≤ 505)) → FitsFields x
  fits (accepted c) f g = f c refl
  fits (refused n p) f g = let r = g n p refl in let a = r.0 in let b = r.1 in (omega arith, omega arith)

  because-fits : {n p : ℕ} → Because Why d n p → (n ≤ 16) × (p ≤ 505)
  because-fits h = let r = because-low Why d low sound h in let a = r.0 in (omega arith, r.1)

  admitted-fits : {n p : ℕ} → NotAdmitted Why d n p → (n ≤ 16) × (p ≤ 505)
  admitted-fits h = let r = admitted-low Why d low sound h in let a = r.0 in (omega arith, r.1)

  pub judge-fits : FitsFields (judge_of d)
  judge-fits = fits (judge_of d) (λ c e. let r = judge-accepted d e in let h = judged-few d sound r.1 in let q = r.2 in omega arith)
      (λ n p e. because-fits ((judge-exact Why d why n p).0 e))

  pub write-fits : (buffer : List ℕ) → FitsFields (write_of d buffer).answer
  write-fits buffer = fits (write_of d buffer).answer (λ c e. let r = write-accepted d buffer e in let h = written-few r.1 in
      let q = r.2.count in omega arith)
      (λ n p e. ⊎_elim because-fits (λ r. let a = r.2.fourteen in let b = r.2.nowhere in (omega arith, omega arith))
      ((write-exact Why d why buffer n p).0 e))
    where
      written-few : {j : Judged} → judged_of d ≡ accepted j → length (encode j.new) ≤ 3656
      written-few {j} e = let g = judged-gives d sound e in
          subst (λ M. length (encode M) ≤ 3656) (sym g.new) (most_bytes (nest_after_all j.ticket.steps j.ticket.nest)
          (new-ranges j.ticket (sound.ranges g.decoded) g.formed (directions_of j.ticket.nest) g.pass)
          (new-formed j.ticket (sound.ranges g.decoded) g.formed))

  pub list-fits : (buffer : List ℕ) → FitsFields (list_of d buffer).answer
  list-fits buffer = fits (list_of d buffer).answer (λ c e. let r = list-accepted d buffer e in let h = listed-few r.1 in let q = r.2.count in
      omega arith)
      (λ n p e. ⊎_elim admitted-fits (λ r. let a = r.2.fourteen in let b = r.2.nowhere in (omega arith, omega arith))
      ((list-exact Why d why buffer n p).0 e))
    where
      listed-few : {K : Ticket} → admit_of d ≡ accepted K → length (listing K.nest) ≤ 82000
      listed-few {K} e = let r = (sound.ranges (admit-accepted d e).0).nest in
          most-text K.nest r.few-loops.high r.few-statements.high (admitted-few d sound e)

  pub run_fits : (words : List ℕ) → FitsFields (run_of d words).answer
  run_fits words = fits (run_of d words).answer (λ c e. let r = run-accepted d words e in let h = judged-few d sound r.1.verdict in
      let q = r.2 in omega arith)
      (λ n p e. ⊎_elim because-fits (λ r. not-run r.0 r.1 r.2) ((run-exact Why d why words n p).0 e))
    where
      not-run : {n p : ℕ} (j : Judged) → judged_of d ≡ accepted j → NotRun j words n p → (n ≤ 16) × (p ≤ 505)
      not-run j e (inl r) = let h = (sound.ranges (judged-gives d sound e).decoded).nest.few-statements.high in let f = r.1 in
          let m = f.number in let q = r.0 in
          let l = front_below j.ticket.nest.statements f.front f.item f.back f.parts in (omega arith, omega arith)
      not-run j e (inr r) = let a = r.1.sixteen in let b = r.1.nowhere in (omega arith, omega arith)

  pub quick-fits : (a b n p : ℕ) → quick_of d a b ≡ refused n p → FitsFields (refused n p)
  quick-fits a b n p e = fits (refused n p) (λ c f. not-both (sym f)) (λ m q f. let s = refused-same f in
      subst₂ (λ i k. (i ≤ 16) × (k ≤ 505)) s.0 s.1 (⊎_elim admitted-fits (λ r. ⊎_elim
      (λ x. let u = x.four in let v = x.nowhere in (omega arith, omega arith))
      (λ x. let u = x.four in let v = x.nowhere in (omega arith, omega arith)) r.2)
      ((quick-exact Why d why a b n p).0 e)))

  explain-fits : (k : ℕ) (rs list : List Record) → k < 16777216 → length rs < 4294967296 → ReasonFits (explain k rs list).answer
  unfolding explain
  explain-fits k [] list h g = h
  explain-fits k (r ∷ rs) list h g = (h, g)

  pub reason-fits : (list : List Record) → ReasonFits (reason_of d list).answer
  reason-fits list = ⊎_elim
      (λ t. let k = t.0 in let K = t.1 in
      subst fitting (sym (at-ten d list k K t.2 t.3)) (explain-fits k (map record_of (traded (take k K.steps) K.nest)) list
      (subst FitsFields t.3 judge-fits).1
      (let r = (sound.ranges (admit-accepted d t.2).0).nest in
      let m = most-traded (take k K.steps) K.nest r.few-statements.high (admitted-few d sound t.2) in
      let l = length-map (traded (take k K.steps) K.nest) record_of in omega arith)))
      (λ h. subst fitting (sym (reason-judge d list h)) judge-fits)
      (ten-or d list (λ n p e. (low n p ((why n p).0 e)).0))
    where
      fitting : Reasoned → Type 0
      fitting r = ReasonFits r.answer
