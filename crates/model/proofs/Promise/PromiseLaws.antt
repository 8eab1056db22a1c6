-- Demand 3 on the definitions: from steps that pass on a well-formed nest to equal iterations and equal values; then for a ticket, however it was read;
-- then what write hands out and the store that run leaves.
use mathlib.Core.Path.{◌≡◌, refl, sym, ap, ◌∙◌, subst}
use mathlib.Core.List.{List}
use Prim.Native.Nat.{ℕ}
use lib.IntN.{pos}
use lib.ListN.{length, get_or}
use Rattle.lists.specs.Membership.{All}
use Rattle.lists.proofs.TestLaws.{false-not-T}
use Rattle.model.specs.Answer.{Answer, accepted}
use Rattle.model.specs.Ticket.{Step, Nest, Ticket}
use Rattle.model.specs.Grammar.{decode_nest, total}
use Rattle.model.specs.Points.{iterations, partial_points}
use Rattle.model.specs.Machine.{Element, State, Rules, accesses, instances, order, exec, originally, run}
use Rattle.model.specs.Steps.{forward_all, undo_all}
use Rattle.model.specs.Limits.{nest_after_all}
use Rattle.model.specs.Judge.{Judged, directions_of, judged_of}
use Rattle.model.specs.Store.{place_of, perform_on, run_nest, own_rules}
use Rattle.model.specs.Encode.{encode}
use Rattle.model.specs.Entries.{judge_of, write_of, run_of}
use Rattle.model.specs.Shape.{Proper, WellFormed}
use Rattle.model.specs.Reasons.{StepsPass}
use Rattle.model.specs.Promises.{HandedOut, state_of, Promise, Left}
use Rattle.model.proofs.Grammar.GrammarLaws.{Sound, sound-proper}
use Rattle.model.proofs.Points.PointLaws.{iterations-rise, iterations-full}
use Rattle.model.proofs.Points.ArrayLaws.{arrays-inside}
use Rattle.model.proofs.Steps.KeepLaws.{all-steps-keep-points, each-once, taken_back, same_count}
use Rattle.model.proofs.Steps.AccessLaws.{accesses-undone}
use Rattle.model.proofs.Machine.SameRunLaws.{NamesAlike}
use Rattle.model.proofs.Machine.DirectionLaws.{directions-mem}
use Rattle.model.proofs.Machine.CommuteLaws.{commute}
use Rattle.model.proofs.Machine.OrderedRunLaws.{NoneBackwards, new-run}
use Rattle.model.proofs.Store.StoreLaws.{state_of-shown, run-shows}
use Rattle.model.proofs.Store.NewStoreLaws.{NoneViolates, instances-in-store, new-store}
use Rattle.model.proofs.Verdict.VerdictLaws.{admitted-accepted, admit-accepted, judge_ticket-accepted, judged-accepted}
use Rattle.model.proofs.Verdict.EntryLaws.{judge-accepted, write-accepted}
use Rattle.model.proofs.Promise.WrittenLaws.{judged-written}
use Rattle.model.proofs.Verdict.RunLaws.{run-accepted}
use Rattle.model.proofs.Promise.TradeLaws.{pass-forwards, pair-lengths, pair-forwards}
use Rattle.model.proofs.Promise.KeptLaws.{arrays-kept, statements-kept, rules-kept, constants-kept}

-- ---- steps that pass

module _ (ts : List Step) (proper : All Proper ts) (N : Nest) (formed : WellFormed N) (pass : StepsPass ts (directions_of N) N) where
  M : Nest
  M = nest_after_all ts N

  n : ℕ
  n = length N.statements

  alike : All (NamesAlike (accesses N.statements) (accesses M.statements) (undo_all ts)) (iterations M.loops)
  unfolding M
  alike q m = record { reads = λ k. (accesses-undone ts proper N formed k q m).reads; writes = λ k. (accesses-undone ts proper N formed k q m).writes }

  none-backwards : NoneBackwards (accesses N.statements) (forward_all ts) (order N)
  unfolding directions_of
  none-backwards i j h c =
      pass-forwards ts proper (directions_of N) N pass i.iteration j.iteration (pair-lengths N i j h)
      (directions-mem (accesses N.statements) (order N) i j h c) (pair-forwards N i j h)

  equal : (rules : Rules) (s : State) (x : Element)
      → exec (accesses N.statements) rules (order N) s x ≡ exec (accesses M.statements) (originally (undo_all ts) rules)
      (instances n (iterations M.loops)) s x
  unfolding M n
  equal rules s x =
      new-run (accesses N.statements) rules (commute (accesses N.statements) rules) n (forward_all ts) (undo_all ts) (iterations N.loops)
      (iterations M.loops) (accesses M.statements) alike
      (iterations-rise N.loops) (iterations-rise M.loops) (all-steps-keep-points ts proper N formed)
      (taken_back ts proper N formed) none-backwards s x

  order-new : instances n (iterations M.loops) ≡ order M
  unfolding M n
  order-new = ap (λ k. instances k (iterations (nest_after_all ts N).loops)) (sym (statements-kept ts N))

  pub promise : Promise ts N (nest_after_all ts N)
  unfolding M
  promise = record {
    same-iterations = all-steps-keep-points ts proper N formed;
    once = each-once ts proper N formed;
    count = same_count ts proper N formed;
    equal-values = λ rules s x. equal rules s x ∙ ap (λ xs. exec (accesses M.statements) (originally (undo_all ts) rules) xs s x) order-new;
  }

  -- under the ticket's own rules, on the words
  pub same_store : All (NoneViolates N.arrays (iterations N.loops)) N.statements → (w : List ℕ) → length w ≡ total N.arrays
      → run_nest (nest_after_all ts N) w ≡ run_nest N w
  unfolding run_nest M n
  same_store stay w l =
      ap (λ as'. run (perform_on as' M.statements) (order M) w) (arrays-kept ts N)
      ∙ ap (λ xs. run (perform_on N.arrays M.statements) xs w) (sym order-new)
      ∙ sym (new-store N.arrays N.statements M.statements n (undo_all ts) (iterations N.loops) (iterations M.loops)
      (instances-in-store N.arrays (length N.loops) N.statements (iterations N.loops) formed.fits stay)
      alike (all-steps-keep-points ts proper N formed) (rules-kept ts N) (constants-kept ts N) (equal (own_rules N.statements)) w l)

-- ---- a ticket, however it was read

-- what acceptance of a ticket gives
pub record Accepted (d : Answer Ticket) (j : Judged) : Type 0 where
  pub decoded : d ≡ accepted j.ticket
  pub formed : WellFormed j.ticket.nest
  pub proper : All Proper j.ticket.steps
  pub pass : StepsPass j.ticket.steps (directions_of j.ticket.nest) j.ticket.nest
  pub stay : All (NoneViolates j.ticket.nest.arrays (iterations j.ticket.nest.loops)) j.ticket.nest.statements
  pub new : j.new ≡ nest_after_all j.ticket.steps j.ticket.nest

pub judged-gives : (d : Answer Ticket) → Sound d → {j : Judged} → judged_of d ≡ accepted j → Accepted d j
judged-gives d sound {j} e =
    let r = judged-accepted d e in
    let T = r.0 in
    let a = admit-accepted d r.1 in
    let b = admitted-accepted T.nest a.1 in
    let v = judge_ticket-accepted T r.2 in
    subst (Accepted d) (sym v.0) (record {
      decoded = a.0;
      formed = sound.formed a.0;
      proper = sound-proper d sound a.0;
      pass = v.1.0;
      stay = λ s m p i c k t. false-not-T _ (arrays-inside T.nest.arrays (iterations T.nest.loops) 1 T.nest.statements
          b.1 s m p i c k) t;
      new = refl;
    })

pub judged-promise : (d : Answer Ticket) → Sound d → {j : Judged} → judged_of d ≡ accepted j → Promise j.ticket.steps j.ticket.nest j.new
judged-promise d sound {j} e = let a = judged-gives d sound e in
    subst (Promise j.ticket.steps j.ticket.nest) (sym a.new)
    (promise j.ticket.steps a.proper j.ticket.nest a.formed a.pass)

-- ---- the count that judge answers

pub judge-counts : (d : Answer Ticket) {c : ℕ} → judge_of d ≡ accepted c
    → (j : Judged) × (judged_of d ≡ accepted j) × (c ≡ length (partial_points (length j.ticket.nest.loops) j.ticket.nest.loops))
judge-counts d e = let r = judge-accepted d e in (r.0, r.1, r.2 ∙ ap length (iterations-full r.0.ticket.nest.loops))

-- ---- what write hands out

pub write-hands : (d : Answer Ticket) → Sound d → (buffer : List ℕ) {c : ℕ} → (write_of d buffer).answer ≡ accepted c
    → (j : Judged) × (judged_of d ≡ accepted j) × HandedOut (encode j.new) buffer c (write_of d buffer).memory ×
    (decode_nest (encode j.new) ≡ accepted j.new)
write-hands d sound buffer e = let r = write-accepted d buffer e in (r.0, r.1, r.2, judged-written d sound r.1)

-- ---- the store that run leaves

pub run-leaves : (d : Answer Ticket) → Sound d → (words : List ℕ) {c : ℕ} → (run_of d words).answer ≡ accepted c
    → (j : Judged) × (judged_of d ≡ accepted j) × Left j.ticket.nest words (run_of d words).memory
unfolding run_nest
run-leaves d sound words e =
    let r = run-accepted d words e in
    let j = r.0 in
    let N = j.ticket.nest in
    let a = judged-gives d sound r.1.verdict in
    let old : (run_of d words).memory ≡ run_nest N words = r.3 ∙ ap (λ M. run_nest M words) a.new ∙ same_store j.ticket.steps a.proper N
    a.formed a.pass a.stay words r.1.right in
    let s = run-shows N.arrays N.statements (order N) words (state_of N.arrays words)
    (instances-in-store N.arrays (length N.loops) N.statements (iterations N.loops) a.formed.fits a.stay)
    (state_of-shown N.arrays words r.1.right) in (
      j,
      r.1.verdict,
      record {
        as-old = old;
        as_plain = λ x v. s.shown x v ∙ ap (λ w. pos (get_or w (place_of N.arrays x) 0)) (sym old);
        size = ap length old ∙ s.whole ∙ sym r.1.right;
      },
    )
