-- Every accepted ticket can be run: its new nest has as many iterations as the old, and no access is out of bounds in it, since at a new point it
-- names the element that the old access names at the original iteration.
use mathlib.Core.Path.{◌≡◌, sym, ◌∙◌, ap, subst}
use mathlib.Core.Logic.{⊎_elim}
use mathlib.Core.List.Memᴰ
use mathlib.Core.List.{List, [], map}
use Prim.Native.Nat.{ℕ, ◌≤◌, ◌<◌}
use native.Mathlib.Omega.{arith}
use lib.Dec.{T}
use lib.IntN.{ℤ}
use lib.ListN.{length}
use Rattle.lists.specs.Membership.{Mem, All}
use Rattle.lists.proofs.MembershipLaws.{mem-get_d, get_d-mem, all-imp, all_get_d, get_d-all}
use Rattle.lists.proofs.TestLaws.{false-not-T}
use Rattle.model.specs.Answer.{accepted}
use Rattle.model.specs.Ticket.{Access, Statement, Step, Nest, Ticket}
use Rattle.model.specs.Grammar.{total, extents}
use Rattle.model.specs.Points.{iterations}
use Rattle.model.specs.Bounds.{subscript_at, outside, violates, accesses_of, in_arrays, admitted}
use Rattle.model.specs.Machine.{Element, element, body_at, accesses}
use Rattle.model.specs.Steps.{undo_all}
use Rattle.model.specs.Limits.{nest_after_all}
use Rattle.model.specs.Ranges.{StatementRanges, TicketRanges}
use Rattle.model.specs.Shape.{Proper, WellFormed}
use Rattle.model.specs.Judge.{Judged, judge_ticket}
use Rattle.model.proofs.Grammar.GrammarLaws.{steps-proper}
use Rattle.model.proofs.Points.ArrayLaws.{off-outside, arrays-inside, accepted-arrays}
use Rattle.model.proofs.Steps.AccessLaws.{accesses-undone}
use Rattle.model.proofs.Steps.KeepLaws.{steps-keep-points, same_count}
use Rattle.model.proofs.Steps.WellFormedLaws.{well-formed-after-all}
use Rattle.model.proofs.Promise.KeptLaws.{arrays-kept, statements-kept, constants-kept}
use Rattle.model.proofs.Verdict.VerdictLaws.{admitted-accepted, judge_ticket-accepted}
use Rattle.nest_points.proofs.ListLaws.{admitted-few}
use Rattle.nest_flat.specs.FlatNests.{FlatNest, nest_of, FlatNestIn}
use Rattle.run_nest.specs.Execution.{Executable, ExecuteIn}

abbrev no_statement : Statement
no_statement = record { rule = 0; constant = 0; writes = []; reads = [] }

-- an access is out of bounds where the element that it names is off
violates-same : (as' : List (List ℕ)) (p q : List ℤ) (a b : Access) → element p a ≡ element q b → violates as' p a ≡ violates as' q b
unfolding violates element
violates-same as' p q a b e = ap (λ (x : Element). outside (extents as' x.array) x.subscripts) e

-- an access of a list that names the same elements elsewhere
named-alike : (p q : List ℤ) (l m : List Access) → map (element q) m ≡ map (element p) l → (b : Access) → Mem b m → (a : Access) × Mem a l
    × (element p a ≡ element q b)
named-alike p q l m e b i = Memᴰ.of_map (element p) l (subst (Mem (element q b)) e (Memᴰ.map (element q) i))

module _ (ts : List Step) (proper : All Proper ts) (N : Nest) (formed : WellFormed N) where
  abbrev M : Nest
  M = nest_after_all ts N

  -- statement k of the new nest, at an iteration q
  module _ (inside : in_arrays N.arrays (iterations N.loops) 1 N.statements ≡ accepted tt) where
    stays_at : (k : ℕ) → k < length M.statements → (q : List ℤ) → Mem q (iterations M.loops) → (b : Access)
        → Mem b (accesses_of (body_at M.statements k)) → T (violates N.arrays q b) → ⊥
    unfolding accesses_of accesses body_at
    stays_at k h q m b i t =
        let same = accesses-undone ts proper N formed k q m in
        let here = (steps-keep-points ts proper N formed m).0 in
        let old = body_at N.statements k in
        let new = body_at M.statements k in
        let never : (a : Access) → Mem a (accesses_of old) → element (undo_all ts q) a ≡ element q b → ⊥
        = λ a j e. false-not-T _ (arrays-inside N.arrays (iterations N.loops) 1 N.statements inside old
        (get_d-mem N.statements k no_statement (let l = statements-kept ts N in omega arith)) (undo_all ts q) here a j)
        (subst T (sym (violates-same N.arrays (undo_all ts q) q a b e)) t) in
        ⊎_elim
        (λ w. let r = named-alike (undo_all ts q) q old.writes new.writes same.writes b w in never r.0
        (Memᴰ.append_left old.reads r.1) r.2)
        (λ w. let r = named-alike (undo_all ts q) q old.reads new.reads same.reads b w in never r.0
        (Memᴰ.append_right old.writes r.1) r.2)
        (Memᴰ.append_cases new.writes i)

    -- no statement of the new nest is out of bounds
    new-inside : in_arrays M.arrays (iterations M.loops) 1 M.statements ≡ accepted tt
    unfolding body_at violates
    new-inside = accepted-arrays M.arrays (iterations M.loops) 1 M.statements (λ s m r.
        let k = mem-get_d no_statement m in
        stays_at k.0 k.1 r.point r.reached r.access (subst (λ (x : Statement). Mem r.access (accesses_of x)) (sym k.2) r.of)
        (subst (λ (as' : List (List ℕ)). T (violates as' r.point r.access)) (arrays-kept ts N)
        (off-outside (extents M.arrays r.access.array) (map (subscript_at r.point) r.access.subscripts) r.off)))

  new-constants : All (λ (s : Statement). s.constant ≤ 32767) N.statements → All (λ (s : Statement). s.constant ≤ 32767) M.statements
  unfolding body_at
  new-constants h = get_d-all (λ (s : Statement). s.constant ≤ 32767) M.statements no_statement (λ k i.
      let e = constants-kept ts N k in let l = statements-kept ts N in let q = all_get_d (λ (s : Statement). s.constant ≤ 32767) N.statements k
      no_statement h (omega arith) in omega arith)

-- ---- a ticket

module _ (T : Ticket) (ranges : TicketRanges T) (formed : WellFormed T.nest) (admits : admitted T.nest ≡ accepted tt) (j : Judged)
    (judges : judge_ticket T ≡ accepted j) where
  abbrev N : Nest
  N = T.nest

  proper : All Proper T.steps
  proper = steps-proper T.steps (length N.loops) ranges.steps

  new_is : j.new ≡ nest_after_all T.steps N
  new_is = ap (λ (x : Judged). x.new) (judge_ticket-accepted T judges).0

  -- its new nest has as many iterations
  pub new-count : length (iterations j.new.loops) ≡ length (iterations N.loops)
  new-count = ap (λ (X : Nest). length (iterations X.loops)) new_is ∙ same_count T.steps proper N formed

  -- and the same arrays
  pub new-arrays : j.new.arrays ≡ N.arrays
  new-arrays = ap (λ (X : Nest). X.arrays) new_is ∙ arrays-kept T.steps N

  -- its new nest may be run
  pub new-executable : Executable j.new
  new-executable = subst Executable (sym new_is) (record {
    formed = well-formed-after-all T.steps proper N formed;
    new-space-accepted = (judge_ticket-accepted T judges).1.1;
    few = let c = same_count T.steps proper N formed in let f = admitted-few N.loops ranges.nest.few-loops.low
        (admitted-accepted N admits).0 in omega arith;
    inside = new-inside T.steps proper N formed (admitted-accepted N admits).1;
    constants = new-constants T.steps proper N formed (all-imp StatementRanges N.statements ranges.nest.statements (λ s _ h. h.constant));
  })

  -- on whatever flat nest it stands
  pub accepted-executes : (P : FlatNest) (count room : ℕ) → FlatNestIn P → nest_of P ≡ j.new → count ≡ length (iterations N.loops)
      → room ≡ total N.arrays → ExecuteIn P count room
  accepted-executes P count room s e c w = record {
    flat-nest = s;
    nest = subst Executable (sym e) new-executable;
    counted = c ∙ sym (ap (λ (X : Nest). length (iterations X.loops)) e ∙ new-count);
    whole = w ∙ sym (ap (λ (X : Nest). total X.arrays) (e ∙ new_is) ∙ ap total (arrays-kept T.steps N));
  }
