use mathlib.Core.Path.{◌≡◌, refl, sym, ap, subst}
use mathlib.Core.List.{List, []}
use Prim.Native.Nat.{ℕ, ◌+◌, ◌-◌, ◌<◌}
use native.Mathlib.Omega.{arith}
use native.Mathlib.Numerals.{add-one}
use lib.ListN.{length, take, set, length-set}
use Rattle.model.specs.Ticket as Model
use Rattle.model.specs.Grammar as Grammar
use Rattle.model.specs.Grammar.{Reader, depth_after, steps_from}
use Rattle.std.specs.Prelude.{Ok}
use Rattle.step_kinds.specs.Kinds.{step_of}
use Rattle.step_kinds.specs.declared.Step.{Step}
use Rattle.ticket_words.specs.Reads.{Reads}
use Rattle.ticket_words.specs.declared.Words.{Words}
use Rattle.ticket_words.proofs.ReaderLaws.{refused-first, read-then, repeated, Underway, repeat-begin, repeat-more, repeat-no, repeat-end, filled_more}
use Rattle.ticket_steps.specs.Steps.{one_step, steps_of, NumberedFrom}
use Rattle.ticket_steps.specs.declared.Numbered.{Numbered}
use Rattle.ticket_steps.proofs.StepLaws.{handed_on, numbered_next, reads_one, after, repeats}
use Rattle.ticket_steps.proofs.read_steps.Invariants.{taken}
use Rattle.ticket_steps.proofs.read_steps.Goals as goal

-- none is read yet
begins : (depth n : ℕ) (o : Words) → Underway (steps_from 1 depth n) o [] (repeated reads_one after (n - 0) (0 + 1, depth)) o
begins depth n o = subst (λ (m : Reader (List Model.Step)). Underway m o [] (repeated reads_one after (n - 0) (0 + 1, depth)) o)
    (sym (repeats 1 depth n)) (repeat-begin reads_one after n (1, depth) o)

-- one more
goes_on : {m : Reader (List Model.Step)} {o e e' : Words} (n k loops : ℕ) (l : List Numbered) (x : Step) (d : ℕ) → k < n → k < length l
    → d ≡ depth_after (step_of x) loops → Underway m o (taken k l) (repeated reads_one after (n - k) (k + 1, loops)) e
    → Reads step_of (one_step (k + 1) loops) e (Ok x) e'
    → Underway m o (taken (k + 1) (set l k (record { number = k + 1; step = x }))) (repeated reads_one after (n - (k + 1)) (k + 1 + 1, d)) e'
goes_on n k loops l x d h p s u g = rw (s, add-one (k + 1))
    (repeat-more reads_one after n k (k + 1, loops) u h g (filled_more (λ (y : Numbered). step_of y.step) l k (record { number = k + 1; step = x })
    (step_of x) refl p))

pub returns-in_err-count-clause-reads : goal.returns-in_err-count-clause-reads
unfolding Grammar.steps
returns-in_err-count-clause-reads c = handed_on c.from_residual.ensures.1 (refused-first _ c.in_err-count.ensures.reads)

pub loop-k-init : goal.loop-k-init
loop-k-init c = record { six = c.requires; eight = refl; numbered = tt; underway = begins _ _ _ }

pub loop-k-preserved : goal.loop-k-preserved
loop-k-preserved c =
    let i = c.loop-k.invariant in
    let n = c.in_ok-count.ensures.within.1 in
    let d = c.depth_after-loops.ensures in
    let f = c.in_ok-step.ensures.few in
    record {
      six = omega arith;
      eight = simp length-set i.eight;
      numbered = numbered_next c.loop-k.steps c.loop-k.k _ (omega arith) refl i.numbered;
      underway = goes_on _ _ _ _ _ _ c.loop-k-test.true (omega arith) d i.underway c.in_ok-step.ensures.reads;
    }

pub returns-in_err-step-clause-reads : goal.returns-in_err-step-clause-reads
unfolding Grammar.steps
returns-in_err-step-clause-reads c =
    handed_on c.from_residual-in_err-step.ensures.1
    (read-then _ c.in_ok-count.ensures.reads
    (repeat-no reads_one after _ _ _ c.loop-k.invariant.underway c.loop-k-test.true c.in_err-step.ensures.reads))

pub returns-clause-reads : goal.returns-clause-reads
unfolding Grammar.steps steps_of
returns-clause-reads c =
    let z : c.loop-k.k ≡ c.in_ok-count.count = omega arith in
    read-then _ c.in_ok-count.ensures.reads
    (repeat-end reads_one after _ _ _ c.loop-k.invariant.underway c.loop-k-test.false (ap (λ m. taken m c.loop-k.steps) z))

pub returns-clause-within : goal.returns-clause-within
returns-clause-within c =
    let i = c.loop-k.invariant in
    let z : c.loop-k.k ≡ c.in_ok-count.count = omega arith in
    record { few = c.in_ok-count.ensures.within.1; room = i.eight; numbered = subst (λ m. NumberedFrom 1 (take m c.loop-k.steps)) z i.numbered }
