-- `read_statements`: the count, then a statement a turn.
use mathlib.Core.Path.{◌≡◌, refl, ap, ◌∙◌}
use mathlib.Core.List.{[]}
use native.Mathlib.Omega.{arith}
use lib.ListN.{take}
use Rattle.std.proofs.lemmas.Result.{err_from_is_err_and}
use Rattle.model.specs.Grammar.{statement, statements}
use Rattle.nest_flat.specs.Layout.{arrays_of}
use Rattle.ticket_words.proofs.ReaderLaws.{refused-first, read-then, times-stop, times-end}
use Rattle.ticket_statements.proofs.StatementLaws.{filling-starts, filling-more}
use Rattle.ticket_statements.proofs.read_statements.Goals as goal

pub returns-in_err-count : goal.returns-in_err-count
unfolding statements
returns-in_err-count c =
    let p = err_from_is_err_and c.from_residual.result c.from_residual.ensures.1 in
    rw (p.1, p.2) (record { statements = []; reads = refused-first _ c.in_err-count.ensures.reads; laid = tt })

pub loop-i-init : goal.loop-i-init
loop-i-init c = filling-starts _ _ _ _ _ _ _ _ refl refl refl

pub loop-i-preserved : goal.loop-i-preserved
loop-i-preserved c =
    filling-more _ _ _ _ _ _ _ _ _ _ _ _ c.loop-i.invariant c.loop-i-test.true c.in_ok-count.ensures.within.1 c.in_ok-statement.ensures

pub returns-in_err-statement : goal.returns-in_err-statement
unfolding statements
returns-in_err-statement c =
    let n = c.args.nest in
    let u = c.loop-i.invariant.underway in
    let p = err_from_is_err_and c.from_residual-in_err-statement.result c.from_residual-in_err-statement.ensures.1 in
    rw (p.1, p.2) (record {
      statements = [];
      reads = read-then _ c.in_ok-count.ensures.reads
          (times-stop (statement n.depth (arrays_of n.extents.now)) _ _ u c.loop-i-test.true c.in_err-statement.ensures.reads);
      laid = tt;
    })

pub returns : goal.returns
unfolding statements
returns c =
    let n = c.args.nest in
    let i = c.loop-i.invariant in
    let h = c.in_ok-count.ensures in
    let z : c.in_ok-count.count ≡ c.loop-i.i = omega (arith, i.low) in
    record {
      statements = i.list;
      reads = read-then _ h.reads (times-end (statement n.depth (arrays_of n.extents.now)) _ _ i.underway c.loop-i-test.false refl);
      laid = record {
        laid = i.lays.laid;
        count = omega (arith, i.number);
        accesses = omega (arith, i.lays.count);
        few = h.within.1;
        few-accesses = c.loop-i.accesses.few;
        sizes = ap (λ m. take m c.loop-i.sizes) z ∙ i.sizes;
        rules = ap (λ m. take m c.loop-i.rules) z ∙ i.rules;
        constants = ap (λ m. take m c.loop-i.constants) z ∙ i.constants;
        sizes-room = i.sizes-room;
        rules-room = i.rules-room;
        constants-room = i.constants-room;
        accessed-room = c.loop-i.accesses.room;
      };
    }
