-- `pass_statements`: a record for each kind of conflict.
use mathlib.Core.Path.{refl, sym, ap, ap₂, ◌∙◌}
use mathlib.Core.Bool.{Bool}
use mathlib.Core.List.{List}
use Prim.Native.Nat.{ℕ, ◌+◌, ◌*◌}
use native.Mathlib.Nat.{add-zero}
use native.Mathlib.Omega.{arith}
use lib.Dec.{eqb}
use lib.IntN.{ℤ}
use lib.ListN.{length}
use Rattle.model.specs.Directions.{kind_count}
use Rattle.pair_records.specs.Conflicts.{record_words}
use Rattle.pair_records.specs.Statements.{conflicts, named_in, statement_records}
use Rattle.pair_records.proofs.ConflictLaws.{block_inside}
use Rattle.pair_records.proofs.NestLaws.{reads-span, ends-inside, first-inside, conflict-in}
use Rattle.pair_records.proofs.PassLaws.{pass-no-kind, pass-kind}
use Rattle.pair_records.proofs.pass_statements.Goals as goal

pub number-written-requires : goal.number-written-requires
number-written-requires c = (first-inside c.args.nest.now c.args.source c.requires.0, c.requires.0.point)

pub number-also_written-requires : goal.number-also_written-requires
number-also_written-requires c = (first-inside c.args.nest.now c.args.sink c.requires.1, c.requires.1.point)

pub overflow_add-sink : goal.overflow_add-sink
overflow_add-sink c = let f = first-inside c.args.nest.now c.args.sink c.requires.1 in let a = c.args.nest.now.walkable.links-are.few-accesses in omega arith

pub names-flow-requires : goal.names-flow-requires
names-flow-requires c = let n = c.args.nest.now in
    (reads-span n c.args.sink c.requires.1, ends-inside n c.args.sink c.requires.1, c.requires.1.point)

pub overflow_add-source : goal.overflow_add-source
overflow_add-source c = let f = first-inside c.args.nest.now c.args.source c.requires.0 in let a = c.args.nest.now.walkable.links-are.few-accesses in omega arith

pub names-anti-requires : goal.names-anti-requires
names-anti-requires c = let n = c.args.nest.now in
    (reads-span n c.args.source c.requires.0, ends-inside n c.args.source c.requires.0, c.requires.0.point)

pub pass_if-w-requires : goal.pass_if-w-requires
pass_if-w-requires c = let k = block_inside (length c.args.nest.now.sizes.now) c.args.source.statement c.args.sink.statement 0
    c.requires.0.statement.there c.requires.1.statement.there (omega arith) in
    (record { source = c.requires.0.point; sink = c.requires.1.point; block = omega arith }, c.requires.2)

pub pass_if-v-requires : goal.pass_if-v-requires
pass_if-v-requires c = (conflict-in c.args.nest.now c.args.source c.args.sink c.requires.0 c.requires.1 1 (omega arith), c.pass_if-w.auto.found ∙ c.requires.2)

pub pass_if-requires : goal.pass_if-requires
pass_if-requires c = (
  conflict-in c.args.nest.now c.args.source c.args.sink c.requires.0 c.requires.1 2 (omega arith),
  c.pass_if-v.auto.found ∙ c.pass_if-w.auto.found ∙ c.requires.2,
)

pub returns : goal.returns
unfolding statement_records conflicts
returns c =
    let a = c.args in let n = a.nest.now in let m = length n.sizes.now in let count = n.count in let ids = n.numbers.now in
    let j = (a.source.statement * m + a.sink.statement) * kind_count in
    let word : ℕ → List ℤ = λ k. record_words n.points.now n.depth m a.source.point a.sink.point (j + k) in
    let test : ℕ → Bool = conflicts count ids a.source.point a.sink.point a.source.first a.source.end a.sink.first a.sink.end in
    let p = c.pass_if-w in let q = c.pass_if-v in let r = c.pass_if in
    let f = p.new.found in let g = q.new.found in let o = r.new.found in
    pass-kind word test a.window a.found.now 2 q.result r.result g o (eqb c.number-written.result c.number-also_written.result) (word 2)
    (ap₂ eqb c.number-written.ensures c.number-also_written.ensures) refl
    (pass-kind word test a.window a.found.now 1 p.result q.result f g
    c.names-anti.result (word 1)
    (c.names-anti.ensures ∙ ap (named_in count ids (a.source.first + 1) a.source.end a.source.point) c.number-also_written.ensures) refl
    (pass-kind word test a.window a.found.now 0 a.window p.result a.found.now f
    c.names-flow.result
    (record_words n.points.now n.depth m a.source.point a.sink.point j)
    (c.names-flow.ensures ∙ ap (named_in count ids (a.sink.first + 1) a.sink.end a.sink.point) c.number-written.ensures)
    (ap (record_words n.points.now n.depth m a.source.point a.sink.point) (sym (add-zero j)))
    (pass-no-kind word test a.window a.found.now) p.ensures) q.ensures) r.ensures
