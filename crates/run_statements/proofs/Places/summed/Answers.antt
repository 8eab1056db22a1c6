use Rattle.std.proofs.Common.{◌≡◌, refl, ℕ, ◌+◌, ◌%◌, ◌^◌, ap, ◌∙◌, arith}
use Rattle.model.specs.Store.{sum}
use Rattle.run_statements.specs.Flat.{fetched}
use Rattle.run_statements.proofs.RuleLaws.{one-read, sum-none, sum-next}
use Rattle.run_statements.proofs.Places.summed.Goals as goal

pub loop-i-init : goal.loop-i-init
loop-i-init c = (
  omega arith,
  sum-none c.args.self.numbers.now c.args.self.count c.args.x c.args.store.now
      c.args.k c.args.constant c.ranges.constant.fits,
)

pub overflow_add-k : goal.overflow_add-k
overflow_add-k c = let f = c.requires.few in let t = c.loop-i-test.true in omega arith

pub read_word-r-requires : goal.read_word-r-requires
read_word-r-requires c = one-read c.requires c.loop-i.i c.loop-i-test.true

pub loop-i-preserved : goal.loop-i-preserved
loop-i-preserved c = let l = c.loop-i in let t = c.loop-i-test.true in (
  omega arith,
  sum-next c.args.self.numbers.now c.args.self.count c.args.x
      c.args.store.now c.args.k c.args.constant l.i l.r c.read_word-r.result _ l.invariant.1
      c.read_word-r.ensures refl,
)

pub returns : goal.returns
returns c = let l = c.loop-i in let e : l.i ≡ c.args.n = omega
    (arith, l.invariant.0, c.loop-i-test.false) in l.invariant.1 ∙ ap (λ (j : ℕ). (c.args.constant + sum
    (fetched c.args.self.numbers.now c.args.self.count c.args.x c.args.store.now c.args.k j)) % 2 ^ 32) e
