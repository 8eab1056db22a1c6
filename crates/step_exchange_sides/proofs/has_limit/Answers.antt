use mathlib.Core.Path.{◌≡◌, refl, sym, ◌∙◌, subst}
use mathlib.Core.Bool.{false}
use Prim.Native.Nat.{ℕ}
use native.Mathlib.Omega.{arith}
use Rattle.lists.specs.Tests.{any}
use Rattle.model.specs.Limits.{same_limit}
use Rattle.ticket_loops.specs.LoopReads.{limit_of}
use Rattle.nest_flat.specs.Flat.{limits_at}
use Rattle.step_exchange_sides.proofs.FlatLaws.{none_more, found_at}
use Rattle.step_exchange_sides.proofs.has_limit.Goals as goal

pub loop-k-init : goal.loop-k-init
unfolding any limits_at
loop-k-init c = (omega arith, refl)

pub same_limit-requires : goal.same_limit-requires
same_limit-requires c = let p = c.requires.0 in
    record {
      wide = p.wide;
      room = p.filled.room;
      inside = omega arith;
      natural = p.filled.natural c.loop-k.k (omega arith)
          (omega arith);
    }

pub returns-then-same_limit : goal.returns-then-same_limit
returns-then-same_limit c = sym (found_at (same_limit (limit_of c.args.n c.args.x)) c.args.filling.now c.args.n c.loop-k.k
    c.args.count (omega arith) (sym c.same_limit.ensures ∙ c.if-same_limit.true))

pub loop-k-preserved : goal.loop-k-preserved
loop-k-preserved c = (
  omega arith,
  none_more (same_limit (limit_of c.args.n c.args.x)) c.args.filling.now c.args.n
      c.loop-k.k c.loop-k.invariant.1 (sym c.same_limit.ensures ∙ c.if-same_limit.false),
)

pub returns : goal.returns
returns c = let e : c.loop-k.k ≡ c.args.count = omega arith in
    sym (subst (λ (i : ℕ). any (same_limit (limit_of c.args.n c.args.x)) (limits_at c.args.filling.now c.args.n 0 i) ≡ false) e
    c.loop-k.invariant.1)
