use mathlib.Core.List.{map, flat_map}
use mathlib.Core.Bool.{not}
use Prim.Native.Nat.{◌+◌}
use Rattle.model.specs.Limits.{widened}
use Rattle.step_exchange_sides.proofs.FillLaws.{holds_parts}
use Rattle.step_exchange.specs.Pair.{taken_of, limits_of}
use Rattle.step_exchange.proofs.push_inner.Goals as goal

pub returns : goal.returns
returns c = let a = c.args.a in
    let S = c.args.words.now in (
      holds_parts (a + 1) (map widened (limits_of S a c.args.own)) (flat_map (taken_of c.args.positive a)
          (limits_of S (a + 1) c.args.lower)) (flat_map (taken_of (not c.args.positive) a) (limits_of S (a + 1) c.args.upper))
          c.push_widened-kept.ensures.0
          c.push_solved-part.ensures c.push_solved.ensures,
      c.push_solved.ensures.within,
    )
