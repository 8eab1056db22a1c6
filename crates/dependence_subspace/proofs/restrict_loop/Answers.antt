-- `restrict_loop`: the upper side of the loop is shortened, then the lower one where it can be.
use native.Mathlib.Omega.{arith}
use Rattle.dependence_subspace.proofs.PlaceLaws.{narrow-fits, last_fits, last-narrow}
use Rattle.dependence_subspace.proofs.ShortenLaws.{shortens-more}
use Rattle.dependence_subspace.proofs.restrict_loop.Goals as goal

pub overflow_add-first : goal.overflow_add-first
overflow_add-first c = let f = c.first_value-first in last_fits f.result c.args.places
    f.ensures c.requires.2

pub overflow_cast-first : goal.overflow_cast-first
overflow_cast-first c = let f = c.first_value-first in last-narrow f.result c.args.places
    f.ensures c.requires.2

pub overflow_cast-first-then-r-first : goal.overflow_cast-first-then-r-first
overflow_cast-first-then-r-first c = let f = c.first_value-first in narrow-fits
    f.result f.ensures (omega arith)

pub returns-then-r-first : goal.returns-then-r-first
returns-then-r-first c = shortens-more _ _ _ _ _ _ _ c.add_limit.ensures c.add_limit-then-r-first.ensures
