-- `test_nest`: refusal 9, or the test.
use Rattle.entry_quick.proofs.TestLaws.{found-refused, found_passed, said}
use Rattle.entry_quick.proofs.test_nest.Goals as goal

pub returns-in_err-admit : goal.returns-in_err-admit
returns-in_err-admit c = said _ _ c.from_residual.ensures.1 (found-refused _ c.args.first c.args.second _ c.in_err-admit.ensures)

pub test-requires : goal.test-requires
test-requires c = c.requires.nest.flat-nest

pub returns : goal.returns
returns c = found_passed _ c.args.first c.args.second c.in_ok-admit.ensures c.test.result c.test.ensures
