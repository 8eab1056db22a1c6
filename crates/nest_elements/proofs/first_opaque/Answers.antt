use Rattle.nest_elements.proofs.ClearLaws.{opaque-found, none-opaque}
use Rattle.nest_elements.proofs.first_opaque.Goals as goal

pub returns-in_err-statement : goal.returns-in_err-statement
returns-in_err-statement c = none-opaque _ c.requires _ c.first_zero.ensures _ c.in_err-statement.was c.from_residual.ensures

pub returns : goal.returns
returns c = opaque-found _ c.requires _ c.first_zero.ensures _ c.in_ok-statement.was
