-- `place`: the value is not negative.
use Rattle.nest_elements.proofs.FormLaws.{place-cast, place-result}
use Rattle.nest_elements.proofs.place.Goals as goal

pub overflow_cast-result : goal.overflow_cast-result
overflow_cast-result c = place-cast c.requires c.form_value.ensures

pub returns : goal.returns
returns c = place-result c.requires c.form_value.ensures
