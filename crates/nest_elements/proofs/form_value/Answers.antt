-- `form_value`: the form's numbers are lent to `affine`.
use Rattle.nest_elements.proofs.FormLaws.{value_lent, value_read}
use Rattle.nest_elements.proofs.form_value.Goals as goal

pub affine-requires : goal.affine-requires
affine-requires c = value_lent c.requires

pub returns : goal.returns
returns c = value_read c.requires c.affine.ensures
