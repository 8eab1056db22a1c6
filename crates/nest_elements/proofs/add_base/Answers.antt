-- `add_base`: the sum stays within 64 bits.
use Rattle.nest_elements.proofs.FormLaws.{raise-fits, raise-is}
use Rattle.nest_elements.proofs.add_base.Goals as goal

pub overflow_add-form : goal.overflow_add-form
overflow_add-form c = raise-fits c.args.form c.args.b c.requires

pub returns : goal.returns
returns c = raise-is c.args.form c.args.b c.requires
