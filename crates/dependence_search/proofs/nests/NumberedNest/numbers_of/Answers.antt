use Rattle.dependence_search.proofs.FlatLaws.{part-is}
use Rattle.dependence_search.proofs.nests.NumberedNest.numbers_of.Goals as goal

pub returns : goal.returns
returns c = part-is c.args.self.now.count c.args.self.now.numbers.now c.args.a
