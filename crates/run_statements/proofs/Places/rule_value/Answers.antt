-- `rule_value`: what each rule makes, by the rule's number.
use Rattle.std.proofs.Common.{◌∙◌}
use Rattle.run_statements.specs.Flat.{fetched}
use Rattle.run_statements.proofs.RuleLaws.{made_one, made-two, made-three, made_none}
use Rattle.run_statements.proofs.Places.rule_value.Goals as goal

pub returns-in-1 : goal.returns-in-1
returns-in-1 c = c.summed.ensures
    ∙ made_one c.args.rule c.args.constant (fetched c.args.self.numbers.now c.args.self.count c.args.x c.args.store.now c.args.k
    c.args.n) c.in-1.is

pub returns-in-2 : goal.returns-in-2
returns-in-2 c = c.largest.ensures
    ∙ made-two c.args.rule c.args.constant (fetched c.args.self.numbers.now c.args.self.count c.args.x c.args.store.now c.args.k
    c.args.n) c.in-2.is

pub returns-in-3 : goal.returns-in-3
returns-in-3 c = c.first.ensures
    ∙ made-three c.args.rule c.args.constant (fetched c.args.self.numbers.now c.args.self.count c.args.x c.args.store.now
    c.args.k c.args.n) c.in-3.is

pub returns-in_default : goal.returns-in_default
returns-in_default c = made_none c.args.rule c.args.constant
    (fetched c.args.self.numbers.now c.args.self.count c.args.x c.args.store.now c.args.k c.args.n) c.in_default.in_default-own.rest.0.0.1
    c.in_default.in_default-own.rest.0.1 c.in_default.in_default-own.rest.1
