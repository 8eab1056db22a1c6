-- `pass_if`: the record, or none.
use mathlib.Core.Path.{sym, ap}
use mathlib.Core.Bool.{Bool, cond}
use mathlib.Core.List.{[], ◌∷◌}
use Rattle.pair_records.specs.Nests.{words_of}
use Rattle.pair_records.proofs.PassLaws.{pass-none, pass_same}
use Rattle.pair_records.proofs.pass_if.Goals as goal

pub returns-then-there : goal.returns-then-there
returns-then-there c = let a = c.args in let r = words_of a.nest.now a.conflict in
    pass_same a.window a.found.now (ap (λ (b : Bool). cond b (r ∷ []) []) (sym c.if-there.true))
    c.pass_record.ensures

pub returns : goal.returns
returns c = let a = c.args in let r = words_of a.nest.now a.conflict in
    pass_same a.window a.found.now (ap (λ (b : Bool). cond b (r ∷ []) []) (sym c.if-there.false)) (pass-none a.window a.found.now)
