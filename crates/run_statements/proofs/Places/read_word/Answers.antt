-- `read_word`: the place is in the store.
use Rattle.std.proofs.Common.{ℕ, get_or, ap, rules}
use Rattle.run_statements.proofs.RuleLaws.{one_number, number-inside}
use Rattle.run_statements.proofs.Places.read_word.Goals as goal

pub access_place-requires : goal.access_place-requires
access_place-requires c = one_number c.requires

pub offset_bounds-store-access_place : goal.offset_bounds-store-access_place
offset_bounds-store-access_place c = let h = number-inside c.requires c.access_place.result c.access_place.ensures in search
    rules

pub bounds-store-access_place : goal.bounds-store-access_place
bounds-store-access_place c = number-inside c.requires c.access_place.result
    c.access_place.ensures

pub returns : goal.returns
returns c = ap (λ (j : ℕ). get_or c.args.store.now j 0) c.access_place.ensures
