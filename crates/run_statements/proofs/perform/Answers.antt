-- `perform`: a store through the part that begins at the array is a store at the place in the whole.
use Rattle.std.proofs.Common.{arith, rules}
use Rattle.run_statements.proofs.BodyLaws.{reads_in, write-numbered, write-inside, through-part}
use Rattle.run_statements.proofs.perform.Goals as goal

pub rule_value-v-requires : goal.rule_value-v-requires
rule_value-v-requires c = reads_in c.requires.0 c.args.k c.args.n c.requires.1

pub offset_bounds-body-body : goal.offset_bounds-body-body
offset_bounds-body-body c = let l = c.requires.1 in let h = c.requires.0.arrays c.args.k
    (omega arith) in search rules

pub bounds-body-body : goal.bounds-body-body
bounds-body-body c = let l = c.requires.1 in c.requires.0.arrays
    c.args.k (omega arith)

pub access_place-requires : goal.access_place-requires
access_place-requires c = write-numbered c.requires.0 c.args.k
    c.args.n c.requires.1

pub overflow_sub-at : goal.overflow_sub-at
overflow_sub-at c = let h = write-inside c.requires.0 c.args.k
    c.args.n c.requires.1 c.access_place.result c.access_place.ensures in omega arith

pub offset_bounds-store-base : goal.offset_bounds-store-base
offset_bounds-store-base c = let h = write-inside c.requires.0 c.args.k
    c.args.n c.requires.1 c.access_place.result c.access_place.ensures in search rules

pub slice_bounds-put-count : goal.slice_bounds-put-count
slice_bounds-put-count c = let h = write-inside c.requires.0 c.args.k
    c.args.n c.requires.1 c.access_place.result c.access_place.ensures in search rules

pub put-requires : goal.put-requires
put-requires c = let h = write-inside c.requires.0
    c.args.k c.args.n c.requires.1 c.access_place.result c.access_place.ensures in search rules

pub returns : goal.returns
returns c = let r = c.access_place in let v = c.rule_value-v in
    through-part c.args.places.numbers.now c.args.store.now c.args.places.count c.args.x c.args.rule c.args.constant c.args.k
    c.args.n _ r.result v.result _
    (write-inside c.requires.0 c.args.k c.args.n c.requires.1 r.result r.ensures) r.ensures v.ensures
    c.put.ensures
