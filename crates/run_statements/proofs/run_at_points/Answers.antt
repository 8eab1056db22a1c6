-- `run_at_points`: the slices of the flat nest are what the laws speak of.
use Rattle.std.proofs.Common.{sym, ◌∙◌, rules}
use Rattle.run_statements.proofs.NestLaws.{accessed-length, extents-length, sizes-length, arrays-few, point-in, body-in, nest-run}
use Rattle.run_statements.proofs.run_at_points.Goals as goal

pub slice_bounds-bases_of-end : goal.slice_bounds-bases_of-end
slice_bounds-bases_of-end c = sym (extents-length c.requires.flat-nest)

pub bases_of-bases-requires : goal.bases_of-bases-requires
bases_of-bases-requires c = arrays-few c.requires

pub slice_bounds-body-end : goal.slice_bounds-body-end
slice_bounds-body-end c = sym (accessed-length c.requires.flat-nest)

pub slice_bounds-body-end-3 : goal.slice_bounds-body-end-3
slice_bounds-body-end-3 c = sym (sizes-length c.requires.flat-nest)

pub run_points-requires : goal.run_points-requires
run_points-requires c = let r = c.requires in let b = c.bases_of-bases in (r.few, point-in r b.result (search rules) b.ensures, body-in r)

pub returns : goal.returns
returns c = c.run_points.ensures ∙ nest-run c.requires c.args.store.now
