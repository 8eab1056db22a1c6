-- `write_field`: a copy.
use mathlib.Core.Path.{sym}
use native.Mathlib.Omega.{arith}
use lib.Seq.{length-take-le}
use Rattle.dependence_listing_text.proofs.write_field.Goals as goal

pub slice_bounds-copy_bytes-end : goal.slice_bounds-copy_bytes-end
slice_bounds-copy_bytes-end c = sym (length-take-le c.args.f.len c.args.f.bytes
    (let e = c.requires.0 in let h = c.requires.1 in omega arith))

pub copy_bytes-requires : goal.copy_bytes-requires
copy_bytes-requires c = let n = length-take-le c.args.f.len c.args.f.bytes
    (let e = c.requires.0 in let h = c.requires.1 in omega arith) in let r = c.requires.2 in omega arith
