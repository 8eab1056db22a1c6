-- `write_line`: a copy of the line's bytes.
use mathlib.Core.Path.{sym, ap, ◌∙◌}
use Prim.Native.Nat.{◌+◌}
use native.Mathlib.Omega.{arith}
use lib.Seq.{length-take-le}
use Rattle.lists.specs.Parts.{put}
use Rattle.dependence_listing_text.proofs.write_line.Goals as goal

pub slice_bounds-copy_bytes-end : goal.slice_bounds-copy_bytes-end
slice_bounds-copy_bytes-end c = let l = c.line-b in sym
    (length-take-le (c.args.depth + 7) l.result (let e = l.ensures.0 in let h = c.requires.1 in omega arith))

pub copy_bytes-requires : goal.copy_bytes-requires
copy_bytes-requires c = let l = c.line-b in let n = length-take-le
    (c.args.depth + 7) l.result (let e = l.ensures.0 in let h = c.requires.1 in omega arith) in let r = c.requires.3 in omega arith

pub returns : goal.returns
returns c = let l = c.line-b in c.copy_bytes.ensures ∙ ap (put c.args.out.now c.args.p) l.ensures.1
