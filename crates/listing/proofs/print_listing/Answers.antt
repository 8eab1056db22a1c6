-- `print_listing`: the bytes that `list` reports are within the buffer.
use Prim.Native.Nat.{◌≤◌}
use native.Mathlib.Omega.{arith}
use mathlib.Core.Path.{sym}
use lib.ListN.{length}
use lib.Seq.{length-take-le}
use Rattle.entry_list.proofs.ListLaws.{listed-fits}
use Rattle.listing.proofs.print_listing.Goals as goal

pub slice_bounds-out-end : goal.slice_bounds-out-end
slice_bounds-out-end c =
    let within : c.in-Ok.n ≤ length c.list.new.out = let l = c.list in let k = l.auto.out in omega
    (arith, listed-fits _ _ _ l.result _ l.ensures c.in-Ok.is) in
    within

pub slice_bounds-write_all-end : goal.slice_bounds-write_all-end
slice_bounds-write_all-end c =
    let within : c.in-Ok.n ≤ length c.list.new.out = let l = c.list in let k = l.auto.out in omega
    (arith, listed-fits _ _ _ l.result _ l.ensures c.in-Ok.is) in
    sym (length-take-le _ _ within)
