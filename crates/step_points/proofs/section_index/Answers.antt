use mathlib.Core.Path.{◌≡◌, ◌∙◌}
use Prim.Native.Nat.{ℕ, ◌≤◌}
use native.Mathlib.Omega.{arith}
use lib.IntN.{pos}
use lib.Signed.{◌<ℤ◌}
use lib.ListN.{length, get_or, length-set}
use mir.Syntax.{w64}
use mir.Val.{to_z, of_z}
use borrow.Author.Rules.{rules}
use Rattle.integers.specs.Difference.{size}
use Rattle.integers.specs.Division.{floor_div}
use Rattle.integers.proofs.DivisionLaws.{size-floor}
use Rattle.integers.proofs.RangeLaws.{from-nat}
use Rattle.integers.proofs.RingLaws.{zarith}
use Rattle.step_limits.proofs.RowLaws.{front_at}
use Rattle.step_points.specs.Points.{farthest}
use Rattle.step_points.proofs.IndexLaws.{index_back, front-sectioned}
use Rattle.step_points.proofs.section_index.Goals as goal

width : (w : ℕ) → w ≤ 256 → to_z w64 w ≡ pos w
width w h = from-nat (omega arith)

above : (w : ℕ) → 1 ≤ w → pos 0 <ℤ pos w
above w h = omega zarith

pub floor_div-q-requires : goal.floor_div-q-requires
floor_div-q-requires c = let a = c.requires.2 in rw (width c.args.w c.requires.3) (above c.args.w a)

pub take_widths-e-requires : goal.take_widths-e-requires
take_widths-e-requires c =
    let at_y : size (get_or c.args.row c.args.a (pos 0)) ≤ farthest = let n : length c.args.row ≡ 6 = search rules in front_at c.args.n c.args.row c.args.a (omega arith) c.requires.4 in
    let reads_y : to_z w64 (of_z w64 (get_or c.args.row c.args.a (pos 0))) ≡ get_or c.args.row c.args.a (pos 0) = index_back _ at_y in
    let part-is : c.floor_div-q.result ≡ floor_div (get_or c.args.row c.args.a (pos 0)) (pos c.args.w) = c.floor_div-q.ensures ∙ rw (reads_y, width c.args.w c.requires.3) in
    let part_small : size c.floor_div-q.result ≤ farthest = let y = at_y in let f = size-floor (get_or c.args.row c.args.a (pos 0)) (pos c.args.w)
    in rw part-is (omega arith) in
    let a = c.requires.3 in (
      rw reads_y at_y,
      rw (width c.args.w c.requires.3) (omega arith),
      rw (index_back _ part_small) part_small,
    )

pub returns : goal.returns
returns c =
    let at_y : size (get_or c.args.row c.args.a (pos 0)) ≤ farthest = let n : length c.args.row ≡ 6 = search rules in front_at c.args.n c.args.row c.args.a (omega arith) c.requires.4 in
    let reads_y : to_z w64 (of_z w64 (get_or c.args.row c.args.a (pos 0))) ≡ get_or c.args.row c.args.a (pos 0) = index_back _ at_y in
    let part-is : c.floor_div-q.result ≡ floor_div (get_or c.args.row c.args.a (pos 0)) (pos c.args.w) = c.floor_div-q.ensures ∙ rw (reads_y, width c.args.w c.requires.3) in
    let part_small : size c.floor_div-q.result ≤ farthest = let y = at_y in let f = size-floor (get_or c.args.row c.args.a (pos 0)) (pos c.args.w)
    in rw part-is (omega arith) in
    let n : length c.args.row ≡ 6 = search rules in
    let y = reads_y in
    let v = width c.args.w c.requires.3 in
    let e : to_z w64 (of_z w64 c.take_widths-e.result) ≡ c.take_widths-e.result = search rules in
    let f : to_z w64 (of_z w64 c.floor_div-q.result) ≡ floor_div (get_or c.args.row c.args.a (pos 0)) (pos c.args.w) =
    index_back _ part_small ∙ part-is in
    record {
      is = front-sectioned c.args.w c.args.a c.args.n c.double_place-r.result c.args.row (omega (arith, c.double_place-r.ensures.room)) (omega arith) c.requires.0
          c.double_place-r.ensures.is _ _ f (e ∙ c.take_widths-e.ensures ∙ rw (y, v, f));
      room = simp length-set c.double_place-r.ensures.room;
    }
