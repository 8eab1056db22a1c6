-- All points moved, row by row.
use mathlib.Core.Path.{◌≡◌, refl, sym, ◌∙◌, ap, subst}
use mathlib.Core.List.{List, [], ◌∷◌, ◌++◌, map, map-append}
use Prim.Native.Nat.{ℕ, suc, ◌+◌, ◌*◌, ◌≤◌, ◌<◌}
use native.Mathlib.Omega.{arith}
use native.Mathlib.Nat.{mul-le-mul_left}
use native.Mathlib.Numerals.{add-one}
use lib.IntN.{ℤ}
use lib.ListN.{length, take, drop, length-drop}
use lib.Seq.{length-take-le}
use Rattle.lists.specs.Membership.{All}
use Rattle.lists.specs.Parts.{rows, put}
use Rattle.lists.proofs.MembershipLaws.{all_get_d, map-all}
use Rattle.lists.proofs.PartLaws.{length-put, length-rows, rows-suc, rows-get_d, rows-put-next, row_fits}
use Rattle.integers.specs.Affine.{Within}
use Rattle.model.specs.Grammar.{most_loops}
use Rattle.nest_rows.specs.Rows.{RowIs}
use Rattle.ticket_steps.specs.declared.Steps.{Steps}
use Rattle.step_points.specs.Points.{reach, after_steps, PointMoved, DepthAfter, PointsIn, PointsMoved}
use Rattle.step_points.specs.declared.MovedPoint.{MovedPoint}
use Rattle.step_points.proofs.StepsLaws.{steps-near}

-- ---- one point

module _ {S : Steps} {done : ℕ} {p : List ℤ} {r : MovedPoint} (v : PointMoved S done p r) where
  pub moved_length : length (take r.depth r.row) ≡ r.depth
  moved_length = let h = v.shallow in let g = v.is.room in length-take-le r.depth r.row (omega arith)

-- ---- j points are written

pub record Written (points : List ℤ) (depth count : ℕ) (S : Steps) (done : ℕ) (o : List ℤ) (d : ℕ) (out : List ℤ) (j : ℕ) : Type 0 where
  pub few : j ≤ count
  pub room : length out ≡ length o
  pub are : rows d j out ≡ map (after_steps S done) (rows depth j points)

module _ {points : List ℤ} {depth count : ℕ} {S : Steps} {done d : ℕ} (o : List ℤ) (i : PointsIn points depth count S done (length o))
    (f : DepthAfter S depth done d) where
  abbrev So : List ℤ → ℕ → Type 0
  So out j = Written points depth count S done o d out j

  pub none_written : So o 0
  unfolding rows
  none_written = record { few = omega arith; room = refl; are = refl }

  -- what is asked of row j
  module _ (j : ℕ) (h : j < count) where
    abbrev point : List ℤ
    point = take depth (drop (j * depth) points)

    pub read_fits : j * depth + depth ≤ length points
    read_fits = let r = i.stored.room in omega (arith, row_fits depth j count h)

    pub write-fits : j * d + most_loops ≤ length o
    write-fits =
        let r = i.fits in
        let m : j * d ≤ j * most_loops = mul-le-mul_left j f.shallow in
        omega (arith, row_fits most_loops j count h)

    pub row_near : (row : List ℤ) → RowIs depth row point → Within 100000 (take depth row)
    row_near row e = subst (Within 100000) (sym (e.is ∙ sym (rows-get_d depth count points j [] h)))
        (all_get_d (Within 100000) (rows depth count points) j [] i.stored.near (let l = length-rows depth count points in omega arith))

    point-length : length point ≡ depth
    point-length = let l = length-drop (j * depth) points in let r = read_fits in length-take-le depth (drop (j * depth) points) (omega arith)

    pub one_written : (out row new : List ℤ) → So out j → RowIs depth row point → new ≡ put out (j * d) (after_steps S done (take depth row))
        → So new (j + 1)
    one_written out row new v e q =
        let l : length (after_steps S done point) ≡ d = f.level point point-length in
        let g = write-fits in
        let s = f.shallow in
        let k = v.room in
        let n : new ≡ put out (j * d) (after_steps S done point) = q ∙ ap (λ p. put out (j * d) (after_steps S done p)) e.is in
        rw (add-one j) (record {
          few = omega arith;
          room = ap length n ∙ length-put out (j * d) (after_steps S done point) (omega arith) ∙ v.room;
          are = ap (rows d (suc j)) n
              ∙ rows-put-next d j out (after_steps S done point) l (omega arith)
              ∙ ap (◌++ (after_steps S done point ∷ [])) v.are
              ∙ sym (ap (map (after_steps S done)) (rows-suc depth j points) ∙ map-append (after_steps S done) (rows depth j points) (point ∷ []));
        })

  pub all-written : (out : List ℤ) (j : ℕ) → So out j → count ≤ j → PointsMoved points depth count S done out d
  all-written out j v h =
      let g = v.few in
      let e : j ≡ count = omega arith in
      let a : rows d count out ≡ map (after_steps S done) (rows depth count points) =
      subst (λ j. rows d j out ≡ map (after_steps S done) (rows depth j points)) e v.are in
      let r = i.fits in
      let m : count * d ≤ count * most_loops = mul-le-mul_left count f.shallow in
      let k = v.room in
      record {
        depth-after = f;
        room = omega arith;
        are = a;
        near = subst (All (Within (reach done))) (sym a)
            (map-all (after_steps S done) (Within 100000) (Within (reach done)) (rows depth count points)
            (λ p w. steps-near i.taken done (omega arith) p w) i.stored.near);
      }
