-- All points of a nest: they are near and few where it was admitted, and the rows of their words are they.
use mathlib.Core.Path.{◌≡◌, sym, ◌∙◌, ap, subst}
use mathlib.Core.Logic.{⊎_elim}
use mathlib.Core.List.Memᴰ
use mathlib.Core.List.{List, [], ◌∷◌, ◌++◌, map, map-id}
use Prim.Native.Nat.{ℕ, ◌*◌, ◌≤◌}
use native.Mathlib.Omega.{arith}
use lib.IntN.{ℤ}
use lib.ListN.{length, drop}
use lib.Seq.{take-length}
use Rattle.lists.specs.Membership.{All}
use Rattle.lists.specs.Parts.{rows, put}
use Rattle.lists.proofs.FlatMapLaws.{flat_map-mem, length-flat_map-even}
use Rattle.lists.proofs.PartLaws.{put_all, rows_append, rows-flat_map}
use Rattle.integers.specs.Affine.{Within}
use Rattle.model.specs.Answer.{accepted}
use Rattle.model.specs.Ticket.{Loop}
use Rattle.model.specs.Points.{indices, points, partial_points, iterations}
use Rattle.model.specs.Bounds.{space}
use Rattle.model.specs.Grammar.{most_points}
use Rattle.model.proofs.Points.PointLaws.{iterations-length}
use Rattle.nest_points.specs.Tallies.{through, Near}
use Rattle.nest_points.specs.Stored.{joined}
use Rattle.nest_points.proofs.ThroughLaws.{through-none}
use Rattle.nest_points.proofs.SurveyLaws.{survey-passes, survey-near}

-- ---- a nest that keeps the bounds of 7 and 8

near-more : {m n : ℕ} (N : List Loop) (outer : List ℤ) → m ≤ n → Near m N outer → Near n N outer
near-more [] outer h p = tt
near-more (L ∷ N) outer h p = λ i k. let q = p i k in let s = q.0 in (omega arith, near-more N (outer ++ (i ∷ [])) h q.1)

pub admitted-near : (N : List Loop) → space N ≡ accepted tt → Near 100000 N []
unfolding space
admitted-near N e = near-more N [] (omega arith) (survey-near 7 8 32767 4096 N e)

pub admitted-few : (N : List Loop) → 1 ≤ length N → space N ≡ accepted tt → length (iterations N) ≤ most_points
unfolding space iterations partial_points
admitted-few N h e =
    let q = survey-passes 7 8 32767 4096 N 1 (length N) e (length N) (omega arith) (omega arith) in
    subst (λ (M : List Loop). length (points M []) ≤ most_points) (take-length N) q.few

-- ---- all points, one after the other

pub all-points : (N : List Loop) → through N [] ≡ iterations N
unfolding iterations
all-points N = through-none N

module _ (N : List Loop) (depth : ℕ) (h : length N ≡ depth) where
  even : All (λ y. length y ≡ depth) (iterations N)
  even y m = iterations-length N y m ∙ h

  pub words : length (joined (iterations N)) ≡ length (iterations N) * depth
  words = length-flat_map-even (λ p. p) depth (iterations N) even

  -- what stands after them is no row
  pub rows_are : (o : List ℤ) → rows depth (length (iterations N)) (put o 0 (joined (iterations N))) ≡ iterations N
  rows_are o = ap (rows depth (length (iterations N))) (put_all o (joined (iterations N)))
      ∙ rows_append depth (length (iterations N)) (joined (iterations N)) (drop (length (joined (iterations N))) o) (let w = words in omega arith)
      ∙ rows-flat_map depth (λ p. p) (iterations N) even ∙ map-id (iterations N)

-- ---- they are near

pub points_near : (m : ℕ) (N : List Loop) (outer : List ℤ) → Near m N outer → All (Within m) (points N outer)
unfolding points
points_near m [] outer h y k = ⊎_elim (λ e. subst (Within m) (sym e) tt) (λ n. absurd (Memᴰ.not-nil n)) (Memᴰ.cases_cons k)
points_near m (L ∷ N) outer h y k =
    let q = flat_map-mem (λ i. map (λ z. i ∷ z) (points N (outer ++ (i ∷ [])))) (indices L outer) k in
    let t = Memᴰ.of_map (λ z. q.0 ∷ z) (points N (outer ++ (q.0 ∷ []))) q.2 in
    let g = h q.0 q.1 in
    subst (Within m) t.2 (g.0, points_near m N (outer ++ (q.0 ∷ [])) g.1 t.0 t.1)
