-- Stored points by number: they are the points of the model, in their order.
use mathlib.Core.Path.{◌≡◌, sym, ◌∙◌, subst}
use mathlib.Core.Bool.{Bool, ◌&&◌}
use mathlib.Core.Logic.{inl, inr, ⊎_elim}
use mathlib.Core.List.{List, []}
use Prim.Native.Nat.{ℕ, ◌<◌}
use native.Mathlib.Nat.{eq-or-lt_of_le}
use native.Mathlib.Omega.{arith}
use lib.Dec.{T, ltb}
use lib.IntN.{ℤ}
use lib.ListN.{length, get_or}
use Rattle.integers.specs.Sign.{eq_z}
use Rattle.lists.specs.Membership.{Mem}
use Rattle.lists.specs.Tests.{same_by}
use Rattle.lists.proofs.MembershipLaws.{get_d-mem, mem-get_d}
use Rattle.lists.proofs.PartLaws.{rows-get_d, length-rows}
use Rattle.lists.proofs.TestLaws.{and_both, and_intro, or_cases, or_left, or_right}
use Rattle.model.specs.Machine.{Instance}
use Rattle.model.specs.Inside.{Earlier}
use Rattle.model.specs.Directions.{earlier, comes_first}
use Rattle.model.proofs.Machine.ElementLaws.{subscripts-decide}
use Rattle.model.proofs.Points.EarlierLaws.{earlier-irreflexive, earlier-asymmetric}
use Rattle.dependence_vectors.specs.Candidates.{row}
use Rattle.dependence_pair_search.specs.Search.{up_to}
use Rattle.dependence_search.specs.Flat.{Flat, point_at, points_of, Ready}
use Rattle.dependence_vectors.proofs.CandidateLaws.{le-cases}
use Rattle.dependence_pair_search.proofs.FullLaws.{row_is, rows-rise}
use Rattle.dependence_pair_search.proofs.ChainLaws.{up_to-cases, cases-up_to}

-- the instance of statement s at point x
abbrev pub at : Flat → ℕ → ℕ → Instance
at F s x = record { statement = s; iteration = point_at F x }

module _ (F : Flat) (marks : List Bool) (ok : Ready F marks) where
  pub point-length : (x : ℕ) → x < F.count → length (point_at F x) ≡ F.depth
  point-length = row_is F.depth F.count F.points ok.shallow ok.stored ok.rising

  point-at : (x : ℕ) → x < F.count → get_or (points_of F) x [] ≡ point_at F x
  unfolding row
  point-at x h = rows-get_d F.depth F.count F.points x [] h

  pub point-mem : (x : ℕ) → x < F.count → Mem (point_at F x) (points_of F)
  point-mem x h = let l = length-rows F.depth F.count F.points in subst (λ p. Mem p (points_of F)) (point-at x h)
      (get_d-mem (points_of F) x [] (omega arith))

  pub mem-point : {p : List ℤ} → Mem p (points_of F) → (x : ℕ) × (x < F.count) × (point_at F x ≡ p)
  mem-point m = let l = length-rows F.depth F.count F.points in let r = mem-get_d [] m in let h = r.1
      in (r.0, omega arith, sym (point-at r.0 (omega arith)) ∙ r.2)

  points-order : (x y : ℕ) → x < F.count → y < F.count → Earlier (point_at F x) (point_at F y) → x < y
  points-order x y h g e = ⊎_elim
      (λ k. ⊎_elim (λ i. absurd (earlier-irreflexive (point_at F x) (subst (λ z. Earlier (point_at F x) (point_at F z)) i e)))
      (λ i. absurd (earlier-asymmetric (point_at F x) (point_at F y) e (rises y x i h))) (eq-or-lt_of_le k))
      (λ k. k) (le-cases y x)
    where
      rises : (x y : ℕ) → x < y → y < F.count → Earlier (point_at F x) (point_at F y)
      rises = rows-rise F.depth F.count F.points ok.shallow ok.stored ok.rising

  points-same : (x y : ℕ) → x < F.count → y < F.count → point_at F x ≡ point_at F y → x ≡ y
  points-same x y h g e = ⊎_elim
      (λ k. ⊎_elim (λ i. sym i) (λ i. absurd (earlier-irreflexive (point_at F x) (subst (λ p. Earlier p (point_at F x)) (sym e) (rises y x i h))))
      (eq-or-lt_of_le k))
      (λ k. absurd (earlier-irreflexive (point_at F x) (subst (λ p. Earlier (point_at F x) p) (sym e) (rises x y k g)))) (le-cases y x)
    where
      rises : (x y : ℕ) → x < y → y < F.count → Earlier (point_at F x) (point_at F y)
      rises = rows-rise F.depth F.count F.points ok.shallow ok.stored ok.rising

  pub before-first : (s t x y : ℕ) → x < up_to (ltb s t) y → y < F.count → T (comes_first (at F s x) (at F t y))
  unfolding comes_first
  before-first s t x y h g = ⊎_elim
      (λ k. or_left (earlier (point_at F x) (point_at F y)) (same_by eq_z (point_at F x) (point_at F y) && ltb s t)
      (rows-rise F.depth F.count F.points ok.shallow ok.stored ok.rising x y k g))
      (λ k. or_right (earlier (point_at F x) (point_at F y)) (same_by eq_z (point_at F x) (point_at F y) && ltb s t)
      (and_intro (same_by eq_z (point_at F x) (point_at F y)) (ltb s t) (subst (λ z. T (same_by eq_z (point_at F x) (point_at F z))) k.0
      (subscripts-decide.itself (point_at F x))) k.1))
      (up_to-cases (ltb s t) x y h)

  pub first-before : (s t x y : ℕ) → x < F.count → y < F.count → T (comes_first (at F s x) (at F t y)) → x < up_to (ltb s t) y
  unfolding comes_first
  first-before s t x y h g c = cases-up_to (ltb s t) x y (⊎_elim (λ e. inl (points-order x y h g e))
      (λ e. let r = and_both (same_by eq_z (point_at F x) (point_at F y)) (ltb s t) e in inr
      (points-same x y h g (subscripts-decide.equal (point_at F x) (point_at F y) r.0), r.1))
      (or_cases (earlier (point_at F x) (point_at F y)) (same_by eq_z (point_at F x) (point_at F y) && ltb s t) c))
