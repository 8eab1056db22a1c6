-- What the run asks, stage by stage.
use mathlib.Core.Path.{◌≡◌, sym, ◌∙◌, ap, subst}
use mathlib.Core.List.{List, [], ◌∷◌}
use Prim.Native.Nat.{ℕ, zero, suc, ◌+◌, ◌*◌, ◌^◌, ◌≤◌, ◌<◌}
use native.Mathlib.Omega.{arith}
use native.Mathlib.Nat.{add-zero, zero-add, add-suc, suc-add, mul-le-mul}
use lib.IntN.{ℤ}
use lib.ListN.{length, get_or}
use Rattle.lists.specs.Parts.{rows}
use Rattle.lists.proofs.MembershipLaws.{all_get_d}
use Rattle.model.specs.Ticket.{Statement}
use Rattle.model.specs.Points.{iterations}
use Rattle.model.specs.Bounds.{new_space}
use Rattle.model.specs.Machine.{body_at}
use Rattle.model.specs.Grammar.{most_accesses, most_points}
use Rattle.nest_points.proofs.SurveyLaws.{survey-near}
use Rattle.nest_flat.specs.FlatNests.{FlatNest, sizes_in, statements_from, nest_of, FlatNestIn}
use Rattle.nest_points.specs.Nests.{ListIn, PointsAre}
use Rattle.nest_elements.specs.Nests.{NestNumberIn, NumbersAre}
use Rattle.nest_flat.proofs.FlatNestLaws.{sizes-count}
use Rattle.run_statements.specs.Runs.{RunIn}
use Rattle.run_statements.proofs.NestLaws.{statements-length}
use Rattle.run_nest.specs.Execution.{Executable, ExecuteIn, PartIn}
use Rattle.run_nest.proofs.PartLaws.{inside-part}

-- the constant of statement j of those from statement i on
constant-from : (P : FlatNest) (k i j : ℕ) (ms : List ℕ) → j < length ms
    → (body_at (statements_from P k i ms) j).constant ≡ get_or P.constants (i + j) 0
unfolding body_at statements_from
constant-from P k i j [] h = absurd (omega arith)
constant-from P k i zero (m ∷ ms) h = ap (λ (x : ℕ). get_or P.constants x 0) (sym (add-zero i))
constant-from P k i (suc j) (m ∷ ms) h = constant-from P (k + m) (suc i) j ms (omega arith)
    ∙ ap (λ (x : ℕ). get_or P.constants x 0) (suc-add i j ∙ sym (add-suc i j))

module _ (P : FlatNest) (s : FlatNestIn P) (g : Executable (nest_of P)) where
  constant-is : (i : ℕ) → i < P.statements → (body_at (nest_of P).statements i).constant ≡ get_or P.constants i 0
  unfolding nest_of
  constant-is i l = constant-from P 0 0 i (sizes_in P) (let n = sizes-count P s in omega arith) ∙ ap (λ (x : ℕ). get_or P.constants x 0) (zero-add i)

  word : (i : ℕ) → i < P.statements → get_or P.constants i 0 < 2 ^ 32
  unfolding nest_of body_at
  word i l =
      let m = statements-length P 0 0 (sizes_in P) in let n = sizes-count P s in let e = constant-is i l in
      let f = all_get_d (λ (x : Statement). x.constant ≤ 32767) (nest_of P).statements i
      (record { rule = 0; constant = 0; writes = []; reads = [] }) g.constants (omega arith) in omega arith

-- ---- a part of the points

module _ (P : FlatNest) (points : List ℤ) (n room : ℕ) (h : PartIn P points n room) where
  pub number_in : (size : ℕ) → P.accesses * n ≤ size → NestNumberIn P points n size
  number_in size l = record {
    flat-nest = h.flat-nest;
    formed = h.nest.formed;
    stored = h.stored;
    inside = inside-part (nest_of P).arrays (iterations (nest_of P).loops) (rows P.depth n points) (nest_of P).statements h.reached
        h.nest.inside;
    fits = l;
  }

  pub run_in : (numbers : List ℕ) → NumbersAre P points n numbers → RunIn P points n numbers room
  run_in numbers e = record {
    flat-nest = h.flat-nest;
    few = h.stored.bound;
    places = e;
    words = word P h.flat-nest h.nest;
    whole = h.whole;
  }

-- ---- all points

module _ (P : FlatNest) (count room : ℕ) (h : ExecuteIn P count room) where
  pub few-points : count ≤ most_points
  few-points = let c = h.counted in let f = h.nest.few in omega arith

  -- room for the indices of at most `most` points
  pub list-in : (most : ℕ) → count ≤ most → (size : ℕ) → most * 6 ≤ size → ListIn P size
  unfolding new_space
  list-in most l size g = let d = h.flat-nest.accesses-ok.shallow in let c = h.counted in let m : length (iterations (nest_of P).loops) ≤
      most = omega arith in
      record {
        flat-nest = h.flat-nest;
        near = survey-near 13 13 100000 65536 (nest_of P).loops h.nest.new-space-accepted;
        few = h.nest.few;
        fits = omega (arith, mul-le-mul m d);
      }

  pub listed : (points : List ℤ) (n : ℕ) → PointsAre P points n → PointsAre P points count
  listed points n p = subst (PointsAre P points) (p.count ∙ sym h.counted) p

  -- room for the numbers of all accesses at them
  pub few-numbers : (most : ℕ) → count ≤ most → P.accesses * count ≤ most_accesses * most
  few-numbers most l = mul-le-mul {n₁ = P.accesses} {m₁ = count} {n₂ = most_accesses} {m₂ = most} h.flat-nest.few-accesses l
