-- The judgement goes by the members of the set of vectors alone.
use mathlib.Core.Path.{◌≡◌, refl, ap₂}
use mathlib.Core.Bool.{not}
use mathlib.Core.List.{List, [], ◌∷◌}
use Prim.Native.Nat.{ℕ, suc}
use Rattle.integers.specs.Sign.{Sign}
use Rattle.lists.specs.Membership.{SameMembers}
use Rattle.lists.proofs.FlatMapLaws.{flat_map-mem, mem-flat_map}
use Rattle.lists.proofs.TestLaws.{T-same, any_some, some-any}
use Rattle.model.specs.Answer.{require, ◌>>◌}
use Rattle.model.specs.Ticket.{Step, Nest}
use Rattle.model.specs.Directions.{backwards}
use Rattle.model.specs.Steps.{vectors, vectors_after, some_points_back}
use Rattle.model.specs.Limits.{nest_after}
use Rattle.model.specs.Judge.{stages, judge_stages, judge_steps}

pub vectors_after-same : (t : Step) {vs ws : List (List Sign)} → SameMembers vs ws → SameMembers (vectors_after t vs) (vectors_after t ws)
unfolding vectors_after
vectors_after-same t {vs} {ws} s = record {
  into = λ v m. let r = flat_map-mem (vectors t) vs m in mem-flat_map (vectors t) ws (s.into r.0 r.1) r.2;
  from = λ v m. let r = flat_map-mem (vectors t) ws m in mem-flat_map (vectors t) vs (s.from r.0 r.1) r.2;
}

pub points_back-same : {vs ws : List (List Sign)} → SameMembers vs ws → some_points_back vs ≡ some_points_back ws
unfolding some_points_back
points_back-same {vs} {ws} s = T-same (some_points_back vs) (some_points_back ws)
    (λ h. let r = any_some backwards vs h in some-any backwards ws (s.into r.0 r.1) r.2)
    (λ h. let r = any_some backwards ws h in some-any backwards vs (s.from r.0 r.1) r.2)

pub judge_steps-same : (k : ℕ) (ts : List Step) {vs ws : List (List Sign)} (N : Nest) → SameMembers vs ws → judge_steps k ts vs N ≡ judge_steps k ts ws N
unfolding judge_steps
judge_steps-same k [] N s = refl
judge_steps-same k (t ∷ ts) {vs} {ws} N s = let a = vectors_after-same t s in
    ap₂ (λ b r. require (not b) 10 k >> judge_stages k (stages t) N >> r)
    (points_back-same a) (judge_steps-same (suc k) ts (nest_after t N) a)
