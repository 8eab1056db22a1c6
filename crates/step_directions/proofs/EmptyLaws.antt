-- A set whose marks were passed number by number and found clear has no vector; and what a step makes of a set without vectors.
use mathlib.Core.Path.{◌≡◌, subst}
use mathlib.Core.Bool.{Bool, false}
use mathlib.Core.List.{List, [], flat_map}
use Prim.Native.Nat.{ℕ, ◌+◌, ◌-◌, ◌/◌, ◌≤◌, ◌<◌}
use native.Mathlib.Omega.{arith}
use native.Mathlib.Decide.{ℕ_discrete, dec_lt}
use lib.Dec.{T}
use lib.ListN.{length, get_or}
use Rattle.integers.specs.Sign.{Sign}
use Rattle.lists.proofs.MembershipLaws.{no-members}
use Rattle.lists.proofs.TestLaws.{false-not-T}
use Rattle.model.specs.Ticket.{Step}
use Rattle.model.specs.Grammar.{depth_after}
use Rattle.model.specs.Steps.{vectors_after}
use Rattle.model.specs.Directions.{vector_count}
use Rattle.dependence_vectors.specs.Numbers.{number}
use Rattle.step_preimages.specs.Numbers.{marked}
use Rattle.step_preimages.proofs.NumberLaws.{number-below}
use Rattle.dependence_vectors.specs.Candidates.{stride}
use Rattle.dependence_vectors.proofs.DepthLaws.{OfDepth, depth-number, depth-least, depth-apart}
use Rattle.step_directions.specs.declared.DirectionSet.{DirectionSet}
use Rattle.step_directions.specs.Sets.{vectors_in, vectors_of, After, Empty}
use Rattle.step_directions.proofs.SetLaws.{vectors_in-mem}

-- no marked vector with a number below n
abbrev pub NoneBelow : List Bool → ℕ → ℕ → Type 0
NoneBelow marks d n = (v : List Sign) → length v ≡ d → number v < n → T (marked marks v) → ⊥

module _ (marks : List Bool) (d : ℕ) (few : d ≤ 6) where
  module _ (s : ℕ) (e : s ≡ stride (6 - d)) where
    pub none_first : NoneBelow marks d ((s - 1) / 2)
    none_first v l i t = let a = depth-least d s e (number v) (depth-number v d l) in omega arith

    pub none-next : (n : ℕ) → OfDepth d n → get_or marks n false ≡ false → NoneBelow marks d n → NoneBelow marks d (n + s)
    none-next n o f p v l i t = elim (ℕ_discrete (number v) n) [
      | yes q ↦ false-not-T (get_or marks n false) f (subst (λ m. T (get_or marks m false)) q t)
      | no q ↦ elim (dec_lt n (number v)) [
        | yes a ↦ let z = depth-apart d s e n (number v) o (depth-number v d l) a in omega arith
        | no a ↦ p v l (omega arith) t
      ]
    ]

  pub none_at_all : (n : ℕ) → vector_count ≤ n → NoneBelow marks d n → vectors_in marks d ≡ []
  none_at_all n h p = no-members (vectors_in marks d) (λ v m. let a = vectors_in-mem marks d m in p v a.0 (omega (arith, number-below v)) a.1)

-- ---- a step makes none of none

pub after_none : (t : Step) (s r : DirectionSet) → vectors_of s ≡ [] → Empty (depth_after t s.depth) r → After t s r
unfolding vectors_after flat_map
after_none t s r e q = record { depth = q.depth; vectors = rw (e, q.vectors) (record { into = λ v m. m; from = λ v m. m }) }
