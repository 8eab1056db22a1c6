-- The judgement: steps one by one with 10, 11 and 12, then 13 on the new nest.
use Rattle.std.specs.Prelude.{Bool, not, ◌&&◌, ℕ, suc, leb, ℤ, nat_abs, length}
use mathlib.Core.List.{List, [], ◌∷◌, map, flat_map}
use Rattle.integers.specs.Sign.{Sign}
use Rattle.lists.specs.Tests.{all}
use Rattle.model.specs.Answer.{Answer, accepted, require, ◌>>=◌, ◌>>◌}
use Rattle.model.specs.Ticket.{Limit, Loop, Access, Step, exchange, reversal, skew, section, circulation, Nest, Ticket}
use Rattle.model.specs.Grammar.{decode}
use Rattle.model.specs.Bounds.{admitted, new_space, accesses_of}
use Rattle.model.specs.Machine.{accesses, order}
use Rattle.model.specs.Directions.{directions}
use Rattle.model.specs.Steps.{vectors_after, some_points_back, chain}
use Rattle.model.specs.Limits.{nest_after}

-- at most 16 limits a side
unfoldable pub few_limits : List Loop → Bool
few_limits N = all (λ L. leb (length L.lower) 16 && leb (length L.upper) 16) N

-- every number of the nest within ±32767
unfoldable pub small : ℤ → Bool
small x = leb (nat_abs x) 32767

unfoldable pub small_limit : Limit → Bool
small_limit l = leb l.multiplier 32767 && (small l.constant && all small l.coefficients)

unfoldable pub small_loop : Loop → Bool
small_loop L = all small_limit L.lower && all small_limit L.upper

unfoldable pub small_access : Access → Bool
small_access a = all (λ s. small s.constant && all small s.coefficients) a.subscripts

unfoldable pub small_numbers : Nest → Bool
small_numbers N = all small_loop N.loops && all (λ s. all small_access (accesses_of s)) N.statements

-- the stages in which a step is taken on the nest: a circulation goes exchange by exchange, any other step at once
unfoldable pub stages : Step → List Step
stages (exchange a) = exchange a ∷ []
stages (reversal a) = reversal a ∷ []
stages (skew a d c) = skew a d c ∷ []
stages (section a w) = section a w ∷ []
stages (circulation a b) = map exchange (chain a b)

-- 11, then 12, after each stage of step k
unfoldable pub judge_stages : ℕ → List Step → Nest → Answer (Unit {0})
judge_stages k [] N = accepted tt
judge_stages k (t ∷ ts) N =
    require (few_limits (nest_after t N).loops) 11 k
    >> require (small_numbers (nest_after t N)) 12 k
    >> judge_stages k ts (nest_after t N)

-- from step k on: the set of vectors and the nest go through each step, which is judged when it is taken
unfoldable pub judge_steps : ℕ → List Step → List (List Sign) → Nest → Answer Nest
judge_steps k [] vs N = accepted N
judge_steps k (t ∷ ts) vs N =
    require (not (some_points_back (vectors_after t vs))) 10 k
    >> judge_stages k (stages t) N
    >> judge_steps (suc k) ts (vectors_after t vs) (nest_after t N)

-- every circulation written out as the exchanges of its chain
unfoldable pub expanded : List Step → List Step
expanded ts = flat_map stages ts

unfoldable pub expanded_ticket : Ticket → Ticket
expanded_ticket T = record { nest = T.nest; steps = expanded T.steps }

-- the directions of a nest
unfoldable pub directions_of : Nest → List (List Sign)
directions_of N = directions (accesses N.statements) (order N)

-- 1 to 9 of what was decoded
unfoldable pub admit_of : Answer Ticket → Answer Ticket
admit_of d = d >>= (λ T. admitted T.nest >> accepted T)

pub record Judged : Type 0 where
  pub ticket : Ticket
  pub new : Nest

-- 10 to 13
unfoldable pub judge_ticket : Ticket → Answer Judged
judge_ticket T =
    judge_steps 1 T.steps (directions_of T.nest) T.nest
    >>= (λ N. new_space N.loops >> accepted (record { ticket = T; new = N }))

-- 1 to 13
unfoldable pub judged_of : Answer Ticket → Answer Judged
judged_of d = admit_of d >>= judge_ticket

-- of a ticket's bytes
abbrev pub admit : List ℕ → Answer Ticket
admit bytes = admit_of (decode bytes)

abbrev pub judged : List ℕ → Answer Judged
judged bytes = judged_of (decode bytes)
