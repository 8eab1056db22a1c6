-- Why a ticket is refused, or not: for each number of document 01's table what is then true, in propositions. 1 to 6, of the bytes, are in `Roles`.
-- In order: 7, 8 and 13; 9; 10, 11 and 12; all of them together (`Because`); then 14 to 16 and the access numbers of the quick test.
use Rattle.std.specs.Prelude.{◌≡◌, ◌⊎◌, ℕ, ◌+◌, ◌≤◌, ◌<◌, T, ℤ, pos, nat_abs, ◌≤ℤ◌, ◌<ℤ◌, length, get_or}
use mathlib.Core.List.{List, [], ◌∷◌, ◌++◌, map, flat_map}
use Rattle.integers.specs.Sign.{Sign}
use Rattle.lists.specs.Membership.{Mem, All}
use Rattle.model.specs.Answer.{Answer, accepted}
use Rattle.model.specs.Ticket.{Limit, Loop, Subscript, Access, Statement, Step, Nest, Ticket}
use Rattle.model.specs.Grammar.{extents, total, most_limits, most_points}
use Rattle.model.specs.Points.{partial_points, iterations}
use Rattle.model.specs.Bounds.{last_of, subscript_at, accesses_of}
use Rattle.model.specs.Directions.{backwards}
use Rattle.model.specs.Steps.{vectors_after, vectors_after_all}
use Rattle.model.specs.Limits.{nest_after, nest_after_all}
use Rattle.model.specs.Judge.{stages, directions_of, admit_of, Judged}
use Rattle.model.specs.Ranges.{Small}

-- the item with number p, of those from number k on, is bad and all before it are good
pub record FirstBad {A : Type 0} (Bad Good : A → Type 0) (k : ℕ) (xs : List A) (p : ℕ) : Type 0 where
  pub front : List A
  pub item : A
  pub back : List A
  pub parts : xs ≡ front ++ item ∷ back
  pub number : p ≡ k + length front
  pub bad : Bad item
  pub good : All Good front

-- ---- 7, 8 and 13: the partial points of depth k

-- a partial point has its last index beyond ±m
pub record Far (m : ℕ) (N : List Loop) (k : ℕ) : Type 0 where
  pub point : List ℤ
  pub there : Mem point (partial_points k N)
  pub far : m < nat_abs (last_of point)

-- none has
abbrev pub Near : ℕ → List Loop → ℕ → Type 0
Near m N k = All (λ y. nat_abs (last_of y) ≤ m) (partial_points k N)

-- the depth is not refused
pub record Passes (m most : ℕ) (N : List Loop) (k : ℕ) : Type 0 where
  pub near : Near m N k
  pub few : length (partial_points k N) ≤ most

-- the depth is refused with x: `far` for a far index, before `many` for more than `most` partial points
abbrev pub Excess : ℕ → ℕ → ℕ → ℕ → List Loop → ℕ → ℕ → Type 0
Excess far many m most N k x = ((x ≡ far) × Far m N k) ⊎ ((x ≡ many) × (Near m N k × (most < length (partial_points k N))))

-- of n depths from k on, p is the first that is refused, and with x
pub record Overrun (far many m most : ℕ) (N : List Loop) (k n x p : ℕ) : Type 0 where
  pub from : k ≤ p
  pub before : p < k + n
  pub pass : (j : ℕ) → k ≤ j → j < p → Passes m most N j
  pub reason : Excess far many m most N p x

-- no loop is refused with 7 or 8
abbrev pub SpacePasses : List Loop → Type 0
SpacePasses N = (k : ℕ) → 1 ≤ k → k ≤ length N → Passes 32767 most_points N k

-- ---- 9: a subscript leaves its extent in some iteration

-- a subscript off its extent, and one on it: from 0 to extent − 1
abbrev pub Off : ℕ → ℤ → Type 0
Off n x = (x <ℤ pos 0) ⊎ (pos n ≤ℤ x)

abbrev pub On : ℕ → ℤ → Type 0
On n x = (pos 0 ≤ℤ x) × (x <ℤ pos n)

-- the dimension in which a subscript is off
pub record OffAt (ns : List ℕ) (xs : List ℤ) : Type 0 where
  pub dimension : ℕ
  pub extent : dimension < length ns
  pub subscript : dimension < length xs
  pub off : Off (get_or ns dimension 0) (get_or xs dimension (pos 0))

-- at one of the points ps an access of the statement has a subscript off its extent
pub record Violates (as' : List (List ℕ)) (ps : List (List ℤ)) (s : Statement) : Type 0 where
  pub point : List ℤ
  pub reached : Mem point ps
  pub access : Access
  pub of : Mem access (accesses_of s)
  pub off : OffAt (extents as' access.array) (map (subscript_at point) access.subscripts)

-- at every point every subscript is on its extent
abbrev pub Stays : List (List ℕ) → List (List ℤ) → Statement → Type 0
Stays as' ps s =
    (p : List ℤ) → Mem p ps → (a : Access) → Mem a (accesses_of s)
    → (i : ℕ) → i < length (extents as' a.array) → i < length a.subscripts
    → On (get_or (extents as' a.array) i 0) (get_or (map (subscript_at p) a.subscripts) i (pos 0))

-- ---- 10: a direction points backwards

-- a direction vector whose first sign other than = is >
pub record Backwards (vs : List (List Sign)) : Type 0 where
  pub vector : List Sign
  pub there : Mem vector vs
  pub back : T (backwards vector)

-- there is none
abbrev pub Forwards : List (List Sign) → Type 0
Forwards vs = All (λ v. T (backwards v) → ⊥) vs

-- ---- 11: a side of a loop has more than 16 limits

-- a loop that has
pub record TooMany (N : List Loop) : Type 0 where
  pub loop : Loop
  pub there : Mem loop N
  pub many : (most_limits < length loop.lower) ⊎ (most_limits < length loop.upper)

-- none has
abbrev pub FewLimits : List Loop → Type 0
FewLimits N = All (λ L. (length L.lower ≤ most_limits) × (length L.upper ≤ most_limits)) N

-- ---- 12: a number of the nest is beyond ±32767

-- the numbers of a nest: of its limits, and of the subscripts of its accesses
unfoldable pub limit_numbers : Limit → List ℤ
limit_numbers l = pos l.multiplier ∷ l.constant ∷ l.coefficients

unfoldable pub loop_numbers : Loop → List ℤ
loop_numbers L = flat_map limit_numbers L.lower ++ flat_map limit_numbers L.upper

unfoldable pub subscript_numbers : Subscript → List ℤ
subscript_numbers s = s.constant ∷ s.coefficients

unfoldable pub access_numbers : Access → List ℤ
access_numbers a = flat_map subscript_numbers a.subscripts

unfoldable pub statement_numbers : Statement → List ℤ
statement_numbers s = flat_map access_numbers (accesses_of s)

unfoldable pub nest_numbers : Nest → List ℤ
nest_numbers N = flat_map loop_numbers N.loops ++ flat_map statement_numbers N.statements

-- all are within
abbrev pub AllSmall : Nest → Type 0
AllSmall N = All Small (nest_numbers N)

-- one is beyond
pub record SomeLarge (N : Nest) : Type 0 where
  pub value : ℤ
  pub there : Mem value (nest_numbers N)
  pub large : 32767 < nat_abs value

-- ---- 10, 11 and 12, step by step. A step is taken in stages: a circulation exchange by exchange, any other at once

-- after the stage no side has more than 16 limits and every number is within ±32767
abbrev pub StagePasses : Step → Nest → Type 0
StagePasses t N = FewLimits (nest_after t N).loops × AllSmall (nest_after t N)

-- every stage passes when it is taken
abbrev pub StagesPass : List Step → Nest → Type 0
StagesPass [] N = Unit {0}
StagesPass (t ∷ ts) N = StagePasses t N × StagesPass ts (nest_after t N)

-- 11, then 12
abbrev pub StageReason : Step → Nest → ℕ → Type 0
StageReason t N n =
    ((n ≡ 11) × TooMany (nest_after t N).loops) ⊎ ((n ≡ 12) × (FewLimits (nest_after t N).loops × SomeLarge (nest_after t N)))

-- the stages ts are refused with n: the first that does not pass
pub record Halted (ts : List Step) (N : Nest) (n : ℕ) : Type 0 where
  pub front : List Step
  pub stage : Step
  pub back : List Step
  pub parts : ts ≡ front ++ stage ∷ back
  pub pass : StagesPass front N
  pub reason : StageReason stage (nest_after_all front N) n

-- one step, of the vectors vs and the nest N before it
pub record StepPasses (t : Step) (vs : List (List Sign)) (N : Nest) : Type 0 where
  pub forwards : Forwards (vectors_after t vs)
  pub taken : StagesPass (stages t) N

-- 10, then 11 and 12 stage by stage
abbrev pub Reason : Step → List (List Sign) → Nest → ℕ → Type 0
Reason t vs N n = ((n ≡ 10) × Backwards (vectors_after t vs)) ⊎ (Forwards (vectors_after t vs) × Halted (stages t) N n)

-- every step passes when it is taken
abbrev pub StepsPass : List Step → List (List Sign) → Nest → Type 0
StepsPass [] vs N = Unit {0}
StepsPass (t ∷ ts) vs N = StepPasses t vs N × StepsPass ts (vectors_after t vs) (nest_after t N)

-- the steps from number k on are refused with n at p: the first that does not pass
pub record Rejected (k : ℕ) (ts : List Step) (vs : List (List Sign)) (N : Nest) (n p : ℕ) : Type 0 where
  pub front : List Step
  pub step : Step
  pub back : List Step
  pub parts : ts ≡ front ++ step ∷ back
  pub number : p ≡ k + length front
  pub pass : StepsPass front vs N
  pub reason : Reason step (vectors_after_all front vs) (nest_after_all front N) n

-- ---- 1 to 13 of what was decoded. Why says what the refusals 1 to 6 of the reader mean

-- 1 to 9
pub data NotAdmitted (Why : ℕ → ℕ → Type 0) (d : Answer Ticket) (n p : ℕ) : Type 0 where
  -- 1 to 6: a word of the ticket
  grammar : Why n p → NotAdmitted Why d n p
  -- 7 and 8: a far index, or more than 4096 partial points, at the first loop that has either
  many : (T : Ticket) → d ≡ accepted T → Overrun 7 8 32767 most_points T.nest.loops 1 (length T.nest.loops) n p → NotAdmitted Why d n p
  -- 9: an iteration, an access and a subscript off its extent, and no earlier statement has one
  off : (T : Ticket) → d ≡ accepted T → SpacePasses T.nest.loops → n ≡ 9
      → FirstBad (Violates T.nest.arrays (iterations T.nest.loops)) (Stays T.nest.arrays (iterations T.nest.loops))
      1 T.nest.statements p
      → NotAdmitted Why d n p

-- the new nest: all steps taken on the ticket's
abbrev pub made : Ticket → Nest
made T = nest_after_all T.steps T.nest

-- 1 to 13
pub data Because (Why : ℕ → ℕ → Type 0) (d : Answer Ticket) (n p : ℕ) : Type 0 where
  not_admitted : NotAdmitted Why d n p → Because Why d n p
  -- 10 to 12: the first step that does not pass, and why
  step : (T : Ticket) → admit_of d ≡ accepted T → Rejected 1 T.steps (directions_of T.nest) T.nest n p → Because Why d n p
  -- 13: every step passes, and the new nest has a far index or too many partial points
  new_space : (T : Ticket) → admit_of d ≡ accepted T → StepsPass T.steps (directions_of T.nest) T.nest
      → Overrun 13 13 100000 65536 (made T).loops 1 (length (made T).loops) n p → Because Why d n p

-- ---- 14, short buffer: the lent buffer can't take the text

pub record Short (text buffer : List ℕ) (n p : ℕ) : Type 0 where
  pub fourteen : n ≡ 14
  pub nowhere : p ≡ 0
  pub short : length buffer < length text

-- ---- the quick test's 4: none of the accesses l has number a

pub record NoAccess (l : List Access) (a n p : ℕ) : Type 0 where
  pub four : n ≡ 4
  pub nowhere : p ≡ 0
  pub none : (a < 1) ⊎ (length l < a)

-- ---- 15, opaque, and 16, wrong store

-- a statement with rule 0, and one with another
abbrev pub Opaque : Statement → Type 0
Opaque s = s.rule ≡ 0

abbrev pub Clear : Statement → Type 0
Clear s = Opaque s → ⊥

-- the store's length is not the total of elements
pub record WrongStore (N : Nest) (words : List ℕ) (n p : ℕ) : Type 0 where
  pub sixteen : n ≡ 16
  pub nowhere : p ≡ 0
  pub wrong : length words ≡ total N.arrays → ⊥

-- 15 at the first opaque statement, before 16
abbrev pub NotRun : Judged → List ℕ → ℕ → ℕ → Type 0
NotRun j words n p =
    ((n ≡ 15) × FirstBad Opaque Clear 1 j.ticket.nest.statements p)
    ⊎ (All Clear j.ticket.nest.statements × WrongStore j.ticket.nest words n p)
