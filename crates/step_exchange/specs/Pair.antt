-- The two loops of an exchange, made of loop I at place a and loop J inside it: what the functions on their sides ask, and what is left of the nest.
use Rattle.std.specs.Prelude.{◌≡◌, Bool, true, false, ◌&&◌, Result, ⊤, is_ok, List, ℕ, suc, ◌+◌, ◌*◌, ◌<◌, ◌≤◌, leb, ℤ, pos, negsuc, length, get_or, take, drop}
use Rattle.integers.specs.Affine.{Within}
use Rattle.model.specs.Ticket as Model
use Rattle.model.specs.Judge.{small_loop}
use Rattle.model.specs.Limits.{solved_positive, solved_negative, when_positive, when_negative, outer_coefficient, new_outer, new_inner, deduplicated}
use Rattle.model.specs.Grammar.{most_loops, most_limits, most_sides, nest_limits, row_room, nest_room}
use Rattle.ticket_loops.specs.LoopReads.{limit_of}
use Rattle.ticket_loops.specs.declared.Limit.{Limit}
use Rattle.nest_flat.specs.Flat.{limits_at, loop_at, Positive, NestOk}
use Rattle.ticket_loops.specs.Laid.{lay_loop, lay_count}
use Rattle.step_limits.specs.Small.{SmallLimit}
use Rattle.step_exchange_sides.specs.Filling.{Holds, Filled}
use Rattle.step_exchange.specs.declared.SideLimits.{SideLimits}
use Rattle.step_exchange.specs.declared.SideCounts.{SideCounts}
use Rattle.step_exchange.specs.declared.StepError.{StepError}
use Rattle.step_exchange.specs.Answers.{step_answer}
use Rattle.step_limits.specs.Words.{LoopOk}

-- p J against e + c I, solved for |c| I
unfoldable pub solved : ℕ → ℤ → Model.Limit → Model.Limit
solved a (pos n) l = solved_positive a n l
solved a (negsuc n) l = solved_negative a (suc n) l

-- what a limit of J gives to I, on the side that takes limits with c > 0 or on the other
unfoldable pub taken_of : Bool → ℕ → Model.Limit → List Model.Limit
taken_of true a l = when_positive a (outer_coefficient a l) l
taken_of false a l = when_negative a (outer_coefficient a l) l

-- ---- a side of I or of J, among the words of the nest

abbrev pub limits_of : List ℤ → ℕ → SideLimits → List Model.Limit
limits_of s n p = limits_at s n p.from p.count

pub record SpanIn (s : List ℤ) (p : SideLimits) : Type 0 where
  pub words : length s ≡ nest_room
  pub small : Within 32767 s
  pub inside : p.from + p.count ≤ nest_limits
  pub positive : Positive s p.from p.count

-- of loop k
unfoldable pub lower_span : List ℕ → ℕ → SideLimits
lower_span c k = record { from = k * 32; count = get_or c (k * 2) 0 }

unfoldable pub upper_span : List ℕ → ℕ → SideLimits
upper_span c k = record { from = k * 32 + 16; count = get_or c (k * 2 + 1) 0 }

-- a limit of J, and a side of I
pub record CombineIn (a : ℕ) (f : List ℤ) (count : ℕ) (l : Limit) (s : List ℤ) (p : SideLimits) : Type 0 where
  pub place : a < most_loops
  pub filled : Filled f count
  pub limit : SmallLimit (limit_of (a + 1) l)
  pub side : SpanIn s p

pub record PartIn (a : ℕ) (f : List ℤ) (count : ℕ) (l : Limit) (s : List ℤ) (same other : SideLimits) : Type 0 where
  pub with-same : CombineIn a f count l s same
  pub with-other : CombineIn a f count l s other

pub record TakeIn (a : ℕ) (f : List ℤ) (count : ℕ) (l : Limit) : Type 0 where
  pub place : a < most_loops
  pub filled : Filled f count
  pub limit : SmallLimit (limit_of (a + 1) l)

-- a side of J
pub record SolveIn (a : ℕ) (f : List ℤ) (count : ℕ) (s : List ℤ) (js : SideLimits) : Type 0 where
  pub place : a < most_loops
  pub filled : Filled f count
  pub side : SpanIn s js

-- a side of one loop, and two of the other
pub record ThreeIn (a : ℕ) (f : List ℤ) (s : List ℤ) (p q r : SideLimits) : Type 0 where
  pub place : a < most_loops
  pub room : length f ≡ most_limits * row_room
  pub first : SpanIn s p
  pub second : SpanIn s q
  pub third : SpanIn s r

-- ---- the pair

pub record PairIn (s : List ℤ) (c : List ℕ) (a : ℕ) : Type 0 where
  pub words : length s ≡ nest_room
  pub counts : length c ≡ most_sides
  pub place : a + 1 < most_loops
  pub small : Within 32767 s
  pub outer : LoopOk s c a
  pub inner : LoopOk s c (a + 1)

-- ---- a loop of two sides under way

pub record FillIn (s : List ℤ) (c : List ℕ) (a : ℕ) (low up : List ℤ) : Type 0 where
  pub pair : PairIn s c a
  pub lower : length low ≡ most_limits * row_room
  pub upper : length up ≡ most_limits * row_room

-- what the limits of L leave on each side
pub record LoopHeld (n : ℕ) (L : Model.Loop) (low up : List ℤ) (h : SideCounts) : Type 0 where
  pub lower : Holds n low h.lower L.lower
  pub upper : Holds n up h.upper L.upper
  pub lower-filled : Filled low h.lower
  pub upper-filled : Filled up h.upper

abbrev pub loop_in : ℕ → List ℤ → List ℤ → SideCounts → Model.Loop
loop_in n low up h = record { lower = limits_at low n 0 h.lower; upper = limits_at up n 0 h.upper }

-- it is put at place k
pub record PutLoopIn (room rows k : ℕ) (low up : List ℤ) (h : SideCounts) : Type 0 where
  pub words : room ≡ nest_room
  pub counts : rows ≡ most_sides
  pub place : k < most_loops
  pub lower : Filled low h.lower × (h.lower ≤ most_limits)
  pub upper : Filled up h.upper × (h.upper ≤ most_limits)

-- r says whether the numbers of L are small; t and d are what is left of the words s and the counts c
pub record LoopPut (s : List ℤ) (c : List ℕ) (k : ℕ) (L : Model.Loop) (r : Bool) (t : List ℤ) (d : List ℕ) : Type 0 where
  pub small : r ≡ small_loop L
  pub made : r ≡ true → (t ≡ lay_loop s k L) × (d ≡ lay_count c k L)

-- ---- the new pair

-- the loops that J and I become, with no limit twice
unfoldable pub outer_of : List ℤ → List ℕ → ℕ → Model.Loop
outer_of s c a = deduplicated (new_outer a (loop_at s c a) (loop_at s c (a + 1)))

unfoldable pub inner_of : List ℤ → List ℕ → ℕ → Model.Loop
inner_of s c a = deduplicated (new_inner a (loop_at s c a) (loop_at s c (a + 1)))

-- at most 16 limits a side
unfoldable pub few_in : Model.Loop → Bool
few_in L = leb (length L.lower) most_limits && leb (length L.upper) most_limits

-- the words t and the counts d have X and Y at a and a + 1, and the other loops of s and c
pub record PairMade (s : List ℤ) (c : List ℕ) (a : ℕ) (X Y : Model.Loop) (t : List ℤ) (d : List ℕ) : Type 0 where
  pub outer : loop_at t d a ≡ X
  pub inner : loop_at t d (a + 1) ≡ Y
  pub others : (depth : ℕ) → NestOk s c depth → (k : ℕ) → k < depth → (k ≡ a → ⊥) → (k ≡ a + 1 → ⊥) → loop_at t d k ≡ loop_at s c k
  pub ok : (depth : ℕ) → NestOk s c depth → NestOk t d depth
  pub words-before : take (a * 256) t ≡ take (a * 256) s
  pub words-behind : drop ((a + 2) * 256) t ≡ drop ((a + 2) * 256) s
  pub counts-before : take (a * 2) d ≡ take (a * 2) c
  pub counts_behind : drop ((a + 2) * 2) d ≡ drop ((a + 2) * 2) c

pub record Exchanges (s : List ℤ) (c : List ℕ) (a : ℕ) (r : Result ⊤ StepError) (t : List ℤ) (d : List ℕ) : Type 0 where
  pub answered : r ≡ step_answer (few_in (outer_of s c a) && few_in (inner_of s c a)) (small_loop (outer_of s c a) && small_loop (inner_of s c a))
  pub made : is_ok r ≡ true → PairMade s c a (outer_of s c a) (inner_of s c a) t d
  pub words : length t ≡ nest_room
  pub counts : length d ≡ most_sides
