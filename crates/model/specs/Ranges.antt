-- The ranges of an accepted ticket's counts and numbers, section by section. Sizes of lists that follow from others are in `Shape`; which word is
-- refused, and how, in `Roles`; the words of a ticket in `Encode`.
use Rattle.std.specs.Prelude.{◌≡◌, List, [], ◌∷◌, ℕ, suc, ◌+◌, ◌≤◌, ◌<◌, ℤ, nat_abs, length}
use Rattle.lists.specs.Membership.{All}
use Rattle.model.specs.Ticket.{Limit, Loop, Subscript, Access, Statement, Step, exchange, reversal, skew, section, circulation, Nest, Ticket}
use Rattle.model.specs.Grammar.{total, depth_after, most_statements, most_factor}
use Rattle.model.specs.Grammar.{most_reads, most_arrays, most_dimensions, most_extent, most_elements, ticket_loops, most_loops, ticket_limits}

-- ---- ranges

-- from lo to hi
pub record InRange (lo hi n : ℕ) : Type 0 where
  pub low : lo ≤ n
  pub high : n ≤ hi

-- within ±32767
abbrev pub Small : ℤ → Type 0
Small z = nat_abs z ≤ 32767

pub record LimitRanges (l : Limit) : Type 0 where
  pub multiplier : InRange 1 32767 l.multiplier
  pub constant : Small l.constant
  pub coefficients : All Small l.coefficients

-- at most m limits a side
pub record LoopRanges (m : ℕ) (L : Loop) : Type 0 where
  pub few-lower : InRange 1 m (length L.lower)
  pub few-upper : InRange 1 m (length L.upper)
  pub lower : All LimitRanges L.lower
  pub upper : All LimitRanges L.upper

pub record ArrayRanges (a : List ℕ) : Type 0 where
  pub dimensions : InRange 1 most_dimensions (length a)
  pub extents : All (InRange 1 most_extent) a

pub record SubscriptRanges (s : Subscript) : Type 0 where
  pub constant : Small s.constant
  pub coefficients : All Small s.coefficients

abbrev pub AccessRanges : Access → Type 0
AccessRanges a = All SubscriptRanges a.subscripts

-- rule 3 copies its first read
pub record StatementRanges (s : Statement) : Type 0 where
  pub rule : s.rule ≤ 3
  pub constant : s.constant ≤ 32767
  pub one-write : length s.writes ≡ 1
  pub few-reads : length s.reads ≤ most_reads
  pub copy-reads : s.rule ≡ 3 → 1 ≤ length s.reads
  pub copy-constant : s.rule ≡ 3 → s.constant ≡ 0
  pub writes : All AccessRanges s.writes
  pub reads : All AccessRanges s.reads

-- at most d loops and m limits a side: ticket_loops and ticket_limits in a ticket, most_loops and most_limits in a written nest
pub record NestRanges (d m : ℕ) (N : Nest) : Type 0 where
  pub few-loops : InRange 1 d (length N.loops)
  pub loops : All (LoopRanges m) N.loops
  pub few-arrays : InRange 1 most_arrays (length N.arrays)
  pub arrays : All ArrayRanges N.arrays
  pub room : total N.arrays ≤ most_elements
  pub few-statements : InRange 1 most_statements (length N.statements)
  pub statements : All StatementRanges N.statements

-- the loops that a step names are among the m that are there when it is reached
abbrev pub StepThere : ℕ → Step → Type 0
StepThere m (exchange a) = suc a < m
StepThere m (reversal a) = a < m
StepThere m (skew a d c) = (suc (a + d) < m) × InRange 1 most_factor (nat_abs c)
StepThere m (section a w) = (a < m) × (m < most_loops) × InRange 2 256 w
StepThere m (circulation a b) = (a < m) × (b < m) × (a ≡ b → ⊥)

abbrev pub StepsThere : ℕ → List Step → Type 0
StepsThere m [] = Unit {0}
StepsThere m (t ∷ ts) = StepThere m t × StepsThere (depth_after t m) ts

pub record TicketRanges (T : Ticket) : Type 0 where
  pub nest : NestRanges ticket_loops ticket_limits T.nest
  pub few-steps : length T.steps ≤ 8
  pub steps : StepsThere (length T.nest.loops) T.steps
