-- What reading limits, sides and loops gives: the model's answer, and slices that it is laid over. Of a refused section the parts before
-- the refusal are laid.
use Rattle.std.specs.Prelude.{◌≡◌, List, ℕ, ◌+◌, ◌*◌, ◌≤◌, ℤ, length, take, Result, IfOk}
use Rattle.lists.specs.Membership.{All}
use Rattle.integers.specs.Affine.{Within}
use Rattle.model.specs.Ticket as Model
use Rattle.model.specs.Grammar.{side, loop, most_loops, ticket_limits, most_sides, row_room, nest_room}
use Rattle.model.specs.Shape.{Sized}
use Rattle.model.specs.Ranges.{LimitRanges, SubscriptRanges}
use Rattle.ticket_refusals.specs.declared.Refusal.{Refusal}
use Rattle.ticket_words.specs.Reads.{Reads}
use Rattle.ticket_words.specs.declared.Words.{Words}
use Rattle.ticket_loops.specs.declared.Affine.{Affine}
use Rattle.ticket_loops.specs.declared.Limit.{Limit}
use Rattle.ticket_loops.specs.Laid.{lay_limits, lay_loop, lay_count}

-- ---- a constant and coefficients of n loops

unfoldable pub affine_of : ℕ → Affine → Model.Subscript
affine_of n f = record { constant = f.constant; coefficients = take n f.coefficients }

-- counts within the arrays
pub record AffineIn (f : Affine) : Type 0 where
  pub room : length f.coefficients ≡ most_loops

-- they can be laid from word `at` on; `room` is the number of words
pub record LayAffineIn (room at n : ℕ) (f : Affine) : Type 0 where
  pub fits : at + 1 + n ≤ room
  pub shallow : n ≤ most_loops
  pub within : AffineIn f
  pub ranges : SubscriptRanges (affine_of n f)

-- ---- one limit; n loops stand outside

unfoldable pub limit_of : ℕ → Limit → Model.Limit
limit_of n l = record { multiplier = l.multiplier; constant = l.constant; coefficients = take n l.coefficients }

-- counts within the arrays
pub record LimitIn (l : Limit) : Type 0 where
  pub room : length l.coefficients ≡ most_loops

-- a limit can be laid; `room` is the number of words
pub record LayLimitIn (room j outer : ℕ) (l : Limit) : Type 0 where
  pub fits : j * row_room + row_room ≤ room
  pub shallow : outer ≤ most_loops
  pub within : LimitIn l
  pub ranges : LimitRanges (limit_of outer l)

-- ---- sides and loops

-- limits of a side are to be laid from limit j on; `room` is the number of words
pub record SideIn (outer j room : ℕ) : Type 0 where
  pub shallow : outer ≤ most_loops
  pub fits : (j + ticket_limits) * row_room ≤ room

pub record ReadsSide (outer j : ℕ) (o : Words) (w w' : List ℤ) (r : Result ℕ Refusal) (e : Words) : Type 0 where
  pub limits : List Model.Limit
  pub reads : Reads (λ (n : ℕ). limits) (side ticket_limits outer) o r e
  pub laid : w' ≡ lay_limits w j limits
  pub count : IfOk r (λ n. n ≡ length limits)
  pub few : length limits ≤ ticket_limits
  pub sized : Sized outer limits
  pub ranges : All LimitRanges limits

-- slices that hold a nest
pub record Room (w : List ℤ) (c : List ℕ) : Type 0 where
  pub words : length w ≡ nest_room
  pub counts : length c ≡ most_sides
  pub small : Within 32767 w

pub record ReadsLoop (k : ℕ) (o : Words) (w w' : List ℤ) (c c' : List ℕ) (r : Result (Unit {0}) Refusal) (e : Words) : Type 0 where
  pub body : Model.Loop
  pub reads : Reads (λ (u : Unit {0}). body) (loop ticket_limits k) o r e
  pub laid : IfOk r (λ u. (w' ≡ lay_loop w k body) × (c' ≡ lay_count c k body))
  pub room : Room w' c'
