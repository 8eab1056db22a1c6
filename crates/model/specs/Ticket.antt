-- What a ticket holds. Loops, arrays, statements and places are counted from 0 here and from 1 in document 01's words and answers.
use Rattle.std.specs.Prelude.{List, ℕ, ℤ}

-- multiplier × index against constant + coefficients · indices of the loops outside
pub record Limit : Type 0 where
  pub multiplier : ℕ
  pub constant : ℤ
  pub coefficients : List ℤ

pub record Loop : Type 0 where
  pub lower : List Limit
  pub upper : List Limit

-- constant + coefficients · indices of all loops
pub record Subscript : Type 0 where
  pub constant : ℤ
  pub coefficients : List ℤ

pub record Access : Type 0 where
  pub array : ℕ
  pub subscripts : List Subscript

-- rule 0 is opaque; a statement has one write in document 01
pub record Statement : Type 0 where
  pub rule : ℕ
  pub constant : ℕ
  pub writes : List Access
  pub reads : List Access

pub data Step : Type 0 where
  -- loop a and the next
  exchange : ℕ → Step
  reversal : ℕ → Step
  -- by loop a, times a factor, the loop d + 1 places inside it
  skew : ℕ → ℕ → ℤ → Step
  -- loop a by width w
  section : ℕ → ℕ → Step
  -- loop a goes to place b, and those between close up
  circulation : ℕ → ℕ → Step

-- an array is the list of its extents
pub record Nest : Type 0 where
  pub loops : List Loop
  pub arrays : List (List ℕ)
  pub statements : List Statement

pub record Ticket : Type 0 where
  pub nest : Nest
  pub steps : List Step
