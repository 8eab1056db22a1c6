-- Words written into a buffer: what a writer asks for, and what it leaves.
use Rattle.std.specs.Prelude.{◌≡◌, List, ℕ, ◌+◌, ◌*◌, ◌≤◌, ℤ, length}
use Rattle.lists.specs.Membership.{All}
use Rattle.lists.specs.Parts.{put}
use Rattle.model.specs.Words.{bytes_of}
use Rattle.model.specs.Ranges.{Small}

-- these words can be written from place `at` on
pub record Writable (o : List ℕ) (at : ℕ) (ws : List ℤ) : Type 0 where
  pub room : at + length ws * 2 ≤ length o
  pub small : All Small ws

-- they were: o became o', and the next place is r
pub record Written (o o' : List ℕ) (at : ℕ) (ws : List ℤ) (r : ℕ) : Type 0 where
  pub same : o' ≡ put o at (bytes_of ws)
  pub next : r ≡ at + length ws * 2
