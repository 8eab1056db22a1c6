-- A flat nest to meet preconditions with: a nest of one loop from 1 to 1 and one statement.
use Prim.Native.Nat.{ℕ}
use lib.IntN.{pos}
use lib.ListN.{replicate}
use Rattle.model.specs.Grammar.{nest_room, most_sides, most_extents, most_statements, most_accesses, most_words}
use Rattle.nest_flat.specs.FlatNests.{FlatNest}

-- with n accesses, all of one element; r is its rule and its constant
abbrev pub plain : ℕ → ℕ → FlatNest
plain n r = record {
  depth = 1;
  limits = replicate nest_room (pos 1);
  counts = replicate most_sides 1;
  arrays = 1;
  extents = replicate most_extents 1;
  statements = 1;
  sizes = replicate most_statements n;
  rules = replicate most_statements r;
  constants = replicate most_statements r;
  accesses = n;
  accessed = replicate most_accesses 0;
  words = replicate most_words (pos 0);
}
