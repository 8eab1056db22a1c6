-- Flat slices (`nest_flat`, specs/Flat) with a nest's loops laid over them.
use Rattle.std.specs.Prelude.{List, [], ◌∷◌, ℕ, suc, ◌+◌, ◌*◌, ℤ, length, set}
use Rattle.lists.specs.Parts.{put}
use Rattle.model.specs.Ticket.{Limit, Loop, Subscript}
use Rattle.model.specs.Encode.{limit_words}
use Rattle.model.specs.Grammar.{row_room}

-- a constant and its coefficients
unfoldable pub affine_words : Subscript → List ℤ
affine_words f = f.constant ∷ f.coefficients

-- limits from limit j on
unfoldable pub lay_limits : List ℤ → ℕ → List Limit → List ℤ
lay_limits s j [] = s
lay_limits s j (l ∷ ls) = lay_limits (put s (j * row_room) (limit_words l)) (suc j) ls

unfoldable pub lay_loop : List ℤ → ℕ → Loop → List ℤ
lay_loop s k L = lay_limits (lay_limits s (k * 32) L.lower) (k * 32 + 16) L.upper

unfoldable pub lay_count : List ℕ → ℕ → Loop → List ℕ
lay_count c k L = set (set c (k * 2) (length L.lower)) (k * 2 + 1) (length L.upper)

-- loops from loop k on
unfoldable pub lay_loops : List ℤ → ℕ → List Loop → List ℤ
lay_loops s k [] = s
lay_loops s k (L ∷ N) = lay_loops (lay_loop s k L) (suc k) N

unfoldable pub lay_counts : List ℕ → ℕ → List Loop → List ℕ
lay_counts c k [] = c
lay_counts c k (L ∷ N) = lay_counts (lay_count c k L) (suc k) N
