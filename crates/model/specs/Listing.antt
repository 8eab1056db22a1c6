-- The listing as ASCII text: loops, iterations, lines; then a line for each direction.
use Rattle.std.specs.Prelude.{cond, ℕ, zero, suc, ◌+◌, ◌/◌, ◌%◌, ltb, length}
use mathlib.Core.List.{List, [], ◌∷◌, ◌++◌, map, flat_map}
use Rattle.integers.specs.Sign.{Sign, less, equal, greater}
use Rattle.model.specs.Ticket.{Nest}
use Rattle.model.specs.Points.{iterations}
use Rattle.model.specs.Machine.{accesses}
use Rattle.model.specs.Directions.{Kind, flow, anti, output, Line, lines}

-- a number in decimal, of at most f digits
unfoldable pub digits : ℕ → ℕ → List ℕ
digits zero n = []
digits (suc f) n = let front = digits f (n / 10) in cond (ltb n 10) ((48 + n) ∷ []) (front ++ ((48 + n % 10) ∷ []))

unfoldable pub decimal : ℕ → List ℕ
decimal n = digits (suc n) n

unfoldable pub letter : Kind → ℕ
letter flow = 70
letter anti = 65
letter output = 79

unfoldable pub sign_char : Sign → ℕ
sign_char less = 60
sign_char equal = 61
sign_char greater = 62

-- fields parted by one space, a newline after each line; statements count from 1
unfoldable pub line_text : Line → List ℕ
line_text l =
    letter l.kind ∷ 32 ∷ (decimal (suc l.source) ++ (32 ∷ (decimal (suc l.sink) ++ (32 ∷ (map sign_char l.vector ++ (10 ∷ []))))))

unfoldable pub head_text : ℕ → ℕ → ℕ → List ℕ
head_text loops points found = decimal loops ++ (32 ∷ (decimal points ++ (32 ∷ (decimal found ++ (10 ∷ [])))))

unfoldable pub lines_of : Nest → List Line
lines_of N = lines (accesses N.statements) (length N.statements) (length N.loops) (iterations N.loops)

unfoldable pub listing : Nest → List ℕ
listing N = head_text (length N.loops) (length (iterations N.loops)) (length (lines_of N)) ++ flat_map line_text (lines_of N)
