-- Tickets with what the reason tool answers, and how it leaves the list that it is lent. `proofs/CaseLaws` computes them.
use Rattle.std.specs.Prelude.{List, [], ◌∷◌, ◌++◌, ℕ}
use Prim.Native.String.{String}
use Rattle.model.specs.Answer.{accepted, refused}
use Rattle.model.specs.Pairs.{Record, verdict, table_alone, pairs}
use Rattle.model.specs.Cases.{words, ticket, Case, explains, nest2, nest3, case1}

-- the letters of the kinds
abbrev F : ℕ
F = 70

abbrev A : ℕ
A = 65

abbrev O : ℕ
O = 79

-- source and sink iteration, their statements, the kind
abbrev shown : String → String → ℕ → ℕ → ℕ → Record
shown p q s t k = record { source = words p; sink = words q; source-statement = s; sink-statement = t; kind = k }

-- what a lent record holds before
abbrev lent : Record
lent = shown "7 7 7 7" "8 8 8 8" 9 9 9

unfoldable pub reason_cases : List Case
reason_cases =
    -- case 1: two pairs; a third record is as it was, one record is the first, and none needs to be lent
    record {
      bytes = case1;
      question = explains (lent ∷ lent ∷ lent ∷ []) (pairs 1 2)
          (shown "0 1 0 0" "1 0 0 0" 1 1 O ∷ shown "0 2 0 0" "1 1 0 0" 1 1 O ∷ lent ∷ []);
    }
    ∷ record { bytes = case1; question = explains (lent ∷ []) (pairs 1 2) (shown "0 1 0 0" "1 0 0 0" 1 1 O ∷ []) }
    ∷ record { bytes = case1; question = explains [] (pairs 1 2) [] }
    -- case 3 skewed by 1 and exchanged
    ∷ record { bytes = nest3 ++ ticket "2 3 1 2 1 1 1 2 0"; question = explains (lent ∷ []) (table_alone 2) (lent ∷ []) }
    -- i 0..2, A(0) = A(0) + A(0), reversed: F, A and O for each pair of iterations, once
    ∷ record {
      bytes = ticket "1 1 1 0 1 1 2 1 1 1 1 1 0 1 0 0 2 1 0 0 1 0 0 1 2 1 0 0";
      question = explains (lent ∷ lent ∷ lent ∷ lent ∷ []) (pairs 1 9)
          (shown "0 0 0 0" "1 0 0 0" 1 1 F ∷ shown "0 0 0 0" "1 0 0 0" 1 1 A ∷ shown "0 0 0 0" "1 0 0 0" 1 1 O
          ∷ shown "0 0 0 0" "2 0 0 0" 1 1 F ∷ []);
    }
    -- i 0..3, A(0) = 0, reversed: all sinks of a source before the next source
    ∷ record {
      bytes = ticket "1 1 1 0 1 1 3 1 1 1 1 1 0 1 0 0 0 1 2 1 0 0";
      question = explains (lent ∷ lent ∷ lent ∷ lent ∷ []) (pairs 1 6)
          (shown "0 0 0 0" "1 0 0 0" 1 1 O ∷ shown "0 0 0 0" "2 0 0 0" 1 1 O ∷ shown "0 0 0 0" "3 0 0 0" 1 1 O
          ∷ shown "1 0 0 0" "2 0 0 0" 1 1 O ∷ []);
    }
    -- i 0..2, A(0) = 0 and A(0) = 1, reversed: the statements within the sink's iteration
    ∷ record {
      bytes = ticket "1 1 1 0 1 1 2 1 1 1 2 1 0 1 0 0 0 1 1 1 0 0 0 1 2 1 0 0";
      question = explains (lent ∷ lent ∷ lent ∷ lent ∷ lent ∷ []) (pairs 1 12)
          (shown "0 0 0 0" "1 0 0 0" 1 1 O ∷ shown "0 0 0 0" "1 0 0 0" 1 2 O ∷ shown "0 0 0 0" "1 0 0 0" 2 1 O
          ∷ shown "0 0 0 0" "1 0 0 0" 2 2 O ∷ shown "0 0 0 0" "2 0 0 0" 1 1 O ∷ []);
    }
    -- reversed twice: explained by the first step
    ∷ record { bytes = nest2 ++ ticket "2 2 2 0 0 2 2 0 0"; question = explains [] (pairs 1 6) [] }
    -- i 0..3, A(i+2) = A(i), sections of 2 exchanged: by the table alone; A(i+1) = A(i): one pair
    ∷ record { bytes = ticket "1 1 1 0 1 1 3 1 1 6 1 1 0 1 2 1 1 1 0 1 2 4 1 2 0 1 1 2 0"; question = explains [] (table_alone 2) [] }
    ∷ record {
      bytes = ticket "1 1 1 0 1 1 3 1 1 5 1 1 0 1 1 1 1 1 0 1 2 4 1 2 0 1 1 2 0";
      question = explains (lent ∷ []) (pairs 2 1) (shown "1 0 0 0" "2 0 0 0" 1 1 F ∷ []);
    }
    -- no 10: the judge's answer
    ∷ record { bytes = nest2 ++ ticket "1 1 1 2 0"; question = explains (lent ∷ []) (verdict (accepted 9)) (lent ∷ []) }
    ∷ record { bytes = []; question = explains (lent ∷ []) (verdict (refused 1 1)) (lent ∷ []) }
    ∷ []
