-- Close readings of document 01, each with the ticket that tells it from another reading (docs/DECISIONS.md), and rows that pin what no theorem does
-- (docs/PROOFS.md). `proofs/CaseLaws` computes them.
use Rattle.std.specs.Prelude.{List, [], ◌∷◌, ◌++◌, ℕ}
use Rattle.model.specs.Answer.{accepted, refused}
use Rattle.model.specs.Quick.{apart, perhaps}
use Rattle.model.specs.Cases.{words, ticket, text, Case, judges, lists, writes, tests, runs, nest2}

-- i 0..2, A(i) = 1; the steps follow
abbrev plain : List ℕ
plain = ticket "1 1 1 0 1 1 2 1 1 3 1 1 1 1 0 1 0"

-- i 0..3, A(i) = B(i) and C(i) = A(i): accesses 1 and 4 are of A
abbrev three : List ℕ
three = ticket "1 1 1 0 1 1 3 3 1 4 1 4 1 4 2 3 0 1 0 1 1 2 0 1 3 0 3 0 1 1 1 0 1 0"

-- i 0..1, j 0..2, k 0..3, A(i,j,k) = A(i,j,k)
abbrev box : List ℕ
box = ticket "3 1 1 0 1 1 1 1 1 0 0 1 1 2 0 1 1 0 0 0 1 1 3 0 0 1 3 2 3 4 1 3 0 1 0 1 0 0 0 0 1 0 0 0 0 1 1 1 0 1 0 0 0 0 1 0 0 0 0 1"

-- ---- close readings

unfoldable pub readings : List Case
readings =
    -- order of the new outer limits: products stand where their limit stood, before a kept one
    record {
      bytes = ticket "2 2 1 0 1 -1 1 1 0 2 1 -1 1 1 0 0 1 1 0 0 1 1 1 1 1 1 1 0 0 0 0 1 1 1 2 0";
      question = writes (words "2 3 1 -1 1 -2 1 0 1 1 0 2 1 0 0 1 -1 0 2 1 0 0 1 1 1 1 1 1 1 1 1 1 0 0 0 0 0");
    }
    -- a negative coefficient combines with the other side of I and stays on J's side
    ∷ record {
      bytes = ticket "2 1 1 0 1 1 2 1 1 0 -1 1 1 2 0 1 2 3 5 1 1 1 1 0 1 0 2 0 1 0 1 1 1 2 0";
      question = writes (words "2 1 1 -2 1 1 2 2 1 0 0 1 0 -1 1 1 2 0 1 2 3 5 1 1 1 1 0 0 1 2 1 0 0 0");
    }
    -- an exchange whose a is the last loop offends at b: 6 at the step
    ∷ record { bytes = plain ++ ticket "1 1 1 2 0"; question = judges (refused 6 1) }
    -- there −32768 is 4 at the word b
    ∷ record { bytes = plain ++ ticket "1 1 1 -32768 0"; question = judges (refused 4 21) }
    -- and a missing b is 1
    ∷ record { bytes = plain ++ ticket "1 1 1"; question = judges (refused 1 21) }
    -- loop number 0, and one past the nest, are 6; −32768 is 4
    ∷ record { bytes = plain ++ ticket "1 2 0 0 0"; question = judges (refused 6 1) }
    ∷ record { bytes = plain ++ ticket "1 2 2 0 0"; question = judges (refused 6 1) }
    ∷ record { bytes = plain ++ ticket "1 2 -32768 0 0"; question = judges (refused 4 20) }
    -- −32768 in a count is 3
    ∷ record { bytes = ticket "-32768 1 1 0 1 1 2 1 1 3 1 1 1 1 0 1 0 0"; question = judges (refused 3 1) }
    -- a seventh loop shows before the width, here 1
    ∷ record {
      bytes = ticket "4 1 1 0 1 1 0 1 1 0 0 1 1 0 0 1 1 0 0 0 1 1 0 0 0 1 1 0 0 0 0 1 1 0 0 0 0 1 1 1 1 1 1 1 0 0 0 0 0 0"
          ++ ticket "3 4 1 2 0 4 1 2 0 4 1 1 0";
      question = judges (refused 6 3);
    }
    -- reversing twice is refused if once is
    ∷ record { bytes = nest2 ++ ticket "2 2 2 0 0 2 2 0 0"; question = judges (refused 10 1) }
    -- a circulation to its own place is 6 at the word b, though c is missing
    ∷ record { bytes = ticket "1 1 1 0 1 1 0 1 1 1 1 1 0 1 0 0 0 1 5 1 1"; question = judges (refused 6 1) }
    -- of a circulation 10 comes first, though its first exchange alone is 12
    ∷ record {
      bytes = ticket "3 1 1 -1 1 1 0 2 1 0 0 1 -32767 1 1 1 0 0 1 1 0 0 0 1 1 1 0 0 1 1 1 1 1 0 1 0 0 0 0 0 1 5 1 3 0";
      question = judges (refused 10 1);
    }
    -- a side of more than 16 limits in the midst of a circulation is 11, though at its end none has more
    ∷ record {
      bytes = ticket "4 1 1 0 1 1 0 3 1 0 1 1 0 2 1 0 3 1 1 0 0 2 1 0 0 0 1 0 3 0 1 1 0 0 0 4 1 0 -12 1 1 1 0 -6 1 1 1 0 0 1 1 1 0 6 1 1"
          ++ ticket "1 1 0 0 0 0 1 1 1 1 1 0 1 0 0 0 0 0 0 1 5 4 1 0";
      question = judges (refused 11 1);
    }
    -- the innermost loop moved out: those between close up
    ∷ record {
      bytes = box ++ ticket "1 5 3 1 0";
      question = writes (words "3 1 1 0 1 1 3 1 1 0 0 1 1 1 0 1 1 0 0 0 1 1 2 0 0 1 3 2 3 4 1 3 0 1 0 0 1 0 0 0 0 1 0 1 0 0"
          ++ words "1 1 0 0 1 0 0 0 0 1 0 1 0 0 0");
    }
    -- the empty ticket is torn at word 1
    ∷ record { bytes = []; question = judges (refused 1 1) }
    -- run gives 15 before 16
    ∷ record { bytes = ticket "1 1 1 0 1 1 2 1 1 3 1 0 0 1 0 1 0 0"; question = runs [] (refused 15 1) [] }
    ∷ []

-- ---- further cases

unfoldable pub further_cases : List Case
further_cases =
    -- I takes J's lower limits before its upper ones
    record {
      bytes = ticket "2 1 1 0 1 1 2 1 1 0 -1 1 1 0 1 1 2 3 5 1 1 1 1 0 1 0 2 0 1 0 1 1 1 2 0";
      question = writes (words "2 1 1 -2 1 1 2 3 1 0 0 1 0 -1 1 0 1 1 1 2 0 1 2 3 5 1 1 1 1 0 0 1 2 1 0 0 0");
    }
    -- a skew by 1 adds the outer index to the inner one: limits and subscripts
    ∷ record {
      bytes = ticket "2 1 1 0 1 1 1 1 1 0 0 1 1 1 0 1 2 2 2 1 1 1 1 0 1 0 0 0 1 0 1 3 1 2 1";
      question = writes (words "2 1 1 0 1 1 1 1 1 0 1 1 1 1 1 1 2 2 2 1 1 1 1 0 1 0 0 -1 1 0 0");
    }
    -- a bad count of dimensions is 3
    ∷ record { bytes = ticket "1 1 1 0 1 1 3 1 4 4"; question = judges (refused 3 9) }
    -- bytes that follow begin at the word after the last step
    ∷ record { bytes = plain ++ ticket "0 9"; question = judges (refused 2 19) }
    -- words are little-endian: case 8 byte by byte
    ∷ record {
      bytes = (1 ∷ 0 ∷ 1 ∷ 0 ∷ 1 ∷ 0 ∷ 0 ∷ 0 ∷ 1 ∷ 0 ∷ 1 ∷ 0 ∷ 255 ∷ 255 ∷ [])
          ++ (1 ∷ 0 ∷ 1 ∷ 0 ∷ 1 ∷ 0 ∷ 1 ∷ 0 ∷ 1 ∷ 0 ∷ 1 ∷ 0 ∷ 1 ∷ 0 ∷ 0 ∷ 0 ∷ 1 ∷ 0 ∷ 0 ∷ 0 ∷ 0 ∷ 0 ∷ []);
      question = judges (accepted 0);
    }
    -- numbers of two digits; the source before the sink; F before A
    ∷ record {
      bytes = ticket "1 1 1 0 1 1 11 2 1 12 1 12 2 3 0 1 0 1 1 2 0 1 3 0 2 0 1 1 1 0 1 0";
      question = lists (text "1 12 2\nF 1 2 =\nA 1 2 =\n");
    }
    -- quick: i 0..3, A(2i) and A(2i+1) by the divisor; A(i) and A(i+4) by the ranges; not A(i) and A(i+3)
    ∷ record { bytes = ticket "1 1 1 0 1 1 3 1 1 8 1 3 0 1 0 2 1 1 1 2 0"; question = tests 1 2 (accepted apart) }
    ∷ record { bytes = ticket "1 1 1 0 1 1 3 1 1 8 1 3 0 1 0 1 1 1 4 1 0"; question = tests 1 2 (accepted apart) }
    ∷ record { bytes = ticket "1 1 1 0 1 1 3 1 1 8 1 3 0 1 0 1 1 1 3 1 0"; question = tests 1 2 (accepted perhaps) }
    -- accesses are numbered in ticket order, each statement's write first; there is no fifth
    ∷ record { bytes = three; question = tests 1 4 (accepted perhaps) }
    ∷ record { bytes = three; question = tests 1 5 (refused 4 0) }
    -- least and greatest are cut to ±32767: i 1..2, j 2i..2i−1, k 20000 + 20000 i, A(k − 32767) and A(0)
    ∷ record {
      bytes = ticket "3 1 1 1 1 1 2 1 1 0 2 1 1 -1 2 1 1 20000 20000 0 1 1 20000 20000 0 1 1 1 1 3 0 1 -32767 0 0 1 1 1 0 0 0 0 0";
      question = tests 1 2 (accepted perhaps);
    }
    -- rules 2, 1 and 3 on A(2,3) and B(1): A(1,0) = max(A(0,1), A(0,2), 4); B(0) = A(0,1) + A(0,2) + 7; A(1,2) = A(0,2)
    ∷ record {
      bytes = ticket "1 1 1 0 1 1 0 2 2 2 3 1 1 3 2 4 1 1 0 0 0 2 1 0 0 1 0 1 0 0 2 0"
          ++ ticket "1 7 2 0 0 2 1 0 0 1 0 1 0 0 2 0 3 0 1 1 0 2 0 2 1 0 0 2 0 2 0 0 0";
      question = runs (0 ∷ 5 ∷ 4294967295 ∷ 10 ∷ 11 ∷ 12 ∷ 99 ∷ []) (accepted 1) (0 ∷ 5 ∷ 4294967295 ∷ 4294967295 ∷ 11 ∷ 4294967295 ∷ 11 ∷ []);
    }
    ∷ []
