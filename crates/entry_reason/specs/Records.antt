-- The records of a ticket, as the lent list has them, and the tool's answer in one number.
use Rattle.std.specs.Prelude.{cond, List, [], map, ℕ, eqb}
use Rattle.model.specs.Answer.{Answer, accepted, refused}
use Rattle.model.specs.Grammar.{decode}
use Rattle.model.specs.Judge.{admit_of}
use Rattle.model.specs.Entries.{judge}
use Rattle.model.specs.Pairs.{Record, record_of, traded_at, Reason, verdict, table_alone, pairs}
use Rattle.entry_packing.specs.Packed.{fields, packed}
use Rattle.entry_reason.specs.declared.Pair.{Pair}

-- the model's record that a struct holds
unfoldable pub record_in : Pair → Record
record_in p = record {
  source = p.source;
  sink = p.sink;
  source-statement = p.source_statement;
  sink-statement = p.sink_statement;
  kind = p.kind;
}

unfoldable pub pair_of : Record → Pair
pair_of r = record {
  source = r.source;
  sink = r.sink;
  source_statement = r.source-statement;
  sink_statement = r.sink-statement;
  kind = r.kind;
}

abbrev pub records_in : List Pair → List Record
records_in l = map record_in l

-- the records of all pairs: none but where judge answers 10
unfoldable pub records_at : Answer ℕ → (ℕ → List Record) → List Record
records_at (accepted n) found = []
records_at (refused n p) found = cond (eqb n 10) (found p) []

unfoldable pub records_found : List ℕ → List Record
records_found b = records_at (judge b) (λ k. map record_of (traded_at (admit_of (decode b)) k))

unfoldable pub found_in : List ℕ → List Pair
found_in b = map pair_of (records_found b)

-- pairs are number 0, the step and their count; by the table alone is number 0, the step and 0
unfoldable pub packed_reason : Reason → ℕ
packed_reason (verdict a) = packed a
packed_reason (table_alone k) = fields 0 k 0
packed_reason (pairs k c) = fields 0 k c
