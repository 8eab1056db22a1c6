-- The nest that slices stand for, and its parts.
use Rattle.std.specs.Prelude.{List, ℕ, get_or}
use Rattle.model.specs.Ticket.{Access, Statement, Nest}
use Rattle.nest_flat.specs.Layout.{access_at, accesses_from}
use Rattle.ticket_lengths.specs.Slices.{statement_at, statements_at, nest_at}
use Rattle.ticket_encoding.specs.declared.NestSlices.{NestSlices}

-- access k of all
abbrev pub access_on : NestSlices → ℕ → Access
access_on S k = access_at S.words.now S.accessed.now S.extents.now S.depth k

-- m accesses from access k on
abbrev pub accesses_on : NestSlices → ℕ → ℕ → List Access
accesses_on S k m = accesses_from S.words.now S.accessed.now S.extents.now S.depth k m

-- statement i, if its first access is access k
abbrev pub statement_on : NestSlices → ℕ → ℕ → Statement
statement_on S i k = statement_at S.words.now S.accessed.now S.extents.now S.depth k (get_or S.sizes.now i 0) (get_or S.rules.now i 0)
    (get_or S.constants.now i 0)

-- all statements
abbrev pub statements_on : NestSlices → List Statement
statements_on S = statements_at S.words.now S.accessed.now S.extents.now S.depth S.rules.now S.constants.now 0 0 S.sizes.now

abbrev pub nest_on : NestSlices → Nest
nest_on S = nest_at S.limits.now S.counts.now S.depth S.arrays.now S.extents.now S.sizes.now S.rules.now S.constants.now S.accessed.now S.words.now
