-- `write_statement`: the rule, the constant, the write, the reads.
use native.Mathlib.Omega.{arith}
use Rattle.ticket_encoding.proofs.StatementLaws.{some-accesses, rule-room, constant-room, write-room, reads-room, statement-written}
use Rattle.ticket_encoding.proofs.NestSlices.write_statement.Goals as goal

pub write_word-second-requires : goal.write_word-second-requires
write_word-second-requires c = rule-room c.args.self.now c.args.i c.args.k c.requires.0

pub write_word-third-requires : goal.write_word-third-requires
write_word-third-requires c = constant-room c.args.self.now c.args.i c.args.k c.requires.0 c.write_word-second.ensures

pub write_access-fourth-requires : goal.write_access-fourth-requires
write_access-fourth-requires c = let s = some-accesses c.args.self.now c.args.i c.args.k c.requires.1 in let t = c.requires.2 in (
  write-room c.args.self.now c.args.i c.args.k c.requires.0 c.write_word-second.ensures c.write_word-third.ensures,
  omega arith,
)

pub overflow_sub-self : goal.overflow_sub-self
overflow_sub-self c = some-accesses c.args.self.now c.args.i c.args.k c.requires.1

pub write_accesses-requires : goal.write_accesses-requires
write_accesses-requires c = let s = some-accesses c.args.self.now c.args.i c.args.k c.requires.1 in let t = c.requires.2 in (
  reads-room c.args.self.now c.args.i c.args.k c.requires.0 c.write_word-second.ensures c.write_word-third.ensures
      c.write_access-fourth.ensures,
  omega arith,
)

pub returns : goal.returns
returns c = statement-written c.args.self.now c.args.i c.args.k c.requires.0 c.write_word-second.ensures c.write_word-third.ensures
    c.write_access-fourth.ensures c.write_accesses.ensures
