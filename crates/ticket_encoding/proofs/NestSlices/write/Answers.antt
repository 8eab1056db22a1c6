-- `write`: the sections one after another, and the count of steps.
use Rattle.ticket_encoding.proofs.EncodeLaws.{loops-room, arrays-room, statements-room, steps-room, sections-written}
use Rattle.ticket_encoding.proofs.NestSlices.write.Goals as goal

pub write_loops-second-requires : goal.write_loops-second-requires
write_loops-second-requires c = (loops-room c.args.self.now c.requires, c.args.self.now.held.nest)

pub write_arrays-third-requires : goal.write_arrays-third-requires
write_arrays-third-requires c = (arrays-room c.args.self.now c.requires c.write_loops-second.ensures, c.args.self.now.held.written)

pub write_statements-fourth-requires : goal.write_statements-fourth-requires
write_statements-fourth-requires c = statements-room c.args.self.now c.requires c.write_loops-second.ensures c.write_arrays-third.ensures

pub write_word-requires : goal.write_word-requires
write_word-requires c = steps-room c.args.self.now c.requires
    c.write_loops-second.ensures c.write_arrays-third.ensures c.write_statements-fourth.ensures

pub returns : goal.returns
returns c = sections-written c.args.self.now c.requires c.write_loops-second.ensures
    c.write_arrays-third.ensures c.write_statements-fourth.ensures c.write_word.ensures
