-- `write_loop`: the lower side, the upper side.
use Rattle.ticket_encoding_words.proofs.SectionLaws.{lower_in, upper_in, lower-room, upper-room, loop-written}
use Rattle.ticket_encoding_words.proofs.write_loop.Goals as goal

pub write_side-next-requires : goal.write_side-next-requires
write_side-next-requires c = let p = c.requires.1
    in (lower-room _ _ _ p c.requires.0, lower_in _ _ _ p)

pub write_side-requires : goal.write_side-requires
write_side-requires c = let p = c.requires.1
    in (upper-room _ _ _ p c.requires.0 c.write_side-next.ensures, upper_in _ _ _ p)

pub returns : goal.returns
returns c = loop-written
    c.args.limits.now c.args.counts.now c.args.k c.requires.1 c.requires.0
    c.write_side-next.ensures c.write_side.ensures
