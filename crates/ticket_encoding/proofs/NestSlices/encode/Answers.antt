-- `encode`: the length is known before the first write.
use Rattle.ticket_lengths.proofs.LengthLaws.{length-in, length-is}
use Rattle.ticket_encoding.proofs.EncodeLaws.{nest-writable, nest-written, nest-long}
use Rattle.ticket_encoding.proofs.NestSlices.encode.Goals as goal

pub encoded_length-needed-requires : goal.encoded_length-needed-requires
encoded_length-needed-requires c = length-in _ _ _ _ _ _ _ _ _ _ c.args.self.now.held

pub returns-then-out-needed : goal.returns-then-out-needed
returns-then-out-needed c = nest-long _ c.args.out.now _
    (length-is _ _ _ _ _ _ _ _ _ _ c.args.self.now.held c.encoded_length-needed.ensures) c.if-out-needed.true

pub write-requires : goal.write-requires
write-requires c = nest-writable _ c.args.out.now _
    (length-is _ _ _ _ _ _ _ _ _ _ c.args.self.now.held c.encoded_length-needed.ensures) c.if-out-needed.false c.requires

pub returns : goal.returns
returns c = nest-written _ c.args.out.now _
    (length-is _ _ _ _ _ _ _ _ _ _ c.args.self.now.held c.encoded_length-needed.ensures) c.if-out-needed.false c.write.ensures
