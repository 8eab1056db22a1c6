-- `encode_flat_nest`: the parts of the flat nest that are in use.
use Rattle.ticket_encoding.proofs.EncodeLaws.{flat-nest-small, flat-nest-encodes}
use Rattle.ticket_encoding.proofs.encode_flat_nest.Goals as goal

pub encode-requires : goal.encode-requires
encode-requires c = flat-nest-small _ c.requires

pub returns : goal.returns
returns c = flat-nest-encodes _ c.args.out.now _ c.encode.result c.encode.ensures
