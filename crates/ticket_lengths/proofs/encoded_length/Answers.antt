-- `encoded_length`: the words of the sections and the count of steps, two bytes each.
use Rattle.ticket_lengths.specs.Lengths.{nest_length}
use borrow.Author.Rules.{rules}
use Rattle.ticket_lengths.proofs.encoded_length.Goals as goal

pub returns : goal.returns
unfolding nest_length
returns c = search rules
