-- `begin_refused`: by the number of the refusal.
use mathlib.Core.Path.{◌≡◌, sym, ap, ap₂, ◌∙◌}
use Rattle.std.proofs.Common.{arith}
use Rattle.model.specs.Answer.{refused, number_in}
use Rattle.entry_packing.specs.Packed.{packed}
use Rattle.entry_reason.proofs.TicketLaws.{ten-at}
use Rattle.entry_reason.proofs.FinderLaws.{begun-without}
use Rattle.entry_reason.proofs.begin_refused.Goals as goal

pub begin_search-requires : goal.begin_search-requires
begin_search-requires c = let n = c.number in let t : n.result ≡ 10 = omega arith in
    ten-at c.args.ticket.now c.place.result (c.requires ∙ ap₂ refused (sym n.ensures
    ∙ t) (sym c.place.ensures))

pub returns : goal.returns
unfolding number_in
returns c = let n = c.number in let w = c.without_pairs.ensures in let f : n.result ≡ 10 → ⊥ = omega arith in
    begun-without c.args.ticket.now c.args.lent c.without_pairs.result
    (λ k e. f (n.ensures ∙ ap number_in (sym c.requires ∙ e))) (w.0 ∙ ap packed (sym c.requires)) w.1 w.2
