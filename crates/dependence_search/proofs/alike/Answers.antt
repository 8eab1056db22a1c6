-- `alike`: of one statement, both written or both read, and of equal numbers.
use mathlib.Core.Path.{sym, ◌∙◌}
use Rattle.std.proofs.lemmas.Slice.Eq.{slice_eq-Decides}
use Rattle.std.proofs.lemmas.Bool.Decides.{Decides-eqb}
use Rattle.dependence_search.proofs.FlatLaws.{flags-equal}
use Rattle.dependence_search.proofs.alike.Goals as goal

pub returns : goal.returns
returns c = λ e. record {
  statement = c.if-nest-a.false;
  way = flags-equal _ _ c.if-nest-a-2.false;
  elements = sym c.numbers_of.ensures ∙ (slice_eq-Decides Decides-eqb _ _ _ c.eq.ensures).0 e ∙ c.numbers_of-2.ensures;
}
