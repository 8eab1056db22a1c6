-- The lines of a nest's listing: each is a dependence of the nest and each dependence has its line (`lines_of-exact`), once and in order; and their
-- vectors are the set that the steps are judged by (`lines_of-merged`).
use mathlib.Core.Logic.{◌↔◌}
use mathlib.Core.List.{List, map}
use lib.IntN.{ℤ}
use lib.ListN.{length}
use Rattle.integers.specs.Sign.{Sign}
use Rattle.lists.specs.Membership.{Mem, Distinct}
use Rattle.lists.specs.Order.{Ordered}
use Rattle.model.specs.Ticket.{Nest}
use Rattle.model.specs.Points.{iterations}
use Rattle.model.specs.Machine.{Instance, accesses}
use Rattle.model.specs.Directions.{Line}
use Rattle.model.specs.Judge.{directions_of}
use Rattle.model.specs.Listing.{lines_of}
use Rattle.model.specs.Promises.{Fitting, LineBefore, Dependence}
use Rattle.model.proofs.Points.PointLaws.{iterations-rise, iterations-length}
use Rattle.model.proofs.Machine.InstanceLaws.{comes_first-before, before-comes_first}
use Rattle.model.proofs.Listing.LineLaws.{clash-exact, line-exact, lines-ordered, lines-distinct, merged}

module _ (N : Nest) where
  pub lines_of-exact : (l : Line) → Mem l (lines_of N) ↔ (Fitting (length N.statements) (length N.loops) l × Dependence N l)
  unfolding lines_of
  lines_of-exact l = (to-dependence, from-dependence)
    where
      source : List ℤ → Instance
      source p = record { statement = l.source; iteration = p }

      sink : List ℤ → Instance
      sink q = record { statement = l.sink; iteration = q }

      to-dependence : Mem l (lines_of N) → Fitting (length N.statements) (length N.loops) l × Dependence N l
      to-dependence m =
          let r = (line-exact (accesses N.statements) (length N.statements) (length N.loops) (iterations N.loops) l).0 m in
          let s = r.1 in
          let c = (clash-exact N.statements l.kind (source s.early) (sink s.late)).0 s.clash in (
            r.0,
            record {
              early = s.early;
              late = s.late;
              early-there = s.early-there;
              late-there = s.late-there;
              order = comes_first-before (source s.early) (sink s.late) s.first;
              from = c.early;
              to = c.late;
              from-there = c.of-source;
              to-there = c.of-sink;
              meet = c.meet;
              vector = s.vector;
            },
          )

      from-dependence : Fitting (length N.statements) (length N.loops) l × Dependence N l → Mem l (lines_of N)
      from-dependence h = let r = h.1 in (line-exact (accesses N.statements) (length N.statements) (length N.loops) (iterations N.loops)
          l).1 (
            h.0,
            record {
              early = r.early;
              late = r.late;
              early-there = r.early-there;
              late-there = r.late-there;
              first = before-comes_first (source r.early) (sink r.late) r.order;
              clash = (clash-exact N.statements l.kind (source r.early) (sink r.late)).1
                  (record { early = r.from; late = r.to; of-source = r.from-there; of-sink = r.to-there; meet = r.meet });
              vector = r.vector;
            },
          )

  pub lines_of-ordered : Ordered LineBefore (lines_of N)
  unfolding lines_of
  lines_of-ordered = lines-ordered (accesses N.statements) (length N.statements) (length N.loops) (iterations N.loops)

  pub lines_of-distinct : Distinct (lines_of N)
  unfolding lines_of
  lines_of-distinct = lines-distinct (accesses N.statements) (length N.statements) (length N.loops) (iterations N.loops)

  pub lines_of-merged : (v : List Sign) → Mem v (map (λ l. l.vector) (lines_of N)) ↔ Mem v (directions_of N)
  unfolding lines_of directions_of
  lines_of-merged v = merged (accesses N.statements) (length N.statements) (length N.loops) (iterations N.loops)
      (iterations-rise N.loops) (iterations-length N.loops) v
