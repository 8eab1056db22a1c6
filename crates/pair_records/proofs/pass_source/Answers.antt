-- `pass_source`: the partners that are found are those of the definition.
use mathlib.Core.Path.{sym, ap₂, ◌∙◌, subst}
use mathlib.Core.List.{flat_map}
use Prim.Native.Nat.{◌<◌}
use native.Mathlib.Omega.{arith}
use lib.Seq.{length-take-le}
use Rattle.lists.specs.Membership.{All}
use Rattle.dependence_search.specs.Flat.{Flat}
use Rattle.pair_partners.specs.Partners.{partners}
use Rattle.pair_records.specs.Nests.{flat_of}
use Rattle.pair_records.specs.Conflicts.{records_between}
use Rattle.pair_records.specs.Windows.{Passes}
use Rattle.pair_records.specs.Walks.{records_from}
use Rattle.pair_records.proofs.StatementLaws.{numbers-length}
use Rattle.pair_records.proofs.WalkLaws.{partners-inside}
use Rattle.pair_records.proofs.pass_source.Goals as goal

pub slice_bounds-pass_partners-end-2 : goal.slice_bounds-pass_partners-end-2
slice_bounds-pass_partners-end-2 c = let f = c.find_partners-m in let k = f.auto.out in let r = f.ensures.0 in let h = c.requires.1 in
    sym (length-take-le f.result f.new.out (omega arith))

pub pass_partners-requires : goal.pass_partners-requires
pass_partners-requires c = let a = c.args in let f = c.find_partners-m in (
  c.requires.0,
  subst (All (λ y. y < a.nest.now.count)) (sym f.ensures.1)
      (partners-inside a.nest.now.numbers.now a.nest.now.writes.now a.nest.now.count a.nest.now.accesses a.nest.now.moved_depth a.nest.now.moved.now a.x),
  c.requires.2,
)

pub returns : goal.returns
unfolding records_from
returns c = let a = c.args in
    let p = c.pass_partners in
    let e = sym (numbers-length 0 a.nest.now.sizes.now ∙ c.args.nest.now.walkable.all-accesses) in
    let F : Flat = flat_of a.nest.now in
    subst (λ l. Passes a.window a.found.now p.result p.new.found (flat_map (records_between F a.x) l))
    (c.find_partners-m.ensures.1
    ∙ ap₂ (λ ws m. partners a.nest.now.numbers.now ws a.nest.now.count m a.nest.now.moved_depth a.nest.now.moved.now a.x) c.args.nest.now.walkable.writes_are e) p.ensures
