use mathlib.Core.Path.{sym, subst, ◌∙◌}
use mathlib.Core.List.{List}
use Prim.Native.Nat.{ℕ, ◌<◌}
use native.Mathlib.Omega.{arith}
use lib.IntN.{ℤ}
use Rattle.lists.proofs.MembershipLaws.{all_get_d}
use Rattle.pair_records.specs.Nests.{flat_of}
use Rattle.pair_records.specs.Conflicts.{records_between}
use Rattle.pair_records.specs.Windows.{Passes}
use Rattle.pair_records.proofs.PassLaws.{pass-first, pass-next, pass_all}
use Rattle.pair_records.proofs.pass_partners.Goals as goal

pub loop-i-init : goal.loop-i-init
loop-i-init c =
    let with : ℕ → List (List ℤ) = let a = c.args in records_between
    (flat_of a.nest.now) a.x in (
      omega arith,
      c.requires.2,
      pass-first with c.args.partners.now c.args.window
          c.args.found.now,
    )

pub pass_pair-w-requires : goal.pass_pair-w-requires
pass_pair-w-requires c = let l = c.loop-i in let e = c.from.ensures in
    let h = all_get_d (λ y. y < c.args.nest.now.count) c.args.partners.now l.i 0 c.requires.1 c.loop-i-test.true in
    (c.requires.0, omega arith, l.invariant.1)

pub loop-i-preserved : goal.loop-i-preserved
loop-i-preserved c =
    let with : ℕ → List (List ℤ) = let a = c.args in records_between
    (flat_of a.nest.now) a.x in
    let l = c.loop-i in let t = c.loop-i-test.true in
    let p = c.pass_pair-w in
    let f = p.new.found in (
      omega arith,
      p.auto.found ∙ l.invariant.1,
      pass-next with c.args.partners.now c.args.window c.args.found.now l.i l.w p.result l.found f t l.invariant.2
          (subst (λ y. Passes l.w l.found p.result f (with y)) c.from.ensures p.ensures),
    )

pub shape_of-found : goal.shape_of-found
shape_of-found c = c.loop-i.invariant.1 ∙ sym c.requires.2

pub returns : goal.returns
returns c =
    let with : ℕ → List (List ℤ) = let a = c.args in records_between
    (flat_of a.nest.now) a.x in
    let l = c.loop-i in
    pass_all with c.args.partners.now c.args.window c.args.found.now l.i l.w l.found c.loop-i-test.false l.invariant.2
