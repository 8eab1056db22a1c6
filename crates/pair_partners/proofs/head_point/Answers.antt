use mathlib.Core.Path.{◌≡◌, refl, sym, ap, ap₂, ◌∙◌, subst}
use mathlib.Core.Bool.{true, false, ◌||◌}
use mathlib.Core.List.{List}
use Prim.Native.Nat.{ℕ, ◌+◌, ◌≤◌}
use native.Mathlib.Omega.{arith}
use lib.ListN.{length, length-set, get_or}
use Rattle.pair_partners.proofs.ChainLaws.{Heading, heading-none, heading-more, heading-same}
use Rattle.pair_partners.proofs.head_point.Goals.{then-all, then-all-via-then-all, then-all-via-else-all+then-nest-k, else-all+else-nest-k}
use Rattle.pair_partners.proofs.head_point.Goals as goal

pub loop-k-init : goal.loop-k-init
loop-k-init c = let n = c.args.nest.now in (
  omega arith,
  refl,
  heading-none n.numbers.now n.writes.now n.count c.args.all c.args.heads.now c.args.x,
)

pub bounds-nest-k : goal.bounds-nest-k
bounds-nest-k c = let w = c.args.nest.now.table.writes in let t = c.loop-k-test.true in omega arith

pub overflow_cast-heads : goal.overflow_cast-heads
overflow_cast-heads c = let f = c.requires.0.few-points in let l = c.requires.1 in omega arith

pub offset_bounds-heads-from : goal.offset_bounds-heads-from
offset_bounds-heads-from c = let b = c.requires.0.below c.loop-k.k c.args.x c.loop-k-test.true c.requires.1 in
    let f = c.requires.0.few-elements in let e = c.from.ensures in let d = c.number.ensures in omega arith

pub bounds-heads-from : goal.bounds-heads-from
bounds-heads-from c = let b = c.requires.0.below c.loop-k.k c.args.x c.loop-k-test.true c.requires.1 in
    let e = c.from.ensures in let d = c.number.ensures in let i = c.loop-k.invariant.1 in omega arith

pub returns : goal.returns
returns c = let l = c.loop-k in let i = l.invariant.0 in let t = c.loop-k-test.false in
    let n = c.args.nest.now in let e : l.k ≡ n.accesses = omega arith in
    subst (Heading n.numbers.now n.writes.now n.count c.args.all c.args.heads.now l.heads c.args.x) e l.invariant.2

pub loop-k-preserved : goal.loop-k-preserved
loop-k-preserved c =
    let a = c.args in let n = a.nest.now in let l = c.loop-k in let t = c.loop-k-test.true in
    let kept : List ℕ → Type 0 = λ z. (l.k + 1 ≤ n.accesses) × (length z ≡ length a.heads.now)
    × Heading n.numbers.now n.writes.now n.count a.all a.heads.now z a.x (l.k + 1) in
    elim c.if-all.branch [
      | then-all w ↦ let i = l.invariant.1 in
          let counts : (a.all || get_or n.writes.now l.k false) ≡ true = elim w.then-all.branch [
            | then-all-via-then-all v ↦ ap (◌|| get_or n.writes.now l.k false) v.if-all.true
            | then-all-via-else-all+then-nest-k v ↦ ap₂ ◌||◌ v.if-all.false v.if-nest-k.true
          ] in
          let b = c.requires.0.below l.k a.x t c.requires.1 in let d = w.number.ensures in let e = w.from.ensures in
          subst kept (sym w.heads-is) (
            omega arith,
            length-set l.heads w.from.result _ ∙ i,
            heading-more n.numbers.now n.writes.now n.count a.all a.heads.now l.heads a.x l.k w.from.result _ i
                (omega arith) (e ∙ d) (omega arith) counts l.invariant.2,
          )
      | else-all+else-nest-k w ↦ subst kept (sym w.heads-is) (
        omega arith,
        l.invariant.1,
        heading-same n.numbers.now n.writes.now n.count a.all a.heads.now l.heads a.x l.k
            (ap₂ ◌||◌ w.if-all.false w.if-nest-k.false) l.invariant.2,
      )
    ]
