use mathlib.Core.Path.{◌≡◌, refl, sym, ◌∙◌, subst}
use mathlib.Core.Bool.{true, false}
use mathlib.Core.List.{List}
use Prim.Native.Nat.{ℕ, ◌+◌, ◌≤◌}
use native.Mathlib.Omega.{arith}
use lib.ListN.{length, get_or, length-set}
use Rattle.lists.proofs.PartLaws.{row_fits}
use Rattle.pair_partners.specs.Chains.{number_at}
use Rattle.pair_partners.specs.Partners.{meets_access}
use Rattle.pair_partners.proofs.ChainLaws.{names_at, link-next, Advancing, advance-set, advance-keep}
use Rattle.pair_partners.proofs.advance_chains.Goals.{else-from-y, then-from-y}
use Rattle.pair_partners.proofs.advance_chains.Goals as goal

pub overflow_mul-at : goal.overflow_mul-at
overflow_mul-at c = let n = c.args.tables.now in let f = row_fits n.accesses c.args.y n.count c.requires.1 in
    let r = c.args.tables.now.links.named-room in omega arith

pub loop-k-init : goal.loop-k-init
loop-k-init c = (omega arith, refl, (λ j h. absurd (omega arith), λ j a b. c.requires.3 j b))

pub access_naming-j-requires : goal.access_naming-j-requires
access_naming-j-requires c = let a = c.args in
    let n = a.tables.now in
    let l = c.loop-k in
    let e : get_or l.chains l.k 0 ≡ a.y = sym c.from.ensures ∙ c.if-from-y.true in
    let f = l.invariant.2.1 l.k (omega arith) c.loop-k-test.true in (
      c.requires.1,
      (let w = names_at n.numbers.now n.writes.now n.count n.accesses (get_or n.writes.now l.k false)
          (number_at n.numbers.now n.count l.k a.x) a.y
          (subst (λ (z : ℕ). meets_access n.numbers.now n.writes.now n.count n.accesses a.x l.k z ≡ true) e
          (f.there (let y = c.requires.1 in omega arith))) in (w.0, w.1, w.2 ∙ sym c.number.ensures)),
    )

pub overflow_add-at : goal.overflow_add-at
overflow_add-at c = let n = c.args.tables.now in let f = row_fits n.accesses c.args.y n.count c.requires.1 in
    let r = c.args.tables.now.links.named-room in let t = c.access_naming-j.ensures.0 in omega arith

pub link_of-requires : goal.link_of-requires
link_of-requires c = let n = c.args.tables.now in let f = row_fits n.accesses c.args.y n.count c.requires.1 in
    let t = c.access_naming-j.ensures.0 in let k = c.loop-k-test.true in (omega arith, omega arith)

pub loop-k-preserved : goal.loop-k-preserved
loop-k-preserved c =
    let a = c.args in
    let l = c.loop-k in
    let t = c.loop-k-test.true in
    let n = a.tables.now in
    let ids = n.numbers.now in let ws = n.writes.now in let m = n.accesses in
    elim c.if-from-y.branch [
      | then-from-y w ↦ subst (λ (z : List ℕ). (l.k + 1 ≤ m) × (length z ≡ length a.chains.now) × Advancing ids ws n.count m a.x a.y z (l.k + 1))
          (sym w.chains-is) (
            omega arith,
            length-set l.chains l.k _ ∙ l.invariant.1,
            advance-set ids ws n.count m a.x a.y l.chains l.k _ (let r = c.requires.2 in let i = l.invariant.1 in omega arith)
                (link-next ids ws n.count m a.tables.now.named.now a.tables.now.written.now a.tables.now.links a.x a.y w.access_naming-j.result l.k _
                c.requires.1 w.access_naming-j.ensures.0
                (w.access_naming-j.ensures.1 ∙ w.number.ensures) w.link_of.ensures)
                l.invariant.2,
          )
      | else-from-y w ↦ subst (λ (z : List ℕ). (l.k + 1 ≤ m) × (length z ≡ length a.chains.now) × Advancing ids ws n.count m a.x a.y z (l.k + 1))
          (sym w.chains-is) (
            omega arith,
            l.invariant.1,
            advance-keep ids ws n.count m a.x a.y l.chains l.k t (λ q. w.if-from-y.false (c.from.ensures ∙ q)) l.invariant.2,
          )
    ]

pub returns : goal.returns
returns c = λ k h. let l = c.loop-k in let t = c.loop-k-test.false in l.invariant.2.0 k (omega arith)
