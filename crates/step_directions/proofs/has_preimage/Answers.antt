-- `has_preimage`: each kind of step by its own source.
use mathlib.Core.Path.{◌≡◌, sym, subst}
use mathlib.Core.Bool.{Bool, false}
use Prim.Native.Nat.{◌+◌, ◌-◌}
use native.Mathlib.Omega.{arith}
use lib.ListN.{get_or}
use mir.Syntax.{w32}
use mir.Val.{to_z, of_z}
use borrow.Author.Rules.{rules}
use Rattle.integers.specs.Sign.{turned}
use Rattle.lists.specs.Place.{under, on_head, swapped, swap_all}
use Rattle.model.specs.Steps.{chain}
use Rattle.step_kinds.specs.Kinds.{step_of}
use Rattle.step_kinds.specs.declared.Step.{Step}
use Rattle.step_kinds.specs.declared.Step.TheVariants.{Exchange, Reversal, Skew, Section, Circulation}
use Rattle.step_preimages.specs.Sources.{joined}
use Rattle.step_preimages.proofs.SourceLaws.{source-mark}
use Rattle.step_directions.specs.Preimages.{ComesIn, Comes}
use Rattle.step_directions.proofs.has_preimage.Goals as goal

pub exchange_source-requires : goal.exchange_source-requires
exchange_source-requires c =
    let known : (x : Step) → c.args.step ≡ x → ComesIn (step_of x) c.args.n = λ x e. subst (λ (y : Step). ComesIn (step_of y) c.args.n) e c.requires in
    let p = known (Exchange c.in-Exchange.e) c.in-Exchange.is in
    record { below = p.below; few = p.few }

pub reversal_source-requires : goal.reversal_source-requires
reversal_source-requires c =
    let known : (x : Step) → c.args.step ≡ x → ComesIn (step_of x) c.args.n = λ x e. subst (λ (y : Step). ComesIn (step_of y) c.args.n) e c.requires in
    let p = known (Reversal c.in-Reversal.e) c.in-Reversal.is in
    record { below = p.below; few = p.few }

pub overflow_add-b : goal.overflow_add-b
overflow_add-b c =
    let known : (x : Step) → c.args.step ≡ x → ComesIn (step_of x) c.args.n = λ x e. subst (λ (y : Step). ComesIn (step_of y) c.args.n) e c.requires in
    let p = known (Skew c.in-Skew.e) c.in-Skew.is in
    let few = p.few in
    omega arith

pub overflow_add-b-in-Skew : goal.overflow_add-b-in-Skew
overflow_add-b-in-Skew c =
    let known : (x : Step) → c.args.step ≡ x → ComesIn (step_of x) c.args.n = λ x e. subst (λ (y : Step). ComesIn (step_of y) c.args.n) e c.requires in
    let p = known (Skew c.in-Skew.e) c.in-Skew.is in
    let few = p.few in
    omega arith

pub skew_source-requires : goal.skew_source-requires
skew_source-requires c =
    let known : (x : Step) → c.args.step ≡ x → ComesIn (step_of x) c.args.n = λ x e. subst (λ (y : Step). ComesIn (step_of y) c.args.n) e c.requires in
    let p = known (Skew c.in-Skew.e) c.in-Skew.is in
    let few = p.few in
    record { below = p.below; outer = omega arith; few = omega arith }

pub section_source-requires : goal.section_source-requires
section_source-requires c =
    let known : (x : Step) → c.args.step ≡ x → ComesIn (step_of x) c.args.n = λ x e. subst (λ (y : Step). ComesIn (step_of y) c.args.n) e c.requires in
    let p = known (Section c.in-Section.e) c.in-Section.is in
    record { below = p.below; few = p.few }

pub circulation_source-requires : goal.circulation_source-requires
circulation_source-requires c =
    let known : (x : Step) → c.args.step ≡ x → ComesIn (step_of x) c.args.n = λ x e. subst (λ (y : Step). ComesIn (step_of y) c.args.n) e c.requires in
    let p = known (Circulation c.in-Circulation.e) c.in-Circulation.is in
    record { below = p.below; few = p.few }

pub returns-in-Exchange : goal.returns-in-Exchange
returns-in-Exchange c =
    let found : (x : Step) (r : Bool) → c.args.step ≡ x → Comes c.args.old.now (step_of x) c.args.n r
    → Comes c.args.old.now (step_of c.args.step) c.args.n r = λ x r e. subst (λ (y : Step). Comes c.args.old.now (step_of y) c.args.n r) (sym e) in
    let r = c.exchange_source in
    found (Exchange c.in-Exchange.e) (get_or c.args.old.now r.result false) c.in-Exchange.is
    (source-mark (under c.in-Exchange.e.outer swapped) (c.in-Exchange.e.outer + 2) c.args.n r.result r.ensures c.args.old.now)

pub returns-in-Reversal : goal.returns-in-Reversal
returns-in-Reversal c =
    let found : (x : Step) (r : Bool) → c.args.step ≡ x → Comes c.args.old.now (step_of x) c.args.n r
    → Comes c.args.old.now (step_of c.args.step) c.args.n r = λ x r e. subst (λ (y : Step). Comes c.args.old.now (step_of y) c.args.n r) (sym e) in
    let r = c.reversal_source in
    found (Reversal c.in-Reversal.e) (get_or c.args.old.now r.result false) c.in-Reversal.is
    (source-mark (under c.in-Reversal.e.target (on_head turned)) (c.in-Reversal.e.target + 1) c.args.n r.result r.ensures c.args.old.now)

pub returns-in-Skew : goal.returns-in-Skew
returns-in-Skew c =
    let found : (x : Step) (r : Bool) → c.args.step ≡ x → Comes c.args.old.now (step_of x) c.args.n r
    → Comes c.args.old.now (step_of c.args.step) c.args.n r = λ x r e. subst (λ (y : Step). Comes c.args.old.now (step_of y) c.args.n r) (sym e) in
    let z : to_z w32 (of_z w32 c.in-Skew.e.factor) ≡ c.in-Skew.e.factor = search rules in
    found (Skew c.in-Skew.e) c.skew_source.result c.in-Skew.is (λ v h. rw z at (c.skew_source.ensures v (omega arith)))

pub returns-in-Section : goal.returns-in-Section
returns-in-Section c =
    let found : (x : Step) (r : Bool) → c.args.step ≡ x → Comes c.args.old.now (step_of x) c.args.n r
    → Comes c.args.old.now (step_of c.args.step) c.args.n r = λ x r e. subst (λ (y : Step). Comes c.args.old.now (step_of y) c.args.n r) (sym e) in
    let r = c.section_source in
    found (Section c.in-Section.e) (get_or c.args.old.now r.result false) c.in-Section.is
    (source-mark (under c.in-Section.e.target joined) (c.in-Section.e.target + 2) c.args.n r.result r.ensures c.args.old.now)

pub returns-in-Circulation : goal.returns-in-Circulation
returns-in-Circulation c =
    let found : (x : Step) (r : Bool) → c.args.step ≡ x → Comes c.args.old.now (step_of x) c.args.n r
    → Comes c.args.old.now (step_of c.args.step) c.args.n r = λ x r e. subst (λ (y : Step). Comes c.args.old.now (step_of y) c.args.n r) (sym e) in
    let r = c.circulation_source in
    let a = c.in-Circulation.e.from in
    let b = c.in-Circulation.e.to in
    found (Circulation c.in-Circulation.e) (get_or c.args.old.now r.result false) c.in-Circulation.is
    (source-mark (swap_all (chain b a)) (a + (b - a) + 1) c.args.n r.result r.ensures c.args.old.now)
