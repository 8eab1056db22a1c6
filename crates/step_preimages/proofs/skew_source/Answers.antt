-- `skew_source`: one of three vectors gave this one.
use mathlib.Core.Path.{◌≡◌, sym, ◌∙◌}
use mathlib.Core.Bool.{Bool, true, ◌||◌}
use Prim.Native.Nat.{ℕ, ◌<◌}
use native.Mathlib.Omega.{arith}
use Rattle.step_preimages.specs.Sources.{GaveIn, gave_digits, SkewSource}
use Rattle.step_preimages.proofs.SourceLaws.{digit-below, these-digits, skew-source-is}
use Rattle.step_preimages.proofs.skew_source.Goals as goal

pub apply_sign-s-requires : goal.apply_sign-s-requires
apply_sign-s-requires c =
    let d = c.digits-d in
    digit-below d.result c.args.a (these-digits d.result c.args.n c.requires.below d.ensures)

pub skew_gives-requires : goal.skew_gives-requires
skew_gives-requires c =
    let ready : (t : ℕ) → t < 3 → GaveIn c.digits-d.result c.args.b c.apply_sign-s.result t = λ t h. let d = c.digits-d in record {
      digits = these-digits d.result c.args.n c.requires.below d.ensures;
      inside = c.requires.few;
      added = c.apply_sign-s.ensures.small;
      replaced = h;
    } in
    ready 0 (omega arith)

pub returns-then-skew_gives : goal.returns-then-skew_gives
returns-then-skew_gives c =
    let by : ℕ → Bool = λ t. gave_digits c.args.old.now c.digits-d.result c.args.b c.apply_sign-s.result t in
    let one_of_three : (r : Bool) → r ≡ (by 0 || (by 1 || by 2)) → SkewSource c.args.old.now c.args.a c.args.b
    c.args.plus c.args.n r = λ r e. let d = c.digits-d in
    skew-source-is c.args.old.now d.result c.args.n c.args.a c.args.b c.apply_sign-s.result c.args.plus d.ensures
    c.requires.outer c.apply_sign-s.ensures r e in
    one_of_three true (rw (sym c.skew_gives.ensures ∙ c.if-skew_gives.true))

pub skew_gives-requires-2 : goal.skew_gives-requires-2
skew_gives-requires-2 c =
    let ready : (t : ℕ) → t < 3 → GaveIn c.digits-d.result c.args.b c.apply_sign-s.result t = λ t h. let d = c.digits-d in record {
      digits = these-digits d.result c.args.n c.requires.below d.ensures;
      inside = c.requires.few;
      added = c.apply_sign-s.ensures.small;
      replaced = h;
    } in
    ready 1 (omega arith)

pub returns-then-skew_gives-2 : goal.returns-then-skew_gives-2
returns-then-skew_gives-2 c =
    let by : ℕ → Bool = λ t. gave_digits c.args.old.now c.digits-d.result c.args.b c.apply_sign-s.result t in
    let one_of_three : (r : Bool) → r ≡ (by 0 || (by 1 || by 2)) → SkewSource c.args.old.now c.args.a c.args.b
    c.args.plus c.args.n r = λ r e. let d = c.digits-d in
    skew-source-is c.args.old.now d.result c.args.n c.args.a c.args.b c.apply_sign-s.result c.args.plus d.ensures
    c.requires.outer c.apply_sign-s.ensures r e in
    one_of_three true
    (rw (sym c.skew_gives.ensures ∙ c.if-skew_gives.false, sym c.skew_gives-2.ensures ∙ c.if-skew_gives-2.true))

pub skew_gives-requires-3 : goal.skew_gives-requires-3
skew_gives-requires-3 c =
    let ready : (t : ℕ) → t < 3 → GaveIn c.digits-d.result c.args.b c.apply_sign-s.result t = λ t h. let d = c.digits-d in record {
      digits = these-digits d.result c.args.n c.requires.below d.ensures;
      inside = c.requires.few;
      added = c.apply_sign-s.ensures.small;
      replaced = h;
    } in
    ready 2 (omega arith)

pub returns : goal.returns
returns c =
    let by : ℕ → Bool = λ t. gave_digits c.args.old.now c.digits-d.result c.args.b c.apply_sign-s.result t in
    let one_of_three : (r : Bool) → r ≡ (by 0 || (by 1 || by 2)) → SkewSource c.args.old.now c.args.a c.args.b
    c.args.plus c.args.n r = λ r e. let d = c.digits-d in
    skew-source-is c.args.old.now d.result c.args.n c.args.a c.args.b c.apply_sign-s.result c.args.plus d.ensures
    c.requires.outer c.apply_sign-s.ensures r e in
    one_of_three c.skew_gives-3.result
    (rw (
      sym c.skew_gives.ensures
          ∙ c.if-skew_gives.false,
      sym c.skew_gives-2.ensures ∙ c.if-skew_gives-2.false,
    ) c.skew_gives-3.ensures)
