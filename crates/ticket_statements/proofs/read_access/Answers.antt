-- `read_access`: the array's number, then a subscript a turn.
use mathlib.Core.Path.{refl, ◌∙◌}
use mathlib.Core.List.{[]}
use Prim.Native.Nat.{◌-◌, ◌/◌, ◌<◌}
use native.Mathlib.Omega.{arith}
use lib.ListN.{length}
use Rattle.std.proofs.lemmas.Result.{err_from_is_err_and}
use Rattle.model.specs.Ticket as Model
use Rattle.model.specs.Grammar.{access, subscript}
use Rattle.nest_elements.proofs.ElementLaws.{arrays-length}
use Rattle.ticket_words.specs.Reads.{plain}
use Rattle.ticket_words.proofs.ReaderLaws.{refused-first, read-then, read-done, times-stop, times-end}
use Rattle.ticket_statements.proofs.AccessLaws.{after-array, filling-starts, next-in, filling-more, access_laid}
use Rattle.ticket_statements.proofs.read_access.Goals as goal

pub returns-in_err-array : goal.returns-in_err-array
unfolding access
returns-in_err-array c =
    let p = err_from_is_err_and c.from_residual.result c.from_residual.ensures.1 in
    rw (p.1, p.2) (record {
      access = record { array = 0; subscripts = [] };
      reads = refused-first {view = plain} _ (rw (arrays-length c.args.nest.extents.now) c.in_err-array.ensures.reads);
      laid = tt;
    })

pub loop-d-init : goal.loop-d-init
loop-d-init c = filling-starts _ _ _ _ _

pub lay_affine-requires : goal.lay_affine-requires
lay_affine-requires c =
    let n = c.args.nest in
    let v = c.in_ok-array.ensures.within in
    let r = c.in_ok-subscript.ensures in
    next-in _ _ _ _ _ _ _ _ c.loop-d.invariant c.loop-d-test.true r.reads (n.arrays.dimensions _ (omega arith))
    (c.loop-d.auto.laid ∙ c.requires.0) c.requires.1 n.shallow r.within

pub loop-d-preserved : goal.loop-d-preserved
loop-d-preserved c = filling-more _ _ _ _ _ _ _ _ c.loop-d.invariant c.loop-d-test.true c.in_ok-subscript.ensures.reads _ c.lay_affine.ensures

pub returns-in_err-subscript : goal.returns-in_err-subscript
returns-in_err-subscript c =
    let n = c.args.nest in
    let f = c.loop-d.invariant in
    let v = c.in_ok-array.ensures in
    let h : c.in_ok-array.field-0 - 1 < length n.extents.now / 4 = omega (arith, v.within.0, v.within.1) in
    let p = err_from_is_err_and c.from_residual-in_err-subscript.result c.from_residual-in_err-subscript.ensures.1 in
    rw (p.1, p.2) (record {
      access = record { array = 0; subscripts = [] };
      reads = after-array _ n.arrays _ v.reads h
          (refused-first {view = plain} _ (times-stop (subscript n.depth) _ _ f.underway c.loop-d-test.true c.in_err-subscript.ensures.reads));
      laid = tt;
    })

pub returns : goal.returns
returns c =
    let n = c.args.nest in
    let f = c.loop-d.invariant in
    let v = c.in_ok-array.ensures in
    let a = c.args.accesses.now in
    let h : c.in_ok-array.field-0 - 1 < length n.extents.now / 4 = omega (arith, v.within.0, v.within.1) in
    let x : Model.Access = record { array = c.in_ok-array.field-0 - 1; subscripts = f.subscripts } in
    record {
      access = x;
      reads = after-array _ n.arrays _ v.reads h
          (read-then {view = plain} _ (times-end (subscript n.depth) _ _ f.underway {l = f.subscripts} c.loop-d-test.false refl) (read-done _ refl));
      laid = record {
        laid = access_laid a.count c.args.laid.now _ a.accessed x (omega (arith, c.requires.1, a.room)) f.laid;
        count = refl;
      };
    }
