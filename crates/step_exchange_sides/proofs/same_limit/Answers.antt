use mathlib.Core.Path.{◌≡◌, sym, ap, ◌∙◌}
use Prim.Native.Nat.{◌+◌, ◌*◌}
use native.Mathlib.Omega.{arith}
use lib.IntN.{pos}
use lib.ListN.{get_or}
use mir.Syntax.{w32}
use mir.Val.{to_z, of_z}
use mir.Facts.{of_z-to_z}
use Rattle.step_limits.proofs.NumberLaws.{fits_below}
use Rattle.step_exchange_sides.proofs.PutLaws.{read_wide}
use Rattle.step_exchange_sides.proofs.SameLaws.{is, is-not, multiplier-differs, constant-differs, rows-decide}
use borrow.Author.Rules.{rules}
use Rattle.step_exchange_sides.proofs.same_limit.Goals as goal

pub returns-then-x-filling : goal.returns-then-x-filling
returns-then-x-filling c =
    let z = get_or c.args.filling.now (c.args.k * 8) (pos 0) in
    let m = c.args.x.multiplier in
    let u : of_z w32 (to_z w32 m) ≡ m = let f = c.requires.wide.multiplier in of_z-to_z (fits_below (omega arith)) in
    let bits : of_z w32 (pos m) ≡ m = rw (read_wide m c.requires.wide.multiplier) at u in
    sym (multiplier-differs c.args.n c.args.x c.args.filling.now c.args.k
    c.requires.natural (is-not (pos m) z (λ q. c.if-x-filling.true (sym bits ∙ ap (of_z w32) q))))

pub returns-then-x-filling-2 : goal.returns-then-x-filling-2
returns-then-x-filling-2 c =
    let z = get_or c.args.filling.now (c.args.k * 8) (pos 0) in
    let y = get_or c.args.filling.now (c.args.k * 8 + 1) (pos 0) in
    let m = c.args.x.multiplier in
    let back : to_z w32 (of_z w32 z) ≡ z = search rules in
    sym (constant-differs c.args.n c.args.x c.args.filling.now c.args.k c.requires.natural
    (is (pos m) z (sym (read_wide m c.requires.wide.multiplier) ∙ ap (to_z w32) c.if-x-filling.false ∙ back))
    (is-not c.args.x.constant y (λ q. c.if-x-filling-2.true (ap (of_z w32) q))))

pub returns : goal.returns
returns c =
    let z = get_or c.args.filling.now (c.args.k * 8) (pos 0) in
    let y = get_or c.args.filling.now (c.args.k * 8 + 1) (pos 0) in
    let m = c.args.x.multiplier in
    let back : to_z w32 (of_z w32 z) ≡ z = search rules in
    let back-2 : to_z w32 (of_z w32 y) ≡ y = search rules in
    let read : to_z w32 (of_z w32 c.args.x.constant) ≡ c.args.x.constant = search rules in
    c.same_row.ensures ∙ sym (rows-decide c.args.n c.args.x c.args.filling.now c.args.k c.requires.natural
    (is (pos m) z (sym (read_wide m c.requires.wide.multiplier) ∙ ap (to_z w32) c.if-x-filling.false ∙ back))
    (is c.args.x.constant y (sym read ∙ ap (to_z w32) c.if-x-filling-2.false ∙ back-2)))
