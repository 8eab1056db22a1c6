use mathlib.Core.Path.{◌≡◌, sym, ◌∙◌}
use lib.ListN.{length}
use mir.Syntax.{w32}
use mir.Val.{to_z, of_z}
use Rattle.step_limits.proofs.WordLaws.{refused, limit-small, row-length, second-room, row-room, wrote-length, wrote-tried}
use borrow.Author.Rules.{rules}
use Rattle.step_limits.proofs.put_limit.Goals as goal

pub returns-then-not-is_small : goal.returns-then-not-is_small
returns-then-not-is_small c = refused _ c.args.words.now _ _ (sym c.is_small.ensures ∙ c.if-not-is_small.true)

pub overflow_cast-words : goal.overflow_cast-words
overflow_cast-words c = let m = limit-small c.args.n c.args.l c.is_small.result c.is_small.ensures c.if-not-is_small.false in
    let h = m.0 in search rules

pub narrow-requires : goal.narrow-requires
narrow-requires c =
    let read : to_z w32 (of_z w32 c.args.l.constant) ≡ c.args.l.constant = search rules in
    let m = limit-small c.args.n c.args.l c.is_small.result c.is_small.ensures c.if-not-is_small.false in
    rw read m.1

pub bounds-words-at-2 : goal.bounds-words-at-2
bounds-words-at-2 c =
    let six : length c.args.l.coefficients ≡ 6 = search rules in
    second-room
    c.args.words.now c.args.j c.args.n c.args.l c.requires six _

pub slice_bounds-lay_row-end : goal.slice_bounds-lay_row-end
slice_bounds-lay_row-end c =
    let six : length c.args.l.coefficients ≡ 6 = search rules in
    sym
    (row-length c.args.words.now c.args.j c.args.n c.args.l c.requires six)

pub lay_row-requires : goal.lay_row-requires
lay_row-requires c =
    let six : length c.args.l.coefficients ≡ 6 = search rules in
    let m = limit-small c.args.n c.args.l c.is_small.result c.is_small.ensures c.if-not-is_small.false in
    (row-room c.args.words.now c.args.j c.args.n c.args.l c.requires six _ _, m.2)

pub shape_of-words : goal.shape_of-words
shape_of-words c =
    let six : length c.args.l.coefficients ≡ 6 = search rules in
    let m = limit-small c.args.n c.args.l c.is_small.result c.is_small.ensures c.if-not-is_small.false in
    wrote-length c.args.words.now c.args.j c.args.n c.args.l c.requires six m.0 m.1
    c.narrow.result c.narrow.ensures _ c.lay_row.ensures

pub returns : goal.returns
returns c =
    let six : length c.args.l.coefficients ≡ 6 = search rules in
    let m = limit-small c.args.n c.args.l c.is_small.result c.is_small.ensures c.if-not-is_small.false in
    wrote-tried c.args.words.now c.args.j c.args.n c.args.l c.requires six m.0 m.1
    c.narrow.result c.narrow.ensures _ c.lay_row.ensures _ (sym c.is_small.ensures ∙ c.if-not-is_small.false)
