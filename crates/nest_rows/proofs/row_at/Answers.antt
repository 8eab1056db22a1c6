-- `row_at`: six words as they stand.
use mathlib.Core.Path.{◌≡◌, ◌∙◌}
use mir.Syntax.{w32}
use mir.Val.{to_z, of_z}
use Rattle.nest_rows.proofs.RowLaws.{six-read}
use borrow.Author.Rules.{rules}
use Rattle.nest_rows.proofs.row_at.Goals as goal

pub returns : goal.returns
returns c =
    let e1 : to_z w32 (of_z w32 c.word_at.result) ≡
    c.word_at.result = search rules in
    let e2 : to_z w32 (of_z w32 c.word_at-2.result) ≡ c.word_at-2.result = search
    rules in
    let e3 : to_z w32 (of_z w32 c.word_at-3.result) ≡ c.word_at-3.result = search rules in
    let e4 : to_z w32 (of_z w32 c.word_at-4.result) ≡ c.word_at-4.result = search rules in
    let e5 : to_z w32 (of_z w32 c.word_at-5.result) ≡ c.word_at-5.result = search rules in
    let e6 : to_z w32 (of_z w32 c.word_at-6.result) ≡ c.word_at-6.result = search rules in
    six-read c.args.words.now c.args.at c.requires _ _ _ _ _ _ (e1 ∙ c.word_at.ensures)
    (e2 ∙ c.word_at-2.ensures) (e3 ∙ c.word_at-3.ensures)
    (e4 ∙ c.word_at-4.ensures) (e5 ∙ c.word_at-5.ensures) (e6 ∙ c.word_at-6.ensures)
