use Prim.Native.Nat.{◌+◌, ◌*◌}
use native.Mathlib.Omega.{arith}
use Rattle.nest_rows.proofs.RowLaws.{row-part}
use Rattle.step_limits.proofs.WordLaws.{multiplier-fits, limit-read}
use Rattle.step_limits.proofs.limit_at.Goals as goal

pub overflow_cast-result : goal.overflow_cast-result
overflow_cast-result c = multiplier-fits c.args.words.now c.args.j c.args.n c.requires
    c.word_at.result c.word_at.ensures

pub returns : goal.returns
returns c = limit-read c.args.words.now c.args.j c.args.n c.requires
    c.word_at.result c.word_at-2.result c.row_at.result c.word_at.ensures
    c.word_at-2.ensures (let r = c.requires.room.fits in row-part c.args.words.now (c.args.j * 8 + 2) c.args.n
    c.row_at.result (omega arith) c.requires.room.shallow c.row_at.ensures)
