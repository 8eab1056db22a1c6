-- `pass_record`: passed over, too many, or kept.
use mathlib.Core.Path.{sym, subst}
use mathlib.Core.List.{[], ◌∷◌}
use Prim.Native.Nat.{◌+◌}
use native.Mathlib.Omega.{arith}
use lib.ListN.{length}
use Rattle.pair_records.specs.Nests.{words_of}
use Rattle.pair_records.specs.Windows.{Passes}
use Rattle.pair_records.proofs.RecordLaws.{record-length}
use Rattle.pair_records.proofs.PassLaws.{pass-over, pass-full, pass_kept}
use Rattle.pair_records.proofs.pass_record.Goals as goal

pub returns-then-window-gt0 : goal.returns-then-window-gt0
returns-then-window-gt0 c = let a = c.args in pass-over a.window a.found.now (words_of a.nest.now a.conflict) c.if-window-gt0.true

pub returns-then-got-ge-BATCH : goal.returns-then-got-ge-BATCH
returns-then-got-ge-BATCH c = let a = c.args in pass-full a.window a.found.now (words_of a.nest.now a.conflict) c.if-got-ge-BATCH.true

pub returns : goal.returns
returns c = let a = c.args in let z = c.if-window-gt0.false in
    let r = words_of a.nest.now a.conflict in
    subst (λ f. Passes a.window a.found.now (record { skip = 0; got = a.window.got + 1 }) f (r ∷ [])) (sym
    c.write_record.ensures)
    (pass_kept a.window a.found.now r (omega arith) c.if-got-ge-BATCH.false (record-length a.nest.now.points.now a.nest.now.depth
    (length a.nest.now.sizes.now) a.conflict.source a.conflict.sink a.conflict.block))
