-- `pair_at`: each number of the row, read and put in its field.
use mathlib.Core.Path.{◌∙◌}
use mir.Facts.{to_z-of_z}
use mir.Syntax.{w16}
use Rattle.entry_reason.proofs.PairLaws.{source-number, sink-number, kind-number, pair_made}
use Rattle.entry_reason.proofs.pair_at.Goals as goal

pub unsigned-requires : goal.unsigned-requires
unsigned-requires c = (_, source-number c.requires.1 _ (to_z-of_z {w = w16} (record { sfits = c.unsigned-arg-1.given })))

pub unsigned-requires-2 : goal.unsigned-requires-2
unsigned-requires-2 c = (_, sink-number c.requires.1 _ (to_z-of_z {w = w16} (record { sfits = c.unsigned-arg-2-1.given })))

pub unsigned-requires-3 : goal.unsigned-requires-3
unsigned-requires-3 c = (_, kind-number c.requires.1 _ (to_z-of_z {w = w16} (record { sfits = c.unsigned-arg-3-1.given })))

pub returns : goal.returns
returns c = λ r h. pair_made h _ _ _ _ _ _ _ _ _ _ _ (to_z-of_z {w = w16} (record {
  sfits =
      c.source-1.given;
})) (to_z-of_z {w = w16}
    (record { sfits = c.source-2-1.given }))
    (to_z-of_z {w = w16} (record { sfits = c.source-3-1.given }))
    (to_z-of_z {w = w16} (record { sfits = c.source-4-1.given })) (to_z-of_z {w = w16}
    (record { sfits = c.sink-1.given })) (to_z-of_z {w = w16}
    (record { sfits = c.sink-2-1.given })) (to_z-of_z {w = w16}
    (record { sfits = c.sink-3-1.given })) (to_z-of_z {w = w16}
    (record { sfits = c.sink-4-1.given }))
    (c.unsigned.ensures ∙ to_z-of_z {w = w16} (record {
      sfits =
          c.unsigned-arg-1.given;
    })) (c.unsigned-2.ensures
    ∙ to_z-of_z {w = w16} (record { sfits = c.unsigned-arg-2-1.given })) (c.unsigned-3.ensures
    ∙ to_z-of_z {w = w16} (record { sfits = c.unsigned-arg-3-1.given }))
