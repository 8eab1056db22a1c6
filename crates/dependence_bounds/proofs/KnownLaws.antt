-- What is known of a nest that passes refusals 7 and 8, once its subscripts stay inside and its lines are bounded from both sides.
use mathlib.Core.Path.{◌≡◌}
use mathlib.Core.Bool.{Bool, true}
use mathlib.Core.List.{List}
use Rattle.model.specs.Answer.{accepted}
use Rattle.model.specs.Bounds.{admitted}
use Rattle.nest_bounding_box.specs.Promises.{StaysInside}
use Rattle.nest_bounding_box.proofs.InsideLaws.{stays-admitted}
use Rattle.nest_flat.specs.FlatNests.{FlatNest, nest_of}
use Rattle.dependence_marks.specs.Lines.{LinesAre}
use Rattle.dependence_bounds.specs.KnownLines.{BoundIn, MarkIn, Marked}

module _ (P : FlatNest) (m : List Bool) (p : MarkIn P m) where
  module _ (r : Bool) (h : StaysInside P r) (e : r ≡ true) where
    passes : admitted (nest_of P) ≡ accepted tt
    passes = stays-admitted P r h e p.nest.space-accepted

    pub bound-in : BoundIn P m
    bound-in = record {
      part = record {
        flat-nest = p.nest.flat-nest;
        formed = p.nest.formed;
        inside = h e p.nest.space-accepted;
        clear = p.clear;
        room = p.room;
      };
      admitted-is = passes;
    }

    pub lines-marked : (n : List Bool) (b : Bool) → (b ≡ true → LinesAre P n) → b ≡ true → Marked P n
    lines-marked n b f g = record { admitted-is = passes; lines = f g }
