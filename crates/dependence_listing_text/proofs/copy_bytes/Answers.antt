-- `copy_bytes`: the part is written over.
use mathlib.Core.Path.{refl, ap, ◌∙◌}
use mathlib.Core.List.{◌++◌, append_assoc}
use Prim.Native.Nat.{◌+◌}
use native.Mathlib.Omega.{arith}
use lib.ListN.{length, take, drop}
use lib.Seq.{take_all}
use Rattle.std.proofs.lemmas.Slice.{put_mid-paste}
use Rattle.lists.specs.Parts.{put}
use Rattle.dependence_listing_text.proofs.copy_bytes.Goals as goal

pub returns : goal.returns
unfolding put
returns c = let s = c.args.src.now in let o = c.args.out.now in let a = c.args.at in
    put_mid-paste a _ o _ s (length s) c.copy_from_slice.ensures.after (omega arith) refl
    ∙ ap (λ w. (take a o ++ w) ++ drop (a + length s) o) (take_all (length s) s (omega arith))
    ∙ append_assoc (take a o) s (drop (a + length s) o)
