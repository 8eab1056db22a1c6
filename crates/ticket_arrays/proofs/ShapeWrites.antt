-- What `lay_shape` writes: the number of dimensions, and the extents after it.
use borrow.Rule.Slice.PartMut.{put_mid}
use mathlib.Core.Path.{◌≡◌, sym, ap, ap₂, ◌∙◌}
use mathlib.Core.List.{List, [], ◌∷◌, ◌++◌}
use Prim.Native.Nat.{ℕ, ◌+◌, ◌≤◌}
use native.Mathlib.Omega.{arith}
use lib.ListN.{length, take, drop, set}
use lib.Seq.{length-take-le, drop-drop}
use Rattle.lists.specs.Parts.{put}
use Rattle.lists.proofs.PartLaws.{put-put, set-is-put}
use Rattle.ticket_arrays.specs.Laid.{shape_words}
use Rattle.ticket_arrays.specs.Arrays.{shape_of}
use Rattle.ticket_arrays.specs.declared.shapes.Shape.{Shape}

part-put : {A : Type 0} (p k : ℕ) (xs ys : List A) → length ys ≡ k → put_mid p k xs ys ≡ put xs p ys
unfolding put
part-put p k xs ys e = ap (λ l. take p xs ++ (ys ++ l)) (drop-drop k p xs ∙ ap (λ n. drop (p + n) xs) (sym e))

pub shape-laid : (o : List ℕ) (p k : ℕ) (a : Shape) (w : List ℕ) → p + 4 ≤ length o → k ≡ a.dimensions → w ≡ take a.dimensions a.extents
    → put_mid (p + 1) k (set o p a.dimensions) w ≡ put o p (shape_words (shape_of a))
unfolding shape_words shape_of
shape-laid o p k a w f n e =
    let s = a.within.few in
    let r = a.within.room in
    let m = length-take-le a.dimensions a.extents (omega arith) in
    part-put (p + 1) k (set o p a.dimensions) w (ap length e ∙ m ∙ sym n)
    ∙ ap₂ (λ v t. put v (p + 1) t) (set-is-put o p a.dimensions (omega arith)) e
    ∙ put-put o p (a.dimensions ∷ []) (take a.dimensions a.extents) (omega arith)
    ∙ ap (λ t. put o p (t ∷ take a.dimensions a.extents)) (sym m)
