-- A list of steps keeps the iterations of a well-formed nest: those of the new nest, undone, are those of the old, each once; and forward again they
-- are themselves.
use mathlib.Core.Path.{◌≡◌, refl, sym, ap, ◌∙◌}
use mathlib.Core.List.Memᴰ
use mathlib.Core.List.{List, [], ◌∷◌, map}
use lib.IntN.{ℤ}
use lib.ListN.{length, length-map}
use Rattle.lists.specs.Membership.{Mem, All, Distinct, SameMembers}
use Rattle.lists.proofs.MembershipLaws.{distinct-map, distinct-same-length}
use Rattle.model.specs.Ticket.{Step, Nest}
use Rattle.model.specs.Points.{iterations}
use Rattle.model.specs.Steps.{forward, forward_all, undo_all}
use Rattle.model.specs.Limits.{nest_after, nest_after_all}
use Rattle.model.specs.Shape.{Proper, WellFormed}
use Rattle.model.proofs.Points.PointLaws.{iterations-distinct}
use Rattle.model.proofs.Steps.LengthLaws.{step-length}
use Rattle.model.proofs.Steps.UndoLaws.{undo-forward_all}
use Rattle.model.proofs.Steps.StepLaws.{step-takes-points, step-keeps-points}
use Rattle.model.proofs.Steps.WellFormedLaws.{well-formed-after}

pub steps-length : (ts : List Step) (p q : List ℤ) → length p ≡ length q → length (forward_all ts p) ≡ length (forward_all ts q)
unfolding forward_all
steps-length [] p q e = e
steps-length (t ∷ ts) p q e = steps-length ts (forward t p) (forward t q) (step-length t p q e)

pub steps-take-points : {p : List ℤ} (ts : List Step) → All Proper ts → (N : Nest) → WellFormed N → Mem p (iterations N.loops)
    → Mem (forward_all ts p) (iterations (nest_after_all ts N).loops)
unfolding forward_all nest_after_all nest_after
steps-take-points [] h N f m = m
steps-take-points {p = p} (t ∷ ts) h N f m = let i = h t (Memᴰ.head refl) in
    steps-take-points {p = forward t p} ts (λ u n. h u (Memᴰ.tail n)) (nest_after t N) (well-formed-after t i N f)
    (step-takes-points t i N.loops f.shaped f.runs m)

pub steps-keep-points : {q : List ℤ} (ts : List Step) → All Proper ts → (N : Nest) → WellFormed N → Mem q (iterations (nest_after_all ts N).loops)
    → Mem (undo_all ts q) (iterations N.loops) × (forward_all ts (undo_all ts q) ≡ q)
unfolding forward_all undo_all nest_after_all nest_after
steps-keep-points [] h N f m = (m, refl)
steps-keep-points (t ∷ ts) h N f m =
    let i = h t (Memᴰ.head refl) in
    let r = steps-keep-points ts (λ u n. h u (Memᴰ.tail n)) (nest_after t N) (well-formed-after t i N f) m in
    let s = step-keeps-points t i N.loops f.shaped f.runs r.0 in
    (s.0, ap (forward_all ts) s.1 ∙ r.1)

module _ (ts : List Step) (h : All Proper ts) (N : Nest) (f : WellFormed N) where
  pub taken_back : (q : List ℤ) → Mem q (iterations (nest_after_all ts N).loops) → forward_all ts (undo_all ts q) ≡ q
  taken_back q m = (steps-keep-points ts h N f m).1

  pub all-steps-keep-points : SameMembers (iterations N.loops) (map (undo_all ts) (iterations (nest_after_all ts N).loops))
  all-steps-keep-points = record {
    into = λ p m. Memᴰ.cast (sym (undo-forward_all ts p)) (Memᴰ.map (undo_all ts) (steps-take-points ts h N f m));
    from = λ p m. let r = Memᴰ.of_map (undo_all ts) (iterations (nest_after_all ts N).loops) m in Memᴰ.cast (sym r.2)
        (steps-keep-points ts h N f r.1).0;
  }

  pub each-once : Distinct (map (undo_all ts) (iterations (nest_after_all ts N).loops))
  each-once = distinct-map (undo_all ts) (iterations (nest_after_all ts N).loops) (λ x y m n e. sym (taken_back x m) ∙ ap (forward_all ts) e
      ∙ taken_back y n) (iterations-distinct (nest_after_all ts N).loops)

  pub same_count : length (iterations (nest_after_all ts N).loops) ≡ length (iterations N.loops)
  same_count = sym (length-map (iterations (nest_after_all ts N).loops) (undo_all ts))
      ∙ sym (distinct-same-length (iterations N.loops) (map (undo_all ts) (iterations (nest_after_all ts N).loops))
      (iterations-distinct N.loops) each-once all-steps-keep-points)
