-- Any step, one: a point is inside the old nest exactly if the point that the step makes of it is inside the new one; so a step keeps the
-- iterations. Lists of steps are in `KeepLaws`.
use mathlib.Core.Path.{◌≡◌, sym, subst}
use mathlib.Core.Logic.Iff
use mathlib.Core.Logic.{◌↔◌}
use mathlib.Core.List.{List, [], ◌∷◌}
use Prim.Native.Nat.{ℕ}
use lib.IntN.{ℤ}
use Rattle.lists.specs.Membership.{Mem, All}
use Rattle.lists.specs.Place.{under, swapped, swap_all}
use Rattle.model.specs.Ticket.{Loop, Step, exchange, reversal, skew, section, circulation}
use Rattle.model.specs.Points.{iterations}
use Rattle.model.specs.Inside.{Inside}
use Rattle.model.specs.Steps.{chain, forward, undo}
use Rattle.model.specs.Limits.{exchange_at, exchange_all, loops_after}
use Rattle.model.specs.Shape.{Shaped, Runs, Proper}
use Rattle.model.specs.Promises.{KeepsPoints}
use Rattle.model.proofs.Points.PointLaws.{iterations-inside}
use Rattle.model.proofs.Steps.ReversalLaws.{reversal-inside}
use Rattle.model.proofs.Steps.ExchangeLaws.{exchange-inside}
use Rattle.model.proofs.Steps.SkewLaws.{skew-inside}
use Rattle.model.proofs.Steps.SectionLaws.{section-inside}
use Rattle.model.proofs.Steps.UndoLaws.{undo-forward, forward-undo}
use Rattle.model.proofs.Steps.ShapeLaws.{shaped-exchanges}
use Rattle.model.proofs.Steps.RunsLaws.{runs_after}

exchanges-inside : (ks : List ℕ) (y : List ℤ) (N : List Loop) → Shaped 0 N → Inside N [] y ↔ Inside (exchange_all ks N) [] (swap_all ks y)
unfolding exchange_all swap_all
exchanges-inside [] y N s = Iff.rfl
exchanges-inside (k ∷ ks) y N s =
    let h = exchange-inside k y N s in
    let r = exchanges-inside ks (under k swapped y) (under k (exchange_at k) N) (shaped-exchanges (k ∷ []) N s) in
    (λ o. r.0 (h.0 o), λ o. h.1 (r.1 o))

pub step-inside : (t : Step) → Proper t → (N : List Loop) → Shaped 0 N → (y : List ℤ) → Inside N [] y ↔ Inside (loops_after t N) [] (forward t y)
unfolding loops_after forward
step-inside (exchange a) h N s y = exchange-inside a y N s
step-inside (reversal a) h N s y = reversal-inside a y N s
step-inside (skew a d c) h N s y = skew-inside a d c y N s
step-inside (section a w) h N s y = section-inside a w h y N s
step-inside (circulation a b) h N s y = exchanges-inside (chain a b) y N s

module _ (t : Step) (h : Proper t) (N : List Loop) (s : Shaped 0 N) where
  pub undo-inside : (q : List ℤ) → Inside (loops_after t N) [] q → Inside N [] (undo t q)
  undo-inside q o = (step-inside t h N s (undo t q)).1 (subst (Inside (loops_after t N) []) (sym (forward-undo t h N q o)) o)

  module _ (r : All Runs N) where
    pub step-takes-points : {p : List ℤ} → Mem p (iterations N) → Mem (forward t p) (iterations (loops_after t N))
    step-takes-points {p} m = (iterations-inside (loops_after t N) (runs_after t h N r) (forward t p)).1
        ((step-inside t h N s p).0 ((iterations-inside N r p).0 m))

    pub step-keeps-points : {q : List ℤ} → Mem q (iterations (loops_after t N)) → Mem (undo t q) (iterations N) × (forward t (undo t q) ≡ q)
    step-keeps-points {q} m = let o = (iterations-inside (loops_after t N) (runs_after t h N r) q).0 m
        in ((iterations-inside N r (undo t q)).1 (undo-inside q o), forward-undo t h N q o)

pub keeps-points : (t : Step) → Proper t → (N : List Loop) → Shaped 0 N → All Runs N → KeepsPoints t N
keeps-points t h N s r = record { onto = λ p m. (step-takes-points t h N s r m, undo-forward t p); back = λ q m. step-keeps-points t h N s r m }
