-- Where every depth passes, no index of an iteration is beyond the bound: the first indices of an iteration are a partial point, and each index
-- is the last of one.
use mathlib.Core.Path.{◌≡◌, refl}
use mathlib.Core.List.{List, [], ◌∷◌, ◌++◌}
use Prim.Native.Nat.{ℕ, zero, suc, ◌≤◌, ◌<◌}
use native.Mathlib.Omega.{arith}
use lib.IntN.{ℤ, pos, nat_abs}
use lib.ListN.{length, get_or, take}
use Rattle.integers.specs.Affine.{Within}
use Rattle.integers.proofs.RangeLaws.{size-nat_abs}
use Rattle.integers.proofs.AffineLaws.{within_all}
use Rattle.lists.specs.Membership.{Mem, All}
use Rattle.model.specs.Answer.{accepted}
use Rattle.model.specs.Ticket.{Loop}
use Rattle.model.specs.Points.{partial_points, iterations}
use Rattle.model.specs.Bounds.{last_of, space, new_space}
use Rattle.model.specs.Inside.{Inside}
use Rattle.model.specs.Shape.{Runs}
use Rattle.model.specs.Reasons.{Passes}
use Rattle.model.proofs.Points.PointLaws.{inside-length, partial-inside, iterations-inside}
use Rattle.model.proofs.Points.BoundLaws.{space-accepted, new-space-accepted}

inside_take : (k : ℕ) (N : List Loop) (outer y : List ℤ) → Inside N outer y → Inside (take k N) outer (take k y)
inside_take zero N outer y i = tt
inside_take (suc k) [] outer [] i = tt
inside_take (suc k) [] outer (x ∷ y) i = absurd i
inside_take (suc k) (L ∷ N) outer [] i = absurd i
inside_take (suc k) (L ∷ N) outer (x ∷ y) i = (i.0, inside_take k N (outer ++ (x ∷ [])) y i.1)

pub partial-take : (k : ℕ) (N : List Loop) → All Runs N → (y : List ℤ) → Mem y (iterations N) → Mem (take k y) (partial_points k N)
partial-take k N r y m = (partial-inside k N r (take k y)).1 (inside_take k N [] y ((iterations-inside N r y).0 m))

last-take : (i : ℕ) (y : List ℤ) → i < length y → last_of (take (suc i) y) ≡ get_or y i (pos 0)
unfolding last_of
last-take i [] h = absurd (omega arith)
last-take zero (x ∷ y) h = refl
last-take (suc i) (x ∷ []) h = absurd (omega arith)
last-take (suc i) (x ∷ z ∷ y) h = last-take i (z ∷ y) (omega arith)

module _ (N : List Loop) (r : All Runs N) where
  indices-within : (m most : ℕ) → ((j : ℕ) → 1 ≤ j → j ≤ length N → Passes m most N j) → All (Within m) (iterations N)
  indices-within m most h y i = within_all m y (λ k l.
      let e = inside-length N [] y ((iterations-inside N r y).0 i) in
      let b = (h (suc k) (omega arith) (omega arith)).near (take (suc k) y) (partial-take (suc k) N r y i) in
      let s = size-nat_abs (get_or y k (pos 0)) in
      let q : nat_abs (get_or y k (pos 0)) ≤ m = rw (last-take k y l) at b in
      omega arith)

  pub space-within : space N ≡ accepted tt → All (Within 32767) (iterations N)
  space-within e = indices-within 32767 4096 (space-accepted N e)

  pub new-space-within : new_space N ≡ accepted tt → All (Within 100000) (iterations N)
  new-space-within e = indices-within 100000 65536 (new-space-accepted N e)
