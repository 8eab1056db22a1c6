-- The survey, depth by depth: what a depth that passes, has a far index or too many points makes of the answer; what an accepted survey says of each
-- depth; then that the indices of the loops that passed are near.
use mathlib.Core.Path.{◌≡◌, refl, sym, ◌∙◌, ap, subst}
use mathlib.Core.Bool.{Bool, true, false}
use mathlib.Core.Logic.{⊎_elim}
use mathlib.Core.List.{List, [], ◌∷◌, ◌++◌, flat_map}
use Prim.Native.Nat.{ℕ, zero, suc, ◌+◌, ◌≤◌, ◌<◌}
use native.Mathlib.Omega.{arith}
use native.Mathlib.Nat.{add-zero, zero-add, add-suc, suc-add, eq-or-lt_of_le}
use borrow.Author.Tests.{le-leb, lt-leb, ltb-true, ltb-false}
use lib.Dec.{T, ltb}
use lib.IntN.{ℤ, nat_abs}
use lib.ListN.{length, take}
use Rattle.lists.specs.Tests.{any}
use Rattle.lists.proofs.FlatMapLaws.{mem-flat_map}
use Rattle.lists.proofs.TestLaws.{any_none, none_any, not-T-false}
use Rattle.integers.specs.Difference.{size}
use Rattle.integers.proofs.RangeLaws.{size-nat_abs}
use Rattle.model.specs.Answer.{Answer, accepted, refused, require, ◌>>◌, ◌>>=◌}
use Rattle.model.specs.Ticket.{Loop}
use Rattle.model.specs.Points.{indices, partial_points}
use Rattle.model.specs.Bounds.{last_of, beyond, survey}
use Rattle.nest_points.specs.Tallies.{through, Near}
use Rattle.nest_points.proofs.ThroughLaws.{through-cons, through-one, through-none}
use Rattle.nest_points.proofs.TallyLaws.{any_last}

-- some point's last index is beyond ±m
abbrev pub far_among : ℕ → List (List ℤ) → Bool
far_among m ps = any (λ p. beyond m (last_of p)) ps

pub record Passes (m most : ℕ) (N : List Loop) (k : ℕ) : Type 0 where
  pub near : far_among m (partial_points k N) ≡ false
  pub few : length (partial_points k N) ≤ most

module _ (far many m most : ℕ) (N : List Loop) where
  pub survey-far : (k n : ℕ) → far_among m (partial_points k N) ≡ true → survey far many m most N k (suc n) ≡ refused far k
  unfolding survey ◌>>◌ ◌>>=◌ require
  survey-far k n e = rw e

  pub survey-many : (k n : ℕ) → far_among m (partial_points k N) ≡ false → most < length (partial_points k N)
      → survey far many m most N k (suc n) ≡ refused many k
  unfolding survey ◌>>◌ ◌>>=◌ require
  survey-many k n e h = rw (e, lt-leb (length (partial_points k N)) most h)

  survey-pass : (k n : ℕ) → Passes m most N k → survey far many m most N k (suc n) ≡ survey far many m most N (suc k) n
  unfolding survey ◌>>◌ ◌>>=◌ require
  survey-pass k n p = rw (p.near, le-leb (length (partial_points k N)) most p.few)

  pub survey-skip : (k i n : ℕ) → ((j : ℕ) → k ≤ j → j < k + i → Passes m most N j)
      → survey far many m most N k (i + n) ≡ survey far many m most N (k + i) n
  survey-skip k zero n h = rw (add-zero k, zero-add n)
  survey-skip k (suc i) n h = rw (suc-add i n) (survey-pass k (i + n) (h k (omega arith) (omega arith))
      ∙ survey-skip (suc k) i n (λ j a b. h j (omega arith) (omega arith))
      ∙ ap (λ (l : ℕ). survey far many m most N l n) (suc-add k i ∙ sym (add-suc k i)))

  pub survey-done : (k : ℕ) → survey far many m most N k 0 ≡ accepted tt
  unfolding survey
  survey-done k = refl

  -- ---- an accepted survey

  stopped : {a b : ℕ} → ◌≡◌ {A = Answer (Unit {0})} (refused a b) (accepted tt) → ⊥
  stopped e = let z : ◌≡◌ {A = ℕ} 0 1 = cc in omega arith

  pub survey-passes : (k n : ℕ) → survey far many m most N k n ≡ accepted tt → (j : ℕ) → k ≤ j → j < k + n → Passes m most N j
  survey-passes k zero e j a b = absurd (omega arith)
  survey-passes k (suc n) e j a b = go (far_among m (partial_points k N)) refl (ltb most (length (partial_points k N))) refl
      (λ h i. survey-passes (suc k) n (sym (survey-pass k n h) ∙ e) j i (omega arith))
    where
      go : (f : Bool) → far_among m (partial_points k N) ≡ f → (g : Bool) → ltb most (length (partial_points k N)) ≡ g
          → (Passes m most N k → k < j → Passes m most N j) → Passes m most N j
      go true p g q rest = absurd (stopped (sym (survey-far k n p) ∙ e))
      go false p true q rest = absurd (stopped (sym (survey-many k n p (ltb-true most (length (partial_points k N)) q)) ∙ e))
      go false p false q rest =
          let h : Passes m most N k = record { near = p; few = ltb-false most (length (partial_points k N)) q } in
          ⊎_elim (λ (i : k ≡ j). subst (Passes m most N) i h) (rest h) (eq-or-lt_of_le a)

-- ---- what passed is near

not_beyond : (m : ℕ) (i : ℤ) → (T (beyond m i) → ⊥) → size i ≤ m
unfolding beyond
not_beyond m i h = let g = ltb-false m (nat_abs i) (not-T-false (ltb m (nat_abs i)) h) in omega (arith, size-nat_abs i)

pub near-through : (m : ℕ) (N : List Loop) (outer : List ℤ) → ((j : ℕ) → 1 ≤ j → j ≤ length N → far_among m (through (take j N) outer) ≡ false)
    → Near m N outer
near-through m [] outer h = tt
near-through m (L ∷ N) outer h = λ i member. (
  not_beyond m i (none_any (beyond m) (indices L outer) (sym (any_last m outer (indices L outer)) ∙ ap (far_among m) (sym (through-one L outer))
      ∙ h 1 (omega arith) (omega arith)) i member),
  near-through m N (outer ++ (i ∷ [])) (λ j a b. any_none (λ p. beyond m (last_of p)) (through (take j N) (outer ++ (i ∷ []))) (λ p k.
      none_any (λ p. beyond m (last_of p)) (flat_map (λ x. through (take j N) (outer ++ (x ∷ []))) (indices L outer))
      (ap (far_among m) (sym (through-cons L (take j N) outer)) ∙ h (suc j) (omega arith) (omega arith)) p
      (mem-flat_map (λ x. through (take j N) (outer ++ (x ∷ []))) (indices L outer) member k))),
)

pub near-passed : (m most : ℕ) (N : List Loop) → ((j : ℕ) → 1 ≤ j → j ≤ length N → Passes m most N j) → Near m N []
unfolding partial_points
near-passed m most N h = near-through m N [] (λ j a b. ap (far_among m) (through-none (take j N)) ∙ (h j a b).near)

-- a nest that was admitted
pub survey-near : (far many m most : ℕ) (N : List Loop) → survey far many m most N 1 (length N) ≡ accepted tt → Near m N []
survey-near far many m most N e = near-passed m most N (λ j a b. survey-passes far many m most N 1 (length N) e j a (omega arith))
