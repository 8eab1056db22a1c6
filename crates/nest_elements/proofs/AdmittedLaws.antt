-- Where refusal 9 was not given, no access leaves its array.
use mathlib.Core.Path.{◌≡◌, refl, sym, ◌∙◌, ap, subst}
use mathlib.Core.Bool.{Bool, true, false}
use mathlib.Core.Logic.{◌⊎◌, inl, inr, ⊎_elim}
use mathlib.Core.List.Memᴰ
use mathlib.Core.List.{List, [], ◌∷◌, map}
use Prim.Native.Nat.{ℕ, zero, suc, ◌+◌, ◌-◌, ◌≤◌, ◌<◌}
use native.Mathlib.Omega.{arith}
use native.Mathlib.Nat.{add-zero, zero-add, add-suc, suc-add}
use native.Mathlib.Decide.{dec_lt}
use lib.IntN.{ℤ}
use lib.ListN.{length}
use Rattle.lists.specs.Membership.{Mem, All}
use Rattle.lists.specs.Tests.{any}
use Rattle.lists.proofs.TestLaws.{some-any, none_any, not-T-false}
use Rattle.model.specs.Answer.{Answer, accepted, refused}
use Rattle.model.specs.Ticket.{Access, Statement}
use Rattle.model.specs.Bounds.{violates, accesses_of, in_arrays}
use Rattle.model.specs.Store.{sum}
use Rattle.nest_flat.specs.Layout.{arrays_of, access_at, accesses_from, bodies_from}
use Rattle.nest_elements.proofs.ViolationLaws.{in_bodies, in-bodies, body-clear, body-violates}

stopped : {a b : ℕ} → ◌≡◌ {A = Answer (Unit {0})} (refused a b) (accepted tt) → ⊥
stopped e = let z : ◌≡◌ {A = ℕ} 0 1 = cc in omega arith

module _ (as' : List (List ℕ)) (ps : List (List ℤ)) where
  first-clear : (k : ℕ) (b : List Access) (bs : List (List Access)) → in_bodies as' ps k (b ∷ bs) ≡ accepted tt
      → (any (λ p. any (violates as' p) b) ps ≡ false) × (in_bodies as' ps (suc k) bs ≡ accepted tt)
  first-clear k b bs e = go (any (λ p. any (violates as' p) b) ps) refl
    where
      go : (t : Bool) → any (λ p. any (violates as' p) b) ps ≡ t → (any (λ p. any (violates as' p) b) ps ≡ false)
          × (in_bodies as' ps (suc k) bs ≡ accepted tt)
      go true q = absurd (stopped (sym (body-violates as' ps k b bs q) ∙ e))
      go false q = (q, sym (body-clear as' ps k b bs q) ∙ e)

  body-inside : (b : List Access) → any (λ p. any (violates as' p) b) ps ≡ false → (x : Access) → Mem x b → All (λ p. violates as' p x ≡ false) ps
  body-inside b e x m p k = not-T-false (violates as' p x) (λ t. none_any (λ q. any (violates as' q) b) ps e p k (some-any (violates as' p) b m t))

access-mem : (w : List ℤ) (o a : List ℕ) (n k m i : ℕ) → i < m → Mem (access_at w o a n (k + i)) (accesses_from w o a n k m)
unfolding accesses_from
access-mem w o a n k zero i h = absurd (omega arith)
access-mem w o a n k (suc m) zero h = Memᴰ.head (ap (access_at w o a n) (add-zero k))
access-mem w o a n k (suc m) (suc i) h = Memᴰ.tail (subst (λ (j : ℕ). Mem (access_at w o a n j) (accesses_from w o a n (suc k) m))
    (suc-add k i ∙ sym (add-suc k i)) (access-mem w o a n (suc k) m i (omega arith)))

module _ (w : List ℤ) (o a : List ℕ) (n : ℕ) (ps : List (List ℤ)) where
  bodies-inside : (sizes : List ℕ) (j k : ℕ) → in_bodies (arrays_of a) ps j (bodies_from w o a n k sizes) ≡ accepted tt
      → (i : ℕ) → i < sum sizes → All (λ p. violates (arrays_of a) p (access_at w o a n (k + i)) ≡ false) ps
  unfolding bodies_from sum
  bodies-inside [] j k e i h = absurd (omega arith)
  bodies-inside (m ∷ ms) j k e i h =
      let q = first-clear (arrays_of a) ps j (accesses_from w o a n k m) (bodies_from w o a n (k + m) ms) e in
      ⊎_elim
      (λ (l : i < m). body-inside (arrays_of a) ps (accesses_from w o a n k m) q.0 (access_at w o a n (k + i)) (access-mem w o a n k m i l))
      (λ (l : m ≤ i). let z : k + m + (i - m) ≡ k + i = omega arith in
      subst (λ (x : ℕ). All (λ p. violates (arrays_of a) p (access_at w o a n x) ≡ false) ps) z
      (bodies-inside ms (suc j) (k + m) q.1 (i - m) (omega arith)))
      (split (dec_lt i m))
    where
      split : Dec (i < m) → (i < m) ⊎ (m ≤ i)
      split (yes l) = inl l
      split (no l) = inr (omega arith)

  -- what `number_accesses` asks
  pub admitted-inside : (sizes : List ℕ) (ss : List Statement) → map accesses_of ss ≡ bodies_from w o a n 0 sizes → sum sizes ≡ length o
      → in_arrays (arrays_of a) ps 1 ss ≡ accepted tt
      → (k : ℕ) → k < length o → All (λ p. violates (arrays_of a) p (access_at w o a n k) ≡ false) ps
  admitted-inside sizes ss q l e k h = subst (λ (x : ℕ). All (λ p. violates (arrays_of a) p (access_at w o a n x) ≡ false) ps) (zero-add k)
      (bodies-inside sizes 1 0 (ap (in_bodies (arrays_of a) ps 1) (sym q) ∙ sym (in-bodies (arrays_of a) ps 1 ss) ∙ e) k (omega arith))
