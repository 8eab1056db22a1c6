-- The set of vectors: exactly those of a conflicting pair in the order of the list.
use mathlib.Core.Path.{◌≡◌, refl, sym, subst}
use mathlib.Core.Bool.{cond}
use mathlib.Core.Logic.{inl, inr, ⊎_elim}
use mathlib.Core.List.Memᴰ
use mathlib.Core.List.{List, [], ◌∷◌}
use lib.Dec.{T}
use Rattle.integers.specs.Sign.{Sign}
use Rattle.lists.specs.Membership.{Mem}
use Rattle.lists.specs.Order.{Precedes}
use Rattle.lists.proofs.TestLaws.{T_true, true-T, cond_cases}
use Rattle.model.specs.Machine.{Instance, Accesses}
use Rattle.model.specs.Directions.{signs, conflict, vectors_from, directions}

module _ (A : Accesses) where
  abbrev one : Instance → Instance → List (List Sign)
  one i j = cond (conflict A i j) (signs i.iteration j.iteration ∷ []) []

  -- ---- a conflicting pair's vector is in the set

  mem-from : (i j : Instance) (xs : List Instance) → Mem j xs → T (conflict A i j) → Mem (signs i.iteration j.iteration) (vectors_from A i xs)
  unfolding vectors_from
  mem-from i j [] x'' c = elim x'' [ ]
  mem-from i j (k ∷ xs) (Memᴰ.head e) c = Memᴰ.append_left (vectors_from A i xs)
      (subst (λ z. Mem (signs i.iteration j.iteration) (one i z)) e (here c))
    where
      here : T (conflict A i j) → Mem (signs i.iteration j.iteration) (one i j)
      here c = subst (λ b. Mem (signs i.iteration j.iteration) (cond b (signs i.iteration j.iteration ∷ []) []))
          (sym (T_true (conflict A i j) c)) (Memᴰ.head refl)
  mem-from i j (k ∷ xs) (Memᴰ.tail m) c = Memᴰ.append_right (one i k) (mem-from i j xs m c)

  pub directions-mem : (xs : List Instance) (i j : Instance) → Precedes xs i j → T (conflict A i j)
      → Mem (signs i.iteration j.iteration) (directions A xs)
  unfolding directions
  directions-mem [] i j p c = absurd p
  directions-mem (k ∷ xs) i j (inl p) c = Memᴰ.append_left (directions A xs) (subst
      (λ z. Mem (signs i.iteration j.iteration) (vectors_from A z xs)) p.0 (mem-from i j xs p.1 c))
  directions-mem (k ∷ xs) i j (inr p) c = Memᴰ.append_right (vectors_from A k xs) (directions-mem xs i j p c)

  -- ---- and nothing else is

  from-mem : (v : List Sign) (i : Instance) (xs : List Instance) → Mem v (vectors_from A i xs)
      → (j : Instance) × Mem j xs × T (conflict A i j) × (v ≡ signs i.iteration j.iteration)
  unfolding vectors_from
  from-mem v i [] m = absurd (Memᴰ.not-nil m)
  from-mem v i (k ∷ xs) m = ⊎_elim
      (λ n. let r = here n in (k, Memᴰ.head refl, r.0, r.1))
      (λ n. let r = from-mem v i xs n in (r.0, Memᴰ.tail r.1, r.2, r.3))
      (Memᴰ.append_cases (one i k) m)
    where
      here : Mem v (one i k) → T (conflict A i k) × (v ≡ signs i.iteration k.iteration)
      here = cond_cases (λ l. Mem v l → T (conflict A i k) × (v ≡ signs i.iteration k.iteration)) (conflict A i k)
          (signs i.iteration k.iteration ∷ []) []
          (λ e n. (true-T (conflict A i k) e, Memᴰ.eq_of_singleton n)) (λ _ n. absurd (Memᴰ.not-nil n))

  pub mem-directions : (xs : List Instance) (v : List Sign) → Mem v (directions A xs)
      → (i : Instance) × (j : Instance) × Precedes xs i j × T (conflict A i j) × (v ≡ signs i.iteration j.iteration)
  unfolding directions
  mem-directions [] v m = absurd (Memᴰ.not-nil m)
  mem-directions (k ∷ xs) v m = ⊎_elim
      (λ n. let r = from-mem v k xs n in (k, r.0, inl (refl, r.1), r.2, r.3))
      (λ n. let r = mem-directions xs v n in (r.0, r.1, inr r.2, r.3, r.4))
      (Memᴰ.append_cases (vectors_from A k xs) m)
