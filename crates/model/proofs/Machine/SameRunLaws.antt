-- Programs that name the same elements run alike: the new program at its points does what the old one does at the original iterations,
-- which `back` finds, if its rules are given these.
use mathlib.Core.Path.{◌≡◌, refl, sym, ap, ap₂, ◌∙◌}
use mathlib.Core.List.Memᴰ
use mathlib.Core.List.{List, [], ◌∷◌, map, flat_map}
use Prim.Native.Nat.{ℕ, zero, suc}
use lib.IntN.{ℤ}
use Rattle.lists.specs.Membership.{All}
use Rattle.model.specs.Machine.{Element, Instance, Accesses, State, Rules, body, instances, store_all, perform, run, originally}
use Rattle.model.proofs.Machine.ReorderLaws.{run-append}

abbrev pub instance_at : ℕ → List ℤ → Instance
instance_at j p = record { statement = j; iteration = p }

-- A' names at q what A names at the original iteration
pub record NamesAlike (A A' : Accesses) (back : List ℤ → List ℤ) (q : List ℤ) : Type 0 where
  pub reads : (j : ℕ) → A'.reads (instance_at j q) ≡ A.reads (instance_at j (back q))
  pub writes : (j : ℕ) → A'.writes (instance_at j q) ≡ A.writes (instance_at j (back q))

module _ (A A' : Accesses) (back : List ℤ → List ℤ) (rules : Rules) where
  pub perform-same : (q : List ℤ) → NamesAlike A A' back q → (j : ℕ) (s : State)
      → perform A' (originally back rules) (instance_at j q) s ≡ perform A rules (instance_at j (back q)) s
  unfolding perform originally
  perform-same q h j s = ap₂ (λ (rs ws : List Element). store_all (λ k. rules j k (map s rs) (back q)) 0 ws s) (h.reads j) (h.writes j)

  body_same : (q : List ℤ) → NamesAlike A A' back q → (j n : ℕ) (s : State)
      → run (perform A' (originally back rules)) (body j n q) s ≡ run (perform A rules) (body j n (back q)) s
  unfolding body run
  body_same q h j zero s = refl
  body_same q h j (suc n) s =
      ap (run (perform A' (originally back rules)) (body (suc j) n q)) (perform-same q h j s)
      ∙ body_same q h (suc j) n (perform A rules (instance_at j (back q)) s)

  pub run-same : (n : ℕ) (qs : List (List ℤ)) → All (NamesAlike A A' back) qs → (s : State)
      → run (perform A' (originally back rules)) (instances n qs) s ≡ run (perform A rules) (instances n (map back qs)) s
  unfolding instances run flat_map
  run-same n [] h s = refl
  run-same n (q ∷ qs) h s =
      run-append (perform A' (originally back rules)) (body 0 n q) (instances n qs) s
      ∙ ap (run (perform A' (originally back rules)) (instances n qs)) (body_same q (h q (Memᴰ.head refl)) 0 n s)
      ∙ run-same n qs (λ x m. h x (Memᴰ.tail m)) (run (perform A rules) (body 0 n (back q)) s)
      ∙ sym (run-append (perform A rules) (body 0 n (back q)) (instances n (map back qs)) s)
