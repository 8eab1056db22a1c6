-- What a step's table gives, read backwards: the vectors that a vector after the step comes from; then the set after each step, from its marks.
use mathlib.Core.Path.{◌≡◌, refl, sym, ◌∙◌, ap}
use mathlib.Core.Bool.{Bool}
use mathlib.Core.List.Memᴰ
use mathlib.Core.List.{List, [], ◌∷◌, ◌++◌}
use mathlib.Core.Logic.{⊎_elim}
use Prim.Native.Nat.{ℕ, zero, suc, ◌<◌}
use native.Mathlib.Omega.{arith}
use lib.ListN.{length}
use Rattle.integers.proofs.SignLaws.{turned-turned}
use Rattle.integers.specs.Sign.{Sign, less, equal, greater, turned}
use Rattle.lists.specs.Membership.{Mem, SameMembers}
use Rattle.lists.specs.Place.{under, under_each, on_head, swapped, swap_all}
use Rattle.lists.proofs.PlaceLaws.{under-length, under-inverse, swapped-swapped, length-swapped, on_head-inverse, length-on_head}
use Rattle.lists.proofs.SwapLaws.{swap_all-length, back-swap_all, swap_all-back}
use Rattle.model.specs.Ticket.{Step, exchange, reversal, section, circulation}
use Rattle.model.specs.Directions.{by_sign}
use Rattle.model.specs.Steps.{any_sign, split_sign, split_signs, chain, vectors, vectors_after}
use Rattle.model.proofs.Steps.ChainLaws.{chain_back}
use Rattle.step_preimages.specs.Numbers.{marked}
use Rattle.step_directions.specs.Sets.{vectors_in}
use Rattle.step_preimages.specs.Sources.{joined}
use Rattle.step_directions.proofs.VectorLaws.{every-sign}
use Rattle.step_directions.proofs.SetLaws.{after-source}

-- ---- exchange, reversal and circulation: one vector, changed back

inverse : (t : Step) (f g : List Sign → List Sign) → ((u : List Sign) → vectors t u ≡ f u ∷ []) → ((u : List Sign) → f (g u) ≡ u)
    → ((u : List Sign) → g (f u) ≡ u) → ((u : List Sign) → length (f u) ≡ length u) → ((u : List Sign) → length (g u) ≡ length u)
    → (old new : List Bool) (d : ℕ) → ((v : List Sign) → length v ≡ d → marked new v ≡ marked old (g v))
    → SameMembers (vectors_in new d) (vectors_after t (vectors_in old d))
inverse t f g e i j l m old new d h = after-source t old new d d g h
    (λ v k. (m v ∙ k, rw (e (g v)) (Memᴰ.head (sym (i v)))))
    (λ u v k n. let q : v ≡ f u = Memᴰ.eq_of_singleton (rw (e u) at n) in (ap length q ∙ l u ∙ k, sym (ap g q ∙ j u)))

involution : (t : Step) (f : List Sign → List Sign) → ((u : List Sign) → vectors t u ≡ f u ∷ []) → ((u : List Sign) → f (f u) ≡ u)
    → ((u : List Sign) → length (f u) ≡ length u)
    → (old new : List Bool) (d : ℕ) → ((v : List Sign) → length v ≡ d → marked new v ≡ marked old (f v))
    → SameMembers (vectors_in new d) (vectors_after t (vectors_in old d))
involution t f e i l = inverse t f f e i i l l

module _ (a : ℕ) (old new : List Bool) (d : ℕ) where
  pub exchange-after : ((v : List Sign) → length v ≡ d → marked new v ≡ marked old (under a swapped v))
      → SameMembers (vectors_in new d) (vectors_after (exchange a) (vectors_in old d))
  unfolding vectors
  exchange-after = involution (exchange a) (under a swapped) (λ u. refl) (under-inverse swapped swapped swapped-swapped a)
      (under-length swapped length-swapped a) old new d

  pub reversal-after : ((v : List Sign) → length v ≡ d → marked new v ≡ marked old (under a (on_head turned) v))
      → SameMembers (vectors_in new d) (vectors_after (reversal a) (vectors_in old d))
  unfolding vectors
  reversal-after = involution (reversal a) (under a (on_head turned)) (λ u. refl)
      (under-inverse (on_head turned) (on_head turned) (on_head-inverse turned turned turned-turned) a)
      (under-length (on_head turned) (length-on_head turned) a) old new d

pub circulation-after : (a b : ℕ) (old new : List Bool) (d : ℕ)
    → ((v : List Sign) → length v ≡ d → marked new v ≡ marked old (swap_all (chain b a) v))
    → SameMembers (vectors_in new d) (vectors_after (circulation a b) (vectors_in old d))
unfolding vectors
circulation-after a b = inverse (circulation a b) (swap_all (chain a b)) (swap_all (chain b a)) (λ u. refl)
    (λ u. ap (swap_all (chain a b)) (sym (chain_back a b u)) ∙ swap_all-back (chain a b) u)
    (λ u. sym (chain_back a b (swap_all (chain a b) u)) ∙ back-swap_all (chain a b) u)
    (swap_all-length (chain a b)) (swap_all-length (chain b a))

-- ---- section: the two signs come from one

split-mem : (x y : Sign) → Mem (x ∷ y ∷ []) (split_sign (by_sign x less y greater))
unfolding split_sign
split-mem less y = Memᴰ.tail (Memᴰ.map (λ s. less ∷ s ∷ []) (every-sign y))
split-mem equal less = Memᴰ.head refl
split-mem equal equal = Memᴰ.head refl
split-mem equal greater = Memᴰ.head refl
split-mem greater y = Memᴰ.tail (Memᴰ.map (λ s. greater ∷ s ∷ []) (every-sign y))

-- a pair that a sign is split into
abbrev Pair : Sign → List Sign → Type 0
Pair s r = (x : Sign) × (y : Sign) × (r ≡ x ∷ y ∷ []) × (s ≡ by_sign x less y greater)

mem-split : (s : Sign) (r : List Sign) → Mem r (split_sign s) → Pair s r
unfolding split_sign
mem-split equal r m = (equal, equal, Memᴰ.eq_of_singleton m, refl)
mem-split less r m = ⊎_elim (λ e. (equal, less, e, refl)) (λ j. let q = Memᴰ.of_map (λ s. less ∷ s ∷ []) any_sign j
    in (less, q.0, sym q.2, refl)) (Memᴰ.cases_cons m)
mem-split greater r m = ⊎_elim (λ e. (equal, greater, e, refl)) (λ j. let q = Memᴰ.of_map (λ s. greater ∷ s ∷ []) any_sign j
    in (greater, q.0, sym q.2, refl)) (Memᴰ.cases_cons m)

section-mem : (a : ℕ) (v : List Sign) → suc a < length v → Mem v (under_each a split_signs (under a joined v))
unfolding under_each under split_signs joined
section-mem a [] h = absurd (omega arith)
section-mem zero (x ∷ []) h = absurd (omega arith)
section-mem zero (x ∷ y ∷ v) h = Memᴰ.map (λ r. r ++ v) (split-mem x y)
section-mem (suc a) (x ∷ v) h = Memᴰ.map (λ r. x ∷ r) (section-mem a v (omega arith))

mem-section : (a : ℕ) (u v : List Sign) → a < length u → Mem v (under_each a split_signs u) → (length v ≡ suc (length u)) × (u ≡ under a joined v)
unfolding under_each under split_signs joined
mem-section a [] v h m = absurd (omega arith)
mem-section zero (s ∷ u) v h m =
    let q = Memᴰ.of_map (λ r. r ++ u) (split_sign s) m in
    let p = mem-split s q.0 q.1 in
    let e : v ≡ p.0 ∷ p.1 ∷ u = sym q.2 ∙ ap (λ r. r ++ u) p.2 in
    (ap length e, ap (λ x. x ∷ u) p.3 ∙ sym (ap joined e))
mem-section (suc a) (s ∷ u) v h m =
    let q = Memᴰ.of_map (λ r. s ∷ r) (under_each a split_signs u) m in
    let r = mem-section a u q.0 (omega arith) q.1 in
    (sym (ap length q.2) ∙ ap suc r.0, ap (λ w. s ∷ w) r.1 ∙ ap (under (suc a) joined) q.2)

length-joined : (a : ℕ) (v : List Sign) → suc a < length v → suc (length (under a joined v)) ≡ length v
unfolding under joined
length-joined a [] h = absurd (omega arith)
length-joined zero (x ∷ []) h = absurd (omega arith)
length-joined zero (x ∷ y ∷ v) h = refl
length-joined (suc a) (x ∷ v) h = ap suc (length-joined a v (omega arith))

pub section-after : (a w : ℕ) (old new : List Bool) (d : ℕ) → a < d
    → ((v : List Sign) → length v ≡ suc d → marked new v ≡ marked old (under a joined v))
    → SameMembers (vectors_in new (suc d)) (vectors_after (section a w) (vectors_in old d))
unfolding vectors
section-after a w old new d h e = after-source (section a w) old new d (suc d) (under a joined) e
    (λ v l. let k = length-joined a v (omega arith) in (omega arith, section-mem a v (omega arith)))
    (λ u v l m. let r = mem-section a u v (omega arith) m in (r.0 ∙ ap suc l, r.1))
