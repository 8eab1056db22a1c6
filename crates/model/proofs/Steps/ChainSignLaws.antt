-- A vector along a chain of exchanges: where it points backwards neither before the chain nor after all of it, it does so nowhere on the way. Only
-- the moved sign changes its place among the others: once it is passed by < nothing matters any more, passed by = nothing changes, and a > that it
-- passes would stand first at the end.
use mathlib.Core.Path.{◌≡◌, sym, ap, ◌∙◌, subst}
use mathlib.Core.Logic.{⊎_elim}
use mathlib.Core.List.{List, [], ◌∷◌, ◌++◌, map}
use Prim.Native.Nat.{ℕ, zero, suc, ◌-◌}
use native.Mathlib.Omega.{arith}
use lib.Dec.{T, leb, leb→le, nleb→lt, not_T}
use Rattle.lists.specs.Place.{under, swapped, swap_all}
use Rattle.lists.proofs.SwapLaws.{swap_all-append, swap_all-inner}
use Rattle.lists.proofs.TestLaws.{T-cases}
use Rattle.integers.specs.Sign.{Sign, less, equal, greater}
use Rattle.model.specs.Directions.{backwards, up_from}
use Rattle.model.specs.Steps.{down_to, chain}
use Rattle.model.proofs.Steps.ChainLaws.{up-inner, down-inner, down-last, chain-in, chain-out}

abbrev Forward : List Sign → Type 0
Forward v = T (backwards v) → ⊥

-- after each exchange of the chain
abbrev pub AllForward : List ℕ → List Sign → Type 0
AllForward [] v = Unit {0}
AllForward (k ∷ ks) v = Forward (under k swapped v) × AllForward ks (under k swapped v)

-- ---- a place further in

after_less : (ks : List ℕ) (v : List Sign) → AllForward (map suc ks) (less ∷ v)
unfolding under backwards
after_less [] v = tt
after_less (k ∷ ks) v = (λ t. t, after_less ks (under k swapped v))

after_equal : (ks : List ℕ) (v : List Sign) → AllForward ks v → AllForward (map suc ks) (equal ∷ v)
unfolding under backwards
after_equal [] v h = tt
after_equal (k ∷ ks) v h = (h.0, after_equal ks (under k swapped v) h.1)

none : (ks : List ℕ) → AllForward ks []
unfolding under backwards swapped
none [] = tt
none (zero ∷ ks) = (λ t. t, none ks)
none (suc k ∷ ks) = (λ t. t, none ks)

-- what holds of a chain holds of it a place further in
inner : (ks : List ℕ) → ((v : List Sign) → Forward v → Forward (swap_all ks v) → AllForward ks v) → (v : List Sign) → Forward v
    → Forward (swap_all (map suc ks) v) → AllForward (map suc ks) v
unfolding backwards
inner ks f [] h g = none (map suc ks)
inner ks f (less ∷ v) h g = after_less ks v
inner ks f (equal ∷ v) h g = after_equal ks v (f v h (subst Forward (swap_all-inner ks equal v) g))
inner ks f (greater ∷ v) h g = absurd (h tt)

alone : (x : Sign) (ks : List ℕ) → Forward (x ∷ []) → AllForward (map suc ks) (x ∷ [])
unfolding backwards
alone less ks h = after_less ks []
alone equal ks h = after_equal ks [] (none ks)
alone greater ks h = absurd (h tt)

-- ---- inwards

passed : (x : Sign) (v : List Sign) → Forward (x ∷ equal ∷ v) → Forward (x ∷ v)
unfolding backwards
passed less v h = h
passed equal v h = h
passed greater v h = h

-- the rest of a chain that begins a place further in
rest : (n : ℕ) (s : Sign) (v : List Sign) → swap_all (up_from 1 n) (s ∷ v) ≡ s ∷ swap_all (up_from 0 n) v
rest n s v = ap (λ ks. swap_all ks (s ∷ v)) (up-inner 0 n) ∙ swap_all-inner (up_from 0 n) s v

on-inner : (n : ℕ) (v : List Sign) → AllForward (map suc (up_from 0 n)) v → AllForward (up_from 1 n) v
on-inner n v h = subst (λ ks. AllForward ks v) (sym (up-inner 0 n)) h

first-in : (n : ℕ) (v : List Sign) → Forward v → Forward (swap_all (up_from 0 n) v) → AllForward (up_from 0 n) v
unfolding swap_all up_from under swapped backwards
first-in zero v h g = tt
first-in (suc n) [] h g = none (up_from 0 (suc n))
first-in (suc n) (x ∷ []) h g = (h, on-inner n (x ∷ []) (alone x (up_from 0 n) h))
first-in (suc n) (x ∷ less ∷ v) h g = (λ t. t, on-inner n (less ∷ x ∷ v) (after_less (up_from 0 n) (x ∷ v)))
first-in (suc n) (x ∷ equal ∷ v) h g = let p = passed x v h in
    (p, on-inner n (equal ∷ x ∷ v) (after_equal (up_from 0 n) (x ∷ v) (first-in n (x ∷ v) p (subst Forward (rest n equal (x ∷ v)) g))))
first-in (suc n) (x ∷ greater ∷ v) h g = absurd (subst Forward (rest n greater (x ∷ v)) g tt)

chain-in-forward : (a n : ℕ) (v : List Sign) → Forward v → Forward (swap_all (up_from a n) v) → AllForward (up_from a n) v
chain-in-forward zero n v h g = first-in n v h g
chain-in-forward (suc a) n v h g = subst (λ ks. AllForward ks v) (sym (up-inner a n))
    (inner (up_from a n) (chain-in-forward a n) v h (subst (λ ks. Forward (swap_all ks v)) (up-inner a n) g))

-- ---- outwards

forward-append : (ks js : List ℕ) (v : List Sign) → AllForward ks v → AllForward js (swap_all ks v) → AllForward (ks ++ js) v
unfolding swap_all
forward-append [] js v h g = g
forward-append (k ∷ ks) js v h g = (h.0, forward-append ks js (under k swapped v) h.1 g)

uncovered : (r : List Sign) → Forward (swapped (equal ∷ r)) → Forward r
unfolding swapped backwards
uncovered [] h = h
uncovered (less ∷ r) h = h
uncovered (equal ∷ r) h = h
uncovered (greater ∷ r) h = h

-- all of a chain but its last exchange, at the front
but_last : (ks : List ℕ) → ((v : List Sign) → Forward v → Forward (swap_all ks v) → AllForward ks v) → (v : List Sign) → Forward v
    → Forward (swapped (swap_all (map suc ks) v)) → AllForward (map suc ks) v
unfolding backwards
but_last ks f [] h g = none (map suc ks)
but_last ks f (less ∷ v) h g = after_less ks v
but_last ks f (equal ∷ v) h g = after_equal ks v (f v h (uncovered (swap_all ks v) (subst (λ u. Forward (swapped u)) (swap_all-inner ks equal v) g)))
but_last ks f (greater ∷ v) h g = absurd (h tt)

outer-last : (n : ℕ) → down_to 0 (suc n) ≡ map suc (down_to 0 n) ++ 0 ∷ []
outer-last n = down-last 0 n ∙ ap (λ js. js ++ 0 ∷ []) (down-inner 0 n)

last_out : (n : ℕ) (v : List Sign) → Forward v → Forward (swap_all (down_to 0 n) v) → AllForward (down_to 0 n) v
unfolding swap_all under
last_out zero v h g = unfold down_to in tt
last_out (suc n) v h g =
    let final : Forward (swapped (swap_all (map suc (down_to 0 n)) v)) = subst Forward
    (ap (λ js. swap_all js v) (outer-last n) ∙ swap_all-append (map suc (down_to 0 n)) (0 ∷ []) v) g in
    subst (λ ks. AllForward ks v) (sym (outer-last n))
    (forward-append (map suc (down_to 0 n)) (0 ∷ []) v (but_last (down_to 0 n) (last_out n) v h final) (final, tt))

chain-out-forward : (b n : ℕ) (v : List Sign) → Forward v → Forward (swap_all (down_to b n) v) → AllForward (down_to b n) v
chain-out-forward zero n v h g = last_out n v h g
chain-out-forward (suc b) n v h g = subst (λ ks. AllForward ks v) (sym (down-inner b n))
    (inner (down_to b n) (chain-out-forward b n) v h (subst (λ ks. Forward (swap_all ks v)) (down-inner b n) g))

-- ---- either way

pub chain-forward : (a b : ℕ) (v : List Sign) → Forward v → Forward (swap_all (chain a b) v) → AllForward (chain a b) v
chain-forward a b v h g = ⊎_elim
    (λ t. let e = chain-in a b (leb→le a b t)
    in subst (λ ks. AllForward ks v) (sym e) (chain-in-forward a (b - a) v h (subst (λ ks. Forward (swap_all ks v)) e g)))
    (λ t. let p = nleb→lt a b (not_T (leb a b) t) in let e = chain-out a b (omega arith)
    in subst (λ ks. AllForward ks v) (sym e) (chain-out-forward b (a - b) v h (subst (λ ks. Forward (swap_all ks v)) e g)))
    (T-cases (leb a b))
