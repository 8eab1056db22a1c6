-- How many there are after a step: of a point's indices, of a subscript's coefficients and of loops, alike; and how many loops, where the loops
-- that the step names are there.
use mathlib.Core.Path.{◌≡◌, refl, sym, ap, ◌∙◌}
use mathlib.Core.List.{List, [], ◌∷◌}
use Prim.Native.Nat.{ℕ, suc, ◌+◌, ◌<◌}
use native.Mathlib.Omega.{arith}
use lib.IntN.{ℤ, neg_ℤ, ◌+ℤ◌, ◌*ℤ◌}
use lib.ListN.{length, length-map}
use Rattle.lists.specs.Place.{under, on_head, swapped}
use Rattle.lists.proofs.PlaceLaws.{under-length, under-lengths, under-longer, length-on_head, length-swapped}
use Rattle.lists.proofs.SwapLaws.{swap_all-length}
use Rattle.model.specs.Ticket.{Loop, Step, exchange, reversal, skew, section, circulation}
use Rattle.model.specs.Grammar.{depth_after}
use Rattle.model.specs.Steps.{skewed, sectioned, chain, forward}
use Rattle.model.specs.Limits.{on_limits, on_coefficients, deeper, reverse_at, skew_coefficients, skew_inner, skew_at, split_coefficients, section_at}
use Rattle.model.specs.Limits.{exchange_at, exchange_all, loops_after, coefficients_after}

-- ---- each change

length-skewed : (d : ℕ) (c : ℤ) (p : List ℤ) → length (skewed d c p) ≡ length p
unfolding skewed
length-skewed d c [] = refl
length-skewed d c (x ∷ p) = ap suc (under-length (on_head (λ y. y +ℤ (c *ℤ x))) (length-on_head (λ y. y +ℤ (c *ℤ x))) d p)

pub length-skew_coefficients : (d : ℕ) (c : ℤ) (cs : List ℤ) → length (skew_coefficients d c cs) ≡ length cs
unfolding skew_coefficients
length-skew_coefficients d c [] = refl
length-skew_coefficients d c (x ∷ cs) = refl

length-deeper : (g : List ℤ → List ℤ) (N : List Loop) → length (deeper g N) ≡ length N
unfolding deeper
length-deeper g N = length-map N (on_limits (on_coefficients g))

length-exchange_at : (a : ℕ) (N : List Loop) → length (exchange_at a N) ≡ length N
unfolding exchange_at
length-exchange_at a [] = refl
length-exchange_at a (I ∷ []) = refl
length-exchange_at a (I ∷ J ∷ N) = ap (λ n. suc (suc n)) (length-deeper (under a swapped) N)

length-exchanges : (ks : List ℕ) (N : List Loop) → length (exchange_all ks N) ≡ length N
unfolding exchange_all
length-exchanges [] N = refl
length-exchanges (k ∷ ks) N = length-exchanges ks (under k (exchange_at k) N) ∙ under-length (exchange_at k) (length-exchange_at k) k N

length-reverse_at : (a : ℕ) (N : List Loop) → length (reverse_at a N) ≡ length N
unfolding reverse_at
length-reverse_at a [] = refl
length-reverse_at a (L ∷ N) = ap suc (length-deeper (under a (on_head neg_ℤ)) N)

length-skew_inner : (a d : ℕ) (c : ℤ) (N : List Loop) → length (skew_inner a d c N) ≡ length N
unfolding skew_inner
length-skew_inner a d c [] = refl
length-skew_inner a d c (L ∷ N) = ap suc (length-deeper (under a (skew_coefficients d c)) N)

length-skew_at : (a d : ℕ) (c : ℤ) (N : List Loop) → length (skew_at a d c N) ≡ length N
unfolding skew_at
length-skew_at a d c [] = refl
length-skew_at a d c (L ∷ N) = ap suc (under-length (skew_inner a d c) (length-skew_inner a d c) d N)

length-section_at : (a w : ℕ) (L : Loop) (N : List Loop) → length (section_at a w (L ∷ N)) ≡ suc (suc (length N))
unfolding section_at
length-section_at a w L N = ap (λ n. suc (suc n)) (length-deeper (under a (split_coefficients w)) N)

split-lengths : (w : ℕ) (cs p : List ℤ) → length cs ≡ length p → length (split_coefficients w cs) ≡ length (sectioned w p)
unfolding split_coefficients sectioned
split-lengths w [] [] e = refl
split-lengths w [] (x ∷ p) e = absurd (omega arith)
split-lengths w (c ∷ cs) [] e = absurd (omega arith)
split-lengths w (c ∷ cs) (x ∷ p) e = ap suc e

section-lengths : (a w : ℕ) (N : List Loop) (p : List ℤ) → length N ≡ length p → length (section_at a w N) ≡ length (sectioned w p)
unfolding sectioned
section-lengths a w [] [] e = unfold section_at in refl
section-lengths a w [] (x ∷ p) e = absurd (omega arith)
section-lengths a w (L ∷ N) [] e = absurd (omega arith)
section-lengths a w (L ∷ N) (x ∷ p) e = length-section_at a w L N ∙ ap suc e

-- ---- any step

pub coefficients-length : (t : Step) (cs p : List ℤ) → length cs ≡ length p → length (coefficients_after t cs) ≡ length (forward t p)
unfolding coefficients_after forward
coefficients-length (exchange a) cs p e = under-length swapped length-swapped a cs ∙ e ∙ sym (under-length swapped length-swapped a p)
coefficients-length (reversal a) cs p e = under-length (on_head neg_ℤ) (length-on_head neg_ℤ) a cs ∙ e
    ∙ sym (under-length (on_head neg_ℤ) (length-on_head neg_ℤ) a p)
coefficients-length (skew a d c) cs p e = under-length (skew_coefficients d c) (length-skew_coefficients d c) a cs ∙ e
    ∙ sym (under-length (skewed d c) (length-skewed d c) a p)
coefficients-length (section a w) cs p e = under-lengths (split_coefficients w) (sectioned w) (split-lengths w) a cs p e
coefficients-length (circulation a b) cs p e = swap_all-length (chain a b) cs ∙ e ∙ sym (swap_all-length (chain a b) p)

pub loops-length : (t : Step) (N : List Loop) (p : List ℤ) → length N ≡ length p → length (loops_after t N) ≡ length (forward t p)
unfolding loops_after forward
loops-length (exchange a) N p e = under-length (exchange_at a) (length-exchange_at a) a N ∙ e ∙ sym (under-length swapped length-swapped a p)
loops-length (reversal a) N p e = under-length (reverse_at a) (length-reverse_at a) a N ∙ e ∙ sym (under-length (on_head neg_ℤ) (length-on_head neg_ℤ) a p)
loops-length (skew a d c) N p e = under-length (skew_at a d c) (length-skew_at a d c) a N ∙ e ∙ sym (under-length (skewed d c) (length-skewed d c) a p)
loops-length (section a w) N p e = under-lengths (section_at a w) (sectioned w) (section-lengths a w) a N p e
loops-length (circulation a b) N p e = length-exchanges (chain a b) N ∙ e ∙ sym (swap_all-length (chain a b) p)

pub step-length : (t : Step) (p q : List ℤ) → length p ≡ length q → length (forward t p) ≡ length (forward t q)
step-length t p q e = sym (coefficients-length t q p (sym e)) ∙ coefficients-length t q q refl

-- ---- the loops that a step names are among n

abbrev pub There : Step → ℕ → Type 0
There (exchange a) n = suc a < n
There (reversal a) n = a < n
There (skew a d c) n = suc (a + d) < n
There (section a w) n = a < n
There (circulation a b) n = Unit {0}

pub depth-after : (t : Step) (N : List Loop) → There t (length N) → length (loops_after t N) ≡ depth_after t (length N)
unfolding loops_after depth_after
depth-after (exchange a) N h = under-length (exchange_at a) (length-exchange_at a) a N
depth-after (reversal a) N h = under-length (reverse_at a) (length-reverse_at a) a N
depth-after (skew a d c) N h = under-length (skew_at a d c) (length-skew_at a d c) a N
depth-after (section a w) N h = under-longer (section_at a w) (length-section_at a w) a N h
depth-after (circulation a b) N h = length-exchanges (chain a b) N
