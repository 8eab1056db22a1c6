-- A subscript after a step, at the point that the step makes, is the old one at the old point: coefficients and indices change together and their
-- products sum to the same. So an access names the same element.
use mathlib.Core.Path.{◌≡◌, refl, sym, ap, ◌∙◌}
use mathlib.Core.List.{List, [], ◌∷◌, map, map-map}
use Prim.Native.Nat.{ℕ, zero, suc}
use native.Mathlib.Omega.{arith}
use lib.IntN.{ℤ, pos, neg_ℤ, ◌+ℤ◌, ◌-ℤ◌, ◌*ℤ◌}
use lib.ListN.{length, get_or}
use Rattle.lists.specs.Membership.{All}
use Rattle.lists.specs.Place.{under, on_head, swapped, swap_all}
use Rattle.lists.proofs.MembershipLaws.{map_same}
use Rattle.lists.proofs.SwapLaws.{swap-lengths}
use Rattle.integers.specs.Affine.{dot, affine}
use Rattle.integers.proofs.AffineLaws.{dot-index}
use Rattle.integers.proofs.DivisionLaws.{quotient, rest, rejoin}
use Rattle.integers.proofs.Polynomial.{◌⊕◌, ◌⊖◌, ◌⊗◌, ⊝}
use Rattle.integers.proofs.Linear.{lin, ◌≐◌}
use Rattle.model.specs.Ticket.{Subscript, Access, Step, exchange, reversal, skew, section, circulation}
use Rattle.model.specs.Bounds.{subscript_at}
use Rattle.model.specs.Machine.{element}
use Rattle.model.specs.Steps.{skewed, sectioned, chain, forward}
use Rattle.model.specs.Limits.{skew_coefficients, split_coefficients, coefficients_after, subscript_after, access_after}
use Rattle.model.specs.Shape.{Fits}

-- ---- each step, from its place on

pub dot-swapped : (cs p : List ℤ) → length cs ≡ length p → dot (swapped cs) (swapped p) ≡ dot cs p
unfolding swapped dot
dot-swapped [] p e = refl
dot-swapped (c ∷ cs) [] e = absurd (omega arith)
dot-swapped (c ∷ []) (x ∷ []) e = refl
dot-swapped (c ∷ []) (x ∷ y ∷ p) e = absurd (omega arith)
dot-swapped (c ∷ d ∷ cs) (x ∷ []) e = absurd (omega arith)
dot-swapped (c ∷ d ∷ cs) (x ∷ y ∷ p) e = lin (c ∷ d ∷ x ∷ y ∷ dot cs p ∷ []) (λ c d x y r. d ⊗ y ⊕ (c ⊗ x ⊕ r) ≐ c ⊗ x ⊕ (d ⊗ y ⊕ r)) tt

pub dot-reversed : (cs p : List ℤ) → dot (on_head neg_ℤ cs) (on_head neg_ℤ p) ≡ dot cs p
unfolding on_head dot
dot-reversed [] p = refl
dot-reversed (c ∷ cs) [] = refl
dot-reversed (c ∷ cs) (x ∷ p) = lin (c ∷ x ∷ dot cs p ∷ []) (λ c x r. ⊝ c ⊗ ⊝ x ⊕ r ≐ c ⊗ x ⊕ r) tt

pub factor-mul : (c p x : ℤ) → (c *ℤ p) *ℤ x ≡ p *ℤ (c *ℤ x)
factor-mul c p x = lin (c ∷ p ∷ x ∷ []) (λ c p x. c ⊗ p ⊗ x ≐ p ⊗ (c ⊗ x)) tt

pub dot-skewed : (d : ℕ) (c : ℤ) (cs p : List ℤ) → length cs ≡ length p → dot (skew_coefficients d c cs) (skewed d c p) ≡ dot cs p
unfolding skew_coefficients skewed dot
dot-skewed d c [] p e = refl
dot-skewed d c (b ∷ cs) [] e = refl
dot-skewed d c (b ∷ cs) (x ∷ p) e = let k = get_or cs d (pos 0) in
    ap (λ r. (b -ℤ (c *ℤ k)) *ℤ x +ℤ r) (dot-index d (c *ℤ x) cs p (omega arith) ∙ ap (λ r. dot cs p +ℤ r) (sym (factor-mul c k x)))
    ∙ lin (b ∷ (c *ℤ k) ∷ x ∷ dot cs p ∷ []) (λ b s x r. (b ⊖ s) ⊗ x ⊕ (r ⊕ s ⊗ x) ≐ b ⊗ x ⊕ r) tt

-- the index is w S + E
pub dot-split : (w : ℕ) (S E : ℤ) (cs p : List ℤ) → dot (split_coefficients w cs) (S ∷ E ∷ p) ≡ dot cs ((pos w *ℤ S +ℤ E) ∷ p)
unfolding split_coefficients dot
dot-split w S E [] p = refl
dot-split w S E (c ∷ cs) p = lin (c ∷ pos w ∷ S ∷ E ∷ dot cs p ∷ []) (λ c w s e r. c ⊗ w ⊗ s ⊕ (c ⊗ e ⊕ r) ≐ c ⊗ (w ⊗ s ⊕ e) ⊕ r) tt

dot-sectioned : (w : ℕ) (cs p : List ℤ) → length cs ≡ length p → dot (split_coefficients w cs) (sectioned w p) ≡ dot cs p
unfolding sectioned
dot-sectioned w [] [] e = unfold split_coefficients in refl
dot-sectioned w (c ∷ cs) [] e = absurd (omega arith)
dot-sectioned w cs (x ∷ p) e = dot-split w (quotient (pos w) x) (rest (pos w) x) cs p ∙ ap (λ y. dot cs (y ∷ p)) (rejoin (pos w) x)

-- ---- at any place

dot-under : (g f : List ℤ → List ℤ) → ((cs p : List ℤ) → length cs ≡ length p → dot (g cs) (f p) ≡ dot cs p)
    → (a : ℕ) (cs p : List ℤ) → length cs ≡ length p → dot (under a g cs) (under a f p) ≡ dot cs p
unfolding under dot
dot-under g f h zero cs p e = h cs p e
dot-under g f h (suc a) [] p e = refl
dot-under g f h (suc a) (c ∷ cs) [] e = absurd (omega arith)
dot-under g f h (suc a) (c ∷ cs) (x ∷ p) e = ap (λ d. c *ℤ x +ℤ d) (dot-under g f h a cs p (omega arith))

dot-swap_all : (ks : List ℕ) (cs p : List ℤ) → length cs ≡ length p → dot (swap_all ks cs) (swap_all ks p) ≡ dot cs p
unfolding swap_all
dot-swap_all [] cs p e = refl
dot-swap_all (k ∷ ks) cs p e = dot-swap_all ks (under k swapped cs) (under k swapped p) (swap-lengths k cs p e)
    ∙ dot-under swapped swapped dot-swapped k cs p e

pub subscript-after : (t : Step) (cs p : List ℤ) → length cs ≡ length p → dot (coefficients_after t cs) (forward t p) ≡ dot cs p
unfolding coefficients_after forward
subscript-after (exchange a) cs p e = dot-under swapped swapped dot-swapped a cs p e
subscript-after (reversal a) cs p e = dot-under (on_head neg_ℤ) (on_head neg_ℤ) (λ cs p _. dot-reversed cs p) a cs p e
subscript-after (skew a d c) cs p e = dot-under (skew_coefficients d c) (skewed d c) (dot-skewed d c) a cs p e
subscript-after (section a w) cs p e = dot-under (split_coefficients w) (sectioned w) (dot-sectioned w) a cs p e
subscript-after (circulation a b) cs p e = dot-swap_all (chain a b) cs p e

-- ---- elements

module _ (t : Step) (p : List ℤ) where
  subscript_at-after : (s : Subscript) → length s.coefficients ≡ length p → subscript_at (forward t p) (subscript_after t s) ≡ subscript_at p s
  unfolding subscript_at subscript_after affine
  subscript_at-after s e = ap (λ d. s.constant +ℤ d) (subscript-after t s.coefficients p e)

  pub element-after : (as' : List (List ℕ)) (a : Access) → Fits as' (length p) a → element (forward t p) (access_after t a) ≡ element p a
  unfolding element access_after
  element-after as' a f = ap (λ xs. record { array = a.array; subscripts = xs })
      (map-map (subscript_at (forward t p)) (subscript_after t) a.subscripts
      ∙ map_same (λ s. subscript_at (forward t p) (subscript_after t s)) (subscript_at p) a.subscripts (λ s m. subscript_at-after s (f.wide s m)))

  -- those of a statement's writes or reads
  pub elements-after : (as' : List (List ℕ)) (l : List Access) → All (Fits as' (length p)) l
      → map (element (forward t p)) (map (access_after t) l) ≡ map (element p) l
  elements-after as' l f = map-map (element (forward t p)) (access_after t) l
      ∙ map_same (λ a. element (forward t p) (access_after t a)) (element p) l (λ a m. element-after as' a (f a m))
