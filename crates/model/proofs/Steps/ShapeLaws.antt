-- A step keeps the shape of a nest: a limit has a coefficient for each loop outside. That a step's loops can be run is in `RunsLaws`.
use mathlib.Core.Path.{◌≡◌, refl, sym, ap, ◌∙◌, subst}
use mathlib.Core.List.{List, [], ◌∷◌, map}
use Prim.Native.Nat.{ℕ, zero, suc, ◌+◌, ◌-◌, ◌<◌}
use native.Mathlib.Omega.{arith}
use lib.IntN.{ℤ, pos, negsuc, neg_ℤ, ◌+ℤ◌, ◌*ℤ◌}
use lib.ListN.{length, take, length-append, length-map, length-replicate}
use Rattle.lists.specs.Place.{under, on_head, swapped}
use Rattle.lists.proofs.MembershipLaws.{all_nil, all_cons, map-all, length-zip_with}
use Rattle.lists.proofs.PlaceLaws.{under-length, under-longer, length-on_head, length-swapped}
use Rattle.model.specs.Ticket.{Limit, Loop, Step, exchange, reversal, skew, section, circulation}
use Rattle.model.specs.Steps.{chain}
use Rattle.model.specs.Limits.{on_coefficients, on_limits, deeper, negated, reverse_at, outer_coefficient, kept, combined, outer_part}
use Rattle.model.specs.Limits.{solved_positive, solved_negative, when_positive, when_negative, widened, new_outer, new_inner, deduplicated}
use Rattle.model.specs.Limits.{exchange_at, skew_coefficients, skew_limit, skew_inner, skew_at, section_lower, section_upper, element_limit}
use Rattle.model.specs.Limits.{constant_limit, split_coefficients, section_at, exchange_all, loops_after}
use Rattle.model.specs.Shape.{Sized, Shaped}
use Rattle.model.proofs.Steps.LengthLaws.{length-skew_coefficients}
use Rattle.model.proofs.Steps.ExchangePartLaws.{outer-lower, outer-upper, inner-lower, inner-upper}
use Rattle.model.proofs.Steps.CombineLaws.{length-kept}
use Rattle.model.proofs.Steps.DeduplicatedLaws.{all-unique}

-- ---- any step

-- n coefficients
abbrev Has : ℕ → Limit → Type 0
Has n l = length l.coefficients ≡ n

-- a change of the deeper loops' coefficients that adds k of them
shaped-deeper : (g : List ℤ → List ℤ) (a k : ℕ) → ((cs : List ℤ) → a < length cs → length (g cs) ≡ length cs + k) → (n : ℕ) (N : List Loop) → a < n
    → Shaped n N → Shaped (n + k) (deeper g N)
unfolding deeper on_limits on_coefficients
shaped-deeper g a k h n [] b s = tt
shaped-deeper g a k h n (L ∷ N) b s = (
  (sized L.lower s.0.0, sized L.upper s.0.1),
  subst (λ i. Shaped i (deeper g N)) (omega arith) (shaped-deeper g a k h (suc n) N (omega arith) s.1),
)
  where
    sized : (ls : List Limit) → Sized n ls → Sized (n + k) (map (on_coefficients g) ls)
    sized ls s = unfold on_coefficients in map-all (on_coefficients g) (Has n) (Has (n + k)) ls
        (λ l e. h l.coefficients (omega arith) ∙ ap (λ i. i + k) e) s

shaped-same : (g : List ℤ → List ℤ) → ((cs : List ℤ) → length (g cs) ≡ length cs) → (n : ℕ) (N : List Loop) → Shaped (suc n) N
    → Shaped (suc n) (deeper g N)
shaped-same g h n N s = subst (λ i. Shaped i (deeper g N)) (omega arith) (shaped-deeper g 0 0 (λ cs _. h cs ∙ omega arith) (suc n) N (omega arith) s)

shaped-under : (G : List Loop → List Loop) (a : ℕ) → ((N : List Loop) → Shaped a N → Shaped a (G N)) → (n m : ℕ) → m + n ≡ a → (N : List Loop)
    → Shaped m N → Shaped m (under n G N)
unfolding under
shaped-under G a h zero m e N s = let q : m ≡ a = omega arith in subst (λ i. Shaped i (G N)) (sym q) (h N (subst (λ i. Shaped i N) q s))
shaped-under G a h (suc n) m e [] s = tt
shaped-under G a h (suc n) m e (L ∷ N) s = (s.0, shaped-under G a h n (suc m) (omega arith) N s.1)

-- ---- reversal

shaped-reverse : (a : ℕ) (N : List Loop) → Shaped a N → Shaped a (reverse_at a N)
unfolding reverse_at negated
shaped-reverse a [] s = tt
shaped-reverse a (L ∷ N) s = (
  (
    map-all negated (Has a) (Has a) L.upper (λ l e. length-map l.coefficients neg_ℤ ∙ e) s.0.1,
    map-all negated (Has a) (Has a) L.lower (λ l e. length-map l.coefficients neg_ℤ ∙ e) s.0.0,
  ),
  shaped-same (under a (on_head neg_ℤ)) (under-length (on_head neg_ℤ) (length-on_head neg_ℤ) a) a N s.1,
)

-- ---- exchange

module _ (a : ℕ) where
  sized-combined : (c : ℤ) (l : Limit) → Has (suc a) l → (ms : List Limit) → Sized a ms → Sized a (map (combined a c l) ms)
  unfolding combined
  sized-combined c l e ms s = map-all (combined a c l) (Has a) (Has a) ms (λ m f. length-zip_with _ (take a l.coefficients) m.coefficients
      (length-kept a l e ∙ sym f) ∙ f) s

  sized-outer : (s o : List Limit) → Sized a s → Sized a o → (c : ℤ) (l : Limit) → Has (suc a) l → Sized a (outer_part a s o c l)
  unfolding outer_part kept
  sized-outer s o hs ho (pos zero) l e = all_cons (Has a) (length-kept a l e) (all_nil (Has a))
  sized-outer s o hs ho (pos (suc n)) l e = sized-combined (pos (suc n)) l e s hs
  sized-outer s o hs ho (negsuc n) l e = sized-combined (negsuc n) l e o ho

  sized-positive : (c : ℤ) (l : Limit) → Has (suc a) l → Sized (suc a) (when_positive a c l)
  unfolding when_positive solved_positive
  sized-positive (pos zero) l e = all_nil (Has (suc a))
  sized-positive (pos (suc n)) l e = all_cons (Has (suc a)) (simp (length-append, length-map, length-kept a l e) (omega arith))
      (all_nil (Has (suc a)))
  sized-positive (negsuc n) l e = all_nil (Has (suc a))

  sized-negative : (c : ℤ) (l : Limit) → Has (suc a) l → Sized (suc a) (when_negative a c l)
  unfolding when_negative solved_negative
  sized-negative (pos n) l e = all_nil (Has (suc a))
  sized-negative (negsuc n) l e = all_cons (Has (suc a)) (simp (length-append, length-kept a l e) (omega arith)) (all_nil (Has (suc a)))

  sized-widened : (ls : List Limit) → Sized a ls → Sized (suc a) (map widened ls)
  unfolding widened
  sized-widened ls s = map-all widened (Has a) (Has (suc a)) ls (λ l e. simp length-append (omega (arith, e))) s

  module _ (I J : Loop) (sl : Sized a I.lower) (su : Sized a I.upper) (tl : Sized (suc a) J.lower) (tu : Sized (suc a) J.upper) where
    sized-new_outer : Sized a (new_outer a I J).lower × Sized a (new_outer a I J).upper
    sized-new_outer = (
      (outer-lower (Has a) a I J).1 (λ l m. sized-outer I.lower I.upper sl su (outer_coefficient a l) l (tl l m)),
      (outer-upper (Has a) a I J).1 (λ l m. sized-outer I.upper I.lower su sl (outer_coefficient a l) l (tu l m)),
    )

    sized-new_inner : Sized (suc a) (new_inner a I J).lower × Sized (suc a) (new_inner a I J).upper
    sized-new_inner = (
      (inner-lower (Has (suc a)) a I J).1 (
        sized-widened I.lower sl,
        (
          λ l m. sized-negative (outer_coefficient a l) l (tl l m),
          λ l m.
              sized-positive (outer_coefficient a l) l (tu l m),
        ),
      ),
      (inner-upper (Has (suc a)) a I J).1 (
        sized-widened I.upper su,
        (
          λ l m. sized-positive (outer_coefficient a l) l (tl l m),
          λ l m.
              sized-negative (outer_coefficient a l) l (tu l m),
        ),
      ),
    )

  sized-deduplicated : (n : ℕ) (L : Loop) → Sized n L.lower × Sized n L.upper → Sized n (deduplicated L).lower
      × Sized n (deduplicated L).upper
  unfolding deduplicated
  sized-deduplicated n L s = ((all-unique (Has n) L.lower).0 s.0, (all-unique (Has n) L.upper).0 s.1)

  shaped-exchange : (N : List Loop) → Shaped a N → Shaped a (exchange_at a N)
  unfolding exchange_at
  shaped-exchange [] s = tt
  shaped-exchange (I ∷ []) s = s
  shaped-exchange (I ∷ J ∷ N) s = (
    sized-deduplicated a (new_outer a I J) (sized-new_outer I J s.0.0 s.0.1 s.1.0.0 s.1.0.1),
    (
      sized-deduplicated (suc a) (new_inner a I J) (sized-new_inner I J s.0.0 s.0.1 s.1.0.0 s.1.0.1),
      shaped-same (under a swapped) (under-length swapped length-swapped a) (suc a) N s.1.1,
    ),
  )

-- ---- skew

module _ (a d : ℕ) (c : ℤ) where
  sized-skewed : (n : ℕ) (ls : List Limit) → Sized n ls → Sized n (map (skew_limit a c) ls)
  unfolding skew_limit
  sized-skewed n ls s = map-all (skew_limit a c) (Has n) (Has n) ls
      (λ l e. under-length (on_head (λ x. x +ℤ (c *ℤ (pos l.multiplier)))) (length-on_head (λ x. x +ℤ (c *ℤ (pos l.multiplier)))) a
      l.coefficients ∙ e) s

  shaped-inner : (n : ℕ) (N : List Loop) → Shaped n N → Shaped n (skew_inner a d c N)
  unfolding skew_inner on_limits
  shaped-inner n [] s = tt
  shaped-inner n (L ∷ N) s = (
    (sized-skewed n L.lower s.0.0, sized-skewed n L.upper s.0.1),
    shaped-same (under a (skew_coefficients d c)) (under-length (skew_coefficients d c) (length-skew_coefficients d c) a) n N s.1,
  )

  shaped-skew : (N : List Loop) → Shaped a N → Shaped a (skew_at a d c N)
  unfolding skew_at
  shaped-skew [] s = tt
  shaped-skew (L ∷ N) s = (s.0, shaped-under (skew_inner a d c) (suc a + d) (shaped-inner (suc a + d)) d (suc a) refl N s.1)

-- ---- section

module _ (a w : ℕ) where
  sized-element : (ls : List Limit) → Sized a ls → Sized (suc a) (map (element_limit w) ls)
  unfolding element_limit
  sized-element ls s = map-all (element_limit w) (Has a) (Has (suc a)) ls (λ l e. simp length-append (omega (arith, e))) s

  sized-constant : (n : ℕ) → Has (suc a) (constant_limit a n)
  unfolding constant_limit
  sized-constant n = length-replicate (suc a) (pos 0)

  length-split : (x : ℤ) (cs : List ℤ) → length (split_coefficients w (x ∷ cs)) ≡ suc (suc (length cs))
  unfolding split_coefficients
  length-split x cs = refl

  shaped-section : (N : List Loop) → Shaped a N → Shaped a (section_at a w N)
  unfolding section_at section_lower section_upper
  shaped-section [] s = tt
  shaped-section (L ∷ N) s = (
    (
      map-all (section_lower w) (Has a) (Has a) L.lower (λ l e. e) s.0.0,
      map-all (section_upper w) (Has a) (Has a) L.upper (λ l e. e)
          s.0.1,
    ),
    (
      (
        all_cons (Has (suc a)) (sized-constant 0) (sized-element L.lower s.0.0),
        all_cons (Has (suc a)) (sized-constant (w - 1))
            (sized-element L.upper s.0.1),
      ),
      subst (λ i. Shaped i (deeper (under a (split_coefficients w)) N)) (omega arith)
          (shaped-deeper (under a (split_coefficients w)) a 1 (λ cs l. under-longer (split_coefficients w) length-split a cs l ∙ omega arith) (suc a)
          N (omega arith) s.1),
    ),
  )

-- ---- any step

pub shaped-exchanges : (ks : List ℕ) (N : List Loop) → Shaped 0 N → Shaped 0 (exchange_all ks N)
unfolding exchange_all
shaped-exchanges [] N s = s
shaped-exchanges (k ∷ ks) N s = shaped-exchanges ks (under k (exchange_at k) N)
    (shaped-under (exchange_at k) k (shaped-exchange k) k 0 (omega arith) N s)

pub shaped-after : (t : Step) (N : List Loop) → Shaped 0 N → Shaped 0 (loops_after t N)
unfolding loops_after
shaped-after (exchange a) N s = shaped-under (exchange_at a) a (shaped-exchange a) a 0 (omega arith) N s
shaped-after (reversal a) N s = shaped-under (reverse_at a) a (shaped-reverse a) a 0 (omega arith) N s
shaped-after (skew a d c) N s = shaped-under (skew_at a d c) a (shaped-skew a d c) a 0 (omega arith) N s
shaped-after (section a w) N s = shaped-under (section_at a w) a (shaped-section a w) a 0 (omega arith) N s
shaped-after (circulation a b) N s = shaped-exchanges (chain a b) N s
