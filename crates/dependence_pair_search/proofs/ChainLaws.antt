-- Chains of places by element. In order: a chain passes over no place that has the element; the heads from which links are read; the
-- links; a walk along them.
use mathlib.Core.Path.{◌≡◌, refl, sym, ap, ◌∙◌}
use mathlib.Core.Bool.{Bool, true, false, cond, not, ◌&&◌, ◌||◌, true≢false}
use mathlib.Core.Logic.{◌⊎◌, inl, inr, ⊎_elim}
use mathlib.Core.List.{List}
use Prim.Native.Nat.{ℕ, zero, suc, ◌+◌, ◌-◌, ◌≤◌, ◌<◌}
use native.Mathlib.Nat.{eq-or-lt_of_le}
use native.Mathlib.Numerals.{add-one}
use native.Mathlib.Decide.{dec_lt}
use native.Mathlib.Omega.{arith}
use lib.Dec.{T, eqb}
use lib.ListN.{length, get_or, set, length-set, get_or-eq_default}
use lib.Seq.{get_or-set_same, get_or-set_other}
use borrow.Author.Count.{below_more}
use borrow.Author.Tests.{eq-eqb, eqb-true, eqb-false, not-false}
use Rattle.dependence_pair_search.specs.Search.{some, latest, up_to, Links, Unlinked, Clear, ClearElse, along}

-- ---- chains

pub chain-skips-none : (numbers : List ℕ) (e : ℕ) (q : ℕ → Bool) (k : ℕ)
    → some k (λ x. eqb (get_or numbers x 0) e && q x) ≡ some (latest numbers e k) (λ x. eqb (get_or numbers x 0) e && q x)
unfolding some latest
chain-skips-none numbers e q zero = refl
chain-skips-none numbers e q (suc k) = go (eqb (get_or numbers k 0) e) refl (chain-skips-none numbers e q k)
  where
    p : ℕ → Bool
    p x = eqb (get_or numbers x 0) e && q x

    go : (b : Bool) → eqb (get_or numbers k 0) e ≡ b → some k p ≡ some (latest numbers e k) p
        → ((eqb (get_or numbers k 0) e && q k) || some k p) ≡ some (cond (eqb (get_or numbers k 0) e) (suc k) (latest numbers e k)) p
    go true h i = rw h (sym (ap (λ b. (b && q k) || some k p) h))
    go false h i = rw h i

pub latest-le : (numbers : List ℕ) (e k : ℕ) → latest numbers e k ≤ k
unfolding latest
latest-le numbers e zero = omega arith
latest-le numbers e (suc k) = let h = latest-le numbers e k in go h (eqb (get_or numbers k 0) e)
  where
    go : latest numbers e k ≤ k → (b : Bool) → cond b (suc k) (latest numbers e k) ≤ suc k
    go h true = omega arith
    go h false = omega arith

-- where the latest place is, the element is
pub latest-has : (numbers : List ℕ) (e k x : ℕ) → latest numbers e k ≡ suc x → get_or numbers x 0 ≡ e
unfolding latest
latest-has numbers e zero x h = absurd (omega arith)
latest-has numbers e (suc k) x h = go (λ i. latest-has numbers e k x i) (eqb (get_or numbers k 0) e) refl
  where
    go : (latest numbers e k ≡ suc x → get_or numbers x 0 ≡ e) → (b : Bool) → eqb (get_or numbers k 0) e ≡ b → get_or numbers x 0 ≡ e
    go i true g = let f : suc k ≡ suc x = rw g at h in let f' : k ≡ x = omega arith in ap (λ i. get_or numbers i 0) (sym f')
        ∙ eqb-true (get_or numbers k 0) e g
    go i false g = i (rw g at h)

-- where the element is, there is a latest place
pub latest-there : (numbers : List ℕ) (e k x : ℕ) → x < k → get_or numbers x 0 ≡ e → latest numbers e k ≡ 0 → ⊥
unfolding latest
latest-there numbers e zero x l i h = omega arith
latest-there numbers e (suc k) x l i h = go (λ a. latest-there numbers e k x a i) (eqb (get_or numbers k 0) e) refl
    (eq-or-lt_of_le (let z : x ≤ k = omega arith in z))
  where
    go : (x < k → latest numbers e k ≡ 0 → ⊥) → (b : Bool) → eqb (get_or numbers k 0) e ≡ b → (x ≡ k) ⊎ (x < k) → ⊥
    go r true g w = let f : suc k ≡ 0 = rw g at h in omega arith
    go r false g (inl a) = eqb-false (get_or numbers k 0) e g (ap (λ z. get_or numbers z 0) (sym a) ∙ i)
    go r false g (inr a) = r a (rw g at h)

pub up_to-le : (own : Bool) (y n : ℕ) → y < n → up_to own y ≤ n
unfolding up_to
up_to-le true y n h = omega arith
up_to-le false y n h = omega arith

pub up_to-cases : (own : Bool) (x y : ℕ) → x < up_to own y → (x < y) ⊎ ((x ≡ y) × T own)
unfolding up_to
up_to-cases true x y h = ⊎_elim (λ e. inr (e, tt)) inl (eq-or-lt_of_le (let g : x ≤ y = omega arith in g))
up_to-cases false x y h = inl h

pub cases-up_to : (own : Bool) (x y : ℕ) → (x < y) ⊎ ((x ≡ y) × T own) → x < up_to own y
unfolding up_to
cases-up_to true x y (inl h) = omega arith
cases-up_to false x y (inl h) = h
cases-up_to true x y (inr h) = let e = h.0 in omega arith
cases-up_to false x y (inr h) = absurd h.1

-- ---- the heads of the chains: for each element its latest place below y

abbrev pub Heads : List ℕ → List ℕ → ℕ → Type 0
Heads from head y = (e : ℕ) → e < length head → get_or head e 0 ≡ latest from e y

pub heads-none : (from head : List ℕ) → Clear head → Heads from head 0
unfolding latest
heads-none from head h e k = h e

pub heads-more : (from head : List ℕ) (y f v : ℕ) → f < length head → f ≡ get_or from y 0 → v ≡ y + 1 → Heads from head y
    → Heads from (set head f v) (y + 1)
unfolding latest
heads-more from head y f v b i n h e k = rw (n, add-one y) (go (eqb (get_or from y 0) e) refl)
  where
    go : (t : Bool) → eqb (get_or from y 0) e ≡ t → get_or (set head f (suc y)) e 0 ≡ cond (eqb (get_or from y 0) e) (suc y) (latest from e y)
    go true g = let a : f ≡ e = i ∙ eqb-true (get_or from y 0) e g in rw (g, a) (get_or-set_same head e (suc y) 0 (omega arith))
    go false g = rw g (get_or-set_other head f e (suc y) 0 (λ a. eqb-false (get_or from y 0) e g (sym i ∙ sym a))
        ∙ h e (let z = length-set head f v in omega arith))

-- the heads are taken away again, the latest place first

pub heads-else : (from head : List ℕ) (y : ℕ) → Heads from head y → ClearElse from head y
heads-else from head y h e l = elim (dec_lt e (length head)) [
  | yes k ↦ h e k ∙ l
  | no k ↦ get_or-eq_default head 0 (omega arith)
]

pub clear-less : (from head : List ℕ) (y f : ℕ) → f < length head → 0 < y → f ≡ get_or from (y - 1) 0 → ClearElse from head y
    → ClearElse from (set head f 0) (y - 1)
unfolding latest
clear-less from head y f l p i h e none = go (eqb (get_or from (y - 1) 0) e) refl
  where
    go : (t : Bool) → eqb (get_or from (y - 1) 0) e ≡ t → get_or (set head f 0) e 0 ≡ 0
    go true g = let a : f ≡ e = i ∙ eqb-true (get_or from (y - 1) 0) e g in rw a (get_or-set_same head e 0 0 (omega arith))
    go false g = get_or-set_other head f e 0 0 (λ a. eqb-false (get_or from (y - 1) 0) e g (sym i ∙ sym a))
        ∙ h e (let j : y ≡ suc (y - 1) = (let z : y ≡ (y - 1) + 1 = omega arith in z) ∙ add-one (y - 1) in ap (latest from e) j
        ∙ ap (λ b. cond b (suc (y - 1)) (latest from e (y - 1))) g ∙ none)

pub clear-all : (from head : List ℕ) (y : ℕ) → y ≤ 0 → ClearElse from head y → Clear head
unfolding latest
clear-all from head y l h e = h e (ap (latest from e) (let z : y ≡ 0 = omega arith in z))

-- ---- links

pub links-more : (from to : List ℕ) (own : Bool) (out : List ℕ) (y l : ℕ) → y < length out → l ≡ latest from (get_or to y 0) (up_to own y)
    → ((k : ℕ) → k < y → get_or out k 0 ≡ latest from (get_or to k 0) (up_to own k))
    → (k : ℕ) → k < y + 1 → get_or (set out y l) k 0 ≡ latest from (get_or to k 0) (up_to own k)
links-more from to own out y l b e h = below_more (λ k. get_or (set out y l) k 0 ≡ latest from (get_or to k 0) (up_to own k)) y
    (λ k g. get_or-set_other out y k l 0 (λ a. let r : k ≡ y = a in absurd (omega arith)) ∙ h k g) (get_or-set_same out y l 0 b ∙ e)

-- whether there is a link
pub unlinked-more : (out : List ℕ) (any : Bool) (y l : ℕ) → y < length out → (any ≡ false → Unlinked y out) → any || not (eqb l 0) ≡ false
    → Unlinked (y + 1) (set out y l)
unlinked-more out true y l b h e = absurd (true≢false e)
unlinked-more out false y l b h e = below_more (λ k. get_or (set out y l) k 0 ≡ 0) y
    (λ k g. get_or-set_other out y k l 0 (λ a. let r : k ≡ y = a in absurd (omega arith)) ∙ h refl k g)
    (get_or-set_same out y l 0 b ∙ eqb-true l 0 (not-false (eqb l 0) e))

-- the link of y is read before its own place is entered, or after
pub link-turn : (from head head' : List ℕ) (own : Bool) (y e e' l : ℕ) → e < length head → length head' ≡ length head → e ≡ e' → Heads from head y
    → Heads from head' (y + 1)
    → ((own ≡ true) × (l ≡ get_or head' e 0)) ⊎ ((own ≡ false) × (l ≡ get_or head e 0)) → l ≡ latest from e' (up_to own y)
unfolding up_to
link-turn from head head' own y e e' l b z i h g (inl w) = rw (w.0, ← i) (w.1 ∙ g e (omega arith))
link-turn from head head' own y e e' l b z i h g (inr w) = rw (w.0, ← i) (w.1 ∙ h e b)

-- ---- a walk

-- the length of a chain is no matter if it falls
pub along-enough : (next : List ℕ) (p : ℕ → Bool) (f g l : ℕ) → ((x : ℕ) → x < l → get_or next x 0 ≤ x) → l ≤ f → l ≤ g
    → along f next l p ≡ along g next l p
unfolding along
along-enough next p zero zero l h a b = refl
along-enough next p zero (suc g) zero h a b = refl
along-enough next p zero (suc g) (suc x) h a b = absurd (omega arith)
along-enough next p (suc f) zero zero h a b = refl
along-enough next p (suc f) zero (suc x) h a b = absurd (omega arith)
along-enough next p (suc f) (suc g) zero h a b = refl
along-enough next p (suc f) (suc g) (suc x) h a b = let i = h x (omega arith) in
    ap (p x ||◌) (along-enough next p f g (get_or next x 0) (λ z k. h z (omega arith)) (omega arith) (omega arith))

pub links-fall : (from next : List ℕ) → Links from from false next → (x : ℕ) → x < length from → get_or next x 0 ≤ x
unfolding up_to
links-fall from next k x h = let a = k x h in let b = latest-le from (get_or from x 0) x in omega arith

-- the chain from the latest place that has e finds all of them
pub along-finds : (from next : List ℕ) (e : ℕ) (q : ℕ → Bool) → Links from from false next
    → (f n l : ℕ) → n ≤ length from → l ≡ latest from e n → l ≤ f → along f next l q ≡ some n (λ x. eqb (get_or from x 0) e && q x)
unfolding along some up_to
along-finds from next e q k zero n l h i b = sym (chain-skips-none from e q n
    ∙ ap (λ m. some m (λ x. eqb (get_or from x 0) e && q x)) (let z : latest from e n ≡ 0 = omega arith in z))
along-finds from next e q k (suc f) n zero h i b = sym (chain-skips-none from e q n ∙ ap (λ m. some m (λ x. eqb (get_or from x 0) e && q x)) (sym i))
along-finds from next e q k (suc f) n (suc x) h i b =
    let a = latest-le from e n in
    let g : get_or from x 0 ≡ e = latest-has from e n x (sym i) in
    let j : get_or next x 0 ≡ latest from e x = k x (omega arith) ∙ ap (λ z. latest from z x) g in
    let c = latest-le from e x in
    ap (q x ||◌) (along-finds from next e q k f x (get_or next x 0) (omega arith) j (omega arith))
    ∙ sym (chain-skips-none from e q n ∙ ap (λ m. some m (λ x. eqb (get_or from x 0) e && q x)) (sym i)
    ∙ ap (λ b. (b && q x) || some x (λ x. eqb (get_or from x 0) e && q x)) (eq-eqb (get_or from x 0) e g))
