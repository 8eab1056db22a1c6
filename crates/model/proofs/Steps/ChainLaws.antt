-- The chain of neighbouring exchanges that brings a loop to a place: its two directions, its way back, and where it leaves each item.
use mathlib.Core.Path.{◌≡◌, refl, sym, ap, ap₂, ◌∙◌}
use mathlib.Core.Logic.{⊎_elim}
use mathlib.Core.List.{List, [], ◌∷◌, ◌++◌, map, append-nil}
use Prim.Native.Nat.{ℕ, zero, suc, ◌+◌, ◌-◌, ◌≤◌, ◌<◌}
use native.Mathlib.Omega.{arith}
use native.Mathlib.Nat.{add-zero, zero-add, suc-add, add-suc}
use lib.Dec.{leb, leb→le, nleb→lt, not_T}
use lib.ListN.{length, get_or, take, drop, length-append}
use Rattle.lists.specs.Membership.{All}
use Rattle.lists.specs.Place.{under, swapped, swap_all, swap_back, moved_to}
use Rattle.lists.proofs.MembershipLaws.{all_nil, all_cons, all_append}
use Rattle.lists.proofs.SwapLaws.{swap_all-append, swap_back-append, swap_all-inner}
use Rattle.lists.proofs.TestLaws.{T-cases}
use Rattle.model.specs.Directions.{up_from}
use Rattle.model.specs.Steps.{down_to, chain}

-- ---- numbers that rise and fall

pub up-length : (k n : ℕ) → length (up_from k n) ≡ n
unfolding up_from
up-length k zero = refl
up-length k (suc n) = ap suc (up-length (suc k) n)

pub down-length : (k n : ℕ) → length (down_to k n) ≡ n
unfolding down_to
down-length k zero = refl
down-length k (suc n) = ap suc (down-length k n)

pub up-get_d : (k n j : ℕ) → j < n → get_or (up_from k n) j 0 ≡ k + j
unfolding up_from
up-get_d k zero j h = absurd (omega arith)
up-get_d k (suc n) zero h = omega arith
up-get_d k (suc n) (suc j) h = up-get_d (suc k) n j (omega arith) ∙ omega arith

pub down-get_d : (k n j : ℕ) → j < n → get_or (down_to k n) j 0 ≡ k + n - 1 - j
unfolding down_to
down-get_d k zero j h = absurd (omega arith)
down-get_d k (suc n) zero h = omega arith
down-get_d k (suc n) (suc j) h = down-get_d k n j (omega arith) ∙ omega arith

pub up-inner : (k n : ℕ) → up_from (suc k) n ≡ map suc (up_from k n)
unfolding up_from
up-inner k zero = refl
up-inner k (suc n) = ap (suc k ∷◌) (up-inner (suc k) n)

pub down-inner : (k n : ℕ) → down_to (suc k) n ≡ map suc (down_to k n)
unfolding down_to
down-inner k zero = refl
down-inner k (suc n) = ap₂ ◌∷◌ (suc-add k n) (down-inner k n)

up-last : (k n : ℕ) → up_from k (suc n) ≡ up_from k n ++ (k + n) ∷ []
unfolding up_from
up-last k zero = ap (◌∷ []) (sym (add-zero k))
up-last k (suc n) = ap (k ∷◌) (up-last (suc k) n ∙ ap (λ i. up_from (suc k) n ++ i ∷ []) (suc-add k n ∙ sym (add-suc k n)))

pub up-parts : (k m n : ℕ) → up_from k (m + n) ≡ up_from k m ++ up_from (k + m) n
unfolding up_from
up-parts k zero n = ap₂ up_from (sym (add-zero k)) (zero-add n)
up-parts k (suc m) n = ap (up_from k) (suc-add m n)
    ∙ ap (k ∷◌) (up-parts (suc k) m n ∙ ap (λ i. up_from (suc k) m ++ up_from i n) (suc-add k m ∙ sym (add-suc k m)))

pub down-last : (k n : ℕ) → down_to k (suc n) ≡ down_to (suc k) n ++ k ∷ []
unfolding down_to
down-last k zero = ap (◌∷ []) (add-zero k)
down-last k (suc n) = ap₂ ◌∷◌ (add-suc k n ∙ sym (suc-add k n)) (down-last k n)

-- ---- the chain is one of the two

pub chain-in : (a b : ℕ) → a ≤ b → chain a b ≡ up_from a (b - a)
unfolding chain down_to
chain-in a b h = let e : a - b ≡ 0 = omega arith in ap (λ n. up_from a (b - a) ++ down_to b n) e ∙ append-nil (up_from a (b - a))

pub chain-out : (a b : ℕ) → b ≤ a → chain a b ≡ down_to b (a - b)
unfolding chain up_from
chain-out a b h = let e : b - a ≡ 0 = omega arith in ap (λ n. up_from a n ++ down_to b (a - b)) e

-- a loop that moves is exchanged
pub chain-some : (a b : ℕ) → (a ≡ b → ⊥) → chain a b ≡ [] → ⊥
unfolding chain
chain-some a b h e =
    let n : length (up_from a (b - a) ++ down_to b (a - b)) ≡ 0 = ap length e in
    let s = length-append (up_from a (b - a)) (down_to b (a - b)) in
    let u = up-length a (b - a) in
    let d = down-length b (a - b) in
    h (omega arith)

-- ---- the way back

module _ {ℓ} {A : Type ℓ} where
  up-back : (k n : ℕ) (l : List A) → swap_back (up_from k n) l ≡ swap_all (down_to k n) l
  unfolding up_from down_to swap_back swap_all
  up-back k zero l = refl
  up-back k (suc n) l = ap (under k swapped) (up-back (suc k) n l)
      ∙ sym (ap (λ ks. swap_all ks l) (down-last k n) ∙ swap_all-append (down_to (suc k) n) (k ∷ []) l)

  down-back : (k n : ℕ) (l : List A) → swap_back (down_to k n) l ≡ swap_all (up_from k n) l
  unfolding up_from down_to swap_back swap_all
  down-back k zero l = refl
  down-back k (suc n) l = ap (under (k + n) swapped) (down-back k n l)
      ∙ sym (ap (λ ks. swap_all ks l) (up-last k n) ∙ swap_all-append (up_from k n) ((k + n) ∷ []) l)

  -- from a to b, undone, is from b to a
  pub chain_back : (a b : ℕ) (l : List A) → swap_back (chain a b) l ≡ swap_all (chain b a) l
  unfolding chain
  chain_back a b l =
      swap_back-append (up_from a (b - a)) (down_to b (a - b)) l
      ∙ ap (swap_back (up_from a (b - a))) (down-back b (a - b) l)
      ∙ up-back a (b - a) (swap_all (up_from b (a - b)) l)
      ∙ sym (swap_all-append (up_from b (a - b)) (down_to a (b - a)) l)

-- ---- where each item is left

module _ {A : Type 0} where
  inwards : (n : ℕ) (x : A) (l : List A) → n ≤ length l → swap_all (up_from 0 n) (x ∷ l) ≡ under n (λ t. x ∷ t) l
  unfolding up_from swap_all under swapped
  inwards zero x l h = refl
  inwards (suc n) x [] h = absurd (omega arith)
  inwards (suc n) x (y ∷ l) h = ap (λ ks. swap_all ks (y ∷ x ∷ l)) (up-inner 0 n) ∙ swap_all-inner (up_from 0 n) y (x ∷ l)
      ∙ ap (y ∷◌) (inwards n x l (omega arith))

  moved_in : (a n : ℕ) (l : List A) → a + n < length l → swap_all (up_from a n) l ≡ moved_to a (a + n) l
  unfolding moved_to under
  moved_in a n [] h = absurd (omega arith)
  moved_in zero n (x ∷ l) h = rw (zero-add n) (inwards n x l (omega arith))
  moved_in (suc a) n (x ∷ l) h = rw (suc-add a n)
      (ap (λ ks. swap_all ks (x ∷ l)) (up-inner a n) ∙ swap_all-inner (up_from a n) x l ∙ ap (x ∷◌) (moved_in a n l (omega arith)))

  first-swapped : (x : A) (d r : List A) → 0 < length d → swapped (x ∷ (take 1 d ++ r)) ≡ take 1 d ++ (x ∷ r)
  unfolding swapped
  first-swapped x [] r h = absurd (omega arith)
  first-swapped x (y ∷ d) r h = refl

  some_left : (n : ℕ) (l : List A) → n < length l → 0 < length (drop n l)
  some_left n [] h = absurd (omega arith)
  some_left zero (x ∷ l) h = omega arith
  some_left (suc n) (x ∷ l) h = some_left n l (omega arith)

  outwards : (n : ℕ) (l : List A) → n < length l → swap_all (down_to 0 n) l ≡ take 1 (drop n l) ++ under n (drop 1) l
  unfolding down_to swap_all under
  outwards n [] h = absurd (omega arith)
  outwards zero (x ∷ l) h = refl
  outwards (suc n) (x ∷ l) h =
      ap (λ ks. swap_all ks (x ∷ l)) (down-last 0 n ∙ ap (λ ks. ks ++ 0 ∷ []) (down-inner 0 n))
      ∙ swap_all-append (map suc (down_to 0 n)) (0 ∷ []) (x ∷ l)
      ∙ ap swapped (swap_all-inner (down_to 0 n) x l ∙ ap (x ∷◌) (outwards n l (omega arith)))
      ∙ first-swapped x (drop n l) (under n (drop 1) l) (some_left n l (omega arith))

  moved_out : (b n : ℕ) (l : List A) → b + n < length l → swap_all (down_to b n) l ≡ moved_to (b + n) b l
  unfolding moved_to under
  moved_out b n [] h = absurd (omega arith)
  moved_out zero n (x ∷ l) h = rw (zero-add n) (outwards n (x ∷ l) (omega arith))
  moved_out (suc b) n (x ∷ l) h = rw (suc-add b n)
      (ap (λ ks. swap_all ks (x ∷ l)) (down-inner b n) ∙ swap_all-inner (down_to b n) x l ∙ ap (x ∷◌) (moved_out b n l (omega arith)))

  -- the chain takes the item at a to place b, and those between close up
  pub chain-moves : (a b : ℕ) (l : List A) → a < length l → b < length l → swap_all (chain a b) l ≡ moved_to a b l
  chain-moves a b l h g = ⊎_elim
      (λ t. let p = leb→le a b t in let e : a + (b - a) ≡ b = omega arith in
      ap (λ ks. swap_all ks l) (chain-in a b p) ∙ moved_in a (b - a) l (omega arith) ∙ ap (λ i. moved_to a i l) e)
      (λ t. let p = nleb→lt a b (not_T (leb a b) t) in let e : b + (a - b) ≡ a = omega arith in
      ap (λ ks. swap_all ks l) (chain-out a b (omega arith)) ∙ moved_out b (a - b) l (omega arith) ∙ ap (λ i. moved_to i b l) e)
      (T-cases (leb a b))

-- ---- the exchanges of a chain are within the loops that it names

up-below : (k n : ℕ) → All (λ j. j < k + n) (up_from k n)
unfolding up_from
up-below k zero = all_nil (λ j. j < k + 0)
up-below k (suc n) = all_cons (λ j. j < k + suc n) (omega arith) (λ j m. let h = up-below (suc k) n j m in omega arith)

down-below : (k n : ℕ) → All (λ j. j < k + n) (down_to k n)
unfolding down_to
down-below k zero = all_nil (λ j. j < k + 0)
down-below k (suc n) = all_cons (λ j. j < k + suc n) (omega arith) (λ j m. let h = down-below k n j m in omega arith)

pub chain-below : (a b m : ℕ) → a < m → b < m → All (λ k. suc k < m) (chain a b)
unfolding chain
chain-below a b m h g = all_append (λ k. suc k < m) (up_from a (b - a)) (down_to b (a - b))
    (λ k i. let l = up-below a (b - a) k i in omega arith) (λ k i. let l = down-below b (a - b) k i in omega arith)
