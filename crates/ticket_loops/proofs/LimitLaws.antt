-- Limits laid over words (`lay_limits`). In order: one more; what stays; one limit read back, then all; multipliers that can be divided by;
-- sizes.
use mathlib.Core.Path.{◌≡◌, refl, sym, ap, ap₂, ◌∙◌, subst}
use mathlib.Core.List.Memᴰ
use mathlib.Core.List.{List, [], ◌∷◌, ◌++◌}
use Prim.Native.Nat.{ℕ, zero, suc, ◌+◌, ◌*◌, ◌-◌, ◌≤◌}
use native.Mathlib.Omega.{arith}
use native.Mathlib.Nat.{add-zero}
use lib.IntN.{ℤ, pos, nat_abs}
use lib.Signed.{◌<ℤ◌}
use lib.ListN.{length, get_or, take, drop}
use lib.Seq.{take-take, drop-drop}
use Rattle.lists.specs.Membership.{All}
use Rattle.lists.specs.Parts.{put}
use Rattle.lists.proofs.PartLaws.{drop-take, take_put, put_written, get_d-put, length-put}
use Rattle.integers.specs.Affine.{Within}
use Rattle.integers.proofs.RingLaws.{zarith}
use Rattle.integers.proofs.RangeLaws.{size-nat_abs}
use Rattle.model.specs.Ticket.{Limit}
use Rattle.model.specs.Encode.{limit_words}
use Rattle.model.specs.Shape.{Sized}
use Rattle.model.specs.Ranges.{Small, LimitRanges}
use Rattle.nest_flat.specs.Flat.{limit_at, limits_at, Positive}
use Rattle.ticket_loops.specs.Laid.{lay_limits}
use Rattle.ticket_loops.proofs.PutLaws.{within-put, get_d_front}

-- ---- one more

pub lay-more : (s : List ℤ) (j : ℕ) (ls : List Limit) (l : Limit)
    → lay_limits s j (ls ++ (l ∷ [])) ≡ put (lay_limits s j ls) ((j + length ls) * 8) (limit_words l)
unfolding lay_limits
lay-more s j [] l = ap (λ n. put s (n * 8) (limit_words l)) (sym (add-zero j))
lay-more s j (m ∷ ls) l =
    let e : suc j + length ls ≡ j + suc (length ls) = omega arith in
    lay-more (put s (j * 8) (limit_words m)) (suc j) ls l ∙ ap (λ n. put (lay_limits (put s (j * 8) (limit_words m)) (suc j) ls) (n * 8)
    (limit_words l)) e

-- ---- what stays

length-words : (l : Limit) (k : ℕ) → length l.coefficients ≡ k → length (limit_words l) ≡ 2 + k
unfolding limit_words
length-words l k e = omega arith

module _ (k : ℕ) (shallow : k ≤ 6) where
  put-length : (s : List ℤ) (j : ℕ) (l : Limit) → length l.coefficients ≡ k → suc j * 8 ≤ length s
      → length (put s (j * 8) (limit_words l)) ≡ length s
  put-length s j l e h = let n = length-words l k e in length-put s (j * 8) (limit_words l) (omega arith)

  pub lay-length : (s : List ℤ) (j : ℕ) (ls : List Limit) → Sized k ls → (j + length ls) * 8 ≤ length s → length (lay_limits s j ls) ≡ length s
  unfolding lay_limits
  lay-length s j [] w h = refl
  lay-length s j (l ∷ ls) w h =
      let e = put-length s j l (w l (Memᴰ.head refl)) (omega arith) in
      lay-length (put s (j * 8) (limit_words l)) (suc j) ls (λ x m. w x (Memᴰ.tail m)) (omega arith) ∙ e

  pub lay-front : (s : List ℤ) (j : ℕ) (ls : List Limit) (m : ℕ) → m ≤ j * 8 → Sized k ls → (j + length ls) * 8 ≤ length s
      → take m (lay_limits s j ls) ≡ take m s
  unfolding lay_limits
  lay-front s j [] m g w h = refl
  lay-front s j (l ∷ ls) m g w h =
      let e = put-length s j l (w l (Memᴰ.head refl)) (omega arith) in
      lay-front (put s (j * 8) (limit_words l)) (suc j) ls m (omega arith) (λ x i. w x (Memᴰ.tail i)) (omega arith)
      ∙ take_put s (j * 8) (limit_words l) m g (omega arith)

  -- ---- one limit

  limit-take : (s : List ℤ) (j m : ℕ) → j * 8 + 8 ≤ m → limit_at (take m s) k j ≡ limit_at s k j
  unfolding limit_at
  limit-take s j m h =
      let r = m - (j * 8 + 2) in
      let e : m ≡ j * 8 + 2 + r = omega arith in
      let f : take k (drop (j * 8 + 2) (take m s)) ≡ take k (drop (j * 8 + 2) s) =
      ap (λ n. take k (drop (j * 8 + 2) (take n s))) e ∙ ap (take k) (drop-take (j * 8 + 2) r s) ∙ take-take k r (drop (j * 8 + 2) s) (omega arith) in
      let p = get_d_front m (take m s) s (j * 8) (pos 0) (take-take m m s (omega arith)) (omega arith) in
      let q = get_d_front m (take m s) s (j * 8 + 1) (pos 0) (take-take m m s (omega arith)) (omega arith) in
      cc

  by-fields : (a : ℕ) (b : ℤ) (xs : List ℤ) (l : Limit) → a ≡ l.multiplier → b ≡ l.constant → xs ≡ l.coefficients
      → ◌≡◌ {A = Limit} (record { multiplier = a; constant = b; coefficients = xs }) l
  by-fields a b xs l p q r = rw (p, q, r)

  limit-put : (s : List ℤ) (j : ℕ) (l : Limit) → length l.coefficients ≡ k → j * 8 ≤ length s → limit_at (put s (j * 8) (limit_words l)) k j ≡ l
  unfolding limit_at limit_words
  limit-put s j l e h =
      let w = limit_words l in
      let P = put s (j * 8) w in
      let n : length w ≡ 2 + k = length-words l k e in
      let p : get_or P (j * 8) (pos 0) ≡ pos l.multiplier = ap (λ i. get_or P i (pos 0)) (sym (add-zero (j * 8)))
      ∙ get_d-put s (j * 8) w 0 (pos 0) (omega arith) h in
      let q : get_or P (j * 8 + 1) (pos 0) ≡ l.constant = get_d-put s (j * 8) w 1 (pos 0) (omega arith) h in
      let f : take k (drop (j * 8 + 2) P) ≡ l.coefficients =
      ap (take k) (sym (drop-drop 2 (j * 8) P)) ∙ sym (drop-take 2 k (drop (j * 8) P)) ∙ ap (λ i. drop 2 (take i (drop (j * 8) P))) (sym n)
      ∙ ap (drop 2) (put_written s (j * 8) w h) in
      by-fields (nat_abs (get_or P (j * 8) (pos 0))) (get_or P (j * 8 + 1) (pos 0)) (take k (drop (j * 8 + 2) P)) l (ap nat_abs p) q f

  -- lists with one front
  pub limits-front : (m : ℕ) (s t : List ℤ) (j n : ℕ) → take m s ≡ take m t → (j + n) * 8 ≤ m → limits_at s k j n ≡ limits_at t k j n
  unfolding limits_at
  limits-front m s t j zero e h = refl
  limits-front m s t j (suc n) e h =
      ap₂ ◌∷◌ (sym (limit-take s j m (omega arith)) ∙ ap (λ l. limit_at l k j) e ∙ limit-take t j m (omega arith))
      (limits-front m s t (suc j) n e (omega arith))

  pub limits-laid : (s : List ℤ) (j : ℕ) (ls : List Limit) → Sized k ls → (j + length ls) * 8 ≤ length s
      → limits_at (lay_limits s j ls) k j (length ls) ≡ ls
  unfolding limits_at lay_limits
  limits-laid s j [] w h = refl
  limits-laid s j (l ∷ ls) w h =
      let e = w l (Memᴰ.head refl) in
      let r : Sized k ls = λ x i. w x (Memᴰ.tail i) in
      let P = put s (j * 8) (limit_words l) in
      let n = put-length s j l e (omega arith) in
      let stays : take (suc j * 8) (lay_limits P (suc j) ls) ≡ take (suc j * 8) P = lay-front P (suc j) ls (suc j * 8) (omega arith) r (omega arith) in
      ap₂ ◌∷◌
      (sym (limit-take (lay_limits P (suc j) ls) j (suc j * 8) (omega arith)) ∙ ap (λ t. limit_at t k j) stays
      ∙ limit-take P j (suc j * 8) (omega arith) ∙ limit-put s j l e (omega arith))
      (limits-laid P (suc j) ls r (omega arith))

  -- ---- multipliers

  head-put : (s : List ℤ) (j : ℕ) (l : Limit) → j * 8 ≤ length s → get_or (put s (j * 8) (limit_words l)) (j * 8) (pos 0) ≡ pos l.multiplier
  unfolding limit_words
  head-put s j l h = ap (λ i. get_or (put s (j * 8) (limit_words l)) i (pos 0)) (sym (add-zero (j * 8)))
      ∙ get_d-put s (j * 8) (limit_words l) 0 (pos 0) (omega arith) h

  pub positive-laid : (s : List ℤ) (j : ℕ) (ls : List Limit) → Sized k ls → All LimitRanges ls → (j + length ls) * 8 ≤ length s
      → Positive (lay_limits s j ls) j (length ls)
  unfolding lay_limits
  positive-laid s j [] w v h i g = absurd (omega arith)
  positive-laid s j (l ∷ ls) w v h zero g =
      let n = put-length s j l (w l (Memᴰ.head refl)) (omega arith) in
      let P = put s (j * 8) (limit_words l) in
      let stays : take (suc j * 8) (lay_limits P (suc j) ls) ≡ take (suc j * 8) P = lay-front P (suc j) ls (suc j * 8) (omega arith)
      (λ x i. w x (Memᴰ.tail i)) (omega arith) in
      let e : get_or (lay_limits P (suc j) ls) ((j + 0) * 8) (pos 0) ≡ pos l.multiplier =
      ap (λ i. get_or (lay_limits P (suc j) ls) (i * 8) (pos 0)) (add-zero j)
      ∙ get_d_front (suc j * 8) (lay_limits P (suc j) ls) P (j * 8) (pos 0) stays (omega arith) ∙ head-put s j l (omega arith) in
      let r = (v l (Memᴰ.head refl)).multiplier.low in
      subst (λ (z : ℤ). pos 0 <ℤ z) (sym e) (omega zarith)
  positive-laid s j (l ∷ ls) w v h (suc i) g =
      let n = put-length s j l (w l (Memᴰ.head refl)) (omega arith) in
      let e : suc j + i ≡ j + suc i = omega arith in
      let P = put s (j * 8) (limit_words l) in
      subst (λ (m : ℕ). pos 0 <ℤ get_or (lay_limits P (suc j) ls) (m * 8) (pos 0)) e
      (positive-laid P (suc j) ls (λ x i. w x (Memᴰ.tail i)) (λ x i. v x (Memᴰ.tail i)) (omega arith) i (omega arith))

pub positive-front : (m : ℕ) (s t : List ℤ) (j n : ℕ) → take m s ≡ take m t → (j + n) * 8 ≤ m → Positive t j n → Positive s j n
positive-front m s t j n e h p i g = subst (λ (z : ℤ). pos 0 <ℤ z) (sym (get_d_front m s t ((j + i) * 8) (pos 0) e (omega arith))) (p i g)

-- ---- sizes

pub small-within : (l : List ℤ) → All Small l → Within 32767 l
small-within [] a = tt
small-within (x ∷ l) a = (omega (arith, a x (Memᴰ.head refl), size-nat_abs x), small-within l (λ y m. a y (Memᴰ.tail m)))

words-within : (l : Limit) → LimitRanges l → Within 32767 (limit_words l)
unfolding limit_words
words-within l r = (
  omega (arith, r.multiplier.high),
  (
    omega (arith, r.constant, size-nat_abs l.constant),
    small-within l.coefficients
        r.coefficients,
  ),
)

pub lay-within : (s : List ℤ) (j : ℕ) (ls : List Limit) → All LimitRanges ls → Within 32767 s → Within 32767 (lay_limits s j ls)
unfolding lay_limits
lay-within s j [] v h = h
lay-within s j (l ∷ ls) v h =
    lay-within (put s (j * 8) (limit_words l)) (suc j) ls (λ x m. v x (Memᴰ.tail m))
    (within-put 32767 s (j * 8) (limit_words l) h (words-within l (v l (Memᴰ.head refl))))
