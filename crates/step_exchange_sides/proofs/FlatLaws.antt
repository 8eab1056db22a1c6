-- Limits as they stand in a list of numbers (`limits_at`). In order: of which shape; one more, and one of them; tests of them all; a limit put
-- behind them. How many there are is in `nest_index_range`.
use mathlib.Core.Path.{◌≡◌, sym, ◌∙◌, ap, ap₂, subst}
use mathlib.Core.Bool.{Bool, true, false, ◌||◌}
use mathlib.Core.List.Memᴰ
use mathlib.Core.List.{List, [], ◌∷◌, ◌++◌}
use Prim.Native.Nat.{ℕ, zero, suc, ◌+◌, ◌*◌, ◌<◌, ◌≤◌}
use native.Mathlib.Omega.{arith}
use native.Mathlib.Nat.{add-zero}
use native.Mathlib.Numerals.{add-one}
use lib.IntN.{ℤ}
use lib.ListN.{length, drop, length-drop}
use lib.Seq.{length-take-le}
use Rattle.lists.specs.Membership.{Mem}
use Rattle.lists.specs.Parts.{put}
use Rattle.lists.specs.Tests.{any}
use Rattle.lists.proofs.MembershipLaws.{all_nil, all_cons}
use Rattle.lists.proofs.PartLaws.{take_put}
use Rattle.lists.proofs.TestLaws.{T_true, true-T, any-join, some-any}
use Rattle.model.specs.Ticket.{Limit}
use Rattle.model.specs.Encode.{limit_words}
use Rattle.model.specs.Shape.{Sized}
use Rattle.nest_flat.specs.Flat.{limit_at, limits_at}
use Rattle.nest_flat.proofs.FlatLaws.{limits-all}
use Rattle.ticket_loops.specs.Laid.{lay_limits}
use Rattle.ticket_loops.proofs.LimitLaws.{limits-front, limits-laid}

-- ---- of which shape

pub limits-sized : (s : List ℤ) (n j m : ℕ) → n ≤ 6 → (j + m) * 8 ≤ length s → Sized n (limits_at s n j m)
unfolding limit_at
limits-sized s n j m f h =
    limits-all (λ (l : Limit). length l.coefficients ≡ n) s n j m (λ i g. length-take-le n (drop ((j + i) * 8 + 2) s)
    (let k = length-drop ((j + i) * 8 + 2) s in omega arith))

-- ---- one more, and one of them

pub limits-more : (s : List ℤ) (n j m : ℕ) → limits_at s n j (m + 1) ≡ limits_at s n j m ++ (limit_at s n (j + m) ∷ [])
unfolding limits_at
limits-more s n j m = ap (limits_at s n j) (add-one m) ∙ go j m
  where
    go : (j m : ℕ) → limits_at s n j (suc m) ≡ limits_at s n j m ++ (limit_at s n (j + m) ∷ [])
    go j zero = ap (λ i. limit_at s n i ∷ []) (sym (add-zero j))
    go j (suc m) = let e : suc j + m ≡ j + suc m = omega arith in ap (limit_at s n j ∷◌)
        (go (suc j) m ∙ ap (λ i. limits_at s n (suc j) m ++ (limit_at s n i ∷ [])) e)

pub limits-mem : (s : List ℤ) (n j i m : ℕ) → i < m → Mem (limit_at s n (j + i)) (limits_at s n j m)
unfolding limits_at
limits-mem s n j i zero h = absurd (omega arith)
limits-mem s n j zero (suc m) h = Memᴰ.head (ap (limit_at s n) (add-zero j))
limits-mem s n j (suc i) (suc m) h = let e : suc j + i ≡ j + suc i = omega arith in Memᴰ.tail
    (subst (λ (x : ℕ). Mem (limit_at s n x) (limits_at s n (suc j) m)) e (limits-mem s n (suc j) i m (omega arith)))

-- ---- tests of the first limits

module _ (t : Limit → Bool) (s : List ℤ) (n k : ℕ) where
  pub none_more : any t (limits_at s n 0 k) ≡ false → t (limit_at s n k) ≡ false → any t (limits_at s n 0 (k + 1)) ≡ false
  none_more e g =
      let z : 0 + k ≡ k = omega arith in
      ap (any t) (limits-more s n 0 k) ∙ any-join t (limits_at s n 0 k) (limit_at s n (0 + k) ∷ [])
      ∙ ap₂ ◌||◌ e (ap (λ i. any t (limit_at s n i ∷ [])) z ∙ last g)
    where
      last : t (limit_at s n k) ≡ false → any t (limit_at s n k ∷ []) ≡ false
      last g = unfold any in rw g

  pub found_at : (m : ℕ) → k < m → t (limit_at s n k) ≡ true → any t (limits_at s n 0 m) ≡ true
  found_at m h e =
      let z : 0 + k ≡ k = omega arith in
      T_true (any t (limits_at s n 0 m)) (some-any t (limits_at s n 0 m) (subst (λ (i : ℕ). Mem (limit_at s n i) (limits_at s n 0 m)) z
      (limits-mem s n 0 k m h)) (true-T _ e))

-- ---- a limit put behind the first k

module _ (f : List ℤ) (n k : ℕ) (x : Limit) (shallow : n ≤ 6) (sized : length x.coefficients ≡ n) (room : (k + 1) * 8 ≤ length f) where
  put-there : limit_at (put f (k * 8) (limit_words x)) n k ≡ x
  unfolding lay_limits limits_at
  put-there = let e : limits_at (put f (k * 8) (limit_words x)) n k 1 ≡ x ∷ [] = limits-laid n shallow f k (x ∷ [])
      (all_cons (λ (l : Limit). length l.coefficients ≡ n) sized (all_nil (λ (l : Limit). length l.coefficients ≡ n))) (omega arith) in cc

  pub limits-put : limits_at (put f (k * 8) (limit_words x)) n 0 (k + 1) ≡ limits_at f n 0 k ++ (x ∷ [])
  limits-put =
      let z : 0 + k ≡ k = omega arith in
      limits-more (put f (k * 8) (limit_words x)) n 0 k
      ∙ ap₂ (λ l y. l ++ (y ∷ [])) (limits-front n shallow (k * 8) (put f (k * 8) (limit_words x)) f 0 k
      (take_put f (k * 8) (limit_words x) (k * 8) (omega arith) (omega arith)) (omega arith))
      (ap (limit_at (put f (k * 8) (limit_words x)) n) z ∙ put-there)
