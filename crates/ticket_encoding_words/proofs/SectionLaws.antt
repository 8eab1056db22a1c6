-- The model's words as parts of the slices that are lent. In order: the words of a limit; a side, a loop, all loops.
use mathlib.Core.Path.{◌≡◌, refl, sym, ap, ap₂, ◌∙◌, subst}
use mathlib.Core.List.{List, ◌∷◌, ◌++◌, map, flat_map}
use Prim.Native.Nat.{ℕ, zero, suc, ◌+◌, ◌-◌, ◌*◌, ◌≤◌, ◌<◌}
use native.Mathlib.Omega.{arith}
use lib.IntN.{ℤ, pos, negsuc, nat_abs}
use lib.Signed.{◌<ℤ◌}
use lib.ListN.{length, get_or, take, drop}
use lib.Seq.{drop-cons}
use Rattle.std.proofs.lemmas.List.{map-id}
use Rattle.integers.proofs.RingLaws.{zarith}
use Rattle.model.specs.Encode.{counted, limit_words, loop_words}
use Rattle.nest_flat.specs.Flat.{limit_at, limits_at, loop_at, loops_from}
use Rattle.ticket_encoding_words.specs.Writing.{Writable, Written}
use Rattle.ticket_encoding_words.specs.Loops.{LimitsIn, LoopIn}
use Rattle.ticket_encoding_words.proofs.WritingLaws.{spans, writable-left, writable-right, written_both, part-room, part-written}

-- ---- a limit

positive : (z : ℤ) → pos 0 <ℤ z → pos (nat_abs z) ≡ z
positive (pos n) h = refl
positive (negsuc n) h = absurd (omega zarith)

-- its words stand one after another
limit-words : (s : List ℤ) (k j : ℕ) → j * 8 + 2 ≤ length s → pos 0 <ℤ get_or s (j * 8) (pos 0)
    → limit_words (limit_at s k j) ≡ take (k + 2) (drop (j * 8) s)
unfolding limit_words limit_at
limit-words s k j h p =
    ap (λ z. z ∷ get_or s (j * 8 + 1) (pos 0) ∷ take k (drop (j * 8 + 2) s)) (positive (get_or s (j * 8) (pos 0)) p)
    ∙ sym (ap (λ m. take m (drop (j * 8) s)) two ∙ ap (take (suc (suc k))) (drop-cons s (j * 8) (pos 0) (omega arith)
    ∙ ap (get_or s (j * 8) (pos 0) ∷◌) rest))
  where
    two : k + 2 ≡ suc (suc k)
    two = omega arith

    rest : drop (suc (j * 8)) s ≡ get_or s (j * 8 + 1) (pos 0) ∷ drop (j * 8 + 2) s
    rest = let e : suc (j * 8) ≡ j * 8 + 1 = omega arith in let f : suc (j * 8 + 1) ≡ j * 8 + 2 = omega arith in
        ap (λ m. drop m s) e ∙ drop-cons s (j * 8 + 1) (pos 0) (omega arith) ∙ ap (λ m. get_or s (j * 8 + 1) (pos 0) ∷ drop m s) f

-- ---- a side

limits-length : (s : List ℤ) (k j n : ℕ) → length (limits_at s k j n) ≡ n
unfolding limits_at
limits-length s k j zero = refl
limits-length s k j (suc n) = ap suc (limits-length s k (suc j) n)

limits-flat : (s : List ℤ) (k j n : ℕ) → flat_map limit_words (limits_at s k j n) ≡ spans (λ i. limit_words (limit_at s k i)) j n
unfolding limits_at spans flat_map
limits-flat s k j zero = refl
limits-flat s k j (suc n) = ap (limit_words (limit_at s k j) ++◌) (limits-flat s k (suc j) n)

pub side-spans : (s : List ℤ) (k j n : ℕ) → counted limit_words (limits_at s k j n) ≡ pos n ∷ spans (λ i. limit_words (limit_at s k i)) j n
unfolding counted
side-spans s k j n = ap₂ (λ m ws. pos m ∷ ws) (limits-length s k j n) (limits-flat s k j n)

-- the words of limit i of those
module _ (s : List ℤ) (outer j n i : ℕ) (p : LimitsIn s outer j n) (h : i < n) where
  limit-end : (j + i) * 8 + outer + 2 ≡ (j + i) * 8 + (outer + 2)
  limit-end = omega arith

  limit-same : limit_words (limit_at s outer (j + i)) ≡ map (λ z. z) (take (outer + 2) (drop ((j + i) * 8) s))
  limit-same = let a = p.words in let b = p.inside in let d = p.outside in
      limit-words s outer (j + i) (omega arith) (p.positive i h) ∙ sym (map-id (take (outer + 2) (drop ((j + i) * 8) s)))

  pub limit-writable : {o : List ℕ} {at : ℕ} → Writable o at (limit_words (limit_at s outer (j + i)))
      → Writable o at (map (λ z. z) (take ((j + i) * 8 + outer + 2 - (j + i) * 8) (drop ((j + i) * 8) s)))
  limit-writable = part-room (λ z. z) s _ _ _ limit-end limit-same

  pub limit-written : {o o' : List ℕ} {at r : ℕ}
      → Written o o' at (map (λ z. z) (take ((j + i) * 8 + outer + 2 - (j + i) * 8) (drop ((j + i) * 8) s))) r
      → Written o o' at (limit_words (limit_at s outer (j + i))) r
  limit-written = part-written (λ z. z) s _ _ _ limit-end limit-same

-- ---- a loop

module _ (s : List ℤ) (c : List ℕ) (k : ℕ) (p : LoopIn s c k) where
  loop-shallow : k < 6
  loop-shallow = let d = p.nest.shallow in let t = p.there in omega arith

  pub lower_in : LimitsIn s k (k * 32) (get_or c (k * 2) 0)
  lower_in = let d = loop-shallow in let t = p.there in let e = (p.nest.lower-count k t).1 in
      record { words = p.nest.words; outside = omega arith; inside = omega arith; positive = p.nest.lower-positive k t }

  pub upper_in : LimitsIn s k (k * 32 + 16) (get_or c (k * 2 + 1) 0)
  upper_in = let d = loop-shallow in let t = p.there in let e = (p.nest.upper-count k t).1 in
      record { words = p.nest.words; outside = omega arith; inside = omega arith; positive = p.nest.upper-positive k t }

  abbrev low : List ℤ
  low = counted limit_words (limits_at s k (k * 32) (get_or c (k * 2) 0))

  abbrev high : List ℤ
  high = counted limit_words (limits_at s k (k * 32 + 16) (get_or c (k * 2 + 1) 0))

  module _ {o : List ℕ} {at : ℕ} (h : Writable o at (loop_words (loop_at s c k))) where
    pub lower-room : Writable o at low
    unfolding loop_words loop_at
    lower-room = writable-left low high h

    module _ {o' : List ℕ} {r : ℕ} (v : Written o o' at low r) where
      pub upper-room : Writable o' r high
      unfolding loop_words loop_at
      upper-room = writable-right low high h v

      pub loop-written : {o'' : List ℕ} {q : ℕ} → Written o' o'' r high q → Written o o'' at (loop_words (loop_at s c k)) q
      unfolding loop_words loop_at
      loop-written u = written_both low high h v u

-- ---- all loops

loops-length : (s : List ℤ) (c : List ℕ) (k n : ℕ) → length (loops_from s c k n) ≡ n
unfolding loops_from
loops-length s c k zero = refl
loops-length s c k (suc n) = ap suc (loops-length s c (suc k) n)

loops-flat : (s : List ℤ) (c : List ℕ) (k n : ℕ) → flat_map loop_words (loops_from s c k n) ≡ spans (λ i. loop_words (loop_at s c i)) k n
unfolding loops_from spans flat_map
loops-flat s c k zero = refl
loops-flat s c k (suc n) = ap (loop_words (loop_at s c k) ++◌) (loops-flat s c (suc k) n)

pub loops-spans : (s : List ℤ) (c : List ℕ) (n : ℕ) → counted loop_words (loops_from s c 0 n) ≡ pos n ∷ spans (λ i. loop_words (loop_at s c i)) 0 n
unfolding counted
loops-spans s c n = ap₂ (λ m ws. pos m ∷ ws) (loops-length s c 0 n) (loops-flat s c 0 n)
