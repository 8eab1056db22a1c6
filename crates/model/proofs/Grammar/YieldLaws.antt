-- Words read back. `Yields r ws v`: wherever the words ws stand, the reader r reads them as v and goes on after them. Closed under `◌>>=◌`.
-- In order: readers joined, tests, single words, lists.
use mathlib.Core.Path.{◌≡◌, refl, sym, ap, ◌∙◌, subst}
use mathlib.Core.Bool.{Bool, true}
use mathlib.Core.List.Memᴰ
use mathlib.Core.List.{List, [], ◌∷◌, ◌++◌, flat_map, append-nil}
use Prim.Native.Nat.{ℕ, suc, ◌+◌}
use native.Mathlib.Nat.{add-zero, add_assoc}
use native.Mathlib.Numerals.{add-one}
use native.Mathlib.Omega.{arith}
use lib.Dec.{T, leb, le→leb}
use lib.IntN.{ℤ, pos, negsuc}
use lib.ListN.{length, length-append}
use Rattle.lists.specs.Membership.{All}
use Rattle.lists.proofs.TestLaws.{T_true, and_intro}
use Rattle.model.specs.Answer as Answer
use Rattle.model.specs.Answer.{accepted, require}
use Rattle.model.specs.Grammar.{Read, Reader, ◌>>=◌, ◌>>◌, done, word, must, must_at, between, count, within, natural, number, times}
use Rattle.model.specs.Encode.{counted}
use Rattle.model.specs.Ranges.{InRange, Small}
use Rattle.model.proofs.Grammar.WordLaws.{spells-left, spells-right, Spells}
use Rattle.model.proofs.Grammar.ReaderLaws.{alone, one}

pub record Yields {A : Type 0} (r : Reader A) (ws : List ℤ) (v : A) : Type 0 where
  pub read : (b : List ℕ) (k : ℕ) → Spells b k ws → r b k ≡ accepted (record { value = v; next = k + length ws })

-- ---- readers joined

pub bind-reads : {A B : Type 0} (m : Reader A) (g : A → Reader B) (b : List ℕ) (k : ℕ) {r : Read A} → m b k ≡ accepted r
    → (m >>= g) b k ≡ g r.value b r.next
unfolding ◌>>=◌ Answer.◌>>=◌
bind-reads m g b k e = ap (λ x. Answer.◌>>=◌ x (λ r. g r.value b r.next)) e

pub yields-cast : {A : Type 0} {r : Reader A} {us vs : List ℤ} {v : A} → us ≡ vs → Yields r us v → Yields r vs v
yields-cast {r = r} {v = v} e y = subst (λ ws. Yields r ws v) e y

pub yields-value : {A : Type 0} {r : Reader A} {ws : List ℤ} {u v : A} → u ≡ v → Yields r ws u → Yields r ws v
yields-value {r = r} {ws = ws} e y = subst (Yields r ws) e y

pub yields-done : {A : Type 0} (a : A) → Yields (done a) [] a
unfolding done
yields-done a = record { read = λ b k s. ap (λ n. accepted (record { value = a; next = n })) (sym (add-zero k)) }

pub yields-bind : {A B : Type 0} {m : Reader A} (g : A → Reader B) {us vs : List ℤ} {a : A} {c : B} → Yields m us a → Yields (g a) vs c
    → Yields (m >>= g) (us ++ vs) c
yields-bind {m = m} g {us = us} {vs = vs} {a = a} {c = c} y z = record {
  read = λ b k s.
      bind-reads m g b k (y.read b k (spells-left b k us vs s)) ∙ z.read b (k + length us) (spells-right b k us vs s)
      ∙ ap (λ n. accepted (record { value = c; next = n })) (add_assoc k (length us) (length vs) ∙ ap (k +◌) (sym (length-append us vs)));
}

-- the last part of a reader
pub yields-last : {A B : Type 0} {m : Reader A} {us : List ℤ} {a : A} (v : A → B) → Yields m us a → Yields (m >>= (λ x. done (v x))) us (v a)
yields-last {us = us} {a = a} v y = yields-cast (append-nil us) (yields-bind (λ x. done (v x)) y (yields-done (v a)))

-- ---- tests

pub must-reads : {A : Type 0} (t : Bool) (n : ℕ) (r : Reader A) (b : List ℕ) (k : ℕ) → T t → (must t n >> r) b k ≡ r b k
unfolding must require ◌>>◌ ◌>>=◌ Answer.◌>>=◌
must-reads t n r b k h = rw (T_true t h)

pub must_at-reads : {A : Type 0} (t : Bool) (n p : ℕ) (r : Reader A) (b : List ℕ) (k : ℕ) → T t → (must_at t n p >> r) b k ≡ r b k
unfolding must_at require ◌>>◌ ◌>>=◌ Answer.◌>>=◌
must_at-reads t n p r b k h = rw (T_true t h)

module _ {A : Type 0} {r : Reader A} {ws : List ℤ} {v : A} where
  pub yields-must : (t : Bool) (n : ℕ) → T t → Yields r ws v → Yields (must t n >> r) ws v
  yields-must t n h y = record { read = λ b k s. must-reads t n r b k h ∙ y.read b k s }

  pub yields-must_at : (t : Bool) (n p : ℕ) → T t → Yields r ws v → Yields (must_at t n p >> r) ws v
  yields-must_at t n p h y = record { read = λ b k s. must_at-reads t n p r b k h ∙ y.read b k s }

-- ---- single words

pub yields-word : (w : ℤ) → Yields word (alone w) w
unfolding word Answer.◌>>=◌
yields-word w = record {
  read = λ b k s. ap (λ x. Answer.◌>>=◌ x (λ v. accepted (record { value = v; next = suc k }))) s.0
      ∙ ap (λ n. accepted (record { value = w; next = n })) (sym (add-one k));
}

pub natural-between : (lo hi n : ℕ) → InRange lo hi n → T (between (pos lo) (pos hi) (pos n))
unfolding between
natural-between lo hi n r = and_intro (leb lo n) (leb n hi) (le→leb lo n r.low) (le→leb n hi r.high)

small-between : (z : ℤ) → Small z → T (between (negsuc 32766) (pos 32767) z)
unfolding between
small-between (pos n) h = le→leb n 32767 h
small-between (negsuc n) h = and_intro (leb n 32766) true (le→leb n 32766 (omega arith)) tt

pub yields-count : {lo hi n : ℕ} → InRange lo hi n → Yields (count lo hi) (one n) n
unfolding count
yields-count {lo} {hi} {n} r = yields-bind _ (yields-word (pos n)) (yields-must (between (pos lo) (pos hi) (pos n)) 3 (natural-between lo hi n r)
    (yields-done n))

pub yields_within : (lo hi w : ℤ) → T (between lo hi w) → Yields (within lo hi) (alone w) w
unfolding within
yields_within lo hi w h = yields-bind _ (yields-word w) (yields-must (between lo hi w) 4 h (yields-done w))

pub yields-natural : {lo hi n : ℕ} → InRange lo hi n → Yields (natural lo hi) (one n) n
unfolding natural
yields-natural {lo} {hi} {n} r = yields-bind _ (yields_within (pos lo) (pos hi) (pos n) (natural-between lo hi n r)) (yields-done n)

pub yields-number : (z : ℤ) → Small z → Yields number (alone z) z
unfolding number
yields-number z h = yields_within (negsuc 32766) (pos 32767) z (small-between z h)

-- ---- lists

pub yields-times : {A : Type 0} {r : Reader A} (f : A → List ℤ) (l : List A) → All (λ a. Yields r (f a) a) l
    → Yields (times (length l) r) (flat_map f l) l
unfolding times flat_map
yields-times f [] h = yields-done []
yields-times f (a ∷ l) h = yields-bind _ (h a (Memᴰ.head refl)) (yields-last (a ∷◌) (yields-times f l (λ x m. h x (Memᴰ.tail m))))

-- after its count
pub yields-counted : {A : Type 0} (g : ℕ → Reader (List A)) (f : A → List ℤ) {lo hi : ℕ} (l : List A) → InRange lo hi (length l)
    → Yields (g (length l)) (flat_map f l) l → Yields (count lo hi >>= g) (counted f l) l
unfolding counted
yields-counted g f l r y = yields-bind g (yields-count r) y
