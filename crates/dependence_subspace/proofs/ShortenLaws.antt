-- A loop with one limit more on a side: 0 is the lower one, 1 the upper one. In order: a nest is no wider than itself, and narrower nests compose; a side;
-- the loop that was shortened; the others; the nest.
use mathlib.Core.Path.{◌≡◌, sym, ap, ◌∙◌, subst}
use mathlib.Core.Bool.{Bool, true, false}
use mathlib.Core.Logic.{◌⊎◌, inl, inr, ⊎_elim}
use mathlib.Core.List.Memᴰ
use mathlib.Core.List.{List, [], ◌∷◌, ◌++◌}
use Prim.Native.Nat.{ℕ, ◌+◌, ◌*◌, ◌≤◌, ◌<◌}
use native.Mathlib.Omega.{arith}
use native.Mathlib.Decide.{dec_lt}
use lib.Dec.{T}
use lib.IntN.{ℤ, pos}
use lib.Signed.{◌<ℤ◌}
use lib.ListN.{length, get_or, set, length-set}
use lib.Seq.{get_or-set_same, get_or-set_other, length-take-le}
use Rattle.lists.specs.Membership.{Mem}
use Rattle.lists.specs.Parts.{put}
use Rattle.lists.proofs.PartLaws.{length-put}
use Rattle.lists.proofs.TestLaws.{true-T}
use Rattle.integers.specs.Affine.{Within}
use Rattle.integers.proofs.RingLaws.{zarith}
use Rattle.model.specs.Ticket.{Limit}
use Rattle.model.specs.Encode.{limit_words}
use Rattle.model.specs.Judge.{small_limit}
use Rattle.model.specs.Inside.{InLimits}
use Rattle.model.specs.Grammar.{most_sides, nest_room}
use Rattle.nest_flat.specs.Flat.{limit_at, limits_at, loop_at, Positive, NestOk}
use Rattle.nest_rows.specs.Rows.{Tried}
use Rattle.ticket_loops.specs.LoopReads.{limit_of, LimitIn}
use Rattle.ticket_loops.specs.declared.Limit as Nest
use Rattle.ticket_loops.proofs.PutLaws.{within-put}
use Rattle.step_limits.specs.Words.{LoopOk}
use Rattle.step_limits.proofs.FlatLaws.{limit-put, head-put, put-before, put-after, limit-small, words-within}
use Rattle.step_changes.proofs.LoopLaws.{limits-same, positive-same, loop-same, ok_same}
use Rattle.step_exchange_sides.proofs.FlatLaws.{limits-more}
use Rattle.step_loops.proofs.HeldLaws.{ok_at}
use Rattle.dependence_subspace.specs.Subspaces.{Narrower, ShortenIn, Shortens}

-- ---- nests that compose

pub narrower-itself : (s : List ℤ) (c : List ℕ) (depth : ℕ) → NestOk s c depth → Narrower s c depth s c
narrower-itself s c depth o = record { nest = o; inside = λ i h outer x g. g }

pub narrower-more : (s t u : List ℤ) (c d e : List ℕ) (depth : ℕ) → Narrower s c depth t d → Narrower t d depth u e → Narrower s c depth u e
narrower-more s t u c d e depth f g = record { nest = g.nest; inside = λ i h outer x q. f.inside i h outer x (g.inside i h outer x q) }

pub shortens-more : (s t u : List ℤ) (c d e : List ℕ) (k : ℕ) → Shortens s c k t d → Shortens t d k u e → Shortens s c k u e
shortens-more s t u c d e k f g depth h o = let a = f depth h o in narrower-more s t u c d e depth a (g depth h a.nest)

one-or-other : (i k : ℕ) → (i ≡ k) ⊎ ((i < k) ⊎ (k < i))
one-or-other i k = elim (dec_lt i k) [
  | yes l ↦ inr (inl l)
  | no m ↦ elim (dec_lt k i) [
    | yes l ↦ inr (inr l)
    | no n ↦ inl (omega arith)
  ]
]

-- ---- a side of a loop

-- how many limits it has is in `c` at `at`, and they stand from limit `from` on
record SideOk (s : List ℤ) (c : List ℕ) (at from : ℕ) : Type 0 where
  count : (1 ≤ get_or c at 0) × (get_or c at 0 ≤ 16)
  positive : Positive s from (get_or c at 0)

-- no limit of it is lost
record SideKept (s : List ℤ) (c : List ℕ) (k : ℕ) (t : List ℤ) (d : List ℕ) (at from : ℕ) : Type 0 where
  ok : SideOk t d at from
  there : (m : Limit) → Mem m (limits_at s k from (get_or c at 0)) → Mem m (limits_at t k from (get_or d at 0))

module _ (s : List ℤ) (c : List ℕ) (k side : ℕ) (l : Limit) (words : length s ≡ nest_room) (counts : length c ≡ most_sides) (deep : k < 6)
    (either : side < 2) (one : l.multiplier ≡ 1)
    (sized : length l.coefficients ≡ k) (few : get_or c (k * 2 + side) 0 < 16) (passes : T (small_limit l)) where
  abbrev n : ℕ
  n = get_or c (k * 2 + side) 0

  abbrev j : ℕ
  j = k * 32 + side * 16 + n

  abbrev t : List ℤ
  t = put s (j * 8) (limit_words l)

  abbrev d : List ℕ
  d = set c (k * 2 + side) (n + 1)

  shallow : k ≤ 6
  shallow = omega arith

  fits : j * 8 + 8 ≤ length s
  fits = omega arith

  words_long : length (limit_words l) ≡ 2 + k
  unfolding limit_words
  words_long = omega arith

  room : length t ≡ length s
  room = let f = fits in let e = words_long in length-put s (j * 8) (limit_words l) (omega arith)

  before : (i : ℕ) → i < j * 8 → get_or t i (pos 0) ≡ get_or s i (pos 0)
  before i h = put-before s j k l shallow sized fits i h

  after : (i : ℕ) → j * 8 + 8 ≤ i → get_or t i (pos 0) ≡ get_or s i (pos 0)
  after i h = put-after s j k l shallow sized fits i h

  own-count : get_or d (k * 2 + side) 0 ≡ n + 1
  own-count = get_or-set_same c (k * 2 + side) (n + 1) 0 (omega arith)

  other-count : (i : ℕ) → (i ≡ k * 2 + side → ⊥) → get_or d i 0 ≡ get_or c i 0
  other-count i h = get_or-set_other c (k * 2 + side) i (n + 1) 0 h

  within : Within 32767 s → Within 32767 t
  within w = within-put 32767 s (j * 8) (limit_words l) w (words-within l (limit-small l passes))

  -- the side that has the limit

  own-limits : limits_at t k (k * 32 + side * 16) (get_or d (k * 2 + side) 0) ≡ limits_at s k (k * 32 + side * 16) n ++ (l ∷ [])
  own-limits =
      ap (limits_at t k (k * 32 + side * 16)) own-count ∙ limits-more t k (k * 32 + side * 16) n
      ∙ ap (◌++ (limit_at t k j ∷ [])) (limits-same s t k (k * 32 + side * 16) n shallow (omega arith) room (λ i h g. before i (omega arith)))
      ∙ ap (λ x. limits_at s k (k * 32 + side * 16) n ++ (x ∷ [])) (limit-put s j k l shallow sized fits)

  new-positive : pos 0 <ℤ get_or t (j * 8) (pos 0)
  new-positive = let u = one in subst (λ (z : ℤ). pos 0 <ℤ z) (sym (head-put s j k l shallow sized fits)) (omega zarith)

  own-positive : Positive s (k * 32 + side * 16) n → Positive t (k * 32 + side * 16) (n + 1)
  own-positive f i h = elim (dec_lt i n) [
    | yes g ↦ positive-same s t (k * 32 + side * 16) n (λ p a b. before p (omega arith)) f i g
    | no g ↦ let e : n ≡ i = omega arith in subst (λ (q : ℕ). pos 0 <ℤ get_or t ((k * 32 + side * 16 + q) * 8) (pos 0)) e new-positive
  ]

  own-side : SideOk s c (k * 2 + side) (k * 32 + side * 16) → SideKept s c k t d (k * 2 + side) (k * 32 + side * 16)
  own-side o = let y = own-count in record {
    ok = record { count = (omega arith, omega arith); positive = subst (Positive t (k * 32 + side * 16)) (sym y) (own-positive o.positive) };
    there = λ m i. subst (Mem m) (sym own-limits) (Memᴰ.append_left (l ∷ []) i);
  }

  -- the other one

  module _ (e at from : ℕ) (a : at ≡ k * 2 + e) (f : from ≡ k * 32 + e * 16) (h : e < 2) (o : SideOk s c at from) where
    other-side : (e < side) ⊎ (side < e) → SideKept s c k t d at from
    other-side g =
        let z = o.count in
        let x = other-count at (λ q. ⊎_elim (λ r. omega arith) (λ r. omega arith) g) in
        let w : (p : ℕ) → from * 8 ≤ p → p < (from + get_or c at 0) * 8
        → get_or t p (pos 0) ≡ get_or s p (pos 0) = λ p u v. ⊎_elim (λ r. before p (omega arith)) (λ r. after p (omega arith)) g in
        record {
          ok = record {
            count = (omega arith, omega arith);
            positive = subst (Positive t from) (sym x)
                (positive-same s t from (get_or c at 0) w o.positive);
          };
          there = λ m i. subst (Mem m) (sym (ap (limits_at t k from) x ∙ limits-same s t k from (get_or c at 0) shallow (omega arith) room w)) i;
        }

    side-kept : SideKept s c k t d at from
    side-kept = ⊎_elim
        (λ q.
        let x : at ≡ k * 2 + side = omega arith in
        let y : from ≡ k * 32 + side * 16 = omega arith in
        subst (λ (p : ℕ). SideKept s c k t d p from) (sym x) (subst (SideKept s c k t d (k * 2 + side)) (sym y)
        (own-side (subst (λ (p : ℕ). SideOk s c p (k * 32 + side * 16)) x (subst (SideOk s c at) y o)))))
        other-side
        (one-or-other e side)

  -- ---- the loop that was shortened

  module _ (ok : LoopOk s c k) where
    lower : SideKept s c k t d (k * 2) (k * 32)
    lower = side-kept 0 (k * 2) (k * 32) (omega arith) (omega arith) (omega arith) (record { count = ok.lower-count; positive = ok.lower-positive })

    upper : SideKept s c k t d (k * 2 + 1) (k * 32 + 16)
    upper = side-kept 1 (k * 2 + 1) (k * 32 + 16) (omega arith) (omega arith) (omega arith)
        (record { count = ok.upper-count; positive = ok.upper-positive })

    own-inside : (outer : List ℤ) (x : ℤ) → InLimits (loop_at t d k) outer x → InLimits (loop_at s c k) outer x
    unfolding loop_at
    own-inside outer x g = record { low = λ m i. g.low m (lower.there m i); high = λ m i. g.high m (upper.there m i) }

    own-ok : LoopOk t d k
    own-ok = record {
      lower-count = lower.ok.count;
      upper-count = upper.ok.count;
      lower-positive = lower.ok.positive;
      upper-positive = upper.ok.positive;
    }

  -- ---- the others

  module _ (i : ℕ) (there : i < 6) (other : (i < k) ⊎ (k < i)) where
    other-words : (p : ℕ) → i * 256 ≤ p → p < i * 256 + 256 → get_or t p (pos 0) ≡ get_or s p (pos 0)
    other-words p a b = ⊎_elim (λ g. before p (omega arith)) (λ g. after p (omega arith)) other

    other-counts : (p : ℕ) → i * 2 ≤ p → p < i * 2 + 2 → get_or d p 0 ≡ get_or c p 0
    other-counts p a b = other-count p (λ e. ⊎_elim (λ g. omega arith) (λ g. omega arith) other)

  -- ---- the nest

  module _ (depth : ℕ) (o : NestOk s c depth) (h : k < depth) where
    loop-ok : (i : ℕ) → i < depth → LoopOk t d i
    loop-ok i g = let f = o.shallow in ⊎_elim
        (λ e. subst (LoopOk t d) (sym e) (own-ok (ok_at s c depth k o h)))
        (λ e. ok_same s t c d i words room (omega arith) (ok_at s c depth i o g) (other-words i (omega arith) e) (other-counts i (omega arith) e))
        (one-or-other i k)

    loop-inside : (i : ℕ) → i < depth → (outer : List ℤ) (x : ℤ) → InLimits (loop_at t d i) outer x → InLimits (loop_at s c i) outer x
    loop-inside i g outer x q = let f = o.shallow in ⊎_elim
        (λ e. subst (λ (m : ℕ). InLimits (loop_at s c m) outer x) (sym e) (own-inside (ok_at s c depth k o h) outer x
        (subst (λ (m : ℕ). InLimits (loop_at t d m) outer x) e q)))
        (λ e. subst (λ L. InLimits L outer x) (loop-same s t c d i words room (omega arith) (ok_at s c depth i o g) (other-words i (omega arith) e)
        (other-counts i (omega arith) e)) q)
        (one-or-other i k)

    pub shortened : Narrower s c depth t d
    shortened = record {
      nest = record {
        words = room ∙ words;
        counts = length-set c (k * 2 + side) (n + 1) ∙ counts;
        shallow = o.shallow;
        small = within o.small;
        lower-count = λ i g. (loop-ok i g).lower-count;
        upper-count = λ i g. (loop-ok i g).upper-count;
        lower-positive = λ i g. (loop-ok i g).lower-positive;
        upper-positive = λ i g. (loop-ok i g).upper-positive;
      };
      inside = loop-inside;
    }

-- ---- as the code has it: the limit passed the test and is counted, or nothing changed

module _ (s : List ℤ) (c : List ℕ) (k side : ℕ) (p : ShortenIn s c k × (side < 2)) (X : Nest.Limit) (x : (X.multiplier ≡ 1) × LimitIn X)
    (few : get_or c (k * 2 + side) 0 < 16) (r : Bool) (t : List ℤ)
    (y : Tried (small_limit (limit_of k X)) s ((k * 32 + side * 16 + get_or c (k * 2 + side) 0) * 8) (limit_words (limit_of k X)) r t) where
  pub limit-counted : r ≡ true → Shortens s c k t (set c (k * 2 + side) (get_or c (k * 2 + side) 0 + 1))
  unfolding limit_of
  limit-counted e depth h o =
      let g = p.0.deep in
      let z = x.1.room in
      subst (λ u. Narrower s c depth u (set c (k * 2 + side) (get_or c (k * 2 + side) 0 + 1))) (sym (y.made e))
      (shortened s c k side (limit_of k X) p.0.words p.0.counts g p.1 x.0 (length-take-le k X.coefficients (omega arith)) few
      (true-T (small_limit (limit_of k X)) (sym y.passed ∙ e)) depth o h)

  pub limit-refused : r ≡ false → Shortens s c k t c
  limit-refused e depth h o = subst (λ u. Narrower s c depth u c) (sym (y.kept e)) (narrower-itself s c depth o)
