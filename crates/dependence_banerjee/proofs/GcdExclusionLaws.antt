-- Two subscripts with some loops left to the greatest common divisor of their coefficients. In order: a divisor of words is small; a range without a
-- multiple of it; it divides the terms of these loops; so their difference is never 0.
use mathlib.Core.Path.{◌≡◌, refl, sym, ◌∙◌, ap, ap₂, subst}
use mathlib.Core.Bool.{true}
use mathlib.Core.Logic.{⊎_elim}
use mathlib.Core.List.Memᴰ
use mathlib.Core.List.{List, [], ◌∷◌, map, Memᴰ}
use Prim.Native.Nat.{ℕ, zero, suc, ◌+◌, ◌*◌, ◌≤◌, ◌<◌}
use native.Mathlib.Omega.{arith}
use native.Mathlib.Nat.{le_of_dvd}
use lib.IntN.{ℤ, pos, nat_abs, neg_ℤ, ◌+ℤ◌, ◌-ℤ◌}
use lib.Signed.{lt_z, ◌≤ℤ◌, ◌<ℤ◌}
use lib.ListN.{length, get_or, take, drop, length-drop}
use lib.Seq.{get_or-take, get_or-drop, length-take-le}
use Rattle.lists.proofs.MembershipLaws.{mem-get_d, get_d-mem}
use Rattle.integers.specs.Difference.{size}
use Rattle.integers.specs.Division.{floor_div, ceil_div}
use Rattle.integers.specs.Gcd.{gcd, gcd_of}
use Rattle.integers.proofs.RingLaws.{zarith}
use Rattle.integers.proofs.RangeLaws.{size-nat_abs, size-neg, test-lt}
use Rattle.integers.proofs.OrderLaws.{◌∣ℤ◌, ∣-zero, ∣-add, ∣-sub, ∣-mul}
use Rattle.integers.proofs.DivisionLaws.{floor-iff, ceil-iff, size-floor, size-ceil}
use Rattle.integers.proofs.GcdLaws.{gcd-is, gcd-none, gcd_of-divides, dvd-int}
use Rattle.integers.proofs.AffineLaws.{within-at, within-take}
use Rattle.integers.proofs.Polynomial.{◌⊕◌, ◌⊖◌, ⊝, #}
use Rattle.integers.proofs.Linear.{lin, ◌⊑◌, ◌≐◌, ◌⟶◌}
use Rattle.model.specs.Quick as Model
use Rattle.nest_index_range.proofs.LimitLaws.{within-drop}
use Rattle.nest_flat.specs.Layout.{form_at}
use Rattle.nest_quick_test.specs.Differences.{difference_at, PairIn}
use Rattle.nest_loop_ranges.specs.declared.Range.{Range}
use Rattle.nest_loop_ranges.proofs.TermLaws.{copy}
use Rattle.dependence_banerjee.specs.Sums.{coefficient_sum, terms}
use Rattle.dependence_banerjee.specs.Spans.{RegionIn, Excluded, NoMultiple}
use Rattle.dependence_banerjee.proofs.MachineLaws.{kept}
use Rattle.dependence_banerjee.proofs.ExtentLaws.{Inward}

-- ---- a divisor of words

small-divisor : (l : List ℤ) (m : ℕ) → ((a : ℤ) → Memᴰ a l → size a ≤ m) → gcd_of l ≤ m
unfolding gcd_of
small-divisor [] m h = omega arith
small-divisor (x ∷ l) m h = go (nat_abs x) (let s = h x (Memᴰ.head refl) in let e = size-nat_abs x in omega arith)
    (small-divisor l m (λ a i. h a (Memᴰ.tail i)))
  where
    go : (a : ℕ) → a ≤ m → gcd_of l ≤ m → gcd a (gcd_of l) ≤ m
    go zero f r = let e = gcd-none (gcd_of l) in omega arith
    go (suc a) f r = let d = le_of_dvd (omega arith) (gcd-is (suc a) (gcd_of l)).left in omega arith

pub pair_of : (w : List ℤ) (i j n : ℕ) (b : List Range) → RegionIn w i j 1 n b → (k : ℕ) → k ≤ n → PairIn w i j k
pair_of w i j n b g k h = let f = g.ranges.few in let x = g.sums.source.inside in let y = g.sums.sink.inside in record {
  first = record { small = g.sums.source.small; inside = omega arith; few = omega arith };
  second = record { small = g.sums.sink.small; inside = omega arith; few = omega arith };
}

module _ (w : List ℤ) (k i j : ℕ) (h : PairIn w i j k) where
  abbrev words : ℕ → List ℤ
  words s = take k (drop (s * 8 + 1) w)

  abbrev both : List ℤ
  both = (difference_at w k i j).coefficients

  word_small : (s : ℕ) (a : ℤ) → Memᴰ a (words s) → size a ≤ 32767
  word_small s a m =
      let r = mem-get_d (pos 0) m in
      subst (λ (z : ℤ). size z ≤ 32767) r.2 (within-at 32767 (words s) (within-take 32767 (drop (s * 8 + 1) w) k
      (within-drop 32767 w (s * 8 + 1) h.first.small)) r.0)

  pub divisor-small : gcd_of both ≤ 32767
  unfolding difference_at Model.difference form_at
  divisor-small = small-divisor both 32767 (λ a m. ⊎_elim
      (word_small i a)
      (λ n. let r = Memᴰ.of_map neg_ℤ (words j) n in let s = word_small j r.0 r.1 in let e = size-neg r.0 in subst
      (λ (z : ℤ). size z ≤ 32767) r.2 (omega arith))
      (Memᴰ.append_cases (words i) m))

  word-there : (s l : ℕ) → s * 8 + 8 ≤ length w → k ≤ 6 → l < k → Memᴰ (get_or w (s * 8 + suc l) (pos 0)) (words s)
  word-there s l f g a =
      let n = length-take-le k (drop (s * 8 + 1) w) (let d = length-drop (s * 8 + 1) w in omega arith) in
      subst (λ (z : ℤ). Memᴰ z (words s))
      (get_or-take k (drop (s * 8 + 1) w) l (pos 0) a ∙ get_or-drop (s * 8 + 1) w l (pos 0)
      ∙ ap (λ (x : ℕ). get_or w x (pos 0)) (let e : s * 8 + 1 + l ≡ s * 8 + suc l = omega arith in e))
      (get_d-mem (words s) l (pos 0) (omega arith))

  one_word : (s l : ℕ) → coefficient_sum w s (suc l) 1 ≡ get_or w (s * 8 + suc l) (pos 0)
  unfolding coefficient_sum
  one_word s l = lin (get_or w ((s + 0) * 8 + suc l) (pos 0) ∷ []) (λ x. # 0 ⊕ x ≐ x) tt
      ∙ ap (λ (x : ℕ). get_or w x (pos 0)) (let e : (s + 0) * 8 + suc l ≡ s * 8 + suc l = omega arith in e)

  source-divides : (l : ℕ) → l < k → pos (gcd_of both) ∣ℤ coefficient_sum w i (suc l) 1
  unfolding difference_at Model.difference form_at
  source-divides l a = subst (λ (z : ℤ). pos (gcd_of both) ∣ℤ z) (sym (one_word i l))
      (dvd-int _ (gcd_of-divides both _ (Memᴰ.append_left (map neg_ℤ (words j)) (word-there i l h.first.inside h.first.few a))))

  sink-divides : (l : ℕ) → l < k → pos (gcd_of both) ∣ℤ coefficient_sum w j (suc l) 1
  unfolding difference_at Model.difference form_at
  sink-divides l a = subst (λ (z : ℤ). pos (gcd_of both) ∣ℤ z) (sym (one_word j l))
      (dvd-opposite _ (dvd-int _ (gcd_of-divides both _ (Memᴰ.append_right (words i)
      (Memᴰ.map neg_ℤ (word-there j l h.second.inside h.second.few a))))))
    where
      dvd-opposite : {g : ℤ} (z : ℤ) → g ∣ℤ neg_ℤ z → g ∣ℤ z
      dvd-opposite {g} z d = subst (λ (x : ℤ). g ∣ℤ x) (lin (z ∷ []) (λ z. # 0 ⊖ ⊝ z ≐ z) tt) (∣-sub (∣-zero g) d)

  pub terms-divide : (p q : List ℤ) (l : ℕ) → l ≤ k → pos (gcd_of both) ∣ℤ terms w i j 1 p q l
  unfolding terms
  terms-divide p q zero f = ∣-zero (pos (gcd_of both))
  terms-divide p q (suc l) f = ∣-add (terms-divide p q l (omega arith)) (∣-sub (∣-mul (get_or p l (pos 0)) (source-divides l (omega arith)))
      (∣-mul (get_or q l (pos 0)) (sink-divides l (omega arith))))

-- ---- a range without a multiple

pub skipped : (a b : ℤ) (g : ℕ) → 0 < g → floor_div b (pos g) <ℤ ceil_div a (pos g) → (z : ℤ) → a ≤ℤ z → z ≤ℤ b → pos g ∣ℤ z → ⊥
skipped a b g s h z l u d =
    let m = d.factor in
    let p : pos 0 <ℤ pos g = omega zarith in
    let x = (floor-iff b (pos g) m p).0 (subst (λ (y : ℤ). y ≤ℤ b) d.equal u) in
    let y = (ceil-iff a (pos g) m p).0 (subst (λ (y : ℤ). a ≤ℤ y) d.equal l) in
    omega zarith

-- as the code finds it
pub no-multiple-between : (a b : ℤ) (g : ℕ) → size a ≤ 68719476736 → size b ≤ 68719476736 → 0 < g → {x y d : ℤ} → d ≡ pos g → x ≡ floor_div (copy b) d
    → y ≡ ceil_div (copy a) d
    → lt_z (copy x) (copy y) ≡ true → (z : ℤ) → a ≤ℤ z → z ≤ℤ b → pos g ∣ℤ z → ⊥
no-multiple-between a b g sa sb s {x} {y} {d} e fx fy t =
    let ex : x ≡ floor_div b (pos g) = fx ∙ ap₂ floor_div (kept b sb (omega arith)) e in
    let ey : y ≡ ceil_div a (pos g) = fy ∙ ap₂ ceil_div (kept a sa (omega arith)) e in
    let hx : size x ≤ 68719476736 = rw ex (let l = size-floor b (pos g) in omega arith) in
    let hy : size y ≤ 68719476736 = rw ey (let l = size-ceil a (pos g) in omega arith) in
    let u : copy x ≡ floor_div b (pos g) = kept x hx (omega arith) ∙ ex in
    let v : copy y ≡ ceil_div a (pos g) = kept y hy (omega arith) ∙ ey in
    skipped a b g s (test-lt {a = floor_div b (pos g)} {b = ceil_div a (pos g)} (rw (u, v) at t))

-- ---- 0 is excluded

pub gcd-excluded : (w : List ℤ) (i j n : ℕ) (b : List Range) (u k v : ℕ) (r : Range) → Inward w i j 1 n b u k v r → (h : PairIn w i j k) → (g : ℕ)
    → g ≡ gcd_of (difference_at w k i j).coefficients → NoMultiple r g → Excluded w i j 1 n b u
gcd-excluded w i j n b u k v r f h g e s p q d z =
    let o = f.holds p q d in
    let t = terms w i j 1 p q k in
    s (pos 0 -ℤ t)
    (record { low = under r.least t _ z o.0; high = over r.greatest t _ z o.1 })
    (∣-sub (∣-zero (pos g)) (subst (λ (x : ℕ). pos x ∣ℤ t) (sym e) (terms-divide w k i j h p q k (omega arith))))
  where
    under : (a t d : ℤ) → d ≡ pos 0 → (a +ℤ t) ≤ℤ d → a ≤ℤ (pos 0 -ℤ t)
    under a t d e f = lin (a ∷ t ∷ []) (λ a t. a ⊕ t ⊑ # 0 ⟶ a ⊑ # 0 ⊖ t) tt (rw e at f)

    over : (a t d : ℤ) → d ≡ pos 0 → d ≤ℤ (a +ℤ t) → (pos 0 -ℤ t) ≤ℤ a
    over a t d e f = lin (a ∷ t ∷ []) (λ a t. # 0 ⊑ a ⊕ t ⟶ # 0 ⊖ t ⊑ a) tt (rw e at f)
