-- The quick test is sound: a subscript that is never zero, then the difference of two subscripts, then two accesses. Where the test says apart,
-- no two iterations, nor one, have them name one element; last, of an admitted nest's accesses.
use mathlib.Core.Path.{◌≡◌, refl, sym, ap, ◌∙◌, subst}
use mathlib.Core.Bool.{Bool, true, false, cond, not, ◌||◌}
use mathlib.Core.Logic.{⊎_elim}
use mathlib.Core.List.Memᴰ
use mathlib.Core.List.{List, [], ◌∷◌, ◌++◌, map}
use Prim.Native.Nat.{ℕ, ◌%◌}
use native.Mathlib.Omega.{arith}
use native.Mathlib.Nat.{mod-eq-zero_of_dvd}
use lib.Dec.{T, eqb, T_not, eqb_refl}
use borrow.Author.Tests.{eq-eqb}
use lib.IntN.{ℤ, pos, neg_ℤ, nat_abs, ◌+ℤ◌, ◌-ℤ◌}
use lib.Signed.{lt_z, ◌<ℤ◌, <ℤ_irrefl}
use lib.ListN.{length}
use Rattle.integers.specs.Affine.{dot, affine, Within}
use Rattle.integers.specs.Gcd.{gcd_of}
use Rattle.integers.proofs.RingLaws.{zarith}
use Rattle.integers.proofs.OrderLaws.{◌∣ℤ◌, ∣-zero, ∣-sub}
use Rattle.integers.proofs.RangeLaws.{test-lt}
use Rattle.integers.proofs.GcdLaws.{gcd_of-divides, dvd-int, int-dvd}
use Rattle.integers.proofs.AffineLaws.{dot-append, dot-neg, dot-divides}
use Rattle.integers.proofs.Polynomial.{◌⊕◌, ◌⊖◌, ⊝, #}
use Rattle.integers.proofs.Linear.{by, lin, ◌⊑◌, ◌⊏◌, ◌≐◌, ◌⟶◌}
use Rattle.lists.specs.Membership.{Mem, All}
use Rattle.lists.specs.Tests.{any}
use Rattle.lists.proofs.FlatMapLaws.{flat_map-mem}
use Rattle.lists.proofs.TestLaws.{true-T, T_true, or_cases, any_some}
use Rattle.model.specs.Answer.{accepted}
use Rattle.model.specs.Ticket.{Loop, Subscript, Access, Nest}
use Rattle.model.specs.Points.{iterations}
use Rattle.model.specs.Bounds.{subscript_at, space, accesses_of}
use Rattle.model.specs.Machine.{Element, element}
use Rattle.model.specs.Inside.{Inside}
use Rattle.model.specs.Shape.{Runs, WellFormed}
use Rattle.model.specs.Quick.{Range, least_sum, greatest_sum, ranges, difference, divides, never_zero, some_apart, is_apart, apart, perhaps, quick_test, InRanges}
use Rattle.model.specs.Entries.{all_accesses}
use Rattle.model.proofs.Points.PointLaws.{inside-length, iterations-inside}
use Rattle.model.proofs.Points.WithinLaws.{space-within}
use Rattle.model.proofs.Quick.QuickRangeLaws.{least-sum, greatest-sum, ranges-append, in-ranges, range-filled}

-- a test, with its numbers written out: they are not found from its type
below : (a b : ℤ) → T (lt_z a b) → a <ℤ b
below a b h = test-lt {a = a} {b = b} (T_true (lt_z a b) h)

-- ---- a subscript that is never zero

module _ (rs : List Range) (d : Subscript) (xs : List ℤ) (inn : InRanges rs xs) (zero : subscript_at xs d ≡ pos 0) where
  zero-sum : d.constant +ℤ dot d.coefficients xs ≡ pos 0
  unfolding subscript_at affine
  zero-sum = zero

  all-divide : T (divides (gcd_of d.coefficients) d.constant)
  unfolding divides
  all-divide =
      let g = gcd_of d.coefficients in
      let s = dot-divides (pos g) d.coefficients xs (λ c m. dvd-int c (gcd_of-divides d.coefficients c m)) in
      let e : pos 0 -ℤ dot d.coefficients xs ≡ d.constant = by (d.constant ∷ dot d.coefficients xs ∷ []) (λ c s. c ⊕ s ≐ # 0 ⟶ # 0 ⊖ s ≐ c)
      (omega arith) zero-sum in
      true-T (eqb (nat_abs d.constant % g) 0) (eq-eqb (nat_abs d.constant % g) 0
      (mod-eq-zero_of_dvd g (int-dvd (subst (λ z. pos g ∣ℤ z) e (∣-sub (∣-zero (pos g)) s)))))

  never-zero : T (never_zero rs d) → ⊥
  unfolding never_zero
  never-zero h =
      let lo = least-sum d.coefficients rs xs inn in
      let hi = greatest-sum d.coefficients rs xs inn in
      ⊎_elim (λ t. T_not (divides (gcd_of d.coefficients) d.constant) t all-divide)
      (λ t. ⊎_elim (λ u. let a = below (pos 0) (d.constant +ℤ least_sum d.coefficients rs) u in
      <ℤ_irrefl {a = pos 0} (by (d.constant ∷ dot d.coefficients xs ∷ least_sum d.coefficients rs ∷ [])
      (λ c s l. c ⊕ s ≐ # 0 ⟶ l ⊑ s ⟶ # 0 ⊏ c ⊕ l ⟶ # 0 ⊏ # 0) (omega arith) zero-sum lo a))
      (λ u. let a = below (d.constant +ℤ greatest_sum d.coefficients rs) (pos 0) u in
      <ℤ_irrefl {a = pos 0} (by (d.constant ∷ dot d.coefficients xs ∷ greatest_sum d.coefficients rs ∷ [])
      (λ c s l. c ⊕ s ≐ # 0 ⟶ s ⊑ l ⟶ c ⊕ l ⊏ # 0 ⟶ # 0 ⊏ # 0) (omega arith) zero-sum hi a))
      (or_cases (lt_z (pos 0) (d.constant +ℤ least_sum d.coefficients rs)) (lt_z (d.constant +ℤ greatest_sum d.coefficients rs) (pos 0)) t))
      (or_cases (not (divides (gcd_of d.coefficients) d.constant)) (lt_z (pos 0) (d.constant +ℤ least_sum d.coefficients rs) || lt_z
      (d.constant +ℤ greatest_sum d.coefficients rs) (pos 0)) h)

-- ---- two subscripts, at two free iterations

pub difference-value : (f g : Subscript) (p q : List ℤ) → length f.coefficients ≡ length p
    → subscript_at (p ++ q) (difference f g) ≡ subscript_at p f -ℤ subscript_at q g
unfolding subscript_at affine difference
difference-value f g p q e = rw (dot-append f.coefficients (map neg_ℤ g.coefficients) p q e, dot-neg g.coefficients q)
    (lin (f.constant ∷ g.constant ∷ dot f.coefficients p ∷ dot g.coefficients q ∷ []) (λ c d s t. c ⊖ d ⊕ (s ⊕ ⊝ t) ≐ (c ⊕ s) ⊖ (d ⊕ t)) tt)

module _ (rs : List Range) (p q : List ℤ) (hp : InRanges rs p) (hq : InRanges rs q) where
  some-apart : (fs gs : List Subscript) → All (λ f. length f.coefficients ≡ length p) fs → map (subscript_at p) fs ≡ map (subscript_at q) gs
      → T (some_apart rs fs gs) → ⊥
  unfolding some_apart
  some-apart [] gs w e h = h
  some-apart (f ∷ fs) [] w e h = h
  some-apart (f ∷ fs) (g ∷ gs) w e h =
      let s : subscript_at p f ≡ subscript_at q g = cc in
      let z : subscript_at p f -ℤ subscript_at q g ≡ pos 0 = by (subscript_at p f ∷ subscript_at q g ∷ []) (λ a b. a ≐ b ⟶ a ⊖ b ≐ # 0) (omega arith) s in
      ⊎_elim
      (λ t. never-zero (rs ++ rs) (difference f g) (p ++ q) (ranges-append rs rs p q hp hq)
      (difference-value f g p q (w f (Memᴰ.head refl)) ∙ z) t)
      (λ t. some-apart fs gs (λ k m. w k (Memᴰ.tail m)) (cc) t)
      (or_cases (never_zero (rs ++ rs) (difference f g)) (some_apart rs fs gs) h)

-- ---- two accesses

-- p and q may be one and the same iteration
pub apart-sound : (N : List Loop) → All Runs N → (u v : Access) → All (λ s. length s.coefficients ≡ length N) u.subscripts → T (is_apart N u v)
    → (p q : List ℤ) → Inside N [] p → Within 32767 p → Inside N [] q → Within 32767 q → element p u ≡ element q v → ⊥
unfolding is_apart element
apart-sound N r u v w h p q ip wp iq wq e =
    let hp = in-ranges N p r ip wp in
    let hq = in-ranges N q r iq wq in
    let wide : All (λ s. length s.coefficients ≡ length p) u.subscripts = λ s m. w s m ∙ sym (inside-length N [] p ip) in
    ⊎_elim
    (λ t. T_not (eqb u.array v.array) t (subst (λ a. T (eqb u.array a)) (ap (λ (x : Element). x.array) e) (eqb_refl u.array)))
    (λ t. ⊎_elim
    (λ o. let s = any_some (λ r. lt_z r.greatest r.least) (ranges N) o in
    let a = below s.0.greatest s.0.least s.2 in let b = range-filled (ranges N) p hp s.1 in omega zarith)
    (λ o. some-apart (ranges N) p q hp hq u.subscripts v.subscripts wide (ap (λ (x : Element). x.subscripts) e) o)
    (or_cases (any (λ r. lt_z r.greatest r.least) (ranges N)) (some_apart (ranges N) u.subscripts v.subscripts) t))
    (or_cases (not (eqb u.array v.array)) (any (λ r. lt_z r.greatest r.least) (ranges N) || some_apart (ranges N) u.subscripts
    v.subscripts) h)

-- ---- the accesses of an admitted nest

module _ (N : Nest) (w : WellFormed N) where
  all-wide : (u : Access) → Mem u (all_accesses N) → All (λ s. length s.coefficients ≡ length N.loops) u.subscripts
  unfolding all_accesses accesses_of
  all-wide u m =
      let r = flat_map-mem accesses_of N.statements m in
      let f = w.fits r.0 r.1 in
      ⊎_elim (λ i. (f.writes u i).wide) (λ i. (f.reads u i).wide) (Memᴰ.append_cases r.0.writes r.2)

  pub quick-sound : space N.loops ≡ accepted tt → (u v : Access) → Mem u (all_accesses N) → quick_test N.loops u v ≡ apart
      → (p q : List ℤ) → Mem p (iterations N.loops) → Mem q (iterations N.loops) → element p u ≡ element q v → ⊥
  unfolding quick_test
  quick-sound e u v m t p q i j = apart-sound N.loops w.runs u v (all-wide u m) (says-apart (is_apart N.loops u v) t)
      p q ((iterations-inside N.loops w.runs p).0 i) (space-within N.loops w.runs e p i) ((iterations-inside N.loops w.runs q).0 j)
      (space-within N.loops w.runs e q j)
    where
      says-apart : (b : Bool) → cond b apart perhaps ≡ apart → T b
      says-apart true e = tt
      says-apart false e = absurd (let z : ◌≡◌ {A = ℕ} 0 1 = cc in omega arith)
