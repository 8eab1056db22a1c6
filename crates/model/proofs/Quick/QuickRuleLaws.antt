-- The quick test says 'apart' exactly on document 01's rule: divisibility, one dimension, two accesses, the entry.
use mathlib.Core.Path.{◌≡◌, refl, sym, ap, ◌∙◌, subst}
use mathlib.Core.Bool.{Bool, true, false, cond, not, ◌||◌}
use mathlib.Core.Logic.{◌↔◌, ◌⊎◌, inl, inr, ⊎_elim}
use mathlib.Core.List.{List, [], ◌∷◌, ◌++◌}
use Prim.Native.Nat.{ℕ, suc, ◌%◌, ◌∣◌}
use native.Mathlib.Omega.{arith}
use native.Mathlib.Nat.{dvd_trans, dvd_of_mod-eq-zero, mod-eq-zero_of_dvd}
use lib.Dec.{T, eqb, T_not, not_T, eqb→eq, eqb_refl}
use lib.IntN.{ℤ, pos, nat_abs, ◌+ℤ◌}
use lib.Signed.{lt_z, ◌<ℤ◌}
use lib.ListN.{length}
use Rattle.integers.specs.Gcd.{gcd_of}
use Rattle.integers.proofs.RangeLaws.{test-lt, lt_test}
use Rattle.integers.proofs.GcdLaws.{gcd_of-divides, gcd_of-greatest, dvd-int, int-dvd}
use Rattle.lists.specs.Tests.{any}
use Rattle.lists.proofs.TestLaws.{true-T, T_true, or_cases, or_left, or_right, any_some, some-any}
use Rattle.model.specs.Answer.{Answer, accepted}
use Rattle.model.specs.Ticket.{Loop, Subscript, Access, Ticket}
use Rattle.model.specs.Judge.{admit_of}
use Rattle.model.specs.Quick.{Range, least_sum, greatest_sum, ranges, difference, divides, never_zero, some_apart, is_apart, apart, perhaps}
use Rattle.model.specs.Quick.{quick_test}
use Rattle.model.specs.Entries.{all_accesses, access_number, quick_of}
use Rattle.model.specs.Promises.{Divides, NotDivided, ZeroOutside, QuickRule, other_array, no_index, dimension}
use Rattle.model.proofs.Answers.AnswerLaws.{accepted-same}
use Rattle.model.proofs.Answers.PassLaws.{bind-pass}

-- ---- tests, with their numbers written out: they are not found from a test's type

below : (a b : ℤ) → T (lt_z a b) → a <ℤ b
below a b h = test-lt {a = a} {b = b} (T_true (lt_z a b) h)

not-below : (a b : ℤ) → a <ℤ b → T (lt_z a b)
not-below a b h = true-T (lt_z a b) (lt_test {a = a} {b = b} h)

-- ---- divisors

divides-abs : (g : ℕ) (c : ℤ) → Divides g c → g ∣ nat_abs c
divides-abs g c h = int-dvd {a = c} (record { factor = h.quotient; equal = h.equal })

abs-divides : (g : ℕ) (c : ℤ) → g ∣ nat_abs c → Divides g c
abs-divides g c h = let r = dvd-int c h in record { quotient = r.factor; equal = r.equal }

test-divides : (g : ℕ) (c : ℤ) → T (divides g c) → g ∣ nat_abs c
unfolding divides
test-divides g c h = dvd_of_mod-eq-zero g (eqb→eq (nat_abs c % g) 0 h)

divides-test : (g : ℕ) (c : ℤ) → g ∣ nat_abs c → T (divides g c)
unfolding divides
divides-test g c h = subst (λ n. T (eqb n 0)) (sym (mod-eq-zero_of_dvd g h)) tt

module _ (d : Subscript) where
  not-divided : (T (divides (gcd_of d.coefficients) d.constant) → ⊥) → NotDivided d
  not-divided h = record {
    divisor = gcd_of d.coefficients;
    common = λ c m. abs-divides (gcd_of d.coefficients) c (gcd_of-divides d.coefficients c m);
    fails = λ k. h (divides-test (gcd_of d.coefficients) d.constant (divides-abs (gcd_of d.coefficients) d.constant k));
  }

  divided-not : NotDivided d → T (divides (gcd_of d.coefficients) d.constant) → ⊥
  divided-not h t = h.fails (abs-divides h.divisor d.constant (dvd_trans h.divisor
      (gcd_of-greatest d.coefficients h.divisor (λ c m. divides-abs h.divisor c (h.common c m)))
      (test-divides (gcd_of d.coefficients) d.constant t)))

-- ---- one dimension

module _ (rs : List Range) (d : Subscript) where
  least : ℤ
  least = d.constant +ℤ least_sum d.coefficients rs

  greatest : ℤ
  greatest = d.constant +ℤ greatest_sum d.coefficients rs

  test-never : T (never_zero rs d) → NotDivided d ⊎ ZeroOutside rs d
  unfolding never_zero least greatest
  test-never h = ⊎_elim (λ t. inl (not-divided d (T_not (divides (gcd_of d.coefficients) d.constant) t)))
      (λ t. inr (⊎_elim (λ u. inl (below (pos 0) least u)) (λ u. inr (below greatest (pos 0) u))
      (or_cases (lt_z (pos 0) least) (lt_z greatest (pos 0)) t)))
      (or_cases (not (divides (gcd_of d.coefficients) d.constant)) (lt_z (pos 0) least || lt_z greatest (pos 0)) h)

  never-test : NotDivided d ⊎ ZeroOutside rs d → T (never_zero rs d)
  unfolding never_zero least greatest
  never-test (inl h) = or_left (not (divides (gcd_of d.coefficients) d.constant)) (lt_z (pos 0) least || lt_z greatest (pos 0))
      (not_T (divides (gcd_of d.coefficients) d.constant) (divided-not d h))
  never-test (inr h) = or_right (not (divides (gcd_of d.coefficients) d.constant)) (lt_z (pos 0) least || lt_z greatest (pos 0))
      (⊎_elim (λ u. or_left (lt_z (pos 0) least) (lt_z greatest (pos 0)) (not-below (pos 0) least u))
      (λ u. or_right (lt_z (pos 0) least) (lt_z greatest (pos 0)) (not-below greatest (pos 0) u)) h)

-- ---- two accesses

record Dimension (rs : List Range) (fs gs : List Subscript) : Type 0 where
  before : List Subscript
  after : List Subscript
  before' : List Subscript
  after' : List Subscript
  f : Subscript
  g : Subscript
  first : fs ≡ before ++ f ∷ after
  second : gs ≡ before' ++ g ∷ after'
  same : length before ≡ length before'
  never : NotDivided (difference f g) ⊎ ZeroOutside (rs ++ rs) (difference f g)

module _ (rs : List Range) where
  test-some : (fs gs : List Subscript) → T (some_apart rs fs gs) → Dimension rs fs gs
  unfolding some_apart
  test-some [] gs h = absurd h
  test-some (f ∷ fs) [] h = absurd h
  test-some (f ∷ fs) (g ∷ gs) h = ⊎_elim
      (λ t. record {
        before = [];
        after = fs;
        before' = [];
        after' = gs;
        f = f;
        g = g;
        first = refl;
        second = refl;
        same = refl;
        never = test-never
            (rs ++ rs) (difference f g) t;
      })
      (λ t. let r = test-some fs gs t in record {
        before = f ∷ r.before;
        after = r.after;
        before' = g ∷ r.before';
        after' = r.after';
        f = r.f;
        g = r.g;
        first = ap (f ∷◌) r.first;
        second = ap (g ∷◌) r.second;
        same = ap suc r.same;
        never = r.never;
      })
      (or_cases (never_zero (rs ++ rs) (difference f g)) (some_apart rs fs gs) h)

  some-test : (before before' : List Subscript) (f g : Subscript) (after after' : List Subscript) → length before ≡ length before'
      → NotDivided (difference f g) ⊎ ZeroOutside (rs ++ rs) (difference f g) → T (some_apart rs (before ++ f ∷ after) (before' ++ g ∷ after'))
  unfolding some_apart
  some-test [] [] f g after after' e h = or_left (never_zero (rs ++ rs) (difference f g)) (some_apart rs after after')
      (never-test (rs ++ rs) (difference f g) h)
  some-test [] (y ∷ before') f g after after' e h = absurd (omega arith)
  some-test (x ∷ before) [] f g after after' e h = absurd (omega arith)
  some-test (x ∷ before) (y ∷ before') f g after after' e h = or_right (never_zero (rs ++ rs) (difference x y))
      (some_apart rs (before ++ f ∷ after) (before' ++ g ∷ after'))
      (some-test before before' f g after after' (omega arith) h)

module _ (N : List Loop) (u v : Access) where
  abbrev none_there : Bool
  none_there = any (λ r. lt_z r.greatest r.least) (ranges N)

  abbrev some_dimension : Bool
  some_dimension = some_apart (ranges N) u.subscripts v.subscripts

  test-rule : T (is_apart N u v) → QuickRule N u v
  unfolding is_apart
  test-rule h = ⊎_elim (λ t. other_array (λ e. T_not (eqb u.array v.array) t (subst (λ a. T (eqb u.array a)) e (eqb_refl u.array))))
      (λ t. ⊎_elim (λ x. let s = any_some (λ r. lt_z r.greatest r.least) (ranges N) x in
      no_index s.0 s.1 (below s.0.greatest s.0.least s.2))
      (λ x. let s = test-some (ranges N) u.subscripts v.subscripts x in
      dimension s.before s.after s.before' s.after' s.f s.g s.first s.second s.same s.never)
      (or_cases none_there some_dimension t))
      (or_cases (not (eqb u.array v.array)) (none_there || some_dimension) h)

  rule-test : QuickRule N u v → T (is_apart N u v)
  unfolding is_apart
  rule-test (other_array h) = or_left (not (eqb u.array v.array)) (none_there || some_dimension)
      (not_T (eqb u.array v.array) (λ t. h (eqb→eq u.array v.array t)))
  rule-test (no_index r m l) = or_right (not (eqb u.array v.array)) (none_there || some_dimension)
      (or_left none_there some_dimension (some-any (λ r. lt_z r.greatest r.least) (ranges N) m (not-below r.greatest r.least l)))
  rule-test (dimension before after before' after' f g e q s h) = or_right (not (eqb u.array v.array)) (none_there || some_dimension)
      (or_right none_there some_dimension (rw (e, q) (some-test (ranges N) before before' f g after after' s h)))

  says-apart : (t : Bool) → cond t apart perhaps ≡ apart → T t
  says-apart true e = tt
  says-apart false e = absurd (let z : ◌≡◌ {A = ℕ} 0 1 = cc in omega arith)

  apart-said : (t : Bool) → T t → cond t apart perhaps ≡ apart
  apart-said true h = refl
  apart-said false h = absurd h

  pub test-exact : (quick_test N u v ≡ apart) ↔ QuickRule N u v
  unfolding quick_test
  test-exact = (λ e. test-rule (says-apart (is_apart N u v) e), λ h. apart-said (is_apart N u v) (rule-test h))

-- ---- the entry

pub quick-rule : (d : Answer Ticket) (K : Ticket) → admit_of d ≡ accepted K → (a b : ℕ) (u v : Access)
    → access_number (all_accesses K.nest) a ≡ accepted u → access_number (all_accesses K.nest) b ≡ accepted v
    → (quick_of d a b ≡ accepted apart) ↔ QuickRule K.nest.loops u v
quick-rule d K e a b u v f g =
    let answer : quick_of d a b ≡ accepted (quick_test K.nest.loops u v) = answered in
    let r = test-exact K.nest.loops u v in
    (λ h. r.0 (accepted-same (sym answer ∙ h)), λ h. answer ∙ ap accepted (r.1 h))
  where
    answered : quick_of d a b ≡ accepted (quick_test K.nest.loops u v)
    answered = unfold quick_of in bind-pass _ e ∙ bind-pass _ f ∙ bind-pass _ g
