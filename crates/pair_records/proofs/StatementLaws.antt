-- Laws of the accesses of statements, whose sizes are given. In order: how many they are; where those of a statement stand; which statement an
-- access belongs to, and whether it is written.
use mathlib.Core.Path.{◌≡◌, refl, sym, ap, ap₂, ◌∙◌}
use mathlib.Core.Bool.{false}
use mathlib.Core.List.{List, [], ◌∷◌, ◌++◌}
use Prim.Native.Nat.{ℕ, zero, suc, ◌+◌, ◌*◌, ◌-◌, ◌≤◌, ◌<◌}
use native.Mathlib.Nat.{add_assoc, suc-add, add-suc, add-zero, zero-add, mul-le-mul_right}
use native.Mathlib.Decide.{dec_lt}
use native.Mathlib.Omega.{arith}
use native.Mathlib.Numerals.{add-one}
use lib.Dec.{eqb, eqb-suc-zero}
use lib.ListN.{length, get_or, take, replicate, length-append, length-replicate, get_or-replicate, get_or-append}
use lib.Seq.{get_or-append-add}
use borrow.Author.Tests.{eq-eqb, ne_eqb}
use Rattle.lists.proofs.MembershipLaws.{all_get_d}
use Rattle.model.specs.Store.{sum}
use Rattle.dependence_marks.specs.Uses.{first_written, written_in, statement_numbers}
use Rattle.pair_records.specs.Conflicts.{AccessesIn}
use Rattle.pair_records.specs.Statements.{StatementAt, SpanIn}

-- ---- how many

pub numbers-length : (k : ℕ) (ms : List ℕ) → length (statement_numbers k ms) ≡ sum ms
unfolding statement_numbers sum
numbers-length k [] = refl
numbers-length k (m ∷ ms) =
    length-append (replicate m k) (statement_numbers (suc k) ms) ∙ ap₂ ◌+◌ (length-replicate m k) (numbers-length (suc k) ms)

written-length : (m : ℕ) → length (first_written m) ≡ m
unfolding first_written
written-length zero = refl
written-length (suc m) = ap suc (length-replicate m false)

pub ways-length : (ms : List ℕ) → length (written_in ms) ≡ sum ms
unfolding written_in sum
ways-length [] = refl
ways-length (m ∷ ms) = length-append (first_written m) (written_in ms) ∙ ap₂ ◌+◌ (written-length m) (ways-length ms)

-- ---- where the accesses of a statement stand

sum-next : (ms : List ℕ) (s : ℕ) → s < length ms → sum (take (suc s) ms) ≡ sum (take s ms) + get_or ms s 0
unfolding sum
sum-next [] s h = absurd (omega arith)
sum-next (m ∷ ms) zero h = omega arith
sum-next (m ∷ ms) (suc s) h = ap (m +◌) (sum-next ms s (omega arith)) ∙ sym (add_assoc m (sum (take s ms)) (get_or ms s 0))

sum-most : (ms : List ℕ) (s : ℕ) → s < length ms → sum (take s ms) + get_or ms s 0 ≤ sum ms
unfolding sum
sum-most [] s h = absurd (omega arith)
sum-most (m ∷ ms) zero h = omega arith
sum-most (m ∷ ms) (suc s) h = let r = sum-most ms s (omega arith) in omega arith

-- past a front
get_d_past : {A : Type 0} (xs ys : List A) (m i : ℕ) (d : A) → length xs ≡ m → get_or (xs ++ ys) (m + i) d ≡ get_or ys i d
get_d_past xs ys m i d e = ap (λ n. get_or (xs ++ ys) (n + i) d) (sym e) ∙ get_or-append-add xs ys i d

number-there : (k : ℕ) (ms : List ℕ) (s i : ℕ) → s < length ms → i < get_or ms s 0 → get_or (statement_numbers k ms) (sum (take s ms) + i) 0 ≡ k + s
unfolding statement_numbers sum
number-there k [] s i h g = absurd (omega arith)
number-there k (m ∷ ms) zero i h g = let l = length-replicate m k in
    ap (λ n. get_or (replicate m k ++ statement_numbers (suc k) ms) n 0) (let e : 0 + i ≡ i = omega arith in e)
    ∙ get_or-append (replicate m k) (statement_numbers (suc k) ms) 0 i (omega arith) ∙ get_or-replicate m i k 0 g ∙ sym (add-zero k)
number-there k (m ∷ ms) (suc s) i h g =
    ap (λ n. get_or (replicate m k ++ statement_numbers (suc k) ms) n 0) (add_assoc m (sum (take s ms)) i)
    ∙ get_d_past (replicate m k) (statement_numbers (suc k) ms) m (sum (take s ms) + i) 0 (length-replicate m k)
    ∙ number-there (suc k) ms s i (omega arith) g ∙ suc-add k s ∙ sym (add-suc k s)

written-first : (m i : ℕ) → i < m → get_or (first_written m) i false ≡ eqb i 0
unfolding first_written
written-first zero i h = absurd (omega arith)
written-first (suc m) zero h = refl
written-first (suc m) (suc i) h = get_or-replicate m i false false (omega arith) ∙ sym (eqb-suc-zero i)

written-there : (ms : List ℕ) (s i : ℕ) → s < length ms → i < get_or ms s 0 → get_or (written_in ms) (sum (take s ms) + i) false ≡ eqb i 0
unfolding written_in sum
written-there [] s i h g = absurd (omega arith)
written-there (m ∷ ms) zero i h g = let l = written-length m in
    ap (λ n. get_or (first_written m ++ written_in ms) n false) (let e : 0 + i ≡ i = omega arith in e)
    ∙ get_or-append (first_written m) (written_in ms) false i (omega arith) ∙ written-first m i g
written-there (m ∷ ms) (suc s) i h g =
    ap (λ n. get_or (first_written m ++ written_in ms) n false) (add_assoc m (sum (take s ms)) i)
    ∙ get_d_past (first_written m) (written_in ms) m (sum (take s ms) + i) false (written-length m) ∙ written-there ms s i (omega arith) g

-- ---- which statement an access belongs to

access-of : (ms : List ℕ) (c : ℕ) → c < sum ms → (s : ℕ) × (s < length ms) × (sum (take s ms) ≤ c) × (c < sum (take s ms) + get_or ms s 0)
unfolding sum
access-of [] c h = absurd (omega arith)
access-of (m ∷ ms) c h = elim (dec_lt c m) [
  | yes l ↦ (0, omega arith, omega arith, omega arith)
  | no f ↦ let r = access-of ms (c - m) (omega arith) in let i = r.1 in let j = r.2 in let k = r.3 in
      (suc r.0, omega arith, omega arith, omega arith)
]

no-further : (a c : ℕ) → a ≤ c → eqb (c - a) 0 ≡ eqb c a
no-further a c h = elim (dec_lt a c) [
  | yes l ↦ ne_eqb (c - a) 0 (λ e. absurd (omega arith)) ∙ sym (ne_eqb c a (λ e. absurd (omega arith)))
  | no f ↦ eq-eqb (c - a) 0 (omega arith) ∙ sym (eq-eqb c a (omega arith))
]

module _ (sizes : List ℕ) where
  pub statement-of : (c : ℕ) → c < sum sizes → (s : ℕ) × (a : ℕ) × (e : ℕ) × StatementAt sizes s a e × (a ≤ c) × (c < e)
  statement-of c h = let r = access-of sizes c h in
      (r.0, sum (take r.0 sizes), sum (take r.0 sizes) + get_or sizes r.0 0, record { there = r.1; first = refl; past = refl }, r.2, r.3)

  -- where a loop through the statements has come
  pub statement-at : (n : ℕ) (ids : List ℕ) (m : ℕ) → AccessesIn n ids sizes m → (s a : ℕ) → s < m → a ≡ sum (take s sizes)
      → StatementAt sizes s a (a + get_or sizes s 0)
  statement-at n ids m ok s a h e = let l = ok.statements in record { there = omega arith; first = e; past = refl }

  -- an access from a up to e is of statement s, and is written if it is a
  pub in-statement : (s a e c : ℕ) → StatementAt sizes s a e → a ≤ c → c < e
      → (get_or (statement_numbers 0 sizes) c 0 ≡ s) × (get_or (written_in sizes) c false ≡ eqb c a)
  in-statement s a e c h l g =
      let f = h.first in let p = h.past in let i = c - a in let q : sum (take s sizes) + i ≡ c = omega arith in (
        ap (λ k. get_or (statement_numbers 0 sizes) k 0) (sym q) ∙ number-there 0 sizes s i h.there (omega arith) ∙ zero-add s,
        ap (λ k. get_or (written_in sizes) k false) (sym q) ∙ written-there sizes s i h.there (omega arith) ∙ no-further a c l,
      )

  -- every access is of one of the statements
  pub number-below : (c : ℕ) → c < length (statement_numbers 0 sizes) → get_or (statement_numbers 0 sizes) c 0 < length sizes
  number-below c h =
      let l = numbers-length 0 sizes in let r = statement-of c (omega arith) in
      let i = (in-statement r.0 r.1 r.2 c r.3 r.4 r.5).0 in let t = r.3.there in omega arith

  -- a statement has its accesses at one place
  pub at-one-place : (s t a e b f : ℕ) → StatementAt sizes s a e → StatementAt sizes t b f → s ≡ t → (a ≡ b) × (e ≡ f)
  at-one-place s t a e b f h g q =
      let i : a ≡ b = h.first ∙ ap (λ k. sum (take k sizes)) q ∙ sym g.first in
      (i, h.past ∙ ap₂ (λ k l. k + get_or sizes l 0) i q ∙ sym g.past)

  pub statement-ends : (s a e : ℕ) → StatementAt sizes s a e → e ≤ sum sizes
  statement-ends s a e h = let f = h.first in let p = h.past in let m = sum-most sizes s h.there in omega arith

  -- the next statement's first access
  pub next-first : (s a e : ℕ) → StatementAt sizes s a e → e ≡ sum (take (s + 1) sizes)
  next-first s a e h = h.past ∙ ap (◌+ get_or sizes s 0) h.first ∙ sym (sum-next sizes s h.there)
      ∙ ap (λ k. sum (take k sizes)) (sym (add-one s))

  -- there is an access, and room for the numbers of all
  pub statement-span : (n : ℕ) (ids : List ℕ) (m : ℕ) → AccessesIn n ids sizes m → (s a e : ℕ) → StatementAt sizes s a e → SpanIn n ids (a + 1) e
  statement-span n ids m ok s a e h =
      let g = all_get_d (λ k. 1 ≤ k) sizes s 0 ok.each h.there in let p = h.past in let l = statement-ends s a e h in
      let f = ok.few-accesses in let t = ok.table in let q : e * n ≤ sum sizes * n = mul-le-mul_right n l in record {
        rising = omega arith;
        few-points = ok.few-points;
        few-accesses = omega arith;
        table = omega arith;
      }
