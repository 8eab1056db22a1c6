-- What the marks that the search sets mean: two accesses at two points, by number.
use mathlib.Core.Path.{◌≡◌, sym, ◌∙◌}
use mathlib.Core.Bool.{Bool}
use mathlib.Core.List.{List}
use Prim.Native.Nat.{ℕ, ◌+◌, ◌<◌}
use native.Mathlib.Omega.{arith}
use lib.Dec.{T, eqb, ltb, eqb→eq, ltb→lt, lt→ltb}
use lib.ListN.{length, get_or}
use borrow.Author.Tests.{eq-eqb}
use Rattle.lists.proofs.TestLaws.{true-T, and_both, and_intro}
use Rattle.model.specs.Directions.{kind_count}
use Rattle.dependence_vectors.specs.Numbers.{place_of}
use Rattle.dependence_vectors.specs.Candidates.{code}
use Rattle.dependence_pair_search.specs.Search.{some, up_to, hit, found}
use Rattle.dependence_search.specs.Flat.{Flat, number_at, statement_of, writes_at, Ready, kind_of, numbers_of, set_by, set_from}
use Rattle.dependence_pair_search.proofs.SomeLaws.{some-there, there-some}
use Rattle.dependence_pair_search.proofs.ChainLaws.{up_to-le}
use Rattle.dependence_search.proofs.FlatLaws.{numbers-at}

equal-passes : (m n : ℕ) → m ≡ n → T (eqb m n)
equal-passes m n e = true-T (eqb m n) (eq-eqb m n e)

-- access a at point x and access b at point y name one element, the instance of a is the earlier, and their mark is j
pub record Meets (F : Flat) (j : ℕ) : Type 0 where
  pub a : ℕ
  pub b : ℕ
  pub x : ℕ
  pub y : ℕ
  pub source : a < length F.statements
  pub sink : b < length F.statements
  pub conflicts : kind_of (writes_at F a) (writes_at F b) < kind_count
  pub first : x < up_to (ltb (statement_of F a) (statement_of F b)) y
  pub late : y < F.count
  pub element : number_at F a x ≡ number_at F b y
  pub placed : place_of F.body (statement_of F a) (statement_of F b) (kind_of (writes_at F a) (writes_at F b)) 0 + code F.depth F.points x y ≡ j

module _ (F : Flat) (marks : List Bool) (ok : Ready F marks) (j : ℕ) where
  abbrev kind : ℕ → ℕ → ℕ
  kind a b = kind_of (writes_at F a) (writes_at F b)

  abbrev base : ℕ → ℕ → ℕ
  base a b = place_of F.body (statement_of F a) (statement_of F b) (kind a b) 0

  abbrev own : ℕ → ℕ → Bool
  own a b = ltb (statement_of F a) (statement_of F b)

  abbrev ids : ℕ → List ℕ
  ids a = numbers_of F.count F.numbers a

  abbrev strikes : ℕ → ℕ → ℕ → ℕ → Bool
  strikes a b y x = hit F.depth F.points (ids a) (ids b) (base a b) j y x

  before : (a b x y : ℕ) → x < up_to (own a b) y → y < F.count → x < F.count
  before a b x y h g = let k = up_to-le (own a b) y F.count g in omega arith

  one-element : (a b x y : ℕ) → x < F.count → y < F.count → T (eqb (get_or (ids a) x 0) (get_or (ids b) y 0)) → number_at F a x ≡ number_at F b y
  one-element a b x y h g e = sym (numbers-at F marks ok a x h) ∙ eqb→eq (get_or (ids a) x 0) (get_or (ids b) y 0) e ∙ numbers-at F marks ok b y g

  pub set-meets : T (some (length F.statements) (λ a. set_from F a j)) → Meets F j
  unfolding set_from set_by found hit
  set-meets h =
      let p = some-there (length F.statements) (λ a. set_from F a j) h in
      let q = some-there (length F.statements) (λ b. set_by F p.0 b j) p.2 in
      let a = p.0 in let b = q.0 in
      let r = and_both (ltb (kind a b) kind_count) (found F.depth F.points F.count (ids a) (ids b) (own a b) (base a b) j) q.2 in
      let s = some-there F.count (λ y. some (up_to (own a b) y) (strikes a b y)) r.1 in
      let t = some-there (up_to (own a b) s.0) (strikes a b s.0) s.2 in
      let y = s.0 in let x = t.0 in
      let u = and_both (eqb (get_or (ids a) x 0) (get_or (ids b) y 0)) (eqb (base a b + code F.depth F.points x y) j) t.2 in
      record {
        a = a;
        b = b;
        x = x;
        y = y;
        source = p.1;
        sink = q.1;
        conflicts = ltb→lt (kind a b) kind_count r.0;
        first = t.1;
        late = s.1;
        element = one-element a b x y (before a b x y t.1 s.1) s.1 u.0;
        placed = eqb→eq (base a b + code F.depth F.points x y) j u.1;
      }

  pub meets-set : Meets F j → T (some (length F.statements) (λ a. set_from F a j))
  unfolding set_from set_by found hit
  meets-set m = let a = m.a in let b = m.b in let x = m.x in let y = m.y in
      there-some (length F.statements) a (λ a. set_from F a j) m.source (there-some (length F.statements) b (λ b. set_by F a b j) m.sink
      (and_intro (ltb (kind a b) kind_count) (found F.depth F.points F.count (ids a) (ids b) (own a b) (base a b) j)
      (lt→ltb (kind a b) kind_count m.conflicts)
      (there-some F.count y (λ y. some (up_to (own a b) y) (strikes a b y)) m.late (there-some (up_to (own a b) y) x (strikes a b y) m.first
      (and_intro (eqb (get_or (ids a) x 0) (get_or (ids b) y 0)) (eqb (base a b + code F.depth F.points x y) j)
      (equal-passes (get_or (ids a) x 0) (get_or (ids b) y 0) (numbers-at F marks ok a x (before a b x y m.first m.late) ∙ m.element
      ∙ sym (numbers-at F marks ok b y m.late)))
      (equal-passes (base a b + code F.depth F.points x y) j m.placed))))))
