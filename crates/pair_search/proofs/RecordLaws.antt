-- The records that are found in the flat data of a nest are those of the model: of two points (`between_is`), of a source (`source_is`), and of all
-- sources that a walk comes to (`searched`).
use mathlib.Core.Path.{◌≡◌, refl, sym, ap, ap₂, ◌∙◌, subst}
use mathlib.Core.Bool.{Bool, true, false, cond, ◌&&◌}
use mathlib.Core.List.{List, [], map, flat_map, map-map}
use Prim.Native.Nat.{ℕ, suc, ◌+◌, ◌*◌, ◌-◌, ◌/◌, ◌%◌, ◌≤◌, ◌<◌}
use native.Mathlib.Omega.{arith}
use lib.IntN.{ℤ}
use lib.ListN.{length, get_or, length-append, get_or-map}
use Rattle.lists.specs.Parts.{rows}
use Rattle.lists.specs.Tests.{select}
use Rattle.lists.proofs.PartLaws.{rows-get_d, length-rows}
use Rattle.lists.proofs.FlatMapLaws.{flat_map-same-on, map-flat_map}
use Rattle.lists.proofs.TestLaws.{select-same-on, select-none, select-map, select-and, flat_map-select}
use Rattle.model.specs.Ticket.{Step, Nest}
use Rattle.model.specs.Points.{iterations}
use Rattle.model.specs.Machine.{accesses}
use Rattle.model.specs.Directions.{earlier, kinds, kind_count, flow, up_from}
use Rattle.model.specs.Steps.{forward_all}
use Rattle.model.specs.Pairs.{Pair, pairs_at, record_of}
use Rattle.model.proofs.Points.PointLaws.{iterations-rise}
use Rattle.model.proofs.Listing.LineOrderLaws.{up_from-mem}
use Rattle.model.proofs.Promise.TradedLaws as Model
use Rattle.model.proofs.Promise.TradedLaws.{pairs-from-place}
use Rattle.dependence_vectors.specs.Candidates.{row}
use Rattle.dependence_vectors.specs.Numbers.{kind_number}
use Rattle.dependence_listing_text.proofs.IndexLaws.{split, kind-number}
use Rattle.dependence_search.specs.Flat.{Flat, statement_of, point_at, points_of, Describes}
use Rattle.pair_partners.specs.Partners.{conflicting, row_before, between, is_partner, partners}
use Rattle.pair_records.specs.Conflicts.{block_count, record_words, records_between}
use Rattle.pair_records.specs.Windows.{Windowed}
use Rattle.pair_records.specs.Walks.{records_from, records_of, Walks}
use Rattle.pair_records.specs.declared.Walked.{Walked}
use Rattle.pair_search.specs.Searches.{record_words_of, words_before, Searched}
use Rattle.pair_search.proofs.BlockLaws.{pair_at, pairs_at-blocks}
use Rattle.pair_search.proofs.ConflictLaws.{marks, conflict-is, apart_none}
use Rattle.pair_search.proofs.WordLaws.{pair_words, words_at, from_is, before_more}

-- ---- lists by a test

map-cond : {A B : Type 0} (g : A → B) (b : Bool) (l : List A) → map g (cond b l []) ≡ cond b (map g l) []
map-cond g true l = refl
map-cond g false l = refl

-- a list that is empty where the first test fails
pruned : {A : Type 0} (a b : Bool) (l : List A) → (a ≡ false → l ≡ []) → cond (a && b) l [] ≡ cond b l []
pruned true b l h = refl
pruned false true l h = sym (h refl)
pruned false false l h = refl

-- the flat data F of a nest, and its points moved to rows of d numbers
pub record Stands (ts : List Step) (N : Nest) (F : Flat) (d : ℕ) (s : List ℤ) : Type 0 where
  pub describes : Describes N.statements F
  pub in-body : (a : ℕ) → a < length F.statements → statement_of F a < F.body
  pub points : points_of F ≡ iterations N.loops
  pub moved : rows d F.count s ≡ map (forward_all ts) (points_of F)

module _ (ts : List Step) (N : Nest) (F : Flat) (d : ℕ) (s : List ℤ) (h : Stands ts N F d s) where
  abbrev n : ℕ
  n = F.body

  abbrev clashing : Pair → Bool
  clashing = Model.clashes (forward_all ts) (accesses N.statements)

  point-is : (x : ℕ) → x < F.count → get_or (iterations N.loops) x [] ≡ point_at F x
  unfolding row
  point-is x l = ap (λ ps. get_or ps x []) (sym h.points) ∙ rows-get_d F.depth F.count F.points x [] l

  count-is : F.count ≡ length (iterations N.loops)
  count-is = sym (length-rows F.depth F.count F.points) ∙ ap length h.points

  -- a row is where the steps take its point
  row_is : (x : ℕ) → x < F.count → row d s x ≡ forward_all ts (point_at F x)
  unfolding row
  row_is x l = sym (rows-get_d d F.count s x (forward_all ts []) l) ∙ ap (λ r. get_or r x (forward_all ts [])) h.moved
      ∙ get_or-map (forward_all ts) (points_of F) x [] ∙ ap (forward_all ts) (rows-get_d F.depth F.count F.points x [] l)

  before-is : (x y : ℕ) → x < F.count → y < F.count → earlier (forward_all ts (point_at F y)) (forward_all ts (point_at F x)) ≡ row_before d s y x
  unfolding row_before
  before-is x y l g = ap₂ earlier (sym (row_is y g)) (sym (row_is x l))

  -- ---- two points

  module _ (x y : ℕ) (early : x < F.count) (late : y < F.count) where
    abbrev p : List ℤ
    p = point_at F x

    abbrev q : List ℤ
    q = point_at F y

    block-is : (j : ℕ) → j < block_count n → clashing (pair_at n p q j) ≡ marks F x y j && row_before d s y x
    unfolding block_count
    block-is j l =
        let a = split j kind_count (n * n) l in
        let b = split (j / kind_count) n n a.quotient in
        let u = a.is in let v = b.is in
        let k = kind-number (j % kind_count) a.rest in
        let e : (j / kind_count / n * n + j / kind_count % n) * kind_count + kind_number (get_or kinds (j % kind_count) flow) ≡ j
        = ap₂ (λ z r. z * kind_count + r) (sym v) k ∙ sym u in
        ap₂ ◌&&◌ (conflict-is F x y N.statements h.describes early late h.in-body (j / kind_count / n) (j / kind_count % n)
        (get_or kinds (j % kind_count) flow) b.quotient b.rest ∙ ap (marks F x y) e) (before-is x y early late)

    -- the words of pair j are the record of block j
    words_are : (j : ℕ) → pair_words (pair_at n p q j) ≡ record_words F.points F.depth n x y j
    unfolding record_words_of record_of record_words
    words_are j = refl

    pub between_is : map pair_words (select clashing (pairs_at n p q)) ≡ cond (row_before d s y x) (records_between F x y) []
    unfolding records_between
    between_is =
        ap (λ l. map pair_words (select clashing l)) (pairs_at-blocks n p q)
        ∙ ap (map pair_words) (select-map clashing (pair_at n p q) (up_from 0 (block_count n)))
        ∙ map-map pair_words (pair_at n p q) (select (λ j. clashing (pair_at n p q j)) (up_from 0 (block_count n)))
        ∙ ap₂ map (λ i j. words_are j i) (select-same-on (λ j. clashing (pair_at n p q j)) (λ j. marks F x y j && row_before d s y x)
        (up_from 0 (block_count n)) (λ j m. let b = (up_from-mem 0 (block_count n) m).1 in block-is j (omega arith))
        ∙ select-and (marks F x y) (row_before d s y x) (up_from 0 (block_count n)))
        ∙ map-cond (record_words F.points F.depth n x y) (row_before d s y x) (select (marks F x y) (up_from 0 (block_count n)))

    -- points without conflicting accesses have no records
    apart : conflicting F.numbers F.writes F.count (length F.statements) x y ≡ false → records_between F x y ≡ []
    unfolding records_between
    apart e = ap (map (record_words F.points F.depth n x y))
        (select-none (marks F x y) (up_from 0 (block_count n)) (λ j m. apart_none F x y e j))

    pub partner-is : cond (is_partner F.numbers F.writes F.count (length F.statements) d s x y) (records_between F x y) []
        ≡ map pair_words (select clashing (pairs_at n p q))
    unfolding is_partner
    partner-is =
        pruned (conflicting F.numbers F.writes F.count (length F.statements) x y) (row_before d s y x) (records_between F x y) apart
        ∙ sym between_is

  -- ---- a source

  pub source_is : (x : ℕ) → x < F.count → records_from F d s x ≡ words_at ts N x
  unfolding records_from partners between
  source_is x l =
      flat_map-select (records_between F x) partner (up_from (suc x) (F.count - suc x))
      ∙ flat_map-same-on (λ y. cond (partner y) (records_between F x y) []) (λ y. map pair_words (found y))
      (up_from (suc x) (F.count - suc x)) (λ y m. let b = (up_from-mem (suc x) (F.count - suc x) m).1 in here y (omega arith))
      ∙ ap (λ i. flat_map (λ y. map pair_words (found y)) (up_from (suc x) (i - suc x))) count-is
      ∙ sym (map-flat_map pair_words found (up_from (suc x) (length (iterations N.loops) - suc x)))
      ∙ ap (map pair_words) (sym (pairs-from-place (forward_all ts) (accesses N.statements) (iterations N.loops) (iterations-rise N.loops)
      (length N.statements) x (subst (x <◌) count-is l)))
    where
      partner : ℕ → Bool
      partner = is_partner F.numbers F.writes F.count (length F.statements) d s x

      found : ℕ → List Pair
      found y = select clashing (pairs_at (length N.statements) (get_or (iterations N.loops) x []) (get_or (iterations N.loops) y []))

      here : (y : ℕ) → y < F.count → cond (partner y) (records_between F x y) [] ≡ map pair_words (found y)
      here y g = partner-is x y l g ∙ ap (λ m. map pair_words (select clashing (pairs_at m (point_at F x) (point_at F y)))) h.describes.body
          ∙ ap₂ (λ u v. map pair_words (select clashing (pairs_at (length N.statements) u v))) (sym (point-is x l)) (sym (point-is y g))

  -- ---- all sources

  pub sources-are : (a b : ℕ) → b ≤ F.count → records_of F d s a b ≡ flat_map (words_at ts N) (between a b)
  unfolding records_of between
  sources-are a b g = flat_map-same-on (records_from F d s) (words_at ts N) (up_from a (b - a))
      (λ x m. let u = up_from-mem a (b - a) m in let i = u.0 in let j = u.1 in source_is x (omega arith))

  pub searched : {from skip : ℕ} {r : Walked} {found : List ℤ} → Walks F d s from skip r found → Searched ts N from skip r found
  searched {from} {skip} {r} {found} w = let i = w.inside in let e = count-is in record {
    window = subst (λ rs. Windowed skip rs r.window found) (sources-are from F.count (omega arith)
        ∙ ap (λ k. flat_map (words_at ts N) (between from k)) count-is ∙ sym (from_is ts N from)) w.window;
    first = w.first;
    inside = omega arith;
    near = w.near;
    before = let k = w.before in let m = before_more ts N from r.source w.first (omega arith) in
        let l = ap length (sources-are from r.source i) in
        omega (arith, ap length m, length-append (words_before ts N from) (flat_map (words_at ts N) (between from r.source)));
  }
