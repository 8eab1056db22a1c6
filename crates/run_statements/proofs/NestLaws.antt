-- The run by numbers is the model's run of the nest at the points, and a flat nest whose numbers `number_accesses` wrote has what the functions ask.
use Rattle.std.proofs.Common.{◌≡◌, ℕ, zero, suc, ◌+◌, ◌-◌, ◌*◌, ◌<◌, ◌≤◌, List, [], ◌∷◌, map, length, get_or, drop, set, ℤ, sym, refl, ap, ◌∙◌, ap₂, add-zero, add-suc, suc-add, zero-add, arith, length-take-le, drop-cons}
use mathlib.Core.List.Memᴰ
use mathlib.Core.List.{flat_map}
use lib.Seq.{drop-length}
use Rattle.lists.specs.Membership.{All}
use Rattle.lists.specs.Parts.{rows}
use Rattle.lists.proofs.MembershipLaws.{all_get_d}
use Rattle.lists.proofs.PartLaws.{length-rows}
use Rattle.model.specs.Ticket.{Access, Statement}
use Rattle.model.specs.Machine.{element, body_at, accesses, body, instances, run}
use Rattle.model.specs.Store.{place_of, sum, make, store_words, perform_on}
use Rattle.model.proofs.Machine.ReorderLaws.{run-append}
use Rattle.model.specs.Grammar.{most_arrays}
use Rattle.nest_flat.specs.Layout.{arrays_of, access_at, accesses_from}
use Rattle.nest_elements.specs.Places.{TotalIn}
use Rattle.nest_flat.specs.FlatNests.{FlatNest, nest_of, statements_from, extents_in, sizes_in, accessed_in, words_in, FlatNestIn}
use Rattle.nest_flat.proofs.FlatNestLaws.{access-is}
use Rattle.nest_elements.proofs.NestArrayLaws.{arrays-in}
use Rattle.run_statements.specs.Flat.{number_at, fetched, performed, body_from, points_from, BasesAre, PointIn, BodyIn}
use Rattle.run_statements.specs.Runs.{run_at, RunIn}

-- access k of all
abbrev access_of : FlatNest → ℕ → Access
access_of P k = access_at (words_in P) (accessed_in P) (extents_in P) P.depth k

-- ---- one statement

module _ (P : FlatNest) (numbers : List ℕ) (count x : ℕ) (p : List ℤ) (m : ℕ)
    (places : (k : ℕ) → k < m → number_at numbers count k x ≡ place_of (arrays_of (extents_in P)) (element p (access_of P k))) where
  fetched-is : (w : List ℕ) (k n : ℕ) → k + n ≤ m
      → fetched numbers count x w k n ≡ map (λ e. get_or w (place_of (arrays_of (extents_in P)) e) 0)
      (map (element p) (accesses_from (words_in P) (accessed_in P) (extents_in P) P.depth k n))
  unfolding fetched accesses_from
  fetched-is w k zero h = refl
  fetched-is w k (suc n) h = ap₂ ◌∷◌ (ap (λ (j : ℕ). get_or w j 0) (places k (omega arith))) (fetched-is w (suc k) n (omega arith))

  -- statement i of `ss` is the first of the statements from access k on
  performed-is : (ss : List Statement) (k i n : ℕ) (ns w : List ℕ) → 1 ≤ n → k + n ≤ m → body_at ss i ≡ body_at (statements_from P k i (n ∷ ns)) 0
      → performed numbers count x (get_or P.rules i 0) (get_or P.constants i 0) k (n - 1) w ≡ perform_on (arrays_of (extents_in P)) ss
      (record { statement = i; iteration = p }) w
  unfolding performed perform_on store_words accesses body_at statements_from
  performed-is ss k i n ns w l h e =
      ap₂ (λ (j : ℕ) (vs : List ℕ). set w j (make (get_or P.rules i 0) (get_or P.constants i 0) vs)) (places k (omega arith))
      (fetched-is w (suc k) (n - 1) (omega arith))
      ∙ ap (λ (s : Statement). store_words (arrays_of (extents_in P)) (make s.rule s.constant
      (map (λ e. get_or w (place_of (arrays_of (extents_in P)) e) 0) (map (element p) s.reads))) (map (element p) s.writes) w) (sym e)

  -- ---- the statements at a point

  body_is : (ss : List Statement) (ns : List ℕ) (k i : ℕ) (w : List ℕ) → All (λ (n : ℕ). 1 ≤ n) ns → k + sum ns ≤ m
      → ((j : ℕ) → body_at ss (i + j) ≡ body_at (statements_from P k i ns) j)
      → body_from P.rules P.constants numbers count x k i ns w ≡ run (perform_on (arrays_of (extents_in P)) ss) (body i (length ns) p) w
  unfolding body_from body run sum body_at statements_from
  body_is ss [] k i w f h e = refl
  body_is ss (n ∷ ns) k i w f h e =
      body_is ss ns (k + n) (suc i) (performed numbers count x (get_or P.rules i 0) (get_or P.constants i 0) k (n - 1) w)
      (λ y t. f y (Memᴰ.tail t)) (omega arith) next
      ∙ ap (λ (v : List ℕ). run (perform_on (arrays_of (extents_in P)) ss) (body (suc i) (length ns) p) v)
      (performed-is ss k i n ns w (f n (Memᴰ.head refl)) (omega arith) (ap (body_at ss) (sym (add-zero i)) ∙ e 0))
    where
      next : (j : ℕ) → body_at ss (suc i + j) ≡ body_at (statements_from P (k + n) (suc i) ns) j
      next j = ap (body_at ss) (suc-add i j ∙ sym (add-suc i j)) ∙ e (suc j)

-- ---- the points

pub statements-length : (P : FlatNest) (k i : ℕ) (ns : List ℕ) → length (statements_from P k i ns) ≡ length ns
unfolding statements_from
statements-length P k i [] = refl
statements-length P k i (n ∷ ns) = ap suc (statements-length P (k + n) (suc i) ns)

module _ {P : FlatNest} (s : FlatNestIn P) where
  pub sizes-length : length (sizes_in P) ≡ P.statements
  sizes-length = let l = s.sizes-length in let f = s.few-statements in length-take-le P.statements P.sizes (omega arith)

  pub accessed-length : length (accessed_in P) ≡ P.accesses
  accessed-length = let l = s.accessed-length in let f = s.few-accesses in length-take-le P.accesses P.accessed (omega arith)

  pub extents-length : length (extents_in P) ≡ P.arrays * 4
  extents-length = let l = s.extents-length in let f = s.few-arrays in length-take-le (P.arrays * 4) P.extents (omega arith)

module _ {P : FlatNest} {points : List ℤ} {count : ℕ} {numbers : List ℕ} {room : ℕ} (r : RunIn P points count numbers room) where
  abbrev ps : List (List ℤ)
  ps = rows P.depth count points

  place_is : (k x : ℕ) → k < P.accesses → x < count → number_at numbers count k x ≡ place_of (arrays_of (extents_in P))
      (element (get_or ps x []) (access_of P k))
  unfolding nest_of
  place_is k x h l = r.places.are k x h l ∙ ap (λ (u : Access). place_of (arrays_of (extents_in P)) (element (get_or ps x []) u))
      (access-is P r.flat-nest k h)

  points-are : (n x : ℕ) (w : List ℕ) → x + n ≡ count
      → points_from P.rules P.constants (sizes_in P) numbers count x n w ≡ run
      (perform_on (arrays_of (extents_in P)) (statements_from P 0 0 (sizes_in P))) (instances (length (sizes_in P)) (drop x ps)) w
  unfolding points_from run instances flat_map
  points-are zero x w e = let c = length-rows P.depth count points in let z : x ≡ length ps = omega arith in
      sym (ap (λ (qs : List (List ℤ)). run (perform_on (arrays_of (extents_in P)) (statements_from P 0 0 (sizes_in P)))
      (instances (length (sizes_in P)) qs) w) (ap (λ (j : ℕ). drop j ps) z ∙ drop-length ps))
  points-are (suc n) x w e =
      let c = length-rows P.depth count points in
      let step = perform_on (arrays_of (extents_in P)) (statements_from P 0 0 (sizes_in P)) in
      let at = body 0 (length (sizes_in P)) (get_or ps x []) in
      let rest = instances (length (sizes_in P)) (drop (suc x) ps) in
      let a = r.flat-nest.all-accesses in
      points-are n (suc x) (body_from P.rules P.constants numbers count x 0 0 (sizes_in P) w) (omega arith)
      ∙ ap (run step rest) (body_is P numbers count x (get_or ps x []) P.accesses (λ k h. place_is k x h (omega arith))
      (statements_from P 0 0 (sizes_in P)) (sizes_in P) 0 0 w r.flat-nest.each (omega arith)
      (λ j. ap (body_at (statements_from P 0 0 (sizes_in P))) (zero-add j)))
      ∙ sym (run-append step at rest w)
      ∙ ap (λ (qs : List (List ℤ)). run step (instances (length (sizes_in P)) qs) w) (sym (drop-cons ps x [] (omega arith)))

  -- THE RUN BY NUMBERS IS THE RUN OF THE NEST AT THE POINTS
  pub nest-run : (w : List ℕ) → points_from P.rules P.constants (sizes_in P) numbers count 0 count w ≡ run_at (nest_of P) ps w
  unfolding run_at nest_of
  nest-run w = points-are count 0 w (zero-add count)
      ∙ ap (λ (n : ℕ). run (perform_on (arrays_of (extents_in P)) (statements_from P 0 0 (sizes_in P))) (instances n ps) w)
      (sym (statements-length P 0 0 (sizes_in P)))

  -- ---- what the functions ask

  pub arrays-few : TotalIn (extents_in P) P.arrays × (P.arrays ≤ most_arrays)
  arrays-few = (arrays-in P r.flat-nest, r.flat-nest.few-arrays)

  module _ (bases : List ℕ) (len : length bases ≡ most_arrays) (are : BasesAre (extents_in P) P.arrays bases) where
    its-array-in : (k : ℕ) → k < P.accesses → get_or (accessed_in P) k 0 < P.arrays
    its-array-in k h = let o = accessed-length r.flat-nest in let e = extents-length r.flat-nest in let t = r.flat-nest.accesses-ok.there k
        (omega arith) in omega arith

    -- a place is not before its array
    number-begins : (k x : ℕ) → k < P.accesses → x < count → get_or bases (get_or (accessed_in P) k 0) 0 ≤ number_at numbers count k x
    unfolding place_of element access_at
    number-begins k x h l = let e = place_is k x h l in let b = are (get_or (accessed_in P) k 0) (its-array-in k h) in omega arith

    pub point-in : (x : ℕ) → x < count → PointIn (accessed_in P) bases numbers count room x
    point-in x l = let o = accessed-length r.flat-nest in let s = r.places.room in let f = r.flat-nest.few-accesses
        in let a = r.flat-nest.few-arrays in let e = r.whole in record {
          few = omega arith;
          point = l;
          numbered = omega (arith, ap (λ (m : ℕ). m * count) o);
          inside = λ k h. let z = r.places.small k x (omega arith) l in omega arith;
          arrays = λ k h. let z = its-array-in k (omega arith) in omega arith;
          begins = λ k h. number-begins k x (omega arith) l;
        }

  pub body-in : BodyIn (accessed_in P) (sizes_in P) P.rules P.constants
  body-in = let o = accessed-length r.flat-nest in let s = sizes-length r.flat-nest in let a = r.flat-nest.all-accesses
      in let f = r.flat-nest.few-statements in let u = r.flat-nest.rules-length in let v = r.flat-nest.constants-length in record {
        all-accesses = omega arith;
        each = λ i h. all_get_d (λ (n : ℕ). 1 ≤ n) (sizes_in P) i 0 r.flat-nest.each h;
        few = omega arith;
        some-rules = omega arith;
        some-constants = omega arith;
        words = λ i h. r.words i (omega arith);
      }
