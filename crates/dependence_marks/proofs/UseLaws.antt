-- The entries of accesses. In order: one access more of a statement; one statement more; the entries are those of the model's uses.
use mathlib.Core.Path.{◌≡◌, refl, sym, ◌∙◌, ap, ap₂}
use mathlib.Core.Bool.{Bool, true, false}
use mathlib.Core.List.Memᴰ
use mathlib.Core.List.{List, [], ◌∷◌, ◌++◌, map, append_assoc, append-nil, map-append}
use Prim.Native.Nat.{ℕ, zero, suc, ◌+◌, ◌-◌, ◌≤◌, ◌<◌}
use native.Mathlib.Omega.{arith}
use native.Mathlib.Nat.{zero-add, add-zero, suc-add, add-suc}
use native.Mathlib.Numerals.{add-one}
use lib.Dec.{eqb}
use borrow.Author.Tests.{ne_eqb}
use lib.IntN.{ℤ}
use lib.ListN.{length, get_or, take, drop, set, replicate, length-append, length-set, length-replicate, replicate-append-replicate, drop_of_length-le}
use lib.Seq.{take-suc, take_all, get_or-take, length-take-le}
use Rattle.lists.specs.Membership.{All}
use Rattle.lists.specs.Parts.{put}
use Rattle.lists.proofs.PartLaws.{put-nil, put-put, set-put, take-put-end, length-put}
use Rattle.model.specs.Store.{sum}
use Rattle.model.specs.Grammar.{most_accesses}
use Rattle.nest_flat.specs.Layout.{access_at, accesses_from}
use Rattle.nest_elements.proofs.LayoutLaws.{sum_drop}
use Rattle.dependence_search.specs.Flat.{Use, use·of, uses_from, uses}
use Rattle.nest_flat.specs.FlatNests.{FlatNest, sizes_in, words_in, accessed_in, extents_in, statements_from, nest_of, FlatNestIn}
use Rattle.nest_flat.proofs.FlatNestLaws.{sizes-count}
use Rattle.dependence_marks.specs.Uses.{first_written, written_in, statement_numbers, EnterIn, UsesAre}

-- ---- one access more

replicate-snoc : {A : Type 0} (k : ℕ) (x : A) → replicate (k + 1) x ≡ replicate k x ++ (x ∷ [])
replicate-snoc k x = sym (replicate-append-replicate k 1 x)

written-snoc : (k : ℕ) → first_written (k + 1) ≡ first_written k ++ (eqb k 0 ∷ [])
unfolding first_written
written-snoc zero = refl
written-snoc (suc k) = rw (suc-add k 1, ne_eqb (suc k) 0 (λ q. absurd (omega arith))) (ap (true ∷◌) (replicate-snoc k false))

written-length : (k : ℕ) → length (first_written k) ≡ k
unfolding first_written
written-length zero = refl
written-length (suc k) = ap suc (length-replicate k false)

-- k accesses of a statement are entered
pub record Entering (o e : List ℕ) (w v : List Bool) (first size s k : ℕ) : Type 0 where
  pub bound : k ≤ size
  pub statements : e ≡ put o first (replicate k s)
  pub writes : v ≡ put w first (first_written k)
  pub statements-length : length e ≡ length o
  pub writes-length : length v ≡ length w

module _ (o : List ℕ) (w : List Bool) (first size s : ℕ) where
  pub enter-none : Entering o o w w first size s 0
  unfolding first_written
  enter-none = record {
    bound = omega arith;
    statements = sym (put-nil o first);
    writes = sym (put-nil w first);
    statements-length = refl;
    writes-length = refl;
  }

  pub enter-next : EnterIn o w first size → (e : List ℕ) (v : List Bool) (k : ℕ) → k < size → Entering o e w v first size s k
      → Entering o (set e (first + k) s) w (set v (first + k) (eqb k 0)) first size s (k + 1)
  enter-next h e v k l g =
      let a = h.statements in let b = h.writes in let c = length-replicate k s in let d = written-length k in record {
        bound = omega arith;
        statements = ap₂ (λ (x : List ℕ) (i : ℕ). set x (first + i) s) g.statements (sym c) ∙ set-put o first (replicate k s) s (omega arith)
            ∙ ap (put o first) (sym (replicate-snoc k s));
        writes = ap₂ (λ (x : List Bool) (i : ℕ). set x (first + i) (eqb k 0)) g.writes (sym d)
            ∙ set-put w first (first_written k) (eqb k 0) (omega arith) ∙ ap (put w first) (sym (written-snoc k));
        statements-length = length-set e (first + k) s ∙ g.statements-length;
        writes-length = length-set v (first + k) (eqb k 0) ∙ g.writes-length;
      }

  pub enter-all : (e : List ℕ) (v : List Bool) (k : ℕ) → size ≤ k → Entering o e w v first size s k → (e ≡ put o first (replicate size s))
      × (v ≡ put w first (first_written size))
  enter-all e v k l g = let b = g.bound in let q : k ≡ size = omega arith in
      (g.statements ∙ ap (λ (i : ℕ). put o first (replicate i s)) q, g.writes ∙ ap (λ (i : ℕ). put w first (first_written i)) q)

-- ---- one statement more

numbers-snoc : (k : ℕ) (ms : List ℕ) (m : ℕ) → statement_numbers k (ms ++ (m ∷ [])) ≡ statement_numbers k ms ++ replicate m (k + length ms)
unfolding statement_numbers
numbers-snoc k [] m = append-nil (replicate m k) ∙ ap (λ (i : ℕ). replicate m i) (sym (add-zero k))
numbers-snoc k (n ∷ ms) m =
    ap (replicate n k ++◌) (numbers-snoc (suc k) ms m ∙ ap (λ (i : ℕ). statement_numbers (suc k) ms ++ replicate m i)
    (suc-add k (length ms) ∙ sym (add-suc k (length ms))))
    ∙ sym (append_assoc (replicate n k) (statement_numbers (suc k) ms) (replicate m (k + suc (length ms))))

flags-snoc : (ms : List ℕ) (m : ℕ) → written_in (ms ++ (m ∷ [])) ≡ written_in ms ++ first_written m
unfolding written_in
flags-snoc [] m = append-nil (first_written m)
flags-snoc (n ∷ ms) m = ap (first_written n ++◌) (flags-snoc ms m) ∙ sym (append_assoc (first_written n) (written_in ms) (first_written m))

-- the first s statements are entered, and `first` is the next access
pub record Entered (ms o e : List ℕ) (w v : List Bool) (first s : ℕ) : Type 0 where
  pub bound : s ≤ length ms
  pub room : first + sum (drop s ms) ≡ sum ms
  pub statements : e ≡ put o 0 (statement_numbers 0 (take s ms))
  pub writes : v ≡ put w 0 (written_in (take s ms))
  pub statements-end : length (statement_numbers 0 (take s ms)) ≡ first
  pub writes_end : length (written_in (take s ms)) ≡ first
  pub statements-length : length e ≡ length o
  pub writes-length : length v ≡ length w

module _ (ms o : List ℕ) (w : List Bool) where
  pub entered-none : Entered ms o o w w 0 0
  unfolding statement_numbers written_in
  entered-none = record {
    bound = omega arith;
    room = zero-add (sum ms);
    statements = sym (put-nil o 0);
    writes = sym (put-nil w 0);
    statements-end = refl;
    writes_end = refl;
    statements-length = refl;
    writes-length = refl;
  }

  module _ (lo : sum ms ≤ length o) (lw : sum ms ≤ length w) (e : List ℕ) (v : List Bool) (first s m : ℕ) (l : s < length ms) (q : m ≡ get_or ms s 0)
      (g : Entered ms o e w v first s) where
    pub next_fits : first + m ≤ sum ms
    next_fits = let r = g.room in let d = sum_drop s ms l in omega arith

    pub next-in : EnterIn e v first m
    next-in = let r = next_fits in let a = g.statements-length in let b = g.writes-length
        in record { statements = omega arith; writes = omega arith }

    one_more : take (s + 1) ms ≡ take s ms ++ (m ∷ [])
    one_more = ap (λ (i : ℕ). take i ms) (add-one s) ∙ take-suc ms s 0 l ∙ ap (λ (i : ℕ). take s ms ++ (i ∷ [])) (sym q)

    numbers_more : statement_numbers 0 (take (s + 1) ms) ≡ statement_numbers 0 (take s ms) ++ replicate m s
    numbers_more =
        ap (statement_numbers 0) one_more ∙ numbers-snoc 0 (take s ms) m
        ∙ ap (λ (i : ℕ). statement_numbers 0 (take s ms) ++ replicate m i) (zero-add (length (take s ms)) ∙ length-take-le s ms (omega arith))

    flags-more : written_in (take (s + 1) ms) ≡ written_in (take s ms) ++ first_written m
    flags-more = ap written_in one_more ∙ flags-snoc (take s ms) m

    pub entered-next : (e' : List ℕ) (v' : List Bool) → (e' ≡ put e first (replicate m s)) × (v' ≡ put v first (first_written m))
        → Entered ms o e' w v' (first + m) (s + 1)
    entered-next e' v' f =
        let r = g.room in let d = sum_drop s ms l in let fits = next_fits in let a = g.statements-end in let b = g.writes_end in
        let x = statement_numbers 0 (take s ms) in let y = written_in (take s ms) in
        let i = g.statements-length in let j = g.writes-length in let c = length-replicate m s in let k = written-length m in
        record {
          bound = omega arith;
          room = omega arith;
          statements = f.0 ∙ ap₂ (λ (z : List ℕ) (p : ℕ). put z p (replicate m s)) g.statements (sym (zero-add (length x) ∙ a))
              ∙ put-put o 0 x (replicate m s) (omega arith) ∙ ap (put o 0) (sym numbers_more);
          writes = f.1 ∙ ap₂ (λ (z : List Bool) (p : ℕ). put z p (first_written m)) g.writes (sym (zero-add (length y) ∙ b))
              ∙ put-put w 0 y (first_written m) (omega arith) ∙ ap (put w 0) (sym flags-more);
          statements-end = ap length numbers_more ∙ length-append x (replicate m s) ∙ ap₂ ◌+◌ a c;
          writes_end = ap length flags-more ∙ length-append y (first_written m) ∙ ap₂ ◌+◌ b k;
          statements-length = ap length f.0 ∙ length-put e first (replicate m s) (omega arith) ∙ i;
          writes-length = ap length f.1 ∙ length-put v first (first_written m) (omega arith) ∙ j;
        }

  front : {A : Type 0} (z : List A) (xs : List A) (n : ℕ) → length xs ≡ n → take n (put z 0 xs) ≡ xs
  front z xs n q = ap (λ (i : ℕ). take i (put z 0 xs)) (sym (zero-add (length xs) ∙ q)) ∙ take-put-end z 0 xs (omega arith)

  pub entered_all : (e : List ℕ) (v : List Bool) (first s : ℕ) → length ms ≤ s → Entered ms o e w v first s
      → (take (sum ms) e ≡ statement_numbers 0 ms) × (take (sum ms) v ≡ written_in ms)
  unfolding sum
  entered_all e v first s l g =
      let r = g.room in let t = take_all s ms l in let z : sum (drop s ms) ≡ 0 = ap sum (drop_of_length-le ms l) in
      let all_in : first ≡ sum ms = omega arith in (
        ap (take (sum ms)) g.statements ∙ front o (statement_numbers 0 (take s ms)) (sum ms) (g.statements-end ∙ all_in)
            ∙ ap (statement_numbers 0) t,
        ap (take (sum ms)) g.writes ∙ front w (written_in (take s ms)) (sum ms) (g.writes_end ∙ all_in) ∙ ap written_in t,
      )

-- ---- the model's uses

abbrev number_of : Use → ℕ
number_of u = u.statement

abbrev writes_of : Use → Bool
writes_of u = u.writes

module _ (w : List ℤ) (o a : List ℕ) (n : ℕ) where
  reads-numbers : (i k m : ℕ) → map number_of (map (use·of i false) (accesses_from w o a n k m)) ≡ replicate m i
  unfolding accesses_from
  reads-numbers i k zero = refl
  reads-numbers i k (suc m) = ap (i ∷◌) (reads-numbers i (suc k) m)

  reads-flags : (i k m : ℕ) → map writes_of (map (use·of i false) (accesses_from w o a n k m)) ≡ replicate m false
  unfolding accesses_from
  reads-flags i k zero = refl
  reads-flags i k (suc m) = ap (false ∷◌) (reads-flags i (suc k) m)

  one_number : (i k m : ℕ) → 1 ≤ m → i ∷ map number_of (map (use·of i false) (accesses_from w o a n k (m - 1))) ≡ replicate m i
  one_number i k zero h = absurd (omega arith)
  one_number i k (suc m) h = ap (i ∷◌) (reads-numbers i k (suc m - 1) ∙ ap (λ (j : ℕ). replicate j i) (let q : suc m - 1 ≡ m = omega arith in q))

  one-flag : (i k m : ℕ) → 1 ≤ m → true ∷ map writes_of (map (use·of i false) (accesses_from w o a n k (m - 1))) ≡ first_written m
  unfolding first_written
  one-flag i k zero h = absurd (omega arith)
  one-flag i k (suc m) h = ap (true ∷◌) (reads-flags i k (suc m - 1) ∙ ap (λ (j : ℕ). replicate j false) (let q : suc m - 1 ≡ m = omega arith in q))

module _ (P : FlatNest) where
  abbrev uses_of : ℕ → ℕ → ℕ → List Use
  uses_of k i m =
      use·of i true (access_at (words_in P) (accessed_in P) (extents_in P) P.depth k)
      ∷ map (use·of i false) (accesses_from (words_in P) (accessed_in P) (extents_in P) P.depth (suc k) (m - 1))

  numbers-of : (k i : ℕ) (ms : List ℕ) → All (λ m. 1 ≤ m) ms → map number_of (uses_from i (statements_from P k i ms)) ≡ statement_numbers i ms
  unfolding uses_from statements_from statement_numbers
  numbers-of k i [] h = refl
  numbers-of k i (m ∷ ms) h =
      map-append number_of (uses_of k i m) (uses_from (suc i) (statements_from P (k + m) (suc i) ms))
      ∙ ap₂ ◌++◌ (one_number (words_in P) (accessed_in P) (extents_in P) P.depth i (suc k) m (h m (Memᴰ.head refl)))
      (numbers-of (k + m) (suc i) ms (λ x q. h x (Memᴰ.tail q)))

  flags_of : (k i : ℕ) (ms : List ℕ) → All (λ m. 1 ≤ m) ms → map writes_of (uses_from i (statements_from P k i ms)) ≡ written_in ms
  unfolding uses_from statements_from written_in
  flags_of k i [] h = refl
  flags_of k i (m ∷ ms) h =
      map-append writes_of (uses_of k i m) (uses_from (suc i) (statements_from P (k + m) (suc i) ms))
      ∙ ap₂ ◌++◌ (one-flag (words_in P) (accessed_in P) (extents_in P) P.depth i (suc k) m (h m (Memᴰ.head refl)))
      (flags_of (k + m) (suc i) ms (λ x q. h x (Memᴰ.tail q)))

  -- the sizes of the statements give the model's uses
  pub sizes-numbers : FlatNestIn P → statement_numbers 0 (sizes_in P) ≡ map number_of (uses (nest_of P).statements)
  unfolding nest_of
  sizes-numbers h = sym (numbers-of 0 0 (sizes_in P) h.each)

  pub sizes-flags : FlatNestIn P → written_in (sizes_in P) ≡ map writes_of (uses (nest_of P).statements)
  unfolding nest_of
  sizes-flags h = sym (flags_of 0 0 (sizes_in P) h.each)

  module _ (h : FlatNestIn P) (o : List ℕ) (w : List Bool) (lo : length o ≡ most_accesses) (lw : length w ≡ most_accesses) (e : List ℕ)
      (v : List Bool) (first s : ℕ) (g : Entered (sizes_in P) o e w v first s) where
    within : sum (sizes_in P) ≤ most_accesses
    within = let a = h.all-accesses in let f = h.few-accesses in omega arith

    module _ (l : s < P.statements) where
      abbrev size : ℕ
      size = get_or P.sizes s 0

      size_is : size ≡ get_or (sizes_in P) s 0
      size_is = sym (get_or-take P.statements P.sizes s 0 l)

      there : s < length (sizes_in P)
      there = let c = sizes-count P h in omega arith

      pub use-fits : first + size ≤ most_accesses
      use-fits = let f = within in let n = next_fits (sizes_in P) o w (omega arith) (omega arith) e v first s size there size_is g in omega arith

      pub use-in : EnterIn e v first size
      use-in = let f = within in next-in (sizes_in P) o w (omega arith) (omega arith) e v first s size there size_is g

      pub use-next : (e' : List ℕ) (v' : List Bool) → (e' ≡ put e first (replicate size s)) × (v' ≡ put v first (first_written size))
          → Entered (sizes_in P) o e' w v' (first + size) (s + 1)
      use-next e' v' f = let i = within in entered-next (sizes_in P) o w (omega arith) (omega arith) e v first s size there size_is g e' v' f

    pub uses-are : P.statements ≤ s → UsesAre P (record { statements = e; writes = v })
    unfolding nest_of
    uses-are l =
        let c = sizes-count P h in let r = entered_all (sizes_in P) o w e v first s (omega arith) g in let q = h.all-accesses in record {
          statements = ap (λ (i : ℕ). take i e) (sym q) ∙ r.0 ∙ sizes-numbers h;
          writes = ap (λ (i : ℕ). take i v) (sym q) ∙ r.1 ∙ sizes-flags h;
          statements-length = g.statements-length ∙ lo;
          writes-length = g.writes-length ∙ lw;
        }
