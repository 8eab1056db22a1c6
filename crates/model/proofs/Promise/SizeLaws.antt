-- How long what is handed out can be: the bytes of a written nest, the bytes of a listing, the records of pairs that trade places.
use mathlib.Core.Path.{refl, sym, subst}
use mathlib.Core.List.Memᴰ
use mathlib.Core.List.{List, [], ◌∷◌, ◌++◌, map, flat_map}
use Prim.Native.Nat.{ℕ, zero, suc, ◌+◌, ◌*◌, ◌/◌, ◌%◌, ◌≤◌, ◌<◌}
use native.Mathlib.Nat.{mul-le-mul_right}
use native.Mathlib.Omega.{arith}
use lib.Dec.{ltb}
use lib.IntN.{ℤ, pos}
use lib.ListN.{length, length-append, length-map}
use Rattle.integers.specs.Sign.{Sign, less, equal, greater}
use Rattle.lists.specs.Membership.{Mem, All}
use Rattle.lists.proofs.FlatMapLaws.{length-flat_map-most}
use Rattle.lists.proofs.TestLaws.{cond_cases, select-fewer}
use Rattle.model.specs.Ticket.{Limit, Loop, Subscript, Access, Statement, Step, Nest}
use Rattle.model.specs.Grammar.{extents, array_room, most_statements, most_reads, most_arrays, ticket_loops, most_loops, most_points}
use Rattle.model.specs.Points.{iterations}
use Rattle.model.specs.Machine.{accesses}
use Rattle.model.specs.Directions.{kinds, Kind, Line, occurs, up_from, sign_vectors, all_lines, lines}
use Rattle.model.specs.Encode.{counted, limit_words, loop_words, array_words, access_words, statement_words, nest_words, encode}
use Rattle.model.specs.Steps.{forward_all}
use Rattle.model.specs.Listing.{digits, decimal, line_text, head_text, sign_char, lines_of, listing}
use Rattle.model.specs.Pairs.{Pair, trades, pairs_at, all_pairs, traded}
use Rattle.model.specs.Shape.{Shaped, Fits, WellFormed}
use Rattle.model.specs.Ranges.{NestRanges}
use Rattle.model.proofs.Steps.ChainLaws.{up-length}
use Rattle.model.proofs.Grammar.RoundTripLaws.{encode-length}
use Rattle.model.proofs.Listing.ListingLaws.{lines_of-exact}

-- ---- a written nest

most-counted : {A : Type 0} (f : A → List ℤ) (l : List A) (m n : ℕ) → length l ≤ n → ((x : A) → Mem x l → length (f x) ≤ m)
    → length (counted f l) ≤ 1 + n * m
unfolding counted
most-counted f l m n h e = let a = length-flat_map-most f m l e in let b = mul-le-mul_right m h in omega arith

abbrev FewCoefficients : Loop → Type 0
FewCoefficients L = All (λ (l : Limit). length l.coefficients ≤ 5) L.lower × All (λ (l : Limit). length l.coefficients ≤ 5) L.upper

shallow : (k : ℕ) (N : List Loop) → Shaped k N → k + length N ≤ 6 → (L : Loop) → Mem L N → FewCoefficients L
shallow k [] s h x x4 = elim x4 [ ]
shallow k (L ∷ N) s h x (Memᴰ.head e) = subst FewCoefficients (sym e)
    (λ l i. let q = s.0.0 l i in omega arith, λ l i. let q = s.0.1 l i in omega arith)
shallow k (L ∷ N) s h x (Memᴰ.tail m) = shallow (suc k) N s.1 (omega arith) x m

flat-extents : (as' : List (List ℕ)) → ((a : List ℕ) → Mem a as' → length a ≤ 3) → (k : ℕ) → length (extents as' k) ≤ 3
unfolding extents
flat-extents [] h k = omega arith
flat-extents (a ∷ as') h zero = h a (Memᴰ.head refl)
flat-extents (a ∷ as') h (suc k) = flat-extents as' (λ x m. h x (Memᴰ.tail m)) k

module _ (N : Nest) (r : NestRanges 6 16 N) (w : WellFormed N) where
  most-loop : (L : Loop) → Mem L N.loops → length (loop_words L) ≤ 226
  unfolding loop_words limit_words
  most-loop L m =
      let c = shallow 0 N.loops w.shaped (let h = r.few-loops.high in omega arith) L m in
      let x = r.loops L m in
      let a = most-counted limit_words L.lower 7 16 x.few-lower.high (λ l i. let q = c.0 l i in omega arith) in
      let b = most-counted limit_words L.upper 7 16 x.few-upper.high (λ l i. let q = c.1 l i in omega arith) in
      let l = length-append (counted limit_words L.lower) (counted limit_words L.upper) in omega arith

  most-array : (a : List ℕ) → Mem a N.arrays → length (array_words a) ≤ array_room
  unfolding array_words
  most-array a m = most-counted _ a 1 3 (r.arrays a m).dimensions.high (λ n i. omega arith)

  most-extents : (k : ℕ) → length (extents N.arrays k) ≤ 3
  most-extents k = flat-extents N.arrays (λ a m. (r.arrays a m).dimensions.high) k

  most-access : (a : Access) → Fits N.arrays (length N.loops) a → length (access_words a) ≤ 22
  unfolding access_words
  most-access a f =
      let e = f.dimensions in let h = most-extents a.array in let z = r.few-loops.high in
      let l = length-flat_map-most (λ (s : Subscript). s.constant ∷ s.coefficients) 7 a.subscripts
      (λ s i. let q = f.wide s i in omega arith) in omega arith

  most-statement : (s : Statement) → Mem s N.statements → length (statement_words s) ≤ 113
  unfolding statement_words
  most-statement s m =
      let x = r.statements s m in let f = w.fits s m in
      let o = x.one-write in
      let a = length-flat_map-most access_words 22 s.writes (λ c i. most-access c (f.writes c i)) in
      let b = most-counted access_words s.reads 22 most_reads x.few-reads (λ c i. most-access c (f.reads c i)) in
      let l = length-append (flat_map access_words s.writes) (counted access_words s.reads) in omega arith

  most-words : length (nest_words N) ≤ 1828
  unfolding nest_words
  most-words =
      let a = most-counted loop_words N.loops 226 most_loops r.few-loops.high most-loop in
      let b = most-counted array_words N.arrays array_room most_arrays r.few-arrays.high most-array in
      let c = most-counted statement_words N.statements 113 most_statements r.few-statements.high most-statement in
      let ls = counted loop_words N.loops in let as' = counted array_words N.arrays in let ss = counted statement_words N.statements in
      let l = length-append ls (as' ++ (ss ++ (pos 0 ∷ []))) in let m = length-append as' (ss ++ (pos 0 ∷ [])) in
      let n = length-append ss (pos 0 ∷ []) in omega arith

  pub most_bytes : length (encode N) ≤ 3656
  most_bytes = let e = encode-length N in let h = most-words in omega arith

-- ---- a listing

most-digits : (f n : ℕ) → length (digits f n) ≤ f
unfolding digits
most-digits zero n = omega arith
most-digits (suc f) n = cond_cases (λ l. length l ≤ suc f) (ltb n 10) ((48 + n) ∷ []) (digits f (n / 10) ++ ((48 + n % 10) ∷ [])) (λ e. omega arith)
    (λ e. let h = most-digits f (n / 10) in let l = length-append (digits f (n / 10)) ((48 + n % 10) ∷ []) in omega arith)

most-decimal : (n : ℕ) → length (decimal n) ≤ suc n
unfolding decimal
most-decimal n = most-digits (suc n) n

-- source and sink of at most 4 statements, at most 4 signs
most-line : (l : Line) → l.source < most_statements → l.sink < most_statements → length l.vector ≤ ticket_loops → length (line_text l) ≤ 19
unfolding line_text
most-line l h g v =
    let a = most-decimal (suc l.source) in let b = most-decimal (suc l.sink) in let c = length-map l.vector sign_char in
    let x = length-append (decimal (suc l.source)) (32 ∷ (decimal (suc l.sink) ++ (32 ∷ (map sign_char l.vector ++ (10 ∷ []))))) in
    let y = length-append (decimal (suc l.sink)) (32 ∷ (map sign_char l.vector ++ (10 ∷ []))) in
    let z = length-append (map sign_char l.vector) (10 ∷ []) in omega arith

most-head : (a b c : ℕ) → length (head_text a b c) ≤ a + b + c + 6
unfolding head_text
most-head a b c =
    let x = most-decimal a in let y = most-decimal b in let z = most-decimal c in
    let p = length-append (decimal a) (32 ∷ (decimal b ++ (32 ∷ (decimal c ++ (10 ∷ []))))) in
    let q = length-append (decimal b) (32 ∷ (decimal c ++ (10 ∷ []))) in let r = length-append (decimal c) (10 ∷ []) in omega arith

more-signs : (d n : ℕ) → length (sign_vectors d) ≤ n → length (sign_vectors (suc d)) ≤ 3 * n
unfolding sign_vectors
more-signs d n h = length-flat_map-most (λ s. map (λ v. s ∷ v) (sign_vectors d)) n (less ∷ equal ∷ greater ∷ [])
    (λ s m. let e = length-map (sign_vectors d) (λ v. s ∷ v) in omega arith)

no-signs : length (sign_vectors 0) ≤ 1
unfolding sign_vectors
no-signs = omega arith

most-signs : (d : ℕ) → d ≤ ticket_loops → length (sign_vectors d) ≤ 81
most-signs zero h = let a = no-signs in omega arith
most-signs (suc zero) h = let b = more-signs 0 1 no-signs in omega arith
most-signs (suc (suc zero)) h = let c = more-signs 1 3 (more-signs 0 1 no-signs) in omega arith
most-signs (suc (suc (suc zero))) h = let d = more-signs 2 9 (more-signs 1 3 (more-signs 0 1 no-signs)) in omega arith
most-signs (suc (suc (suc (suc zero)))) h = more-signs 3 27 (more-signs 2 9 (more-signs 1 3 (more-signs 0 1 no-signs)))
most-signs (suc (suc (suc (suc (suc d))))) h = absurd (omega arith)

abbrev line_of : ℕ → ℕ → Kind → List Sign → Line
line_of s t k v = record { kind = k; source = s; sink = t; vector = v }

-- for each source, sink and kind the vectors
most-lines : (n d : ℕ) → n ≤ most_statements → d ≤ ticket_loops → length (all_lines n d) ≤ 3888
unfolding all_lines
most-lines n d h g =
    let z = up-length 0 n in
    let a = length-flat_map-most (λ s. flat_map (λ t. flat_map (λ k. map (line_of s t k) (sign_vectors d)) kinds) (up_from 0 n)) 972 (up_from 0 n)
    (λ s _. of-source s) in omega arith
  where
    of-sink : (s t : ℕ) → length (flat_map (λ k. map (line_of s t k) (sign_vectors d)) kinds) ≤ 243
    of-sink s t = unfold kinds in length-flat_map-most (λ k. map (line_of s t k) (sign_vectors d)) 81 kinds
        (λ k _. let e = length-map (sign_vectors d) (line_of s t k) in let q = most-signs d g in omega arith)

    of-source : (s : ℕ) → length (flat_map (λ t. flat_map (λ k. map (line_of s t k) (sign_vectors d)) kinds) (up_from 0 n)) ≤ 972
    of-source s = let z = up-length 0 n in
        let a = length-flat_map-most (λ t. flat_map (λ k. map (line_of s t k) (sign_vectors d)) kinds) 243 (up_from 0 n) (λ t _. of-sink s t) in
        omega arith

pub most-text : (N : Nest) → length N.loops ≤ ticket_loops → length N.statements ≤ most_statements
    → length (iterations N.loops) ≤ most_points → length (listing N) ≤ 82000
unfolding listing lines_of lines
most-text N h g i =
    let found = lines_of N in
    let n = length N.statements in let d = length N.loops in
    let e = select-fewer (occurs (accesses N.statements) (iterations N.loops)) (all_lines n d) in
    let m = most-lines n d g h in
    let a = most-head d (length (iterations N.loops)) (length found) in
    let b = length-flat_map-most line_text 19 found (λ l k. let f = ((lines_of-exact N l).0 k).0 in
    let x = f.source in let y = f.sink in let z = f.signs in most-line l (omega arith) (omega arith) (omega arith)) in
    let c = length-append (head_text d (length (iterations N.loops)) (length found)) (flat_map line_text found) in omega arith

-- ---- pairs that trade places: three kinds for every two instances

most-at : (n : ℕ) → n ≤ most_statements → (p q : List ℤ) → length (pairs_at n p q) ≤ 48
unfolding pairs_at kinds
most-at n h p q =
    let z = up-length 0 n in
    let a = length-flat_map-most (λ s. flat_map (λ t. map (pair_of s t) kinds) (up_from 0 n)) 12 (up_from 0 n)
    (λ s _. let b = length-flat_map-most (λ t. map (pair_of s t) kinds) 3 (up_from 0 n) (λ t _. omega arith) in omega arith) in omega arith
  where
    pair_of : ℕ → ℕ → Kind → Pair
    pair_of s t k = record { source = record { statement = s; iteration = p }; sink = record { statement = t; iteration = q }; kind = k }

most-pairs : (n : ℕ) (ps : List (List ℤ)) → n ≤ most_statements → length ps ≤ most_points → length (all_pairs n ps) ≤ 805306368
unfolding all_pairs
most-pairs n ps h g =
    let a = length-flat_map-most (λ p. flat_map (pairs_at n p) ps) 196608 ps
    (λ p _. let b = length-flat_map-most (pairs_at n p) 48 ps (λ q _. most-at n h p q) in omega arith) in omega arith

pub most-traded : (ts : List Step) (N : Nest) → length N.statements ≤ most_statements → length (iterations N.loops) ≤ most_points
    → length (traded ts N) ≤ 805306368
unfolding traded
most-traded ts N h g =
    let e = select-fewer (trades (forward_all ts) (accesses N.statements)) (all_pairs (length N.statements) (iterations N.loops)) in
    let m = most-pairs (length N.statements) (iterations N.loops) h g in omega arith
