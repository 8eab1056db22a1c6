-- What a flat nest gives to the stages: its nest's loops, arrays and accesses are those of the slices that are lent.
use mathlib.Core.Path.{◌≡◌, refl, sym, ◌∙◌, ap}
use mathlib.Core.Logic.{⊎_elim}
use mathlib.Core.List.Memᴰ
use mathlib.Core.List.{List, [], ◌∷◌, ◌++◌, map, flat_map}
use Prim.Native.Nat.{ℕ, zero, suc, ◌+◌, ◌*◌, ◌-◌, ◌≤◌, ◌<◌}
use native.Mathlib.Omega.{arith}
use native.Mathlib.Nat.{add-zero, zero-add, add-suc, suc-add}
use lib.IntN.{ℤ}
use lib.ListN.{length, get_or}
use lib.Seq.{length-take-le}
use Rattle.lists.specs.Membership.{Mem, All}
use Rattle.lists.proofs.MembershipLaws.{get_d-mem}
use Rattle.lists.proofs.FlatMapLaws.{flat_map-mem}
use Rattle.model.specs.Ticket.{Access}
use Rattle.model.specs.Bounds.{accesses_of}
use Rattle.model.specs.Store.{sum}
use Rattle.model.specs.Entries.{all_accesses}
use Rattle.model.specs.Shape.{Runs, Fits, WellFormed}
use Rattle.model.specs.Grammar.{access_room}
use Rattle.nest_flat.proofs.FlatLaws.{nest_runs}
use Rattle.nest_flat.specs.Layout.{access_at, accesses_from, bodies_from}
use Rattle.nest_flat.specs.FlatNests.{FlatNest, extents_in, sizes_in, accessed_in, words_in, statements_from, nest_of, FlatNestIn, no_access, access_of}

-- ---- statements and their accesses

some_size : (m : ℕ) → 1 ≤ m → suc (m - 1) ≡ m
some_size m h = omega arith

pub accesses-append : (w : List ℤ) (o a : List ℕ) (n k m j : ℕ)
    → accesses_from w o a n k (m + j) ≡ accesses_from w o a n k m ++ accesses_from w o a n (k + m) j
unfolding accesses_from
accesses-append w o a n k zero j = ap (λ (i : ℕ). accesses_from w o a n k i) (zero-add j) ∙ ap (λ (i : ℕ). accesses_from w o a n i j) (sym (add-zero k))
accesses-append w o a n k (suc m) j =
    ap (λ (i : ℕ). accesses_from w o a n k i) (suc-add m j)
    ∙ ap (access_at w o a n k ∷◌) (accesses-append w o a n (suc k) m j
    ∙ ap (λ (i : ℕ). accesses_from w o a n (suc k) m ++ accesses_from w o a n i j) (suc-add k m ∙ sym (add-suc k m)))

accesses-length : (w : List ℤ) (o a : List ℕ) (n k m : ℕ) → length (accesses_from w o a n k m) ≡ m
unfolding accesses_from
accesses-length w o a n k zero = refl
accesses-length w o a n k (suc m) = ap suc (accesses-length w o a n (suc k) m)

pub access-at : (w : List ℤ) (o a : List ℕ) (n k m i : ℕ) (d : Access) → i < m → get_or (accesses_from w o a n k m) i d ≡ access_at w o a n (k + i)
unfolding accesses_from
access-at w o a n k zero i d h = absurd (omega arith)
access-at w o a n k (suc m) zero d h = ap (access_at w o a n) (sym (add-zero k))
access-at w o a n k (suc m) (suc i) d h = access-at w o a n (suc k) m i d (omega arith) ∙ ap (access_at w o a n) (suc-add k i ∙ sym (add-suc k i))

module _ (P : FlatNest) where
  abbrev w : List ℤ
  w = words_in P

  abbrev o : List ℕ
  o = accessed_in P

  abbrev a : List ℕ
  a = extents_in P

  one-body : (k m : ℕ) → 1 ≤ m → access_at w o a P.depth k ∷ accesses_from w o a P.depth (suc k) (m - 1) ≡ accesses_from w o a P.depth k m
  unfolding accesses_from
  one-body k m h = ap (accesses_from w o a P.depth k) (some_size m h)

  bodies-from : (k i : ℕ) (ms : List ℕ) → All (λ m. 1 ≤ m) ms → map accesses_of (statements_from P k i ms) ≡ bodies_from w o a P.depth k ms
  unfolding statements_from bodies_from accesses_of
  bodies-from k i [] h = refl
  bodies-from k i (m ∷ ms) h =
      ap (◌∷ map accesses_of (statements_from P (k + m) (suc i) ms)) (one-body k m (h m (Memᴰ.head refl)))
      ∙ ap (accesses_from w o a P.depth k m ∷◌) (bodies-from (k + m) (suc i) ms (λ x q. h x (Memᴰ.tail q)))

  all_from : (k i : ℕ) (ms : List ℕ) → All (λ m. 1 ≤ m) ms → flat_map accesses_of (statements_from P k i ms) ≡ accesses_from w o a P.depth k (sum ms)
  unfolding statements_from accesses_of sum accesses_from flat_map
  all_from k i [] h = refl
  all_from k i (m ∷ ms) h =
      ap (◌++ flat_map accesses_of (statements_from P (k + m) (suc i) ms)) (one-body k m (h m (Memᴰ.head refl)))
      ∙ ap (accesses_from w o a P.depth k m ++◌) (all_from (k + m) (suc i) ms (λ x q. h x (Memᴰ.tail q)))
      ∙ sym (accesses-append w o a P.depth k m (sum ms))

  module _ (h : FlatNestIn P) where
    pub bodies-are : map accesses_of (nest_of P).statements ≡ bodies_from w o a P.depth 0 (sizes_in P)
    unfolding nest_of
    bodies-are = bodies-from 0 0 (sizes_in P) h.each

    pub all-accesses : all_accesses (nest_of P) ≡ accesses_from w o a P.depth 0 P.accesses
    unfolding nest_of all_accesses
    all-accesses = all_from 0 0 (sizes_in P) h.each ∙ ap (accesses_from w o a P.depth 0) h.all-accesses

    pub access-is : (k : ℕ) → k < P.accesses → access_of (nest_of P) k ≡ access_at w o a P.depth k
    access-is k q = ap (λ (l : List Access). get_or l k no_access) all-accesses ∙ access-at w o a P.depth 0 P.accesses k no_access q
        ∙ ap (access_at w o a P.depth) (zero-add k)

    pub access-count : length (all_accesses (nest_of P)) ≡ P.accesses
    access-count = ap length all-accesses ∙ accesses-length w o a P.depth 0 P.accesses

    -- ---- the loops can be run

    pub loops-run : All Runs (nest_of P).loops
    unfolding nest_of
    loops-run = nest_runs P.limits P.counts P.depth h.nest

    -- ---- the lengths of the parts in use

    pub words_count : length (words_in P) ≡ P.accesses * access_room
    words_count = let l = h.words-length in let f = h.few-accesses in length-take-le (P.accesses * access_room) P.words (omega arith)

    pub accessed-count : length (accessed_in P) ≡ P.accesses
    accessed-count = let l = h.accessed-length in let f = h.few-accesses in length-take-le P.accesses P.accessed (omega arith)

    pub extents-count : length (extents_in P) ≡ P.arrays * 4
    extents-count = let l = h.extents-length in let f = h.few-arrays in length-take-le (P.arrays * 4) P.extents (omega arith)

    pub sizes-count : length (sizes_in P) ≡ P.statements
    sizes-count = let l = h.sizes-length in let f = h.few-statements in length-take-le P.statements P.sizes (omega arith)

    -- ---- every access fits its array

    pub access-mem : (k : ℕ) → k < P.accesses → Mem (access_of (nest_of P) k) (all_accesses (nest_of P))
    access-mem k q = get_d-mem (all_accesses (nest_of P)) k no_access (let l = access-count in omega arith)

    pub access-fits : WellFormed (nest_of P) → (k : ℕ) → k < P.accesses → Fits (nest_of P).arrays (length (nest_of P).loops) (access_of (nest_of P) k)
    unfolding all_accesses accesses_of
    access-fits f k q =
        let m = flat_map-mem accesses_of (nest_of P).statements (access-mem k q) in
        let g = f.fits m.0 m.1 in
        ⊎_elim (g.writes (access_of (nest_of P) k)) (g.reads (access_of (nest_of P) k)) (Memᴰ.append_cases m.0.writes m.2)
