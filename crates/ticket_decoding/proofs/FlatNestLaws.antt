-- A flat nest that the sections of a ticket are laid on stands for their nest.
use mathlib.Core.Path.{◌≡◌, refl, sym, ap, ap₂, ◌∙◌, subst}
use mathlib.Core.List.{List, [], map}
use Prim.Native.Nat.{ℕ, zero, suc, ◌+◌, ◌*◌, ◌/◌, ◌≤◌, ◌<◌}
use native.Mathlib.Omega.{arith}
use native.Mathlib.Nat.{zero-add}
use lib.IntN.{ℤ}
use lib.ListN.{length, get_or, take, replicate, length-map, length-append, length-replicate, get_or-map}
use lib.Seq.{length-take-le}
use Rattle.lists.specs.Membership.{All}
use Rattle.lists.proofs.MembershipLaws.{all_append, all_get_d, all-imp, map-all}
use Rattle.lists.proofs.FlatMapLaws.{all-flat_map}
use Rattle.lists.proofs.PartLaws.{take-put-end}
use Rattle.integers.proofs.AffineLaws.{within-take}
use Rattle.model.specs.Ticket.{Subscript, Access, Statement, Nest}
use Rattle.model.specs.Grammar.{extents, total, most_words, most_accesses, access_room, ticket_loops, ticket_limits, most_arrays, most_extents}
use Rattle.model.specs.Bounds.{accesses_of}
use Rattle.model.specs.Ranges.{Small, ArrayRanges, AccessRanges, StatementRanges, NestRanges}
use Rattle.model.specs.Shape.{Fits, WellFormed}
use Rattle.model.specs.Store.{sum}
use Rattle.nest_flat.specs.Flat.{loops_from, NestOk}
use Rattle.nest_flat.specs.Layout.{arrays_of, access_at, AccessesOk}
use Rattle.nest_flat.specs.FlatNests.{FlatNest, extents_in, accessed_in, words_in, sizes_in, nest_of, statements_from, FlatNestIn}
use Rattle.ticket_loops.proofs.LimitLaws.{small-within}
use Rattle.ticket_arrays.specs.Arrays.{LaidArrays}
use Rattle.ticket_arrays.proofs.RowLaws.{all_replicate, part-take}
use Rattle.ticket_arrays.proofs.ArrayBack.{laid-length, used-length, used-arrays, arrays-same, dimensions-at, few-dimensions, small-extents}
use Rattle.ticket_statements.specs.Laid.{array_numbers, accesses_in, size_of}
use Rattle.ticket_statements.specs.Statements.{StatementsLaid}
use Rattle.ticket_statements.proofs.AccessBack.{Wide, words_at, access-back, accesses-length, accesses-at, accesses-small}
use Rattle.ticket_decoding.proofs.StatementBack.{no-access, sum-sizes, statements-back}

-- zeros, as the small slices are before they are laid over
abbrev pub no_accessed : List ℕ
no_accessed = replicate most_accesses 0

abbrev pub no_extents : List ℕ
no_extents = replicate 16 0

pub loops-count : (s : List ℤ) (c : List ℕ) (k n : ℕ) → length (loops_from s c k n) ≡ n
unfolding loops_from
loops-count s c k zero = refl
loops-count s c k (suc n) = ap suc (loops-count s c (suc k) n)

-- the nest of a flat nest's loops, and of these arrays and statements
abbrev pub nest_on : FlatNest → List (List ℕ) → List Statement → Nest
nest_on P as' ss = record { loops = loops_from P.limits P.counts 0 P.depth; arrays = as'; statements = ss }

module _ (P : FlatNest) (w : List ℤ) (room : length w ≡ most_words) (small : All Small w) (as' : List (List ℕ)) (ss : List Statement)
    (nest : NestOk P.limits P.counts P.depth) (a : LaidArrays no_extents P.extents as') (Array-count : length as' ≡ P.arrays)
    (b : StatementsLaid ss w P.words (record {
      count = P.statements;
      sizes = P.sizes;
      rules = P.rules;
      constants = P.constants;
      accesses = P.accesses;
      accessed = P.accessed;
    }))
    (ranges : NestRanges ticket_loops ticket_limits (nest_on P as' ss)) (formed : WellFormed (nest_on P as' ss)) where
  abbrev all : List Access
  all = accesses_in ss

  abbrev deep : ℕ
  deep = length (loops_from P.limits P.counts 0 P.depth)

  blank-length : length no_extents ≡ most_extents
  blank-length = length-replicate 16 zero

  access-count : P.accesses ≡ length all
  access-count = b.accesses

  few-arrays : P.arrays ≤ most_arrays
  few-arrays = let h = a.few in omega arith

  -- ---- the parts of the model

  all-ranges : All AccessRanges all
  unfolding accesses_in accesses_of
  all-ranges = all-flat_map accesses_of AccessRanges ss (λ s m. all_append AccessRanges s.writes s.reads (ranges.statements s m).writes
      (ranges.statements s m).reads)

  all_fit : All (Fits as' deep) all
  unfolding accesses_in accesses_of
  all_fit = all-flat_map accesses_of (Fits as' deep) ss (λ s m. all_append (Fits as' deep) s.writes s.reads (formed.fits s m).writes
      (formed.fits s m).reads)

  all-wide : All (Wide P.depth) all
  unfolding extents
  all-wide = all-imp (Fits as' deep) all all_fit
      (λ a m f.
      let d = f.dimensions in
      let r = (all_get_d ArrayRanges as' a.array [] ranges.arrays f.there).dimensions.high in
      record {
        few = omega arith;
        wide = subst (λ (n : ℕ). All (λ (s : Subscript). length s.coefficients ≡ n) a.subscripts)
            (loops-count P.limits P.counts 0 P.depth) f.wide;
      })

  -- ---- lengths

  words-room : (0 + length all) * access_room ≤ length w
  words-room = let c = access-count in let h = b.few-accesses in omega arith

  words-length : length P.words ≡ most_words
  words-length = ap length b.laid.words ∙ accesses-length P.depth nest.shallow w 0 all all-wide words-room ∙ room

  -- the numbers of the arrays, as they stand
  accessed-are : accessed_in P ≡ array_numbers all
  accessed-are =
      let n : P.accesses ≡ 0 + length (array_numbers all) = omega (arith, access-count, length-map all (λ (a : Access). a.array)) in
      ap₂ take n b.laid.named ∙ take-put-end no_accessed 0 (array_numbers all) (omega arith)

  accessed-used : length (accessed_in P) ≡ P.accesses
  accessed-used = ap length accessed-are ∙ length-map all (λ (a : Access). a.array) ∙ sym access-count

  -- ---- its accesses

  access-stands : (i : ℕ) → i < length all → access_at (words_in P) (accessed_in P) (extents_in P) P.depth i ≡ get_or all i no-access
  unfolding extents
  access-stands i g =
      let x = get_or all i no-access in
      let f = all_get_d (Fits as' deep) all i no-access all_fit g in
      let v = all_get_d (Wide P.depth) all i no-access all-wide g in
      let named : get_or (accessed_in P) i 0 ≡ x.array = ap (λ l. get_or l i 0) accessed-are ∙ get_or-map (λ (a : Access). a.array) all i no-access in
      let dims : get_or (extents_in P) (x.array * 4) 0 ≡ length x.subscripts =
      dimensions-at no_extents blank-length as' P.arrays Array-count few-arrays ranges.arrays P.extents a.laid x.array f.there
      ∙ sym f.dimensions in
      access-back (words_in P) (accessed_in P) (extents_in P) P.depth i x named dims
      (λ d r.
      let u = v.few in
      let h = nest.shallow in
      let c = access-count in
      part-take ((i * 3 + d) * 8) (suc P.depth) (P.accesses * access_room) P.words (omega arith)
      ∙ ap₂ (λ l j. words_at l P.depth (j * 3 + d)) b.laid.words (sym (zero-add i))
      ∙ accesses-at P.depth nest.shallow w 0 all all-wide words-room i no-access g d r)

  accesses-sound : AccessesOk (words_in P) (accessed_in P) (extents_in P) P.depth
  accesses-sound =
      let n = words-length in
      let o = accessed-used in
      let y = used-length no_extents blank-length as' P.arrays Array-count few-arrays ranges.arrays P.extents a.laid in
      let u = used-arrays no_extents blank-length as' P.arrays Array-count few-arrays ranges.arrays P.extents a.laid in
      record {
        words = length-take-le (P.accesses * access_room) P.words (omega arith) ∙ ap (◌* access_room) (sym o);
        many = omega arith;
        few = omega arith;
        shallow = nest.shallow;
        small = within-take 32767 P.words (P.accesses * access_room)
            (small-within P.words (subst (All Small) (sym b.laid.words) (accesses-small w 0 all small all-ranges)));
        dimensions = few-dimensions no_extents blank-length as' P.arrays Array-count few-arrays ranges.arrays P.extents a.laid;
        extents = small-extents no_extents blank-length as' P.arrays Array-count few-arrays ranges.arrays P.extents a.laid
            (all_replicate (λ x. x ≤ 4096) 16 0 (omega arith));
        there = λ k g. all_get_d (λ x. x < length (extents_in P) / 4) (accessed_in P) k 0
            (subst (λ (l : List ℕ). All (λ x. x < length (extents_in P) / 4) l) (sym accessed-are)
            (map-all (λ (x : Access). x.array) (Fits as' deep) (λ x. x < length (extents_in P) / 4) all (λ x f. let h = f.there in omega arith)
            all_fit)) g;
      }

  -- ---- its statements

  statement-count : P.statements ≡ length ss
  statement-count = sym b.count

  sizes-are : sizes_in P ≡ map size_of ss
  sizes-are = b.sizes

  rules-are : take (length ss) P.rules ≡ map (λ (s : Statement). s.rule) ss
  rules-are = ap (λ n. take n P.rules) b.count ∙ b.rules

  constants-are : take (length ss) P.constants ≡ map (λ (s : Statement). s.constant) ss
  constants-are = ap (λ n. take n P.constants) b.count ∙ b.constants

  statements-same : statements_from P 0 0 (sizes_in P) ≡ ss
  statements-same =
      ap (statements_from P 0 0) sizes-are
      ∙ statements-back P ss 0 0 (λ j g. ap (access_at (words_in P) (accessed_in P) (extents_in P) P.depth) (zero-add j) ∙ access-stands j g)
      rules-are constants-are (λ s m. (ranges.statements s m).one-write)

  some-access : All (λ m. 1 ≤ m) (map size_of ss)
  unfolding accesses_of
  some-access = map-all size_of StatementRanges (λ m. 1 ≤ m) ss (λ s r. let h = r.one-write in let l = length-append s.writes s.reads in omega
      arith) ranges.statements

  -- ---- the flat nest

  by_parts : (as₂ : List (List ℕ)) (ss₂ : List Statement) → as₂ ≡ as' → ss₂ ≡ ss → nest_on P as₂ ss₂ ≡ nest_on P as' ss
  by_parts as₂ ss₂ g k = rw (g, k)

  arrays-stand : arrays_of (extents_in P) ≡ as'
  arrays-stand = arrays-same no_extents blank-length as' P.arrays Array-count few-arrays ranges.arrays P.extents a.laid

  pub flat-nest-stands : nest_of P ≡ nest_on P as' ss
  unfolding nest_of
  flat-nest-stands = by_parts _ _ arrays-stand statements-same

  pub flat-nest-in : FlatNestIn P
  flat-nest-in = record {
    nest = nest;
    some = let n = loops-count P.limits P.counts 0 P.depth in let h = ranges.few-loops.low in omega arith;
    accesses-ok = accesses-sound;
    fits = subst (λ (l : List (List ℕ)). total l ≤ 16384) (sym arrays-stand) ranges.room;
    all-accesses = ap sum sizes-are ∙ sum-sizes ss ∙ sym access-count;
    each = subst (λ (l : List ℕ). All (λ m. 1 ≤ m) l) (sym sizes-are) some-access;
    few-arrays = few-arrays;
    few-statements = let n = statement-count in let h = ranges.few-statements.high in omega arith;
    few-accesses = b.few-accesses;
    extents-length = laid-length no_extents blank-length as' P.arrays Array-count few-arrays ranges.arrays P.extents a.laid;
    sizes-length = b.sizes-room;
    accessed-length = b.accessed-room;
    words-length = words-length;
    rules-length = b.rules-room;
    constants-length = b.constants-room;
  }
