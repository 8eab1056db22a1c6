-- A written nest reads as that nest. In order: the words of a nest are within ±32767; the bytes of such words spell them; `encode`, its length, and
-- `decode_nest` of it.
use mathlib.Core.Path.{◌≡◌, sym, ap, ◌∙◌}
use mathlib.Core.List.{List, [], ◌∷◌, ◌++◌, flat_map, append-nil}
use Prim.Native.Nat.{ℕ, ◌+◌, ◌*◌, ◌-◌, ◌≤◌}
use native.Mathlib.Nat.{mul_comm}
use native.Mathlib.Omega.{arith}
use lib.Dec.{leb, le→leb}
use lib.IntN.{ℤ}
use lib.ListN.{length, length-append}
use Rattle.lists.specs.Membership.{Mem, All}
use Rattle.lists.proofs.MembershipLaws.{all_nil, all_cons, all_append}
use Rattle.lists.proofs.FlatMapLaws.{all-flat_map}
use Rattle.model.specs.Answer as Answer
use Rattle.model.specs.Answer.{accepted}
use Rattle.model.specs.Words.{bytes_of}
use Rattle.model.specs.Ticket.{Limit, Loop, Subscript, Access, Statement, Nest, Ticket}
use Rattle.model.specs.Grammar.{Reader, ◌>>=◌, ◌>>◌, done, count, nest, end, decode, written, decode_nest, most_arrays}
use Rattle.model.specs.Encode.{counted, limit_words, loop_words, array_words, access_words, statement_words, nest_words, encode}
use Rattle.model.specs.Shape.{Fits, FitsAll, WellFormed}
use Rattle.model.specs.Ranges.{Small, LimitRanges, LoopRanges, ArrayRanges, AccessRanges, StatementRanges, NestRanges}
use Rattle.model.proofs.Grammar.WordLaws.{sections-then, length-bytes, bytes-spell, spells-left, spells-right, nest_sections, Spells}
use Rattle.model.proofs.Grammar.ReaderLaws.{one}
use Rattle.model.proofs.Grammar.GrammarLaws.{ranges-wider, decode-formed, decode-ranges}
use Rattle.model.proofs.Grammar.YieldLaws.{bind-reads, must_at-reads, yields-count}
use Rattle.model.proofs.Grammar.NestYields.{yields-nest}

-- ---- small words

pub counted-small : {A : Type 0} (f : A → List ℤ) (l : List A) → length l ≤ 32767 → ((x : A) → Mem x l → All Small (f x)) → All Small (counted f l)
unfolding counted
counted-small f l h s = all_cons Small h (all-flat_map f Small l s)

limit-small : (l : Limit) → LimitRanges l → All Small (limit_words l)
unfolding limit_words
limit-small l r = all_cons Small r.multiplier.high (all_cons Small r.constant r.coefficients)

loop-small : {m : ℕ} (L : Loop) → m ≤ 32767 → LoopRanges m L → All Small (loop_words L)
unfolding loop_words
loop-small L h r = let u = r.few-lower.high in let v = r.few-upper.high in
    all_append Small (counted limit_words L.lower) (counted limit_words L.upper)
    (counted-small limit_words L.lower (omega arith) (λ l i. limit-small l (r.lower l i)))
    (counted-small limit_words L.upper (omega arith) (λ l i. limit-small l (r.upper l i)))

array-small : (a : List ℕ) → ArrayRanges a → All Small (array_words a)
unfolding array_words
array-small a r = let u = r.dimensions.high in counted-small one a (omega arith)
    (λ n i. let e = (r.extents n i).high in all_cons Small (omega arith) (all_nil Small))

access-small : {n : ℕ} (as' : List (List ℕ)) (a : Access) → length as' ≤ most_arrays → AccessRanges a → Fits as' n a → All Small (access_words a)
unfolding access_words
access-small as' a h r f = let t = f.there in all_cons Small (omega arith)
    (all-flat_map (λ (s : Subscript). s.constant ∷ s.coefficients) Small a.subscripts
    (λ s i. all_cons Small (r s i).constant (r s i).coefficients))

statement-small : {n : ℕ} (as' : List (List ℕ)) (s : Statement) → length as' ≤ most_arrays → StatementRanges s → FitsAll as' n s → All Small (statement_words s)
unfolding statement_words
statement-small as' s h r f = let u = r.rule in let v = r.few-reads in
    all_cons Small (omega arith) (all_cons Small r.constant (all_append Small (flat_map access_words s.writes) (counted access_words s.reads)
    (all-flat_map access_words Small s.writes (λ a i. access-small as' a h (r.writes a i) (f.writes a i)))
    (counted-small access_words s.reads (omega arith) (λ a i. access-small as' a h (r.reads a i) (f.reads a i)))))

pub nest-small : {d m : ℕ} (N : Nest) → d ≤ 32767 → m ≤ 32767 → NestRanges d m N → WellFormed N → All Small (nest_sections N)
nest-small N d m r w = let u = r.few-loops.high in let v = r.few-arrays.high in let z = r.few-statements.high in
    all_append Small (counted loop_words N.loops) (counted array_words N.arrays ++ counted statement_words N.statements)
    (counted-small loop_words N.loops (omega arith) (λ L i. loop-small L m (r.loops L i)))
    (all_append Small (counted array_words N.arrays) (counted statement_words N.statements)
    (counted-small array_words N.arrays (omega arith) (λ a i. array-small a (r.arrays a i)))
    (counted-small statement_words N.statements (omega arith) (λ s i. statement-small N.arrays s v (r.statements s i) (w.fits s i))))

-- ---- bytes

pub bytes-words : (ws : List ℤ) → All Small ws → Spells (bytes_of ws) 1 ws
bytes-words ws s = bytes-spell (bytes_of ws) [] 1 ws (omega arith) (sym (append-nil (bytes_of ws))) s

-- no byte follows
pub end_reads : {A : Type 0} (r : Reader A) (b : List ℕ) (k : ℕ) → length b ≤ (k - 1) * 2 → (end >> r) b k ≡ r b k
unfolding end ◌>>◌ ◌>>=◌
end_reads r b k h = must_at-reads (leb (length b) ((k - 1) * 2)) 2 k r b k (le→leb (length b) ((k - 1) * 2) h)

-- ---- the nest

nest-words : (N : Nest) → nest_words N ≡ nest_sections N ++ one 0
unfolding nest_words
nest-words N = sections-then N (one 0)

pub encode-length : (N : Nest) → length (encode N) ≡ 2 * length (nest_words N)
unfolding encode
encode-length N = length-bytes (nest_words N) ∙ mul_comm (length (nest_words N)) 2

-- up to 6 loops and 16 limits a side
pub encode-decodes : (N : Nest) → WellFormed N → NestRanges 6 16 N → decode_nest (encode N) ≡ accepted N
unfolding decode_nest written encode Answer.◌>>=◌ done
encode-decodes N w r =
    let ws = nest_sections N ++ one 0 in
    let b = bytes_of ws in
    let s : Spells b 1 ws = bytes-words ws (all_append Small (nest_sections N) (one 0) (nest-small N (omega arith) (omega arith) r w)
    (all_cons Small (omega arith) (all_nil Small))) in
    let k = 1 + length (nest_sections N) in
    let l = length-bytes ws in
    let m = length-append (nest_sections N) (one 0) in
    ap (λ v. decode_nest (bytes_of v)) (nest-words N) ∙ ap (λ x. Answer.◌>>=◌ x (λ t. accepted t.value))
    (bind-reads (nest 6 16) _ b 1 ((yields-nest 6 16 N r w).read b 1 (spells-left b 1 (nest_sections N) (one 0) s))
    ∙ bind-reads (count 0 0) _ b k ((yields-count (record { low = omega arith; high = omega arith })).read b k
    (spells-right b 1 (nest_sections N) (one 0) s))
    ∙ end_reads (done N) b (k + 1) (omega arith))

-- the nest of an accepted ticket, written with no step
pub accepted-written : (b : List ℕ) {T : Ticket} → decode b ≡ accepted T → decode_nest (encode T.nest) ≡ accepted T.nest
accepted-written b {T} e = encode-decodes T.nest (decode-formed b e) (ranges-wider (omega arith) (omega arith) (decode-ranges b e).nest)
