-- The words of a nest in its ranges are read back by its readers: loops, arrays, statements, the nest. From bytes on in `RoundTripLaws`.
use mathlib.Core.Path.{◌≡◌, refl, sym, ap, ◌∙◌, subst}
use mathlib.Core.Bool.{cond}
use mathlib.Core.List.Memᴰ
use mathlib.Core.List.{List, [], ◌∷◌, ◌++◌, flat_map, append-nil}
use Prim.Native.Nat.{ℕ, suc, ◌+◌, ◌-◌, ◌≤◌}
use native.Mathlib.Omega.{arith}
use lib.Dec.{eqb, leb, le→leb}
use lib.IntN.{ℤ, pos}
use lib.ListN.{length}
use borrow.Author.Tests.{eqb-true}
use Rattle.lists.specs.Membership.{Mem, All}
use Rattle.lists.proofs.MembershipLaws.{length-one}
use Rattle.lists.proofs.FlatMapLaws.{flat_map-alone}
use Rattle.lists.proofs.TestLaws.{cond_cases}
use Rattle.model.specs.Ticket.{Limit, Loop, Subscript, Access, Statement, Nest}
use Rattle.model.specs.Grammar.{number, times, limit, side, loop, loops_from, loops, elements, total, shape, array, arrays_from, arrays, extents}
use Rattle.model.specs.Grammar.{subscript, access, statement, statements, nest, most_statements}
use Rattle.model.specs.Encode.{counted, limit_words, loop_words, array_words, access_words, statement_words}
use Rattle.model.specs.Shape.{Sized, Shaped, Fits, FitsAll, WellFormed}
use Rattle.model.specs.Ranges.{InRange, Small, LimitRanges, LoopRanges, ArrayRanges, SubscriptRanges, AccessRanges, StatementRanges}
use Rattle.model.specs.Ranges.{NestRanges}
use Rattle.model.proofs.Grammar.ReaderLaws.{alone, one}
use Rattle.model.proofs.Grammar.StatementReading.{subscript_words}
use Rattle.model.proofs.Grammar.YieldLaws.{Yields, yields-cast, yields-value, yields-done, yields-bind, yields-last, yields-must}
use Rattle.model.proofs.Grammar.YieldLaws.{yields-count, yields-natural, yields-number, yields-times, yields-counted}
use Rattle.model.proofs.Grammar.WordLaws.{nest_sections}

-- ---- loops

yields-numbers : (n : ℕ) (l : List ℤ) → length l ≡ n → All Small l → Yields (times n number) l l
yields-numbers n l e h = subst (λ i. Yields (times i number) l l) e
    (yields-cast (flat_map-alone l) (yields-times alone l (λ z m. yields-number z (h z m))))

yields-limit : (k : ℕ) (l : Limit) → LimitRanges l → length l.coefficients ≡ k → Yields (limit k) (limit_words l) l
unfolding limit limit_words
yields-limit k l r e = yields-bind _ (yields-natural r.multiplier) (yields-bind _ (yields-number l.constant r.constant)
    (yields-last (λ cs. record { multiplier = l.multiplier; constant = l.constant; coefficients = cs })
    (yields-numbers k l.coefficients e r.coefficients)))

yields-side : (m k : ℕ) (ls : List Limit) → InRange 1 m (length ls) → All LimitRanges ls → Sized k ls → Yields (side m k) (counted limit_words ls) ls
unfolding side
yields-side m k ls f r s = yields-counted _ limit_words ls f (yields-times limit_words ls (λ l i. yields-limit k l (r l i) (s l i)))

yields-loop : (m k : ℕ) (L : Loop) → LoopRanges m L → Sized k L.lower → Sized k L.upper → Yields (loop m k) (loop_words L) L
unfolding loop loop_words
yields-loop m k L r s t = yields-bind _ (yields-side m k L.lower r.few-lower r.lower s)
    (yields-last (λ u. record { lower = L.lower; upper = u }) (yields-side m k L.upper r.few-upper r.upper t))

yields-loops_from : (m k : ℕ) (N : List Loop) → All (LoopRanges m) N → Shaped k N → Yields (loops_from m k (length N)) (flat_map loop_words N) N
unfolding loops_from flat_map
yields-loops_from m k [] r s = yields-done []
yields-loops_from m k (L ∷ N) r s = yields-bind _ (yields-loop m k L (r L (Memᴰ.head refl)) s.0.0 s.0.1)
    (yields-last (L ∷◌) (yields-loops_from m (suc k) N (λ x i. r x (Memᴰ.tail i)) s.1))

pub yields-loops : (d m : ℕ) (N : List Loop) → InRange 1 d (length N) → All (LoopRanges m) N → Shaped 0 N
    → Yields (loops d m) (counted loop_words N) N
unfolding loops
yields-loops d m N f r s = yields-counted _ loop_words N f (yields-loops_from m 0 N r s)

-- ---- arrays

yields-shape : (a : List ℕ) → ArrayRanges a → Yields shape (array_words a) a
unfolding shape array_words
yields-shape a q = yields-counted _ one a q.dimensions (yields-times one a (λ n i. yields-natural (q.extents n i)))

yields-array : (t : ℕ) (a : List ℕ) → ArrayRanges a → t + elements a ≤ 16384 → Yields (array t) (array_words a) a
unfolding array
yields-array t a q h = yields-cast (append-nil (array_words a)) (yields-bind _ (yields-shape a q)
    (yields-must (leb (t + elements a) 16384) 5 (le→leb (t + elements a) 16384 h) (yields-done a)))

yields-arrays_from : (t : ℕ) (as' : List (List ℕ)) → All ArrayRanges as' → t + total as' ≤ 16384
    → Yields (arrays_from t (length as')) (flat_map array_words as') as'
unfolding arrays_from flat_map total
yields-arrays_from t [] r h = yields-done []
yields-arrays_from t (a ∷ as') r h = yields-bind _ (yields-array t a (r a (Memᴰ.head refl)) (omega arith))
    (yields-last (a ∷◌) (yields-arrays_from (t + elements a) as' (λ x i. r x (Memᴰ.tail i)) (omega arith)))

pub yields-arrays : (as' : List (List ℕ)) → InRange 1 4 (length as') → All ArrayRanges as' → total as' ≤ 16384
    → Yields arrays (counted array_words as') as'
unfolding arrays
yields-arrays as' f r h = yields-counted (arrays_from 0) array_words as' f (yields-arrays_from 0 as' r (omega arith))

-- ---- statements

yields-subscript : (n : ℕ) (s : Subscript) → SubscriptRanges s → length s.coefficients ≡ n → Yields (subscript n) (subscript_words s) s
unfolding subscript
yields-subscript n s r e = yields-bind _ (yields-number s.constant r.constant)
    (yields-last (λ cs. record { constant = s.constant; coefficients = cs }) (yields-numbers n s.coefficients e r.coefficients))

yields-access : (n : ℕ) (as' : List (List ℕ)) (a : Access) → AccessRanges a → Fits as' n a → Yields (access n as') (access_words a) a
unfolding access access_words
yields-access n as' a r f =
    let t = f.there in
    let e : suc a.array - 1 ≡ a.array = omega arith in
    let l : length a.subscripts ≡ length (extents as' (suc a.array - 1)) = f.dimensions ∙ ap (λ i. length (extents as' i)) (sym e) in
    let q : InRange 1 (length as') (suc a.array) = record { low = omega arith; high = t } in
    yields-value (ap (λ i. record { array = i; subscripts = a.subscripts }) e) (yields-bind _ (yields-natural q)
    (yields-last (λ ss. record { array = suc a.array - 1; subscripts = ss })
    (subst (λ i. Yields (times i (subscript n)) (flat_map subscript_words a.subscripts) a.subscripts) l
    (yields-times subscript_words a.subscripts (λ s i. yields-subscript n s (r s i) (f.wide s i))))))

-- a statement with this write
abbrev writing : Statement → List Access → Statement
writing s ws = record { rule = s.rule; constant = s.constant; writes = ws; reads = s.reads }

yields-statement : (n : ℕ) (as' : List (List ℕ)) (s : Statement) → StatementRanges s → FitsAll as' n s
    → Yields (statement n as') (statement_words s) s
unfolding statement statement_words flat_map counted
yields-statement n as' s r f =
    let o = length-one s.writes r.one-write in
    let w = o.0 in
    let i : Mem w s.writes = subst (Mem w) (sym o.1) (Memᴰ.head refl) in
    let c : InRange 0 (cond (eqb s.rule 3) 0 32767) s.constant = cond_cases (λ m. InRange 0 m s.constant) (eqb s.rule 3) 0 32767
    (λ e. record { low = omega arith; high = let z = r.copy-constant (eqb-true s.rule 3 e) in omega arith })
    (λ _. record { low = omega arith; high = r.constant }) in
    let k : InRange (cond (eqb s.rule 3) 1 0) 4 (length s.reads) = cond_cases (λ m. InRange m 4 (length s.reads)) (eqb s.rule 3) 1 0
    (λ e. record { low = r.copy-reads (eqb-true s.rule 3 e); high = r.few-reads }) (λ _. record { low = omega arith; high = r.few-reads }) in
    let u : InRange 0 3 s.rule = record { low = omega arith; high = r.rule } in
    subst (λ ws. Yields (statement n as') (statement_words (writing s ws)) (writing s ws)) (sym o.1)
    (yields-cast (ap (λ ws. pos s.rule ∷ pos s.constant ∷ (ws ++ counted access_words s.reads)) (sym (append-nil (access_words w))))
    (yields-bind _ (yields-natural u) (yields-bind _ (yields-natural c)
    (yields-bind _ (yields-access n as' w (r.writes w i) (f.writes w i)) (yields-bind _ (yields-count k)
    (yields-last (λ rs. record { rule = s.rule; constant = s.constant; writes = w ∷ []; reads = rs })
    (yields-times access_words s.reads (λ a j. yields-access n as' a (r.reads a j) (f.reads a j)))))))))

pub yields-statements : (n : ℕ) (as' : List (List ℕ)) (ss : List Statement) → InRange 1 most_statements (length ss) → All StatementRanges ss
    → All (FitsAll as' n) ss → Yields (statements n as') (counted statement_words ss) ss
unfolding statements
yields-statements n as' ss h r f = yields-counted _ statement_words ss h
    (yields-times statement_words ss (λ s i. yields-statement n as' s (r s i) (f s i)))

-- ---- the nest

pub yields-nest : (d m : ℕ) (N : Nest) → NestRanges d m N → WellFormed N → Yields (nest d m) (nest_sections N) N
unfolding nest
yields-nest d m N r w = yields-bind _ (yields-loops d m N.loops r.few-loops r.loops w.shaped)
    (yields-bind _ (yields-arrays N.arrays r.few-arrays r.arrays r.room)
    (yields-last (λ ss. record { loops = N.loops; arrays = N.arrays; statements = ss })
    (yields-statements (length N.loops) N.arrays N.statements r.few-statements r.statements w.fits)))
