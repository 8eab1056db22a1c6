-- The flat data as the calls have them. In order: places of marks; the numbers of one access; what a pair of accesses sets; accesses
-- that are alike.
use mathlib.Core.Path.{◌≡◌, refl, sym, ap, ◌∙◌}
use mathlib.Core.Bool.{Bool, true, false, not, beq, ◌||◌, or-false, true≢false}
use mathlib.Core.List.{List}
use Prim.Native.Nat.{ℕ, zero, suc, ◌+◌, ◌*◌, ◌-◌, ◌≤◌, ◌<◌}
use native.Mathlib.Omega.{arith}
use lib.Dec.{ltb}
use lib.ListN.{length, get_or, take, drop, length-take, length-drop, replicate, length-replicate}
use lib.Seq.{get_or-take, get_or-drop}
use borrow.Author.Tests.{lt-ltb}
use Rattle.lists.proofs.PartLaws.{row_fits}
use Rattle.model.specs.Directions.{kind_count, vector_count}
use Rattle.dependence_vectors.specs.Numbers.{place_of, marks_for}
use Rattle.dependence_pair_search.specs.Search.{some, Below, Links, Clear, Linkable, Linked, found, Adds, Searchable}
use Rattle.lists.specs.Order.{Ordered}
use Rattle.model.specs.Inside.{Earlier}
use Rattle.dependence_search.specs.Flat.{Flat, points_of, number_at, statement_of, writes_at, Ready, kind_of, numbers_of, set_by, set_from, NumbersBelow, FlatIn, Alike, Lent}

-- ---- places of marks

pub block-fits : (n s t k : ℕ) → s < n → t < n → k < kind_count → place_of n s t k 0 + vector_count ≤ marks_for n
block-fits n s t k a b c = let h = row_fits n s n a in omega arith

-- ---- the numbers of one access

pub part-is : (n : ℕ) (numbers : List ℕ) (a : ℕ) → take (a * n + n - a * n) (drop (a * n) numbers) ≡ numbers_of n numbers a
unfolding numbers_of
part-is n numbers a = let e : a * n + n - a * n ≡ n = omega arith in rw e

pub part-fits : (k a n : ℕ) {m : ℕ} → a < k → k * n ≤ m → a * n + n ≤ m
part-fits k a n h l = let b = row_fits n a k h in omega arith

module _ (F : Flat) (marks : List Bool) (ok : Ready F marks) where
  pub numbers-length : (a : ℕ) → a < length F.statements → length (numbers_of F.count F.numbers a) ≡ F.count
  unfolding numbers_of
  numbers-length a h = let b = part-fits (length F.statements) a F.count h ok.table in simp (length-take, length-drop) (omega arith)

  pub numbers-at : (a x : ℕ) → x < F.count → get_or (numbers_of F.count F.numbers a) x 0 ≡ number_at F a x
  unfolding numbers_of
  numbers-at a x h = get_or-take F.count (drop (a * F.count) F.numbers) x 0 h ∙ get_or-drop (a * F.count) F.numbers x 0

  pub numbers-below : (m a : ℕ) → NumbersBelow m F → a < length F.statements → Below m (numbers_of F.count F.numbers a)
  numbers-below m a b h i l = let e = numbers-length a h in rw (numbers-at a i (omega arith)) (b.below a i h (omega arith))

  -- ---- what a pair of accesses sets

  pub searchable : (a b base : ℕ) → a < length F.statements → b < length F.statements → base + vector_count ≤ marks_for F.body
      → Searchable F.points F.depth (numbers_of F.count F.numbers a) (numbers_of F.count F.numbers b) base marks
  searchable a b base h g r = let e = numbers-length a h in let f = numbers-length b g in let p = ok.few in let m = ok.room in record {
    few = omega arith;
    both = omega arith;
    shallow = ok.shallow;
    stored = rw e ok.stored;
    rising = rw e ok.rising;
    room = omega arith;
  }

  -- the links of a source access

  pub linkable : (a : ℕ) (next head start : List ℕ) → a < length F.statements → Lent F next head start
      → Linkable (numbers_of F.count F.numbers a) (numbers_of F.count F.numbers a) head next
  linkable a next head start h l = let e = numbers-length a h in let p = ok.few in let r = l.nexts in record {
    few = omega arith;
    both = refl;
    sources = numbers-below (length head) a l.heads h;
    sinks = numbers-below (length head) a l.heads h;
    heads = l.heads.few;
    clear = l.clear;
    room = omega arith;
  }

  pub linked : (a : ℕ) (next head start next' head' : List ℕ) → a < length F.statements → Lent F next head start
      → Links (numbers_of F.count F.numbers a) (numbers_of F.count F.numbers a) false next'
      → length next' ≡ length next → length head' ≡ length head → Clear head' → Linked (numbers_of F.count F.numbers a) next' head' start
  linked a next head start next' head' h l k m n c = let e = numbers-length a h in let p = l.nexts in let q = l.heads.few in let r = l.starts in
      record {
        nexts = k;
        table = omega arith;
        sources = rw n
            (numbers-below (length head) a l.heads h);
        heads = omega arith;
        clear = c;
        room = omega arith;
      }

  sets-found : (a b k base : ℕ) → a < length F.statements → k ≡ kind_of (writes_at F a) (writes_at F b) → k < kind_count
      → base ≡ place_of F.body (statement_of F a) (statement_of F b) k 0
      → (j : ℕ) → found F.depth F.points (length (numbers_of F.count F.numbers a)) (numbers_of F.count F.numbers a) (numbers_of F.count F.numbers b)
      (ltb (statement_of F a) (statement_of F b)) base j ≡ set_by F a b j
  unfolding set_by
  sets-found a b k base h e l f j = let t : ltb (kind_of (writes_at F a) (writes_at F b)) kind_count ≡ true = lt-ltb
      (kind_of (writes_at F a) (writes_at F b)) kind_count (rw e at l) in
      rw (numbers-length a h, f, e, t)

  pub pair-sets : (m : List Bool) (a b k base : ℕ) → a < length F.statements → k ≡ kind_of (writes_at F a) (writes_at F b) → k < kind_count
      → base ≡ place_of F.body (statement_of F a) (statement_of F b) k 0
      → Adds marks m (found F.depth F.points (length (numbers_of F.count F.numbers a)) (numbers_of F.count F.numbers a)
      (numbers_of F.count F.numbers b) (ltb (statement_of F a) (statement_of F b)) base)
      → Adds marks m (set_by F a b)
  pair-sets m a b k base h e l f w j = w j ∙ ap (get_or marks j false ||◌) (sets-found a b k base h e l f j)

  -- two reads
  pub reads-set-none : (a b : ℕ) → kind_of (writes_at F a) (writes_at F b) ≡ kind_count → Adds marks marks (set_by F a b)
  unfolding set_by
  reads-set-none a b e j = rw e (sym (or-false (get_or marks j false)))

pub linked-still : (from next head start head' start' : List ℕ) → length head' ≡ length head → Clear head' → length start' ≡ length start
    → Linked from next head start → Linked from next head' start'
linked-still from next head start head' start' e c f l = let h = l.heads in let r = l.room
    in record { nexts = l.nexts; table = l.table; sources = rw e l.sources; heads = omega arith; clear = c; room = omega arith }

-- what is lent, of the same lengths and with no head
pub lent_still : (F : Flat) (next head start next' head' start' : List ℕ) → length next' ≡ length next → length head' ≡ length head
    → length start' ≡ length start → Clear head' → Lent F next head start → Lent F next' head' start'
lent_still F next head start next' head' start' e f g c l = let n = l.nexts in let s = l.starts
    in record { nexts = omega arith; heads = rw f l.heads; clear = c; starts = omega arith }

-- room for all marks
pub ready : (F : Flat) (m : List Bool) → FlatIn F → Ordered Earlier (points_of F) → marks_for F.body ≤ length m → Ready F m
ready F m r o l = record {
  few = r.few;
  shallow = r.shallow;
  stored = r.stored;
  rising = o;
  both = r.both;
  in_body = r.in_body;
  table = r.table;
  room = l;
}

-- room that is clear
pub lent-clear : (F : Flat) (links heads : ℕ) → NumbersBelow heads F → F.count ≤ links
    → Lent F (replicate links 0) (replicate heads 0) (replicate links 0)
lent-clear F links heads b l = let n = length-replicate {A = ℕ} links 0 in let e = length-replicate {A = ℕ} heads 0 in record {
  nexts = omega arith;
  heads = record { few = (let f = b.few in omega arith); below = λ a x g i. let q = b.below a x g i in omega arith };
  clear = λ x. none heads x;
  starts = omega arith;
}
  where
    none : (n x : ℕ) → get_or {A = ℕ} (replicate {A = ℕ} n 0) x 0 ≡ 0
    none zero x = refl
    none (suc n) zero = refl
    none (suc n) (suc x) = none n x

-- ---- accesses that are alike

-- a test of two flags, as a branch leaves it
pub flags-equal : (a b : Bool) → not (beq a b) ≡ false → a ≡ b
flags-equal true true e = refl
flags-equal true false e = absurd (true≢false e)
flags-equal false true e = absurd (true≢false e)
flags-equal false false e = refl

module _ (F : Flat) (a b : ℕ) (l : Alike F.count F.numbers F.statements F.writes a b) where
  pub alike-sink : (c j : ℕ) → set_by F c a j ≡ set_by F c b j
  unfolding set_by
  alike-sink c j = rw (l.statement, l.way, l.elements)

  alike-source : (c j : ℕ) → set_by F a c j ≡ set_by F b c j
  unfolding set_by
  alike-source c j = rw (l.statement, l.way, l.elements)

  pub alike_from : (j : ℕ) → set_from F a j ≡ set_from F b j
  unfolding set_from
  alike_from j = ap (some (length F.statements)) (λ i c. alike-source c j i)
