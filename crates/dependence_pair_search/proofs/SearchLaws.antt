-- The search of two accesses, sink by sink; sinks without a source are passed over.
use mathlib.Core.Path.{◌≡◌, refl, sym, ap, ◌∙◌}
use mathlib.Core.Bool.{Bool, false, ◌&&◌, ◌||◌}
use mathlib.Core.List.{List}
use Prim.Native.Nat.{ℕ, ◌+◌, ◌*◌, ◌-◌, ◌≤◌, ◌<◌}
use native.Mathlib.Nat.{mul-le-mul_right}
use native.Mathlib.Omega.{arith}
use lib.Dec.{eqb}
use lib.IntN.{ℤ}
use lib.ListN.{length, get_or}
use Rattle.lists.proofs.PartLaws.{row_fits}
use Rattle.model.specs.Grammar.{most_points}
use Rattle.dependence_vectors.specs.Candidates.{code}
use Rattle.dependence_pair_search.specs.Search.{some, latest, up_to, Links, Unlinked, NextLinked, hit, found, Adds, walked, Walkable, Tabled, Searchable, Followable}
use Rattle.dependence_pair_search.proofs.SomeLaws.{some-past, gathered_none, gathered-more}
use Rattle.dependence_pair_search.proofs.ChainLaws.{chain-skips-none, latest-le, up_to-le, links-fall, along-finds}

module _ (s : List ℤ) (d : ℕ) (from to : List ℕ) (own : Bool) (base : ℕ) where
  -- the marks of all sinks below y are set
  pub record Searching (next start : List ℕ) (m₀ m : List Bool) (spent y : ℕ) : Type 0 where
    pub inside : y ≤ length from
    pub light : spent ≤ y * most_points
    pub same_length : length m ≡ length m₀
    pub table : length from ≤ length next
    pub nexts : Links from from false next
    pub starts : Links from to own start
    pub adds : Adds m₀ m (found d s y from to own base)

  pub search-begins : (next start : List ℕ) (m : List Bool) → length from ≤ length next → Links from from false next → Links from to own start
      → Searching next start m m 0 0
  unfolding found
  search-begins next start m l n k = record {
    inside = omega arith;
    light = omega arith;
    same_length = refl;
    table = l;
    nexts = n;
    starts = k;
    adds = gathered_none m (λ y j. some (up_to own y) (hit d s from to base j y));
  }

  module _ (next start : List ℕ) (m₀ m : List Bool) (spent y first : ℕ) (h : y < length from) (e : first ≡ get_or start y 0)
      (w : Searching next start m₀ m spent y) where
    is-latest : first ≡ latest from (get_or to y 0) (up_to own y)
    is-latest = e ∙ w.starts y h

    pub first-le : first ≤ length from
    first-le = let a = latest-le from (get_or to y 0) (up_to own y) in let b = up_to-le own y (length from) h in let c = is-latest in omega arith

    pub walkable : Searchable s d from to base m₀ → Walkable s d y first next base m
    walkable ok = let a = first-le in let f = ok.few in let t = w.table in let p = ok.stored in let r = ok.room in let l = w.same_length
        in record {
          shallow = ok.shallow;
          sources = (let b = mul-le-mul_right d a in omega arith);
          sink = (let b = row_fits d y (length from) h in omega arith);
          linked = omega arith;
          falling = λ x k. links-fall from next w.nexts x (omega arith);
          room = omega arith;
        }

    walked-is : (j : ℕ) → walked d s next base y first j ≡ some (up_to own y) (hit d s from to base j y)
    unfolding walked hit
    walked-is j = along-finds from next (get_or to y 0) (λ x. eqb (base + code d s x y) j) w.nexts first (up_to own y) first
        (up_to-le own y (length from) h) is-latest (le_refl first)
      where
        le_refl : (n : ℕ) → n ≤ n
        le_refl n = omega arith

    pub search-turns : (m' : List Bool) (spent' : ℕ) → length m' ≡ length m → spent' ≤ (y + 1) * most_points
        → Adds m m' (walked d s next base y first) → Searching next start m₀ m' spent' (y + 1)
    unfolding found
    search-turns m' spent' l t a = record {
      inside = omega arith;
      light = t;
      same_length = l ∙ w.same_length;
      table = w.table;
      nexts = w.nexts;
      starts = w.starts;
      adds = gathered-more m₀ m m' y (λ y j. some (up_to own y) (hit d s from to base j y)) w.adds
          (λ j. a j ∙ ap (get_or m j false ||◌) (walked-is j));
    }

  -- ---- sinks without a source

  finds-none : (start : List ℕ) → Links from to own start → (y j : ℕ) → y < length from → get_or start y 0 ≡ 0
      → some (up_to own y) (hit d s from to base j y) ≡ false
  unfolding hit some
  finds-none start k y j h z = chain-skips-none from (get_or to y 0) (λ x. eqb (base + code d s x y) j) (up_to own y)
      ∙ ap (λ n. some n (λ x. eqb (get_or from x 0) (get_or to y 0) && eqb (base + code d s x y) j)) (sym (k y h) ∙ z)

  found-skips : (start : List ℕ) (y r j : ℕ) → Links from to own start → NextLinked start y (length from) r
      → found d s r from to own base j ≡ found d s y from to own base j
  unfolding found
  found-skips start y r j k g = let a = g.after in let b = g.inside in let e : r ≡ y + (r - y) = omega arith in
      ap (λ n. some n (λ y. some (up_to own y) (hit d s from to base j y))) e
      ∙ some-past y (r - y) (λ y. some (up_to own y) (hit d s from to base j y))
      (λ i p q. finds-none start k i j (omega arith) (g.passed i (omega arith) p))

  pub search-skips : (next start : List ℕ) (m₀ m : List Bool) (spent y r : ℕ) → NextLinked start y (length from) r
      → Searching next start m₀ m spent y → Searching next start m₀ m spent r
  search-skips next start m₀ m spent y r g w = record {
    inside = g.inside;
    light = (let a = g.after in let b = w.light in omega arith);
    same_length = w.same_length;
    table = w.table;
    nexts = w.nexts;
    starts = w.starts;
    adds = λ j. w.adds j ∙ ap (get_or m₀ j false ||◌) (sym (found-skips start y r j w.starts g));
  }

  -- no sink has a source
  pub search-none : (next start : List ℕ) (m : List Bool) → length from ≤ length next → Links from from false next → Links from to own start
      → Unlinked (length from) start
      → Adds m m (found d s (length from) from to own base)
  search-none next start m l n k z =
      let g : NextLinked start 0 (length from) (length from) = record {
        after = omega arith;
        inside = omega arith;
        passed = λ i h _. z i h;
        there = λ h. absurd (omega arith);
      } in
      (search-skips next start m m 0 0 (length from) g (search-begins next start m l n k)).adds

-- both tables of links are tables of links
pub tabled : (s : List ℤ) (d : ℕ) (from to : List ℕ) (own : Bool) (base : ℕ) (next start : List ℕ) (m : List Bool) → Searchable s d from to base m
    → Followable from to own next start
    → Tabled s d (length from) next × Tabled s d (length from) start
tabled s d from to own base next start m ok links = (
  record { stored = ok.stored; table = links.table; inside = λ x h. let a = links-fall from next links.nexts x h in omega arith },
  record {
    stored = ok.stored;
    table = links.room;
    inside = λ y h. let a = links.starts y h in let b = latest-le from (get_or to y 0) (up_to own y)
        in let c = up_to-le own y (length from) h in omega arith;
  },
)
