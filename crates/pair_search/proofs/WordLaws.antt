-- The records of the pairs that trade places, as words: all of them are those of `traded` (`words-all`), in the parts before a place and from it
-- on (`words-parts`, `from-drop`). Then source by source: those from a place on (`from_is`), and those up to a place by those up to an earlier one
-- (`before_more`).
use mathlib.Core.Path.{◌≡◌, refl, sym, ap, ◌∙◌}
use mathlib.Core.List.{List, [], ◌∷◌, ◌++◌, map, flat_map, map-append}
use Prim.Native.Nat.{ℕ, zero, suc, ◌+◌, ◌-◌, ◌≤◌}
use native.Mathlib.Omega.{arith}
use native.Mathlib.Nat.{zero-add, sub-zero}
use lib.IntN.{ℤ}
use lib.ListN.{length, get_or, take, drop, take-append-drop}
use lib.Seq.{length-take-le, get_or-take, drop_at, drop-drop}
use Rattle.lists.specs.Tests.{select}
use Rattle.lists.proofs.FlatMapLaws.{flat_map-append, flat_map-map, flat_map-same-on, map-flat_map}
use Rattle.model.specs.Ticket.{Step, Nest}
use Rattle.model.specs.Points.{iterations}
use Rattle.model.specs.Machine.{accesses}
use Rattle.model.specs.Directions.{up_from}
use Rattle.model.specs.Steps.{forward_all}
use Rattle.model.specs.Pairs.{Pair, trades, pairs_at, traded, record_of}
use Rattle.model.proofs.Steps.ChainLaws.{up-inner, up-parts}
use Rattle.model.proofs.Listing.LineOrderLaws.{up_from-mem}
use Rattle.model.proofs.Promise.TradedLaws.{flat_map-by-index, traded-by-source}
use Rattle.pair_partners.specs.Partners.{between}
use Rattle.pair_search.specs.Searches.{record_words_of, words_with, words_from, words_before}

-- ---- a part of a list, by the places of its items

drop-by-index : {A B : Type 0} (f : A → List B) (x : ℕ) (l : List A) (d : A)
    → flat_map f (drop x l) ≡ flat_map (λ i. f (get_or l i d)) (up_from x (length l - x))
unfolding flat_map up_from
drop-by-index f zero l d = flat_map-by-index f l d ∙ ap (λ n. flat_map (λ i. f (get_or l i d)) (up_from 0 n)) (sym (sub-zero (length l)))
drop-by-index f (suc x) [] d = ap (λ n. flat_map (λ i. f (get_or [] i d)) (up_from (suc x) n)) (let e : 0 ≡ 0 - suc x = omega arith in e)
drop-by-index f (suc x) (y ∷ l) d = drop-by-index f x l d
    ∙ sym (ap (flat_map (λ i. f (get_or (y ∷ l) i d))) (ap (up_from (suc x)) (let e : suc (length l) - suc x ≡ length l - x = omega arith in e)
    ∙ up-inner x (length l - x)) ∙ flat_map-map (λ i. f (get_or (y ∷ l) i d)) suc (up_from x (length l - x)))

take-by-index : {A B : Type 0} (f : A → List B) (x : ℕ) (l : List A) (d : A) → x ≤ length l
    → flat_map f (take x l) ≡ flat_map (λ i. f (get_or l i d)) (up_from 0 x)
take-by-index f x l d h =
    flat_map-by-index f (take x l) d ∙ ap (λ n. flat_map (λ i. f (get_or (take x l) i d)) (up_from 0 n)) (length-take-le x l h)
    ∙ flat_map-same-on (λ i. f (get_or (take x l) i d)) (λ i. f (get_or l i d)) (up_from 0 x)
    (λ i m. let b = (up_from-mem 0 x m).1 in ap f (get_or-take x l i d (omega arith)))

-- ---- the words of pairs

abbrev pub pair_words : Pair → List ℤ
pair_words r = record_words_of (record_of r)

module _ (ts : List Step) (N : Nest) where
  abbrev pub points : List (List ℤ)
  points = iterations N.loops

  -- the pairs whose source is this iteration
  abbrev pub pairs_with : List ℤ → List Pair
  pairs_with p = flat_map (λ q. select (trades (forward_all ts) (accesses N.statements)) (pairs_at (length N.statements) p q)) points

  -- the words of those whose source stands at place x
  abbrev pub words_at : ℕ → List (List ℤ)
  words_at x = map pair_words (pairs_with (get_or points x []))

  with_append : (l m : List (List ℤ)) → words_with ts N (l ++ m) ≡ words_with ts N l ++ words_with ts N m
  unfolding words_with
  with_append l m = ap (map pair_words) (flat_map-append pairs_with l m) ∙ map-append pair_words (flat_map pairs_with l) (flat_map pairs_with m)

  pub words-all : words_from ts N 0 ≡ map pair_words (traded ts N)
  unfolding words_from words_with
  words-all = ap (map pair_words) (sym (traded-by-source ts N))

  pub words-parts : (x : ℕ) → words_from ts N 0 ≡ words_before ts N x ++ words_from ts N x
  unfolding words_from words_before
  words-parts x = ap (words_with ts N) (sym (take-append-drop x points)) ∙ with_append (take x points) (drop x points)

  -- past s records from place x on, among all
  pub from-drop : (x s : ℕ) → drop s (words_from ts N x) ≡ drop (length (words_before ts N x) + s) (words_from ts N 0)
  from-drop x s =
      ap (drop s) (sym (drop_at (words_before ts N x) (words_from ts N x) (length (words_before ts N x)) refl))
      ∙ drop-drop s (length (words_before ts N x)) (words_before ts N x ++ words_from ts N x)
      ∙ ap (drop (length (words_before ts N x) + s)) (sym (words-parts x))

  pub before-first : words_before ts N 0 ≡ []
  unfolding words_before words_with flat_map
  before-first = refl

  -- ---- source by source

  pub from_is : (x : ℕ) → words_from ts N x ≡ flat_map words_at (between x (length points))
  unfolding words_from words_with between
  from_is x = map-flat_map pair_words pairs_with (drop x points) ∙ drop-by-index (λ p. map pair_words (pairs_with p)) x points []

  before-is : (x : ℕ) → x ≤ length points → words_before ts N x ≡ flat_map words_at (up_from 0 x)
  unfolding words_before words_with
  before-is x h = map-flat_map pair_words pairs_with (take x points) ∙ take-by-index (λ p. map pair_words (pairs_with p)) x points [] h

  pub before_more : (a b : ℕ) → a ≤ b → b ≤ length points → words_before ts N b ≡ words_before ts N a ++ flat_map words_at (between a b)
  unfolding between
  before_more a b h g =
      let e : b ≡ a + (b - a) = omega arith in
      before-is b g ∙ ap (flat_map words_at) (ap (up_from 0) e ∙ up-parts 0 a (b - a) ∙ ap (λ i. up_from 0 a ++ up_from i (b - a)) (zero-add a))
      ∙ flat_map-append words_at (up_from 0 a) (up_from a (b - a))
      ∙ ap (◌++ flat_map words_at (up_from a (b - a))) (sym (before-is a (omega arith)))
