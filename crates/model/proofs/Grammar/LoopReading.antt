-- The readers of the loops, each with its ranges, the sizes of its lists and its words.
use mathlib.Core.Path.{◌≡◌, refl, ap, ◌∙◌}
use mathlib.Core.List.{List, [], ◌∷◌, ◌++◌, flat_map, append-nil}
use Prim.Native.Nat.{ℕ, zero, suc}
use lib.IntN.{pos}
use lib.ListN.{length}
use Rattle.lists.specs.Membership.{All}
use Rattle.lists.proofs.MembershipLaws.{all_nil, all_cons}
use Rattle.lists.proofs.FlatMapLaws.{flat_map-alone}
use Rattle.model.specs.Ticket.{Limit, Loop}
use Rattle.model.specs.Grammar.{times, limit, side, loop, loops_from, loops, number}
use Rattle.model.specs.Encode.{counted, limit_words, loop_words}
use Rattle.model.specs.Shape.{Sized, Shaped}
use Rattle.model.specs.Ranges.{Small, LimitRanges, LoopRanges}
use Rattle.model.proofs.Grammar.ReaderLaws.{Meets, As, bind, done-meets, meets-map, Long, Few, counted-meets, natural-meets, number-meets}
use Rattle.model.proofs.Grammar.ReaderLaws.{times-meets}

-- ---- numbers

pub numbers-meet : (n : ℕ) → Meets (times n number) (As (Long n (All Small)) (λ l. l))
numbers-meet n = meets-map (λ l ws h. record { holds = h.holds; words = h.words ∙ flat_map-alone l }) (times-meets n number-meets)

-- ---- loops

-- with k loops outside
pub record LimitRead (k : ℕ) (l : Limit) : Type 0 where
  pub ranges : LimitRanges l
  pub sized : length l.coefficients ≡ k

pub limit-meets : (k : ℕ) → Meets (limit k) (As (LimitRead k) limit_words)
unfolding limit limit_words
limit-meets k = bind (natural-meets 1 32767) (λ p r. bind number-meets (λ c s. bind (numbers-meet k) (λ cs e.
    done-meets (record { multiplier = p; constant = c; coefficients = cs })
    (record {
      holds = record { ranges = record { multiplier = r; constant = s; coefficients = e.holds }; sized = e.number };
      words = ap
          (λ l. pos p ∷ c ∷ l) (append-nil cs);
    }))))

pub side-meets : (m k : ℕ) → Meets (side m k) (As (Few 1 m (All (LimitRead k))) (counted limit_words))
unfolding side
side-meets m k = counted-meets limit_words 1 m (λ n _. times-meets n (limit-meets k))

-- at most m limits a side
pub record LoopRead (m k : ℕ) (L : Loop) : Type 0 where
  pub ranges : LoopRanges m L
  pub sized : Sized k L.lower × Sized k L.upper

pub loop-meets : (m k : ℕ) → Meets (loop m k) (As (LoopRead m k) loop_words)
unfolding loop loop_words
loop-meets m k = bind (side-meets m k) (λ l h. bind (side-meets m k) (λ u g. done-meets (record { lower = l; upper = u }) (record {
  holds = record {
    ranges = record { few-lower = h.few; few-upper = g.few; lower = λ x i. (h.holds x i).ranges; upper = λ x i. (g.holds x i).ranges };
    sized = (λ x i. (h.holds x i).sized, λ x i. (g.holds x i).sized);
  };
  words = ap (counted limit_words l ++◌) (append-nil (counted limit_words u));
})))

-- inside k others
pub record LoopsRead (m k : ℕ) (N : List Loop) : Type 0 where
  pub ranges : All (LoopRanges m) N
  pub shaped : Shaped k N

pub loops_from-meets : (m k n : ℕ) → Meets (loops_from m k n) (As (Long n (LoopsRead m k)) (flat_map loop_words))
unfolding loops_from flat_map
loops_from-meets m k zero = done-meets [] (record {
  holds = record
      { number = refl; holds = record { ranges = all_nil (LoopRanges m); shaped = tt } };
  words = refl;
})
loops_from-meets m k (suc n) = bind (loop-meets m k) (λ L h. bind (loops_from-meets m (suc k) n) (λ N g. done-meets (L ∷ N) (record {
  holds = record {
    number = ap suc g.number;
    holds = record
        { ranges = all_cons (LoopRanges m) h.ranges g.holds.ranges; shaped = (h.sized, g.holds.shaped) };
  };
  words = ap (loop_words L ++◌) (append-nil (flat_map loop_words N));
})))

pub loops-meets : (d m : ℕ) → Meets (loops d m) (As (Few 1 d (LoopsRead m 0)) (counted loop_words))
unfolding loops
loops-meets d m = counted-meets loop_words 1 d (λ n _. loops_from-meets m 0 n)
