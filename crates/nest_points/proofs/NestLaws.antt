-- The points that `list_points` lists of a flat nest are those of the nest that it stands for.
use mathlib.Core.Path.{◌≡◌, refl, sym, ◌∙◌, ap, subst}
use mathlib.Core.List.{List, []}
use Prim.Native.Nat.{ℕ, ◌*◌, ◌/◌}
use native.Mathlib.Omega.{arith}
use native.Mathlib.Nat.{zero-add, mul-div_cancel}
use lib.IntN.{ℤ}
use lib.ListN.{length}
use Rattle.lists.specs.Membership.{All}
use Rattle.lists.specs.Parts.{rows, put}
use Rattle.lists.proofs.PartLaws.{length-put}
use Rattle.integers.specs.Affine.{Within}
use Rattle.model.specs.Ticket.{Loop}
use Rattle.model.specs.Points.{iterations}
use Rattle.nest_flat.specs.FlatNests.{FlatNest, nest_of}
use Rattle.nest_points.specs.Tallies.{through}
use Rattle.nest_points.specs.Stored.{joined, CollectIn, Collected}
use Rattle.nest_points.specs.Nests.{ListIn, PointsAre}
use Rattle.nest_points.proofs.ThroughLaws.{loops-length}
use Rattle.nest_points.proofs.ListLaws.{words, all-points, rows_are, points_near}

module _ (P : FlatNest) where
  pub depth_is : length (nest_of P).loops ≡ P.depth
  unfolding nest_of
  depth_is = loops-length P.limits P.counts 0 P.depth

  abbrev N : List Loop
  N = (nest_of P).loops

  taken : length (joined (iterations N)) ≡ length (iterations N) * P.depth
  taken = words N P.depth depth_is

  module _ (o : List ℤ) (h : ListIn P (length o)) where
    pub list-in : CollectIn P.limits P.counts 0 P.depth [] (length o) 0
    unfolding nest_of
    list-in = record {
      nest = rw (zero-add P.depth) h.flat-nest.nest;
      stand = refl;
      some = h.flat-nest.some;
      small = tt;
      near = h.near;
      fits = rw (all-points N) (let t = taken in let f = h.fits in omega arith);
    }

    module _ (e : List ℤ) (r : ℕ) (g : Collected P.limits P.counts 0 P.depth [] o e 0 r) where
      how-many : r / P.depth ≡ length (iterations N)
      unfolding nest_of
      how-many = ap (◌/ P.depth) (g.place ∙ zero-add (length (joined (through N [])))
          ∙ ap (λ (ps : List (List ℤ)). length (joined ps)) (all-points N) ∙ taken) ∙ mul-div_cancel (length (iterations N)) h.flat-nest.some

      written : e ≡ put o 0 (joined (iterations N))
      unfolding nest_of
      written = g.wrote ∙ ap (λ (ps : List (List ℤ)). put o 0 (joined ps)) (all-points N)

      listed : rows P.depth (r / P.depth) e ≡ iterations N
      listed = rw (how-many, written) (rows_are N P.depth depth_is o)

      same_length : length e ≡ length o
      same_length = ap length written ∙ length-put o 0 (joined (iterations N)) (let t = taken in let f = h.fits in omega arith)

      pub list-out : PointsAre P e (r / P.depth) × (length e ≡ length o)
      unfolding iterations
      list-out = (
        record {
          count = how-many;
          are = listed;
          stored = record {
            few = h.flat-nest.nest.shallow;
            bound = rw how-many h.few;
            room = rw how-many (let l = same_length in let f = h.fits in omega arith);
            near = subst (All (Within 100000)) (sym listed) (points_near 100000 N [] h.near);
          };
        },
        same_length,
      )
