-- A part of a nest, as its corner is. In order: the shape of a nest on flat slices (`nest-shaped`); the points of a narrower nest are points of the
-- other (`part-points`); its flat nest (`part-flat-nest`, `part-formed`); its lines are lines of the other (`part-lines`).
use mathlib.Core.Path.{◌≡◌, refl, sym, ap, ◌∙◌, subst}
use mathlib.Core.List.{List, [], ◌∷◌, ◌++◌, map}
use Prim.Native.Nat.{ℕ, zero, suc, ◌+◌, ◌*◌, ◌-◌, ◌≤◌, ◌<◌}
use native.Mathlib.Omega.{arith}
use lib.IntN.{ℤ}
use lib.ListN.{length, get_or, drop, length-drop}
use lib.Seq.{length-take-le}
use Rattle.lists.specs.Membership.{Mem, All}
use Rattle.lists.proofs.TestLaws.{false-not-T}
use Rattle.model.specs.Ticket.{Limit, Statement}
use Rattle.model.specs.Points.{iterations}
use Rattle.model.specs.Inside.{Inside}
use Rattle.model.specs.Shape.{Sized, Shaped, Runs, WellFormed}
use Rattle.model.specs.Machine.{body_at}
use Rattle.model.specs.Directions.{Line}
use Rattle.model.specs.Listing.{lines_of}
use Rattle.model.specs.Answer.{accepted}
use Rattle.model.specs.Grammar.{extents, nest_room}
use Rattle.model.specs.Bounds.{subscript_at, violates, in_arrays}
use Rattle.model.specs.Promises.{source_accesses, sink_accesses}
use Rattle.model.proofs.Points.ArrayLaws.{off-outside, arrays-inside, accepted-arrays}
use Rattle.model.proofs.Points.PointLaws.{iterations-inside}
use Rattle.model.proofs.Listing.ListingLaws.{lines_of-exact}
use Rattle.nest_flat.specs.Flat.{limit_at, limits_at, loop_at, loops_from, NestOk}
use Rattle.nest_flat.specs.Layout.{access_at, accesses_from}
use Rattle.nest_flat.proofs.FlatLaws.{limits-all, nest_runs}
use Rattle.dependence_subspace.specs.Subspaces.{Narrower}
use Rattle.nest_flat.specs.FlatNests.{FlatNest, extents_in, sizes_in, accessed_in, words_in, statements_from, nest_of, FlatNestIn}
use Rattle.nest_points.proofs.NestLaws.{depth_is}
use Rattle.dependence_bounds.specs.KnownLines.{limited}

-- ---- a nest on flat slices

module _ (s : List ℤ) (c : List ℕ) (depth : ℕ) (o : NestOk s c depth) where
  sized : (k j n : ℕ) → k ≤ 6 → (j + n) * 8 ≤ nest_room → Sized k (limits_at s k j n)
  unfolding limit_at
  sized k j n h g = limits-all (λ (l : Limit). length l.coefficients ≡ k) s k j n
      (λ i q. let w = o.words in let d = length-drop ((j + i) * 8 + 2) s in length-take-le k (drop ((j + i) * 8 + 2) s) (omega arith))

  nest-shaped : (k n : ℕ) → k + n ≤ depth → Shaped k (loops_from s c k n)
  unfolding loops_from loop_at
  nest-shaped k zero h = tt
  nest-shaped k (suc n) h =
      let f = o.shallow in
      let a = (o.lower-count k (omega arith)).1 in
      let b = (o.upper-count k (omega arith)).1 in (
        (sized k (k * 32) (get_or c (k * 2) 0) (omega arith) (omega arith), sized k (k * 32 + 16) (get_or c (k * 2 + 1) 0) (omega arith) (omega arith)),
        nest-shaped (suc k) n (omega arith),
      )

-- ---- points

module _ (s t : List ℤ) (c d : List ℕ) (depth : ℕ) (o : NestOk s c depth) (h : Narrower s c depth t d) where
  inside_too : (k n : ℕ) → k + n ≤ depth → (outer y : List ℤ) → Inside (loops_from t d k n) outer y → Inside (loops_from s c k n) outer y
  unfolding loops_from
  inside_too k zero l outer [] g = tt
  inside_too k zero l outer (x ∷ y) g = absurd g
  inside_too k (suc n) l outer [] g = absurd g
  inside_too k (suc n) l outer (x ∷ y) g = (h.inside k (omega arith) outer x g.0, inside_too (suc k) n (omega arith) (outer ++ (x ∷ [])) y g.1)

  part-points : (y : List ℤ) → Mem y (iterations (loops_from t d 0 depth)) → Mem y (iterations (loops_from s c 0 depth))
  part-points y m = (iterations-inside (loops_from s c 0 depth) (nest_runs s c depth o) y).1
      (inside_too 0 depth (omega arith) [] y ((iterations-inside (loops_from t d 0 depth) (nest_runs t d depth h.nest) y).0 m))

-- ---- its flat nest

module _ (P : FlatNest) (t : List ℤ) (d : List ℕ) (h : FlatNestIn P) (g : Narrower P.limits P.counts P.depth t d) where
  abbrev C : FlatNest
  C = limited P t d

  same_from : (k i : ℕ) (ms : List ℕ) → statements_from C k i ms ≡ statements_from P k i ms
  unfolding statements_from
  same_from k i [] = refl
  same_from k i (m ∷ ms) = ap (first ∷◌) (same_from (k + m) (suc i) ms)
    where
      first : Statement
      first = record {
        rule = get_or P.rules i 0;
        constant = get_or P.constants i 0;
        writes = access_at (words_in P) (accessed_in P) (extents_in P) P.depth k ∷ [];
        reads = accesses_from (words_in P) (accessed_in P) (extents_in P) P.depth (suc k) (m - 1);
      }

  pub same-statements : (nest_of C).statements ≡ (nest_of P).statements
  unfolding nest_of
  same-statements = same_from 0 0 (sizes_in P)

  same-loops : length (nest_of C).loops ≡ length (nest_of P).loops
  same-loops = depth_is C ∙ sym (depth_is P)

  pub part-flat-nest : FlatNestIn C
  part-flat-nest = record {
    nest = g.nest;
    some = h.some;
    accesses-ok = h.accesses-ok;
    fits = h.fits;
    all-accesses = h.all-accesses;
    each = h.each;
    few-arrays = h.few-arrays;
    few-statements = h.few-statements;
    few-accesses = h.few-accesses;
    extents-length = h.extents-length;
    sizes-length = h.sizes-length;
    accessed-length = h.accessed-length;
    words-length = h.words-length;
    rules-length = h.rules-length;
    constants-length = h.constants-length;
  }

  shape : Shaped 0 (nest_of C).loops
  unfolding nest_of
  shape = nest-shaped t d P.depth g.nest 0 P.depth (omega arith)

  run : All Runs (nest_of C).loops
  unfolding nest_of
  run = nest_runs t d P.depth g.nest

  same-arrays : (nest_of C).arrays ≡ (nest_of P).arrays
  unfolding nest_of
  same-arrays = refl

  pub part-formed : WellFormed (nest_of P) → WellFormed (nest_of C)
  part-formed w = record {
    shaped = shape;
    runs = run;
    fits = rw (same-arrays, same-loops, same-statements) w.fits;
  }

  points-too : (y : List ℤ) → Mem y (iterations (nest_of C).loops) → Mem y (iterations (nest_of P).loops)
  unfolding nest_of
  points-too y m = part-points P.limits t P.counts d P.depth h.nest g y m

  -- no subscript leaves its extent at fewer points
  pub part-inside : in_arrays (nest_of P).arrays (iterations (nest_of P).loops) 1 (nest_of P).statements ≡ accepted tt
      → in_arrays (nest_of C).arrays (iterations (nest_of C).loops) 1 (nest_of C).statements ≡ accepted tt
  unfolding violates
  part-inside e = rw (same-arrays, same-statements) (accepted-arrays (nest_of P).arrays (iterations (nest_of C).loops) 1 (nest_of P).statements
      (λ s m r. false-not-T (violates (nest_of P).arrays r.point r.access)
      (arrays-inside (nest_of P).arrays (iterations (nest_of P).loops) 1 (nest_of P).statements e s m r.point
      (points-too r.point r.reached) r.access r.of)
      (off-outside (extents (nest_of P).arrays r.access.array) (map (subscript_at r.point) r.access.subscripts) r.off)))

  -- ---- its lines

  pub part-lines : (l : Line) → Mem l (lines_of (nest_of C)) → Mem l (lines_of (nest_of P))
  part-lines l m =
      let r = (lines_of-exact (nest_of C) l).0 m in
      let f = r.0 in
      let q = r.1 in
      let n : length (nest_of C).statements ≡ length (nest_of P).statements = ap length same-statements in
      (lines_of-exact (nest_of P) l).1 (
        record {
          source = subst (λ (i : ℕ). l.source < i) n f.source;
          sink = subst (λ (i : ℕ). l.sink < i) n f.sink;
          signs = f.signs
              ∙ same-loops;
        },
        record {
          early = q.early;
          late = q.late;
          early-there = points-too q.early q.early-there;
          late-there = points-too q.late q.late-there;
          order = q.order;
          from = q.from;
          to = q.to;
          from-there = subst (λ (ss : List Statement). Mem q.from (source_accesses l.kind (body_at ss l.source))) same-statements
              q.from-there;
          to-there = subst (λ (ss : List Statement). Mem q.to (sink_accesses l.kind (body_at ss l.sink))) same-statements q.to-there;
          meet = q.meet;
          vector = q.vector;
        },
      )
