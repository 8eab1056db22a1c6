-- A nest in parts: the rows of a part of the points, the run at one part after another, and what `run_part` asks of a part.
use mathlib.Core.Path.{◌≡◌, refl, sym, ◌∙◌, ap, subst}
use mathlib.Core.List.Memᴰ
use mathlib.Core.List.{List, [], ◌∷◌, ◌++◌, flat_map}
use Prim.Native.Nat.{ℕ, zero, suc, ◌+◌, ◌*◌, ◌-◌, ◌≤◌}
use native.Mathlib.Omega.{arith}
use native.Mathlib.Nat.{add_comm, zero-add, suc-add, zero-mul, suc-mul, add-mul, mul-le-mul, mul-le-mul_right}
use lib.IntN.{ℤ}
use lib.ListN.{length, take, drop, length-drop}
use lib.Seq.{take_all, drop-drop}
use Rattle.lists.specs.Membership.{Mem}
use Rattle.lists.specs.Parts.{rows}
use Rattle.lists.proofs.FlatMapLaws.{flat_map-append}
use Rattle.lists.proofs.TestLaws.{false-not-T}
use Rattle.model.specs.Answer.{accepted}
use Rattle.model.specs.Ticket.{Statement, Nest}
use Rattle.model.specs.Bounds.{violates, in_arrays}
use Rattle.model.specs.Machine.{body, instances, run}
use Rattle.model.specs.Store.{perform_on, run_nest}
use Rattle.model.proofs.Machine.ReorderLaws.{run-append}
use Rattle.model.proofs.Points.ArrayLaws.{off-outside, arrays-inside, accepted-arrays}
use Rattle.model.specs.Grammar.{most_points}
use Rattle.nest_flat.specs.FlatNests.{FlatNest, nest_of}
use Rattle.nest_points.specs.Nests.{PointsAre}
use Rattle.run_statements.specs.Runs.{run_at}
use Rattle.run_nest.specs.Execution.{ExecuteIn, PartIn}

-- ---- the rows of two parts

module _ (w : ℕ) where
  rows-parts : (m n : ℕ) (l : List ℤ) → rows w (m + n) l ≡ rows w m l ++ rows w n (drop (m * w) l)
  unfolding rows
  rows-parts zero n l = rw (zero-add n, zero-mul w)
  rows-parts (suc m) n l = ap (λ (k : ℕ). rows w k l) (suc-add m n) ∙ ap (take w l ∷◌)
      (rows-parts m n (drop w l) ∙ ap (λ (r : List ℤ). rows w m (drop w l) ++ rows w n r)
      (drop-drop (m * w) w l ∙ ap (λ (k : ℕ). drop k l) (add_comm w (m * w) ∙ sym (suc-mul m w))))

  -- n rows from row m on are among all k
  pub part-mem : (m n k : ℕ) (l : List ℤ) → m + n ≤ k → (x : List ℤ) → Mem x (rows w n (drop (m * w) l)) → Mem x (rows w k l)
  part-mem m n k l h x i = let e : m + n + (k - (m + n)) ≡ k = omega arith in
      subst (λ (r : List (List ℤ)). Mem x r) (sym (rows-parts (m + n) (k - (m + n)) l) ∙ ap (λ (j : ℕ). rows w j l) e)
      (Memᴰ.append_left (rows w (k - (m + n)) (drop ((m + n) * w) l)) (subst (λ (r : List (List ℤ)). Mem x r) (sym (rows-parts m n l))
      (Memᴰ.append_right (rows w m l) i)))

-- ---- one part after another

module _ (N : Nest) where
  run-parts : (ps qs : List (List ℤ)) (w : List ℕ) → run_at N (ps ++ qs) w ≡ run_at N qs (run_at N ps w)
  unfolding run_at instances
  run-parts ps qs w = let step = perform_on N.arrays N.statements in let at = body 0 (length N.statements) in
      ap (λ l. run step l w) (flat_map-append at ps qs) ∙ run-append step (flat_map at ps) (flat_map at qs) w

  pub run_none : (w : List ℕ) → run_at N [] w ≡ w
  unfolding run_at instances flat_map run
  run_none w = refl

-- where no access leaves its array, it leaves it at no part of the points
pub inside-part : (as' : List (List ℕ)) (ps qs : List (List ℤ)) (ss : List Statement) → ((p : List ℤ) → Mem p qs → Mem p ps)
    → in_arrays as' ps 1 ss ≡ accepted tt → in_arrays as' qs 1 ss ≡ accepted tt
unfolding violates
inside-part as' ps qs ss h e = accepted-arrays as' qs 1 ss (λ s m r. false-not-T (violates as' r.point r.access)
    (arrays-inside as' ps 1 ss e s m r.point (h r.point r.reached) r.access r.of) (off-outside _ _ r.off))

-- ---- the points of a nest, in parts

-- the points before `first` are passed
pub record Passed (P : FlatNest) (points : List ℤ) (count : ℕ) (w₀ w : List ℕ) (first : ℕ) : Type 0 where
  pub inside : first ≤ count
  pub same : length w ≡ length w₀
  pub done : w ≡ run_at (nest_of P) (rows P.depth first points) w₀

module _ (P : FlatNest) (points : List ℤ) (count : ℕ) (w₀ : List ℕ) (h : ExecuteIn P count (length w₀)) (p : PointsAre P points count) where
  -- one part of all points
  pub whole_in : PartIn P points count (length w₀)
  whole_in = record { flat-nest = h.flat-nest; nest = h.nest; stored = p.stored; reached = λ x m. subst (Mem x) p.are m; whole = h.whole }

  pub whole_run : (w : List ℕ) → w ≡ run_at (nest_of P) (rows P.depth count points) w₀ → w ≡ run_nest (nest_of P) w₀
  unfolding run_at run_nest
  whole_run w e = e ∙ ap (λ (ps : List (List ℤ)). run_at (nest_of P) ps w₀) p.are

  pub none_passed : Passed P points count w₀ w₀ 0
  unfolding rows
  none_passed = record { inside = omega arith; same = refl; done = sym (run_none (nest_of P) w₀) }

  module _ {w : List ℕ} {first : ℕ} (g : Passed P points count w₀ w first) where
    abbrev at : ℕ
    at = first * P.depth

    pub all-passed : count ≤ first → w ≡ run_nest (nest_of P) w₀
    all-passed l = let e : first ≡ count = (let i = g.inside in omega arith) in whole_run w
        (subst (λ (n : ℕ). w ≡ run_at (nest_of P) (rows P.depth n points) w₀) e g.done)

    pub begins : (at ≤ length points) × (at ≤ 24576)
    begins = let i = g.inside in let b = p.stored.bound in let r = p.stored.room in let q = mul-le-mul_right P.depth g.inside in
        (omega arith, mul-le-mul {n₁ = first} {m₁ = P.depth} {n₂ = most_points} {m₂ = 6} (omega arith) p.stored.few)

    -- the points from `first` on, as they are lent
    abbrev lent : List ℤ
    lent = take (length points - at) (drop at points)

    lent_is : lent ≡ drop at points
    lent_is = take_all (length points - at) (drop at points) (let l = length-drop at points in omega arith)

    module _ (n : ℕ) (l : n ≤ count - first) where
      ends : first + n ≤ count
      ends = let i = g.inside in omega arith

      pub part_in : PartIn P lent n (length w)
      part_in = let b = p.stored.bound in let r = p.stored.room in let z = ends in let q = mul-le-mul_right P.depth z in let k = add-mul
          first n P.depth in let d = length-drop at points in
          subst (λ (l : List ℤ). PartIn P l n (length w)) (sym lent_is) (record {
            flat-nest = h.flat-nest;
            nest = h.nest;
            stored = record {
              few = p.stored.few;
              bound = omega arith;
              room = omega arith;
              near = λ x m. p.stored.near x
                  (part-mem P.depth first n count points z x m);
            };
            reached = λ x m. subst (Mem x) p.are (part-mem P.depth first n count points z x m);
            whole = g.same ∙ h.whole;
          })

      pub part-passed : (e : List ℕ) → length e ≡ length w → e ≡ run_at (nest_of P) (rows P.depth n lent) w → Passed P points count w₀ e (first + n)
      part-passed e k f = record {
        inside = ends;
        same = k ∙ g.same;
        done = f ∙ ap (λ (l : List ℤ). run_at (nest_of P) (rows P.depth n l) w) lent_is
            ∙ ap (run_at (nest_of P) (rows P.depth n (drop at points))) g.done
            ∙ sym (ap (λ (ps : List (List ℤ)). run_at (nest_of P) ps w₀) (rows-parts P.depth first n points)
            ∙ run-parts (nest_of P) (rows P.depth first points) (rows P.depth n (drop at points)) w₀);
      }
