-- A point through the first steps of a ticket: how many indices it has and how large they are, the step at a place, and what the loops keep.
use mathlib.Core.Path.{◌≡◌, refl, sym, ◌∙◌, ap, subst}
use mathlib.Core.List.{List, [], ◌∷◌, ◌++◌, map}
use Prim.Native.Nat.{ℕ, zero, suc, ◌+◌, ◌≤◌, ◌<◌}
use native.Mathlib.Omega.{arith}
use native.Mathlib.Numerals.{add-one}
use lib.IntN.{ℤ}
use lib.ListN.{length, get_or, take, drop, length-map, get_or-map}
use lib.Seq.{length-take-le, drop-cons, get_or-take, take-suc}
use Rattle.integers.specs.Affine.{Within}
use Rattle.integers.proofs.AffineLaws.{within_more}
use Rattle.model.specs.Grammar.{depth_after, most_loops}
use Rattle.model.specs.Ranges.{StepThere, StepsThere}
use Rattle.model.specs.Steps.{forward, forward_all}
use Rattle.model.specs.Ticket as Model
use Rattle.model.specs.Ticket.{Loop, exchange, reversal, skew, section, circulation}
use Rattle.model.proofs.Steps.LengthLaws.{There, loops-length, depth-after}
use Rattle.nest_rows.specs.Rows.{RowIs}
use Rattle.step_kinds.specs.Kinds.{step_of}
use Rattle.step_kinds.specs.declared.Step.TheVariants as Kind
use Rattle.ticket_steps.specs.Steps.{steps_of, StepsIn}
use Rattle.ticket_steps.specs.declared.Numbered.{Numbered}
use Rattle.ticket_steps.specs.declared.Steps.{Steps}
use Rattle.step_points.specs.Points.{farthest, reach, PointIn, PointAfter, after_steps, StepsTaken, PointMoved, DepthAfter}
use Rattle.step_points.proofs.GrowthLaws.{within-forward, reach-low, reach-small}

-- ---- one step: the number of indices

names : (n : ℕ) (t : Model.Step) → StepThere n t → There t n
names n (exchange a) h = h
names n (reversal a) h = h
names n (skew a d c) h = h.0
names n (section a w) h = h.0
names n (circulation a b) h = tt

pub forward-length : (t : Model.Step) (p : List ℤ) → StepThere (length p) t → length (forward t p) ≡ depth_after t (length p)
forward-length t p h =
    let N : List Loop = map (λ (x : ℤ). record { lower = []; upper = [] }) p in
    let e : length N ≡ length p = length-map p (λ (x : ℤ). record { lower = []; upper = [] }) in
    sym (loops-length t N p e) ∙ depth-after t N (subst (There t) (sym e) (names (length p) t h)) ∙ ap (depth_after t) e

depth-fits : (n : ℕ) (t : Model.Step) → StepThere n t → n ≤ most_loops → depth_after t n ≤ most_loops
unfolding depth_after
depth-fits n (exchange a) h g = g
depth-fits n (reversal a) h g = g
depth-fits n (skew a d c) h g = g
depth-fits n (section a w) h g = h.1
depth-fits n (circulation a b) h g = g

-- ---- several steps

pub forward-append : (ts us : List Model.Step) (p : List ℤ) → forward_all (ts ++ us) p ≡ forward_all us (forward_all ts p)
unfolding forward_all
forward-append [] us p = refl
forward-append (t ∷ ts) us p = forward-append ts us (forward t p)

there-take : (n k : ℕ) (ts : List Model.Step) → StepsThere n ts → StepsThere n (take k ts)
there-take n zero ts h = tt
there-take n (suc k) [] h = tt
there-take n (suc k) (t ∷ ts) h = (h.0, there-take (depth_after t n) k ts h.1)

within-forward_all : (ts : List Model.Step) (n k : ℕ) (p : List ℤ) → StepsThere n ts → Within (reach k) p
    → Within (reach (length ts + k)) (forward_all ts p)
unfolding forward_all
within-forward_all [] n k p h w = let e : k ≡ 0 + k = omega arith in subst (λ i. Within (reach i) p) e w
within-forward_all (t ∷ ts) n k p h w =
    let e : length ts + suc k ≡ suc (length ts) + k = omega arith in
    subst (λ i. Within (reach i) (forward_all ts (forward t p))) e
    (within-forward_all ts (depth_after t n) (suc k) (forward t p) h.1 (unfold reach in within-forward (reach k) n t h.0 (reach-low k) p w))

-- ---- the steps of a ticket

-- the first k steps lead from n loops to d
pub record Reached (S : Steps) (n done k d : ℕ) : Type 0 where
  pub few : k ≤ done
  pub shallow : d ≤ most_loops
  pub there : StepsThere d (drop k (steps_of S))
  pub level : (p : List ℤ) → length p ≡ n → length (after_steps S k p) ≡ d

-- and take the point p to that of the row
pub record Moved (S : Steps) (n done : ℕ) (p row : List ℤ) (k d : ℕ) : Type 0 where
  pub reached : Reached S n done k d
  pub is : RowIs d row (after_steps S k p)

module _ {S : Steps} (j : StepsIn S) where
  pub steps-length : length (steps_of S) ≡ S.count
  unfolding steps_of
  steps-length = let f = j.few in let r = j.room in
      length-map (take S.count S.steps) (λ (x : Numbered). step_of x.step) ∙ length-take-le S.count S.steps (omega arith)

  -- what a place outside the array would hold
  abbrev none : Numbered
  none = record { number = 0; step = Kind.Exchange (record { outer = 0 }) }

  pub step_is : (k : ℕ) → k < S.count → step_of (get_or S.steps k none).step ≡ get_or (steps_of S) k (exchange 0)
  unfolding steps_of
  step_is k h = sym (get_or-map (λ (x : Numbered). step_of x.step) (take S.count S.steps) k none
      ∙ ap (λ (x : Numbered). step_of x.step) (get_or-take S.count S.steps k none h))

module _ {S : Steps} {n done : ℕ} (i : StepsTaken S n done) where
  pub steps-near : (k : ℕ) → k ≤ done → (p : List ℤ) → Within 100000 p → Within (reach k) (after_steps S k p)
  unfolding reach
  steps-near k h p w =
      let f = i.few in
      let e = steps-length i.steps in
      let l : length (take k (steps_of S)) + 0 ≡ k = let q = length-take-le k (steps_of S) (omega arith) in omega arith in
      subst (λ m. Within (reach m) (after_steps S k p)) l
      (within-forward_all (take k (steps_of S)) n 0 p (there-take n k (steps_of S) i.there) w)

  -- ---- step k

  pub step-in : (k : ℕ) → k < done → StepsIn S × (k < S.count)
  step-in k h = let f = i.few in (i.steps, omega arith)

  module _ (k : ℕ) (h : k < done) (t : Model.Step) (q : t ≡ get_or (steps_of S) k (exchange 0)) where
    inside : k < length (steps_of S)
    inside = let f = i.few in let e = steps-length i.steps in omega arith

    next-is : drop k (steps_of S) ≡ t ∷ drop (suc k) (steps_of S)
    next-is = drop-cons (steps_of S) k (exchange 0) inside ∙ ap (◌∷ drop (suc k) (steps_of S)) (sym q)

    after_next : (p : List ℤ) → after_steps S (suc k) p ≡ forward t (after_steps S k p)
    unfolding forward_all
    after_next p =
        ap (λ ts. forward_all ts p) (take-suc (steps_of S) k (exchange 0) inside ∙ ap (λ u. take k (steps_of S) ++ (u ∷ [])) (sym q))
        ∙ forward-append (take k (steps_of S)) (t ∷ []) p

    -- ---- the number of loops

    module _ (d : ℕ) (v : Reached S n done k d) where
      next-there : StepsThere d (t ∷ drop (suc k) (steps_of S))
      next-there = subst (StepsThere d) next-is v.there

      pub one-reached : (m : ℕ) → m ≡ depth_after t d → Reached S n done (k + 1) m
      one-reached m e = rw (add-one k, e) (record {
        few = omega arith;
        shallow = depth-fits d t next-there.0 v.shallow;
        there = next-there.1;
        level = λ p a.
            let l = v.level p a in
            ap length (after_next p)
            ∙ forward-length t (after_steps S k p) (subst (λ m. StepThere m t) (sym l) next-there.0)
            ∙ ap (depth_after t) l;
      })

    -- ---- a point

    module _ (p : List ℤ) (w : Within 100000 p) (row : List ℤ) (d : ℕ) (v : Moved S n done p row k d) where
      pub point-in : PointIn row d t
      point-in = let f = i.few in let g = i.steps.few in record {
        shallow = v.reached.shallow;
        there = (next-there d v.reached).0;
        near = subst (Within farthest) (sym v.is.is)
            (within_more (after_steps S k p) (steps-near k v.reached.few p w) (reach-small k (omega arith)));
      }

      pub one-moved : (next : List ℤ) (m : ℕ) → m ≡ depth_after t d → PointAfter row d t next → Moved S n done p next (k + 1) m
      one-moved next m e a = record {
        reached = one-reached d v.reached m e;
        is = record {
          is = ap (λ m. take m next) e ∙ a.is.is ∙ ap (forward t) v.is.is ∙ sym (ap (λ k. after_steps S k p) (add-one k) ∙ after_next p);
          room = a.is.room;
        };
      }

  -- ---- none, and all

  pub none-reached : Reached S n done 0 n
  unfolding forward_all
  none-reached = record { few = omega arith; shallow = i.shallow; there = i.there; level = λ p e. e }

  pub all-reached : (k d : ℕ) → Reached S n done k d → done ≤ k → DepthAfter S n done d
  all-reached k d v h = let f = v.few in let e : k ≡ done = omega arith in record {
    shallow = v.shallow;
    level = subst (λ k. (p : List ℤ) → length p ≡ n → length (after_steps S k p) ≡ d) e v.level;
  }

  pub none-moved : (row : List ℤ) → length row ≡ 6 → Moved S n done (take n row) row 0 n
  unfolding forward_all
  none-moved row l = record { reached = none-reached; is = record { is = refl; room = l } }

  pub all_moved : (p : List ℤ) → Within 100000 p → (row : List ℤ) (k d : ℕ) → Moved S n done p row k d → done ≤ k
      → PointMoved S done p (record { row = row; depth = d })
  all_moved p w row k d v h =
      let f = v.reached.few in
      let e : k ≡ done = omega arith in
      let r : RowIs d row (after_steps S done p) = subst (λ k. RowIs d row (after_steps S k p)) e v.is in
      record { shallow = v.reached.shallow; is = r; near = subst (Within (reach done)) (sym r.is) (steps-near done (omega arith) p w) }
