-- What one level of `tally_points` needs, over plain lists: the last loop, then one turn, then all.
use mathlib.Core.Path.{◌≡◌, sym, ◌∙◌, ap, subst}
use mathlib.Core.List.{List, [], ◌∷◌, ◌++◌, flat_map}
use Prim.Native.Nat.{ℕ, suc, ◌+◌, ◌-◌, ◌≤◌, ◌<◌}
use native.Mathlib.Omega.{arith}
use lib.IntN.{ℤ, pos, ◌+ℤ◌, ◌-ℤ◌}
use lib.ListN.{length, take}
use lib.Seq.{length-take-le}
use Rattle.integers.specs.Difference.{size}
use Rattle.model.specs.Ticket.{Loop}
use Rattle.model.specs.Points.{span, ints}
use Rattle.nest_points.specs.declared.Tally.{Tally}
use Rattle.nest_flat.specs.Flat.{NestOk, loop_at, loops_from}
use Rattle.nest_index_range.specs.Ranges.{RangeIn, Ranged}
use Rattle.nest_points.specs.Tallies.{through, seen, Near, IncludeIn, TallyIn, Tallied}
use Rattle.nest_index_range.proofs.RangeLaws.{range-in}
use Rattle.nest_points.proofs.ThroughLaws.{loops-step, loops-none, after, through-step, turn, no-turn}
use Rattle.nest_points.proofs.TallyLaws.{seen-append, seen_none}
use Rattle.nest_points.proofs.StepLaws.{within-snoc, near_step}

module _ {s : List ℤ} {c : List ℕ} {k left : ℕ} {point : List ℤ} {bound most : ℕ} {a : Tally} (p : TallyIn s c k left point bound most a)
    (wide : k + left ≤ length point) where
  pub room : (k < 6) × (k < length point)
  room = let d = p.nest.shallow in let h = p.some in (omega arith, omega arith)

  pub outer-length : length (take k point) ≡ k
  outer-length = length-take-le k point (omega arith)

  pub outer-range : RangeIn s c (take k point)
  outer-range = let e = outer-length in let h = p.some in range-in s c (k + left) (take k point) p.nest (omega arith) p.small

  -- ---- the last loop

  pub leaf-in : IncludeIn s c (take k point) bound most a
  leaf-in = record { range = outer-range; bounds = p.bounds; counted = p.counted }

  last-loop : left ≡ 1 → loops_from s c k left ≡ loop_at s c (length (take k point)) ∷ []
  last-loop e = loops-step s c k left p.some ∙ rw (outer-length, loops-none s c (k + 1) (left - 1) (omega arith))

  pub leaf-out : (r : Tally) → left ≡ 1 → (r ≡ seen bound most a (through (loop_at s c (length (take k point)) ∷ []) (take k point)))
      × (r.count ≤ suc most)
      → Tallied s c k left point bound most a r
  leaf-out r e g = record {
    tallied = g.0 ∙ ap (λ (N : List Loop). seen bound most a (through N (take k point))) (sym (last-loop e));
    counted = g.1;
  }

  -- ---- loop k is walked

  -- the points of its first t indices
  abbrev pub done : ℤ → ℕ → List (List ℤ)
  done lo t = flat_map (after s c k left (take k point)) (ints lo t)

  pub start : (lo : ℤ) → a ≡ seen bound most a (done lo 0)
  start lo = seen_none bound most a p.counted ∙ ap (seen bound most a) (sym (no-turn (after s c k left (take k point)) lo))

  module _ {lo hi : ℤ} {n : ℕ} (more : left ≡ 1 → ⊥) (r : Ranged (loop_at s c (length (take k point))) (take k point) lo hi)
      (e : n ≡ span (hi -ℤ lo)) where
    two : 2 ≤ left
    two = let h = p.some in omega (arith, more)

    here : Ranged (loop_at s c k) (take k point) lo hi
    here = subst (λ (j : ℕ). Ranged (loop_at s c j) (take k point) lo hi) outer-length r

    module _ {t : ℕ} (b : Tally) (q : List ℤ) (h : t < n) (moved : take (k + 1) q ≡ take k point ++ ((lo +ℤ pos t) ∷ [])) where
      near : (size (lo +ℤ pos t) ≤ bound) × Near bound (loops_from s c (k + 1) (left - 1 - 1)) (take k point ++ ((lo +ℤ pos t) ∷ []))
      near = let g = two in near_step bound s c k (left - 1) (take k point) lo hi n t (omega arith) here e h p.near

      same-depth : k + 1 + (left - 1) ≡ k + left
      same-depth = let g = two in omega arith

      pub turn_in : b.count ≤ suc most → TallyIn s c (k + 1) (left - 1) q bound most b
      turn_in g = let w = two in let z = p.bounds.near in let i = near.0 in record {
        nest = subst (NestOk s c) (sym same-depth) p.nest;
        some = omega arith;
        small = rw moved (within-snoc 100000 (take k point) (lo +ℤ pos t) p.small (omega arith));
        near = rw moved near.1;
        bounds = p.bounds;
        counted = g;
      }

      pub turn-out : (r : Tally) → b ≡ seen bound most a (done lo t) → Tallied s c (k + 1) (left - 1) q bound most b r
          → r ≡ seen bound most a (done lo (t + 1))
      turn-out r f g =
          g.tallied
          ∙ ap (λ (outer : List ℤ). seen bound most b (through (loops_from s c (k + 1) (left - 1)) outer)) moved
          ∙ ap (λ (x : Tally). seen bound most x (after s c k left (take k point) (lo +ℤ pos t))) f
          ∙ seen-append bound most a (done lo t) (after s c k left (take k point) (lo +ℤ pos t))
          ∙ ap (seen bound most a) (sym (turn (after s c k left (take k point)) lo t))

    pub level_out : (t : ℕ) (b : Tally) → t ≤ n → n ≤ t → b.count ≤ suc most → b ≡ seen bound most a (done lo t)
        → Tallied s c k left point bound most a b
    level_out t b h g m f = let q : t ≡ n = omega arith in let w = p.some in record {
      tallied = f ∙ ap (λ (j : ℕ). seen bound most a (done lo j)) q
          ∙ ap (seen bound most a) (sym (through-step s c k left (take k point) lo hi n w here e));
      counted = m;
    }
