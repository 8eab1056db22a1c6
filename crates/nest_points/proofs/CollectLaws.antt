-- What one level of `collect` needs, over plain lists: the last loop, then one turn, of the last loop and of another, then all.
use mathlib.Core.Path.{◌≡◌, sym, ◌∙◌, ap, subst}
use mathlib.Core.List.{List, [], ◌∷◌, ◌++◌, flat_map}
use Prim.Native.Nat.{ℕ, zero, suc, ◌+◌, ◌-◌, ◌≤◌, ◌<◌}
use native.Mathlib.Omega.{arith}
use native.Mathlib.Nat.{add-zero, add-suc, le_refl}
use native.Mathlib.Numerals.{add-one}
use lib.IntN.{ℤ, pos, ◌+ℤ◌, ◌-ℤ◌}
use lib.ListN.{length, length-append}
use Rattle.lists.specs.Parts.{put}
use Rattle.lists.proofs.FlatMapLaws.{flat_map-append, flat_map-one}
use Rattle.lists.proofs.PartLaws.{put-nil, length-put, put-put}
use Rattle.integers.specs.Difference.{size}
use Rattle.model.specs.Ticket.{Loop}
use Rattle.model.specs.Points.{span, ints}
use Rattle.nest_flat.specs.Flat.{NestOk, loop_at, loops_from}
use Rattle.nest_index_range.specs.Ranges.{RangeIn, Ranged}
use Rattle.nest_points.specs.Tallies.{through, Near}
use Rattle.nest_points.specs.Stored.{joined, CollectIn, Collected}
use Rattle.nest_index_range.proofs.RangeLaws.{range-in}
use Rattle.nest_points.proofs.ThroughLaws.{loops-none, after, through-nil, through-step, turn, no-turn}
use Rattle.nest_points.proofs.StepLaws.{within-snoc, near_step}

-- ---- joined points

joined-turn : (f : ℤ → List (List ℤ)) (a : ℤ) (t : ℕ) → joined (flat_map f (ints a (t + 1))) ≡ joined (flat_map f (ints a t)) ++ joined (f (a +ℤ pos t))
joined-turn f a t = ap joined (turn f a t) ∙ flat_map-append (λ p. p) (flat_map f (ints a t)) (f (a +ℤ pos t))

-- fewer turns, no more words
joined-grows : (f : ℤ → List (List ℤ)) (a : ℤ) (m r : ℕ) → length (joined (flat_map f (ints a m))) ≤ length (joined (flat_map f (ints a (m + r))))
joined-grows f a m zero = rw (add-zero m) (le_refl _)
joined-grows f a m (suc r) =
    let h = joined-grows f a m r in
    let e = ap length (joined-turn f a (m + r)) ∙ length-append (joined (flat_map f (ints a (m + r)))) (joined (f (a +ℤ pos (m + r)))) in
    rw (add-suc m r, ← (add-one (m + r))) (omega arith)

-- the words of the first t indices of loop k
abbrev pub words : List ℤ → List ℕ → ℕ → ℕ → List ℤ → ℤ → ℕ → List ℤ
words s c k left outer lo t = joined (flat_map (after s c k left outer) (ints lo t))

module _ {s : List ℤ} {c : List ℕ} {k left : ℕ} {outer : List ℤ} (o : List ℤ) {at : ℕ} (p : CollectIn s c k left outer (length o) at) where
  pub shallow : k + left ≤ 6
  shallow = p.nest.shallow

  pub outer-range : RangeIn s c outer
  outer-range = let e = p.stand in let h = p.some in range-in s c (k + left) outer p.nest (omega arith) p.small

  -- the same, of the indices' own number
  pub last-in : left ≡ 1 → CollectIn s c (length outer) 1 outer (length o) at
  last-in e = subst (λ (j : ℕ). CollectIn s c j 1 outer (length o) at) (sym p.stand) (subst (λ (l : ℕ). CollectIn s c k l outer (length o) at) e p)

  pub last_out : {e : List ℤ} {place : ℕ} → left ≡ 1 → Collected s c (length outer) 1 outer o e at place → Collected s c k left outer o e at place
  last_out {e} {place} h g = subst (λ (l : ℕ). Collected s c k l outer o e at place) (sym h)
      (subst (λ (j : ℕ). Collected s c j 1 outer o e at place) p.stand g)

  pub start : (lo : ℤ) → (at ≡ at + length (words s c k left outer lo 0)) × (o ≡ put o at (words s c k left outer lo 0))
  unfolding flat_map
  start lo = let e : words s c k left outer lo 0 ≡ [] = ap joined (no-turn (after s c k left outer) lo) in
      (sym (ap (λ (l : List ℤ). at + length l) e ∙ add-zero at), sym (ap (put o at) e ∙ put-nil o at))

  module _ {lo hi : ℤ} {n : ℕ} (r : Ranged (loop_at s c (length outer)) outer lo hi) (cnt : n ≡ span (hi -ℤ lo)) where
    here : Ranged (loop_at s c k) outer lo hi
    here = subst (λ (j : ℕ). Ranged (loop_at s c j) outer lo hi) p.stand r

    whole : joined (through (loops_from s c k left) outer) ≡ words s c k left outer lo n
    whole = ap joined (through-step s c k left outer lo hi n p.some here cnt)

    pub room : (t : ℕ) → t ≤ n → at + length (words s c k left outer lo t) ≤ length o
    room t h =
        let e : t + (n - t) ≡ n = omega arith in
        let g = subst (λ (m : ℕ). length (words s c k left outer lo t) ≤ length (words s c k left outer lo m)) e
        (joined-grows (after s c k left outer) lo t (n - t)) in
        let f = p.fits in let w = ap length whole in omega arith

    pub same-room : (t : ℕ) (out : List ℤ) → t ≤ n → out ≡ put o at (words s c k left outer lo t) → length out ≡ length o
    same-room t out h oe = ap length oe ∙ length-put o at (words s c k left outer lo t) (room t h)

    -- ---- one turn

    module _ {t place : ℕ} {out : List ℤ} (lt : t < n) (pe : place ≡ at + length (words s c k left outer lo t))
        (oe : out ≡ put o at (words s c k left outer lo t)) where
      -- the words of the next index
      abbrev new : List ℤ
      new = joined (after s c k left outer (lo +ℤ pos t))

      next : words s c k left outer lo (t + 1) ≡ words s c k left outer lo t ++ new
      next = joined-turn (after s c k left outer) lo t

      new-fits : place + length new ≤ length out
      new-fits =
          let a = room (t + 1) (omega arith) in
          let b = ap length next ∙ length-append (words s c k left outer lo t) new in
          let l = same-room t out (omega arith) oe in omega arith

      written : (e xs : List ℤ) (place' : ℕ) → xs ≡ new → place' ≡ place + length xs → e ≡ put out place xs
          → (place' ≡ at + length (words s c k left outer lo (t + 1))) × (e ≡ put o at (words s c k left outer lo (t + 1)))
      written e xs place' i pe' ee =
          let W = words s c k left outer lo t in
          let b = ap length next ∙ length-append W new in
          let h = ap length i in (
            omega arith,
            ee ∙ ap (put out place) i ∙ ap (λ (w : List ℤ). put w place new) oe ∙ ap (λ (j : ℕ). put (put o at W) j new) pe
                ∙ put-put o at W new (room t (omega arith)) ∙ ap (put o at) (sym next),
          )

      -- of the last loop: one point
      module _ (last : left ≡ 1) where
        point-is : outer ++ ((lo +ℤ pos t) ∷ []) ≡ new
        point-is = sym (
            ap (λ (N : List Loop). joined (through N (outer ++ ((lo +ℤ pos t) ∷ [])))) (loops-none s c (k + 1) (left - 1) (omega arith))
            ∙ ap joined (through-nil (outer ++ ((lo +ℤ pos t) ∷ []))) ∙ flat_map-one (λ p. p) (outer ++ ((lo +ℤ pos t) ∷ []))
            )

        point-length : length (outer ++ ((lo +ℤ pos t) ∷ [])) ≡ length outer + 1
        point-length = length-append outer ((lo +ℤ pos t) ∷ [])

        pub point-fits : place + (length outer + 1) ≤ length out
        point-fits = let f = new-fits in let e = ap length point-is in let l = point-length in omega arith

        pub point-out : (e : List ℤ) → e ≡ put out place (outer ++ ((lo +ℤ pos t) ∷ []))
            → (place + (length outer + 1) ≡ at + length (words s c k left outer lo (t + 1))) × (e ≡ put o at (words s c k left outer lo (t + 1)))
        point-out e = written e (outer ++ ((lo +ℤ pos t) ∷ [])) (place + (length outer + 1)) point-is (ap (place +◌) (sym point-length))

      -- of a loop with loops inside
      module _ {inner : List ℤ} (more : left ≡ 1 → ⊥) (moved : inner ≡ outer ++ ((lo +ℤ pos t) ∷ [])) where
        near : (size (lo +ℤ pos t) ≤ 100000) × Near 100000 (loops_from s c (k + 1) (left - 1)) (outer ++ ((lo +ℤ pos t) ∷ []))
        near = near_step 100000 s c k left outer lo hi n t p.some here cnt lt p.near

        new_is : joined (through (loops_from s c (k + 1) (left - 1)) inner) ≡ new
        new_is = ap (λ (outer : List ℤ). joined (through (loops_from s c (k + 1) (left - 1)) outer)) moved

        pub turn_in : CollectIn s c (k + 1) (left - 1) inner (length out) place
        turn_in = let g = p.some in let st = p.stand in let d : k + 1 + (left - 1) ≡ k + left = omega arith in record {
          nest = subst (NestOk s c) (sym d) p.nest;
          stand = ap length moved ∙ length-append outer ((lo +ℤ pos t) ∷ []) ∙ ap (◌+ 1) st;
          some = omega (arith, more);
          small = rw moved (within-snoc 100000 outer (lo +ℤ pos t) p.small near.0);
          near = rw moved near.1;
          fits = (let h = ap length new_is in let f = new-fits in omega arith);
        }

        pub turn-out : (e : List ℤ) (place' : ℕ) → Collected s c (k + 1) (left - 1) inner out e place place'
            → (place' ≡ at + length (words s c k left outer lo (t + 1))) × (e ≡ put o at (words s c k left outer lo (t + 1)))
        turn-out e place' g = written e (joined (through (loops_from s c (k + 1) (left - 1)) inner)) place' new_is g.place g.wrote

    pub level_out : (t place : ℕ) (e : List ℤ) → t ≤ n → n ≤ t → place ≡ at + length (words s c k left outer lo t)
        → e ≡ put o at (words s c k left outer lo t) → Collected s c k left outer o e at place
    level_out t place e h g pe ee =
        let q : t ≡ n = omega arith in
        let w : words s c k left outer lo t ≡ joined (through (loops_from s c k left) outer) = ap (words s c k left outer lo) q ∙ sym whole in
        record { place = pe ∙ ap (λ (l : List ℤ). at + length l) w; wrote = ee ∙ ap (put o at) w }
