-- A flat nest after a step, from the loops and the accesses after it. In order: single accesses; statements; the nest; the test of refusal 12 on
-- the nest, as that of its loops and that of its accesses; what the flat nest has; all this from what `change_accesses` gives.
use mathlib.Core.Path.{◌≡◌, refl, sym, ◌∙◌, ap, ap₂, subst}
use mathlib.Core.Bool.{Bool, true, ◌&&◌}
use mathlib.Core.List.Memᴰ
use mathlib.Core.List.{List, [], ◌∷◌, map, flat_map, map-append}
use Prim.Native.Nat.{ℕ, zero, suc, ◌+◌, ◌*◌, ◌-◌, ◌≤◌, ◌<◌}
use native.Mathlib.Omega.{arith}
use native.Mathlib.Nat.{zero-add}
use lib.IntN.{ℤ}
use lib.ListN.{length, get_or, take, get_or-map}
use Rattle.lists.specs.Membership.{All}
use Rattle.lists.specs.Tests.{all}
use Rattle.lists.proofs.FlatMapLaws.{flat_map-map, flat_map-same, map-flat_map}
use Rattle.lists.proofs.TestLaws.{all-parts}
use Rattle.model.specs.Ticket as Model
use Rattle.model.specs.Bounds.{accesses_of}
use Rattle.model.specs.Entries.{all_accesses}
use Rattle.model.specs.Store.{sum}
use Rattle.model.specs.Grammar.{total, depth_after, most_words}
use Rattle.model.specs.Ranges.{StepThere}
use Rattle.model.specs.Limits.{loops_after, access_after, statement_after, nest_after}
use Rattle.model.specs.Judge.{small_loop, small_access, small_numbers}
use Rattle.nest_flat.specs.Flat.{loops_from, NestOk}
use Rattle.nest_flat.specs.Layout.{arrays_of, access_at, accesses_from, AccessesOk}
use Rattle.nest_flat.specs.FlatNests.{FlatNest, extents_in, sizes_in, accessed_in, words_in, statements_from, nest_of, FlatNestIn, no_access}
use Rattle.nest_flat.proofs.FlatNestLaws.{access-at, all-accesses, accessed-count}
use Rattle.step_kinds.specs.Kinds.{stage_of}
use Rattle.step_kinds.specs.declared.Stage.{Stage}
use Rattle.step_subscripts.specs.After.{accesses_after, AccessesIn, AccessesAfter}
use Rattle.step_subscripts.specs.Relaid.{Relaid, AccessesMoved}

-- ---- accesses

module _ (t : Model.Step) (v w : List ℤ) (o a : List ℕ) (m n count : ℕ) (e : accesses_from v o a m 0 count ≡ map (access_after t)
    (accesses_from w o a n 0 count)) where
  one-moved : (k : ℕ) → k < count → access_at v o a m k ≡ access_after t (access_at w o a n k)
  one-moved k h =
      ap (access_at v o a m) (sym (zero-add k))
      ∙ sym (access-at v o a m 0 count k (access_after t no_access) h)
      ∙ ap (λ l. get_or l k (access_after t no_access)) e
      ∙ get_or-map (access_after t) (accesses_from w o a n 0 count) k no_access
      ∙ ap (access_after t) (access-at w o a n 0 count k no_access h ∙ ap (access_at w o a n) (zero-add k))

  some-moved : (k many : ℕ) → k + many ≤ count → accesses_from v o a m k many ≡ map (access_after t) (accesses_from w o a n k many)
  unfolding accesses_from
  some-moved k zero h = refl
  some-moved k (suc many) h = ap₂ ◌∷◌ (one-moved k (omega arith)) (some-moved (suc k) many (omega arith))

-- ---- statements

same-statement : {r s c d : ℕ} {ws xs ys zs : List Model.Access} → r ≡ s → c ≡ d → ws ≡ xs → ys ≡ zs
    → ◌≡◌ {A = Model.Statement} (record { rule = r; constant = c; writes = ws; reads = ys })
    (record { rule = s; constant = d; writes = xs; reads = zs })
same-statement e f g h i = record { rule = e i; constant = f i; writes = g i; reads = h i }

module _ (P Q : FlatNest) (r : Relaid P Q) where
  same-accessed : accessed_in Q ≡ accessed_in P
  same-accessed = ap₂ take r.accesses r.accessed

  same-extents : extents_in Q ≡ extents_in P
  same-extents = ap₂ (λ n l. take (n * 4) l) r.arrays r.extents

  same-sizes : sizes_in Q ≡ sizes_in P
  same-sizes = ap₂ take r.statements r.sizes

  module _ (t : Model.Step) (e : AccessesMoved t P Q) where
    statements-from : (k i : ℕ) (ms : List ℕ) → All (λ m. 1 ≤ m) ms → k + sum ms ≤ P.accesses
        → statements_from Q k i ms ≡ map (statement_after t) (statements_from P k i ms)
    unfolding statements_from statement_after sum
    statements-from k i [] h g = refl
    statements-from k i (m ∷ ms) h g =
        let one = h m (Memᴰ.head refl) in
        ap₂ ◌∷◌
        (same-statement (ap (λ l. get_or l i 0) r.rules) (ap (λ l. get_or l i 0) r.constants)
        (ap (◌∷ []) (ap₂ (λ o a. access_at (words_in Q) o a Q.depth k) same-accessed same-extents
        ∙ one-moved t (words_in Q) (words_in P) (accessed_in P) (extents_in P) Q.depth P.depth P.accesses e k (omega arith)))
        (ap₂ (λ o a. accesses_from (words_in Q) o a Q.depth (suc k) (m - 1)) same-accessed same-extents
        ∙ some-moved t (words_in Q) (words_in P) (accessed_in P) (extents_in P) Q.depth P.depth P.accesses e (suc k) (m - 1) (omega arith)))
        (statements-from (k + m) (suc i) ms (λ x q. h x (Memᴰ.tail q)) (omega arith))

    module _ (h : FlatNestIn P) where
      pub statements-after : statements_from Q 0 0 (sizes_in Q) ≡ map (statement_after t) (statements_from P 0 0 (sizes_in P))
      statements-after = ap (statements_from Q 0 0) same-sizes ∙ statements-from 0 0 (sizes_in P) h.each (let s = h.all-accesses in omega arith)

      pub nest-after : loops_from Q.limits Q.counts 0 Q.depth ≡ loops_after t (loops_from P.limits P.counts 0 P.depth)
          → nest_of Q ≡ nest_after t (nest_of P)
      unfolding nest_of nest_after
      nest-after l i = record { loops = l i; arrays = arrays_of (same-extents i); statements = statements-after i }

-- ---- the test of refusal 12

module _ (P : FlatNest) (h : FlatNestIn P) where
  pub small-statements : all (λ s. all small_access (accesses_of s)) (statements_from P 0 0 (sizes_in P)) ≡ all small_access
      (accesses_from (words_in P) (accessed_in P) (extents_in P) P.depth 0 P.accesses)
  unfolding nest_of all_accesses
  small-statements = all-parts small_access accesses_of (λ s. all small_access (accesses_of s)) (λ s. refl) (statements_from P 0 0 (sizes_in P))
      ∙ ap (all small_access) (all-accesses P h)

  module _ (t : Model.Step) where
    accesses-after : (s : Model.Statement) → accesses_of (statement_after t s) ≡ map (access_after t) (accesses_of s)
    unfolding accesses_of statement_after
    accesses-after s = sym (map-append (access_after t) s.writes s.reads)

    all_after : flat_map accesses_of (map (statement_after t) (statements_from P 0 0 (sizes_in P))) ≡ map (access_after t)
        (accesses_from (words_in P) (accessed_in P) (extents_in P) P.depth 0 P.accesses)
    unfolding nest_of all_accesses
    all_after =
        let ss = statements_from P 0 0 (sizes_in P) in
        flat_map-map accesses_of (statement_after t) ss
        ∙ flat_map-same (λ s. accesses_of (statement_after t s)) (λ s. map (access_after t) (accesses_of s)) accesses-after ss
        ∙ sym (map-flat_map (access_after t) accesses_of ss)
        ∙ ap (map (access_after t)) (all-accesses P h)

    pub small-nest : small_numbers (nest_after t (nest_of P))
        ≡ all small_loop (loops_after t (loops_from P.limits P.counts 0 P.depth)) && all small_access
        (map (access_after t) (accesses_from (words_in P) (accessed_in P) (extents_in P) P.depth 0 P.accesses))
    unfolding small_numbers nest_after nest_of
    small-nest = ap (all small_loop (loops_after t (loops_from P.limits P.counts 0 P.depth)) &&◌)
        (all-parts small_access accesses_of (λ s. all small_access (accesses_of s)) (λ s. refl)
        (map (statement_after t) (statements_from P 0 0 (sizes_in P))) ∙ ap (all small_access) all_after)

-- ---- what the flat nest has

pub flat-nest-after : (P Q : FlatNest) → FlatNestIn P → Relaid P Q → NestOk Q.limits Q.counts Q.depth → 1 ≤ Q.depth
    → AccessesOk (words_in Q) (accessed_in P) (extents_in P) Q.depth → length Q.words ≡ most_words → FlatNestIn Q
flat-nest-after P Q h r n d a l =
    let o = same-accessed P Q r in
    let x = same-extents P Q r in
    let s = same-sizes P Q r in record {
      nest = n;
      some = d;
      accesses-ok = subst (λ x. AccessesOk (words_in Q) x (extents_in Q) Q.depth) (sym o)
          (subst (λ x. AccessesOk (words_in Q) (accessed_in P) x Q.depth) (sym x) a);
      fits = subst (λ e. total (arrays_of e) ≤ 16384) (sym x) h.fits;
      all-accesses = ap sum s ∙ h.all-accesses ∙ sym r.accesses;
      each = subst (All (λ m. 1 ≤ m)) (sym s) h.each;
      few-arrays = let e = r.arrays in let f = h.few-arrays in omega arith;
      few-statements = let e = r.statements in let f = h.few-statements in omega arith;
      few-accesses = let e = r.accesses in let f = h.few-accesses in omega arith;
      extents-length = ap length r.extents ∙ h.extents-length;
      sizes-length = ap length r.sizes ∙ h.sizes-length;
      accessed-length = ap length r.accessed ∙ h.accessed-length;
      words-length = l;
      rules-length = ap length r.rules ∙ h.rules-length;
      constants-length = ap length r.constants ∙ h.constants-length;
    }

-- ---- with what `change_accesses` gives

module _ (P : FlatNest) (h : FlatNestIn P) where
  -- a flat nest's accesses can be lent to it
  pub accesses-in : (t : Stage) → StepThere P.depth (stage_of t) → AccessesIn (words_in P) (accessed_in P) (extents_in P) P.depth t
  accesses-in t g = record { step = record { few = h.accesses-ok.shallow; there = g }; held = h.accesses-ok }

  module _ (t : Model.Step) (v : List ℤ) where
    pub nest-tested : (r : Bool) → AccessesAfter t (words_in P) (accessed_in P) (extents_in P) P.depth v r
        → small_numbers (nest_after t (nest_of P)) ≡ all small_loop (loops_after t (loops_from P.limits P.counts 0 P.depth)) && r
    nest-tested r a = small-nest P h t ∙ ap (all small_loop (loops_after t (loops_from P.limits P.counts 0 P.depth)) &&◌)
        (ap (λ n. all small_access (accesses_after t (words_in P) (accessed_in P) (extents_in P) P.depth n)) (sym (accessed-count P h)) ∙ sym a.test)

  module _ (Q : FlatNest) (t : Model.Step) (d : Q.depth ≡ depth_after t P.depth)
      (a : AccessesAfter t (words_in P) (accessed_in P) (extents_in P) P.depth (words_in Q) true) where
    pub accesses-moved : AccessesMoved t P Q
    accesses-moved =
        ap₂ (λ m n. accesses_from (words_in Q) (accessed_in P) (extents_in P) m 0 n) d (sym (accessed-count P h))
        ∙ a.made refl
        ∙ ap (accesses_after t (words_in P) (accessed_in P) (extents_in P) P.depth) (accessed-count P h)

    pub accesses-held : AccessesOk (words_in Q) (accessed_in P) (extents_in P) Q.depth
    accesses-held = subst (AccessesOk (words_in Q) (accessed_in P) (extents_in P)) (sym d) (a.held refl)
