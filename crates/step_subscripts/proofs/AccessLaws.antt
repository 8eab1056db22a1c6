-- Accesses after a step, one after another as a loop of the code goes through them.
use mathlib.Core.Path.{◌≡◌, refl, sym, ◌∙◌, ap, ap₂, subst}
use mathlib.Core.Bool.{Bool, true, false, ◌&&◌, and-false}
use mathlib.Core.List.{List, [], ◌∷◌, ◌++◌, map, map-append}
use Prim.Native.Nat.{ℕ, zero, suc, ◌+◌, ◌*◌, ◌-◌, ◌≤◌, ◌<◌}
use native.Mathlib.Omega.{arith}
use native.Mathlib.Nat.{zero-add}
use lib.IntN.{ℤ}
use lib.ListN.{length, get_or, take, drop}
use Rattle.integers.specs.Affine.{Within}
use Rattle.lists.specs.Tests.{all}
use Rattle.lists.proofs.TestLaws.{all_join}
use Rattle.model.specs.Ticket as Model
use Rattle.model.specs.Grammar.{depth_after, access_room}
use Rattle.model.specs.Limits.{subscript_after, access_after}
use Rattle.model.specs.Judge.{small_access}
use Rattle.nest_flat.specs.Layout.{forms_from, access_at, accesses_from, AccessesOk}
use Rattle.nest_elements.proofs.LayoutLaws.{array-in, array-ends}
use Rattle.nest_flat.proofs.FlatNestLaws.{accesses-append}
use Rattle.step_kinds.specs.Kinds.{stage_of}
use Rattle.step_kinds.specs.declared.Stage.{Stage}
use Rattle.step_subscripts.specs.After.{small_subscript, subscripts_after, accesses_after, ChangeIn, Changed, Changes, AccessesIn, AccessesAfter}
use Rattle.step_subscripts.proofs.FormLaws.{rest_more, forms-front, forms-rest}
use Rattle.step_subscripts.proofs.ChangeLaws.{depth-few, no}

-- the number of subscripts of access k
abbrev pub width_at : List ℕ → List ℕ → ℕ → ℕ
width_at o a k = get_or a (get_or o k 0 * 4) 0

same-access : {i : ℕ} {ss ts : List Model.Subscript} → ss ≡ ts
    → ◌≡◌ {A = Model.Access} (record { array = i; subscripts = ss }) (record { array = i; subscripts = ts })
same-access {i} e j = record { array = i; subscripts = e j }

module _ (o a : List ℕ) (n : ℕ) (shallow : n ≤ 6) (s t : List ℤ) (m : ℕ) (e : take m s ≡ take m t) where
  accesses-front : (k count : ℕ) → ((i : ℕ) → i < count → width_at o a (k + i) ≤ 3) → (k + count) * access_room ≤ m
      → accesses_from s o a n k count ≡ accesses_from t o a n k count
  unfolding accesses_from access_at
  accesses-front k zero d h = refl
  accesses-front k (suc count) d h =
      let z : k + 0 ≡ k = omega arith in
      let q : width_at o a k ≤ 3 = subst (λ i. width_at o a i ≤ 3) z (d 0 (omega arith)) in
      ap₂ ◌∷◌ (same-access (forms-front n shallow s t m e (k * 3) (width_at o a k) (omega arith)))
      (accesses-front (suc k) count (λ i g. let y : k + suc i ≡ suc k + i = omega arith in subst (λ x. width_at o a x ≤ 3) y
      (d (suc i) (omega arith))) (omega arith))

-- ---- what a loop keeps: the first k accesses are changed, and all passed

pub record Passed (t : Model.Step) (w : List ℤ) (o a : List ℕ) (n : ℕ) (v : List ℤ) (k : ℕ) : Type 0 where
  pub low : k ≤ length o
  pub room : length v ≡ length w
  pub small : Within 32767 v
  pub passed : all small_access (accesses_after t w o a n k) ≡ true
  pub made : accesses_from v o a (depth_after t n) 0 k ≡ accesses_after t w o a n k
  pub behind : drop (k * access_room) v ≡ drop (k * access_room) w

module _ (w : List ℤ) (o a : List ℕ) (n : ℕ) (t : Stage) (p : AccessesIn w o a n t) where
  abbrev T' : Model.Step
  T' = stage_of t

  abbrev held : AccessesOk w o a n
  held = p.held

  pub passed_none : Passed T' w o a n w 0
  unfolding all accesses_from
  passed_none = record { low = omega arith; room = refl; small = held.small; passed = refl; made = refl; behind = refl }

  pub width_few : (k : ℕ) → k < length o → width_at o a k ≤ 3
  width_few k h = held.dimensions (get_or o k 0) (held.there k h)

  pub width-inside : (k : ℕ) → k < length o → get_or o k 0 * 4 + 4 ≤ length a
  width-inside k h = array-ends a (get_or o k 0) (array-in w o a n (get_or o k 0) held (held.there k h))

  join-after : (k b : ℕ) → accesses_after T' w o a n (k + b) ≡ accesses_after T' w o a n k ++ map (access_after T') (accesses_from w o a n k b)
  join-after k b = ap (map (access_after T')) (accesses-append w o a n 0 k b
      ∙ ap (λ i. accesses_from w o a n 0 k ++ accesses_from w o a n i b) (zero-add k))
      ∙ map-append (access_after T') (accesses_from w o a n 0 k) (accesses_from w o a n k b)

  join-tests : (k b : ℕ) → all small_access (accesses_after T' w o a n (k + b)) ≡ all small_access (accesses_after T' w o a n k) && all small_access
      (map (access_after T') (accesses_from w o a n k b))
  join-tests k b = ap (all small_access) (join-after k b) ∙ all_join small_access (accesses_after T' w o a n k)
      (map (access_after T') (accesses_from w o a n k b))

  module _ (v : List ℤ) (k : ℕ) (i : Passed T' w o a n v k) (h : k < length o) where
    pub next-in : (m : ℕ) → m ≡ depth_after T' n → ChangeIn v (k * 3) (width_at o a k) n m t
    next-in m e = let d = width_few k h in let l = held.words in let r = i.room
        in record { step = p.step; depth = e; inside = omega arith; small = i.small }

    -- its subscripts are still as they were
    later : forms_from v n (k * 3) (width_at o a k) ≡ forms_from w n (k * 3) (width_at o a k)
    later = let q : k * access_room ≡ k * 3 * 8 = omega arith in
        forms-rest n v w (k * 3) (width_at o a k) (subst (λ x. drop x v ≡ drop x w) q i.behind)

    -- the test of an access is that of its subscripts
    one-test : (b : Bool) → all small_subscript (subscripts_after T' v n (k * 3) (width_at o a k)) ≡ b
        → small_access (access_after T' (access_at w o a n k)) ≡ b
    unfolding small_access access_after access_at
    one-test b e = ap (λ l. all small_subscript (map (subscript_after T') l)) (sym later) ∙ e

    head-test : (r : ℕ) (b : Bool) → small_access (access_after T' (access_at w o a n k)) ≡ b
        → all small_access (map (access_after T') (accesses_from w o a n k (suc r))) ≡ b && all small_access
        (map (access_after T') (accesses_from w o a n (suc k) r))
    unfolding all accesses_from
    head-test r b e = ap (◌&& all small_access (map (access_after T') (accesses_from w o a n (suc k) r))) e

    passed-broken : all small_subscript (subscripts_after T' v n (k * 3) (width_at o a k)) ≡ false
        → all small_access (accesses_after T' w o a n (length o)) ≡ false
    passed-broken e =
        let r = length o - suc k in
        let q : length o ≡ k + suc r = omega arith in
        ap (λ c. all small_access (accesses_after T' w o a n c)) q ∙ join-tests k (suc r)
        ∙ ap (all small_access (accesses_after T' w o a n k) &&◌) (head-test r false (one-test false e))
        ∙ and-false (all small_access (accesses_after T' w o a n k))

    module _ (u : List ℤ) (c : Changed T' v n (k * 3) (width_at o a k) u) where
      one-made : accesses_from u o a (depth_after T' n) k 1 ≡ map (access_after T') (accesses_from w o a n k 1)
      unfolding accesses_from access_at access_after
      one-made = ap (◌∷ []) (same-access (c.made ∙ ap (map (subscript_after T')) later))

      one-passed : all small_access (map (access_after T') (accesses_from w o a n k 1)) ≡ true
      unfolding all accesses_from
      one-passed = head-test 0 true (one-test true c.passed)

      earlier : accesses_from u o a (depth_after T' n) 0 k ≡ accesses_from v o a (depth_after T' n) 0 k
      earlier = let q : k * 3 * 8 ≡ k * access_room = omega arith in
          accesses-front o a (depth_after T' n) (depth-few n t p.step) u v (k * access_room) (subst (λ x. take x u ≡ take x v) q c.before) 0 k
          (λ j g. width_few (0 + j) (omega arith)) (omega arith)

      passed-next : Passed T' w o a n u (k + 1)
      passed-next =
          let d = width_few k h in
          let m = depth_after T' n in
          record {
            low = omega arith;
            room = c.room ∙ i.room;
            small = c.small;
            passed = join-tests k 1 ∙ ap₂ ◌&&◌ i.passed one-passed;
            made = accesses-append u o a m 0 k 1 ∙ ap (λ j. accesses_from u o a m 0 k ++ accesses_from u o a m j 1) (zero-add k)
                ∙ ap₂ ◌++◌ (earlier ∙ i.made) one-made ∙ sym (join-after k 1);
            behind = rest_more ((k * 3 + width_at o a k) * 8) u v c.behind ((k + 1) * access_room) (omega arith)
                ∙ rest_more (k * access_room) v w i.behind ((k + 1) * access_room) (omega arith);
          }

    module _ (u : List ℤ) (r : Bool) (g : Changes T' v n (k * 3) (width_at o a k) u r) where
      pub next-fails : r ≡ false → AccessesAfter T' w o a n u false
      next-fails e = record {
        room = g.room ∙ i.room;
        test = sym (passed-broken (sym g.test ∙ e));
        made = λ b. absurd (no b);
        held = λ b.
            absurd (no b);
      }

      pub next-passes : r ≡ true → Passed T' w o a n u (k + 1)
      next-passes e = passed-next u (g.changed e)

  pub passed-all : (v : List ℤ) (k : ℕ) → Passed T' w o a n v k → length o ≤ k → AccessesAfter T' w o a n v true
  passed-all v k i h =
      let l = i.low in
      let q : k ≡ length o = omega arith in record {
        room = i.room;
        test = sym (subst (λ c. all small_access (accesses_after T' w o a n c) ≡ true) q i.passed);
        made = λ _. subst (λ c. accesses_from v o a (depth_after T' n) 0 c ≡ accesses_after T' w o a n c) q i.made;
        held = λ _. record {
          words = i.room ∙ held.words;
          many = held.many;
          few = held.few;
          shallow = depth-few n t p.step;
          small = i.small;
          dimensions = held.dimensions;
          extents = held.extents;
          there = held.there;
        };
      }
