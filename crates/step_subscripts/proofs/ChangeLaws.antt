-- Subscripts after a step. In order: the depth after it; none, and those of two ranges; one, whose row is read, changed, tried and put back;
-- one after another, as a loop of the code goes through them.
use mathlib.Core.Path.{◌≡◌, refl, sym, ◌∙◌, ap, ap₂, subst}
use mathlib.Core.Bool.{Bool, true, false, ◌&&◌, and-true, and-false}
use mathlib.Core.List.{List, [], ◌∷◌, ◌++◌, map, map-append}
use Prim.Native.Nat.{ℕ, ◌+◌, ◌*◌, ◌-◌, ◌≤◌, ◌<◌}
use native.Mathlib.Omega.{arith}
use native.Mathlib.Nat.{add_assoc}
use lib.Dec.{le→leb}
use lib.IntN.{ℤ, pos, nat_abs}
use lib.ListN.{length, get_or, take, drop}
use lib.Seq.{length-take-le}
use Rattle.integers.specs.Affine.{Within}
use Rattle.integers.proofs.AffineLaws.{within-at, within-take}
use Rattle.integers.proofs.RangeLaws.{size-nat_abs}
use Rattle.lists.specs.Parts.{put}
use Rattle.lists.specs.Tests.{all}
use Rattle.lists.proofs.PartLaws.{length-put, take_put, drop-put}
use Rattle.lists.proofs.TestLaws.{true-T, T_true, false-not-T, all_join}
use Rattle.model.specs.Ticket as Model
use Rattle.model.specs.Grammar.{depth_after}
use Rattle.model.specs.Limits.{coefficients_after, subscript_after}
use Rattle.model.specs.Judge.{small}
use Rattle.nest_flat.specs.Layout.{form_at, forms_from}
use Rattle.step_kinds.specs.Kinds.{stage_of}
use Rattle.step_kinds.specs.declared.Stage.{Stage}
use Rattle.step_kinds.specs.declared.Stage.TheVariants.{Exchange, Reversal, Skew, Section}
use Rattle.nest_index_range.proofs.LimitLaws.{within-drop}
use Rattle.ticket_loops.proofs.PutLaws.{within-put}
use Rattle.nest_rows.specs.Rows.{RowIs, Tried}
use Rattle.nest_rows.proofs.SmallLaws.{row_small}
use Rattle.step_subscripts.specs.After.{small_subscript, StepFits, ChangeIn, subscripts_after, Changed, Changes}
use Rattle.step_subscripts.proofs.FormLaws.{front_less, rest_more, forms-front, forms-rest, forms-join, form-put}

pub depth-few : (n : ℕ) (t : Stage) → StepFits n t → depth_after (stage_of t) n ≤ 6
unfolding depth_after
depth-few n (Exchange e) f = f.few
depth-few n (Reversal e) f = f.few
depth-few n (Skew e) f = f.few
depth-few n (Section e) f = let h = f.there.1 in omega arith

pub change-shallow : (w : List ℤ) (first count n m : ℕ) (t : Stage) → ChangeIn w first count n m t → m ≤ 6
change-shallow w first count n m t p = let s = depth-few n t p.step in let d = p.depth in omega arith

-- ---- none, and two ranges

module _ (t : Model.Step) (n : ℕ) where
  after-join : (w : List ℤ) (first a b : ℕ) → subscripts_after t w n first (a + b) ≡ subscripts_after t w n first a ++ subscripts_after t w n
      (first + a) b
  after-join w first a b = ap (map (subscript_after t)) (forms-join w n first a b)
      ∙ map-append (subscript_after t) (forms_from w n first a) (forms_from w n (first + a) b)

  -- the test of all
  abbrev tests : List ℤ → ℕ → ℕ → Bool
  tests w first count = all small_subscript (subscripts_after t w n first count)

  tests-join : (w : List ℤ) (first a b : ℕ) → tests w first (a + b) ≡ tests w first a && tests w (first + a) b
  tests-join w first a b = ap (all small_subscript) (after-join w first a b)
      ∙ all_join small_subscript (subscripts_after t w n first a) (subscripts_after t w n (first + a) b)

  pub changed-none : (w : List ℤ) (first : ℕ) → Within 32767 w → Changed t w n first 0 w
  unfolding all forms_from
  changed-none w first h = record { room = refl; small = h; passed = refl; made = refl; before = refl; behind = refl }

  module _ (w : List ℤ) (first a : ℕ) (v : List ℤ) (c : Changed t w n first a v) where
    -- those behind are still as they were
    later : (b : ℕ) → forms_from v n (first + a) b ≡ forms_from w n (first + a) b
    later b = forms-rest n v w (first + a) b c.behind

    pub changed-join : depth_after t n ≤ 6 → (b : ℕ) (u : List ℤ) → Changed t v n (first + a) b u → Changed t w n first (a + b) u
    changed-join s b u d =
        let m = depth_after t n in
        record {
          room = d.room ∙ c.room;
          small = d.small;
          passed = tests-join w first a b ∙ ap₂ ◌&&◌ c.passed (ap (λ l. all small_subscript (map (subscript_after t) l)) (sym (later b))
              ∙ d.passed);
          made = forms-join u m first a b
              ∙ ap₂ ◌++◌ (forms-front m s u v ((first + a) * 8) d.before first a (omega arith) ∙ c.made)
              (d.made ∙ ap (map (subscript_after t)) (later b))
              ∙ sym (after-join w first a b);
          before = front_less ((first + a) * 8) u v d.before (first * 8) (omega arith) ∙ c.before;
          behind = subst (λ i. drop (i * 8) u ≡ drop (i * 8) w) (add_assoc first a b)
              (d.behind ∙ rest_more ((first + a) * 8) v w c.behind ((first + a + b) * 8) (omega arith));
        }

    -- one of them failed
    pub changed-broken : (count : ℕ) → a < count → all small_subscript (subscripts_after t v n (first + a) 1) ≡ false
        → all small_subscript (subscripts_after t w n first count) ≡ false
    changed-broken count h e =
        let r = count - (a + 1) in
        let q : count ≡ a + (1 + r) = omega arith in
        let f : tests w (first + a) 1 ≡ false = ap (λ l. all small_subscript (map (subscript_after t) l)) (sym (later 1)) ∙ e in
        ap (tests w first) q ∙ tests-join w first a (1 + r) ∙ ap (tests w first a &&◌)
        (tests-join w (first + a) 1 r ∙ ap (◌&& tests w (first + a + 1) r) f) ∙ and-false (tests w first a)

-- ---- one

small_at : (w : List ℤ) (i : ℕ) → Within 32767 w → small (get_or w i (pos 0)) ≡ true
unfolding small
small_at w i h = let z = get_or w i (pos 0) in let s = within-at 32767 w h i in T_true _ (le→leb (nat_abs z) 32767 (omega (arith, size-nat_abs z)))

-- the coefficients of subscript j
abbrev pub row_at : List ℤ → ℕ → ℕ → List ℤ
row_at w n j = take n (drop (j * 8 + 1) w)

pub row_in : (w : List ℤ) (j n : ℕ) → Within 32767 w → (cs : List ℤ) → RowIs n cs (row_at w n j) → Within 32767 (take n cs)
row_in w j n h cs e = subst (Within 32767) (sym e.is) (within-take 32767 (drop (j * 8 + 1) w) n (within-drop 32767 w (j * 8 + 1) h))

module _ (w : List ℤ) (j n m : ℕ) (t : Stage) (p : ChangeIn w j 1 n m t) (cs ds : List ℤ) (e : RowIs n cs (row_at w n j))
    (f : RowIs (depth_after (stage_of t) n) ds (coefficients_after (stage_of t) (take n cs))) where
  shallow : m ≤ 6
  shallow = change-shallow w j 1 n m t p

  abbrev row : List ℤ
  row = coefficients_after (stage_of t) (row_at w n j)

  row_made : take m ds ≡ row
  row_made = ap (λ i. take i ds) p.depth ∙ f.is ∙ ap (coefficients_after (stage_of t)) e.is

  row-length : length row ≡ m
  row-length = ap length (sym row_made) ∙ length-take-le m ds (let h = f.room in let s = shallow in omega arith)

  one-test : all small_subscript (subscripts_after (stage_of t) w n j 1) ≡ all small row
  unfolding all forms_from form_at subscript_after
  one-test = and-true _ ∙ ap (◌&& all small row) (small_at w (j * 8) p.small)

  module _ (v : List ℤ) (g : v ≡ put w (j * 8 + 1) row) (s : all small row ≡ true) where
    one-made : forms_from v (depth_after (stage_of t) n) j 1 ≡ subscripts_after (stage_of t) w n j 1
    unfolding forms_from form_at subscript_after
    one-made = ap (◌∷ []) (ap₂ (λ x i. form_at x i j) g (sym p.depth) ∙ form-put w j row m row-length (let h = p.inside in omega arith))

    one-changed : Changed (stage_of t) w n j 1 v
    one-changed =
        let h = p.inside in
        let l = row-length in
        let k = shallow in
        record {
          room = ap length g ∙ length-put w (j * 8 + 1) row (omega arith);
          small = subst (Within 32767) (sym g) (within-put 32767 w (j * 8 + 1) row p.small (row_small row (true-T (all small row) s)));
          passed = one-test ∙ s;
          made = one-made;
          before = ap (take (j * 8)) g ∙ take_put w (j * 8 + 1) row (j * 8) (omega arith) (omega arith);
          behind = ap (drop ((j + 1) * 8)) g ∙ drop-put w (j * 8 + 1) row ((j + 1) * 8) (omega arith) (omega arith);
        }

  pub change-tried : (v : List ℤ) (r : Bool) → Tried (all small (take m ds)) w (j * 8 + 1) (take m ds) r v → Changes (stage_of t) w n j 1 v r
  change-tried v r q =
      let a : r ≡ all small row = q.passed ∙ ap (all small) row_made in
      record { room = q.room; test = a ∙ sym one-test; changed = λ b. one-changed v (q.made b ∙ ap (put w (j * 8 + 1)) row_made) (sym a ∙ b) }

-- ---- as a loop of the code goes through them

pub no : false ≡ true → ⊥
no e = false-not-T true (sym e) tt

module _ (w : List ℤ) (first count n m : ℕ) (t : Stage) (p : ChangeIn w first count n m t) (v : List ℤ) (d : ℕ)
    (c : Changed (stage_of t) w n first d v) where
  module _ (h : d < count) where
    pub next-in : ChangeIn v (first + d) 1 n m t
    next-in = let i = p.inside in let r = c.room in record { step = p.step; depth = p.depth; inside = omega arith; small = c.small }

    module _ (u : List ℤ) (r : Bool) (g : Changes (stage_of t) v n (first + d) 1 u r) where
      pub next-fails : r ≡ false → Changes (stage_of t) w n first count u false
      next-fails e = record {
        room = g.room ∙ c.room;
        test = sym (changed-broken (stage_of t) n w first d v c count h (sym g.test ∙ e));
        changed = λ b. absurd (no b);
      }

      pub next-passes : r ≡ true → Changed (stage_of t) w n first (d + 1) u
      next-passes e = changed-join (stage_of t) n w first d v c (depth-few n t p.step) 1 u (g.changed e)

  pub all_pass : d ≤ count → count ≤ d → Changes (stage_of t) w n first count v true
  all_pass h k = let q : d ≡ count = omega arith in
      record {
        room = c.room;
        test = sym (subst (λ i. all small_subscript (subscripts_after (stage_of t) w n first i) ≡ true) q c.passed);
        changed = λ _. subst (λ i. Changed (stage_of t) w n first i v) q c;
      }
