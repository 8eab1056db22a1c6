-- What one turn of `survey` needs: the depths before it passed, so its tally can be asked for; what the tally says of the depth; the answer.
use mathlib.Core.Path.{◌≡◌, sym, ◌∙◌, ap, subst}
use mathlib.Core.Bool.{Bool, true, false, cond}
use mathlib.Core.Logic.{⊎_elim}
use mathlib.Core.List.{List, []}
use Prim.Native.Nat.{ℕ, suc, ◌+◌, ◌-◌, ◌≤◌, ◌<◌}
use native.Mathlib.Omega.{arith}
use native.Mathlib.Nat.{zero-add, add-zero, eq-or-lt_of_le}
use lib.Dec.{ltb}
use lib.IntN.{ℤ}
use lib.ListN.{length, take}
use lib.Seq.{take-length}
use borrow.Author.Tests.{lt-ltb, le-ltb, ltb-true, ltb-false}
use Rattle.model.specs.Answer.{accepted, refused}
use Rattle.model.specs.Ticket.{Loop}
use Rattle.model.specs.Points.{points, partial_points, iterations}
use Rattle.model.specs.Bounds.{survey}
use Rattle.nest_points.specs.declared.Tally.{Tally}
use Rattle.nest_flat.specs.Flat.{NestOk, loops_from}
use Rattle.nest_flat.specs.FlatNests.{FlatNest, nest_of, FlatNestIn}
use Rattle.nest_points.specs.Tallies.{capped, seen, Bounded, TallyIn, Tallied}
use Rattle.std.specs.Prelude.{Ok, Err}
use Rattle.nest_points.specs.declared.SpaceError.TheVariants.{IndexTooLarge, CountTooLarge}
use Rattle.nest_points.specs.Nests.{NestSurveyed}
use Rattle.nest_points.proofs.ThroughLaws.{loops-length, loops-take, partial-are}
use Rattle.nest_points.proofs.TallyLaws.{capped-test}
use Rattle.nest_points.proofs.SurveyLaws.{far_among, Passes, survey-far, survey-many, survey-skip, survey-done, near-passed}

pub nest-part : (s : List ℤ) (c : List ℕ) (depth d : ℕ) → NestOk s c depth → d ≤ depth → NestOk s c d
nest-part s c depth d p h = let e = p.shallow in record {
  words = p.words;
  counts = p.counts;
  shallow = omega arith;
  small = p.small;
  lower-count = λ k g. p.lower-count k (omega arith);
  upper-count = λ k g. p.upper-count k (omega arith);
  lower-positive = λ k g. p.lower-positive k (omega arith);
  upper-positive = λ k g. p.upper-positive k (omega arith);
}

abbrev pub blank : Tally
blank = record { far = false; count = 0 }

-- every depth before a level passes
abbrev pub Passed : ℕ → ℕ → List Loop → ℕ → Type 0
Passed bound most N level = (j : ℕ) → 1 ≤ j → j < level → Passes bound most N j

module _ {P : FlatNest} {bound most : ℕ} (p : FlatNestIn P × Bounded bound most) {level : ℕ}
    (passed : Passed bound most (loops_from P.limits P.counts 0 P.depth) level) (some : 1 ≤ level) where
  abbrev N : List Loop
  N = loops_from P.limits P.counts 0 P.depth

  depth_is : length N ≡ P.depth
  depth_is = loops-length P.limits P.counts 0 P.depth

  module _ (h : level ≤ P.depth) (point : List ℤ) where
    -- the loops outside the last of the level
    abbrev outer : List Loop
    outer = loops_from P.limits P.counts 0 (level - 1)

    passed-part : (j : ℕ) → 1 ≤ j → j ≤ length outer → Passes bound most outer j
    unfolding partial_points
    passed-part j a b =
        let l = loops-length P.limits P.counts 0 (level - 1) in
        let e : take j N ≡ take j outer = loops-take P.limits P.counts 0 j P.depth (omega arith)
        ∙ sym (loops-take P.limits P.counts 0 j (level - 1) (omega arith)) in
        let q = passed j a (omega arith) in
        record {
          near = ap (λ (M : List Loop). far_among bound (points M [])) (sym e)
              ∙ q.near;
          few = subst (λ (M : List Loop). length (points M []) ≤ most) e q.few;
        }

    pub tally-in : TallyIn P.limits P.counts 0 level point bound most blank
    tally-in = record {
      nest = rw (zero-add level) (nest-part P.limits P.counts P.depth level p.0.nest h);
      some = some;
      small = tt;
      near = near-passed bound most outer passed-part;
      bounds = p.1;
      counted = omega arith;
    }

    module _ {r : Tally} (g : Tallied P.limits P.counts 0 level point bound most blank r) where
      whole : r ≡ seen bound most blank (partial_points level N)
      whole = g.tallied ∙ ap (seen bound most blank) (partial-are P.limits P.counts level P.depth h)

      far-is : r.far ≡ far_among bound (partial_points level N)
      unfolding seen
      far-is = ap (λ (a : Tally). a.far) whole

      count-is : r.count ≡ capped most (length (partial_points level N))
      unfolding seen
      count-is = ap (λ (a : Tally). a.count) whole ∙ ap (capped most) (zero-add (length (partial_points level N)))

      test-is : ltb most r.count ≡ ltb most (length (partial_points level N))
      test-is = ap (ltb most) count-is ∙ capped-test most (length (partial_points level N))

      pub passes : r.far ≡ false → r.count ≤ most → Passed bound most N (level + 1)
      passes e f j a b = ⊎_elim (λ (q : j ≡ level). subst (Passes bound most N) (sym q) here)
          (λ (q : j < level). passed j a q) (eq-or-lt_of_le (at_most j b))
        where
          at_most : (j : ℕ) → j < level + 1 → j ≤ level
          at_most j b = omega arith

          here : Passes bound most N level
          here = record {
            near = sym far-is ∙ e;
            few = ltb-false most (length (partial_points level N))
                (sym test-is ∙ le-ltb most r.count f);
          }

      pub counts : r.count ≤ most → r.count ≡ length (partial_points (level + 1 - 1) N)
      unfolding capped
      counts f =
          let e : level ≡ level + 1 - 1 = omega arith in
          count-is ∙ ap (λ (b : Bool). cond b (suc most) (length (partial_points level N)))
          (sym test-is ∙ le-ltb most r.count f) ∙ ap (λ (j : ℕ). length (partial_points j N)) e

      module _ (far many : ℕ) where
        skipped : survey far many bound most N 1 (length N) ≡ survey far many bound most N level (suc (P.depth - level))
        skipped =
            let d = depth_is in
            let a : length N ≡ (level - 1) + suc (P.depth - level) = omega arith in
            let b : 1 + (level - 1) ≡ level = omega arith in
            ap (survey far many bound most N 1) a
            ∙ survey-skip far many bound most N 1 (level - 1) (suc (P.depth - level)) (λ j x y. passed j x (omega arith))
            ∙ ap (λ (l : ℕ). survey far many bound most N l (suc (P.depth - level))) b

        far-answer : r.far ≡ true → refused far level ≡ survey far many bound most N 1 (length N)
        far-answer e = sym (skipped ∙ survey-far far many bound most N level (P.depth - level) (sym far-is ∙ e))

        many-answer : r.far ≡ false → most < r.count → refused many level ≡ survey far many bound most N 1 (length N)
        many-answer e f = sym (skipped ∙ survey-many far many bound most N level (P.depth - level) (sym far-is ∙ e)
            (ltb-true most (length (partial_points level N)) (sym test-is ∙ lt-ltb most r.count f)))

      pub far-out : r.far ≡ true → NestSurveyed P bound most (Err (IndexTooLarge level))
      unfolding nest_of
      far-out e = record { same = λ far many. far-answer far many e; count = λ n z. absurd cc }

      pub many-out : r.far ≡ false → most < r.count → NestSurveyed P bound most (Err (CountTooLarge level))
      unfolding nest_of
      many-out e f = record { same = λ far many. many-answer far many e f; count = λ n z. absurd cc }

  module _ (e : level ≡ P.depth + 1) where
    admitted-answer : (far many : ℕ) → accepted tt ≡ survey far many bound most N 1 (length N)
    admitted-answer far many =
        let d = depth_is in
        sym (ap (survey far many bound most N 1) (sym (add-zero (length N)))
        ∙ survey-skip far many bound most N 1 (length N) 0 (λ j x y. passed j x (omega arith))
        ∙ survey-done far many bound most N (1 + length N))

    -- `n` points of the depth before the level, which is the last
    pub admitted-out : (n : ℕ) → (1 < level → n ≡ length (partial_points (level - 1) N)) → NestSurveyed P bound most (Ok n)
    unfolding partial_points iterations nest_of
    admitted-out n h = record {
      same = admitted-answer;
      count = λ m z.
          let s = p.0.some in
          let d = depth_is in
          let k : level - 1 ≡ length N = omega arith in
          let q : m ≡ n = cc in
          q ∙ h (omega arith) ∙ ap (λ (j : ℕ). length (points (take j N) [])) k
          ∙ ap (λ (M : List Loop). length (points M [])) (take-length N);
    }
