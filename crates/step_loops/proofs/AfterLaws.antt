-- The loops after a step as a front that stays, those that the step makes, and the loops inside, each changed alike: how many limits they have,
-- whether their numbers are small, and what the step hands out.
use mathlib.Core.Path.{◌≡◌, refl, sym, ap, ap₂, ◌∙◌, subst}
use mathlib.Core.Bool.{Bool, true, false, not, ◌&&◌, and-true}
use mathlib.Core.List.{List, ◌∷◌, ◌++◌, map, map-id}
use Prim.Native.Nat.{ℕ, zero, suc, ◌+◌, ◌*◌, ◌≤◌, ◌<◌}
use native.Mathlib.Omega.{arith}
use native.Mathlib.Nat.{add-zero}
use lib.Dec.{T, leb, le→leb}
use lib.IntN.{ℤ}
use lib.ListN.{length, length-append, length-map}
use Rattle.lists.specs.Place.{under}
use Rattle.lists.specs.Tests.{all}
use Rattle.lists.proofs.PlaceLaws.{under-append}
use Rattle.lists.proofs.TestLaws.{T_true, and_intro, all_join}
use Rattle.integers.specs.Affine.{Within}
use Rattle.model.specs.Ticket.{Limit, Loop, Step}
use Rattle.model.specs.Grammar.{depth_after, most_sides, nest_room}
use Rattle.model.specs.Limits.{on_limits, loops_after}
use Rattle.model.specs.Judge.{few_limits, small_limit, small_loop}
use Rattle.nest_flat.specs.Flat.{limit_at, limits_at, loop_at, loops_from, NestOk}
use Rattle.step_limits.specs.Change.{change_of}
use Rattle.step_limits.specs.declared.Change.{Change}
use Rattle.step_limits.proofs.FlatLaws.{limit-near, small-passes}
use Rattle.step_limits.specs.Words.{LoopOk}
use Rattle.step_changes.proofs.RunLaws.{limits-pass, loops-pass}
use Rattle.step_exchange.specs.Answers.{step_answer}
use Rattle.step_exchange.proofs.AnswerLaws.{answer-ok, settled as settled-answer}
use Rattle.step_loops.specs.After.{After}
use Rattle.step_loops.proofs.HeldLaws.{HeldAll, ok_at, nest-loops, nest-ok}

-- ---- how many limits

-- at most 16 a side
abbrev pub few : Loop → Bool
few L = leb (length L.lower) 16 && leb (length L.upper) 16

pub few-sides : (L : Loop) → length L.lower ≤ 16 → length L.upper ≤ 16 → T (few L)
few-sides L h g = and_intro (leb (length L.lower) 16) (leb (length L.upper) 16) (le→leb (length L.lower) 16 h)
    (le→leb (length L.upper) 16 g)

pub length-limits : (s : List ℤ) (k j n : ℕ) → length (limits_at s k j n) ≡ n
unfolding limits_at
length-limits s k j zero = refl
length-limits s k j (suc n) = ap suc (length-limits s k (suc j) n)

pub length-loops : (s : List ℤ) (c : List ℕ) (k n : ℕ) → length (loops_from s c k n) ≡ n
unfolding loops_from
length-loops s c k zero = refl
length-loops s c k (suc n) = ap suc (length-loops s c (suc k) n)

module _ (s : List ℤ) (c : List ℕ) (k : ℕ) (o : LoopOk s c k) where
  pub lower-few : length (loop_at s c k).lower ≤ 16
  unfolding loop_at
  lower-few = omega (arith, o.lower-count.1, length-limits s k (k * 32) (lib.ListN.get_or c (k * 2) 0))

  pub upper-few : length (loop_at s c k).upper ≤ 16
  unfolding loop_at
  upper-few = omega (arith, o.upper-count.1, length-limits s k (k * 32 + 16) (lib.ListN.get_or c (k * 2 + 1) 0))

  changed-few : (f : Limit → Limit) → T (few (on_limits f (loop_at s c k)))
  unfolding on_limits
  changed-few f =
      let L = loop_at s c k in
      few-sides (on_limits f L) (omega (arith, lower-few, length-map L.lower f)) (omega (arith, upper-few, length-map L.upper f))

-- ---- small numbers

side-small : (s : List ℤ) (k j n : ℕ) → Within 32767 s → T (all small_limit (limits_at s k j n))
side-small s k j n w = subst (λ (ls : List Limit). T (all small_limit ls)) (map-id (limits_at s k j n))
    (limits-pass (λ l. l) s k small_limit j n (λ i h. small-passes (limit_at s k (j + i)) (limit-near s k (j + i) w)))

loop-small : (s : List ℤ) (c : List ℕ) (k : ℕ) → Within 32767 s → T (small_loop (loop_at s c k))
unfolding small_loop loop_at
loop-small s c k w =
    let low = limits_at s k (k * 32) (lib.ListN.get_or c (k * 2) 0) in
    let up = limits_at s k (k * 32 + 16) (lib.ListN.get_or c (k * 2 + 1) 0) in
    and_intro (all small_limit low) (all small_limit up) (side-small s k (k * 32) (lib.ListN.get_or c (k * 2) 0) w)
    (side-small s k (k * 32 + 16) (lib.ListN.get_or c (k * 2 + 1) 0) w)

-- ---- a nest taken apart

loops-split : (s : List ℤ) (c : List ℕ) (k m n : ℕ) → loops_from s c k (m + n) ≡ loops_from s c k m ++ loops_from s c (k + m) n
unfolding loops_from
loops-split s c k zero n = let e : 0 + n ≡ n = omega arith in ap (loops_from s c k) e ∙ ap (λ i. loops_from s c i n) (sym (add-zero k))
loops-split s c k (suc m) n =
    let e : suc m + n ≡ suc (m + n) = omega arith in
    let f : suc k + m ≡ k + suc m = omega arith in
    ap (loops_from s c k) e ∙ ap (loop_at s c k ∷◌) (loops-split s c (suc k) m n ∙ ap (λ i. loops_from s c (suc k) m ++ loops_from s c i n) f)

pub under-loops : (F : List Loop → List Loop) (s : List ℤ) (c : List ℕ) (a n : ℕ)
    → under a F (loops_from s c 0 (a + n)) ≡ loops_from s c 0 a ++ F (loops_from s c a n)
under-loops F s c a n =
    let z : 0 + a ≡ a = omega arith in
    let l = length-loops s c 0 a in
    ap (under a F) (loops-split s c 0 a n ∙ ap (λ i. loops_from s c 0 a ++ loops_from s c i n) z)
    ∙ ap (λ i. under i F (loops_from s c 0 a ++ loops_from s c a n)) (sym l)
    ∙ under-append F (loops_from s c 0 a) (loops_from s c a n)

-- ---- the loops after a step

module _ (ch : Change) (s : List ℤ) (c : List ℕ) (depth : ℕ) (ok : NestOk s c depth) (a start many : ℕ) (outside : a ≤ depth)
    (reach : start + many ≤ depth) (those : List Loop) where
  abbrev pub inside : List Loop
  inside = map (on_limits (change_of ch)) (loops_from s c start many)

  abbrev pub made : List Loop
  made = loops_from s c 0 a ++ (those ++ inside)

  pub made-length : length made ≡ a + (length those + many)
  made-length =
      length-append (loops_from s c 0 a) (those ++ inside)
      ∙ ap₂ ◌+◌ (length-loops s c 0 a) (length-append those inside
      ∙ ap (length those +◌) (length-map (loops_from s c start many) (on_limits (change_of ch)) ∙ length-loops s c start many))

  -- a test that the front passes
  of-front : (p : Loop → Bool) → ((k : ℕ) → k < depth → T (p (loop_at s c k))) → all p made ≡ all p those && all p inside
  of-front p h =
      let f : T (all p (loops_from s c 0 a)) = subst (λ (ls : List Loop). T (all p ls)) (map-id (loops_from s c 0 a))
      (loops-pass (λ L. L) s c p 0 a (λ i g. h (0 + i) (omega arith))) in
      all_join p (loops_from s c 0 a) (those ++ inside) ∙ ap (◌&& all p (those ++ inside)) (T_true (all p (loops_from s c 0 a)) f)
      ∙ all_join p those inside

  pub few-made : few_limits made ≡ all few those
  unfolding few_limits
  few-made =
      let f : T (all few inside) = loops-pass (on_limits (change_of ch)) s c few start many
      (λ i g. changed-few s c (start + i) (ok_at s c depth (start + i) ok (omega arith)) (change_of ch)) in
      of-front few (λ k g. few-sides (loop_at s c k) (lower-few s c k (ok_at s c depth k ok g)) (upper-few s c k (ok_at s c depth k ok g)))
      ∙ ap (all few those &&◌) (T_true (all few inside) f) ∙ and-true (all few those)

  pub small-made : all small_loop made ≡ all small_loop those && all small_loop inside
  small-made = of-front small_loop (λ k g. loop-small s c k ok.small)

  module _ (t : Step) (is : loops_after t (loops_from s c 0 depth) ≡ made) (deep : depth_after t depth ≡ a + (length those + many))
      (shallow : depth_after t depth ≤ 6) where
    pub settled : (full small : Bool) (s' : List ℤ) (c' : List ℕ) → length s' ≡ nest_room → length c' ≡ most_sides
        → full ≡ not (all few those) → (full ≡ false → small ≡ all small_loop those && all small_loop inside)
        → (full ≡ false → small ≡ true → HeldAll s' c' 0 made × Within 32767 s')
        → After t s c depth (step_answer (not full) small) s' c'
    settled full small s' c' w n f g h =
        let e : length made ≡ depth_after t depth = made-length ∙ sym deep in
        record {
          words = w;
          counts = n;
          answered = settled-answer full small _ _ (f ∙ ap not (sym (ap few_limits is ∙ few-made))) (λ x. g x ∙ sym (ap (all small_loop) is ∙ small-made));
          whole = λ x. let y = answer-ok full small x in nest-loops s' c' (depth_after t depth) made e (h y.0 y.1).0 ∙ sym is;
          nest = λ x. let y = answer-ok full small x in nest-ok s' c' (depth_after t depth) made e (h y.0 y.1).0 w n shallow (h y.0 y.1).1;
        }
