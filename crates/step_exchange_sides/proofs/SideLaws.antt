-- A side that is put among words limit by limit, each after the test of its numbers.
use mathlib.Core.Path.{◌≡◌, refl, sym, ap, ap₂, ◌∙◌, subst}
use mathlib.Core.Bool.{Bool, true, false, ◌&&◌}
use mathlib.Core.List.{List, [], ◌∷◌, ◌++◌}
use Prim.Native.Nat.{ℕ, ◌+◌, ◌*◌, ◌≤◌, ◌<◌}
use native.Mathlib.Omega.{arith}
use lib.IntN.{ℤ}
use lib.ListN.{length}
use Rattle.lists.specs.Membership.{Mem}
use Rattle.lists.specs.Parts.{put}
use Rattle.lists.specs.Tests.{all}
use Rattle.lists.proofs.TestLaws.{false-not-T, not-T-false, all-holds, all_join}
use Rattle.model.specs.Ticket as Model
use Rattle.model.specs.Encode.{limit_words}
use Rattle.model.specs.Judge.{small_limit}
use Rattle.nest_flat.specs.Flat.{limit_at, limits_at}
use Rattle.ticket_loops.specs.Laid.{lay_limits}
use Rattle.ticket_loops.proofs.LimitLaws.{lay-more, lay-length}
use Rattle.ticket_loops.specs.LoopReads.{limit_of}
use Rattle.ticket_loops.specs.declared.Limit.{Limit}
use Rattle.nest_rows.specs.Rows.{Tried}
use Rattle.step_limits.specs.Words.{LimitRoom}
use Rattle.step_exchange_sides.specs.Filling.{HeldIn, PutIn, SidePut}
use Rattle.step_exchange_sides.proofs.PutLaws.{untrue}
use Rattle.nest_flat.proofs.FlatLaws.{limits-length}
use Rattle.step_exchange_sides.proofs.FlatLaws.{limits-sized, limits-more, limits-mem}

module _ (o : List ℤ) (j : ℕ) (f : List ℤ) (count n : ℕ) (p : PutIn (length o) j f count n) where
  abbrev first : ℕ → List Model.Limit
  first k = limits_at f n 0 k

  pub side-room : (k : ℕ) (w : List ℤ) → k ≤ count → w ≡ lay_limits o j (first k) → length w ≡ length o
  side-room k w h e =
      let r = p.filled.room in
      let c = p.few in
      let g = p.fits in
      let m = limits-length f n 0 k in
      ap length e ∙ lay-length n p.shallow o j (first k) (limits-sized f n 0 k p.shallow (omega arith)) (omega arith)

  pub side-start : (all small_limit (first 0) ≡ true) × (o ≡ lay_limits o j (first 0))
  unfolding all limits_at lay_limits
  side-start = (refl, refl)

  module _ (k : ℕ) (h : k < count) where
    pub held : HeldIn f k
    held = let c = p.few in record { room = p.filled.room; inside = omega arith; natural = p.filled.natural k (omega arith) h }

    pub limit-room : (w : List ℤ) → w ≡ lay_limits o j (first k) → LimitRoom w (j + k) n
    limit-room w e = let g = p.fits in let u = side-room k w (omega arith) e in record { fits = omega arith; shallow = p.shallow }

    -- x is limit k, and was put or refused
    module _ (w : List ℤ) (e : w ≡ lay_limits o j (first k)) (x : Limit) (is : limit_of n x ≡ limit_at f n k) (r : Bool) (v : List ℤ)
        (t : Tried (small_limit (limit_of n x)) w ((j + k) * 8) (limit_words (limit_of n x)) r v) where
      tested : r ≡ small_limit (limit_at f n k)
      tested = t.passed ∙ ap small_limit is

      pub side-refused : r ≡ false → all small_limit (first count) ≡ false
      side-refused g =
          let z : 0 + k ≡ k = omega arith in
          not-T-false (all small_limit (first count)) (λ a. false-not-T (small_limit (limit_at f n k)) (sym tested ∙ g)
          (all-holds small_limit (first count) a (limit_at f n k) (subst (λ (i : ℕ). Mem (limit_at f n i) (first count)) z
          (limits-mem f n 0 k count h))))

      pub side-passed : r ≡ true → all small_limit (first k) ≡ true → all small_limit (first (k + 1)) ≡ true
      side-passed g a =
          let z : 0 + k ≡ k = omega arith in
          ap (all small_limit) (limits-more f n 0 k ∙ ap (λ i. first k ++ (limit_at f n i ∷ [])) z)
          ∙ all_join small_limit (first k) (limit_at f n k ∷ []) ∙ ap₂ ◌&&◌ a (last (sym tested ∙ g))
        where
          last : small_limit (limit_at f n k) ≡ true → all small_limit (limit_at f n k ∷ []) ≡ true
          last x = unfold all in rw x

      pub side-more : r ≡ true → v ≡ lay_limits o j (first (k + 1))
      side-more g =
          let z : 0 + k ≡ k = omega arith in
          t.made g ∙ ap (λ l. put w ((j + k) * 8) (limit_words l)) is
          ∙ ap₂ (λ (y : List ℤ) (i : ℕ). put y ((j + i) * 8) (limit_words (limit_at f n k))) e (sym (limits-length f n 0 k))
          ∙ sym (lay-more o j (first k) (limit_at f n k))
          ∙ ap (lay_limits o j) (ap (λ i. first k ++ (limit_at f n i ∷ [])) (sym z) ∙ sym (limits-more f n 0 k))

  pub side-done : (k : ℕ) (w : List ℤ) → k ≤ count → count ≤ k → all small_limit (first k) ≡ true → w ≡ lay_limits o j (first k)
      → SidePut o j (first count) true w
  side-done k w h g a e = let z : k ≡ count = omega arith in
      record { small = sym (ap (λ i. all small_limit (first i)) (sym z) ∙ a); made = λ _. e ∙ ap (λ i. lay_limits o j (first i)) z }

  pub side-not : (w : List ℤ) → all small_limit (first count) ≡ false → SidePut o j (first count) false w
  side-not w a = record { small = sym a; made = λ e. untrue e }
