-- A nest that meets what each step asks: two loops, every word and every count 1.
use mathlib.Core.Path.{◌≡◌, sym, subst}
use mathlib.Core.List.{List}
use Prim.Native.Nat.{ℕ, ◌+◌, ◌*◌, ◌≤◌, ◌<◌}
use native.Mathlib.Omega.{arith}
use lib.IntN.{ℤ, pos, negsuc}
use lib.Signed.{◌<ℤ◌}
use lib.ListN.{length, get_or, replicate, length-replicate, get_or-replicate}
use Rattle.integers.proofs.AffineLaws.{within_all}
use Rattle.integers.proofs.RingLaws.{zarith}
use Rattle.integers.specs.Difference.{size}
use Rattle.model.specs.Grammar.{most_sides, nest_limits, nest_room}
use Rattle.nest_flat.specs.Flat.{NestOk}
use Rattle.step_loops.specs.After.{ReversalIn, SkewIn, SectionIn, ExchangeIn}

-- shut, so that nothing computes nest_room words
pub words : List ℤ
words = replicate nest_room (pos 1)

pub counts : List ℕ
counts = replicate 12 1

word-is : (i : ℕ) → i < nest_room → get_or words i (pos 0) ≡ pos 1
unfolding words
word-is i h = get_or-replicate nest_room i (pos 1) (pos 0) h

count-is : (i : ℕ) → i < 12 → get_or counts i 0 ≡ 1
unfolding counts
count-is i h = get_or-replicate 12 i 1 0 h

words-length : length words ≡ nest_room
unfolding words
words-length = length-replicate nest_room (pos 1)

counts-length : length counts ≡ most_sides
unfolding counts
counts-length = length-replicate {A = ℕ} 12 1

near : (i : ℕ) → i < length words → size (get_or words i (pos 0)) ≤ 32767
near i h = let n = words-length in subst (λ (z : ℤ). size z ≤ 32767) (sym (word-is i (omega arith))) (omega arith)

positive : (j n : ℕ) → j + n ≤ nest_limits → (i : ℕ) → i < n → pos 0 <ℤ get_or words ((j + i) * 8) (pos 0)
positive j n f i h = subst (λ (z : ℤ). pos 0 <ℤ z) (sym (word-is ((j + i) * 8) (omega arith))) (omega zarith)

nest-ok : NestOk words counts 2
nest-ok = record {
  words = words-length;
  counts = counts-length;
  shallow = omega arith;
  small = within_all 32767 words near;
  lower-count = λ k h. let n = count-is (k * 2) (omega arith) in (omega arith, omega arith);
  upper-count = λ k h. let n = count-is (k * 2 + 1) (omega arith) in (omega arith, omega arith);
  lower-positive = λ k h. let n = count-is (k * 2) (omega arith) in positive (k * 32) (get_or counts (k * 2) 0) (omega arith);
  upper-positive = λ k h. let n = count-is (k * 2 + 1) (omega arith) in positive (k * 32 + 16) (get_or counts (k * 2 + 1) 0) (omega arith);
}

pub reversal-in : ReversalIn words counts 2 1
reversal-in = record { nest = nest-ok; place = omega arith }

pub skew-in : SkewIn words counts 2 0 0 (negsuc 0)
skew-in = record { nest = nest-ok; place = omega arith; near = omega arith }

pub section-in : SectionIn words counts 2 1 4
section-in = record { nest = nest-ok; place = omega arith; room = omega arith; positive = omega arith; narrow = omega arith }

pub exchange-in : ExchangeIn words counts 2 0
exchange-in = record { nest = nest-ok; place = omega arith }
