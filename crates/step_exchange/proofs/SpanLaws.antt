-- A limit of a side of I or J as it is read: where it stands, that its numbers are small, and how large the multipliers are that are made of it.
use mathlib.Core.Path.{◌≡◌, sym, ap, subst}
use mathlib.Core.List.{List}
use Prim.Native.Nat.{ℕ, ◌+◌, ◌*◌, ◌<◌, ◌≤◌}
use native.Mathlib.Omega.{arith}
use native.Mathlib.Nat.{mul-le-mul}
use lib.IntN.{ℤ, pos, negsuc}
use lib.ListN.{get_or, drop}
use Rattle.integers.specs.Affine.{Within}
use Rattle.integers.specs.Difference.{size}
use Rattle.integers.proofs.AffineLaws.{within-at, within-take}
use Rattle.integers.proofs.RangeLaws.{size-nat_abs}
use Rattle.model.specs.Ticket as Model
use Rattle.model.specs.Limits.{combined, widened, outer_coefficient, solved_positive, solved_negative}
use Rattle.ticket_loops.specs.LoopReads.{limit_of, LimitIn}
use Rattle.ticket_loops.specs.declared.Limit.{Limit}
use Rattle.nest_flat.specs.Flat.{limit_at}
use Rattle.nest_index_range.proofs.LimitLaws.{within-drop}
use Rattle.step_limits.specs.Small.{SmallLimit}
use Rattle.step_limits.specs.Makes.{LimitIs}
use Rattle.step_limits.specs.Words.{LimitThere}
use Rattle.step_exchange_sides.specs.Filling.{WideIn}
use Rattle.step_exchange.specs.declared.SideLimits.{SideLimits}
use Rattle.step_exchange.specs.Pair.{SpanIn, solved}

pub span-at : (s : List ℤ) (p : SideLimits) (k n : ℕ) → SpanIn s p → k < p.count → n ≤ 6 → LimitThere s (p.from + k) n
span-at s p k n i h g = let e = i.words in let f = i.inside in record {
  room = record { fits = omega arith; shallow = g };
  small = i.small;
  positive = i.positive k h;
}

limit-small : (s : List ℤ) (n j : ℕ) → Within 32767 s → SmallLimit (limit_at s n j)
unfolding limit_at
limit-small s n j w = record {
  multiplier = let h = within-at 32767 s w (j * 8) in omega (arith, size-nat_abs (get_or s (j * 8) (pos 0)));
  constant = within-at 32767 s w (j * 8 + 1);
  coefficients = within-take 32767 (drop (j * 8 + 2) s) n (within-drop 32767 s (j * 8 + 2) w);
}

pub read_small : (s : List ℤ) (n j : ℕ) (l : Limit) → Within 32767 s → LimitIs n l (limit_at s n j) → SmallLimit (limit_of n l)
read_small s n j l w i = subst SmallLimit (sym i.is) (limit-small s n j w)

-- ---- multipliers

same-multiplier : (n : ℕ) (x : Limit) (m : Model.Limit) → limit_of n x ≡ m → x.multiplier ≡ m.multiplier
unfolding limit_of
same-multiplier n x m e = ap (λ (l : Model.Limit). l.multiplier) e

-- of limits n loops inside
pub wide-small : (n m : ℕ) (x : Limit) → n ≤ 6 → LimitIn x → SmallLimit (limit_of m x) → WideIn n x
unfolding limit_of
wide-small n m x h i s = let k = s.multiplier in record { place = h; limit = i; multiplier = omega arith }

pub wide-combined : (a : ℕ) (c : ℤ) (l m x : Limit) → a < 6 → SmallLimit (limit_of (a + 1) l) → SmallLimit (limit_of a m)
    → LimitIs a x (combined a c (limit_of (a + 1) l) (limit_of a m)) → WideIn a x
unfolding combined limit_of
wide-combined a c l m x h s t i =
    let e : x.multiplier ≡ l.multiplier * m.multiplier = same-multiplier a x (combined a c (limit_of (a + 1) l) (limit_of a m)) i.is in
    let u = mul-le-mul s.multiplier t.multiplier in
    record { place = omega arith; limit = i.within; multiplier = omega (arith, u) }

pub wide-widened : (n : ℕ) (l x : Limit) → n < 6 → SmallLimit (limit_of n l) → LimitIs (n + 1) x (widened (limit_of n l)) → WideIn (n + 1) x
unfolding widened limit_of
wide-widened n l x h s i =
    let e : x.multiplier ≡ l.multiplier = same-multiplier (n + 1) x (widened (limit_of n l)) i.is in
    let k = s.multiplier in
    record { place = omega arith; limit = i.within; multiplier = omega arith }

solved-multiplier : (a : ℕ) (z : ℤ) (l : Model.Limit) → size z ≤ 32767 → (solved a z l).multiplier ≤ 32767
unfolding solved solved_positive solved_negative
solved-multiplier a (pos n) l h = omega arith
solved-multiplier a (negsuc n) l h = omega arith

pub wide-solved : (a : ℕ) (l : Model.Limit) (x : Limit) → a < 6 → SmallLimit l → LimitIs (a + 1) x (solved a (outer_coefficient a l) l)
    → WideIn (a + 1) x
unfolding outer_coefficient
wide-solved a l x h s i =
    let e = same-multiplier (a + 1) x (solved a (outer_coefficient a l) l) i.is in
    let k = solved-multiplier a (get_or l.coefficients a (pos 0)) l (within-at 32767 l.coefficients s.coefficients a) in
    record { place = omega arith; limit = i.within; multiplier = omega arith }
