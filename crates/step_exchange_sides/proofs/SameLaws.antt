-- Equal numbers, rows and limits, as loops of tests find them.
use mathlib.Core.Path.{◌≡◌, refl, sym, ◌∙◌, ap, subst}
use mathlib.Core.Bool.{true, false}
use mathlib.Core.List.{List}
use Prim.Native.Nat.{ℕ, ◌<◌, ◌+◌, ◌*◌}
use native.Mathlib.Numerals.{add-one}
use lib.Dec.{eqb, T}
use lib.IntN.{ℤ, pos, nat_abs}
use lib.ListN.{length, get_or, take, drop}
use lib.Seq.{take-suc, get_or-take}
use Rattle.integers.specs.Sign.{eq_z}
use Rattle.integers.proofs.SignLaws.{eq_z-decides}
use Rattle.lists.specs.Tests.{Decides, same_by}
use Rattle.lists.proofs.TestLaws.{T_true, true-T, false-not-T, not-T-false, same-decides}
use Rattle.model.specs.Limits.{same_limit}
use Rattle.ticket_loops.specs.LoopReads.{limit_of}
use Rattle.ticket_loops.specs.declared.Limit.{Limit}
use Rattle.nest_flat.specs.Flat.{limit_at}
use Rattle.step_exchange_sides.specs.Filling.{Natural}

-- ---- numbers

pub is : (x y : ℤ) → x ≡ y → eq_z x y ≡ true
is x y e = T_true (eq_z x y) (subst (λ z. T (eq_z x z)) e (eq_z-decides.itself x))

pub is-not : (x y : ℤ) → (x ≡ y → ⊥) → eq_z x y ≡ false
is-not x y n = not-T-false (eq_z x y) (λ t. n (eq_z-decides.equal x y t))

-- ---- rows

rows : Decides (same_by eq_z)
rows = same-decides eq_z eq_z-decides

pub row-differs : (k n : ℕ) (xs ys : List ℤ) → k < n → eq_z (get_or xs k (pos 0)) (get_or ys k (pos 0)) ≡ false
    → same_by eq_z (take n xs) (take n ys) ≡ false
row-differs k n xs ys h e = not-T-false (same_by eq_z (take n xs) (take n ys)) (λ t.
    let q : get_or xs k (pos 0) ≡ get_or ys k (pos 0) = sym (get_or-take n xs k (pos 0) h)
    ∙ ap (λ w. get_or w k (pos 0)) (rows.equal (take n xs) (take n ys) t) ∙ get_or-take n ys k (pos 0) h in
    false-not-T (eq_z (get_or xs k (pos 0)) (get_or ys k (pos 0))) e (subst (λ z. T (eq_z (get_or xs k (pos 0)) z)) q
    (eq_z-decides.itself (get_or xs k (pos 0)))))

pub row_more : (k : ℕ) (xs ys : List ℤ) → k < length xs → k < length ys → take k xs ≡ take k ys → eq_z (get_or xs k (pos 0)) (get_or ys k (pos 0)) ≡ true
    → take (k + 1) xs ≡ take (k + 1) ys
row_more k xs ys h g e q =
    let z : get_or xs k (pos 0) ≡ get_or ys k (pos 0) = eq_z-decides.equal (get_or xs k (pos 0)) (get_or ys k (pos 0)) (true-T _ q) in
    rw (add-one k, take-suc xs k (pos 0) h, take-suc ys k (pos 0) g, e, z) refl

pub row_same : (l : List ℤ) → same_by eq_z l l ≡ true
row_same l = T_true (same_by eq_z l l) (rows.itself l)

-- ---- limits, number by number

module _ (n : ℕ) (x : Limit) (f : List ℤ) (k : ℕ) (e : Natural f k) where
  same-multiplier : eq_z (pos x.multiplier) (get_or f (k * 8) (pos 0)) ≡ eqb x.multiplier (nat_abs (get_or f (k * 8) (pos 0)))
  same-multiplier = ap (eq_z (pos x.multiplier)) e

  pub multiplier-differs : eq_z (pos x.multiplier) (get_or f (k * 8) (pos 0)) ≡ false → same_limit (limit_of n x) (limit_at f n k) ≡ false
  unfolding same_limit limit_of limit_at
  multiplier-differs h = rw (sym same-multiplier ∙ h)

  pub constant-differs : eq_z (pos x.multiplier) (get_or f (k * 8) (pos 0)) ≡ true → eq_z x.constant (get_or f (k * 8 + 1) (pos 0)) ≡ false
      → same_limit (limit_of n x) (limit_at f n k) ≡ false
  unfolding same_limit limit_of limit_at
  constant-differs h g = rw (sym same-multiplier ∙ h, g)

  pub rows-decide : eq_z (pos x.multiplier) (get_or f (k * 8) (pos 0)) ≡ true → eq_z x.constant (get_or f (k * 8 + 1) (pos 0)) ≡ true
      → same_limit (limit_of n x) (limit_at f n k) ≡ same_by eq_z (take n x.coefficients) (take n (drop (k * 8 + 2) f))
  unfolding same_limit limit_of limit_at
  rows-decide h g = rw (sym same-multiplier ∙ h, g)
