-- A loop over the signs makes their number, at most six of them, then = for each loop that is missing.
use mathlib.Core.Path.{◌≡◌, refl, sym, ◌∙◌, ap}
use mathlib.Core.List.{List, [], ◌∷◌, ◌++◌, map}
use Prim.Native.Nat.{ℕ, zero, suc, ◌+◌, ◌*◌, ◌-◌, ◌^◌, ◌≤◌}
use native.Mathlib.Omega.{arith}
use native.Mathlib.Nat.{pow-suc, mul_assoc, mul_comm, add-mul}
use lib.ListN.{length, replicate, length-map}
use Rattle.integers.specs.Sign.{Sign, equal}
use Rattle.dependence_vectors.specs.Numbers.{digit, digits_in, base3, number, number_after}

after-base3 : (n : ℕ) (v : List Sign) → number_after n v ≡ n * 3 ^ length v + base3 (map digit v)
unfolding number_after base3
after-base3 n [] = omega arith
after-base3 n (s ∷ v) = after-base3 (n * 3 + digit s) v
    ∙ rw (length-map v digit, pow-suc 3 (length v)) (spread n (digit s) (3 ^ length v) (base3 (map digit v)))
  where
    spread : (n x w y : ℕ) → (n * 3 + x) * w + y ≡ n * (w * 3) + (x * w + y)
    spread n x w y = rw (add-mul (n * 3) x w, mul_assoc n 3 w, mul_comm 3 w) (omega arith)

digits_in-padded : (k : ℕ) (v : List Sign) → length v ≤ k → digits_in k v ≡ map digit (v ++ replicate (k - length v) equal)
unfolding digits_in digit
digits_in-padded zero [] h = refl
digits_in-padded zero (s ∷ v) h = absurd (omega arith)
digits_in-padded (suc k) [] h = let e : suc k - 0 ≡ suc (k - 0) = omega arith in rw e (ap (1 ∷◌) (digits_in-padded k [] (omega arith)))
digits_in-padded (suc k) (s ∷ v) h = let e : suc k - suc (length v) ≡ k - length v = omega arith in rw e
    (ap (digit s ∷◌) (digits_in-padded k v (omega arith)))

pub number-after : (v : List Sign) → length v ≤ 6 → number v ≡ number_after 0 (v ++ replicate (6 - length v) equal)
unfolding number
number-after v h =
    let w = v ++ replicate (6 - length v) equal in
    ap base3 (digits_in-padded 6 v h) ∙ sym (after-base3 0 w ∙ nothing (3 ^ length w) (base3 (map digit w)))
  where
    nothing : (x y : ℕ) → 0 * x + y ≡ y
    nothing x y = omega arith
