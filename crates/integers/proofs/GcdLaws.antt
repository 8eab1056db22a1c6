-- The greatest common divisor: it divides both, and whatever divides both divides it; so it is the one number that does, whatever the order
-- of the two; then the turn of Euclid's algorithm; then of a list; then divisibility of integers by it.
use mathlib.Core.Path.{◌≡◌, refl, sym, ◌∙◌, ap, subst}
use mathlib.Core.Logic.{⊎_elim}
use mathlib.Core.List.Memᴰ
use mathlib.Core.List.{List, [], ◌∷◌, Memᴰ}
use Prim.Native.Nat.{ℕ, zero, suc, ◌*◌, ◌/◌, ◌%◌, ◌<◌, ◌∣◌}
use native.Mathlib.Omega.{arith}
use native.Mathlib.Nat.{div-add-mod, mod-lt, dvd_refl, dvd-zero, dvd_trans, dvd-mod_iff, dvd_antisymm, dvd-mul_right, mod-eq-zero_of_dvd}
use lib.Dec.{eqb}
use borrow.Author.Tests.{eqb-true, eqb-false}
use lib.IntN.{ℤ, pos, negsuc, neg_ℤ, nat_abs, ◌*ℤ◌}
use Rattle.lists.proofs.TestLaws.{cond_cases}
use Rattle.integers.specs.Gcd.{turns, gcd, gcd_of}
use Rattle.integers.proofs.Polynomial.{◌⊗◌, ⊝}
use Rattle.integers.proofs.Linear.{lin, ◌≐◌}
use Rattle.integers.proofs.OrderLaws.{◌∣ℤ◌}

-- g divides both, and is divided by what divides both
pub record IsGcd (g a b : ℕ) : Type 0 where
  pub left : g ∣ a
  pub right : g ∣ b
  pub greatest : (d : ℕ) → d ∣ a → d ∣ b → d ∣ g

-- one turn: the common divisors of a and b are those of b and a % b
turn : (g a b : ℕ) → IsGcd g b (a % b) → IsGcd g a b
turn g a b r = record {
  left = (dvd-mod_iff g {m = a} {n = b} r.left).0 r.right;
  right = r.left;
  greatest = λ d p q. r.greatest d q ((dvd-mod_iff d {m = a} {n = b} q).1 p);
}

turns-gcd : (n a b : ℕ) → b < n → IsGcd (turns n a b) a b
unfolding turns
turns-gcd zero a b h = absurd (omega arith)
turns-gcd (suc n) a b h =
    cond_cases (λ (g : ℕ). IsGcd g a b) (eqb b 0) a (turns n b (a % b))
    (λ e. record { left = dvd_refl a; right = subst (λ (m : ℕ). a ∣ m) (sym (eqb-true b 0 e)) (dvd-zero a); greatest = λ d p q. p })
    (λ e. let z = eqb-false b 0 e in let p : 0 < b = omega arith in let m = mod-lt a p in turn (turns n b (a % b)) a b
    (turns-gcd n b (a % b) (omega arith)))

pub gcd-is : (a b : ℕ) → IsGcd (gcd a b) a b
unfolding gcd
gcd-is a b = turns-gcd (suc b) a b (omega arith)

pub gcd-unique : {g a b : ℕ} → IsGcd g a b → g ≡ gcd a b
gcd-unique {g} {a} {b} r = let s = gcd-is a b in dvd_antisymm (s.greatest g r.left r.right) (r.greatest (gcd a b) s.left s.right)

pub gcd-comm : (a b : ℕ) → gcd a b ≡ gcd b a
gcd-comm a b = let r = gcd-is a b in gcd-unique (record { left = r.right; right = r.left; greatest = λ d p q. r.greatest d q p })

pub gcd-assoc : (a b c : ℕ) → gcd (gcd a b) c ≡ gcd a (gcd b c)
gcd-assoc a b c =
    let l = gcd-is (gcd a b) c in let ab = gcd-is a b in let bc = gcd-is b c in let g : ℕ = gcd (gcd a b) c in
    gcd-unique (record {
      left = dvd_trans g l.left ab.left;
      right = bc.greatest g (dvd_trans g l.left ab.right) l.right;
      greatest = λ d p q. l.greatest d (ab.greatest d p (dvd_trans d q bc.left)) (dvd_trans d q bc.right);
    })

-- ---- Euclid's algorithm, for the loop that runs it

pub gcd-turn : (a b : ℕ) → gcd a b ≡ gcd b (a % b)
gcd-turn a b = sym (gcd-unique (turn (gcd b (a % b)) a b (gcd-is b (a % b))))

pub gcd-end : (a : ℕ) → gcd a 0 ≡ a
gcd-end a = sym (gcd-unique (record { left = dvd_refl a; right = dvd-zero a; greatest = λ d p q. p }))

pub gcd-none : (a : ℕ) → gcd 0 a ≡ a
gcd-none a = gcd-comm 0 a ∙ gcd-end a

-- ---- of a list

pub gcd_of-divides : (l : List ℤ) (a : ℤ) → Memᴰ a l → gcd_of l ∣ nat_abs a
unfolding gcd_of
gcd_of-divides [] a m = absurd (Memᴰ.not-nil m)
gcd_of-divides (x ∷ l) a m = let r = gcd-is (nat_abs x) (gcd_of l) in
    ⊎_elim
    (λ e. subst (λ (z : ℤ). gcd (nat_abs x) (gcd_of l) ∣ nat_abs z) (sym e) r.left)
    (λ k. dvd_trans (gcd (nat_abs x) (gcd_of l)) r.right (gcd_of-divides l a k))
    (Memᴰ.cases_cons m)

pub gcd_of-greatest : (l : List ℤ) (d : ℕ) → ((a : ℤ) → Memᴰ a l → d ∣ nat_abs a) → d ∣ gcd_of l
unfolding gcd_of
gcd_of-greatest [] d h = dvd-zero d
gcd_of-greatest (x ∷ l) d h = (gcd-is (nat_abs x) (gcd_of l)).greatest d (h x (Memᴰ.head refl)) (gcd_of-greatest l d (λ a m. h a (Memᴰ.tail m)))

-- ---- divisibility of integers

exact : (g m : ℕ) → g ∣ m → m ≡ g * (m / g)
exact g m p = let e = div-add-mod m g in let z = mod-eq-zero_of_dvd g p in omega arith

pub dvd-int : {g : ℕ} (a : ℤ) → g ∣ nat_abs a → pos g ∣ℤ a
dvd-int {g} (pos n) p = record { factor = pos (n / g); equal = ap pos (exact g n p) }
dvd-int {g} (negsuc n) p = record {
  factor = neg_ℤ (pos (suc n / g));
  equal = opposite (exact g (suc n) p)
      ∙ lin (pos g ∷ pos (suc n / g) ∷ []) (λ g t. ⊝ (g ⊗ t) ≐ g ⊗ ⊝ t) tt;
}
  where
    opposite : {n m : ℕ} → suc n ≡ m → negsuc n ≡ neg_ℤ (pos m)
    opposite {n} {m} e = subst (λ (k : ℕ). negsuc n ≡ neg_ℤ (pos k)) e refl

pub int-dvd : {g : ℕ} {a : ℤ} → pos g ∣ℤ a → g ∣ nat_abs a
int-dvd {g} {a} p = subst (λ (m : ℕ). g ∣ m) (sym (ap nat_abs p.equal ∙ product g p.factor)) (dvd-mul_right g (nat_abs p.factor))
  where
    opposite : (n : ℕ) → nat_abs (neg_ℤ (pos n)) ≡ n
    opposite zero = refl
    opposite (suc n) = refl

    product : (g : ℕ) (q : ℤ) → nat_abs (pos g *ℤ q) ≡ g * nat_abs q
    product g (pos q) = refl
    product g (negsuc q) = opposite (g * suc q)
