-- Goals over ℤ with nothing written twice: `search quote` finds the expression or the statement, the caller gives the list ρ of atoms alone
-- (a compound term may be one). How deep it looks goes by the number of atoms: `depth 16` serves a dozen.
--     calc ρ (search quote depth 16) tt                      an identity of the ring, or an order that holds by itself
--     combine ρ (both h k) (search ..) (search ..) tt        the sum of some facts; `mulˡ` and `ap` multiply one beforehand
--     auto ρ (search ..) (omega (arith, hypo ρ h (search ..)))    a goal from facts, multiples found by `omega`
--     omega (zarith, term ρ z (search ..))                   one compound term for `omega`'s list
-- It reads ≤ℤ, <ℤ, ≡, pairs of these, `SFits w64`, and the tests `lt_z`, `le_z` being true or false. `Linear` has the statements written out.
use mathlib.Core.Path.{◌≡◌, refl, sym, ◌∙◌, ap, ap₂, subst, subst₂}
use mathlib.Core.List.{List, ◌∷◌}
use mathlib.Core.Bool.{true, false}
use Prim.Native.Nat.{ℕ, suc}
use lib.IntN.{ℤ, pos, negsuc, neg_ℤ, ◌+ℤ◌, ◌-ℤ◌, ◌*ℤ◌}
use lib.Signed.{◌≤ℤ◌, ◌<ℤ◌, lt_z, le_z}
use mir.Syntax.{w64}
use mir.Val.{SFits}
use Rattle.integers.proofs.RingLaws.{Is}
use Rattle.integers.proofs.RangeLaws.{fits-range, range-fits, lt_test, lt-test-no, le_test, le-test-no, test-lt, test-lt-no, test-le, test-le-no}
use Rattle.integers.proofs.Polynomial.{Expr, atom, lit, ◌⊕◌, ◌⊖◌, ◌⊗◌, ⊝, #, nth, value, normal, sum_up, sum_down, is-value}
use Rattle.integers.proofs.Linear.{Claim, ◌⊑◌, ◌⊏◌, ◌≐◌, ◌⟶◌, ◌&◌, Holds, Known, Asked, known, settled, Certified, certain}

-- ---- expressions

-- the place of an atom
pub record Stands (ρ : List ℤ) (z : ℤ) : Type 0 where
  pub place : ℕ
  pub there : nth ρ place ≡ z

abbrev pub first : {x : ℤ} {ρ : List ℤ} → Stands (x ∷ ρ) x
first = record { place = 0; there = refl }

abbrev pub next : {x y : ℤ} {ρ : List ℤ} → Stands ρ x → Stands (y ∷ ρ) x
next p = record { place = suc p.place; there = p.there }

pub record Quoted (ρ : List ℤ) (z : ℤ) : Type 0 where
  pub expr : Expr
  pub means : value expr ρ ≡ z

abbrev pub q-atom : {ρ : List ℤ} {x : ℤ} → Stands ρ x → Quoted ρ x
q-atom p = record { expr = atom p.place; means = p.there }

abbrev pub q_add : {ρ : List ℤ} {a b : ℤ} → Quoted ρ a → Quoted ρ b → Quoted ρ (a +ℤ b)
q_add p q = record { expr = p.expr ⊕ q.expr; means = ap₂ ◌+ℤ◌ p.means q.means }

abbrev pub q-sub : {ρ : List ℤ} {a b : ℤ} → Quoted ρ a → Quoted ρ b → Quoted ρ (a -ℤ b)
q-sub p q = record { expr = p.expr ⊖ q.expr; means = ap₂ ◌-ℤ◌ p.means q.means }

abbrev pub q-mul : {ρ : List ℤ} {a b : ℤ} → Quoted ρ a → Quoted ρ b → Quoted ρ (a *ℤ b)
q-mul p q = record { expr = p.expr ⊗ q.expr; means = ap₂ ◌*ℤ◌ p.means q.means }

abbrev pub q-neg : {ρ : List ℤ} {a : ℤ} → Quoted ρ a → Quoted ρ (neg_ℤ a)
q-neg p = record { expr = ⊝ p.expr; means = ap neg_ℤ p.means }

abbrev pub q-pos : {ρ : List ℤ} {n : ℕ} → Quoted ρ (pos n)
q-pos {ρ} {n} = record { expr = lit (pos n); means = refl }

abbrev pub q-negsuc : {ρ : List ℤ} {n : ℕ} → Quoted ρ (negsuc n)
q-negsuc {ρ} {n} = record { expr = lit (negsuc n); means = refl }

-- ---- statements

pub record Stated (ρ : List ℤ) (A : Type 0) : Type 1 where
  pub claim : Claim
  pub to : A → Holds ρ claim
  pub from : Holds ρ claim → A

abbrev pub s-le : {ρ : List ℤ} {a b : ℤ} → Quoted ρ a → Quoted ρ b → Stated ρ (a ≤ℤ b)
s-le p q = record {
  claim = p.expr ⊑ q.expr;
  to = λ h. subst₂ ◌≤ℤ◌ (sym p.means) (sym q.means) h;
  from = λ h. subst₂ ◌≤ℤ◌ p.means
      q.means h;
}

abbrev pub s-lt : {ρ : List ℤ} {a b : ℤ} → Quoted ρ a → Quoted ρ b → Stated ρ (a <ℤ b)
s-lt p q = record {
  claim = p.expr ⊏ q.expr;
  to = λ h. subst₂ ◌<ℤ◌ (sym p.means) (sym q.means) h;
  from = λ h. subst₂ ◌<ℤ◌ p.means
      q.means h;
}

abbrev pub s-eq : {ρ : List ℤ} {a b : ℤ} → Quoted ρ a → Quoted ρ b → Stated ρ (◌≡◌ {A = ℤ} a b)
s-eq p q = record { claim = p.expr ≐ q.expr; to = λ h. p.means ∙ h ∙ sym q.means; from = λ h. sym p.means ∙ h ∙ q.means }

abbrev pub s-and : {ρ : List ℤ} {A B : Type 0} → Stated ρ A → Stated ρ B → Stated ρ (A × B)
s-and p q = record { claim = p.claim & q.claim; to = λ h. (p.to h.0, q.to h.1); from = λ h. (p.from h.0, q.from h.1) }

abbrev pub s-fits : {ρ : List ℤ} {a : ℤ} → Quoted ρ a → Stated ρ (SFits w64 a)
s-fits {ρ} {a} p = record {
  claim = (lit (negsuc 9223372036854775807) ⊑ p.expr) & (p.expr ⊑ lit (pos 9223372036854775807));
  to = λ h. subst (λ (z : ℤ). (negsuc 9223372036854775807 ≤ℤ z) × (z ≤ℤ pos 9223372036854775807)) (sym p.means) (fits-range a h);
  from = λ h. range-fits a (subst (λ (z : ℤ). (negsuc 9223372036854775807 ≤ℤ z) × (z ≤ℤ pos 9223372036854775807)) p.means h);
}

abbrev pub s-lt-test : {ρ : List ℤ} {a b : ℤ} → Quoted ρ a → Quoted ρ b → Stated ρ (lt_z a b ≡ true)
s-lt-test p q = let w = s-lt p q in record { claim = w.claim; to = λ h. w.to (test-lt h); from = λ h. lt_test (w.from h) }

abbrev pub s-lt-no : {ρ : List ℤ} {a b : ℤ} → Quoted ρ a → Quoted ρ b → Stated ρ (lt_z a b ≡ false)
s-lt-no p q = let w = s-le q p in record { claim = w.claim; to = λ h. w.to (test-lt-no h); from = λ h. lt-test-no (w.from h) }

abbrev pub s-le-test : {ρ : List ℤ} {a b : ℤ} → Quoted ρ a → Quoted ρ b → Stated ρ (le_z a b ≡ true)
s-le-test p q = let w = s-le p q in record { claim = w.claim; to = λ h. w.to (test-le h); from = λ h. le_test (w.from h) }

abbrev pub s-le-no : {ρ : List ℤ} {a b : ℤ} → Quoted ρ a → Quoted ρ b → Stated ρ (le_z a b ≡ false)
s-le-no p q = let w = s-lt q p in record { claim = w.claim; to = λ h. w.to (test-le-no h); from = λ h. le-test-no (w.from h) }

pub ruleset quote = (
  q-atom,
  first,
  next,
  q-pos,
  q-negsuc,
  q-sub,
  q_add,
  q-mul,
  q-neg,
  s-le,
  s-lt,
  s-eq,
  s-and,
  s-fits,
  s-lt-test,
  s-lt-no,
  s-le-test,
  s-le-no,
)

-- ---- the calls

pub auto : (ρ : List ℤ) {A : Type 0} (s : Stated ρ A) → Asked ρ s.claim → A
auto ρ s h = s.from (settled ρ s.claim h)

pub hypo : (ρ : List ℤ) {A : Type 0} → A → (s : Stated ρ A) → Known ρ s.claim
hypo ρ h s = known ρ s.claim (s.to h)

pub both : {A B : Type 0} → A → B → A × B
both h k = (h, k)

pub combine : (ρ : List ℤ) {H A : Type 0} → H → (s : Stated ρ H) (t : Stated ρ A) → Certified (# 0) (s.claim ⟶ t.claim) → A
combine ρ h s t c = t.from (certain ρ (s.claim ⟶ t.claim) c (s.to h))

pub calc : (ρ : List ℤ) {A : Type 0} (s : Stated ρ A) → Certified (# 0) s.claim → A
calc ρ s t = s.from (certain ρ s.claim t)

pub term : (ρ : List ℤ) (z : ℤ) (q : Quoted ρ z) → Is z (sum_up (normal q.expr) ρ) (sum_down (normal q.expr) ρ)
term ρ z q = subst (λ (t : ℤ). Is t (sum_up (normal q.expr) ρ) (sum_down (normal q.expr) ρ)) q.means (is-value q.expr ρ)
