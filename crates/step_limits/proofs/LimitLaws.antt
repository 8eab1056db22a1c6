-- What each function on a limit hands out, from what it did to the constant and to the row.
use mathlib.Core.Path.{◌≡◌, refl, sym, ◌∙◌, ap, subst}
use mathlib.Core.List.{List, [], ◌∷◌, ◌++◌}
use Prim.Native.Nat.{ℕ, ◌<◌, ◌≤◌, ◌+◌, ◌*◌, ◌-◌}
use lib.ListN.{length, get_or, take, set, length-set}
use lib.IntN.{ℤ, pos, negsuc, neg_ℤ, ◌+ℤ◌, ◌-ℤ◌, ◌*ℤ◌}
use Rattle.integers.specs.Affine.{Within}
use Rattle.integers.specs.Difference.{size}
use Rattle.model.specs.Ticket as Model
use Rattle.model.specs.Limits.{negated, section_lower, section_upper, element_limit, skew_limit, on_coefficients}
use Rattle.ticket_loops.specs.LoopReads.{limit_of}
use Rattle.ticket_loops.specs.declared.Limit.{Limit}
use Rattle.step_limits.specs.Small.{SmallLimit}
use Rattle.step_limits.specs.Makes.{mixed, RowIs, LimitIs}
use Rattle.step_limits.specs.Change.{change_of, outer_after, Allowed}
use Rattle.step_limits.specs.declared.Change.{Change}
use Rattle.step_limits.proofs.RowLaws.{mixed-negates, front-longer, front-on_head}

pub same-limit : {p q : ℕ} {c d : ℤ} {xs ys : List ℤ} → p ≡ q → c ≡ d → xs ≡ ys
    → ◌≡◌ {A = Model.Limit} (record { multiplier = p; constant = c; coefficients = xs }) (record { multiplier = q; constant = d; coefficients = ys })
same-limit e f g i = record { multiplier = e i; constant = f i; coefficients = g i }

-- ---- numbers within ±32767, of the struct

pub record Numbers (n : ℕ) (l : Limit) : Type 0 where
  pub multiplier : l.multiplier ≤ 32767
  pub constant : size l.constant ≤ 32767
  pub coefficients : Within 32767 (take n l.coefficients)

pub numbers : (n : ℕ) (l : Limit) → SmallLimit (limit_of n l) → Numbers n l
unfolding limit_of
numbers n l s = record { multiplier = s.multiplier; constant = s.constant; coefficients = s.coefficients }

-- ---- each change

module _ (n : ℕ) (l : Limit) where
  pub negated-is : (d : ℤ) (ds : List ℤ) → d ≡ neg_ℤ l.constant
      → RowIs n ds (mixed (negsuc 0) (pos 0) (take n l.coefficients) (take n l.coefficients))
      → LimitIs n (record { multiplier = l.multiplier; constant = d; coefficients = ds }) (negated (limit_of n l))
  unfolding negated limit_of
  negated-is d ds e f = record { is = same-limit refl e (f.is ∙ mixed-negates (take n l.coefficients)); within = record { room = f.room } }

  pub skewed-is : (a : ℕ) (c : ℤ) (k z : ℤ) → length l.coefficients ≡ 6 → a < n → k ≡ l.constant
      → z ≡ get_or l.coefficients a (pos 0) +ℤ (c *ℤ pos l.multiplier)
      → LimitIs n (record { multiplier = l.multiplier; constant = k; coefficients = set l.coefficients a z }) (skew_limit a c (limit_of n l))
  unfolding skew_limit limit_of
  skewed-is a c k z m h e f = record {
    is = same-limit refl e (front-on_head (pos 0) (λ x. x +ℤ (c *ℤ pos l.multiplier)) n a l.coefficients z h f);
    within = record { room = simp length-set m };
  }

  pub lower-is : (w : ℕ) (k : ℤ) → length l.coefficients ≡ 6 → k ≡ l.constant -ℤ pos (l.multiplier * (w - 1))
      → LimitIs n (record { multiplier = l.multiplier * w; constant = k; coefficients = l.coefficients }) (section_lower w (limit_of n l))
  unfolding section_lower limit_of
  lower-is w k m e = record { is = same-limit refl e refl; within = record { room = m } }

  pub upper_is : (w : ℕ) (k : ℤ) → length l.coefficients ≡ 6 → k ≡ l.constant
      → LimitIs n (record { multiplier = l.multiplier * w; constant = k; coefficients = l.coefficients }) (section_upper w (limit_of n l))
  unfolding section_upper limit_of
  upper_is w k m e = record { is = same-limit refl e refl; within = record { room = m } }

  pub element-is : (w : ℕ) (k z : ℤ) → length l.coefficients ≡ 6 → n < length l.coefficients → k ≡ l.constant
      → z ≡ neg_ℤ (pos (l.multiplier * w))
      → LimitIs (n + 1) (record { multiplier = l.multiplier; constant = k; coefficients = set l.coefficients n z }) (element_limit w (limit_of n l))
  unfolding element_limit limit_of
  element-is w k z m h e f = record {
    is = same-limit refl e (front-longer n l.coefficients z h ∙ ap (λ z. take n l.coefficients ++ (z ∷ [])) f);
    within = record { room = simp length-set m };
  }

  -- the row alone
  pub row_is : (m : ℕ) (g : List ℤ → List ℤ) (r : Limit) (cs : List ℤ)
      → r ≡ record { multiplier = l.multiplier; constant = l.constant; coefficients = cs }
      → RowIs m cs (g (take n l.coefficients)) → LimitIs m r (on_coefficients g (limit_of n l))
  unfolding on_coefficients limit_of
  row_is m g r cs e f = subst (λ (q : Limit). LimitIs m q (on_coefficients g (limit_of n l))) (sym e)
      (record { is = same-limit refl refl f.is; within = record { room = f.room } })

-- ---- the change that a match found

pub done : (ch d : Change) (n : ℕ) (l r : Limit) → ch ≡ d → LimitIs (outer_after d n) r (change_of d (limit_of n l))
    → LimitIs (outer_after ch n) r (change_of ch (limit_of n l))
done ch d n l r e f = subst (λ (x : Change). LimitIs (outer_after x n) r (change_of x (limit_of n l))) (sym e) f

pub allowed : (ch d : Change) (n : ℕ) → ch ≡ d → Allowed ch n → Allowed d n
allowed ch d n e a = subst (λ (x : Change). Allowed x n) e a
