-- Refusal 15: the first rule 0 of a flat nest is that of its nest's first opaque statement.
use mathlib.Core.Path.{◌≡◌, refl, sym, ◌∙◌, ap}
use mathlib.Core.Bool.{Bool, true, false, not, cond}
use mathlib.Core.List.{List, [], ◌∷◌}
use Prim.Native.Nat.{ℕ, suc, ◌+◌, ◌≤◌}
use native.Mathlib.Omega.{arith}
use native.Mathlib.Numerals.{add-one}
use lib.Dec.{eqb}
use lib.ListN.{length, get_or, take, drop}
use lib.Seq.{drop-cons}
use Rattle.std.specs.Prelude.{Option, Some, None, position}
use Rattle.std.specs.Option.{option_map}
use Rattle.std.specs.List.{position_from}
use Rattle.std.proofs.lemmas.Iterator.Adapters.{position_from-zero}
use Rattle.model.specs.Answer.{Answer, refused, require, ◌>>◌, ◌>>=◌}
use Rattle.model.specs.Entries.{transparent}
use Rattle.nest_flat.specs.FlatNests.{FlatNest, sizes_in, statements_from, nest_of, FlatNestIn}
use Rattle.nest_flat.proofs.FlatNestLaws.{sizes-count}
use Rattle.nest_elements.specs.Nests.{opaque_at}

abbrev is-zero : ℕ → Bool
is-zero n = eqb n 0

-- from statement i on, counted from 0
abbrev number_from : ℕ → List ℕ → Option ℕ
number_from i rules = option_map suc (position_from is-zero i rules)

one-rule : (b : Bool) (i : ℕ) (rest : List ℕ) (y : Answer (Unit {0})) → opaque_at (number_from (i + 1) rest) ≡ y
    → opaque_at (option_map suc (cond b (Some i) (position_from is-zero (i + 1) rest))) ≡ (require (not b) 15 (suc i) >> y)
unfolding require ◌>>◌ ◌>>=◌
one-rule true i rest y e = refl
one-rule false i rest y e = e

module _ (P : FlatNest) where
  rules-from : (k i : ℕ) (ms : List ℕ) → i + length ms ≤ length P.rules
      → opaque_at (number_from i (take (length ms) (drop i P.rules))) ≡ transparent (suc i) (statements_from P k i ms)
  unfolding transparent statements_from
  rules-from k i [] h = refl
  rules-from k i (m ∷ ms) h = rw (drop-cons P.rules i 0 (omega arith)) (one-rule (is-zero (get_or P.rules i 0)) i (take (length ms) (drop (suc i) P.rules)) _
      (rw add-one (rules-from (k + m) (suc i) ms (omega arith))))

  module _ (h : FlatNestIn P) (found : Option ℕ) (e : found ≡ position is-zero (take P.statements P.rules)) where
    number-is : opaque_at (option_map suc found) ≡ transparent 1 (nest_of P).statements
    unfolding nest_of
    number-is = ap (λ (o : Option ℕ). opaque_at (option_map suc o)) (e ∙ position_from-zero is-zero (take P.statements P.rules))
        ∙ ap (λ (n : ℕ). opaque_at (number_from 0 (take n P.rules))) (sym (sizes-count P h))
        ∙ rules-from 0 0 (sizes_in P) (let l = sizes-count P h in let r = h.rules-length in let f = h.few-statements in omega arith)

    pub opaque-found : (s : ℕ) → found ≡ Some s → refused 15 (s + 1) ≡ transparent 1 (nest_of P).statements
    opaque-found s q = ap (refused 15) (add-one s) ∙ ap (λ (o : Option ℕ). opaque_at (option_map suc o)) (sym q) ∙ number-is

    pub none-opaque : (r : Option ℕ) → found ≡ None → r ≡ None → opaque_at r ≡ transparent 1 (nest_of P).statements
    none-opaque r q g = ap opaque_at g ∙ ap (λ (o : Option ℕ). opaque_at (option_map suc o)) (sym q) ∙ number-is
