-- The stages of the step that a match found.
use mathlib.Core.Path.{◌≡◌, refl, sym, ap, ◌∙◌}
use mathlib.Core.List.{[], ◌∷◌, map}
use Prim.Native.Nat.{ℕ, zero, suc, ◌<◌}
use native.Mathlib.Omega.{arith}
use lib.ListN.{length, get_or, length-map, get_or-map}
use Rattle.model.specs.Ticket as Model
use Rattle.model.specs.Ticket.{exchange}
use Rattle.model.specs.Steps.{chain}
use Rattle.model.specs.Judge.{stages}
use Rattle.step_kinds.specs.Kinds.{step_of}
use Rattle.step_kinds.specs.declared.Step.{Step}
use Rattle.step_kinds.specs.declared.Circulation.{Circulation}

single : (t : Model.Step) (j : ℕ) → j < 1 → t ≡ get_or (t ∷ []) j (exchange 0)
single t zero h = refl
single t (suc j) h = absurd (omega arith)

module _ (t d : Step) (e : t ≡ d) where
  -- a step that is taken at once
  pub count-one : stages (step_of d) ≡ step_of d ∷ [] → 1 ≡ length (stages (step_of t))
  count-one h = sym (ap (λ x. length (stages (step_of x))) e ∙ ap length h)

  pub stage-one : stages (step_of d) ≡ step_of d ∷ [] → (j : ℕ) → j < length (stages (step_of t)) → step_of d ≡ get_or (stages (step_of t)) j (exchange 0)
  stage-one h j l = let n = count-one h in single (step_of d) j (omega arith)
      ∙ sym (ap (λ x. get_or (stages (step_of x)) j (exchange 0)) e ∙ ap (λ ts. get_or ts j (exchange 0)) h)

module _ (t : Step) (c : Circulation) (e : t ≡ Step.Circulation c) where
  stages-are : stages (step_of t) ≡ map exchange (chain c.from c.to)
  unfolding stages
  stages-are = ap (λ x. stages (step_of x)) e

  pub count-many : length (chain c.from c.to) ≡ length (stages (step_of t))
  count-many = sym (ap length stages-are ∙ length-map (chain c.from c.to) exchange)

  pub inside-many : (j : ℕ) → j < length (stages (step_of t)) → j < length (chain c.from c.to)
  inside-many j h = let n = count-many in omega arith

  pub stage-many : (j k : ℕ) → k ≡ get_or (chain c.from c.to) j 0 → exchange k ≡ get_or (stages (step_of t)) j (exchange 0)
  stage-many j k q = ap exchange q ∙ sym (get_or-map exchange (chain c.from c.to) j 0) ∙ sym (ap (λ ts. get_or ts j (exchange 0)) stages-are)
