-- The steps that the structs hold, and the readers of their parts.
use Rattle.std.specs.Prelude.{◌≡◌, Bool, cond, ◌&&◌, not, List, [], ◌∷◌, map, ℕ, suc, ◌≤◌, ltb, ℤ, pos, neg_ℤ, length, take}
use Rattle.integers.specs.Sign.{eq_z}
use Rattle.model.specs.Ticket as Model
use Rattle.model.specs.Grammar as Grammar
use Rattle.model.specs.Grammar.{Reader, ◌>>=◌, ◌>>◌, most_loops}
use Rattle.step_kinds.specs.Kinds.{step_of}
use Rattle.ticket_steps.specs.declared.Numbered.{Numbered}
use Rattle.ticket_steps.specs.declared.Steps.{Steps}

-- ---- one step

-- the last loop that a section may name
abbrev pub sectionable : ℕ → ℕ
sectionable m = cond (ltb m most_loops) m 0

-- a loop other than loop a, as a circulation's b
abbrev pub other_loop : ℕ → ℕ → ℤ → Bool
other_loop m a w = Grammar.between (pos 1) (pos m) w && not (eq_z w (pos a))

-- the word c of a skew: its factor
unfoldable pub factor : Reader ℤ
factor = do
  c ← Grammar.within (neg_ℤ (pos Grammar.most_factor)) (pos Grammar.most_factor)
  Grammar.must (not (eq_z c (pos 0))) 4
  Grammar.done c

-- the kind and what follows it
unfoldable pub one_step : ℕ → ℕ → Reader Model.Step
one_step k m = do
  kind ← Grammar.natural 1 Grammar.step_kinds
  Grammar.step_of kind k m

-- ---- the section

unfoldable pub steps_of : Steps → List Model.Step
steps_of S = map (λ (x : Numbered). step_of x.step) (take S.count S.steps)

-- each with its number, from k on
abbrev pub NumberedFrom : ℕ → List Numbered → Type 0
NumberedFrom k [] = Unit {0}
NumberedFrom k (x ∷ l) = (x.number ≡ k) × NumberedFrom (suc k) l

pub record StepsIn (S : Steps) : Type 0 where
  pub few : S.count ≤ 8
  pub room : length S.steps ≡ 8
  pub numbered : NumberedFrom 1 (take S.count S.steps)
