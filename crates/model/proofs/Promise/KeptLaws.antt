-- What steps leave as it was: the arrays, the number of statements, each statement's rule and constant.
use mathlib.Core.Path.{◌≡◌, refl, ap, ◌∙◌}
use mathlib.Core.List.{List, [], ◌∷◌}
use Prim.Native.Nat.{ℕ}
use lib.ListN.{length, length-map}
use Rattle.model.specs.Ticket.{Statement, Step, Nest}
use Rattle.model.specs.Machine.{body_at}
use Rattle.model.specs.Limits.{statement_after, nest_after, nest_after_all}
use Rattle.model.proofs.Steps.AccessLaws.{body-after}

pub arrays-kept : (ts : List Step) (N : Nest) → (nest_after_all ts N).arrays ≡ N.arrays
unfolding nest_after_all nest_after
arrays-kept [] N = refl
arrays-kept (t ∷ ts) N = arrays-kept ts (nest_after t N)

pub statements-kept : (ts : List Step) (N : Nest) → length (nest_after_all ts N).statements ≡ length N.statements
unfolding nest_after_all nest_after
statements-kept [] N = refl
statements-kept (t ∷ ts) N = statements-kept ts (nest_after t N) ∙ length-map N.statements (statement_after t)

pub rules-kept : (ts : List Step) (N : Nest) (k : ℕ) → (body_at (nest_after_all ts N).statements k).rule ≡ (body_at N.statements k).rule
unfolding nest_after_all nest_after statement_after
rules-kept [] N k = refl
rules-kept (t ∷ ts) N k = rules-kept ts (nest_after t N) k ∙ ap (λ (s : Statement). s.rule) (body-after t N.statements k)

pub constants-kept : (ts : List Step) (N : Nest) (k : ℕ) → (body_at (nest_after_all ts N).statements k).constant ≡ (body_at N.statements k).constant
unfolding nest_after_all nest_after statement_after
constants-kept [] N k = refl
constants-kept (t ∷ ts) N k = constants-kept ts (nest_after t N) k ∙ ap (λ (s : Statement). s.constant) (body-after t N.statements k)
