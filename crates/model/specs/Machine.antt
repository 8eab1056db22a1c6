-- Elements, instances and the plain machine. Its state is the value of every element. At an instance it fetches the reads in ticket order,
-- makes a value for each write by the statement's rule from these and the original iteration, and stores it. Nothing else changes.
use Rattle.std.specs.Prelude.{Bool, cond, ◌&&◌, ℕ, zero, suc, eqb, ℤ, length, get_or}
use mathlib.Core.List.{List, [], ◌∷◌, map, flat_map}
use Rattle.integers.specs.Sign.{eq_z}
use Rattle.lists.specs.Tests.{any, same_by}
use Rattle.model.specs.Ticket.{Access, Statement, Nest}
use Rattle.model.specs.Points.{iterations}
use Rattle.model.specs.Bounds.{subscript_at}

-- ---- elements

pub record Element : Type 0 where
  pub array : ℕ
  pub subscripts : List ℤ

unfoldable pub same : Element → Element → Bool
same e f = eqb e.array f.array && same_by eq_z e.subscripts f.subscripts

-- some element stands in both lists
unfoldable pub meet : List Element → List Element → Bool
meet es fs = any (λ e. any (same e) fs) es

unfoldable pub element : List ℤ → Access → Element
element p a = record { array = a.array; subscripts = map (subscript_at p) a.subscripts }

-- ---- instances: a statement and an iteration

pub record Instance : Type 0 where
  pub statement : ℕ
  pub iteration : List ℤ

-- the elements that an instance fetches and stores
pub record Accesses : Type 0 where
  pub reads : Instance → List Element
  pub writes : Instance → List Element

-- statement number k of the body
unfoldable pub body_at : List Statement → ℕ → Statement
body_at ss k = get_or ss k (record { rule = 0; constant = 0; writes = []; reads = [] })

unfoldable pub accesses : List Statement → Accesses
accesses ss = record {
  reads = λ i. map (element i.iteration) (body_at ss i.statement).reads;
  writes = λ i. map (element i.iteration) (body_at ss i.statement).writes;
}

-- the statements k, k + 1, .. (n of them) at the point p
unfoldable pub body : ℕ → ℕ → List ℤ → List Instance
body k zero p = []
body k (suc n) p = record { statement = k; iteration = p } ∷ body (suc k) n p

-- at each point the n statements in body order
unfoldable pub instances : ℕ → List (List ℤ) → List Instance
instances n ps = flat_map (body 0 n) ps

-- the order of a nest: its iterations, at each the statements in body order
abbrev pub order : Nest → List Instance
order N = instances (length N.statements) (iterations N.loops)

-- ---- the machine

abbrev pub State : Type 0
State = Element → ℤ

-- any rule: of a statement and the number of its write, from the values read and the original iteration
abbrev pub Rules : Type 0
Rules = ℕ → ℕ → List ℤ → List ℤ → ℤ

unfoldable pub store : Element → ℤ → State → State
store e v s = λ x. cond (same x e) v (s x)

unfoldable pub store_all : (ℕ → ℤ) → ℕ → List Element → State → State
store_all made k [] s = s
store_all made k (e ∷ es) s = store_all made (suc k) es (store e (made k) s)

unfoldable pub perform : Accesses → Rules → Instance → State → State
perform A rules i s = store_all (λ k. rules i.statement k (map s (A.reads i)) i.iteration) 0 (A.writes i) s

-- one step for each item of a list, in order
unfoldable pub run : {I S : Type 0} → (I → S → S) → List I → S → S
run step [] s = s
run step (x ∷ xs) s = run step xs (step x s)

abbrev pub exec : Accesses → Rules → List Instance → State → State
exec A rules = run (perform A rules)

-- rules that are given the original iteration, which `back` finds
unfoldable pub originally : (List ℤ → List ℤ) → Rules → Rules
originally back rules = λ s k vs it. rules s k vs (back it)
