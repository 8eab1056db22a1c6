-- `hurkeztor_reason`: the first k records of the list are the first k of those found, and the finder has given as many.
use Rattle.std.proofs.Common.{◌≡◌, ℕ, ◌-◌, ◌≤◌, List, [], length, min}
use Rattle.model.specs.Pairs.{reason}
use Rattle.entry_reason.specs.declared.Finder.{Finder}
use Rattle.entry_reason.specs.declared.Pair.{Pair}
use Rattle.entry_reason.specs.Finders.{Ready}
use Rattle.entry_reason.specs.Records.{packed_reason, found_in}
use Rattle.hurkeztor.proofs.FillLaws.{mixed}
use Rattle.hurkeztor.proofs.hurkeztor_reason.Given as goal

-- of a ticket b and a list that was lent as ys: k of n records are filled, and f is the finder that gave them
pub record Filled (b : List ℕ) (ys : List Pair) (n k : ℕ) (f : Finder) (zs : List Pair) : Type 0 where
  pub below : k ≤ n
  pub most : n ≡ min (length (found_in b)) (length ys)
  pub given : f.given ≡ k
  pub answer : f.answer ≡ packed_reason (reason b []).answer
  pub ready : Ready b f
  pub list : zs ≡ mixed k (found_in b) ys

abbrev pub invariant-loop-k : goal.invariant-loop-k
invariant-loop-k l = Filled l.ticket l.initial.list l.n l.k l.f l.list
