-- `read_step`: the kind decides which of the readers follows.
use mathlib.Core.Path.{◌≡◌}
use Prim.Native.Nat.{ℕ}
use native.Mathlib.Omega.{arith}
use borrow.Author.Tests.{ne_eqb}
use Rattle.model.specs.Grammar.{step_of, exchange_step, reversal_step, skew_step, section_step, circulation_step}
use Rattle.ticket_words.proofs.ReaderLaws.{refused-first, read-then}
use Rattle.ticket_steps.specs.Steps.{one_step}
use Rattle.ticket_steps.proofs.StepLaws.{handed_on, reads-same}
use Rattle.ticket_steps.proofs.read_step.Goals as goal

module _ (v step m : ℕ) where
  kind_1 : v ≡ 1 → step_of v step m ≡ exchange_step step m
  unfolding step_of
  kind_1 s = rw s

  kind_2 : v ≡ 2 → step_of v step m ≡ reversal_step step m
  unfolding step_of
  kind_2 s = rw s

  kind_3 : v ≡ 3 → step_of v step m ≡ skew_step step m
  unfolding step_of
  kind_3 s = rw s

  kind-4 : v ≡ 4 → step_of v step m ≡ section_step step m
  unfolding step_of
  kind-4 s = rw s

  kind-5 : (v ≡ 1 → ⊥) → (v ≡ 2 → ⊥) → (v ≡ 3 → ⊥) → (v ≡ 4 → ⊥) → step_of v step m ≡ circulation_step step m
  unfolding step_of
  kind-5 x y z t = rw (ne_eqb v 1 x, ne_eqb v 2 y, ne_eqb v 3 z, ne_eqb v 4 t)

pub returns-in_err-kind-clause-reads : goal.returns-in_err-kind-clause-reads
unfolding one_step
returns-in_err-kind-clause-reads c = handed_on c.from_residual.ensures.1 (refused-first _ c.in_err-kind.ensures.reads)

pub returns-in-1-clause-reads : goal.returns-in-1-clause-reads
unfolding one_step
returns-in-1-clause-reads c = read-then _ c.in_ok-kind.ensures.reads (reads-same (kind_1 _ _ _ c.in-1.is) c.read_exchange.ensures.reads)

pub returns-in-2-clause-reads : goal.returns-in-2-clause-reads
unfolding one_step
returns-in-2-clause-reads c = read-then _ c.in_ok-kind.ensures.reads (reads-same (kind_2 _ _ _ c.in-2.is) c.read_reversal.ensures.reads)

pub returns-in-3-clause-reads : goal.returns-in-3-clause-reads
unfolding one_step
returns-in-3-clause-reads c = read-then _ c.in_ok-kind.ensures.reads (reads-same (kind_3 _ _ _ c.in-3.is) c.read_skew.ensures.reads)

pub returns-in-4-clause-reads : goal.returns-in-4-clause-reads
unfolding one_step
returns-in-4-clause-reads c = read-then _ c.in_ok-kind.ensures.reads (reads-same (kind-4 _ _ _ c.in-4.is) c.read_section.ensures.reads)

pub returns-in_default-clause-reads : goal.returns-in_default-clause-reads
unfolding one_step
returns-in_default-clause-reads c =
    let n1 : c.in_ok-kind.kind ≡ 1 → ⊥ = omega arith in
    let n2 : c.in_ok-kind.kind ≡ 2 → ⊥ = omega arith in
    let n3 : c.in_ok-kind.kind ≡ 3 → ⊥ = omega arith in
    let n4 : c.in_ok-kind.kind ≡ 4 → ⊥ = omega arith in
    read-then _ c.in_ok-kind.ensures.reads (reads-same (kind-5 _ _ _ n1 n2 n3 n4) c.read_circulation.ensures.reads)
