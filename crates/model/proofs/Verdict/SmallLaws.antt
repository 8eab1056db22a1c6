-- Refusal 12 shows its reason: the numbers of a nest, and that `small_numbers` fails exactly where one of them is beyond ±32767.
use mathlib.Core.Path.{◌≡◌, refl, sym, ap₂, ◌∙◌, subst}
use mathlib.Core.Bool.{◌&&◌}
use mathlib.Core.List.{flat_map}
use native.Mathlib.Omega.{arith}
use lib.Dec.{T, leb, not_T, leb→le, le→leb, nleb→lt}
use lib.IntN.{nat_abs}
use Rattle.lists.specs.Tests.{all}
use Rattle.lists.proofs.TestLaws.{all-holds, holds-all, all_join, all-fails, all-parts}
use Rattle.model.specs.Ticket.{Limit, Loop, Access, Statement, Nest}
use Rattle.model.specs.Bounds.{accesses_of}
use Rattle.model.specs.Judge.{small, small_limit, small_loop, small_access, small_numbers}
use Rattle.model.specs.Reasons.{limit_numbers, loop_numbers, subscript_numbers, access_numbers, statement_numbers, nest_numbers, AllSmall, SomeLarge}

-- ---- the test is of these

limit-test : (l : Limit) → small_limit l ≡ all small (limit_numbers l)
unfolding small_limit limit_numbers all small
limit-test l = refl

loop-test : (L : Loop) → small_loop L ≡ all small (loop_numbers L)
unfolding small_loop loop_numbers
loop-test L = ap₂ ◌&&◌ (all-parts small limit_numbers small_limit limit-test L.lower) (all-parts small limit_numbers small_limit limit-test L.upper)
    ∙ sym (all_join small (flat_map limit_numbers L.lower) (flat_map limit_numbers L.upper))

access-test : (a : Access) → small_access a ≡ all small (access_numbers a)
unfolding small_access access_numbers subscript_numbers all
access-test a = all-parts small subscript_numbers (λ s. small s.constant && all small s.coefficients) (λ s. refl) a.subscripts

statement-test : (s : Statement) → all small_access (accesses_of s) ≡ all small (statement_numbers s)
unfolding statement_numbers
statement-test s = all-parts small access_numbers small_access access-test (accesses_of s)

numbers-test : (N : Nest) → small_numbers N ≡ all small (nest_numbers N)
unfolding small_numbers nest_numbers
numbers-test N =
    ap₂ ◌&&◌ (all-parts small loop_numbers small_loop loop-test N.loops) (all-parts small statement_numbers (λ s. all small_access (accesses_of s))
    statement-test N.statements)
    ∙ sym (all_join small (flat_map loop_numbers N.loops) (flat_map statement_numbers N.statements))

-- ---- small or not

module _ (N : Nest) where
  pub test-small : T (small_numbers N) → AllSmall N
  unfolding small
  test-small h x m = leb→le (nat_abs x) 32767 (all-holds small (nest_numbers N) (subst T (numbers-test N) h) x m)

  pub small-test : AllSmall N → T (small_numbers N)
  unfolding small
  small-test h = subst T (sym (numbers-test N)) (holds-all small (nest_numbers N) (λ x m. le→leb (nat_abs x) 32767 (h x m)))

  pub test-large : (T (small_numbers N) → ⊥) → SomeLarge N
  unfolding small
  test-large h = let r = all-fails small (nest_numbers N) (λ t. h (subst T (sym (numbers-test N)) t)) in
      record { value = r.0; there = r.1; large = nleb→lt (nat_abs r.0) 32767 (not_T (leb (nat_abs r.0) 32767) r.2) }

  pub large-test : SomeLarge N → T (small_numbers N) → ⊥
  large-test r t = let a = test-small t r.value r.there in let b = r.large in omega arith
