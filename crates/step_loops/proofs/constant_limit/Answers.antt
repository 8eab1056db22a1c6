use mathlib.Core.Path.{◌≡◌, refl, ◌∙◌, ap}
use mathlib.Core.List.{◌∷◌}
use Prim.Native.Nat.{ℕ, zero, suc, ◌≤◌}
use native.Mathlib.Omega.{arith}
use native.Mathlib.Numerals.{add-one}
use lib.IntN.{pos}
use lib.ListN.{take, replicate}
use mir.Syntax.{w32}
use mir.Val.{to_z, of_z}
use borrow.Author.Rules.{rules}
use Rattle.model.specs.Limits.{constant_limit}
use Rattle.ticket_loops.specs.LoopReads.{limit_of}
use Rattle.step_limits.proofs.LimitLaws.{same-limit}
use Rattle.step_loops.proofs.constant_limit.Goals as goal

zeros : (a m : ℕ) → a ≤ m → take a (replicate m (pos 0)) ≡ replicate a (pos 0)
zeros zero m h = refl
zeros (suc a) zero h = absurd (omega arith)
zeros (suc a) (suc m) h = ap (pos 0 ∷◌) (zeros a m (omega arith))

pub returns : goal.returns
unfolding constant_limit limit_of
returns c =
    let back : to_z w32 (of_z w32 c.args.v) ≡ c.args.v = search rules in
    record {
      is = λ a n h e. same-limit refl (back ∙ e) (ap (λ i. take i (replicate 6 (pos 0))) (add-one a) ∙ zeros (suc a) 6 (omega arith));
      within = (refl, record { room = refl });
    }
