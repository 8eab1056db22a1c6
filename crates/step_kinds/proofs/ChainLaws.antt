-- The exchanges of a chain by their number.
use mathlib.Core.Path.{◌≡◌, sym, ap, ◌∙◌}
use Prim.Native.Nat.{ℕ, ◌+◌, ◌-◌, ◌≤◌, ◌<◌}
use native.Mathlib.Omega.{arith}
use lib.ListN.{length, get_or}
use Rattle.model.specs.Steps.{chain}
use Rattle.model.proofs.Steps.ChainLaws.{up-length, down-length, up-get_d, down-get_d, chain-in, chain-out}

module _ (a b : ℕ) where
  pub length-in : a ≤ b → b - a ≡ length (chain a b)
  length-in h = sym (ap length (chain-in a b h) ∙ up-length a (b - a))

  pub length-out : b ≤ a → a - b ≡ length (chain a b)
  length-out h = sym (ap length (chain-out a b h) ∙ down-length b (a - b))

  pub place_in : (j : ℕ) → a ≤ b → j < length (chain a b) → a + j ≡ get_or (chain a b) j 0
  place_in j h l = let e = length-in h in sym (ap (λ ks. get_or ks j 0) (chain-in a b h) ∙ up-get_d a (b - a) j (omega arith))

  pub place_out : (j : ℕ) → b ≤ a → j < length (chain a b) → a - 1 - j ≡ get_or (chain a b) j 0
  place_out j h l = let e = length-out h in sym (ap (λ ks. get_or ks j 0) (chain-out a b h) ∙ down-get_d b (a - b) j (omega arith) ∙ omega arith)
