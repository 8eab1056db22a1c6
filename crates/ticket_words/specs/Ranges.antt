-- The number of a word's bits within a range.
use Rattle.std.specs.Prelude.{◌≡◌, true, false, ℕ, ◌≤◌, pos, nat_abs, Result, Ok, Err}
use Rattle.model.specs.Words.{signed}
use Rattle.model.specs.Grammar.{between}
use Rattle.ticket_refusals.specs.declared.Refusal.{Refusal}

-- of a word's bits v: the number, or the refusal where it is out of range
abbrev pub Ranged : ℕ → ℕ → ℕ → Refusal → Result ℕ Refusal → Type 0
Ranged v lo hi outside (Ok n) = (n ≡ nat_abs (signed v)) × (lo ≤ n) × (n ≤ hi) × (between (pos lo) (pos hi) (signed v) ≡ true)
Ranged v lo hi outside (Err r) = (r ≡ outside) × (between (pos lo) (pos hi) (signed v) ≡ false)
