-- The changes that a step makes to every limit of a side: what each is in the model, how many loops stand outside after it, and what it asks.
use Rattle.std.specs.Prelude.{ℕ, ◌+◌, ◌<◌, ◌≤◌, neg_ℤ}
use Rattle.integers.specs.Difference.{size}
use Rattle.lists.specs.Place.{under, on_head, swapped}
use Rattle.model.specs.Ticket as Model
use Rattle.model.specs.Limits.{on_coefficients, negated, skew_limit, skew_coefficients, section_lower, section_upper, element_limit, split_coefficients}
use Rattle.model.specs.Grammar.{most_loops}
use Rattle.step_limits.specs.declared.Change.{Change}
use Rattle.step_limits.specs.declared.Change.TheVariants.{ReverseLimit, ReverseRow, ExchangeRow, SkewLimit, SkewRow, SectionLower}
use Rattle.step_limits.specs.declared.Change.TheVariants.{SectionUpper, SectionElement, SectionRow}

unfoldable pub change_of : Change → Model.Limit → Model.Limit
change_of ReverseLimit l = negated l
change_of (ReverseRow a) l = on_coefficients (under a (on_head neg_ℤ)) l
change_of (ExchangeRow a) l = on_coefficients (under a swapped) l
change_of (SkewLimit s) l = skew_limit s.outer s.factor l
change_of (SkewRow s) l = on_coefficients (under s.outer (skew_coefficients s.between s.factor)) l
change_of (SectionLower w) l = section_lower w l
change_of (SectionUpper w) l = section_upper w l
change_of (SectionElement w) l = element_limit w l
change_of (SectionRow s) l = on_coefficients (under s.place (split_coefficients s.width)) l

-- of n loops outside
unfoldable pub outer_after : Change → ℕ → ℕ
outer_after ReverseLimit n = n
outer_after (ReverseRow a) n = n
outer_after (ExchangeRow a) n = n
outer_after (SkewLimit s) n = n
outer_after (SkewRow s) n = n
outer_after (SectionLower w) n = n
outer_after (SectionUpper w) n = n
outer_after (SectionElement w) n = n + 1
outer_after (SectionRow s) n = n + 1

-- the loops that the change names are outside, a row has room for it, and a factor is a word
unfoldable pub Allowed : Change → ℕ → Type 0
Allowed ReverseLimit n = n ≤ most_loops
Allowed (ReverseRow a) n = (a < n) × (n ≤ most_loops)
Allowed (ExchangeRow a) n = (a + 1 < n) × (n ≤ most_loops)
Allowed (SkewLimit s) n = (s.outer < n) × (n ≤ most_loops) × (size s.factor ≤ 32767)
Allowed (SkewRow s) n = (s.outer + 1 + s.between < n) × (n ≤ most_loops) × (size s.factor ≤ 32767)
Allowed (SectionLower w) n = (1 ≤ w) × (w ≤ 256)
Allowed (SectionUpper w) n = (1 ≤ w) × (w ≤ 256)
Allowed (SectionElement w) n = (n < most_loops) × (w ≤ 256)
Allowed (SectionRow s) n = (s.place < n) × (n < most_loops) × (s.width ≤ 256)
