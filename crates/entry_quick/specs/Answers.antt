-- The quick test's answer, and what the stages after the count of the points answer.
use Rattle.std.specs.Prelude.{ℕ, Result, Ok, Err}
use Rattle.model.specs.Answer.{Answer, accepted, ◌>>=◌, ◌>>◌}
use Rattle.model.specs.Ticket.{Nest}
use Rattle.model.specs.Bounds.{admitted}
use Rattle.model.specs.Quick.{Independence, apart, perhaps, quick_test}
use Rattle.model.specs.Entries.{all_accesses, access_number}
use Rattle.ticket_refusals.specs.Refusals.{refusal}
use Rattle.ticket_refusals.specs.declared.Refusal.{Refusal}
use Rattle.entry_quick.specs.declared.Meeting.{Meeting}
use Rattle.entry_quick.specs.declared.Meeting.TheVariants.{Apart, Perhaps}

abbrev pub meeting_of : Meeting → Independence
meeting_of Apart = apart
meeting_of Perhaps = perhaps

abbrev pub answer_of : Result Meeting Refusal → Answer Independence
answer_of (Ok m) = accepted (meeting_of m)
answer_of (Err r) = refusal r

-- after 1 to 9: the two access numbers, then the test
unfoldable pub tested : Nest → ℕ → ℕ → Answer Independence
tested N a b = access_number (all_accesses N) a >>= (λ u. access_number (all_accesses N) b >>= (λ v. accepted (quick_test N.loops u v)))

-- 7 to 9 of a nest, then its test
unfoldable pub test_nest : Nest → ℕ → ℕ → Answer Independence
test_nest N a b = admitted N >> tested N a b
