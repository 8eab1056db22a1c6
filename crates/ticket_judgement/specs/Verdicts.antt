-- A decoded ticket judged: the model's `judged_of`, and what the entries ask of a ticket that is accepted.
use Rattle.std.specs.Prelude.{◌≡◌, List, ℤ, length, Result, IfOk}
use Rattle.lists.specs.Membership.{SameMembers}
use Rattle.model.specs.Answer.{Answer, accepted}
use Rattle.model.specs.Ticket as Model
use Rattle.model.specs.Grammar.{total}
use Rattle.model.specs.Points.{iterations}
use Rattle.model.specs.Steps.{vectors_after_all}
use Rattle.model.specs.Judge.{Judged, directions_of, judged_of}
use Rattle.model.specs.Entries.{transparent}
use Rattle.ticket_refusals.specs.declared.Refusal.{Refusal}
use Rattle.ticket_steps.specs.declared.Steps.{Steps}
use Rattle.step_directions.specs.Sets.{vectors_of}
use Rattle.nest_flat.specs.FlatNests.{FlatNest, flat_nest, nest_of}
use Rattle.nest_elements.specs.Nests.{opaque_at}
use Rattle.ticket_decoding.specs.Ticket.{ticket_on}
use Rattle.step_judgement.specs.Judgement.{answer_with, New}
use Rattle.ticket_judgement.specs.declared.Decided.{Decided}

-- what is handed out of an accepted ticket T, whose new nest is on the flat nest P
pub record Known (T : Model.Ticket) (P : FlatNest) (r : Decided) : Type 0 where
  pub count : r.count ≡ length (iterations T.nest.loops)
  pub opaque : opaque_at r.opaque ≡ transparent 1 T.nest.statements
  pub elements : r.elements ≡ total T.nest.arrays
  pub new : New P
  -- a sign for each loop of the new nest
  pub level : r.directions.depth ≡ P.depth
  pub directions : SameMembers (vectors_of r.directions) (vectors_after_all T.steps (directions_of T.nest))

-- the ticket T judged, with the new nest on these limits and words
abbrev pub judged_with : Model.Ticket → List ℤ → List ℤ → Decided → Judged
judged_with T l w r = record { ticket = T; new = nest_of (flat_nest r.header l w) }

-- 1 to 13 of what was decoded; the limits and words of the new nest are l and w
pub record Decides (d : Answer Model.Ticket) (r : Result Decided Refusal) (l w : List ℤ) : Type 0 where
  pub ticket : Model.Ticket
  pub same : answer_with (judged_with ticket l w) r ≡ judged_of d
  pub known : IfOk r (λ q. Known ticket (flat_nest q.header l w) q)

-- the ticket that the flat nest P and the steps S hold
abbrev pub DecidesOn : FlatNest → Steps → Result Decided Refusal → List ℤ → List ℤ → Type 0
DecidesOn P S r l w = Decides (accepted (ticket_on P S)) r l w
