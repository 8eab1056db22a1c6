-- A real ticket meets what the functions ask: one loop from 1 to 1, an array of one element, a statement that stores 0 in it, and a reversal.
use mathlib.Core.Path.{◌≡◌, refl, sym, ap, ◌∙◌}
use mathlib.Core.Bool.{true}
use mathlib.Core.List.Memᴰ
use mathlib.Core.List.{List, [], ◌∷◌, flat_map}
use Prim.Native.Nat.{ℕ, zero, suc, ◌+◌, ◌*◌, ◌<◌}
use native.Mathlib.Omega.{arith}
use lib.IntN.{ℤ, pos, negsuc}
use lib.ListN.{length, get_or, replicate, length-replicate}
use Rattle.lists.specs.Parts.{rows}
use Rattle.lists.specs.Place.{under, on_head}
use Rattle.lists.specs.Tests.{any}
use Rattle.lists.proofs.MembershipLaws.{all_nil, all_cons}
use Rattle.integers.specs.Affine.{Within, affine, dot}
use Rattle.integers.specs.Division.{floor_div, ceil_div}
use Rattle.model.specs.Answer.{accepted, require, ◌>>◌, ◌>>=◌}
use Rattle.model.specs.Grammar.{elements, total, extents, depth_after, ticket_loops, most_loops}
use Rattle.model.specs.Points.{largest, smallest, value, first_index, last_index, span, ints, indices, points, partial_points, iterations}
use Rattle.model.specs.Bounds.{last_of, beyond, survey, space, subscript_at, outside, violates, accesses_of, in_arrays}
use Rattle.model.specs.Machine.{element}
use Rattle.model.specs.Store.{base, place_from, place_of}
use Rattle.model.specs.Steps.{forward, forward_all}
use Rattle.model.specs.Ranges.{LoopRanges, NestRanges}
use Rattle.step_kinds.specs.declared.Step.TheVariants.{Reversal}
use Rattle.ticket_steps.specs.Steps.{steps_of}
use Rattle.ticket_steps.specs.declared.Numbered.{Numbered}
use Rattle.ticket_steps.specs.declared.Steps.{Steps}
use Rattle.nest_flat.specs.Flat.{limit_at, limits_at, loop_at, loops_from}
use Rattle.nest_flat.specs.Layout.{extents_at, arrays_from, arrays_of, form_at, forms_from, access_at, accesses_from}
use Rattle.nest_flat.specs.FlatNests.{FlatNest, words_in, accessed_in, extents_in, statements_from, nest_of, access_of, sizes_in}
use Rattle.nest_flat.proofs.FlatNestLaws.{access-is}
use Rattle.nest_flat.proofs.Plain.{plain}
use Rattle.nest_points.specs.Stored.{RowsIn}
use Rattle.nest_points.specs.Nests.{PointsAre}
use Rattle.nest_elements.specs.Nests.{NumbersAre}
use Rattle.dependence_marks.specs.Uses.{first_written, written_in}
use Rattle.step_points.specs.Points.{reach, after_steps, PointsMoved}
use Rattle.ticket_decoding.specs.Ticket.{ticket_on, TicketIn}
use Rattle.ticket_encoding.proofs.Witness.{encodable}
use Rattle.ticket_admission.specs.CountedTickets.{Laid}
use Rattle.pair_partners.proofs.Witness as Partners
use Rattle.pair_records.specs.Windows.{batch_room}
use Rattle.pair_search.specs.Searches.{SearchIn}
use Rattle.pair_search.specs.Rooms.{few_points, few_numbers, Few, RoomFor, Linked}
use Rattle.pair_search.proofs.SearchLaws.{room-few}

abbrev storing : FlatNest
storing = plain 1 0

abbrev reverse-once : Numbered
reverse-once = record { number = 1; step = Reversal (record { target = 0 }) }

abbrev reversing : Steps
reversing = record { count = 1; steps = replicate 8 reverse-once }

loop-ranges : LoopRanges 4 (loop_at storing.limits storing.counts 0)
unfolding nest_of loops_from loop_at limits_at
loop-ranges = let r = encodable.ranges.loops (loop_at storing.limits storing.counts 0) (Memᴰ.head refl) in record {
  few-lower = record { low = omega arith; high = omega arith };
  few-upper = record { low = omega arith; high = omega arith };
  lower = r.lower;
  upper = r.upper;
}

nest-ranges : NestRanges 4 4 (nest_of storing)
unfolding nest_of loops_from
nest-ranges = let r = encodable.ranges in record {
  few-loops = record { low = omega arith; high = omega arith };
  loops = all_cons (LoopRanges 4) loop-ranges (all_nil (LoopRanges 4));
  few-arrays = r.few-arrays;
  arrays = r.arrays;
  room = r.room;
  few-statements = r.few-statements;
  statements = r.statements;
}

ticket-in : TicketIn storing reversing
unfolding ticket_on steps_of depth_after nest_of loops_from
ticket-in = record {
  flat-nest = encodable.flat-nest;
  shallow = omega arith;
  steps = record { few = omega arith; room = length-replicate 8 reverse-once; numbered = (refl, tt) };
  ranges = record { nest = nest-ranges; few-steps = omega arith; steps = (omega arith, tt) };
  formed = encodable.formed;
}

laid : Laid storing reversing 1
unfolding nest_of space survey ◌>>◌ ◌>>=◌ require any beyond last_of partial_points points flat_map indices ints span first_index last_index largest
    smallest value affine dot ceil_div floor_div loops_from loop_at limits_at limit_at iterations
laid = record { ticket = ticket-in; space-accepted = refl; count = refl }

inside : in_arrays (nest_of storing).arrays (iterations (nest_of storing).loops) 1 (nest_of storing).statements ≡ accepted tt
unfolding nest_of in_arrays ◌>>◌ ◌>>=◌ require any points flat_map indices ints span first_index last_index largest smallest value affine dot ceil_div
    floor_div loops_from loop_at limits_at limit_at iterations violates outside subscript_at accesses_of extents statements_from access_at accesses_from
    forms_from form_at arrays_of arrays_from extents_at
inside = refl

pub search-in : SearchIn storing reversing 1 1 0 (replicate batch_room (pos 0))
search-in = record {
  laid = laid;
  inside = inside;
  steps-there = omega arith;
  source-there = omega arith;
  room = length-replicate batch_room (pos 0);
}

pub few : Few storing 1
unfolding nest_of total elements arrays_of arrays_from extents_at
few = record { points = omega arith; numbers = omega arith; elements = omega arith }

pub room : RoomFor storing 1 few_points (ticket_loops * few_points) (most_loops * few_points) few_numbers few_numbers
room = room-few storing reversing 1 1 0 (replicate batch_room (pos 0)) search-in few

-- ---- its one point, which is moved to −1 and has no next one

abbrev point : List ℤ
point = pos 1 ∷ []

abbrev moved : List ℤ
moved = negsuc 0 ∷ []

one_place : place_of (nest_of storing).arrays (element point (access_at (words_in storing) (accessed_in storing) (extents_in storing) 1 0)) ≡ 0
unfolding nest_of place_of base place_from extents element access_at forms_from form_at subscript_at affine dot arrays_of arrays_from extents_at
one_place = refl

rows_in : RowsIn point 1 1
unfolding rows
rows_in = record {
  few = omega arith;
  bound = omega arith;
  room = omega arith;
  near = all_cons (Within 100000) (omega arith, tt) (all_nil (Within 100000));
}

points-are : PointsAre storing point 1
unfolding nest_of rows points flat_map indices ints span first_index last_index largest smallest value affine dot ceil_div floor_div loops_from loop_at
    limits_at limit_at iterations
points-are = record { count = refl; are = refl; stored = rows_in }

moved-are : PointsMoved point 1 1 reversing 1 moved 1
unfolding rows steps_of forward_all forward under on_head reach
moved-are = record {
  depth-after = record { shallow = omega arith; level = one_index };
  room = omega arith;
  are = refl;
  near = all_cons (Within (reach 1)) (omega arith, tt) (all_nil (Within (reach 1)));
}
  where
    one_index : (p : List ℤ) → length p ≡ 1 → length (after_steps reversing 1 p) ≡ 1
    one_index [] e = absurd (omega arith)
    one_index (x ∷ p) e = e

numbers-are : NumbersAre storing point 1 (0 ∷ [])
unfolding rows nest_of total elements arrays_of arrays_from extents_at
numbers-are = record { room = omega arith; are = are; small = small }
  where
    are : (k x : ℕ) → k < 1 → x < 1 → get_or (0 ∷ []) (k * 1 + x) 0 ≡ place_of (nest_of storing).arrays
        (element (get_or (rows 1 1 point) x []) (access_of (nest_of storing) k))
    are zero zero h g = sym (ap (λ u. place_of (nest_of storing).arrays (element point u)) (access-is storing encodable.flat-nest 0 h)
        ∙ one_place)
    are zero (suc x) h g = absurd (omega arith)
    are (suc k) x h g = absurd (omega arith)

    small : (k x : ℕ) → k < 1 → x < 1 → get_or (0 ∷ []) (k * 1 + x) 0 < 1
    small zero zero h g = omega arith
    small zero (suc x) h g = absurd (omega arith)
    small (suc k) x h g = absurd (omega arith)

writes_are : true ∷ [] ≡ written_in (sizes_in storing)
unfolding written_in first_written
writes_are = refl

pub linked : Linked storing reversing 1 1 point (0 ∷ []) (true ∷ []) (1 ∷ []) (1 ∷ []) moved 1
linked = record {
  points-are = points-are;
  moved-are = moved-are;
  numbers-are = numbers-are;
  writes_are = writes_are;
  links-are = Partners.linked;
}
