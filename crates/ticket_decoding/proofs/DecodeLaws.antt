-- What `decode` gives, from what each section gave.
use mathlib.Core.Path.{◌≡◌, sym, ap, ap₂, ◌∙◌, subst}
use mathlib.Core.List.{List}
use Prim.Native.Nat.{ℕ, zero, ◌-◌, ◌*◌, ◌≤◌, ◌<◌}
use native.Mathlib.Omega.{arith}
use lib.IntN.{ℤ, pos}
use lib.ListN.{length, take, replicate, length-replicate}
use Rattle.lists.specs.Membership.{All}
use Rattle.model.specs.Answer.{accepted}
use Rattle.model.specs.Ticket as Model
use Rattle.model.specs.Grammar as Grammar
use Rattle.model.specs.Grammar.{Reader, most_words, nest_room, most_accesses, most_statements, ticket_loops, ticket_limits, most_arrays, most_extents}
use Rattle.model.specs.Ranges.{Small}
use Rattle.model.proofs.Grammar.GrammarLaws.{decode-ranges, decode-formed}
use Rattle.std.specs.Prelude.{Result, Ok, Err, IsErrAnd}
use Rattle.std.proofs.lemmas.Result.{err_from_is_err_and}
use Rattle.ticket_refusals.specs.declared.Refusal.{Refusal}
use Rattle.ticket_refusals.specs.declared.Refusal.TheVariants.{TrailingBytes}
use Rattle.nest_flat.specs.Flat.{loops_from, NestOk}
use Rattle.nest_flat.specs.FlatNests.{flat_nest}
use Rattle.nest_flat.specs.Layout.{arrays_of}
use Rattle.nest_flat.specs.declared.Header.{Header}
use Rattle.ticket_words.specs.Reads.{Reads, plain}
use Rattle.ticket_words.specs.declared.Words.{Words}
use Rattle.ticket_loops.specs.LoopReads as Loops
use Rattle.ticket_loops.proofs.LimitLaws.{small-within}
use Rattle.ticket_arrays.specs.Arrays.{LaidArrays, ReadsArrays}
use Rattle.ticket_arrays.proofs.RowLaws.{all_replicate}
use Rattle.ticket_arrays.proofs.ArrayBack.{used-length, few-dimensions, small-extents}
use Rattle.ticket_statements.specs.Arrays.{ArraysIn}
use Rattle.ticket_statements.specs.Statements.{StatementsLaid, ReadsStatements}
use Rattle.ticket_statements.specs.declared.StatementsRead.{StatementsRead}
use Rattle.ticket_statements.specs.declared.accesses.Nest.{Nest}
use Rattle.ticket_steps.specs.Steps.{steps_of, StepsIn}
use Rattle.ticket_steps.specs.declared.Steps.{Steps}
use Rattle.ticket_decoding.specs.declared.Decoded.{Decoded}
use Rattle.ticket_decoding.specs.Ticket.{ticket_on, Lent, TicketIn, Decodes}
use Rattle.ticket_decoding.proofs.FlatNestLaws.{no_extents, loops-count, nest_on, flat-nest-stands, flat-nest-in}
use Rattle.ticket_decoding.proofs.SectionLaws.{no-loops, no-arrays, no-statements, no_steps, trailing, whole, decode-accepted, decode-refused}

-- ---- what the readers ask

-- zeros can be lent
pub zeros-lent : Lent (replicate nest_room (pos 0)) (replicate most_words (pos 0))
zeros-lent = record {
  limits-length = length-replicate nest_room (pos 0);
  limits-small = small-within (replicate nest_room (pos 0)) (all_replicate Small nest_room (pos 0) (omega arith));
  words-length = length-replicate most_words (pos 0);
  words_small = all_replicate Small most_words (pos 0) (omega arith);
}

pub lent-room : (l w : List ℤ) → Lent l w → Loops.Room l (replicate 12 0)
lent-room l w h = record { words = h.limits-length; counts = length-replicate 12 zero; small = h.limits-small }

module _ {e : List ℕ} {as' : List (List ℕ)} (r : LaidArrays no_extents e as') {n : ℕ} (c : length as' ≡ n) where
  blank-length : length no_extents ≡ most_extents
  blank-length = length-replicate 16 zero

  few : n ≤ most_arrays
  few = let h = r.few in omega arith

  pub extents-used : length (take (n * 4) e) ≡ n * 4
  extents-used = used-length no_extents blank-length as' n c few r.ranges e r.laid

  pub arrays-in : ArraysIn (take (n * 4) e)
  arrays-in = record {
    few = let u = extents-used in let h = few in omega arith;
    dimensions = few-dimensions no_extents blank-length as' n c few r.ranges e r.laid;
    extents = small-extents no_extents blank-length as' n c few r.ranges e r.laid (all_replicate (λ x. x ≤ 4096) 16 0 (omega arith));
  }

  arrays-there : arrays_of (take (n * 4) e) ≡ as'
  arrays-there = subst (λ m. arrays_of (take (m * 4) e) ≡ as') c r.same

-- ---- section by section

module _ {b : List ℕ} {o : Words} (bytes : o.bytes.now ≡ b) (first : o.next ≡ 1) where
  refuses : {e : Words} {r : Refusal} (l w : List ℤ) → Reads (plain {A = Model.Ticket}) Grammar.ticket o (Err r) e → Decodes (Grammar.decode b) (Err r) l w
  refuses l w h = record { same = sym (decode-refused bytes first h); within = record { ticket = tt } }

  -- q is what the `?` hands on
  handed_on : {e : Words} {r : Refusal} {q : Result Decoded Refusal} (l w : List ℤ) → IsErrAnd q (λ y. y ≡ r)
      → Reads (plain {A = Model.Ticket}) Grammar.ticket o (Err r) e → Decodes (Grammar.decode b) q l w
  handed_on {q} l w d h = let p = err_from_is_err_and q d in rw (p.1, p.2) (refuses l w h)

  pub loops-refused : (l : List ℤ) (c : List ℕ) {e : Words} {r : Refusal} {q : Result Decoded Refusal} {w : List ℤ} → IsErrAnd q (λ y. y ≡ r)
      → Reads (loops_from l c 0) (Grammar.loops ticket_loops ticket_limits) o (Err r) e → Decodes (Grammar.decode b) q l w
  loops-refused l c d h = handed_on _ _ d (no-loops h)

  -- l and c hold the loops
  module _ (l : List ℤ) (c : List ℕ) {d : ℕ} {i : Words} (n : Reads (loops_from l c 0) (Grammar.loops ticket_loops ticket_limits) o (Ok d) i) where
    pub arrays-refused : {x : List ℕ} {e : Words} {r : Refusal} {q : Result Decoded Refusal} {w : List ℤ} → IsErrAnd q (λ y. y ≡ r)
        → ReadsArrays i no_extents x (Err r) e → Decodes (Grammar.decode b) q l w
    arrays-refused y h = handed_on _ _ y (no-arrays n h.reads)

    module _ {x : List ℕ} {count : ℕ} {j : Words} (a : ReadsArrays i no_extents x (Ok count) j) (N : Nest) (deep : N.depth ≡ d)
        (given : N.extents.now ≡ take (count * 4) x) where
      -- the statements' own nest is that of the sections before
      statements-as : {S : Type 0} {view : S → List Model.Statement} {r : Result S Refusal} {e : Words}
          → Reads view (Grammar.statements N.depth (arrays_of N.extents.now)) j r e
          → Reads view (Grammar.statements (length (loops_from l c 0 d)) a.arrays) j r e
      statements-as {view} {r} {e} h = subst (λ (m : Reader (List Model.Statement)). Reads view m j r e)
          (ap₂ Grammar.statements (deep ∙ sym (loops-count l c 0 d)) (ap arrays_of given ∙ arrays-there a.laid a.count)) h

      pub statements-refused : {w w' : List ℤ} {e : Words} {r : Refusal} {q : Result Decoded Refusal} → IsErrAnd q (λ y. y ≡ r)
          → ReadsStatements N j w w' (Err r) e → Decodes (Grammar.decode b) q l w'
      statements-refused y h = handed_on _ _ y (no-statements n a.reads (statements-as h.reads))

      module _ {w w' : List ℤ} {B : StatementsRead} {k : Words} (m : ReadsStatements N j w w' (Ok B) k) where
        steps-as : {r : Result Steps Refusal} {e : Words} → Reads steps_of (Grammar.steps d) k r e
            → Reads steps_of (Grammar.steps (length (loops_from l c 0 d))) k r e
        steps-as {r} {e} h = subst (λ x. Reads steps_of (Grammar.steps x) k r e) (sym (loops-count l c 0 d)) h

        pub steps-refused : {e : Words} {r : Refusal} {q : Result Decoded Refusal} → IsErrAnd q (λ y. y ≡ r)
            → Reads steps_of (Grammar.steps d) k (Err r) e → Decodes (Grammar.decode b) q l w'
        steps-refused y h = handed_on _ _ y (no_steps n a.reads (statements-as m.reads) (steps-as h))

        module _ {S : Steps} {e : Words} (h : Reads steps_of (Grammar.steps d) k (Ok S) e) where
          all-bytes : length e.bytes.now ≡ length b
          all-bytes = ap length (h.bytes ∙ m.reads.bytes ∙ a.reads.bytes ∙ n.bytes ∙ bytes)

          pub trailing-refused : (e.next - 1) * 2 < length b → Decodes (Grammar.decode b) (Err (TrailingBytes e.next)) l w'
          trailing-refused g = let z = all-bytes in refuses _ _ (trailing n a.reads (statements-as m.reads) (steps-as h) (omega arith))

          pub decoded-there : length b ≤ (e.next - 1) * 2 → Grammar.decode b ≡ accepted (record {
            nest = record { loops = loops_from l c 0 d; arrays = a.arrays; statements = m.statements };
            steps = steps_of S;
          })
          decoded-there g = let z = all-bytes in
              decode-accepted bytes first (whole n a.reads (statements-as m.reads) (steps-as h) (omega arith))

-- ---- the ticket

-- what the header has of the statements
abbrev pub read_in : Header → StatementsRead
read_in O = record {
  count = O.statements;
  sizes = O.sizes;
  rules = O.rules;
  constants = O.constants;
  accesses = O.accesses;
  accessed = O.accessed;
}

module _ (b : List ℕ) {w l' w' : List ℤ} (room : length w ≡ most_words) (small : All Small w) (O : Header) (S : Steps) {as' : List (List ℕ)} {ss : List Model.Statement}
    (ok : NestOk l' O.counts O.depth) (shallow : O.depth ≤ ticket_loops) (a : LaidArrays no_extents O.extents as') (count : length as' ≡ O.arrays)
    (m : StatementsLaid ss w w' (read_in O)) (steps : StepsIn S)
    (there : Grammar.decode b ≡ accepted (record { nest = nest_on (flat_nest O l' w') as' ss; steps = steps_of S })) where
  ticket-same : ticket_on (flat_nest O l' w') S ≡ record { nest = nest_on (flat_nest O l' w') as' ss; steps = steps_of S }
  unfolding ticket_on
  ticket-same = ap (λ (n : Model.Nest). record { nest = n; steps = steps_of S })
      (flat-nest-stands (flat_nest O l' w') w room small as' ss ok a count m (decode-ranges b there).nest
      (decode-formed b there))

  here : Grammar.decode b ≡ accepted (ticket_on (flat_nest O l' w') S)
  here = there ∙ sym (ap accepted ticket-same)

  ticket-in : TicketIn (flat_nest O l' w') S
  unfolding ticket_on
  ticket-in = record {
    flat-nest = flat-nest-in (flat_nest O l' w') w room small as' ss ok a count m (decode-ranges b there).nest
        (decode-formed b there);
    shallow = shallow;
    steps = steps;
    ranges = decode-ranges b here;
    formed = decode-formed b here;
  }

  pub decodes : Decodes (Grammar.decode b) (Ok (record { steps = S; header = O })) l' w'
  decodes = record { same = sym here; within = record { ticket = ticket-in } }
