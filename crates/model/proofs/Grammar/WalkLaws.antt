-- Any bytes can be walked along the slots of some ticket, with lists of the sizes that the words say: to its end, or to the first word that offends.
use mathlib.Core.Path.{◌≡◌, refl, sym, ap, ap₂, ◌∙◌, subst}
use mathlib.Core.Bool.{Bool, cond, not, ◌&&◌}
use mathlib.Core.List.{List, [], ◌∷◌, ◌++◌, flat_map, append-nil}
use Prim.Native.Nat.{ℕ, zero, suc, ◌+◌, ◌*◌, ◌-◌, ◌≤◌}
use native.Mathlib.Omega.{arith}
use lib.Dec.{T, eqb, ltb, ltb→lt}
use lib.IntN.{ℤ, pos, nat_abs}
use lib.Signed.{lt_z}
use lib.ListN.{length}
use Rattle.integers.specs.Sign.{eq_z}
use Rattle.integers.proofs.SignLaws.{eq_z-decides}
use Rattle.lists.specs.Membership.{All}
use Rattle.lists.proofs.MembershipLaws.{all_cons}
use Rattle.lists.proofs.TestLaws.{and_both}
use Rattle.model.specs.Encode.{kind_of}
use Rattle.model.specs.Answer.{accepted, require}
use Rattle.model.specs.Ticket.{Limit, Loop, Subscript, exchange, reversal, skew, section, circulation, Nest}
use Rattle.model.specs.Grammar.{between, elements, extents, step_kinds, depth_after, most_loops}
use Rattle.model.specs.Grammar.{most_statements, most_arrays, most_extent, ticket_loops, ticket_limits}
use Rattle.model.specs.Bounds.{accesses_of}
use Rattle.model.specs.Shape.{Shaped}
use Rattle.model.specs.Shape as Shape
use Rattle.model.specs.Ranges.{InRange}
use Rattle.model.specs.Roles.{count_from, word_from, factor, last_extent, loop_word, any_number, unused, word_check, Slot, slot, counted_slots}
use Rattle.model.specs.Roles.{number_slots, limit_slots, loop_slots}
use Rattle.model.specs.Roles.{extent_slots, array_slots, arrays_slots, subscript_slots, access_slots, statement_slots, argument_slots, steps_slots}
use Rattle.model.specs.Roles.{nest_slots, ticket_slots}
use Rattle.model.specs.Roles.{AccessSized, StatementSized, TicketSized}
use Rattle.model.proofs.Answers.AnswerLaws.{then-accepted, require-accepted}
use Rattle.model.proofs.Grammar.ReaderLaws.{between-natural}
use Rattle.model.proofs.Grammar.RoleLaws.{Of, Walk, walk-done, walk-bind, walk-map, walk-word, walk-times, alone-slots}

abbrev Any : {A : Type 0} → A → Type 0
Any _ = Unit {0}

-- ---- single words

count-taken : (lo hi k : ℕ) (w : ℤ) → word_check (count_from lo hi) k w ≡ accepted tt → (n : ℕ) × (w ≡ pos n)
unfolding word_check
count-taken lo hi k w e = (nat_abs w, (between-natural lo hi w (require-accepted (between (pos lo) (pos hi) w) 3 k e)).1)

walk-count : (lo hi : ℕ) → Walk (Of Any (λ n. slot (count_from lo hi) (pos n) ∷ []))
walk-count lo hi = walk-word (count_from lo hi) pos 0 (count-taken lo hi)

natural-taken : (lo hi k : ℕ) (w : ℤ) → word_check (word_from (pos lo) (pos hi)) k w ≡ accepted tt → InRange lo hi (nat_abs w) × (w ≡ pos (nat_abs w))
unfolding word_check
natural-taken lo hi k w e = between-natural lo hi w (require-accepted (between (pos lo) (pos hi) w) 4 k e)

walk-natural : (lo hi : ℕ) → Walk (Of Any (λ n. slot (word_from (pos lo) (pos hi)) (pos n) ∷ []))
walk-natural lo hi = walk-word (word_from (pos lo) (pos hi)) pos 0 (λ k w e. (nat_abs w, (natural-taken lo hi k w e).1))

walk-number : Walk (Of Any (λ z. slot any_number z ∷ []))
walk-number = walk-word any_number (λ z. z) (pos 0) (λ k w e. (w, refl))

walk-unused : Walk (Of Any (λ (u : Unit {0}). slot unused (pos 0) ∷ []))
walk-unused = walk-word unused (λ u. pos 0) tt (λ k w e. let r = natural-taken 0 0 k w e in (tt, r.1 ∙ ap pos (let h = r.0.high in omega arith)))

extent-taken : (t e k : ℕ) (w : ℤ) → word_check (last_extent t e) k w ≡ accepted tt → (n : ℕ) × (w ≡ pos n)
unfolding word_check
extent-taken t e k w h = (
  nat_abs w,
  (between-natural 1 most_extent w (require-accepted (between (pos 1) (pos most_extent) w) 4 k
      (then-accepted (require (between (pos 1) (pos most_extent) w) 4 k) _ h).first)).1,
)

loop-taken : (s : ℕ) (ok : ℤ → Bool) (k : ℕ) (w : ℤ) → word_check (loop_word s ok) k w ≡ accepted tt → T (ok w)
unfolding word_check
loop-taken s ok k w h = require-accepted (ok w) 6 s (then-accepted (require (between _ _ w) 4 k) (require (ok w) 6 s) h).rest

-- ---- lists

walk-numbers : (n : ℕ) → Walk (Of (λ l. length l ≡ n) number_slots)
walk-numbers n = walk-map (λ l ss h. record { holds = h.holds.size; slots = h.slots ∙ alone-slots l }) (walk-times n walk-number)

walk-counted : {A : Type 0} {Q : List A → Type 0} (f : A → List Slot) (lo hi : ℕ)
    → ((n : ℕ) → Walk (Of (λ l. (length l ≡ n) × Q l) (flat_map f))) → Walk (Of Q (counted_slots lo hi f))
unfolding counted_slots
walk-counted f lo hi h = walk-bind (walk-count lo hi) (λ n _. walk-map
    (λ l ss r. record { holds = r.holds.1; slots = ap₂ (λ i vs. slot (count_from lo hi) (pos i) ∷ vs) (sym r.holds.0) r.slots }) (h n))

walk-items : {A : Type 0} {Q : A → Type 0} (f : A → List Slot) (lo hi : ℕ) → Walk (Of Q f) → Walk (Of (All Q) (counted_slots lo hi f))
walk-items f lo hi h = walk-counted f lo hi (λ n. walk-map (λ l ss r. record { holds = (r.holds.size, r.holds.each); slots = r.slots })
    (walk-times n h))

-- ---- loops

walk-limit : (k : ℕ) → Walk (Of (λ (l : Limit). length l.coefficients ≡ k) limit_slots)
unfolding limit_slots number_slots
walk-limit k = walk-bind (walk-natural 1 32767) (λ p _. walk-bind walk-number (λ c _. walk-bind (walk-numbers k) (λ cs e.
    walk-done (record { multiplier = p; constant = c; coefficients = cs })
    (record { holds = e; slots = ap (λ l. slot (word_from (pos 1) (pos 32767)) (pos p) ∷ slot any_number c ∷ l) (append-nil (number_slots cs)) }))))

walk_loop : (k : ℕ) → Walk (Of (λ (L : Loop). Shape.Sized k L.lower × Shape.Sized k L.upper) loop_slots)
unfolding loop_slots
walk_loop k = walk-bind (walk-items limit_slots 1 ticket_limits (walk-limit k)) (λ l s. walk-bind
    (walk-items limit_slots 1 ticket_limits (walk-limit k)) (λ u t.
    walk-done (record { lower = l; upper = u }) (record {
      holds = (s, t);
      slots = ap (counted_slots 1 ticket_limits limit_slots l ++◌)
          (append-nil (counted_slots 1 ticket_limits limit_slots u));
    })))

walk-loops_from : (k n : ℕ) → Walk (Of (λ N. (length N ≡ n) × Shaped k N) (flat_map loop_slots))
unfolding flat_map
walk-loops_from k zero = walk-done [] (record { holds = (refl, tt); slots = refl })
walk-loops_from k (suc n) = walk-bind (walk_loop k) (λ L s. walk-bind (walk-loops_from (suc k) n) (λ N r.
    walk-done (L ∷ N) (record { holds = (ap suc r.0, (s, r.1)); slots = ap (loop_slots L ++◌) (append-nil (flat_map loop_slots N)) })))

walk-loops : Walk (Of (Shaped 0) (counted_slots 1 ticket_loops loop_slots))
walk-loops = walk-counted loop_slots 1 ticket_loops (walk-loops_from 0)

-- ---- arrays

extent-more : (t e n : ℕ) (ns : List ℕ) → 1 ≤ length ns
    → extent_slots t e (n ∷ ns) ≡ slot (word_from (pos 1) (pos most_extent)) (pos n) ∷ extent_slots t (e * n) ns
unfolding extent_slots
extent-more t e n [] h = absurd (omega arith)
extent-more t e n (m ∷ ns) h = refl

walk-extents : (t e n : ℕ) → Walk (Of (λ ns. length ns ≡ n) (extent_slots t e))
unfolding extent_slots
walk-extents t e zero = walk-done [] (record { holds = refl; slots = refl })
walk-extents t e (suc zero) = walk-bind (walk-word (last_extent t e) pos 0 (extent-taken t e))
    (λ n _. walk-done (n ∷ []) (record { holds = refl; slots = refl }))
walk-extents t e (suc (suc d)) = walk-bind (walk-natural 1 4096) (λ n _. walk-bind (walk-extents t (e * n) (suc d)) (λ ns l.
    walk-done (n ∷ ns) (record {
      holds = ap suc l;
      slots = ap (slot (word_from (pos 1) (pos most_extent)) (pos n) ∷◌)
          (append-nil (extent_slots t (e * n) ns)) ∙ sym (extent-more t e n ns (omega arith));
    })))

walk-array : (t : ℕ) → Walk (Of Any (array_slots t))
unfolding array_slots
walk-array t = walk-bind (walk-count 1 3) (λ d _. walk-bind (walk-extents t 1 d) (λ ns l.
    walk-done ns (record { holds = tt; slots = ap₂ (λ i ss. slot (count_from 1 3) (pos i) ∷ ss) (sym l) (append-nil (extent_slots t 1 ns)) })))

walk-arrays_from : (t n : ℕ) → Walk (Of (λ as'. length as' ≡ n) (arrays_slots t))
unfolding arrays_slots
walk-arrays_from t zero = walk-done [] (record { holds = refl; slots = refl })
walk-arrays_from t (suc n) = walk-bind (walk-array t) (λ a _. walk-bind (walk-arrays_from (t + elements a) n) (λ as' l.
    walk-done (a ∷ as') (record { holds = ap suc l; slots = ap (array_slots t a ++◌) (append-nil (arrays_slots (t + elements a) as')) })))

walk-arrays : Walk (Of Any (λ as'. slot (count_from 1 most_arrays) (pos (length as')) ∷ arrays_slots 0 as'))
walk-arrays = walk-bind (walk-count 1 most_arrays) (λ n _. walk-bind (walk-arrays_from 0 n) (λ as' l.
    walk-done as' (record { holds = tt; slots = ap₂ (λ i ss. slot (count_from 1 most_arrays) (pos i) ∷ ss) (sym l) (append-nil (arrays_slots 0 as')) })))

-- ---- statements

walk-subscript : (n : ℕ) → Walk (Of (λ (s : Subscript). length s.coefficients ≡ n) subscript_slots)
unfolding subscript_slots number_slots
walk-subscript n = walk-bind walk-number (λ c _. walk-bind (walk-numbers n) (λ cs e.
    walk-done (record { constant = c; coefficients = cs }) (record { holds = e; slots = ap (slot any_number c ∷◌) (append-nil (number_slots cs)) })))

walk-access : (n : ℕ) (as' : List (List ℕ)) → Walk (Of (AccessSized as' n) (access_slots (length as')))
unfolding access_slots
walk-access n as' = walk-bind (walk-word (word_from (pos 1) (pos (length as'))) (λ a. pos (suc a)) 0 number-taken) (λ a _.
    walk-bind (walk-times (length (extents as' a)) (walk-subscript n)) (λ ss h.
    walk-done (record { array = a; subscripts = ss }) (record {
      holds = record { dimensions = h.size; wide = h.each };
      slots = ap (slot (word_from (pos 1) (pos (length as'))) (pos (suc a)) ∷◌) (append-nil (flat_map subscript_slots ss));
    })))
  where
    number-taken : (k : ℕ) (w : ℤ) → word_check (word_from (pos 1) (pos (length as'))) k w ≡ accepted tt → (a : ℕ) × (w ≡ pos (suc a))
    number-taken k w e = let r = natural-taken 1 (length as') k w e in (nat_abs w - 1, r.1 ∙ ap pos (let h = r.0.low in omega arith))

walk-statement : (n : ℕ) (as' : List (List ℕ)) → Walk (Of (StatementSized as' n) (statement_slots (length as')))
unfolding statement_slots flat_map counted_slots accesses_of
walk-statement n as' = walk-bind (walk-natural 0 3) (λ r _. walk-bind (walk-natural 0 (cond (eqb r 3) 0 32767))
    (λ c _. walk-bind (walk-access n as') (λ w h.
    walk-bind (walk-count (cond (eqb r 3) 1 0) 4) (λ m _. walk-bind (walk-times m (walk-access n as')) (λ rs l.
    walk-done (record { rule = r; constant = c; writes = w ∷ []; reads = rs }) (record {
      holds = record { one-write = refl; each = all_cons (AccessSized as' n) h l.each };
      slots = ap (λ ss. slot (word_from (pos 0) (pos 3)) (pos r) ∷ slot (word_from (pos 0) (pos (cond (eqb r 3) 0 32767))) (pos c) ∷ ss)
          (ap₂ ◌++◌ (sym (append-nil (access_slots (length as') w)))
          (ap₂ (λ i ss. slot (count_from (cond (eqb r 3) 1 0) 4) (pos i) ∷ ss) (sym l.size) (append-nil (flat_map (access_slots (length as')) rs))));
    }))))))

walk-statements : (n : ℕ) (as' : List (List ℕ)) → Walk (Of (All (StatementSized as' n)) (counted_slots 1 most_statements (statement_slots (length as'))))
walk-statements n as' = walk-items (statement_slots (length as')) 1 most_statements (walk-statement n as')

-- ---- steps

data StepKind : Type 0 where
  exchanging reversing skewing sectioning circulating : StepKind

abbrev kind_number : StepKind → ℕ
kind_number exchanging = 1
kind_number reversing = 2
kind_number skewing = 3
kind_number sectioning = 4
kind_number circulating = 5

kind-taken : (k : ℕ) (w : ℤ) → word_check (word_from (pos 1) (pos step_kinds)) k w ≡ accepted tt → (a : StepKind) × (w ≡ pos (kind_number a))
kind-taken k w e = let r = natural-taken 1 step_kinds k w e in let q = of_number (nat_abs w) r.0 in (q.0, r.1 ∙ ap pos q.1)
  where
    of_number : (n : ℕ) → InRange 1 step_kinds n → (a : StepKind) × (n ≡ kind_number a)
    of_number zero r = absurd (let l = r.low in omega arith)
    of_number (suc zero) r = (exchanging, omega arith)
    of_number (suc (suc zero)) r = (reversing, omega arith)
    of_number (suc (suc (suc zero))) r = (skewing, omega arith)
    of_number (suc (suc (suc (suc zero)))) r = (sectioning, omega arith)
    of_number (suc (suc (suc (suc (suc n))))) r = (circulating, let h = r.high in omega arith)

module _ (k m : ℕ) where
  -- a loop of the nest, by its number from 1, with a rule besides
  walk-ruled : (ok : ℤ → Bool) → ((w : ℤ) → T (ok w) → T (between (pos 1) (pos m) w)) → Walk (Of Any (λ a. slot (loop_word k ok) (pos (suc a)) ∷ []))
  walk-ruled ok h = walk-word (loop_word k ok) (λ a. pos (suc a)) 0 (λ j w e.
      let r = between-natural 1 m w (h w (loop-taken k ok j w e)) in (nat_abs w - 1, r.1 ∙ ap pos (let l = r.0.low in omega arith)))

  walk-outer : Walk (Of Any (λ a. slot (loop_word k (between (pos 1) (pos m))) (pos (suc a)) ∷ []))
  walk-outer = walk-ruled (between (pos 1) (pos m)) (λ w h. h)

  module _ (a : ℕ) where
    abbrev next : ℤ → Bool
    next w = between (pos 1) (pos m) w && eq_z w (pos (suc (suc a)))

    walk-next : Walk (Of Any (λ (u : Unit {0}). slot (loop_word k next) (pos (suc (suc a))) ∷ []))
    walk-next = walk-word (loop_word k next) (λ u. pos (suc (suc a))) tt (λ j w e. (
      tt,
      eq_z-decides.equal w (pos (suc (suc a))) (and_both (between (pos 1) (pos m) w) (eq_z w (pos (suc (suc a))))
          (loop-taken k next j w e)).1,
    ))

    abbrev inner : ℤ → Bool
    inner w = between (pos 1) (pos m) w && lt_z (pos (suc a)) w

    walk-inner : Walk (Of Any (λ d. slot (loop_word k inner) (pos (suc (suc (a + d)))) ∷ []))
    walk-inner = walk-word (loop_word k inner) (λ d. pos (suc (suc (a + d)))) 0 (λ j w e.
        let t = and_both (between (pos 1) (pos m) w) (lt_z (pos (suc a)) w) (loop-taken k inner j w e) in
        let r = between-natural 1 m w t.0 in
        let l = ltb→lt (suc a) (nat_abs w) (subst (λ z. T (lt_z (pos (suc a)) z)) r.1 t.1) in
        (nat_abs w - suc (suc a), r.1 ∙ ap pos (omega arith)))

    abbrev other : ℤ → Bool
    other w = between (pos 1) (pos m) w && not (eq_z w (pos (suc a)))

    walk-other : Walk (Of Any (λ b. slot (loop_word k other) (pos (suc b)) ∷ []))
    walk-other = walk-ruled other (λ w h. (and_both (between (pos 1) (pos m) w) (not (eq_z w (pos (suc a)))) h).0)

  arguments : (a : StepKind) → Walk (λ t vs. Of Any (λ t. slot (word_from (pos 1) (pos step_kinds)) (pos (kind_of t)) ∷ argument_slots k m t) t
      (slot (word_from (pos 1) (pos step_kinds)) (pos (kind_number a)) ∷ vs))
  unfolding argument_slots
  arguments exchanging = walk-bind walk-outer (λ a _. walk-bind (walk-next a) (λ _ _. walk-bind walk-unused (λ _ _.
      walk-done (exchange a) (record { holds = tt; slots = refl }))))
  arguments reversing = walk-bind walk-outer (λ a _. walk-bind walk-unused (λ _ _. walk-bind walk-unused (λ _ _.
      walk-done (reversal a) (record { holds = tt; slots = refl }))))
  arguments skewing = walk-bind walk-outer (λ a _. walk-bind (walk-inner a)
      (λ d _. walk-bind (walk-word factor (λ c. c) (pos 0) (λ j w e. (w, refl))) (λ c _.
      walk-done (skew a d c) (record { holds = tt; slots = refl }))))
  arguments sectioning = walk-bind (walk-ruled (λ v. between (pos 1) (pos m) v && ltb m most_loops)
      (λ w h. (and_both (between (pos 1) (pos m) w) (ltb m most_loops) h).0))
      (λ a _. walk-bind (walk-natural 2 256) (λ w _. walk-bind walk-unused (λ _ _. walk-done (section a w) (record { holds = tt; slots = refl }))))
  arguments circulating = walk-bind walk-outer (λ a _. walk-bind (walk-other a) (λ b _. walk-bind walk-unused (λ _ _.
      walk-done (circulation a b) (record { holds = tt; slots = refl }))))

  walk_step : Walk (Of Any (λ t. slot (word_from (pos 1) (pos step_kinds)) (pos (kind_of t)) ∷ argument_slots k m t))
  walk_step = walk-bind (walk-word (word_from (pos 1) (pos step_kinds)) (λ a. pos (kind_number a)) exchanging kind-taken) (λ a _. arguments a)

walk-steps_from : (k m n : ℕ) → Walk (Of (λ ts. length ts ≡ n) (steps_slots k m))
unfolding steps_slots
walk-steps_from k m zero = walk-done [] (record { holds = refl; slots = refl })
walk-steps_from k m (suc n) = walk-bind (walk_step k m) (λ t _. walk-bind (walk-steps_from (suc k) (depth_after t m) n) (λ ts l.
    walk-done (t ∷ ts) (record {
      holds = ap suc l;
      slots = ap ((slot (word_from (pos 1) (pos step_kinds)) (pos (kind_of t)) ∷ argument_slots k m t) ++◌)
          (append-nil (steps_slots (suc k) (depth_after t m) ts));
    })))

walk_steps : (m : ℕ) → Walk (Of Any (λ ts. slot (count_from 0 8) (pos (length ts)) ∷ steps_slots 1 m ts))
walk_steps m = walk-bind (walk-count 0 8) (λ n _. walk-bind (walk-steps_from 1 m n) (λ ts l.
    walk-done ts (record { holds = tt; slots = ap₂ (λ i ss. slot (count_from 0 8) (pos i) ∷ ss) (sym l) (append-nil (steps_slots 1 m ts)) })))

-- ---- the ticket

record NestSized (N : Nest) : Type 0 where
  loops : Shaped 0 N.loops
  statements : All (StatementSized N.arrays (length N.loops)) N.statements

walk-nest : Walk (Of NestSized nest_slots)
unfolding nest_slots
walk-nest = walk-bind walk-loops (λ ls s. walk-bind walk-arrays (λ as' _. walk-bind (walk-statements (length ls) as') (λ ss f.
    walk-done (record { loops = ls; arrays = as'; statements = ss }) (record {
      holds = record { loops = s; statements = f };
      slots = ap (λ l. counted_slots 1 ticket_loops loop_slots ls ++ ((slot (count_from 1 most_arrays) (pos (length as')) ∷ arrays_slots 0 as') ++ l))
          (append-nil (counted_slots 1 most_statements (statement_slots (length as')) ss));
    }))))

pub walk-ticket : Walk (Of TicketSized ticket_slots)
unfolding ticket_slots
walk-ticket = walk-bind walk-nest (λ N s. walk-bind (walk_steps (length N.loops)) (λ ts _.
    walk-done (record { nest = N; steps = ts }) (record {
      holds = record { loops = s.loops; statements = s.statements };
      slots = ap (nest_slots N ++◌) (append-nil (slot (count_from 0 8) (pos (length ts)) ∷ steps_slots 1 (length N.loops) ts));
    })))
