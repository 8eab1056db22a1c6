-- No ticket needs more than 504 words: whatever the bytes, no word beyond is asked for. In order: how far words are read along slots; joined; the parts
-- of a ticket; where a refusal's place lies.
use mathlib.Core.Path.{◌≡◌, refl, sym, subst}
use mathlib.Core.Bool.{cond}
use mathlib.Core.Logic.{◌⊎◌, inl, inr, ⊎_elim}
use mathlib.Core.List.Memᴰ
use mathlib.Core.List.{List, [], ◌∷◌, ◌++◌, flat_map}
use Prim.Native.Nat.{ℕ, zero, suc, ◌+◌, ◌*◌, ◌≤◌, ◌<◌}
use native.Mathlib.Nat.{mul-le-mul_left}
use native.Mathlib.Omega.{arith}
use lib.Dec.{eqb}
use lib.IntN.{ℤ, pos}
use lib.ListN.{length}
use Rattle.lists.specs.Membership.{All}
use Rattle.model.specs.Encode.{kind_of}
use Rattle.model.specs.Answer.{refused}
use Rattle.model.specs.Ticket.{Limit, Loop, Subscript, Access, Statement, Step, exchange, reversal, skew, section, circulation, Nest, Ticket}
use Rattle.model.specs.Grammar.{between, elements, extents, step_kinds, depth_after, most_statements, most_arrays, most_dimensions, ticket_loops}
use Rattle.model.specs.Grammar.{ticket_limits}
use Rattle.model.specs.Bounds.{accesses_of}
use Rattle.model.specs.Shape.{Shaped}
use Rattle.model.specs.Shape as Shape
use Rattle.model.specs.Roles.{Role, count_from, word_from, factor, last_extent, loop_word, any_number, unused, word_check, Slot, slot, counted_slots}
use Rattle.model.specs.Roles.{number_slots, limit_slots, loop_slots}
use Rattle.model.specs.Roles.{extent_slots, array_slots, arrays_slots, subscript_slots, access_slots, statement_slots, argument_slots, steps_slots}
use Rattle.model.specs.Roles.{nest_slots, ticket_slots}
use Rattle.model.specs.Roles.{AccessSized, StatementSized, TicketSized, Offends, truncated, bad, Taken, AllTaken, Stops, Wrong, offends}
use Rattle.model.specs.Roles.{trailing}
use Rattle.model.proofs.Answers.AnswerLaws.{require-accepted, require-refused, then-refused}
use Rattle.model.proofs.Grammar.ReaderLaws.{between-natural}
use Rattle.model.proofs.Grammar.RoleLaws.{sound-right}

-- ---- how far words are read

-- j words are taken, and one of role r is asked for next
abbrev pub Reached : List ℕ → ℕ → List Slot → ℕ → Role → Type 0
Reached b k [] j r = ⊥
Reached b k (s ∷ ss) zero r = r ≡ s.role
Reached b k (s ∷ ss) (suc j) r = Taken b k s × Reached b (suc k) ss j r

-- a step's number is at most 8
abbrev pub Low : Role → Type 0
Low (count_from lo hi) = Unit {0}
Low (word_from lo hi) = Unit {0}
Low factor = Unit {0}
Low (last_extent t e) = Unit {0}
Low (loop_word k ok) = k ≤ 8

-- at most m words are asked for
pub record Brief (m : ℕ) (ss : List Slot) : Type 0 where
  pub within : (b : List ℕ) (k j : ℕ) (r : Role) → Reached b k ss j r → (j < m) × Low r

brief-more : {m n : ℕ} {ss : List Slot} → m ≤ n → Brief m ss → Brief n ss
brief-more h s = record { within = λ b k j r e. let t = s.within b k j r e in let l = t.0 in (omega arith, t.1) }

brief-nil : Brief 0 []
brief-nil = record { within = λ b k j r e. absurd e }

brief-slot : (r : Role) (w : ℤ) → Low r → Brief 1 (slot r w ∷ [])
brief-slot r w h = record { within = at }
  where
    at : (b : List ℕ) (k j : ℕ) (q : Role) → Reached b k (slot r w ∷ []) j q → (j < 1) × Low q
    at b k zero q e = (omega arith, subst Low (sym e) h)
    at b k (suc j) q e = absurd e.1

last-reached : (b : List ℕ) (k : ℕ) (s : Slot) (ss : List Slot) → AllTaken b k (s ∷ ss) → (r : Role) × Reached b k (s ∷ ss) (length ss) r
last-reached b k s [] h = (s.role, refl)
last-reached b k s (t ∷ ss) h = let r = last-reached b (suc k) t ss h.1 in (r.0, (h.0, r.1))

pub brief-length : {m : ℕ} (b : List ℕ) (k : ℕ) (ss : List Slot) → Brief m ss → AllTaken b k ss → length ss ≤ m
brief-length b k [] h s = omega arith
brief-length b k (x ∷ ss) h s = let r = last-reached b k x ss s in (h.within b k (length ss) r.0 r.1).0

record Later (b : List ℕ) (k : ℕ) (us vs : List Slot) (j : ℕ) (r : Role) : Type 0 where
  sound : AllTaken b k us
  rest : ℕ
  number : j ≡ length us + rest
  reached : Reached b (k + length us) vs rest r

reached-parts : (b : List ℕ) (k : ℕ) (us vs : List Slot) (j : ℕ) (r : Role) → Reached b k (us ++ vs) j r → Reached b k us j r ⊎ Later b k us vs j r
reached-parts b k [] vs j r h = inr (record {
  sound = tt;
  rest = j;
  number = omega arith;
  reached = subst (λ i. Reached b i vs j r)
      (omega arith) h;
})
reached-parts b k (u ∷ us) vs zero r h = inl h
reached-parts b k (u ∷ us) vs (suc j) r h = ⊎_elim (λ i. inl (h.0, i))
    (λ i. inr (record {
      sound = (h.0, i.sound);
      rest = i.rest;
      number = let n = i.number in omega arith;
      reached = let m = i.rest in subst (λ x. Reached b x vs m r) (omega arith) i.reached;
    }))
    (reached-parts b (suc k) us vs j r h.1)

-- the second part may use that the first was taken
brief-after : {m n : ℕ} (us vs : List Slot) → Brief m us → ((b : List ℕ) (k : ℕ) → AllTaken b k us → Brief n vs) → Brief (m + n) (us ++ vs)
brief-after us vs h g = record {
  within = λ b k j r e. ⊎_elim (λ i. let t = h.within b k j r i in let l = t.0 in (omega arith, t.1))
      (λ i. let t = (g b k i.sound).within b (k + length us) i.rest r i.reached in let l = t.0 in let n = i.number in
      let u = brief-length b k us h i.sound in (omega arith, t.1))
      (reached-parts b k us vs j r e);
}

brief-append : {m n : ℕ} (us vs : List Slot) → Brief m us → Brief n vs → Brief (m + n) (us ++ vs)
brief-append us vs h g = brief-after us vs h (λ b k s. g)

brief-flat_map : {A : Type 0} {m : ℕ} (f : A → List Slot) (l : List A) → All (λ x. Brief m (f x)) l → Brief (m * length l) (flat_map f l)
unfolding flat_map
brief-flat_map f [] h = brief-more (omega arith) brief-nil
brief-flat_map {m = m} f (x ∷ l) h = brief-more (omega arith)
    (brief-append (f x) (flat_map f l) (h x (Memᴰ.head refl)) (brief-flat_map f l (λ y i. h y (Memᴰ.tail i))))

count_most : (lo hi n : ℕ) (b : List ℕ) (k : ℕ) → AllTaken b k (slot (count_from lo hi) (pos n) ∷ []) → n ≤ hi
unfolding word_check
count_most lo hi n b k s = (between-natural lo hi (pos n) (require-accepted (between (pos lo) (pos hi) (pos n)) 3 k s.0.passes)).0.high

brief-counted : {A : Type 0} {m : ℕ} (lo hi : ℕ) (f : A → List Slot) (l : List A) → All (λ x. Brief m (f x)) l
    → Brief (1 + m * hi) (counted_slots lo hi f l)
unfolding counted_slots
brief-counted {m = m} lo hi f l h = brief-after (slot (count_from lo hi) (pos (length l)) ∷ []) (flat_map f l)
    (brief-slot (count_from lo hi) (pos (length l)) tt)
    (λ b k s. brief-more (mul-le-mul_left m (count_most lo hi (length l) b k s)) (brief-flat_map f l h))

brief-numbers : (l : List ℤ) → Brief (length l) (number_slots l)
unfolding number_slots
brief-numbers [] = brief-nil
brief-numbers (z ∷ l) = brief-more (omega arith) (brief-append (slot any_number z ∷ []) (number_slots l) (brief-slot any_number z tt) (brief-numbers l))

-- ---- loops

brief-limit : (k : ℕ) (l : Limit) → length l.coefficients ≡ k → Brief (2 + k) (limit_slots l)
unfolding limit_slots
brief-limit k l e = brief-more (omega arith) (brief-append (slot (word_from (pos 1) (pos 32767)) (pos l.multiplier) ∷ [])
    (number_slots (l.constant ∷ l.coefficients))
    (brief-slot (word_from (pos 1) (pos 32767)) (pos l.multiplier) tt) (brief-numbers (l.constant ∷ l.coefficients)))

brief-loop : (k : ℕ) (L : Loop) → Shape.Sized k L.lower → Shape.Sized k L.upper → Brief (18 + 8 * k) (loop_slots L)
unfolding loop_slots
brief-loop k L s t = brief-more (omega arith)
    (brief-append (counted_slots 1 ticket_limits limit_slots L.lower) (counted_slots 1 ticket_limits limit_slots L.upper)
    (brief-counted 1 ticket_limits limit_slots L.lower (λ l i. brief-limit k l (s l i)))
    (brief-counted 1 ticket_limits limit_slots L.upper (λ l i. brief-limit k l (t l i))))

-- the words of n loops inside k others
loops_room : ℕ → ℕ → ℕ
loops_room k zero = 0
loops_room k (suc n) = 18 + 8 * k + loops_room (suc k) n

room_most : (n : ℕ) → n ≤ ticket_loops → loops_room 0 n ≤ 120
unfolding loops_room
room_most zero h = omega arith
room_most (suc zero) h = omega arith
room_most (suc (suc zero)) h = omega arith
room_most (suc (suc (suc zero))) h = omega arith
room_most (suc (suc (suc (suc zero)))) h = omega arith
room_most (suc (suc (suc (suc (suc n))))) h = absurd (omega arith)

brief-loops_from : (k : ℕ) (N : List Loop) → Shaped k N → Brief (loops_room k (length N)) (flat_map loop_slots N)
unfolding flat_map loops_room
brief-loops_from k [] s = brief-nil
brief-loops_from k (L ∷ N) s = brief-append (loop_slots L) (flat_map loop_slots N) (brief-loop k L s.0.0 s.0.1)
    (brief-loops_from (suc k) N s.1)

brief-loops : (N : List Loop) → Shaped 0 N → Brief 121 (counted_slots 1 ticket_loops loop_slots N)
unfolding counted_slots
brief-loops N s = brief-after (slot (count_from 1 ticket_loops) (pos (length N)) ∷ []) (flat_map loop_slots N)
    (brief-slot (count_from 1 ticket_loops) (pos (length N)) tt)
    (λ b k h. brief-more (room_most (length N) (count_most 1 ticket_loops (length N) b k h)) (brief-loops_from 0 N s))

-- ---- arrays

brief-extents : (t e : ℕ) (ns : List ℕ) → Brief (length ns) (extent_slots t e ns)
unfolding extent_slots
brief-extents t e [] = brief-nil
brief-extents t e (n ∷ []) = brief-slot (last_extent t e) (pos n) tt
brief-extents t e (n ∷ m ∷ ns) = brief-more (omega arith) (brief-append (slot (word_from (pos 1) (pos 4096)) (pos n) ∷ [])
    (extent_slots t (e * n) (m ∷ ns))
    (brief-slot (word_from (pos 1) (pos 4096)) (pos n) tt) (brief-extents t (e * n) (m ∷ ns)))

brief-array : (t : ℕ) (a : List ℕ) → Brief 4 (array_slots t a)
unfolding array_slots
brief-array t a = brief-after (slot (count_from 1 3) (pos (length a)) ∷ []) (extent_slots t 1 a) (brief-slot (count_from 1 3) (pos (length a)) tt)
    (λ b k s. brief-more (count_most 1 3 (length a) b k s) (brief-extents t 1 a))

brief-arrays_from : (t : ℕ) (as' : List (List ℕ)) → Brief (4 * length as') (arrays_slots t as')
unfolding arrays_slots
brief-arrays_from t [] = brief-more (omega arith) brief-nil
brief-arrays_from t (a ∷ as') = brief-more (omega arith) (brief-append (array_slots t a) (arrays_slots (t + elements a) as') (brief-array t a)
    (brief-arrays_from (t + elements a) as'))

brief-arrays : (as' : List (List ℕ)) → Brief 17 (slot (count_from 1 most_arrays) (pos (length as')) ∷ arrays_slots 0 as')
brief-arrays as' = brief-after {n = 16} (slot (count_from 1 most_arrays) (pos (length as')) ∷ []) (arrays_slots 0 as')
    (brief-slot (count_from 1 most_arrays) (pos (length as')) tt)
    (λ b k s. brief-more (let h = count_most 1 most_arrays (length as') b k s in omega arith) (brief-arrays_from 0 as'))

-- arrays that are taken have at most 3 dimensions
flat-arrays : (b : List ℕ) (k t : ℕ) (as' : List (List ℕ)) → AllTaken b k (arrays_slots t as') → (a : ℕ) → length (extents as' a) ≤ 3
unfolding arrays_slots array_slots extents
flat-arrays b k t [] s a = omega arith
flat-arrays b k t (x ∷ as') s zero = count_most 1 3 (length x) b k (s.0, tt)
flat-arrays b k t (x ∷ as') s (suc a) = flat-arrays b (suc k + length (extent_slots t 1 x)) (t + elements x) as'
    (sound-right b (suc k) (extent_slots t 1 x) (arrays_slots (t + elements x) as') s.1) a

-- ---- statements

module _ (as' : List (List ℕ)) (n : ℕ) (shallow : n ≤ ticket_loops) (flat : (a : ℕ) → length (extents as' a) ≤ most_dimensions) where
  brief-subscript : (s : Subscript) → length s.coefficients ≡ n → Brief 5 (subscript_slots s)
  unfolding subscript_slots
  brief-subscript s e = brief-more (omega arith) (brief-numbers (s.constant ∷ s.coefficients))

  brief-access : (a : Access) → AccessSized as' n a → Brief 16 (access_slots (length as') a)
  unfolding access_slots
  brief-access a f = brief-append {n = 15} (slot (word_from (pos 1) (pos (length as'))) (pos (suc a.array)) ∷ [])
      (flat_map subscript_slots a.subscripts)
      (brief-slot (word_from (pos 1) (pos (length as'))) (pos (suc a.array)) tt)
      (brief-more (let h = flat a.array in let e = f.dimensions in omega arith)
      (brief-flat_map subscript_slots a.subscripts (λ s i. brief-subscript s (f.wide s i))))

  brief-statement : (s : Statement) → StatementSized as' n s → Brief 83 (statement_slots (length as') s)
  unfolding statement_slots accesses_of
  brief-statement s f =
      let rule = slot (word_from (pos 0) (pos 3)) (pos s.rule) in
      let constant = slot (word_from (pos 0) (pos (cond (eqb s.rule 3) 0 32767))) (pos s.constant) in
      let written = flat_map (access_slots (length as')) s.writes in
      let read = counted_slots (cond (eqb s.rule 3) 1 0) 4 (access_slots (length as')) s.reads in
      brief-append (rule ∷ constant ∷ []) (written ++ read)
      (brief-append (rule ∷ []) (constant ∷ []) (brief-slot rule.role rule.word tt) (brief-slot constant.role constant.word tt))
      (brief-append {m = 16} {n = 65} written read
      (brief-more (let e = f.one-write in omega arith) (brief-flat_map (access_slots (length as')) s.writes
      (λ a i. brief-access a (f.each a (Memᴰ.append_left s.reads i)))))
      (brief-counted (cond (eqb s.rule 3) 1 0) 4 (access_slots (length as')) s.reads
      (λ a i. brief-access a (f.each a (Memᴰ.append_right s.writes i)))))

-- ---- steps

four : (q r s t : Role) → Low q → Low r → Low s → Low t → (w x y z : ℤ) → Brief 4 (slot q w ∷ slot r x ∷ slot s y ∷ slot t z ∷ [])
four q r s t a b c d w x y z = brief-append (slot q w ∷ []) (slot r x ∷ slot s y ∷ slot t z ∷ []) (brief-slot q w a)
    (brief-append (slot r x ∷ []) (slot s y ∷ slot t z ∷ []) (brief-slot r x b)
    (brief-append (slot s y ∷ []) (slot t z ∷ []) (brief-slot s y c) (brief-slot t z d)))

brief-step : (k m : ℕ) (t : Step) → k ≤ 8 → Brief 4 (slot (word_from (pos 1) (pos step_kinds)) (pos (kind_of t)) ∷ argument_slots k m t)
unfolding argument_slots
brief-step k m (exchange a) h = four (word_from _ _) (loop_word k _) (loop_word k _) unused tt h h tt _ _ _ _
brief-step k m (reversal a) h = four (word_from _ _) (loop_word k _) unused unused tt h tt tt _ _ _ _
brief-step k m (skew a d c) h = four (word_from _ _) (loop_word k _) (loop_word k _) factor tt h h tt _ _ _ _
brief-step k m (section a w) h = four (word_from _ _) (loop_word k _) (word_from _ _) unused tt h tt tt _ _ _ _
brief-step k m (circulation a b) h = four (word_from _ _) (loop_word k _) (loop_word k _) unused tt h h tt _ _ _ _

brief-steps_from : (k m : ℕ) (ts : List Step) → k + length ts ≤ 9 → Brief (4 * length ts) (steps_slots k m ts)
unfolding steps_slots
brief-steps_from k m [] h = brief-more (omega arith) brief-nil
brief-steps_from k m (t ∷ ts) h = brief-more (omega arith)
    (brief-append (slot (word_from (pos 1) (pos step_kinds)) (pos (kind_of t)) ∷ argument_slots k m t)
    (steps_slots (suc k) (depth_after t m) ts)
    (brief-step k m t (omega arith)) (brief-steps_from (suc k) (depth_after t m) ts (omega arith)))

brief-steps : (m : ℕ) (ts : List Step) → Brief 33 (slot (count_from 0 8) (pos (length ts)) ∷ steps_slots 1 m ts)
brief-steps m ts = brief-after {n = 32} (slot (count_from 0 8) (pos (length ts)) ∷ []) (steps_slots 1 m ts)
    (brief-slot (count_from 0 8) (pos (length ts)) tt)
    (λ b k s. let h = count_most 0 8 (length ts) b k s in brief-more (omega arith) (brief-steps_from 1 m ts (omega arith)))

-- ---- the ticket

brief-nest : (N : Nest) → Shaped 0 N.loops → All (StatementSized N.arrays (length N.loops)) N.statements → Brief 471 (nest_slots N)
unfolding nest_slots counted_slots
brief-nest N s f =
    let loops = counted_slots 1 ticket_loops loop_slots N.loops in
    let arrays = slot (count_from 1 most_arrays) (pos (length N.arrays)) ∷ arrays_slots 0 N.arrays in
    let statements = counted_slots 1 most_statements (statement_slots (length N.arrays)) N.statements in
    brief-after {n = 350} loops (arrays ++ statements) (brief-loops N.loops s) (λ b k h.
    brief-after {n = 333} arrays statements (brief-arrays N.arrays) (λ c j i.
    brief-counted 1 most_statements (statement_slots (length N.arrays)) N.statements (λ x m. brief-statement N.arrays (length N.loops)
    (count_most 1 ticket_loops (length N.loops) b k (h.0, tt)) (flat-arrays c (suc j) 0 N.arrays i.1) x (f x m))))

pub brief-ticket : (K : Ticket) → TicketSized K → Brief 504 (ticket_slots K)
unfolding ticket_slots
brief-ticket K s = brief-append (nest_slots K.nest) (slot (count_from 0 8) (pos (length K.steps)) ∷ steps_slots 1 (length K.nest.loops)
    K.steps)
    (brief-nest K.nest s.loops s.statements) (brief-steps (length K.nest.loops) K.steps)

-- ---- places

-- a role's refusal is 3 to 6, at the word or at a step
check-place : (r : Role) (p : ℕ) (w : ℤ) {n q : ℕ} → Low r → word_check r p w ≡ refused n q → (n ≤ 6) × ((q ≡ p) ⊎ (q ≤ 8))
unfolding word_check
check-place (count_from lo hi) p w l e = let r = require-refused (between (pos lo) (pos hi) w) 3 p e in let n = r.number in
    (omega arith, inl r.place)
check-place (word_from lo hi) p w l e = let r = require-refused (between lo hi w) 4 p e in let n = r.number in (omega arith, inl r.place)
check-place factor p w l e = ⊎_elim
    (λ f. let r = require-refused _ 4 p f in let n = r.number in (omega arith, inl r.place))
    (λ f. let r = require-refused _ 4 p f.rest in let n = r.number in (omega arith, inl r.place)) (then-refused _ _ e)
check-place (last_extent t d) p w l e = ⊎_elim
    (λ f. let r = require-refused _ 4 p f in let n = r.number in (omega arith, inl r.place))
    (λ f. let r = require-refused _ 5 p f.rest in let n = r.number in (omega arith, inl r.place)) (then-refused _ _ e)
check-place (loop_word k ok) p w l e = ⊎_elim
    (λ f. let r = require-refused _ 4 p f in let n = r.number in (omega arith, inl r.place))
    (λ f. let r = require-refused (ok w) 6 k f.rest in let n = r.number in let q = r.place in (omega arith, inr (omega arith)))
    (then-refused _ _ e)

offends-place : (b : List ℕ) (k : ℕ) (r : Role) {n p : ℕ} → Low r → k ≤ 504 → Offends b k r n p → (n ≤ 6) × (p ≤ 505)
offends-place b k r l h (truncated e f s) = (omega arith, omega arith)
offends-place b k r l h (bad w e f) = let q = check-place r k w l f in (q.0, ⊎_elim (λ x. omega arith) (λ x. omega arith) q.1)

-- the word that stops was reached
record Stopping (b : List ℕ) (k : ℕ) (ss : List Slot) (n p : ℕ) : Type 0 where
  before : ℕ
  role : Role
  reached : Reached b k ss before role
  stops : Offends b (k + before) role n p

stops-reached : (b : List ℕ) (k : ℕ) (ss : List Slot) (n p : ℕ) → Stops b k ss n p → Stopping b k ss n p
stops-reached b k [] n p h = absurd h
stops-reached b k (s ∷ ss) n p (inl o) = record {
  before = 0;
  role = s.role;
  reached = refl;
  stops = subst (λ i. Offends b i s.role n p)
      (omega arith) o;
}
stops-reached b k (s ∷ ss) n p (inr h) = let r = stops-reached b (suc k) ss n p h.1 in record {
  before = suc r.before;
  role = r.role;
  reached = (h.0, r.reached);
  stops = let j = r.before in subst (λ i. Offends b i r.role n p) (omega arith) r.stops;
}

pub wrong-place : (b : List ℕ) {n p : ℕ} → Wrong b n p → (n ≤ 6) × (p ≤ 505)
wrong-place b {n} {p} (offends K s h) =
    let r = stops-reached b 1 (ticket_slots K) n p h in
    let q = (brief-ticket K s).within b 1 r.before r.role r.reached in
    let l = q.0 in
    offends-place b (1 + r.before) r.role q.1 (omega arith) r.stops
wrong-place b (trailing K s h l e f) = let q = brief-length b 1 (ticket_slots K) (brief-ticket K s) h in (omega arith, omega arith)
