-- Every reader of the grammar follows the slots of what it reads, whatever the numbers: words, loops, arrays, statements, steps, the ticket.
use mathlib.Core.Path.{◌≡◌, refl, sym, ap, ap₂, ◌∙◌, subst}
use mathlib.Core.Bool.{Bool, true, false, cond, not}
use mathlib.Core.List.Memᴰ
use mathlib.Core.List.{List, [], ◌∷◌, ◌++◌, flat_map, append-nil}
use Prim.Native.Nat.{ℕ, suc, ◌+◌, ◌*◌, ◌-◌}
use native.Mathlib.Nat.{mul-one, one-mul, mul_assoc}
use native.Mathlib.Omega.{arith}
use lib.Dec.{eqb, leb}
use lib.IntN.{ℤ, pos, neg_ℤ, nat_abs}
use lib.ListN.{length}
use Rattle.integers.specs.Sign.{eq_z}
use Rattle.lists.specs.Membership.{All}
use Rattle.lists.proofs.MembershipLaws.{length-one}
use Rattle.model.specs.Encode.{kind_of}
use Rattle.model.specs.Answer as Answer
use Rattle.model.specs.Answer.{Answer, accepted, refused, require}
use Rattle.model.specs.Ticket.{Limit, Loop, Subscript, Access, Statement, Step, exchange, reversal, skew, section, circulation, Nest, Ticket}
use Rattle.model.specs.Grammar.{Read, Reader, ◌>>=◌, ◌>>◌, done, word, must, must_at, between, count, within, natural, number, times}
use Rattle.model.specs.Grammar.{most_factor}
use Rattle.model.specs.Grammar.{limit, side, loop, loops_from, loops, elements, shape, array, arrays_from, arrays, extents, ticket_limits}
use Rattle.model.specs.Grammar.{ticket_loops}
use Rattle.model.specs.Grammar.{subscript, access, statement, statements, loop_number, exchange_step, reversal_step, skew_step, section_step}
use Rattle.model.specs.Grammar.{circulation_step, step_kinds, step_of}
use Rattle.model.specs.Grammar.{depth_after, steps_from, steps, nest}
use Rattle.model.specs.Grammar.{most_statements, most_reads, most_arrays, most_extent, most_elements}
use Rattle.model.specs.Bounds.{accesses_of}
use Rattle.model.specs.Shape.{Shaped}
use Rattle.model.specs.Shape as Shape
use Rattle.model.specs.Roles.{count_from, word_from, factor, last_extent, loop_word, any_number, word_check, Slot, slot, counted_slots, number_slots}
use Rattle.model.specs.Roles.{limit_slots, loop_slots}
use Rattle.model.specs.Roles.{extent_slots, array_slots, arrays_slots, subscript_slots, access_slots, statement_slots, argument_slots, steps_slots}
use Rattle.model.specs.Roles.{nest_slots, ticket_slots}
use Rattle.model.specs.Roles.{AccessSized, StatementSized, TicketSized, AllTaken}
use Rattle.model.proofs.Answers.AnswerLaws.{not-both}
use Rattle.model.proofs.Answers.PassLaws.{bind-stop}
use Rattle.model.proofs.Grammar.RoleLaws.{Follows, follows-slots, follows-value, follows_same, follows-done, follows-bind, follows-last}
use Rattle.model.proofs.Grammar.RoleLaws.{bind_assoc, follows-word, follows-times, alone-slots}

-- ---- single words

module _ {A : Type 0} where
  must-check : (t : Bool) (n : ℕ) (a : A) (b : List ℕ) (k : ℕ)
      → (must t n >> done a) b (suc k) ≡ Answer.◌>>◌ (require t n k) (accepted (record { value = a; next = suc k }))
  unfolding must require done ◌>>◌ ◌>>=◌ Answer.◌>>◌ Answer.◌>>=◌
  must-check true n a b k = refl
  must-check false n a b k = ap (refused n) (omega arith)

  must_at-check : (t : Bool) (n p : ℕ) (a : A) (b : List ℕ) (k : ℕ)
      → (must_at t n p >> done a) b (suc k) ≡ Answer.◌>>◌ (require t n p) (accepted (record { value = a; next = suc k }))
  unfolding must_at require done ◌>>◌ ◌>>=◌ Answer.◌>>◌ Answer.◌>>=◌
  must_at-check true n p a b k = refl
  must_at-check false n p a b k = refl

  -- two tests of one word
  then-check : (t : Bool) (n : ℕ) (w : ℤ) (g : ℤ → Reader A) (x : Answer (Unit {0})) (y : Read A) (b : List ℕ) (k : ℕ)
      → g w b (suc k) ≡ Answer.◌>>◌ x (accepted y)
      → ((must t n >> done w) >>= g) b (suc k) ≡ Answer.◌>>◌ (Answer.◌>>◌ (require t n k) x) (accepted y)
  unfolding must require done ◌>>◌ ◌>>=◌ Answer.◌>>◌ Answer.◌>>=◌
  then-check true n w g x y b k e = e
  then-check false n w g x y b k e = ap (refused n) (omega arith)

pub follows-count : (lo hi n : ℕ) → Follows (count lo hi) n (slot (count_from lo hi) (pos n) ∷ [])
unfolding count word_check
follows-count lo hi n = follows-word (λ w. must (between (pos lo) (pos hi) w) 3 >> done (nat_abs w)) (count_from lo hi) nat_abs
    (λ w b k. must-check (between (pos lo) (pos hi) w) 3 (nat_abs w) b k) (pos n)

follows-within : (lo hi w : ℤ) → Follows (within lo hi) w (slot (word_from lo hi) w ∷ [])
unfolding within word_check
follows-within lo hi w = follows-word (λ w. must (between lo hi w) 4 >> done w) (word_from lo hi) (λ w. w)
    (λ w b k. must-check (between lo hi w) 4 w b k) w

follows-natural : (lo hi n : ℕ) → Follows (natural lo hi) n (slot (word_from (pos lo) (pos hi)) (pos n) ∷ [])
unfolding natural
follows-natural lo hi n = follows-last nat_abs (follows-within (pos lo) (pos hi) (pos n))

follows-number : (z : ℤ) → Follows number z (slot any_number z ∷ [])
unfolding number
follows-number z = follows-within _ _ z

follows-loop_number : (k : ℕ) (ok : ℤ → Bool) (w : ℤ) → Follows (loop_number k ok) (nat_abs w) (slot (loop_word k ok) w ∷ [])
unfolding loop_number number within word_check
follows-loop_number k ok w = follows_same (λ b j. bind_assoc word _ (λ a. must_at (ok a) 6 k >> done (nat_abs a)) b j)
    (follows-word _ (loop_word k ok) nat_abs (λ w b j. then-check (between _ _ w) 4 w (λ a. must_at (ok a) 6 k >> done (nat_abs a))
    (require (ok w) 6 k) _ b j
    (must_at-check (ok w) 6 k (nat_abs w) b j)) w)

follows-factor : {A : Type 0} (v : ℤ → A) (c : ℤ)
    → Follows (within (neg_ℤ (pos most_factor)) (pos most_factor) >>= (λ c. must (not (eq_z c (pos 0))) 4 >> done (v c))) (v c) (slot factor c ∷ [])
unfolding within word_check
follows-factor v c = follows_same (λ b j. bind_assoc word _ (λ c. must (not (eq_z c (pos 0))) 4 >> done (v c)) b j)
    (follows-word _ factor v (λ w b j. then-check (between _ _ w) 4 w (λ c. must (not (eq_z c (pos 0))) 4 >> done (v c))
    (require (not (eq_z w (pos 0))) 4 j) _ b j
    (must-check (not (eq_z w (pos 0))) 4 (v w) b j)) c)

-- ---- lists

follows-numbers : (n : ℕ) (l : List ℤ) → length l ≡ n → Follows (times n number) l (number_slots l)
follows-numbers n l e = subst (λ i. Follows (times i number) l (number_slots l)) e
    (follows-slots (alone-slots l) (follows-times (λ z. slot any_number z ∷ []) l (λ z m. follows-number z)))

follows-counted : {A : Type 0} (g : ℕ → Reader (List A)) (f : A → List Slot) (lo hi : ℕ) (l : List A)
    → Follows (g (length l)) l (flat_map f l) → Follows (count lo hi >>= g) l (counted_slots lo hi f l)
unfolding counted_slots
follows-counted g f lo hi l h = follows-bind g (follows-count lo hi (length l)) h

-- ---- loops

follows-limit : (k : ℕ) (l : Limit) → length l.coefficients ≡ k → Follows (limit k) l (limit_slots l)
unfolding limit limit_slots number_slots
follows-limit k l e = follows-bind _ (follows-natural 1 32767 l.multiplier) (follows-bind _ (follows-number l.constant)
    (follows-last (λ cs. record { multiplier = l.multiplier; constant = l.constant; coefficients = cs }) (follows-numbers k l.coefficients e)))

follows-side : (k : ℕ) (ls : List Limit) → Shape.Sized k ls → Follows (side ticket_limits k) ls (counted_slots 1 ticket_limits limit_slots ls)
unfolding side
follows-side k ls s = follows-counted _ limit_slots 1 ticket_limits ls (follows-times limit_slots ls (λ l i. follows-limit k l (s l i)))

follows-loop : (k : ℕ) (L : Loop) → Shape.Sized k L.lower → Shape.Sized k L.upper → Follows (loop ticket_limits k) L (loop_slots L)
unfolding loop loop_slots
follows-loop k L s t = follows-bind _ (follows-side k L.lower s)
    (follows-last (λ u. record { lower = L.lower; upper = u }) (follows-side k L.upper t))

follows-loops_from : (k : ℕ) (N : List Loop) → Shaped k N → Follows (loops_from ticket_limits k (length N)) N (flat_map loop_slots N)
unfolding loops_from flat_map
follows-loops_from k [] s = follows-done []
follows-loops_from k (L ∷ N) s = follows-bind _ (follows-loop k L s.0.0 s.0.1) (follows-last (L ∷◌) (follows-loops_from (suc k) N s.1))

follows-loops : (N : List Loop) → Shaped 0 N → Follows (loops ticket_loops ticket_limits) N (counted_slots 1 ticket_loops loop_slots N)
unfolding loops
follows-loops N s = follows-counted _ loop_slots 1 ticket_loops N (follows-loops_from 0 N s)

-- ---- arrays: the last extent is tested for the elements so far

module _ {A : Type 0} (v : List ℕ → A) (u : List ℕ → Bool) where
  abbrev tested : List ℕ → Reader A
  tested ms = must (u ms) 5 >> done (v ms)

  one-extent : (b : List ℕ) (k : ℕ) → (times 1 (natural 1 4096) >>= tested) b k
      ≡ (word >>= (λ w. (must (between (pos 1) (pos most_extent) w) 4 >> done w) >>= (λ w. tested (nat_abs w ∷ [])))) b k
  unfolding times natural within done ◌>>=◌ Answer.◌>>=◌
  one-extent b k =
      bind_assoc (natural 1 4096) (λ a. times 0 (natural 1 4096) >>= (λ rest. done (a ∷ rest))) tested b k
      ∙ bind_assoc (within (pos 1) (pos most_extent)) (λ w. done (nat_abs w)) (λ a. tested (a ∷ [])) b k
      ∙ bind_assoc word (λ w. must (between (pos 1) (pos most_extent) w) 4 >> done w) (λ w. tested (nat_abs w ∷ [])) b k

pub bind_done : {A B C : Type 0} (m : Reader A) (f : A → B) (g : B → Reader C) (b : List ℕ) (k : ℕ)
    → ((m >>= (λ x. done (f x))) >>= g) b k ≡ (m >>= (λ x. g (f x))) b k
unfolding done ◌>>=◌ Answer.◌>>=◌
bind_done m f g b k = bind_assoc m (λ x. done (f x)) g b k

follows-extents : {A : Type 0} (t e : ℕ) (v : List ℕ → A) (u : List ℕ → Bool) → ((ms : List ℕ) → u ms ≡ leb (t + e * elements ms) most_elements)
    → (n : ℕ) (ns : List ℕ)
    → Follows (times (length (n ∷ ns)) (natural 1 4096) >>= tested v u) (v (n ∷ ns)) (extent_slots t e (n ∷ ns))
unfolding extent_slots elements word_check times
follows-extents t e v u q n [] = follows_same (one-extent v u) (follows-word _ (last_extent t e) (λ w. v (nat_abs w ∷ []))
    (λ w b k. then-check (between (pos 1) (pos most_extent) w) 4 w (λ w. tested v u (nat_abs w ∷ []))
    (require (leb (t + e * nat_abs w) most_elements) 5 k) _ b k
    (ap (λ z. (must z 5 >> done (v (nat_abs w ∷ []))) b (suc k)) (q (nat_abs w ∷ []) ∙ ap (λ i. leb (t + e * i) most_elements) (mul-one (nat_abs w)))
    ∙ must-check (leb (t + e * nat_abs w) most_elements) 5 (v (nat_abs w ∷ [])) b k)) (pos n))
follows-extents t e v u q n (m ∷ ns) = follows_same
    (λ b k. bind_assoc (natural 1 4096) (λ a. times (length (m ∷ ns)) (natural 1 4096) >>= (λ rest. done (a ∷ rest))) (tested v u) b k)
    (follows-bind _ (follows-natural 1 4096 n) (follows_same
    (λ b k. bind_done (times (length (m ∷ ns)) (natural 1 4096)) (n ∷◌) (tested v u) b k)
    (follows-extents t (e * n) (λ ms. v (n ∷ ms)) (λ ms. u (n ∷ ms))
    (λ ms. q (n ∷ ms) ∙ ap (λ i. leb (t + i) most_elements) (sym (mul_assoc e n (elements ms)))) m ns)))

-- a reader whose first part is never taken
follows-never : {A B : Type 0} {m : Reader A} (g : A → Reader B) {us : List Slot} {a : A} (c : B) → Follows m a us
    → ((b : List ℕ) (k : ℕ) → AllTaken b k us → ⊥) → Follows (m >>= g) c us
unfolding ◌>>=◌
follows-never g c h never = record {
  whole = λ b k s. absurd (never b k s);
  stops = λ b k n p l s. bind-stop (λ r. g r.value b r.next)
      (h.stops b k n p l s);
}

no-dimension : (k : ℕ) → word_check (count_from 1 3) k (pos 0) ≡ accepted tt → ⊥
unfolding word_check require between
no-dimension k e = not-both (sym e)

follows-array : (t : ℕ) (a : List ℕ) → Follows (array t) a (array_slots t a)
unfolding array shape array_slots extent_slots
follows-array t [] = follows_same (λ b k. bind_assoc (count 1 3) _ _ b k)
    (follows-never _ [] (follows-count 1 3 0) (λ b k s. no-dimension k s.0.passes))
follows-array t (n ∷ ns) = follows_same (λ b k. bind_assoc (count 1 3) _ _ b k) (follows-bind _ (follows-count 1 3 (length (n ∷ ns)))
    (follows-extents t 1 (λ ms. ms) (λ ms. leb (t + elements ms) most_elements) (λ ms. ap (λ i. leb (t + i) most_elements)
    (sym (one-mul (elements ms)))) n ns))

follows-arrays_from : (t : ℕ) (as' : List (List ℕ)) → Follows (arrays_from t (length as')) as' (arrays_slots t as')
unfolding arrays_from arrays_slots
follows-arrays_from t [] = follows-done []
follows-arrays_from t (a ∷ as') = follows-bind _ (follows-array t a) (follows-last (a ∷◌) (follows-arrays_from (t + elements a) as'))

follows-arrays : (as' : List (List ℕ)) → Follows arrays as' (slot (count_from 1 most_arrays) (pos (length as')) ∷ arrays_slots 0 as')
unfolding arrays
follows-arrays as' = follows-bind _ (follows-count 1 most_arrays (length as')) (follows-arrays_from 0 as')

-- ---- statements

follows-subscript : (n : ℕ) (s : Subscript) → length s.coefficients ≡ n → Follows (subscript n) s (subscript_slots s)
unfolding subscript subscript_slots number_slots
follows-subscript n s e = follows-bind _ (follows-number s.constant)
    (follows-last (λ cs. record { constant = s.constant; coefficients = cs }) (follows-numbers n s.coefficients e))

follows-access : (n : ℕ) (as' : List (List ℕ)) (a : Access) → AccessSized as' n a → Follows (access n as') a (access_slots (length as') a)
unfolding access access_slots
follows-access n as' a f =
    let e : suc a.array - 1 ≡ a.array = omega arith in
    let l : length a.subscripts ≡ length (extents as' (suc a.array - 1)) = f.dimensions ∙ ap (λ i. length (extents as' i)) (sym e) in
    follows-value (ap (λ i. record { array = i; subscripts = a.subscripts }) e) (follows-bind _ (follows-natural 1 (length as') (suc a.array))
    (follows-last (λ ss. record { array = suc a.array - 1; subscripts = ss })
    (subst (λ i. Follows (times i (subscript n)) a.subscripts (flat_map subscript_slots a.subscripts)) l
    (follows-times subscript_slots a.subscripts (λ s i. follows-subscript n s (f.wide s i))))))

-- a statement with this write
abbrev writing : Statement → List Access → Statement
writing s ws = record { rule = s.rule; constant = s.constant; writes = ws; reads = s.reads }

follows-statement : (n : ℕ) (as' : List (List ℕ)) (s : Statement) → StatementSized as' n s
    → Follows (statement n as') s (statement_slots (length as') s)
unfolding statement statement_slots flat_map counted_slots accesses_of
follows-statement n as' s f =
    let o = length-one s.writes f.one-write in
    let w = o.0 in
    let i : All (AccessSized as' n) ((w ∷ []) ++ s.reads) = subst (λ ws. All (AccessSized as' n) (ws ++ s.reads)) o.1 f.each in
    subst (λ ws. Follows (statement n as') (writing s ws) (statement_slots (length as') (writing s ws))) (sym o.1)
    (follows-slots (ap (λ ws. slot (word_from (pos 0) (pos 3)) (pos s.rule) ∷ slot (word_from (pos 0) (pos (cond (eqb s.rule 3) 0 32767)))
    (pos s.constant)
    ∷ (ws ++ counted_slots (cond (eqb s.rule 3) 1 0) most_reads (access_slots (length as')) s.reads))
    (sym (append-nil (access_slots (length as') w))))
    (follows-bind _ (follows-natural 0 3 s.rule) (follows-bind _ (follows-natural 0 _ s.constant)
    (follows-bind _ (follows-access n as' w (i w (Memᴰ.head refl)))
    (follows-bind _ (follows-count _ most_reads (length s.reads))
    (follows-last (λ rs. record { rule = s.rule; constant = s.constant; writes = w ∷ []; reads = rs })
    (follows-times (access_slots (length as')) s.reads (λ a j. follows-access n as' a (i a (Memᴰ.tail j))))))))))

follows-statements : (n : ℕ) (as' : List (List ℕ)) (ss : List Statement) → All (StatementSized as' n) ss
    → Follows (statements n as') ss (counted_slots 1 most_statements (statement_slots (length as')) ss)
unfolding statements
follows-statements n as' ss f = follows-counted _ (statement_slots (length as')) 1 most_statements ss
    (follows-times (statement_slots (length as')) ss (λ s i. follows-statement n as' s (f s i)))

-- ---- steps

follows-unused : {A : Type 0} (a : A) → Follows (natural 0 0 >>= (λ _. done a)) a (slot (word_from (pos 0) (pos 0)) (pos 0) ∷ [])
follows-unused a = follows-last (λ _. a) (follows-natural 0 0 0)

less_one : (a : ℕ) → suc a - 1 ≡ a
less_one a = omega arith

follows-step : (k m : ℕ) (t : Step) → Follows (step_of (kind_of t) k m) t (argument_slots k m t)
unfolding step_of exchange_step reversal_step skew_step section_step circulation_step argument_slots
follows-step k m (exchange a) = follows-value (ap exchange (less_one a)) (follows-bind _ (follows-loop_number k _ (pos (suc a)))
    (follows-bind _ (follows-loop_number k _ (pos (suc (suc a)))) (follows-unused (exchange (suc a - 1)))))
follows-step k m (reversal a) = follows-value (ap reversal (less_one a)) (follows-bind _ (follows-loop_number k _ (pos (suc a)))
    (follows-bind _ (follows-natural 0 0 0) (follows-unused (reversal (suc a - 1)))))
follows-step k m (skew a d c) = follows-value (ap₂ (λ i j. skew i j c) (less_one a) (inner a d))
    (follows-bind _ (follows-loop_number k _ (pos (suc a)))
    (follows-bind _ (follows-loop_number k _ (pos (suc (suc (a + d))))) (follows-factor (skew (suc a - 1) (suc (suc (a + d)) - suc a - 1)) c)))
  where
    inner : (a d : ℕ) → suc (suc (a + d)) - suc a - 1 ≡ d
    inner a d = omega arith
follows-step k m (section a w) = follows-value (ap (λ i. section i w) (less_one a)) (follows-bind _ (follows-loop_number k _ (pos (suc a)))
    (follows-bind _ (follows-natural 2 256 w) (follows-unused (section (suc a - 1) w))))
follows-step k m (circulation a b) = follows-value (ap₂ circulation (less_one a) (less_one b)) (follows-bind _ (follows-loop_number k _ (pos (suc a)))
    (follows-bind _ (follows-loop_number k _ (pos (suc b))) (follows-unused (circulation (suc a - 1) (suc b - 1)))))

follows-steps_from : (k m : ℕ) (ts : List Step) → Follows (steps_from k m (length ts)) ts (steps_slots k m ts)
unfolding steps_from steps_slots
follows-steps_from k m [] = follows-done []
follows-steps_from k m (t ∷ ts) = follows-bind _ (follows-natural 1 step_kinds (kind_of t)) (follows-bind _ (follows-step k m t)
    (follows-last (t ∷◌) (follows-steps_from (suc k) (depth_after t m) ts)))

follows-steps : (m : ℕ) (ts : List Step) → Follows (steps m) ts (slot (count_from 0 8) (pos (length ts)) ∷ steps_slots 1 m ts)
unfolding steps
follows-steps m ts = follows-bind _ (follows-count 0 8 (length ts)) (follows-steps_from 1 m ts)

-- ---- the nest, and the ticket but for its end

follows-nest : (N : Nest) → Shaped 0 N.loops → All (StatementSized N.arrays (length N.loops)) N.statements
    → Follows (nest ticket_loops ticket_limits) N (nest_slots N)
unfolding nest nest_slots
follows-nest N s f = follows-bind _ (follows-loops N.loops s) (follows-bind _ (follows-arrays N.arrays)
    (follows-last (λ ss. record { loops = N.loops; arrays = N.arrays; statements = ss })
    (follows-statements (length N.loops) N.arrays N.statements f)))

-- the ticket without the test that no byte follows
abbrev pub unended : Reader Ticket
unended = nest ticket_loops ticket_limits >>= (λ N. steps (length N.loops) >>= (λ ts. done (record { nest = N; steps = ts })))

pub follows-ticket : (K : Ticket) → TicketSized K → Follows unended K (ticket_slots K)
unfolding ticket_slots
follows-ticket K s = follows-bind _ (follows-nest K.nest s.loops s.statements)
    (follows-last (λ ts. record { nest = K.nest; steps = ts }) (follows-steps (length K.nest.loops) K.steps))
