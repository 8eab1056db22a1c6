-- The model's readers, one after another: what follows a value and what follows a refusal; then a reader repeated, as a loop goes through it.
use mathlib.Core.Path.{◌≡◌, refl, sym, ap, ◌∙◌, subst}
use mathlib.Core.List.{List, [], ◌∷◌, ◌++◌, map, append_assoc, append-nil, map-append}
use Prim.Native.Nat.{ℕ, zero, suc, ◌+◌, ◌-◌, ◌<◌, ◌≤◌}
use native.Mathlib.Omega.{arith}
use native.Mathlib.Nat.{sub-zero}
use native.Mathlib.Numerals.{add-one}
use lib.ListN.{length, take, set}
use lib.Seq.{take-suc-set}
use Rattle.lists.specs.Membership.{All}
use Rattle.lists.proofs.MembershipLaws.{all_nil, all_cons, all_append}
use Rattle.model.specs.Answer as Answer
use Rattle.model.specs.Answer.{Answer, accepted, refused}
use Rattle.model.specs.Grammar.{Read, Reader, ◌>>=◌, done, times}
use Rattle.std.specs.Prelude.{Result, Ok, Err}
use Rattle.ticket_refusals.specs.Refusals.{refusal}
use Rattle.ticket_refusals.specs.declared.Refusal.{Refusal}
use Rattle.ticket_words.specs.declared.Words.{Words}
use Rattle.ticket_words.specs.Reads.{answer, Reads}

module _ {T A : Type 0} {view : T → A} {m : Reader A} {o e : Words} where
  pub read-value : {v : T} → Reads view m o (Ok v) e → m o.bytes.now o.next ≡ accepted (record { value = view v; next = e.next })
  read-value h = sym h.same

  pub read-refusal : {r : Refusal} → Reads view m o (Err r) e → m o.bytes.now o.next ≡ refusal r
  read-refusal h = sym h.same

-- ---- one after another

module _ {A B : Type 0} (m : Reader A) (f : A → Reader B) (b : List ℕ) (k : ℕ) where
  pub after-value : (a : A) (j : ℕ) → m b k ≡ accepted (record { value = a; next = j }) → (m >>= f) b k ≡ f a b j
  unfolding ◌>>=◌ Answer.◌>>=◌
  after-value a j e = rw e

  pub after-refusal : (n p : ℕ) → m b k ≡ refused n p → (m >>= f) b k ≡ refused n p
  unfolding ◌>>=◌ Answer.◌>>=◌
  after-refusal n p e = rw e

module _ {T A S B : Type 0} {view : T → A} {shown : S → B} {m : Reader A} (f : A → Reader B) {o e : Words} where
  -- the first is refused
  pub refused-first : {r : Refusal} → Reads view m o (Err r) e → Reads shown (m >>= f) o (Err r) e
  refused-first h = record { same = sym (after-refusal m f _ _ _ _ (read-refusal h)); bytes = h.bytes }

  -- the first is read, and the second decides
  pub read-then : {i : Words} {v : T} {r : Result S Refusal} → Reads view m o (Ok v) i → Reads shown (f (view v)) i r e
      → Reads shown (m >>= f) o r e
  read-then {i} {v} {r} h g = record {
    same = subst (λ b. answer shown r e.next ≡ f (view v) b i.next) h.bytes g.same ∙ sym (after-value m f _ _ _ _ (read-value h));
    bytes = g.bytes ∙ h.bytes;
  }

-- no more is read
pub read-done : {S B : Type 0} {shown : S → B} {b : B} {s : S} (o : Words) → shown s ≡ b → Reads shown (done b) o (Ok s) o
unfolding done
read-done o p = record { same = ap (λ v. accepted (record { value = v; next = o.next })) p; bytes = refl }

module _ {A B C : Type 0} (m : Reader A) (f : A → Reader B) (g : B → Reader C) (b : List ℕ) where
  goes_on : (a : Answer (Read A)) → Answer.◌>>=◌ (Answer.◌>>=◌ a (λ r. f r.value b r.next)) (λ r. g r.value b r.next)
      ≡ Answer.◌>>=◌ a (λ r. (f r.value >>= g) b r.next)
  unfolding ◌>>=◌ Answer.◌>>=◌
  goes_on (accepted r) = refl
  goes_on (refused n p) = refl

  -- two readers and a third, in either grouping
  pub regrouped : (k : ℕ) → (m >>= (λ a. f a >>= g)) b k ≡ ((m >>= f) >>= g) b k
  unfolding ◌>>=◌
  regrouped k = sym (goes_on (m b k))

-- two readers and a value made of theirs
module _ {A B C : Type 0} (m : Reader A) (f : A → Reader B) (h : A → B → C) (b : List ℕ) where
  made_of : {D : Type 0} (g : C → D) (a : A) (x : Answer (Read B))
      → Answer.◌>>=◌ (Answer.◌>>=◌ x (λ r. done (h a r.value) b r.next)) (λ r. done (g r.value) b r.next) ≡ Answer.◌>>=◌ x
      (λ r. done (g (h a r.value)) b r.next)
  unfolding Answer.◌>>=◌ done
  made_of g a (accepted r) = refl
  made_of g a (refused n p) = refl

  -- another value made of that one
  pub made-twice : {D : Type 0} (g : C → D) (k : ℕ) → ((m >>= (λ x. f x >>= (λ y. done (h x y)))) >>= (λ z. done (g z))) b k ≡
      (m >>= (λ x. f x >>= (λ y. done (g (h x y))))) b k
  unfolding ◌>>=◌
  made-twice g k = by (m b k)
    where
      by : (x : Answer (Read A)) → Answer.◌>>=◌ (Answer.◌>>=◌ x (λ r. (f r.value >>= (λ y. done (h r.value y))) b r.next))
          (λ r. done (g r.value) b r.next)
          ≡ Answer.◌>>=◌ x (λ r. (f r.value >>= (λ y. done (g (h r.value y)))) b r.next)
      by (accepted r) = unfold ◌>>=◌ Answer.◌>>=◌ in made_of g r.value (f r.value b r.next)
      by (refused n p) = unfold Answer.◌>>=◌ in refl

-- ---- repeated, with a state that each value changes

unfoldable pub repeated : {S A : Type 0} → (S → Reader A) → (S → A → S) → ℕ → S → Reader (List A)
repeated r to zero s = done []
repeated r to (suc n) s = do
  a ← r s
  rest ← repeated r to n (to s a)
  done (a ∷ rest)

-- values read before, in front of those still to come
unfoldable pub before : {A : Type 0} → List A → Answer (Read (List A)) → Answer (Read (List A))
before vs m = Answer.◌>>=◌ m (λ r. accepted (record { value = vs ++ r.value; next = r.next }))

module _ {A : Type 0} where
  pub before-none : (m : Answer (Read (List A))) → before [] m ≡ m
  unfolding before Answer.◌>>=◌
  before-none (accepted r) = refl
  before-none (refused n p) = refl

  pub before-one : (vs : List A) (a : A) (m : Answer (Read (List A)))
      → before vs (Answer.◌>>=◌ m (λ r. accepted (record { value = a ∷ r.value; next = r.next }))) ≡ before (vs ++ (a ∷ [])) m
  unfolding before Answer.◌>>=◌
  before-one vs a (accepted r) = rw (append_assoc vs (a ∷ []) r.value)
  before-one vs a (refused n p) = refl

module _ {S A : Type 0} (r : S → Reader A) (to : S → A → S) (b : List ℕ) (n i k : ℕ) (s : S) (vs : List A) where
  left : i < n → n - i ≡ suc (n - (i + 1))
  left h = omega arith

  pub repeated-more : (a : A) (j : ℕ) → i < n → r s b k ≡ accepted (record { value = a; next = j })
      → before vs (repeated r to (n - i) s b k) ≡ before (vs ++ (a ∷ [])) (repeated r to (n - (i + 1)) (to s a) b j)
  unfolding repeated ◌>>=◌ Answer.◌>>=◌ done
  repeated-more a j h e = rw (left h, e) (before-one vs a (repeated r to (n - (i + 1)) (to s a) b j))

  pub repeated-no : (m p : ℕ) → i < n → r s b k ≡ refused m p → before vs (repeated r to (n - i) s b k) ≡ refused m p
  unfolding repeated ◌>>=◌ Answer.◌>>=◌ before
  repeated-no m p h e = rw (left h, e)

  pub repeated-done : n ≤ i → before vs (repeated r to (n - i) s b k) ≡ accepted (record { value = vs; next = k })
  unfolding repeated before Answer.◌>>=◌ done
  repeated-done h = let z : n - i ≡ 0 = omega arith in rw z (ap (λ l. accepted (record { value = l; next = k })) (append-nil vs))

pub repeated-start : {S A : Type 0} (r : S → Reader A) (to : S → A → S) (b : List ℕ) (n k : ℕ) (s : S)
    → repeated r to n s b k ≡ before [] (repeated r to (n - 0) s b k)
repeated-start r to b n k s = rw (sub-zero n) (sym (before-none _))

-- ---- the same reader each time

pub times-repeated : {A : Type 0} (r : Reader A) (n : ℕ) → times n r ≡ repeated (λ (u : Unit {0}). r) (λ u a. u) n tt
unfolding times repeated
times-repeated r zero = refl
times-repeated r (suc n) = rw (times-repeated r n)

module _ {A : Type 0} (r : Reader A) (b : List ℕ) (n i k : ℕ) (vs : List A) where
  pub times_more : (a : A) (j : ℕ) → i < n → r b k ≡ accepted (record { value = a; next = j })
      → before vs (times (n - i) r b k) ≡ before (vs ++ (a ∷ [])) (times (n - (i + 1)) r b j)
  times_more a j h e = rw (times-repeated r (n - i), times-repeated r (n - (i + 1))) (repeated-more (λ u. r) (λ u a. u) b n i k tt vs a j h e)

  pub times-no : (m p : ℕ) → i < n → r b k ≡ refused m p → before vs (times (n - i) r b k) ≡ refused m p
  times-no m p h e = rw (times-repeated r (n - i)) (repeated-no (λ u. r) (λ u a. u) b n i k tt vs m p h e)

  pub times-done : n ≤ i → before vs (times (n - i) r b k) ≡ accepted (record { value = vs; next = k })
  times-done h = rw (times-repeated r (n - i)) (repeated-done (λ u. r) (λ u a. u) b n i k tt vs h)

pub times-start : {A : Type 0} (r : Reader A) (b : List ℕ) (n k : ℕ) → times n r b k ≡ before [] (times (n - 0) r b k)
times-start r b n k = rw (sub-zero n) (sym (before-none _))

-- ---- a reader under way

-- on the words o, m goes on from the words e as `rest` does, behind the values vs
pub record Underway {A : Type 0} (m : Reader (List A)) (o : Words) (vs : List A) (rest : Reader (List A)) (e : Words) : Type 0 where
  pub bytes : e.bytes.now ≡ o.bytes.now
  pub so : m o.bytes.now o.next ≡ before vs (rest e.bytes.now e.next)

-- a reader repeated, with a state
module _ {S A : Type 0} (r : S → Reader A) (to : S → A → S) (n : ℕ) where
  pub repeat-begin : (s : S) (o : Words) → Underway (repeated r to n s) o [] (repeated r to (n - 0) s) o
  repeat-begin s o = record { bytes = refl; so = repeated-start r to o.bytes.now n o.next s }

  module _ (i : ℕ) (s : S) {m : Reader (List A)} {o e : Words} {vs : List A} (u : Underway m o vs (repeated r to (n - i) s) e) where
    pub repeat-more : {T : Type 0} {view : T → A} {e' : Words} {ws : List A} {a : T} → i < n → Reads view (r s) e (Ok a) e'
        → vs ++ (view a ∷ []) ≡ ws → Underway m o ws (repeated r to (n - (i + 1)) (to s (view a))) e'
    repeat-more {view} {e'} {ws} {a} h g p = record {
      bytes = g.bytes ∙ u.bytes;
      so = u.so ∙ repeated-more r to e.bytes.now n i e.next s vs (view a) e'.next h (read-value g)
          ∙ ap (λ b. before (vs ++ (view a ∷ [])) (repeated r to (n - (i + 1)) (to s (view a)) b e'.next)) (sym g.bytes)
          ∙ ap (λ v. before v (repeated r to (n - (i + 1)) (to s (view a)) e'.bytes.now e'.next)) p;
    }

    pub repeat-no : {T L : Type 0} {view : T → A} {shown : L → List A} {e' : Words} {x : Refusal} → i < n → Reads view (r s) e (Err x) e'
        → Reads shown m o (Err x) e'
    repeat-no h g = record { same = sym (u.so ∙ repeated-no r to e.bytes.now n i e.next s vs _ _ h (read-refusal g)); bytes = g.bytes ∙ u.bytes }

    pub repeat-end : {L : Type 0} {shown : L → List A} {l : L} → n ≤ i → vs ≡ shown l → Reads shown m o (Ok l) e
    repeat-end h p = record {
      same = sym (u.so ∙ repeated-done r to e.bytes.now n i e.next s vs h ∙ ap (λ v. accepted (record { value = v; next = e.next })) p);
      bytes = u.bytes;
    }

-- the same reader each time
module _ {A : Type 0} (r : Reader A) (n : ℕ) where
  pub times-begin : (o : Words) → Underway (times n r) o [] (times (n - 0) r) o
  times-begin o = record { bytes = refl; so = times-start r o.bytes.now n o.next }

  module _ (i : ℕ) {m : Reader (List A)} {o e : Words} {vs : List A} (u : Underway m o vs (times (n - i) r) e) where
    pub times-next : {T : Type 0} {view : T → A} {e' : Words} {ws : List A} {a : T} → i < n → Reads view r e (Ok a) e'
        → vs ++ (view a ∷ []) ≡ ws → Underway m o ws (times (n - (i + 1)) r) e'
    times-next {view} {e'} {ws} {a} h g p = record {
      bytes = g.bytes ∙ u.bytes;
      so = u.so ∙ times_more r e.bytes.now n i e.next vs (view a) e'.next h (read-value g)
          ∙ ap (λ b. before (vs ++ (view a ∷ [])) (times (n - (i + 1)) r b e'.next)) (sym g.bytes)
          ∙ ap (λ v. before v (times (n - (i + 1)) r e'.bytes.now e'.next)) p;
    }

    pub times-stop : {T L : Type 0} {view : T → A} {shown : L → List A} {e' : Words} {x : Refusal} → i < n → Reads view r e (Err x) e'
        → Reads shown m o (Err x) e'
    times-stop h g = record { same = sym (u.so ∙ times-no r e.bytes.now n i e.next vs _ _ h (read-refusal g)); bytes = g.bytes ∙ u.bytes }

    pub times-end : {L : Type 0} {shown : L → List A} {l : L} → n ≤ i → vs ≡ shown l → Reads shown m o (Ok l) e
    times-end h p = record {
      same = sym (u.so ∙ times-done r e.bytes.now n i e.next vs h ∙ ap (λ v. accepted (record { value = v; next = e.next })) p);
      bytes = u.bytes;
    }

-- ---- an array that is filled from the front, one value a turn

module _ {A B : Type 0} (f : A → B) (l : List A) (i : ℕ) where
  pub filled_more : (a : A) (y : B) → y ≡ f a → i < length l → map f (take i l) ++ (y ∷ []) ≡ map f (take (i + 1) (set l i a))
  filled_more a y e h = rw (e, add-one, take-suc-set l i a h, map-append)

-- the values themselves
pub taken_more : {A : Type 0} (l : List A) (i : ℕ) (a y : A) → i < length l → a ≡ y → take i l ++ (a ∷ []) ≡ take (i + 1) (set l i y)
taken_more l i a y h p = rw (p, add-one, take-suc-set l i y h)

-- what holds of every element so far, and of the next
pub all_more : {A : Type 0} (P : A → Type 0) (l : List A) (i : ℕ) (a : A) → i < length l → P a → All P (take i l) → All P (take (i + 1) (set l i a))
all_more P l i a h p q = rw (add-one, take-suc-set l i a h) (all_append P (take i l) (a ∷ []) q (all_cons P p (all_nil P)))

pub all_read : {A : Type 0} (P : A → Type 0) (l : List A) (i n : ℕ) → i ≤ n → n ≤ i → All P (take i l) → All P (take n l)
all_read P l i n p q h = let z : i ≡ n = omega arith in subst (λ m. All P (take m l)) z h
