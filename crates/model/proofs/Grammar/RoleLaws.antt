-- Laws of roles. `Follows r a ss`: wherever the words of the slots ss stand and are taken, the reader r reads a; where one of them offends, r is refused
-- as that word is. `Walk P`: any bytes can be walked along the slots of some value, to the end or to the first word that offends.
-- Both are closed under joining, so that each reader of the grammar is gone through once in `FollowLaws` and once in `WalkLaws`.
use mathlib.Core.Path.{◌≡◌, refl, sym, ap, ◌∙◌, subst}
use mathlib.Core.Logic.{◌⊎◌, inl, inr, ⊎_elim}
use mathlib.Core.List.Memᴰ
use mathlib.Core.List.{List, [], ◌∷◌, ◌++◌, flat_map, append-nil}
use Prim.Native.Nat.{ℕ, zero, suc, ◌+◌, ◌*◌, ◌-◌, ◌≤◌, ◌<◌}
use native.Mathlib.Nat.{add-zero, add_assoc}
use native.Mathlib.Numerals.{add-one}
use native.Mathlib.Omega.{arith}
use lib.IntN.{ℤ}
use lib.ListN.{length, drop, length-append, length-drop}
use Rattle.lists.specs.Membership.{All}
use Rattle.lists.proofs.MembershipLaws.{all_nil, all_cons}
use Rattle.model.specs.Answer as Answer
use Rattle.model.specs.Answer.{Answer, accepted, refused}
use Rattle.model.specs.Words.{first_word, word_at}
use Rattle.model.specs.Grammar.{Read, Reader, ◌>>=◌, done, word, times}
use Rattle.model.specs.Roles.{Role, Slot, slot, any_number, word_check, number_slots, Offends, truncated, bad, AllTaken, Stops}
use Rattle.model.proofs.Answers.PassLaws.{bind-pass, bind-stop, then-pass, then-stop}

-- ---- words, joined and parted

module _ (b : List ℕ) where
  pub sound-append : (k : ℕ) (us vs : List Slot) → AllTaken b k us → AllTaken b (k + length us) vs → AllTaken b k (us ++ vs)
  sound-append k [] vs h g = subst (λ j. AllTaken b j vs) (omega arith) g
  sound-append k (u ∷ us) vs h g = (h.0, sound-append (suc k) us vs h.1 (subst (λ j. AllTaken b j vs) (omega arith) g))

  sound-left : (k : ℕ) (us vs : List Slot) → AllTaken b k (us ++ vs) → AllTaken b k us
  sound-left k [] vs h = tt
  sound-left k (u ∷ us) vs h = (h.0, sound-left (suc k) us vs h.1)

  pub sound-right : (k : ℕ) (us vs : List Slot) → AllTaken b k (us ++ vs) → AllTaken b (k + length us) vs
  sound-right k [] vs h = subst (λ j. AllTaken b j vs) (omega arith) h
  sound-right k (u ∷ us) vs h = subst (λ j. AllTaken b j vs) (omega arith) (sound-right (suc k) us vs h.1)

  stops-left : (n p k : ℕ) (us vs : List Slot) → Stops b k us n p → Stops b k (us ++ vs) n p
  stops-left n p k [] vs h = absurd h
  stops-left n p k (u ∷ us) vs (inl o) = inl o
  stops-left n p k (u ∷ us) vs (inr r) = inr (r.0, stops-left n p (suc k) us vs r.1)

  stops-right : (n p k : ℕ) (us vs : List Slot) → AllTaken b k us → Stops b (k + length us) vs n p → Stops b k (us ++ vs) n p
  stops-right n p k [] vs h g = subst (λ j. Stops b j vs n p) (omega arith) g
  stops-right n p k (u ∷ us) vs h g = inr (h.0, stops-right n p (suc k) us vs h.1 (subst (λ j. Stops b j vs n p) (omega arith) g))

  stops-parts : (n p k : ℕ) (us vs : List Slot) → Stops b k (us ++ vs) n p → Stops b k us n p ⊎ (AllTaken b k us × Stops b (k + length us) vs n p)
  stops-parts n p k [] vs h = inr (tt, subst (λ j. Stops b j vs n p) (omega arith) h)
  stops-parts n p k (u ∷ us) vs (inl o) = inl (inl o)
  stops-parts n p k (u ∷ us) vs (inr r) = ⊎_elim (λ s. inl (inr (r.0, s)))
      (λ s. inr ((r.0, s.0), subst (λ j. Stops b j vs n p) (omega arith) s.1)) (stops-parts n p (suc k) us vs r.1)

-- ---- a word that is missing or half there

first_short : (k : ℕ) (l : List ℕ) → length l < 2 → first_word k l ≡ refused 1 k
unfolding first_word
first_short k [] h = refl
first_short k (lo ∷ []) h = refl
first_short k (lo ∷ hi ∷ l) h = absurd (omega arith)

pub word-short : (b : List ℕ) (k : ℕ) → 1 ≤ k → length b < k * 2 → word_at b k ≡ refused 1 k
unfolding word_at
word-short b k h l = first_short k (drop ((k - 1) * 2) b) (let e = length-drop ((k - 1) * 2) b in omega arith)

short-first : (k : ℕ) (l : List ℕ) → ((w : ℤ) × (first_word k l ≡ accepted w)) ⊎ (length l < 2)
unfolding first_word
short-first k [] = inr (omega arith)
short-first k (lo ∷ []) = inr (omega arith)
short-first k (lo ∷ hi ∷ l) = inl (_, refl)

word-or-short : (b : List ℕ) (k : ℕ) → 1 ≤ k → ((w : ℤ) × (word_at b k ≡ accepted w)) ⊎ (length b < k * 2)
unfolding word_at
word-or-short b k h = ⊎_elim inl (λ l. inr (let e = length-drop ((k - 1) * 2) b in omega arith)) (short-first k (drop ((k - 1) * 2) b))

-- ---- readers that follow slots

pub record Follows {A : Type 0} (r : Reader A) (a : A) (ss : List Slot) : Type 0 where
  pub whole : (b : List ℕ) (k : ℕ) → AllTaken b k ss → r b k ≡ accepted (record { value = a; next = k + length ss })
  pub stops : (b : List ℕ) (k n p : ℕ) → 1 ≤ k → Stops b k ss n p → r b k ≡ refused n p

module _ {A : Type 0} where
  pub follows-slots : {r : Reader A} {a : A} {us vs : List Slot} → us ≡ vs → Follows r a us → Follows r a vs
  follows-slots {r} {a} e h = subst (Follows r a) e h

  pub follows-value : {r : Reader A} {a c : A} {ss : List Slot} → a ≡ c → Follows r a ss → Follows r c ss
  follows-value {r} {ss = ss} e h = subst (λ x. Follows r x ss) e h

  pub follows_same : {q r : Reader A} {a : A} {ss : List Slot} → ((b : List ℕ) (k : ℕ) → q b k ≡ r b k) → Follows r a ss → Follows q a ss
  follows_same e h = record { whole = λ b k s. e b k ∙ h.whole b k s; stops = λ b k n p l s. e b k ∙ h.stops b k n p l s }

  pub follows-done : (a : A) → Follows (done a) a []
  unfolding done
  follows-done a = record {
    whole = λ b k s. ap (λ n. accepted (record { value = a; next = n }))
        (sym (add-zero k));
    stops = λ b k n p l s. absurd s;
  }

module _ {A B : Type 0} {m : Reader A} where
  pub follows-bind : (g : A → Reader B) {us vs : List Slot} {a : A} {c : B} → Follows m a us → Follows (g a) c vs → Follows (m >>= g) c (us ++ vs)
  unfolding ◌>>=◌
  follows-bind g {us} {vs} {a} {c} h i = record {
    whole = λ b k s.
        bind-pass (λ r. g r.value b r.next) (h.whole b k (sound-left b k us vs s)) ∙ i.whole b (k + length us) (sound-right b k us vs s)
        ∙ ap (λ n. accepted (record { value = c; next = n })) (add_assoc k (length us) (length vs) ∙ ap (k +◌) (sym (length-append us vs)));
    stops = λ b k n p l s. ⊎_elim
        (λ t. bind-stop (λ r. g r.value b r.next) (h.stops b k n p l t))
        (λ t. bind-pass (λ r. g r.value b r.next) (h.whole b k t.0) ∙ i.stops b (k + length us) n p (omega arith) t.1)
        (stops-parts b n p k us vs s);
  }

  pub follows-last : (v : A → B) {us : List Slot} {a : A} → Follows m a us → Follows (m >>= (λ x. done (v x))) (v a) us
  follows-last v {us} {a} h = follows-slots (append-nil us) (follows-bind (λ x. done (v x)) h (follows-done (v a)))

pub bind_assoc : {A B C : Type 0} (m : Reader A) (f : A → Reader B) (g : B → Reader C) (b : List ℕ) (k : ℕ)
    → ((m >>= f) >>= g) b k ≡ (m >>= (λ x. f x >>= g)) b k
unfolding ◌>>=◌ Answer.◌>>=◌
bind_assoc {A} {B} {C} m f g b k = go (m b k)
  where
    go : (x : Answer (Read A))
        → Answer.◌>>=◌ (Answer.◌>>=◌ x (λ r. f r.value b r.next)) (λ r. g r.value b r.next)
        ≡ Answer.◌>>=◌ x (λ r. Answer.◌>>=◌ (f r.value b r.next) (λ s. g s.value b s.next))
    go (accepted r) = refl
    go (refused n p) = refl

-- the rest of a reader, after a word w, does what the role says and ends with v
abbrev pub Checks : {A : Type 0} → (ℤ → Reader A) → Role → (ℤ → A) → Type 0
Checks g R v = (w : ℤ) (b : List ℕ) (k : ℕ) → g w b (suc k) ≡ Answer.◌>>◌ (word_check R k w) (accepted (record { value = v w; next = suc k }))

module _ {A : Type 0} (g : ℤ → Reader A) (R : Role) (v : ℤ → A) (same : Checks g R v) where
  reads : (b : List ℕ) (k : ℕ) (w : ℤ) → word_at b k ≡ accepted w → (word >>= g) b k ≡ g w b (suc k)
  unfolding word ◌>>=◌ Answer.◌>>=◌
  reads b k w e =
      ap (λ (x : Answer ℤ). Answer.◌>>=◌ (Answer.◌>>=◌ {B = Read ℤ} x (λ u. accepted (record { value = u; next = suc k })))
      (λ r. g r.value b r.next)) e

  offending : (b : List ℕ) (k n p : ℕ) → 1 ≤ k → Offends b k R n p → (word >>= g) b k ≡ refused n p
  unfolding word ◌>>=◌
  offending b k n p l (truncated e f h) = bind-stop (λ r. g r.value b r.next)
      (bind-stop (λ u. accepted (record { value = u; next = suc k })) (word-short b k l h)) ∙ sym (ap (λ i. refused i p) e ∙ ap (refused 1) f)
  offending b k n p l (bad u e f) = reads b k u e ∙ same u b k ∙ then-stop (accepted (record { value = v u; next = suc k })) f

  pub follows-word : (w : ℤ) → Follows (word >>= g) (v w) (slot R w ∷ [])
  follows-word w = record {
    whole = λ b k s. reads b k w s.0.there ∙ same w b k ∙ then-pass (accepted (record { value = v w; next = suc k })) s.0.passes
        ∙ ap (λ n. accepted (record { value = v w; next = n })) (sym (add-one k));
    stops = λ b k n p l s. ⊎_elim (λ o. offending b k n p l o) (λ t. absurd t.1) s;
  }

pub follows-times : {A : Type 0} {r : Reader A} (f : A → List Slot) (l : List A) → All (λ a. Follows r a (f a)) l
    → Follows (times (length l) r) l (flat_map f l)
unfolding times flat_map
follows-times f [] h = follows-done []
follows-times f (a ∷ l) h = follows-bind _ (h a (Memᴰ.head refl)) (follows-last (a ∷◌) (follows-times f l (λ x m. h x (Memᴰ.tail m))))

pub alone-slots : (l : List ℤ) → flat_map (λ z. slot any_number z ∷ []) l ≡ number_slots l
unfolding flat_map number_slots
alone-slots [] = refl
alone-slots (z ∷ l) = ap (slot any_number z ∷◌) (alone-slots l)

-- ---- bytes walked along slots

-- a value in Q, with its slots
pub record Of {A : Type 0} (Q : A → Type 0) (f : A → List Slot) (a : A) (ss : List Slot) : Type 0 where
  pub holds : Q a
  pub slots : ss ≡ f a

abbrev pub Ends : List ℕ → ℕ → List Slot → Type 0
Ends b k ss = AllTaken b k ss ⊎ ((n : ℕ) × (p : ℕ) × Stops b k ss n p)

pub record Walk {A : Type 0} (P : A → List Slot → Type 0) : Type 0 where
  pub some : (a : A) × (ss : List Slot) × P a ss
  pub from : (b : List ℕ) (k : ℕ) → 1 ≤ k → (a : A) × (ss : List Slot) × P a ss × Ends b k ss

pub walk-done : {A : Type 0} {P : A → List Slot → Type 0} (a : A) → P a [] → Walk P
walk-done a h = record { some = (a, [], h); from = λ b k l. (a, [], h, inl tt) }

module _ {A B : Type 0} {Q : A → Type 0} {f : A → List Slot} {P : B → List Slot → Type 0} where
  pub walk-bind : Walk (Of Q f) → ((a : A) → Q a → Walk (λ c vs. P c (f a ++ vs))) → Walk P
  walk-bind h g = record {
    some = let x = h.some in let y = (g x.0 x.2.holds).some in (y.0, f x.0 ++ y.1, y.2);
    from = λ b k l. let x = h.from b k l in at b k l x.0 x.2.holds (subst (Ends b k) x.2.slots x.3);
  }
    where
      at : (b : List ℕ) (k : ℕ) → 1 ≤ k → (a : A) → Q a → Ends b k (f a) → (c : B) × (ss : List Slot) × P c ss × Ends b k ss
      at b k l a q (inl s) = let y = (g a q).from b (k + length (f a)) (omega arith) in (
        y.0,
        f a ++ y.1,
        y.2,
        ⊎_elim (λ t. inl (sound-append b k (f a) y.1 s t)) (λ t. inr (t.0, t.1, stops-right b t.0 t.1 k (f a) y.1 s t.2)) y.3,
      )
      at b k l a q (inr s) = let y = (g a q).some in (y.0, f a ++ y.1, y.2, inr (s.0, s.1, stops-left b s.0 s.1 k (f a) y.1 s.2))

pub walk-map : {A : Type 0} {P Q : A → List Slot → Type 0} → ((a : A) (ss : List Slot) → P a ss → Q a ss) → Walk P → Walk Q
walk-map f h = record {
  some = let x = h.some in (x.0, x.1, f x.0 x.1 x.2);
  from = λ b k l. let x = h.from b k l in (x.0, x.1, f x.0 x.1 x.2, x.3);
}

-- one word; a word that the role takes is that of some value
pub walk-word : {A : Type 0} (R : Role) (v : A → ℤ) → A → ((k : ℕ) (w : ℤ) → word_check R k w ≡ accepted tt → (a : A) × (w ≡ v a))
    → Walk (Of (λ _. Unit {0}) (λ a. slot R (v a) ∷ []))
walk-word {A} R v a₀ taken = record { some = (a₀, slot R (v a₀) ∷ [], own a₀); from = walked }
  where
    own : (a : A) → Of (λ _. Unit {0}) (λ a. slot R (v a) ∷ []) a (slot R (v a) ∷ [])
    own a = record { holds = tt; slots = refl }

    held : (b : List ℕ) (k : ℕ) (w : ℤ) → word_at b k ≡ accepted w → (x : Answer (Unit {0})) → word_check R k w ≡ x
        → (a : A) × (ss : List Slot) × Of (λ _. Unit {0}) (λ a. slot R (v a) ∷ []) a ss × Ends b k ss
    held b k w e (accepted u) h = let r = taken k w h in
        (r.0, slot R (v r.0) ∷ [], own r.0, inl (record { there = e ∙ ap accepted r.1; passes = ap (word_check R k) (sym r.1) ∙ h }, tt))
    held b k w e (refused n p) h = (a₀, slot R (v a₀) ∷ [], own a₀, inr (n, p, inl (bad w e h)))

    walked : (b : List ℕ) (k : ℕ) → 1 ≤ k → (a : A) × (ss : List Slot) × Of (λ _. Unit {0}) (λ a. slot R (v a) ∷ []) a ss × Ends b k ss
    walked b k l = ⊎_elim (λ r. held b k r.0 r.1 (word_check R k r.0) refl)
        (λ s. (a₀, slot R (v a₀) ∷ [], own a₀, inr (1, k, inl (truncated refl refl s)))) (word-or-short b k l)

-- of length n
pub record OfSize {A : Type 0} (Q : A → Type 0) (n : ℕ) (l : List A) : Type 0 where
  pub size : length l ≡ n
  pub each : All Q l

pub walk-times : {A : Type 0} {Q : A → Type 0} {f : A → List Slot} (n : ℕ) → Walk (Of Q f) → Walk (Of (OfSize Q n) (flat_map f))
unfolding flat_map
walk-times {Q = Q} zero h = walk-done [] (record { holds = record { size = refl; each = all_nil Q }; slots = refl })
walk-times {Q = Q} {f = f} (suc n) h = walk-bind h (λ a q. walk-bind (walk-times n h) (λ l r.
    walk-done (a ∷ l) (record {
      holds = record { size = ap suc r.size; each = all_cons Q q r.each };
      slots = ap (f a ++◌)
          (append-nil (flat_map f l));
    })))
