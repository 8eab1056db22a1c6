-- Laws of readers. `Meets r P`: wherever r stands, it is refused, or accepts with P of the value and of the words read. Closed under `◌>>=◌`, so that
-- each reader of the grammar is read through once, for its values and its words alike. What it refuses is in `WrongLaws`.
-- In order: the notion; `done` and `◌>>=◌`; tests; single words; lists.
use mathlib.Core.Path.{◌≡◌, refl, sym, ap, ap₂, subst}
use mathlib.Core.Bool.{Bool}
use mathlib.Core.List.{List, [], ◌∷◌, ◌++◌, flat_map, append-nil}
use Prim.Native.Nat.{ℕ, zero, suc, ◌+◌, ◌-◌}
use native.Mathlib.Omega.{arith}
use lib.Dec.{T, leb→le}
use lib.IntN.{ℤ, pos, negsuc, nat_abs}
use lib.Signed.{le_z}
use lib.ListN.{length, length-append}
use Rattle.lists.specs.Membership.{All}
use Rattle.lists.proofs.MembershipLaws.{all_nil, all_cons}
use Rattle.lists.proofs.TestLaws.{and_both, true-T, cond_cases}
use Rattle.model.specs.Answer as Answer
use Rattle.model.specs.Answer.{Answer, accepted, refused, require}
use Rattle.model.specs.Words.{word_at}
use Rattle.model.specs.Grammar.{Read, Reader, ◌>>=◌, ◌>>◌, done, word, must, must_at, between, count, within, natural, number, times}
use Rattle.model.specs.Encode.{counted}
use Rattle.model.specs.Ranges.{InRange, Small}
use Rattle.model.proofs.Answers.AnswerLaws.{Leads, leads-map, leads-bind}
use Rattle.model.proofs.Grammar.WordLaws.{Reaches, spells-append, spells-reach, Spells}

-- ---- the notion

-- what was read from word k on
pub record Met {A : Type 0} (P : A → List ℤ → Type 0) (b : List ℕ) (k : ℕ) (r : Read A) : Type 0 where
  pub words : List ℤ
  pub spelled : Spells b k words
  pub next : r.next ≡ k + length words
  pub holds : P r.value words

-- of a refusal nothing is said
abbrev pub Unsaid : ℕ → ℕ → Type 0
Unsaid n p = Unit {0}

pub record MeetsAt {A : Type 0} (b : List ℕ) (k : ℕ) (r : Reader A) (P : A → List ℤ → Type 0) : Type 0 where
  pub leads : Leads (Met P b k) Unsaid (r b k)

pub record Meets {A : Type 0} (r : Reader A) (P : A → List ℤ → Type 0) : Type 0 where
  pub from : (b : List ℕ) (k : ℕ) → Reaches b k → MeetsAt b k r P

-- the value is in Q, and f gives its words
pub record As {A : Type 0} (Q : A → Type 0) (f : A → List ℤ) (a : A) (ws : List ℤ) : Type 0 where
  pub holds : Q a
  pub words : ws ≡ f a

-- ---- readers joined

module _ {A : Type 0} {P : A → List ℤ → Type 0} where
  pub done_at : {b : List ℕ} {k : ℕ} (a : A) → P a [] → MeetsAt b k (done a) P
  unfolding done
  done_at a h = record { leads = record { words = []; spelled = tt; next = omega arith; holds = h } }

  pub done-meets : (a : A) → P a [] → Meets (done a) P
  done-meets a h = record { from = λ b k r. done_at a h }

module _ {A B : Type 0} {P : A → List ℤ → Type 0} {Q : B → List ℤ → Type 0} where
  -- the rest knows the first value and its words
  pub bind-with : {b : List ℕ} {k : ℕ} {m : Reader A} {g : A → Reader B}
      → MeetsAt b k m P → ((a : A) (ws : List ℤ) → P a ws → Spells b k ws → MeetsAt b (k + length ws) (g a) (λ c vs. Q c (ws ++ vs)))
      → MeetsAt b k (m >>= g) Q
  unfolding ◌>>=◌
  bind-with {b} {k} {m} {g} h rest = record {
    leads = leads-bind (Met P b k) Unsaid (Met Q b k) (m b k) (λ r. g r.value b r.next) h.leads (λ r e t.
        let us = t.words in
        leads-map (Met (λ c vs. Q c (us ++ vs)) b (k + length us)) Unsaid (g r.value b r.next) (joined us t.spelled)
        (subst (λ j. Leads (Met (λ c vs. Q c (us ++ vs)) b (k + length us)) Unsaid (g r.value b j)) (sym t.next)
        (rest r.value us t.holds t.spelled).leads));
  }
    where
      joined : (us : List ℤ) → Spells b k us → (r : Read B) → Met (λ c vs. Q c (us ++ vs)) b (k + length us) r → Met Q b k r
      joined us s r u = record {
        words = us ++ u.words;
        spelled = spells-append b k us u.words s u.spelled;
        next = let n = u.next in let l = length-append us u.words in omega arith;
        holds = u.holds;
      }

module _ {A B : Type 0} {P : A → Type 0} {f : A → List ℤ} {Q : B → List ℤ → Type 0} where
  -- where f gives the words
  pub bind-at : {b : List ℕ} {k : ℕ} {m : Reader A} {g : A → Reader B}
      → MeetsAt b k m (As P f) → ((a : A) → P a → Spells b k (f a) → MeetsAt b (k + length (f a)) (g a) (λ c vs. Q c (f a ++ vs)))
      → MeetsAt b k (m >>= g) Q
  bind-at {b} {k} {m} {g} h rest = bind-with h (λ a ws t s.
      subst (λ us. MeetsAt b (k + length us) (g a) (λ c vs. Q c (us ++ vs))) (sym t.words) (rest a t.holds (subst (Spells b k) t.words s)))

  pub bind : {m : Reader A} {g : A → Reader B} → Meets m (As P f) → ((a : A) → P a → Meets (g a) (λ c vs. Q c (f a ++ vs))) → Meets (m >>= g) Q
  bind h rest = record { from = λ b k r. bind-at (h.from b k r) (λ a t s. (rest a t).from b (k + length (f a)) (spells-reach b k (f a) r s)) }

module _ {A : Type 0} {r : Reader A} {P Q : A → List ℤ → Type 0} where
  pub meets-at-map : {b : List ℕ} {k : ℕ} → ((a : A) (ws : List ℤ) → P a ws → Q a ws) → MeetsAt b k r P → MeetsAt b k r Q
  meets-at-map {b} {k} f h = record {
    leads = leads-map (Met P b k) Unsaid (r b k)
        (λ x u. record { words = u.words; spelled = u.spelled; next = u.next; holds = f x.value u.words u.holds }) h.leads;
  }

  pub meets-map : ((a : A) (ws : List ℤ) → P a ws → Q a ws) → Meets r P → Meets r Q
  meets-map f h = record { from = λ b k t. meets-at-map f (h.from b k t) }

-- ---- tests

module _ {A : Type 0} {b : List ℕ} {k : ℕ} (t : Bool) (n : ℕ) {r : Reader A} {P : A → List ℤ → Type 0} where
  pub must_at-at : (p : ℕ) → (T t → MeetsAt b k r P) → MeetsAt b k (must_at t n p >> r) P
  unfolding must_at require ◌>>◌ ◌>>=◌ Answer.◌>>=◌
  must_at-at p passes = record {
    leads =
        cond_cases (λ (x : Answer (Unit {0})). Leads (Met P b k) Unsaid
        (Answer.◌>>=◌ (Answer.◌>>=◌ {B = Read (Unit {0})} x (λ u. accepted (record { value = u; next = k }))) (λ s. r b s.next)))
        t (accepted tt) (refused n p) (λ e. (passes (true-T t e)).leads) (λ e. tt);
  }

  pub must-at : (T t → MeetsAt b k r P) → MeetsAt b k (must t n >> r) P
  unfolding must must_at ◌>>◌ ◌>>=◌
  must-at passes = record { leads = (must_at-at (k - 1) passes).leads }

-- ---- single words

-- a word by itself
abbrev pub alone : ℤ → List ℤ
alone w = w ∷ []

abbrev pub one : ℕ → List ℤ
one n = pos n ∷ []

pub word-meets : Meets word (As (λ _. Unit {0}) alone)
unfolding word
word-meets = record {
  from = λ b k r. record {
    leads =
        leads-bind (λ _. Unit {0}) Unsaid (Met (As (λ _. Unit {0}) alone) b k) (word_at b k) (λ w. accepted (record { value = w; next = suc k }))
        (either (word_at b k)) (λ w e h. record {
          words = w ∷ [];
          spelled = (e, tt);
          next = omega arith;
          holds = record
              { holds = tt; words = refl };
        });
  };
}
  where
    either : (x : Answer ℤ) → Leads (λ _. Unit {0}) Unsaid x
    either (accepted w) = tt
    either (refused n p) = tt

-- a word that must pass a test, and a value made of it
pub checked-meets : {A : Type 0} (t : ℤ → Bool) (n : ℕ) (v : ℤ → A) (P : A → List ℤ → Type 0)
    → ((w : ℤ) → T (t w) → P (v w) (w ∷ []))
    → Meets (word >>= (λ w. must (t w) n >> done (v w))) P
checked-meets t n v P passes = record {
  from = λ b k r. bind-at (word-meets.from b k r) (λ w _ s.
      must-at (t w) n (λ h. done_at (v w) (passes w h)));
}

-- ---- counts and numbers

pub between-natural : (lo hi : ℕ) (w : ℤ) → T (between (pos lo) (pos hi) w) → InRange lo hi (nat_abs w) × (w ≡ pos (nat_abs w))
unfolding between
between-natural lo hi (pos n) h = let r = and_both (le_z (pos lo) (pos n)) (le_z (pos n) (pos hi)) h in
    (record { low = leb→le lo n r.0; high = leb→le n hi r.1 }, refl)
between-natural lo hi (negsuc n) h = absurd h

pub between-small : (w : ℤ) → T (between (negsuc 32766) (pos 32767) w) → Small w
unfolding between
between-small (pos n) h = let r = and_both (le_z (negsuc 32766) (pos n)) (le_z (pos n) (pos 32767)) h in leb→le n 32767 r.1
between-small (negsuc n) h = let r = and_both (le_z (negsuc 32766) (negsuc n)) (le_z (negsuc n) (pos 32767)) h in let g = leb→le n 32766 r.0 in
    omega arith

pub count_meets : (lo hi : ℕ) → Meets (count lo hi) (As (InRange lo hi) one)
unfolding count
count_meets lo hi = checked-meets (between (pos lo) (pos hi)) 3 nat_abs (As (InRange lo hi) one)
    (λ w h. let r = between-natural lo hi w h in record { holds = r.0; words = ap alone r.1 })

pub within-meets : (lo hi : ℤ) → Meets (within lo hi) (As (λ w. T (between lo hi w)) alone)
unfolding within
within-meets lo hi = checked-meets (between lo hi) 4 (λ w. w) (As (λ w. T (between lo hi w)) alone)
    (λ w h. record { holds = h; words = refl })

pub natural-meets : (lo hi : ℕ) → Meets (natural lo hi) (As (InRange lo hi) one)
unfolding natural
natural-meets lo hi = bind (within-meets (pos lo) (pos hi)) (λ w h. let r = between-natural lo hi w h in
    done-meets (nat_abs w) (record { holds = r.0; words = ap alone r.1 }))

pub number-meets : Meets number (As Small alone)
unfolding number
number-meets = meets-map (λ w ws h. record { holds = between-small w h.holds; words = h.words }) (within-meets _ _)

-- ---- lists

-- of length n
pub record Long {A : Type 0} (n : ℕ) (Q : List A → Type 0) (l : List A) : Type 0 where
  pub number : length l ≡ n
  pub holds : Q l

-- of a length in a range
pub record Few {A : Type 0} (lo hi : ℕ) (Q : List A → Type 0) (l : List A) : Type 0 where
  pub few : InRange lo hi (length l)
  pub holds : Q l

pub times-meets : {A : Type 0} {r : Reader A} {Q : A → Type 0} {f : A → List ℤ} (n : ℕ) → Meets r (As Q f)
    → Meets (times n r) (As (Long n (All Q)) (flat_map f))
unfolding times flat_map
times-meets {Q = Q} zero h = done-meets [] (record { holds = record { number = refl; holds = all_nil Q }; words = refl })
times-meets {Q = Q} {f = f} (suc n) h = bind h (λ a q. bind (times-meets n h) (λ l e.
    done-meets (a ∷ l) (record {
      holds = record { number = ap suc e.number; holds = all_cons Q q e.holds };
      words = ap (f a ++◌)
          (append-nil (flat_map f l));
    })))

-- after its count
pub counted-from : {A : Type 0} {Q : List A → Type 0} (f : A → List ℤ) {lo hi n : ℕ} → InRange lo hi n → (l : List A) (ws : List ℤ)
    → As (Long n Q) (flat_map f) l ws → As (Few lo hi Q) (counted f) l (pos n ∷ ws)
unfolding counted
counted-from f {lo} {hi} r l ws h = record {
  holds = record { few = subst (InRange lo hi) (sym h.holds.number) r; holds = h.holds.holds };
  words = ap₂ (λ i vs. pos i ∷ vs) (sym h.holds.number) h.words;
}

pub counted-meets : {A : Type 0} {g : ℕ → Reader (List A)} {Q : List A → Type 0} (f : A → List ℤ) (lo hi : ℕ)
    → ((n : ℕ) → InRange lo hi n → Meets (g n) (As (Long n Q) (flat_map f))) → Meets (count lo hi >>= g) (As (Few lo hi Q) (counted f))
counted-meets f lo hi h = bind (count_meets lo hi) (λ n r. meets-map (counted-from f r) (h n r))
