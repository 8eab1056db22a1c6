-- What a rule makes of words is a word, so a run leaves a store of words.
use mathlib.Core.Path.{refl, subst}
use mathlib.Core.Bool.{cond}
use mathlib.Core.List.Memᴰ
use mathlib.Core.List.{List, [], ◌∷◌, map}
use Prim.Native.Nat.{ℕ, ◌+◌, ◌%◌, ◌^◌, ◌<◌}
use native.Mathlib.Omega.{arith}
use native.Mathlib.Nat.{mod-lt}
use lib.Dec.{eqb, ltb}
use lib.ListN.{get_or, set}
use Rattle.lists.specs.Membership.{All}
use Rattle.lists.proofs.MembershipLaws.{all_set, all-get_d-default}
use Rattle.lists.proofs.TestLaws.{cond_cases}
use Rattle.model.specs.Ticket.{Statement}
use Rattle.model.specs.Machine.{Element, Instance, accesses, body_at, run}
use Rattle.model.specs.Store.{place_of, sum, most, first_of, make, store_words, perform_on}

-- ---- rules

abbrev pub Word : ℕ → Type 0
Word v = v < 2 ^ 32

most-word : (m : ℕ) (vs : List ℕ) → Word m → All Word vs → Word (most m vs)
unfolding most
most-word m [] h k = h
most-word m (v ∷ vs) h k = most-word (cond (ltb m v) v m) vs (cond_cases Word (ltb m v) v m (λ _. k v (Memᴰ.head refl)) (λ _. h))
    (λ x n. k x (Memᴰ.tail n))

first_of-word : (vs : List ℕ) → All Word vs → Word (first_of vs)
unfolding first_of
first_of-word [] k = omega arith
first_of-word (v ∷ vs) k = k v (Memᴰ.head refl)

pub make-word : (r c : ℕ) (vs : List ℕ) → Word c → All Word vs → Word (make r c vs)
unfolding make
make-word r c vs h k = cond_cases Word (eqb r 1) ((c + sum vs) % 2 ^ 32) _ (λ _. mod-lt (c + sum vs) (omega arith))
    (λ _. cond_cases Word (eqb r 2) (most c vs) _ (λ _. most-word c vs h k)
    (λ _. cond_cases Word (eqb r 3) (first_of vs) 0 (λ _. first_of-word vs k) (λ _. omega arith)))

-- ---- runs

module _ (as' : List (List ℕ)) where
  store_words-word : (v : ℕ) (es : List Element) (w : List ℕ) → Word v → All Word w → All Word (store_words as' v es w)
  unfolding store_words
  store_words-word v [] w h k = k
  store_words-word v (e ∷ es) w h k = store_words-word v es (set w (place_of as' e) v) h (all_set Word w (place_of as' e) v h k)

  module _ (ss : List Statement) (small : (j : ℕ) → Word (body_at ss j).constant) where
    pub perform-word : (i : Instance) (w : List ℕ) → All Word w → All Word (perform_on as' ss i w)
    unfolding perform_on
    perform-word i w k =
        let at : Element → ℕ = λ e. get_or w (place_of as' e) 0 in
        store_words-word _ ((accesses ss).writes i) w
        (make-word (body_at ss i.statement).rule (body_at ss i.statement).constant (map at ((accesses ss).reads i)) (small i.statement)
        (λ v m. let r = Memᴰ.of_map at ((accesses ss).reads i) m in subst Word r.2
        (all-get_d-default Word w (place_of as' r.0) 0 (omega arith) k)))
        k

    pub run-word : (xs : List Instance) (w : List ℕ) → All Word w → All Word (run (perform_on as' ss) xs w)
    unfolding run
    run-word [] w k = k
    run-word (i ∷ xs) w k = run-word xs (perform_on as' ss i w) (perform-word i w k)
