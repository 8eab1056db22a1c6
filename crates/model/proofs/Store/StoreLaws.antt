-- The store against the plain machine: the words show the values of the elements, an instance on the words is one on the machine under
-- the ticket's own rules, and so is a run. Then stores that show equal values are equal, word for word.
use mathlib.Core.Path.{◌≡◌, refl, sym, ap, ap₂, ◌∙◌, subst}
use mathlib.Core.Logic.{◌⊎◌, inl, inr}
use mathlib.Core.List.Memᴰ
use mathlib.Core.List.{List, [], ◌∷◌, map}
use Prim.Native.Nat.{ℕ, suc, ◌<◌}
use lib.Dec.{T}
use lib.IntN.{ℤ, pos, nat_abs}
use lib.ListN.{length, get_or, set, length-set}
use lib.Seq.{get_or-set_same, get_or-set_other, ext_get_or}
use Rattle.lists.specs.Membership.{All}
use Rattle.lists.proofs.TestLaws.{T-cases}
use Rattle.model.specs.Ticket.{Statement}
use Rattle.model.specs.Grammar.{total}
use Rattle.model.specs.Machine.{Element, same, Instance, State, accesses, body_at, store, store_all, perform, run, exec}
use Rattle.model.specs.Store.{place_of, make, make_whole, store_words, perform_on, own_rules}
use Rattle.model.specs.Promises.{Valid, state_of}
use Rattle.model.proofs.Machine.ElementLaws.{same-decides}
use Rattle.model.proofs.Machine.CommuteLaws.{store_same, store_other}
use Rattle.model.proofs.Store.WholeRuleLaws.{words-alike}
use Rattle.model.proofs.Store.PlaceLaws.{place-below, place-injective, place-onto}

-- the words have a place for every element, and hold its value there
pub record ShowsState (as' : List (List ℕ)) (w : List ℕ) (s : State) : Type 0 where
  pub whole : length w ≡ total as'
  pub shown : (e : Element) → Valid as' e → s e ≡ pos (get_or w (place_of as' e) 0)

-- every element that an instance names is there
pub record InStore (as' : List (List ℕ)) (ss : List Statement) (i : Instance) : Type 0 where
  pub reads : All (Valid as') ((accesses ss).reads i)
  pub writes : All (Valid as') ((accesses ss).writes i)

module _ (as' : List (List ℕ)) where
  -- ---- words as a state

  pub state_of-shown : (w : List ℕ) → length w ≡ total as' → ShowsState as' w (state_of as' w)
  unfolding state_of
  state_of-shown w l = record { whole = l; shown = λ e v. refl }

  pub store_words-length : (v : ℕ) (es : List Element) (w : List ℕ) → length (store_words as' v es w) ≡ length w
  unfolding store_words
  store_words-length v [] w = refl
  store_words-length v (e ∷ es) w = store_words-length v es (set w (place_of as' e) v) ∙ length-set w (place_of as' e) v

  -- ---- one store

  module _ (w : List ℕ) (s : State) (h : ShowsState as' w s) where
    store-shows : (e : Element) → Valid as' e → (v : ℕ) → ShowsState as' (set w (place_of as' e) v) (store e (pos v) s)
    store-shows e u v = record { whole = length-set w (place_of as' e) v ∙ h.whole; shown = λ f a. at f a (T-cases (same f e)) }
      where
        at : (f : Element) → Valid as' f → T (same f e) ⊎ (T (same f e) → ⊥)
            → store e (pos v) s f ≡ pos (get_or (set w (place_of as' e) v) (place_of as' f) 0)
        at f a (inl t) =
            let q : f ≡ e = same-decides.equal f e t in
            let l : place_of as' e < length w = subst (place_of as' e <◌) (sym h.whole) (place-below as' e u) in
            store_same e (pos v) s f q ∙ sym (ap (λ (g : Element). pos (get_or (set w (place_of as' e) v) (place_of as' g) 0)) q
            ∙ ap pos (get_or-set_same w (place_of as' e) v 0 l))
        at f a (inr t) =
            let d : f ≡ e → ⊥ = λ q. t (subst (λ g. T (same f g)) q (same-decides.itself f)) in
            store_other e (pos v) s f d ∙ h.shown f a ∙ ap pos (sym (get_or-set_other w (place_of as' e) (place_of as' f) v 0
            (λ p. d (place-injective as' f e a u p))))

    fetched : (es : List Element) → All (Valid as') es → map s es ≡ map pos (map (λ e. get_or w (place_of as' e) 0) es)
    fetched [] a = refl
    fetched (e ∷ es) a = ap₂ ◌∷◌ (h.shown e (a e (Memᴰ.head refl))) (fetched es (λ f m. a f (Memᴰ.tail m)))

  store_all-shows : (v k : ℕ) (es : List Element) (w : List ℕ) (s : State) → All (Valid as') es → ShowsState as' w s
      → ShowsState as' (store_words as' v es w) (store_all (λ _. pos v) k es s)
  unfolding store_all store_words
  store_all-shows v k [] w s a h = h
  store_all-shows v k (e ∷ es) w s a h = store_all-shows v (suc k) es (set w (place_of as' e) v) (store e (pos v) s) (λ f m. a f (Memᴰ.tail m))
      (store-shows w s h e (a e (Memᴰ.head refl)) v)

  -- ---- an instance, and a run

  module _ (ss : List Statement) where
    pub perform-shows : (i : Instance) (w : List ℕ) (s : State) → InStore as' ss i → ShowsState as' w s
        → ShowsState as' (perform_on as' ss i w) (perform (accesses ss) (own_rules ss) i s)
    unfolding perform_on perform own_rules
    perform-shows i w s b h =
        let rule = (body_at ss i.statement).rule in
        let constant = (body_at ss i.statement).constant in
        let reads = (accesses ss).reads i in
        let writes = (accesses ss).writes i in
        let value = make rule constant (map (λ e. get_or w (place_of as' e) 0) reads) in
        subst (λ (v : ℤ). ShowsState as' (store_words as' value writes w) (store_all (λ _. v) 0 writes s))
        (sym (ap (make_whole rule constant) (fetched w s h reads b.reads) ∙ words-alike rule constant (map (λ e. get_or w (place_of as' e) 0) reads)))
        (store_all-shows value 0 writes w s b.writes h)

    pub run-shows : (xs : List Instance) (w : List ℕ) (s : State) → All (InStore as' ss) xs → ShowsState as' w s
        → ShowsState as' (run (perform_on as' ss) xs w) (exec (accesses ss) (own_rules ss) xs s)
    unfolding run
    run-shows [] w s a h = h
    run-shows (i ∷ xs) w s a h = run-shows xs (perform_on as' ss i w) (perform (accesses ss) (own_rules ss) i s) (λ j m. a j (Memᴰ.tail m))
        (perform-shows i w s (a i (Memᴰ.head refl)) h)

    -- whether or not the elements are there
    pub run_length : (xs : List Instance) (w : List ℕ) → length (run (perform_on as' ss) xs w) ≡ length w
    unfolding run perform_on
    run_length [] w = refl
    run_length (i ∷ xs) w = run_length xs (perform_on as' ss i w) ∙ store_words-length _ ((accesses ss).writes i) w

  -- ---- equal stores

  pub shown-equal : (w w' : List ℕ) (s s' : State) → ShowsState as' w s → ShowsState as' w' s' → ((e : Element) → Valid as' e → s e ≡ s' e) → w ≡ w'
  shown-equal w w' s s' h h' same = ext_get_or 0 w w' (h.whole ∙ sym h'.whole) (λ k l.
      let r = place-onto as' k (subst (k <◌) h.whole l) in
      let q : pos (get_or w (place_of as' r.0) 0) ≡ pos (get_or w' (place_of as' r.0) 0) = sym (h.shown r.0 r.1) ∙ same r.0 r.1
      ∙ h'.shown r.0 r.1 in
      ap (λ p. get_or w p 0) (sym r.2) ∙ ap nat_abs q ∙ ap (λ p. get_or w' p 0) r.2)

  -- programs that end with equal values on the plain machine end with equal words
  pub run-equal : (ss ss' : List Statement) (xs xs' : List Instance) → All (InStore as' ss) xs → All (InStore as' ss') xs'
      → ((s : State) (x : Element) → exec (accesses ss) (own_rules ss) xs s x ≡ exec (accesses ss') (own_rules ss') xs' s x)
      → (w : List ℕ) → length w ≡ total as' → run (perform_on as' ss) xs w ≡ run (perform_on as' ss') xs' w
  run-equal ss ss' xs xs' a a' same w l =
      let h = state_of-shown w l in
      shown-equal _ _ _ _ (run-shows ss xs w (state_of as' w) a h) (run-shows ss' xs' w (state_of as' w) a' h) (λ e _. same (state_of as' w) e)
