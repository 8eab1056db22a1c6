-- Two runs of one machine over the same items agree if items that change places commute. The machine is any: what commutes on the
-- plain machine is in `CommuteLaws`.
use mathlib.Core.Path.{◌≡◌, refl, sym, ap, ◌∙◌, subst}
use mathlib.Core.Logic.{⊎_elim}
use mathlib.Core.List.Memᴰ
use mathlib.Core.List.{List, [], ◌∷◌, ◌++◌}
use Rattle.lists.specs.Membership.{Mem, SameMembers}
use Rattle.lists.specs.Order.{Ordered}
use Rattle.lists.proofs.MembershipLaws.{cut, mem-skip, mem-drop}
use Rattle.lists.proofs.OrderLaws.{ordered-front, ordered-back, ordered-drop}
use Rattle.model.specs.Machine.{run}

pub run-append : {I S : Type 0} (step : I → S → S) (xs ys : List I) (s : S) → run step (xs ++ ys) s ≡ run step ys (run step xs s)
unfolding run
run-append step [] ys s = refl
run-append step (x ∷ xs) ys s = run-append step xs ys (step x s)

-- no conflicting items of the list stand one way by R and the other way by R'
abbrev pub Kept : {I : Type 0} → (I → I → Type 0) → (I → I → Type 0) → (I → I → Type 0) → List I → Type 0
Kept {I} Conflict R R' xs = (x y : I) → Mem x xs → Mem y xs → R x y → R' y x → Conflict x y → ⊥

module _ {I S : Type 0} (step : I → S → S) (Conflict : I → I → Type 0)
    (commute : (a b : I) → (Conflict a b → ⊥) → (s : S) → step a (step b s) ≡ step b (step a s)) where
  -- an item goes to the front past those that it does not conflict with
  pub run-front : (x : I) (p q : List I) → ((y : I) → Mem y p → Conflict x y → ⊥) → (s : S) → run step (p ++ x ∷ q) s ≡ run step (p ++ q) (step x s)
  unfolding run
  run-front x [] q free s = refl
  run-front x (y ∷ p) q free s =
      run-front x p q (λ z m. free z (Memᴰ.tail m)) (step y s) ∙ ap (run step (p ++ q)) (commute x y (free y (Memᴰ.head refl)) s)

  -- R and R' are the two orders
  module _ (R R' : I → I → Type 0) (irreflexive : (x : I) → R x x → ⊥) (irreflexive' : (x : I) → R' x x → ⊥) where
    -- the first item x of the one order is taken out of the other, where it stands after p
    module _ (x : I) (xs p q : List I) (o : Ordered R (x ∷ xs)) (o' : Ordered R' (p ++ x ∷ q)) (e : SameMembers (x ∷ xs) (p ++ x ∷ q)) where
      free : Kept Conflict R R' (x ∷ xs) → (y : I) → Mem y p → Conflict x y → ⊥
      free kept y m k =
          let before : R' y x = ordered-front R' p x q o' y m in
          ⊎_elim (λ eq. irreflexive' x (subst (λ z. R' z x) eq before)) (λ n. kept x y (Memᴰ.head refl) (Memᴰ.tail n) (o.0 y n) before k)
          (Memᴰ.cases_cons (e.from y (Memᴰ.append_left (x ∷ q) m)))

      absent : (y : I) → y ≡ x → Mem y (p ++ q) → ⊥
      absent y eq m = ⊎_elim (λ n. irreflexive' x (subst (λ z. R' z x) eq (ordered-front R' p x q o' y n)))
          (λ n. irreflexive' x (subst (R' x) eq (ordered-back R' p x q o' y n)))
          (Memᴰ.append_cases p m)

      rest-same : SameMembers xs (p ++ q)
      rest-same = record {
        into = λ y m. ⊎_elim (λ eq. absurd (irreflexive x (subst (R x) eq (o.0 y m)))) (λ n. n) (mem-drop x p q (e.into y (Memᴰ.tail m)));
        from = λ y m. ⊎_elim (λ eq. absurd (absent y eq m)) (λ n. n) (Memᴰ.cases_cons (e.from y (mem-skip x p q m)));
      }

    pub run-reordered : (xs ys : List I) → Ordered R xs → Ordered R' ys → SameMembers xs ys → Kept Conflict R R' xs → (s : S)
        → run step xs s ≡ run step ys s
    unfolding run
    run-reordered [] [] o o' e kept s = refl
    run-reordered [] (y ∷ ys) o o' e kept s = absurd (Memᴰ.not-nil (e.from y (Memᴰ.head refl)))
    run-reordered (x ∷ xs) ys o o' e kept s =
        let c = cut (e.into x (Memᴰ.head refl)) in
        let p = c.front in
        let q = c.back in
        let o'' : Ordered R' (p ++ x ∷ q) = subst (Ordered R') c.eq o' in
        let e' : SameMembers (x ∷ xs) (p ++ x ∷ q) = subst (SameMembers (x ∷ xs)) c.eq e in
        run-reordered xs (p ++ q) o.1 (ordered-drop R' p x q o'') (rest-same x xs p q o o'' e')
        (λ a b m n. kept a b (Memᴰ.tail m) (Memᴰ.tail n)) (step x s)
        ∙ sym (ap (λ l. run step l s) c.eq ∙ run-front x p q (free x xs p q o o'' e' kept) s)
