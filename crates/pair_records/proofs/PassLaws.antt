-- Laws of records that come by a window: none, those of two lists, one, those that pass a test.
use mathlib.Core.Path.{◌≡◌, refl, sym, ap, ap₂, ◌∙◌, subst}
use mathlib.Core.Bool.{Bool, true, false, cond}
use mathlib.Core.List.{List, [], ◌∷◌, ◌++◌, map, flat_map, map-append, append_assoc, append-nil}
use Prim.Native.Nat.{ℕ, ◌+◌, ◌*◌, ◌-◌, ◌≤◌, ◌<◌}
use native.Mathlib.Nat.{zero-add}
use native.Mathlib.Numerals.{add-one}
use lib.IntN.{ℤ}
use lib.ListN.{length, get_or, take}
use lib.Seq.{take-suc, take_all}
use Rattle.lists.specs.Tests.{select}
use Rattle.lists.specs.Parts.{put}
use Rattle.lists.proofs.TestLaws.{select-append}
use Rattle.lists.proofs.FlatMapLaws.{flat_map-snoc}
use Rattle.model.specs.Directions.{up_from}
use Rattle.model.proofs.Steps.ChainLaws.{up-parts}
use Rattle.pair_records.specs.Conflicts.{record_room}
use Rattle.pair_records.specs.Windows.{batch, Windowed, Passes}
use Rattle.pair_records.specs.declared.Window.{Window}
use Rattle.pair_records.proofs.WindowLaws.{window_of, passed_over, kept_more, full-stays}

module _ (w : Window) (found : List ℤ) where
  pub pass-none : Passes w found w found []
  pass-none skip rs h = subst (λ l. Windowed skip l w found) (sym (append-nil rs)) h

  pub pass_same : {w' : Window} {found' : List ℤ} {rs ss : List (List ℤ)} → rs ≡ ss → Passes w found w' found' rs → Passes w found w' found' ss
  pass_same {w'} {found'} e p = subst (Passes w found w' found') e p

  pub pass-then : (w' w'' : Window) (found' found'' : List ℤ) (rs ss : List (List ℤ)) → Passes w found w' found' rs → Passes w' found' w'' found'' ss
      → Passes w found w'' found'' (rs ++ ss)
  pass-then w' w'' found' found'' rs ss p q skip before h =
      subst (λ l. Windowed skip l w'' found'') (append_assoc before rs ss) (q skip (before ++ rs) (p skip before h))

  -- one record
  module _ (r : List ℤ) where
    pub pass-over : 0 < w.skip → Passes w found (window_of (w.skip - 1) w.got) found (r ∷ [])
    pass-over p skip rs h = passed_over skip rs w found h r p

    pub pass-full : batch ≤ w.got → Passes w found w found (r ∷ [])
    pass-full p skip rs h = full-stays skip rs w found h (r ∷ []) p

    pub pass_kept : w.skip ≡ 0 → w.got < batch → length r ≡ record_room
        → Passes w found (window_of 0 (w.got + 1)) (put found (w.got * record_room) r) (r ∷ [])
    pass_kept z p l skip rs h = kept_more skip rs w found h r z p l

-- ---- those of the numbers below n that pass a test

module _ (f : ℕ → List ℤ) (t : ℕ → Bool) where
  select-last : (n : ℕ) → select t (up_from 0 (n + 1)) ≡ select t (up_from 0 n) ++ cond (t n) (n ∷ []) []
  unfolding select up_from
  select-last n = ap (select t) (up-parts 0 n 1) ∙ select-append t (up_from 0 n) (up_from (0 + n) 1)
      ∙ ap (λ i. select t (up_from 0 n) ++ cond (t i) (i ∷ []) []) (zero-add n)

  map-one : (b : Bool) (n : ℕ) → map f (cond b (n ∷ []) []) ≡ cond b (f n ∷ []) []
  map-one true n = refl
  map-one false n = refl

  picked_last : (n : ℕ) → map f (select t (up_from 0 n)) ++ cond (t n) (f n ∷ []) [] ≡ map f (select t (up_from 0 (n + 1)))
  picked_last n = sym (ap (map f) (select-last n) ∙ map-append f (select t (up_from 0 n)) (cond (t n) (n ∷ []) [])
      ∙ ap (map f (select t (up_from 0 n)) ++◌) (map-one (t n) n))

  module _ (w₀ : Window) (found₀ : List ℤ) where
    pub pass-no-kind : Passes w₀ found₀ w₀ found₀ (map f (select t (up_from 0 0)))
    unfolding select up_from
    pass-no-kind = pass-none w₀ found₀

    pub pass-kind : (n : ℕ) (w w' : Window) (found found' : List ℤ) (b : Bool) (r : List ℤ) → b ≡ t n → r ≡ f n
        → Passes w₀ found₀ w found (map f (select t (up_from 0 n))) → Passes w found w' found' (cond b (r ∷ []) [])
        → Passes w₀ found₀ w' found' (map f (select t (up_from 0 (n + 1))))
    pass-kind n w w' found found' b r e g p q = pass_same w₀ found₀ (picked_last n)
        (pass-then w₀ found₀ w w' found found' (map f (select t (up_from 0 n))) (cond (t n) (f n ∷ []) []) p
        (pass_same w found (ap₂ (λ c s. cond c (s ∷ []) []) e g) q))

-- ---- the records of the first i of a list

module _ (g : ℕ → List (List ℤ)) (l : List ℕ) (w₀ : Window) (found₀ : List ℤ) where
  pub pass-first : Passes w₀ found₀ w₀ found₀ (flat_map g (take 0 l))
  unfolding flat_map
  pass-first = pass-none w₀ found₀

  pub pass-next : (i : ℕ) (w w' : Window) (found found' : List ℤ) → i < length l → Passes w₀ found₀ w found (flat_map g (take i l))
      → Passes w found w' found' (g (get_or l i 0)) → Passes w₀ found₀ w' found' (flat_map g (take (i + 1) l))
  pass-next i w w' found found' h p q = pass_same w₀ found₀
      (sym (ap (λ k. flat_map g (take k l)) (add-one i) ∙ ap (flat_map g) (take-suc l i 0 h) ∙ flat_map-snoc g (take i l) (get_or l i 0)))
      (pass-then w₀ found₀ w w' found found' (flat_map g (take i l)) (g (get_or l i 0)) p q)

  pub pass_all : (i : ℕ) (w : Window) (found : List ℤ) → length l ≤ i → Passes w₀ found₀ w found (flat_map g (take i l))
      → Passes w₀ found₀ w found (flat_map g l)
  pass_all i w found h p = pass_same w₀ found₀ (ap (flat_map g) (take_all i l h)) p
