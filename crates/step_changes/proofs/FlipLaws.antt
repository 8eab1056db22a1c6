-- Words that trade places, one by one (`Traded`), and the sides of a loop that do.
use mathlib.Core.Path.{◌≡◌, refl, sym, ap, ap₂, ◌∙◌, subst}
use mathlib.Core.List.{List, [], ◌∷◌}
use Prim.Native.Nat.{ℕ, zero, suc, ◌+◌, ◌*◌, ◌≤◌, ◌<◌}
use native.Mathlib.Omega.{arith}
use native.Mathlib.Decide.{dec_lt}
use lib.IntN.{ℤ, pos}
use lib.Signed.{◌<ℤ◌}
use lib.ListN.{length, get_or, take, drop, set, length-set, length-drop}
use lib.Seq.{get_or-set_same, get_or-set_other, get_or-take, get_or-drop, length-take-le, ext_get_or}
use Rattle.integers.specs.Affine.{Within}
use Rattle.integers.specs.Difference.{size}
use Rattle.integers.proofs.AffineLaws.{within-at}
use Rattle.nest_flat.specs.Flat.{limit_at, limits_at, loop_at, Positive}
use Rattle.step_limits.proofs.LimitLaws.{same-limit}
use Rattle.step_changes.specs.Flips.{TradeIn, Traded, FlipIn, flipped, Flipped}
use Rattle.step_changes.proofs.LoopLaws.{same-loop}

-- ---- words

within-set : (n : ℕ) (l : List ℤ) (i : ℕ) (z : ℤ) → size z ≤ n → Within n l → Within n (set l i z)
within-set n [] i z h w = tt
within-set n (x ∷ l) zero z h w = (h, w.1)
within-set n (x ∷ l) (suc i) z h w = (w.0, within-set n l i z h w.1)

module _ (s : List ℤ) (a b many : ℕ) (p : TradeIn s a b many) where
  pub trade-begins : Traded s a b 0 s
  trade-begins = record {
    room = refl;
    small = p.small;
    first = λ i h. absurd (omega arith);
    second = λ i h. absurd (omega arith);
    between = λ q h g. refl;
    kept = record { before = λ q h. refl; after = λ q h. refl };
  }

  module _ (t : List ℤ) (i : ℕ) (u : Traded s a b i t) (more : i < many) where
    near : (q : ℕ) → size (get_or t q (pos 0)) ≤ 32767
    near q = within-at 32767 t u.small q

    here : get_or t (a + i) (pos 0) ≡ get_or s (a + i) (pos 0)
    here = let f = p.apart in u.between (a + i) (omega arith) (omega arith)

    there : get_or t (b + i) (pos 0) ≡ get_or s (b + i) (pos 0)
    there = u.kept.after (b + i) (omega arith)

    module _ (x y : ℤ) (e : x ≡ get_or t (a + i) (pos 0)) (f : y ≡ get_or t (b + i) (pos 0)) where
      abbrev done : List ℤ
      done = set (set t (a + i) y) (b + i) x

      elsewhere : (q : ℕ) → (q ≡ a + i → ⊥) → (q ≡ b + i → ⊥) → get_or done q (pos 0) ≡ get_or t q (pos 0)
      elsewhere q h g = get_or-set_other (set t (a + i) y) (b + i) q x (pos 0) g ∙ get_or-set_other t (a + i) q y (pos 0) h

      at_first : get_or done (a + i) (pos 0) ≡ get_or s (b + i) (pos 0)
      at_first = let g = p.apart in let r = p.room in let n = u.room in
          get_or-set_other (set t (a + i) y) (b + i) (a + i) x (pos 0) (λ e. omega arith) ∙ get_or-set_same t (a + i) y (pos 0) (omega arith) ∙ f ∙ there

      at_second : get_or done (b + i) (pos 0) ≡ get_or s (a + i) (pos 0)
      at_second = let r = p.room in let n = u.room in get_or-set_same (set t (a + i) y) (b + i) x (pos 0) (simp length-set (omega arith)) ∙ e ∙ here

      pub trade-goes-on : Traded s a b (i + 1) done
      trade-goes-on =
          let g = p.apart in
          record {
            room = length-set (set t (a + i) y) (b + i) x ∙ length-set t (a + i) y ∙ u.room;
            small = within-set 32767 (set t (a + i) y) (b + i) x (subst (λ (z : ℤ). size z ≤ 32767) (sym e) (near (a + i)))
                (within-set 32767 t (a + i) y (subst (λ (z : ℤ). size z ≤ 32767) (sym f) (near (b + i))) u.small);
            first = λ j h. elim (dec_lt j i) [
              | yes l ↦ elsewhere (a + j) (λ e. omega arith) (λ e. omega arith) ∙ u.first j l
              | no l ↦ let q : i ≡ j = omega arith in subst (λ (k : ℕ). get_or done (a + k) (pos 0) ≡ get_or s (b + k) (pos 0)) q at_first
            ];
            second = λ j h. elim (dec_lt j i) [
              | yes l ↦ elsewhere (b + j) (λ e. omega arith) (λ e. omega arith) ∙ u.second j l
              | no l ↦ let q : i ≡ j = omega arith in subst (λ (k : ℕ). get_or done (b + k) (pos 0) ≡ get_or s (a + k) (pos 0)) q at_second
            ];
            between = λ q h l. elsewhere q (λ e. omega arith) (λ e. omega arith) ∙ u.between q (omega arith) l;
            kept = record {
              before = λ q h. elsewhere q (λ e. omega arith) (λ e. omega arith) ∙ u.kept.before q h;
              after = λ q h. elsewhere q (λ e. omega arith) (λ e. omega arith) ∙ u.kept.after q (omega arith);
            };
          }

  pub trade-ends : (t : List ℤ) (i : ℕ) → Traded s a b i t → i ≡ many → Traded s a b many t
  trade-ends t i u e = subst (λ (k : ℕ). Traded s a b k t) e u

-- ---- limits that stand elsewhere, word for word

limit-moved : (s t : List ℤ) (k j h : ℕ) → k ≤ 6 → j * 8 + 8 ≤ length t → h * 8 + 8 ≤ length s
    → ((i : ℕ) → i < 8 → get_or t (j * 8 + i) (pos 0) ≡ get_or s (h * 8 + i) (pos 0)) → limit_at t k j ≡ limit_at s k h
unfolding limit_at
limit-moved s t k j h few g r f =
    let n = length-drop (h * 8 + 2) s in
    let m = length-drop (j * 8 + 2) t in
    let a : length (take k (drop (j * 8 + 2) t)) ≡ k = length-take-le k (drop (j * 8 + 2) t) (omega arith) in
    let b : length (take k (drop (h * 8 + 2) s)) ≡ k = length-take-le k (drop (h * 8 + 2) s) (omega arith) in
    let u : j * 8 + 0 ≡ j * 8 = omega arith in
    let v : h * 8 + 0 ≡ h * 8 = omega arith in
    same-limit (ap lib.IntN.nat_abs (ap (λ i. get_or t i (pos 0)) (sym u) ∙ f 0 (omega arith) ∙ ap (λ i. get_or s i (pos 0)) v)) (f 1 (omega arith))
    (ext_get_or (pos 0) (take k (drop (j * 8 + 2) t)) (take k (drop (h * 8 + 2) s)) (a ∙ sym b)
    (λ i q.
    let x : j * 8 + 2 + i ≡ j * 8 + (2 + i) = omega arith in
    let y : h * 8 + (2 + i) ≡ h * 8 + 2 + i = omega arith in
    get_or-take k (drop (j * 8 + 2) t) i (pos 0) (omega arith) ∙ get_or-drop (j * 8 + 2) t i (pos 0)
    ∙ ap (λ i. get_or t i (pos 0)) x ∙ f (2 + i) (omega arith) ∙ ap (λ i. get_or s i (pos 0)) y
    ∙ sym (get_or-drop (h * 8 + 2) s i (pos 0)) ∙ sym (get_or-take k (drop (h * 8 + 2) s) i (pos 0) (omega arith))))

module _ (s t : List ℤ) where
  limits-moved : (k j h n : ℕ) → k ≤ 6 → (j + n) * 8 ≤ length t → (h + n) * 8 ≤ length s
      → ((i : ℕ) → i < n * 8 → get_or t (j * 8 + i) (pos 0) ≡ get_or s (h * 8 + i) (pos 0)) → limits_at t k j n ≡ limits_at s k h n
  unfolding limits_at
  limits-moved k j h zero few g r f = refl
  limits-moved k j h (suc n) few g r f =
      ap₂ ◌∷◌ (limit-moved s t k j h few (omega arith) (omega arith) (λ i l. f i (omega arith)))
      (limits-moved k (suc j) (suc h) n few (omega arith) (omega arith) (λ i l.
      let x : suc j * 8 + i ≡ j * 8 + (8 + i) = omega arith in
      let y : h * 8 + (8 + i) ≡ suc h * 8 + i = omega arith in
      ap (λ i. get_or t i (pos 0)) x ∙ f (8 + i) (omega arith) ∙ ap (λ i. get_or s i (pos 0)) y))

  positive-moved : (j h n : ℕ) → ((i : ℕ) → i < n * 8 → get_or t (j * 8 + i) (pos 0) ≡ get_or s (h * 8 + i) (pos 0)) → Positive s h n → Positive t j n
  positive-moved j h n f p i l =
      let x : (j + i) * 8 ≡ j * 8 + i * 8 = omega arith in
      let y : h * 8 + i * 8 ≡ (h + i) * 8 = omega arith in
      subst (λ (z : ℤ). pos 0 <ℤ z) (sym (ap (λ i. get_or t i (pos 0)) x ∙ f (i * 8) (omega arith) ∙ ap (λ i. get_or s i (pos 0)) y)) (p i l)

-- ---- the sides of a loop

module _ (s : List ℤ) (c : List ℕ) (k most : ℕ) (p : FlipIn s c k) (low : get_or c (k * 2) 0 ≤ most) (up : get_or c (k * 2 + 1) 0 ≤ most)
    (few : most ≤ 16) where
  pub flip-trades : TradeIn s (k * 256) (k * 256 + 128) (most * 8)
  flip-trades = let d = p.deep in let w = p.words in record { apart = omega arith; room = omega arith; small = p.small }

  module _ (t : List ℤ) (u : Traded s (k * 256) (k * 256 + 128) (most * 8) t) where
    abbrev counted : List ℕ
    counted = set (set c (k * 2) (get_or c (k * 2 + 1) 0)) (k * 2 + 1) (get_or c (k * 2) 0)

    counted-low : get_or counted (k * 2) 0 ≡ get_or c (k * 2 + 1) 0
    counted-low = let d = p.deep in let n = p.counts in
        get_or-set_other (set c (k * 2) (get_or c (k * 2 + 1) 0)) (k * 2 + 1) (k * 2) (get_or c (k * 2) 0) 0 (λ e. omega arith)
        ∙ get_or-set_same c (k * 2) (get_or c (k * 2 + 1) 0) 0 (omega arith)

    counted-up : get_or counted (k * 2 + 1) 0 ≡ get_or c (k * 2) 0
    counted-up = let d = p.deep in let n = p.counts in get_or-set_same (set c (k * 2) (get_or c (k * 2 + 1) 0)) (k * 2 + 1) (get_or c (k * 2) 0) 0
        (simp length-set (omega arith))

    counts-beside : (q : ℕ) → (q ≡ k * 2 → ⊥) → (q ≡ k * 2 + 1 → ⊥) → get_or counted q 0 ≡ get_or c q 0
    counts-beside q f g = get_or-set_other (set c (k * 2) (get_or c (k * 2 + 1) 0)) (k * 2 + 1) q (get_or c (k * 2) 0) 0 g
        ∙ get_or-set_other c (k * 2) q (get_or c (k * 2 + 1) 0) 0 f

    upper-below : (i : ℕ) → i < get_or c (k * 2 + 1) 0 * 8 → get_or t (k * 32 * 8 + i) (pos 0) ≡ get_or s ((k * 32 + 16) * 8 + i) (pos 0)
    upper-below i h =
        let x : k * 32 * 8 + i ≡ k * 256 + i = omega arith in
        let y : k * 256 + 128 + i ≡ (k * 32 + 16) * 8 + i = omega arith in
        ap (λ i. get_or t i (pos 0)) x ∙ u.first i (omega arith) ∙ ap (λ i. get_or s i (pos 0)) y

    lower-above : (i : ℕ) → i < get_or c (k * 2) 0 * 8 → get_or t ((k * 32 + 16) * 8 + i) (pos 0) ≡ get_or s (k * 32 * 8 + i) (pos 0)
    lower-above i h =
        let x : (k * 32 + 16) * 8 + i ≡ k * 256 + 128 + i = omega arith in
        let y : k * 256 + i ≡ k * 32 * 8 + i = omega arith in
        ap (λ i. get_or t i (pos 0)) x ∙ u.second i (omega arith) ∙ ap (λ i. get_or s i (pos 0)) y

    flip-made : loop_at t counted k ≡ flipped (loop_at s c k)
    unfolding loop_at flipped
    flip-made =
        let d = p.deep in
        let w = p.words in
        let n = u.room in
        same-loop
        (ap (limits_at t k (k * 32)) counted-low ∙ limits-moved s t k (k * 32) (k * 32 + 16) (get_or c (k * 2 + 1) 0) (omega arith) (omega arith)
        (omega arith) upper-below)
        (ap (limits_at t k (k * 32 + 16)) counted-up ∙ limits-moved s t k (k * 32 + 16) (k * 32) (get_or c (k * 2) 0) (omega arith) (omega arith)
        (omega arith) lower-above)

    pub flip_is : Flipped s c k t counted
    flip_is =
        let x = counted-low in
        let y = counted-up in
        let a = p.there.lower-count in
        let b = p.there.upper-count in
        record {
          words = u.room;
          counts = length-set (set c (k * 2) (get_or c (k * 2 + 1) 0)) (k * 2 + 1) (get_or c (k * 2) 0) ∙ length-set c (k * 2) (get_or c (k * 2 + 1) 0);
          whole = record {
            made = flip-made;
            ok = record {
              lower-count = (omega arith, omega arith);
              upper-count = (omega arith, omega arith);
              lower-positive = subst (Positive t (k * 32)) (sym x) (positive-moved s t (k * 32) (k * 32 + 16) (get_or c (k * 2 + 1) 0) upper-below
                  p.there.upper-positive);
              upper-positive = subst (Positive t (k * 32 + 16)) (sym y) (positive-moved s t (k * 32 + 16) (k * 32) (get_or c (k * 2) 0) lower-above
                  p.there.lower-positive);
            };
            small = u.small;
            words-kept = record { before = λ q h. u.kept.before q h; after = λ q h. u.kept.after q (omega arith) };
            counts-kept = record {
              before = λ q h. counts-beside q (λ e. omega arith) (λ e. omega arith);
              after = λ q h. counts-beside q
                  (λ e. omega arith) (λ e. omega arith);
            };
          };
        }
