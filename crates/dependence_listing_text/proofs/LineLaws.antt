-- The bytes of line i from the numbers that the code finds; then the lines before i, and their text.
use mathlib.Core.Path.{◌≡◌, refl, sym, ap, ◌∙◌}
use mathlib.Core.Bool.{Bool, true, false, cond}
use mathlib.Core.Logic.{◌⊎◌, inl, inr}
use mathlib.Core.List.{List, [], ◌∷◌, ◌++◌, append-nil, flat_map}
use Prim.Native.Nat.{ℕ, zero, suc, ◌+◌, ◌*◌, ◌-◌, ◌/◌, ◌%◌, ◌≤◌, ◌<◌}
use native.Mathlib.Nat.{add-mul, one-mul, zero-mul, mul-le-mul_right, add-zero}
use native.Mathlib.Numerals.{add-one}
use native.Mathlib.Omega.{arith}
use lib.ListN.{length, get_or, take, set, length-append}
use lib.Seq.{take-suc, take_all}
use Rattle.lists.specs.Parts.{put}
use Rattle.lists.specs.Tests.{select}
use Rattle.lists.proofs.FlatMapLaws.{flat_map-snoc, length-flat_map-even}
use Rattle.lists.proofs.MembershipLaws.{take-mem}
use Rattle.lists.proofs.PartLaws.{put-nil, length-put, put-put}
use Rattle.lists.proofs.TestLaws.{select-mem}
use Rattle.model.specs.Directions.{flow, kinds, Line, all_lines, kind_count}
use Rattle.model.specs.Listing.{letter, line_text}
use Rattle.model.proofs.Listing.LineOrderLaws.{all_lines-mem}
use Rattle.model.specs.Grammar.{most_statements}
use Rattle.dependence_vectors.specs.Candidates.{stride, middle}
use Rattle.dependence_listing_text.specs.Text.{marked, shown, line_count, line_at}
use Rattle.dependence_listing_text.proofs.IndexLaws.{At, lines-length}
use Rattle.dependence_listing_text.proofs.TextLaws.{line-array, line-length}

-- ---- the bytes of line i

pub line-written : (n d i b v a x y p q r s t u : ℕ) → n ≤ most_statements → d ≤ 6 → At n d i → b ≡ i / stride d
    → v ≡ i % stride d * stride (6 - d) + middle (6 - d)
    → a ≡ letter (get_or kinds (b % kind_count) flow) → x ≡ 49 + b / kind_count / n → y ≡ 49 + b / kind_count % n
    → p ≡ 60 + v / 243 → q ≡ 60 + v / 81 % 3 → r ≡ 60 + v / 27 % 3 → s ≡ 60 + v / 9 % 3 → t ≡ 60 + v / 3 % 3 → u ≡ 60 + v % 3
    → (length (set (a ∷ 32 ∷ x ∷ 32 ∷ y ∷ 32 ∷ p ∷ q ∷ r ∷ s ∷ t ∷ u ∷ 10 ∷ []) (6 + d) 10) ≡ 13)
    × (take (d + 7) (set (a ∷ 32 ∷ x ∷ 32 ∷ y ∷ 32 ∷ p ∷ q ∷ r ∷ s ∷ t ∷ u ∷ 10 ∷ []) (6 + d) 10) ≡ line_text (line_at n d i))
line-written n d i b v a x y p q r s t u hn hd at eb ev ea ex ey e₁ e₂ e₃ e₄ e₅ e₆ =
    let k : (line_at n d i).kind ≡ get_or kinds (b % kind_count) flow
    = ap (λ l. l.kind) at.line ∙ ap (λ z. get_or kinds (z % kind_count) flow) (sym eb) in
    let f : (line_at n d i).source ≡ b / kind_count / n = ap (λ l. l.source) at.line ∙ ap (λ z. z / kind_count / n) (sym eb) in
    let g : (line_at n d i).sink ≡ b / kind_count % n = ap (λ l. l.sink) at.line ∙ ap (λ z. z / kind_count % n) (sym eb) in
    let hf : b / kind_count / n < n = rw eb at.source in let hg : b / kind_count % n < n = rw eb at.sink in
    line-array (line_at n d i) d a x y v p q r s t u e₁ e₂ e₃ e₄ e₅ e₆ hd at.wide (ev ∙ sym at.numbered) (omega arith) (omega arith)
    (ea ∙ ap letter (sym k)) (omega arith) (omega arith)

-- ---- the lines before i that are marked

module _ (m : List Bool) (n d : ℕ) where
  pub before : ℕ → List Line
  before i = select (marked m n) (take i (all_lines n d))

  select-join : (t : Line → Bool) (l k : List Line) → select t (l ++ k) ≡ select t l ++ select t k
  unfolding select
  select-join t [] k = refl
  select-join t (x ∷ l) k = rw (select-join t l k) (go (t x))
    where
      go : (b : Bool) → cond b (x ∷ (select t l ++ select t k)) (select t l ++ select t k) ≡ cond b (x ∷ select t l) (select t l) ++ select t k
      go true = refl
      go false = refl

  pub before-none : before 0 ≡ []
  unfolding before select
  before-none = refl

  pub before-all : before (line_count n d) ≡ shown m n d
  unfolding before shown
  before-all = let e = lines-length n d in ap (select (marked m n)) (take_all (line_count n d) (all_lines n d) (omega arith))

  before_more : (i : ℕ) → i < line_count n d → before (i + 1) ≡ before i ++ cond (marked m n (line_at n d i)) (line_at n d i ∷ []) []
  unfolding before select line_at
  before_more i h = let e = lines-length n d in
      rw (add-one i, take-suc (all_lines n d) i (record { kind = flow; source = 0; sink = 0; vector = [] }) (omega arith))
      (select-join (marked m n) (take i (all_lines n d)) (line_at n d i ∷ []))

  pub before-yes : (i : ℕ) → i < line_count n d → marked m n (line_at n d i) ≡ true → before (i + 1) ≡ before i ++ (line_at n d i ∷ [])
  before-yes i h e = before_more i h ∙ rw e

  pub before-no : (i : ℕ) → i < line_count n d → marked m n (line_at n d i) ≡ false → before (i + 1) ≡ before i
  before-no i h e = before_more i h ∙ rw e (append-nil (before i))

  before-grows : (i : ℕ) → i < line_count n d → length (before i) ≤ length (before (i + 1))
  before-grows i h = let e = ap length (before_more i h) ∙ length-append (before i) (cond (marked m n (line_at n d i)) (line_at n d i ∷ []) [])
      in omega arith

  -- k turns later
  before-rises : (i k : ℕ) → i + k ≤ line_count n d → length (before i) ≤ length (before (i + k))
  before-rises i zero h = rw (add-zero i) (le_refl (length (before i)))
    where
      le_refl : (a : ℕ) → a ≤ a
      le_refl a = omega arith
  before-rises i (suc k) h =
      let a = before-rises i k (omega arith) in let b = before-grows (i + k) (omega arith) in
      let e : i + suc k ≡ i + k + 1 = omega arith in let f = ap (λ j. length (before j)) e in omega arith

  before-le : (i : ℕ) → i ≤ line_count n d → length (before i) ≤ length (shown m n d)
  before-le i h = let a = before-rises i (line_count n d - i) (omega arith) in
      let e : i + (line_count n d - i) ≡ line_count n d = omega arith in let f = ap (λ j. length (before j)) e in let g = ap length before-all
      in omega arith

  -- ---- the count

  pub record Counted (k i : ℕ) : Type 0 where
    pub inside : i ≤ line_count n d
    pub few : k ≤ i
    pub is : k ≡ length (before i)

  pub count-begins : Counted 0 0
  count-begins = let e = ap length before-none in record { inside = omega arith; few = omega arith; is = omega arith }

  pub count-turns : (k k' i : ℕ) → i < line_count n d → ((marked m n (line_at n d i) ≡ true) × (k' ≡ k + 1))
      ⊎ ((marked m n (line_at n d i) ≡ false) × (k' ≡ k)) → Counted k i → Counted k' (i + 1)
  count-turns k k' i h (inl w) c = let e = ap length (before-yes i h w.0)
      ∙ length-append (before i) (line_at n d i ∷ []) in let f = w.1 in let a = c.is in let b = c.few in
      record { inside = omega arith; few = omega arith; is = omega arith }
  count-turns k k' i h (inr w) c = let e = ap length (before-no i h w.0) in let f = w.1 in let a = c.is in let b = c.few in
      record { inside = omega arith; few = omega arith; is = omega arith }

  pub count-ends : (k i : ℕ) → line_count n d ≤ i → Counted k i → k ≡ length (shown m n d)
  count-ends k i h c = let g = c.inside in let e : i ≡ line_count n d = omega arith in c.is ∙ ap (λ j. length (before j)) e ∙ ap length before-all

  -- ---- the text of n statements at most

  -- the lines before i are written from place a on, and p is the place after them
  pub record Writing (o : List ℕ) (a : ℕ) (o' : List ℕ) (p i : ℕ) : Type 0 where
    pub inside : i ≤ line_count n d
    pub after : p ≡ a + length (before i) * (d + 7)
    pub bytes : o' ≡ put o a (flat_map line_text (before i))

  module _ (few : n ≤ most_statements) where
    texts-length : (i : ℕ) → length (flat_map line_text (before i)) ≡ length (before i) * (d + 7)
    unfolding before
    texts-length i = length-flat_map-even line_text (d + 7) (before i) (λ l h.
        let r = all_lines-mem n d (take-mem i (all_lines n d) (select-mem (marked m n) (take i (all_lines n d)) h).0) in
        let a = r.0 in let b = r.1 in line-length l d r.2 (omega arith) (omega arith))

    pub text-length : length (flat_map line_text (shown m n d)) ≡ length (shown m n d) * (d + 7)
    text-length = rw (← before-all) (texts-length (line_count n d))

    pub write-begins : (o : List ℕ) (a : ℕ) → Writing o a o a 0
    unfolding flat_map
    write-begins o a = record {
      inside = omega arith;
      after = rw (before-none, zero-mul (d + 7)) (sym (add-zero a));
      bytes = rw before-none
          (sym (put-nil o a));
    }

    module _ (o : List ℕ) (a : ℕ) (room : a + length (shown m n d) * (d + 7) ≤ length o) where
      fits : (i : ℕ) → i ≤ line_count n d → a + length (flat_map line_text (before i)) ≤ length o
      fits i h = let e = texts-length i in let f = mul-le-mul_right (d + 7) (before-le i h) in omega arith

      pub write-length : (o' : List ℕ) (p i : ℕ) → Writing o a o' p i → length o' ≡ length o
      write-length o' p i w = ap length w.bytes ∙ length-put o a (flat_map line_text (before i)) (fits i w.inside)

      -- there is room for line i
      pub write-room : (o' : List ℕ) (p i : ℕ) → i < line_count n d → marked m n (line_at n d i) ≡ true → Writing o a o' p i → p + (d + 7) ≤ length o'
      write-room o' p i h e w =
          let l = write-length o' p i w in let q = w.after in
          let g = ap length (before-yes i h e) ∙ length-append (before i) (line_at n d i ∷ []) in
          let k = before-le (i + 1) (omega arith) in
          let b : length (before i) + 1 ≤ length (shown m n d) = omega arith in
          let f = mul-le-mul_right (d + 7) b in let u = add-mul (length (before i)) 1 (d + 7) in let v = one-mul (d + 7) in omega arith

      pub write-turns : (o' o'' : List ℕ) (p p' i : ℕ) → i < line_count n d
          → ((marked m n (line_at n d i) ≡ true) × (o'' ≡ put o' p (line_text (line_at n d i))) × (p' ≡ p + (d + 7)))
          ⊎ ((marked m n (line_at n d i) ≡ false) × (o'' ≡ o') × (p' ≡ p))
          → Writing o a o' p i → Writing o a o'' p' (i + 1)
      write-turns o' o'' p p' i h (inl w) r =
          let e = before-yes i h w.0 in
          let g = ap length e ∙ length-append (before i) (line_at n d i ∷ []) in
          let u = add-mul (length (before i)) 1 (d + 7) in let v = one-mul (d + 7) in let q = r.after in let z = w.2 in
          let y : length (before (i + 1)) * (d + 7) ≡ (length (before i) + 1) * (d + 7) = ap (◌* (d + 7)) g in
          let t : flat_map line_text (before (i + 1)) ≡ flat_map line_text (before i) ++ line_text (line_at n d i) = ap (flat_map line_text) e
          ∙ flat_map-snoc line_text (before i) (line_at n d i) in
          let x : p ≡ a + length (flat_map line_text (before i)) = q ∙ ap (a +◌) (sym (texts-length i)) in
          record {
            inside = omega arith;
            after = omega arith;
            bytes = w.1 ∙ ap (λ k. put k p (line_text (line_at n d i))) r.bytes
                ∙ ap (λ k. put (put o a (flat_map line_text (before i))) k (line_text (line_at n d i))) x
                ∙ put-put o a (flat_map line_text (before i)) (line_text (line_at n d i)) (fits i r.inside) ∙ ap (put o a) (sym t);
          }
      write-turns o' o'' p p' i h (inr w) r =
          let e = before-no i h w.0 in record {
            inside = omega arith;
            after = w.2 ∙ r.after
                ∙ ap (λ l. a + length l * (d + 7)) (sym e);
            bytes = w.1 ∙ r.bytes ∙ ap (λ l. put o a (flat_map line_text l)) (sym e);
          }

      pub write-ends : (o' : List ℕ) (p i : ℕ) → line_count n d ≤ i → Writing o a o' p i → o' ≡ put o a (flat_map line_text (shown m n d))
      write-ends o' p i h w = let g = w.inside in let e : i ≡ line_count n d = omega arith in w.bytes
          ∙ ap (λ j. put o a (flat_map line_text (before j))) e ∙ ap (λ l. put o a (flat_map line_text l)) before-all
