-- A record read from a row of words, number by number.
use mathlib.Core.Path.{◌≡◌, refl, sym, ap, ap₂, ◌∙◌, subst}
use mathlib.Core.List.{List, [], ◌∷◌, ◌++◌}
use Prim.Native.Nat.{ℕ, ◌+◌, ◌*◌, ◌<◌}
use native.Mathlib.Omega.{arith}
use native.Mathlib.Nat.{add-zero}
use mir.Syntax.{w16}
use mir.Val.{SFits, Fits, to_z, of_z}
use mir.Facts.{to_z-of_z}
use lib.Dec.{T}
use lib.IntN.{ℤ, pos, nat_abs}
use lib.Signed.{non_neg}
use lib.ListN.{length, get_or, take, drop}
use lib.Seq.{get_or-take, get_or-drop}
use Rattle.model.specs.Pairs.{Record}
use Rattle.pair_search.specs.Searches.{record_words_of}
use Rattle.entry_reason.specs.Records.{pair_of}
use Rattle.entry_reason.specs.Finders.{RecordAt}

-- a list of four
four-of : (l : List ℤ) → length l ≡ 4 → l ≡ get_or l 0 (pos 0) ∷ get_or l 1 (pos 0) ∷ get_or l 2 (pos 0) ∷ get_or l 3 (pos 0) ∷ []
four-of [] h = absurd (omega arith)
four-of (a ∷ []) h = absurd (omega arith)
four-of (a ∷ b ∷ []) h = absurd (omega arith)
four-of (a ∷ b ∷ c ∷ []) h = absurd (omega arith)
four-of (a ∷ b ∷ c ∷ d ∷ []) h = refl
four-of (a ∷ b ∷ c ∷ d ∷ e ∷ l) h = absurd (omega arith)

module _ {words : List ℤ} {k : ℕ} {r : Record} (h : RecordAt words k r) where
  abbrev row : List ℤ
  row = take 11 (drop (k * 11) words)

  abbrev p : ℕ → ℤ
  p i = get_or r.source i (pos 0)

  abbrev q : ℕ → ℤ
  q i = get_or r.sink i (pos 0)

  row_is : row ≡ p 0 ∷ p 1 ∷ p 2 ∷ p 3 ∷ q 0 ∷ q 1 ∷ q 2 ∷ q 3 ∷ pos r.source-statement ∷ pos r.sink-statement ∷ pos r.kind ∷ []
  unfolding record_words_of
  row_is = h.is ∙ ap₂ (λ (u v : List ℤ). u ++ (v ++ (pos r.source-statement ∷ pos r.sink-statement ∷ pos r.kind ∷ [])))
      (four-of r.source h.source) (four-of r.sink h.sink)

  number_is : (i : ℕ) (z : ℤ) → i < 11 → get_or row i (pos 0) ≡ z → get_or words (k * 11 + i) (pos 0) ≡ z
  number_is i z l e = sym (get_or-drop (k * 11) words i (pos 0)) ∙ sym (get_or-take 11 (drop (k * 11) words) i (pos 0) l) ∙ e

  at : (i : ℕ) (z : ℤ) → i < 11 → get_or (p 0 ∷ p 1 ∷ p 2 ∷ p 3 ∷ q 0 ∷ q 1 ∷ q 2 ∷ q 3 ∷ pos r.source-statement ∷ pos r.sink-statement
      ∷ pos r.kind ∷ []) i (pos 0) ≡ z → get_or words (k * 11 + i) (pos 0) ≡ z
  at i z l e = number_is i z l (ap (λ (m : List ℤ). get_or m i (pos 0)) row_is ∙ e)

  pub source-number : (z : ℤ) → z ≡ get_or words (k * 11 + 8) (pos 0) → z ≡ pos r.source-statement
  source-number z e = e ∙ at 8 (pos r.source-statement) (omega arith) refl

  pub sink-number : (z : ℤ) → z ≡ get_or words (k * 11 + 9) (pos 0) → z ≡ pos r.sink-statement
  sink-number z e = e ∙ at 9 (pos r.sink-statement) (omega arith) refl

  pub kind-number : (z : ℤ) → z ≡ get_or words (k * 11 + 10) (pos 0) → z ≡ pos r.kind
  kind-number z e = e ∙ at 10 (pos r.kind) (omega arith) refl

  pub pair_made : (a b c d a' b' c' d' : ℤ) (s t e : ℕ)
      → a ≡ get_or words (k * 11) (pos 0) → b ≡ get_or words (k * 11 + 1) (pos 0) → c ≡ get_or words (k * 11 + 2) (pos 0)
      → d ≡ get_or words (k * 11 + 3) (pos 0) → a' ≡ get_or words (k * 11 + 4) (pos 0) → b' ≡ get_or words (k * 11 + 5) (pos 0)
      → c' ≡ get_or words (k * 11 + 6) (pos 0) → d' ≡ get_or words (k * 11 + 7) (pos 0)
      → pos s ≡ get_or words (k * 11 + 8) (pos 0) → pos t ≡ get_or words (k * 11 + 9) (pos 0) → pos e ≡ get_or words (k * 11 + 10) (pos 0)
      → record {
        source = a ∷ b ∷ c ∷ d ∷ [];
        sink = a' ∷ b' ∷ c' ∷ d' ∷ [];
        source_statement = s;
        sink_statement = t;
        kind = e;
      } ≡ pair_of r
  unfolding pair_of
  pair_made a b c d a' b' c' d' s t e i₀ i₁ i₂ i₃ i₄ i₅ i₆ i₇ i₈ i₉ i₁₀ =
      let first : a ∷ b ∷ c ∷ d ∷ [] ≡ r.source = list-is a b c d (p 0) (p 1) (p 2) (p 3)
      (i₀ ∙ ap (λ (n : ℕ). get_or words n (pos 0)) (sym (add-zero (k * 11))) ∙ at 0 (p 0) (omega arith) refl) (i₁ ∙ at 1 (p 1) (omega arith) refl)
      (i₂ ∙ at 2 (p 2) (omega arith) refl) (i₃ ∙ at 3 (p 3) (omega arith) refl) ∙ sym (four-of r.source h.source) in
      let second : a' ∷ b' ∷ c' ∷ d' ∷ [] ≡ r.sink = list-is a' b' c' d' (q 0) (q 1) (q 2) (q 3)
      (i₄ ∙ at 4 (q 0) (omega arith) refl) (i₅ ∙ at 5 (q 1) (omega arith) refl) (i₆ ∙ at 6 (q 2) (omega arith) refl)
      (i₇ ∙ at 7 (q 3) (omega arith) refl) ∙ sym (four-of r.sink h.sink) in
      let x = ap nat_abs (source-number (pos s) i₈) in let y = ap nat_abs (sink-number (pos t) i₉) in let z = ap nat_abs (kind-number (pos e) i₁₀) in
      λ u. record { source = first u; sink = second u; source_statement = x u; sink_statement = y u; kind = z u }
    where
      list-is : (a b c d a' b' c' d' : ℤ) → a ≡ a' → b ≡ b' → c ≡ c' → d ≡ d' → a ∷ b ∷ c ∷ d ∷ [] ≡ a' ∷ b' ∷ c' ∷ d' ∷ []
      list-is a b c d a' b' c' d' e f g h = λ u. e u ∷ f u ∷ g u ∷ h u ∷ []

-- ---- a number that is not negative, in 16 bits

unsigned_is : (x : ℤ) (n : ℕ) → x ≡ pos n → SFits w16 x → (T (non_neg x)) × (Fits w16 (nat_abs x)) × (pos (nat_abs x) ≡ x)
unsigned_is x n e f = subst (λ (z : ℤ). SFits w16 z → (T (non_neg z)) × (Fits w16 (nat_abs z)) × (pos (nat_abs z) ≡ z)) (sym e)
    (λ g. (tt, record { fits = let h = g.sfits in omega arith }, refl)) f

pub unsigned-cast : (x : ℤ) (n : ℕ) → x ≡ pos n → SFits w16 x → T (non_neg (to_z w16 (of_z w16 x))) × Fits w16 (nat_abs (to_z w16 (of_z w16 x)))
unsigned-cast x n e f = let u = unsigned_is x n e f in rw (to_z-of_z f) (u.0, u.1)

pub unsigned-result : (x : ℤ) (n : ℕ) → x ≡ pos n → SFits w16 x → pos (nat_abs (to_z w16 (of_z w16 x))) ≡ x
unsigned-result x n e f = rw (to_z-of_z f) (unsigned_is x n e f).2
