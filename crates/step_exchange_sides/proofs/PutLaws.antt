-- A limit that is put over wide numbers: two numbers, and the coefficients after them; and read back.
use mathlib.Core.Path.{◌≡◌, sym, ap, ap₂, ◌∙◌, subst}
use mathlib.Core.Bool.{true, false}
use mathlib.Core.List.{List, [], ◌∷◌, ◌++◌}
use Prim.Native.Nat.{ℕ, ◌+◌, ◌*◌, ◌≤◌, ◌<◌}
use native.Mathlib.Omega.{arith}
use lib.Dec.{T}
use lib.IntN.{ℤ, pos, negsuc, nat_abs}
use lib.Signed.{non_neg}
use lib.ListN.{length, get_or, take, drop, set, length-set}
use lib.Seq.{length-take-le, drop-drop}
use borrow.Rule.Slice.PartMut.{put_mid}
use mir.Syntax.{w32}
use mir.Val.{Fits, SFits, to_z}
use mir.Facts.{to_z_pos}
use Rattle.lists.specs.Parts.{put}
use Rattle.lists.proofs.PartLaws.{put-put, set-is-put, set-put, length-put}
use Rattle.model.specs.Encode.{limit_words}
use Rattle.ticket_loops.specs.LoopReads.{limit_of}
use Rattle.ticket_loops.specs.declared.Limit.{Limit}
use Rattle.nest_flat.specs.Flat.{limit_at}
use Rattle.nest_rows.proofs.RowLaws.{six-read, row-part}
use Rattle.step_limits.specs.Makes.{LimitIs}
use Rattle.integers.specs.Difference.{up}
use Rattle.step_limits.proofs.NumberLaws.{fits_below}
use Rattle.step_limits.proofs.LimitLaws.{same-limit}
use Rattle.step_exchange_sides.specs.Filling.{WideIn, HeldIn}

-- ---- a row

-- a part that holds the row
pub copied_over : (o row part : List ℤ) (at n : ℕ) → n ≡ length row → part ≡ row → put_mid at n o part ≡ put o at row
unfolding put
copied_over o row part at n h e = ap₂ (λ (x y : List ℤ). take at o ++ (x ++ y)) e
    (drop-drop n at o ∙ ap (λ (m : ℕ). drop (at + m) o) h)

-- ---- a limit

pub read_wide : (n : ℕ) → n ≤ 1073676289 → to_z w32 n ≡ pos n
read_wide n h = to_z_pos w32 (omega arith)

module _ (o : List ℤ) (k n : ℕ) (x : Limit) (p : WideIn n x × (length o ≡ 128) × (k < 16)) where
  pub row-length : length (take n x.coefficients) ≡ n
  row-length = let h = p.0.place in let r = p.0.limit.room in length-take-le n x.coefficients (omega arith)

  pub constant-room : (a : ℤ) → k * 8 + 1 < length (set o (k * 8) a)
  constant-room a = let h = p.1 in simp length-set (omega arith)

  pub row-room : (a b : ℤ) → k * 8 + 2 + length (take n x.coefficients) ≤ length (set (set o (k * 8) a) (k * 8 + 1) b)
  row-room a b = let h = p.1 in let g = p.0.place in let m = row-length in simp length-set (omega arith)

  pub wrote : (a b : ℤ) (e : List ℤ) → a ≡ pos x.multiplier → b ≡ x.constant
      → e ≡ put (set (set o (k * 8) a) (k * 8 + 1) b) (k * 8 + 2) (take n x.coefficients) → e ≡ put o (k * 8) (limit_words (limit_of n x))
  unfolding limit_words limit_of
  wrote a b e f g q =
      let h = p.1 in
      let xs = take n x.coefficients in
      q ∙ ap₂ (λ a b. put (set (set o (k * 8) a) (k * 8 + 1) b) (k * 8 + 2) xs) f g
      ∙ ap (λ l. put (set l (k * 8 + 1) x.constant) (k * 8 + 2) xs) (set-is-put o (k * 8) (pos x.multiplier) (omega arith))
      ∙ ap (λ l. put l (k * 8 + 2) xs) (set-put o (k * 8) (pos x.multiplier ∷ []) x.constant (omega arith))
      ∙ put-put o (k * 8) (pos x.multiplier ∷ x.constant ∷ []) xs (omega arith)

  pub wrote-length : (e : List ℤ) → e ≡ put o (k * 8) (limit_words (limit_of n x)) → length e ≡ length o
  unfolding limit_words limit_of
  wrote-length e q = let h = p.1 in let g = p.0.place in let m = row-length in ap length q
      ∙ length-put o (k * 8) (limit_words (limit_of n x)) (omega arith)

pub untrue : {A : Type 0} → false ≡ true → A
untrue e = absurd (subst T (sym e) tt)

-- ---- a limit that is read back

module _ (f : List ℤ) (k : ℕ) (p : HeldIn f k) where
  pub multiplier-fits : (z : ℤ) → SFits w32 z → z ≡ get_or f (k * 8) (pos 0) → T (non_neg z) × Fits w32 (nat_abs z)
  multiplier-fits z s e = natural z s (e ∙ p.natural ∙ ap (λ x. pos (nat_abs x)) (sym e))
    where
      natural : (z : ℤ) → SFits w32 z → z ≡ pos (nat_abs z) → T (non_neg z) × Fits w32 (nat_abs z)
      natural (pos n) s e = (tt, fits_below (let h = s.sfits in omega arith))
      natural (negsuc n) s e = let h = ap up e in absurd (omega arith)

  -- its coefficients, one by one
  pub limit-row : (a b c d e g : ℤ) → a ≡ get_or f (k * 8 + 2) (pos 0) → b ≡ get_or f (k * 8 + 3) (pos 0) → c ≡ get_or f (k * 8 + 4) (pos 0)
      → d ≡ get_or f (k * 8 + 5) (pos 0)
      → e ≡ get_or f (k * 8 + 6) (pos 0) → g ≡ get_or f (k * 8 + 7) (pos 0) → a ∷ b ∷ c ∷ d ∷ e ∷ g ∷ [] ≡ take 6 (drop (k * 8 + 2) f)
  limit-row a b c d e g q₁ q₂ q₃ q₄ q₅ q₆ =
      let r = p.room in
      let i = p.inside in
      six-read f (k * 8 + 2) (omega arith) a b c d e g q₁ (q₂ ∙ at 3 1 (omega arith)) (q₃ ∙ at 4 2 (omega arith)) (q₄ ∙ at 5 3 (omega arith))
      (q₅ ∙ at 6 4 (omega arith)) (q₆ ∙ at 7 5 (omega arith))
    where
      at : (m j : ℕ) → m ≡ 2 + j → get_or f (k * 8 + m) (pos 0) ≡ get_or f (k * 8 + 2 + j) (pos 0)
      at m j e = let z : k * 8 + m ≡ k * 8 + 2 + j = omega arith in ap (λ i. get_or f i (pos 0)) z

  pub limit-read : (a b : ℤ) (cs : List ℤ) → a ≡ get_or f (k * 8) (pos 0) → b ≡ get_or f (k * 8 + 1) (pos 0) → cs ≡ take 6 (drop (k * 8 + 2) f)
      → (n : ℕ) → n ≤ 6 → LimitIs n (record { multiplier = nat_abs a; constant = b; coefficients = cs }) (limit_at f n k)
  unfolding limit_at limit_of
  limit-read a b cs e g h n m = let r = p.room in let i = p.inside in let q = row-part f (k * 8 + 2) n cs (omega arith) m h in
      record { is = same-limit (ap nat_abs e) g q.is; within = record { room = q.room } }
