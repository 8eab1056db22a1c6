-- A limit's words: the test of its numbers, part by part; what is written of it; what is read of it.
use mathlib.Core.Path.{◌≡◌, refl, sym, ap, ap₂, ◌∙◌}
use mathlib.Core.Bool.{Bool, true, false, ◌&&◌}
use mathlib.Core.List.{List, [], ◌∷◌}
use Prim.Native.Nat.{ℕ, ◌+◌, ◌*◌, ◌≤◌, ◌<◌}
use native.Mathlib.Omega.{arith}
use lib.Dec.{T, leb, le→leb, leb→le}
use lib.IntN.{ℤ, pos, nat_abs}
use lib.Signed.{non_neg}
use lib.ListN.{length, get_or, take, drop, set, length-set}
use lib.Seq.{length-take-le}
use mir.Syntax.{w16, w32}
use mir.Val.{Fits, to_z, of_z}
use mir.Facts.{to_z_pos}
use Rattle.lists.specs.Parts.{put}
use Rattle.lists.specs.Tests.{all}
use Rattle.lists.proofs.PartLaws.{put-put, set-is-put, set-put, length-put}
use Rattle.lists.proofs.TestLaws.{T_true, true-T, not-T-false, and_both}
use Rattle.integers.specs.Affine.{Within}
use Rattle.integers.specs.Difference.{size}
use Rattle.integers.proofs.AffineLaws.{within-at}
use Rattle.integers.proofs.RingLaws.{zarith}
use Rattle.model.specs.Encode.{limit_words}
use Rattle.model.specs.Judge.{small, small_limit}
use Rattle.ticket_loops.specs.LoopReads.{limit_of}
use Rattle.ticket_loops.specs.declared.Limit.{Limit}
use Rattle.nest_flat.specs.Flat.{limit_at}
use Rattle.nest_rows.specs.Rows.{RowIs, Tried}
use Rattle.nest_rows.proofs.SmallLaws.{number_small, row_small}
use Rattle.nest_rows.proofs.RowLaws.{number_read, number-written, tried-no, tried-yes}
use Rattle.step_limits.specs.Makes.{LimitIs}
use Rattle.step_limits.specs.Words.{LimitRoom, LimitThere}
use Rattle.step_limits.proofs.NumberLaws.{cast_fits}
use Rattle.step_limits.proofs.LimitLaws.{same-limit}

-- ---- the test

module _ (n : ℕ) (l : Limit) where
  pub multiplier-large : 32767 < l.multiplier → small_limit (limit_of n l) ≡ false
  unfolding small_limit limit_of
  multiplier-large h = rw (not-T-false (leb l.multiplier 32767) (λ t. let k = leb→le l.multiplier 32767 t in absurd (omega arith)))

  module _ (h : l.multiplier ≤ 32767) where
    passes : leb l.multiplier 32767 ≡ true
    passes = T_true (leb l.multiplier 32767) (le→leb l.multiplier 32767 h)

    pub constant-large : small l.constant ≡ false → small_limit (limit_of n l) ≡ false
    unfolding small_limit limit_of
    constant-large e = rw (passes, e)

    pub row-test : small l.constant ≡ true → small_limit (limit_of n l) ≡ all small (take n l.coefficients)
    unfolding small_limit limit_of
    row-test e = rw (passes, e)

pub limit-small : (n : ℕ) (l : Limit) (r : Bool) → r ≡ small_limit (limit_of n l) → r ≡ true
    → (l.multiplier ≤ 32767) × (size l.constant ≤ 32767) × Within 32767 (take n l.coefficients)
unfolding small_limit limit_of
limit-small n l r e f =
    let t = true-T (small_limit (limit_of n l)) (sym e ∙ f) in
    let p = and_both (leb l.multiplier 32767) (small l.constant && all small (take n l.coefficients)) t in
    let q = and_both (small l.constant) (all small (take n l.coefficients)) p.1 in
    (leb→le l.multiplier 32767 p.0, number_small l.constant q.0, row_small (take n l.coefficients) q.1)

pub refused : (test : Bool) (s : List ℤ) (at : ℕ) (xs : List ℤ) → test ≡ false → Tried test s at xs false s
refused test s at xs e = tried-no test s at xs false (sym e) refl

-- ---- what is written

-- two words and a row are written as one part
two-and-row : (o : List ℤ) (p : ℕ) (a b : ℤ) (xs : List ℤ) → p + 2 ≤ length o → put (set (set o p a) (p + 1) b) (p + 2) xs ≡ put o p (a ∷ b ∷ xs)
two-and-row o p a b xs h =
    ap (λ l. put (set l (p + 1) b) (p + 2) xs) (set-is-put o p a (omega arith))
    ∙ ap (λ l. put l (p + 2) xs) (set-put o p (a ∷ []) b (omega arith))
    ∙ put-put o p (a ∷ b ∷ []) xs h

module _ (o : List ℤ) (j n : ℕ) (l : Limit) (p : LimitRoom o j n) (room : length l.coefficients ≡ 6) where
  pub row-length : length (take n l.coefficients) ≡ n
  row-length = let h = p.shallow in length-take-le n l.coefficients (omega arith)

  words-length : length (limit_words (limit_of n l)) ≡ 2 + n
  unfolding limit_words limit_of
  words-length = let h = row-length in omega arith

  pub second-room : (a : ℤ) → j * 8 + 1 < length (set o (j * 8) a)
  second-room a = let h = p.fits in simp length-set (omega arith)

  pub row-room : (a b : ℤ) → j * 8 + 2 + length (take n l.coefficients) ≤ length (set (set o (j * 8) a) (j * 8 + 1) b)
  row-room a b = let h = p.fits in let g = p.shallow in let e = row-length in simp length-set (omega arith)

  module _ (small-multiplier : l.multiplier ≤ 32767) (near : size l.constant ≤ 32767) (c : ℤ) (is : c ≡ to_z w32 (of_z w32 l.constant))
      (t : List ℤ)
      (e : t ≡ put (set (set o (j * 8) (to_z w16 l.multiplier)) (j * 8 + 1) (to_z w16 (of_z w16 c))) (j * 8 + 2) (take n l.coefficients)) where
    pub wrote : t ≡ put o (j * 8) (limit_words (limit_of n l))
    unfolding limit_words limit_of
    wrote = let h = p.fits in
        e ∙ ap₂ (λ a b. put (set (set o (j * 8) a) (j * 8 + 1) b) (j * 8 + 2) (take n l.coefficients))
        (to_z_pos w16 (omega arith)) (ap (λ (z : ℤ). to_z w16 (of_z w16 z)) is ∙ number-written l.constant near)
        ∙ two-and-row o (j * 8) (pos l.multiplier) l.constant (take n l.coefficients) (omega arith)

    pub wrote-length : length t ≡ length o
    wrote-length = let h = p.fits in let g = p.shallow in let m = words-length in ap length wrote
        ∙ length-put o (j * 8) (limit_words (limit_of n l)) (omega arith)

    pub wrote-tried : (test : Bool) → test ≡ true → Tried test o (j * 8) (limit_words (limit_of n l)) true t
    wrote-tried test q = let h = p.fits in let g = p.shallow in let m = words-length in
        tried-yes test o (j * 8) (limit_words (limit_of n l)) true t (sym q) refl (omega arith) wrote

-- ---- what is read

module _ (s : List ℤ) (j n : ℕ) (p : LimitThere s j n) where
  near_word : (i : ℕ) → size (get_or s i (pos 0)) ≤ 32767
  near_word i = within-at 32767 s p.small i

  read_word : (i : ℕ) (z : ℤ) → z ≡ get_or s i (pos 0) → to_z w32 (of_z w32 z) ≡ get_or s i (pos 0)
  read_word i z e = ap (λ (y : ℤ). to_z w32 (of_z w32 y)) e ∙ number_read (get_or s i (pos 0)) (near_word i)

  pub multiplier-fits : (z : ℤ) → z ≡ get_or s (j * 8) (pos 0) → T (non_neg (to_z w32 (of_z w32 z))) × Fits w32 (nat_abs (to_z w32 (of_z w32 z)))
  multiplier-fits z e = rw (read_word (j * 8) z e) (cast_fits (get_or s (j * 8) (pos 0)) (let h = p.positive in omega zarith) (near_word (j * 8)))

  pub limit-read : (a b : ℤ) (cs : List ℤ) → a ≡ get_or s (j * 8) (pos 0) → b ≡ get_or s (j * 8 + 1) (pos 0) → RowIs n cs (take n (drop (j * 8 + 2) s))
      → LimitIs n (record { multiplier = nat_abs (to_z w32 (of_z w32 a)); constant = to_z w32 (of_z w32 b); coefficients = cs }) (limit_at s n j)
  unfolding limit_at limit_of
  limit-read a b cs e f g = record {
    is = same-limit (ap nat_abs (read_word (j * 8) a e)) (read_word (j * 8 + 1) b f) g.is;
    within = record { room = g.room };
  }
