-- What `lay_affine` writes, a word and the coefficients after it; and `lay_limit`, a word before those.
use mathlib.Core.Path.{◌≡◌, sym, ap, ap₂, ◌∙◌, subst}
use mathlib.Core.List.{List, [], ◌∷◌}
use Prim.Native.Nat.{ℕ, ◌+◌, ◌*◌, ◌≤◌, ◌<◌}
use native.Mathlib.Omega.{arith}
use lib.IntN.{ℤ, pos}
use lib.ListN.{length, take, set, length-set}
use lib.Seq.{length-take-le}
use mir.Syntax.{w16, w32}
use mir.Val.{SFits, to_z, of_z}
use mir.Facts.{to_z_pos}
use Rattle.lists.specs.Parts.{put}
use Rattle.lists.proofs.PartLaws.{put-put, set-is-put}
use Rattle.integers.specs.Difference.{size}
use Rattle.integers.specs.Affine.{Within}
use Rattle.integers.proofs.RangeLaws.{size-nat_abs, word_fits}
use Rattle.model.specs.Encode.{limit_words}
use Rattle.nest_rows.proofs.RowLaws.{number_fits, number-written}
use Rattle.ticket_loops.specs.declared.Affine.{Affine}
use Rattle.ticket_loops.specs.declared.Limit.{Limit}
use Rattle.ticket_loops.specs.Laid.{affine_words}
use Rattle.ticket_loops.specs.LoopReads.{affine_of, LayAffineIn, limit_of, LayLimitIn}
use Rattle.ticket_loops.proofs.LimitLaws.{small-within}

-- a word and what follows it are written as one part
one-and-rest : (o : List ℤ) (p : ℕ) (a : ℤ) (xs : List ℤ) → p < length o → put (set o p a) (p + 1) xs ≡ put o p (a ∷ xs)
one-and-rest o p a xs h = ap (λ l. put l (p + 1) xs) (set-is-put o p a h) ∙ put-put o p (a ∷ []) xs (omega arith)

module _ (o : List ℤ) (at n : ℕ) (f : Affine) (p : LayAffineIn (length o) at n f) where
  constant-small : size f.constant ≤ 32767
  unfolding affine_of
  constant-small = omega (arith, p.ranges.constant, size-nat_abs f.constant)

  pub constant-fits : SFits w16 (to_z w32 (of_z w32 f.constant))
  constant-fits = number_fits f.constant constant-small

  pub row_small : Within 32767 (take n f.coefficients)
  unfolding affine_of
  row_small = small-within (take n f.coefficients) p.ranges.coefficients

  pub row-length : length (take n f.coefficients) ≡ n
  row-length = let h = p.shallow in let r = p.within.room in length-take-le n f.coefficients (omega arith)

  pub affine-wrote : (e : List ℤ) → e ≡ put (set o at (to_z w16 (of_z w16 (to_z w32 (of_z w32 f.constant))))) (at + 1) (take n f.coefficients)
      → e ≡ put o at (affine_words (affine_of n f))
  unfolding affine_words affine_of
  affine-wrote e q = let h = p.fits in
      q ∙ ap (λ a. put (set o at a) (at + 1) (take n f.coefficients)) (number-written f.constant constant-small)
      ∙ one-and-rest o at f.constant (take n f.coefficients) (omega arith)

module _ (o : List ℤ) (j outer : ℕ) (l : Limit) (p : LayLimitIn (length o) j outer l) where
  small-multiplier : l.multiplier ≤ 32767
  unfolding limit_of
  small-multiplier = p.ranges.multiplier.high

  pub multiplier-fits : SFits w16 (pos l.multiplier)
  multiplier-fits = let h = small-multiplier in word_fits (omega arith)

  -- the constant and the coefficients
  abbrev rest : ℤ → Affine
  rest c = record { constant = c; coefficients = l.coefficients }

  pub rest_in : (a c : ℤ) → c ≡ l.constant → LayAffineIn (length (set o (j * 8) a)) (j * 8 + 1) outer (rest c)
  unfolding limit_of affine_of
  rest_in a c e = subst (λ z. LayAffineIn (length (set o (j * 8) a)) (j * 8 + 1) outer (rest z)) (sym e)
      (let h = p.fits in let s = p.shallow in let n = length-set o (j * 8) a in record {
        fits = omega arith;
        shallow = s;
        within = record { room = p.within.room };
        ranges = record { constant = p.ranges.constant; coefficients = p.ranges.coefficients };
      })

  pub wrote : (c : ℤ) → c ≡ l.constant → (e : List ℤ) → e ≡ put (set o (j * 8) (to_z w16 l.multiplier)) (j * 8 + 1)
      (affine_words (affine_of outer (rest c))) → e ≡ put o (j * 8) (limit_words (limit_of outer l))
  unfolding limit_words limit_of affine_words affine_of
  wrote c d e q = let h = p.fits in let g = small-multiplier in
      q ∙ ap₂ (λ a z. put (set o (j * 8) a) (j * 8 + 1) (affine_words (affine_of outer (rest z)))) (to_z_pos w16 (omega arith)) d
      ∙ one-and-rest o (j * 8) (pos l.multiplier) (affine_words (affine_of outer (rest l.constant))) (omega arith)
