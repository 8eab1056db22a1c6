-- The number of elements of an array, extent by extent, and its bound; then the test of its elements and those before.
use mathlib.Core.Path.{◌≡◌, refl, sym, ap, ◌∙◌}
use mathlib.Core.List.{List, [], ◌∷◌, ◌++◌}
use Prim.Native.Nat.{ℕ, zero, suc, ◌+◌, ◌*◌, ◌-◌, ◌<◌, ◌≤◌}
use native.Mathlib.Omega.{arith}
use native.Mathlib.Numerals.{add-one}
use native.Mathlib.Nat.{mul_assoc, mul-le-mul}
use lib.Dec.{leb}
use borrow.Author.Tests.{le-leb, lt-leb}
use lib.ListN.{length, take, set}
use lib.Seq.{take-suc-set}
use Rattle.model.specs.Answer as Answer
use Rattle.model.specs.Answer.{accepted, refused, require}
use Rattle.model.specs.Grammar.{◌>>=◌, ◌>>◌, must, done, elements, shape, array}
use Rattle.std.specs.Prelude.{Ok, Err}
use Rattle.ticket_refusals.specs.declared.Refusal.TheVariants.{TooManyElements}
use Rattle.ticket_words.specs.Reads.{Reads}
use Rattle.ticket_words.specs.declared.Words.{Words}
use Rattle.ticket_words.proofs.ReaderLaws.{read-then}
use Rattle.ticket_arrays.specs.Arrays.{shape_of}
use Rattle.ticket_arrays.specs.declared.shapes.Shape.{Shape}

elements-snoc : (xs : List ℕ) (x : ℕ) → elements (xs ++ (x ∷ [])) ≡ elements xs * x
unfolding elements
elements-snoc [] x = omega arith
elements-snoc (y ∷ xs) x = ap (λ n. y * n) (elements-snoc xs x) ∙ sym (mul_assoc y (elements xs) x)

pub elements-next : (l : List ℕ) (i a p : ℕ) → i < length l → p ≡ elements (take i l) → p * a ≡ elements (take (i + 1) (set l i a))
elements-next l i a p h e = rw (add-one, take-suc-set l i a h, elements-snoc, e) refl

pub elements-all : (l : List ℕ) (i n p : ℕ) → i ≤ n → n ≤ i → p ≡ elements (take i l) → p ≡ elements (take n l)
elements-all l i n p h q e = let z : i ≡ n = omega arith in e ∙ ap (λ m. elements (take m l)) z

-- the most elements of k dimensions
unfoldable pub most : ℕ → ℕ
most zero = 1
most (suc k) = most k * 4096

pub most-next : (k p n : ℕ) → p ≤ most k → n ≤ 4096 → p * n ≤ most (k + 1)
unfolding most
most-next k p n h q = rw add-one (mul-le-mul h q)

pub most-three : (k : ℕ) → k ≤ 3 → most k ≤ 68719476736
unfolding most
most-three zero h = omega arith
most-three (suc zero) h = omega arith
most-three (suc (suc zero)) h = omega arith
most-three (suc (suc (suc zero))) h = omega arith
most-three (suc (suc (suc (suc k)))) h = absurd (omega arith)

-- ---- one array after others of t elements

module _ (t : ℕ) {o e : Words} {a : Shape} (h : Reads shape_of shape o (Ok a) e) where
  pub array-fits : t + elements (shape_of a) ≤ 16384 → Reads shape_of (array t) o (Ok a) e
  unfolding array
  array-fits g = read-then _ h (record { same = sym kept; bytes = refl })
    where
      kept : (must (leb (t + elements (shape_of a)) 16384) 5 >> done (shape_of a)) e.bytes.now e.next
          ≡ accepted (record { value = shape_of a; next = e.next })
      kept = unfold ◌>>◌ ◌>>=◌ must done Answer.◌>>=◌ require in rw (le-leb (t + elements (shape_of a)) 16384 g)

  pub array-full : 16384 < t + elements (shape_of a) → Reads shape_of (array t) o (Err (TooManyElements (e.next - 1))) e
  unfolding array
  array-full g = read-then _ h (record { same = sym full; bytes = refl })
    where
      full : (must (leb (t + elements (shape_of a)) 16384) 5 >> done (shape_of a)) e.bytes.now e.next ≡ refused 5 (e.next - 1)
      full = unfold ◌>>◌ ◌>>=◌ must Answer.◌>>=◌ require in rw (lt-leb (t + elements (shape_of a)) 16384 g)
