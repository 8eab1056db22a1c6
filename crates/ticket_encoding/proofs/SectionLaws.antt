-- Arrays and accesses on their slices: where each stands, and its words there.
use mathlib.Core.Path.{◌≡◌, refl, sym, ap₂}
use mathlib.Core.List.{List, ◌∷◌, map}
use Prim.Native.Nat.{ℕ, ◌+◌, ◌-◌, ◌*◌, ◌/◌, ◌≤◌, ◌<◌}
use native.Mathlib.Omega.{arith}
use lib.IntN.{ℤ, pos}
use lib.ListN.{length, get_or, take, drop}
use Rattle.std.proofs.lemmas.List.{map-id}
use Rattle.model.specs.Encode.{counted, access_words}
use Rattle.model.specs.Grammar.{most_accesses, most_extents}
use Rattle.ticket_encoding_words.specs.Writing.{Writable, Written}
use Rattle.ticket_encoding_words.proofs.WritingLaws.{spans, part-room, part-written}
use Rattle.ticket_lengths.specs.Lengths.{ArraysIn}
use Rattle.ticket_lengths.proofs.SumLaws.{array-ends}
use Rattle.ticket_lengths.proofs.SliceLaws.{access-spans, accesses-spans, accesses-length}
use Rattle.ticket_encoding.specs.declared.NestSlices.{NestSlices}
use Rattle.ticket_encoding.specs.Nests.{access_on, accesses_on}

-- ---- array i

module _ (a : List ℕ) (i : ℕ) where
  abbrev its_numbers : List ℤ
  its_numbers = map pos (take (get_or a (i * 4) 0 + 1) (drop (i * 4) a))

  abbrev its-part : List ℤ
  its-part = map pos (take (i * 4 + get_or a (i * 4) 0 + 1 - i * 4) (drop (i * 4) a))

  array-end : i * 4 + get_or a (i * 4) 0 + 1 ≡ i * 4 + (get_or a (i * 4) 0 + 1)
  array-end = omega arith

  pub array-writable : {o : List ℕ} {at : ℕ} → Writable o at its_numbers → Writable o at its-part
  array-writable = part-room pos a _ _ _ array-end refl

  pub array-written : {o o' : List ℕ} {at r : ℕ} → Written o o' at its-part r → Written o o' at its_numbers r
  array-written = part-written pos a _ _ _ array-end refl

  pub array-room : ArraysIn a → i < length a / 4 → i * 4 + get_or a (i * 4) 0 + 1 ≤ length a
  array-room p h = let e = array-ends a i h in let d = p.dimensions i h in omega arith

-- ---- access k

module _ (S : NestSlices) (k : ℕ) (h : k < length S.accessed.now) where
  abbrev array : ℕ
  array = get_or S.accessed.now k 0

  abbrev dimensions : ℕ
  dimensions = get_or S.extents.now (array * 4) 0

  its-array : array < length S.extents.now / 4
  its-array = S.held.accesses.there k h

  pub its-array-ends : array * 4 + 4 ≤ length S.extents.now
  its-array-ends = array-ends S.extents.now array its-array

  pub its-array-small : array * 4 + 4 ≤ most_extents
  its-array-small = let e = its-array-ends in let f = S.held.accesses.few in omega arith

  pub access-small : (k < most_accesses) × (S.depth ≤ 6)
  access-small = let m = S.held.accesses.many in (omega arith, S.held.accesses.shallow)

  pub access-flat : dimensions ≤ 3
  access-flat = S.held.accesses.dimensions array its-array

  pub access-parts : access_words (access_on S k) ≡ pos (array + 1) ∷ spans (λ i. take (S.depth + 1) (drop (i * 8) S.words.now)) (k * 3) dimensions
  access-parts = access-spans S.words.now S.accessed.now S.extents.now S.depth k (let l = S.held.accesses.words in omega arith) access-flat

  -- subscript d of its own
  pub form-room : (d : ℕ) → d < dimensions → (k * 3 + d) * 8 + S.depth + 1 ≤ length S.words.now
  form-room d b = let l = S.held.accesses.words in let f = access-flat in let s = S.held.accesses.shallow in omega arith

-- the words of subscript j of all
module _ (S : NestSlices) (j : ℕ) where
  abbrev form-words : List ℤ
  form-words = take (S.depth + 1) (drop (j * 8) S.words.now)

  abbrev form-part : List ℤ
  form-part = map (λ z. z) (take (j * 8 + S.depth + 1 - j * 8) (drop (j * 8) S.words.now))

  form-end : j * 8 + S.depth + 1 ≡ j * 8 + (S.depth + 1)
  form-end = omega arith

  pub form-writable : {o : List ℕ} {at : ℕ} → Writable o at form-words → Writable o at form-part
  form-writable = part-room (λ z. z) S.words.now _ _ _ form-end (sym (map-id form-words))

  pub form-written : {o o' : List ℕ} {at r : ℕ} → Written o o' at form-part r → Written o o' at form-words r
  form-written = part-written (λ z. z) S.words.now _ _ _ form-end (sym (map-id form-words))

-- ---- m accesses from access k on

pub accesses-parts : (S : NestSlices) (k m : ℕ)
    → counted access_words (accesses_on S k m) ≡ pos m ∷ spans (λ i. access_words (access_on S i)) k m
unfolding counted
accesses-parts S k m = ap₂ (λ j ws. pos j ∷ ws) (accesses-length S.words.now S.accessed.now S.extents.now S.depth k m)
    (accesses-spans S.words.now S.accessed.now S.extents.now S.depth k m)
