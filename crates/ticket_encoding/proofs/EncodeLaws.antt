-- The bytes of a whole nest. In order: its sections, written one after another; room for its bytes, and what stands in the buffer when they
-- are written; the nest on a flat nest.
use mathlib.Core.Path.{◌≡◌, refl, sym, ap, ◌∙◌, subst}
use mathlib.Core.List.{List, [], ◌∷◌, ◌++◌}
use Prim.Native.Nat.{ℕ, suc, ◌+◌, ◌≤◌, ◌<◌}
use native.Mathlib.Omega.{arith}
use lib.IntN.{ℤ, pos}
use lib.ListN.{length, get_or}
use Rattle.std.specs.Prelude.{Result, Ok, Err}
use Rattle.lists.specs.Membership.{All}
use Rattle.lists.proofs.MembershipLaws.{all_nil, all_cons, all_append}
use Rattle.lists.proofs.PartLaws.{put_all}
use Rattle.model.specs.Ticket as Model
use Rattle.model.specs.Words.{bytes_of}
use Rattle.model.specs.Encode.{counted, loop_words, array_words, statement_words, nest_words, encode}
use Rattle.model.specs.Ranges.{Small}
use Rattle.model.proofs.Grammar.RoundTripLaws.{encode-length, nest-small}
use Rattle.nest_flat.specs.Flat.{loops_from}
use Rattle.nest_flat.specs.Layout.{arrays_of}
use Rattle.nest_flat.specs.FlatNests.{FlatNest, extents_in, sizes_in, accessed_in, words_in, statements_from, nest_of}
use Rattle.ticket_encoding_words.specs.Writing.{Writable, Written}
use Rattle.ticket_lengths.specs.Slices.{statement_at, statements_at, nest_at}
use Rattle.ticket_encoding.specs.declared.NestSlices.{NestSlices}
use Rattle.ticket_encoding.specs.declared.TooShort.{TooShort}
use Rattle.ticket_encoding.specs.Nests.{statements_on, nest_on}
use Rattle.ticket_encoding.specs.Encodable.{FlatNestEncodable}
use Rattle.ticket_encoding.specs.Encoding.{Encodes}
use Rattle.ticket_encoding.proofs.StatementLaws.{first, second, third, fourth, four}
use Rattle.model.proofs.Grammar.WordLaws.{nest_sections, sections-then}

-- ---- sections

module _ (S : NestSlices) where
  abbrev loops : List ℤ
  loops = counted loop_words (loops_from S.limits.now S.counts.now 0 S.depth)

  abbrev arrays : List ℤ
  arrays = counted array_words (arrays_of S.arrays.now)

  abbrev statements : List ℤ
  statements = counted statement_words (statements_on S)

  module _ {out : List ℕ} {at : ℕ} (h : Writable out at (nest_words (nest_on S))) where
    pub loops-room : Writable out at loops
    unfolding nest_words nest_at
    loops-room = first loops arrays statements (pos 0 ∷ []) h

    module _ {o₁ : List ℕ} {p : ℕ} (v₁ : Written out o₁ at loops p) where
      pub arrays-room : Writable o₁ p arrays
      unfolding nest_words nest_at
      arrays-room = second loops arrays statements (pos 0 ∷ []) h v₁

      module _ {o₂ : List ℕ} {q : ℕ} (v₂ : Written o₁ o₂ p arrays q) where
        pub statements-room : Writable o₂ q statements
        unfolding nest_words nest_at
        statements-room = third loops arrays statements (pos 0 ∷ []) h v₁ v₂

        module _ {o₃ : List ℕ} {r : ℕ} (v₃ : Written o₂ o₃ q statements r) where
          pub steps-room : Writable o₃ r (pos 0 ∷ [])
          unfolding nest_words nest_at
          steps-room = fourth loops arrays statements (pos 0 ∷ []) h v₁ v₂ v₃

          pub sections-written : {o₄ : List ℕ} {t : ℕ} → Written o₃ o₄ r (pos 0 ∷ []) t → Written out o₄ at (nest_words (nest_on S)) t
          unfolding nest_words nest_at
          sections-written v₄ = four loops arrays statements (pos 0 ∷ []) h v₁ v₂ v₃ v₄

-- ---- bytes

module _ (N : Model.Nest) (o : List ℕ) (n : ℕ) (e : n ≡ length (encode N)) where
  pub nest-writable : n ≤ length o → All Small (nest_words N) → Writable o 0 (nest_words N)
  nest-writable h i = let q = encode-length N in record { room = omega arith; small = i }

  pub nest-written : {o' : List ℕ} {r : ℕ} → n ≤ length o → Written o o' 0 (nest_words N) r → Encodes N o o' (Ok r)
  unfolding encode
  nest-written h w = let q = encode-length N in let p = w.next in (w.same ∙ put_all o (bytes_of (nest_words N)), omega arith, omega arith)

  pub nest-long : length o < n → Encodes N o o (Err (record { needed = n }))
  nest-long h = (refl, e, omega arith)

nest-sections : (N : Model.Nest) → nest_sections N ++ (pos 0 ∷ []) ≡ nest_words N
unfolding nest_words
nest-sections N = sym (sections-then N (pos 0 ∷ []))

-- ---- a flat nest

module _ (P : FlatNest) where
  statements-same : (k i : ℕ) (ms : List ℕ) → statements_at (words_in P) (accessed_in P) (extents_in P) P.depth P.rules P.constants k i ms ≡
      statements_from P k i ms
  unfolding statements_at statement_at statements_from
  statements-same k i [] = refl
  statements-same k i (m ∷ ms) = ap (statement_at (words_in P) (accessed_in P) (extents_in P) P.depth k m (get_or P.rules i 0)
      (get_or P.constants i 0) ∷◌) (statements-same (k + m) (suc i) ms)

  -- the nest of its slices
  nest-same : nest_at P.limits P.counts P.depth (extents_in P) (extents_in P) (sizes_in P) P.rules P.constants (accessed_in P) (words_in P)
      ≡ nest_of P
  unfolding nest_at nest_of
  nest-same = ap (λ ss. record { loops = loops_from P.limits P.counts 0 P.depth; arrays = arrays_of (extents_in P); statements = ss })
      (statements-same 0 0 (sizes_in P))

  -- its words are within ±32767
  pub flat-nest-small : FlatNestEncodable P → All Small (nest_words (nest_at P.limits P.counts P.depth (extents_in P) (extents_in P) (sizes_in P)
      P.rules P.constants (accessed_in P) (words_in P)))
  flat-nest-small p = subst (λ N. All Small (nest_words N)) (sym nest-same) (subst (All Small) (nest-sections (nest_of P))
      (all_append Small (nest_sections (nest_of P)) (pos 0 ∷ []) (nest-small (nest_of P) (omega arith) (omega arith) p.ranges p.formed)
      (all_cons Small (omega arith) (all_nil Small))))

  pub flat-nest-encodes : (o o' : List ℕ) (r : Result ℕ TooShort) → Encodes (nest_at P.limits P.counts P.depth (extents_in P) (extents_in P)
      (sizes_in P) P.rules P.constants (accessed_in P) (words_in P)) o o' r → Encodes (nest_of P) o o' r
  flat-nest-encodes o o' r h = subst (λ N. Encodes N o o' r) nest-same h
