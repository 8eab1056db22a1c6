-- Words in bytes: a word that is there or truncated; words that follow one another (`Spells`), joined and parted; the bytes of words
-- spell them, and bytes that spell words are theirs.
use mathlib.Core.Path.{◌≡◌, refl, sym, ap, ap₂, ◌∙◌, subst}
use mathlib.Core.List.Memᴰ
use mathlib.Core.List.{List, [], ◌∷◌, ◌++◌, flat_map, append_assoc}
use Prim.Native.Nat.{ℕ, suc, ◌+◌, ◌*◌, ◌-◌, ◌/◌, ◌%◌, ◌≤◌, ◌<◌}
use native.Mathlib.Nat.{zero-add, div-add-mod', mod-eq_of_lt, div-eq_of_lt, add-mul-div_left, add-mul-mod_self_left}
use native.Mathlib.Omega.{arith}
use lib.Dec.{ltb}
use lib.IntN.{ℤ, pos, negsuc}
use lib.ListN.{length, drop, length-drop}
use lib.Seq.{drop-drop, drop_at}
use borrow.Author.Tests.{lt-ltb, le-ltb}
use Rattle.lists.specs.Membership.{All}
use Rattle.lists.proofs.MembershipLaws.{all_drop}
use Rattle.lists.proofs.TestLaws.{cond_cases}
use Rattle.lists.proofs.FlatMapLaws.{flat_map-append, length-flat_map-even}
use Rattle.model.specs.Answer.{accepted}
use Rattle.model.specs.Words.{signed, first_word, word_at, bits, word_bytes, bytes_of}
use Rattle.model.specs.Ticket.{Nest}
use Rattle.model.specs.Encode.{counted, loop_words, array_words, statement_words, sections_then}
use Rattle.model.specs.Ranges.{Small}
use Rattle.model.proofs.Answers.AnswerLaws.{not-both, accepted-same, Leads}

-- ---- one word

-- words before number k are there
pub record Reaches (b : List ℕ) (k : ℕ) : Type 0 where
  pub first : 1 ≤ k
  pub there : (k - 1) * 2 ≤ length b

pub reaches-first : (b : List ℕ) → Reaches b 1
reaches-first b = record { first = omega arith; there = omega arith }

pub record Truncated (b : List ℕ) (k n p : ℕ) : Type 0 where
  pub number : n ≡ 1
  pub place : p ≡ k
  pub short : length b < k * 2

first-word : (b l : List ℕ) (k : ℕ) → 1 ≤ k → (k - 1) * 2 + length l ≡ length b → Leads (λ w. k * 2 ≤ length b) (Truncated b k) (first_word k l)
unfolding first_word
first-word b [] k h e = record { number = refl; place = refl; short = omega arith }
first-word b (lo ∷ []) k h e = record { number = refl; place = refl; short = omega arith }
first-word b (lo ∷ hi ∷ rest) k h e = omega arith

-- word k is there, or it is truncated
pub word-there : (b : List ℕ) (k : ℕ) → Reaches b k → Leads (λ w. k * 2 ≤ length b) (Truncated b k) (word_at b k)
unfolding word_at
word-there b k r = first-word b (drop ((k - 1) * 2) b) k r.first (simp length-drop (omega arith))

-- ---- words that follow one another

-- the words of the bytes from number k on begin with these
abbrev pub Spells : List ℕ → ℕ → List ℤ → Type 0
Spells b k [] = Unit {0}
Spells b k (w ∷ ws) = (word_at b k ≡ accepted w) × Spells b (suc k) ws

pub spells-append : (b : List ℕ) (k : ℕ) (us vs : List ℤ) → Spells b k us → Spells b (k + length us) vs → Spells b k (us ++ vs)
spells-append b k [] vs h g = subst (λ j. Spells b j vs) (omega arith) g
spells-append b k (u ∷ us) vs h g = (h.0, spells-append b (suc k) us vs h.1 (subst (λ j. Spells b j vs) (omega arith) g))

pub spells-left : (b : List ℕ) (k : ℕ) (us vs : List ℤ) → Spells b k (us ++ vs) → Spells b k us
spells-left b k [] vs h = tt
spells-left b k (u ∷ us) vs h = (h.0, spells-left b (suc k) us vs h.1)

pub spells-right : (b : List ℕ) (k : ℕ) (us vs : List ℤ) → Spells b k (us ++ vs) → Spells b (k + length us) vs
spells-right b k [] vs h = subst (λ j. Spells b j vs) (omega arith) h
spells-right b k (u ∷ us) vs h = subst (λ j. Spells b j vs) (omega arith) (spells-right b (suc k) us vs h.1)

pub spells-reach : (b : List ℕ) (k : ℕ) (ws : List ℤ) → Reaches b k → Spells b k ws → Reaches b (k + length ws)
spells-reach b k [] r h = subst (Reaches b) (omega arith) r
spells-reach b k (w ∷ ws) r h =
    let t : k * 2 ≤ length b = subst (Leads (λ w. k * 2 ≤ length b) (Truncated b k)) h.0 (word-there b k r) in
    subst (Reaches b) (omega arith) (spells-reach b (suc k) ws (record { first = omega arith; there = omega arith }) h.1)

-- ---- the sections of a nest

abbrev pub nest_sections : Nest → List ℤ
nest_sections N = counted loop_words N.loops ++ (counted array_words N.arrays ++ counted statement_words N.statements)

pub sections-then : (N : Nest) (ws : List ℤ) → sections_then N ws ≡ nest_sections N ++ ws
sections-then N ws = let ls = counted loop_words N.loops in let as' = counted array_words N.arrays in
    let ss = counted statement_words N.statements in
    sym (append_assoc ls (as' ++ ss) ws ∙ ap (ls ++◌) (append_assoc as' ss ws))

-- ---- bytes of words

pub bytes-append : (us vs : List ℤ) → bytes_of (us ++ vs) ≡ bytes_of us ++ bytes_of vs
unfolding bytes_of
bytes-append us vs = flat_map-append word_bytes us vs

pub length-bytes : (ws : List ℤ) → length (bytes_of ws) ≡ length ws * 2
unfolding bytes_of word_bytes
length-bytes ws = length-flat_map-even word_bytes 2 ws (λ x m. refl)

signed-bits : (z : ℤ) → Small z → signed (bits z) ≡ z
unfolding signed bits
signed-bits (pos n) h = rw (lt-ltb n 32768 (omega arith))
signed-bits (negsuc n) h = rw (le-ltb (65535 - n) 32768 (omega arith)) (ap negsuc (omega arith))

word_read : (k : ℕ) (z : ℤ) (rest : List ℕ) → Small z → first_word k (word_bytes z ++ rest) ≡ accepted z
unfolding first_word word_bytes
word_read k z rest h = ap (λ v. accepted (signed v)) (omega (arith, div-add-mod' (bits z) 256)) ∙ ap accepted (signed-bits z h)

-- bytes that go on, before word k on, with those of small words spell them from there on
pub bytes-spell : (b rest : List ℕ) (k : ℕ) (ws : List ℤ) → 1 ≤ k → drop ((k - 1) * 2) b ≡ bytes_of ws ++ rest → All Small ws → Spells b k ws
unfolding bytes_of word_at flat_map
bytes-spell b rest k [] h e s = tt
bytes-spell b rest k (w ∷ ws) h e s =
    let f : drop ((k - 1) * 2) b ≡ word_bytes w ++ (bytes_of ws ++ rest) = e ∙ append_assoc (word_bytes w) (bytes_of ws) rest in
    let n : (suc k - 1) * 2 ≡ (k - 1) * 2 + 2 = omega arith in
    let g : drop ((suc k - 1) * 2) b ≡ bytes_of ws ++ rest =
    ap (λ i. drop i b) n ∙ sym (drop-drop 2 ((k - 1) * 2) b) ∙ ap (drop 2) f ∙ drop_at (word_bytes w) (bytes_of ws ++ rest) 2 (two w) in (
      ap (first_word k) f ∙ word_read k w (bytes_of ws ++ rest) (s w (Memᴰ.head refl)),
      bytes-spell b rest (suc k) ws (omega arith) g
          (λ x m. s x (Memᴰ.tail m)),
    )
  where
    two : (w : ℤ) → length (word_bytes w) ≡ 2
    two w = unfold word_bytes in refl

-- ---- bytes back from words

abbrev pub Byte : ℕ → Type 0
Byte x = x < 256

bits-signed : (v : ℕ) → v < 65536 → bits (signed v) ≡ v
unfolding bits signed
bits-signed v h = cond_cases (λ z. bits z ≡ v) (ltb v 32768) (pos v) (negsuc (65535 - v)) (λ _. refl) (λ _. omega arith)

word-bytes : (lo hi : ℕ) → Byte lo → Byte hi → word_bytes (signed (lo + 256 * hi)) ≡ lo ∷ hi ∷ []
unfolding word_bytes
word-bytes lo hi l h = let e = bits-signed (lo + 256 * hi) (omega arith) in
    ap₂ (λ x y. x ∷ y ∷ []) (ap (◌% 256) e ∙ add-mul-mod_self_left lo 256 hi ∙ mod-eq_of_lt l)
    (ap (◌/ 256) e ∙ add-mul-div_left lo hi (omega arith) ∙ ap (◌+ hi) (div-eq_of_lt l) ∙ zero-add hi)

word_back : (k : ℕ) (l : List ℕ) (w : ℤ) → All Byte l → first_word k l ≡ accepted w → l ≡ word_bytes w ++ drop 2 l
unfolding first_word
word_back k [] w h e = not-both (sym e)
word_back k (lo ∷ []) w h e = not-both (sym e)
word_back k (lo ∷ hi ∷ rest) w h e = ap (◌++ rest) (sym (word-bytes lo hi (h lo (Memᴰ.head refl))
    (h hi (Memᴰ.tail (Memᴰ.head refl)))) ∙ ap word_bytes (accepted-same e))

-- bytes that spell words from number k on go on with the bytes of those words
pub spelled-bytes : (b : List ℕ) (k : ℕ) (ws : List ℤ) → 1 ≤ k → All Byte b → Spells b k ws
    → drop ((k - 1) * 2) b ≡ bytes_of ws ++ drop ((k + length ws - 1) * 2) b
unfolding bytes_of flat_map word_at
spelled-bytes b k [] h a s = let e : (k - 1) * 2 ≡ (k + 0 - 1) * 2 = omega arith in ap (λ n. drop n b) e
spelled-bytes b k (w ∷ ws) h a s =
    let m : (k - 1) * 2 + 2 ≡ (suc k - 1) * 2 = omega arith in
    let n : (suc k + length ws - 1) * 2 ≡ (k + suc (length ws) - 1) * 2 = omega arith in
    word_back k (drop ((k - 1) * 2) b) w (all_drop Byte ((k - 1) * 2) b a) s.0
    ∙ ap (word_bytes w ++◌) (drop-drop 2 ((k - 1) * 2) b ∙ ap (λ i. drop i b) m ∙ spelled-bytes b (suc k) ws (omega arith) a s.1 ∙ ap
    (λ i. bytes_of ws ++ drop i b) n)
    ∙ sym (append_assoc (word_bytes w) (bytes_of ws) (drop ((k + suc (length ws) - 1) * 2) b))
