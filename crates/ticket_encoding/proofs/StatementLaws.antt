-- Statements on their slices. In order: four parts written one after another; one statement; all statements.
use mathlib.Core.Path.{◌≡◌, refl, sym, ap, ap₂, ◌∙◌, subst}
use mathlib.Core.List.{List, [], ◌∷◌, ◌++◌, flat_map}
use Prim.Native.Nat.{ℕ, zero, suc, ◌+◌, ◌-◌, ◌≤◌, ◌<◌}
use native.Mathlib.Numerals.{add-one}
use native.Mathlib.Omega.{arith}
use lib.IntN.{ℤ, pos}
use lib.ListN.{length, get_or, take, drop}
use lib.Seq.{drop-cons, drop-length}
use Rattle.lists.proofs.MembershipLaws.{all_get_d}
use Rattle.lists.proofs.FlatMapLaws.{flat_map-one}
use Rattle.model.specs.Encode.{counted, access_words, statement_words}
use Rattle.model.specs.Ticket.{Statement}
use Rattle.model.specs.Store.{sum}
use Rattle.model.specs.Grammar.{most_accesses}
use Rattle.ticket_encoding_words.specs.Writing.{Writable, Written}
use Rattle.ticket_encoding_words.proofs.WritingLaws.{spans, writable-left, writable-right, written_both, Filling, front-next, front-more}
use Rattle.ticket_lengths.specs.Slices.{statement_at, statements_at}
use Rattle.ticket_encoding.specs.declared.NestSlices.{NestSlices}
use Rattle.ticket_encoding.specs.Nests.{access_on, accesses_on, statement_on, statements_on}

-- ---- four parts

module _ {o : List ℕ} {at : ℕ} (as' bs cs ds : List ℤ) (h : Writable o at (as' ++ (bs ++ (cs ++ ds)))) where
  pub first : Writable o at as'
  first = writable-left as' (bs ++ (cs ++ ds)) h

  module _ {o₁ : List ℕ} {p : ℕ} (v₁ : Written o o₁ at as' p) where
    rest : Writable o₁ p (bs ++ (cs ++ ds))
    rest = writable-right as' (bs ++ (cs ++ ds)) h v₁

    pub second : Writable o₁ p bs
    second = writable-left bs (cs ++ ds) rest

    module _ {o₂ : List ℕ} {q : ℕ} (v₂ : Written o₁ o₂ p bs q) where
      rest₂ : Writable o₂ q (cs ++ ds)
      rest₂ = writable-right bs (cs ++ ds) rest v₂

      pub third : Writable o₂ q cs
      third = writable-left cs ds rest₂

      module _ {o₃ : List ℕ} {r : ℕ} (v₃ : Written o₂ o₃ q cs r) where
        pub fourth : Writable o₃ r ds
        fourth = writable-right cs ds rest₂ v₃

        pub four : {o₄ : List ℕ} {s : ℕ} → Written o₃ o₄ r ds s → Written o o₄ at (as' ++ (bs ++ (cs ++ ds))) s
        four v₄ = written_both as' (bs ++ (cs ++ ds)) h v₁ (written_both bs (cs ++ ds) rest v₂ (written_both cs ds rest₂ v₃ v₄))

-- ---- statement i, if its first access is access k

module _ (S : NestSlices) (i k : ℕ) where
  abbrev rule : List ℤ
  rule = pos (get_or S.rules.now i 0) ∷ []

  abbrev constant : List ℤ
  constant = pos (get_or S.constants.now i 0) ∷ []

  abbrev write : List ℤ
  write = access_words (access_on S k)

  abbrev reads : List ℤ
  reads = counted access_words (accesses_on S (k + 1) (get_or S.sizes.now i 0 - 1))

  statement-parts : statement_words (statement_on S i k) ≡ rule ++ (constant ++ (write ++ reads))
  unfolding statement_words statement_at
  statement-parts =
      ap₂ (λ us j. rule ++ (constant ++ (us ++ counted access_words (accesses_on S j (get_or S.sizes.now i 0 - 1)))))
      (flat_map-one access_words (access_on S k)) (sym (add-one k))

  pub some-accesses : i < length S.sizes.now → 1 ≤ get_or S.sizes.now i 0
  some-accesses h = all_get_d (λ m. 1 ≤ m) S.sizes.now i 0 S.held.each h

  module _ {out : List ℕ} {at : ℕ} (h : Writable out at (statement_words (statement_on S i k))) where
    split : Writable out at (rule ++ (constant ++ (write ++ reads)))
    split = subst (Writable out at) statement-parts h

    pub rule-room : Writable out at rule
    rule-room = first rule constant write reads split

    module _ {o₁ : List ℕ} {p : ℕ} (v₁ : Written out o₁ at rule p) where
      pub constant-room : Writable o₁ p constant
      constant-room = second rule constant write reads split v₁

      module _ {o₂ : List ℕ} {q : ℕ} (v₂ : Written o₁ o₂ p constant q) where
        pub write-room : Writable o₂ q write
        write-room = third rule constant write reads split v₁ v₂

        module _ {o₃ : List ℕ} {s : ℕ} (v₃ : Written o₂ o₃ q write s) where
          pub reads-room : Writable o₃ s reads
          reads-room = fourth rule constant write reads split v₁ v₂ v₃

          pub statement-written : {o₄ : List ℕ} {t : ℕ} → Written o₃ o₄ s reads t → Written out o₄ at (statement_words (statement_on S i k)) t
          statement-written {o₄} {t} v₄ = subst (λ ws. Written out o₄ at ws t) (sym statement-parts)
              (four rule constant write reads split v₁ v₂ v₃ v₄)

-- ---- all statements

-- the accesses before statement i
sum-next : (ms : List ℕ) (i : ℕ) → i < length ms → sum (take (i + 1) ms) ≡ sum (take i ms) + get_or ms i 0
unfolding sum
sum-next [] i h = absurd (omega arith)
sum-next (m ∷ ms) zero h = omega arith
sum-next (m ∷ ms) (suc i) h = let e = sum-next ms i (omega arith) in let q : suc i + 1 ≡ suc (i + 1) = omega arith in
    ap (λ j. sum (take j (m ∷ ms))) q ∙ omega arith

sum-most : (ms : List ℕ) (i : ℕ) → i < length ms → sum (take i ms) + get_or ms i 0 ≤ sum ms
unfolding sum
sum-most [] i h = absurd (omega arith)
sum-most (m ∷ ms) zero h = omega arith
sum-most (m ∷ ms) (suc i) h = let e = sum-most ms i (omega arith) in omega arith

module _ (S : NestSlices) where
  -- statement i of all
  abbrev pub part : ℕ → List ℤ
  part i = statement_words (statement_on S i (sum (take i S.sizes.now)))

  abbrev from : ℕ → ℕ → List Statement
  from k i = statements_at S.words.now S.accessed.now S.extents.now S.depth S.rules.now S.constants.now k i (drop i S.sizes.now)

  -- j statements from statement i on
  statements-flat : (j i k : ℕ) → i + j ≡ length S.sizes.now → k ≡ sum (take i S.sizes.now) → flat_map statement_words (from k i) ≡ spans part i j
  unfolding statements_at spans flat_map
  statements-flat zero i k e q = let f : i ≡ length S.sizes.now = omega arith in
      ap (λ l. flat_map statement_words (statements_at S.words.now S.accessed.now S.extents.now S.depth S.rules.now S.constants.now k i l))
      (ap (λ x. drop x S.sizes.now) f ∙ drop-length S.sizes.now)
  statements-flat (suc j) i k e q =
      let h : i < length S.sizes.now = omega arith in
      let s : k + get_or S.sizes.now i 0 ≡ sum (take (suc i) S.sizes.now) = ap (◌+ get_or S.sizes.now i 0) q ∙ sym (sum-next S.sizes.now i h)
      ∙ ap (λ x. sum (take x S.sizes.now)) (add-one i) in
      ap (λ l. flat_map statement_words (statements_at S.words.now S.accessed.now S.extents.now S.depth S.rules.now S.constants.now k i l))
      (drop-cons S.sizes.now i 0 h)
      ∙ ap₂ ◌++◌ (ap (λ x. statement_words (statement_on S i x)) q)
      (statements-flat j (suc i) (k + get_or S.sizes.now i 0) (omega arith) s)

  statements-count : (k i : ℕ) (l : List ℕ)
      → length (statements_at S.words.now S.accessed.now S.extents.now S.depth S.rules.now S.constants.now k i l) ≡ length l
  unfolding statements_at
  statements-count k i [] = refl
  statements-count k i (m ∷ l) = ap suc (statements-count (k + m) (suc i) l)

  pub statements-parts : counted statement_words (statements_on S) ≡ pos (length S.sizes.now) ∷ spans part 0 (length S.sizes.now)
  unfolding counted sum
  statements-parts = ap₂ (λ j ws. pos j ∷ ws) (statements-count 0 0 S.sizes.now) (statements-flat (length S.sizes.now) 0 0 (omega arith) refl)

-- ---- a loop that writes them: after i of them, k accesses are written

pub record Reached (S : NestSlices) (out₀ : List ℕ) (at : ℕ) (out : List ℕ) (next k i : ℕ) : Type 0 where
  pub filling : Filling (part S) out₀ at 0 (length S.sizes.now) out next i
  pub before-it : k ≡ sum (take i S.sizes.now)

module _ {S : NestSlices} {out₀ : List ℕ} {at : ℕ} where
  pub reach-start : Filling (part S) out₀ at 0 (length S.sizes.now) out₀ at 0 → Reached S out₀ at out₀ at 0 0
  unfolding sum
  reach-start f = record { filling = f; before-it = refl }

  module _ {out : List ℕ} {next k i : ℕ} (l : Reached S out₀ at out next k i) (h : i < length S.sizes.now) where
    pub reach-room : Writable out next (statement_words (statement_on S i k))
    reach-room = subst (λ x. Writable out next (statement_words (statement_on S i x))) (sym l.before-it) (front-next l.filling h)

    -- its accesses are there
    pub reach-there : k + get_or S.sizes.now i 0 ≤ length S.accessed.now
    reach-there = let e = l.before-it in let s = sum-most S.sizes.now i h in let t = S.held.all-accesses in omega arith

    -- no sum is too large
    pub reach-small : k + get_or S.sizes.now i 0 ≤ most_accesses
    reach-small = let t = reach-there in let m = S.held.accesses.many in omega arith

    pub reach-more : {out' : List ℕ} {q : ℕ} → Written out out' next (statement_words (statement_on S i k)) q
        → Reached S out₀ at out' q (k + get_or S.sizes.now i 0) (i + 1)
    reach-more {out'} {q} v = let e = l.before-it in let s = sum-next S.sizes.now i h in record {
      filling = front-more l.filling h (subst (λ x. Written out out' next (statement_words (statement_on S i x)) q) e v);
      before-it = omega arith;
    }
