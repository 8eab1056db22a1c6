-- The whole text: its length, and that it is written; then that it is the model's listing where the marks are those of the lines that occur.
use mathlib.Core.Path.{◌≡◌, sym, ap, ap₂, ◌∙◌}
use mathlib.Core.Bool.{Bool, false, ◌||◌}
use mathlib.Core.List.{List, [], ◌∷◌, ◌++◌, append_assoc, flat_map}
use Prim.Native.Nat.{ℕ, ◌+◌, ◌*◌, ◌≤◌, ◌<◌}
use native.Mathlib.Nat.{zero-add, mul-le-mul}
use native.Mathlib.Omega.{arith}
use lib.IntN.{ℤ}
use lib.ListN.{length, get_or, take, length-append}
use lib.Seq.{length-take-le}
use borrow.Author.Tests.{le-leb, lt-leb}
use Rattle.std.specs.Prelude.{Some, None}
use Rattle.lists.specs.Parts.{put}
use Rattle.lists.specs.Tests.{select}
use Rattle.lists.proofs.PartLaws.{put-put, length-rows}
use Rattle.lists.proofs.TestLaws.{select-same-on}
use Rattle.model.specs.Ticket.{Statement, Nest}
use Rattle.model.specs.Points.{iterations}
use Rattle.model.specs.Machine.{Accesses, accesses}
use Rattle.model.specs.Directions.{occurs, all_lines, lines}
use Rattle.model.specs.Listing.{decimal, line_text, head_text, lines_of, listing}
use Rattle.model.specs.Grammar.{most_statements}
use Rattle.dependence_vectors.specs.Numbers.{place, marks_for}
use Rattle.dependence_search.specs.Flat.{Flat, points_of, Describes, Searched}
use Rattle.dependence_listing_text.specs.Text.{marked, shown, text, Field, Written}
use Rattle.dependence_listing_text.proofs.LineLaws.{text-length}

field-length : (b : List ℕ) (l n e : ℕ) → Field b l n e → length (decimal n ++ (e ∷ [])) ≡ l
field-length b l n e f = ap length (sym f.is) ∙ length-take-le l b (let s = f.six in let h = f.short in omega arith)

-- one part after another from the front
join : (o o₁ o₂ xs ys : List ℕ) (p : ℕ) → o₁ ≡ put o 0 xs → p ≡ length xs → length xs ≤ length o → o₂ ≡ put o₁ p ys → o₂ ≡ put o 0 (xs ++ ys)
join o o₁ o₂ xs ys p e i h f = f ∙ ap (λ w. put w p ys) e ∙ ap (λ q. put (put o 0 xs) q ys) (i ∙ sym (zero-add (length xs)))
    ∙ put-put o 0 xs ys (omega arith)

-- the head line as three fields
three-fields : (d n k : ℕ) → head_text d n k ≡ (decimal d ++ (32 ∷ [])) ++ ((decimal n ++ (32 ∷ [])) ++ (decimal k ++ (10 ∷ [])))
unfolding head_text
three-fields d n k = sym (append_assoc (decimal d) (32 ∷ []) ((decimal n ++ (32 ∷ [])) ++ (decimal k ++ (10 ∷ [])))
    ∙ ap (λ w. decimal d ++ (32 ∷ w)) (append_assoc (decimal n) (32 ∷ []) (decimal k ++ (10 ∷ []))))

module _ (m : List Bool) (s d n k a b c : ℕ) (A B C : List ℕ) (fa : Field A a d 32) (fb : Field B b n 32) (fc : Field C c k 10)
    (ke : k ≡ length (shown m s d)) (few : s ≤ most_statements) where
  abbrev field_a : List ℕ
  field_a = decimal d ++ (32 ∷ [])

  abbrev field_b : List ℕ
  field_b = decimal n ++ (32 ∷ [])

  abbrev field_c : List ℕ
  field_c = decimal k ++ (10 ∷ [])

  head-length : length (field_a ++ (field_b ++ field_c)) ≡ a + b + c
  head-length = let x = field-length A a d 32 fa in let y = field-length B b n 32 fb in let z = field-length C c k 10 fc in
      let u = length-append field_a (field_b ++ field_c) in let v = length-append field_b field_c in omega arith

  text-is : text m s d n ≡ (field_a ++ (field_b ++ field_c)) ++ flat_map line_text (shown m s d)
  unfolding text
  text-is = ap (◌++ flat_map line_text (shown m s d)) (ap (head_text d n) (sym ke) ∙ three-fields d n k)

  pub whole_length : length (text m s d n) ≡ (a + b + c) + k * (d + 7)
  whole_length = ap length text-is ∙ length-append (field_a ++ (field_b ++ field_c)) (flat_map line_text (shown m s d))
      ∙ ap₂ ◌+◌ head-length (text-length m s d few ∙ ap (◌* (d + 7)) (sym ke))

  pub whole-written : (o o₁ o₂ o₃ o₄ : List ℕ) (p q e : ℕ) → (a + b + c) + k * (d + 7) ≤ length o → o₁ ≡ put o 0 (take a A) → p ≡ 0 + a
      → o₂ ≡ put o₁ p (take b B) → q ≡ p + b → o₃ ≡ put o₂ q (take c C) → e ≡ q + c
      → o₄ ≡ put o₃ e (flat_map line_text (shown m s d)) → o₄ ≡ put o 0 (text m s d n)
  whole-written o o₁ o₂ o₃ o₄ p q e h e₁ pe e₂ qe e₃ ee e₄ =
      let x = field-length A a d 32 fa in let y = field-length B b n 32 fb in let z = field-length C c k 10 fc in let l = head-length in
      let g₁ : o₁ ≡ put o 0 field_a = e₁ ∙ ap (put o 0) fa.is in
      let g₂ : o₂ ≡ put o 0 (field_a ++ field_b) = join o o₁ o₂ field_a field_b p g₁ (omega arith) (omega arith) (e₂ ∙ ap (put o₁ p) fb.is) in
      let u = length-append field_a field_b in
      let g₃ : o₃ ≡ put o 0 ((field_a ++ field_b) ++ field_c) = join o o₂ o₃ (field_a ++ field_b) field_c q g₂ (omega arith) (omega arith)
      (e₃ ∙ ap (put o₂ q) fc.is) in
      let g₄ : o₃ ≡ put o 0 (field_a ++ (field_b ++ field_c)) = g₃ ∙ ap (put o 0) (append_assoc field_a field_b field_c) in
      join o o₃ o₄ (field_a ++ (field_b ++ field_c)) (flat_map line_text (shown m s d)) e g₄ (omega arith) (omega arith) e₄ ∙ ap (put o 0) (sym text-is)

pub size_fits : (k d : ℕ) → k ≤ marks_for most_statements → d ≤ 6 → k * (d + 7) ≤ marks_for most_statements * 13
size_fits k d h g = mul-le-mul h (let i : d + 7 ≤ 13 = omega arith in i)

pub fits : (t o o' : List ℕ) (n : ℕ) → length t ≡ n → n ≤ length o → o' ≡ put o 0 t → Written t o o' (Some n)
fits t o o' n e h f = let l = le-leb (length t) (length o) (omega arith) in record { count = rw l (ap Some (sym e)); bytes = rw l f }

pub short : (t o : List ℕ) (n : ℕ) → length t ≡ n → length o < n → Written t o o None
short t o n e h = let l = lt-leb (length t) (length o) (omega arith) in record { count = rw l; bytes = rw l }

-- ---- the model's listing

-- the listing of lines that occur, by its parts
listed : Accesses → ℕ → ℕ → List (List ℤ) → List ℕ
listed A n d ps = head_text d (length ps) (length (select (occurs A ps) (all_lines n d))) ++ flat_map line_text (select (occurs A ps) (all_lines n d))

module _ (ss : List Statement) (F : Flat) (m m' : List Bool) (d : Describes ss F) (clear : (j : ℕ) → get_or m j false ≡ false) (s : Searched F m m')
  where
    shown-occurs : shown m' F.body F.depth ≡ select (occurs (accesses ss) (points_of F)) (all_lines F.body F.depth)
    unfolding shown marked
    shown-occurs = select-same-on (marked m' F.body) (occurs (accesses ss) (points_of F)) (all_lines F.body F.depth)
        (λ l h. s.lines ss d l h ∙ ap (◌|| occurs (accesses ss) (points_of F) l) (clear (place F.body l)))

    text-listed : text m' F.body F.depth F.count ≡ listed (accesses ss) F.body F.depth (points_of F)
    unfolding text listed
    text-listed = ap (λ ls. head_text F.depth F.count (length ls) ++ flat_map line_text ls) shown-occurs
        ∙ ap (λ c. head_text F.depth c (length (select (occurs (accesses ss) (points_of F)) (all_lines F.body F.depth))) ++ flat_map line_text
        (select (occurs (accesses ss) (points_of F)) (all_lines F.body F.depth)))
        (sym (length-rows F.depth F.count F.points))

-- of marks that were clear before the search
pub text-listing : (N : Nest) (F : Flat) (m m' : List Bool) → Describes N.statements F → F.depth ≡ length N.loops
    → points_of F ≡ iterations N.loops
    → ((j : ℕ) → get_or m j false ≡ false) → Searched F m m' → text m' F.body F.depth F.count ≡ listing N
unfolding listing lines_of lines listed
text-listing N F m m' d e p clear s = text-listed N.statements F m m' d clear s ∙ (λ i. listed (accesses N.statements) (d.body i) (e i) (p i))
