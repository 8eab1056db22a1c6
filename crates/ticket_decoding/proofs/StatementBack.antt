-- The statements of a flat nest, from its accesses and its numbers.
use mathlib.Core.Path.{◌≡◌, refl, sym, ap, ap₂, ◌∙◌, subst}
use mathlib.Core.List.Memᴰ
use mathlib.Core.List.{List, [], ◌∷◌, ◌++◌, map, flat_map}
use Prim.Native.Nat.{ℕ, suc, ◌+◌, ◌-◌, ◌<◌}
use native.Mathlib.Omega.{arith}
use native.Mathlib.Nat.{add-zero}
use lib.ListN.{length, get_or, take, drop, length-append, get_or-append}
use lib.Seq.{get_or-append-add}
use Rattle.lists.specs.Membership.{All}
use Rattle.lists.proofs.MembershipLaws.{length-one}
use Rattle.model.specs.Ticket.{Access, Statement}
use Rattle.model.specs.Bounds.{accesses_of}
use Rattle.model.specs.Store.{sum}
use Rattle.nest_flat.specs.Layout.{access_at, accesses_from}
use Rattle.nest_flat.specs.FlatNests.{FlatNest, extents_in, accessed_in, words_in, statements_from}
use Rattle.ticket_statements.specs.Laid.{accesses_in}
use Rattle.ticket_arrays.proofs.RowLaws.{part-head, part-tail}
use Rattle.ticket_statements.proofs.AccessBack.{accesses-back}

abbrev pub no-access : Access
no-access = record { array = 0; subscripts = [] }

pub sum-sizes : (ss : List Statement) → sum (map (λ s. length (accesses_of s)) ss) ≡ length (accesses_in ss)
unfolding sum accesses_in flat_map
sum-sizes [] = refl
sum-sizes (s ∷ ss) = let e = sum-sizes ss in let f = length-append (accesses_of s) (accesses_in ss) in omega arith

by_parts : (r c : ℕ) (ws rs : List Access) (s : Statement) → r ≡ s.rule → c ≡ s.constant → ws ≡ s.writes → rs ≡ s.reads
    → ◌≡◌ {A = Statement} (record { rule = r; constant = c; writes = ws; reads = rs }) s
by_parts r c ws rs s e f g h = rw (e, f, g, h)

-- access k of all
abbrev at : FlatNest → ℕ → Access
at P k = access_at (words_in P) (accessed_in P) (extents_in P) P.depth k

-- the accesses from access k on are these
abbrev pub Stand : FlatNest → ℕ → List Access → Type 0
Stand P k xs = (j : ℕ) → j < length xs → at P (k + j) ≡ get_or xs j no-access

module _ (P : FlatNest) where
  first-stands : (k : ℕ) (x : Access) (xs : List Access) → Stand P k (x ∷ xs) → at P k ≡ x
  first-stands k x xs h = ap (at P) (sym (add-zero k)) ∙ h 0 (omega arith)

  next-stand : (k : ℕ) (x : Access) (xs : List Access) → Stand P k (x ∷ xs) → Stand P (suc k) xs
  next-stand k x xs h j g = let e : suc k + j ≡ k + suc j = omega arith in ap (at P) e ∙ h (suc j) (omega arith)

  front-stand : (k : ℕ) (xs ys : List Access) → Stand P k (xs ++ ys) → Stand P k xs
  front-stand k xs ys h j g = let n = length-append xs ys in h j (omega arith) ∙ get_or-append xs ys no-access j g

  back-stand : (k m : ℕ) (xs ys : List Access) → length xs ≡ m → Stand P k (xs ++ ys) → Stand P (k + m) ys
  back-stand k m xs ys z h j g =
      let n = length-append xs ys in
      let e : k + m + j ≡ k + (length xs + j) = omega arith in
      ap (at P) e ∙ h (length xs + j) (omega arith) ∙ get_or-append-add xs ys j no-access

  pub statements-back : (ss : List Statement) (k i : ℕ) → Stand P k (accesses_in ss)
      → take (length ss) (drop i P.rules) ≡ map (λ (s : Statement). s.rule) ss
      → take (length ss) (drop i P.constants) ≡ map (λ (s : Statement). s.constant) ss → All (λ (s : Statement). length s.writes ≡ 1) ss
      → statements_from P k i (map (λ s. length (accesses_of s)) ss) ≡ ss
  unfolding statements_from accesses_in accesses_of flat_map
  statements-back [] k i h r c o = refl
  statements-back (s ∷ ss) k i h r c o =
      let f = length-one s.writes (o s (Memᴰ.head refl)) in
      let x = f.0 in
      let q : accesses_of s ≡ x ∷ s.reads = ap (◌++ s.reads) f.1 in
      let m = length (accesses_of s) in
      let n : m - 1 ≡ length s.reads = omega (arith, ap length q) in
      let own : Stand P k (x ∷ s.reads) = subst (Stand P k) q (front-stand k (accesses_of s) (accesses_in ss) h) in
      let e : suc i ≡ i + 1 = omega arith in
      ap₂ ◌∷◌
      (by_parts (get_or P.rules i 0) (get_or P.constants i 0) (at P k ∷ []) (accesses_from (words_in P) (accessed_in P) (extents_in P) P.depth
      (suc k) (m - 1)) s
      (part-head i (length ss) P.rules s.rule (map (λ (t : Statement). t.rule) ss) 0 r)
      (part-head i (length ss) P.constants s.constant (map (λ (t : Statement). t.constant) ss) 0 c)
      (ap (◌∷ []) (first-stands k x s.reads own) ∙ sym f.1)
      (ap (accesses_from (words_in P) (accessed_in P) (extents_in P) P.depth (suc k)) n
      ∙ accesses-back (words_in P) (accessed_in P) (extents_in P) P.depth (suc k) s.reads no-access (next-stand k x s.reads own)))
      (statements-back ss (k + m) (suc i) (back-stand k m (accesses_of s) (accesses_in ss) refl h)
      (ap (λ j. take (length ss) (drop j P.rules)) e ∙ part-tail i (length ss) P.rules s.rule (map (λ (t : Statement). t.rule) ss) r)
      (ap (λ j. take (length ss) (drop j P.constants)) e ∙ part-tail i (length ss) P.constants s.constant
      (map (λ (t : Statement). t.constant) ss) c)
      (λ t j. o t (Memᴰ.tail j)))
