-- The vectors of all rows of marks are those of the lines that are marked. In order: a row of marks; rows merged one by one; the rows of all
-- lines; the directions of a nest.
use mathlib.Core.Path.{◌≡◌, refl, sym, ◌∙◌, ap, subst}
use mathlib.Core.Bool.{Bool, false}
use mathlib.Core.Logic.{⊎_elim}
use mathlib.Core.List.Memᴰ
use mathlib.Core.List.{List, [], ◌++◌, map, flat_map}
use Prim.Native.Nat.{ℕ, zero, suc, ◌+◌, ◌*◌, ◌-◌, ◌/◌, ◌%◌, ◌≤◌, ◌<◌}
use native.Mathlib.Omega.{arith}
use native.Mathlib.Numerals.{add-one}
use lib.Dec.{T}
use lib.ListN.{length, get_or, take, drop, length-take, length-drop}
use lib.Seq.{get_or-take, get_or-drop}
use Rattle.integers.specs.Sign.{Sign}
use Rattle.lists.specs.Membership.{Mem, SameMembers}
use Rattle.lists.specs.Parts.{rows}
use Rattle.lists.proofs.MembershipLaws.{mem-get_d, get_d-mem, members-trans}
use Rattle.lists.proofs.FlatMapLaws.{flat_map-mem, mem-flat_map, flat_map-snoc}
use Rattle.lists.proofs.PartLaws.{length-rows, rows-suc, rows-get_d, row_fits}
use Rattle.lists.proofs.TestLaws.{select-mem, mem-select}
use Rattle.model.specs.Directions.{Kind, flow, anti, output, Line, all_lines, kind_count, vector_count}
use Rattle.model.specs.Judge.{directions_of}
use Rattle.model.proofs.Listing.LineOrderLaws.{all_lines-mem, mem-all_lines}
use Rattle.model.proofs.Listing.ListingLaws.{lines_of-merged}
use Rattle.model.specs.Grammar.{most_statements}
use Rattle.dependence_vectors.specs.Numbers.{number, kind_number, place}
use Rattle.dependence_listing_text.specs.Text as Text
use Rattle.dependence_listing_text.specs.Text.{shown, Marks}
use Rattle.dependence_listing_text.proofs.IndexLaws.{split, count_small}
use Rattle.step_preimages.specs.Numbers.{marked}
use Rattle.step_directions.specs.Sets.{vectors_in, Cleared, Merged}
use Rattle.step_preimages.proofs.NumberLaws.{number-below}
use Rattle.step_directions.proofs.SetLaws.{vectors_in-mem, mem-vectors_in}
use Rattle.nest_flat.specs.FlatNests.{FlatNest, nest_of}
use Rattle.dependence_marks.specs.Lines.{LinesAre, Shows, DirectionsAre}

-- ---- a row of marks

abbrev row_of : List Bool → ℕ → List Bool
row_of marks b = take vector_count (drop (b * vector_count) marks)

row-marked : (marks : List Bool) (b : ℕ) (v : List Sign) → marked (row_of marks b) v ≡ get_or marks (b * vector_count + number v) false
row-marked marks b v =
    get_or-take vector_count (drop (b * vector_count) marks) (number v) false (number-below v) ∙ get_or-drop (b * vector_count) marks (number v) false

module _ (marks : List Bool) (n d : ℕ) (h : Marks marks n d) where
  pub blocks-few : (n * n ≤ most_statements * most_statements) × (n * n * kind_count ≤ most_statements * most_statements * kind_count)
  blocks-few = let a = (count_small n vector_count h.statements (omega arith)).0 in (a, omega arith)

  pub row_ends : (b : ℕ) → b < n * n * kind_count → (b < most_statements * most_statements * kind_count) × (b * vector_count + vector_count ≤ length marks)
  row_ends b l = let r = h.room in let f = blocks-few.1 in (omega arith, omega arith)

  pub row-length : (b : ℕ) → b < n * n * kind_count
      → length (take (b * vector_count + vector_count - b * vector_count) (drop (b * vector_count) marks)) ≡ vector_count
  row-length b l = let r = (row_ends b l).1 in simp (length-take, length-drop) (omega arith)

-- ---- rows merged one by one

pub record Merging (marks : List Bool) (d blocks : ℕ) (set : List Bool) (b : ℕ) : Type 0 where
  pub bound : b ≤ blocks
  pub room : length set ≡ vector_count
  pub vectors : SameMembers (vectors_in set d) (flat_map (λ (r : List Bool). vectors_in r d) (rows vector_count b marks))

members-more : {A : Type 0} {l m : List A} (n : List A) → SameMembers l m → SameMembers (l ++ n) (m ++ n)
members-more {l = l} {m = m} n s = record {
  into = λ x i. ⊎_elim (λ j. Memᴰ.append_left n (s.into x j)) (λ j. Memᴰ.append_right m j) (Memᴰ.append_cases l i);
  from = λ x i. ⊎_elim (λ j. Memᴰ.append_left n (s.from x j)) (λ j. Memᴰ.append_right l j) (Memᴰ.append_cases m i);
}

module _ (marks : List Bool) (d blocks : ℕ) where
  pub merge_none : (set : List Bool) → Cleared d set → Merging marks d blocks set 0
  unfolding rows flat_map
  merge_none set e = record {
    bound = omega arith;
    room = e.room;
    vectors = record {
      into = λ v m. subst (Mem v) e.vectors m;
      from = λ v m.
          subst (Mem v) (sym e.vectors) m;
    };
  }

  pub merge-next : (old new : List Bool) (b : ℕ) → b < blocks → Merging marks d blocks old b
      → Merged (take (b * vector_count + vector_count - b * vector_count) (drop (b * vector_count) marks)) d old new → Merging marks d blocks new (b + 1)
  merge-next old new b h g m = record {
    bound = omega arith;
    room = m.room;
    vectors = subst (SameMembers (vectors_in new d)) one_more (members-trans m.vectors (members-more (vectors_in row d) g.vectors));
  }
    where
      row : List Bool
      row = take (b * vector_count + vector_count - b * vector_count) (drop (b * vector_count) marks)

      row_is : row ≡ row_of marks b
      row_is = ap (λ (i : ℕ). take i (drop (b * vector_count) marks))
          (let q : b * vector_count + vector_count - b * vector_count ≡ vector_count = omega arith in q)

      one_more : flat_map (λ (x : List Bool). vectors_in x d) (rows vector_count b marks) ++ vectors_in row d ≡ flat_map
          (λ (x : List Bool). vectors_in x d) (rows vector_count (b + 1) marks)
      one_more =
          ap (λ (x : List Bool). flat_map (λ (y : List Bool). vectors_in y d) (rows vector_count b marks) ++ vectors_in x d) row_is
          ∙ sym (flat_map-snoc (λ (x : List Bool). vectors_in x d) (rows vector_count b marks) (row_of marks b))
          ∙ ap (flat_map (λ (x : List Bool). vectors_in x d)) (sym (rows-suc vector_count b marks)
          ∙ ap (λ (i : ℕ). rows vector_count i marks) (sym (add-one b)))

-- ---- the rows of all lines

kind_at : (k : ℕ) → k < kind_count → (q : Kind) × (kind_number q ≡ k)
kind_at zero h = (flow, refl)
kind_at (suc zero) h = (anti, refl)
kind_at (suc (suc zero)) h = (output, refl)
kind_at (suc (suc (suc k))) h = absurd (omega arith)

kind-below : (q : Kind) → kind_number q < kind_count
kind-below flow = omega arith
kind-below anti = omega arith
kind-below output = omega arith

abbrev vector_of : Line → List Sign
vector_of l = l.vector

module _ (marks : List Bool) (n d : ℕ) (h : d ≤ 6) where
  into-lines : (b : ℕ) (v : List Sign) → b < n * n * kind_count → length v ≡ d → T (marked (row_of marks b) v) → Mem v (map vector_of (shown marks n d))
  unfolding shown Text.marked place
  into-lines b v g l t =
      let p = split b kind_count (n * n) g in
      let q = split (b / kind_count) n n p.quotient in
      let k = kind_at (b % kind_count) p.rest in
      let x : Line = record { kind = k.0; source = b / kind_count / n; sink = b / kind_count % n; vector = v } in
      let a = p.is in let c = q.is in let e = k.1 in
      let w : place n x ≡ b * vector_count + number v = omega arith in
      Memᴰ.map vector_of (mem-select (Text.marked marks n) (all_lines n d) (mem-all_lines n d x q.quotient q.rest l)
      (subst (λ (i : ℕ). T (get_or marks i false)) (sym w) (subst T (row-marked marks b v) t)))

  from-lines : (v : List Sign) → Mem v (map vector_of (shown marks n d))
      → (b : ℕ) × (b < n * n * kind_count) × (length v ≡ d) × T (marked (row_of marks b) v)
  unfolding shown Text.marked place
  from-lines v m =
      let r = Memᴰ.of_map vector_of (shown marks n d) m in
      let x = r.0 in
      let s = select-mem (Text.marked marks n) (all_lines n d) r.1 in
      let a = all_lines-mem n d s.0 in
      let l : length v ≡ d = sym (ap length r.2) ∙ a.2 in
      let k = kind-below x.kind in let f = row_fits n x.source n a.0 in let i = a.1 in
      let b = (x.source * n + x.sink) * kind_count + kind_number x.kind in (
        b,
        omega arith,
        l,
        subst T (ap (λ (u : List Sign). get_or marks (b * vector_count + number u) false) r.2
            ∙ sym (row-marked marks b v)) s.1,
      )

  pub rows-lines : SameMembers (flat_map (λ (r : List Bool). vectors_in r d) (rows vector_count (n * n * kind_count) marks))
      (map vector_of (shown marks n d))
  rows-lines = record {
    into = λ v m.
        let r = flat_map-mem (λ (x : List Bool). vectors_in x d) (rows vector_count (n * n * kind_count) marks) m in
        let g = mem-get_d [] r.1 in
        let a = length-rows vector_count (n * n * kind_count) marks in let i = g.1 in
        let e : r.0 ≡ row_of marks g.0 = sym g.2 ∙ rows-get_d vector_count (n * n * kind_count) marks g.0 [] (omega arith) in
        let q = vectors_in-mem r.0 d r.2 in
        into-lines g.0 v (omega arith) q.0 (subst (λ (x : List Bool). T (marked x v)) e q.1);
    from = λ v m.
        let r = from-lines v m in
        let a = length-rows vector_count (n * n * kind_count) marks in let i = r.1 in
        mem-flat_map (λ (x : List Bool). vectors_in x d) (rows vector_count (n * n * kind_count) marks)
        (get_d-mem (rows vector_count (n * n * kind_count) marks) r.0 [] (omega arith))
        (subst (λ (x : List Bool). Mem v (vectors_in x d)) (sym (rows-get_d vector_count (n * n * kind_count) marks r.0 [] i))
        (mem-vectors_in (row_of marks r.0) d v r.2 r.3));
  }

  pub merge-all : (set : List Bool) (b : ℕ) → n * n * kind_count ≤ b → Merging marks d (n * n * kind_count) set b → Shows marks n d set
  merge-all set b l g =
      let q = g.bound in let e : b ≡ n * n * kind_count = omega arith in record {
        room = g.room;
        vectors = members-trans (subst (λ (i : ℕ). SameMembers (vectors_in set d)
            (flat_map (λ (r : List Bool). vectors_in r d) (rows vector_count i marks))) e g.vectors) rows-lines;
      }

-- ---- the directions of a nest

pub directions-are : (P : FlatNest) (marks set : List Bool) → LinesAre P marks → Shows marks P.statements P.depth set → DirectionsAre P set
directions-are P marks set l s = record {
  room = s.room;
  vectors = members-trans s.vectors (subst (λ (ls : List Line). SameMembers (map vector_of ls) (directions_of (nest_of P))) (sym l.lines)
      (record { into = λ v m. (lines_of-merged (nest_of P) v).0 m; from = λ v m. (lines_of-merged (nest_of P) v).1 m }));
}
