-- The rows of stored points, one at a time: what is lent of them, and a test of all that was made of each.
use mathlib.Core.Path.{◌≡◌, sym, ◌∙◌, ap, ap₂, subst}
use mathlib.Core.Bool.{Bool, true, false}
use mathlib.Core.List.{List, [], ◌∷◌, ◌++◌}
use Prim.Native.Nat.{ℕ, ◌+◌, ◌*◌, ◌-◌, ◌≤◌, ◌<◌}
use native.Mathlib.Omega.{arith}
use native.Mathlib.Nat.{mul-le-mul}
use native.Mathlib.Numerals.{add-one}
use lib.IntN.{ℤ}
use lib.ListN.{length, get_or, take, drop, length-drop}
use lib.Seq.{length-take-le}
use Rattle.lists.specs.Membership.{Mem}
use Rattle.lists.specs.Tests.{any}
use Rattle.lists.specs.Parts.{rows}
use Rattle.lists.proofs.MembershipLaws.{get_d-mem}
use Rattle.lists.proofs.TestLaws.{some-any, any-join, true-T, T_true}
use Rattle.lists.proofs.PartLaws.{rows-suc, rows-get_d, length-rows, row_fits}
use Rattle.integers.specs.Affine.{Within}
use Rattle.model.specs.Bounds.{subscript_at}
use Rattle.nest_flat.specs.Layout.{form_at}
use Rattle.nest_elements.specs.Search.{off, violates_at, ViolationIn}
use Rattle.nest_points.specs.Stored.{RowsIn}
use Rattle.nest_elements.specs.Forms.{words_at, value_at, ValueIn}
use Rattle.nest_elements.proofs.FormLaws.{words-length, within-words, value-words}
use Rattle.nest_elements.proofs.SubscriptLaws.{subscript-in}

module _ {points : List ℤ} {depth count : ℕ} (p : RowsIn points depth count) {i at : ℕ} (h : i < count) (e : at ≡ i * depth) where
  pub row_ends : at + depth ≤ length points
  row_ends = let f = row_fits depth i count h in let r = p.room in omega arith

  pub row_small : at + depth ≤ 24576
  row_small = let f = row_fits depth i count h in omega (arith, mul-le-mul {n₁ = count} {m₁ = depth} {n₂ = 4096} {m₂ = 6} p.bound p.few)

  -- the part that is lent is row i
  abbrev pub lent : List ℤ
  lent = take (at + depth - at) (drop at points)

  pub row_is : lent ≡ get_or (rows depth count points) i []
  row_is = let d : at + depth - at ≡ depth = omega arith in ap₂ (λ (k l : ℕ). take k (drop l points)) d e ∙ sym (rows-get_d depth count points i [] h)

  pub row-length : length lent ≡ depth
  row-length = let d : at + depth - at ≡ depth = omega arith in let f = row_ends in
      ap (λ (k : ℕ). length (take k (drop at points))) d ∙ length-take-le depth (drop at points) (let l = length-drop at points in omega arith)

  pub row-mem : Mem (get_or (rows depth count points) i []) (rows depth count points)
  row-mem = get_d-mem (rows depth count points) i [] (let l = length-rows depth count points in omega arith)

  pub row_near : Within 100000 lent
  row_near = subst (Within 100000) (sym row_is) (p.near (get_or (rows depth count points) i []) row-mem)

  pub next-rows : rows depth (i + 1) points ≡ rows depth i points ++ (lent ∷ [])
  next-rows = let d : at + depth - at ≡ depth = omega arith in rw (add-one i) (rows-suc depth i points)
      ∙ ap₂ (λ (k l : ℕ). rows depth i points ++ (take k (drop l points) ∷ [])) (sym d) (sym e)

-- ---- whether some point's subscript leaves its extent

module _ {w : List ℤ} {j extent : ℕ} {points : List ℤ} {depth count : ℕ} (p : ViolationIn w j extent points depth count) {i at : ℕ} (h : i < count)
    (e : at ≡ i * depth) where
  module _ {f : List ℤ} (c : f ≡ words_at w j) where
    pub violation-in : ValueIn f (take (at + depth - at) (drop at points)) × (extent ≤ 4096)
    violation-in = let l = row-length p.stored h e in let few = p.stored.few in (
      rw c (subscript-in (words_at w j) (take (at + depth - at) (drop at points)) (words-length w j p.inside) (within-words w j p.small)
          (omega arith) (row_near p.stored h e)),
      p.extents,
    )

    module _ {r : Bool} (g : r ≡ off extent (value_at f (take (at + depth - at) (drop at points)))) where
      here : r ≡ off extent (subscript_at (take (at + depth - at) (drop at points)) (form_at w depth j))
      here = let l = row-length p.stored h e in let few = p.stored.few in
          g ∙ ap (off extent) (ap (λ (x : List ℤ). value_at x (take (at + depth - at) (drop at points))) c
          ∙ value-words (take (at + depth - at) (drop at points)) (omega arith) w j
          ∙ ap (λ (n : ℕ). subscript_at (take (at + depth - at) (drop at points)) (form_at w n j)) l)

      pub violation-found : r ≡ true → true ≡ violates_at w depth j extent (rows depth count points)
      unfolding violates_at
      violation-found t = sym (T_true (violates_at w depth j extent (rows depth count points))
          (some-any (λ q. off extent (subscript_at q (form_at w depth j))) (rows depth count points)
          (row-mem p.stored h e)
          (true-T (off extent (subscript_at (get_or (rows depth count points) i []) (form_at w depth j)))
          (ap (λ (q : List ℤ). off extent (subscript_at q (form_at w depth j))) (sym (row_is p.stored h e)) ∙ sym here ∙ t))))

      pub violation-not : r ≡ false → violates_at w depth j extent (rows depth i points) ≡ false
          → violates_at w depth j extent (rows depth (i + 1) points) ≡ false
      unfolding violates_at any
      violation-not t f = ap (violates_at w depth j extent) (next-rows p.stored h e)
          ∙ any-join (λ q. off extent (subscript_at q (form_at w depth j))) (rows depth i points) (take (at + depth - at) (drop at points) ∷ [])
          ∙ rw (f, ← here, t)
