-- Two points meet in a block exactly if its statements conflict: `clash-conflicts`.
use mathlib.Core.Path.{◌≡◌, refl, sym, ap, ap₂, ◌∙◌, subst}
use mathlib.Core.Bool.{Bool, true, false, ◌&&◌}
use mathlib.Core.List.{List}
use Prim.Native.Nat.{ℕ, zero, suc, ◌+◌, ◌*◌, ◌≤◌, ◌<◌}
use native.Mathlib.Decide.{dec_lt}
use native.Mathlib.Omega.{arith}
use lib.Dec.{T, eqb, ltb, leb, eqb→eq, ltb→lt, leb→le}
use lib.ListN.{length, get_or}
use borrow.Author.Tests.{eqb-true, eqb-false, eq-eqb, ne_eqb, lt-ltb, le-leb}
use Rattle.lists.specs.Membership.{All}
use Rattle.lists.proofs.MembershipLaws.{all_get_d}
use Rattle.lists.proofs.PartLaws.{row-unique}
use Rattle.lists.proofs.TestLaws.{true-T, T-same, and_both, and_intro}
use Rattle.model.specs.Directions.{kind_count}
use Rattle.dependence_pair_search.specs.Search.{some}
use Rattle.dependence_pair_search.proofs.SomeLaws.{some-there, there-some}
use Rattle.dependence_search.specs.Flat.{kind_of}
use Rattle.dependence_marks.specs.Uses.{written_in, statement_numbers}
use Rattle.pair_records.specs.Conflicts.{block_of, meets, clashes}
use Rattle.pair_records.specs.Statements.{named_in, conflicts, StatementAt}
use Rattle.pair_records.proofs.StatementLaws.{numbers-length, statement-of, in-statement, at-one-place, statement-ends}

-- an access after the first that names an element
after : (a c i j : ℕ) → a ≤ c → eqb c a ≡ false → i ≡ j → T (leb (a + 1) c && eqb i j)
after a c i j h f e = let g = eqb-false c a f in and_intro (leb (a + 1) c) (eqb i j) (true-T (leb (a + 1) c) (le-leb (a + 1) c (later g)))
    (true-T (eqb i j) (eq-eqb i j e))
  where
    later : (c ≡ a → ⊥) → a + 1 ≤ c
    later g = elim (dec_lt a c) [ yes l ↦ omega arith | no f ↦ absurd (g (omega arith)) ]

module _ (n : ℕ) (ids sizes : List ℕ) (m x y : ℕ) (body : length sizes ≡ m) (each : All (λ k. 1 ≤ k) sizes) (s a a' t b b' : ℕ)
    (p : StatementAt sizes s a a') (q : StatementAt sizes t b b') where
  abbrev number : ℕ → ℕ → ℕ
  number k z = get_or ids (k * n + z) 0

  abbrev Clash : ℕ → Bool
  Clash = clashes n ids (statement_numbers 0 sizes) (written_in sizes) m x y

  abbrev block : ℕ
  block = (s * m + t) * kind_count

  some-source : a < a'
  some-source = let h = p.past in let g = all_get_d (λ k. 1 ≤ k) sizes s 0 each p.there in omega arith

  some-sink : b < b'
  some-sink = let h = q.past in let g = all_get_d (λ k. 1 ≤ k) sizes t 0 each q.there in omega arith

  -- accesses of the two statements that name one element
  module _ (c e : ℕ) (cl : a ≤ c) (cg : c < a') (el : b ≤ e) (eg : e < b') (same : number c x ≡ number e y) where
    block-is : block_of n ids (statement_numbers 0 sizes) (written_in sizes) m c e ≡ block + kind_of (eqb c a) (eqb e b)
    unfolding block_of
    block-is = let u = in-statement sizes s a a' c p cl cg in let v = in-statement sizes t b b' e q el eg in
        rw (u.0, u.1, v.0, v.1)

    they-clash : (k : ℕ) → kind_of (eqb c a) (eqb e b) ≡ k → k < kind_count → T (Clash (block + k))
    unfolding clashes meets
    they-clash k f g =
        let S = statement_numbers 0 sizes in let W = written_in sizes in let j = block + k in
        let l = numbers-length 0 sizes in let r = statement-ends sizes s a a' p in let w = statement-ends sizes t b b' q in
        let u = in-statement sizes s a a' c p cl cg in let v = in-statement sizes t b b' e q el eg in
        let kind : kind_of (get_or W c false) (get_or W e false) ≡ k = ap₂ kind_of u.1 v.1 ∙ f in
        there-some (length S) c (λ i. some (length S) (meets n ids S W m x y j i)) (omega arith)
        (there-some (length S) e (meets n ids S W m x y j c) (omega arith)
        (and_intro (eqb (number c x) (number e y))
        (ltb (kind_of (get_or W c false) (get_or W e false)) kind_count && eqb (block_of n ids S W m c e) j)
        (true-T (eqb (number c x) (number e y)) (eq-eqb (number c x) (number e y) same))
        (and_intro (ltb (kind_of (get_or W c false) (get_or W e false)) kind_count) (eqb (block_of n ids S W m c e) j)
        (true-T (ltb (kind_of (get_or W c false) (get_or W e false)) kind_count)
        (lt-ltb (kind_of (get_or W c false) (get_or W e false)) kind_count (subst (λ i. i < kind_count) (sym kind) g)))
        (true-T (eqb (block_of n ids S W m c e) j) (eq-eqb (block_of n ids S W m c e) j (block-is ∙ ap (block +◌) f))))))

    they-conflict : (u v : Bool) (k : ℕ) → eqb c a ≡ u → eqb e b ≡ v → kind_of u v ≡ k → k < kind_count → T (conflicts n ids x y a a' b b' k)
    unfolding conflicts named_in
    they-conflict true true k f g h l =
        subst (λ i. T (conflicts n ids x y a a' b b' i)) h (true-T (eqb (number a x) (number b y))
        (eq-eqb (number a x) (number b y) (subst (λ i. number i x ≡ number b y) (eqb-true c a f)
        (subst (λ i. number c x ≡ number i y) (eqb-true e b g) same))))
    they-conflict true false k f g h l =
        subst (λ i. T (conflicts n ids x y a a' b b' i)) h
        (there-some b' e (λ i. leb (b + 1) i && eqb (number i y) (number a x)) eg
        (after b e (number e y) (number a x) el g
        (sym (subst (λ i. number i x ≡ number e y) (eqb-true c a f) same))))
    they-conflict false true k f g h l =
        subst (λ i. T (conflicts n ids x y a a' b b' i)) h
        (there-some a' c (λ i. leb (a + 1) i && eqb (number i x) (number b y)) cg
        (after a c (number c x) (number b y) cl f
        (subst (λ i. number c x ≡ number i y) (eqb-true e b g) same)))
    they-conflict false false k f g h l = absurd (omega arith)

  -- accesses of any two statements that meet in this block
  clashing : (c e s₁ a₁ e₁ t₁ b₁ f₁ : ℕ) → StatementAt sizes s₁ a₁ e₁ → StatementAt sizes t₁ b₁ f₁ → a₁ ≤ c → c < e₁ → b₁ ≤ e → e < f₁
      → number c x ≡ number e y → (k : ℕ) → k < kind_count
      → kind_of (get_or (written_in sizes) c false) (get_or (written_in sizes) e false) < kind_count
      → block_of n ids (statement_numbers 0 sizes) (written_in sizes) m c e ≡ block + k → T (conflicts n ids x y a a' b b' k)
  unfolding block_of
  clashing c e s₁ a₁ e₁ t₁ b₁ f₁ h g cl cg el eg same k kl small j =
      let u = in-statement sizes s₁ a₁ e₁ c h cl cg in let v = in-statement sizes t₁ b₁ f₁ e g el eg in
      let W = written_in sizes in let kind = kind_of (get_or W c false) (get_or W e false) in let th = g.there in let tq = q.there in
      let w : (s₁ * m + t₁) * kind_count + kind ≡ (s * m + t) * kind_count + k =
      ap₂ (λ i o. (i * m + o) * kind_count + kind) (sym u.0) (sym v.0) ∙ j in
      let r = row-unique kind_count (s₁ * m + t₁) (s * m + t) kind k small kl w in
      let z = row-unique m s₁ s t₁ t (omega arith) (omega arith) r.0 in
      let i = at-one-place sizes s₁ s a₁ e₁ a a' h p z.0 in let o = at-one-place sizes t₁ t b₁ f₁ b b' g q z.1 in
      let i₀ = i.0 in let i₁ = i.1 in let o₀ = o.0 in let o₁ = o.1 in
      they-conflict c e (omega arith) (omega arith) (omega arith) (omega arith) same (eqb c a) (eqb e b) k refl refl
      (ap₂ kind_of (ap (eqb c) (sym i₀) ∙ sym u.1) (ap (eqb e) (sym o₀) ∙ sym v.1) ∙ r.1) kl

  one-clashes : (k : ℕ) → k < kind_count → T (conflicts n ids x y a a' b b' k) → T (Clash (block + k))
  unfolding conflicts named_in
  one-clashes zero g h =
      let r = some-there b' (λ i. leb (b + 1) i && eqb (number i y) (number a x)) h in
      let e = r.0 in let w = and_both (leb (b + 1) e) (eqb (number e y) (number a x)) r.2 in
      let l = leb→le (b + 1) e w.0 in
      they-clash a e (omega arith) some-source (omega arith) r.1 (sym (eqb→eq (number e y) (number a x) w.1)) 0
      (ap₂ kind_of (eq-eqb a a refl) (ne_eqb e b (λ z. absurd (omega arith)))) g
  one-clashes (suc zero) g h =
      let r = some-there a' (λ i. leb (a + 1) i && eqb (number i x) (number b y)) h in
      let c = r.0 in let w = and_both (leb (a + 1) c) (eqb (number c x) (number b y)) r.2 in
      let l = leb→le (a + 1) c w.0 in
      they-clash c b (omega arith) r.1 (omega arith) some-sink (eqb→eq (number c x) (number b y) w.1) 1
      (ap₂ kind_of (ne_eqb c a (λ z. absurd (omega arith))) (eq-eqb b b refl)) g
  one-clashes (suc (suc zero)) g h =
      they-clash a b (omega arith) some-source (omega arith) some-sink (eqb→eq (number a x) (number b y) h) 2
      (ap₂ kind_of (eq-eqb a a refl) (eq-eqb b b refl)) g
  one-clashes (suc (suc (suc k))) g h = absurd (omega arith)

  clash-is-one : (k : ℕ) → k < kind_count → T (Clash (block + k)) → T (conflicts n ids x y a a' b b' k)
  unfolding clashes meets block_of
  clash-is-one k g h =
      let S = statement_numbers 0 sizes in let W = written_in sizes in let j = block + k in let l = numbers-length 0 sizes in
      let r = some-there (length S) (λ i. some (length S) (meets n ids S W m x y j i)) h in let c = r.0 in let cs = r.1 in
      let u = some-there (length S) (meets n ids S W m x y j c) r.2 in let e = u.0 in let es = u.1 in
      let v = and_both (eqb (number c x) (number e y))
      (ltb (kind_of (get_or W c false) (get_or W e false)) kind_count && eqb (block_of n ids S W m c e) j) u.2 in
      let w = and_both (ltb (kind_of (get_or W c false) (get_or W e false)) kind_count) (eqb (block_of n ids S W m c e) j) v.1 in
      let small = ltb→lt (kind_of (get_or W c false) (get_or W e false)) kind_count w.0 in
      let o = statement-of sizes c (omega arith) in let z = statement-of sizes e (omega arith) in
      clashing c e o.0 o.1 o.2 z.0 z.1 z.2 o.3 z.3 o.4 o.5 z.4 z.5
      (eqb→eq (number c x) (number e y) v.0) k g small (eqb→eq (block_of n ids S W m c e) j w.1)

  -- two statements meet in this block exactly if they conflict
  pub clash-conflicts : (k : ℕ) → k < kind_count → Clash (block + k) ≡ conflicts n ids x y a a' b b' k
  clash-conflicts k g = T-same (Clash (block + k)) (conflicts n ids x y a a' b b' k) (clash-is-one k g) (one-clashes k g)
