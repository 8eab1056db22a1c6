-- Sets of marks. In order: the members of a set; a set filled at one number of the depth after another; the set after a step, from the marks; a set with
-- vectors added.
use mathlib.Core.Path.{◌≡◌, refl, sym, ◌∙◌, ap, subst}
use mathlib.Core.Bool.{Bool, true, false, ◌||◌}
use mathlib.Core.Logic.{⊎_elim}
use mathlib.Core.List.Memᴰ
use mathlib.Core.List.{List, [], ◌∷◌, ◌++◌}
use Prim.Native.Nat.{ℕ, ◌+◌, ◌-◌, ◌/◌, ◌≤◌, ◌<◌}
use native.Mathlib.Omega.{arith}
use native.Mathlib.Decide.{ℕ_discrete, dec_lt}
use lib.Dec.{T}
use lib.ListN.{length, get_or, set, replicate, length-set, get_or-replicate}
use lib.Seq.{get_or-set_same, get_or-set_other}
use Rattle.integers.specs.Sign.{Sign}
use Rattle.lists.specs.Membership.{Mem, SameMembers}
use Rattle.lists.proofs.MembershipLaws.{no-members}
use Rattle.lists.proofs.TestLaws.{select-mem, mem-select, false-not-T, or_cases, or_left, or_right}
use Rattle.lists.proofs.FlatMapLaws.{flat_map-mem, mem-flat_map}
use Rattle.model.specs.Ticket.{Step}
use Rattle.model.specs.Directions.{sign_vectors, vector_count}
use Rattle.model.specs.Steps.{vectors, vectors_after}
use Rattle.dependence_vectors.specs.Numbers.{number}
use Rattle.step_preimages.specs.Numbers.{marked}
use Rattle.dependence_vectors.specs.Candidates.{stride}
use Rattle.dependence_vectors.proofs.DepthLaws.{OfDepth, depth-number, depth-positive, depth-first, depth-least, depth-next, depth-apart}
use Rattle.step_directions.specs.Sets.{vectors_in}
use Rattle.model.proofs.Listing.LineOrderLaws.{sign_vectors-mem, mem-sign_vectors}
use Rattle.step_preimages.proofs.NumberLaws.{number-below, number-injective}

-- ---- members

pub vectors_in-mem : {v : List Sign} (marks : List Bool) (d : ℕ) → Mem v (vectors_in marks d) → (length v ≡ d) × T (marked marks v)
unfolding vectors_in
vectors_in-mem marks d m = let r = select-mem (marked marks) (sign_vectors d) m in (sign_vectors-mem d r.0, r.1)

pub mem-vectors_in : (marks : List Bool) (d : ℕ) (v : List Sign) → length v ≡ d → T (marked marks v) → Mem v (vectors_in marks d)
unfolding vectors_in
mem-vectors_in marks d v l h = mem-select (marked marks) (sign_vectors d) (mem-sign_vectors d v l) h

-- marks of vectors of the depth that are all clear
pub none-marked : (marks : List Bool) (d : ℕ) → ((v : List Sign) → length v ≡ d → marked marks v ≡ false) → vectors_in marks d ≡ []
none-marked marks d e = no-members (vectors_in marks d) (λ v m. let a = vectors_in-mem marks d m in false-not-T (marked marks v) (e v a.0) a.1)

pub no-vectors : (d : ℕ) → vectors_in (replicate vector_count false) d ≡ []
no-vectors d = none-marked (replicate vector_count false) d (λ v l. get_or-replicate vector_count (number v) false false (number-below v))

-- ---- a set filled at one number of the depth after another

-- below number n each vector of depth d is marked as g says, from n on as it was in old
pub record Filling (g : List Sign → Bool) (d : ℕ) (old marks : List Bool) (n : ℕ) : Type 0 where
  pub whole : length marks ≡ vector_count
  pub place : OfDepth d n
  pub filled : (v : List Sign) → length v ≡ d → number v < n → marked marks v ≡ g v
  pub left : (v : List Sign) → length v ≡ d → n ≤ number v → marked marks v ≡ marked old v

module _ (g : List Sign → Bool) (d : ℕ) (old : List Bool) (few : d ≤ 6) (s : ℕ) (e : s ≡ stride (6 - d)) where
  pub fill-first : length old ≡ vector_count → Filling g d old old ((s - 1) / 2)
  fill-first w = record {
    whole = w;
    place = depth-first d s e;
    filled = λ v l h. let a = depth-least d s e (number v) (depth-number v d l) in absurd (omega arith);
    left = λ v l h. refl;
  }

  module _ (marks : List Bool) (n : ℕ) (p : Filling g d old marks n) where
    pub fill-next : (b : Bool) → n < vector_count → ((v : List Sign) → length v ≡ d → number v ≡ n → b ≡ g v)
        → Filling g d old (set marks n b) (n + s)
    fill-next b h f = let w = p.whole in record {
      whole = length-set marks n b ∙ p.whole;
      place = depth-next d s e n p.place;
      filled = λ v l k. elim (ℕ_discrete (number v) n) [
        | yes q ↦ rw q (get_or-set_same marks n b false (omega arith)) ∙ f v l q
        | no q ↦ get_or-set_other marks n (number v) b false q ∙ p.filled v l (below v l k q)
      ];
      left = λ v l k. get_or-set_other marks n (number v) b false (beyond v k) ∙ p.left v l (omega arith);
    }
      where
        below : (v : List Sign) → length v ≡ d → number v < n + s → (number v ≡ n → ⊥) → number v < n
        below v l k q = elim (dec_lt n (number v)) [
          | yes a ↦ let z = depth-apart d s e n (number v) p.place (depth-number v d l) a in absurd (omega arith)
          | no a ↦ omega arith
        ]

        beyond : (v : List Sign) → n + s ≤ number v → number v ≡ n → ⊥
        beyond v k q = let z = depth-positive d s e in omega arith

    pub fill-all : vector_count ≤ n → (v : List Sign) → length v ≡ d → marked marks v ≡ g v
    fill-all h v l = p.filled v l (omega (arith, number-below v))

-- ---- the set after a step

module _ (t : Step) (old new : List Bool) (d d' : ℕ) where
  pub after-step :
      ((v : List Sign) → length v ≡ d' → T (marked new v) → (u : List Sign) × (length u ≡ d) × T (marked old u) × Mem v (vectors t u))
      → ((u v : List Sign) → length u ≡ d → T (marked old u) → Mem v (vectors t u) → (length v ≡ d') × T (marked new v))
      → SameMembers (vectors_in new d') (vectors_after t (vectors_in old d))
  unfolding vectors_after
  after-step f g = record {
    into = λ v m. let a = vectors_in-mem new d' m in let r = f v a.0 a.1 in mem-flat_map (vectors t) (vectors_in old d)
        (mem-vectors_in old d r.0 r.1 r.2) r.3;
    from = λ v m.
        let r = flat_map-mem (vectors t) (vectors_in old d) m in
        let a = vectors_in-mem old d r.1 in
        let b = g r.0 v a.0 a.1 r.2 in
        mem-vectors_in new d' v b.0 b.1;
  }

  -- each vector after comes from one before
  pub after-source : (source : List Sign → List Sign)
      → ((v : List Sign) → length v ≡ d' → marked new v ≡ marked old (source v))
      → ((v : List Sign) → length v ≡ d' → (length (source v) ≡ d) × Mem v (vectors t (source v)))
      → ((u v : List Sign) → length u ≡ d → Mem v (vectors t u) → (length v ≡ d') × (u ≡ source v))
      → SameMembers (vectors_in new d') (vectors_after t (vectors_in old d))
  after-source source e f g = after-step
      (λ v l h. let r = f v l in (source v, r.0, subst T (e v l) h, r.1))
      (λ u v l h m. let r = g u v l m in (r.0, subst T (sym (e v r.0)) (subst (λ w. T (marked old w)) r.1 h)))

-- ---- a set with vectors added

pub added-vector : (marks : List Bool) (d n : ℕ) → d ≤ 6 → n < length marks → (v : List Sign) → length v ≡ d → number v ≡ n
    → SameMembers (vectors_in (set marks n true) d) (v ∷ vectors_in marks d)
added-vector marks d n few h v l e = record {
  into = λ u m. let a = vectors_in-mem (set marks n true) d m in elim (ℕ_discrete (number u) n) [
    | yes f ↦ Memᴰ.head (number-injective u v (a.0 ∙ sym l) (omega arith) (f ∙ sym e))
    | no q ↦ Memᴰ.tail (mem-vectors_in marks d u a.0 (subst T (get_or-set_other marks n (number u) true false q) a.1))
  ];
  from = λ u m. ⊎_elim
      (λ f. mem-vectors_in (set marks n true) d u (rw f l) (subst (λ k. T (get_or (set marks n true) k false)) (sym (ap number f ∙ e)) (here tt)))
      (λ j. let a = vectors_in-mem marks d j in mem-vectors_in (set marks n true) d u a.0 (kept (number u) a.1))
      (Memᴰ.cases_cons m);
}
  where
    here : T true → T (get_or (set marks n true) n false)
    here = subst T (sym (get_or-set_same marks n true false h))

    kept : (k : ℕ) → T (get_or marks k false) → T (get_or (set marks n true) k false)
    kept k t = elim (ℕ_discrete k n) [
      | yes f ↦ rw f (here tt)
      | no q ↦ subst T (sym (get_or-set_other marks n k true false q)) t
    ]

pub merged-row : (marks row new : List Bool) (d : ℕ) → ((v : List Sign) → length v ≡ d → marked new v ≡ (marked marks v || marked row v))
    → SameMembers (vectors_in new d) (vectors_in marks d ++ vectors_in row d)
merged-row marks row new d e = record {
  into = λ v m. let a = vectors_in-mem new d m in ⊎_elim
      (λ h. Memᴰ.append_left (vectors_in row d) (mem-vectors_in marks d v a.0 h))
      (λ h. Memᴰ.append_right (vectors_in marks d) (mem-vectors_in row d v a.0 h))
      (or_cases (marked marks v) (marked row v) (subst T (e v a.0) a.1));
  from = λ v m. ⊎_elim
      (λ j. let a = vectors_in-mem marks d j in mem-vectors_in new d v a.0 (subst T (sym (e v a.0))
      (or_left (marked marks v) (marked row v) a.1)))
      (λ j. let a = vectors_in-mem row d j in mem-vectors_in new d v a.0 (subst T (sym (e v a.0))
      (or_right (marked marks v) (marked row v) a.1)))
      (Memᴰ.append_cases (vectors_in marks d) m);
}
