-- Every line that there could be: which they are, and their order, by source, then sink, then kind F A O, then signs < = >. First numbers, then
-- vectors, then lines. Which of them a listing has is in `LineLaws`.
use mathlib.Core.Path.{◌≡◌, refl, sym, ap, ◌∙◌, subst₂}
use mathlib.Core.Logic.{inl, inr, ⊎_elim}
use mathlib.Core.List.Memᴰ
use mathlib.Core.List.{List, [], ◌∷◌, map, flat_map}
use Prim.Native.Nat.{ℕ, zero, suc, ◌+◌, ◌≤◌, ◌<◌}
use native.Mathlib.Omega.{arith}
use native.Mathlib.Nat.{eq-or-lt_of_le}
use lib.ListN.{length}
use Rattle.integers.specs.Sign.{Sign, less, equal, greater}
use Rattle.lists.specs.Membership.{Mem, Distinct}
use Rattle.lists.specs.Order.{Ordered}
use Rattle.lists.proofs.MembershipLaws.{all_nil, all_cons}
use Rattle.lists.proofs.OrderLaws.{ordered-map, ordered-distinct}
use Rattle.lists.proofs.FlatMapLaws.{flat_map-mem, mem-flat_map, ordered-flat_map}
use Rattle.model.specs.Directions.{Kind, kinds, Line, up_from, sign_vectors, all_lines}
use Rattle.model.specs.Promises.{sign_rank, VectorBefore, kind_rank, LineBefore}
use Rattle.model.proofs.Machine.ElementLaws.{every-kind}

-- ---- numbers

pub up_from-mem : {x : ℕ} (k n : ℕ) → Mem x (up_from k n) → (k ≤ x) × (x < k + n)
unfolding up_from
up_from-mem k zero m = absurd (Memᴰ.not-nil m)
up_from-mem k (suc n) (Memᴰ.head e) = (omega arith, omega arith)
up_from-mem k (suc n) (Memᴰ.tail m) = let r = up_from-mem (suc k) n m in let a = r.0 in let b = r.1 in (omega arith, omega arith)

pub mem-up_from : {x : ℕ} (k n : ℕ) → k ≤ x → x < k + n → Mem x (up_from k n)
unfolding up_from
mem-up_from k zero h g = absurd (omega arith)
mem-up_from k (suc n) h g = ⊎_elim (λ e. Memᴰ.head (sym e)) (λ l. Memᴰ.tail (mem-up_from (suc k) n l (omega arith))) (eq-or-lt_of_le h)

pub up_from-ordered : (k n : ℕ) → Ordered ◌<◌ (up_from k n)
unfolding up_from
up_from-ordered k zero = tt
up_from-ordered k (suc n) = (λ x m. (up_from-mem (suc k) n m).0, up_from-ordered (suc k) n)

-- ---- vectors

vector-irreflexive : (v : List Sign) → VectorBefore v v → ⊥
vector-irreflexive [] h = h
vector-irreflexive (s ∷ v) (inl h) = omega arith
vector-irreflexive (s ∷ v) (inr h) = vector-irreflexive v h.1

abbrev three_signs : List Sign
three_signs = less ∷ equal ∷ greater ∷ []

every-sign : (s : Sign) → Mem s three_signs
every-sign less = Memᴰ.head refl
every-sign equal = Memᴰ.tail (Memᴰ.head refl)
every-sign greater = Memᴰ.tail (Memᴰ.tail (Memᴰ.head refl))

signs-ordered : Ordered (λ s t. sign_rank s < sign_rank t) three_signs
signs-ordered = (
  all_cons (λ s. 0 < sign_rank s) (omega arith) (all_cons (λ s. 0 < sign_rank s) (omega arith) (all_nil (λ s. 0 < sign_rank s))),
  (all_cons (λ s. 1 < sign_rank s) (omega arith) (all_nil (λ s. 1 < sign_rank s)), (all_nil (λ s. 2 < sign_rank s), tt)),
)

abbrev with_first : ℕ → Sign → List (List Sign)
with_first d s = map (λ v. s ∷ v) (sign_vectors d)

pub sign_vectors-mem : {v : List Sign} (d : ℕ) → Mem v (sign_vectors d) → length v ≡ d
unfolding sign_vectors
sign_vectors-mem zero m = ap length (Memᴰ.eq_of_singleton m)
sign_vectors-mem {v = v} (suc d) m =
    let r = flat_map-mem (with_first d) three_signs m in
    let q = Memᴰ.of_map (λ v. r.0 ∷ v) (sign_vectors d) r.2 in
    sym (ap length q.2) ∙ ap suc (sign_vectors-mem {v = q.0} d q.1)

pub mem-sign_vectors : (d : ℕ) (v : List Sign) → length v ≡ d → Mem v (sign_vectors d)
unfolding sign_vectors
mem-sign_vectors zero [] e = Memᴰ.head refl
mem-sign_vectors zero (s ∷ v) e = absurd (omega arith)
mem-sign_vectors (suc d) [] e = absurd (omega arith)
mem-sign_vectors (suc d) (s ∷ v) e = mem-flat_map (with_first d) three_signs (every-sign s) (Memᴰ.map (λ v. s ∷ v) (mem-sign_vectors d v (omega arith)))

pub sign_vectors-ordered : (d : ℕ) → Ordered VectorBefore (sign_vectors d)
unfolding sign_vectors
sign_vectors-ordered zero = (all_nil (VectorBefore []), tt)
sign_vectors-ordered (suc d) = ordered-flat_map (with_first d) (λ s t. sign_rank s < sign_rank t) VectorBefore three_signs signs-ordered
    (λ s m. ordered-map (λ v. s ∷ v) VectorBefore (sign_vectors d) VectorBefore (sign_vectors-ordered d) (λ v w _ _ h. inr (refl, h)))
    (λ s t _ _ h v w m n. let a = Memᴰ.of_map (λ v. s ∷ v) (sign_vectors d) m in let b = Memᴰ.of_map (λ v. t ∷ v) (sign_vectors d) n in
    subst₂ VectorBefore a.2 b.2 (inl h))

-- ---- lines

pub kinds-ordered : Ordered (λ k l. kind_rank k < kind_rank l) kinds
unfolding kinds
kinds-ordered = (
  all_cons (λ k. 0 < kind_rank k) (omega arith) (all_cons (λ k. 0 < kind_rank k) (omega arith) (all_nil (λ k. 0 < kind_rank k))),
  (all_cons (λ k. 1 < kind_rank k) (omega arith) (all_nil (λ k. 1 < kind_rank k)), (all_nil (λ k. 2 < kind_rank k), tt)),
)

pub line-irreflexive : (l : Line) → LineBefore l l → ⊥
line-irreflexive l (inl h) = omega arith
line-irreflexive l (inr (_, inl h)) = omega arith
line-irreflexive l (inr (_, inr (_, inl h))) = omega arith
line-irreflexive l (inr (_, inr (_, inr (_, h)))) = vector-irreflexive l.vector h

abbrev line_of : Kind → ℕ → ℕ → List Sign → Line
line_of k s t v = record { kind = k; source = s; sink = t; vector = v }

module _ (n d : ℕ) where
  abbrev of_kind : ℕ → ℕ → Kind → List Line
  of_kind s t k = map (line_of k s t) (sign_vectors d)

  abbrev of_sink : ℕ → ℕ → List Line
  of_sink s t = flat_map (of_kind s t) kinds

  abbrev of_source : ℕ → List Line
  of_source s = flat_map (of_sink s) (up_from 0 n)

  kind-mem : {l : Line} (s t : ℕ) (k : Kind) → Mem l (of_kind s t k) → (l.source ≡ s) × (l.sink ≡ t) × (l.kind ≡ k) × (length l.vector ≡ d)
  kind-mem s t k m = let r = Memᴰ.of_map (line_of k s t) (sign_vectors d) m in let e = sym r.2 in
      (ap (λ l. l.source) e, ap (λ l. l.sink) e, ap (λ l. l.kind) e, ap (λ l. length l.vector) e ∙ sign_vectors-mem d r.1)

  sink-mem : {l : Line} (s t : ℕ) → Mem l (of_sink s t) → (l.source ≡ s) × (l.sink ≡ t) × (length l.vector ≡ d)
  sink-mem s t m = let r = flat_map-mem (of_kind s t) kinds m in let q = kind-mem s t r.0 r.2 in (q.0, q.1, q.3)

  source-mem : {l : Line} (s : ℕ) → Mem l (of_source s) → (l.source ≡ s) × (l.sink < n) × (length l.vector ≡ d)
  source-mem s m = let r = flat_map-mem (of_sink s) (up_from 0 n) m in let q = sink-mem s r.0 r.2 in
      let e = q.1 in let h = (up_from-mem 0 n r.1).1 in (q.0, omega arith, q.2)

  pub all_lines-mem : {l : Line} → Mem l (all_lines n d) → (l.source < n) × (l.sink < n) × (length l.vector ≡ d)
  unfolding all_lines
  all_lines-mem m = let r = flat_map-mem of_source (up_from 0 n) m in let q = source-mem r.0 r.2 in
      let e = q.0 in let h = (up_from-mem 0 n r.1).1 in (omega arith, q.1, q.2)

  pub mem-all_lines : (l : Line) → l.source < n → l.sink < n → length l.vector ≡ d → Mem l (all_lines n d)
  unfolding all_lines
  mem-all_lines l a b e = mem-flat_map of_source (up_from 0 n) (mem-up_from 0 n (omega arith) (omega arith))
      (mem-flat_map (of_sink l.source) (up_from 0 n) (mem-up_from 0 n (omega arith) (omega arith))
      (mem-flat_map (of_kind l.source l.sink) kinds (every-kind l.kind) (Memᴰ.map (line_of l.kind l.source l.sink)
      (mem-sign_vectors d l.vector e))))

  kind-ordered : (s t : ℕ) (k : Kind) → Ordered LineBefore (of_kind s t k)
  kind-ordered s t k = ordered-map (line_of k s t) LineBefore (sign_vectors d) VectorBefore (sign_vectors-ordered d)
      (λ v w _ _ h. inr (refl, inr (refl, inr (refl, h))))

  sink-ordered : (s t : ℕ) → Ordered LineBefore (of_sink s t)
  sink-ordered s t = ordered-flat_map (of_kind s t) (λ k l. kind_rank k < kind_rank l) LineBefore kinds kinds-ordered (λ k _. kind-ordered s t k)
      (λ j k _ _ h l m a b. let x = kind-mem s t j a in let y = kind-mem s t k b in
      inr (x.0 ∙ sym y.0, inr (x.1 ∙ sym y.1, inl (subst₂ (λ p q. kind_rank p < kind_rank q) (sym x.2) (sym y.2) h))))

  source-ordered : (s : ℕ) → Ordered LineBefore (of_source s)
  source-ordered s = ordered-flat_map (of_sink s) ◌<◌ LineBefore (up_from 0 n) (up_from-ordered 0 n) (λ t _. sink-ordered s t)
      (λ t u _ _ h l m a b. let x = sink-mem s t a in let y = sink-mem s u b in let e = x.1 in let f = y.1 in inr
      (x.0 ∙ sym y.0, inl (omega arith)))

  pub all_lines-ordered : Ordered LineBefore (all_lines n d)
  unfolding all_lines
  all_lines-ordered = ordered-flat_map of_source ◌<◌ LineBefore (up_from 0 n) (up_from-ordered 0 n) (λ s _. source-ordered s)
      (λ s t _ _ h l m a b. let e = (source-mem s a).0 in let f = (source-mem t b).0 in inl (omega arith))

  pub all_lines-distinct : Distinct (all_lines n d)
  all_lines-distinct = ordered-distinct LineBefore line-irreflexive (all_lines n d) all_lines-ordered
