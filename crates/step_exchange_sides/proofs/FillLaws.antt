-- A limit added to a side: what is there already changes nothing, a new one goes to the end, a seventeenth makes the side full. Then limits added
-- one by one.
use mathlib.Core.Path.{◌≡◌, refl, sym, ◌∙◌, ap, subst}
use mathlib.Core.Bool.{Bool, true, false}
use mathlib.Core.List.{List, [], ◌∷◌, ◌++◌, flat_map, append_assoc, append-nil}
use Prim.Native.Nat.{ℕ, ◌<◌, ◌≤◌, ◌+◌, ◌*◌}
use native.Mathlib.Omega.{arith}
use native.Mathlib.Decide.{dec_lt}
use native.Mathlib.Nat.{add-zero}
use lib.Dec.{leb, le→leb, leb→le}
use lib.IntN.{ℤ, pos, nat_abs}
use lib.ListN.{length, get_or, length-append}
use lib.Seq.{length-take-le}
use Rattle.lists.specs.Parts.{put}
use Rattle.lists.specs.Tests.{any, unique}
use Rattle.lists.proofs.FlatMapLaws.{flat_map-append}
use Rattle.lists.proofs.PartLaws.{get_d-put, get_d-put-before, length-put}
use Rattle.lists.proofs.TestLaws.{T_true, false-not-T, not-T-false, unique-snoc}
use Rattle.model.specs.Ticket as Model
use Rattle.model.specs.Encode.{limit_words}
use Rattle.model.specs.Limits.{same_limit}
use Rattle.model.proofs.Steps.DeduplicatedLaws.{same_limit-decides}
use Rattle.ticket_loops.specs.LoopReads.{limit_of}
use Rattle.ticket_loops.specs.declared.Limit.{Limit}
use Rattle.nest_flat.specs.Flat.{limit_at, limits_at}
use Rattle.step_exchange_sides.specs.Filling.{Holds, Natural, Filled, Adds, WideIn}
use Rattle.nest_flat.proofs.FlatLaws.{limits-length}
use Rattle.step_exchange_sides.proofs.FlatLaws.{limits-more, limits-put}

-- ---- one limit

few : (n : ℕ) → n ≤ 16 → leb n 16 ≡ true
few n h = T_true (leb n 16) (le→leb n 16 h)

many : (n : ℕ) → 16 < n → leb n 16 ≡ false
many n h = not-T-false (leb n 16) (λ t. let k = leb→le n 16 t in absurd (omega arith))

beyond : (n : ℕ) → leb n 16 ≡ false → 16 < n
beyond n e = go (dec_lt 16 n)
  where
    go : Dec (16 < n) → 16 < n
    go (yes k) = k
    go (no k) = absurd (false-not-T (leb n 16) e (le→leb n 16 (omega arith)))

module _ (x : Model.Limit) (old : List Model.Limit) where
  abbrev u : List Model.Limit
  u = unique same_limit old

  abbrev new : List Model.Limit
  new = unique same_limit (old ++ (x ∷ []))

  stays : any (same_limit x) u ≡ true → new ≡ u
  stays e = unique-snoc same_limit same_limit-decides old x ∙ rw e

  grows : any (same_limit x) u ≡ false → new ≡ u ++ (x ∷ [])
  grows e = unique-snoc same_limit same_limit-decides old x ∙ rw e

  one_more : any (same_limit x) u ≡ false → length new ≡ length u + 1
  one_more e = ap length (grows e) ∙ length-append u (x ∷ [])

  no-shorter : length u ≤ length new
  no-shorter = go (any (same_limit x) u) refl
    where
      go : (b : Bool) → any (same_limit x) u ≡ b → length u ≤ length new
      go true e = let n = ap length (stays e) in omega arith
      go false e = let n = one_more e in omega arith

  module _ (n : ℕ) (f : List ℤ) (c : ℕ) (h : Holds n f c old) where
    counted : c ≤ 16 → length u ≡ c
    counted g = ap length (sym (h.limits g)) ∙ limits-length f n 0 c

    holds-full : 16 < c → Holds n f c (old ++ (x ∷ []))
    holds-full g =
        let l = beyond (length u) (sym h.few ∙ many c g) in
        let k = no-shorter in
        record { few = many c g ∙ sym (many (length new) (omega arith)); limits = λ w. absurd (omega arith) }

    holds-there : c ≤ 16 → any (same_limit x) (limits_at f n 0 c) ≡ true → Holds n f c (old ++ (x ∷ []))
    holds-there g e = let s = stays (subst (λ w. any (same_limit x) w ≡ true) (h.limits g) e) in
        record { few = h.few ∙ ap (λ w. leb (length w) 16) (sym s); limits = λ w. h.limits w ∙ sym s }

    module _ (e : any (same_limit x) (limits_at f n 0 c) ≡ false) where
      absent : c ≤ 16 → any (same_limit x) u ≡ false
      absent g = subst (λ w. any (same_limit x) w ≡ false) (h.limits g) e

      holds-last : c ≡ 16 → Holds n f 17 (old ++ (x ∷ []))
      holds-last q =
          let g : c ≤ 16 = omega arith in
          let k = counted g in
          let l = one_more (absent g) in
          record { few = many 17 (omega arith) ∙ sym (many (length new) (omega arith)); limits = λ w. absurd (omega arith) }

      holds-new : c < 16 → (r : List ℤ) → limits_at r n 0 (c + 1) ≡ limits_at f n 0 c ++ (x ∷ []) → Holds n r (c + 1) (old ++ (x ∷ []))
      holds-new q r w =
          let g : c ≤ 16 = omega arith in
          let k = counted g in
          let l = one_more (absent g) in
          record {
            few = few (c + 1) (omega arith) ∙ sym (few (length new) (omega arith));
            limits = λ _. w ∙ ap (◌++ (x ∷ [])) (h.limits g)
                ∙ sym (grows (absent g));
          }

module _ (n : ℕ) (f : List ℤ) (c : ℕ) (x : Limit) (p : Filled f c) where
  abbrev y : Model.Limit
  y = limit_of n x

  pub push-full : 16 < c → Adds n f c (y ∷ []) f c
  push-full g = record { adds = λ old h. holds-full y old n f c h g; within = p }

  pub push-there : c ≤ 16 → any (same_limit y) (limits_at f n 0 c) ≡ true → Adds n f c (y ∷ []) f c
  push-there g e = record { adds = λ old h. holds-there y old n f c h g e; within = p }

  pub push-last : c ≡ 16 → any (same_limit y) (limits_at f n 0 c) ≡ false → Adds n f c (y ∷ []) f 17
  push-last q e = record {
    adds = λ old h. holds-last y old n f c h e q;
    within = record {
      room = p.room;
      natural = λ i g k. p.natural i g
          (omega arith);
    };
  }

  module _ (w : WideIn n x) (q : c < 16) (r : List ℤ) (s : r ≡ put f (c * 8) (limit_words y)) where
    sized : length y.coefficients ≡ n
    unfolding limit_of
    sized = let g = w.place in let k = w.limit.room in length-take-le n x.coefficients (omega arith)

    words : length (limit_words y) ≡ 2 + n
    unfolding limit_words
    words = let k = sized in omega arith

    new-room : length r ≡ 128
    new-room = let g = w.place in let k = words in let l = p.room in ap length s ∙ length-put f (c * 8) (limit_words y) (omega arith) ∙ l

    natural-there : Natural (put f (c * 8) (limit_words y)) c
    unfolding limit_words
    natural-there =
        let l = p.room in
        let e : get_or (put f (c * 8) (limit_words y)) (c * 8) (pos 0) ≡ pos y.multiplier =
        ap (λ i. get_or (put f (c * 8) (limit_words y)) i (pos 0)) (sym (add-zero (c * 8)))
        ∙ get_d-put f (c * 8) (limit_words y) 0 (pos 0) (omega arith) (omega arith) in
        e ∙ ap pos (sym (ap nat_abs e))

    natural-before : (i : ℕ) → i < c → Natural (put f (c * 8) (limit_words y)) i
    natural-before i g =
        let l = p.room in
        let e = get_d-put-before f (c * 8) (limit_words y) (i * 8) (pos 0) (omega arith) (omega arith) in
        e ∙ p.natural i (omega arith) g ∙ ap (λ z. pos (nat_abs z)) (sym e)

    natural-new : (i : ℕ) → i < c + 1 → Natural (put f (c * 8) (limit_words y)) i
    natural-new i g = go (dec_lt i c)
      where
        go : Dec (i < c) → Natural (put f (c * 8) (limit_words y)) i
        go (yes k) = natural-before i k
        go (no k) = let e : c ≡ i = omega arith in subst (Natural (put f (c * 8) (limit_words y))) e natural-there

    pub push-new : any (same_limit y) (limits_at f n 0 c) ≡ false → Adds n f c (y ∷ []) r (c + 1)
    push-new e =
        let g = w.place in
        let l = p.room in
        record {
          adds = λ old h. holds-new y old n f c h e q r (ap (λ t. limits_at t n 0 (c + 1)) s ∙ limits-put f n c y g sized (omega arith));
          within = record { room = new-room; natural = λ i _ k. subst (λ (t : List ℤ). Natural t i) (sym s) (natural-new i k) };
        }

-- ---- limits one by one

pub holds-none : (n : ℕ) (f : List ℤ) → Holds n f 0 []
unfolding limits_at unique
holds-none n f = record { few = refl; limits = λ _. refl }

pub filled_none : (f : List ℤ) → length f ≡ 128 → Filled f 0
filled_none f e = record { room = e; natural = λ i g k. absurd (omega arith) }

module _ (n : ℕ) (f : List ℤ) (c : ℕ) where
  pub adds_none : Filled f c → Adds n f c [] f c
  adds_none p = record { adds = λ old h. subst (Holds n f c) (sym (append-nil old)) h; within = p }

  module _ (r : List ℤ) (e : ℕ) where
    pub adds-both : (g : List ℤ) (d : ℕ) (xs ys : List Model.Limit) → Adds n f c xs g d → Adds n g d ys r e → Adds n f c (xs ++ ys) r e
    adds-both g d xs ys a b = record {
      adds = λ old h. subst (Holds n r e) (append_assoc old xs ys) (b.adds (old ++ xs) (a.adds old h));
      within = b.within;
    }

    pub adds_same : {xs ys : List Model.Limit} → xs ≡ ys → Adds n f c xs r e → Adds n f c ys r e
    adds_same q a = subst (λ l. Adds n f c l r e) q a

-- what the first k limits of s from limit j on give, and what one more gives
module _ (G : Model.Limit → List Model.Limit) (s : List ℤ) (m j : ℕ) (n : ℕ) (f : List ℤ) (c : ℕ) where
  pub adds-start : Filled f c → Adds n f c (flat_map G (limits_at s m j 0)) f c
  unfolding flat_map limits_at
  adds-start p = adds_none n f c p

  pub adds-more : (k : ℕ) (g : List ℤ) (d : ℕ) (r : List ℤ) (e : ℕ) → Adds n f c (flat_map G (limits_at s m j k)) g d
      → Adds n g d (G (limit_at s m (j + k))) r e
      → Adds n f c (flat_map G (limits_at s m j (k + 1))) r e
  adds-more k g d r e a b = adds_same n f c r e
      (ap (flat_map G (limits_at s m j k) ++◌) (sym one) ∙ sym (flat_map-append G (limits_at s m j k) (limit_at s m (j + k) ∷ []))
      ∙ ap (flat_map G) (sym (limits-more s m j k)))
      (adds-both n f c r e g d (flat_map G (limits_at s m j k)) (G (limit_at s m (j + k))) a b)
    where
      one : flat_map G (limit_at s m (j + k) ∷ []) ≡ G (limit_at s m (j + k))
      one = unfold flat_map in append-nil (G (limit_at s m (j + k)))

-- three parts of a side, added one after another
pub holds_parts : (n : ℕ) {f g r : List ℤ} {c d e : ℕ} (xs ys zs : List Model.Limit) → Holds n f c xs → Adds n f c ys g d → Adds n g d zs r e
    → Holds n r e (xs ++ (ys ++ zs))
holds_parts n {f} {g} {r} {c} {d} {e} xs ys zs h a b = (adds-both n f c r e g d ys zs a b).adds xs h
