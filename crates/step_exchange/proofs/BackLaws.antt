-- Limits laid over words leave what stands behind them, and limits that stand there are read as before. The same of what stands in front is in
-- `ticket_loops` (LimitLaws, LoopLaws).
use mathlib.Core.Path.{◌≡◌, refl, sym, ap, ap₂, ◌∙◌, subst}
use mathlib.Core.List.Memᴰ
use mathlib.Core.List.{List, [], ◌∷◌}
use Prim.Native.Nat.{ℕ, zero, suc, ◌+◌, ◌*◌, ◌-◌, ◌≤◌}
use native.Mathlib.Omega.{arith}
use lib.IntN.{ℤ, pos}
use lib.Signed.{◌<ℤ◌}
use lib.ListN.{length, get_or, drop}
use lib.Seq.{drop-drop, get_or-drop}
use Rattle.lists.specs.Parts.{put}
use Rattle.lists.proofs.PartLaws.{drop-put, length-put}
use Rattle.model.specs.Ticket as Model
use Rattle.model.specs.Encode.{limit_words}
use Rattle.model.specs.Shape.{Sized}
use Rattle.nest_flat.specs.Flat.{limit_at, limits_at, Positive}
use Rattle.ticket_loops.specs.Laid.{lay_limits}

length-words : (l : Model.Limit) (k : ℕ) → length l.coefficients ≡ k → length (limit_words l) ≡ 2 + k
unfolding limit_words
length-words l k e = omega arith

pub lay-back : (k : ℕ) → k ≤ 6 → (s : List ℤ) (j : ℕ) (ls : List Model.Limit) (m : ℕ) → (j + length ls) * 8 ≤ m → Sized k ls
    → (j + length ls) * 8 ≤ length s → drop m (lay_limits s j ls) ≡ drop m s
unfolding lay_limits
lay-back k f s j [] m g w h = refl
lay-back k f s j (l ∷ ls) m g w h =
    let n = length-words l k (w l (Memᴰ.head refl)) in
    let e = length-put s (j * 8) (limit_words l) (omega arith) in
    lay-back k f (put s (j * 8) (limit_words l)) (suc j) ls m (omega arith) (λ x i. w x (Memᴰ.tail i)) (omega arith)
    ∙ drop-put s (j * 8) (limit_words l) m (omega arith) (omega arith)

-- lists with one back
pub get_d-back : {A : Type 0} (m : ℕ) (s t : List A) (i : ℕ) (d : A) → drop m s ≡ drop m t → m ≤ i → get_or s i d ≡ get_or t i d
get_d-back m s t i d e h =
    let q : i ≡ m + (i - m) = omega arith in
    ap (λ n. get_or s n d) q ∙ sym (get_or-drop m s (i - m) d) ∙ ap (λ l. get_or l (i - m) d) e ∙ get_or-drop m t (i - m) d ∙ ap (λ n. get_or t n d) (sym q)

drop-back : {A : Type 0} (m : ℕ) (s t : List A) (i : ℕ) → drop m s ≡ drop m t → m ≤ i → drop i s ≡ drop i t
drop-back m s t i e h =
    let q : i ≡ m + (i - m) = omega arith in
    ap (λ n. drop n s) q ∙ sym (drop-drop (i - m) m s) ∙ ap (drop (i - m)) e ∙ drop-drop (i - m) m t ∙ ap (λ n. drop n t) (sym q)

limit-back : (m : ℕ) (s t : List ℤ) (k j : ℕ) → drop m s ≡ drop m t → m ≤ j * 8 → limit_at s k j ≡ limit_at t k j
unfolding limit_at
limit-back m s t k j e h =
    let p = get_d-back m s t (j * 8) (pos 0) e h in
    let q = get_d-back m s t (j * 8 + 1) (pos 0) e (omega arith) in
    let r = drop-back m s t (j * 8 + 2) e (omega arith) in
    rw (p, q, r)

pub limits-back : (m : ℕ) (s t : List ℤ) (k j n : ℕ) → drop m s ≡ drop m t → m ≤ j * 8 → limits_at s k j n ≡ limits_at t k j n
unfolding limits_at
limits-back m s t k j zero e h = refl
limits-back m s t k j (suc n) e h = ap₂ ◌∷◌ (limit-back m s t k j e h) (limits-back m s t k (suc j) n e (omega arith))

pub positive_back : (m : ℕ) (s t : List ℤ) (j n : ℕ) → drop m s ≡ drop m t → m ≤ j * 8 → Positive t j n → Positive s j n
positive_back m s t j n e h p i g = subst (λ (z : ℤ). pos 0 <ℤ z) (sym (get_d-back m s t ((j + i) * 8) (pos 0) e (omega arith))) (p i g)
