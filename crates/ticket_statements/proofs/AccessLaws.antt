-- An access read and laid subscript by subscript, then accesses one after another.
use mathlib.Core.Path.{◌≡◌, refl, sym, ap, ap₂, ◌∙◌}
use mathlib.Core.List.{List, [], ◌∷◌, ◌++◌, map, map-append}
use Prim.Native.Nat.{ℕ, suc, ◌+◌, ◌*◌, ◌-◌, ◌/◌, ◌≤◌, ◌<◌}
use native.Mathlib.Omega.{arith}
use native.Mathlib.Nat.{add-zero}
use lib.IntN.{ℤ}
use lib.ListN.{length, get_or, drop, set, length-append, length-map, length-drop}
use lib.Seq.{length-take-le}
use Rattle.std.specs.Prelude.{Result, Ok}
use Rattle.ticket_refusals.specs.declared.Refusal.{Refusal}
use Rattle.lists.specs.Parts.{put}
use Rattle.lists.proofs.PartLaws.{put-nil, put-put, set-is-put}
use Rattle.model.specs.Ticket as Model
use Rattle.model.specs.Grammar.{◌>>=◌, natural, times, done, extents, subscript, access, most_words, most_accesses}
use Rattle.model.proofs.Answers.AnswerLaws.{leads-accepted}
use Rattle.model.proofs.Grammar.StatementReading as Reading
use Rattle.ticket_words.specs.Reads.{Reads, plain}
use Rattle.ticket_words.specs.declared.Words.{Words}
use Rattle.ticket_words.proofs.ReaderLaws.{Underway, read-value, read-then, times-begin, times-next}
use Rattle.nest_flat.specs.Layout.{extents_at, arrays_of, ArrayIn}
use Rattle.nest_elements.proofs.LayoutLaws.{extents-are}
use Rattle.nest_elements.proofs.ElementLaws.{arrays-length}
use Rattle.ticket_arrays.specs.Laid.{lay_rows}
use Rattle.ticket_arrays.proofs.RowLaws.{rows_more}
use Rattle.ticket_loops.specs.Laid.{affine_words}
use Rattle.ticket_loops.specs.LoopReads.{affine_of, AffineIn, LayAffineIn}
use Rattle.ticket_loops.specs.declared.Affine.{Affine}
use Rattle.ticket_statements.specs.Arrays.{ArraysIn}
use Rattle.ticket_statements.specs.Laid.{lay_access, lay_accesses, array_numbers}
use Rattle.ticket_statements.specs.Statements.{Laid, Lays, ReadsAccess}
use Rattle.ticket_statements.specs.declared.accesses.Nest.{Nest}
use Rattle.ticket_statements.specs.declared.accesses.Accesses.{Accesses}

-- ---- the arrays that an access may name

module _ (e : List ℕ) (p : ArraysIn e) where
  array-in : (i : ℕ) → i < length e / 4 → ArrayIn e i
  array-in i h = record { few = p.few; there = h; dimensions = p.dimensions; extents = p.extents }

  pub array-dimensions : (i : ℕ) → i < length e / 4 → get_or e (i * 4) 0 ≡ length (extents (arrays_of e) i)
  unfolding extents_at
  array-dimensions i h =
      let d = p.dimensions i h in
      let n = length-drop (i * 4 + 1) e in
      sym (ap length (extents-are e i (array-in i h)) ∙ length-take-le (get_or e (i * 4) 0) (drop (i * 4 + 1) e) (omega arith))

  module _ (n : ℕ) {T : Type 0} {shown : T → Model.Access} {o i x : Words} {v : ℕ} {r : Result T Refusal} where
    -- the array's number is read, and then a subscript for each of its dimensions
    pub after-array : Reads plain (natural 1 (length e / 4)) o (Ok v) i → v - 1 < length e / 4
        → Reads shown (times (get_or e ((v - 1) * 4) 0) (subscript n) >>= (λ ss. done (record { array = v - 1; subscripts = ss }))) i r x
        → Reads shown (access n (arrays_of e)) o r x
    unfolding access
    after-array h g t =
        let made = λ (ss : List Model.Subscript). done (record { array = v - 1; subscripts = ss }) in
        let named : Reads plain (natural 1 (length (arrays_of e))) o (Ok v) i = rw (arrays-length e) h in
        let rest : Reads shown (times (length (extents (arrays_of e) (v - 1))) (subscript n) >>= made) i r x = rw (sym (array-dimensions (v - 1) g)) t in
        read-then _ named rest

-- ---- one access

-- what the grammar says of a subscript
subscript-read : (n : ℕ) {o e : Words} {x : Affine} → Reads (affine_of n) (subscript n) o (Ok x) e → Reading.SubscriptRead n (affine_of n x)
subscript-read n {o} h = let r = o.reached in
    (leads-accepted _ _ ((Reading.subscript-meets n).from o.bytes.now o.next (record { first = r.counted; there = r.there })).leads
    (read-value h)).holds.holds

-- d of m subscripts of access k are read and laid
pub record Filling (n m k : ℕ) (o e : Words) (w w' : List ℤ) (d : ℕ) : Type 0 where
  pub subscripts : List Model.Subscript
  pub number : length subscripts ≡ d
  pub low : d ≤ m
  pub laid : w' ≡ lay_rows 8 w (k * 3) (map affine_words subscripts)
  pub underway : Underway (times m (subscript n)) o subscripts (times (m - d) (subscript n)) e

module _ (n m k : ℕ) (o : Words) (w : List ℤ) where
  pub filling-starts : Filling n m k o o w w 0
  unfolding lay_rows
  filling-starts = record { subscripts = []; number = refl; low = omega arith; laid = refl; underway = times-begin (subscript n) m o }

  module _ (e : Words) (w' : List ℤ) (d : ℕ) (f : Filling n m k o e w w' d) {x : Affine} {e' : Words} (h : d < m)
      (t : Reads (affine_of n) (subscript n) e (Ok x) e') where
    pub next-in : m ≤ 3 → length w' ≡ most_words → k < most_accesses → n ≤ 6 → AffineIn x → LayAffineIn (length w') ((k * 3 + d) * 8) n x
    next-in few l g s i = record { fits = omega arith; shallow = s; within = i; ranges = (subscript-read n t).ranges }

    pub filling-more : (v : List ℤ) → v ≡ put w' ((k * 3 + d) * 8) (affine_words (affine_of n x)) → Filling n m k o e' w v (d + 1)
    filling-more v q =
        let y = affine_of n x in
        let F = map affine_words f.subscripts in
        let i : d ≡ length F = omega (arith, length-map f.subscripts affine_words, f.number) in
        record {
          subscripts = f.subscripts ++ (y ∷ []);
          number = let u = f.number in let a = length-append f.subscripts (y ∷ []) in omega arith;
          low = omega arith;
          laid = q ∙ ap₂ (λ z u. put z ((k * 3 + u) * 8) (affine_words y)) f.laid i ∙ sym (rows_more 8 w (k * 3) F (affine_words y))
              ∙ ap (lay_rows 8 w (k * 3)) (sym (map-append affine_words f.subscripts (y ∷ [])));
          underway = times-next (subscript n) m d f.underway h t refl;
        }

-- the array and all subscripts
pub access_laid : (k : ℕ) (w w' : List ℤ) (o : List ℕ) (a : Model.Access) → k < length o → w' ≡ lay_rows 8 w (k * 3) (map affine_words a.subscripts)
    → Laid k (a ∷ []) w w' o (set o k a.array)
unfolding lay_accesses lay_access
access_laid k w w' o a h e = record { words = e; named = set-is-put o k a.array h }

-- ---- accesses one after another

pub lay-append : (s : List ℤ) (k : ℕ) (as' bs : List Model.Access)
    → lay_accesses s k (as' ++ bs) ≡ lay_accesses (lay_accesses s k as') (k + length as') bs
unfolding lay_accesses
lay-append s k [] bs = ap (λ n. lay_accesses s n bs) (sym (add-zero k))
lay-append s k (a ∷ as') bs =
    let e : suc k + length as' ≡ k + suc (length as') = omega arith in
    lay-append (lay_access s k a) (suc k) as' bs ∙ ap (λ n. lay_accesses (lay_accesses (lay_access s k a) (suc k) as') n bs) e

pub lays-none : (w : List ℤ) (a : Accesses) → Lays [] w w a a
unfolding lay_accesses
lays-none w a = record { laid = record { words = refl; named = sym (put-nil a.accessed a.count) }; count = sym (add-zero a.count) }

pub lays-more : {xs ys : List Model.Access} {w v u : List ℤ} {a b c : Accesses} → Lays xs w v a b → Lays ys v u b c → Lays (xs ++ ys) w u a c
lays-more {xs} {ys} {w} {v} {u} {a} {b} {c} p q =
    let number = λ (x : Model.Access). x.array in
    let l = length-map xs number in
    let m : b.count ≡ a.count + length (array_numbers xs) = omega (arith, p.count) in
    let h = p.count in let f = b.few in let r = a.room in
    record {
      laid = record {
        words = q.laid.words ∙ ap₂ (λ s k. lay_accesses s k ys) p.laid.words p.count ∙ sym (lay-append w a.count xs ys);
        named = q.laid.named ∙ ap₂ (λ s k. put s k (array_numbers ys)) p.laid.named m
            ∙ put-put a.accessed a.count (array_numbers xs) (array_numbers ys) (omega arith)
            ∙ ap (put a.accessed a.count) (sym (map-append number xs ys));
      };
      count = let g = q.count in let s = length-append xs ys in omega arith;
    }

-- i of m accesses are read and laid
pub record Passing (n : Nest) (m : ℕ) (o e : Words) (w w' : List ℤ) (a b : Accesses) (i : ℕ) : Type 0 where
  pub list : List Model.Access
  pub number : length list ≡ i
  pub low : i ≤ m
  pub lays : Lays list w w' a b
  pub underway : Underway (times m (access n.depth (arrays_of n.extents.now))) o list (times (m - i) (access n.depth (arrays_of n.extents.now))) e

module _ (n : Nest) (m : ℕ) (o : Words) (w : List ℤ) (a : Accesses) where
  pub passing-starts : Passing n m o o w w a a 0
  passing-starts = record {
    list = [];
    number = refl;
    low = omega arith;
    lays = lays-none w a;
    underway = times-begin (access n.depth (arrays_of n.extents.now)) m o;
  }

  pub passing-more : (e : Words) (w' : List ℤ) (b : Accesses) (i : ℕ) → Passing n m o e w w' a b i → i < m → {v : List ℤ} {c : Accesses} {u : Unit {0}}
      {e' : Words} → ReadsAccess n e w' v b c (Ok u) e' → Passing n m o e' w v a c (i + 1)
  passing-more e w' b i f h r = record {
    list = f.list ++ (r.access ∷ []);
    number = let t = f.number in let s = length-append f.list (r.access ∷ []) in omega arith;
    low = omega arith;
    lays = lays-more f.lays r.laid;
    underway = times-next (access n.depth (arrays_of n.extents.now)) m i f.underway h r.reads refl;
  }
