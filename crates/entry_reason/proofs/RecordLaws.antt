-- The records of a ticket. In order: a struct and its record; what the tool answers and leaves, by the records found; a ticket that is refused
-- with 10.
use mathlib.Core.Path.{◌≡◌, refl, sym, ap, ap₂, ◌∙◌}
use mathlib.Core.Bool.{Bool, true, false, cond}
use mathlib.Core.List.{List, [], ◌∷◌, ◌++◌, map, map-append}
use Prim.Native.Nat.{ℕ, zero, suc}
use lib.Dec.{eqb}
use lib.ListN.{length, take, drop, length-map}
use Rattle.model.specs.Answer.{Answer, accepted, refused}
use Rattle.model.specs.Grammar.{decode}
use Rattle.model.specs.Judge.{admit_of}
use Rattle.model.specs.Entries.{judge}
use Rattle.model.specs.Pairs.{Record, record_of, fill, traded_at, verdict, explain, explain_ten, reason_of, reason}
use Rattle.entry_reason.specs.declared.Pair.{Pair}
use Rattle.entry_reason.specs.Records.{record_in, pair_of, records_in, records_at, records_found, found_in}

-- ---- a struct and its record

record-pair : (r : Record) → record_in (pair_of r) ≡ r
unfolding record_in pair_of
record-pair r = refl

records-pairs : (rs : List Record) → records_in (map pair_of rs) ≡ rs
records-pairs [] = refl
records-pairs (r ∷ rs) = ap₂ ◌∷◌ (record-pair r) (records-pairs rs)

take-records : (n : ℕ) (l : List Pair) → records_in (take n l) ≡ take n (records_in l)
take-records zero l = refl
take-records (suc n) [] = refl
take-records (suc n) (p ∷ l) = ap (record_in p ∷◌) (take-records n l)

drop-records : (n : ℕ) (l : List Pair) → records_in (drop n l) ≡ drop n (records_in l)
drop-records zero l = refl
drop-records (suc n) [] = refl
drop-records (suc n) (p ∷ l) = drop-records n l

records-filled : (rs : List Record) (l : List Pair) → records_in (fill (map pair_of rs) l) ≡ fill rs (records_in l)
unfolding fill
records-filled rs l =
    map-append record_in (take (length l) (map pair_of rs)) (drop (length (map pair_of rs)) l)
    ∙ ap₂ ◌++◌ (take-records (length l) (map pair_of rs) ∙ ap₂ take (sym (length-map l record_in)) (records-pairs rs))
    (drop-records (length (map pair_of rs)) l ∙ ap (λ n. drop n (records_in l)) (length-map rs pair_of))

-- ---- by the records found

fill_none : (l : List Record) → fill [] l ≡ l
unfolding fill
fill_none [] = refl
fill_none (r ∷ l) = refl

module _ (found : ℕ → List Record) (l : List Record) where
  explained-list : (a : Answer ℕ) → (explain_ten a found l).list ≡ fill (records_at a found) l
  unfolding explain_ten records_at
  explained-list (accepted n) = sym (fill_none l)
  explained-list (refused n p) = by (eqb n 10)
    where
      list_of : (rs : List Record) → (explain p rs l).list ≡ fill rs l
      list_of [] = unfold explain in sym (fill_none l)
      list_of (r ∷ rs) = unfold explain in refl

      by : (t : Bool) → (cond t (explain p (found p) l) (record { answer = verdict (refused n p); list = l })).list ≡ fill (cond t (found p) []) l
      by true = list_of (found p)
      by false = sym (fill_none l)

explained-answer : (found : ℕ → List Record) (l m : List Record) (a : Answer ℕ) → (explain_ten a found l).answer ≡ (explain_ten a found m).answer
unfolding explain_ten
explained-answer found l m (accepted n) = refl
explained-answer found l m (refused n p) = by (eqb n 10)
  where
    answer-of : (rs : List Record) → (explain p rs l).answer ≡ (explain p rs m).answer
    answer-of [] = unfold explain in refl
    answer-of (r ∷ rs) = unfold explain in refl

    by : (t : Bool) → (cond t (explain p (found p) l) (record { answer = verdict (refused n p); list = l })).answer
        ≡ (cond t (explain p (found p) m) (record { answer = verdict (refused n p); list = m })).answer
    by true = answer-of (found p)
    by false = refl

-- what the list holds in the end
pub reasoned-list : (b : List ℕ) (ys : List Pair) → records_in (fill (found_in b) ys) ≡ (reason b (records_in ys)).list
unfolding found_in records_found reason_of
reasoned-list b ys = records-filled (records_found b) ys
    ∙ sym (explained-list (λ k. map record_of (traded_at (admit_of (decode b)) k)) (records_in ys) (judge b))

-- the answer is the same for every list
pub reasoned-answer : (b : List ℕ) (l m : List Record) → (reason b l).answer ≡ (reason b m).answer
unfolding reason_of
reasoned-answer b l m = explained-answer (λ k. map record_of (traded_at (admit_of (decode b)) k)) l m (judge b)
