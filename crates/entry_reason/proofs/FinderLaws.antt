-- A finder of records. In order: the tool's answer by the number of records; the words of a ticket's records; a finder before its first record, with
-- more words, and with a record given.
use mathlib.Core.Path.{◌≡◌, refl, sym, ap, ap₂, ◌∙◌, subst}
use mathlib.Core.Bool.{cond}
use mathlib.Core.List.{List, [], ◌∷◌, ◌++◌, map, map-map}
use Prim.Native.Nat.{ℕ, zero, suc, ◌+◌, ◌-◌, ◌≤◌, ◌<◌, min}
use native.Mathlib.Nat.{zero-add, suc-add}
use native.Mathlib.Omega.{arith}
use lib.Dec.{eqb, eqb→eq}
use lib.IntN.{ℤ, pos}
use lib.ListN.{length, get_or, take, drop, replicate, length-map, length-append, length-drop}
use lib.Seq.{take_all, length-take-le, get_or-take, get_or-drop}
use Rattle.lists.specs.Parts.{rows}
use Rattle.lists.proofs.TestLaws.{not-T-false}
use Rattle.lists.proofs.PartLaws.{get_d_map, rows-get_d, row_fits}
use Rattle.model.specs.Answer.{Answer, accepted, refused}
use Rattle.model.specs.Ticket.{Nest, Step}
use Rattle.model.specs.Grammar.{decode, ticket_loops}
use Rattle.model.specs.Directions.{flow}
use Rattle.model.specs.Judge.{admit_of}
use Rattle.model.specs.Entries.{judge}
use Rattle.model.specs.Pairs.{Pair, Record, record_of, indices_in, traded, traded_at, explain, reason}
use Rattle.model.specs.Promises.{ReasonFits}
use Rattle.model.proofs.Demands.{reason-fits}
use Rattle.model.proofs.Promise.ReasonToolLaws.{at-ten, reason-judge}
use Rattle.entry_packing.specs.Packed.{fields, packed}
use Rattle.pair_records.specs.Conflicts.{record_room}
use Rattle.pair_records.specs.Windows.{batch, batch_room}
use Rattle.pair_records.specs.declared.Walked.{Walked}
use Rattle.pair_search.specs.Searches.{record_words_of, words_from, words_before, Searched}
use Rattle.pair_search.proofs.WordLaws.{words-all, words-parts, before-first}
use Rattle.entry_reason.specs.declared.Pair as Declared
use Rattle.entry_reason.specs.declared.Finder.{Finder}
use Rattle.entry_reason.specs.Records.{pair_of, records_at, records_found, found_in, packed_reason}
use Rattle.entry_reason.specs.Finders.{TenAt, nest_in, steps_in, RecordAt, Finding, Begun, Given, Refilled, gave, no_pair}

-- ---- the tool's answer by the number of records

explained-count : (k : ℕ) (rs : List Record) → packed_reason (explain k rs []).answer ≡ fields 0 k (length rs)
unfolding explain packed_reason
explained-count k [] = refl
explained-count k (r ∷ rs) = refl

explained-few : (k : ℕ) (rs : List Record) → ReasonFits (explain k rs []).answer → length rs < 4294967296
unfolding explain
explained-few k [] h = omega arith
explained-few k (r ∷ rs) h = h.1

-- ---- the words of a ticket's records

module _ {b : List ℕ} {step : ℕ} (t : TenAt b step) where
  abbrev pub all_words : List (List ℤ)
  all_words = words_from (steps_in t) (nest_in t) 0

  records-are : records_found b ≡ map record_of (traded (steps_in t) (nest_in t))
  unfolding records_found records_at traded_at
  records-are = ap (λ a. records_at a (λ k. map record_of (traded_at (admit_of (decode b)) k))) t.refuses
      ∙ ap (λ a. map record_of (traded_at a step)) t.admits

  pub words_are : all_words ≡ map record_words_of (records_found b)
  words_are = words-all (steps_in t) (nest_in t) ∙ sym (map-map record_words_of record_of (traded (steps_in t) (nest_in t)))
      ∙ ap (map record_words_of) (sym records-are)

  pub words_count : length all_words ≡ length (found_in b)
  unfolding found_in
  words_count = ap length words_are ∙ length-map (records_found b) record_words_of ∙ sym (length-map (records_found b) pair_of)

  explained : reason b [] ≡ explain step (records_found b) []
  explained = at-ten (decode b) [] step t.ticket t.admits t.refuses ∙ ap (λ rs. explain step rs []) (sym records-are)

  pub few_words : length all_words < 4294967296
  few_words = let e = ap length words_are ∙ length-map (records_found b) record_words_of in
      let h = explained-few step (records_found b) (subst (λ r. ReasonFits r.answer) explained (reason-fits b [])) in omega arith

  pub answer-is : (c : ℕ) → c ≡ length all_words → fields 0 step c ≡ packed_reason (reason b []).answer
  answer-is c e = ap (fields 0 step) (e ∙ ap length words_are ∙ length-map (records_found b) record_words_of)
      ∙ sym (ap (λ r. packed_reason r.answer) explained ∙ explained-count step (records_found b))

-- ---- a finder before its first record

pub begun : {b : List ℕ} {step : ℕ} (t : TenAt b step) (lent c a m : ℕ) (p : Declared.Pair) (w : List ℤ) → c ≡ length (all_words t)
    → a ≡ fields 0 step c → m ≡ min c lent → length w ≡ batch_room
    → Begun b lent (record {
      answer = a;
      most = m;
      given = 0;
      pair = p;
      step = step;
      source = 0;
      before = 0;
      first = 0;
      got = 0;
      words = w;
    })
unfolding rows
begun {b} {step} t lent c a m p w e f g l = record {
  answer = f ∙ answer-is t c e;
  most = g ∙ ap (λ n. min n lent) (e ∙ words_count t);
  given = refl;
  ready = λ _. record {
    ten = t;
    room = l;
    fits = omega arith;
    kept = refl;
    inside = omega arith;
    before = sym (ap length (before-first (steps_in t) (nest_in t)));
    passed = omega arith;
    first = omega arith;
    last = omega arith;
  };
}

-- nothing is found of a ticket that is not refused with 10
none_found : (a : Answer ℕ) (found : ℕ → List Record) → ((k : ℕ) → a ≡ refused 10 k → ⊥) → records_at a found ≡ []
unfolding records_at
none_found (accepted n) found h = refl
none_found (refused n p) found h = ap (λ t. cond t (found p) []) (not-T-false (eqb n 10) (λ t. h p (ap (λ m. refused m p) (eqb→eq n 10 t))))

pub begun-without : (b : List ℕ) (lent : ℕ) (r : Finder) → ((k : ℕ) → judge b ≡ refused 10 k → ⊥) → r.answer ≡ packed (judge b) → r.most ≡ 0
    → r.given ≡ 0 → Begun b lent r
unfolding packed_reason
begun-without b lent r h a m g = let n = nothing in record {
  answer = a ∙ sym (ap (λ x. packed_reason x.answer) (reason-judge (decode b) [] h));
  most = m ∙ sym (ap (λ k. min k lent) n ∙ least-none lent);
  given = g;
  ready = λ l. absurd (omega arith);
}
  where
    nothing : length (found_in b) ≡ 0
    nothing = unfold found_in in unfold records_found in ap (λ l. length (map pair_of l))
        (none_found (judge b) (λ k. map record_of (traded_at (admit_of (decode b)) k)) h)

    least-none : (k : ℕ) → min 0 k ≡ 0
    least-none k = omega arith

-- ---- more words

-- what a window keeps of a list
kept-front : {A : Type 0} (n : ℕ) (l : List A) → take n l ≡ take (min n (length l)) l
kept-front zero l = ap (λ k. take k l) (let q : 0 ≡ min 0 (length l) = omega arith in q)
kept-front (suc n) [] = sym (take_all (min (suc n) 0) [] (omega arith))
kept-front (suc n) (x ∷ l) = ap (x ∷◌) (kept-front n l) ∙ ap (λ k. take k (x ∷ l)) (let q : suc (min n (length l)) ≡ min (suc n) (suc
    (length l)) = omega arith in q)

drop_past : {A : Type 0} (p q : List A) (k : ℕ) → drop (length p + k) (p ++ q) ≡ drop k q
drop_past [] q k = ap (λ n. drop n q) (zero-add k)
drop_past (x ∷ p) q k = ap (λ n. drop n (x ∷ p ++ q)) (suc-add (length p) k) ∙ drop_past p q k

module _ {b : List ℕ} (f : Finder) (h : Finding b f) (l : f.first + f.got ≤ f.given) (r : Walked) (words : List ℤ)
    (s : Searched (steps_in h.ten) (nest_in h.ten) f.source (f.given - f.before) r words) where
  abbrev ts : List Step
  ts = steps_in h.ten

  abbrev N : Nest
  N = nest_in h.ten

  abbrev all : List (List ℤ)
  all = words_from ts N 0

  -- the records from the next one on
  ahead : drop f.given all ≡ drop (f.given - f.before) (words_from ts N f.source)
  ahead = let e = h.before in let p = h.passed in
      ap (drop f.given) (words-parts ts N f.source)
      ∙ ap (λ n. drop n (words_before ts N f.source ++ words_from ts N f.source))
      (let q : f.given ≡ length (words_before ts N f.source) + (f.given - f.before) = omega arith in q)
      ∙ drop_past (words_before ts N f.source) (words_from ts N f.source) (f.given - f.before)

  -- how many there are
  all-count : length all ≡ f.before + length (words_from ts N f.source)
  all-count = ap length (words-parts ts N f.source) ∙ length-append (words_before ts N f.source) (words_from ts N f.source)
      ∙ ap (◌+ length (words_from ts N f.source)) (sym h.before)

  pub refilled : Refilled b f (record {
    answer = f.answer;
    most = f.most;
    given = f.given;
    pair = f.pair;
    step = f.step;
    source = r.source;
    before = f.before + r.before;
    first = f.given;
    got = r.window.got;
    words = words;
  })
  refilled =
      let g = s.window.got in let c = all-count in let p = h.passed in let q = s.near in let m = s.before in let k = h.before in
      let d = length-drop (f.given - f.before) (words_from ts N f.source) in
      let w = ap length (words-parts ts N r.source) ∙ length-append (words_before ts N r.source) (words_from ts N r.source) in
      record {
        answer = refl;
        given = refl;
        finding = record {
          ten = h.ten;
          room = s.window.room;
          fits = omega arith;
          kept = s.window.kept ∙ kept-front batch (drop (f.given - f.before) (words_from ts N f.source))
              ∙ ap₂ take (let q : min batch (length (drop (f.given - f.before) (words_from ts N f.source))) ≡ r.window.got = omega arith in
              q) (sym ahead);
          inside = s.inside;
          before = omega arith;
          passed = omega arith;
          first = omega arith;
          last = omega arith;
        };
        some = λ n. let e = words_count h.ten in omega arith;
      }

-- ---- a record given

-- a record of all is as long as the ticket's loops may be
indices-four : (p : List ℤ) → length (indices_in p) ≡ ticket_loops
unfolding indices_in
indices-four p = length-take-le 4 (p ++ replicate 4 (pos 0)) (let e = length-append p (replicate 4 (pos 0)) in omega arith)

module _ {b : List ℕ} {step : ℕ} (t : TenAt b step) (i : ℕ) (l : i < length (found_in b)) where
  abbrev none : Record
  none = record { source = []; sink = []; source-statement = 0; sink-statement = 0; kind = 0 }

  -- record i of all
  abbrev pub record_no : Record
  record_no = get_or (records_found b) i none

  abbrev nothing : Pair
  nothing = record { source = record { statement = 0; iteration = [] }; sink = record { statement = 0; iteration = [] }; kind = flow }

  there : i < length (records_found b)
  unfolding found_in
  there = let e = length-map (records_found b) pair_of in omega arith

  its-pair : (r : Pair) × (record_of r ≡ record_no)
  its-pair = let e = records-are t in let ps = traded (steps_in t) (nest_in t) in let n = length-map ps record_of in let h = there in
      let m = ap length e in
      (get_or ps i nothing, sym (ap (λ rs. get_or rs i none) e ∙ get_d_map record_of ps i nothing none (omega arith)))

  source-four : length record_no.source ≡ ticket_loops
  unfolding record_of
  source-four = subst (λ (r : Record). length r.source ≡ ticket_loops) its-pair.1 (indices-four its-pair.0.source.iteration)

  sink-four : length record_no.sink ≡ ticket_loops
  unfolding record_of
  sink-four = subst (λ (r : Record). length r.sink ≡ ticket_loops) its-pair.1 (indices-four its-pair.0.sink.iteration)

  words-at : get_or (all_words t) i [] ≡ record_words_of record_no
  words-at = ap (λ ws. get_or ws i []) (words_are t) ∙ get_d_map record_words_of (records_found b) i none [] there

  pub pair-no : (d : Declared.Pair) → pair_of record_no ≡ get_or (found_in b) i d
  unfolding found_in
  pair-no d = sym (get_d_map pair_of (records_found b) i none d there)

module _ {b : List ℕ} (f : Finder) (h : Finding b f) (l : f.given < length (found_in b)) (g : f.given < f.first + f.got) where
  -- the next record stands among the words
  pub record-at : RecordAt f.words (f.given - f.first) (record_no h.ten f.given l)
  record-at =
      let k = f.given - f.first in let a = h.first in let r = h.room in let e = h.fits in
      let n : k < f.got = omega arith in let w = row_fits record_room k f.got n in
      let c = words_count h.ten in
      record {
        room = omega arith;
        few = omega arith;
        is = sym (rows-get_d record_room f.got f.words k [] n) ∙ ap (λ rs. get_or rs k []) h.kept
            ∙ get_or-take f.got (drop f.first (all_words h.ten)) k [] n ∙ get_or-drop f.first (all_words h.ten) k []
            ∙ ap (λ m. get_or (all_words h.ten) m []) (let q : f.first + k ≡ f.given = omega arith in q) ∙ words-at h.ten f.given l;
        source = source-four h.ten f.given l;
        sink = sink-four h.ten f.given l;
      }

  pub few-given : f.given < 4294967296
  few-given = let c = words_count h.ten in let m = few_words h.ten in omega arith

  -- the finder that has given it
  pub given-next : (r : Finder) → r ≡ gave f (pair_of (record_no h.ten f.given l)) → Given b f r
  given-next r e = subst (Given b f) (sym e) (record {
    answer = refl;
    given = refl;
    pair = pair-no h.ten f.given l no_pair;
    ready = λ m. let a = h.first in record {
      ten = h.ten;
      room = h.room;
      fits = h.fits;
      kept = h.kept;
      inside = h.inside;
      before = h.before;
      passed = h.passed;
      first = omega arith;
      last = omega arith;
    };
  })

-- given after more words were found
pub given-refilled : {b : List ℕ} (f r q : Finder) → Refilled b f r → Given b r q → Given b f q
given-refilled {b} f r q h g = record {
  answer = g.answer ∙ h.answer;
  given = g.given ∙ ap (◌+ 1) h.given;
  pair = g.pair ∙ ap (λ k. get_or (found_in b) k no_pair) h.given;
  ready = g.ready;
}
