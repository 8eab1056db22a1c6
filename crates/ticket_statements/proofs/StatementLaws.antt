-- Statements one after another, and the reads at the end of one.
use mathlib.Core.Path.{◌≡◌, refl, sym, ap, ap₂, ◌∙◌}
use mathlib.Core.List.{List, [], ◌∷◌, ◌++◌, map, flat_map, map-append}
use Prim.Native.Nat.{ℕ, ◌+◌, ◌*◌, ◌-◌, ◌≤◌, ◌<◌}
use native.Mathlib.Omega.{arith}
use native.Mathlib.Numerals.{add-one}
use lib.IntN.{ℤ}
use lib.ListN.{length, take, set, length-append, length-set}
use lib.Seq.{take-suc-set}
use Rattle.std.specs.Prelude.{Result, Ok}
use Rattle.ticket_refusals.specs.declared.Refusal.{Refusal}
use Rattle.lists.proofs.FlatMapLaws.{flat_map-snoc}
use Rattle.model.specs.Ticket as Model
use Rattle.model.specs.Bounds.{accesses_of}
use Rattle.model.specs.Grammar.{◌>>=◌, count, times, done, access, statement, most_writes, most_reads}
use Rattle.ticket_words.specs.Reads.{Reads}
use Rattle.ticket_words.specs.declared.Words.{Words}
use Rattle.ticket_words.proofs.ReaderLaws.{Underway, regrouped, times-begin, times-next}
use Rattle.nest_flat.specs.Layout.{arrays_of}
use Rattle.ticket_statements.specs.Laid.{accesses_in, size_of}
use Rattle.ticket_statements.specs.Statements.{Lays, accesses, ReadsStatement}
use Rattle.ticket_statements.specs.declared.Statement.{Statement}
use Rattle.ticket_statements.specs.declared.accesses.Nest.{Nest}
use Rattle.ticket_statements.specs.declared.accesses.Accesses.{Accesses}
use Rattle.ticket_statements.proofs.AccessLaws.{lays-none, lays-more}

-- the reads of a statement, which f makes
module _ (lo n : ℕ) (as' : List (List ℕ)) (f : List Model.Access → Model.Statement) {T : Type 0} {shown : T → Model.Statement} {o e : Words}
    {r : Result T Refusal} where
  pub then-reads : Reads shown (accesses lo n as' >>= (λ rs. done (f rs))) o r e
      → Reads shown (count lo most_reads >>= (λ m. times m (access n as') >>= (λ rs. done (f rs)))) o r e
  unfolding accesses
  then-reads g = record {
    same = g.same ∙ sym (regrouped (count lo most_reads) (λ m. times m (access n as')) (λ rs. done (f rs)) o.bytes.now o.next);
    bytes = g.bytes;
  }

-- the access written, and those read
pub statement_lays : (rule constant : ℕ) {x : Model.Access} {rs : List Model.Access} {w v u : List ℤ} {a b c : Accesses} → Lays (x ∷ []) w v a b
    → Lays rs v u b c → Lays (accesses_of (record { rule = rule; constant = constant; writes = x ∷ []; reads = rs })) w u a c
unfolding accesses_of
statement_lays rule constant p q = lays-more p q

-- one number more for each statement
column-more : (f : Model.Statement → ℕ) (ss : List Model.Statement) (s : Model.Statement) (x : ℕ) (l : List ℕ) (i : ℕ) → i < length l → x ≡ f s
    → take i l ≡ map f ss → take (i + 1) (set l i x) ≡ map f (ss ++ (s ∷ []))
column-more f ss s x l i h e q =
    ap (λ k. take k (set l i x)) (add-one i) ∙ take-suc-set l i x h ∙ ap₂ (λ a y. a ++ (y ∷ [])) q e ∙ sym (map-append f ss (s ∷ []))

-- i of m statements are read and laid
pub record Filling (n : Nest) (m : ℕ) (o e : Words) (w w' : List ℤ) (a b : Accesses) (ms rs cs : List ℕ) (i : ℕ) : Type 0 where
  pub list : List Model.Statement
  pub number : length list ≡ i
  pub low : i ≤ m
  pub bounded : b.count ≤ a.count + i * (most_writes + most_reads)
  pub sizes-room : length ms ≡ 4
  pub rules-room : length rs ≡ 4
  pub constants-room : length cs ≡ 4
  pub lays : Lays (accesses_in list) w w' a b
  pub sizes : take i ms ≡ map size_of list
  pub rules : take i rs ≡ map (λ (s : Model.Statement). s.rule) list
  pub constants : take i cs ≡ map (λ (s : Model.Statement). s.constant) list
  pub underway : Underway (times m (statement n.depth (arrays_of n.extents.now))) o list (times (m - i) (statement n.depth (arrays_of n.extents.now))) e

module _ (n : Nest) (m : ℕ) (o : Words) (w : List ℤ) (a : Accesses) where
  pub filling-starts : (ms rs cs : List ℕ) → length ms ≡ 4 → length rs ≡ 4 → length cs ≡ 4 → Filling n m o o w w a a ms rs cs 0
  unfolding accesses_in flat_map
  filling-starts ms rs cs x y z = record {
    list = [];
    number = refl;
    low = omega arith;
    bounded = omega arith;
    sizes-room = x;
    rules-room = y;
    constants-room = z;
    lays = lays-none w a;
    sizes = refl;
    rules = refl;
    constants = refl;
    underway = times-begin (statement n.depth (arrays_of n.extents.now)) m o;
  }

  module _ (e : Words) (w' : List ℤ) (b : Accesses) (ms rs cs : List ℕ) (i : ℕ) (f : Filling n m o e w w' a b ms rs cs i) where
    pub filling-more : i < m → m ≤ 4 → {v : List ℤ} {c : Accesses} {x : Statement} {e' : Words} → ReadsStatement n e w' v b c (Ok x) e'
        → Filling n m o e' w v a c (set ms i x.size) (set rs i x.rule) (set cs i x.constant) (i + 1)
    unfolding accesses_in
    filling-more h few {v} {c} {x} t =
        let s = t.statement in
        let l = t.laid in
        let snoc : accesses_in (f.list ++ (s ∷ [])) ≡ accesses_in f.list ++ accesses_of s = flat_map-snoc accesses_of f.list s in
        record {
          list = f.list ++ (s ∷ []);
          number = let k = f.number in let u = length-append f.list (s ∷ []) in omega arith;
          low = omega arith;
          bounded = omega (arith, f.bounded, l.laid.count, l.few, l.size);
          sizes-room = simp length-set f.sizes-room;
          rules-room = simp length-set f.rules-room;
          constants-room = simp length-set f.constants-room;
          lays = rw snoc (lays-more f.lays l.laid);
          sizes = column-more size_of f.list s x.size ms i (omega (arith, f.sizes-room)) l.size f.sizes;
          rules = column-more (λ (s : Model.Statement). s.rule) f.list s x.rule rs i (omega (arith, f.rules-room)) l.rule f.rules;
          constants = column-more (λ (s : Model.Statement). s.constant) f.list s x.constant cs i (omega (arith, f.constants-room)) l.constant f.constants;
          underway = times-next (statement n.depth (arrays_of n.extents.now)) m i f.underway h t.reads refl;
        }
