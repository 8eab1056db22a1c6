-- The four sections one after another, then the end: the model's ticket from what was read of each.
use mathlib.Core.Path.{◌≡◌, refl, sym}
use mathlib.Core.List.{List}
use Prim.Native.Nat.{ℕ, ◌-◌, ◌*◌, ◌<◌, ◌≤◌}
use borrow.Author.Tests.{le-leb, lt-leb}
use lib.ListN.{length}
use Rattle.model.specs.Answer as Answer
use Rattle.model.specs.Answer.{accepted, refused, require}
use Rattle.model.specs.Ticket as Model
use Rattle.model.specs.Grammar.{◌>>◌, must_at, loops, arrays, statements, steps, nest, end, ticket, decode, ticket_loops, ticket_limits}
use Rattle.std.specs.Prelude.{Ok, Err}
use Rattle.ticket_refusals.specs.Refusals.{refusal}
use Rattle.ticket_refusals.specs.declared.Refusal.{Refusal}
use Rattle.ticket_refusals.specs.declared.Refusal.TheVariants.{TrailingBytes}
use Rattle.ticket_words.specs.Reads.{Reads, plain}
use Rattle.ticket_words.specs.declared.Words.{Words}
use Rattle.ticket_words.proofs.ReaderLaws.{read-value, read-refusal, refused-first, read-then, read-done}

-- ---- section by section; v, w, x and y see what was read as the model does

module _ {o e : Words} {r : Refusal} where
  no-nest : Reads (plain {A = Model.Nest}) (nest ticket_loops ticket_limits) o (Err r) e → Reads plain ticket o (Err r) e
  unfolding ticket
  no-nest h = refused-first _ h

  pub no-loops : {L : Type 0} {v : L → List Model.Loop} → Reads v (loops ticket_loops ticket_limits) o (Err r) e → Reads plain ticket o (Err r) e
  no-loops h = no-nest (unfold nest in refused-first _ h)

module _ {L : Type 0} {v : L → List Model.Loop} {l : L} {o i : Words} (f : Reads v (loops ticket_loops ticket_limits) o (Ok l) i) where
  pub no-arrays : {A : Type 0} {w : A → List (List ℕ)} {r : Refusal} {e : Words} → Reads w arrays i (Err r) e → Reads plain ticket o (Err r) e
  no-arrays h = no-nest (unfold nest in read-then _ f (refused-first _ h))

  module _ {A : Type 0} {w : A → List (List ℕ)} {a : A} {j : Words} (g : Reads w arrays i (Ok a) j) where
    pub no-statements : {S : Type 0} {x : S → List Model.Statement} {r : Refusal} {e : Words}
        → Reads x (statements (length (v l)) (w a)) j (Err r) e → Reads plain ticket o (Err r) e
    no-statements h = no-nest (unfold nest in read-then _ f (read-then _ g (refused-first _ h)))

    module _ {S : Type 0} {x : S → List Model.Statement} {s : S} {k : Words} (h : Reads x (statements (length (v l)) (w a)) j (Ok s) k) where
      abbrev all : Model.Nest
      all = record { loops = v l; arrays = w a; statements = x s }

      nest-read : Reads plain (nest ticket_loops ticket_limits) o (Ok all) k
      unfolding nest
      nest-read = read-then _ f (read-then _ g (read-then _ h (read-done _ refl)))

      pub no_steps : {P : Type 0} {y : P → List Model.Step} {r : Refusal} {e : Words} → Reads y (steps (length (v l))) k (Err r) e
          → Reads plain ticket o (Err r) e
      unfolding ticket
      no_steps p = read-then _ nest-read (refused-first _ p)

      module _ {P : Type 0} {y : P → List Model.Step} {t : P} {e : Words} (p : Reads y (steps (length (v l))) k (Ok t) e) where
        pub trailing : (e.next - 1) * 2 < length e.bytes.now → Reads plain ticket o (Err (TrailingBytes e.next)) e
        unfolding ticket ◌>>◌
        trailing q = read-then _ nest-read (read-then _ p (refused-first _ over))
          where
            over : Reads (plain {A = Unit {0}}) end e (Err (TrailingBytes e.next)) e
            over = unfold end must_at require Answer.◌>>=◌ in record { same = rw (lt-leb (length e.bytes.now) ((e.next - 1) * 2) q) refl; bytes = refl }

        pub whole : length e.bytes.now ≤ (e.next - 1) * 2 → Reads plain ticket o (Ok (record { nest = all; steps = y t })) e
        unfolding ticket ◌>>◌
        whole q = read-then _ nest-read (read-then _ p (read-then _ ended (read-done _ refl)))
          where
            ended : Reads (plain {A = Unit {0}}) end e (Ok tt) e
            ended = unfold end must_at require Answer.◌>>=◌ in record { same = rw (le-leb (length e.bytes.now) ((e.next - 1) * 2) q) refl; bytes = refl }

-- ---- the answer

module _ {b : List ℕ} {o e : Words} (bytes : o.bytes.now ≡ b) (first : o.next ≡ 1) where
  pub decode-accepted : {t : Model.Ticket} → Reads plain ticket o (Ok t) e → decode b ≡ accepted t
  unfolding decode Answer.◌>>=◌
  decode-accepted h = rw (sym bytes, sym first, read-value h) refl

  pub decode-refused : {r : Refusal} → Reads (plain {A = Model.Ticket}) ticket o (Err r) e → decode b ≡ refusal r
  unfolding decode Answer.◌>>=◌
  decode-refused h = rw (sym bytes, sym first, read-refusal h) refl
