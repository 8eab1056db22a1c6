-- A limit from its parts as they were read: the multiplier, then a constant and its coefficients.
use mathlib.Core.Path.{◌∙◌}
use mathlib.Core.List.{List}
use Prim.Native.Nat.{ℕ}
use lib.IntN.{ℤ}
use Rattle.std.specs.Prelude.{Result, Ok}
use Rattle.model.specs.Ticket as Model
use Rattle.model.specs.Grammar.{◌>>=◌, number, times, natural, limit, subscript, done}
use Rattle.ticket_refusals.specs.declared.Refusal.{Refusal}
use Rattle.ticket_words.specs.Reads.{Reads, plain}
use Rattle.ticket_words.specs.declared.Words.{Words}
use Rattle.ticket_words.proofs.ReaderLaws.{read-then, made-twice}

abbrev pub affine : ℤ → List ℤ → Model.Subscript
affine c cs = record { constant = c; coefficients = cs }

abbrev pub times-affine : ℕ → Model.Subscript → Model.Limit
times-affine p f = record { multiplier = p; constant = f.constant; coefficients = f.coefficients }

module _ (n : ℕ) {T : Type 0} {shown : T → Model.Limit} {o i e : Words} {v : ℕ} {r : Result T Refusal} where
  pub then-affine : Reads plain (natural 1 32767) o (Ok v) i → Reads shown (subscript n >>= (λ f. done (times-affine v f))) i r e
      → Reads shown (limit n) o r e
  unfolding limit subscript
  then-affine h g = read-then _ h (record {
    same = g.same ∙ made-twice number (λ _. times n number) affine i.bytes.now (times-affine v) i.next;
    bytes = g.bytes;
  })
