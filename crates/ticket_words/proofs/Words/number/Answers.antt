-- `number`: −32768 is the only word out of range.
use mathlib.Core.Path.{sym, ◌∙◌, ap}
use native.Mathlib.Omega.{arith}
use Prim.Native.Nat.{◌+◌}
use Rattle.model.specs.Answer.{accepted}
use Rattle.model.specs.Grammar.{number}
use Rattle.std.proofs.lemmas.Result.{err_from_is_err_and}
use Rattle.ticket_words.proofs.WordLaws.{number_fits, number-bad, within-value, within-no, within-refused}
use borrow.Author.Rules.{rules}
use Rattle.ticket_words.proofs.Words.number.Goals as goal

pub returns-in_err-v : goal.returns-in_err-v
unfolding number
returns-in_err-v c =
    let p = err_from_is_err_and c.from_residual.result c.from_residual.ensures.1 in
    let h = c.in_err-v.ensures in
    rw (p.1, p.2) (record { same = sym (within-refused _ _ _ _ (sym h.same) _ _); bytes = h.bytes })

pub returns-then-v : goal.returns-then-v
unfolding number
returns-then-v c =
    let h = c.in_ok-v.ensures in
    record { same = sym (within-no _ _ _ (sym h.same) _ _ (number-bad _ c.if-v.true)); bytes = h.bytes }

pub returns : goal.returns
unfolding number
returns c =
    let h = c.in_ok-v.ensures in
    let n = h.next in
    record {
      same = rw n (ap (λ z. accepted (record { value = z; next = c.args.self.now.next + 1 }))
          (search rules ∙ c.signed_of.ensures)
          ∙ sym (within-value _ _ _ (sym h.same) _ _ (number_fits _ (omega arith) c.if-v.false)));
      bytes = h.bytes;
    }
