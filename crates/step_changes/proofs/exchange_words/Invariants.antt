use Rattle.step_changes.specs.Flips.{Traded}
use Rattle.step_changes.proofs.exchange_words.Given as goal

abbrev pub invariant-loop-i : goal.invariant-loop-i
invariant-loop-i l = Traded l.initial.words l.a l.b l.i l.words
