use Rattle.dependence_marks.proofs.UseLaws.{enter-none, enter-next, enter-all}
use Rattle.dependence_marks.proofs.enter.Goals as goal

pub loop-k-init : goal.loop-k-init
loop-k-init c = let a = c.args in enter-none a.statements.now a.writes.now a.first a.size a.s

pub loop-k-preserved : goal.loop-k-preserved
loop-k-preserved c = let a = c.args in let l = c.loop-k in enter-next a.statements.now a.writes.now
    a.first a.size a.s c.requires l.statements l.writes l.k c.loop-k-test.true l.invariant

pub shape_of-statements : goal.shape_of-statements
shape_of-statements c = c.loop-k.invariant.statements-length

pub shape_of-writes : goal.shape_of-writes
shape_of-writes c = c.loop-k.invariant.writes-length

pub returns : goal.returns
returns c = let a = c.args in let l = c.loop-k in enter-all a.statements.now a.writes.now a.first
    a.size a.s l.statements l.writes l.k c.loop-k-test.false l.invariant
