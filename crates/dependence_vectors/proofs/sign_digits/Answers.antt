-- `sign_digits`: however many signs are read, they are all.
use native.Mathlib.Omega.{arith}
use Rattle.dependence_vectors.proofs.VectorLaws.{left-done}
use Rattle.dependence_vectors.proofs.sign_digits.Goals as goal

pub returns-in-1 : goal.returns-in-1
returns-in-1 c = left-done _ _ c.requires _ _ (omega (arith, c.in-1.is)) (omega (arith, c.in-1.is)) c.first_signs.ensures

pub returns-in-2 : goal.returns-in-2
returns-in-2 c = left-done _ _ c.requires _ _ (omega (arith, c.in-2.is)) (omega (arith, c.in-2.is)) c.first_signs-in-2.ensures

pub returns-in-3 : goal.returns-in-3
returns-in-3 c = left-done _ _ c.requires _ _ (omega (arith, c.in-3.is)) (omega (arith, c.in-3.is)) c.first_signs-in-3.ensures

pub returns-in-4 : goal.returns-in-4
returns-in-4 c = left-done _ _ c.requires _ _ (omega (arith, c.in-4.is)) (omega (arith, c.in-4.is)) c.first_signs-in-4.ensures

pub returns-in_default : goal.returns-in_default
returns-in_default c = left-done _ _ c.requires _ _ (omega arith) (omega arith) c.first_signs-in_default.ensures
