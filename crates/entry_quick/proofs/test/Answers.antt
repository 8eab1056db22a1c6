-- `test`: the first number, the second, then the test.
use mathlib.Core.Path.{ap}
use mathlib.Core.Bool.{not}
use native.Mathlib.Omega.{arith}
use Rattle.entry_quick.proofs.TestLaws.{no-first, no_second, access-there, test_in, says-apart, says-perhaps}
use Rattle.entry_quick.proofs.test.Goals as goal

pub returns-then-not-is_access : goal.returns-then-not-is_access
returns-then-not-is_access c = let a = c.is_access in no-first _ c.requires c.args.first a.result a.ensures
    (ap not c.if-not-is_access.true) c.args.second

pub returns-then-not-is_access-2 : goal.returns-then-not-is_access-2
returns-then-not-is_access-2 c = let a = c.is_access in let b = c.is_access-2 in no_second _ c.requires c.args.first a.result a.ensures (ap not c.if-not-is_access.false) c.args.second b.result b.ensures
    (ap not c.if-not-is_access-2.true)

pub overflow_sub-first : goal.overflow_sub-first
overflow_sub-first c = let a = c.is_access in let q = (access-there _ c.requires
    c.args.first a.result a.ensures (ap not c.if-not-is_access.false)).0 in omega arith

pub overflow_sub-second : goal.overflow_sub-second
overflow_sub-second c = let b = c.is_access-2 in let q = (access-there _ c.requires c.args.second
    b.result b.ensures (ap not c.if-not-is_access-2.false)).0 in omega arith

pub is_apart-requires : goal.is_apart-requires
is_apart-requires c = let a = c.is_access in let b = c.is_access-2 in test_in _ c.requires c.args.first a.result a.ensures (ap not c.if-not-is_access.false) c.args.second b.result b.ensures
    (ap not c.if-not-is_access-2.false)

pub returns-then-is_apart : goal.returns-then-is_apart
returns-then-is_apart c = let a = c.is_access in let b = c.is_access-2 in let q = c.is_apart in says-apart _ c.requires c.args.first a.result
    a.ensures (ap not c.if-not-is_access.false) c.args.second b.result b.ensures (ap not c.if-not-is_access-2.false)
    q.result q.ensures c.if-is_apart.true

pub returns : goal.returns
returns c = let a = c.is_access in let b = c.is_access-2 in let q = c.is_apart in says-perhaps _ c.requires c.args.first a.result
    a.ensures (ap not c.if-not-is_access.false) c.args.second b.result b.ensures (ap not c.if-not-is_access-2.false)
    q.result q.ensures c.if-is_apart.false
