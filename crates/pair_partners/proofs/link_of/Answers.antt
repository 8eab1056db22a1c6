-- `link_of`: by cases of the access.
use mathlib.Core.Path.{sym, ap}
use mathlib.Core.Bool.{Bool, cond}
use native.Mathlib.Omega.{arith}
use lib.ListN.{get_or}
use Rattle.pair_partners.proofs.link_of.Goals as goal

pub bounds-tables-k : goal.bounds-tables-k
bounds-tables-k c = let w = c.args.tables.now.links.writes in let k = c.requires.0 in omega arith

pub returns-then-tables-k : goal.returns-then-tables-k
returns-then-tables-k c = let a = c.args in
    sym (ap (λ (w : Bool). cond w (get_or a.tables.now.named.now a.place 0) (get_or a.tables.now.written.now a.place 0)) c.if-tables-k.true)

pub returns : goal.returns
returns c = let a = c.args in
    sym (ap (λ (w : Bool). cond w (get_or a.tables.now.named.now a.place 0) (get_or a.tables.now.written.now a.place 0)) c.if-tables-k.false)
