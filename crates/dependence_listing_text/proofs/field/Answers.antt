-- `field`: by the number of digits.
use Rattle.dependence_listing_text.proofs.TextLaws.{field-1, field-2, field-3, field-4, field-5}
use Rattle.dependence_listing_text.proofs.field.Goals as goal

pub returns-then-n-lt10 : goal.returns-then-n-lt10
returns-then-n-lt10 c = let s = c.args in field-1 s.n s.end _ c.if-n-lt10.true c.byte.ensures

pub returns-then-n-lt100 : goal.returns-then-n-lt100
returns-then-n-lt100 c = let s = c.args in field-2 s.n s.end _ _ c.if-n-lt10.false
    c.if-n-lt100.true c.byte-then-n-lt100.ensures c.byte-e.ensures

pub returns-then-n-lt1000 : goal.returns-then-n-lt1000
returns-then-n-lt1000 c = let s = c.args in field-3 s.n s.end _ _ _
    c.if-n-lt100.false c.if-n-lt1000.true c.byte-then-n-lt1000.ensures c.byte-d.ensures
    c.byte-e.ensures

pub returns-then-n-lt10000 : goal.returns-then-n-lt10000
returns-then-n-lt10000 c = let s = c.args in field-4 s.n s.end _ _ _ _
    c.if-n-lt1000.false c.if-n-lt10000.true c.byte-then-n-lt10000.ensures c.byte-c.ensures
    c.byte-d.ensures c.byte-e.ensures

pub returns : goal.returns
returns c = let s = c.args in field-5 s.n s.end _ _ _ _ _
    c.if-n-lt10000.false c.requires c.byte-2.ensures
    c.byte-b.ensures c.byte-c.ensures
    c.byte-d.ensures c.byte-e.ensures
