-- `next`: more words are found where all are given.
use native.Mathlib.Omega.{arith}
use Rattle.entry_reason.proofs.FinderLaws.{words_count, few_words, record-at, few-given, given-next, given-refilled}
use Rattle.entry_reason.proofs.next.Goals as goal

pub overflow_add-f : goal.overflow_add-f
overflow_add-f c = let h = c.requires.0 c.requires.1 in let a = h.first in let e = h.fits in let n = words_count h.ten in
    let m = few_words h.ten in let k = c.requires.1 in omega arith

pub find_more-g-requires : goal.find_more-g-requires
find_more-g-requires c = (c.requires.0 c.requires.1, c.if-f.true, c.requires.1)

pub give-requires : goal.give-requires
give-requires c = let r = c.find_more-g.result in let h = c.find_more-g.ensures in
    let e = h.given in let k = c.requires.1 in
    ((_, record-at r h.finding (omega arith) (h.some k)), h.finding.first, few-given r h.finding (omega arith) (h.some k))

pub returns-then-f : goal.returns-then-f
returns-then-f c = let r = c.find_more-g.result in
    let h = c.find_more-g.ensures in let e = h.given in let k = c.requires.1 in
    given-refilled c.args.f r c.give.result h (given-next r h.finding (omega arith) (h.some k) c.give.result (c.give.ensures _
    (record-at r h.finding (omega arith) (h.some k))))

pub give-requires-2 : goal.give-requires-2
give-requires-2 c = let h = c.requires.0 c.requires.1 in let g = c.if-f.false in
    ((_, record-at c.args.f h c.requires.1 (omega arith)), h.first, few-given c.args.f h c.requires.1 (omega arith))

pub returns : goal.returns
returns c = let h = c.requires.0 c.requires.1 in let g = c.if-f.false in
    given-next c.args.f h c.requires.1 (omega arith) c.give-2.result (c.give-2.ensures _ (record-at c.args.f h c.requires.1
    (omega arith)))
