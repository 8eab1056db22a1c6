-- `find_more`: the search goes on from the last source, past the records that were given.
use native.Mathlib.Omega.{arith}
use Rattle.entry_reason.proofs.FinderLaws.{few_words, words_count, refilled}
use Rattle.entry_reason.proofs.find_more.Goals as goal

pub overflow_add-result : goal.overflow_add-result
overflow_add-result c = let h = c.requires.0 in
    let w = c.search_ticket-walked in let n = (w.ensures h.ten).near in let p = h.passed in
    let l = c.requires.1 in let g = c.requires.2 in let e = words_count h.ten in let f = few_words h.ten in omega arith

pub returns : goal.returns
returns c = refilled c.args.f c.requires.0 c.requires.1 c.search_ticket-walked.result _
    (c.search_ticket-walked.ensures c.requires.0.ten)
