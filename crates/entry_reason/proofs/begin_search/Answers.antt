-- `begin_search`: all records are passed over, and so counted.
use mathlib.Core.Path.{◌≡◌, refl}
use Prim.Native.Nat.{◌-◌}
use native.Mathlib.Omega.{arith}
use lib.ListN.{length}
use Rattle.entry_reason.proofs.FinderLaws.{all_words, few_words, begun}
use Rattle.entry_reason.proofs.begin_search.Goals as goal

pub search_ticket-walked-requires : goal.search_ticket-walked-requires
search_ticket-walked-requires c = (record { ten = c.requires; there = omega arith }, refl)

pub overflow_sub-count : goal.overflow_sub-count
overflow_sub-count c = let e = (c.search_ticket-walked.ensures c.requires).window.left in
    omega arith

pub returns : goal.returns
returns c = let t = c.requires in
    let w = c.search_ticket-walked in let e = (w.ensures t).window.left in let f = few_words t in
    begun t c.args.lent (4294967296 - w.result.window.skip) _ _ _ _ (let q : 4294967296 - w.result.window.skip ≡ length
    (all_words t) = omega arith in q)
    c.pack.ensures c.min.ensures (w.ensures t).window.room
