use mathlib.Core.Path.{subst}
use Prim.Native.Nat.{◌+◌, ◌≤◌}
use native.Mathlib.Omega.{arith}
use lib.IntN.{ℤ, neg_ℤ}
use lib.ListN.{take}
use Rattle.lists.specs.Place.{under, on_head, swapped}
use Rattle.model.specs.Limits.{skew_limit, skew_coefficients, split_coefficients}
use Rattle.ticket_loops.specs.LoopReads.{limit_of}
use Rattle.step_limits.specs.Makes.{RowIs, LimitIs}
use Rattle.step_limits.specs.Change.{change_of, outer_after, Allowed}
use Rattle.step_limits.specs.declared.Change.TheVariants.{ReverseLimit, ReverseRow, ExchangeRow, SkewLimit, SkewRow, SectionLower}
use Rattle.step_limits.specs.declared.Change.TheVariants.{SectionUpper, SectionElement, SectionRow}
use Rattle.step_limits.proofs.NumberLaws.{small-back}
use Rattle.step_limits.proofs.LimitLaws.{numbers, row_is, done, allowed}
use Rattle.step_limits.proofs.change_limit.Goals as goal

pub reverse_limit-requires : goal.reverse_limit-requires
reverse_limit-requires c = let a : c.args.n ≤ 6 = unfold Allowed in allowed c.args.change ReverseLimit
    c.args.n c.in-ReverseLimit.is c.requires.0 in (a, c.requires.1)

pub reverse_row-requires : goal.reverse_row-requires
reverse_row-requires c = unfold Allowed in let a = allowed c.args.change
    (ReverseRow c.in-ReverseRow.a) c.args.n c.in-ReverseRow.is c.requires.0
    in (a.0, a.1, (numbers c.args.n c.args.l c.requires.1).coefficients)

pub exchange_places-requires : goal.exchange_places-requires
exchange_places-requires c = unfold Allowed in let a = allowed c.args.change
    (ExchangeRow c.in-ExchangeRow.a) c.args.n c.in-ExchangeRow.is c.requires.0 in (omega arith, a)

pub skew_limit-requires : goal.skew_limit-requires
skew_limit-requires c = unfold Allowed in let a = allowed c.args.change
    (SkewLimit c.in-SkewLimit.s) c.args.n c.in-SkewLimit.is c.requires.0
    in (a.0, a.1, rw (small-back _ a.2) a.2, c.requires.1)

pub skew_row-requires : goal.skew_row-requires
skew_row-requires c = unfold Allowed in let a = allowed c.args.change
    (SkewRow c.in-SkewRow.s) c.args.n c.in-SkewRow.is c.requires.0
    in (a.0, a.1, rw (small-back _ a.2) a.2, (numbers c.args.n c.args.l c.requires.1).coefficients)

pub section_lower-requires : goal.section_lower-requires
section_lower-requires c = unfold Allowed in let a = allowed c.args.change
    (SectionLower c.in-SectionLower.w) c.args.n c.in-SectionLower.is c.requires.0 in (a.0, a.1, c.requires.1)

pub section_upper-requires : goal.section_upper-requires
section_upper-requires c = unfold Allowed in let a = allowed c.args.change
    (SectionUpper c.in-SectionUpper.w) c.args.n c.in-SectionUpper.is c.requires.0 in (a.1, c.requires.1)

pub section_element-requires : goal.section_element-requires
section_element-requires c = unfold Allowed in let a = allowed c.args.change
    (SectionElement c.in-SectionElement.w) c.args.n c.in-SectionElement.is c.requires.0 in (a.0, a.1, c.requires.1)

pub section_row-requires : goal.section_row-requires
section_row-requires c = unfold Allowed in let a = allowed c.args.change
    (SectionRow c.in-SectionRow.s) c.args.n c.in-SectionRow.is c.requires.0
    in (a.0, a.1, omega arith, (numbers c.args.n c.args.l c.requires.1).coefficients)

pub returns-in-ReverseLimit : goal.returns-in-ReverseLimit
returns-in-ReverseLimit c = unfold change_of outer_after in done c.args.change ReverseLimit c.args.n c.args.l
    c.reverse_limit.result c.in-ReverseLimit.is c.reverse_limit.ensures

pub returns-in-ReverseRow : goal.returns-in-ReverseRow
returns-in-ReverseRow c =
    let v = c.in-ReverseRow.a in
    unfold change_of outer_after in
    done c.args.change (ReverseRow v) c.args.n c.args.l c.with_row.result c.in-ReverseRow.is
    (row_is c.args.n c.args.l c.args.n (under v (on_head neg_ℤ)) c.with_row.result c.reverse_row.result
    c.with_row.ensures c.reverse_row.ensures)

pub returns-in-ExchangeRow : goal.returns-in-ExchangeRow
returns-in-ExchangeRow c =
    let v = c.in-ExchangeRow.a in
    unfold change_of outer_after in
    done c.args.change (ExchangeRow v) c.args.n c.args.l c.with_row-in-ExchangeRow.result c.in-ExchangeRow.is
    (row_is c.args.n c.args.l c.args.n (under v swapped) c.with_row-in-ExchangeRow.result c.exchange_places.result
    c.with_row-in-ExchangeRow.ensures c.exchange_places.ensures)

pub returns-in-SkewLimit : goal.returns-in-SkewLimit
returns-in-SkewLimit c =
    let v = c.in-SkewLimit.s in
    let e = c.in-SkewLimit.is in
    unfold change_of outer_after Allowed in
    let f = (allowed c.args.change (SkewLimit v) c.args.n e c.requires.0).2 in
    done c.args.change (SkewLimit v) c.args.n c.args.l c.skew_limit.result e
    (subst (λ (z : ℤ). LimitIs c.args.n c.skew_limit.result (skew_limit v.outer z (limit_of c.args.n c.args.l)))
    (small-back v.factor f) c.skew_limit.ensures)

pub returns-in-SkewRow : goal.returns-in-SkewRow
returns-in-SkewRow c =
    let v = c.in-SkewRow.s in
    let e = c.in-SkewRow.is in
    let cs = c.skew_row.result in
    unfold change_of outer_after Allowed in
    let f = (allowed c.args.change (SkewRow v) c.args.n e c.requires.0).2 in
    done c.args.change (SkewRow v) c.args.n c.args.l c.with_row-in-SkewRow.result e
    (row_is c.args.n c.args.l c.args.n (under v.outer (skew_coefficients v.between v.factor)) c.with_row-in-SkewRow.result cs
    c.with_row-in-SkewRow.ensures
    (subst (λ (z : ℤ). RowIs c.args.n cs (under v.outer (skew_coefficients v.between z) (take c.args.n c.args.l.coefficients)))
    (small-back v.factor f) c.skew_row.ensures))

pub returns-in-SectionLower : goal.returns-in-SectionLower
returns-in-SectionLower c = unfold change_of outer_after in done c.args.change
    (SectionLower c.in-SectionLower.w) c.args.n c.args.l c.section_lower.result
    c.in-SectionLower.is c.section_lower.ensures

pub returns-in-SectionUpper : goal.returns-in-SectionUpper
returns-in-SectionUpper c = unfold change_of outer_after in done c.args.change
    (SectionUpper c.in-SectionUpper.w) c.args.n c.args.l c.section_upper.result
    c.in-SectionUpper.is c.section_upper.ensures

pub returns-in-SectionElement : goal.returns-in-SectionElement
returns-in-SectionElement c = unfold change_of outer_after in done c.args.change
    (SectionElement c.in-SectionElement.w) c.args.n c.args.l c.section_element.result
    c.in-SectionElement.is c.section_element.ensures

pub returns-in-SectionRow : goal.returns-in-SectionRow
returns-in-SectionRow c =
    let v = c.in-SectionRow.s in
    unfold change_of outer_after in
    done c.args.change (SectionRow v) c.args.n c.args.l c.with_row-in-SectionRow.result c.in-SectionRow.is
    (row_is c.args.n c.args.l (c.args.n + 1) (under v.place (split_coefficients v.width)) c.with_row-in-SectionRow.result
    c.section_row.result c.with_row-in-SectionRow.ensures c.section_row.ensures)
