use Rattle.std.proofs.Common.{◌≡◌, refl, sym, ap, ◌∙◌, ℕ, ◌+◌, ◌<◌, List, [], length, get_or, min, arith, add-one}
use lib.ListN.{set}
use Rattle.entry_reason.specs.declared.Pair.{Pair}
use Rattle.entry_reason.specs.Finders.{no_pair}
use Rattle.entry_reason.specs.Records.{packed_reason, records_in, found_in}
use Rattle.entry_reason.proofs.RecordLaws.{reasoned-list, reasoned-answer}
use Rattle.hurkeztor.proofs.FillLaws.{mixed, set-mixed, all_in}
use Rattle.hurkeztor.proofs.hurkeztor_reason.Goals as goal

-- one record more, at the place that is written
written : (k j : ℕ) → j ≡ k → (rs ys zs : List Pair) (d x : Pair) → zs ≡ mixed k rs ys → k < length rs → k < length ys → x ≡ get_or rs k d
    → set zs j x ≡ mixed (k + 1) rs ys
written k j at rs ys zs d x e h g p =
    ap (λ (i : ℕ). set zs i x) at ∙ ap (λ us. set us k x) e ∙ set-mixed k rs ys d x h g p ∙ ap (λ (i : ℕ). mixed i rs ys) (sym (add-one k))

pub loop-k-init : goal.loop-k-init
loop-k-init c = let e = c.begin-f.ensures in
    record { below = omega arith; most = e.most; given = e.given; answer = e.answer; ready = e.ready; list = refl }

pub next-f-requires : goal.next-f-requires
next-f-requires c = let i = c.loop-k.invariant in let m = i.most in let g = i.given in let t = c.loop-k-test.true in (i.ready, omega arith)

pub bounds-list-k : goal.bounds-list-k
bounds-list-k c = let m = c.loop-k.invariant.most in let t = c.loop-k-test.true in let e = c.loop-k.auto.list in omega arith

pub loop-k-preserved : goal.loop-k-preserved
loop-k-preserved c =
    let i = c.loop-k.invariant in
    let m = i.most in
    let t = c.loop-k-test.true in
    let e = c.next-f.ensures in
    let k : ℕ = c.loop-k.k in
    let b = c.args.ticket.now in
    let ys = c.args.list.now in
    let pair : c.next-f.result.pair ≡ get_or (found_in b) k no_pair = e.pair ∙ ap (λ (j : ℕ). get_or (found_in b) j no_pair) i.given in
    record {
      below = omega arith;
      most = m;
      given = e.given ∙ ap (◌+ 1) i.given;
      answer = e.answer ∙ i.answer;
      ready = e.ready;
      list = written k _ (omega arith) (found_in b) ys _ no_pair c.next-f.result.pair i.list (omega arith) (omega arith) pair;
    }

pub returns : goal.returns
returns c =
    let i = c.loop-k.invariant in
    let b = c.args.ticket.now in
    let ys = c.args.list.now in
    let t = c.loop-k-test.false in
    let h = i.below in
    let m = i.most in
    let k : c.loop-k.k ≡ min (length (found_in b)) (length ys) = omega arith in (
      i.answer ∙ ap packed_reason (reasoned-answer b [] (records_in ys)),
      ap records_in (i.list ∙ ap (λ (j : ℕ). mixed j (found_in b) ys) k ∙ all_in (found_in b) ys) ∙ reasoned-list b ys,
    )
