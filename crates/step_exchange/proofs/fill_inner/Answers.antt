use Rattle.step_exchange.proofs.PairLaws.{Spans, inner-low-in, inner-up-in, inner-low, inner_up}
use Rattle.step_exchange.proofs.fill_inner.Goals as goal

pub push_inner-requires : goal.push_inner-requires
push_inner-requires c =
    let spans : Spans c.args.counts.now c.args.a _ _ _ _ = record {
      il-is = c.sides_of-i.ensures.0;
      iu-is = c.sides_of-i.ensures.1;
      jl-is = c.sides_of-j.ensures.0;
      ju-is = c.sides_of-j.ensures.1;
    } in
    inner-low-in spans c.requires.pair
    c.args.low.now c.requires.lower

pub push_inner-requires-2 : goal.push_inner-requires-2
push_inner-requires-2 c =
    let spans : Spans c.args.counts.now c.args.a _ _ _ _ = record {
      il-is = c.sides_of-i.ensures.0;
      iu-is = c.sides_of-i.ensures.1;
      jl-is = c.sides_of-j.ensures.0;
      ju-is = c.sides_of-j.ensures.1;
    } in
    inner-up-in spans
    c.requires.pair c.args.up.now c.requires.upper

pub returns : goal.returns
returns c =
    let spans : Spans c.args.counts.now c.args.a _ _ _ _ = record {
      il-is = c.sides_of-i.ensures.0;
      iu-is = c.sides_of-i.ensures.1;
      jl-is = c.sides_of-j.ensures.0;
      ju-is = c.sides_of-j.ensures.1;
    } in
    let l = c.push_inner.ensures in let u = c.push_inner-2.ensures in
    record {
      lower = inner-low spans c.args.words.now l.0;
      upper = inner_up spans c.args.words.now u.0;
      lower-filled = l.1;
      upper-filled = u.1;
    }
