use Rattle.step_exchange.proofs.PairLaws.{Spans, outer-low-in, outer-up-in, outer-low, outer-up}
use Rattle.step_exchange.proofs.fill_outer.Goals as goal

pub push_outer-requires : goal.push_outer-requires
push_outer-requires c =
    let spans : Spans c.args.counts.now c.args.a _ _ _ _ = record {
      il-is = c.sides_of-i.ensures.0;
      iu-is = c.sides_of-i.ensures.1;
      jl-is = c.sides_of-j.ensures.0;
      ju-is = c.sides_of-j.ensures.1;
    } in
    outer-low-in spans c.requires.pair
    c.args.low.now c.requires.lower

pub push_outer-requires-2 : goal.push_outer-requires-2
push_outer-requires-2 c =
    let spans : Spans c.args.counts.now c.args.a _ _ _ _ = record {
      il-is = c.sides_of-i.ensures.0;
      iu-is = c.sides_of-i.ensures.1;
      jl-is = c.sides_of-j.ensures.0;
      ju-is = c.sides_of-j.ensures.1;
    } in
    outer-up-in spans
    c.requires.pair c.args.up.now c.requires.upper

pub returns : goal.returns
returns c =
    let spans : Spans c.args.counts.now c.args.a _ _ _ _ = record {
      il-is = c.sides_of-i.ensures.0;
      iu-is = c.sides_of-i.ensures.1;
      jl-is = c.sides_of-j.ensures.0;
      ju-is = c.sides_of-j.ensures.1;
    } in
    let l = c.push_outer.ensures in let u = c.push_outer-2.ensures in
    record {
      lower = outer-low spans c.args.words.now l.0;
      upper = outer-up spans c.args.words.now u.0;
      lower-filled = l.1;
      upper-filled = u.1;
    }
