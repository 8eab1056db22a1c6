-- `read_loop`: the lower side, then the upper side.
use mathlib.Core.Path.{refl}
use mathlib.Core.List.{[]}
use Rattle.std.proofs.lemmas.Result.{err_from_is_err_and}
use Rattle.model.specs.Grammar.{loop}
use Rattle.ticket_words.proofs.ReaderLaws.{refused-first, read-then, read-done}
use Rattle.ticket_loops.proofs.ReadLaws.{lower_in, upper_in, side-room, counts_room, sides, loop-laid, loop-counted}
use Rattle.ticket_loops.proofs.read_loop.Goals as goal

pub returns-in_err-counts : goal.returns-in_err-counts
unfolding loop
returns-in_err-counts c =
    let q = c.requires.1 in
    let p = err_from_is_err_and c.from_residual.result c.from_residual.ensures.1 in
    rw (p.1, p.2) (record {
      body = record { lower = []; upper = [] };
      reads = refused-first _ c.in_err-counts.ensures.reads;
      laid = tt;
      room = side-room _ _ (lower_in _ c.requires.0 q) c.in_err-counts.ensures q;
    })

pub returns-in_err-counts-2 : goal.returns-in_err-counts-2
unfolding loop
returns-in_err-counts-2 c =
    let k = c.args.k in
    let q = c.requires.1 in
    let low = c.in_ok-counts.ensures in
    let r = counts_room _ _ (side-room _ _ (lower_in k c.requires.0 q) low q) in
    let p = err_from_is_err_and c.from_residual-in_err-counts-2.result c.from_residual-in_err-counts-2.ensures.1 in
    rw (p.1, p.2) (record {
      body = record { lower = []; upper = [] };
      reads = read-then _ low.reads (refused-first _ c.in_err-counts-2.ensures.reads);
      laid = tt;
      room = side-room _ _ (upper_in k c.requires.0 r) c.in_err-counts-2.ensures r;
    })

pub returns : goal.returns
unfolding loop
returns c =
    let k = c.args.k in
    let q = c.requires.1 in
    let low = c.in_ok-counts.ensures in
    let high = c.in_ok-counts-2.ensures in
    let r = counts_room _ _ (side-room _ _ (lower_in k c.requires.0 q) low q) in
    record {
      body = sides k c.args.counts.now low high;
      reads = read-then _ low.reads (read-then _ high.reads (read-done _ refl));
      laid = (loop-laid k c.args.counts.now low high, loop-counted k c.args.counts.now low high);
      room = counts_room _ _ (side-room _ _ (upper_in k c.requires.0 r) high r);
    }
