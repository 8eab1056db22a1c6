-- `decode`: each section from where the one before it ended, laid over zeros; the first refusal is handed on.
use mathlib.Core.Path.{refl}
use native.Mathlib.Omega.{arith}
use Rattle.ticket_decoding.proofs.DecodeLaws.{lent-room, arrays-in, loops-refused, arrays-refused, statements-refused, steps-refused, trailing-refused, decoded-there, decodes}
use Rattle.ticket_decoding.proofs.decode.Goals as goal

pub read_loops-requires : goal.read_loops-requires
read_loops-requires c = lent-room _ _ c.requires

pub returns-in_err-depth : goal.returns-in_err-depth
returns-in_err-depth c =
    let t = c.new-ticket.ensures in
    loops-refused t.0 t.1 _ _ c.from_residual.ensures.1 c.in_err-depth.ensures.reads

pub returns-in_err-arrays : goal.returns-in_err-arrays
returns-in_err-arrays c =
    let t = c.new-ticket.ensures in
    arrays-refused t.0 t.1 _ _ c.in_ok-depth.ensures.reads c.from_residual-in_err-arrays.ensures.1 c.in_err-arrays.ensures

pub invariant_of-nest : goal.invariant_of-nest
invariant_of-nest c =
    let d = c.in_ok-depth.ensures.shallow in
    let a = c.in_ok-arrays.ensures in
    record { shallow = omega arith; arrays = arrays-in a.laid a.count }

pub returns-in_err-statements : goal.returns-in_err-statements
returns-in_err-statements c =
    let t = c.new-ticket.ensures in
    statements-refused t.0 t.1 _ _ c.in_ok-depth.ensures.reads c.in_ok-arrays.ensures _ refl refl c.from_residual-in_err-statements.ensures.1
    c.in_err-statements.ensures

pub returns-in_err-steps : goal.returns-in_err-steps
returns-in_err-steps c =
    let t = c.new-ticket.ensures in
    steps-refused t.0 t.1 _ _ c.in_ok-depth.ensures.reads c.in_ok-arrays.ensures _ refl refl c.in_ok-statements.ensures
    c.from_residual-in_err-steps.ensures.1 c.in_err-steps.ensures.reads

pub returns-then-ticket-bytes : goal.returns-then-ticket-bytes
returns-then-ticket-bytes c =
    let t = c.new-ticket.ensures in
    trailing-refused t.0 t.1 _ _ c.in_ok-depth.ensures.reads c.in_ok-arrays.ensures _ refl refl c.in_ok-statements.ensures
    c.in_ok-steps.ensures.reads (omega (arith, c.if-ticket-bytes.true))

pub returns : goal.returns
returns c =
    let t = c.new-ticket.ensures in
    let n = c.in_ok-depth.ensures in
    let a = c.in_ok-arrays.ensures in
    let m = c.in_ok-statements.ensures in
    let s = c.in_ok-steps.ensures in
    decodes _ c.requires.words-length c.requires.words_small _ _ n.ok n.shallow a.laid a.count m.laid s.within
    (decoded-there t.0 t.1 _ _ n.reads a _ refl refl m s.reads (omega (arith, c.if-ticket-bytes.false)))
