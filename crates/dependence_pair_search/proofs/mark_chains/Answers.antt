use mathlib.Core.Path.{◌≡◌, sym, ap, ◌∙◌, subst}
use mathlib.Core.Bool.{Bool, true, false, false≢true}
use Prim.Native.Nat.{ℕ, ◌+◌, ◌*◌, ◌-◌, ◌/◌, ◌≤◌}
use native.Mathlib.Omega.{arith}
use mathlib.Core.List.{List}
use lib.ListN.{length, length-replicate}
use borrow.Author.Rules.{rules}
use Rattle.model.specs.Grammar.{most_points}
use Rattle.model.specs.Directions.{vector_count}
use Rattle.dependence_vectors.proofs.DepthLaws.{depth-positive}
use Rattle.dependence_pair_search.specs.Search.{Adds, found, LevelElse}
use Rattle.dependence_pair_search.proofs.FullLaws.{Looking, look-begins, look-again, look_known, look-goes-on, left-early}
use Rattle.dependence_pair_search.proofs.SearchLaws.{Searching, search-begins, first-le, walkable, search-turns, search-skips, tabled}
use Rattle.dependence_pair_search.proofs.mark_chains.Goals.{else-not-known, then-not-known}
use Rattle.dependence_pair_search.proofs.mark_chains.Goals as goal

half_le : (s : ℕ) → s ≤ vector_count → (s - 1) / 2 ≤ 364
half_le s h = omega arith

pub stride-step-requires : goal.stride-step-requires
stride-step-requires c = c.requires.0.shallow

pub overflow_sub-v : goal.overflow_sub-v
overflow_sub-v c = let p = depth-positive c.args.depth c.stride-step.result
    c.stride-step.ensures.0 in omega arith

pub next_linked-y-requires : goal.next_linked-y-requires
next_linked-y-requires c = let r = c.requires.1.room in (omega arith, r)

pub loop-y-init : goal.loop-y-init
loop-y-init c = let s = c.args
    in let p = c.requires.1 in let r = c.stride-step in (
      search-skips s.points.now s.depth s.from.now s.to.now s.own s.base s.next.now s.start.now s.marks.now
          s.marks.now 0 0 c.next_linked-y.result c.next_linked-y.ensures (search-begins s.points.now s.depth s.from.now s.to.now
          s.own s.base s.next.now s.start.now s.marks.now p.table p.nexts p.starts),
      length-replicate {A = Bool} 6 false,
      (λ e. absurd (false≢true e)),
      look-begins s.depth r.result r.ensures.0 _ s.base s.marks.now,
      (let w = r.ensures.1 in half_le r.result w),
    )

pub offset_bounds-start-y : goal.offset_bounds-start-y
offset_bounds-start-y c = let p = c.requires.0.few in let t = c.loop-y-test.true in omega arith

pub bounds-start-y : goal.bounds-start-y
bounds-start-y c = let p = c.requires.1.room in let t = c.loop-y-test.true in omega arith

pub mark_chain-spent-requires : goal.mark_chain-spent-requires
mark_chain-spent-requires c = let s = c.args in (
  walkable s.points.now s.depth s.from.now s.to.now s.own s.base s.next.now s.start.now s.marks.now
      c.loop-y.marks c.loop-y.spent c.loop-y.y c.to_index.result
      c.loop-y-test.true c.to_index.ensures c.loop-y.invariant.0 c.requires.0,
  c.stride-step.ensures.0,
)

pub overflow_add-spent : goal.overflow_add-spent
overflow_add-spent c =
    let light : (c.loop-y.spent +
    c.mark_chain-spent.result ≤ (c.loop-y.y + 1) * most_points) = let s = c.args
    in let w = c.to_index in
    let f = first-le s.points.now s.depth s.from.now s.to.now s.own s.base s.next.now s.start.now s.marks.now
    c.loop-y.marks c.loop-y.spent c.loop-y.y w.result c.loop-y-test.true
    w.ensures c.loop-y.invariant.0 in
    let p = c.requires.0.few in let i = c.loop-y.invariant.0.light in let r = c.mark_chain-spent.ensures.0 in omega arith in
    let p = c.requires.0.few
    in let i = c.loop-y.invariant.0.inside in let l = light in omega arith

pub overflow_add-y : goal.overflow_add-y
overflow_add-y c = let t = c.loop-y-test.true in let p = c.requires.0.few in omega arith

pub next_linked-y-requires-in-loop-y : goal.next_linked-y-requires-in-loop-y
next_linked-y-requires-in-loop-y c = let t = c.loop-y-test.true in let r = c.requires.1.room in (omega arith, r)

pub overflow_add-stale : goal.overflow_add-stale
overflow_add-stale c = let r = c.requires.0.room in let v = c.loop-y.invariant.4 in let g = c.well_formed in omega arith

pub bounds-marks-base : goal.bounds-marks-base
bounds-marks-base c =
    let light : (c.loop-y.spent +
    c.mark_chain-spent.result ≤ (c.loop-y.y + 1) * most_points) = let s = c.args
    in let w = c.to_index in
    let f = first-le s.points.now s.depth s.from.now s.to.now s.own s.base s.next.now s.start.now s.marks.now
    c.loop-y.marks c.loop-y.spent c.loop-y.y w.result c.loop-y-test.true
    w.ensures c.loop-y.invariant.0 in
    let p = c.requires.0.few in let i = c.loop-y.invariant.0.light in let r = c.mark_chain-spent.ensures.0 in omega arith in
    let marked : List Bool = c.mark_chain-spent.new.marks in
    let spent : ℕ = c.loop-y.spent + c.mark_chain-spent.result in
    let done : (let s = c.args in Searching s.points.now s.depth s.from.now s.to.now s.own s.base s.next.now
    s.start.now s.marks.now marked spent c.next_linked-y-in-loop-y.result) = let s = c.args in let w = c.mark_chain-spent in let v = c.to_index in
    search-skips s.points.now s.depth s.from.now s.to.now s.own s.base s.next.now s.start.now s.marks.now marked
    spent (c.loop-y.y + 1) c.next_linked-y-in-loop-y.result c.next_linked-y-in-loop-y.ensures
    (search-turns s.points.now s.depth s.from.now s.to.now s.own s.base s.next.now s.start.now s.marks.now
    c.loop-y.marks c.loop-y.spent c.loop-y.y v.result c.loop-y-test.true v.ensures c.loop-y.invariant.0 marked spent w.auto.marks light w.ensures.1) in
    let r = c.requires.0.room in let v = c.loop-y.invariant.4 in let l = done.same_length in omega arith

pub find_varying-requires : goal.find_varying-requires
find_varying-requires c = let s = c.args in let t = tabled s.points.now s.depth s.from.now s.to.now s.own s.base s.next.now
    s.start.now s.marks.now c.requires.0 c.requires.1 in let l = c.loop-y.invariant.1 in let d = c.requires.0.shallow
    in (t.0, t.1, omega arith)

pub slice_bounds-next_missing-end : goal.slice_bounds-next_missing-end
slice_bounds-next_missing-end c =
    let marked : List Bool = c.mark_chain-spent.new.marks in
    let looked : (let s = c.args in Looking s.depth c.stride-step.result c.loop-y.varying s.base marked
    c.loop-y.known c.loop-y.v) = let s = c.args in let r = c.stride-step in
    look-again s.depth r.result r.ensures.0 c.loop-y.varying s.base c.loop-y.marks c.loop-y.v marked _ c.loop-y.known
    c.mark_chain-spent.ensures.1 c.loop-y.invariant.3 in
    let known : (let s = c.args in (length c.if-not-known.varying ≡ 6)
    × LevelElse s.depth s.points.now (length s.from.now) s.next.now s.start.now s.depth c.if-not-known.varying
    × (c.if-not-known.known ≡ true)
    × Looking s.depth c.stride-step.result c.if-not-known.varying s.base marked true
    c.loop-y.v) = let s = c.args in let r = c.stride-step in let l = c.loop-y in
    let level : List Bool → Type 0 = λ v. LevelElse s.depth s.points.now (length s.from.now) s.next.now s.start.now s.depth
    v in
    let looking : List Bool → Bool → Type 0 = λ v k. Looking s.depth r.result v s.base marked k l.v
    in elim c.if-not-known.branch [
      | then-not-known w ↦ (
        ap length w.varying-is ∙ (w.find_varying.auto.varying ∙ l.invariant.1),
        subst level (sym w.varying-is) w.find_varying.ensures,
        w.known-is,
        look_known s.depth r.result r.ensures.0 l.varying s.base marked l.v c.if-not-known.varying
            (subst (looking l.varying) w.if-not-known.true looked),
      )
      | else-not-known w ↦ let k = w.if-not-known.false in (
        ap length w.varying-is ∙ l.invariant.1,
        subst level (sym w.varying-is) (l.invariant.2 k),
        w.known-is ∙ k,
        subst (λ v. looking v true) (sym w.varying-is) (subst (looking l.varying) k looked),
      )
    ] in
    let l = known.0 in search (rules, l)

pub next_missing-v-requires : goal.next_missing-v-requires
next_missing-v-requires c =
    let light : (c.loop-y.spent +
    c.mark_chain-spent.result ≤ (c.loop-y.y + 1) * most_points) = let s = c.args
    in let w = c.to_index in
    let f = first-le s.points.now s.depth s.from.now s.to.now s.own s.base s.next.now s.start.now s.marks.now
    c.loop-y.marks c.loop-y.spent c.loop-y.y w.result c.loop-y-test.true
    w.ensures c.loop-y.invariant.0 in
    let p = c.requires.0.few in let i = c.loop-y.invariant.0.light in let r = c.mark_chain-spent.ensures.0 in omega arith in
    let marked : List Bool = c.mark_chain-spent.new.marks in
    let spent : ℕ = c.loop-y.spent + c.mark_chain-spent.result in
    let done : (let s = c.args in Searching s.points.now s.depth s.from.now s.to.now s.own s.base s.next.now
    s.start.now s.marks.now marked spent c.next_linked-y-in-loop-y.result) = let s = c.args in let w = c.mark_chain-spent in let v = c.to_index in
    search-skips s.points.now s.depth s.from.now s.to.now s.own s.base s.next.now s.start.now s.marks.now marked
    spent (c.loop-y.y + 1) c.next_linked-y-in-loop-y.result c.next_linked-y-in-loop-y.ensures
    (search-turns s.points.now s.depth s.from.now s.to.now s.own s.base s.next.now s.start.now s.marks.now
    c.loop-y.marks c.loop-y.spent c.loop-y.y v.result c.loop-y-test.true v.ensures c.loop-y.invariant.0 marked spent w.auto.marks light w.ensures.1) in
    let looked : (let s = c.args in Looking s.depth c.stride-step.result c.loop-y.varying s.base marked
    c.loop-y.known c.loop-y.v) = let s = c.args in let r = c.stride-step in
    look-again s.depth r.result r.ensures.0 c.loop-y.varying s.base c.loop-y.marks c.loop-y.v marked _ c.loop-y.known
    c.mark_chain-spent.ensures.1 c.loop-y.invariant.3 in
    let known : (let s = c.args in (length c.if-not-known.varying ≡ 6)
    × LevelElse s.depth s.points.now (length s.from.now) s.next.now s.start.now s.depth c.if-not-known.varying
    × (c.if-not-known.known ≡ true)
    × Looking s.depth c.stride-step.result c.if-not-known.varying s.base marked true
    c.loop-y.v) = let s = c.args in let r = c.stride-step in let l = c.loop-y in
    let level : List Bool → Type 0 = λ v. LevelElse s.depth s.points.now (length s.from.now) s.next.now s.start.now s.depth
    v in
    let looking : List Bool → Bool → Type 0 = λ v k. Looking s.depth r.result v s.base marked k l.v
    in elim c.if-not-known.branch [
      | then-not-known w ↦ (
        ap length w.varying-is ∙ (w.find_varying.auto.varying ∙ l.invariant.1),
        subst level (sym w.varying-is) w.find_varying.ensures,
        w.known-is,
        look_known s.depth r.result r.ensures.0 l.varying s.base marked l.v c.if-not-known.varying
            (subst (looking l.varying) w.if-not-known.true looked),
      )
      | else-not-known w ↦ let k = w.if-not-known.false in (
        ap length w.varying-is ∙ l.invariant.1,
        subst level (sym w.varying-is) (l.invariant.2 k),
        w.known-is ∙ k,
        subst (λ v. looking v true) (sym w.varying-is) (subst (looking l.varying) k looked),
      )
    ] in
    let r = c.requires.0.room in let l = done.same_length in let e = c.vectors_end-end.ensures.1 in let s = c.stride-step in
    (omega arith, depth-positive c.args.depth s.result s.ensures.0, s.ensures.1, known.0)

pub shape_of-marks-then-end-v : goal.shape_of-marks-then-end-v
shape_of-marks-then-end-v c =
    let light : (c.loop-y.spent +
    c.mark_chain-spent.result ≤ (c.loop-y.y + 1) * most_points) = let s = c.args
    in let w = c.to_index in
    let f = first-le s.points.now s.depth s.from.now s.to.now s.own s.base s.next.now s.start.now s.marks.now
    c.loop-y.marks c.loop-y.spent c.loop-y.y w.result c.loop-y-test.true
    w.ensures c.loop-y.invariant.0 in
    let p = c.requires.0.few in let i = c.loop-y.invariant.0.light in let r = c.mark_chain-spent.ensures.0 in omega arith in
    let marked : List Bool = c.mark_chain-spent.new.marks in
    let spent : ℕ = c.loop-y.spent + c.mark_chain-spent.result in
    let done : (let s = c.args in Searching s.points.now s.depth s.from.now s.to.now s.own s.base s.next.now
    s.start.now s.marks.now marked spent c.next_linked-y-in-loop-y.result) = let s = c.args in let w = c.mark_chain-spent in let v = c.to_index in
    search-skips s.points.now s.depth s.from.now s.to.now s.own s.base s.next.now s.start.now s.marks.now marked
    spent (c.loop-y.y + 1) c.next_linked-y-in-loop-y.result c.next_linked-y-in-loop-y.ensures
    (search-turns s.points.now s.depth s.from.now s.to.now s.own s.base s.next.now s.start.now s.marks.now
    c.loop-y.marks c.loop-y.spent c.loop-y.y v.result c.loop-y-test.true v.ensures c.loop-y.invariant.0 marked spent w.auto.marks light w.ensures.1) in
    done.same_length

pub returns-then-end-v : goal.returns-then-end-v
returns-then-end-v c =
    let light : (c.loop-y.spent +
    c.mark_chain-spent.result ≤ (c.loop-y.y + 1) * most_points) = let s = c.args
    in let w = c.to_index in
    let f = first-le s.points.now s.depth s.from.now s.to.now s.own s.base s.next.now s.start.now s.marks.now
    c.loop-y.marks c.loop-y.spent c.loop-y.y w.result c.loop-y-test.true
    w.ensures c.loop-y.invariant.0 in
    let p = c.requires.0.few in let i = c.loop-y.invariant.0.light in let r = c.mark_chain-spent.ensures.0 in omega arith in
    let marked : List Bool = c.mark_chain-spent.new.marks in
    let spent : ℕ = c.loop-y.spent + c.mark_chain-spent.result in
    let done : (let s = c.args in Searching s.points.now s.depth s.from.now s.to.now s.own s.base s.next.now
    s.start.now s.marks.now marked spent c.next_linked-y-in-loop-y.result) = let s = c.args in let w = c.mark_chain-spent in let v = c.to_index in
    search-skips s.points.now s.depth s.from.now s.to.now s.own s.base s.next.now s.start.now s.marks.now marked
    spent (c.loop-y.y + 1) c.next_linked-y-in-loop-y.result c.next_linked-y-in-loop-y.ensures
    (search-turns s.points.now s.depth s.from.now s.to.now s.own s.base s.next.now s.start.now s.marks.now
    c.loop-y.marks c.loop-y.spent c.loop-y.y v.result c.loop-y-test.true v.ensures c.loop-y.invariant.0 marked spent w.auto.marks light w.ensures.1) in
    let looked : (let s = c.args in Looking s.depth c.stride-step.result c.loop-y.varying s.base marked
    c.loop-y.known c.loop-y.v) = let s = c.args in let r = c.stride-step in
    look-again s.depth r.result r.ensures.0 c.loop-y.varying s.base c.loop-y.marks c.loop-y.v marked _ c.loop-y.known
    c.mark_chain-spent.ensures.1 c.loop-y.invariant.3 in
    let known : (let s = c.args in (length c.if-not-known.varying ≡ 6)
    × LevelElse s.depth s.points.now (length s.from.now) s.next.now s.start.now s.depth c.if-not-known.varying
    × (c.if-not-known.known ≡ true)
    × Looking s.depth c.stride-step.result c.if-not-known.varying s.base marked true
    c.loop-y.v) = let s = c.args in let r = c.stride-step in let l = c.loop-y in
    let level : List Bool → Type 0 = λ v. LevelElse s.depth s.points.now (length s.from.now) s.next.now s.start.now s.depth
    v in
    let looking : List Bool → Bool → Type 0 = λ v k. Looking s.depth r.result v s.base marked k l.v
    in elim c.if-not-known.branch [
      | then-not-known w ↦ (
        ap length w.varying-is ∙ (w.find_varying.auto.varying ∙ l.invariant.1),
        subst level (sym w.varying-is) w.find_varying.ensures,
        w.known-is,
        look_known s.depth r.result r.ensures.0 l.varying s.base marked l.v c.if-not-known.varying
            (subst (looking l.varying) w.if-not-known.true looked),
      )
      | else-not-known w ↦ let k = w.if-not-known.false in (
        ap length w.varying-is ∙ l.invariant.1,
        subst level (sym w.varying-is) (l.invariant.2 k),
        w.known-is ∙ k,
        subst (λ v. looking v true) (sym w.varying-is) (subst (looking l.varying) k looked),
      )
    ] in
    let looked-on : (let s = c.args in
    Looking s.depth c.stride-step.result c.if-not-known.varying s.base marked true
    c.next_missing-v.result) = let s = c.args in let r = c.stride-step in
    look-goes-on s.depth r.result r.ensures.0 c.if-not-known.varying s.base marked c.loop-y.v
    c.next_missing-v.result c.requires.0.shallow c.next_missing-v.ensures.0 known.3 in
    let s = c.args in let f = looked-on.full in
    left-early s.points.now s.depth c.if-not-known.varying s.from.now s.to.now s.own s.base s.next.now s.start.now
    s.marks.now marked c.next_linked-y-in-loop-y.result c.requires.0 c.requires.1
    known.1 c.next_linked-y-in-loop-y.ensures.inside
    (λ u l t h. f u l t (let e = c.vectors_end-end.ensures.0 in let k = c.if-end-v.true in omega arith))
    done.adds

pub loop-y-smaller-else-end-v : goal.loop-y-smaller-else-end-v
loop-y-smaller-else-end-v c = let t = c.loop-y-test.true in let r = c.next_linked-y-in-loop-y.ensures.after in omega arith

pub loop-y-preserved-else-end-v : goal.loop-y-preserved-else-end-v
loop-y-preserved-else-end-v c =
    let light : (c.loop-y.spent +
    c.mark_chain-spent.result ≤ (c.loop-y.y + 1) * most_points) = let s = c.args
    in let w = c.to_index in
    let f = first-le s.points.now s.depth s.from.now s.to.now s.own s.base s.next.now s.start.now s.marks.now
    c.loop-y.marks c.loop-y.spent c.loop-y.y w.result c.loop-y-test.true
    w.ensures c.loop-y.invariant.0 in
    let p = c.requires.0.few in let i = c.loop-y.invariant.0.light in let r = c.mark_chain-spent.ensures.0 in omega arith in
    let marked : List Bool = c.mark_chain-spent.new.marks in
    let spent : ℕ = c.loop-y.spent + c.mark_chain-spent.result in
    let done : (let s = c.args in Searching s.points.now s.depth s.from.now s.to.now s.own s.base s.next.now
    s.start.now s.marks.now marked spent c.next_linked-y-in-loop-y.result) = let s = c.args in let w = c.mark_chain-spent in let v = c.to_index in
    search-skips s.points.now s.depth s.from.now s.to.now s.own s.base s.next.now s.start.now s.marks.now marked
    spent (c.loop-y.y + 1) c.next_linked-y-in-loop-y.result c.next_linked-y-in-loop-y.ensures
    (search-turns s.points.now s.depth s.from.now s.to.now s.own s.base s.next.now s.start.now s.marks.now
    c.loop-y.marks c.loop-y.spent c.loop-y.y v.result c.loop-y-test.true v.ensures c.loop-y.invariant.0 marked spent w.auto.marks light w.ensures.1) in
    let looked : (let s = c.args in Looking s.depth c.stride-step.result c.loop-y.varying s.base marked
    c.loop-y.known c.loop-y.v) = let s = c.args in let r = c.stride-step in
    look-again s.depth r.result r.ensures.0 c.loop-y.varying s.base c.loop-y.marks c.loop-y.v marked _ c.loop-y.known
    c.mark_chain-spent.ensures.1 c.loop-y.invariant.3 in
    let known : (let s = c.args in (length c.if-not-known.varying ≡ 6)
    × LevelElse s.depth s.points.now (length s.from.now) s.next.now s.start.now s.depth c.if-not-known.varying
    × (c.if-not-known.known ≡ true)
    × Looking s.depth c.stride-step.result c.if-not-known.varying s.base marked true
    c.loop-y.v) = let s = c.args in let r = c.stride-step in let l = c.loop-y in
    let level : List Bool → Type 0 = λ v. LevelElse s.depth s.points.now (length s.from.now) s.next.now s.start.now s.depth
    v in
    let looking : List Bool → Bool → Type 0 = λ v k. Looking s.depth r.result v s.base marked k l.v
    in elim c.if-not-known.branch [
      | then-not-known w ↦ (
        ap length w.varying-is ∙ (w.find_varying.auto.varying ∙ l.invariant.1),
        subst level (sym w.varying-is) w.find_varying.ensures,
        w.known-is,
        look_known s.depth r.result r.ensures.0 l.varying s.base marked l.v c.if-not-known.varying
            (subst (looking l.varying) w.if-not-known.true looked),
      )
      | else-not-known w ↦ let k = w.if-not-known.false in (
        ap length w.varying-is ∙ l.invariant.1,
        subst level (sym w.varying-is) (l.invariant.2 k),
        w.known-is ∙ k,
        subst (λ v. looking v true) (sym w.varying-is) (subst (looking l.varying) k looked),
      )
    ] in
    let looked-on : (let s = c.args in
    Looking s.depth c.stride-step.result c.if-not-known.varying s.base marked true
    c.next_missing-v.result) = let s = c.args in let r = c.stride-step in
    look-goes-on s.depth r.result r.ensures.0 c.if-not-known.varying s.base marked c.loop-y.v
    c.next_missing-v.result c.requires.0.shallow c.next_missing-v.ensures.0 known.3 in
    let s = c.args in let k = known in let e = c.vectors_end-end.ensures.1 in let n = c.if-end-v.false in (
      done,
      k.0,
      λ _. k.1,
      subst (λ b. Looking s.depth c.stride-step.result
          c.if-not-known.varying s.base marked b c.next_missing-v.result) (sym k.2) looked-on,
      omega arith,
    )

pub loop-y-smaller-else-stale : goal.loop-y-smaller-else-stale
loop-y-smaller-else-stale c = let t = c.loop-y-test.true
    in let r = c.next_linked-y-in-loop-y.ensures.after in omega arith

pub loop-y-preserved-else-stale : goal.loop-y-preserved-else-stale
loop-y-preserved-else-stale c =
    let light : (c.loop-y.spent +
    c.mark_chain-spent.result ≤ (c.loop-y.y + 1) * most_points) = let s = c.args
    in let w = c.to_index in
    let f = first-le s.points.now s.depth s.from.now s.to.now s.own s.base s.next.now s.start.now s.marks.now
    c.loop-y.marks c.loop-y.spent c.loop-y.y w.result c.loop-y-test.true
    w.ensures c.loop-y.invariant.0 in
    let p = c.requires.0.few in let i = c.loop-y.invariant.0.light in let r = c.mark_chain-spent.ensures.0 in omega arith in
    let marked : List Bool = c.mark_chain-spent.new.marks in
    let spent : ℕ = c.loop-y.spent + c.mark_chain-spent.result in
    let done : (let s = c.args in Searching s.points.now s.depth s.from.now s.to.now s.own s.base s.next.now
    s.start.now s.marks.now marked spent c.next_linked-y-in-loop-y.result) = let s = c.args in let w = c.mark_chain-spent in let v = c.to_index in
    search-skips s.points.now s.depth s.from.now s.to.now s.own s.base s.next.now s.start.now s.marks.now marked
    spent (c.loop-y.y + 1) c.next_linked-y-in-loop-y.result c.next_linked-y-in-loop-y.ensures
    (search-turns s.points.now s.depth s.from.now s.to.now s.own s.base s.next.now s.start.now s.marks.now
    c.loop-y.marks c.loop-y.spent c.loop-y.y v.result c.loop-y-test.true v.ensures c.loop-y.invariant.0 marked spent w.auto.marks light w.ensures.1) in
    let looked : (let s = c.args in Looking s.depth c.stride-step.result c.loop-y.varying s.base marked
    c.loop-y.known c.loop-y.v) = let s = c.args in let r = c.stride-step in
    look-again s.depth r.result r.ensures.0 c.loop-y.varying s.base c.loop-y.marks c.loop-y.v marked _ c.loop-y.known
    c.mark_chain-spent.ensures.1 c.loop-y.invariant.3 in
    let known : (let s = c.args in (length c.if-not-known.varying ≡ 6)
    × LevelElse s.depth s.points.now (length s.from.now) s.next.now s.start.now s.depth c.if-not-known.varying
    × (c.if-not-known.known ≡ true)
    × Looking s.depth c.stride-step.result c.if-not-known.varying s.base marked true
    c.loop-y.v) = let s = c.args in let r = c.stride-step in let l = c.loop-y in
    let level : List Bool → Type 0 = λ v. LevelElse s.depth s.points.now (length s.from.now) s.next.now s.start.now s.depth
    v in
    let looking : List Bool → Bool → Type 0 = λ v k. Looking s.depth r.result v s.base marked k l.v
    in elim c.if-not-known.branch [
      | then-not-known w ↦ (
        ap length w.varying-is ∙ (w.find_varying.auto.varying ∙ l.invariant.1),
        subst level (sym w.varying-is) w.find_varying.ensures,
        w.known-is,
        look_known s.depth r.result r.ensures.0 l.varying s.base marked l.v c.if-not-known.varying
            (subst (looking l.varying) w.if-not-known.true looked),
      )
      | else-not-known w ↦ let k = w.if-not-known.false in (
        ap length w.varying-is ∙ l.invariant.1,
        subst level (sym w.varying-is) (l.invariant.2 k),
        w.known-is ∙ k,
        subst (λ v. looking v true) (sym w.varying-is) (subst (looking l.varying) k looked),
      )
    ] in
    let s = c.args in let k = known in (
      done,
      k.0,
      λ _. k.1,
      subst (λ b. Looking s.depth c.stride-step.result c.if-not-known.varying
          s.base marked b c.loop-y.v) (sym k.2) k.3,
      c.loop-y.invariant.4,
    )

pub loop-y-smaller : goal.loop-y-smaller
loop-y-smaller c = let t = c.loop-y-test.true
    in let r = c.next_linked-y-in-loop-y.ensures.after in omega arith

pub loop-y-preserved : goal.loop-y-preserved
loop-y-preserved c =
    let light : (c.loop-y.spent +
    c.mark_chain-spent.result ≤ (c.loop-y.y + 1) * most_points) = let s = c.args
    in let w = c.to_index in
    let f = first-le s.points.now s.depth s.from.now s.to.now s.own s.base s.next.now s.start.now s.marks.now
    c.loop-y.marks c.loop-y.spent c.loop-y.y w.result c.loop-y-test.true
    w.ensures c.loop-y.invariant.0 in
    let p = c.requires.0.few in let i = c.loop-y.invariant.0.light in let r = c.mark_chain-spent.ensures.0 in omega arith in
    let marked : List Bool = c.mark_chain-spent.new.marks in
    let spent : ℕ = c.loop-y.spent + c.mark_chain-spent.result in
    let done : (let s = c.args in Searching s.points.now s.depth s.from.now s.to.now s.own s.base s.next.now
    s.start.now s.marks.now marked spent c.next_linked-y-in-loop-y.result) = let s = c.args in let w = c.mark_chain-spent in let v = c.to_index in
    search-skips s.points.now s.depth s.from.now s.to.now s.own s.base s.next.now s.start.now s.marks.now marked
    spent (c.loop-y.y + 1) c.next_linked-y-in-loop-y.result c.next_linked-y-in-loop-y.ensures
    (search-turns s.points.now s.depth s.from.now s.to.now s.own s.base s.next.now s.start.now s.marks.now
    c.loop-y.marks c.loop-y.spent c.loop-y.y v.result c.loop-y-test.true v.ensures c.loop-y.invariant.0 marked spent w.auto.marks light w.ensures.1) in
    let looked : (let s = c.args in Looking s.depth c.stride-step.result c.loop-y.varying s.base marked
    c.loop-y.known c.loop-y.v) = let s = c.args in let r = c.stride-step in
    look-again s.depth r.result r.ensures.0 c.loop-y.varying s.base c.loop-y.marks c.loop-y.v marked _ c.loop-y.known
    c.mark_chain-spent.ensures.1 c.loop-y.invariant.3 in
    let i = c.loop-y.invariant
    in (done, i.1, i.2, looked, i.4)

pub shape_of-marks : goal.shape_of-marks
shape_of-marks c = c.loop-y.invariant.0.same_length

pub returns : goal.returns
returns c = let s = c.args in let l = c.loop-y in let t = c.loop-y-test.false in let i = l.invariant.0.inside in let e : l.y ≡
    length s.from.now = omega arith in
    subst (λ n. Adds s.marks.now l.marks (found s.depth s.points.now n s.from.now s.to.now s.own s.base)) e
    l.invariant.0.adds
