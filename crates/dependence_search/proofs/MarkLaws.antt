-- The marks that the search sets are those of the lines that the model says occur: from accesses at points to a line, and back.
use mathlib.Core.Path.{◌≡◌, sym, ap, ap₂, ◌∙◌, subst}
use mathlib.Core.Bool.{Bool, false, ◌||◌, or-false}
use mathlib.Core.List.{List}
use Prim.Native.Nat.{ℕ, ◌<◌}
use native.Mathlib.Omega.{arith}
use lib.Dec.{T, eqb, ltb, eqb→eq}
use lib.ListN.{length, get_or}
use borrow.Author.Tests.{eq-eqb}
use Rattle.lists.specs.Membership.{Mem}
use Rattle.lists.proofs.TestLaws.{equal-test, true-T, T-same, not-T-false, select-mem, mem-select}
use Rattle.model.specs.Ticket.{Statement}
use Rattle.model.specs.Machine.{same, element, body_at, accesses}
use Rattle.model.specs.Directions.{signs, Kind, Line, comes_first, occurs, all_lines, lines}
use Rattle.model.specs.Promises.{Fitting}
use Rattle.model.proofs.Machine.ElementLaws.{same-decides}
use Rattle.model.proofs.Listing.LineOrderLaws.{all_lines-mem, mem-all_lines}
use Rattle.model.proofs.Listing.LineLaws.{Shows, line-exact, clash-exact}
use Rattle.dependence_vectors.specs.Numbers.{number, kind_number, place_of, place}
use Rattle.dependence_vectors.specs.Candidates.{code}
use Rattle.dependence_pair_search.specs.Search.{some, Adds}
use Rattle.dependence_search.specs.Flat.{Flat, number_at, statement_of, writes_at, point_at, points_of, use_at, Describes, Ready, Searched, kind_of}
use Rattle.dependence_search.specs.Flat.{set_from}
use Rattle.dependence_vectors.proofs.NumberLaws.{number_lt, number-unique, signs-length}
use Rattle.dependence_vectors.proofs.VectorLaws.{code_lt}
use Rattle.dependence_pair_search.proofs.ChainLaws.{up_to-le}
use Rattle.dependence_search.proofs.UseLaws.{side, as_many, access-of, of-access}
use Rattle.dependence_search.proofs.MeetLaws.{Meets, set-meets, meets-set}
use Rattle.dependence_search.proofs.KindLaws.{SameParts, place-unique, source_writes, sink_writes, kind-is, kind-small, is-kind, kind-of, source-side, sink-side}
use Rattle.dependence_search.proofs.OrderLaws.{point-length, point-mem, mem-point, at, before-first, first-before}

module _ (F : Flat) (marks : List Bool) (ok : Ready F marks) where
  -- ---- lines

  vector-length : (x y : ℕ) → x < F.count → y < F.count → length (signs (point_at F x) (point_at F y)) ≡ F.depth
  vector-length x y h g = let a = point-length F marks ok x h in let b = point-length F marks ok y g in signs-length (point_at F x) (point_at F y)
      (omega arith) ∙ a

  before : (j : ℕ) (m : Meets F j) → m.x < F.count
  before j m = let k = up_to-le (ltb (statement_of F m.a) (statement_of F m.b)) m.y F.count m.late in let h = m.first in omega arith

  -- the line of two accesses at two points
  abbrev line_of : (j : ℕ) (m : Meets F j) → Kind → Line
  line_of j m k = record { kind = k; source = statement_of F m.a; sink = statement_of F m.b; vector = signs (point_at F m.x) (point_at F m.y) }

  -- a mark that is set is that of a line that there could be
  meets-line : (j : ℕ) → Meets F j → (l : Line) × Mem l (all_lines F.body F.depth) × (place F.body l ≡ j)
  unfolding place code
  meets-line j m = let k = kind-of (writes_at F m.a) (writes_at F m.b) m.conflicts in (
    line_of j m k.0,
    mem-all_lines F.body F.depth (line_of j m k.0) (ok.in_body m.a m.source) (ok.in_body m.b m.sink)
        (vector-length m.x m.y (before j m) m.late),
    (let e = k.1 in let p = m.placed in let n = F.body in ap (λ z. place_of n (statement_of F m.a) (statement_of F m.b) z
        (number (signs (point_at F m.x) (point_at F m.y)))) (sym e)
        ∙ (let q : place_of n (statement_of F m.a) (statement_of F m.b) (kind_of (writes_at F m.a) (writes_at F m.b))
        (number (signs (point_at F m.x) (point_at F m.y))) ≡ j = omega arith in q)),
  )

  module _ (ss : List Statement) (d : Describes ss F) (l : Line) (fits : Fitting F.body F.depth l) where
    same-element : (a b x y : ℕ) → a < length F.statements → b < length F.statements → x < F.count → y < F.count
        → eqb (number_at F a x) (number_at F b y) ≡ same (element (point_at F x) (use_at ss a).access) (element (point_at F y) (use_at ss b).access)
    same-element a b x y h g i k = let e = as_many ss F d in d.elements a b x y (omega arith) (omega arith) i k

    parts : (m : Meets F (place F.body l)) → SameParts (statement_of F m.a) l.source (statement_of F m.b) l.sink
        (kind_of (writes_at F m.a) (writes_at F m.b)) (kind_number l.kind)
        (code F.depth F.points m.x m.y) (number l.vector)
    unfolding place
    parts m = place-unique F.body (statement_of F m.a) l.source (statement_of F m.b) l.sink
        (kind_of (writes_at F m.a) (writes_at F m.b)) (kind_number l.kind)
        (code F.depth F.points m.x m.y) (number l.vector) (ok.in_body m.b m.sink) fits.sink m.conflicts
        (kind-small l.kind) (code_lt F.points F.depth m.x m.y ok.shallow)
        (number_lt l.vector (let e = fits.signs in let s = ok.shallow in omega arith)) m.placed

    meets-shows : Meets F (place F.body l) → Shows (accesses ss) (points_of F) l
    unfolding code
    meets-shows m =
        let p = parts m in
        let x = m.x in let y = m.y in
        let hx = before (place F.body l) m in
        let w = is-kind (writes_at F m.a) (writes_at F m.b) l.kind p.kind in
        record {
          early = point_at F x;
          late = point_at F y;
          early-there = point-mem F marks ok x hx;
          late-there = point-mem F marks ok y m.late;
          first = subst (λ s. T (comes_first (at F s x) (at F l.sink y))) p.source
              (subst (λ t. T (comes_first (at F (statement_of F m.a) x) (at F t y))) p.sink
              (before-first F marks ok (statement_of F m.a) (statement_of F m.b) x y m.first m.late));
          clash = (clash-exact ss l.kind (at F l.source x) (at F l.sink y)).1 (record {
            early = (use_at ss m.a).access;
            late = (use_at ss m.b).access;
            of-source = subst (λ z. Mem (use_at ss m.a).access z) (ap₂ (λ w s. side w (body_at ss s)) w.0 p.source
                ∙ sym (source-side l.kind (body_at ss l.source))) (access-of ss F d m.a m.source);
            of-sink = subst (λ z. Mem (use_at ss m.b).access z) (ap₂ (λ w s. side w (body_at ss s)) w.1 p.sink
                ∙ sym (sink-side l.kind (body_at ss l.sink))) (access-of ss F d m.b m.sink);
            meet = same-decides.equal (element (point_at F x) (use_at ss m.a).access) (element (point_at F y) (use_at ss m.b).access)
                (subst T (same-element m.a m.b x y m.source m.sink hx m.late)
                (true-T (eqb (number_at F m.a x) (number_at F m.b y)) (eq-eqb (number_at F m.a x) (number_at F m.b y) m.element)));
          });
          vector = number-unique (signs (point_at F x) (point_at F y)) l.vector (vector-length x y hx m.late ∙ sym fits.signs)
              (let e = fits.signs in let s = ok.shallow in omega arith) p.vector;
        }

    -- two points and two accesses that show the line
    shown : (a b x y : ℕ) → a < length F.statements → b < length F.statements → x < F.count → y < F.count
        → statement_of F a ≡ l.source → statement_of F b ≡ l.sink → writes_at F a ≡ source_writes l.kind → writes_at F b ≡ sink_writes l.kind
        → T (comes_first (at F l.source x) (at F l.sink y))
        → element (point_at F x) (use_at ss a).access ≡ element (point_at F y) (use_at ss b).access → signs (point_at F x) (point_at F y) ≡ l.vector
        → Meets F (place F.body l)
    unfolding place code
    shown a b x y ha hb hx hy es et ew eu c e v =
        let k : kind_of (writes_at F a) (writes_at F b) ≡ kind_number l.kind = ap₂ kind_of ew eu ∙ kind-is l.kind in
        record {
          a = a;
          b = b;
          x = x;
          y = y;
          source = ha;
          sink = hb;
          late = hy;
          conflicts = rw k (kind-small l.kind);
          first = first-before F marks ok (statement_of F a) (statement_of F b) x y hx hy (rw (es, et) c);
          element = eqb→eq (number_at F a x) (number_at F b y) (rw (same-element a b x y ha hb hx hy)
              (equal-test same same-decides (element (point_at F x) (use_at ss a).access) (element (point_at F y) (use_at ss b).access) e));
          placed = rw (es, et, k, v) (omega arith);
        }

    shows-meets : Shows (accesses ss) (points_of F) l → Meets F (place F.body l)
    shows-meets r =
        let p = mem-point F marks ok r.early-there in let q = mem-point F marks ok r.late-there in
        let c = (clash-exact ss l.kind (record { statement = l.source; iteration = r.early })
        (record { statement = l.sink; iteration = r.late })).0 r.clash in
        let a = of-access ss F d l.source (source_writes l.kind) (in-body fits.source)
        (subst (Mem c.early) (source-side l.kind (body_at ss l.source)) c.of-source) in
        let b = of-access ss F d l.sink (sink_writes l.kind) (in-body fits.sink)
        (subst (Mem c.late) (sink-side l.kind (body_at ss l.sink)) c.of-sink) in
        shown a.0 b.0 p.0 q.0 a.1 b.1 p.1 q.1 a.2 b.2 a.3 b.3
        (rw (p.2, q.2) r.first) (ap₂ element p.2 a.4 ∙ c.meet ∙ sym (ap₂ element q.2 b.4)) (ap₂ signs p.2 q.2 ∙ r.vector)
      where
        in-body : {s : ℕ} → s < F.body → s < length ss
        in-body h = let e = d.body in omega arith

    occurs-shows : occurs (accesses ss) (points_of F) l ≡ some (length F.statements) (λ a. set_from F a (place F.body l))
    unfolding lines
    occurs-shows = T-same (occurs (accesses ss) (points_of F) l) (some (length F.statements) (λ a. set_from F a (place F.body l)))
        (λ h. meets-set F marks ok (place F.body l) (shows-meets ((line-exact (accesses ss) F.body F.depth (points_of F) l).0
        (mem-select (occurs (accesses ss) (points_of F)) (all_lines F.body F.depth)
        (mem-all_lines F.body F.depth l fits.source fits.sink fits.signs) h)).1))
        (λ h. (select-mem (occurs (accesses ss) (points_of F)) (all_lines F.body F.depth)
        ((line-exact (accesses ss) F.body F.depth (points_of F) l).1
        (fits, meets-shows (set-meets F marks ok (place F.body l) h)))).1)

  -- ---- the whole

  pub searched : (m : List Bool) → Adds marks m (λ j. some (length F.statements) (λ a. set_from F a j)) → Searched F marks m
  searched m g = record {
    lines = λ ss d l h. let r = all_lines-mem F.body F.depth h in
        g (place F.body l) ∙ ap (get_or marks (place F.body l) false ||◌) (sym
        (occurs-shows ss d l (record { source = r.0; sink = r.1; signs = r.2 })));
    others = λ j n. g j ∙ ap (get_or marks j false ||◌) (not-T-false (some (length F.statements) (λ a. set_from F a j))
        (λ h. let r = meets-line j (set-meets F marks ok j h) in n r.0 r.1 r.2)) ∙ or-false (get_or marks j false);
  }
