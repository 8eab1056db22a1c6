-- The lines of a nest, marked in its flat form. In order: equal places are equal elements; the accesses of the model's uses; what
-- `mark_using_numbers` asks is met (`lines-in`); what the search is lent describes the nest (`describes`), and so does what the sizes of the
-- statements give (`describes-sized`); it is as the search asks (`flat_in`); what it marks are the lines of the nest's listing (`lines_are`); their text
-- is the listing (`listing-is`).
use mathlib.Core.Path.{◌≡◌, refl, sym, ◌∙◌, ap, ap₂, subst}
use mathlib.Core.Bool.{Bool, true, false, ◌||◌}
use mathlib.Core.List.{List, [], ◌∷◌, ◌++◌, map, flat_map, map-append}
use Prim.Native.Nat.{ℕ, suc, ◌+◌, ◌*◌, ◌≤◌, ◌<◌}
use native.Mathlib.Omega.{arith}
use native.Mathlib.Nat.{mul-le-mul}
use lib.Dec.{T, eqb, eqb→eq, eqb_refl}
use lib.IntN.{ℤ}
use lib.ListN.{length, get_or, take, length-map, get_or-map}
use lib.Seq.{length-take-le}
use Rattle.lists.specs.Membership.{Mem}
use Rattle.lists.specs.Order.{Ordered}
use Rattle.lists.specs.Tests.{select}
use Rattle.lists.specs.Parts.{rows}
use Rattle.lists.proofs.MembershipLaws.{get_d-mem}
use Rattle.lists.proofs.PartLaws.{rows-get_d}
use Rattle.lists.proofs.TestLaws.{T-same, equal-test, select-same-on}
use Rattle.model.specs.Grammar.{total, most_accesses, most_points, most_numbers}
use Rattle.model.specs.Ticket.{Access, Statement}
use Rattle.model.specs.Points.{iterations}
use Rattle.model.specs.Bounds.{accesses_of, in_arrays}
use Rattle.model.specs.Machine.{Element, same, element, accesses}
use Rattle.model.specs.Store.{place_of}
use Rattle.model.specs.Entries.{all_accesses}
use Rattle.model.specs.Inside.{Earlier}
use Rattle.model.specs.Directions.{Line, occurs, all_lines, lines}
use Rattle.model.specs.Listing.{lines_of, listing, head_text, line_text}
use Rattle.model.specs.Promises.{Valid}
use Rattle.model.proofs.Machine.ElementLaws.{same-decides}
use Rattle.model.proofs.Points.PointLaws.{iterations-rise}
use Rattle.model.proofs.Store.PlaceLaws.{place-injective}
use Rattle.dependence_vectors.specs.Candidates.{row}
use Rattle.dependence_vectors.specs.Numbers.{place}
use Rattle.dependence_search.specs.Flat.{Flat, flat, statement_of, point_at, Use, use·of, uses_from, uses, no_use, use_at, Describes, FlatIn, NumbersBelow, Searched}
use Rattle.dependence_search.proofs.UseLaws.{uses-of}
use Rattle.dependence_listing_text.specs.Text.{marked, shown, text}
use Rattle.nest_flat.specs.FlatNests.{FlatNest, sizes_in, statements_from, nest_of, FlatNestIn, no_access, access_of}
use Rattle.nest_points.specs.Nests.{PointsAre}
use Rattle.nest_elements.specs.Nests.{NestNumberIn, NumbersAre}
use Rattle.nest_flat.proofs.FlatNestLaws.{access-count, sizes-count}
use Rattle.nest_points.proofs.NestLaws.{depth_is}
use Rattle.nest_elements.proofs.NestLaws.{access-valid}
use Rattle.dependence_marks.specs.declared.Uses.{Uses}
use Rattle.dependence_marks.specs.Uses.{written_in, statement_numbers, UsesAre}
use Rattle.dependence_marks.specs.Lines.{Markable, LinesIn, LinesAre}
use Rattle.dependence_marks.proofs.UseLaws.{sizes-numbers, sizes-flags}

-- ---- equal places are equal elements

place_same : (as' : List (List ℕ)) (e f : Element) → Valid as' e → Valid as' f → eqb (place_of as' e) (place_of as' f) ≡ same e f
place_same as' e f v u = T-same (eqb (place_of as' e) (place_of as' f)) (same e f)
    (λ h. equal-test same same-decides e f (place-injective as' e f v u (eqb→eq (place_of as' e) (place_of as' f) h)))
    (λ h. subst (λ (p : ℕ). T (eqb (place_of as' e) p)) (ap (place_of as') (same-decides.equal e f h)) (eqb_refl (place_of as' e)))

-- ---- the accesses of the uses

map_of : (k : ℕ) (w : Bool) (l : List Access) → map (λ (u : Use). u.access) (map (use·of k w) l) ≡ l
map_of k w [] = refl
map_of k w (x ∷ l) = ap (x ∷◌) (map_of k w l)

use-accesses : (k : ℕ) (ss : List Statement) → map (λ (u : Use). u.access) (uses_from k ss) ≡ flat_map accesses_of ss
unfolding uses_from accesses_of flat_map
use-accesses k [] = refl
use-accesses k (s ∷ ss) =
    map-append (λ (u : Use). u.access) (map (use·of k true) s.writes ++ map (use·of k false) s.reads) (uses_from (suc k) ss)
    ∙ ap₂ ◌++◌ (map-append (λ (u : Use). u.access) (map (use·of k true) s.writes) (map (use·of k false) s.reads)
    ∙ ap₂ ◌++◌ (map_of k true s.writes) (map_of k false s.reads))
    (use-accesses (suc k) ss)

statements-length : (P : FlatNest) (k i : ℕ) (ms : List ℕ) → length (statements_from P k i ms) ≡ length ms
unfolding statements_from
statements-length P k i [] = refl
statements-length P k i (m ∷ ms) = ap suc (statements-length P (k + m) (suc i) ms)

module _ (P : FlatNest) (h : FlatNestIn P) where
  abbrev ss : List Statement
  ss = (nest_of P).statements

  pub statement-count : length ss ≡ P.statements
  unfolding nest_of
  statement-count = statements-length P 0 0 (sizes_in P) ∙ sizes-count P h

  pub use-access : (k : ℕ) → (use_at ss k).access ≡ access_of (nest_of P) k
  unfolding use_at all_accesses
  use-access k = sym (get_or-map (λ (u : Use). u.access) (uses ss) k no_use) ∙ ap (λ (l : List Access). get_or l k no_access) (use-accesses 0 ss)

  pub use-count : length (uses ss) ≡ P.accesses
  unfolding all_accesses
  use-count = sym (length-map (uses ss) (λ (u : Use). u.access)) ∙ ap length (use-accesses 0 ss) ∙ access-count P h

  -- the lengths of the parts in use
  pub statements-count : (r : Uses) → UsesAre P r → length (take P.accesses r.statements) ≡ P.accesses
  statements-count r u = let l = u.statements-length in let f = h.few-accesses in length-take-le P.accesses r.statements (omega arith)

  pub writes-count : (r : Uses) → UsesAre P r → length (take P.accesses r.writes) ≡ P.accesses
  writes-count r u = let l = u.writes-length in let f = h.few-accesses in length-take-le P.accesses r.writes (omega arith)

-- ---- the points listed

pub lines-in : (P : FlatNest) (marks : List Bool) → Markable P marks → (points : List ℤ) (n : ℕ) → PointsAre P points n → LinesIn P points n marks
lines-in P marks h points n g = record {
  violation = record { flat-nest = h.flat-nest; points-are = g };
  formed = h.formed;
  inside = h.inside;
  clear = h.clear;
  room = h.room;
}

-- ---- what the search is lent

-- numbers of all accesses at so many points are the most
pub numbers-at : (P : FlatNest) (n most : ℕ) → FlatNestIn P → n ≤ most → P.accesses * n ≤ most_accesses * most
numbers-at P n most h g = mul-le-mul {n₁ = P.accesses} {m₁ = n} {n₂ = most_accesses} {m₂ = most} h.few-accesses g

pub few-numbers : (P : FlatNest) (points : List ℤ) (n : ℕ) (marks : List Bool) → LinesIn P points n marks → P.accesses * n ≤ most_numbers
few-numbers P points n marks h = numbers-at P n most_points h.violation.flat-nest h.violation.points-are.stored.bound

module _ (P : FlatNest) (points : List ℤ) (n : ℕ) (marks : List Bool) (h : LinesIn P points n marks) (room : ℕ) (fits : P.accesses * n ≤ room) where
  abbrev flat-nest-in : FlatNestIn P
  flat-nest-in = h.violation.flat-nest

  -- all points of the nest are numbered
  pub number_in : NestNumberIn P points n room
  number_in = record {
    flat-nest = flat-nest-in;
    formed = h.formed;
    stored = h.violation.points-are.stored;
    inside = ap (λ (ps : List (List ℤ)). in_arrays (nest_of P).arrays ps 1 (nest_of P).statements) h.violation.points-are.are ∙ h.inside;
    fits = fits;
  }

  abbrev flat_of : List ℕ → Uses → Flat
  flat_of e r = record {
    points = points;
    depth = P.depth;
    count = n;
    numbers = e;
    statements = take P.accesses r.statements;
    writes = take P.accesses r.writes;
    body = P.statements;
  }

  module _ (e : List ℕ) (g : NumbersAre P points n e) where
    -- statements and ways that are the uses'
    module _ (o : List ℕ) (w : List Bool) (os : o ≡ map (λ (u : Use). u.statement) (uses (nest_of P).statements))
        (ws : w ≡ map (λ (u : Use). u.writes) (uses (nest_of P).statements)) where
      abbrev G : Flat
      G = flat points P.depth n e o w P.statements

      point-is : (x : ℕ) → x < n → point_at G x ≡ get_or (rows P.depth n points) x []
      unfolding row
      point-is x l = sym (rows-get_d P.depth n points x [] l)

      abbrev at : ℕ → ℕ → Element
      at k x = element (get_or (rows P.depth n points) x []) (access_of (nest_of P) k)

      element-is : (k x : ℕ) → x < n → element (point_at G x) (use_at (nest_of P).statements k).access ≡ at k x
      element-is k x l = ap₂ element (point-is x l) (use-access P flat-nest-in k)

      describes-with : Describes (nest_of P).statements G
      describes-with = record {
        body = sym (statement-count P flat-nest-in);
        statements = os;
        writes = ws;
        elements = λ a b x y la lb lx ly. let c = use-count P flat-nest-in in
            ap₂ eqb (g.are a x (omega arith) lx) (g.are b y (omega arith) ly)
            ∙ place_same (nest_of P).arrays (at a x) (at b y) (access-valid P points n room number_in a x (omega arith) lx)
            (access-valid P points n room number_in b y (omega arith) ly)
            ∙ sym (ap₂ same (element-is a x lx) (element-is b y ly));
      }

    -- those of the sizes
    pub describes-sized : Describes (nest_of P).statements
        (flat points P.depth n e (statement_numbers 0 (sizes_in P)) (written_in (sizes_in P)) P.statements)
    describes-sized = describes-with (statement_numbers 0 (sizes_in P)) (written_in (sizes_in P)) (sizes-numbers P flat-nest-in)
        (sizes-flags P flat-nest-in)

  module _ (e : List ℕ) (g : NumbersAre P points n e) (r : Uses) (u : UsesAre P r) where
    abbrev F : Flat
    F = flat_of e r

    pub describes : Describes (nest_of P).statements F
    describes = describes-with e g F.statements F.writes u.statements u.writes

    in-body : (a : ℕ) → a < length F.statements → statement_of F a < P.statements
    in-body a l =
        let c = statements-count P flat-nest-in r u in let k = use-count P flat-nest-in in
        let m = uses-of 0 (nest_of P).statements (get_d-mem (uses (nest_of P).statements) a no_use (omega arith)) in
        let t = m.there in let s = m.statement in let q = statement-count P flat-nest-in in
        let i : statement_of F a ≡ (get_or (uses (nest_of P).statements) a no_use).statement = ap (λ (z : List ℕ). get_or z a 0) u.statements
        ∙ get_or-map (λ (v : Use). v.statement) (uses (nest_of P).statements) a no_use in
        omega arith

    pub flat_in : FlatIn F
    flat_in = let s = h.violation.points-are.stored in let c = statements-count P flat-nest-in r u in let w = writes-count P flat-nest-in r u
        in let q = h.violation.points-are.count in let t = g.room in record {
          few = s.bound;
          shallow = s.few;
          stored = s.room;
          both = w ∙ sym c;
          in_body = in-body;
          table = omega (arith, ap (λ (m : ℕ). m * n) c);
        }

    pub rising : Ordered Earlier (rows P.depth n points)
    rising = subst (Ordered Earlier) (sym h.violation.points-are.are) (iterations-rise (nest_of P).loops)

    pub numbers-below : (m : ℕ) → m ≡ total (nest_of P).arrays → NumbersBelow m F
    unfolding nest_of
    numbers-below m k = let f = flat-nest-in.fits in let c = statements-count P flat-nest-in r u
        in record { few = omega arith; below = λ a x la lx. let q = g.small a x (omega arith) lx in omega arith }

    occurs-marked : (m : List Bool) → Searched F marks m → (l : Line) → Mem l (all_lines P.statements P.depth)
        → marked m P.statements l ≡ occurs (accesses (nest_of P).statements) (iterations (nest_of P).loops) l
    unfolding marked
    occurs-marked m s l i =
        s.lines (nest_of P).statements describes l i
        ∙ ap₂ (λ (b : Bool) (ps : List (List ℤ)). b || occurs (accesses (nest_of P).statements) ps l) (h.clear (place P.statements l))
        h.violation.points-are.are

    pub lines_are : (m : List Bool) → length m ≡ length marks → Searched F marks m → LinesAre P m
    unfolding shown lines_of lines
    lines_are m k s = record {
      lines =
          select-same-on (marked m P.statements) (occurs (accesses (nest_of P).statements) (iterations (nest_of P).loops))
          (all_lines P.statements P.depth) (occurs-marked m s)
          ∙ ap₂ (λ (i j : ℕ). select (occurs (accesses (nest_of P).statements) (iterations (nest_of P).loops)) (all_lines i j))
          (sym (statement-count P flat-nest-in)) (sym (depth_is P));
      marks-in = let a = h.room in record {
        statements = flat-nest-in.few-statements;
        shallow = h.violation.points-are.stored.few;
        room = omega arith;
      };
    }

-- ---- the text

pub listing-is : (P : FlatNest) (n : ℕ) (marks : List Bool) → n ≡ length (iterations (nest_of P).loops) → LinesAre P marks
    → text marks P.statements P.depth n ≡ listing (nest_of P)
unfolding text listing
listing-is P n marks c l =
    ap₂ (λ (d k : ℕ). head_text d k (length (shown marks P.statements P.depth)) ++ flat_map line_text (shown marks P.statements P.depth))
    (sym (depth_is P)) c
    ∙ ap (λ (ls : List Line). head_text (length (nest_of P).loops) (length (iterations (nest_of P).loops)) (length ls) ++ flat_map line_text ls)
    l.lines
