-- An instance of the new nest fetches and stores the elements that the instance of the same statement at the original iteration does.
use mathlib.Core.Path.{◌≡◌, refl, sym, ap, ◌∙◌, subst}
use mathlib.Core.List.Memᴰ
use mathlib.Core.List.{List, [], ◌∷◌, map}
use Prim.Native.Nat.{ℕ, zero, suc}
use lib.IntN.{ℤ}
use lib.ListN.{length}
use Rattle.lists.specs.Membership.{Mem, All}
use Rattle.lists.proofs.MembershipLaws.{all_nil}
use Rattle.model.specs.Ticket.{Statement, Step, Nest}
use Rattle.model.specs.Points.{iterations}
use Rattle.model.specs.Machine.{Accesses, element, body_at, accesses}
use Rattle.model.specs.Steps.{forward, forward_all, undo_all}
use Rattle.model.specs.Limits.{statement_after, nest_after, nest_after_all}
use Rattle.model.specs.Shape.{Fits, FitsAll, Proper, WellFormed}
use Rattle.model.proofs.Points.PointLaws.{iterations-length}
use Rattle.model.proofs.Steps.LengthLaws.{loops-length}
use Rattle.model.proofs.Steps.SubscriptLaws.{elements-after}
use Rattle.model.proofs.Steps.WellFormedLaws.{well-formed-after}
use Rattle.model.proofs.Steps.KeepLaws.{steps-keep-points}

-- statement k at the point p names the same elements in A as at the point q in B
pub record SameElements (A B : Accesses) (k : ℕ) (p q : List ℤ) : Type 0 where
  pub reads : A.reads (record { statement = k; iteration = p }) ≡ B.reads (record { statement = k; iteration = q })
  pub writes : A.writes (record { statement = k; iteration = p }) ≡ B.writes (record { statement = k; iteration = q })

-- ---- the body

pub body-after : (t : Step) (ss : List Statement) (k : ℕ) → body_at (map (statement_after t) ss) k ≡ statement_after t (body_at ss k)
unfolding body_at statement_after
body-after t [] k = refl
body-after t (s ∷ ss) zero = refl
body-after t (s ∷ ss) (suc k) = body-after t ss k

body-fits : (as' : List (List ℕ)) (n : ℕ) (ss : List Statement) → All (FitsAll as' n) ss → (k : ℕ) → FitsAll as' n (body_at ss k)
unfolding body_at
body-fits as' n [] f k = record { writes = all_nil (Fits as' n); reads = all_nil (Fits as' n) }
body-fits as' n (s ∷ ss) f zero = f s (Memᴰ.head refl)
body-fits as' n (s ∷ ss) f (suc k) = body-fits as' n ss (λ r m. f r (Memᴰ.tail m)) k

-- ---- one step, and all

pub accesses-after : (t : Step) (N : Nest) → WellFormed N → (k : ℕ) (p : List ℤ) → length p ≡ length N.loops
    → SameElements (accesses (nest_after t N).statements) (accesses N.statements) k (forward t p) p
unfolding accesses nest_after statement_after
accesses-after t N f k p e =
    let fits : FitsAll N.arrays (length p) (body_at N.statements k) = subst (λ n. FitsAll N.arrays n (body_at N.statements k)) (sym e)
    (body-fits N.arrays (length N.loops) N.statements f.fits k) in
    record {
      reads = ap (λ (s : Statement). map (element (forward t p)) s.reads) (body-after t N.statements k)
          ∙ elements-after t p N.arrays (body_at N.statements k).reads fits.reads;
      writes = ap (λ (s : Statement). map (element (forward t p)) s.writes) (body-after t N.statements k)
          ∙ elements-after t p N.arrays (body_at N.statements k).writes fits.writes;
    }

pub accesses-after-all : (ts : List Step) → All Proper ts → (N : Nest) → WellFormed N → (k : ℕ) (p : List ℤ) → length p ≡ length N.loops
    → SameElements (accesses (nest_after_all ts N).statements) (accesses N.statements) k (forward_all ts p) p
unfolding nest_after_all forward_all
accesses-after-all [] h N f k p e = record { reads = refl; writes = refl }
accesses-after-all (t ∷ ts) h N f k p e =
    let here = accesses-after t N f k p e in
    let rest = accesses-after-all ts (λ u m. h u (Memᴰ.tail m)) (nest_after t N) (well-formed-after t (h t (Memᴰ.head refl)) N f) k
    (forward t p) (unfold nest_after in sym (loops-length t N.loops p (sym e))) in
    record { reads = rest.reads ∙ here.reads; writes = rest.writes ∙ here.writes }

-- from an iteration of the new nest
pub accesses-undone : (ts : List Step) → All Proper ts → (N : Nest) → WellFormed N → (k : ℕ) (q : List ℤ)
    → Mem q (iterations (nest_after_all ts N).loops)
    → SameElements (accesses (nest_after_all ts N).statements) (accesses N.statements) k q (undo_all ts q)
accesses-undone ts h N f k q m =
    let r = steps-keep-points ts h N f m in
    subst (λ p. SameElements (accesses (nest_after_all ts N).statements) (accesses N.statements) k p (undo_all ts q)) r.1
    (accesses-after-all ts h N f k (undo_all ts q) (iterations-length N.loops (undo_all ts q) r.0))
