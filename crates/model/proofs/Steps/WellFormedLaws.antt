-- A step, and a list of steps, keep a nest well formed.
use mathlib.Core.Path.{◌≡◌, refl, sym, ◌∙◌}
use mathlib.Core.List.Memᴰ
use mathlib.Core.List.{List, [], ◌∷◌}
use Prim.Native.Nat.{ℕ}
use lib.IntN.{ℤ}
use lib.ListN.{length, length-map}
use Rattle.lists.specs.Membership.{All}
use Rattle.lists.proofs.MembershipLaws.{map-all}
use Rattle.model.specs.Ticket.{Loop, Subscript, Access, Statement, Step, Nest}
use Rattle.model.specs.Limits.{loops_after, coefficients_after, subscript_after, access_after, statement_after, nest_after, nest_after_all}
use Rattle.model.specs.Shape.{Fits, FitsAll, WellFormed, Proper}
use Rattle.model.proofs.Steps.LengthLaws.{coefficients-length, loops-length}
use Rattle.model.proofs.Steps.ShapeLaws.{shaped-after}
use Rattle.model.proofs.Steps.RunsLaws.{runs_after}

module _ (t : Step) (N : List Loop) where
  coefficients-fit : (cs : List ℤ) → length cs ≡ length N → length (coefficients_after t cs) ≡ length (loops_after t N)
  coefficients-fit cs e = coefficients-length t cs cs refl ∙ sym (loops-length t N cs (sym e))

  access-fits : (as' : List (List ℕ)) (a : Access) → Fits as' (length N) a → Fits as' (length (loops_after t N)) (access_after t a)
  unfolding access_after subscript_after
  access-fits as' a f = record {
    there = f.there;
    dimensions = length-map a.subscripts (subscript_after t) ∙ f.dimensions;
    wide = map-all (subscript_after t) (λ (s : Subscript). length s.coefficients ≡ length N)
        (λ (s : Subscript). length s.coefficients ≡ length (loops_after t N)) a.subscripts (λ s e. coefficients-fit s.coefficients e)
        f.wide;
  }

  statement-fits : (as' : List (List ℕ)) (s : Statement) → FitsAll as' (length N) s → FitsAll as' (length (loops_after t N)) (statement_after t s)
  unfolding statement_after
  statement-fits as' s f = record {
    writes = map-all (access_after t) (Fits as' (length N)) (Fits as' (length (loops_after t N))) s.writes (access-fits as') f.writes;
    reads = map-all (access_after t) (Fits as' (length N)) (Fits as' (length (loops_after t N))) s.reads (access-fits as') f.reads;
  }

pub well-formed-after : (t : Step) → Proper t → (N : Nest) → WellFormed N → WellFormed (nest_after t N)
unfolding nest_after
well-formed-after t h N f = record {
  shaped = shaped-after t N.loops f.shaped;
  runs = runs_after t h N.loops f.runs;
  fits = map-all (statement_after t) (FitsAll N.arrays (length N.loops)) (FitsAll N.arrays (length (loops_after t N.loops)))
      N.statements (statement-fits t N.loops N.arrays) f.fits;
}

pub well-formed-after-all : (ts : List Step) → All Proper ts → (N : Nest) → WellFormed N → WellFormed (nest_after_all ts N)
unfolding nest_after_all
well-formed-after-all [] h N f = f
well-formed-after-all (t ∷ ts) h N f = well-formed-after-all ts (λ u m. h u (Memᴰ.tail m)) (nest_after t N)
    (well-formed-after t (h t (Memᴰ.head refl)) N f)
