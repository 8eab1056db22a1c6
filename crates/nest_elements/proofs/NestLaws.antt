-- Refusal 9 and the numbers of the accesses of a flat nest are those of the nest that it stands for.
use mathlib.Core.Path.{◌≡◌, sym, ◌∙◌, ap, subst}
use mathlib.Core.Bool.{false}
use mathlib.Core.List.{List, []}
use Prim.Native.Nat.{ℕ, ◌+◌, ◌*◌, ◌<◌}
use native.Mathlib.Omega.{arith}
use lib.Dec.{T}
use lib.IntN.{ℤ}
use lib.ListN.{length, get_or}
use Rattle.std.specs.Prelude.{Option}
use Rattle.lists.specs.Parts.{rows}
use Rattle.lists.proofs.PartLaws.{get_d_map, length-rows}
use Rattle.lists.proofs.MembershipLaws.{get_d-mem}
use Rattle.model.specs.Ticket.{Access}
use Rattle.model.specs.Bounds.{in_arrays, violates}
use Rattle.model.specs.Machine.{element}
use Rattle.model.specs.Store.{place_of}
use Rattle.model.specs.Promises.{Valid}
use Rattle.model.proofs.Store.PlaceLaws.{element-valid, place-below}
use Rattle.nest_elements.specs.Places as Places
use Rattle.nest_elements.specs.Places.{place_at, places_of}
use Rattle.nest_elements.proofs.ViolationLaws.{in_bodies, in-bodies}
use Rattle.nest_elements.proofs.FindLaws.{SearchIn, Searched}
use Rattle.nest_elements.proofs.AdmittedLaws.{admitted-inside}
use Rattle.nest_elements.proofs.NumberLaws.{numbered, same_out, stored-place}
use Rattle.nest_flat.specs.FlatNests.{FlatNest, extents_in, sizes_in, accessed_in, words_in, nest_of, FlatNestIn, access_of}
use Rattle.nest_elements.specs.Nests.{NestViolationIn, NestSearched, NestNumberIn, NumbersAre}
use Rattle.nest_flat.proofs.FlatNestLaws.{bodies-are, access-is, access-fits, accessed-count, sizes-count}

module _ (P : FlatNest) where
  -- ---- refusal 9

  pub search-in : (points : List ℤ) (n : ℕ) → NestViolationIn P points n
      → SearchIn (words_in P) (accessed_in P) (extents_in P) (sizes_in P) points P.depth n
  search-in points n h =
      let s = h.flat-nest in let l = accessed-count P s in let k = sizes-count P s in let f = s.few-statements in let e = s.all-accesses in
      record { accesses = s.accesses-ok; statements = omega arith; each = omega arith; stored = h.points-are.stored }

  pub search-out : (points : List ℤ) (n : ℕ) (r : Option ℕ) → NestViolationIn P points n
      → Searched (words_in P) (accessed_in P) (extents_in P) (sizes_in P) points P.depth n r → NestSearched P r
  unfolding nest_of
  search-out points n r h g = g ∙ ap (in_bodies (nest_of P).arrays (rows P.depth n points) 1) (sym (bodies-are P h.flat-nest))
      ∙ sym (in-bodies (nest_of P).arrays (rows P.depth n points) 1 (nest_of P).statements)
      ∙ ap (λ (ps : List (List ℤ)). in_arrays (nest_of P).arrays ps 1 (nest_of P).statements) h.points-are.are

  -- ---- places

  module _ (points : List ℤ) (n room : ℕ) (h : NestNumberIn P points n room) where
    abbrev s : FlatNestIn P
    s = h.flat-nest

    abbrev at : ℕ → List ℤ
    at x = get_or (rows P.depth n points) x []

    pub number_in : Places.NumberIn (words_in P) (accessed_in P) (extents_in P) points P.depth n room
    unfolding nest_of
    number_in = let l = accessed-count P s in let e = s.all-accesses in let f = h.fits in record {
      accesses = s.accesses-ok;
      stored = h.stored;
      inside = admitted-inside (words_in P) (accessed_in P) (extents_in P) P.depth (rows P.depth n points) (sizes_in P) (nest_of P).statements
          (bodies-are P s) (omega arith) h.inside;
      fits = s.fits;
      space = omega (arith, ap (λ (m : ℕ). m * n) l);
    }

    keeps : (k x : ℕ) → k < P.accesses → x < n → violates (nest_of P).arrays (at x) (access_of (nest_of P) k) ≡ false
    unfolding nest_of
    keeps k x a b =
        let l = accessed-count P s in let r = length-rows P.depth n points in
        ap (violates (nest_of P).arrays (at x)) (access-is P s k a)
        ∙ number_in.inside k (omega arith) (at x) (get_d-mem (rows P.depth n points) x [] (omega arith))

    -- every access names an element of its array at every point
    pub access-valid : (k x : ℕ) → k < P.accesses → x < n → Valid (nest_of P).arrays (element (at x) (access_of (nest_of P) k))
    access-valid k x a b = element-valid (nest_of P).arrays (length (nest_of P).loops) (at x) (access_of (nest_of P) k)
        (access-fits P s h.formed k a) (λ t. subst T (keeps k x a b) t)

    pub number-out : (o e : List ℕ) → length o ≡ room → e ≡ numbered n (places_of (words_in P) (accessed_in P) (extents_in P) P.depth
        (rows P.depth n points)) (length (accessed_in P)) o → NumbersAre P points n e
    unfolding nest_of places_of place_at
    number-out o e l q =
        let c = accessed-count P s in let f = h.fits in let m = same_out (words_in P) (accessed_in P) (extents_in P) points P.depth n o numbers-in
        (length (accessed_in P)) (omega arith) e q in
        record {
          room = omega (arith, ap (λ (m : ℕ). m * n) c);
          are = place-at;
          small = λ k x a b. let v = place-below (nest_of P).arrays _
              (access-valid k x a b) in let z = place-at k x a b in omega arith;
        }
      where
        numbers-in : Places.NumberIn (words_in P) (accessed_in P) (extents_in P) points P.depth n (length o)
        numbers-in = subst (Places.NumberIn (words_in P) (accessed_in P) (extents_in P) points P.depth n) (sym l) number_in

        place-at : (k x : ℕ) → k < P.accesses → x < n → get_or e (k * n + x) 0 ≡ place_of (nest_of P).arrays (element (at x) (access_of (nest_of P) k))
        place-at k x a b =
            let c = accessed-count P s in let r = length-rows P.depth n points in
            stored-place (words_in P) (accessed_in P) (extents_in P) points P.depth n o numbers-in e q k x (omega arith) b
            ∙ get_d_map (place_at (words_in P) (accessed_in P) (extents_in P) P.depth k) (rows P.depth n points) x [] 0 (omega arith)
            ∙ ap (λ (u : Access). place_of (nest_of P).arrays (element (at x) u)) (sym (access-is P s k a))
