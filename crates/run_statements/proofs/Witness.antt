-- A real flat nest meets what `run_at_points` asks at its one point: one loop with the one index 1, an array of one element, and a statement that
-- adds 1 to it.
use Rattle.std.proofs.Common.{◌≡◌, ℕ, zero, suc, ◌+◌, ◌*◌, ◌<◌, List, [], ◌∷◌, get_or, replicate, ℤ, pos, sym, refl, ap, ◌∙◌, ap₂, arith}
use lib.ListN.{length-replicate, get_or-replicate}
use Rattle.lists.specs.Parts.{rows}
use Rattle.integers.specs.Affine.{affine, dot}
use Rattle.model.specs.Ticket.{Access}
use Rattle.model.specs.Grammar.{elements, total, extents, most_statements}
use Rattle.model.specs.Bounds.{subscript_at}
use Rattle.model.specs.Machine.{element}
use Rattle.model.specs.Store.{base, place_from, place_of}
use Rattle.nest_points.proofs.Witness.{counter, counter-in}
use Rattle.nest_flat.specs.Layout.{extents_at, arrays_from, arrays_of, form_at, forms_from, access_at}
use Rattle.nest_flat.specs.FlatNests.{nest_of, extents_in, accessed_in, words_in}
use Rattle.nest_flat.proofs.FlatNestLaws.{access-is}
use Rattle.run_statements.specs.Runs.{RunIn}

point-is : (x : ℕ) → x ≡ 0 → get_or (rows 1 1 (pos 1 ∷ [])) x [] ≡ pos 1 ∷ []
unfolding rows
point-is x e = ap (λ (j : ℕ). get_or ((pos 1 ∷ []) ∷ []) j []) e

place_is : (k : ℕ) → k < 2 → place_of (nest_of counter).arrays (element (pos 1 ∷ [])
    (access_at (words_in counter) (accessed_in counter) (extents_in counter) 1 k)) ≡ 0
unfolding nest_of place_of base place_from extents element access_at forms_from form_at subscript_at affine dot arrays_of arrays_from extents_at
place_is zero h = refl
place_is (suc zero) h = refl
place_is (suc (suc k)) h = absurd (omega arith)

number_is : (k x : ℕ) → k < 2 → x < 1 → get_or {A = ℕ} (replicate 2 0) (k * 1 + x) 0 ≡ 0
number_is k x h g = get_or-replicate {A = ℕ} 2 (k * 1 + x) 0 0 (omega arith)

pub counter-runs : RunIn counter (pos 1 ∷ []) 1 (replicate 2 0) 1
unfolding nest_of total elements arrays_of arrays_from extents_at
counter-runs = record {
  flat-nest = counter-in;
  few = omega arith;
  places = record {
    room = let l = length-replicate {A = ℕ} 2 0 in omega arith;
    are = λ k x h g. number_is k x h g ∙ sym (ap₂ (λ (p : List ℤ) (u : Access). place_of (nest_of counter).arrays (element p u))
        (point-is x (omega arith)) (access-is counter counter-in k h) ∙ place_is k h);
    small = λ k x h g. let e = number_is k x h g in omega arith;
  };
  words = λ i h. let c = get_or-replicate {A = ℕ} most_statements i 1 0 (omega arith) in omega arith;
  whole = refl;
}
