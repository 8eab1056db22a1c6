-- Refusal 9 shows its reason, and acceptance shows that there is none: subscripts and extents first, then the accesses of a statement at all
-- points, then the statements of a body, both ways.
use mathlib.Core.Path.{◌≡◌, refl}
use mathlib.Core.Bool.{Bool, false, not, ◌||◌}
use mathlib.Core.Logic.{inl, inr, ⊎_elim}
use mathlib.Core.List.{List, [], ◌∷◌, ◌++◌, map}
use Prim.Native.Nat.{ℕ, zero, suc, ◌+◌, ◌<◌}
use native.Mathlib.Omega.{arith}
use lib.Dec.{T}
use lib.IntN.{ℤ, pos}
use lib.Signed.{lt_z, le_z}
use lib.ListN.{length, get_or, length-map}
use Rattle.integers.proofs.RingLaws.{≤ℤ-or-<ℤ}
use Rattle.integers.proofs.RangeLaws.{test-lt, test-le, lt_test, le_test}
use Rattle.lists.specs.Membership.{Mem, All}
use Rattle.lists.specs.Tests.{any}
use Rattle.lists.proofs.TestLaws.{true-T, T_true, false-not-T, not-T-false, or_cases, or_left, or_right, any_some, some-any}
use Rattle.model.specs.Answer.{accepted, refused, require, ◌>>◌}
use Rattle.model.specs.Ticket.{Access, Statement}
use Rattle.model.specs.Grammar.{extents}
use Rattle.model.specs.Bounds.{subscript_at, outside, violates, accesses_of, in_arrays}
use Rattle.model.specs.Reasons.{FirstBad, Off, On, OffAt, Violates, Stays}
use Rattle.model.proofs.Answers.CheckLaws.{first_bad-map, checks-accepted, checks-refused, accepted-checks, refused-checks}

-- ---- subscripts and extents

pub outside-off : (ns : List ℕ) (xs : List ℤ) → T (outside ns xs) → OffAt ns xs
unfolding outside
outside-off [] xs h = absurd h
outside-off (n ∷ ns) [] h = absurd h
outside-off (n ∷ ns) (x ∷ xs) h = ⊎_elim (λ g. record { dimension = 0; extent = omega arith; subscript = omega arith; off = here g })
    (λ g. let r = outside-off ns xs g in let a = r.extent in let b = r.subscript
    in record { dimension = suc r.dimension; extent = omega arith; subscript = omega arith; off = r.off })
    (or_cases (lt_z x (pos 0) || le_z (pos n) x) (outside ns xs) h)
  where
    here : T (lt_z x (pos 0) || le_z (pos n) x) → Off n x
    here g = ⊎_elim (λ t. inl (test-lt {a = x} {b = pos 0} (T_true (lt_z x (pos 0)) t)))
        (λ t. inr (test-le {a = pos n} {b = x} (T_true (le_z (pos n) x) t))) (or_cases (lt_z x (pos 0)) (le_z (pos n) x) g)

pub off-outside : (ns : List ℕ) (xs : List ℤ) → OffAt ns xs → T (outside ns xs)
unfolding outside
off-outside ns xs r = go ns xs r.dimension r.extent r.subscript r.off
  where
    here : (n : ℕ) (x : ℤ) → Off n x → T (lt_z x (pos 0) || le_z (pos n) x)
    here n x (inl h) = or_left (lt_z x (pos 0)) (le_z (pos n) x) (true-T (lt_z x (pos 0)) (lt_test {a = x} {b = pos 0} h))
    here n x (inr h) = or_right (lt_z x (pos 0)) (le_z (pos n) x) (true-T (le_z (pos n) x) (le_test {a = pos n} {b = x} h))

    go : (ns : List ℕ) (xs : List ℤ) (i : ℕ) → i < length ns → i < length xs → Off (get_or ns i 0) (get_or xs i (pos 0)) → T (outside ns xs)
    go [] xs i a b o = absurd (omega arith)
    go (n ∷ ns) [] i a b o = absurd (omega arith)
    go (n ∷ ns) (x ∷ xs) zero a b o = or_left (lt_z x (pos 0) || le_z (pos n) x) (outside ns xs) (here n x o)
    go (n ∷ ns) (x ∷ xs) (suc i) a b o = or_right (lt_z x (pos 0) || le_z (pos n) x) (outside ns xs) (go ns xs i (omega arith) (omega arith) o)

-- no subscript is off
pub inside_on : (ns : List ℕ) (xs : List ℤ) → outside ns xs ≡ false → (i : ℕ) → i < length ns → i < length xs → On (get_or ns i 0) (get_or xs i (pos 0))
inside_on ns xs e i a b =
    let never : Off (get_or ns i 0) (get_or xs i (pos 0)) → ⊥ = λ o. false-not-T (outside ns xs) e
    (off-outside ns xs (record { dimension = i; extent = a; subscript = b; off = o })) in (
      ⊎_elim (λ h. h) (λ h. absurd (never (inl h))) (≤ℤ-or-<ℤ (pos 0) (get_or xs i (pos 0))),
      ⊎_elim (λ h. absurd (never (inr h))) (λ h. h)
          (≤ℤ-or-<ℤ (pos (get_or ns i 0)) (get_or xs i (pos 0))),
    )

-- ---- the accesses of a statement, at all points

module _ (as' : List (List ℕ)) (ps : List (List ℤ)) where
  abbrev some_violates : Statement → Bool
  some_violates s = any (λ p. any (violates as' p) (accesses_of s)) ps

  test-violates : (s : Statement) → T (some_violates s) → Violates as' ps s
  unfolding violates
  test-violates s h =
      let r = any_some (λ p. any (violates as' p) (accesses_of s)) ps h in
      let q = any_some (violates as' r.0) (accesses_of s) r.2 in
      record {
        point = r.0;
        reached = r.1;
        access = q.0;
        of = q.1;
        off = outside-off (extents as' q.0.array)
            (map (subscript_at r.0) q.0.subscripts) q.2;
      }

  violates-test : (s : Statement) → Violates as' ps s → T (some_violates s)
  unfolding violates
  violates-test s r = some-any (λ p. any (violates as' p) (accesses_of s)) ps r.reached
      (some-any (violates as' r.point) (accesses_of s) r.of (off-outside (extents as' r.access.array)
      (map (subscript_at r.point) r.access.subscripts) r.off))

  never-violates : (s : Statement) → (T (some_violates s) → ⊥) → (p : List ℤ) → Mem p ps → (a : Access) → Mem a (accesses_of s)
      → violates as' p a ≡ false
  never-violates s h p i a j = not-T-false (violates as' p a) (λ t. h (some-any (λ p. any (violates as' p) (accesses_of s)) ps i
      (some-any (violates as' p) (accesses_of s) j t)))

  test-stays : (s : Statement) → (T (some_violates s) → ⊥) → Stays as' ps s
  unfolding violates
  test-stays s h p i a j d g l = inside_on (extents as' a.array) (map (subscript_at p) a.subscripts) (never-violates s h p i a j) d g
      (rw length-map l)

  -- ---- the statements of a body, from number k on

  checks : (k : ℕ) (s : Statement) (ss : List Statement) → in_arrays as' ps k (s ∷ ss) ≡ require (not (some_violates s)) 9 k >> in_arrays as' ps
      (suc k) ss
  unfolding in_arrays
  checks k s ss = refl

  ends : (k : ℕ) → in_arrays as' ps k [] ≡ accepted tt
  unfolding in_arrays
  ends k = refl

  -- as tests, then subscript by subscript
  pub arrays-inside : (k : ℕ) (ss : List Statement) → in_arrays as' ps k ss ≡ accepted tt
      → (s : Statement) → Mem s ss → (p : List ℤ) → Mem p ps → (a : Access) → Mem a (accesses_of s) → violates as' p a ≡ false
  arrays-inside k ss e s m = never-violates s (checks-accepted 9 some_violates (in_arrays as' ps) ends checks k ss e s m)

  pub arrays-accepted : (k : ℕ) (ss : List Statement) → in_arrays as' ps k ss ≡ accepted tt → All (Stays as' ps) ss
  arrays-accepted k ss e s m = test-stays s (checks-accepted 9 some_violates (in_arrays as' ps) ends checks k ss e s m)

  -- the first statement with an access out of bounds
  pub arrays-refused : (k : ℕ) (ss : List Statement) {n p : ℕ} → in_arrays as' ps k ss ≡ refused n p → (n ≡ 9)
      × FirstBad (Violates as' ps) (Stays as' ps) k ss p
  arrays-refused k ss e = let r = checks-refused 9 some_violates (in_arrays as' ps) ends checks k ss e in
      (r.0, first_bad-map (Violates as' ps) (Stays as' ps) test-violates test-stays r.1)

  pub accepted-arrays : (k : ℕ) (ss : List Statement) → All (λ s. Violates as' ps s → ⊥) ss → in_arrays as' ps k ss ≡ accepted tt
  accepted-arrays k ss h = accepted-checks 9 some_violates (in_arrays as' ps) ends checks k ss (λ s m t. h s m (test-violates s t))

  pub refused-arrays : (k : ℕ) (front : List Statement) (s : Statement) (back : List Statement)
      → All (λ t. Violates as' ps t → ⊥) front → Violates as' ps s → in_arrays as' ps k (front ++ s ∷ back) ≡ refused 9 (k + length front)
  refused-arrays k front s back h g = refused-checks 9 some_violates (in_arrays as' ps) ends checks k front s back
      (λ u m t. h u m (test-violates u t)) (violates-test s g)
