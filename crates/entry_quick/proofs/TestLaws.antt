-- The access numbers and the test, in the order of the model's `quick`; of any nest, refusal 9 found or passed; of a decoded ticket.
use mathlib.Core.Path.{◌≡◌, refl, sym, ◌∙◌, ap, subst}
use mathlib.Core.Bool.{Bool, true, false, not, cond, ◌&&◌}
use mathlib.Core.List.{List}
use Prim.Native.Nat.{ℕ, ◌-◌, ◌≤◌, ◌<◌}
use native.Mathlib.Omega.{arith}
use lib.Dec.{T, leb, leb→le}
use lib.IntN.{ℤ}
use lib.ListN.{length, get_or}
use Rattle.model.specs.Answer.{Answer, accepted, refused, require, ◌>>◌, ◌>>=◌}
use Rattle.model.specs.Ticket.{Access, Ticket}
use Rattle.model.specs.Bounds.{admitted}
use Rattle.model.specs.Quick.{Independence, apart, perhaps, is_apart, quick_test}
use Rattle.model.specs.Judge.{admit_of}
use Rattle.model.specs.Entries.{all_accesses, access_number, quick_of}
use Rattle.ticket_refusals.specs.declared.Refusal.{Refusal}
use Rattle.ticket_refusals.specs.declared.Refusal.TheVariants.{WordOutOfRange}
use Rattle.ticket_refusals.specs.Refusals.{refusal}
use Rattle.ticket_steps.specs.declared.Steps.{Steps}
use Rattle.ticket_decoding.specs.declared.Decoded.{Decoded}
use Rattle.ticket_decoding.specs.Ticket.{ticket_on, ticket_of, Decodes}
use Rattle.nest_flat.specs.FlatNests.{FlatNest, flat_nest, nest_of, FlatNestIn, no_access, access_of}
use Rattle.std.specs.Prelude.{Result, Ok, Err}
use Rattle.std.specs.Result.{IsErrAnd}
use Rattle.ticket_admission.proofs.CountedTicketLaws.{handed-on}
use Rattle.nest_admission.specs.Admission.{Admits}
use Rattle.ticket_admission.specs.CountedTickets.{Counts}
use Rattle.ticket_admission.proofs.AdmitLaws.{not-counted}
use Rattle.nest_quick_test.specs.Nests.{NestTestIn}
use Rattle.nest_flat.proofs.FlatNestLaws.{access-count}
use Rattle.entry_quick.specs.declared.Meeting.{Meeting}
use Rattle.entry_quick.specs.Answers.{answer_of, tested, test_nest}

-- a refusal that a `?` hands on
pub said : {m : Answer Independence} (x : Result Meeting Refusal) (r : Refusal) → IsErrAnd x (λ e. e ≡ r) → refusal r ≡ m → answer_of x ≡ m
said {m} x r h p = handed-on (λ y. answer_of y ≡ m) x h p

both : (a b : Bool) → (a && b) ≡ true → (a ≡ true) × (b ≡ true)
both true b e = (refl, e)
both false b e = absurd (subst T (sym e) tt)

not-true : (t : Bool) → not t ≡ true → t ≡ false
not-true true e = absurd (subst T (sym e) tt)
not-true false e = refl

not-false : (t : Bool) → not t ≡ false → t ≡ true
not-false true e = refl
not-false false e = absurd (subst T e tt)

-- ---- an access number

number_is : (l : List Access) (n : ℕ) → access_number l n ≡ cond (leb 1 n && leb n (length l)) (accepted (get_or l (n - 1) no_access)) (refused 4 0)
unfolding access_number require ◌>>◌ ◌>>=◌
number_is l n = go (leb 1 n) (leb n (length l))
  where
    go : (x y : Bool) → require x 4 0 >> require y 4 0 >> accepted (get_or l (n - 1) no_access) ≡ cond (x && y) (accepted (get_or l (n - 1) no_access))
        (refused 4 0)
    go true true = refl
    go true false = refl
    go false y = refl

module _ (P : FlatNest) (h : FlatNestIn P) (n : ℕ) (t : Bool) (e : t ≡ (leb 1 n && leb n P.accesses)) where
  tests : access_number (all_accesses (nest_of P)) n ≡ cond t (accepted (access_of (nest_of P) (n - 1))) (refused 4 0)
  tests = number_is (all_accesses (nest_of P)) n
      ∙ ap (λ (x : ℕ). cond (leb 1 n && leb n x) (accepted (access_of (nest_of P) (n - 1))) (refused 4 0)) (access-count P h)
      ∙ ap (λ (x : Bool). cond x (accepted (access_of (nest_of P) (n - 1))) (refused 4 0)) (sym e)

  no-access : not t ≡ true → access_number (all_accesses (nest_of P)) n ≡ refused 4 0
  no-access z = tests ∙ ap (λ (x : Bool). cond x (accepted (access_of (nest_of P) (n - 1))) (refused 4 0)) (not-true t z)

  an-access : not t ≡ false → access_number (all_accesses (nest_of P)) n ≡ accepted (access_of (nest_of P) (n - 1))
  an-access z = tests ∙ ap (λ (x : Bool). cond x (accepted (access_of (nest_of P) (n - 1))) (refused 4 0)) (not-false t z)

  pub access-there : not t ≡ false → (1 ≤ n) × (n - 1 < P.accesses)
  access-there z = let b = both (leb 1 n) (leb n P.accesses) (sym e ∙ not-false t z) in
      let x = leb→le 1 n (subst T (sym b.0) tt) in let y = leb→le n P.accesses (subst T (sym b.1) tt) in (x, omega arith)

-- ---- the test

module _ (P : FlatNest) (h : FlatNestIn P) (u : ℕ) (s : Bool) (e : s ≡ (leb 1 u && leb u P.accesses)) where
  pub no-first : not s ≡ true → (v : ℕ) → refusal (WordOutOfRange 0) ≡ tested (nest_of P) u v
  unfolding tested ◌>>=◌
  no-first z v = sym (ap (◌>>= (λ x. access_number (all_accesses (nest_of P)) v >>= (λ y. accepted (quick_test (nest_of P).loops x y))))
      (no-access P h u s e z))

  module _ (z : not s ≡ false) (v : ℕ) (t : Bool) (f : t ≡ (leb 1 v && leb v P.accesses)) where
    first_passes : tested (nest_of P) u v ≡ (access_number (all_accesses (nest_of P)) v >>=
        (λ y. accepted (quick_test (nest_of P).loops (access_of (nest_of P) (u - 1)) y)))
    unfolding tested ◌>>=◌
    first_passes = ap (◌>>= (λ x. access_number (all_accesses (nest_of P)) v >>= (λ y. accepted (quick_test (nest_of P).loops x y))))
        (an-access P h u s e z)

    pub no_second : not t ≡ true → refusal (WordOutOfRange 0) ≡ tested (nest_of P) u v
    unfolding ◌>>=◌
    no_second w = sym (first_passes ∙ ap (◌>>= (λ y. accepted (quick_test (nest_of P).loops (access_of (nest_of P) (u - 1)) y))) (no-access P h v t f w))

    module _ (w : not t ≡ false) where
      pub test_in : NestTestIn P (u - 1) (v - 1)
      test_in = record { flat-nest = h; first = (access-there P h u s e z).1; second = (access-there P h v t f w).1 }

      module _ (r : Bool) (g : r ≡ is_apart (nest_of P).loops (access_of (nest_of P) (u - 1)) (access_of (nest_of P) (v - 1))) where
        both-pass : tested (nest_of P) u v ≡ accepted (cond r apart perhaps)
        unfolding ◌>>=◌ quick_test
        both-pass = first_passes ∙ ap (◌>>= (λ y. accepted (quick_test (nest_of P).loops (access_of (nest_of P) (u - 1)) y))) (an-access P h v t f w)
            ∙ ap (λ (x : Bool). accepted (cond x apart perhaps)) (sym g)

        pub says-apart : r ≡ true → accepted apart ≡ tested (nest_of P) u v
        says-apart q = sym (both-pass ∙ ap (λ (x : Bool). accepted (cond x apart perhaps)) q)

        pub says-perhaps : r ≡ false → accepted perhaps ≡ tested (nest_of P) u v
        says-perhaps q = sym (both-pass ∙ ap (λ (x : Bool). accepted (cond x apart perhaps)) q)

-- ---- a nest of which refusal 9 was found, or passed

module _ (P : FlatNest) (u v : ℕ) where
  pub found-refused : (r : Refusal) → Admits P (Err r) → refusal r ≡ test_nest (nest_of P) u v
  unfolding test_nest ◌>>◌ ◌>>=◌
  found-refused r h = ap (◌>> tested (nest_of P) u v) h

  pub found_passed : Admits P (Ok tt) → (a : Result Meeting Refusal) → answer_of a ≡ tested (nest_of P) u v → answer_of a ≡ test_nest (nest_of P) u v
  unfolding test_nest ◌>>◌ ◌>>=◌
  found_passed h a g = g ∙ ap (◌>> tested (nest_of P) u v) h

-- ---- a decoded ticket

-- a ticket's test is that of its nest
of-nest : (P : FlatNest) (S : Steps) (u v : ℕ) → test_nest (nest_of P) u v ≡ quick_of (accepted (ticket_on P S)) u v
unfolding test_nest quick_of tested admit_of ticket_on ◌>>◌ ◌>>=◌
of-nest P S u v = go (admitted (nest_of P))
  where
    go : (m : Answer (Unit {0})) → (m >> tested (nest_of P) u v) ≡ ((m >> accepted (ticket_on P S)) >>= (λ T. tested T.nest u v))
    go (accepted x) = refl
    go (refused n p) = refl

module _ (read : Result Decoded Refusal) (l w : List ℤ) (u v : ℕ) where
  pub not_read : (r : Refusal) → read ≡ Err r → refusal r ≡ quick_of (ticket_of read l w) u v
  unfolding quick_of admit_of ◌>>=◌ ◌>>◌
  not_read r e = sym (ap (λ (x : Result Decoded Refusal). quick_of (ticket_of x l w) u v) e)

  pub not_tested : (r : Refusal) → Counts read l w (Err r) → refusal r ≡ quick_of (ticket_of read l w) u v
  unfolding quick_of tested ◌>>=◌
  not_tested r h = ap (◌>>= (λ T. tested T.nest u v)) (sym (not-counted read l w r h))

  pub tested-whole : (d : Decoded) → read ≡ Ok d → (a : Result Meeting Refusal)
      → answer_of a ≡ test_nest (nest_of (flat_nest d.header l w)) u v → answer_of a ≡ quick_of (ticket_of read l w) u v
  tested-whole d e a g = g
      ∙ of-nest (flat_nest d.header l w) d.steps u v
      ∙ ap (λ (x : Result Decoded Refusal). quick_of (ticket_of x l w) u v) (sym e)

-- of the bytes that were decoded
pub of-bytes : (m : Answer Ticket) (d : Result Decoded Refusal) (l w : List ℤ) → Decodes m d l w → (u v : ℕ) (a : Result Meeting Refusal)
    → answer_of a ≡ quick_of (ticket_of d l w) u v → answer_of a ≡ quick_of m u v
of-bytes m d l w h u v a g = g ∙ ap (λ (x : Answer Ticket). quick_of x u v) h.same
