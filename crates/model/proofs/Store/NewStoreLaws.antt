-- What the store asks of a nest's instances: that the elements they name are in it. In order: accesses that stay within bounds; a new program
-- that names the same elements; the two programs end with equal words where the plain machine ends with equal values.
use mathlib.Core.Path.{◌≡◌, sym, ap₂, subst, fun_ext}
use mathlib.Core.List.Memᴰ
use mathlib.Core.List.{List, map}
use Prim.Native.Nat.{ℕ}
use lib.Dec.{T}
use lib.IntN.{ℤ}
use lib.ListN.{length}
use Rattle.lists.specs.Membership.{Mem, All, SameMembers}
use Rattle.lists.proofs.MembershipLaws.{all_get_d}
use Rattle.model.specs.Ticket.{Access, Statement}
use Rattle.model.specs.Grammar.{total}
use Rattle.model.specs.Bounds.{violates, accesses_of}
use Rattle.model.specs.Machine.{Element, element, State, Rules, accesses, body_at, instances, run, exec, originally}
use Rattle.model.specs.Shape.{Fits, FitsAll}
use Rattle.model.specs.Store.{make_whole, perform_on, own_rules}
use Rattle.model.specs.Promises.{Valid}
use Rattle.model.proofs.Machine.InstanceLaws.{instances-mem, mem-instances}
use Rattle.model.proofs.Machine.SameRunLaws.{instance_at, NamesAlike}
use Rattle.model.proofs.Store.PlaceLaws.{element-valid}
use Rattle.model.proofs.Store.StoreLaws.{InStore, run-equal}

-- ---- accesses that stay within bounds

abbrev pub NoneViolates : List (List ℕ) → List (List ℤ) → Statement → Type 0
NoneViolates as' ps st = (p : List ℤ) → Mem p ps → (a : Access) → Mem a (accesses_of st) → T (violates as' p a) → ⊥

elements-valid : (as' : List (List ℕ)) (n : ℕ) (p : List ℤ) (l : List Access) → All (Fits as' n) l → All (λ a. T (violates as' p a) → ⊥) l
    → All (Valid as') (map (element p) l)
elements-valid as' n p l f h e m = let r = Memᴰ.of_map (element p) l m in subst (Valid as') r.2
    (element-valid as' n p r.0 (f r.0 r.1) (h r.0 r.1))

pub instances-in-store : (as' : List (List ℕ)) (n : ℕ) (ss : List Statement) (ps : List (List ℤ)) → All (FitsAll as' n) ss
    → All (NoneViolates as' ps) ss
    → All (InStore as' ss) (instances (length ss) ps)
unfolding accesses body_at accesses_of
instances-in-store as' n ss ps f h i m =
    let r = instances-mem (length ss) ps i m in
    let b = body_at ss i.statement in
    let fb : FitsAll as' n b = all_get_d (FitsAll as' n) ss i.statement _ f r.0 in
    let hb : NoneViolates as' ps b = all_get_d (NoneViolates as' ps) ss i.statement _ h r.0 in
    record {
      reads = elements-valid as' n i.iteration b.reads fb.reads (λ a k. hb i.iteration r.1 a (Memᴰ.append_right b.writes k));
      writes = elements-valid as' n i.iteration b.writes fb.writes (λ a k. hb i.iteration r.1 a (Memᴰ.append_left b.reads k));
    }

-- ---- a new program

module _ (as' : List (List ℕ)) (ss ss' : List Statement) (n : ℕ) (back : List ℤ → List ℤ) (ps qs : List (List ℤ)) where
  new-in-store : All (NamesAlike (accesses ss) (accesses ss') back) qs → SameMembers ps (map back qs) → All (InStore as' ss) (instances n ps)
      → All (InStore as' ss') (instances n qs)
  new-in-store alike e a i m =
      let r = instances-mem n qs i m in
      let old = instance_at i.statement (back i.iteration) in
      let b : InStore as' ss old = a old (mem-instances n ps old r.0 (e.from (back i.iteration) (Memᴰ.map back r.1))) in
      let h = alike i.iteration r.1 in
      record {
        reads = subst (All (Valid as')) (sym (h.reads i.statement)) b.reads;
        writes = subst (All (Valid as'))
            (sym (h.writes i.statement)) b.writes;
      }

  -- a rule of the ticket does not use the iteration
  own-rules-same : ((j : ℕ) → (body_at ss' j).rule ≡ (body_at ss j).rule) → ((j : ℕ) → (body_at ss' j).constant ≡ (body_at ss j).constant)
      → own_rules ss' ≡ originally back (own_rules ss)
  unfolding own_rules originally
  own-rules-same r c = fun_ext λ j. fun_ext λ k. fun_ext λ vs. fun_ext λ it. ap₂ (λ rule constant. make_whole rule constant vs) (r j) (c j)

  pub new-store : All (InStore as' ss) (instances n ps) → All (NamesAlike (accesses ss) (accesses ss') back) qs → SameMembers ps (map back qs)
      → ((j : ℕ) → (body_at ss' j).rule ≡ (body_at ss j).rule) → ((j : ℕ) → (body_at ss' j).constant ≡ (body_at ss j).constant)
      → ((s : State) (x : Element) → exec (accesses ss) (own_rules ss) (instances n ps) s x ≡ exec (accesses ss') (originally back (own_rules ss))
      (instances n qs) s x)
      → (w : List ℕ) → length w ≡ total as' → run (perform_on as' ss) (instances n ps) w ≡ run (perform_on as' ss') (instances n qs) w
  new-store a alike e r c equal = run-equal as' ss ss' (instances n ps) (instances n qs) a (new-in-store alike e a)
      (λ s x. subst (λ (rules : Rules). exec (accesses ss) (own_rules ss) (instances n ps) s x ≡ exec (accesses ss') rules (instances n qs) s x)
      (sym (own-rules-same r c)) (equal s x))
