-- The accesses of statements in ticket order: what each is, and that none is missing. Then the flat data that describe them, by number.
use mathlib.Core.Path.{◌≡◌, sym, ap, ◌∙◌, subst}
use mathlib.Core.Bool.{Bool, true, false}
use mathlib.Core.Logic.{⊎_elim}
use mathlib.Core.List.Memᴰ
use mathlib.Core.List.{List, [], ◌∷◌, ◌++◌, map}
use Prim.Native.Nat.{ℕ, zero, suc, ◌+◌, ◌<◌}
use native.Mathlib.Nat.{add-zero, zero-add, add-suc, suc-add}
use native.Mathlib.Omega.{arith}
use lib.ListN.{length, get_or, length-map, get_or-map}
use Rattle.lists.specs.Membership.{Mem}
use Rattle.lists.proofs.MembershipLaws.{get_d-mem, mem-get_d}
use Rattle.model.specs.Ticket.{Access, Statement}
use Rattle.model.specs.Machine.{body_at}
use Rattle.dependence_search.specs.Flat.{Flat, statement_of, writes_at, Use, use·of, uses_from, uses, no_use, use_at, Describes}

-- the accesses that write, or those that read
abbrev pub side : Bool → Statement → List Access
side true s = s.writes
side false s = s.reads

-- ---- members

pub record UseOf (k : ℕ) (ss : List Statement) (u : Use) : Type 0 where
  pub place : ℕ
  pub there : place < length ss
  pub statement : u.statement ≡ k + place
  pub access : Mem u.access (side u.writes (body_at ss place))

pub uses-of : (k : ℕ) (ss : List Statement) {u : Use} → Mem u (uses_from k ss) → UseOf k ss u
unfolding uses_from body_at
uses-of k [] m = absurd (Memᴰ.not-nil m)
uses-of k (s ∷ ss) {u} m = ⊎_elim
    (λ h. ⊎_elim (λ g. here true (Memᴰ.of_map (use·of k true) s.writes g)) (λ g. here false (Memᴰ.of_map (use·of k false) s.reads g))
    (Memᴰ.append_cases (map (use·of k true) s.writes) h))
    (λ h. later (uses-of (suc k) ss h)) (Memᴰ.append_cases (map (use·of k true) s.writes ++ map (use·of k false) s.reads) m)
  where
    here : (w : Bool) → (a : Access) × Mem a (side w s) × (use·of k w a ≡ u) → UseOf k (s ∷ ss) u
    here w r = subst (UseOf k (s ∷ ss)) r.2 (record { place = 0; there = omega arith; statement = sym (add-zero k); access = r.1 })

    later : UseOf (suc k) ss u → UseOf k (s ∷ ss) u
    later r = let t = r.there in record {
      place = suc r.place;
      there = omega arith;
      statement = r.statement ∙ suc-add k r.place
          ∙ sym (add-suc k r.place);
      access = r.access;
    }

pub of-uses : (k : ℕ) (ss : List Statement) (i : ℕ) (w : Bool) {a : Access} → i < length ss → Mem a (side w (body_at ss i))
    → Mem (use·of (k + i) w a) (uses_from k ss)
unfolding uses_from body_at
of-uses k [] i w h m = absurd (omega arith)
of-uses k (s ∷ ss) zero true {a} h m = Memᴰ.append_left (uses_from (suc k) ss) (Memᴰ.append_left (map (use·of k false) s.reads)
    (subst (λ n. Mem (use·of n true a) (map (use·of k true) s.writes)) (sym (add-zero k)) (Memᴰ.map (use·of k true) m)))
of-uses k (s ∷ ss) zero false {a} h m = Memᴰ.append_left (uses_from (suc k) ss) (Memᴰ.append_right (map (use·of k true) s.writes)
    (subst (λ n. Mem (use·of n false a) (map (use·of k false) s.reads)) (sym (add-zero k)) (Memᴰ.map (use·of k false) m)))
of-uses k (s ∷ ss) (suc i) w {a} h m = Memᴰ.append_right (map (use·of k true) s.writes ++ map (use·of k false) s.reads)
    (subst (λ n. Mem (use·of n w a) (uses_from (suc k) ss)) (suc-add k i ∙ sym (add-suc k i)) (of-uses (suc k) ss i w (omega arith) m))

-- ---- the flat data

module _ (ss : List Statement) (F : Flat) (d : Describes ss F) where
  pub as_many : length F.statements ≡ length (uses ss)
  as_many = ap length d.statements ∙ length-map (uses ss) (λ u. u.statement)

  pub statement-is : (a : ℕ) → statement_of F a ≡ (use_at ss a).statement
  unfolding use_at
  statement-is a = ap (λ l. get_or l a 0) d.statements ∙ get_or-map (λ u. u.statement) (uses ss) a no_use

  pub writes-is : (a : ℕ) → writes_at F a ≡ (use_at ss a).writes
  unfolding use_at
  writes-is a = ap (λ l. get_or l a false) d.writes ∙ get_or-map (λ u. u.writes) (uses ss) a no_use

  -- access a is one of its statement's
  pub access-of : (a : ℕ) → a < length F.statements → Mem (use_at ss a).access (side (writes_at F a) (body_at ss (statement_of F a)))
  unfolding use_at
  access-of a h =
      let r = uses-of 0 ss (get_d-mem (uses ss) a no_use (let e = as_many in omega arith)) in
      let e : statement_of F a ≡ r.place = statement-is a ∙ r.statement ∙ zero-add r.place in
      subst (λ w. Mem (use_at ss a).access (side w (body_at ss (statement_of F a)))) (sym (writes-is a))
      (subst (λ i. Mem (use_at ss a).access (side (use_at ss a).writes (body_at ss i))) (sym e) r.access)

  -- an access of a statement has a number
  pub of-access : (i : ℕ) (w : Bool) {c : Access} → i < length ss → Mem c (side w (body_at ss i))
      → (a : ℕ) × (a < length F.statements) × (statement_of F a ≡ i) × (writes_at F a ≡ w) × ((use_at ss a).access ≡ c)
  unfolding use_at
  of-access i w {c} h m = let r = mem-get_d no_use (of-uses 0 ss i w h m) in let l = r.1 in let e = as_many in (
    r.0,
    omega arith,
    statement-is r.0 ∙ ap (λ u. u.statement) r.2 ∙ zero-add i,
    writes-is r.0
        ∙ ap (λ u. u.writes) r.2,
    ap (λ u. u.access) r.2,
  )
