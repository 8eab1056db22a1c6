-- A step and its stages: the nest after the step is the nest after all its stages, and so undone; a step that is there has a stage, so the final
-- nest is one that passed.
use mathlib.Core.Path.{◌≡◌, refl, sym, ap, ap₂, ◌∙◌, subst}
use mathlib.Core.List.Memᴰ
use mathlib.Core.List.{List, [], ◌∷◌, ◌++◌, map, flat_map, map-id, map-map, map-eq-nil_iff, cons≢nil}
use Prim.Native.Nat.{ℕ, suc, ◌<◌}
use lib.IntN.{ℤ}
use Rattle.integers.specs.Sign.{Sign}
use Rattle.lists.specs.Membership.{All}
use Rattle.lists.specs.Place.{under, swapped, swap_all, swap_back}
use Rattle.lists.proofs.MembershipLaws.{map_same, all_nil, all_cons, all_append}
use Rattle.model.specs.Ticket.{Loop, Subscript, Access, Statement, Step, exchange, reversal, skew, section, circulation, Nest}
use Rattle.model.specs.Grammar.{depth_after}
use Rattle.model.specs.Steps.{chain, undo, undo_all}
use Rattle.model.specs.Limits.{exchange_at, exchange_all, loops_after, coefficients_after, subscript_after, access_after, statement_after, nest_after}
use Rattle.model.specs.Limits.{nest_after_all}
use Rattle.model.specs.Ranges.{StepThere, StepsThere}
use Rattle.model.specs.Judge.{stages, expanded}
use Rattle.model.proofs.Steps.ChainLaws.{chain-some, chain-below}
use Rattle.model.specs.Promises.{AtOnce}
use Rattle.model.specs.Reasons.{FewLimits, AllSmall, StagesPass, StepsPass}
use Rattle.model.proofs.Verdict.JudgeStepLaws.{stages-final}

-- ---- a nest changed in its loops and its coefficients

unfoldable subscript_by : (List ℤ → List ℤ) → Subscript → Subscript
subscript_by g s = record { constant = s.constant; coefficients = g s.coefficients }

unfoldable access_by : (List ℤ → List ℤ) → Access → Access
access_by g a = record { array = a.array; subscripts = map (subscript_by g) a.subscripts }

unfoldable statement_by : (List ℤ → List ℤ) → Statement → Statement
statement_by g s = record { rule = s.rule; constant = s.constant; writes = map (access_by g) s.writes; reads = map (access_by g) s.reads }

unfoldable nest_by : (List Loop → List Loop) → (List ℤ → List ℤ) → Nest → Nest
nest_by F g N = record { loops = F N.loops; arrays = N.arrays; statements = map (statement_by g) N.statements }

after-by : (t : Step) (N : Nest) → nest_after t N ≡ nest_by (loops_after t) (coefficients_after t) N
unfolding nest_after statement_after access_after subscript_after nest_by statement_by access_by subscript_by
after-by t N = refl

module _ (h g : List ℤ → List ℤ) where
  access-twice : (a : Access) → access_by h (access_by g a) ≡ access_by (λ c. h (g c)) a
  unfolding access_by subscript_by
  access-twice a = ap (λ ss. record { array = a.array; subscripts = ss }) (map-map (subscript_by h) (subscript_by g) a.subscripts)

  accesses-twice : (as' : List Access) → map (access_by h) (map (access_by g) as') ≡ map (access_by (λ c. h (g c))) as'
  accesses-twice as' = map-map (access_by h) (access_by g) as'
      ∙ map_same (λ a. access_by h (access_by g a)) (access_by (λ c. h (g c))) as' (λ a _. access-twice a)

  statement-twice : (s : Statement) → statement_by h (statement_by g s) ≡ statement_by (λ c. h (g c)) s
  unfolding statement_by
  statement-twice s = ap₂ (λ ws rs. record { rule = s.rule; constant = s.constant; writes = ws; reads = rs }) (accesses-twice s.writes)
      (accesses-twice s.reads)

  by-twice : (G F : List Loop → List Loop) (N : Nest) → nest_by G h (nest_by F g N) ≡ nest_by (λ L. G (F L)) (λ c. h (g c)) N
  unfolding nest_by
  by-twice G F N = ap (λ ss. record { loops = G (F N.loops); arrays = N.arrays; statements = ss })
      (map-map (statement_by h) (statement_by g) N.statements
      ∙ map_same (λ s. statement_by h (statement_by g s)) (statement_by (λ c. h (g c))) N.statements (λ s _. statement-twice s))

access-none : (a : Access) → access_by (λ c. c) a ≡ a
unfolding access_by subscript_by
access-none a = ap (λ ss. record { array = a.array; subscripts = ss }) (map-id a.subscripts)

accesses-none : (as' : List Access) → map (access_by (λ c. c)) as' ≡ as'
accesses-none as' = map_same (access_by (λ c. c)) (λ a. a) as' (λ a _. access-none a) ∙ map-id as'

statement-none : (s : Statement) → statement_by (λ c. c) s ≡ s
unfolding statement_by
statement-none s = ap₂ (λ ws rs. record { rule = s.rule; constant = s.constant; writes = ws; reads = rs }) (accesses-none s.writes)
    (accesses-none s.reads)

by-none : (N : Nest) → nest_by (λ L. L) (λ c. c) N ≡ N
unfolding nest_by
by-none N = ap (λ ss. record { loops = N.loops; arrays = N.arrays; statements = ss })
    (map_same (statement_by (λ c. c)) (λ s. s) N.statements (λ s _. statement-none s) ∙ map-id N.statements)

-- ---- a step at once, and stage by stage

exchanges-nest : (ks : List ℕ) (N : Nest) → nest_after_all (map exchange ks) N ≡ nest_by (exchange_all ks) (swap_all ks) N
unfolding nest_after_all exchange_all swap_all
exchanges-nest [] N = sym (by-none N)
exchanges-nest (k ∷ ks) N =
    exchanges-nest ks (nest_after (exchange k) N)
    ∙ ap (nest_by (exchange_all ks) (swap_all ks)) (after-by (exchange k) N)
    ∙ unfold loops_after coefficients_after in by-twice (swap_all ks) (under k swapped) (exchange_all ks) (under k (exchange_at k)) N

pub after-stages : (t : Step) (N : Nest) → nest_after t N ≡ nest_after_all (stages t) N
unfolding stages nest_after_all
after-stages (exchange a) N = refl
after-stages (reversal a) N = refl
after-stages (skew a d c) N = refl
after-stages (section a w) N = refl
after-stages (circulation a b) N = after-by (circulation a b) N ∙ unfold loops_after coefficients_after in sym (exchanges-nest (chain a b) N)

pub after-append : (ts us : List Step) (N : Nest) → nest_after_all (ts ++ us) N ≡ nest_after_all us (nest_after_all ts N)
unfolding nest_after_all
after-append [] us N = refl
after-append (t ∷ ts) us N = after-append ts us (nest_after t N)

pub expanded-nest : (ts : List Step) (N : Nest) → nest_after_all (expanded ts) N ≡ nest_after_all ts N
unfolding expanded flat_map nest_after_all
expanded-nest [] N = refl
expanded-nest (t ∷ ts) N = after-append (stages t) (expanded ts) N ∙ ap (nest_after_all (expanded ts)) (sym (after-stages t N))
    ∙ expanded-nest ts (nest_after t N)

-- ---- no circulation is left

stages-at-once : (t : Step) → All AtOnce (stages t)
unfolding stages
stages-at-once (exchange a) = all_cons AtOnce tt (all_nil AtOnce)
stages-at-once (reversal a) = all_cons AtOnce tt (all_nil AtOnce)
stages-at-once (skew a d c) = all_cons AtOnce tt (all_nil AtOnce)
stages-at-once (section a w) = all_cons AtOnce tt (all_nil AtOnce)
stages-at-once (circulation a b) = λ t m. let r = Memᴰ.of_map exchange (chain a b) m in subst AtOnce r.2 tt

pub expanded-at-once : (ts : List Step) → All AtOnce (expanded ts)
unfolding expanded flat_map
expanded-at-once [] = all_nil AtOnce
expanded-at-once (t ∷ ts) = all_append AtOnce (stages t) (expanded ts) (stages-at-once t) (expanded-at-once ts)

-- ---- undone

undo-append : (ts us : List Step) (p : List ℤ) → undo_all (ts ++ us) p ≡ undo_all ts (undo_all us p)
unfolding undo_all
undo-append [] us p = refl
undo-append (t ∷ ts) us p = ap (undo t) (undo-append ts us p)

exchanges-undo : (ks : List ℕ) (p : List ℤ) → undo_all (map exchange ks) p ≡ swap_back ks p
unfolding undo_all undo swap_back
exchanges-undo [] p = refl
exchanges-undo (k ∷ ks) p = ap (under k swapped) (exchanges-undo ks p)

undo-stages : (t : Step) (p : List ℤ) → undo_all (stages t) p ≡ undo t p
unfolding stages undo_all
undo-stages (exchange a) p = refl
undo-stages (reversal a) p = refl
undo-stages (skew a d c) p = refl
undo-stages (section a w) p = refl
undo-stages (circulation a b) p = unfold undo in exchanges-undo (chain a b) p

pub expanded-undo : (ts : List Step) (p : List ℤ) → undo_all (expanded ts) p ≡ undo_all ts p
unfolding expanded flat_map undo_all
expanded-undo [] p = refl
expanded-undo (t ∷ ts) p = undo-append (stages t) (expanded ts) p ∙ undo-stages t (undo_all (expanded ts) p) ∙ ap (undo t) (expanded-undo ts p)

-- ---- the loops that stages name are there

-- the number of loops after all of them
unfoldable pub depth_after_all : List Step → ℕ → ℕ
depth_after_all [] m = m
depth_after_all (t ∷ ts) m = depth_after_all ts (depth_after t m)

exchanges-depth : (ks : List ℕ) (m : ℕ) → depth_after_all (map exchange ks) m ≡ m
unfolding depth_after_all depth_after
exchanges-depth [] m = refl
exchanges-depth (k ∷ ks) m = exchanges-depth ks m

pub stages-depth : (t : Step) (m : ℕ) → depth_after_all (stages t) m ≡ depth_after t m
unfolding depth_after_all stages depth_after
stages-depth (exchange a) m = refl
stages-depth (reversal a) m = refl
stages-depth (skew a d c) m = refl
stages-depth (section a w) m = refl
stages-depth (circulation a b) m = exchanges-depth (chain a b) m

exchanges-there : (m : ℕ) (ks : List ℕ) → All (λ k. suc k < m) ks → StepsThere m (map exchange ks)
unfolding depth_after
exchanges-there m [] h = tt
exchanges-there m (k ∷ ks) h = (h k (Memᴰ.head refl), exchanges-there m ks (λ x i. h x (Memᴰ.tail i)))

pub stages-there : (m : ℕ) (t : Step) → StepThere m t → StepsThere m (stages t)
unfolding stages
stages-there m (exchange a) h = (h, tt)
stages-there m (reversal a) h = (h, tt)
stages-there m (skew a d c) h = (h, tt)
stages-there m (section a w) h = (h, tt)
stages-there m (circulation a b) h = exchanges-there m (chain a b) (chain-below a b m h.0 h.1)

pub there-append : (m : ℕ) (ts us : List Step) → StepsThere m ts → StepsThere (depth_after_all ts m) us → StepsThere m (ts ++ us)
unfolding depth_after_all
there-append m [] us h g = g
there-append m (t ∷ ts) us h g = (h.0, there-append (depth_after t m) ts us h.1 g)

-- ---- the final nest

stages-some : (m : ℕ) (t : Step) → StepThere m t → stages t ≡ [] → ⊥
unfolding stages
stages-some m (exchange a) h e = cons≢nil e
stages-some m (reversal a) h e = cons≢nil e
stages-some m (skew a d c) h e = cons≢nil e
stages-some m (section a w) h e = cons≢nil e
stages-some m (circulation a b) h e = chain-some a b h.2 ((map-eq-nil_iff exchange).0 e)

final : (ts : List Step) (N : Nest) → (ts ≡ [] → ⊥) → StagesPass ts N → FewLimits (nest_after_all ts N).loops × AllSmall (nest_after_all ts N)
final [] N h p = absurd (h refl)
final (t ∷ ts) N h p = stages-final t ts N p

pub passes-final : (t : Step) (ts : List Step) (m : ℕ) (vs : List (List Sign)) (N : Nest) → StepsThere m (t ∷ ts)
    → StepsPass (t ∷ ts) vs N → FewLimits (nest_after_all (t ∷ ts) N).loops × AllSmall (nest_after_all (t ∷ ts) N)
unfolding nest_after_all
passes-final t [] m vs N i h = subst (λ M. FewLimits M.loops × AllSmall M) (sym (after-stages t N))
    (final (stages t) N (stages-some m t i.0) h.0.taken)
passes-final t (u ∷ ts) m vs N i h = passes-final u ts _ _ (nest_after t N) i.1 h.1
