-- The readers of accesses and statements: ranges, arrays that are there with as many dimensions, words.
use mathlib.Core.Path.{◌≡◌, refl, sym, ap, ap₂, ◌∙◌, subst}
use mathlib.Core.Bool.{cond}
use mathlib.Core.List.{List, [], ◌∷◌, ◌++◌, flat_map, append-nil}
use Prim.Native.Nat.{ℕ, ◌-◌, ◌≤◌}
use native.Mathlib.Omega.{arith}
use lib.Dec.{eqb}
use lib.IntN.{ℤ, pos}
use lib.ListN.{length}
use borrow.Author.Tests.{eq-eqb}
use Rattle.lists.specs.Membership.{All}
use Rattle.lists.proofs.MembershipLaws.{all_nil, all_cons}
use Rattle.lists.proofs.TestLaws.{cond_cases}
use Rattle.model.specs.Ticket.{Subscript, Access, Statement}
use Rattle.model.specs.Grammar.{extents, subscript, access, statement, statements, most_statements}
use Rattle.model.specs.Encode.{counted, access_words, statement_words}
use Rattle.model.specs.Shape.{Fits, FitsAll}
use Rattle.model.specs.Ranges.{SubscriptRanges, AccessRanges, StatementRanges}
use Rattle.model.proofs.Grammar.ReaderLaws.{Meets, As, Few, bind, done-meets, counted-from, counted-meets, count_meets, natural-meets, number-meets, times-meets}
use Rattle.model.proofs.Grammar.LoopReading.{numbers-meet}

-- ---- accesses

abbrev pub subscript_words : Subscript → List ℤ
subscript_words s = s.constant ∷ s.coefficients

-- with a coefficient for each of the loops
pub record SubscriptRead (depth : ℕ) (s : Subscript) : Type 0 where
  pub ranges : SubscriptRanges s
  pub wide : length s.coefficients ≡ depth

pub subscript-meets : (depth : ℕ) → Meets (subscript depth) (As (SubscriptRead depth) subscript_words)
unfolding subscript
subscript-meets depth = bind number-meets (λ c s. bind (numbers-meet depth) (λ cs e. done-meets (record { constant = c; coefficients = cs })
    (record { holds = record { ranges = record { constant = s; coefficients = e.holds }; wide = e.number }; words = ap (c ∷◌) (append-nil cs) })))

pub record AccessRead (depth : ℕ) (as' : List (List ℕ)) (a : Access) : Type 0 where
  pub ranges : AccessRanges a
  pub fits : Fits as' depth a

module _ (depth : ℕ) (as' : List (List ℕ)) where
  access-meets : Meets (access depth as') (As (AccessRead depth as') access_words)
  unfolding access access_words
  access-meets = bind (natural-meets 1 (length as')) (λ a r. bind (times-meets (length (extents as' (a - 1))) (subscript-meets depth)) (λ ss e.
      let l = r.low in let h = r.high in
      done-meets (record { array = a - 1; subscripts = ss }) (record {
        holds = record {
          ranges = λ s m. (e.holds s m).ranges;
          fits = record { there = omega arith; dimensions = e.number; wide = λ s m. (e.holds s m).wide };
        };
        words = ap₂ (λ n ws. pos n ∷ ws) (omega arith) (append-nil (flat_map subscript_words ss));
      })))

  -- ---- statements

  pub record StatementRead (s : Statement) : Type 0 where
    pub ranges : StatementRanges s
    pub fits : FitsAll as' depth s

  statement-meets : Meets (statement depth as') (As StatementRead statement_words)
  unfolding statement statement_words flat_map
  statement-meets = bind (natural-meets 0 3) (λ r h.
      bind (natural-meets 0 (cond (eqb r 3) 0 32767)) (λ c g.
      bind access-meets (λ w i.
      bind (count_meets (cond (eqb r 3) 1 0) 4) (λ n j.
      bind (times-meets n access-meets) (λ rs e.
      let q = counted-from access_words j rs (flat_map access_words rs) (record { holds = e; words = refl }) in
      done-meets (record { rule = r; constant = c; writes = w ∷ []; reads = rs }) (record {
        holds = record {
          ranges = record {
            rule = h.high;
            constant = cond_cases (λ m. c ≤ m → c ≤ 32767) (eqb r 3) 0 32767 (λ _ u. omega arith) (λ _ u. u) g.high;
            one-write = refl;
            few-reads = q.holds.few.high;
            copy-reads = λ t. subst (λ x. cond x 1 0 ≤ length rs) (eq-eqb r 3 t) q.holds.few.low;
            copy-constant = λ t. let u = subst (λ x. c ≤ cond x 0 32767) (eq-eqb r 3 t) g.high in omega arith;
            writes = all_cons AccessRanges i.ranges (all_nil AccessRanges);
            reads = λ a m. (e.holds a m).ranges;
          };
          fits = record { writes = all_cons (Fits as' depth) i.fits (all_nil (Fits as' depth)); reads = λ a m. (e.holds a m).fits };
        };
        words = ap (λ ws. pos r ∷ pos c ∷ ws) (ap₂ ◌++◌ (sym (append-nil (access_words w)))
            (ap (pos n ∷◌) (append-nil (flat_map access_words rs)) ∙ q.words));
      }))))))

  pub statements-meets : Meets (statements depth as') (As (Few 1 most_statements (All StatementRead)) (counted statement_words))
  unfolding statements
  statements-meets = counted-meets statement_words 1 most_statements (λ n _. times-meets n statement-meets)
