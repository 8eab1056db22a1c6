-- Laws of the records of source points: those of no point, of one more, of two spans; how many they are; where partners are.
use mathlib.Core.Path.{◌≡◌, sym, ap, ◌∙◌, subst}
use mathlib.Core.Bool.{Bool}
use mathlib.Core.List.{List, [], ◌++◌, flat_map}
use Prim.Native.Nat.{ℕ, suc, ◌+◌, ◌*◌, ◌-◌, ◌≤◌, ◌<◌}
use native.Mathlib.Numerals.{add-one}
use native.Mathlib.Omega.{arith}
use lib.IntN.{ℤ}
use lib.ListN.{length, length-map}
use Rattle.lists.specs.Membership.{All}
use Rattle.lists.specs.Tests.{select}
use Rattle.lists.proofs.TestLaws.{select-mem, select-fewer}
use Rattle.lists.proofs.FlatMapLaws.{flat_map-append, flat_map-snoc, length-flat_map-most}
use Rattle.model.specs.Grammar.{most_points}
use Rattle.model.specs.Directions.{up_from}
use Rattle.model.proofs.Steps.ChainLaws.{up-length}
use Rattle.model.proofs.Listing.LineOrderLaws.{up_from-mem}
use Rattle.dependence_search.specs.Flat.{Flat}
use Rattle.pair_partners.specs.Partners.{partners, is_partner, between}
use Rattle.pair_partners.proofs.PartnerLaws.{between_none, between-one, between-parts}
use Rattle.pair_records.specs.Conflicts.{Ready, record_words, clashes, block_count, records_between}
use Rattle.pair_records.specs.Windows.{batch, batch_room, Windowed, Passes}
use Rattle.pair_records.specs.Walks.{records_from, records_of}
use Rattle.pair_records.specs.declared.Window.{Window}
use Rattle.pair_records.proofs.ConflictLaws.{few-blocks}
use Rattle.pair_records.proofs.WindowLaws.{window_of, none-come, full-stays, come-by}

-- ---- partners

pub partners-inside : (ids : List ℕ) (ws : List Bool) (n m d : ℕ) (s : List ℤ) (x : ℕ) → All (λ y. y < n) (partners ids ws n m d s x)
unfolding partners between
partners-inside ids ws n m d s x y h =
    let r = up_from-mem (suc x) (n - suc x) (select-mem (is_partner ids ws n m d s x) (up_from (suc x) (n - suc x)) h).0 in
    let a = r.0 in let b = r.1 in omega arith

-- ---- how many

module _ (F : Flat) (d : ℕ) (s : List ℤ) where
  module _ {sizes : List ℕ} (ok : Ready F sizes) where
    few-between : (x y : ℕ) → length (records_between F x y) ≤ 48
    unfolding records_between
    few-between x y =
        let t = clashes F.count F.numbers F.statements F.writes F.body x y in
        let l = up_from 0 (block_count F.body) in
        let a = length-map (select t l) (record_words F.points F.depth F.body x y) in
        let b = select-fewer t l in let c = up-length 0 (block_count F.body) in
        let e = (few-blocks F.body ok.accesses.few-statements).1 in omega arith

    few-from : (x : ℕ) → length (records_from F d s x) ≤ most_points * 48
    unfolding records_from partners between
    few-from x =
        let t = is_partner F.numbers F.writes F.count (length F.statements) d s x in let l = up_from (suc x) (F.count - suc x) in
        let a = length-flat_map-most (records_between F x) 48 (select t l) (λ y m. few-between x y) in
        let b = select-fewer t l in let c = up-length (suc x) (F.count - suc x) in let e = ok.accesses.few-points in
        let q : length (select t l) * 48 ≤ most_points * 48 = omega arith in omega arith

    pub few-records : (a b : ℕ) → b ≤ F.count → length (records_of F d s a b) ≤ most_points * (most_points * 48)
    unfolding records_of between
    few-records a b h =
        let p = length-flat_map-most (records_from F d s) (most_points * 48) (up_from a (b - a)) (λ x m. few-from x) in
        let c = up-length a (b - a) in let e = ok.accesses.few-points in omega arith

  -- ---- by source point

  pub records-none : (a : ℕ) → records_of F d s a a ≡ []
  unfolding records_of flat_map
  records-none a = ap (flat_map (records_from F d s)) (between_none a)

  pub records-more : (a x : ℕ) → a ≤ x → records_of F d s a x ++ records_from F d s x ≡ records_of F d s a (x + 1)
  unfolding records_of
  records-more a x h = sym (ap (λ n. flat_map (records_from F d s) (between a n)) (add-one x)
      ∙ ap (flat_map (records_from F d s)) (between-parts a x (suc x) h (omega arith) ∙ ap (between a x ++◌) (between-one x))
      ∙ flat_map-snoc (records_from F d s) (between a x) x)

  pub records-parts : (a b c : ℕ) → a ≤ b → b ≤ c → records_of F d s a b ++ records_of F d s b c ≡ records_of F d s a c
  unfolding records_of
  records-parts a b c h g = sym (ap (flat_map (records_from F d s)) (between-parts a b c h g)
      ∙ flat_map-append (records_from F d s) (between a b) (between b c))

  -- ---- a walk that has come to source point x

  pub record Walking (from skip x : ℕ) (w : Window) (source before : ℕ) (found : List ℤ) : Type 0 where
    pub begun : from ≤ x
    pub inside : x ≤ F.count
    pub window : Windowed skip (records_of F d s from x) w found
    pub first : from ≤ source
    pub source-inside : source ≤ F.count
    pub before-is : before ≡ length (records_of F d s from source)
    pub near : before < skip + batch

  pub walk_begins : (from skip : ℕ) (found : List ℤ) → from ≤ F.count → length found ≡ batch_room
      → Walking from skip from (window_of skip 0) from 0 found
  walk_begins from skip found h l = record {
    begun = omega arith;
    inside = h;
    window = subst (λ rs. Windowed skip rs (window_of skip 0) found) (sym (records-none from)) (none-come skip found l);
    first = omega arith;
    source-inside = h;
    before-is = sym (ap length (records-none from));
    near = omega arith;
  }

  module _ (from skip x : ℕ) (w : Window) (source before : ℕ) (found : List ℤ) (h : Walking from skip x w source before found) where
    -- how many records have come by is known, and small
    pub come-so-far : {sizes : List ℕ} → Ready F sizes → w.got < batch → (w.skip ≤ skip)
        × (skip - w.skip + w.got ≡ length (records_of F d s from x)) × (skip - w.skip + w.got ≤ most_points * (most_points * 48))
    come-so-far ok g = let e = h.window.left in let c = come-by skip (records_of F d s from x) w found h.window g in
        let f = few-records ok from x h.inside in (omega arith, c, omega arith)

    pub walk-turns : (w' : Window) (found' : List ℤ) (before' : ℕ) → x < F.count → before' ≡ length (records_of F d s from x)
        → before' < skip + batch → Passes w found w' found' (records_from F d s x) → Walking from skip (x + 1) w' x before' found'
    walk-turns w' found' before' g e n p = let b = h.begun in record {
      begun = omega arith;
      inside = omega arith;
      window = subst (λ rs. Windowed skip rs w' found') (records-more from x b) (p skip (records_of F d s from x) h.window);
      first = b;
      source-inside = omega arith;
      before-is = e;
      near = n;
    }

    -- a full window is that of all records
    pub walk-full : batch ≤ w.got → Windowed skip (records_of F d s from F.count) w found
    walk-full g = subst (λ rs. Windowed skip rs w found) (records-parts from x F.count h.begun h.inside)
        (full-stays skip (records_of F d s from x) w found h.window (records_of F d s x F.count) g)

    pub walk_ends : F.count ≤ x → Windowed skip (records_of F d s from F.count) w found
    walk_ends g = let i = h.inside in let e : x ≡ F.count = omega arith in
        subst (λ n. Windowed skip (records_of F d s from n) w found) e h.window
