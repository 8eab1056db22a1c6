-- Laws of a window on records. In order: none has come by; one more is passed over, is kept, or comes to a full window; how many have come by.
use mathlib.Core.Path.{◌≡◌, sym, ap, ◌∙◌}
use mathlib.Core.List.{List, [], ◌∷◌, ◌++◌}
use Prim.Native.Nat.{ℕ, ◌+◌, ◌*◌, ◌-◌, ◌≤◌, ◌<◌}
use native.Mathlib.Numerals.{add-one}
use native.Mathlib.Omega.{arith}
use lib.IntN.{ℤ}
use lib.ListN.{length, take, drop, length-append, length-drop, drop_of_length-le}
use lib.Seq.{take_all, take-append-le, drop-nil, drop-append-le}
use Rattle.lists.specs.Parts.{rows, put}
use Rattle.lists.proofs.PartLaws.{length-put, rows-put-next}
use Rattle.pair_records.specs.Conflicts.{record_room}
use Rattle.pair_records.specs.Windows.{batch, batch_room, Windowed}
use Rattle.pair_records.specs.declared.Window.{Window}

abbrev pub window_of : ℕ → ℕ → Window
window_of skip got = record { skip = skip; got = got }

pub none-come : (skip : ℕ) (found : List ℤ) → length found ≡ batch_room → Windowed skip [] (window_of skip 0) found
unfolding rows
none-come skip found h = record {
  left = omega arith;
  got = omega arith;
  kept = sym (ap (take batch) (drop-nil {A = List ℤ} skip));
  room = h;
}

module _ (skip : ℕ) (rs : List (List ℤ)) (w : Window) (found : List ℤ) (h : Windowed skip rs w found) where
  -- one record more
  module _ (r : List ℤ) where
    one_more : length (rs ++ (r ∷ [])) ≡ length rs + 1
    one_more = length-append rs (r ∷ [])

    pub passed_over : 0 < w.skip → Windowed skip (rs ++ (r ∷ [])) (window_of (w.skip - 1) w.got) found
    passed_over p = let n = one_more in let e = h.left in let g = h.got in record {
      left = omega arith;
      got = omega arith;
      kept = h.kept ∙ ap (take batch) (drop_of_length-le rs {i = skip} (omega arith)
          ∙ sym (drop_of_length-le (rs ++ (r ∷ [])) {i = skip} (omega arith)));
      room = h.room;
    }

    pub kept_more : w.skip ≡ 0 → w.got < batch → length r ≡ record_room
        → Windowed skip (rs ++ (r ∷ [])) (window_of 0 (w.got + 1)) (put found (w.got * record_room) r)
    kept_more z p l = let n = one_more in let e = h.left in let g = h.got in let o = h.room in
        let ld = length-drop skip rs in let la = length-append (drop skip rs) (r ∷ []) in record {
          left = omega arith;
          got = omega arith;
          kept = ap (λ k. rows record_room k (put found (w.got * record_room) r)) (add-one w.got)
              ∙ rows-put-next record_room w.got found r l (omega arith)
              ∙ ap (◌++ (r ∷ [])) (h.kept ∙ take_all batch (drop skip rs) (omega arith))
              ∙ sym (take_all batch (drop skip rs ++ (r ∷ [])) (omega arith))
              ∙ ap (take batch) (sym (drop-append-le skip rs (r ∷ []) (omega arith)));
          room = length-put found (w.got * record_room) r (omega arith) ∙ o;
        }

  -- a full window stays as it is, whatever comes
  pub full-stays : (more : List (List ℤ)) → batch ≤ w.got → Windowed skip (rs ++ more) w found
  full-stays more p = let n = length-append rs more in let e = h.left in let g = h.got in let ld = length-drop skip rs in record {
    left = omega arith;
    got = omega arith;
    kept = h.kept ∙ sym (take-append-le batch (drop skip rs) more (omega arith))
        ∙ ap (take batch) (sym (drop-append-le skip rs more (omega arith)));
    room = h.room;
  }

  -- while the window is not full, what has come by is what is passed over and what is kept
  pub come-by : w.got < batch → skip - w.skip + w.got ≡ length rs
  come-by p = let e = h.left in let g = h.got in omega arith
