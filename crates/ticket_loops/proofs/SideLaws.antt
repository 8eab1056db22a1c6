-- Limits read and laid one after another: a side under way.
use mathlib.Core.Path.{◌≡◌, refl, sym, ap, ap₂, ◌∙◌}
use mathlib.Core.List.{List, [], ◌∷◌, ◌++◌}
use Prim.Native.Nat.{ℕ, ◌+◌, ◌*◌, ◌-◌, ◌≤◌, ◌<◌}
use native.Mathlib.Omega.{arith}
use lib.IntN.{ℤ}
use lib.ListN.{length, length-append}
use Rattle.std.specs.Prelude.{Ok}
use Rattle.lists.specs.Membership.{All}
use Rattle.lists.specs.Parts.{put}
use Rattle.lists.proofs.MembershipLaws.{all_nil, all_cons, all_append}
use Rattle.model.specs.Ticket as Model
use Rattle.model.specs.Grammar.{times, limit, ticket_limits}
use Rattle.model.specs.Encode.{limit_words}
use Rattle.model.specs.Shape.{Sized}
use Rattle.model.specs.Ranges.{LimitRanges}
use Rattle.model.proofs.Answers.AnswerLaws.{leads-accepted}
use Rattle.model.proofs.Grammar.LoopReading.{LimitRead, limit-meets}
use Rattle.ticket_words.specs.Reads.{Reads}
use Rattle.ticket_words.specs.declared.Words.{Words}
use Rattle.ticket_words.proofs.ReaderLaws.{Underway, read-value, times-begin, times-next}
use Rattle.ticket_loops.specs.Laid.{lay_limits}
use Rattle.ticket_loops.specs.LoopReads.{limit_of, LimitIn, LayLimitIn, SideIn}
use Rattle.ticket_loops.specs.declared.Limit.{Limit}
use Rattle.ticket_loops.proofs.LimitLaws.{lay-more, lay-length}

-- what the grammar says of a limit
pub limit-read : (outer : ℕ) {o e : Words} {l : Limit} → Reads (limit_of outer) (limit outer) o (Ok l) e → LimitRead outer (limit_of outer l)
limit-read outer {o} h = let r = o.reached in
    (leads-accepted _ _ ((limit-meets outer).from o.bytes.now o.next (record { first = r.counted; there = r.there })).leads (read-value h)).holds.holds

-- k of n limits are read and laid
pub record Filling (outer j n : ℕ) (o e : Words) (w w' : List ℤ) (k : ℕ) : Type 0 where
  pub limits : List Model.Limit
  pub number : length limits ≡ k
  pub low : k ≤ n
  pub laid : w' ≡ lay_limits w j limits
  pub sized : Sized outer limits
  pub ranges : All LimitRanges limits
  pub underway : Underway (times n (limit outer)) o limits (times (n - k) (limit outer)) e

module _ (outer j n : ℕ) (o : Words) (w : List ℤ) where
  pub filling-starts : Filling outer j n o o w w 0
  unfolding lay_limits
  filling-starts = record {
    limits = [];
    number = refl;
    low = omega arith;
    laid = refl;
    sized = all_nil _;
    ranges = all_nil LimitRanges;
    underway = times-begin (limit outer) n o;
  }

  module _ (p : SideIn outer j (length w)) (few : n ≤ ticket_limits) (e : Words) (w' : List ℤ) (k : ℕ) (f : Filling outer j n o e w w' k) where
    filling-length : length w' ≡ length w
    filling-length =
        let g = p.fits in let m = f.number in let a = f.low in
        ap length f.laid ∙ lay-length outer p.shallow w j f.limits f.sized (omega arith)

    module _ {l : Limit} {e' : Words} (h : k < n) (t : Reads (limit_of outer) (limit outer) e (Ok l) e') where
      pub next-in : LimitIn l → LayLimitIn (length w') (j + k) outer l
      next-in i =
          let g = p.fits in let m = filling-length in
          record { fits = omega arith; shallow = p.shallow; within = i; ranges = (limit-read outer t).ranges }

      pub filling-more : (v : List ℤ) → v ≡ put w' ((j + k) * 8) (limit_words (limit_of outer l)) → Filling outer j n o e' w v (k + 1)
      filling-more v q =
          let x = limit_of outer l in
          let r = limit-read outer t in
          record {
            limits = f.limits ++ (x ∷ []);
            number = let m = f.number in let a = length-append f.limits (x ∷ []) in omega arith;
            low = omega arith;
            laid = q ∙ ap₂ (λ y m. put y ((j + m) * 8) (limit_words x)) f.laid (sym f.number) ∙ sym (lay-more w j f.limits x);
            sized = all_append _ f.limits (x ∷ []) f.sized (all_cons _ r.sized (all_nil _));
            ranges = all_append LimitRanges f.limits (x ∷ []) f.ranges (all_cons LimitRanges r.ranges (all_nil LimitRanges));
            underway = times-next (limit outer) n k f.underway h t refl;
          }
