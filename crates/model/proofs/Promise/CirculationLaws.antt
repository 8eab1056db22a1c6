-- A circulation is accepted exactly when the chain of its exchanges is, with the same nest: of a list of steps, of a ticket, of its bytes.
use mathlib.Core.Path.{◌≡◌, refl, sym, ap, ◌∙◌, subst}
use mathlib.Core.Logic.{◌↔◌}
use mathlib.Core.List.Memᴰ
use mathlib.Core.List.{List, [], ◌∷◌, ◌++◌, map, flat_map, map-id, map-map}
use Prim.Native.Nat.{ℕ, ◌≤◌}
use lib.Dec.{T}
use lib.ListN.{length}
use Rattle.integers.specs.Sign.{Sign}
use Rattle.lists.specs.Membership.{Mem, All}
use Rattle.lists.specs.Place.{under, swapped, swap_all}
use Rattle.lists.proofs.FlatMapLaws.{flat_map-single, flat_map-mem, mem-flat_map}
use Rattle.model.specs.Answer.{Answer, accepted}
use Rattle.model.specs.Ticket.{Step, exchange, reversal, skew, section, circulation, Nest, Ticket}
use Rattle.model.specs.Words.{bytes_of}
use Rattle.model.specs.Grammar.{decode, depth_after}
use Rattle.model.specs.Points.{iterations}
use Rattle.model.specs.Bounds.{admitted, new_space}
use Rattle.model.specs.Machine.{accesses, order}
use Rattle.model.specs.Directions.{backwards}
use Rattle.model.specs.Steps.{chain, vectors, vectors_after, vectors_after_all}
use Rattle.model.specs.Limits.{nest_after, nest_after_all}
use Rattle.model.specs.Judge.{stages, expanded, expanded_ticket, directions_of, admit_of, judge_ticket, Judged}
use Rattle.model.specs.Entries.{judge, judge_of}
use Rattle.model.specs.Encode.{ticket_words}
use Rattle.model.specs.Ranges.{StepsThere}
use Rattle.model.specs.Reasons.{Forwards, StagesPass, StepsPass, made}
use Rattle.model.proofs.Answers.AnswerLaws.{accepted-same}
use Rattle.model.proofs.Answers.PassLaws.{bind-pass}
use Rattle.model.proofs.Grammar.GrammarLaws.{decode-ranges, decode-formed}
use Rattle.model.proofs.Grammar.TicketLaws.{ticket-decodes}
use Rattle.model.proofs.Steps.ChainSignLaws.{AllForward, chain-forward}
use Rattle.model.proofs.Machine.DirectionLaws.{mem-directions}
use Rattle.model.proofs.Verdict.StageLaws.{after-stages, expanded-nest, stages-depth, stages-there, there-append}
use Rattle.model.proofs.Verdict.VerdictLaws.{admit-accepted, accepted-admit, admitted-judged, judged-accepted, judge_ticket-accepted}
use Rattle.model.proofs.Verdict.VerdictLaws.{accepted-judge_ticket}
use Rattle.model.proofs.Verdict.EntryLaws.{judge-accepted}
use Rattle.model.proofs.Promise.TradeLaws.{pair-forwards}

-- ---- sets of vectors along a chain

exchanged-set : (k : ℕ) (vs : List (List Sign)) → vectors_after (exchange k) vs ≡ map (under k swapped) vs
unfolding vectors_after vectors
exchanged-set k vs = flat_map-single (under k swapped) vs

chain-set : (ks : List ℕ) (vs : List (List Sign)) → vectors_after_all (map exchange ks) vs ≡ map (swap_all ks) vs
unfolding vectors_after_all swap_all
chain-set [] vs = sym (map-id vs)
chain-set (k ∷ ks) vs = chain-set ks (vectors_after (exchange k) vs) ∙ ap (map (swap_all ks)) (exchanged-set k vs)
    ∙ map-map (swap_all ks) (under k swapped) vs

circulation-set : (a b : ℕ) (vs : List (List Sign)) → vectors_after (circulation a b) vs ≡ vectors_after_all (map exchange (chain a b)) vs
unfolding vectors_after vectors
circulation-set a b vs = flat_map-single (swap_all (chain a b)) vs ∙ sym (chain-set (chain a b) vs)

came : (k : ℕ) (vs : List (List Sign)) {w : List Sign} → Mem w (vectors_after (exchange k) vs) → (v : List Sign) × Mem v vs × (w ≡ under k swapped v)
unfolding vectors_after vectors
came k vs m = let r = flat_map-mem (vectors (exchange k)) vs m in (r.0, r.1, Memᴰ.eq_of_singleton r.2)

moved-there : (a b : ℕ) (vs : List (List Sign)) {v : List Sign} → Mem v vs → Mem (swap_all (chain a b) v) (vectors_after (circulation a b) vs)
unfolding vectors_after vectors
moved-there a b vs m = mem-flat_map (vectors (circulation a b)) vs m (Memᴰ.head refl)

-- after each exchange
abbrev SetsForward : List ℕ → List (List Sign) → Type 0
SetsForward [] vs = Unit {0}
SetsForward (k ∷ ks) vs = Forwards (vectors_after (exchange k) vs) × SetsForward ks (vectors_after (exchange k) vs)

each-forward : (ks : List ℕ) (vs : List (List Sign)) → All (AllForward ks) vs → SetsForward ks vs
each-forward [] vs h = tt
each-forward (k ∷ ks) vs h = (
  λ w m. let r = came k vs m in subst (λ v. T (backwards v) → ⊥) (sym r.2) (h r.0 r.1).0,
  each-forward ks (vectors_after (exchange k) vs) (λ w m. let r = came k vs m in subst (AllForward ks) (sym r.2) (h r.0 r.1).1),
)

chain-final : (ks : List ℕ) (vs : List (List Sign)) → Forwards vs → SetsForward ks vs → Forwards (vectors_after_all (map exchange ks) vs)
unfolding vectors_after_all
chain-final [] vs f h = f
chain-final (k ∷ ks) vs f h = chain-final ks (vectors_after (exchange k) vs) h.0 h.1

-- ---- steps that pass

exchanges-pass : (ks : List ℕ) (ts : List Step) (vs : List (List Sign)) (N : Nest) → SetsForward ks vs → StagesPass (map exchange ks) N
    → StepsPass ts (vectors_after_all (map exchange ks) vs) (nest_after_all (map exchange ks) N) → StepsPass (map exchange ks ++ ts) vs N
unfolding vectors_after_all nest_after_all stages
exchanges-pass [] ts vs N f p h = h
exchanges-pass (k ∷ ks) ts vs N f p h = (
  record { forwards = f.0; taken = (p.0, tt) },
  exchanges-pass ks ts (vectors_after (exchange k) vs)
      (nest_after (exchange k) N) f.1 p.1 h,
)

pass-exchanges : (ks : List ℕ) (ts : List Step) (vs : List (List Sign)) (N : Nest) → StepsPass (map exchange ks ++ ts) vs N
    → SetsForward ks vs × StagesPass (map exchange ks) N × StepsPass ts (vectors_after_all (map exchange ks) vs) (nest_after_all (map exchange ks) N)
unfolding vectors_after_all nest_after_all stages
pass-exchanges [] ts vs N h = (tt, tt, h)
pass-exchanges (k ∷ ks) ts vs N h = let r = pass-exchanges ks ts (vectors_after (exchange k) vs) (nest_after (exchange k) N) h.1
    in ((h.0.forwards, r.0), (h.0.taken.0, r.1), r.2)

-- a circulation in front, or its exchanges, where no vector points backwards before
module _ (a b : ℕ) (ts : List Step) (vs : List (List Sign)) (N : Nest) (f : Forwards vs) where
  same-nest : nest_after (circulation a b) N ≡ nest_after_all (map exchange (chain a b)) N
  unfolding stages
  same-nest = after-stages (circulation a b) N

  rest-to : StepsPass ts (vectors_after (circulation a b) vs) (nest_after (circulation a b) N)
      → StepsPass ts (vectors_after_all (map exchange (chain a b)) vs) (nest_after_all (map exchange (chain a b)) N)
  rest-to h = subst (StepsPass ts (vectors_after_all (map exchange (chain a b)) vs)) same-nest
      (subst (λ ws. StepsPass ts ws (nest_after (circulation a b) N)) (circulation-set a b vs) h)

  rest_from : StepsPass ts (vectors_after_all (map exchange (chain a b)) vs) (nest_after_all (map exchange (chain a b)) N)
      → StepsPass ts (vectors_after (circulation a b) vs) (nest_after (circulation a b) N)
  rest_from h = subst (λ ws. StepsPass ts ws (nest_after (circulation a b) N)) (sym (circulation-set a b vs))
      (subst (StepsPass ts (vectors_after_all (map exchange (chain a b)) vs)) (sym same-nest) h)

  to-chain : StepsPass (circulation a b ∷ ts) vs N → StepsPass (map exchange (chain a b) ++ ts) vs N
  unfolding stages
  to-chain h = exchanges-pass (chain a b) ts vs N
      (each-forward (chain a b) vs (λ v m. chain-forward a b v (f v m) (h.0.forwards (swap_all (chain a b) v) (moved-there a b vs m))))
      h.0.taken (rest-to h.1)

  from-chain : StepsPass (map exchange (chain a b) ++ ts) vs N → StepsPass (circulation a b ∷ ts) vs N
  unfolding stages
  from-chain h = let r = pass-exchanges (chain a b) ts vs N h in
      (record { forwards = subst Forwards (sym (circulation-set a b vs)) (chain-final (chain a b) vs f r.0); taken = r.1 }, rest_from r.2)

-- any step in front, or its stages
to-stages : (t : Step) (us : List Step) (vs : List (List Sign)) (N : Nest) → Forwards vs → StepsPass (t ∷ us) vs N → StepsPass (stages t ++ us) vs N
unfolding stages
to-stages (exchange a) us vs N f h = h
to-stages (reversal a) us vs N f h = h
to-stages (skew a d c) us vs N f h = h
to-stages (section a w) us vs N f h = h
to-stages (circulation a b) us vs N f h = to-chain a b us vs N f h

from-stages : (t : Step) (us : List Step) (vs : List (List Sign)) (N : Nest) → Forwards vs → StepsPass (stages t ++ us) vs N → StepsPass (t ∷ us) vs N
unfolding stages
from-stages (exchange a) us vs N f h = h
from-stages (reversal a) us vs N f h = h
from-stages (skew a d c) us vs N f h = h
from-stages (section a w) us vs N f h = h
from-stages (circulation a b) us vs N f h = from-chain a b us vs N f h

-- and a list of them
to-expanded : (ts : List Step) (vs : List (List Sign)) (N : Nest) → Forwards vs → StepsPass ts vs N → StepsPass (expanded ts) vs N
unfolding expanded flat_map
to-expanded [] vs N f h = tt
to-expanded (t ∷ ts) vs N f h =
    to-stages t (expanded ts) vs N f (h.0, to-expanded ts (vectors_after t vs) (nest_after t N) h.0.forwards h.1)

from-expanded : (ts : List Step) (vs : List (List Sign)) (N : Nest) → Forwards vs → StepsPass (expanded ts) vs N → StepsPass ts vs N
unfolding expanded flat_map
from-expanded [] vs N f h = tt
from-expanded (t ∷ ts) vs N f h = let r = from-stages t (expanded ts) vs N f h in
    (r.0, from-expanded ts (vectors_after t vs) (nest_after t N) r.0.forwards r.1)

-- ---- a ticket

-- the directions of a nest before any step
pub directions-forwards : (N : Nest) → Forwards (directions_of N)
unfolding directions_of
directions-forwards N v m t = let d = mem-directions (accesses N.statements) (order N) v m
    in pair-forwards N d.0 d.1 d.2 (subst (λ w. T (backwards w)) d.4 t)

module _ (K : Ticket) where
  expanded_ticket-made : made (expanded_ticket K) ≡ made K
  unfolding expanded_ticket
  expanded_ticket-made = expanded-nest K.steps K.nest

  to-expanded_ticket : (M : Nest) → judge_ticket K ≡ accepted (record { ticket = K; new = M })
      → judge_ticket (expanded_ticket K) ≡ accepted (record { ticket = expanded_ticket K; new = M })
  unfolding expanded_ticket
  to-expanded_ticket M e =
      let r = judge_ticket-accepted K e in
      let m : M ≡ made K = ap (λ (j : Judged). j.new) r.0 in
      accepted-judge_ticket (expanded_ticket K) (to-expanded K.steps (directions_of K.nest) K.nest (directions-forwards K.nest) r.1.0)
      (ap (λ (N : Nest). new_space N.loops) expanded_ticket-made ∙ r.1.1)
      ∙ ap (λ N. accepted (record { ticket = expanded_ticket K; new = N })) (expanded_ticket-made ∙ sym m)

  from-expanded_ticket : (M : Nest) → judge_ticket (expanded_ticket K) ≡ accepted (record { ticket = expanded_ticket K; new = M })
      → judge_ticket K ≡ accepted (record { ticket = K; new = M })
  unfolding expanded_ticket
  from-expanded_ticket M e =
      let r = judge_ticket-accepted (expanded_ticket K) e in
      let m : M ≡ made (expanded_ticket K) = ap (λ (j : Judged). j.new) r.0 in
      accepted-judge_ticket K (from-expanded K.steps (directions_of K.nest) K.nest (directions-forwards K.nest) r.1.0)
      (ap (λ (N : Nest). new_space N.loops) (sym expanded_ticket-made) ∙ r.1.1)
      ∙ ap (λ N. accepted (record { ticket = K; new = N })) (sym expanded_ticket-made ∙ sym m)

  pub circulation-chain : (M : Nest) → (judge_ticket K ≡ accepted (record { ticket = K; new = M })) ↔
      (judge_ticket (expanded_ticket K) ≡ accepted (record { ticket = expanded_ticket K; new = M }))
  circulation-chain M = (to-expanded_ticket M, from-expanded_ticket M)

-- ---- its bytes, where the longer list of steps still is a ticket's

expanded-there : (m : ℕ) (ts : List Step) → StepsThere m ts → StepsThere m (expanded ts)
unfolding expanded flat_map
expanded-there m [] h = tt
expanded-there m (t ∷ ts) h = there-append m (stages t) (expanded ts) (stages-there m t h.0)
    (subst (λ n. StepsThere n (expanded ts)) (sym (stages-depth t m)) (expanded-there (depth_after t m) ts h.1))

judged-judge : (d : Answer Ticket) (K : Ticket) {M : Nest} → admit_of d ≡ accepted K → judge_ticket K ≡ accepted (record { ticket = K; new = M })
    → judge_of d ≡ accepted (length (iterations K.nest.loops))
unfolding judge_of
judged-judge d K e f = bind-pass (λ (j : Judged). accepted (length (iterations j.ticket.nest.loops))) (admitted-judged d e ∙ f)

judge-judged : (d : Answer Ticket) (K : Ticket) {c : ℕ} → d ≡ accepted K → judge_of d ≡ accepted c
    → (admitted K.nest ≡ accepted tt) × (judge_ticket K ≡ accepted (record { ticket = K; new = made K })) ×
    (c ≡ length (iterations K.nest.loops))
judge-judged d K {c} i e =
    let r = judge-accepted d e in
    let s = judged-accepted d r.1 in
    let a = admit-accepted d s.1 in
    let q : s.0 ≡ K = accepted-same (sym a.0 ∙ i) in
    let v = (judge_ticket-accepted s.0 s.2).0 in (
      subst (λ (T : Ticket). admitted T.nest ≡ accepted tt) q a.1,
      subst (λ (T : Ticket). judge_ticket T ≡ accepted (record { ticket = T; new = made T })) q (s.2 ∙ ap accepted v),
      r.2 ∙ ap (λ (j : Judged). length (iterations j.ticket.nest.loops)) v ∙ ap (λ (T : Ticket). length (iterations T.nest.loops)) q,
    )

pub circulation-bytes : (b : List ℕ) {K : Ticket} → decode b ≡ accepted K → length (expanded K.steps) ≤ 8
    → (c : ℕ) → (judge b ≡ accepted c) ↔ (judge (bytes_of (ticket_words (expanded_ticket K))) ≡ accepted c)
unfolding expanded_ticket
circulation-bytes b {K} d few c =
    let ranges = decode-ranges b d in
    let longer = bytes_of (ticket_words (expanded_ticket K)) in
    let e : decode longer ≡ accepted (expanded_ticket K) = ticket-decodes (expanded_ticket K)
    (record { nest = ranges.nest; few-steps = few; steps = expanded-there (length K.nest.loops) K.steps ranges.steps })
    (decode-formed b d) in (
      λ h. let r = judge-judged (decode b) K d h in
          judged-judge (decode longer) (expanded_ticket K) (accepted-admit (decode longer) e r.0) ((circulation-chain K (made K)).0 r.1)
          ∙ ap accepted (sym r.2),
      λ h. let r = judge-judged (decode longer) (expanded_ticket K) e h in
          judged-judge (decode b) K (accepted-admit (decode b) d r.0) ((circulation-chain K (made (expanded_ticket K))).1 r.1)
          ∙ ap accepted (sym r.2),
    )
