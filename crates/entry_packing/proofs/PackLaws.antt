-- What is packed is the answer's number, place and count.
use mathlib.Core.Path.{◌≡◌, refl, sym, ◌∙◌, ap}
use Prim.Native.Nat.{ℕ, ◌+◌, ◌*◌, ◌%◌}
use Rattle.model.specs.Answer.{Answer, number_in, place_in, count_in}
use Rattle.model.specs.Quick.{Independence}
use Rattle.ticket_refusals.specs.declared.Refusal.{Refusal}
use Rattle.std.specs.Prelude.{Result, Ok, Err}
use Rattle.ticket_refusals.specs.Refusals.{number_of, place_of, answer_of}
use Rattle.entry_quick.specs.declared.Meeting.{Meeting}
use Rattle.entry_quick.specs.declared.Meeting.TheVariants.{Apart, Perhaps}
use Rattle.entry_quick.specs.Answers as Tests
use Rattle.entry_packing.specs.Packed.{fields, packed, counted}

pub fields-is : (n p c : ℕ) → n % 256 + p % 16777216 * 256 + c % 4294967296 * 4294967296 ≡ fields n p c
unfolding fields
fields-is n p c = refl

-- ---- an answer with a count

pub accepted-packed : (q n : ℕ) (a : Result ℕ Refusal) → q ≡ fields 0 0 n → a ≡ Ok n → q ≡ packed (answer_of a)
unfolding packed number_in place_in count_in
accepted-packed q n a e h = e ∙ sym (ap (λ (x : Result ℕ Refusal). packed (answer_of x)) h)

pub refused-packed : (q : ℕ) (r : Refusal) (a : Result ℕ Refusal) → q ≡ fields (number_of r) (place_of r) 0 → a ≡ Err r → q ≡ packed (answer_of a)
unfolding packed number_in place_in count_in
refused-packed q r a e h = e ∙ sym (ap (λ (x : Result ℕ Refusal). packed (answer_of x)) h)

-- ---- the quick test's

pub apart-packed : (q : ℕ) (a : Result Meeting Refusal) (m : Meeting) → q ≡ fields 0 0 1 → a ≡ Ok m → m ≡ Apart
    → q ≡ packed (counted (Tests.answer_of a))
unfolding packed counted number_in place_in count_in
apart-packed q a m e h f = e ∙ sym (ap (λ (x : Result Meeting Refusal). packed (counted (Tests.answer_of x))) (h ∙ ap Ok f))

pub perhaps-packed : (q : ℕ) (a : Result Meeting Refusal) (m : Meeting) → q ≡ fields 0 0 0 → a ≡ Ok m → m ≡ Perhaps
    → q ≡ packed (counted (Tests.answer_of a))
unfolding packed counted number_in place_in count_in
perhaps-packed q a m e h f = e ∙ sym (ap (λ (x : Result Meeting Refusal). packed (counted (Tests.answer_of x))) (h ∙ ap Ok f))

pub refused-test : (q : ℕ) (r : Refusal) (a : Result Meeting Refusal) → q ≡ fields (number_of r) (place_of r) 0 → a ≡ Err r
    → q ≡ packed (counted (Tests.answer_of a))
unfolding packed counted number_in place_in count_in
refused-test q r a e h = e ∙ sym (ap (λ (x : Result Meeting Refusal). packed (counted (Tests.answer_of x))) h)

-- ---- any answer

pub refusal-fields : (q n p n' p' : ℕ) → q ≡ fields n p 0 → n ≡ n' → p ≡ p' → q ≡ fields n' p' 0
refusal-fields q n p n' p' e f g = e ∙ ap (λ (x : ℕ). fields x p 0) f ∙ ap (λ (x : ℕ). fields n' x 0) g

pub same-packed : (q : ℕ) (a m : Answer ℕ) → q ≡ packed a → a ≡ m → q ≡ packed m
same-packed q a m e h = e ∙ ap packed h

pub same_test : (q : ℕ) (a m : Answer Independence) → q ≡ packed (counted a) → a ≡ m → q ≡ packed (counted m)
same_test q a m e h = e ∙ ap (λ (x : Answer Independence). packed (counted x)) h
