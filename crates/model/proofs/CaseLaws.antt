-- The worked cases of `specs/Cases`, the close readings and further cases of `specs/Readings`, and those of the reason tool, all by computation.
use mathlib.Core.Path.{refl}
use Rattle.integers.specs.Division.{floor_div, ceil_div}
use Rattle.integers.specs.Affine.{dot, affine}
use Rattle.integers.specs.Sign.{sign}
use Rattle.integers.specs.Gcd as Gcd
use Rattle.lists.specs.Place.{under, under_each, on_head, swapped, swap_all, swap_back}
use Rattle.lists.specs.Tests.{all, any, select, same_by, without, unique}
use mathlib.Core.List.{flat_map, zip_with}
use Rattle.model.specs.Answer as Answer
use Rattle.model.specs.Words as Words
use Rattle.model.specs.Grammar as Grammar
use Rattle.model.specs.Points as Points
use Rattle.model.specs.Bounds as Bounds
use Rattle.model.specs.Machine as Machine
use Rattle.model.specs.Directions as Directions
use Rattle.model.specs.Steps as Steps
use Rattle.model.specs.Limits as Limits
use Rattle.model.specs.Judge as Judge
use Rattle.model.specs.Encode as Encode
use Rattle.model.specs.Listing as Listing
use Rattle.model.specs.Quick as Quick
use Rattle.model.specs.Store as Store
use Rattle.model.specs.Entries as Entries
use Rattle.model.specs.Pairs as Pairs
use Rattle.model.specs.Cases as Cases
use Rattle.model.specs.Readings as Readings
use Rattle.model.specs.ReasonCases as ReasonCases

computed : Cases.AllHold Cases.cases × Cases.AllHold Readings.readings × Cases.AllHold Readings.further_cases × Cases.AllHold ReasonCases.reason_cases
unfolding floor_div ceil_div dot affine sign under under_each on_head swapped swap_all swap_back all any select same_by without unique flat_map zip_with
    Answer.◌>>=◌ Answer.◌>>◌ Answer.require Answer.number_in Answer.place_in Answer.count_in Words.signed Words.first_word Words.word_at Words.bits
    Words.word_bytes Words.bytes_of Grammar.◌>>=◌ Grammar.◌>>◌ Grammar.done Grammar.word Grammar.must Grammar.must_at Grammar.between Grammar.count
    Grammar.within Grammar.natural Grammar.number Grammar.times Grammar.limit Grammar.side Grammar.loop Grammar.loops_from Grammar.loops
    Grammar.elements Grammar.total Grammar.shape Grammar.array Grammar.arrays_from Grammar.arrays Grammar.extents Grammar.subscript Grammar.access
    Grammar.statement Grammar.statements Grammar.loop_number Grammar.exchange_step Grammar.reversal_step Grammar.skew_step Grammar.section_step
    Grammar.circulation_step Grammar.step_of Grammar.depth_after Grammar.steps_from Grammar.steps Grammar.nest Grammar.end Grammar.ticket Grammar.decode
    Grammar.written Grammar.decode_nest Points.max_z Points.min_z Points.largest Points.smallest Points.value Points.first_index Points.last_index
    Points.span Points.ints Points.indices Points.points Points.partial_points Points.iterations Bounds.last_of Bounds.beyond Bounds.survey
    Bounds.space Bounds.new_space Bounds.subscript_at Bounds.outside Bounds.violates Bounds.accesses_of Bounds.in_arrays Bounds.admitted Machine.same
    Machine.meet Machine.element Machine.body_at Machine.accesses Machine.body Machine.instances Machine.store Machine.store_all Machine.perform
    Machine.run Machine.originally Directions.signs Directions.backwards Directions.earlier Directions.kinds Directions.conflict_of
    Directions.conflict Directions.vectors_from Directions.directions Directions.comes_first Directions.occurs Directions.up_from Directions.sign_vectors
    Directions.all_lines Directions.lines Steps.skewed Steps.unskewed Steps.sectioned Steps.unsectioned Steps.down_to Steps.chain Steps.forward
    Steps.undo Steps.forward_all Steps.undo_all Steps.any_sign Steps.sum_signs Steps.head_sum Steps.signed_sign Steps.skew_signs Steps.split_sign
    Steps.split_signs Steps.vectors Steps.vectors_after Steps.some_points_back Limits.on_coefficients Limits.on_limits Limits.deeper Limits.negated
    Limits.reverse_at Limits.skew_coefficients Limits.skew_limit Limits.skew_inner Limits.skew_at Limits.section_lower Limits.section_upper
    Limits.element_limit Limits.constant_limit Limits.split_coefficients Limits.section_at Limits.outer_coefficient Limits.kept Limits.combined
    Limits.outer_part Limits.new_outer Limits.solved_positive Limits.solved_negative Limits.when_positive Limits.when_negative Limits.widened
    Limits.new_inner Limits.same_limit Limits.deduplicated Limits.exchange_at Limits.exchange_all Limits.loops_after Limits.coefficients_after
    Limits.subscript_after Limits.access_after Limits.statement_after Limits.nest_after Limits.nest_after_all Judge.few_limits Judge.small Judge.small_limit
    Judge.small_loop Judge.small_access Judge.small_numbers Judge.stages Judge.judge_stages Judge.judge_steps Judge.directions_of Judge.admit_of
    Judge.judge_ticket Judge.judged_of Encode.counted Encode.limit_words Encode.loop_words Encode.array_words Encode.access_words Encode.statement_words
    Encode.nest_words Encode.encode Listing.digits Listing.decimal Listing.letter Listing.sign_char Listing.line_text Listing.head_text Listing.lines_of
    Listing.listing Quick.least_term Quick.greatest_term Quick.least_sum Quick.greatest_sum Quick.cut Quick.range_of Quick.ranges_from Quick.ranges
    Quick.difference Quick.divides Quick.never_zero Quick.some_apart Quick.is_apart Quick.quick_test Gcd.turns Gcd.gcd Gcd.gcd_of Store.base
    Store.place_from Store.place_of Store.sum Store.most Store.first_of Store.make Store.sum_whole Store.first_whole Store.wrapped Store.make_whole
    Store.store_words Store.perform_on Store.run_nest Store.own_rules Entries.judge_of Entries.hand_out Entries.write_of Entries.list_of Entries.all_accesses
    Entries.access_number Entries.quick_of Entries.transparent Entries.runnable Entries.run_outcome Entries.run_of Cases.filled Cases.cases
    Pairs.trades Pairs.pairs_at Pairs.all_pairs Pairs.traded Pairs.indices_in Pairs.record_of Pairs.fill Pairs.explain Pairs.traded_at Pairs.explain_ten
    Pairs.reason_of Readings.readings Readings.further_cases ReasonCases.reason_cases
computed = (
  (refl, (refl, (refl, (refl, (refl, (refl, (refl, (refl, (refl, (refl, (refl, (refl, (refl, (refl, (refl, (refl, tt)))))))))))))))),
  (refl, (refl, (refl, (refl, (refl, (refl, (refl, (refl, (refl, (refl, (refl, (refl, (refl, (refl, (refl, (refl, (refl, tt))))))))))))))))),
  (refl, (refl, (refl, (refl, (refl, (refl, (refl, (refl, (refl, (refl, (refl, (refl, (refl, tt))))))))))))),
  (refl, (refl, (refl, (refl, (refl, (refl, (refl, (refl, (refl, (refl, (refl, (refl, tt)))))))))))),
)

pub cases-hold : Cases.AllHold Cases.cases
cases-hold = computed.0

pub readings-hold : Cases.AllHold Readings.readings
readings-hold = computed.1

pub further-hold : Cases.AllHold Readings.further_cases
further-hold = computed.2

pub reasons-hold : Cases.AllHold ReasonCases.reason_cases
reasons-hold = computed.3
