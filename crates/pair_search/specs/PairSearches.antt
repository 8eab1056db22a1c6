-- What is asked of a search, and what it finds.
use Rattle.std.specs.Prelude.{List, ℤ, take}
use Rattle.nest_flat.specs.FlatNests.{FlatNest, flat_nest, nest_of}
use Rattle.ticket_steps.specs.Steps.{steps_of}
use Rattle.pair_records.specs.declared.Walked.{Walked}
use Rattle.pair_search.specs.Searches.{SearchIn, Searched}
use Rattle.pair_search.specs.declared.PairSearch.{PairSearch}

abbrev pub nest_in : PairSearch → FlatNest
nest_in s = flat_nest s.header s.limits.now s.words.now

abbrev pub Asks : PairSearch → List ℤ → Type 0
Asks s found = SearchIn (nest_in s) s.steps s.count s.step s.from found

abbrev pub Finds : PairSearch → Walked → List ℤ → Type 0
Finds s r found = Searched (take s.step (steps_of s.steps)) (nest_of (nest_in s)) s.from s.skip r found
