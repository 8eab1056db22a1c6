-- The answer of writing a nest.
use Rattle.std.specs.Prelude.{◌≡◌, List, ◌++◌, ℕ, ◌≤◌, ◌<◌, length, drop, Result, Ok, Err}
use Rattle.model.specs.Ticket as Model
use Rattle.model.specs.Encode.{encode}
use Rattle.ticket_encoding.specs.declared.TooShort.{TooShort}

-- o became o': the nest's bytes and what stood behind them, or nothing was written
abbrev pub Encodes : Model.Nest → List ℕ → List ℕ → Result ℕ TooShort → Type 0
Encodes N o o' (Ok n) = (o' ≡ encode N ++ drop (length (encode N)) o) × (n ≡ length (encode N)) × (length (encode N) ≤ length o)
Encodes N o o' (Err short) = (o' ≡ o) × (short.needed ≡ length (encode N)) × (length o < length (encode N))
