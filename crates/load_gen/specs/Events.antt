-- The events of a run.
use Rattle.std.specs.Prelude.{ℕ, zero, suc, ◌+◌, ◌-◌, ◌*◌, ◌%◌, ◌^◌, ◌/◌, min, List, [], ◌++◌, map, codes, decimal}
use Rattle.std.specs.List.{range_with_len}
use Rattle.event_core.specs.Content.{Content, content}
use Rattle.std.specs.Int.{to_be_bytes, w64}
use Rattle.hex.specs.Hex.{encode_lower}

-- Of a run of n events the number in the text of event i: n itself, and then by a linear congruence.
abbrev pub seed : ℕ → ℕ → ℕ
seed n zero = n
seed n (suc i) = (seed n i * 6364136223846793005 + 1442695040888963407) % 2 ^ 64

-- a number in 16 hexadecimal digits
abbrev pub hex : ℕ → List ℕ
hex x = encode_lower (to_be_bytes w64 x)

-- the body of the event of this number, with this number in its text
abbrev pub body : ℕ → ℕ → List ℕ
body i x = (codes "event " ++ (decimal i ++ codes " ")) ++ hex x

-- event i of a run of n: no headers
abbrev pub event : ℕ → ℕ → Content
event n i = content [] (body i (seed n i))

-- so many events of a run of n from event i on
abbrev pub events_from : ℕ → ℕ → ℕ → List Content
events_from n i count = map (event n) (range_with_len i count)

-- a run puts its events in batches of 100, the last perhaps shorter
abbrev pub batches : ℕ → ℕ
batches n = (n + 99) / 100

-- batch k, counted from 0
abbrev pub batch : ℕ → ℕ → List Content
batch n k = events_from n (100 * k) (min 100 (n - 100 * k))
