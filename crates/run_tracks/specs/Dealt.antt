-- Each number of a channel is with the pass at home or with a worker.
use Rattle.std.specs.Prelude.{◌≡◌, ◌⊎◌, ◌<◌, ℕ, List, All, true, length, slice_index_or}
use Rattle.shared_channel.specs.Passes.{Known}
use Rattle.channel_lock.specs.Calls.{has}
use Rattle.channel_lock.specs.Turns.{HasAll}
use Rattle.run_tracks.specs.Homes.{EachTook}

-- a worker that uses a channel: the channel's place, and the number of the worker's pass
pub record Owner : Type 0 where
  pub place : ℕ
  pub number : ℕ

-- the pass at home at this place has this number
abbrev pub HasNumber : List Known → ℕ → ℕ → Type 0
HasNumber homes place number = (d : Known) → has (slice_index_or homes place d).view.numbers number ≡ true

-- one of the workers has this number in the channel at this place
abbrev pub IsOwned : List Owner → ℕ → ℕ → Type 0
IsOwned owners place number =
    (i : ℕ) × (i < length owners) × ((d : Owner) → slice_index_or owners i d ≡ record { place = place; number = number })

-- the pass at home has it, or a worker
abbrev pub AreDealt : List Known → List Owner → Type 0
AreDealt homes owners =
    (place : ℕ) (d : Known) → place < length homes → (n : ℕ) → n < (slice_index_or homes place d).view.passes
    → (has (slice_index_or homes place d).view.numbers n ≡ true) ⊎ IsOwned owners place n

-- Once the workers' passes are joined, those at home have each number.
abbrev pub EveryNumberIsHome : Type 0
EveryNumberIsHome =
    (old new : List Known) (owners : List Owner) → EachTook old new → All (λ o. HasNumber new o.place o.number) owners
    → AreDealt old owners → All (λ p. HasAll p.view) new
