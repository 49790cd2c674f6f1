-- How the passes of channels are dealt to workers.
use Rattle.std.specs.Prelude.{◌≡◌, ◌⊎◌, ◌<◌, ℕ, List, [], ◌∷◌, ◌++◌, true, length, slice_index_or, slice_set}
use Rattle.atomic_table.specs.Seated.{TableId}
use Rattle.channel_face.specs.History.{Opening}
use Rattle.shared_channel.specs.Passes.{Known, new_passes}
use Rattle.channel_lock.specs.Calls.{has}
use Rattle.run_tracks.specs.Dealt.{AreDealt, IsOwned, Owner}

-- one of these passes has this number
abbrev pub IsInHand : List Known → ℕ → Type 0
IsInHand [] n = ⊥
IsInHand (pass ∷ hand) n = (pass.number ≡ n) ⊎ IsInHand hand n

-- Each number of a channel is with this pass at home, with one of the workers, or with a pass that is still to be dealt.
abbrev pub IsWith : Known → List Owner → ℕ → List Known → Type 0
IsWith home owners place hand =
    (n : ℕ) → n < home.view.passes → (has home.view.numbers n ≡ true) ⊎ (IsOwned owners place n ⊎ IsInHand hand n)

-- It is so of each channel.
abbrev pub AreDealtBut : List Known → List Owner → List (List Known) → Type 0
AreDealtBut homes owners hands =
    (place : ℕ) (d : Known) → place < length homes → IsWith (slice_index_or homes place d) owners place (slice_index_or hands place [])

-- Of a channel's new passes the first stays at home, and the others are to be dealt.
abbrev pub DealingBegins : Type 0
DealingBegins =
    (table : TableId) (start : Opening) (passes : ℕ) (home : Known) (hand : List Known) (owners : List Owner) (place : ℕ)
    → new_passes table start passes passes ≡ home ∷ hand → IsWith home owners place hand

-- One more channel's passes are dealt.
abbrev pub DealingGoesOn : Type 0
DealingGoesOn =
    (homes : List Known) (hands : List (List Known)) (owners : List Owner) (home : Known) (hand : List Known)
    → length hands ≡ length homes → AreDealtBut homes owners hands → IsWith home owners (length homes) hand
    → AreDealtBut (homes ++ home ∷ []) owners (hands ++ hand ∷ [])

-- The last pass of a channel is dealt to a worker.
abbrev pub DealsOne : Type 0
DealsOne =
    (homes : List Known) (hands : List (List Known)) (owners : List Owner) (place : ℕ) (hand : List Known) (pass : Known)
    → place < length hands → slice_index_or hands place [] ≡ hand ++ pass ∷ [] → AreDealtBut homes owners hands
    → AreDealtBut homes (owners ++ record { place = place; number = pass.number } ∷ []) (slice_set hands place hand)

-- Where none is left, each number is with the pass at home or with a worker.
abbrev pub DealingEnds : Type 0
DealingEnds =
    (homes : List Known) (hands : List (List Known)) (owners : List Owner)
    → ((place : ℕ) → slice_index_or hands place [] ≡ []) → AreDealtBut homes owners hands → AreDealt homes owners
