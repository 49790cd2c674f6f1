-- What a step did that may not be possible.
use Rattle.std.specs.Prelude.{◌≡◌, ℕ, List, [], ◌∷◌, Bool, true, false, Option, Some, None, Result, Ok, Err}
use Rattle.event_core.specs.declared.refused.NoMemory.{NoMemory}
use Rattle.world_laws.specs.World.{Channel, Packet}
use Rattle.world_laws.specs.Channels.{take_begun}

-- It was taken and led here, or it can't be taken, or there was no memory. Only the first changes something.
abbrev pub Did : {A : Type 0} → Option A → A → Result Bool NoMemory → A → Type 0
Did goal old (Ok true) new = goal ≡ Some new
Did goal old (Ok false) new = (goal ≡ None) × (new ≡ old)
Did goal old (Err refused) new = new ≡ old

-- The same of a step that sends a packet.
abbrev pub Sent : {A : Type 0} → Option (A × List Packet) → A → Result (Option Packet) NoMemory → A
    → Type 0
Sent goal old (Ok (Some packet)) new = goal ≡ Some (new, packet ∷ [])
Sent goal old (Ok None) new = (goal ≡ None) × (new ≡ old)
Sent goal old (Err refused) new = new ≡ old

-- the channel with a transaction of takes, and its token's life and number
abbrev pub IsTakeBegun : Channel → Option (Channel × ℕ × ℕ) → Type 0
IsTakeBegun old None = take_begun old ≡ None
IsTakeBegun old (Some begun) =
    (take_begun old ≡ Some begun.0) × (begun.1 ≡ old.state.life) × (begun.2 ≡ old.state.txn)
