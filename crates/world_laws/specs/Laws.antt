-- Laws of the world.
use Rattle.std.specs.Prelude.{◌≡◌, ◌⊎◌, ℕ, List, length, slice_get, Some}
use Rattle.event_core.specs.Content.{Content}
use Rattle.event_core.specs.Journal.{put_events}
use Rattle.world_laws.specs.World.{World, Work, Channel}
use Rattle.world_laws.specs.Steps.{Step, happens, next, run}
use Rattle.world_laws.specs.Held.{IsAck, AtChannel, Held}
use Rattle.world_laws.specs.New.{IsNew}
use Rattle.world_laws.specs.Stays.{GoesOn}
use Rattle.world_laws.specs.Kept.{EachStands, Anything, KeptWithin, ChannelsAreThere, LinksRise, NoneIsNamedTwice, IsStillLeft, WasTakenOnce}

-- In a new world the accounting holds.
abbrev pub NewIsHeld : Type 0
NewIsHeld = (w : World) → IsNew w → Held w

-- Where it holds, it holds after each step, whether or not this can be taken.
abbrev pub EachStepKeeps : Type 0
EachStepKeeps = (w : World) (step : Step) → Held w → Held (next w (happens w step))

-- So it holds after every list of steps from a new world.
abbrev pub EveryRunKeeps : Type 0
EveryRunKeeps = (w : World) (steps : List Step) → IsNew w → Held (run w steps)

-- Over every list of steps nothing is taken back: each acknowledgement, output place, settled entry and packet stays, and so do the settings.
abbrev pub NothingIsTakenBack : Type 0
NothingIsTakenBack = (w : World) (steps : List Step) → Held w → GoesOn w (run w steps)

-- Where it holds, and selectors name channels that are there, each event that the chain made of an acknowledged batch is left in each channel that
-- it has to reach, or went on from there.
abbrev pub AcknowledgedIsKept : Type 0
AcknowledgedIsKept =
    (w : World) (n place : ℕ) (ack : Work) → Held w → ChannelsAreThere w → IsAck w n place ack → EachStands Anything w n ack

-- And so on, down to the last hop: over every list of steps from a new world whose links have no cycle and whose selectors name channels that are
-- there, each acknowledged batch is kept within as many hops as there are nodes.
abbrev pub AcknowledgedIsKeptDown : Type 0
AcknowledgedIsKeptDown =
    (w : World) (steps : List Step) (n place : ℕ) (ack : Work) → IsNew w → ChannelsAreThere w → LinksRise w
    → IsAck (run w steps) n place ack → KeptWithin (length w.nodes) (run w steps) n ack

-- Where the accounting holds, no delivery is named twice.
abbrev pub NoDeliveryTwice : Type 0
NoDeliveryTwice = (w : World) → Held w → NoneIsNamedTwice w

-- And each number that was put, and settled, in a channel is left with its event or was taken once, and not both.
abbrev pub EachIsLeftOrTakenOnce : Type 0
EachIsLeftOrTakenOnce =
    (w : World) (n channel number : ℕ) (c : Channel) (e : Content) → Held w → AtChannel w n channel c
    → slice_get (put_events c.journal) number ≡ Some e
    → IsStillLeft c number e ⊎ WasTakenOnce c number
