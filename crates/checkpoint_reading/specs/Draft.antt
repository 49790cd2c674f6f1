-- A checkpoint as far as it was read.
use Rattle.std.specs.Prelude.{◌≡◌, ◌≤◌, ℕ, List, [], length, map, false}
use Rattle.std.specs.List.{AllByRecursion}
use Rattle.flume_host.specs.Folder.{Files}
use Rattle.event_core.specs.Numbers.{u32_bytes}
use Rattle.checkpoint.specs.declared.place.Next.{Next}
use Rattle.checkpoint.specs.declared.place.Place.{Place}
use Rattle.checkpoint.specs.Says.{live_at}
use Rattle.checkpoint.specs.Text.{CheckText, Rise}
use Rattle.checkpoint_reading.specs.declared.draft.Draft.{Draft}
use Rattle.checkpoint_reading.specs.Fields.{Field, Is32, Outcome, PutsGive}
use Rattle.checkpoint_reading.specs.Logs.{IsSized}

-- what was read, as long as only events that are left were
abbrev pub live_text : Draft → CheckText
live_text d = record { place = d.place; next = d.next; live = map live_at d.ring.live; puts = []; takes = [] }

-- Events that are left were read, with numbers that rise below this one. None is held, and nothing is open.
pub record HasLive (d : Draft) (low : ℕ) : Type 0 where
  pub upto : low ≤ d.next.number
  pub rise : Rise 0 low (map live_at d.ring.live)
  pub top : d.ring.top ≤ low
  pub free : AllByRecursion (λ l. l.held ≡ false) d.ring.live
  pub slots : d.ring.slots ≡ d.slots
  pub within : length d.ring.live ≤ d.slots
  pub sized : AllByRecursion (λ l. IsSized l.pointer) d.ring.live
  pub closed : d.table ≡ []

-- it has this place and these next numbers
pub record IsOf (place : Place) (next : Next) (d : Draft) : Type 0 where
  pub place_is : d.place ≡ place
  pub next_is : d.next ≡ next

-- nothing was read but those
pub record IsFresh (place : Place) (next : Next) (d : Draft) : Type 0 where
  pub of : IsOf place next d
  pub empty : d.ring.live ≡ []
  pub live : HasLive d 0

-- the count of open puts, and these
abbrev pub OpenGive : Files → Outcome → CheckText → List ℕ → Type 0
OpenGive files o c = Field u32_bytes Is32 (PutsGive files o c 1) o
