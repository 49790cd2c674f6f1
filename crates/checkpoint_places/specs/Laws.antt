-- Laws of the checkpoint of a channel's places.
use Rattle.std.specs.Prelude.{◌≡◌, ◌<◌, ◌≤◌, ◌^◌, ℕ, [], ◌++◌, length, IsSomeAnd}
use Rattle.std.specs.List.{AllByRecursion}
use Rattle.flume_host.specs.Folder.{Files}
use Rattle.flume_host.specs.declared.names.FileName.TheVariants.{Log}
use Rattle.event_core.specs.Content.{Content}
use Rattle.event_core.specs.Journal.{IsNotEmpty}
use Rattle.record_form.specs.declared.record.Pointer.{Pointer}
use Rattle.event_ring.specs.Slots.{Index}
use Rattle.channel_face.specs.Machine.{State, entry_of}
use Rattle.channel_places.specs.Looks.{Known, Looks, Places, StandsIn}
use Rattle.channel_replay.specs.Open.{keys}
use Rattle.channel_replay.specs.Start.{AreApart}
use Rattle.channel_replay.specs.StartLaws.{busy_ones, done_of}
use Rattle.checkpoint.specs.declared.place.Place.{Place}
use Rattle.checkpoint.specs.Right.{IsRight, PutIn, PutOf}
use Rattle.checkpoint.specs.Says.{Says, puts_at, takes_at}
use Rattle.checkpoint_places.specs.Texts.{puts_done, started, takes_done, text_of}

-- There are so few events and transactions, and each of these has so few, that a checkpoint can say how many.
pub record AreFew (p : Places) (s : State) : Type 0 where
  pub live : length p.live < 2 ^ 32
  pub puts : (txn : ℕ) → length (puts_at p.opened txn) < 2 ^ 32
  pub takes : (txn : ℕ) → length (takes_at p.opened txn) < 2 ^ 32
  pub opened : length s.opened ≤ 1024
  pub low : AllByRecursion (λ o. 1 ≤ o.0) s.opened
  pub txn : (1 ≤ s.txn) × (s.txn < 2 ^ 64)

-- A checkpoint of places says just this of their ring and table.
abbrev pub PlacesAreSaid : Type 0
PlacesAreSaid =
    (settled known : Known) (p : Places) (s : State) (place : Place) (ring : Index) → Looks settled known p s → s.txn < 2 ^ 64 → ring.live ≡ p.live
    → Says place (record { number = p.numbers.first; txn = p.numbers.txn }) ring p.opened (text_of place p s)

-- a PUT of this transaction stands at the pointer in a file that is there
abbrev pub IsPutOf : Files → ℕ → Pointer → Type 0
IsPutOf files txn p = (event : Content) × PutOf files txn p event

-- Nothing is staged, a folder has the place, and in it stand the events that are known, and each open put as one of its own transaction.
pub record HasPlaces (files : Files) (known : Known) (p : Places) (s : State) (place : Place) : Type 0 where
  pub staged : s.staged ≡ []
  pub there : IsSomeAnd (files (Log place.file)) (λ bytes. (16 ≤ place.at) × (place.at < length bytes))
  pub puts : (q : Pointer) (event : Content) → StandsIn known q event → PutIn files q event
  pub own : (txn : ℕ) → AllByRecursion (λ q. IsPutOf files txn q) (puts_at p.opened txn)

-- The text is right for such a folder: the state's events are left there, and its open transactions are open.
abbrev pub PlacesAreRight : Type 0
PlacesAreRight =
    (files : Files) (known : Known) (p : Places) (s : State) (place : Place) → Looks known known p s → AreFew p s → HasPlaces files known p s place
    → IsRight files (text_of place p s) s.items (puts_done s.opened ++ takes_done s.opened)

-- Its start has each open transaction that did something, with just that.
pub record IsStarted (s : State) : Type 0 where
  pub each : (n : ℕ) → entry_of n (started s).opened ≡ done_of (entry_of n s.opened)
  pub as_many : length (started s).opened ≡ length (busy_ones s.opened)
  pub apart : AreApart (keys (started s).opened)
  pub some : AllByRecursion (λ o. IsNotEmpty o.1) (started s).opened
  pub below : AllByRecursion (λ o. o.0 < s.txn) (started s).opened

abbrev pub StateHasStart : Type 0
StateHasStart = (settled known : Known) (p : Places) (s : State) → Looks settled known p s → IsStarted s
