-- When an event or its headers are refused.
use Rattle.std.specs.Prelude.{◌≡◌, ◌<◌, List}
use Rattle.std.specs.String.{string_bytes}
use Rattle.event_core.specs.Content.{Header, Content, IsFirstRepeat}
use Rattle.event_core.specs.Content as event
use Rattle.event_core.specs.declared.refused.EventRefused.{EventRefused}
use Rattle.event_core.specs.declared.refused.EventRefused.TheVariants.{RepeatedKey, TooLarge, NoMemory}

-- why pairs make no headers: a key stands twice, or memory is wanting
abbrev pub IsRefusalOfPairs : List Header → EventRefused → Type 0
IsRefusalOfPairs pairs (RepeatedKey key) = IsFirstRepeat pairs (string_bytes key)
IsRefusalOfPairs pairs (TooLarge size) = ⊥
IsRefusalOfPairs pairs NoMemory = Unit {0}

-- the event is refused for its size
abbrev pub IsTooLarge : Content → EventRefused → Type 0
IsTooLarge refused (RepeatedKey key) = ⊥
IsTooLarge refused (TooLarge size) = (size ≡ event.size refused) × (33_554_432 < size)
IsTooLarge refused NoMemory = ⊥

-- why there is no such event: its size, or memory is wanting
abbrev pub IsRefusalOfEvent : Content → EventRefused → Type 0
IsRefusalOfEvent refused (RepeatedKey key) = ⊥
IsRefusalOfEvent refused (TooLarge size) = (size ≡ event.size refused) × (33_554_432 < size)
IsRefusalOfEvent refused NoMemory = Unit {0}
