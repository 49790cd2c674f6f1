-- Which channels of a source have to take an event, and which may miss it.
use Rattle.std.specs.Prelude.{ℕ, zero, suc, List, [], ◌∷◌, ◌++◌, if◌then◌else◌, Option, Some, None, bytes_eq, string_bytes}
use Rattle.std.specs.declared.string.String.{String}
use Rattle.std.specs.declared.vec.Vec.{Vec}
use Rattle.std.specs.declared.alloc.Global.{Global}
use Rattle.event_core.specs.Content.{Header, value_of}
use Rattle.event_core.specs.Journal.{is_among}
use Rattle.selectors.specs.declared.selector.Selector.{Selector}
use Rattle.selectors.specs.declared.selector.Selector.TheVariants.{Replicating, Multiplexing}

-- the places that are not among the others
abbrev pub without : List ℕ → List ℕ → List ℕ
without others [] = []
without others (place ∷ places) = if is_among others place then without others places else place ∷ without others places

-- the places from 0 on
abbrev pub places_below : ℕ → List ℕ
places_below zero = []
places_below (suc n) = places_below n ++ n ∷ []

-- the places of a value: those of its first pair, and none without one
abbrev pub mapped_value : List (String Global × Vec ℕ Global) → List ℕ → List ℕ
mapped_value [] value = []
mapped_value (pair ∷ pairs) value = if bytes_eq (string_bytes pair.0) value then pair.1.items else mapped_value pairs value

abbrev pub mapped : List (String Global × Vec ℕ Global) → Option (List ℕ) → List ℕ
mapped pairs None = []
mapped pairs (Some value) = mapped_value pairs value

-- the places, or others where there are none
abbrev pub or_else : List ℕ → List ℕ → List ℕ
or_else [] others = others
or_else (place ∷ places) others = place ∷ places

-- The channels that have to take an event with these headers: all but the optional ones, or those of the header's value, or
-- where it has none the default ones.
abbrev pub required : Selector → List Header → List ℕ
required (Replicating channels others) headers = without others.items (places_below channels)
required (Multiplexing header mapping default others) headers = or_else (mapped mapping.items (value_of headers (string_bytes header))) default.items

-- The channels that may miss it: the optional ones that are not required.
abbrev pub optional : Selector → List Header → List ℕ
optional (Replicating channels others) headers = without (required (Replicating channels others) headers) others.items
optional (Multiplexing header mapping default others) headers = without (required (Multiplexing header mapping default others) headers) (mapped others.items (value_of headers (string_bytes header)))
