-- What each interceptor makes of an event.
use Rattle.std.specs.Prelude.{ℕ, Bool, ◌&&◌, List, [], ◌∷◌, if◌then◌else◌, is_some, string_bytes}
use Rattle.std.specs.Fmt.{decimal}
use Rattle.std.specs.declared.string.String.{String}
use Rattle.std.specs.declared.alloc.Global.{Global}
use Rattle.event_core.specs.Content.{Content, Header, content, value_of, with_header, without_header}
use Rattle.interceptors.specs.declared.step.Step.{Step}
use Rattle.interceptors.specs.declared.step.Step.TheVariants.{Timestamp, Host, Static, Remove}

-- the event with this header, or as it is where the header is there and stays
abbrev pub set_unless : Bool → Content → List ℕ → List ℕ → Content
set_unless preserve event key value = if preserve && is_some (value_of event.headers key) then event else content (with_header event.headers key value) event.body

-- the headers without those of these keys
abbrev pub without_all : List (String Global) → List Header → List Header
without_all [] headers = headers
without_all (name ∷ names) headers = without_all names (without_header headers (string_bytes name))

-- the event after a step, at this moment, on the host of this text
abbrev pub applied : Step → ℕ → List ℕ → Content → Content
applied (Timestamp header preserve) moment host event = set_unless preserve event (string_bytes header) (decimal moment)
applied (Host use_ip header preserve) moment host event = set_unless preserve event (string_bytes header) host
applied (Static key value preserve) moment host event = set_unless preserve event (string_bytes key) (string_bytes value)
applied (Remove names) moment host event = content (without_all names.items event.headers) event.body
