-- Copies of the parts of a plan: each text has the same bytes, and each list the same items.
use Rattle.std.specs.Prelude.{◌≡◌, ℕ, List, map, Option, string_bytes}
use Rattle.std.specs.Option.{option_map}
use Rattle.interceptors.specs.declared.step.Step.{Step}
use Rattle.interceptors.specs.declared.step.Step.TheVariants.{Timestamp, Host, Static, Remove}
use Rattle.regex_steps.specs.declared.keys.Group.{Group}
use Rattle.regex_steps.specs.declared.keys.RegexKeys.{RegexKeys}
use Rattle.regex_steps.specs.declared.keys.RegexKeys.TheVariants.{Filter, Extract, Replace}
use Rattle.selectors.specs.declared.selector.Selector.{Selector}
use Rattle.selectors.specs.declared.selector.Selector.TheVariants.{Replicating, Multiplexing}
use Rattle.agent_plan.specs.Values.{seen_pair}
use Rattle.source_put.specs.declared.chain.HostNames.{HostNames}

abbrev pub IsSameStep : Step → Step → Type 0
IsSameStep (Timestamp header preserve) (Timestamp copy kept) = (string_bytes copy ≡ string_bytes header) × (kept ≡ preserve)
IsSameStep (Host use_ip header preserve) (Host wanted copy kept) = (wanted ≡ use_ip) × (string_bytes copy ≡ string_bytes header) × (kept ≡ preserve)
IsSameStep (Static key value preserve) (Static copy text kept) =
    (string_bytes copy ≡ string_bytes key) × (string_bytes text ≡ string_bytes value) × (kept ≡ preserve)
IsSameStep (Remove names) (Remove copies) = map string_bytes copies.items ≡ map string_bytes names.items
IsSameStep step other = ⊥

-- the key of a group's header, and the pattern of its date
abbrev pub seen_group : Group → List ℕ × Option (List ℕ)
seen_group group = (string_bytes group.name, option_map string_bytes group.millis)

abbrev pub AreSameKeys : RegexKeys → RegexKeys → Type 0
AreSameKeys (Filter regex exclude) (Filter copy out) = (string_bytes copy ≡ string_bytes regex) × (out ≡ exclude)
AreSameKeys (Extract regex groups) (Extract copy copies) =
    (string_bytes copy ≡ string_bytes regex) × (map seen_group copies.items ≡ map seen_group groups.items)
AreSameKeys (Replace search text) (Replace copy put) = (string_bytes copy ≡ string_bytes search) × (string_bytes put ≡ string_bytes text)
AreSameKeys keys other = ⊥

abbrev pub IsSameSelector : Selector → Selector → Type 0
IsSameSelector (Replicating channels optional) (Replicating count copies) = (count ≡ channels) × (copies.items ≡ optional.items)
IsSameSelector (Multiplexing header mapping default optional) (Multiplexing copy maps rest others) =
    (string_bytes copy ≡ string_bytes header)
    × (map seen_pair maps.items ≡ map seen_pair mapping.items)
    × (rest.items ≡ default.items)
    × (map seen_pair others.items ≡ map seen_pair optional.items)
IsSameSelector selector other = ⊥

abbrev pub AreSameNames : HostNames → HostNames → Type 0
AreSameNames names copy = (string_bytes copy.name ≡ string_bytes names.name) × (string_bytes copy.address ≡ string_bytes names.address)
