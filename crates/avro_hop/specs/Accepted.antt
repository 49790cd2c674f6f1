-- Which protocol texts of a client are accepted: those whose messages are written as this agent's are.
use Rattle.std.specs.Prelude.{ℕ, ◌+◌, ◌-◌, Bool, true, false, ◌&&◌, ◌||◌, ◌==◌, not, is_some, List, ◌∷◌, length, drop, codes}
use Rattle.std.specs.Option.{option_map_or}
use Rattle.std.specs.Str.{bytes_eq}
use Rattle.serde_json.specs.Data.{Data, null, boolean, number, string, array, object, Items, no_items, item, Members, no_members, member}
use Rattle.serde_json.specs.Find.{get, at, as_str, as_array, as_object, as_bool}
use Rattle.serde_json.specs.Events.{items_len, members_len}
use Rattle.serde_json.specs.Read.{read}

-- ---- words for a look into a value

-- the member of this name passes; where there is none, it doesn't
abbrev pub has : List ℕ → (Data → Bool) → Data → Bool
has name passes d = option_map_or passes (get name d) false

-- the member of this name passes, or there is none
abbrev pub fits : List ℕ → (Data → Bool) → Data → Bool
fits name passes d = option_map_or passes (get name d) true

-- the item at this place passes
abbrev pub has_at : ℕ → (Data → Bool) → Data → Bool
has_at i passes d = option_map_or passes (at i d) false

abbrev pub is_array : Data → Bool
is_array d = is_some (as_array d)

-- an array of so many items
abbrev pub is_array_of : ℕ → Data → Bool
is_array_of n d = option_map_or (λ ds. items_len ds == n) (as_array d) false

-- an object of so many members
abbrev pub is_object_of : ℕ → Data → Bool
is_object_of n d = option_map_or (λ ms. members_len ms == n) (as_object d) false

-- this text
abbrev pub is_text : List ℕ → Data → Bool
is_text text d = option_map_or (λ s. bytes_eq s text) (as_str d) false

-- a name that is this text alone, or after a namespace and a dot
abbrev pub is_named : List ℕ → List ℕ → Bool
is_named text name = bytes_eq name text || bytes_eq (drop (length name - (length text + 1)) name) (46 ∷ text)

abbrev pub is_name : List ℕ → Data → Bool
is_name text d = option_map_or (is_named text) (as_str d) false

-- ---- the types

-- a text has two spellings
abbrev pub is_string_type : Data → Bool
is_string_type d = is_text (codes "string") d || has (codes "type") (is_text (codes "string")) d

-- a map of texts
abbrev pub is_headers_type : Data → Bool
is_headers_type d = has (codes "type") (is_text (codes "map")) d && has (codes "values") is_string_type d

-- a field or a parameter of this name and type
abbrev pub is_field : List ℕ → (Data → Bool) → Data → Bool
is_field name is_type d = has (codes "name") (is_text name) d && has (codes "type") is_type d

abbrev pub are_symbols : Data → Bool
are_symbols d = is_array_of 3 d && has_at 0 (is_text (codes "OK")) d && has_at 1 (is_text (codes "FAILED")) d && has_at 2 (is_text (codes "UNKNOWN")) d

-- the enum Status, written out
abbrev pub is_status : Data → Bool
is_status d = has (codes "type") (is_text (codes "enum")) d && has (codes "name") (is_name (codes "Status")) d && has (codes "symbols") are_symbols d

abbrev pub are_fields : Data → Bool
are_fields d = is_array_of 2 d && has_at 0 (is_field (codes "headers") is_headers_type) d && has_at 1 (is_field (codes "body") (is_text (codes "bytes"))) d

-- the record AvroFlumeEvent, written out
abbrev pub is_event : Data → Bool
is_event d = has (codes "type") (is_text (codes "record")) d && has (codes "name") (is_name (codes "AvroFlumeEvent")) d && has (codes "fields") are_fields d

-- a type is named, or written out where it is used
abbrev pub is_status_type : Data → Bool
is_status_type d = is_name (codes "Status") d || is_status d

abbrev pub is_event_type : Data → Bool
is_event_type d = is_name (codes "AvroFlumeEvent") d || is_event d

abbrev pub is_events_type : Data → Bool
is_events_type d = has (codes "type") (is_text (codes "array")) d && has (codes "items") is_event_type d

-- one of Avro's kinds of named type
abbrev pub is_named_kind : Data → Bool
is_named_kind d = is_text (codes "enum") d || is_text (codes "record") d || is_text (codes "error") d || is_text (codes "fixed") d

-- a type of this name is written out
abbrev pub defines : List ℕ → Data → Bool
defines name d = has (codes "type") is_named_kind d && has (codes "name") (is_name name) d

-- another type under one of the two names
abbrev pub is_other : Data → Bool
is_other d = (defines (codes "Status") d && not (is_status d)) || (defines (codes "AvroFlumeEvent") d && not (is_event d))

-- ---- types within types

-- the keys of a type under which types stand
abbrev pub is_nesting : List ℕ → Bool
is_nesting key = bytes_eq key (codes "type") || bytes_eq key (codes "items") || bytes_eq key (codes "values")

-- the key of a record under which its fields stand
abbrev pub is_fields : List ℕ → Bool
is_fields key = bytes_eq key (codes "fields")

-- the key of a field or a parameter under which its type stands
abbrev pub is_typing : List ℕ → Bool
is_typing key = bytes_eq key (codes "type")

abbrev mutual
  -- Some type passes: the one that is written here, or one within it at any depth.
  pub has_type : (Data → Bool) → Data → Bool
  has_type passes null = false
  has_type passes (boolean b) = false
  has_type passes (number n) = false
  has_type passes (string s) = false
  has_type passes (array ds) = has_type_in_items passes ds
  has_type passes (object ms) = passes (object ms) || has_type_in_members passes ms

  pub has_type_in_items : (Data → Bool) → Items → Bool
  has_type_in_items passes no_items = false
  has_type_in_items passes (item d ds) = has_type passes d || has_type_in_items passes ds

  pub has_type_in_members : (Data → Bool) → Members → Bool
  has_type_in_members passes no_members = false
  has_type_in_members passes (member key d ms) = (is_nesting key && has_type passes d || is_fields key && has_field_type passes d) || has_type_in_members passes ms

  -- Some type passes in a list of fields or of parameters. These are no types themselves, whatever they are named.
  pub has_field_type : (Data → Bool) → Data → Bool
  has_field_type passes null = false
  has_field_type passes (boolean b) = false
  has_field_type passes (number n) = false
  has_field_type passes (string s) = false
  has_field_type passes (array ds) = has_type_in_fields passes ds
  has_field_type passes (object ms) = false

  pub has_type_in_fields : (Data → Bool) → Items → Bool
  has_type_in_fields passes no_items = false
  has_type_in_fields passes (item d ds) = has_own_type passes d || has_type_in_fields passes ds

  pub has_own_type : (Data → Bool) → Data → Bool
  has_own_type passes null = false
  has_own_type passes (boolean b) = false
  has_own_type passes (number n) = false
  has_own_type passes (string s) = false
  has_own_type passes (array ds) = false
  has_own_type passes (object ms) = has_type_of_field passes ms

  pub has_type_of_field : (Data → Bool) → Members → Bool
  has_type_of_field passes no_members = false
  has_type_of_field passes (member key d ms) = is_typing key && has_type passes d || has_type_of_field passes ms

-- ---- the messages

abbrev pub is_request : List ℕ → (Data → Bool) → Data → Bool
is_request name is_type d = is_array_of 1 d && has_at 0 (is_field name is_type) d

abbrev pub is_false : Data → Bool
is_false d = option_map_or not (as_bool d) false

-- a message of one parameter, which is answered by a Status
abbrev pub is_message : List ℕ → (Data → Bool) → Data → Bool
is_message name is_type d = has (codes "request") (is_request name is_type) d && has (codes "response") is_status_type d && fits (codes "errors") (is_array_of 0) d && fits (codes "one-way") is_false d

abbrev pub are_messages : Data → Bool
are_messages d = is_object_of 2 d && has (codes "append") (is_message (codes "event") is_event_type) d && has (codes "appendBatch") (is_message (codes "events") is_events_type) d

-- ---- where types are written out: among the types, and where a message uses them

-- among a message's parameters and in its response
abbrev pub has_in_message : (Data → Bool) → Data → Bool
has_in_message passes d = has (codes "request") (has_field_type passes) d || has (codes "response") (has_type passes) d

abbrev pub has_in_messages : (Data → Bool) → Data → Bool
has_in_messages passes d = has (codes "append") (has_in_message passes) d || has (codes "appendBatch") (has_in_message passes) d

abbrev pub writes_out : (Data → Bool) → Data → Bool
writes_out passes d = has (codes "types") (has_type passes) d || has (codes "messages") (has_in_messages passes) d

-- Both types are written out somewhere, and nowhere is another type under one of their names.
abbrev pub is_protocol : Data → Bool
is_protocol d = fits (codes "types") is_array d && has (codes "messages") are_messages d && writes_out is_status d && writes_out is_event d && not (writes_out is_other d)

-- the text is JSON of such a protocol
abbrev pub is_accepted : List ℕ → Bool
is_accepted text = option_map_or is_protocol (read text) false
