-- Headers that groups of a match are extracted to.
use Rattle.std.specs.Prelude.{◌≡◌, ℕ, ◌+◌, List, [], ◌∷◌, Option, Some, None, map, option_map, option_and_then, slice_range, string_bytes, Any, if◌then◌else◌}
use Rattle.std.specs.Str.{is_utf8}
use Rattle.std.specs.Fmt.{signed_decimal}
use Rattle.std.specs.declared.string.String.{String}
use Rattle.std.specs.declared.alloc.Global.{Global}
use Rattle.event_core.specs.Content.{Header, with_header}
use Rattle.regex.specs.Patterns.{Match}
use Rattle.regex.specs.Writes.{group_of}
use Rattle.regex_steps.specs.declared.keys.Group.{Group}
use Rattle.regex_steps.specs.declared.groups.Serializer as declared
use Rattle.regex_steps.specs.declared.patterns.Patterns.{Patterns}
use Rattle.regex_steps.specs.Dates.{Piece, IsPattern, IsNoDatePattern, milliseconds_in}
use Rattle.regex_steps.specs.Search.{first_match}

-- what becomes of a group: the key of its header, and a pattern where the group is a date
pub record Serializer : Type 0 where
  pub name : List ℕ
  pub date : Option (List Piece)

abbrev pub serializer_of : declared.Serializer → Serializer
serializer_of s = record { name = string_bytes s.name; date = s.date }

abbrev pub serializers_of : List declared.Serializer → List Serializer
serializers_of ss = map serializer_of ss

-- the header's value: the bytes, where they are text, or the milliseconds of the date, where they are one
abbrev pub value_of : Option (List Piece) → List ℕ → Option (List ℕ)
value_of None bytes = if is_utf8 bytes then Some bytes else None
value_of (Some pieces) bytes = option_map signed_decimal (milliseconds_in pieces bytes)

abbrev pub with_value : List Header → List ℕ → Option (List ℕ) → List Header
with_value headers name None = headers
with_value headers name (Some value) = with_header headers name value

-- A header gets the value of its group. A group that took no part sets none.
abbrev pub with_group : List Header → Serializer → Option (List ℕ) → List Header
with_group headers s group = with_value headers s.name (option_and_then (value_of s.date) group)

-- the groups from a number on, each for the next header
abbrev pub extracted : (ℕ → Option (List ℕ)) → ℕ → List Serializer → List Header → List Header
extracted group n [] headers = headers
extracted group n (s ∷ ss) headers = extracted group (n + 1) ss (with_group headers s (group n))

-- what a group of a match matched in a body, where it took part
abbrev pub group_in : List ℕ → Match → ℕ → Option (List ℕ)
group_in body m n = option_map (λ s. slice_range body s.0 s.1) (group_of m n)

-- the headers after the first match, or after none
abbrev pub headers_of : List ℕ → List Serializer → List Header → Option Match → List Header
headers_of body ss headers None = headers
headers_of body ss headers (Some m) = extracted (group_in body m) 1 ss headers

abbrev pub headers_after : Patterns → List Serializer → List ℕ → List Header → List Header
headers_after p ss body headers = headers_of body ss headers (first_match p body)

-- the pieces are those of the text's pattern, and there are none without a text
abbrev pub IsDate : Option (String Global) → Option (List Piece) → Type 0
IsDate None None = Unit {0}
IsDate None (Some pieces) = ⊥
IsDate (Some text) None = ⊥
IsDate (Some text) (Some pieces) = IsPattern (string_bytes text) pieces

abbrev pub IsSerializer : Group → Serializer → Type 0
IsSerializer g s = (s.name ≡ string_bytes g.name) × IsDate g.millis s.date

-- each group has its own, in order
abbrev pub AreSerializers : List Group → List Serializer → Type 0
AreSerializers [] [] = Unit {0}
AreSerializers [] (s ∷ ss) = ⊥
AreSerializers (g ∷ gs) [] = ⊥
AreSerializers (g ∷ gs) (s ∷ ss) = IsSerializer g s × AreSerializers gs ss

-- a text that is no pattern of dates stands for one
abbrev pub IsBadDate : Option (String Global) → Type 0
IsBadDate None = ⊥
IsBadDate (Some text) = IsNoDatePattern (string_bytes text)

abbrev pub HasBadDate : List Group → Type 0
HasBadDate groups = Any (λ g. IsBadDate g.millis) groups
