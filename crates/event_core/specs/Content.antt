-- An event as contracts see it: its headers, its body and its bytes.
use Rattle.std.specs.Prelude.{◌≡◌, ◌≢◌, ℕ, List, ◌++◌, ◌+◌, length, take, slice_get, Option, Some, Contains, AllPairs, flat_map, sum_by}
use Rattle.std.specs.declared.cmp.Ordering.{Ordering}
use Rattle.std.specs.Ordering.{nat_cmp}
use Rattle.std.specs.Cmp.Lexicographic.{slice_cmp}
use Rattle.std.specs.List.{AllByRecursion}
use Rattle.std.specs.List.Sorted.{IsStrictlySortedBy}
use Rattle.std.specs.Map.{keys_of, lookup, remove_entry}
use Rattle.std.specs.BTreeMap.{insert_entry, is_at}
use Rattle.std.specs.Str.{IsUtf8}
use Rattle.event_core.specs.Numbers.{u32_bytes}

-- the bytes of a key and of its value
abbrev pub Header : Type 0
Header = List ℕ × List ℕ

pub record Content : Type 0 where
  pub headers : List (List ℕ × List ℕ)
  pub body : List ℕ

abbrev pub content : List Header → List ℕ → Content
content headers body = record { headers = headers; body = body }

-- keys are in the order of their bytes
abbrev pub key_cmp : List ℕ → List ℕ → Ordering
key_cmp = slice_cmp nat_cmp

abbrev pub IsTextHeader : Header → Type 0
IsTextHeader header = IsUtf8 header.0 × IsUtf8 header.1

-- what headers are: texts, each key above the one before
pub record AreHeaders (headers : List (List ℕ × List ℕ)) : Type 0 where
  pub rising : IsStrictlySortedBy key_cmp (keys_of headers)
  pub texts : AllByRecursion IsTextHeader headers

-- the value of a key, where it has one
abbrev pub value_of : List Header → List ℕ → Option (List ℕ)
value_of headers key = lookup (is_at (key_cmp key)) headers

-- the headers with this value at the key: an equal key takes it, and a new key goes to its place in the order
abbrev pub with_header : List Header → List ℕ → List ℕ → List Header
with_header headers key value = insert_entry key_cmp headers key value

-- the headers without the key
abbrev pub without_header : List Header → List ℕ → List Header
without_header headers key = remove_entry (is_at (key_cmp key)) headers

-- no two pairs have one key
abbrev pub HaveDistinctKeys : List Header → Type 0
HaveDistinctKeys pairs = AllPairs (λ a b. a ≢ b) (keys_of pairs)

-- the key of some pair repeats an earlier one, and is the first that does
pub record IsFirstRepeat (pairs : List (List ℕ × List ℕ)) (key : List ℕ) : Type 0 where
  pub place : ℕ
  pub value : List ℕ
  pub repeats : slice_get pairs place ≡ Some (key, value)
  pub earlier : Contains (keys_of (take place pairs)) key
  pub first : HaveDistinctKeys (take place pairs)

-- four bytes of length, and the bytes
abbrev pub counted_bytes : List ℕ → List ℕ
counted_bytes bytes = u32_bytes (length bytes) ++ bytes

abbrev pub header_bytes : Header → List ℕ
header_bytes header = counted_bytes header.0 ++ counted_bytes header.1

-- the bytes of an event: the count of its headers, each key and value, and the body
unfoldable pub event_bytes : Content → List ℕ
event_bytes event = u32_bytes (length event.headers) ++ flat_map header_bytes event.headers ++ counted_bytes event.body

-- the size of an event is the length of its bytes
abbrev pub size : Content → ℕ
size event = length (event_bytes event)

-- the length of a header's bytes
abbrev pub header_size : Header → ℕ
header_size header = length header.0 + length header.1 + 8

-- the length of the bytes of all headers
abbrev pub headers_size : List Header → ℕ
headers_size headers = sum_by header_size headers
