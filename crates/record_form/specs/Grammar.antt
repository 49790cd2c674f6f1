-- How a record is read, field by field.
use Rattle.std.specs.Prelude.{ℕ, zero, suc, ◌+◌, List, [], ◌∷◌, ◌++◌, length, take, drop, slice_index, Bool, true, false, not, nat_lt, ◌==◌, ◌&&◌, if◌then◌else◌, Option, Some, None}
use Rattle.std.specs.Ordering.{is_lt}
use Rattle.std.specs.Str.{is_utf8}
use Rattle.byteorder.specs.Endian.{big_number}
use Rattle.event_core.specs.Content.{Header, content, key_cmp}
use Rattle.record_form.specs.Record.{record_kind}
use Rattle.record_form.specs.declared.record.Rec.{Rec}
use Rattle.record_form.specs.declared.record.Rec.TheVariants.{Put, Take, Rollback, CommitPut, CommitTake, End}
use Rattle.record_form.specs.declared.record.Read.{Read}
use Rattle.record_form.specs.declared.record.Read.TheVariants.{Whole, Part, Bad}

-- What may follow: nothing more, or a field of some width, which is at fault or leads on to what follows it.
pub data Grammar : Type 0 where
  Done : Rec → Grammar
  Field : ℕ → (List ℕ → Bool) → (List ℕ → Grammar) → Grammar

-- What reading found: a record and the offset of its end, bytes that end within a field, or the offset of a fault.
pub data Outcome : Type 0 where
  Complete : Rec → ℕ → Outcome
  Incomplete : Outcome
  Fault : ℕ → Outcome

-- the bytes, which stand at the offset, are read field by field
unfoldable pub reads : Grammar → List ℕ → ℕ → Outcome
reads (Done rec) bytes at = Complete rec at
reads (Field width is_fault next) bytes at =
    if nat_lt (length bytes) width then Incomplete
    else if is_fault (take width bytes) then Fault at
    else reads (next (take width bytes)) (drop width bytes) (at + width)

unfoldable pub u32_of : List ℕ → ℕ
u32_of bytes = big_number 4 bytes

unfoldable pub u64_of : List ℕ → ℕ
u64_of bytes = big_number 8 bytes

-- a field that is never at fault
abbrev pub plain : ℕ → (List ℕ → Grammar) → Grammar
plain width next = Field width (λ bytes. false) next

-- a count, which is at least 1
abbrev pub count : (List ℕ → Grammar) → Grammar
count next = Field 4 (λ bytes. u32_of bytes == 0) next

abbrev pub is_above : Option (List ℕ) → List ℕ → Bool
is_above None key = true
is_above (Some last) key = is_lt (key_cmp last key)

-- A text at the offset: its length, which with what it spans stays within the event, and its bytes, which are UTF-8 and above the last ones.
unfoldable pub text_grammar : ℕ → ℕ → Option (List ℕ) → (List ℕ → Grammar) → Grammar
text_grammar end at last next =
    Field 4 (λ length. nat_lt end (at + 4 + u32_of length))
    (λ length. Field (u32_of length) (λ text. not (is_utf8 text && is_above last text)) next)

-- the body: its length, which ends with the event, and its bytes
unfoldable pub body_grammar : ℕ → ℕ → ℕ → List Header → Grammar
body_grammar txn end at headers =
    Field 4 (λ length. not (at + 4 + u32_of length == end))
    (λ length. plain (u32_of length) (λ body. Done (Put txn (content headers body))))

-- so many headers, each key above the last one, and then the body
unfoldable pub headers_grammar : ℕ → ℕ → ℕ → ℕ → Option (List ℕ) → List Header → Grammar
headers_grammar zero txn end at last headers = body_grammar txn end at headers
headers_grammar (suc n) txn end at last headers =
    text_grammar end at last
    (λ key. text_grammar end (at + 4 + length key) None
    (λ value. headers_grammar n txn end (at + 4 + length key + 4 + length value) (Some key) (headers ++ (key, value) ∷ [])))

-- an event that stands at the offset: its count of headers, the headers and the body
unfoldable pub event_grammar : ℕ → ℕ → ℕ → Grammar
event_grammar txn end at = plain 4 (λ number. headers_grammar (u32_of number) txn end (at + 4) None [])

-- the fields after a kind
unfoldable pub kind_grammar : ℕ → Grammar
kind_grammar kind =
    if kind == 1 then plain 8 (λ txn. Field 4 (λ length. nat_lt 1_048_576 (u32_of length)) (λ length. event_grammar (u64_of txn) (13 + u32_of length) 13))
    else if kind == 2 then plain 8 (λ txn. plain 8 (λ number. Done (Take (u64_of txn) (u64_of number))))
    else if kind == 3 then plain 8 (λ txn. Done (Rollback (u64_of txn)))
    else if kind == 4 then plain 8 (λ txn. plain 8 (λ first. count (λ number. Done (CommitPut (u64_of txn) (u64_of first) (u32_of number)))))
    else if kind == 5 then plain 8 (λ txn. count (λ number. Done (CommitTake (u64_of txn) (u32_of number))))
    else count (λ number. Done (End (u32_of number)))

-- the kind is from 1 to 6
abbrev pub is_kind : ℕ → Bool
is_kind kind = nat_lt 0 kind && nat_lt kind 7

unfoldable pub record_grammar : Grammar
record_grammar = Field 1 (λ kind. not (is_kind (slice_index kind 0))) (λ kind. kind_grammar (slice_index kind 0))

-- what is read at the front of bytes
abbrev pub outcome_of : List ℕ → Outcome
outcome_of bytes = reads record_grammar bytes 0

abbrev pub as_read : Outcome → Read
as_read (Complete rec length) = Whole (record_kind rec) length
as_read Incomplete = Part
as_read (Fault at) = Bad at

abbrev pub read_of : List ℕ → Read
read_of bytes = as_read (outcome_of bytes)

-- a record stands at the front
abbrev pub IsWhole : Read → Type 0
IsWhole (Whole kind length) = Unit {0}
IsWhole Part = ⊥
IsWhole (Bad at) = ⊥
