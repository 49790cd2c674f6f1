-- What is written: of each number the shortest spelling, and of an array or a map one block.
use Rattle.std.specs.Prelude.{ℕ, zero, suc, ◌+◌, ◌/◌, ◌%◌, Bool, true, false, List, [], ◌∷◌, ◌++◌, length, ℤ, pos, if◌then◌else◌, nat_lt}
use Rattle.std.specs.List.{flat_map}
use Rattle.event_core.specs.Content.{Content}
use Rattle.avro_binary.specs.Number.{zigzag}

-- at most so many groups, and none more than the number needs
unfoldable pub written_groups : ℕ → ℕ → List ℕ
written_groups zero n = []
written_groups (suc most) n = if nat_lt n 128 then n ∷ [] else (n % 128 + 128) ∷ written_groups most (n / 128)

abbrev pub written_number : ℤ → List ℕ
written_number z = written_groups 10 (zigzag z)

abbrev pub written_boolean : Bool → List ℕ
written_boolean true = 1 ∷ []
written_boolean false = 0 ∷ []

abbrev pub written_bytes : List ℕ → List ℕ
written_bytes content = written_number (pos (length content)) ++ content

-- one block, or none where there are no items
abbrev pub written_items : {V : Type 0} → (V → List ℕ) → List V → List ℕ
written_items written [] = 0 ∷ []
written_items written (value ∷ values) = written_number (pos (length (value ∷ values))) ++ (flat_map written (value ∷ values) ++ 0 ∷ [])

abbrev pub written_entry : List ℕ × List ℕ → List ℕ
written_entry entry = written_bytes entry.0 ++ written_bytes entry.1

abbrev pub written_map : List (List ℕ × List ℕ) → List ℕ
written_map entries = written_items written_entry entries

abbrev pub written_event : Content → List ℕ
written_event event = written_map event.headers ++ written_bytes event.body

abbrev pub written_batch : List Content → List ℕ
written_batch events = written_items written_event events
