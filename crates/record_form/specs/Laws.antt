-- The laws of records and their bytes.
use Rattle.std.specs.Prelude.{◌≡◌, ◌<◌, ℕ, List, ◌++◌, length, take, All}
use Rattle.record_form.specs.Record.{HasFields, IsWithinLimits, Spells, record_kind, record_length, spelling}
use Rattle.record_form.specs.Grammar.{Complete, outcome_of, read_of}
use Rattle.record_form.specs.declared.record.Rec.{Rec}
use Rattle.record_form.specs.declared.record.Read.TheVariants.{Whole, Part}

-- the bytes of a record are as many as its kind says
abbrev pub HasLength : Type 0
HasLength = (rec : Rec) → length (spelling rec) ≡ record_length rec

-- what is written is read again, whatever follows
abbrev pub IsReadAgain : Type 0
IsReadAgain = (rec : Rec) (rest : List ℕ) → HasFields rec → IsWithinLimits rec → (outcome_of (spelling rec ++ rest) ≡ Complete rec (record_length rec)) × (read_of (spelling rec ++ rest) ≡ Whole (record_kind rec) (record_length rec))

-- what is read whole is spelled so, by a front of the bytes
abbrev pub IsSpelled : Type 0
IsSpelled = (bytes : List ℕ) (rec : Rec) (end : ℕ) → All (λ b. b < 256) bytes → outcome_of bytes ≡ Complete rec end → Spells (take end bytes) rec × (end ≡ record_length rec)

-- no record's bytes begin those of another
abbrev pub HasOneSpelling : Type 0
HasOneSpelling = (rec other : Rec) (rest more : List ℕ) → HasFields rec → IsWithinLimits rec → HasFields other → IsWithinLimits other → spelling rec ++ rest ≡ spelling other ++ more → rec ≡ other

-- a record that is cut anywhere is read as a part
abbrev pub IsCut : Type 0
IsCut = (rec : Rec) (n : ℕ) → HasFields rec → IsWithinLimits rec → n < record_length rec → read_of (take n (spelling rec)) ≡ Part
