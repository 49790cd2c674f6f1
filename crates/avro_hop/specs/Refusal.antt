-- The place that the refusal of a field names.
use Rattle.std.specs.Prelude.{◌≡◌, ℕ}
use Rattle.avro_binary.specs.declared.refused.ValueRefused.{ValueRefused}
use Rattle.avro_binary.specs.declared.refused.ValueRefused.TheVariants.{Short, Bad, TooLarge, NoMemory}

-- where the field is that is not whole or at fault; no other refusal names one
abbrev pub IsPlaceOf : ValueRefused → ℕ → Type 0
IsPlaceOf (Short at need) field = field ≡ at
IsPlaceOf (Bad at) field = field ≡ at
IsPlaceOf (TooLarge size end) field = ⊥
IsPlaceOf NoMemory field = ⊥
