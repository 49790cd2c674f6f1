-- What the reader of a block's count answers.
use Rattle.std.specs.Prelude.{◌≡◌, ℕ, zero, suc, List, Result, Ok, Err}
use Rattle.avro_binary.specs.declared.refused.ValueRefused.{ValueRefused}
use Rattle.avro_binary.specs.Items.{IsCount, CountFault}
use Rattle.avro_binary.specs.Reading.{Reads}

-- in a block where items are left nothing is read; otherwise a count is
abbrev pub OpensBlock : ℕ → List ℕ → ℕ → Result (ℕ × ℕ) ValueRefused → Type 0
OpensBlock zero bytes at result = Reads (λ (n : ℕ). n) IsCount CountFault bytes at result
OpensBlock (suc left) bytes at (Ok found) = (found.0 ≡ suc left) × (found.1 ≡ at)
OpensBlock (suc left) bytes at (Err e) = ⊥
