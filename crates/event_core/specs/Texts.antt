-- Pairs of texts as pairs of bytes.
use Rattle.std.specs.Prelude.{ℕ, List, map, String}
use Rattle.std.specs.String.{string_bytes}

-- the bytes of two texts
abbrev pub pair_bytes : {Y Z : Type 0} → String Y × String Z → List ℕ × List ℕ
pair_bytes pair = (string_bytes pair.0, string_bytes pair.1)

abbrev pub pairs_bytes : {Y Z : Type 0} → List (String Y × String Z) → List (List ℕ × List ℕ)
pairs_bytes pairs = map pair_bytes pairs
