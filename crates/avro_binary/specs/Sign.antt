-- A number by its sign.
use Rattle.std.specs.Prelude.{ℤ, pos, negsuc}
use Rattle.avro_binary.specs.declared.number.Signed.{Signed}
use Rattle.avro_binary.specs.declared.number.Signed.TheVariants.{Natural, Negative}

abbrev pub signed_value : Signed → ℤ
signed_value (Natural n) = pos n
signed_value (Negative n) = negsuc n
