-- The answers of a sink.
use Rattle.std.specs.Prelude.{◌≡◌, Result, Err}
use Rattle.plug_in.specs.declared.sink.SinkRefused.{SinkRefused}
use Rattle.plug_in.specs.declared.sink.SinkRefused.TheVariants.{Refused}

-- the sink refused the batch
abbrev pub IsRefused : Result (Unit {0}) SinkRefused → Type 0
IsRefused result = result ≡ Err Refused
