-- A text that was written to a sink, or a front of it.
use Rattle.std.specs.Prelude.{◌≡◌, ℕ, List, Option, Result, Ok, Err}
use Rattle.std.specs.Io.KnownBytes.{Appends}
use Rattle.flume_host.specs.Causes.{Rose}
use Rattle.flume_host.specs.Writes.{Fronts}
use Rattle.agent_end.specs.declared.ends.ReportRefused.{ReportRefused}
use Rattle.agent_end.specs.declared.ends.ReportRefused.TheVariants.{Fault, NoMemory}

module _ {K : Type 0} (took handed : K → Option (List ℕ)) (faults : K → ℕ) where
  -- The whole text was written and handed on; or the sink failed, and a front of the text was written; or there was no memory
  -- for the text, and nothing was written.
  abbrev pub IsWritten : K → K → List ℕ → Result (Unit {0}) ReportRefused → Type 0
  IsWritten old new text (Ok done) = Appends (took old) (took new) text × (handed new ≡ took new) × (faults new ≡ faults old)
  IsWritten old new text (Err Fault) = Fronts (took old) (took new) (faults old) (faults new) text × Rose (faults old) (faults new)
  IsWritten old new text (Err NoMemory) = new ≡ old
