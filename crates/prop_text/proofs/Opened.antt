-- A logical line that is open, in front of the natural lines that may go on it.
use Rattle.std.proofs.Common.{List, ◌∷◌, ◌++◌, Option, Some, None, string_bytes}
use Rattle.prop_text.specs.declared.lines.LogicalLine.{LogicalLine}
use Rattle.prop_text.specs.Lines.{Line, Reading}

-- the logical lines, of what the rest comes to
abbrev pub with_open : Option LogicalLine → Reading → List Line
with_open None rest = rest.begun
with_open (Some current) rest = record { number = current.number; text = string_bytes current.text ++ rest.added } ∷ rest.behind
