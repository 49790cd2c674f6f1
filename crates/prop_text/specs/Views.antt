-- The program's lines and pairs, as the definitions see them, and what its steps answer.
use Rattle.std.specs.Prelude.{◌≡◌, ℕ, ◌≤◌, List, ◌++◌, length, map, string_bytes, Option, Some, None, Result, Ok, Err, option_map}
use Rattle.std.specs.Borrow.{Bor}
use Rattle.std.specs.declared.string.String.{String}
use Rattle.std.specs.declared.alloc.Global.{Global}
use Rattle.prop_text.specs.declared.fault.PropRefused.{PropRefused}
use Rattle.prop_text.specs.declared.fault.PropRefused.TheVariants.{NotUtf8, BadEscape, NoMemory}
use Rattle.prop_text.specs.declared.lines.LogicalLine.{LogicalLine}
use Rattle.prop_text.specs.declared.pairs.RawPair.{RawPair}
use Rattle.prop_text.specs.Lines.{Line}
use Rattle.prop_text.specs.Pairs.{escape, unescaped, trim, pair_of}

abbrev pub texts : List (Bor (List ℕ)) → List (List ℕ)
texts lines = map (λ line. line.now) lines

abbrev pub view : LogicalLine → Line
view l = record { number = l.number; text = string_bytes l.text }

abbrev pub views : List LogicalLine → List Line
views lines = map view lines

-- new is old with what the escape spells, and the escape takes that many bytes; or it is bad
abbrev pub AddsEscape : List ℕ → List ℕ → List ℕ → Option ℕ → Type 0
AddsEscape old new rest None = escape rest ≡ None
AddsEscape old new rest (Some taken) = (spelled : List ℕ) × (escape rest ≡ Some (spelled, taken)) × (new ≡ old ++ spelled) × (taken ≤ length rest)

-- the text that the spelling stands for, without white space at both ends; or an escape is bad, and the answer has the line
abbrev pub Unescapes : List ℕ → ℕ → Result (String Global) PropRefused → Type 0
Unescapes raw line (Ok text) = option_map trim (unescaped 0 raw) ≡ Some (string_bytes text)
Unescapes raw line (Err (NotUtf8 at)) = ⊥
Unescapes raw line (Err (BadEscape at)) = (unescaped 0 raw ≡ None) × (at ≡ line)
Unescapes raw line (Err NoMemory) = Unit {0}

-- the same of a line's pair
abbrev pub PairsUp : Line → Result RawPair PropRefused → Type 0
PairsUp l (Ok raw) = pair_of l ≡ Some (record { key = string_bytes raw.key; value = string_bytes raw.value; line = l.number })
PairsUp l (Err (NotUtf8 at)) = ⊥
PairsUp l (Err (BadEscape at)) = (pair_of l ≡ None) × (at ≡ l.number)
PairsUp l (Err NoMemory) = Unit {0}
