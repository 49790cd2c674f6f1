-- What reading a properties text answers.
use Rattle.std.specs.Prelude.{◌≡◌, ℕ, List, Result, Ok, Err}
use Rattle.std.specs.Borrow.{Bor}
use Rattle.std.specs.Str.{IsUtf8}
use Rattle.prop_text.specs.declared.fault.PropRefused.{PropRefused}
use Rattle.prop_text.specs.declared.fault.PropRefused.TheVariants.{NotUtf8, BadEscape, NoMemory}
use Rattle.prop_text.specs.Lines.{Line}
use Rattle.prop_text.specs.Pairs.{Pair, pairs}
use Rattle.prop_text.specs.Winners.{winners, HasProperties, HasBadEscape, IsFirstFault}

-- the properties of the text, or its first fault; out of memory may come at any time
abbrev pub Reads : List ℕ → Result (List Pair) PropRefused → Type 0
Reads bytes (Ok found) = HasProperties bytes found
Reads bytes (Err (NotUtf8 at)) = IsFirstFault bytes at
Reads bytes (Err (BadEscape line)) = HasBadEscape bytes line
Reads bytes (Err NoMemory) = Unit {0}

-- the bytes as a text, or the first fault
abbrev pub IsTextOf : List ℕ → Result (Bor (List ℕ)) PropRefused → Type 0
IsTextOf bytes (Ok text) = (text.now ≡ bytes) × IsUtf8 bytes
IsTextOf bytes (Err (NotUtf8 at)) = IsFirstFault bytes at
IsTextOf bytes (Err (BadEscape line)) = ⊥
IsTextOf bytes (Err NoMemory) = ⊥

-- the last pairs of the keys of the lines, or the first bad escape
abbrev pub Wins : List Line → Result (List Pair) PropRefused → Type 0
Wins lines (Ok found) = (all : List Pair) × (pairs lines ≡ Ok all) × (found ≡ winners all)
Wins lines (Err (NotUtf8 at)) = ⊥
Wins lines (Err (BadEscape line)) = pairs lines ≡ Err line
Wins lines (Err NoMemory) = Unit {0}
