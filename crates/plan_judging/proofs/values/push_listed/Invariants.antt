use Rattle.std.proofs.Common.{◌≡◌, ◌++◌, drop, map, string_bytes}
use Rattle.prop_text.specs.Lines.{with_front}
use Rattle.plan_judging.specs.Words.{comma_pieces, trimmed_names, listed}
use Rattle.plan_judging.proofs.values.push_listed.Given as goal

-- the names so far, and those of what is left with the bytes since the last comma at their front, are those of the list
abbrev pub invariant-loop-byte : goal.invariant-loop-byte
invariant-loop-byte l =
    map string_bytes l.names.items ++ trimmed_names (with_front l.piece.items (comma_pieces (drop l.byte-index l.byte-items)))
    ≡ map string_bytes l.fn.names.items ++ listed l.byte-items
