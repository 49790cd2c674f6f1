-- What is written for lines.
use Rattle.std.specs.Prelude.{ℕ, Bool, if◌then◌else◌, List, [], ◌∷◌, ◌++◌, flat_map, codes}
use Rattle.netcat_source.specs.declared.lines.LineVerdict.{LineVerdict}
use Rattle.netcat_source.specs.declared.lines.LineVerdict.TheVariants.{Accepted, Refused, InDoubt, NoMemory}
use Rattle.netcat_source.specs.Lines.{LinesEnd, Rest, TooLong}

-- the reply to a line; `ack` is `ack-every-event`
abbrev pub reply : Bool → LineVerdict → List ℕ
reply ack Accepted = if ack then codes "OK" ++ 10 ∷ [] else []
reply ack Refused = codes "FAILED: channel refused" ++ 10 ∷ []
reply ack InDoubt = codes "FAILED: channel in doubt" ++ 10 ∷ []
reply ack NoMemory = codes "FAILED: no memory" ++ 10 ∷ []

-- the reply to what stands after the last line
abbrev pub end_reply : LinesEnd → List ℕ
end_reply Rest = []
end_reply TooLong = codes "FAILED: line too long" ++ 10 ∷ []

-- the replies to lines with these verdicts, and to their end
abbrev pub replies : Bool → List LineVerdict → LinesEnd → List ℕ
replies ack verdicts end = flat_map (reply ack) verdicts ++ end_reply end
