-- The lines that a run of `pipe` handled, and what became of them.
use Rattle.std.specs.Prelude.{ℕ, List, [], ◌∷◌, ◌++◌, map, filter, Bool, true, false, ◌||◌}
use Rattle.netcat_source.specs.declared.lines.LineVerdict.{LineVerdict}
use Rattle.netcat_source.specs.declared.lines.LineVerdict.TheVariants.{Accepted, Refused, InDoubt, NoMemory}
use Rattle.line_session.specs.Handled.{Handled, lines_of}

-- these lines, with one verdict for all
abbrev pub all_with : LineVerdict → List (List ℕ) → List Handled
all_with verdict lines = map (λ line. record { line = line; verdict = verdict }) lines

-- one line more was handled
abbrev pub and_then : List Handled → List ℕ → LineVerdict → List Handled
and_then done line verdict = done ++ record { line = line; verdict = verdict } ∷ []

abbrev pub is_accepted : LineVerdict → Bool
is_accepted Accepted = true
is_accepted Refused = false
is_accepted InDoubt = false
is_accepted NoMemory = false

abbrev pub is_in_doubt : LineVerdict → Bool
is_in_doubt Accepted = false
is_in_doubt Refused = false
is_in_doubt InDoubt = true
is_in_doubt NoMemory = false

-- the lines that are in doubt
abbrev pub doubted : List Handled → List (List ℕ)
doubted done = lines_of (filter (λ h. is_in_doubt h.verdict) done)

-- one of the lines is
abbrev pub has_doubt : List LineVerdict → Bool
has_doubt [] = false
has_doubt (verdict ∷ verdicts) = is_in_doubt verdict || has_doubt verdicts

-- `pipe` ends after a line with this verdict
abbrev pub ends_run : LineVerdict → Bool
ends_run Accepted = false
ends_run Refused = false
ends_run InDoubt = true
ends_run NoMemory = true

-- it goes on
abbrev pub GoesOn : LineVerdict → Type 0
GoesOn Accepted = Unit {0}
GoesOn Refused = Unit {0}
GoesOn InDoubt = ⊥
GoesOn NoMemory = ⊥
