-- What a component claims for itself alone: standard input, an address to listen at, a folder, an object that is handed in, a sink.
use Rattle.std.specs.Prelude.{◌≡◌, ℕ, Bool, ◌||◌, ◌&&◌, List, [], ◌∷◌, ◌++◌, drop, max, min, ◌==◌, if◌then◌else◌, Option, Some, None, codes, map, string_bytes}
use Rattle.std.specs.Str.{bytes_eq}
use Rattle.prop_text.specs.Pairs.{Pair}
use Rattle.prop_text.specs.Winners.{lookup}
use Rattle.plan_judging.specs.declared.claims.Claimed.{Claimed}
use Rattle.plan_judging.specs.declared.claims.Claimed.TheVariants.{Input, Listener, Folder, Plugin, Sink, Step}
use Rattle.plan_judging.specs.declared.claims.Claim.{Claim}
use Rattle.plan_judging.specs.declared.findings.FaultKind.TheVariants.{Clash}
use Rattle.plan_judging.specs.Candidates.{Candidates, nothing, ◌⊕◌, each}
use Rattle.plan_judging.specs.Words.{number_in}
use Rattle.plan_judging.specs.Rows.{is_type, is_plugin, one_fault}

-- what is claimed, and the line that tells
pub record Wish : Type 0 where
  pub what : Claimed
  pub text : List ℕ
  pub number : ℕ
  pub line : ℕ

abbrev pub code : Claimed → ℕ
code Input = 0
code Listener = 1
code Folder = 2
code Plugin = 3
code Sink = 4
code Step = 5

abbrev pub same_wish : Wish → Wish → Bool
same_wish a b = code a.what == code b.what && bytes_eq a.text b.text && a.number == b.number

-- two that claim the same, of which the later line is named
abbrev pub clash : Wish → Wish → Candidates
clash a b = if same_wish a b then one_fault (max a.line b.line) Clash else nothing

abbrev pub clashes : List Wish → Candidates
clashes [] = nothing
clashes (w ∷ ws) = each (clash w) ws ⊕ clashes ws

-- the clash of a claim on this line with the same claims before it, if there are any, whose least line is the first
abbrev pub clash_with : Option ℕ → ℕ → Candidates
clash_with None line = nothing
clash_with (Some first) line = one_fault (max first line) Clash

-- the lesser of a line, if there is one, and another
abbrev pub least_with : Option ℕ → ℕ → ℕ
least_with None line = line
least_with (Some first) line = min first line

abbrev pub listener_at : Pair → Pair → Option ℕ → List Wish
listener_at bind port None = []
listener_at bind port (Some number) = record { what = Listener; text = bind.value; number = number; line = port.line } ∷ []

-- an address to listen at
abbrev pub listener : Option Pair → Option Pair → List Wish
listener None port = []
listener (Some bind) None = []
listener (Some bind) (Some port) = listener_at bind port (number_in 1 65535 port.value)

abbrev pub source_of_wish : List Pair → List ℕ → List ℕ → ℕ → List Wish
source_of_wish pairs at kind line =
    if is_type (codes "netcat") kind || is_type (codes "avro") kind then listener (lookup (at ++ codes "bind") pairs) (lookup (at ++ codes "port") pairs)
    else (if is_type (codes "stdin") kind then record { what = Input; text = []; number = 0; line = line } ∷ [] else [])

abbrev pub source_wish : List Pair → List ℕ → Option Pair → List Wish
source_wish pairs at None = []
source_wish pairs at (Some kind) = source_of_wish pairs at kind.value kind.line

-- an interceptor that is handed in
abbrev pub step_wish : Option Pair → List Wish
step_wish None = []
step_wish (Some kind) = if is_plugin kind.value then record { what = Step; text = drop 7 kind.value; number = 0; line = kind.line } ∷ [] else []

abbrev pub folder_wish : Option Pair → List Wish
folder_wish None = []
folder_wish (Some p) = record { what = Folder; text = p.value; number = 0; line = p.line } ∷ []

abbrev pub channel_wish : List Pair → List ℕ → Option Pair → List Wish
channel_wish pairs at None = []
channel_wish pairs at (Some kind) = if is_type (codes "file") kind.value then folder_wish (lookup (at ++ codes "dataDirs") pairs) else []

abbrev pub sink_wish : Option Pair → List Wish
sink_wish None = []
sink_wish (Some kind) = if is_plugin kind.value then record { what = Plugin; text = drop 7 kind.value; number = 0; line = kind.line } ∷ [] else []

-- an object that is handed in, as what it is claimed
abbrev pub plugin_wish : Claimed → Option Pair → List Wish
plugin_wish what None = []
plugin_wish what (Some kind) = if is_plugin kind.value then record { what = what; text = drop 7 kind.value; number = 0; line = kind.line } ∷ [] else []

abbrev pub member_wish : ℕ → List ℕ → Wish
member_wish line member = record { what = Sink; text = member; number = 0; line = line }

abbrev pub group_wish : Option Pair → List (List ℕ) → List Wish
group_wish None members = []
group_wish (Some p) members = map (member_wish p.line) members

abbrev pub wish : Claim → Wish
wish c = record { what = c.what; text = string_bytes c.text; number = c.number; line = c.line }

abbrev pub wishes : List Claim → List Wish
wishes claims = map wish claims

-- a step from old to new adds the claims
pub record Claims (old new : List Wish) (added : List Wish) : Type 0 where
  pub is : new ≡ old ++ added
