-- What commands are.
use Rattle.std.specs.Prelude.{◌≡◌, ℕ, List, [], ◌∷◌, codes, string_bytes, Option, Result, IfOk, MatchOption}
use Rattle.agent_words.specs.Words.{IsName, IsCount}
use Rattle.agent_words.specs.Options.{AreOptions}
use Rattle.agent_words.specs.declared.command.Command.{Command}
use Rattle.agent_words.specs.declared.command.Command.TheVariants.{Pipe, Agent, Check, Load}

-- the words after a command's first one are options that give a name and a file
abbrev pub IsAsked : List (List ℕ) → List ℕ → List ℕ → List ℕ → Type 0
IsAsked words first name file = (rest : List (List ℕ)) × (words ≡ first ∷ rest) × AreOptions rest name file

-- the words are `pipe` and a folder
abbrev pub IsPipe : List (List ℕ) → List ℕ → Type 0
IsPipe words dir = (words ≡ codes "pipe" ∷ dir ∷ []) × IsName dir

-- the words are `load`, a number and a folder
abbrev pub IsLoad : List (List ℕ) → ℕ → List ℕ → Type 0
IsLoad words n dir = (count : List ℕ) × (words ≡ codes "load" ∷ count ∷ dir ∷ []) × IsCount count n × IsName dir

-- the words are `agent` and its options
abbrev pub IsAgent : List (List ℕ) → List ℕ → List ℕ → Type 0
IsAgent words name file = IsAsked words (codes "agent") name file

-- the words are `check` and its options
abbrev pub IsCheck : List (List ℕ) → List ℕ → List ℕ → Type 0
IsCheck words name file = IsAsked words (codes "check") name file

-- the words are the command
abbrev pub IsCommand : List (List ℕ) → Command → Type 0
IsCommand words (Pipe dir) = IsPipe words (string_bytes dir)
IsCommand words (Agent name file) = IsAgent words (string_bytes name) (string_bytes file)
IsCommand words (Check name file) = IsCheck words (string_bytes name) (string_bytes file)
IsCommand words (Load n dir) = IsLoad words n (string_bytes dir)

-- the words are no command
pub record IsNone (words : List (List ℕ)) : Type 0 where
  pub pipe : (dir : List ℕ) → ¬ IsPipe words dir
  pub agent : (name file : List ℕ) → ¬ IsAgent words name file
  pub check : (name file : List ℕ) → ¬ IsCheck words name file
  pub load : (n : ℕ) (dir : List ℕ) → ¬ IsLoad words n dir

-- the words are the command that was read, or no command where there is none
abbrev pub Reads : {E : Type 0} → List (List ℕ) → Result (Option Command) E → Type 0
Reads words result = IfOk result (λ found. MatchOption found (IsNone words) (λ command. IsCommand words command))
