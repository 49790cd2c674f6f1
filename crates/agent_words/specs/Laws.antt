-- A law of the options.
use Rattle.std.specs.Prelude.{◌≡◌, ℕ, List}
use Rattle.agent_words.specs.Commands.{IsAsked}

-- Words give one name and one file.
abbrev pub OneAsked : Type 0
OneAsked = (words : List (List ℕ)) (first name file name' file' : List ℕ) → IsAsked words first name file → IsAsked words first name' file' → (name ≡ name') × (file ≡ file')
