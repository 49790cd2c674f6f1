-- The options that follow `agent` and `check`.
use Rattle.std.specs.Prelude.{◌≡◌, ℕ, List, [], ◌∷◌, ◌++◌, Option, Some, None}
use Rattle.std.specs.List.{AllByRecursion}
use Rattle.std.specs.Borrow.{Bor}
use Rattle.agent_words.specs.Words.{texts, IsName, flag_of}
use Rattle.agent_words.specs.declared.command.Asked.{Asked}
use Rattle.agent_words.specs.declared.flag.Flag.TheVariants as flags

-- an option, by its word and the value after it
pub data Given : Type 0 where
  Name : List ℕ → List ℕ → Given
  File : List ℕ → List ℕ → Given
  Folder : List ℕ → List ℕ → Given
  Define : List ℕ → Given

abbrev pub IsGiven : Given → Type 0
IsGiven (Name word value) = (flag_of word ≡ Some flags.Name) × IsName value
IsGiven (File word value) = (flag_of word ≡ Some flags.File) × IsName value
IsGiven (Folder word value) = flag_of word ≡ Some flags.Folder
IsGiven (Define word) = flag_of word ≡ Some flags.Define

abbrev pub given_words : Given → List (List ℕ)
given_words (Name word value) = word ∷ value ∷ []
given_words (File word value) = word ∷ value ∷ []
given_words (Folder word value) = word ∷ value ∷ []
given_words (Define word) = word ∷ []

-- the words of options, one after another
abbrev pub all_words : List Given → List (List ℕ)
all_words [] = []
all_words (g ∷ gs) = given_words g ++ all_words gs

abbrev pub name_in : Given → List (List ℕ)
name_in (Name word value) = value ∷ []
name_in (File word value) = []
name_in (Folder word value) = []
name_in (Define word) = []

abbrev pub file_in : Given → List (List ℕ)
file_in (Name word value) = []
file_in (File word value) = value ∷ []
file_in (Folder word value) = []
file_in (Define word) = []

-- the names that options give
abbrev pub names : List Given → List (List ℕ)
names [] = []
names (g ∷ gs) = name_in g ++ names gs

-- and the files
abbrev pub files : List Given → List (List ℕ)
files [] = []
files (g ∷ gs) = file_in g ++ files gs

-- The words are options, and together with a name and a file that were given before, the name and the file each stand once.
pub record GoOn (named filed : List (List ℕ)) (words : List (List ℕ)) (name file : List ℕ) : Type 0 where
  pub givens : List Given
  pub words_are : words ≡ all_words givens
  pub each : AllByRecursion IsGiven givens
  pub one_name : named ++ names givens ≡ name ∷ []
  pub one_file : filed ++ files givens ≡ file ∷ []

-- the words are options, in any order, that give this name and this file once each
abbrev pub AreOptions : List (List ℕ) → List ℕ → List ℕ → Type 0
AreOptions words name file = GoOn [] [] words name file

-- what was given so far
abbrev pub held : Option (Bor (List ℕ)) → List (List ℕ)
held None = []
held (Some value) = value.now ∷ []

-- the words that follow complete what was given so far to this name and this file
abbrev pub Asks : Asked → List ℕ → List ℕ → Type 0
Asks asked name file = GoOn (held asked.name) (held asked.file) (texts asked.rest.now) name file
