-- A pattern in a body: as a text where the body is UTF-8, and otherwise as bytes.
use Rattle.std.specs.Prelude.{◌≡◌, ◌⊎◌, ℕ, List, Option, false, if◌then◌else◌}
use Rattle.std.specs.Str.{is_utf8}
use Rattle.regex.specs.Patterns.{Match, Config, default_config, find, find_str, find_all, find_all_str}
use Rattle.regex.specs.Sources.{IsRefusal}
use Rattle.regex.specs.Failures.{IsRightKind}
use Rattle.regex.specs.declared.error.Error.{Error}
use Rattle.regex.specs.declared.error.Error.TheVariants.{Syntax, CompiledTooBig, Internal, OutOfMemory}
use Rattle.regex.specs.Replace.{group_bytes, replaced_by}
use Rattle.regex.specs.Templates.{written_after}
use Rattle.regex.specs.Strings as texts
use Rattle.regex.specs.Bytes as raw
use Rattle.regex.specs.declared.string.regex.Regex.{Regex}
use Rattle.regex.specs.declared.bytes.regex.Regex as bytes
use Rattle.regex_steps.specs.declared.patterns.Patterns.{Patterns}

abbrev pub byte_config : Config
byte_config = record default_config { utf8 = false }

-- the pattern is what the grammar of `regex` reads in the text, for texts and for bytes
pub record AreBuilt (source : List ℕ) (p : Patterns) : Type 0 where
  pub text_source : texts.regex_source p.texts ≡ source
  pub text_config : texts.regex_config p.texts ≡ default_config
  pub text_read : texts.IsReadFromSource p.texts
  pub byte_source : raw.regex_source p.bytes ≡ source
  pub byte_options : raw.regex_config p.bytes ≡ byte_config
  pub byte_read : raw.IsReadFromSource p.bytes

abbrev pub IsOfSyntax : Error → Type 0
IsOfSyntax (Syntax e) = Unit {0}
IsOfSyntax CompiledTooBig = ⊥
IsOfSyntax Internal = ⊥
IsOfSyntax OutOfMemory = ⊥

-- `regex` may give an error of syntax for the text: its grammar reads no pattern there, or one that nests too deep
pub record IsRefused (config : Config) (source : List ℕ) : Type 0 where
  pub error : Error
  pub of_syntax : IsOfSyntax error
  pub refusal : IsRefusal config source error
  pub kind : IsRightKind config source error

-- the text is no pattern for texts, or none for bytes
abbrev pub IsNoPattern : List ℕ → Type 0
IsNoPattern source = IsRefused default_config source ⊎ IsRefused byte_config source

-- the leftmost match in a body
abbrev pub first_match : Patterns → List ℕ → Option Match
first_match p body = if is_utf8 body then find_str (texts.regex_pattern p.texts) body 0 else find (raw.regex_pattern p.bytes) body 0

-- what the template text writes at each match
abbrev pub replaced_text : Regex → List ℕ → List ℕ → List ℕ
replaced_text regex text body = replaced_by (λ m. written_after (texts.regex_names regex) (group_bytes body m) text 0) body 0 (find_all_str (texts.regex_pattern regex) body)

abbrev pub replaced_bytes : bytes.Regex → List ℕ → List ℕ → List ℕ
replaced_bytes regex text body = replaced_by (λ m. written_after (raw.regex_names regex) (group_bytes body m) text 0) body 0 (find_all (raw.regex_pattern regex) body)

-- a body with what the text stands for in the place of each match
abbrev pub replaced : Patterns → List ℕ → List ℕ → List ℕ
replaced p text body = if is_utf8 body then replaced_text p.texts text body else replaced_bytes p.bytes text body
