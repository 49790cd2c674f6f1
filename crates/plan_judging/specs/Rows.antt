-- A row of the table of components: a key, whether it is required, and what its value has to be.
use Rattle.std.specs.Prelude.{ℕ, Bool, true, false, ◌||◌, not, List, [], ◌∷◌, ◌++◌, ◌==◌, if◌then◌else◌, Option, Some, None, is_some, codes}
use Rattle.std.specs.Str.{bytes_eq, str_eq_ignore_ascii_case}
use Rattle.std.specs.List.{list_any, starts_with}
use Rattle.std.specs.Prelude.{nat_eq}
use Rattle.prop_text.specs.Pairs.{Pair}
use Rattle.prop_text.specs.Winners.{lookup}
use Rattle.plan_judging.specs.declared.findings.FaultKind.{FaultKind}
use Rattle.plan_judging.specs.declared.findings.FaultKind.TheVariants.{UnknownType, UnknownName, BadNumber, Unsupported, Clash}
use Rattle.plan_judging.specs.declared.rules.Row.{Row}
use Rattle.plan_judging.specs.declared.rules.Rule.{Rule}
use Rattle.plan_judging.specs.declared.rules.Rule.TheVariants.{Text, Number, Truth, False, Never, NoCompression, TextSerializer, RoundRobinOrRandom, OneFolder, SourceKind, ChannelKind, SinkKind, ProcessorKind, StepKind, SerializerKind, SelectorKind}
use Rattle.plan_judging.specs.Candidates.{Candidates, nothing, ◌⊕◌}
use Rattle.plan_judging.specs.Words.{words, all_among, has_twice, number_in, truth_of}

-- a short name of a type, which is compared without regard to ASCII case
abbrev pub is_type : List ℕ → List ℕ → Bool
is_type name value = str_eq_ignore_ascii_case value name

-- the type of an object that is handed in, whose name stands after the dot
abbrev pub is_plugin : List ℕ → Bool
is_plugin value = starts_with nat_eq value (codes "plugin.")

-- the types of interceptors, of which two also have the names of their classes
unfoldable pub is_timestamp : List ℕ → Bool
is_timestamp value = is_type (codes "timestamp") value || bytes_eq value (codes "org.apache.flume.interceptor.TimestampInterceptor$Builder")

unfoldable pub is_host : List ℕ → Bool
is_host value = is_type (codes "host") value || bytes_eq value (codes "org.apache.flume.interceptor.HostInterceptor$Builder")

abbrev pub is_step : List ℕ → Bool
is_step value =
    is_timestamp value || is_host value || is_type (codes "static") value || is_type (codes "remove_header") value || is_type (codes "regex_filter") value
    || is_type (codes "regex_extractor") value || is_type (codes "search_replace") value || is_plugin value

-- the serializer that reads a group as a date
unfoldable pub is_millis : List ℕ → Bool
is_millis value = bytes_eq value (codes "org.apache.flume.interceptor.RegexExtractorInterceptorMillisSerializer")

abbrev pub when : Bool → FaultKind → Option FaultKind
when fails kind = if fails then Some kind else None

-- what is wrong with a value by a rule
abbrev pub judged : Rule → List ℕ → Option FaultKind
judged Text value = None
judged (Number low high) value = when (not (is_some (number_in low high value))) BadNumber
judged Truth value = when (not (is_some (truth_of value))) BadNumber
judged False value = if is_some (truth_of value) then when (str_eq_ignore_ascii_case value (codes "true")) Unsupported else Some BadNumber
judged Never value = Some Unsupported
judged NoCompression value = when (not (bytes_eq value (codes "none"))) Unsupported
judged TextSerializer value = when (not (bytes_eq value (codes "TEXT"))) Unsupported
judged RoundRobinOrRandom value = when (not (bytes_eq value (codes "round_robin") || bytes_eq value (codes "random"))) Unsupported
judged OneFolder value = when (list_any (λ b. b == 44) value) Unsupported
judged SourceKind value = when (not (is_type (codes "netcat") value || is_type (codes "avro") value || is_type (codes "stdin") value)) UnknownType
judged ChannelKind value = when (not (is_type (codes "memory") value || is_type (codes "file") value)) UnknownType
judged SinkKind value = when (not (is_type (codes "avro") value || is_type (codes "file_roll") value || is_type (codes "null") value || is_plugin value)) UnknownType
judged ProcessorKind value = when (not (is_type (codes "default") value || is_type (codes "failover") value || is_type (codes "load_balance") value)) UnknownType
judged StepKind value = when (not (is_step value)) UnknownType
judged SerializerKind value = when (not (is_type (codes "default") value || is_millis value)) UnknownType
judged SelectorKind value = when (not (is_type (codes "replicating") value || is_type (codes "multiplexing") value)) UnknownType

abbrev pub one_fault : ℕ → FaultKind → Candidates
one_fault line kind = record { faults = record { line = line; kind = kind } ∷ []; missing = [] }

abbrev pub one_missing : List ℕ → Candidates
one_missing key = record { faults = []; missing = key ∷ [] }

abbrev pub of_kind : ℕ → Option FaultKind → Candidates
of_kind line None = nothing
of_kind line (Some kind) = one_fault line kind

-- a key that is not there
abbrev pub absent : Bool → List ℕ → Candidates
absent true key = one_missing key
absent false key = nothing

abbrev pub judged_pair : Bool → List ℕ → Rule → Option Pair → Candidates
judged_pair required key rule None = absent required key
judged_pair required key rule (Some p) = of_kind p.line (judged rule p.value)

-- a row, of the component whose keys begin so
abbrev pub row : List Pair → List ℕ → Bool → List ℕ → Rule → Candidates
row pairs at required key rule = judged_pair required (at ++ key) rule (lookup (at ++ key) pairs)

-- a row as the code has it
abbrev pub row_of : List Pair → List ℕ → Row → Candidates
row_of pairs at r = row pairs at r.required r.key.now r.rule

-- rows after other candidates
abbrev pub rows_after : List Pair → List ℕ → Candidates → List Row → Candidates
rows_after pairs at c [] = c
rows_after pairs at c (r ∷ rs) = rows_after pairs at (c ⊕ row_of pairs at r) rs

-- some rows of a component, in their order
abbrev pub rows_of : List Pair → List ℕ → List Row → Candidates
rows_of pairs at [] = nothing
rows_of pairs at (r ∷ rs) = rows_after pairs at (row_of pairs at r) rs

-- a list that names a thing twice
abbrev pub twice : ℕ → List (List ℕ) → Candidates
twice line names = if has_twice names then one_fault line Clash else nothing

-- a list that names a thing that isn't there
abbrev pub unknown : ℕ → List (List ℕ) → List (List ℕ) → Candidates
unknown line names others = if all_among names others then nothing else one_fault line UnknownName

abbrev pub judged_names : Bool → List ℕ → Option Pair → Candidates
judged_names required key None = absent required key
judged_names required key (Some p) = twice p.line (words p.value)

-- a row that lists names which are the first to stand
abbrev pub list_row : List Pair → List ℕ → Bool → List ℕ → Candidates
list_row pairs at required key = judged_names required (at ++ key) (lookup (at ++ key) pairs)

abbrev pub judged_names_of : List ℕ → List (List ℕ) → Option Pair → Candidates
judged_names_of key others None = one_missing key
judged_names_of key others (Some p) = twice p.line (words p.value) ⊕ unknown p.line (words p.value) others

-- a required row that lists names of things that are there
abbrev pub names_row : List Pair → List ℕ → List ℕ → List (List ℕ) → Candidates
names_row pairs at key others = judged_names_of (at ++ key) others (lookup (at ++ key) pairs)

abbrev pub judged_name_of : List ℕ → List (List ℕ) → Option Pair → Candidates
judged_name_of key others None = one_missing key
judged_name_of key others (Some p) = unknown p.line (p.value ∷ []) others

-- a required row that names one thing that is there
abbrev pub name_row : List Pair → List ℕ → List ℕ → List (List ℕ) → Candidates
name_row pairs at key others = judged_name_of (at ++ key) others (lookup (at ++ key) pairs)
