-- The table of components: the rows of each, by its type.
use Rattle.std.specs.Prelude.{ℕ, true, false, List, [], ◌∷◌, ◌++◌, length, nat_lt, nat_eq, if◌then◌else◌, Option, Some, None, option_map, codes}
use Rattle.std.specs.List.{starts_with}
use Rattle.std.specs.Str.{bytes_eq}
use Rattle.prop_text.specs.Pairs.{Pair}
use Rattle.prop_text.specs.Winners.{lookup}
use Rattle.plan_judging.specs.declared.findings.FaultKind.TheVariants.{Unsupported}
use Rattle.plan_judging.specs.declared.rules.Rule.TheVariants.{Text, Number, Truth, False, Never, NoCompression, TextSerializer, RoundRobinOrRandom, OneFolder, SourceKind, ChannelKind, SinkKind, ProcessorKind, StepKind, SerializerKind, SelectorKind}
use Rattle.plan_judging.specs.Candidates.{Candidates, nothing, ◌⊕◌, each}
use Rattle.plan_judging.specs.Words.{words, is_among}
use Rattle.plan_judging.specs.Rows.{is_type, is_timestamp, is_host, is_millis, row, list_row, twice, unknown, names_row, name_row, one_fault}

-- the front that a component's keys share
abbrev pub front_of : List ℕ → List ℕ → List ℕ → List ℕ
front_of agent part name = agent ++ part ++ name ++ codes "."

-- the names that do not stand earlier in their list, nor before it
abbrev pub first_times : List (List ℕ) → List (List ℕ) → List (List ℕ)
first_times before [] = []
first_times before (name ∷ names) = if is_among name before then first_times (before ++ name ∷ []) names else name ∷ first_times (before ++ name ∷ []) names

-- the names, each once, where it stands first
abbrev pub once : List (List ℕ) → List (List ℕ)
once names = first_times [] names

abbrev pub words_of : Option Pair → List (List ℕ)
words_of None = []
words_of (Some p) = once (words p.value)

-- the names in a list
abbrev pub names_in : List Pair → List ℕ → List (List ℕ)
names_in pairs key = words_of (lookup key pairs)

-- Sources.
abbrev pub netcat_source : List Pair → List ℕ → Candidates
netcat_source pairs at =
    row pairs at true (codes "bind") Text
    ⊕ row pairs at true (codes "port") (Number 1 65535)
    ⊕ row pairs at false (codes "max-line-length") (Number 1 1048568)
    ⊕ row pairs at false (codes "ack-every-event") Truth
    ⊕ row pairs at false (codes "threads") (Number 1 64)

abbrev pub avro_source : List Pair → List ℕ → Candidates
avro_source pairs at =
    row pairs at true (codes "bind") Text
    ⊕ row pairs at true (codes "port") (Number 1 65535)
    ⊕ row pairs at false (codes "threads") (Number 1 64)
    ⊕ row pairs at false (codes "compression-type") NoCompression

abbrev pub stdin_source : List Pair → List ℕ → Candidates
stdin_source pairs at =
    row pairs at false (codes "max-line-length") (Number 1 1048568)
    ⊕ row pairs at false (codes "ack-every-event") Truth

abbrev pub source_of : List Pair → List ℕ → List ℕ → Candidates
source_of pairs at kind =
    if is_type (codes "netcat") kind then netcat_source pairs at
    else (if is_type (codes "avro") kind then avro_source pairs at
    else (if is_type (codes "stdin") kind then stdin_source pairs at else nothing))

abbrev pub source_by_kind : List Pair → List ℕ → Option Pair → Candidates
source_by_kind pairs at None = nothing
source_by_kind pairs at (Some kind) = source_of pairs at kind.value

-- Interceptors, whose keys begin so.
abbrev pub stamp_step : List Pair → List ℕ → Candidates
stamp_step pairs at = row pairs at false (codes "preserveExisting") Truth

abbrev pub host_step : List Pair → List ℕ → Candidates
host_step pairs at =
    row pairs at false (codes "useIP") Truth
    ⊕ row pairs at false (codes "preserveExisting") Truth

abbrev pub remove_step : List Pair → List ℕ → Candidates
remove_step pairs at =
    row pairs at false (codes "matching") Never
    ⊕ row pairs at false (codes "fromListSeparator") Never

abbrev pub filter_step : List Pair → List ℕ → Candidates
filter_step pairs at = row pairs at false (codes "excludeEvents") Truth

abbrev pub date_by_kind : List Pair → List ℕ → Option Pair → Candidates
date_by_kind pairs at None = nothing
date_by_kind pairs at (Some kind) = if is_millis kind.value then row pairs at true (codes "pattern") Text else nothing

abbrev pub serializer : List Pair → List ℕ → Candidates
serializer pairs at =
    row pairs at false (codes "type") SerializerKind
    ⊕ row pairs at true (codes "name") Text
    ⊕ date_by_kind pairs at (lookup (at ++ codes "type") pairs)

abbrev pub serializer_named : List Pair → List ℕ → List ℕ → Candidates
serializer_named pairs at name = serializer pairs (front_of at (codes "serializers.") name)

abbrev pub extractor_step : List Pair → List ℕ → Candidates
extractor_step pairs at =
    row pairs at true (codes "regex") Text
    ⊕ list_row pairs at true (codes "serializers")
    ⊕ each (serializer_named pairs at) (names_in pairs (at ++ codes "serializers"))

abbrev pub replace_step : List Pair → List ℕ → Candidates
replace_step pairs at = row pairs at true (codes "searchPattern") Text

abbrev pub step_of : List Pair → List ℕ → List ℕ → Candidates
step_of pairs at kind =
    if is_timestamp kind then stamp_step pairs at
    else (if is_host kind then host_step pairs at
    else (if is_type (codes "static") kind then stamp_step pairs at
    else (if is_type (codes "remove_header") kind then remove_step pairs at
    else (if is_type (codes "regex_filter") kind then filter_step pairs at
    else (if is_type (codes "regex_extractor") kind then extractor_step pairs at
    else (if is_type (codes "search_replace") kind then replace_step pairs at else nothing))))))

abbrev pub step_by_kind : List Pair → List ℕ → Option Pair → Candidates
step_by_kind pairs at None = nothing
step_by_kind pairs at (Some kind) = step_of pairs at kind.value

abbrev pub step : List Pair → List ℕ → Candidates
step pairs at =
    row pairs at true (codes "type") StepKind
    ⊕ step_by_kind pairs at (lookup (at ++ codes "type") pairs)

abbrev pub step_named : List Pair → List ℕ → List ℕ → Candidates
step_named pairs at name = step pairs (front_of at (codes "interceptors.") name)

abbrev pub steps : List Pair → List ℕ → Candidates
steps pairs at =
    list_row pairs at false (codes "interceptors")
    ⊕ each (step_named pairs at) (names_in pairs (at ++ codes "interceptors"))

-- Selectors, of a source with these channels.
abbrev pub judged_channels : List (List ℕ) → Option Pair → Candidates
judged_channels others None = nothing
judged_channels others (Some p) = twice p.line (words p.value) ⊕ unknown p.line (words p.value) others

abbrev pub channels_row : List Pair → List ℕ → List ℕ → List (List ℕ) → Candidates
channels_row pairs at key others = judged_channels others (lookup (at ++ key) pairs)

abbrev pub channels_key : List ℕ → List (List ℕ) → Pair → Candidates
channels_key front others p = if starts_with nat_eq p.key front then judged_channels others (Some p) else nothing

-- a list at each key that begins so
abbrev pub channels_rows : List Pair → List ℕ → List (List ℕ) → Candidates
channels_rows pairs front others = each (channels_key front others) pairs

abbrev pub multiplexing : List Pair → List ℕ → List (List ℕ) → Candidates
multiplexing pairs at others =
    channels_row pairs at (codes "default") others
    ⊕ channels_rows pairs (at ++ codes "mapping.") others
    ⊕ channels_rows pairs (at ++ codes "optional.") others

abbrev pub selector_of : List Pair → List ℕ → List (List ℕ) → List ℕ → Candidates
selector_of pairs at others kind =
    if is_type (codes "multiplexing") kind then multiplexing pairs at others
    else (if is_type (codes "replicating") kind then channels_row pairs at (codes "optional") others else nothing)

abbrev pub selector_by_kind : List Pair → List ℕ → List (List ℕ) → Option Pair → Candidates
selector_by_kind pairs at others None = channels_row pairs at (codes "optional") others
selector_by_kind pairs at others (Some kind) = selector_of pairs at others kind.value

abbrev pub selector : List Pair → List ℕ → List (List ℕ) → Candidates
selector pairs at others =
    row pairs at false (codes "type") SelectorKind
    ⊕ selector_by_kind pairs at others (lookup (at ++ codes "type") pairs)

abbrev pub source : List Pair → List (List ℕ) → List ℕ → Candidates
source pairs channels at =
    row pairs at true (codes "type") SourceKind
    ⊕ names_row pairs at (codes "channels") channels
    ⊕ steps pairs at
    ⊕ selector pairs (at ++ codes "selector.") (names_in pairs (at ++ codes "channels"))
    ⊕ source_by_kind pairs at (lookup (at ++ codes "type") pairs)

-- Channels.
abbrev pub memory_channel : List Pair → List ℕ → Candidates
memory_channel pairs at =
    row pairs at false (codes "capacity") (Number 1 10000000)
    ⊕ row pairs at false (codes "transactionCapacity") (Number 1 100000)

abbrev pub file_channel : List Pair → List ℕ → Candidates
file_channel pairs at =
    row pairs at true (codes "dataDirs") OneFolder
    ⊕ row pairs at false (codes "capacity") (Number 1 10000000)
    ⊕ row pairs at false (codes "transactionCapacity") (Number 1 100000)
    ⊕ row pairs at false (codes "checkpointInterval") (Number 1000 86400000)
    ⊕ row pairs at false (codes "maxFileSize") (Number 4096 2146435071)
    ⊕ row pairs at false (codes "checkpointOnClose") Truth
    ⊕ row pairs at false (codes "useDualCheckpoints") False

abbrev pub channel_of_kind : List Pair → List ℕ → List ℕ → Candidates
channel_of_kind pairs at kind =
    if is_type (codes "memory") kind then memory_channel pairs at
    else (if is_type (codes "file") kind then file_channel pairs at else nothing)

abbrev pub channel_by_kind : List Pair → List ℕ → Option Pair → Candidates
channel_by_kind pairs at None = nothing
channel_by_kind pairs at (Some kind) = channel_of_kind pairs at kind.value

abbrev pub channel : List Pair → List ℕ → Candidates
channel pairs at =
    row pairs at true (codes "type") ChannelKind
    ⊕ channel_by_kind pairs at (lookup (at ++ codes "type") pairs)

-- Sinks.
abbrev pub avro_sink : List Pair → List ℕ → Candidates
avro_sink pairs at =
    row pairs at true (codes "hostname") Text
    ⊕ row pairs at true (codes "port") (Number 1 65535)
    ⊕ row pairs at false (codes "batch-size") (Number 1 10000)
    ⊕ row pairs at false (codes "compression-type") NoCompression

abbrev pub roll_sink : List Pair → List ℕ → Candidates
roll_sink pairs at =
    row pairs at true (codes "sink.directory") Text
    ⊕ row pairs at false (codes "sink.rollInterval") (Number 0 4294967295)
    ⊕ row pairs at false (codes "sink.batchSize") (Number 1 10000)
    ⊕ row pairs at false (codes "sink.serializer") TextSerializer

abbrev pub null_sink : List Pair → List ℕ → Candidates
null_sink pairs at = row pairs at false (codes "batchSize") (Number 1 10000)

abbrev pub sink_of : List Pair → List ℕ → List ℕ → Candidates
sink_of pairs at kind =
    if is_type (codes "avro") kind then avro_sink pairs at
    else (if is_type (codes "file_roll") kind then roll_sink pairs at
    else (if is_type (codes "null") kind then null_sink pairs at else nothing))

abbrev pub sink_by_kind : List Pair → List ℕ → Option Pair → Candidates
sink_by_kind pairs at None = nothing
sink_by_kind pairs at (Some kind) = sink_of pairs at kind.value

abbrev pub sink : List Pair → List (List ℕ) → List ℕ → Candidates
sink pairs channels at =
    row pairs at true (codes "type") SinkKind
    ⊕ name_row pairs at (codes "channel") channels
    ⊕ sink_by_kind pairs at (lookup (at ++ codes "type") pairs)

-- Groups.
-- a group of the default type has one sink
abbrev pub several : List (List ℕ) → Option Pair → Candidates
several members None = nothing
several members (Some p) = if nat_lt 1 (length members) then one_fault p.line Unsupported else nothing

abbrev pub priority : List Pair → List ℕ → List ℕ → Candidates
priority pairs at member = row pairs (at ++ codes "processor.priority.") false member (Number 0 4294967295)

abbrev pub failover : List Pair → List ℕ → List (List ℕ) → Candidates
failover pairs at members =
    each (priority pairs at) members
    ⊕ row pairs at false (codes "processor.maxpenalty") (Number 0 18446744073709551615)

abbrev pub load_balance : List Pair → List ℕ → Candidates
load_balance pairs at =
    row pairs at false (codes "processor.selector") RoundRobinOrRandom
    ⊕ row pairs at false (codes "processor.backoff") Truth
    ⊕ row pairs at false (codes "processor.selector.maxTimeOut") (Number 0 18446744073709551615)

abbrev pub group_of : List Pair → List ℕ → List (List ℕ) → List ℕ → Candidates
group_of pairs at members kind =
    if is_type (codes "failover") kind then failover pairs at members
    else (if is_type (codes "load_balance") kind then load_balance pairs at
    else (if is_type (codes "default") kind then several members (lookup (at ++ codes "sinks") pairs) else nothing))

abbrev pub group_by_kind : List Pair → List ℕ → List (List ℕ) → Option Pair → Candidates
group_by_kind pairs at members None = several members (lookup (at ++ codes "sinks") pairs)
group_by_kind pairs at members (Some kind) = group_of pairs at members kind.value

abbrev pub value_and_line : Option Pair → Option (List ℕ × ℕ)
value_and_line o = option_map (λ p. (p.value, p.line)) o

-- the channel of a sink of the agent, as it stands, and its line
abbrev pub channel_of : List Pair → List ℕ → List (List ℕ) → List ℕ → Option (List ℕ × ℕ)
channel_of pairs agent sinks name = if is_among name sinks then value_and_line (lookup (front_of agent (codes ".sinks.") name ++ codes "channel") pairs) else None

abbrev pub same_channel : Option (List ℕ × ℕ) → Option (List ℕ × ℕ) → Candidates
same_channel None other = nothing
same_channel (Some p) None = nothing
same_channel (Some p) (Some q) = if bytes_eq p.0 q.0 then nothing else one_fault q.1 Unsupported

abbrev pub other_channel : List Pair → List ℕ → List (List ℕ) → List ℕ → List ℕ → Candidates
other_channel pairs agent sinks first other = same_channel (channel_of pairs agent sinks first) (channel_of pairs agent sinks other)

-- the sinks of a group take from the channel of the first
abbrev pub one_channel : List Pair → List ℕ → List (List ℕ) → List (List ℕ) → Candidates
one_channel pairs agent sinks [] = nothing
one_channel pairs agent sinks (first ∷ others) = each (other_channel pairs agent sinks first) others

abbrev pub group_at : List Pair → List ℕ → List (List ℕ) → List ℕ → List (List ℕ) → Candidates
group_at pairs agent sinks at members =
    names_row pairs at (codes "sinks") sinks
    ⊕ row pairs at false (codes "processor.type") ProcessorKind
    ⊕ group_by_kind pairs at members (lookup (at ++ codes "processor.type") pairs)
    ⊕ one_channel pairs agent sinks members

abbrev pub group : List Pair → List ℕ → List (List ℕ) → List ℕ → Candidates
group pairs agent sinks at = group_at pairs agent sinks at (names_in pairs (at ++ codes "sinks"))
