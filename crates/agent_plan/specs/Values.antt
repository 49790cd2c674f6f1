-- The values of a plan, by the table of components. Of keys that are at fault nothing is said here.
use Rattle.std.specs.Prelude.{◌≡◌, ℕ, Bool, true, false, not, List, [], ◌∷◌, ◌++◌, ◌||◌, drop, length, map, nat_eq, flat_map, option_map, Option, Some, None, codes, string_bytes, if◌then◌else◌, unwrap_or}
use Rattle.std.specs.List.{prefix_len, starts_with}
use Rattle.std.specs.declared.string.String.{String}
use Rattle.std.specs.declared.vec.Vec.{Vec}
use Rattle.std.specs.declared.alloc.Global.{Global}
use Rattle.interceptors.specs.declared.step.Step.{Step as OneStep}
use Rattle.interceptors.specs.declared.step.Step.TheVariants.{Timestamp, Host, Static, Remove}
use Rattle.regex_steps.specs.declared.keys.RegexKeys.{RegexKeys}
use Rattle.regex_steps.specs.declared.keys.RegexKeys.TheVariants.{Filter, Extract, Replace}
use Rattle.regex_steps.specs.declared.keys.Group.{Group}
use Rattle.selectors.specs.declared.selector.Selector.{Selector}
use Rattle.selectors.specs.declared.selector.Selector.TheVariants.{Replicating, Multiplexing}
use Rattle.agent_plan.specs.declared.plan.StepPlan.{StepPlan}
use Rattle.agent_plan.specs.declared.plan.StepPlan.TheVariants.{Step, Regex, Plugin as Plugin'}
use Rattle.std.specs.Str.{bytes_eq}
use Rattle.prop_text.specs.Pairs.{Pair}
use Rattle.prop_text.specs.Winners.{lookup}
use Rattle.agent_plan.specs.declared.plan.SourceKind.{SourceKind}
use Rattle.agent_plan.specs.declared.plan.SourceKind.TheVariants.{Netcat, Avro, Stdin}
use Rattle.agent_plan.specs.declared.plan.SourcePlan.{SourcePlan}
use Rattle.agent_plan.specs.declared.plan.ChannelKind.{ChannelKind}
use Rattle.agent_plan.specs.declared.plan.ChannelKind.TheVariants.{Memory, File}
use Rattle.agent_plan.specs.declared.plan.ChannelPlan.{ChannelPlan}
use Rattle.agent_plan.specs.declared.plan.SinkKind.{SinkKind}
use Rattle.agent_plan.specs.declared.plan.SinkKind.TheVariants.{Null, Roll, Avro as Avro', Plugin}
use Rattle.agent_plan.specs.declared.plan.SinkPlan.{SinkPlan}
use Rattle.agent_plan.specs.declared.plan.Processor.{Processor}
use Rattle.agent_plan.specs.declared.plan.Processor.TheVariants.{Single, Failover, RoundRobin, Random}
use Rattle.agent_plan.specs.declared.plan.GroupPlan.{GroupPlan}
use Rattle.plan_judging.specs.Words.{number_in, truth_of, words, listed}
use Rattle.plan_judging.specs.Rows.{is_type, is_plugin, is_timestamp, is_host, is_millis}
use Rattle.plan_judging.specs.Components.{front_of, names_in, once}

-- each name has its component, in order
abbrev pub Match : {A : Type 0} → (List ℕ → A → Type 0) → List (List ℕ) → List A → Type 0
Match R [] [] = Unit {0}
Match R [] (x ∷ xs) = ⊥
Match R (name ∷ names) [] = ⊥
Match R (name ∷ names) (x ∷ xs) = R name x × Match R names xs

abbrev pub text_of : Option Pair → List ℕ
text_of None = []
text_of (Some p) = p.value

abbrev pub line_of : Option Pair → ℕ
line_of None = 0
line_of (Some p) = p.line

abbrev pub number_of : ℕ → ℕ → ℕ → Option Pair → ℕ
number_of low high default None = default
number_of low high default (Some p) = unwrap_or (number_in low high p.value) default

abbrev pub truth_value : Bool → Option Pair → Bool
truth_value default None = default
truth_value default (Some p) = unwrap_or (truth_of p.value) default

-- the value at a key
abbrev pub text_at : List Pair → List ℕ → List ℕ
text_at pairs key = text_of (lookup key pairs)

abbrev pub line_at : List Pair → List ℕ → ℕ
line_at pairs key = line_of (lookup key pairs)

-- the number at a key, within limits, or a default
abbrev pub number_at : List Pair → ℕ → ℕ → ℕ → List ℕ → ℕ
number_at pairs low high default key = number_of low high default (lookup key pairs)

-- the truth value at a key, or a default
abbrev pub truth_at : List Pair → Bool → List ℕ → Bool
truth_at pairs default key = truth_value default (lookup key pairs)

-- the place of a name among names, from 0
abbrev pub place_of : List (List ℕ) → List ℕ → ℕ
place_of names name = prefix_len (λ other. not (bytes_eq name other)) names

abbrev pub IsSourceKind : List Pair → List ℕ → List ℕ → SourceKind → Type 0
IsSourceKind pairs at kind (Netcat bind port max_line ack threads) =
    (is_type (codes "netcat") kind ≡ true)
    × (string_bytes bind ≡ text_at pairs (at ++ codes "bind"))
    × (port ≡ number_at pairs 1 65535 1 (at ++ codes "port"))
    × (max_line ≡ number_at pairs 1 1048568 512 (at ++ codes "max-line-length"))
    × (ack ≡ truth_at pairs true (at ++ codes "ack-every-event"))
    × (threads ≡ number_at pairs 1 64 4 (at ++ codes "threads"))
IsSourceKind pairs at kind (Avro bind port threads) =
    (is_type (codes "netcat") kind ≡ false)
    × (is_type (codes "avro") kind ≡ true)
    × (string_bytes bind ≡ text_at pairs (at ++ codes "bind"))
    × (port ≡ number_at pairs 1 65535 1 (at ++ codes "port"))
    × (threads ≡ number_at pairs 1 64 4 (at ++ codes "threads"))
IsSourceKind pairs at kind (Stdin max_line ack) =
    (is_type (codes "netcat") kind ≡ false)
    × (is_type (codes "avro") kind ≡ false)
    × (max_line ≡ number_at pairs 1 1048568 512 (at ++ codes "max-line-length"))
    × (ack ≡ truth_at pairs true (at ++ codes "ack-every-event"))

-- Interceptors, whose keys begin so.
abbrev pub text_or : List ℕ → Option Pair → List ℕ
text_or default None = default
text_or default (Some p) = p.value

-- the text at a key, or a default
abbrev pub text_else : List Pair → List ℕ → List ℕ → List ℕ
text_else pairs default key = text_or default (lookup key pairs)

-- the line of a key, or another
abbrev pub line_or : ℕ → Option Pair → ℕ
line_or other None = other
line_or other (Some p) = p.line

abbrev pub names_listed : Option Pair → List (List ℕ)
names_listed None = []
names_listed (Some p) = listed p.value

abbrev pub one_name : Option Pair → List (List ℕ)
one_name None = []
one_name (Some p) = p.value ∷ []

-- the keys of the headers that are removed
abbrev pub removed : List Pair → List ℕ → List (List ℕ)
removed pairs at = one_name (lookup (at ++ codes "withName") pairs) ++ names_listed (lookup (at ++ codes "fromList") pairs)

abbrev pub IsStep : List Pair → List ℕ → List ℕ → OneStep → Type 0
IsStep pairs at kind (Timestamp header preserve) =
    (is_timestamp kind ≡ true)
    × (string_bytes header ≡ text_else pairs (codes "timestamp") (at ++ codes "headerName"))
    × (preserve ≡ truth_at pairs false (at ++ codes "preserveExisting"))
IsStep pairs at kind (Host use_ip header preserve) =
    (is_host kind ≡ true)
    × (use_ip ≡ truth_at pairs true (at ++ codes "useIP"))
    × (string_bytes header ≡ text_else pairs (codes "host") (at ++ codes "hostHeader"))
    × (preserve ≡ truth_at pairs false (at ++ codes "preserveExisting"))
IsStep pairs at kind (Static key value preserve) =
    (is_type (codes "static") kind ≡ true)
    × (string_bytes key ≡ text_else pairs (codes "key") (at ++ codes "key"))
    × (string_bytes value ≡ text_else pairs (codes "value") (at ++ codes "value"))
    × (preserve ≡ truth_at pairs true (at ++ codes "preserveExisting"))
IsStep pairs at kind (Remove names) = (is_type (codes "remove_header") kind ≡ true) × (map string_bytes names.items ≡ removed pairs at)

-- the pattern of dates of a serializer
abbrev pub date_of : List Pair → List ℕ → Option Pair → Option (List ℕ)
date_of pairs at None = None
date_of pairs at (Some kind) = if is_millis kind.value then Some (text_at pairs (at ++ codes "pattern")) else None

-- the serializer of a name, of an interceptor whose keys begin so
abbrev pub IsGroup : List Pair → List ℕ → List ℕ → Group → Type 0
IsGroup pairs at name g =
    let front = front_of at (codes "serializers.") name in
    (string_bytes g.name ≡ text_at pairs (front ++ codes "name")) × (option_map string_bytes g.millis ≡ date_of pairs front (lookup (front ++ codes "type") pairs))

-- the line of a pattern, or of the type
abbrev pub pattern_line : List Pair → List ℕ → List ℕ → ℕ
pattern_line pairs at key = line_or (line_at pairs (at ++ codes "type")) (lookup (at ++ key) pairs)

-- no type of an interceptor but the last
abbrev pub is_other : List ℕ → Bool
is_other kind =
    is_timestamp kind || is_host kind || is_type (codes "static") kind || is_type (codes "remove_header") kind || is_type (codes "regex_filter") kind
    || is_type (codes "regex_extractor") kind || is_plugin kind

abbrev pub IsRegex : List Pair → List ℕ → List ℕ → RegexKeys → ℕ → Type 0
IsRegex pairs at kind (Filter regex exclude) line =
    (is_type (codes "regex_filter") kind ≡ true)
    × (string_bytes regex ≡ text_else pairs (codes ".*") (at ++ codes "regex"))
    × (exclude ≡ truth_at pairs false (at ++ codes "excludeEvents"))
    × (line ≡ pattern_line pairs at (codes "regex"))
IsRegex pairs at kind (Extract regex groups) line =
    (is_type (codes "regex_extractor") kind ≡ true)
    × (string_bytes regex ≡ text_at pairs (at ++ codes "regex"))
    × Match (IsGroup pairs at) (names_in pairs (at ++ codes "serializers")) groups.items
    × (line ≡ pattern_line pairs at (codes "regex"))
IsRegex pairs at kind (Replace search text) line =
    (is_other kind ≡ false)
    × (string_bytes search ≡ text_at pairs (at ++ codes "searchPattern"))
    × (string_bytes text ≡ text_at pairs (at ++ codes "replaceString"))
    × (line ≡ pattern_line pairs at (codes "searchPattern"))

abbrev pub IsStepPlan : List Pair → List ℕ → StepPlan → Type 0
IsStepPlan pairs at (Step step) = IsStep pairs at (text_at pairs (at ++ codes "type")) step
IsStepPlan pairs at (Regex keys line) = IsRegex pairs at (text_at pairs (at ++ codes "type")) keys line
IsStepPlan pairs at (Plugin' name line) =
    let kind = text_at pairs (at ++ codes "type") in (is_plugin kind ≡ true) × (string_bytes name ≡ drop 7 kind) × (line ≡ line_at pairs (at ++ codes "type"))

-- the interceptor of a name, of a source whose keys begin so
abbrev pub StepNamed : List Pair → List ℕ → List ℕ → StepPlan → Type 0
StepNamed pairs at name s = IsStepPlan pairs (front_of at (codes "interceptors.") name) s

-- Selectors, of a source with these channels.
abbrev pub places_at : List Pair → List (List ℕ) → List ℕ → List ℕ
places_at pairs others key = map (place_of others) (names_in pairs key)

-- what stands after the front of a key, and the places of the channels that its value names
abbrev pub mapped_at : List (List ℕ) → List ℕ → Pair → List (List ℕ × List ℕ)
mapped_at others front p = if starts_with nat_eq p.key front then (drop (length front) p.key, map (place_of others) (once (words p.value))) ∷ [] else []

abbrev pub mapped : List Pair → List (List ℕ) → List ℕ → List (List ℕ × List ℕ)
mapped pairs others front = flat_map (mapped_at others front) pairs

abbrev pub seen_pair : String Global × Vec ℕ Global → List ℕ × List ℕ
seen_pair pair = (string_bytes pair.0, pair.1.items)

abbrev pub IsSelector : List Pair → List ℕ → List (List ℕ) → Selector → Type 0
IsSelector pairs at others (Replicating channels optional) =
    (is_type (codes "multiplexing") (text_at pairs (at ++ codes "type")) ≡ false)
    × (channels ≡ length others)
    × (optional.items ≡ places_at pairs others (at ++ codes "optional"))
IsSelector pairs at others (Multiplexing header mapping default optional) =
    (is_type (codes "multiplexing") (text_at pairs (at ++ codes "type")) ≡ true)
    × (string_bytes header ≡ text_else pairs (codes "flume.selector.header") (at ++ codes "header"))
    × (map seen_pair mapping.items ≡ mapped pairs others (at ++ codes "mapping."))
    × (default.items ≡ places_at pairs others (at ++ codes "default"))
    × (map seen_pair optional.items ≡ mapped pairs others (at ++ codes "optional."))

-- the source of a name, whose keys begin so
pub record IsSource (pairs : List Pair) (at : List ℕ) (among : List (List ℕ)) (name : List ℕ) (s : SourcePlan) : Type 0 where
  pub named : string_bytes s.name ≡ name
  pub line : s.line ≡ line_at pairs (at ++ codes "type")
  pub kind : IsSourceKind pairs at (text_at pairs (at ++ codes "type")) s.kind
  pub channels : s.channels.items ≡ map (place_of among) (names_in pairs (at ++ codes "channels"))
  pub steps : Match (StepNamed pairs at) (names_in pairs (at ++ codes "interceptors")) s.steps.items
  pub selector : IsSelector pairs (at ++ codes "selector.") (names_in pairs (at ++ codes "channels")) s.selector

abbrev pub IsChannelKind : List Pair → List ℕ → List ℕ → ChannelPlan → ChannelKind → Type 0
IsChannelKind pairs at kind c Memory =
    (is_type (codes "memory") kind ≡ true)
    × (c.capacity ≡ number_at pairs 1 10000000 100 (at ++ codes "capacity"))
    × (c.txn_capacity ≡ number_at pairs 1 100000 100 (at ++ codes "transactionCapacity"))
IsChannelKind pairs at kind c (File folder max_file interval on_close) =
    (is_type (codes "memory") kind ≡ false)
    × (string_bytes folder ≡ text_at pairs (at ++ codes "dataDirs"))
    × (c.capacity ≡ number_at pairs 1 10000000 1000000 (at ++ codes "capacity"))
    × (c.txn_capacity ≡ number_at pairs 1 100000 10000 (at ++ codes "transactionCapacity"))
    × (max_file ≡ number_at pairs 4096 2146435071 2146435071 (at ++ codes "maxFileSize"))
    × (interval ≡ number_at pairs 1000 86400000 30000 (at ++ codes "checkpointInterval"))
    × (on_close ≡ truth_at pairs true (at ++ codes "checkpointOnClose"))

-- the channel of a name
pub record IsChannel (pairs : List Pair) (at : List ℕ) (name : List ℕ) (c : ChannelPlan) : Type 0 where
  pub named : string_bytes c.name ≡ name
  pub line : c.line ≡ line_at pairs (at ++ codes "type")
  pub kind : IsChannelKind pairs at (text_at pairs (at ++ codes "type")) c c.kind

abbrev pub IsSinkKind : List Pair → List ℕ → List ℕ → SinkPlan → SinkKind → Type 0
IsSinkKind pairs at kind s (Avro' host port) =
    (is_type (codes "avro") kind ≡ true)
    × (string_bytes host ≡ text_at pairs (at ++ codes "hostname"))
    × (port ≡ number_at pairs 1 65535 1 (at ++ codes "port"))
    × (s.batch ≡ number_at pairs 1 10000 100 (at ++ codes "batch-size"))
IsSinkKind pairs at kind s (Roll folder interval) =
    (is_type (codes "avro") kind ≡ false)
    × (is_type (codes "file_roll") kind ≡ true)
    × (string_bytes folder ≡ text_at pairs (at ++ codes "sink.directory"))
    × (interval ≡ number_at pairs 0 4294967295 30 (at ++ codes "sink.rollInterval"))
    × (s.batch ≡ number_at pairs 1 10000 100 (at ++ codes "sink.batchSize"))
IsSinkKind pairs at kind s (Plugin name) =
    (is_type (codes "avro") kind ≡ false)
    × (is_type (codes "file_roll") kind ≡ false)
    × (is_plugin kind ≡ true)
    × (string_bytes name ≡ drop 7 kind)
    × (s.batch ≡ 100)
IsSinkKind pairs at kind s Null =
    (is_type (codes "avro") kind ≡ false)
    × (is_type (codes "file_roll") kind ≡ false)
    × (is_plugin kind ≡ false)
    × (s.batch ≡ number_at pairs 1 10000 100 (at ++ codes "batchSize"))

-- the sink of a name, whose keys begin so, with its channel at this place
pub record SinkWith (pairs : List Pair) (at : List ℕ) (place : ℕ) (name : List ℕ) (s : SinkPlan) : Type 0 where
  pub named : string_bytes s.name ≡ name
  pub line : s.line ≡ line_at pairs (at ++ codes "type")
  pub kind : IsSinkKind pairs at (text_at pairs (at ++ codes "type")) s s.kind
  pub channel : s.channel ≡ place

abbrev pub SourceNamed : List Pair → List ℕ → List (List ℕ) → List ℕ → SourcePlan → Type 0
SourceNamed pairs agent channels name s = IsSource pairs (front_of agent (codes ".sources.") name) channels name s

abbrev pub ChannelNamed : List Pair → List ℕ → List ℕ → ChannelPlan → Type 0
ChannelNamed pairs agent name c = IsChannel pairs (front_of agent (codes ".channels.") name) name c

abbrev pub SinkNamed : List Pair → List ℕ → List (List ℕ) → List ℕ → SinkPlan → Type 0
SinkNamed pairs agent channels name s = let at = front_of agent (codes ".sinks.") name in SinkWith pairs at (place_of channels (text_at pairs (at ++ codes "channel"))) name s

-- Groups. The keys of a processor's type are read for that type alone.
abbrev pub processor_of : List Pair → List ℕ → List ℕ → Processor
processor_of pairs at kind =
    if is_type (codes "failover") kind then Failover
    else (if is_type (codes "load_balance") kind
    then (if bytes_eq (text_at pairs (at ++ codes "processor.selector")) (codes "random") then Random else RoundRobin) else Single)

abbrev pub penalty_of : List Pair → List ℕ → List ℕ → ℕ
penalty_of pairs at kind =
    if is_type (codes "failover") kind then number_at pairs 0 18446744073709551615 30000 (at ++ codes "processor.maxpenalty")
    else (if is_type (codes "load_balance") kind then number_at pairs 0 18446744073709551615 30000 (at ++ codes "processor.selector.maxTimeOut") else 30000)

abbrev pub backoff_of : List Pair → List ℕ → List ℕ → Bool
backoff_of pairs at kind = if is_type (codes "load_balance") kind then truth_at pairs false (at ++ codes "processor.backoff") else false

abbrev pub priority_of : List Pair → List ℕ → List ℕ → List ℕ → ℕ
priority_of pairs at kind member =
    if is_type (codes "failover") kind then number_at pairs 0 4294967295 0 (at ++ codes "processor.priority." ++ member) else 0

-- the group of a name, whose keys begin so, with these sinks
pub record GroupWith (pairs : List Pair) (at : List ℕ) (among members : List (List ℕ)) (name : List ℕ) (g : GroupPlan) : Type 0 where
  pub named : string_bytes g.name ≡ name
  pub sinks : g.sinks.items ≡ map (place_of among) members
  pub processor : g.processor ≡ processor_of pairs at (text_at pairs (at ++ codes "processor.type"))
  pub priorities : g.priorities.items ≡ map (priority_of pairs at (text_at pairs (at ++ codes "processor.type"))) members
  pub penalty : g.penalty ≡ penalty_of pairs at (text_at pairs (at ++ codes "processor.type"))
  pub backoff : g.backoff ≡ backoff_of pairs at (text_at pairs (at ++ codes "processor.type"))

abbrev pub GroupNamed : List Pair → List ℕ → List (List ℕ) → List ℕ → GroupPlan → Type 0
GroupNamed pairs agent sinks name g = let at = front_of agent (codes ".sinkgroups.") name in GroupWith pairs at sinks (names_in pairs (at ++ codes "sinks")) name g
