-- Copies mean the same.
use Rattle.std.proofs.Common.{◌≡◌, ◌∙◌, ℕ, Bool, true, false, List, [], ◌∷◌, cond, map, Option, Some, None, refl, sym, ap, subst, string_bytes, bytes_eq}
use Rattle.std.specs.Option.{option_map}
use Rattle.std.specs.Fmt.{decimal}
use Rattle.std.specs.declared.string.String.{String}
use Rattle.std.specs.declared.vec.Vec.{Vec}
use Rattle.std.specs.declared.alloc.Global.{Global}
use Rattle.event_core.specs.Content.{Header, content, value_of, without_header}
use Rattle.interceptors.specs.Steps.{set_unless, without_all}
use Rattle.interceptors.specs.declared.step.Step.{Step}
use Rattle.interceptors.specs.declared.step.Step.TheVariants.{Timestamp, Host, Static, Remove}
use Rattle.regex_steps.specs.Dates.{IsPattern, Piece}
use Rattle.regex_steps.specs.Extract.{AreSerializers, IsDate, Serializer}
use Rattle.regex_steps.specs.Search.{AreBuilt as BuiltOf}
use Rattle.regex_steps.specs.Steps.{Doing, Filters, Replaces, IsStepOf, IsWanted, pattern_text, step as step_of}
use Rattle.regex_steps.specs.Steps.{Step as Built}
use Rattle.regex_steps.specs.declared.keys.Group.{Group}
use Rattle.regex_steps.specs.declared.keys.RegexKeys.{RegexKeys}
use Rattle.regex_steps.specs.declared.keys.RegexKeys.TheVariants.{Filter, Extract, Replace}
use Rattle.selectors.specs.Choices.{mapped, mapped_value, optional, or_else, places_below, required, without}
use Rattle.selectors.specs.declared.selector.Selector.{Selector}
use Rattle.selectors.specs.declared.selector.Selector.TheVariants.{Replicating, Multiplexing}
use Rattle.source_put.specs.Chains.{host_text}
use Rattle.source_put.specs.declared.chain.ChainLink.{ChainLink}
use Rattle.source_put.specs.declared.chain.ChainLink.TheVariants as link
use Rattle.source_put.specs.declared.chain.HostNames.{HostNames}
use Rattle.chain_plan.specs.Builds.{AreBuilt, IsBuilt}
use Rattle.chain_plan.specs.declared.plan.LinkPlan.{LinkPlan}
use Rattle.chain_plan.specs.declared.plan.LinkPlan.TheVariants as link_plan
use Rattle.agent_plan.specs.Values.{seen_pair}
use Rattle.agent_plan.specs.declared.plan.StepPlan.{StepPlan}
use Rattle.agent_plan.specs.declared.plan.StepPlan.TheVariants as plan
use Rattle.agent_drafts.specs.Copies.{AreSameKeys, AreSameNames, IsSameSelector, IsSameStep, seen_group}
use Rattle.agent_drafts.specs.Drafts.{Deals, IsLink}
use Rattle.agent_drafts.specs.Means.{DoesTheSame, IsAsPlanned}

-- ---- steps

-- the headers without those of keys, by the bytes of these
abbrev without_bytes : List (List ℕ) → List Header → List Header
without_bytes [] headers = headers
without_bytes (name ∷ names) headers = without_bytes names (without_header headers name)

by_bytes : (names : List (String Global)) (headers : List Header) → without_all names headers ≡ without_bytes (map string_bytes names) headers
by_bytes [] headers = refl
by_bytes (name ∷ names) headers = by_bytes names (without_header headers (string_bytes name))

same_without : (names copies : List (String Global)) (headers : List Header) → map string_bytes copies ≡ map string_bytes names → without_all copies headers ≡ without_all names headers
same_without names copies headers same = by_bytes copies headers ∙ ap (λ (l : List (List ℕ)). without_bytes l headers) same ∙ sym (by_bytes names headers)

-- what the host is called by its address, or by its name
abbrev own_text : Bool → HostNames → List ℕ
own_text true host = string_bytes host.address
own_text false host = string_bytes host.name

host_says : (use_ip : Bool) (header : String Global) (preserve : Bool) (host : HostNames) → host_text (Host use_ip header preserve) host ≡ own_text use_ip host
host_says true header preserve host = refl
host_says false header preserve host = refl

same_host : (use_ip : Bool) (host other : HostNames) → AreSameNames host other → own_text use_ip other ≡ own_text use_ip host
same_host true host other same = same.1
same_host false host other same = same.0

-- the copy of a step does the same to each event
pub same_step : (step copy : Step) → IsSameStep step copy → DoesTheSame step copy
same_step (Timestamp header preserve) (Timestamp key kept) is moment host other event names = λ i. set_unless (is.1 i) event (is.0 i) (decimal moment)
same_step (Timestamp header preserve) (Host use_ip key kept) is moment host other event names = absurd is
same_step (Timestamp header preserve) (Static key value kept) is moment host other event names = absurd is
same_step (Timestamp header preserve) (Remove copies) is moment host other event names = absurd is
same_step (Host use_ip header preserve) (Timestamp key kept) is moment host other event names = absurd is
same_step (Host use_ip header preserve) (Host wanted key kept) is moment host other event names =
    let told = host_says wanted key kept other ∙ ap (λ (b : Bool). own_text b other) is.0 ∙ same_host use_ip host other names ∙ sym (host_says use_ip header preserve host) in
    λ i. set_unless (is.2 i) event (is.1 i) (told i)
same_step (Host use_ip header preserve) (Static key value kept) is moment host other event names = absurd is
same_step (Host use_ip header preserve) (Remove copies) is moment host other event names = absurd is
same_step (Static key value preserve) (Timestamp header kept) is moment host other event names = absurd is
same_step (Static key value preserve) (Host use_ip header kept) is moment host other event names = absurd is
same_step (Static key value preserve) (Static copy text kept) is moment host other event names = λ i. set_unless (is.2 i) event (is.0 i) (is.1 i)
same_step (Static key value preserve) (Remove copies) is moment host other event names = absurd is
same_step (Remove keys) (Timestamp header kept) is moment host other event names = absurd is
same_step (Remove keys) (Host use_ip header kept) is moment host other event names = absurd is
same_step (Remove keys) (Static key value kept) is moment host other event names = absurd is
same_step (Remove keys) (Remove copies) is moment host other event names = λ i. content (same_without keys.items copies.items event.headers is i) event.body

-- ---- keys of patterns

same_text : (keys copy : RegexKeys) → AreSameKeys keys copy → pattern_text copy ≡ pattern_text keys
same_text (Filter regex exclude) (Filter other out) is = is.0
same_text (Filter regex exclude) (Extract other copies) is = absurd is
same_text (Filter regex exclude) (Replace search put) is = absurd is
same_text (Extract regex groups) (Filter other out) is = absurd is
same_text (Extract regex groups) (Extract other copies) is = is.0
same_text (Extract regex groups) (Replace search put) is = absurd is
same_text (Replace search text) (Filter other out) is = absurd is
same_text (Replace search text) (Extract other copies) is = absurd is
same_text (Replace search text) (Replace other put) is = is.0

-- the pieces are those of the text's pattern
abbrev DateBy : Option (List ℕ) → Option (List Piece) → Type 0
DateBy None None = Unit {0}
DateBy None (Some pieces) = ⊥
DateBy (Some text) None = ⊥
DateBy (Some text) (Some pieces) = IsPattern text pieces

-- what is seen of each group makes its own
abbrev SerializersBy : List (List ℕ × Option (List ℕ)) → List Serializer → Type 0
SerializersBy [] [] = Unit {0}
SerializersBy [] (s ∷ ss) = ⊥
SerializersBy (g ∷ gs) [] = ⊥
SerializersBy (g ∷ gs) (s ∷ ss) = ((s.name ≡ g.0) × DateBy g.1 s.date) × SerializersBy gs ss

seen_date : (o : Option (String Global)) (pieces : Option (List Piece)) → IsDate o pieces → DateBy (option_map string_bytes o) pieces
seen_date None None is = tt
seen_date None (Some pieces) is = absurd is
seen_date (Some text) None is = absurd is
seen_date (Some text) (Some pieces) is = is

date_seen : (o : Option (String Global)) (pieces : Option (List Piece)) → DateBy (option_map string_bytes o) pieces → IsDate o pieces
date_seen None None is = tt
date_seen None (Some pieces) is = absurd is
date_seen (Some text) None is = absurd is
date_seen (Some text) (Some pieces) is = is

to_seen : (gs : List Group) (ss : List Serializer) → AreSerializers gs ss → SerializersBy (map seen_group gs) ss
to_seen [] [] are = tt
to_seen [] (s ∷ ss) are = absurd are
to_seen (g ∷ gs) [] are = absurd are
to_seen (g ∷ gs) (s ∷ ss) are = ((are.0.0, seen_date g.millis s.date are.0.1), to_seen gs ss are.1)

from_seen : (gs : List Group) (ss : List Serializer) → SerializersBy (map seen_group gs) ss → AreSerializers gs ss
from_seen [] [] are = tt
from_seen [] (s ∷ ss) are = absurd are
from_seen (g ∷ gs) [] are = absurd are
from_seen (g ∷ gs) (s ∷ ss) are = ((are.0.0, date_seen g.millis s.date are.0.1), from_seen gs ss are.1)

same_serializers : (gs copies : List Group) (ss : List Serializer) → map seen_group copies ≡ map seen_group gs → AreSerializers copies ss → AreSerializers gs ss
same_serializers gs copies ss same are = from_seen gs ss (subst (λ (l : List (List ℕ × Option (List ℕ))). SerializersBy l ss) same (to_seen copies ss are))

same_wanted : (keys copy : RegexKeys) → AreSameKeys keys copy → (does : Doing) → IsWanted copy does → IsWanted keys does
same_wanted (Filter regex exclude) (Filter other out) is does wanted = wanted ∙ ap Filters is.1
same_wanted (Filter regex exclude) (Extract other copies) is does wanted = absurd is
same_wanted (Filter regex exclude) (Replace search put) is does wanted = absurd is
same_wanted (Extract regex groups) (Filter other out) is does wanted = absurd is
same_wanted (Extract regex groups) (Extract other copies) is does wanted = (wanted.0, wanted.1, same_serializers groups.items copies.items wanted.0 is.1 wanted.2)
same_wanted (Extract regex groups) (Replace search put) is does wanted = absurd is
same_wanted (Replace search text) (Filter other out) is does wanted = absurd is
same_wanted (Replace search text) (Extract other copies) is does wanted = absurd is
same_wanted (Replace search text) (Replace other put) is does wanted = wanted ∙ ap Replaces is.1

-- what is built of the copy of a regex's keys is built of the keys
pub same_keys : (keys copy : RegexKeys) → AreSameKeys keys copy → (built : Built) → IsStepOf copy built → IsStepOf keys built
same_keys keys copy is built made = (subst (λ (t : List ℕ). BuiltOf t built.patterns) (same_text keys copy is) made.0, same_wanted keys copy is built.does made.1)

-- ---- selectors

-- the places of a value, by what is seen of each pair
abbrev places_by : List (List ℕ × List ℕ) → List ℕ → List ℕ
places_by [] value = []
places_by (pair ∷ pairs) value = cond (bytes_eq pair.0 value) pair.1 (places_by pairs value)

by_seen : (pairs : List (String Global × Vec ℕ Global)) (value : List ℕ) → mapped_value pairs value ≡ places_by (map seen_pair pairs) value
by_seen [] value = refl
by_seen (pair ∷ pairs) value = ap (λ (l : List ℕ). cond (bytes_eq (string_bytes pair.0) value) pair.1.items l) (by_seen pairs value)

same_mapped : (pairs copies : List (String Global × Vec ℕ Global)) (value : Option (List ℕ)) → map seen_pair copies ≡ map seen_pair pairs → mapped copies value ≡ mapped pairs value
same_mapped pairs copies None same = refl
same_mapped pairs copies (Some value) same = by_seen copies value ∙ ap (λ (l : List (List ℕ × List ℕ)). places_by l value) same ∙ sym (by_seen pairs value)

-- of the value of a header
same_value : (pairs copies : List (String Global × Vec ℕ Global)) (key other : List ℕ) (headers : List Header) → map seen_pair copies ≡ map seen_pair pairs → other ≡ key
    → mapped copies (value_of headers other) ≡ mapped pairs (value_of headers key)
same_value pairs copies key other headers same is = same_mapped pairs copies (value_of headers other) same ∙ ap (λ (k : List ℕ). mapped pairs (value_of headers k)) is

-- the copy of a selector requires the same channels
pub same_required : (selector copy : Selector) → IsSameSelector selector copy → (headers : List Header) → required copy headers ≡ required selector headers
same_required (Replicating channels others) (Replicating count copies) is headers = λ i. without (is.1 i) (places_below (is.0 i))
same_required (Replicating channels others) (Multiplexing header mapping default maps) is headers = absurd is
same_required (Multiplexing header mapping default others) (Replicating channels copies) is headers = absurd is
same_required (Multiplexing header mapping default others) (Multiplexing copy maps rest copies) is headers =
    let chosen = same_value mapping.items maps.items (string_bytes header) (string_bytes copy) headers is.1 is.0 in
    λ i. or_else (chosen i) (is.2 i)

-- the copy of a selector has the same optional channels
pub same_optional : (selector copy : Selector) → IsSameSelector selector copy → (headers : List Header) → optional copy headers ≡ optional selector headers
same_optional (Replicating channels others) (Replicating count copies) is headers = λ i. without (without (is.1 i) (places_below (is.0 i))) (is.1 i)
same_optional (Replicating channels others) (Multiplexing header mapping default maps) is headers = absurd is
same_optional (Multiplexing header mapping default others) (Replicating channels copies) is headers = absurd is
same_optional (Multiplexing header mapping default others) (Multiplexing copy maps rest copies) is headers =
    let chosen = same_value mapping.items maps.items (string_bytes header) (string_bytes copy) headers is.1 is.0 in
    let missed = same_value others.items copies.items (string_bytes header) (string_bytes copy) headers is.3 is.0 in
    λ i. without (or_else (chosen i) (is.2 i)) (missed i)

-- ---- chains

one_planned : {B : Type 0} (step : StepPlan) (given : List B) (plan : LinkPlan B) (made : ChainLink B) → IsLink step given plan → IsBuilt plan made → IsAsPlanned step given made
one_planned (plan.Step step) given (link_plan.Step copy) (link.Step made) is built = (is.0, same_step step made (subst (IsSameStep step) (sym built) is.1))
one_planned (plan.Step step) given (link_plan.Step copy) (link.Regex made) is built = absurd built
one_planned (plan.Step step) given (link_plan.Step copy) (link.Boxed made) is built = absurd built
one_planned (plan.Step step) given (link_plan.Regex keys) made is built = absurd is
one_planned (plan.Step step) given (link_plan.Boxed object) made is built = absurd is
one_planned (plan.Regex keys line) given (link_plan.Step copy) made is built = absurd is
one_planned (plan.Regex keys line) given (link_plan.Regex copy) (link.Step made) is built = absurd built
one_planned (plan.Regex keys line) given (link_plan.Regex copy) (link.Regex made) is built = (is.0, same_keys keys copy is.1 (step_of made) built)
one_planned (plan.Regex keys line) given (link_plan.Regex copy) (link.Boxed made) is built = absurd built
one_planned (plan.Regex keys line) given (link_plan.Boxed object) made is built = absurd is
one_planned (plan.Plugin name line) given (link_plan.Step copy) made is built = absurd is
one_planned (plan.Plugin name line) given (link_plan.Regex keys) made is built = absurd is
one_planned (plan.Plugin name line) given (link_plan.Boxed object) (link.Step made) is built = absurd built
one_planned (plan.Plugin name line) given (link_plan.Boxed object) (link.Regex made) is built = absurd built
one_planned {B} (plan.Plugin name line) given (link_plan.Boxed object) (link.Boxed made) is built = is ∙ ap (λ (o : B). o ∷ []) (sym built)

-- interceptors built of copies do what was planned
pub all_planned : {B : Type 0} (steps : List StepPlan) (own : List B) (plans : List (LinkPlan B)) (links : List (ChainLink B)) → Deals IsLink steps own plans → AreBuilt plans links
    → Deals IsAsPlanned steps own links
all_planned [] own [] [] are built = are
all_planned [] own [] (made ∷ links) are built = absurd built
all_planned [] own (p ∷ plans) links are built = absurd are
all_planned (step ∷ steps) own [] links are built = absurd are
all_planned (step ∷ steps) own (p ∷ plans) [] are built = absurd built
all_planned (step ∷ steps) own (p ∷ plans) (made ∷ links) (given, rest, is, here, are) built =
    (given, rest, is, one_planned step given p made here built.0, all_planned steps rest plans links are built.1)
