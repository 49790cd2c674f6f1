-- What a step makes of an event.
use Rattle.std.specs.Prelude.{◌≡◌, ◌⊎◌, Bool, true, false, not, List, ℕ, Option, Some, None, is_some, string_bytes, if◌then◌else◌}
use Rattle.event_core.specs.Content.{Content, content}
use Rattle.event_core.specs.Refusals.{IsRefusalOfEvent}
use Rattle.event_core.specs.declared.refused.EventRefused.{EventRefused}
use Rattle.event_core.specs.declared.refused.EventRefused.TheVariants.{RepeatedKey, TooLarge, NoMemory}
use Rattle.regex_steps.specs.declared.keys.RegexKeys.{RegexKeys}
use Rattle.regex_steps.specs.declared.keys.RegexKeys.TheVariants.{Filter, Extract, Replace}
use Rattle.regex_steps.specs.declared.step.Does.{Does}
use Rattle.regex_steps.specs.declared.step.Does.TheVariants as does
use Rattle.regex_steps.specs.declared.step.RegexStep.{RegexStep}
use Rattle.regex_steps.specs.declared.patterns.Patterns.{Patterns}
use Rattle.regex_steps.specs.Search.{AreBuilt, first_match, replaced}
use Rattle.regex_steps.specs.Extract.{Serializer, serializers_of, headers_after, AreSerializers, HasBadDate}
use Rattle.regex_steps.specs.Search.{IsNoPattern}

pub data Doing : Type 0 where
  -- drops the events in which the pattern is found, or else those in which it isn't
  Filters : Bool → Doing
  -- sets headers to the groups from 1 on
  Extracts : List Serializer → Doing
  -- puts what this text stands for in the place of each match
  Replaces : List ℕ → Doing

abbrev pub doing : Does → Doing
doing (does.Filter exclude) = Filters exclude
doing (does.Extract serializers) = Extracts (serializers_of serializers.items)
doing (does.Replace text) = Replaces (string_bytes text)

pub record Step : Type 0 where
  pub patterns : Patterns
  pub does : Doing

-- what a built step is
abbrev pub step : RegexStep → Step
step built = record { patterns = built.patterns; does = doing built.does }

-- the text of the pattern
abbrev pub pattern_text : RegexKeys → List ℕ
pattern_text (Filter regex exclude) = string_bytes regex
pattern_text (Extract regex groups) = string_bytes regex
pattern_text (Replace search text) = string_bytes search

-- what is done is what these keys say
abbrev pub IsWanted : RegexKeys → Doing → Type 0
IsWanted (Filter regex exclude) does = does ≡ Filters exclude
IsWanted (Extract regex groups) does = (ss : List Serializer) × (does ≡ Extracts ss) × AreSerializers groups.items ss
IsWanted (Replace search text) does = does ≡ Replaces (string_bytes text)

-- the step searches for the pattern of these keys, and does what they say
abbrev pub IsStepOf : RegexKeys → Step → Type 0
IsStepOf keys s = AreBuilt (pattern_text keys) s.patterns × IsWanted keys s.does

-- the keys have a text that stands for a date and is no pattern of dates
abbrev pub IsBadlyDated : RegexKeys → Type 0
IsBadlyDated (Filter regex exclude) = ⊥
IsBadlyDated (Extract regex groups) = HasBadDate groups.items
IsBadlyDated (Replace search text) = ⊥

-- the text of a pattern is none
abbrev pub IsBad : RegexKeys → Type 0
IsBad keys = IsNoPattern (pattern_text keys) ⊎ IsBadlyDated keys

-- whether a filter keeps an event in which the pattern is found or not
abbrev pub keeps : Bool → Bool → Bool
keeps true found = not found
keeps false found = found

-- the event after a step, or nothing
abbrev pub ran_as : Doing → Patterns → Content → Option Content
ran_as (Filters exclude) p event = if keeps exclude (is_some (first_match p event.body)) then Some event else None
ran_as (Extracts ss) p event = Some (content (headers_after p ss event.body event.headers) event.body)
ran_as (Replaces text) p event = Some (content event.headers (replaced p text event.body))

abbrev pub ran : Step → Content → Option Content
ran s event = ran_as s.does s.patterns event

-- the event after the step is refused for its size, or memory is wanting
abbrev pub IsRefusalOfStep : Option Content → EventRefused → Type 0
IsRefusalOfStep (Some event) e = IsRefusalOfEvent event e
IsRefusalOfStep None (RepeatedKey key) = ⊥
IsRefusalOfStep None (TooLarge size) = ⊥
IsRefusalOfStep None NoMemory = Unit {0}
