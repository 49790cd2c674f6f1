-- The texts of a configuration that have to be patterns. Whether one is, `regex` tells: a text that it may refuse for its syntax is
-- a bad one, and any other was read.
use Rattle.std.specs.Prelude.{ℕ, Bool, true, false, List, [], ◌∷◌, ◌++◌, if◌then◌else◌, Option, Some, None, codes}
use Rattle.std.specs.List.{flat_map}
use Rattle.prop_text.specs.Pairs.{Pair}
use Rattle.prop_text.specs.Winners.{lookup}
use Rattle.regex_steps.specs.declared.patterns.Patterns.{Patterns}
use Rattle.regex_steps.specs.Search.{AreBuilt, IsNoPattern}
use Rattle.regex_steps.specs.Dates.{Piece, IsPattern, IsNoDatePattern}
use Rattle.plan_judging.specs.declared.findings.FaultKind.TheVariants.{BadPattern}
use Rattle.plan_judging.specs.Candidates.{Candidates, Seen, Adds, nothing, ◌⊕◌}
use Rattle.plan_judging.specs.Rows.{is_type, is_millis, one_fault}
use Rattle.plan_judging.specs.Components.{front_of, names_in}

-- a text that has to be a pattern, or a pattern of dates, and its line
pub record Asked : Type 0 where
  pub text : List ℕ
  pub line : ℕ
  pub is_date : Bool

abbrev pub asked_at : Bool → Option Pair → List Asked
asked_at is_date None = []
asked_at is_date (Some p) = record { text = p.value; line = p.line; is_date = is_date } ∷ []

abbrev pub asked_of_date : List Pair → List ℕ → Option Pair → List Asked
asked_of_date pairs at None = []
asked_of_date pairs at (Some kind) = if is_millis kind.value then asked_at true (lookup (at ++ codes "pattern") pairs) else []

abbrev pub asked_of_serializer : List Pair → List ℕ → List ℕ → List Asked
asked_of_serializer pairs at name = let front = front_of at (codes "serializers.") name in asked_of_date pairs front (lookup (front ++ codes "type") pairs)

abbrev pub asked_of_extractor : List Pair → List ℕ → List Asked
asked_of_extractor pairs at =
    asked_at false (lookup (at ++ codes "regex") pairs) ++ flat_map (asked_of_serializer pairs at) (names_in pairs (at ++ codes "serializers"))

abbrev pub asked_of_kind : List Pair → List ℕ → List ℕ → List Asked
asked_of_kind pairs at kind =
    if is_type (codes "regex_filter") kind then asked_at false (lookup (at ++ codes "regex") pairs)
    else (if is_type (codes "regex_extractor") kind then asked_of_extractor pairs at
    else (if is_type (codes "search_replace") kind then asked_at false (lookup (at ++ codes "searchPattern") pairs) else []))

abbrev pub asked_by_kind : List Pair → List ℕ → Option Pair → List Asked
asked_by_kind pairs at None = []
asked_by_kind pairs at (Some kind) = asked_of_kind pairs at kind.value

abbrev pub asked_of_step : List Pair → List ℕ → List ℕ → List Asked
asked_of_step pairs at name = let front = front_of at (codes "interceptors.") name in asked_by_kind pairs front (lookup (front ++ codes "type") pairs)

abbrev pub asked_of_source : List Pair → List ℕ → List ℕ → List Asked
asked_of_source pairs agent name =
    let at = front_of agent (codes ".sources.") name in flat_map (asked_of_step pairs at) (names_in pairs (at ++ codes "interceptors"))

-- those of all sources of an agent
abbrev pub asked_of : List Pair → List ℕ → List (List ℕ) → List Asked
asked_of pairs agent sources = flat_map (asked_of_source pairs agent) sources

-- the verdict on a text: whether it is a bad pattern of its kind
abbrev pub IsVerdict : Bool → Bool → List ℕ → Type 0
IsVerdict true true text = IsNoDatePattern text
IsVerdict true false text = (pieces : List Piece) × IsPattern text pieces
IsVerdict false true text = IsNoPattern text
IsVerdict false false text = (p : Patterns) × AreBuilt text p

-- each text has its verdict, in order
abbrev pub AreVerdicts : List Asked → List Bool → Type 0
AreVerdicts [] [] = Unit {0}
AreVerdicts [] (bad ∷ verdicts) = ⊥
AreVerdicts (a ∷ asked) [] = ⊥
AreVerdicts (a ∷ asked) (bad ∷ verdicts) = IsVerdict a.is_date bad a.text × AreVerdicts asked verdicts

abbrev pub bad_one : Asked → Bool → Candidates
bad_one a bad = if bad then one_fault a.line BadPattern else nothing

-- the lines of the bad ones
abbrev pub bad_ones : List Asked → List Bool → Candidates
bad_ones [] verdicts = nothing
bad_ones (a ∷ asked) [] = nothing
bad_ones (a ∷ asked) (bad ∷ verdicts) = bad_one a bad ⊕ bad_ones asked verdicts

-- a step from old to new adds those of these texts that are bad
pub record Asks (old new : Seen) (asked : List Asked) : Type 0 where
  pub verdicts : List Bool
  pub are : AreVerdicts asked verdicts
  pub adds : Adds old new (bad_ones asked verdicts)
