-- The rows of a run: each is of a sink that stands in no group, or of a group.
use Rattle.std.specs.Prelude.{◌≡◌, ◌⊎◌, ◌<◌, ◌++◌, ◌==◌, min, not, ℕ, zero, suc, Bool, true, false, List, [], ◌∷◌, All, codes, fold, flat_map, length, map, slice_get, slice_index, Some, None, string_bytes, if◌then◌else◌}
use Rattle.std.specs.List.{list_any, AllByRecursion}
use Rattle.agent_plan.specs.declared.plan.GroupPlan.{GroupPlan}
use Rattle.agent_plan.specs.declared.plan.SinkPlan.{SinkPlan}
use Rattle.plan_laws.specs.Once.{AreDistinct, group_places}
use Rattle.grouped_sinks.specs.declared.row.SinkRow.{SinkRow}

-- the numbers below this one that pass
abbrev pub places_where : (ℕ → Bool) → ℕ → List ℕ
places_where passes zero = []
places_where passes (suc n) = places_where passes n ++ (if passes n then n ∷ [] else [])

-- one of the places is this one
abbrev pub is_among : List ℕ → ℕ → Bool
is_among places place = list_any (λ other. other == place) places

-- some group has the sink at this place
abbrev pub is_grouped : List GroupPlan → ℕ → Bool
is_grouped groups place = list_any (λ (g : GroupPlan). is_among g.sinks.items place) groups

abbrev pub is_lone : List GroupPlan → ℕ → Bool
is_lone groups place = not (is_grouped groups place)

abbrev pub is_empty : List ℕ → Bool
is_empty [] = true
is_empty (place ∷ places) = false

-- the group at this place has a sink
abbrev pub has_sinks : List GroupPlan → ℕ → Bool
has_sinks [] at = false
has_sinks (g ∷ groups) zero = not (is_empty g.sinks.items)
has_sinks (g ∷ groups) (suc at) = has_sinks groups at

-- the channel of the sink at a place, and how many events it takes at a time
abbrev pub channel_at : List SinkPlan → ℕ → ℕ
channel_at sinks place = slice_index (map (λ (s : SinkPlan). s.channel) sinks) place

abbrev pub batch_at : List SinkPlan → ℕ → ℕ
batch_at sinks place = slice_index (map (λ (s : SinkPlan). s.batch) sinks) place

-- the row of the sink at this place, which stands in no group
pub record IsLone (sinks : List SinkPlan) (place : ℕ) (row : SinkRow) : Type 0 where
  pub sink : SinkPlan
  pub here : slice_get sinks place ≡ Some sink
  pub component : string_bytes row.component ≡ codes "sinks." ++ string_bytes sink.name
  pub channel : row.channel ≡ channel_at sinks place
  pub batch : row.batch ≡ batch_at sinks place
  pub places : row.places.items ≡ place ∷ []
  pub alone : row.group ≡ None

-- The row of the group at this place. It is on the channel of its first sink, and takes as many events at a time as the least that one of its
-- sinks takes.
pub record IsOfGroup (sinks : List SinkPlan) (groups : List GroupPlan) (at : ℕ) (row : SinkRow) : Type 0 where
  pub group : GroupPlan
  pub here : slice_get groups at ≡ Some group
  pub component : string_bytes row.component ≡ codes "sinkgroups." ++ string_bytes group.name
  pub places : row.places.items ≡ group.sinks.items
  pub first : ℕ
  pub others : List ℕ
  pub split : group.sinks.items ≡ first ∷ others
  pub channel : row.channel ≡ channel_at sinks first
  pub batch : row.batch ≡ fold (λ least place. min least (batch_at sinks place)) (batch_at sinks first) others
  pub grouped : row.group ≡ Some at

-- such a row came after these where one is due
abbrev pub AddsIf : (SinkRow → Type 0) → Bool → List SinkRow → List SinkRow → Type 0
AddsIf Is true old new = (row : SinkRow) × Is row × (new ≡ old ++ row ∷ [])
AddsIf Is false old new = new ≡ old

-- each thing with that at its place
abbrev pub Zips : {A B : Type 0} → (A → B → Type 0) → List A → List B → Type 0
Zips R [] [] = Unit {0}
Zips R [] (b ∷ ys) = ⊥
Zips R (a ∷ xs) [] = ⊥
Zips R (a ∷ xs) (b ∷ ys) = R a b × Zips R xs ys

-- such rows came after these, one for each of these places
abbrev pub JoinedBy : (ℕ → SinkRow → Type 0) → List ℕ → List SinkRow → List SinkRow → Type 0
JoinedBy Is places old new = (more : List SinkRow) × (new ≡ old ++ more) × Zips Is places more

-- the rows of a plan: those of the sinks that stand in no group, and then those of the groups that have a sink
pub record AreRows (sinks : List SinkPlan) (groups : List GroupPlan) (rows : List SinkRow) : Type 0 where
  pub lone : List SinkRow
  pub grouped : List SinkRow
  pub whole : rows ≡ lone ++ grouped
  pub alone : Zips (IsLone sinks) (places_where (is_lone groups) (length sinks)) lone
  pub together : Zips (IsOfGroup sinks groups) (places_where (has_sinks groups) (length groups)) grouped

-- each sink of a group is one of so many
abbrev pub AreThere : ℕ → List GroupPlan → Type 0
AreThere count groups = All (λ (g : GroupPlan). All (λ place. place < count) g.sinks.items) groups

-- the places of the rows' sinks, one row after the other
abbrev pub places_of : List SinkRow → List ℕ
places_of rows = flat_map (λ (row : SinkRow). row.places.items) rows

-- each is below this number
abbrev pub AreBelow : ℕ → List ℕ → Type 0
AreBelow count places = AllByRecursion (λ place. place < count) places

-- one of these is the place
abbrev pub IsAmong : ℕ → List ℕ → Type 0
IsAmong place [] = ⊥
IsAmong place (other ∷ places) = (other ≡ place) ⊎ IsAmong place places

-- each number below this one stands there once, and no other
pub record IsOrder (count : ℕ) (places : List ℕ) : Type 0 where
  pub once : AreDistinct places
  pub within : AreBelow count places
  pub all : (place : ℕ) → place < count → IsAmong place places

-- where no sink stands in groups twice, each sink of the plan is in one row, once
abbrev pub RowsAreApart : Type 0
RowsAreApart =
    (sinks : List SinkPlan) (groups : List GroupPlan) (rows : List SinkRow) → AreThere (length sinks) groups → AreDistinct (group_places groups)
    → AreRows sinks groups rows → IsOrder (length sinks) (places_of rows)
