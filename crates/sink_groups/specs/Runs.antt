-- Deliveries by a group, one after another: which member took each batch.
use Rattle.std.specs.Prelude.{◌≡◌, ℕ, List, [], ◌∷◌, ◌++◌, map, Result, Ok, Err}
use Rattle.event_core.specs.Content.{Content}
use Rattle.plug_in.specs.declared.sink.SinkRefused.{SinkRefused}
use Rattle.sink_groups.specs.declared.rules.GroupRefused.{GroupRefused}
use Rattle.sink_groups.specs.Scheduler.{Group}
use Rattle.sink_groups.specs.Deliveries.{Handed, Delivers, SinkDelivers}

-- A batch that was handed to a member at a moment, and the member's answer.
pub record Handing : Type 0 where
  pub member : ℕ
  pub batch : List Content
  pub moment : ℕ
  pub answer : Result (Unit {0}) SinkRefused

-- A batch that was handed to the group at a moment, with a draw of chance, and the group's answer.
pub record Offer : Type 0 where
  pub batch : List Content
  pub moment : ℕ
  pub draw : ℕ
  pub answer : Result ℕ GroupRefused

-- these members and no others were handed these, one after another
abbrev pub AreHanded : {S : Type 0} → (S → List Content → ℕ → Result (Unit {0}) SinkRefused → S → Type 0) → List Handing → List S → List S → Type 0
AreHanded delivers [] old new = new ≡ old
AreHanded {S} delivers (h ∷ hs) old new =
    (mid : List S) × Handed delivers h.batch h.moment h.member h.answer old mid × AreHanded delivers hs mid new

-- the group was handed these, one after another
abbrev pub AllDeliver :
    {S : Type 0} → (S → List Content → ℕ → Result (Unit {0}) SinkRefused → S → Type 0)
    → List Offer → Group → List S → Group → List S → Type 0
AllDeliver delivers [] g old after new = (after ≡ g) × (new ≡ old)
AllDeliver {S} delivers (o ∷ offers) g old after new =
    (next : Group) × (mid : List S) × Delivers delivers o.batch o.moment o.draw g old o.answer next mid
    × AllDeliver delivers offers next mid after new

-- the batches that members took, each with the member
abbrev pub taken_by : Result (Unit {0}) SinkRefused → ℕ → List Content → List (ℕ × List Content)
taken_by (Ok done) member batch = (member, batch) ∷ []
taken_by (Err _) member batch = []

abbrev pub taken : List Handing → List (ℕ × List Content)
taken [] = []
taken (h ∷ hs) = taken_by h.answer h.member h.batch ++ taken hs

-- the batches that the group answered Ok, each with the member that it named
abbrev pub named_by : Result ℕ GroupRefused → List Content → List (ℕ × List Content)
named_by (Ok member) batch = (member, batch) ∷ []
named_by (Err refused) batch = []

abbrev pub named : List Offer → List (ℕ × List Content)
named [] = []
named (o ∷ offers) = named_by o.answer o.batch ++ named offers

-- Over any list of deliveries its members were handed batches one after another, and what they took is just what the group
-- answered Ok, in order, each batch once and by the member that was named.
abbrev pub TakenOnce : {S : Type 0} → (S → List Content → ℕ → Result (Unit {0}) SinkRefused → S → Type 0) → Type 0
TakenOnce {S} delivers =
    (offers : List Offer) (g after : Group) (old new : List S) → AllDeliver delivers offers g old after new
    → (hs : List Handing) × AreHanded delivers hs old new × (taken hs ≡ named offers)

-- A batch that was handed to a group that is a sink, at a moment, with the draw that it made, and its answer.
pub record SinkOffer : Type 0 where
  pub batch : List Content
  pub moment : ℕ
  pub draw : ℕ
  pub answer : Result (Unit {0}) SinkRefused

-- it was handed these, one after another
abbrev pub AllSinkDeliver :
    {S : Type 0} → (S → List Content → ℕ → Result (Unit {0}) SinkRefused → S → Type 0)
    → List SinkOffer → Group → List S → ℕ → Group → List S → ℕ → Type 0
AllSinkDeliver delivers [] g old failed after new more = (after ≡ g) × (new ≡ old) × (more ≡ failed)
AllSinkDeliver {S} delivers (o ∷ offers) g old failed after new more =
    (next : Group) × (mid : List S) × (count : ℕ)
    × SinkDelivers delivers o.batch o.moment o.draw g old failed o.answer next mid count
    × AllSinkDeliver delivers offers next mid count after new more

-- the batches that it answered Ok
abbrev pub ok_by : Result (Unit {0}) SinkRefused → List Content → List (List Content)
ok_by (Ok done) batch = batch ∷ []
ok_by (Err _) batch = []

abbrev pub answered_ok : List SinkOffer → List (List Content)
answered_ok [] = []
answered_ok (o ∷ offers) = ok_by o.answer o.batch ++ answered_ok offers

-- the batches that members took, whichever they were
abbrev pub batches : List (ℕ × List Content) → List (List Content)
batches got = map (λ (t : ℕ × List Content). t.1) got

-- The same of a group that is a sink, whose answer names no member.
abbrev pub SinkTakenOnce : {S : Type 0} → (S → List Content → ℕ → Result (Unit {0}) SinkRefused → S → Type 0) → Type 0
SinkTakenOnce {S} delivers =
    (offers : List SinkOffer) (g after : Group) (old new : List S) (failed more : ℕ)
    → AllSinkDeliver delivers offers g old failed after new more
    → (hs : List Handing) × AreHanded delivers hs old new × (batches (taken hs) ≡ answered_ok offers)
