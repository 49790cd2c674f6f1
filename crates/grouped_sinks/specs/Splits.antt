-- Which member of a runner took each batch that it was handed.
use Rattle.std.specs.Prelude.{◌≡◌, ◌⊎◌, ◌<◌, ◌==◌, ◌++◌, ℕ, List, [], ◌∷◌, length, map, slice_index_or, Result, Ok, Err, if◌then◌else◌}
use Rattle.std.specs.List.{AllByRecursion}
use Rattle.event_core.specs.Content.{Content}
use Rattle.plug_in.specs.declared.sink.SinkRefused.{SinkRefused}
use Rattle.grouped_sinks.specs.Runners.{members_of}
use Rattle.grouped_sinks.specs.declared.runner.Runner.{Runner}

-- a batch that a sink was handed, the moment, and its answer
pub record Handed : Type 0 where
  pub batch : List Content
  pub moment : ℕ
  pub answer : Result (Unit {0}) SinkRefused

abbrev pub ok_of : Result (Unit {0}) SinkRefused → List Content → List (List Content)
ok_of (Ok done) batch = batch ∷ []
ok_of (Err why) batch = []

-- the batches that were answered Ok
abbrev pub ok_batches : List Handed → List (List Content)
ok_batches [] = []
ok_batches (h ∷ done) = ok_of h.answer h.batch ++ ok_batches done

-- the batch is one of those that were handed
abbrev pub WasHanded : List Handed → List Content → Type 0
WasHanded [] batch = ⊥
WasHanded (h ∷ done) batch = (h.batch ≡ batch) ⊎ WasHanded done batch

-- the batches that members took, whichever they were
abbrev pub batches_of : List (ℕ × List Content) → List (List Content)
batches_of taken = map (λ (t : ℕ × List Content). t.1) taken

-- the batches that the member at a place took, in order
abbrev pub taken_at : ℕ → List (ℕ × List Content) → List (List Content)
taken_at at [] = []
taken_at at (t ∷ taken) = (if t.0 == at then t.1 ∷ [] else []) ++ taken_at at taken

module _ {S : Type 0} (delivers : S → List Content → ℕ → Result (Unit {0}) SinkRefused → S → Type 0) where
  -- the sink was handed these, one after the other
  abbrev pub AllHanded : List Handed → S → S → Type 0
  AllHanded [] s t = t ≡ s
  AllHanded (h ∷ done) s t = (next : S) × delivers s h.batch h.moment h.answer next × AllHanded done next t

  -- A member was handed batches, and those that it answered Ok are what it took.
  pub record Share (Offered : List Content → Type 0) (taken : List (ℕ × List Content)) (at : ℕ) (old new : S) : Type 0 where
    pub mine : List Handed
    pub chain : AllHanded mine old new
    pub took : ok_batches mine ≡ taken_at at taken
    pub offered : AllByRecursion (λ (h : Handed). Offered h.batch) mine

  -- Of so many members each took just its own of these batches, in order.
  pub record AreShared (Offered : List Content → Type 0) (taken : List (ℕ × List Content)) (olds news : List S) : Type 0 where
    pub within : AllByRecursion (λ (t : ℕ × List Content). t.0 < length olds) taken
    pub many : length news ≡ length olds
    pub each : (at : ℕ) (old new : S) → at < length olds → Share Offered taken at (slice_index_or olds at old) (slice_index_or news at new)

  -- Each batch that was answered Ok was taken by one member, and each member took just its own, in order; no member was handed another batch.
  pub record IsSplit (done : List Handed) (olds news : List S) : Type 0 where
    pub taken : List (ℕ × List Content)
    pub whole : batches_of taken ≡ ok_batches done
    pub shared : AreShared (WasHanded done) taken olds news

-- so it is of whatever a runner was handed, and of its members
abbrev pub RunnersSplit : {S N : Type 0} → (S → List Content → ℕ → Result (Unit {0}) SinkRefused → S → Type 0)
    → (Runner S N → List Content → ℕ → Result (Unit {0}) SinkRefused → Runner S N → Type 0) → Type 0
RunnersSplit {S} {N} delivers runs =
    (done : List Handed) (old new : Runner S N) → AllHanded runs done old new → IsSplit delivers done (members_of old) (members_of new)
