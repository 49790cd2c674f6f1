-- What each sink of a row was handed, by all calls of the row's worker.
use Rattle.std.proofs.Common.{◌≡◌, ◌∙◌, inl, inr, ◌<◌, ℕ, zero, suc, List, [], ◌∷◌, Option, Result, length, get_or, refl, sym, ap, subst, arith}
use Rattle.std.specs.List.{AllByRecursion}
use Rattle.channel_face.specs.Faces.{Own}
use Rattle.event_core.specs.Content.{Content}
use Rattle.plug_in.specs.declared.sink.SinkRefused.{SinkRefused}
use Rattle.shared_channel.specs.Passes.{Known}
use Rattle.sink_worker.specs.Rounds.{Told}
use Rattle.sink_worker.specs.declared.worker.SinkWorker.{SinkWorker}
use Rattle.two_channels.specs.declared.shared.EitherShared.{EitherShared}
use Rattle.agent_end.specs.declared.draining.ChannelDrain.{ChannelDrain}
use Rattle.grouped_sinks.specs.Runners.{members_of}
use Rattle.grouped_sinks.specs.Splits.{AllHanded, Handed, RunnersSplit, WasHanded, batches_of, ok_batches, taken_at}
use Rattle.grouped_sinks.specs.declared.runner.Runner.{Runner}
use Rattle.agent_run.specs.RolledTold.{CountsMore, calls_of, committed, seen_of}
use Rattle.run_working.specs.Wholes.{AreBeside, IsSinkWhole}
use Rattle.agent_run.proofs.Handing.{WasTakenBehind}
use Rattle.agent_run.proofs.Growing.{whole_hands}

-- what is so of each batch that was handed is so of those of them
of_handed : (P : List Content → Type 0) (done : List Handed) (batch : List Content) → AllByRecursion (λ (h : Handed). P h.batch) done → WasHanded done batch → P batch
of_handed P [] batch all was = absurd was
of_handed P (h ∷ done) batch all (inl same) = subst P same all.0
of_handed P (h ∷ done) batch all (inr was) = of_handed P done batch all.1 was

each_handed : (P : List Content → Type 0) (done mine : List Handed) → AllByRecursion (λ (h : Handed). P h.batch) done → AllByRecursion (λ (h : Handed). WasHanded done h.batch) mine
    → AllByRecursion (λ (h : Handed). P h.batch) mine
each_handed P done [] all mine = tt
each_handed P done (h ∷ hs) all mine = (of_handed P done h.batch all mine.0, each_handed P done hs all mine.1)

module _ {S : Type 0} (one : S → List Content → ℕ → Result (Unit {0}) SinkRefused → S → Type 0) where
  -- A sink of a row was handed batches that the row's worker had taken, and took these.
  pub record Part (own : List Own) (took : List (List Content)) (s t : S) : Type 0 where
    pub done : List Handed
    pub chain : AllHanded one done s t
    pub taken : AllByRecursion (λ (h : Handed). WasTakenBehind [] own h.batch) done
    pub ok : ok_batches done ≡ took

  module _ {N C : Type 0} (finals : List Known) (job : SinkWorker Known (Runner S N) C) (back : Runner S N) where
    -- Each batch whose commit the worker of a row asked for was taken by one of its sinks.
    pub record RowShared : Type 0 where
      pub taken : List (ℕ × List Content)
      pub within : AllByRecursion (λ (t : ℕ × List Content). t.0 < length (members_of job.sink)) taken
      pub these : CountsMore (length (seen_of finals job).seen) → batches_of taken ≡ committed [] (calls_of finals job)
      pub many : length (members_of back) ≡ length (members_of job.sink)
      pub each : (at : ℕ) (old new : S) → at < length (members_of job.sink)
          → Part (calls_of finals job) (taken_at at taken) (get_or (members_of job.sink) at old) (get_or (members_of back) at new)

  module _ {N A B C : Type 0} (sink : Told (Runner S N)) (moments : C → Option (ℕ → ℕ)) (split : RunnersSplit one sink.delivers) (shares : List (EitherShared A B)) (finals : List Known) where
    -- each batch whose commit a row's worker asked for was taken by one of the row's sinks
    pub row_shared : (job : SinkWorker Known (Runner S N) C) (end : ChannelDrain) (back : Runner S N) → IsSinkWhole sink moments shares finals job end back → EitherShared A B
        → RowShared finals job back
    row_shared job end back is share =
        let own = calls_of finals job in
        let hands = whole_hands sink moments shares finals job end back is share job.port in
        let parts = split hands.done job.sink back hands.chain in
        record {
          taken = parts.taken;
          within = parts.shared.within;
          these = λ counted. parts.whole ∙ sym (hands.commits counted []);
          many = parts.shared.many;
          each = λ at old new low. let share = parts.shared.each at old new low in
              record { done = share.mine; chain = share.chain; taken = each_handed (λ b. WasTakenBehind [] own b) hands.done share.mine (hands.taken []) share.offered; ok = share.took };
        }

    -- So it is of each row.
    pub record RowsShared (jobs : List (SinkWorker Known (Runner S N) C)) (backs : List (Runner S N)) : Type 0 where
      pub taken : List (List (ℕ × List Content))
      pub as_many : length taken ≡ length jobs
      pub many : length backs ≡ length jobs
      pub each : (at : ℕ) (job : SinkWorker Known (Runner S N) C) (back : Runner S N) (took : List (ℕ × List Content)) → at < length jobs
          → (row : RowShared finals (get_or jobs at job) (get_or backs at back)) × (get_or taken at took ≡ row.taken)

    -- so it is of all rows
    pub rows_shared : (jobs : List (SinkWorker Known (Runner S N) C)) (ends : List ChannelDrain) (backs : List (Runner S N)) → ((place : ℕ) → place < length ends → EitherShared A B)
        → AreBeside (IsSinkWhole sink moments shares finals) jobs ends backs → RowsShared jobs backs
    rows_shared [] [] [] some whole = record { taken = []; as_many = refl; many = refl; each = λ at job back took low. absurd (omega (arith, low)) }
    rows_shared [] [] (b ∷ backs) some whole = absurd whole
    rows_shared [] (e ∷ ends) backs some whole = absurd whole
    rows_shared (j ∷ jobs) [] backs some whole = absurd whole
    rows_shared (j ∷ jobs) (e ∷ ends) [] some whole = absurd whole
    rows_shared (j ∷ jobs) (e ∷ ends) (b ∷ backs) some whole =
        let first = row_shared j e b whole.0 (some 0 (omega arith)) in
        let rest = rows_shared jobs ends backs (λ place low. some (suc place) (omega (arith, low))) whole.1 in
        record {
          taken = first.taken ∷ rest.taken;
          as_many = ap suc rest.as_many;
          many = ap suc rest.many;
          each = each_row first rest;
        }
      where
        each_row : (first : RowShared finals j b) (rest : RowsShared jobs backs) (at : ℕ) (job : SinkWorker Known (Runner S N) C) (back : Runner S N) (took : List (ℕ × List Content)) → at < length (j ∷ jobs)
            → (row : RowShared finals (get_or (j ∷ jobs) at job) (get_or (b ∷ backs) at back)) × (get_or (first.taken ∷ rest.taken) at took ≡ row.taken)
        each_row first rest zero job back took low = (first, refl)
        each_row first rest (suc at) job back took low = rest.each at job back took (omega (arith, low))
