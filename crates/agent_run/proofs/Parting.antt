-- The sinks of rows by their places in the plan, and what each of them was handed.
use Rattle.std.proofs.Common.{◌≡◌, ◌∙◌, ◌⊎◌, inl, inr, ◌<◌, ◌++◌, ℕ, zero, suc, List, [], ◌∷◌, Option, Some, Result, length, map, get_or, slice_get, refl, sym, ap, subst, arith}
use Rattle.std.proofs.lemmas.List.{get_or-map, length-map}
use Rattle.std.proofs.lemmas.Option.{get_or_from_slice_get, slice_get_within}
use Rattle.std.specs.List.{AllByRecursion}
use Rattle.event_core.specs.Content.{Content}
use Rattle.plug_in.specs.declared.sink.SinkRefused.{SinkRefused}
use Rattle.shared_channel.specs.Passes.{Known}
use Rattle.sink_worker.specs.Rounds.{Told}
use Rattle.sink_worker.specs.declared.worker.SinkWorker.{SinkWorker}
use Rattle.two_channels.specs.declared.shared.EitherShared.{EitherShared}
use Rattle.grouped_sinks.specs.Picks.{AreDealt, ArePicked, HaveMembers}
use Rattle.grouped_sinks.specs.Rows.{IsAmong, places_of}
use Rattle.grouped_sinks.specs.Runners.{members_of}
use Rattle.grouped_sinks.specs.Splits.{RunnersSplit, batches_of, taken_at}
use Rattle.grouped_sinks.specs.declared.row.SinkRow.{SinkRow}
use Rattle.grouped_sinks.specs.declared.runner.Runner.{Runner}
use Rattle.run_tracks.specs.Places.{Zips}
use Rattle.agent_run.specs.MembersTold.{RowTook}
use Rattle.agent_run.specs.RolledTold.{calls_of}
use Rattle.agent_run.proofs.Course.{there}
use Rattle.agent_run.proofs.Sharing.{Part, RowsShared}

-- where two that are there are the same, so is what they hold
pub some_same : {A : Type 0} (x y : A) → Some x ≡ Some y → x ≡ y
some_same x y is = cc

-- what is so at each place is so of all
pub zips_by_place : {A B : Type 0} (R : A → B → Type 0) (xs : List A) (ys : List B) → length ys ≡ length xs → ((k : ℕ) (x : A) (y : B) → slice_get xs k ≡ Some x → slice_get ys k ≡ Some y → R x y) → Zips R xs ys
zips_by_place R [] [] many is = tt
zips_by_place R [] (y ∷ ys) many is = absurd (omega (arith, many))
zips_by_place R (x ∷ xs) [] many is = absurd (omega (arith, many))
zips_by_place R (x ∷ xs) (y ∷ ys) many is = (is 0 x y refl refl, zips_by_place R xs ys (omega (arith, many)) (λ k. is (suc k)))

-- the row that has a place, and where
pub record Found (rows : List SinkRow) (place : ℕ) : Type 0 where
  pub at : ℕ
  pub i : ℕ
  pub row : SinkRow
  pub below : at < length rows
  pub here : slice_get (get_or rows at row).places.items i ≡ Some place

in_places : (place : ℕ) (places rest : List ℕ) → IsAmong place (places ++ rest) → ((i : ℕ) × (slice_get places i ≡ Some place)) ⊎ IsAmong place rest
in_places place [] rest is = inr is
in_places place (p ∷ places) rest (inl same) = inl (0, ap (λ (n : ℕ). Some n) same)
in_places place (p ∷ places) rest (inr is) = by (in_places place places rest is)
  where
    by : ((i : ℕ) × (slice_get places i ≡ Some place)) ⊎ IsAmong place rest → ((i : ℕ) × (slice_get (p ∷ places) i ≡ Some place)) ⊎ IsAmong place rest
    by (inl here) = inl (suc here.0, here.1)
    by (inr more) = inr more

-- each place that the rows have is found in one of them
pub find_row : (rows : List SinkRow) (place : ℕ) → IsAmong place (places_of rows) → Found rows place
find_row [] place is = absurd is
find_row (row ∷ rows) place is = by (find_row rows place) (in_places place row.places.items (places_of rows) is)
  where
    by : (IsAmong place (places_of rows) → Found rows place) → ((i : ℕ) × (slice_get row.places.items i ≡ Some place)) ⊎ IsAmong place (places_of rows) → Found (row ∷ rows) place
    by rest (inl here) = record { at = 0; i = here.0; row = row; below = omega arith; here = here.1 }
    by rest (inr more) = let f = rest more in record { at = suc f.at; i = f.i; row = f.row; below = (let l = f.below in omega (arith, l)); here = f.here }

-- ---- a sink in its row

-- the sink at a place is that of a row's runner
record InRow {S N : Type 0} (sinks : List S) (runner : Runner S N) (in_row place : ℕ) : Type 0 where
  pub sink : S
  pub here : slice_get sinks place ≡ Some sink
  pub member : slice_get (members_of runner) in_row ≡ Some sink

picked_at : {S : Type 0} (sinks : List S) (places : List ℕ) (members : List S) → ArePicked sinks places members → (i place : ℕ) → slice_get places i ≡ Some place
    → (s : S) × (slice_get sinks place ≡ Some s) × (slice_get members i ≡ Some s)
picked_at sinks [] members z i place is = absurd (cc)
picked_at sinks (p ∷ places) [] z i place is = absurd z
picked_at {S} sinks (p ∷ places) (m ∷ members) z zero place is = let same : p ≡ place = cc in (m, subst (λ (n : ℕ). slice_get sinks n ≡ Some m) same z.0, refl)
picked_at sinks (p ∷ places) (m ∷ members) z (suc i) place is = picked_at sinks places members z.1 i place is

in_row : {S N : Type 0} (sinks : List S) (rows : List SinkRow) (runners : List (Runner S N)) → AreDealt sinks rows runners → (at : ℕ) (row : SinkRow) (runner : Runner S N) → at < length rows
    → (i place : ℕ) → slice_get (get_or rows at row).places.items i ≡ Some place → InRow sinks (get_or runners at runner) i place
in_row sinks [] runners z at row runner below i place is = absurd (omega (arith, below))
in_row sinks (r ∷ rows) [] z at row runner below i place is = absurd z
in_row sinks (r ∷ rows) (q ∷ runners) z zero row runner below i place is =
    let p = picked_at sinks r.places.items (members_of q) z.0 i place is in record { sink = p.0; here = p.1; member = p.2 }
in_row sinks (r ∷ rows) (q ∷ runners) z (suc at) row runner below i place is = in_row sinks rows runners z.1 at row runner (omega (arith, below)) i place is

-- the first of a list, where there is something
pub first_of : {A : Type 0} (xs : List A) (i : ℕ) → i < length xs → A
first_of [] i low = absurd (omega (arith, low))
first_of (x ∷ xs) i low = x

picked_many : {S : Type 0} (sinks : List S) (places : List ℕ) (members : List S) → ArePicked sinks places members → length places ≡ length members
picked_many sinks [] [] z = refl
picked_many sinks [] (m ∷ members) z = absurd z
picked_many sinks (p ∷ places) [] z = absurd z
picked_many sinks (p ∷ places) (m ∷ members) z = ap suc (picked_many sinks places members z.1)

-- each row has a sink for each of its places, also after a run
members_stay : {S N : Type 0} (sinks : List S) (rows : List SinkRow) (olds news : List (Runner S N)) → AreDealt sinks rows olds → length news ≡ length olds
    → ((k : ℕ) (a b : Runner S N) → k < length olds → length (members_of (get_or news k b)) ≡ length (members_of (get_or olds k a))) → HaveMembers rows news
members_stay sinks [] [] [] z many is = tt
members_stay sinks [] [] (b ∷ news) z many is = absurd (omega (arith, many))
members_stay sinks [] (a ∷ olds) news z many is = absurd z
members_stay sinks (row ∷ rows) [] news z many is = absurd z
members_stay sinks (row ∷ rows) (a ∷ olds) [] z many is = absurd (omega (arith, many))
members_stay sinks (row ∷ rows) (a ∷ olds) (b ∷ news) z many is = (
  picked_many sinks row.places.items (members_of a) z.0 ∙ sym (is 0 a b (omega arith)),
  members_stay sinks rows olds news z.1 (omega (arith, many)) (λ k x y low. is (suc k) x y (omega (arith, low))),
)

-- as many runners as rows
pub runners_many : {S N : Type 0} (sinks : List S) (rows : List SinkRow) (runners : List (Runner S N)) → AreDealt sinks rows runners → length runners ≡ length rows
runners_many sinks [] [] z = refl
runners_many sinks [] (q ∷ runners) z = absurd z
runners_many sinks (r ∷ rows) [] z = absurd z
runners_many sinks (r ∷ rows) (q ∷ runners) z = ap suc (runners_many sinks rows runners z.1)

-- so many as the row has places
pub dealt_many : {S N : Type 0} (sinks : List S) (rows : List SinkRow) (runners : List (Runner S N)) → AreDealt sinks rows runners → (at : ℕ) (row : SinkRow) (runner : Runner S N) → at < length rows
    → length (get_or rows at row).places.items ≡ length (members_of (get_or runners at runner))
dealt_many sinks [] runners z at row runner below = absurd (omega (arith, below))
dealt_many sinks (r ∷ rows) [] z at row runner below = absurd z
dealt_many sinks (r ∷ rows) (q ∷ runners) z zero row runner below = picked_many sinks r.places.items (members_of q) z.0
dealt_many sinks (r ∷ rows) (q ∷ runners) z (suc at) row runner below = dealt_many sinks rows runners z.1 at row runner (omega (arith, below))

-- after a run each row's runner has a sink for each place of the row
pub have_members : {S N A B C : Type 0} (one : S → List Content → ℕ → Result (Unit {0}) SinkRefused → S → Type 0) (sink : Told (Runner S N)) (moments : C → Option (ℕ → ℕ)) (split : RunnersSplit one sink.delivers)
    (shares : List (EitherShared A B)) (finals : List Known) (sinks : List S) (rows : List SinkRow) (jobs : List (SinkWorker Known (Runner S N) C)) (runners : List (Runner S N))
    (shared : RowsShared one sink moments split shares finals jobs runners) → AreDealt sinks rows (map (λ (job : SinkWorker Known (Runner S N) C). job.sink) jobs) → length jobs ≡ length rows → HaveMembers rows runners
have_members {S} {N} {A} {B} {C} one sink moments split shares finals sinks rows jobs runners shared dealt as_many =
    let olds = map (λ (job : SinkWorker Known (Runner S N) C). job.sink) jobs in
    let long : length olds ≡ length jobs = length-map jobs (λ (job : SinkWorker Known (Runner S N) C). job.sink) in
    members_stay sinks rows olds runners dealt (shared.many ∙ sym long)
    (λ k a b low.
    let below : k < length jobs = subst (λ (n : ℕ). k < n) long low in
    let job = first_of jobs k below in
    (shared.each k job b [] below).0.many ∙ ap (λ (q : Runner S N). length (members_of q)) (sym (get_or-map (λ (job : SinkWorker Known (Runner S N) C). job.sink) jobs k job a below)))

module _ {S N A B C : Type 0} (one : S → List Content → ℕ → Result (Unit {0}) SinkRefused → S → Type 0) (sink : Told (Runner S N)) (moments : C → Option (ℕ → ℕ)) (split : RunnersSplit one sink.delivers)
    (shares : List (EitherShared A B)) (finals : List Known) (rows : List SinkRow) (jobs : List (SinkWorker Known (Runner S N) C)) (runners : List (Runner S N))
    (shared : RowsShared one sink moments split shares finals jobs runners) (sinks backs : List S)
    (dealt : AreDealt sinks rows (map (λ (job : SinkWorker Known (Runner S N) C). job.sink) jobs)) (came : AreDealt backs rows runners) (as_many : length jobs ≡ length rows) where
  -- each batch whose commit the worker of a row asked for was taken by one of the row's sinks
  pub took_at : (at : ℕ) (row : SinkRow) (job : SinkWorker Known (Runner S N) C) (took : List (ℕ × List Content)) → at < length rows
      → RowTook finals (get_or rows at row) (get_or jobs at job) (get_or shared.taken at took)
  took_at at row job took below =
      let low : at < length jobs = omega (arith, below, as_many) in
      let back = there runners at (let m = shared.many in omega (arith, low, m)) in
      let worker = get_or jobs at job in
      let is_sink = get_or-map (λ (job : SinkWorker Known (Runner S N) C). job.sink) jobs at job job.sink low in
      let mine = shared.each at job back took low in
      let places = dealt_many sinks rows (map (λ (job : SinkWorker Known (Runner S N) C). job.sink) jobs) dealt at row job.sink below in
      let many : length (members_of worker.sink) ≡ length (get_or rows at row).places.items = ap (λ (q : Runner S N). length (members_of q)) (sym is_sink) ∙ sym places in
      record {
        within = subst (λ (x : ℕ × List (ℕ × List Content)). AllByRecursion (λ (t : ℕ × List Content). t.0 < x.0) x.1) (λ k. (many k, sym mine.1 k)) mine.0.within;
        these = λ counted. ap (λ (l : List (ℕ × List Content)). batches_of l) mine.1 ∙ mine.0.these counted;
      }

  -- The sink at a place of the plan, which is in a row, was handed what that row's worker had taken, and took its own of it.
  pub record PartAt (at i place : ℕ) (job : SinkWorker Known (Runner S N) C) (took : List (ℕ × List Content)) : Type 0 where
    pub old : S
    pub new : S
    pub was : slice_get sinks place ≡ Some old
    pub is : slice_get backs place ≡ Some new
    pub part : Part one (calls_of finals (get_or jobs at job)) (taken_at i (get_or shared.taken at took)) old new

  -- the sink at each place of a row was handed what the row's worker had taken, and took its own of it
  pub part_at : (at i place : ℕ) (row : SinkRow) (job : SinkWorker Known (Runner S N) C) (took : List (ℕ × List Content)) → at < length rows
      → slice_get (get_or rows at row).places.items i ≡ Some place → PartAt at i place job took
  part_at at i place row job took below here =
      let back = there runners at (let m = shared.many in omega (arith, below, m, as_many)) in
      let low : at < length jobs = omega (arith, below, as_many) in
      let worker = get_or jobs at job in
      let is_sink = get_or-map (λ (job : SinkWorker Known (Runner S N) C). job.sink) jobs at job job.sink low in
      let first = in_row sinks rows (map (λ (job : SinkWorker Known (Runner S N) C). job.sink) jobs) dealt at row job.sink below i place here in
      let last = in_row backs rows runners came at row back below i place here in
      let member : slice_get (members_of worker.sink) i ≡ Some first.sink = subst (λ (q : Runner S N). slice_get (members_of q) i ≡ Some first.sink) is_sink first.member in
      let one_row = shared.each at job back took low in
      let part = one_row.0.each i first.sink last.sink (slice_get_within (members_of worker.sink) i first.sink member) in
      record {
        old = first.sink;
        new = last.sink;
        was = first.here;
        is = last.here;
        part = subst (λ (x : S × S × List (ℕ × List Content)). Part one (calls_of finals worker) (taken_at i x.2) x.0 x.1)
            (λ k. (get_or_from_slice_get (members_of worker.sink) i first.sink first.sink member k, get_or_from_slice_get (members_of (get_or runners at back)) i last.sink last.sink last.member k, sym one_row.1 k)) part;
      }
