-- Which member took each batch of a list of deliveries.
use Rattle.std.proofs.Common.{inl, inr, ◌≡◌, ◌∙◌, ap, sym, refl, subst, ℕ, List, [], ◌∷◌, ◌++◌, Result, Ok, Err, append-nil, append_assoc}
use Rattle.event_core.specs.Content.{Content}
use Rattle.plug_in.specs.declared.sink.SinkRefused.{SinkRefused}
use Rattle.plug_in.specs.declared.sink.SinkRefused.TheVariants as sink
use Rattle.sink_groups.specs.declared.rules.GroupRefused.{GroupRefused}
use Rattle.sink_groups.specs.declared.rules.GroupRefused.TheVariants.{AllFailed, NoMemory}
use Rattle.sink_groups.specs.Scheduler.{Group, started}
use Rattle.sink_groups.specs.Deliveries.{AreRefused, Reaches, Delivers, SinkDelivers}
use Rattle.sink_groups.specs.Runs.{Handing, Offer, SinkOffer, AreHanded, AllDeliver, AllSinkDeliver, taken_by, taken, named_by, named, ok_by, answered_ok, batches}
use Rattle.std.proofs.lemmas.List.{map-append}

taken-append : (a b : List Handing) → taken (a ++ b) ≡ taken a ++ taken b
taken-append [] b = refl
taken-append (h ∷ a) b =
    ap (λ (l : List (ℕ × List Content)). taken_by h.answer h.member h.batch ++ l) (taken-append a b)
    ∙ sym (append_assoc (taken_by h.answer h.member h.batch) (taken a) (taken b))

module _ {S : Type 0} (delivers : S → List Content → ℕ → Result (Unit {0}) SinkRefused → S → Type 0) where
  -- one list of handings after another
  handed_on : (a b : List Handing) (old mid new : List S) → AreHanded delivers a old mid → AreHanded delivers b mid new → AreHanded delivers (a ++ b) old new
  handed_on [] b old mid new first second = subst (λ (l : List S). AreHanded delivers b l new) first second
  handed_on (h ∷ a) b old mid new first second = (first.0, first.1, handed_on a b first.0 mid new first.2 second)

  -- What was handed, and what of it was taken.
  abbrev Handings : List S → List S → List (ℕ × List Content) → Type 0
  Handings old new got = (hs : List Handing) × AreHanded delivers hs old new × (taken hs ≡ got)

  -- those that refused took nothing
  refusals : (batch : List Content) (moment : ℕ) (tried : List ℕ) (old new : List S) → AreRefused delivers batch moment tried old new → Handings old new []
  refusals batch moment [] old new are = ([], are, refl)
  refusals batch moment (member ∷ tried) old new are =
      let rest = refusals batch moment tried are.0 new are.2 in
      (record { member = member; batch = batch; moment = moment; answer = Err sink.Refused } ∷ rest.0, (are.0, are.1, rest.1), rest.2)

  -- one more was handed it after those that refused
  reached : (batch : List Content) (moment : ℕ) (due : List ℕ) (member : ℕ) (answer : Result (Unit {0}) SinkRefused) (front back : List ℕ) (old new : List S)
      → Reaches delivers batch moment due member answer front back old new → Handings old new (taken_by answer member batch)
  reached batch moment due member answer front back old new r =
      let before = refusals batch moment front old r.mid r.before in
      let one : Handing = record { member = member; batch = batch; moment = moment; answer = answer } in (
        before.0 ++ one ∷ [],
        handed_on before.0 (one ∷ []) old r.mid new before.1 (new, r.last, refl),
        taken-append before.0 (one ∷ []) ∙ (ap (λ (l : List (ℕ × List Content)). l ++ taken (one ∷ [])) before.2 ∙ append-nil (taken_by answer member batch)),
      )

  -- one delivery of the group
  delivery : (batch : List Content) (moment draw : ℕ) (g : Group) (old : List S) (answer : Result ℕ GroupRefused) (after : Group) (new : List S)
      → Delivers delivers batch moment draw g old answer after new → Handings old new (named_by answer batch)
  delivery batch moment draw g old (Ok member) after new d =
      reached batch moment (started g moment draw).due member (Ok tt) d.0 d.1 old new d.2
  delivery batch moment draw g old (Err (AllFailed tried)) after new d = refusals batch moment (started g moment draw).due old new d.1.0
  delivery batch moment draw g old (Err NoMemory) after new (inl none) = ([], none.1, refl)
  delivery batch moment draw g old (Err NoMemory) after new (inr d) =
      reached batch moment (started g moment draw).due d.0 (Err sink.NoMemory) d.1 d.2 old new d.3

  -- A list of deliveries.
  pub deliveries : (offers : List Offer) (g after : Group) (old new : List S) → AllDeliver delivers offers g old after new → Handings old new (named offers)
  deliveries [] g after old new all = ([], all.1, refl)
  deliveries (o ∷ offers) g after old new all =
      let one = delivery o.batch o.moment o.draw g old o.answer all.0 all.1 all.2 in
      let rest = deliveries offers all.0 after all.1 new all.3 in (
        one.0 ++ rest.0,
        handed_on one.0 rest.0 old all.1 new one.1 rest.1,
        taken-append one.0 rest.0 ∙ (ap (λ (l : List (ℕ × List Content)). l ++ taken rest.0) one.2 ∙ ap (λ (l : List (ℕ × List Content)). named_by o.answer o.batch ++ l) rest.2),
      )

  -- What was handed, and the batches of it that were taken.
  abbrev Batches : List S → List S → List (List Content) → Type 0
  Batches old new got = (hs : List Handing) × AreHanded delivers hs old new × (batches (taken hs) ≡ got)

  -- one delivery of a group that is a sink
  sink_delivery : (batch : List Content) (moment draw : ℕ) (g : Group) (old : List S) (failed : ℕ) (answer : Result (Unit {0}) SinkRefused) (after : Group) (new : List S) (more : ℕ)
      → SinkDelivers delivers batch moment draw g old failed answer after new more → Batches old new (ok_by answer batch)
  sink_delivery batch moment draw g old failed (Ok done) after new more d =
      let one = reached batch moment (started g moment draw).due d.0 (Ok tt) d.1.0 d.1.1 old new d.1.2 in (one.0, one.1, ap batches one.2)
  sink_delivery batch moment draw g old failed (Err sink.NoMemory) after new more d =
      let one = reached batch moment (started g moment draw).due d.0.0 (Err sink.NoMemory) d.0.1 d.0.2 old new d.0.3 in (one.0, one.1, ap batches one.2)
  sink_delivery batch moment draw g old failed (Err sink.Refused) after new more d =
      let one = refusals batch moment (started g moment draw).due old new d.0.0 in (one.0, one.1, ap batches one.2)

  -- A list of them.
  pub sink_deliveries : (offers : List SinkOffer) (g after : Group) (old new : List S) (failed more : ℕ) → AllSinkDeliver delivers offers g old failed after new more → Batches old new (answered_ok offers)
  sink_deliveries [] g after old new failed more all = ([], all.1, refl)
  sink_deliveries (o ∷ offers) g after old new failed more all =
      let one = sink_delivery o.batch o.moment o.draw g old failed o.answer all.0 all.1 all.2 all.3 in
      let rest = sink_deliveries offers all.0 after all.1 new all.2 more all.4 in (
        one.0 ++ rest.0,
        handed_on one.0 rest.0 old all.1 new one.1 rest.1,
        ap batches (taken-append one.0 rest.0)
            ∙ (map-append (λ (t : ℕ × List Content). t.1) (taken one.0) (taken rest.0)
            ∙ (ap (λ (l : List (List Content)). l ++ batches (taken rest.0)) one.2 ∙ ap (λ (l : List (List Content)). ok_by o.answer o.batch ++ l) rest.2)),
      )
