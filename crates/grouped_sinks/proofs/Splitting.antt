-- Which member of a runner took each batch.
use Rattle.std.proofs.Common.{◌≡◌, ◌∙◌, ◌≢◌, inl, inr, ◌<◌, ◌==◌, ◌++◌, append-nil, append_assoc, ℕ, zero, suc, List, [], ◌∷◌, true, false, cond, Option, Result, Ok, Err, length, length-set, get_or, refl, sym, ap, subst, arith, eq-eqb}
use mathlib.Core.Logic.{dite}
use native.Mathlib.Decide.{ℕ_discrete}
use Rattle.std.proofs.lemmas.Bool.{ne_eqb}
use Rattle.std.proofs.lemmas.List.{get_or-set_same, get_or-set_other, map-append}
use Rattle.std.proofs.lemmas.Option.{get_or_from_slice_get, slice_get_within}
use Rattle.std.specs.List.{AllByRecursion}
use Rattle.event_core.specs.Content.{Content}
use Rattle.flume_host.specs.Series.{Gives}
use Rattle.plug_in.specs.declared.sink.SinkRefused.{SinkRefused}
use Rattle.plug_in.specs.declared.sink.SinkRefused.TheVariants as sink
use Rattle.sink_groups.specs.Deliveries.{AreRefused, Handed as HandedOver, Reaches, SinkDelivers}
use Rattle.sink_groups.specs.Scheduler.{Group as Schedule, started}
use Rattle.sink_groups.specs.declared.sink.GroupSink.{GroupSink}
use Rattle.grouped_sinks.specs.Runners.{DeliversAs, members_of}
use Rattle.grouped_sinks.specs.Splits.{AllHanded, AreShared, Handed, IsSplit, Share, WasHanded, batches_of, ok_batches, ok_of, taken_at}
use Rattle.grouped_sinks.specs.declared.runner.Runner.{Runner}
use Rattle.grouped_sinks.specs.declared.runner.Runner.TheVariants.{Alone, Group}

-- ---- lists

-- an element that is there is the same whatever else is given
there : {X : Type 0} (xs : List X) (i : ℕ) (x y : X) → i < length xs → get_or xs i x ≡ get_or xs i y
there [] i x y below = absurd (omega (arith, below))
there (z ∷ xs) zero x y below = refl
there (z ∷ xs) (suc i) x y below = there xs i x y (omega (arith, below))

ok-append : (x y : List Handed) → ok_batches (x ++ y) ≡ ok_batches x ++ ok_batches y
ok-append [] y = refl
ok-append (h ∷ x) y = ap (λ (l : List (List Content)). ok_of h.answer h.batch ++ l) (ok-append x y) ∙ sym (append_assoc (ok_of h.answer h.batch) (ok_batches x) (ok_batches y))

taken-append : (at : ℕ) (x y : List (ℕ × List Content)) → taken_at at (x ++ y) ≡ taken_at at x ++ taken_at at y
taken-append at [] y = refl
taken-append at (t ∷ x) y =
    ap (λ (l : List (List Content)). cond (t.0 == at) (t.1 ∷ []) [] ++ l) (taken-append at x y)
    ∙ sym (append_assoc (cond (t.0 == at) (t.1 ∷ []) []) (taken_at at x) (taken_at at y))

all_both : {X : Type 0} (P : X → Type 0) (xs ys : List X) → AllByRecursion P xs → AllByRecursion P ys → AllByRecursion P (xs ++ ys)
all_both P [] ys a b = b
all_both P (x ∷ xs) ys a b = (a.0, all_both P xs ys a.1 b)

all_weaker : {X : Type 0} (P Q : X → Type 0) → ((x : X) → P x → Q x) → (xs : List X) → AllByRecursion P xs → AllByRecursion Q xs
all_weaker P Q f [] all = tt
all_weaker P Q f (x ∷ xs) all = (f x all.0, all_weaker P Q f xs all.1)

-- what a member took of one batch
abbrev taken_by : Result (Unit {0}) SinkRefused → ℕ → List Content → List (ℕ × List Content)
taken_by (Ok done) member batch = (member, batch) ∷ []
taken_by (Err why) member batch = []

by_batches : (answer : Result (Unit {0}) SinkRefused) (member : ℕ) (batch : List Content) → batches_of (taken_by answer member batch) ≡ ok_of answer batch
by_batches (Ok done) member batch = refl
by_batches (Err why) member batch = refl

own_taken : (answer : Result (Unit {0}) SinkRefused) (member : ℕ) (batch : List Content) → taken_at member (taken_by answer member batch) ≡ ok_of answer batch
own_taken (Ok done) member batch = let is : (member == member) ≡ true = eq-eqb member member refl in rw is refl
own_taken (Err why) member batch = refl

other_taken : (answer : Result (Unit {0}) SinkRefused) (member at : ℕ) (batch : List Content) → member ≢ at → taken_at at (taken_by answer member batch) ≡ []
other_taken (Ok done) member at batch other = let is : (member == at) ≡ false = ne_eqb member at other in rw is refl
other_taken (Err why) member at batch other = refl

by_within : (answer : Result (Unit {0}) SinkRefused) (member many : ℕ) (batch : List Content) → member < many → AllByRecursion (λ (t : ℕ × List Content). t.0 < many) (taken_by answer member batch)
by_within (Ok done) member many batch below = (below, tt)
by_within (Err why) member many batch below = tt

module _ {S : Type 0} (delivers : S → List Content → ℕ → Result (Unit {0}) SinkRefused → S → Type 0) where
  chain_then : (x y : List Handed) (s m t : S) → AllHanded delivers x s m → AllHanded delivers y m t → AllHanded delivers (x ++ y) s t
  chain_then [] y s m t same rest = subst (λ (z : S). AllHanded delivers y z t) same rest
  chain_then (h ∷ x) y s m t (next, is, others) rest = (next, is, chain_then x y next m t others rest)

  -- nobody was handed anything
  shared_none : (Offered : List Content → Type 0) (olds news : List S) → news ≡ olds → AreShared delivers Offered [] olds news
  shared_none Offered olds news same = record {
    within = tt;
    many = ap length same;
    each = λ at old new below. record {
      mine = [];
      chain = ap (λ (l : List S). get_or l at new) same ∙ there olds at new old below;
      took = refl;
      offered = tt;
    };
  }

  -- a member was handed this batch
  shared_one : (batch : List Content) (moment member : ℕ) (answer : Result (Unit {0}) SinkRefused) (olds news : List S) → HandedOver delivers batch moment member answer olds news
      → AreShared delivers (λ b. batch ≡ b) (taken_by answer member batch) olds news
  shared_one batch moment member answer olds news is =
      let below = slice_get_within olds member is.was is.here in
      record {
        within = by_within answer member (length olds) batch below;
        many = ap length is.members ∙ length-set olds member is.is;
        each = λ at old new low. dite (ℕ_discrete member at)
            (λ same. subst (λ (k : ℕ). Share delivers (λ b. batch ≡ b) (taken_by answer member batch) k (get_or olds k old) (get_or news k new)) same (record {
              mine = record { batch = batch; moment = moment; answer = answer } ∷ [];
              chain = (
                is.is,
                subst (λ (s : S). delivers s batch moment answer is.is) (sym (get_or_from_slice_get olds member is.was old is.here)) is.answered,
                ap (λ (l : List S). get_or l member new) is.members ∙ get_or-set_same olds member is.is new below,
              );
              took = append-nil (ok_of answer batch) ∙ sym (own_taken answer member batch);
              offered = (refl, tt);
            }))
            (λ other. record {
              mine = [];
              chain = ap (λ (l : List S). get_or l at new) is.members ∙ get_or-set_other olds member at is.is new (λ e. other (sym e)) ∙ there olds at new old low;
              took = sym (other_taken answer member at batch other);
              offered = tt;
            });
      }

  shared_then : (Offered : List Content → Type 0) (a b : List (ℕ × List Content)) (olds mids news : List S) → AreShared delivers Offered a olds mids → AreShared delivers Offered b mids news
      → AreShared delivers Offered (a ++ b) olds news
  shared_then Offered a b olds mids news f g = record {
    within = all_both (λ (t : ℕ × List Content). t.0 < length olds) a b f.within (subst (λ (n : ℕ). AllByRecursion (λ (t : ℕ × List Content). t.0 < n) b) f.many g.within);
    many = g.many ∙ f.many;
    each = λ at old new below.
        let low : at < length mids = subst (λ (n : ℕ). at < n) (sym f.many) below in
        let first = f.each at old new below in
        let second = g.each at new new low in
        record {
          mine = first.mine ++ second.mine;
          chain = chain_then first.mine second.mine (get_or olds at old) (get_or mids at new) (get_or news at new) first.chain second.chain;
          took = ok-append first.mine second.mine ∙ (λ i. first.took i ++ second.took i) ∙ sym (taken-append at a b);
          offered = all_both (λ (h : Handed). Offered h.batch) first.mine second.mine first.offered second.offered;
        };
  }

  shared_weaker : (Offered More : List Content → Type 0) → ((b : List Content) → Offered b → More b) → (taken : List (ℕ × List Content)) (olds news : List S)
      → AreShared delivers Offered taken olds news → AreShared delivers More taken olds news
  shared_weaker Offered More f taken olds news is = record {
    within = is.within;
    many = is.many;
    each = λ at old new below. let one = is.each at old new below in
        record { mine = one.mine; chain = one.chain; took = one.took; offered = all_weaker (λ (h : Handed). Offered h.batch) (λ (h : Handed). More h.batch) (λ h. f h.batch) one.mine one.offered };
  }

  -- ---- a group

  refused_shared : (batch : List Content) (moment : ℕ) (tried : List ℕ) (olds news : List S) → AreRefused delivers batch moment tried olds news → AreShared delivers (λ b. batch ≡ b) [] olds news
  refused_shared batch moment [] olds news same = shared_none (λ b. batch ≡ b) olds news same
  refused_shared batch moment (member ∷ tried) olds news (mid, one, rest) =
      shared_then (λ b. batch ≡ b) [] [] olds mid news (shared_one batch moment member (Err sink.Refused) olds mid one) (refused_shared batch moment tried mid news rest)

  reached_shared : (batch : List Content) (moment : ℕ) (due : List ℕ) (member : ℕ) (answer : Result (Unit {0}) SinkRefused) (front back : List ℕ) (olds news : List S)
      → Reaches delivers batch moment due member answer front back olds news → AreShared delivers (λ b. batch ≡ b) (taken_by answer member batch) olds news
  reached_shared batch moment due member answer front back olds news r =
      shared_then (λ b. batch ≡ b) [] (taken_by answer member batch) olds r.mid news (refused_shared batch moment front olds r.mid r.before) (shared_one batch moment member answer r.mid news r.last)

  -- one batch that was handed: it was taken by one member where it was answered Ok, and else by none
  record OneSplit (batch : List Content) (answer : Result (Unit {0}) SinkRefused) (olds news : List S) : Type 0 where
    pub taken : List (ℕ × List Content)
    pub whole : batches_of taken ≡ ok_of answer batch
    pub shared : AreShared delivers (λ b. batch ≡ b) taken olds news

  group_one : (batch : List Content) (moment draw : ℕ) (g : Schedule) (olds : List S) (failed : ℕ) (answer : Result (Unit {0}) SinkRefused) (after : Schedule) (news : List S) (more : ℕ)
      → SinkDelivers delivers batch moment draw g olds failed answer after news more → OneSplit batch answer olds news
  group_one batch moment draw g olds failed (Ok done) after news more is =
      record { taken = taken_by (Ok done) is.0 batch; whole = refl; shared = reached_shared batch moment (started g moment draw).due is.0 (Ok done) is.1.0 is.1.1 olds news is.1.2 }
  group_one batch moment draw g olds failed (Err sink.NoMemory) after news more is =
      record { taken = []; whole = refl; shared = reached_shared batch moment (started g moment draw).due is.0.0 (Err sink.NoMemory) is.0.1 is.0.2 olds news is.0.3 }
  group_one batch moment draw g olds failed (Err sink.Refused) after news more is =
      record { taken = []; whole = refl; shared = refused_shared batch moment (started g moment draw).due olds news is.0.0 }

  lone_one : (batch : List Content) (moment : ℕ) (answer : Result (Unit {0}) SinkRefused) (old new : S) → delivers old batch moment answer new → OneSplit batch answer (old ∷ []) (new ∷ [])
  lone_one batch moment answer old new is = record {
    taken = taken_by answer 0 batch;
    whole = by_batches answer 0 batch;
    shared = shared_one batch moment 0 answer (old ∷ []) (new ∷ []) (record { was = old; is = new; here = refl; answered = is; members = refl });
  }

  -- ---- a runner

  split_none : (olds news : List S) → news ≡ olds → IsSplit delivers [] olds news
  split_none olds news same = record { taken = []; whole = refl; shared = shared_none (WasHanded []) olds news same }

  split_then : (h : Handed) (done : List Handed) (olds mids news : List S) → OneSplit h.batch h.answer olds mids → IsSplit delivers done mids news → IsSplit delivers (h ∷ done) olds news
  split_then h done olds mids news one rest = record {
    taken = one.taken ++ rest.taken;
    whole = map-append (λ (t : ℕ × List Content). t.1) one.taken rest.taken ∙ (λ i. one.whole i ++ rest.whole i);
    shared = shared_then (WasHanded (h ∷ done)) one.taken rest.taken olds mids news
        (shared_weaker (λ b. h.batch ≡ b) (WasHanded (h ∷ done)) (λ b same. inl same) one.taken olds mids one.shared)
        (shared_weaker (WasHanded done) (WasHanded (h ∷ done)) (λ b was. inr was) rest.taken mids news rest.shared);
  }

  module _ {N : Type 0} (draws : N → Option (ℕ → ℕ)) where
    abbrev groups : GroupSink S N → List Content → ℕ → Result (Unit {0}) SinkRefused → GroupSink S N → Type 0
    groups s batch moment result t =
        (draw : ℕ) × Gives draw (draws s.random) (draws t.random) × SinkDelivers delivers batch moment draw s.run.schedule s.run.members.items s.failed result t.run.schedule t.run.members.items t.failed

    abbrev runs : Runner S N → List Content → ℕ → Result (Unit {0}) SinkRefused → Runner S N → Type 0
    runs s batch moment result t = DeliversAs (λ a. delivers a batch moment result) (λ a. groups a batch moment result) s t

    runner_one : (batch : List Content) (moment : ℕ) (answer : Result (Unit {0}) SinkRefused) (old new : Runner S N) → runs old batch moment answer new → OneSplit batch answer (members_of old) (members_of new)
    runner_one batch moment answer (Alone a) (Alone b) is = lone_one batch moment answer a b is
    runner_one batch moment answer (Alone a) (Group b) is = absurd is
    runner_one batch moment answer (Group a) (Alone b) is = absurd is
    runner_one batch moment answer (Group a) (Group b) is =
        group_one batch moment is.0 a.run.schedule a.run.members.items a.failed answer b.run.schedule b.run.members.items b.failed is.2

    -- Of whatever a runner was handed each of its sinks took its own.
    pub runner_split : (done : List Handed) (old new : Runner S N) → AllHanded runs done old new → IsSplit delivers done (members_of old) (members_of new)
    runner_split [] old new same = split_none (members_of old) (members_of new) (ap members_of same)
    runner_split (h ∷ done) old new (next, one, rest) =
        split_then h done (members_of old) (members_of next) (members_of new) (runner_one h.batch h.moment h.answer old next one) (runner_split done next new rest)
