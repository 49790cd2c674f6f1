-- The workers of a run can run.
use Rattle.std.proofs.Common.{◌≡◌, ◌∙◌, ◌<◌, ◌≤◌, ◌++◌, ◌^◌, ◌==◌, ℕ, List, [], ◌∷◌, All, flat_map, length, refl, sym, ap, subst, arith, false}
use mathlib.Core.Logic.{dite}
use Rattle.std.proofs.Math.Decide.{dec_lt}
use Rattle.std.specs.List.{AllByRecursion}
use Rattle.std.specs.declared.alloc.Global.{Global}
use Rattle.std.specs.declared.vec.Vec.{Vec}
use Rattle.std.proofs.lemmas.Bool.{ne_eqb}
use Rattle.std.proofs.lemmas.List.{append_assoc}
use Rattle.std.proofs.lemmas.List.Elements.{All-from_recursion, recursion_from_All}
use Rattle.selectors.specs.declared.selector.Selector.{Selector}
use Rattle.source_put.specs.Accepts.{NamesBelow}
use Rattle.shared_channel.specs.Passes.{Known}
use Rattle.keep_worker.specs.declared.worker.KeepWorker.{KeepWorker}
use Rattle.sink_worker.specs.declared.worker.SinkWorker.{SinkWorker}
use Rattle.source_worker.specs.Workers.{CanListen, HasLimit}
use Rattle.source_worker.specs.declared.worker.ListenWorker.{ListenWorker}
use Rattle.line_worker.specs.Workers.{CanServe}
use Rattle.line_worker.specs.declared.worker.LineWorker.{LineWorker}
use Rattle.two_channels.specs.Shares.{table_of}
use Rattle.two_channels.specs.declared.shared.EitherShared.{EitherShared}
use Rattle.channel_wishes.specs.Opened.{WereOpened}
use Rattle.channel_wishes.specs.declared.opened.OpenedChannel.{OpenedChannel}
use Rattle.channel_wishes.specs.declared.wish.ChannelWish.{ChannelWish}
use Rattle.agent_drafts.specs.Fits.{IsFit}
use Rattle.grouped_sinks.specs.declared.row.SinkRow.{SinkRow}
use Rattle.run_tracks.specs.Deals.{count_of, hand_at}
use Rattle.run_tracks.specs.Dealing.{AreDealtBut}
use Rattle.run_tracks.specs.Dealt.{AreDealt, Owner}
use Rattle.run_tracks.specs.Homes.{AreHomes, IsAt}
use Rattle.run_tracks.specs.Places.{Zips}
use Rattle.run_tracks.specs.Told.{IsNew}
use Rattle.run_tracks.proofs.Dealing.{ends}
use Rattle.run_tracks.proofs.Handing.{count_joined}
use Rattle.run_staff.specs.Alone.{AreAlone}
use Rattle.run_opening.specs.Assembled.{AreFit, AreUsed, IsCrew, IsStaff}
use Rattle.run_settling.specs.Draining.{HasOwn}
use Rattle.run_opening.specs.Keepers.{AreWantedInFolders}
use Rattle.run_opening.specs.Prepared.{uses_of}
use Rattle.run_staff.specs.Ports.{AreLinePorts, AreListenPorts, IsKeepPort, IsSinkPort}
use Rattle.run_staff.specs.Jobs.{AreNew, AreWorkers, CanRun, owners_at, owners_of}
use Rattle.run_opening.specs.Staff.{IsLineOf, IsListenOf, keep_channels, keep_ports, line_channels, line_ports, listen_channels, listen_ports, sink_channels, sink_ports}
use Rattle.run_opening.specs.declared.assemble.Crew.{Crew}
use Rattle.run_opening.specs.declared.assemble.Parts.{Parts}
use Rattle.run_opening.specs.declared.seats.Seat.{Seat}
use Rattle.run_staff.specs.declared.workers.Workers.{Workers}
use Rattle.run_opening.proofs.Alone.{are_alone}
use Rattle.run_opening.proofs.Numbering.{staff_numbered}
use Rattle.run_opening.proofs.Keeping.{all_on}
use Rattle.run_opening.proofs.Dealt.{each_in, each_owned}
use Rattle.run_opening.proofs.Fresh.{AreFresh, InHands, are_fresh, dealt_but, fresh_many, hand_many, hand_none, homes, homes_are, hands, in_hands, in_order, own_are, shares}

-- ---- how often a channel is used

none_beyond : (n place : ℕ) (uses : List ℕ) → n ≤ place → AllByRecursion (λ (u : ℕ). u < n) uses → count_of place uses ≡ 0
none_beyond n place [] beyond all = refl
none_beyond n place (u ∷ uses) beyond all =
    let rest = none_beyond n place uses beyond all.1 in
    let sum = count_joined place (u ∷ []) uses in
    let one = not_one n place u beyond all.0 in
    omega (arith, sum, one, rest)
  where
    not_one : (n place u : ℕ) → n ≤ place → u < n → count_of place (u ∷ []) ≡ 0
    not_one n place u beyond low = let is : (u == place) ≡ false = ne_eqb u place (λ e. omega (arith, beyond, low, e)) in rw is refl

module _ {A B : Type 0} (wishes : List ChannelWish) (cs : List (OpenedChannel A B)) (fresh : AreFresh wishes cs) (uses : List ℕ) (used : AreUsed wishes uses) where
  -- each channel has as many passes to deal as it has uses
  pub undealt : (place : ℕ) → length (hand_at (hands wishes cs fresh) place) ≡ count_of place uses
  undealt place =
      let many = fresh_many wishes cs fresh in
      dite (dec_lt place (length cs))
      (λ below. low place (omega (arith, below, many)) below)
      (λ beyond.
      hand_none wishes cs fresh place (omega (arith, beyond))
      ∙ sym (none_beyond (length wishes) place uses (omega (arith, beyond, many)) (recursion_from_All (λ (u : ℕ). u < length wishes) uses used.there)))
    where
      first : (l : List ChannelWish) (p : ℕ) → p < length l → ChannelWish
      first [] p lt = absurd (omega (arith, lt))
      first (w ∷ l) p lt = w

      low : (p : ℕ) → p < length wishes → p < length cs → length (hand_at (hands wishes cs fresh) p) ≡ count_of p uses
      low p lt below = let w = first wishes p lt in hand_many wishes cs fresh p w below ∙ used.users p w lt

-- ---- sources' workers

listen_can : {N K C : Type 0} (count : ℕ) (seat : Seat K C) (job : ListenWorker Known N C K) → IsFit count seat.draft → IsListenOf seat job → CanListen job
listen_can count seat job fit of =
    let same : length job.ports.items ≡ length seat.draft.channels.items = of.many ∙ ap (λ (v : Vec ℕ Global). length v.items) of.channels in
    record {
      max = subst HasLimit (sym of.rules) fit.max;
      few = subst (λ (n : ℕ). n < 2 ^ 32) (sym same) fit.few;
      named = subst (λ (x : Selector × ℕ). NamesBelow x.0 x.1) (λ i. (sym of.selector i, sym same i)) fit.named;
    }

line_can : {I O K C : Type 0} (count : ℕ) (seat : Seat K C) (job : LineWorker Known I O C K) → IsFit count seat.draft → IsLineOf seat job → CanServe job
line_can count seat job fit of =
    let same : length job.ports.items ≡ length seat.draft.channels.items = of.many ∙ ap (λ (v : Vec ℕ Global). length v.items) of.channels in
    record {
      max = subst HasLimit of.rules fit.max;
      few = subst (λ (n : ℕ). n < 2 ^ 32) (sym same) fit.few;
      named = subst (λ (x : Selector × ℕ). NamesBelow x.0 x.1) (λ i. (sym of.selector i, sym same i)) fit.named;
      timed = of.timed;
    }

-- what the first of two lists of one length gives to each of the second
across : {X Y : Type 0} (P : X → Type 0) (R : X → Y → Type 0) (Q : Y → Type 0) → ((x : X) (y : Y) → P x → R x y → Q y)
    → (xs : List X) (ys : List Y) → AllByRecursion P xs → Zips R xs ys → AllByRecursion Q ys
across P R Q step [] [] all zips = tt
across P R Q step [] (y ∷ ys) all zips = absurd zips
across P R Q step (x ∷ xs) [] all zips = absurd zips
across P R Q step (x ∷ xs) (y ∷ ys) all zips = (step x y all.0 zips.0, across P R Q step xs ys all.1 zips.1)

can_run : {S N I O C K : Type 0} (count : ℕ) (plans : List SinkRow) (parts : Parts S N I O C K) (hands' : List (List Known)) (jobs : Workers Known S N I O C K)
    → AreFit count parts → IsStaff plans parts hands' jobs → CanRun jobs
can_run {S} {N} {I} {O} {C} {K} count plans parts hands' jobs fit staff = record {
  listeners = All-from_recursion (λ (j : ListenWorker Known N C K). CanListen j) jobs.listeners.items
      (across (λ (s : Seat K C). IsFit count s.draft) IsListenOf (λ (j : ListenWorker Known N C K). CanListen j) (listen_can count) parts.listeners.items jobs.listeners.items
      (recursion_from_All (λ (s : Seat K C). IsFit count s.draft) parts.listeners.items fit.listeners) staff.listeners);
  lines = All-from_recursion (λ (j : LineWorker Known I O C K). CanServe j) jobs.lines.items
      (across (λ (s : Seat K C). IsFit count s.draft) IsLineOf (λ (j : LineWorker Known I O C K). CanServe j) (line_can count) parts.lines.items jobs.lines.items
      (recursion_from_All (λ (s : Seat K C). IsFit count s.draft) parts.lines.items fit.lines) staff.lines);
}

-- ---- passes

module _ {A B : Type 0} (shares' : List (EitherShared A B)) where
  abbrev Holds : ℕ → Known → Type 0
  Holds place p = IsAt table_of shares' place p × IsNew p

  both : {X : Type 0} (P Q : X → Type 0) (xs : List X) → AllByRecursion (λ (x : X). P x × Q x) xs → AllByRecursion P xs × AllByRecursion Q xs
  both P Q [] all = (tt, tt)
  both P Q (x ∷ xs) all = let rest = both P Q xs all.1 in ((all.0.0, rest.0), (all.0.1, rest.1))

  firsts : (places : List ℕ) (passes : List Known) → Zips Holds places passes → Zips (λ place p. IsAt table_of shares' place p) places passes
  firsts [] [] zips = tt
  firsts [] (p ∷ passes) zips = absurd zips
  firsts (at ∷ places) [] zips = absurd zips
  firsts (at ∷ places) (p ∷ passes) zips = (zips.0.0, firsts places passes zips.1)

  seconds : (places : List ℕ) (passes : List Known) → Zips Holds places passes → AllByRecursion IsNew passes
  seconds [] [] zips = tt
  seconds [] (p ∷ passes) zips = absurd zips
  seconds (at ∷ places) [] zips = absurd zips
  seconds (at ∷ places) (p ∷ passes) zips = (zips.0.1, seconds places passes zips.1)

  mapped : {X : Type 0} (P Q : X → Type 0) → ((x : X) → P x → Q x) → (xs : List X) → AllByRecursion P xs → All Q xs
  mapped {X = X} P Q step xs all = All-from_recursion Q xs (go xs all)
    where
      go : (ys : List X) → AllByRecursion P ys → AllByRecursion Q ys
      go [] tt' = tt
      go (y ∷ ys) rest = (step y rest.0, go ys rest.1)

  module _ {S N I O C K : Type 0} (plans : List SinkRow) (parts : Parts S N I O C K) (hands' : List (List Known)) (jobs : Workers Known S N I O C K)
      (staff : IsStaff plans parts hands' jobs) (all : InHands Holds hands') where
    keepers_in : AllByRecursion (λ (j : KeepWorker Known C). Zips Holds (keep_channels j) (keep_ports j)) jobs.keepers.items × InHands Holds staff.behind_keepers
    keepers_in = each_in Holds keep_channels keep_ports hands' jobs.keepers.items staff.behind_keepers staff.deals_keepers all

    sinks_in : AllByRecursion (λ (j : SinkWorker Known S C). Zips Holds (sink_channels j) (sink_ports j)) jobs.sinks.items × InHands Holds staff.behind_sinks
    sinks_in = each_in Holds sink_channels sink_ports staff.behind_keepers jobs.sinks.items staff.behind_sinks staff.deals_sinks keepers_in.1

    listeners_in : AllByRecursion (λ (j : ListenWorker Known N C K). Zips Holds (listen_channels j) (listen_ports j)) jobs.listeners.items × InHands Holds staff.behind_listeners
    listeners_in = each_in Holds listen_channels listen_ports staff.behind_sinks jobs.listeners.items staff.behind_listeners staff.deals_listeners sinks_in.1

    lines_in : AllByRecursion (λ (j : LineWorker Known I O C K). Zips Holds (line_channels j) (line_ports j)) jobs.lines.items × InHands Holds staff.last
    lines_in = each_in Holds line_channels line_ports staff.behind_listeners jobs.lines.items staff.last staff.deals_lines listeners_in.1

    -- each worker's passes are of its channels
    pub are_workers : AreWorkers table_of shares' (λ (pass : Known). pass) jobs
    are_workers = record {
      keepers = mapped (λ (j : KeepWorker Known C). Zips Holds (keep_channels j) (keep_ports j)) (λ (j : KeepWorker Known C). IsKeepPort table_of shares' (λ (pass : Known). pass) j)
          (λ j zips. zips.0.0) jobs.keepers.items keepers_in.0;
      sinks = mapped (λ (j : SinkWorker Known S C). Zips Holds (sink_channels j) (sink_ports j)) (λ (j : SinkWorker Known S C). IsSinkPort table_of shares' (λ (pass : Known). pass) j)
          (λ j zips. zips.0.0) jobs.sinks.items sinks_in.0;
      listeners = mapped (λ (j : ListenWorker Known N C K). Zips Holds (listen_channels j) (listen_ports j)) (λ (j : ListenWorker Known N C K). AreListenPorts table_of shares' (λ (pass : Known). pass) j)
          (λ j zips. firsts (listen_channels j) (listen_ports j) zips) jobs.listeners.items listeners_in.0;
      lines = mapped (λ (j : LineWorker Known I O C K). Zips Holds (line_channels j) (line_ports j)) (λ (j : LineWorker Known I O C K). AreLinePorts table_of shares' (λ (pass : Known). pass) j)
          (λ j zips. firsts (line_channels j) (line_ports j) zips) jobs.lines.items lines_in.0;
    }

    -- no worker's pass has made a call
    pub are_new : AreNew jobs
    are_new = record {
      keepers = mapped (λ (j : KeepWorker Known C). Zips Holds (keep_channels j) (keep_ports j)) (λ (j : KeepWorker Known C). IsNew j.port) (λ j zips. zips.0.1) jobs.keepers.items keepers_in.0;
      sinks = mapped (λ (j : SinkWorker Known S C). Zips Holds (sink_channels j) (sink_ports j)) (λ (j : SinkWorker Known S C). IsNew j.port) (λ j zips. zips.0.1) jobs.sinks.items sinks_in.0;
      listeners = mapped (λ (j : ListenWorker Known N C K). Zips Holds (listen_channels j) (listen_ports j)) (λ (j : ListenWorker Known N C K). All IsNew j.ports.items)
          (λ j zips. All-from_recursion IsNew j.ports.items (seconds (listen_channels j) (listen_ports j) zips)) jobs.listeners.items listeners_in.0;
      lines = mapped (λ (j : LineWorker Known I O C K). Zips Holds (line_channels j) (line_ports j)) (λ (j : LineWorker Known I O C K). All IsNew j.ports.items)
          (λ j zips. All-from_recursion IsNew j.ports.items (seconds (line_channels j) (line_ports j) zips)) jobs.lines.items lines_in.0;
    }

module _ {S N I O C K : Type 0} (plans : List SinkRow) (parts : Parts S N I O C K) (hands' : List (List Known)) (jobs : Workers Known S N I O C K)
    (staff : IsStaff plans parts hands' jobs) (homes' : List Known) (but : AreDealtBut homes' [] hands') where
  -- each number of a channel is with its pass at home or with one worker
  pub are_dealt : AreDealt homes' (owners_of jobs)
  are_dealt =
      let z : List Owner = flat_map (λ (k : KeepWorker Known C). owners_at (keep_channels k) (keep_ports k)) jobs.keepers.items in
      let a : List Owner = flat_map (λ (s : SinkWorker Known S C). owners_at (sink_channels s) (sink_ports s)) jobs.sinks.items in
      let b : List Owner = flat_map (λ (l : ListenWorker Known N C K). owners_at (listen_channels l) (listen_ports l)) jobs.listeners.items in
      let c : List Owner = flat_map (λ (l : LineWorker Known I O C K). owners_at (line_channels l) (line_ports l)) jobs.lines.items in
      let zero = each_owned homes' keep_channels keep_ports hands' [] jobs.keepers.items staff.behind_keepers staff.deals_keepers but in
      let one = each_owned homes' sink_channels sink_ports staff.behind_keepers z jobs.sinks.items staff.behind_sinks staff.deals_sinks zero in
      let two = each_owned homes' listen_channels listen_ports staff.behind_sinks (z ++ a) jobs.listeners.items staff.behind_listeners staff.deals_listeners one in
      let three = each_owned homes' line_channels line_ports staff.behind_listeners ((z ++ a) ++ b) jobs.lines.items staff.last staff.deals_lines two in
      let same : ((z ++ a) ++ b) ++ c ≡ z ++ (a ++ (b ++ c)) = append_assoc (z ++ a) b c ∙ append_assoc z a (b ++ c) in
      ends homes' staff.last (owners_of jobs) staff.none_left (subst (λ (x : List Owner). AreDealtBut homes' x staff.last) same three)

-- ---- the whole

-- channels that were opened have fresh passes
pub freshly : {A B : Type 0} (wishes : List ChannelWish) (cs : List (OpenedChannel A B)) → WereOpened wishes cs → AreFresh wishes cs
freshly wishes cs opened = are_fresh wishes cs opened.0 opened.1 opened.2

module _ {A B S N I O C K : Type 0} (plans : List SinkRow) (wishes : List ChannelWish) (cs : List (OpenedChannel A B)) (parts : Parts S N I O C K)
    (opened : WereOpened wishes cs) (used : AreUsed wishes (uses_of parts.keepers.items plans parts.listeners.items parts.lines.items))
    (folders : AreWantedInFolders wishes parts.keepers.items) (fit : AreFit (length wishes) parts) (crew : Crew A B S N I O C K) where
  -- workers that the passes of opened channels were dealt to can run
  pub is_crew : crew.shares.items ≡ shares wishes cs (freshly wishes cs opened) → crew.homes.items ≡ homes wishes cs (freshly wishes cs opened) → IsStaff plans parts (hands wishes cs (freshly wishes cs opened)) crew.jobs
      → IsCrew plans cs parts crew
  is_crew same_shares same_homes staff = record {
    shares = same_shares;
    homes = subst (λ (x : List (EitherShared A B) × List Known). AreHomes table_of x.0 x.1) (λ i. (sym same_shares i, sym same_homes i)) (homes_are wishes cs (freshly wishes cs opened));
    at_home = same_homes;
    own = subst (λ (l : List Known). All HasOwn l) (sym same_homes) (own_are wishes cs (freshly wishes cs opened));
    dealt = are_dealt plans parts (hands wishes cs (freshly wishes cs opened)) crew.jobs staff crew.homes.items (subst (λ (l : List Known). AreDealtBut l [] (hands wishes cs (freshly wishes cs opened))) (sym same_homes) (dealt_but wishes cs (freshly wishes cs opened)));
    alone = subst (λ (l : List Known). AreAlone l (owners_of crew.jobs)) (sym same_homes) (are_alone wishes cs (freshly wishes cs opened) plans parts crew.jobs staff);
    numbers = staff_numbered plans parts (hands wishes cs (freshly wishes cs opened)) crew.jobs staff (in_order wishes cs (freshly wishes cs opened))
        (undealt wishes cs (freshly wishes cs opened) (uses_of parts.keepers.items plans parts.listeners.items parts.lines.items) used);
    workers = are_workers crew.shares.items plans parts (hands wishes cs (freshly wishes cs opened)) crew.jobs staff held;
    new_ones = are_new crew.shares.items plans parts (hands wishes cs (freshly wishes cs opened)) crew.jobs staff held;
    fit = can_run (length wishes) plans parts (hands wishes cs (freshly wishes cs opened)) crew.jobs fit staff;
    on_disks = all_on crew.shares.items wishes cs opened.0 opened.1 opened.2 same_shares parts.keepers.items crew.jobs.keepers.items folders staff.keepers;
    keepers = staff.keepers;
    sinks = staff.sinks;
    own_sinks = staff.own_sinks;
    listeners = staff.listeners;
    own_listeners = staff.own_listeners;
    lines = staff.lines;
    own_talks = staff.own_talks;
    drains = staff.drains;
  }
    where
      held : InHands (Holds crew.shares.items) (hands wishes cs (freshly wishes cs opened))
      held = subst (λ (l : List (EitherShared A B)). InHands (Holds l) (hands wishes cs (freshly wishes cs opened))) (sym same_shares) (in_hands wishes cs (freshly wishes cs opened))
