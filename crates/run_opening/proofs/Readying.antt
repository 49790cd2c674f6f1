-- What a run was prepared with, once all is opened: its workers can be made.
use Rattle.std.proofs.Common.{◌≡◌, ◌∙◌, ◌<◌, ◌≤◌, ◌++◌, ℕ, Bool, List, [], ◌∷◌, All, flat_map, length, map, sym, ap, subst, arith, slice_index_or, string_bytes}
use Rattle.std.proofs.lemmas.List.{length-map}
use Rattle.std.proofs.lemmas.List.Elements.{All-append, All-head, All-map, All-nil, All-tail, All-weaker}
use Rattle.flume_host.specs.HostState.{Folders}
use Rattle.agent_plan.specs.declared.plan.ChannelPlan.{ChannelPlan}
use Rattle.agent_plan.specs.declared.plan.Plan.{Plan}
use Rattle.agent_plan.specs.declared.plan.SinkPlan.{SinkPlan}
use Rattle.agent_plan.specs.declared.plan.GroupPlan.{GroupPlan}
use Rattle.grouped_sinks.specs.Rows.{AreRows, AreThere, IsOrder, RowsAreApart, places_of}
use Rattle.grouped_sinks.specs.declared.row.SinkRow.{SinkRow}
use Rattle.grouped_sinks.proofs.Limits.{rows_named, rows_some}
use Rattle.plan_laws.specs.Limits.{IsFromTo, NumbersAreLimited}
use Rattle.plan_laws.specs.Names.{GroupsNameWhatIsThere, IsGroupWithin, SinksNameWhatIsThere}
use Rattle.plan_laws.specs.Once.{SinksStandOnce}
use Rattle.channel_wishes.specs.Places.{AreOut, IsOutIn}
use Rattle.channel_wishes.specs.Opened.{AreOpened, WereOpened}
use Rattle.channel_wishes.specs.Openings.{HostTold}
use Rattle.channel_wishes.specs.declared.opened.OpenedChannel.{OpenedChannel}
use Rattle.channel_wishes.specs.declared.wish.ChannelPlace.{ChannelPlace}
use Rattle.channel_wishes.specs.declared.wish.ChannelPlace.TheVariants.{Folder, Memory}
use Rattle.channel_wishes.specs.declared.wish.ChannelWish.{ChannelWish}
use Rattle.agent_outside.specs.declared.listener.SourceListener.{SourceListener}
use Rattle.run_tracks.specs.Deals.{count_of}
use Rattle.run_opening.specs.Keepers.{IsWantedInFolder, closes as is_closed}
use Rattle.run_opening.specs.Labels.{users_of}
use Rattle.run_opening.specs.Lists.{HaveChannelLists, HaveWorkerLists}
use Rattle.run_opening.specs.Opening.{CanBeManned}
use Rattle.run_opening.specs.Outside.{LeavesDisks, WithPlaces}
use Rattle.run_opening.specs.Prepared.{IsPlanned, IsPrepared, IsSeat, uses_of}
use Rattle.run_opening.specs.Staff.{seat_channels}
use Rattle.run_opening.specs.Wishes.{AreWishes}
use Rattle.run_opening.specs.declared.opening.Opening.{Opening}
use Rattle.run_opening.specs.declared.seats.KeepSeat.{KeepSeat}
use Rattle.run_opening.specs.declared.seats.Seat.{Seat}
use Rattle.run_opening.proofs.Keeping.{are_wanted}
use Rattle.run_opening.proofs.Labelling.{labels_many}

-- ---- the groups of a plan

-- each sink of a group is one of the plan's
pub groups_there : GroupsNameWhatIsThere → (plan : Plan) → IsPlanned plan → AreThere (length plan.sinks.items) plan.groups.items
groups_there names plan planned =
    let count = length plan.sinks.items in
    All-weaker (IsGroupWithin count) (λ (g : GroupPlan). All (λ place. place < count) g.sinks.items) (λ g is. is.sinks) plan.groups.items (names planned.0 planned.1 plan planned.2)

-- each group has as many priorities as sinks
pub groups_weighed : GroupsNameWhatIsThere → (plan : Plan) → IsPlanned plan → All (λ (g : GroupPlan). length g.priorities.items ≡ length g.sinks.items) plan.groups.items
groups_weighed names plan planned =
    All-weaker (IsGroupWithin (length plan.sinks.items)) (λ (g : GroupPlan). length g.priorities.items ≡ length g.sinks.items) (λ g is. is.priorities) plan.groups.items
    (names planned.0 planned.1 plan planned.2)

-- each sink of a plan is in one of its rows, once
pub rows_in_order : RowsAreApart → GroupsNameWhatIsThere → SinksStandOnce → (plan : Plan) → IsPlanned plan → (rows : List SinkRow) → AreRows plan.sinks.items plan.groups.items rows
    → IsOrder (length plan.sinks.items) (places_of rows)
rows_in_order apart names once plan planned rows are =
    apart plan.sinks.items plan.groups.items rows (groups_there names plan planned) (once planned.0 planned.1 plan planned.2) are

-- ---- the channels are used as they were wanted

first_of_plans : (plans : List ChannelPlan) (place : ℕ) → place < length plans → ChannelPlan
first_of_plans [] place below = absurd (omega (arith, below))
first_of_plans (plan ∷ plans) place below = plan

wish_at : (uses : List ℕ) (plans : List ChannelPlan) (wishes : List ChannelWish) → AreWishes uses plans wishes → (place : ℕ) (wish : ChannelWish) → place < length wishes
    → ((slice_index_or wishes place wish).users ≡ count_of place uses) × (count_of place uses < 4_294_967_295)
wish_at uses plans wishes are place wish below =
    let below' : place < length plans = let m = are.many in omega (arith, below, m) in
    let at = are.each place (first_of_plans plans place below') wish below' in
    (at.0.users, at.1)

-- no wish has too many users
pub few_users : (uses : List ℕ) (plans : List ChannelPlan) (wishes at : List ChannelWish) → at ≡ wishes → AreWishes uses plans wishes → All (λ (wish : ChannelWish). wish.users < 4_294_967_295) at
few_users uses plans wishes at same are =
    subst (λ (l : List ChannelWish). All (λ (wish : ChannelWish). wish.users < 4_294_967_295) l) (sym same)
    (λ place wish below.
    let here = wish_at uses plans wishes are place wish below in
    subst (λ (n : ℕ). n < 4_294_967_295) (sym here.0) here.1)

seats_there : {K C : Type 0} (count : ℕ) (seats : List (Seat K C)) → All (IsSeat count) seats → All (λ place. place < count) (flat_map seat_channels seats)
seats_there count [] all = All-nil (λ place. place < count)
seats_there {K} {C} count (seat ∷ seats) all =
    All-append (λ place. place < count) (seat_channels seat) (flat_map seat_channels seats)
    (All-head (IsSeat count) seat seats all).0.there (seats_there count seats (All-tail (IsSeat count) seat seats all))

uses_there : {K C : Type 0} (count : ℕ) (keepers : List (KeepSeat C)) (sinks : List SinkRow) (listeners lines : List (Seat K C))
    → All (λ (seat : KeepSeat C). seat.channel < count) keepers → All (λ (row : SinkRow). row.channel < count) sinks
    → All (IsSeat count) listeners → All (IsSeat count) lines → All (λ place. place < count) (uses_of keepers sinks listeners lines)
uses_there {K} {C} count keepers sinks listeners lines kept named hear talk =
    let Below : ℕ → Type 0 = λ place. place < count in
    let others = flat_map seat_channels listeners ++ flat_map seat_channels lines in
    All-append Below (map (λ (seat : KeepSeat C). seat.channel) keepers) (map (λ (row : SinkRow). row.channel) sinks ++ others)
    (All-map Below (λ (seat : KeepSeat C). seat.channel) keepers kept)
    (All-append Below (map (λ (row : SinkRow). row.channel) sinks) others
    (All-map Below (λ (row : SinkRow). row.channel) sinks named)
    (All-append Below (flat_map seat_channels listeners) (flat_map seat_channels lines) (seats_there count listeners hear) (seats_there count lines talk)))

-- ---- each worker of a listener has one

-- as many listeners were opened as there are workers for them
pub as_many : {N K C : Type 0} (places : List ℕ) (bare : List N) (named : List (SourceListener N)) (seats : List (Seat K C)) → WithPlaces places bare named
    → map (λ (seat : Seat K C). seat.draft.source) seats ≡ places → length bare ≡ length seats
as_many {N} {K} {C} places bare named seats w sources =
    ap length (sym w.listeners)
    ∙ length-map named (λ (l : SourceListener N). l.listener)
    ∙ sym (length-map named (λ (l : SourceListener N). l.source))
    ∙ ap length (w.sources ∙ sym sources)
    ∙ length-map seats (λ (seat : Seat K C). seat.draft.source)

-- ---- the workers can be made

-- once all is opened as it was prepared, the workers can be made
pub can_be_manned : {A B S N I O C K : Type 0} (plan : Plan) (rows : List SinkRow) (o : Opening A B S N I O C K) (named : List (SourceListener N))
    → SinksNameWhatIsThere → NumbersAreLimited → IsPlanned plan → AreThere (length plan.sinks.items) plan.groups.items → AreRows plan.sinks.items plan.groups.items rows
    → IsPrepared plan rows o.prepared → WereOpened o.prepared.wishes.items o.opened.items → length o.outside.sinks.items ≡ length rows
    → WithPlaces o.prepared.places.items o.outside.listeners.items named → HaveChannelLists (length plan.channels.items) o.channels
    → HaveWorkerLists (length o.prepared.keepers.items) (length rows) (length o.prepared.listeners.items) (length o.prepared.lines.items) o.workers → CanBeManned rows o
can_be_manned {A} {B} {S} {N} {I} {O} {C} {K} plan rows o named names limits planned in_groups are is opened sinks w channels workers =
    let p = o.prepared in
    let count = length plan.channels.items in
    let many : count ≡ length p.wishes.items = sym is.wishes.many in
    let folders = are_wanted (uses_of p.keepers.items rows p.listeners.items p.lines.items) plan.channels.items p.wishes.items is.wishes p.keepers.items is.keepers in
    let kept = All-weaker (IsWantedInFolder p.wishes.items) (λ (seat : KeepSeat C). seat.channel < count)
    (λ seat wanted. (let t = wanted.there in omega (arith, t, many))) p.keepers.items folders in
    let there = uses_there count p.keepers.items rows p.listeners.items p.lines.items kept
    (rows_named plan.sinks.items plan.groups.items rows in_groups are count (names planned.0 planned.1 plan planned.2)) is.listeners is.lines in
    record {
      opened = opened;
      used = record {
        users = λ place wish below. (wish_at (uses_of p.keepers.items rows p.listeners.items p.lines.items) plan.channels.items p.wishes.items is.wishes place wish below).0;
        there = subst (λ (n : ℕ). All (λ place. place < n) (uses_of p.keepers.items rows p.listeners.items p.lines.items)) many there;
      };
      folders = folders;
      some = rows_some plan.sinks.items plan.groups.items rows in_groups are
          (All-weaker (λ (sink : SinkPlan). IsFromTo 1 10000 sink.batch) (λ (sink : SinkPlan). 1 ≤ sink.batch) (λ sink within. within.0) plan.sinks.items
          (limits planned.0 planned.1 plan planned.2).sinks);
      sinks = sinks;
      clocks = is.clocks;
      closes = ap length is.closes ∙ length-map plan.channels.items (λ (channel : ChannelPlan). is_closed channel.kind) ∙ many;
      hearers = as_many p.places.items o.outside.listeners.items named p.listeners.items w is.sources;
      listeners = subst (λ (n : ℕ). All (IsSeat n) p.listeners.items) many is.listeners;
      lines = subst (λ (n : ℕ). All (IsSeat n) p.lines.items) many is.lines;
      lined = is.lined;
      labels = labels_many (users_of plan p.keepers.items rows p.listeners.items p.lines.items) 0 plan.channels.items p.labels.items is.labels ∙ many;
      channels = subst (λ (n : ℕ). HaveChannelLists n o.channels) many channels;
      workers = workers;
    }

-- ---- what was opened before

place_out : (old new : Folders) → ((p : List ℕ) → new.disk_opened p ≡ old.disk_opened p) → (place : ChannelPlace) → IsOutIn old place → IsOutIn new place
place_out old new same Memory out = tt
place_out old new same (Folder path) out = same (string_bytes path) ∙ out

each_out : (old new : Folders) → ((p : List ℕ) → new.disk_opened p ≡ old.disk_opened p) → (wishes : List ChannelWish) → AreOut old wishes → AreOut new wishes
each_out old new same [] out = tt
each_out old new same (wish ∷ wishes) out = (place_out old new same wish.place out.0, each_out old new same wishes out.1)

-- no folder of a channel is touched: its disks stay out
pub still_out : (old new : Folders) (wishes : List ChannelWish) → LeavesDisks old new → AreOut old wishes → AreOut new wishes
still_out old new wishes leaves out = each_out old new (λ p. ap (λ (h : List ℕ → Bool). h p) leaves.opened) wishes out

-- the channels were opened as wished, whatever the host showed
pub were_opened : {A B : Type 0} (wishes at : List ChannelWish) (cs : List (OpenedChannel A B)) (a b : HostTold) → at ≡ wishes → AreOpened at cs a b → WereOpened wishes cs
were_opened wishes at cs a b same opened = subst (λ (l : List ChannelWish). WereOpened l cs) same (a, b, opened)
