-- Which sinks of a run emptied their channels.
use Rattle.std.proofs.Common.{◌≡◌, ◌∙◌, ◌<◌, ◌++◌, ℕ, zero, suc, List, [], ◌∷◌, All, Bool, true, false, Option, Ok, length, map, get_or, refl, sym, ap, subst, arith}
use Rattle.std.specs.List.{AllByRecursion}
use Rattle.std.proofs.lemmas.List.{get_or-map}
use Rattle.std.proofs.lemmas.List.Elements.{recursion_from_All}
use mathlib.Core.List.{IsPrefix}
use Rattle.agent_end.specs.Drains.{is_delivery}
use Rattle.agent_end.specs.declared.draining.ChannelDrain.{ChannelDrain}
use Rattle.agent_end.specs.declared.draining.ChannelDrain.TheVariants.{Emptied, Stopped}
use Rattle.channel_face.specs.History.{IsRun, Opening, Step, opening, state_after}
use Rattle.channel_face.specs.Machine.{State, after}
use Rattle.channel_face.proofs.Adding.{state-append}
use Rattle.file_channel.specs.Stands.{FileState}
use Rattle.agent_plan.specs.declared.plan.ChannelPlan.{ChannelPlan}
use Rattle.grouped_sinks.specs.declared.row.SinkRow.{SinkRow}
use Rattle.flume_host.specs.Told.{Told as DiskTold}
use Rattle.shared_channel.specs.Passes.{Known}
use Rattle.sink_runner.specs.declared.turn.Turn.{Turn}
use Rattle.sink_worker.specs.Rounds.{Told}
use Rattle.sink_worker.specs.declared.worker.SinkWorker.{SinkWorker}
use Rattle.channel_lock.specs.Calls.{Below, has}
use Rattle.channel_lock.specs.Turns.{HasAll}
use Rattle.channel_lock.specs.Views.{View}
use Rattle.two_channels.specs.Shares.{pass_of}
use Rattle.run_tracks.specs.Closes.{IsClosed}
use Rattle.run_tracks.specs.Drained.{called_in}
use Rattle.run_tracks.specs.Tracks.{Track}
use Rattle.channel_lock.proofs.Histories.{begins_self}
use Rattle.agent_run.specs.DrainedTold.{DrainTold, DrainedTold, PutsEnd}
use Rattle.run_settling.specs.Draining.{AreDrained, IsDrainedAt, IsDrainedHome, IsSinkHome}
use Rattle.run_settling.specs.declared.at_home.AtHome.{AtHome}
use Rattle.agent_run.proofs.Bare.{IsBare, stays_bare}
use Rattle.run_settling.proofs.Chaining.{all_go_on, drained_ends, drained_goes_on, sink_goes_on}
use Rattle.agent_run.proofs.Course.{Course, Stands, closed_are_many, counted_many, drained_many, homes_many, kept_many, mended_many, names_are_many, shares_many, tells_of, there}
use Rattle.agent_run.proofs.Left.{at_rest, closed_at, finals_are, left_below, left_run}
use Rattle.agent_run.proofs.Quiet.{IsQuiet, drained_quiet, kept_if_quiet, mended_quiet, none_puts, quiet_at, quiet_self, quiet_then}

-- the calls after others are answered as the machine answers them there
run_behind : (tells : Bool) (s : State) (a b : List Step) → IsRun tells s (a ++ b) → IsRun tells (state_after s a) b
run_behind tells s [] b run = run
run_behind tells s (x ∷ a) b run = run_behind tells (after s x.call) a b run.1

-- what is known of a channel in the end
pub record IsEnd (p : Known) : Type 0 where
  pub below : Below p.view.passes p.view.seen
  pub run : IsRun p.view.base.tells (opening p.view.base) p.view.seen

prefix_of : (v w : View) → IsQuiet v w → IsPrefix v.seen w.seen
prefix_of v w is = (is.rest, is.whole)

-- once no event was left and none was staged, none is left in the end
stays_empty : (v : View) (last : Known) (is : IsQuiet v last.view) → HasAll v → IsEnd last → IsBare (state_after (opening last.view.base) v.seen) → last.view.base.tells ≡ true
    → (state_after (opening last.view.base) last.view.seen).items ≡ []
stays_empty v last is all end bare tells =
    let start = opening last.view.base in
    let run : IsRun true start (v.seen ++ is.rest) = subst (λ (x : Bool × List Step). IsRun x.0 start x.1) (λ i. (tells i, sym is.whole i)) end.run in
    ap (λ (h : List Step). (state_after start h).items) (sym is.whole)
    ∙ ap (λ (s : State). s.items) (state-append start v.seen is.rest)
    ∙ (stays_bare (state_after start v.seen) is.rest (none_puts v last.view is all end.below) (run_behind true start v.seen is.rest run) bare).items

module _ {S C : Type 0} (sink : Told S) (moments : C → Option (ℕ → ℕ)) where
  -- the sink's last run did not deliver
  stopped_told : (w : SinkWorker AtHome S C) (old : Known) (turn : Turn) (back : S) (new : Known) → has new.view.numbers w.port.number ≡ true
      → IsDrainedHome sink moments w old (Stopped turn) back new → is_delivery turn ≡ false
  stopped_told w old turn back new mine did =
      let t : Track = record { start = new.view.base; whole = new.view.seen; number = w.port.number; own = [] } in
      (did.track (record t { own = called_in t new }) (record { has_it = mine; now = refl; start = refl; own = refl; within = begins_self new.view.seen })).1.ends.0

  -- what became of one sink's channel
  told_later : (w : SinkWorker AtHome S C) (home old new last : Known) (end : ChannelDrain) (back : S) → has old.view.numbers w.port.number ≡ true → HasAll new.view
      → IsQuiet home.view old.view → IsQuiet new.view last.view → IsEnd last → IsDrainedHome sink moments w old end back new → DrainTold end home last
  told_later w home old new last Emptied back mine all before after ended did =
      let none = ap (λ (o : Opening). (state_after (opening o) new.view.seen).items) after.base ∙ did.none refl in
      let mid = quiet_then home.view old.view new.view before (drained_quiet sink moments w old Emptied back new mine did) in
      record {
        front = new.view.seen;
        behind = prefix_of home.view new.view mid;
        within = prefix_of new.view last.view after;
        none = none;
        stays = λ staged tells. stays_empty new.view last after all ended (record { items = none; staged = staged }) tells;
      }
  told_later w home old new last (Stopped turn) back mine all before after ended did =
      stopped_told w old turn back new (subst (λ (l : List ℕ). has l w.port.number ≡ true) (sym did.later.numbers) mine) did

  each_later : (v : SinkWorker AtHome S C) (us : List (SinkWorker AtHome S C)) (old mid : List Known) (end : ChannelDrain) (back : S) → IsDrainedAt sink moments v old end back mid
      → AllByRecursion (IsSinkHome old) us → AllByRecursion (IsSinkHome mid) us
  each_later v [] old mid end back one at = tt
  each_later v (u ∷ us) old mid end back one at = (sink_goes_on old mid (drained_goes_on sink moments v old end back mid one) u at.0, each_later v us old mid end back one at.1)

  -- while sinks empty their channels nobody puts
  pub rest_quiet : (ws : List (SinkWorker AtHome S C)) (old : List Known) (ends : List ChannelDrain) (backs : List S) (new : List Known) → AllByRecursion (IsSinkHome old) ws
      → AreDrained (IsDrainedAt sink moments) ws old ends backs new → (place : ℕ) (d : Known) → IsQuiet (get_or old place d).view (get_or new place d).view
  rest_quiet [] old [] [] new at all place d = subst (λ (l : List Known). IsQuiet (get_or old place d).view (get_or l place d).view) (sym all) (quiet_self (get_or old place d).view)
  rest_quiet [] old [] (b ∷ backs) new at all place d = absurd all
  rest_quiet [] old (e ∷ ends) backs new at all place d = absurd all
  rest_quiet (v ∷ ws) old [] backs new at all place d = absurd all
  rest_quiet (v ∷ ws) old (e ∷ ends) [] new at all place d = absurd all
  rest_quiet (v ∷ ws) old (e ∷ ends) (b ∷ backs) new at (mid, one, all) place d =
      quiet_then (get_or old place d).view (get_or mid place d).view (get_or new place d).view (quiet_at sink moments v old e b mid at.0 one place d)
      (rest_quiet ws mid ends backs new (each_later v ws old mid e b one at.1) all place d)

  module _ (homes drained last : List Known) (after : (place : ℕ) (d : Known) → place < length drained → IsQuiet (get_or drained place d).view (get_or last place d).view)
      (ended : (place : ℕ) (d : Known) → place < length drained → IsEnd (get_or last place d)) where
    -- So it is of each sink, one after the other.
    pub drains_told : (ws : List (SinkWorker AtHome S C)) (old : List Known) (ends : List ChannelDrain) (backs : List S)
        → AllByRecursion (IsSinkHome old) ws → All (λ (p : Known). HasAll p.view) old → length drained ≡ length old
        → ((place : ℕ) (d : Known) → IsQuiet (get_or homes place d).view (get_or old place d).view) → AreDrained (IsDrainedAt sink moments) ws old ends backs drained
        → (place : ℕ) (w : SinkWorker AtHome S C) (end : ChannelDrain) (d : Known) → place < length ws
        → let channel = (get_or ws place w).channel in (channel < length drained) × DrainTold (get_or ends place end) (get_or homes channel d) (get_or last channel d)
    drains_told [] old ends backs at all many before did place w end d below = absurd (omega (arith, below))
    drains_told (v ∷ ws) old [] backs at all many before did place w end d below = absurd did
    drains_told (v ∷ ws) old (e ∷ ends) [] at all many before did place w end d below = absurd did
    drains_told (v ∷ ws) old (e ∷ ends) (b ∷ backs) at all many before (mid, one, did) zero w end d below =
        let goes = drained_goes_on sink moments v old e b mid one in
        let low : v.channel < length drained = let l = at.0.0 in omega (arith, l, many) in
        let under : v.channel < length mid = let l = at.0.0 in let k = goes.as_many in omega (arith, l, k) in
        let rest = rest_quiet ws mid ends backs drained (each_later v ws old mid e b one at.1) did v.channel d in (
          low,
          told_later v (get_or homes v.channel d) (get_or old v.channel d) (get_or mid v.channel d) (get_or last v.channel d) e b (at.0.1 d)
              (all_go_on old mid goes all v.channel d under) (before v.channel d)
              (quiet_then (get_or mid v.channel d).view (get_or drained v.channel d).view (get_or last v.channel d).view rest (after v.channel d low)) (ended v.channel d low) (one.home d),
        )
    drains_told (v ∷ ws) old (e ∷ ends) (b ∷ backs) at all many before (mid, one, did) (suc place) w end d below =
        let goes = drained_goes_on sink moments v old e b mid one in
        drains_told ws mid ends backs (each_later v ws old mid e b one at.1) (all_go_on old mid goes all) (many ∙ sym goes.as_many)
        (λ i x. quiet_then (get_or homes i x).view (get_or old i x).view (get_or mid i x).view (before i x) (quiet_at sink moments v old e b mid at.0 one i x))
        did place w end d (omega (arith, below))

module _ {D M S C : Type 0} (told : D → Option DiskTold) (faults : D → ℕ) (moment : D × FileState → ℕ) (laid : D × FileState → State → Type 0) (pruned : D × FileState → Type 0) (memory : M → Opening → List Step → Type 0) (tells' : M → Bool)
    (sink : Told S) (moments : C → Option (ℕ → ℕ)) (plans : List ChannelPlan) (r : Course told faults moment laid pruned memory tells' (IsDrainedAt sink moments) plans) where
  -- nobody puts while channels are kept, mended and counted
  from_drained_quiet : (place : ℕ) (d : Known) → place < length plans → IsQuiet (get_or r.settles.drained place d).view (get_or r.settles.counted place d).view
  from_drained_quiet place d below =
      let low : place < length r.settles.drained = let e = drained_many told faults moment laid pruned memory tells' (IsDrainedAt sink moments) plans r in omega (arith, below, e) in
      let between : place < length r.settles.kept = let e = kept_many told faults moment laid pruned memory tells' (IsDrainedAt sink moments) plans r in omega (arith, below, e) in
      let mid : place < length r.settles.mended = let e = mended_many told faults moment laid pruned memory tells' (IsDrainedAt sink moments) plans r in omega (arith, below, e) in
      let s = there r.shares place (let e = shares_many told faults moment laid pruned memory tells' (IsDrainedAt sink moments) plans r in omega (arith, below, e)) in
      let name = there r.names place (let e = names_are_many told faults moment laid pruned memory tells' (IsDrainedAt sink moments) plans r in omega (arith, below, e)) in
      let old = get_or r.settles.drained place d in
      let kept = get_or r.settles.kept place d in
      let mended = get_or r.settles.mended place d in
      let first = kept_if_quiet (Stands told faults) (tells_of told) moment laid pruned (get_or r.shares place s) (get_or r.kept_at_end place false) old kept (r.settles.keeps.each place s false d d low) in
      let last = mended_quiet (Stands told faults) (tells_of told) moment (get_or r.shares place s) kept.view mended.view kept.number (get_or r.settled.mends.items place (Ok false))
      (r.settles.mends.each place s d d (Ok false) between).mends in
      let one = quiet_then old.view kept.view mended.view first last in
      subst (λ (p : Known). IsQuiet old.view p.view) (sym (r.settles.counts.each place d d name name mid).pass)
      (record { base = one.base; passes = one.passes; numbers = one.numbers; rest = one.rest; whole = one.whole; none = one.none })

  end_at : (place : ℕ) (d : Known) → place < length plans → IsEnd (get_or r.settles.counted place d)
  end_at place d below =
      let s = there r.shares place (let e = shares_many told faults moment laid pruned memory tells' (IsDrainedAt sink moments) plans r in omega (arith, below, e)) in
      let e = there r.settled.closed.items place (let e = closed_are_many told faults moment laid pruned memory tells' (IsDrainedAt sink moments) plans r in omega (arith, below, e)) in
      let is = closed_at (IsClosed (Stands told faults) (tells_of told) memory tells') r.shares r.settles.counted r.settled.closed.items r.settles.closed place s d e
      (let k = counted_many told faults moment laid pruned memory tells' (IsDrainedAt sink moments) plans r in omega (arith, below, k)) in
      record {
        below = left_below (Stands told faults) (tells_of told) memory tells' (get_or r.shares place s) (get_or r.settles.counted place d) (get_or r.settled.closed.items place e) is;
        run = left_run (Stands told faults) (tells_of told) memory tells' (get_or r.shares place s) (get_or r.settles.counted place d) (get_or r.settled.closed.items place e) is;
      }

  final_at : (place : ℕ) (final d : Known) → place < length plans → get_or (map pass_of r.settled.closed.items) place final ≡ at_rest (get_or r.settles.counted place d)
  final_at place final d below =
      ap (λ (l : List Known). get_or l place final)
      (finals_are (Stands told faults) (tells_of told) memory tells' r.shares r.settles.counted r.settled.closed.items r.settles.closed)
      ∙ get_or-map at_rest r.settles.counted place d final (let k = counted_many told faults moment laid pruned memory tells' (IsDrainedAt sink moments) plans r in omega (arith, below, k))

  drained_of : (place : ℕ) → place < length r.settles.drained → place < length plans
  drained_of place low = let e = drained_many told faults moment laid pruned memory tells' (IsDrainedAt sink moments) plans r in omega (arith, low, e)

  -- after the join nobody puts
  puts_end : All (IsSinkHome r.homes) r.workers → All (λ (p : Known). HasAll p.view) r.homes → (place : ℕ) (home final : Known) → place < length plans
      → PutsEnd (get_or r.homes place home) (get_or (map pass_of r.settled.closed.items) place final)
  puts_end at all place home final below =
      let low : place < length r.homes = let e = homes_many told faults moment laid pruned memory tells' (IsDrainedAt sink moments) plans r in omega (arith, below, e) in
      let p = get_or r.homes place home in
      let q = get_or r.settles.counted place home in
      let is = quiet_then p.view (get_or r.settles.drained place home).view q.view
      (rest_quiet sink moments r.workers r.homes r.settled.ends.items r.settled.sinks.items r.settles.drained (recursion_from_All (IsSinkHome r.homes) r.workers at) r.settles.drains place home)
      (from_drained_quiet place home below) in
      subst (PutsEnd p) (sym (final_at place final home below))
      (record { base = is.base; rest = is.rest; whole = is.whole; none = none_puts p.view q.view is (all place home low) (end_at place home below).below })

  -- each sink of the plan emptied its channel, or was stopped
  pub drained_told : (sinks : List SinkRow) → All (IsSinkHome r.homes) r.workers → All (λ (p : Known). HasAll p.view) r.homes → length r.workers ≡ length sinks
      → ((place : ℕ) (w : SinkWorker AtHome S C) (plan : SinkRow) → place < length sinks → (get_or r.workers place w).channel ≡ (get_or sinks place plan).channel)
      → length (map pass_of r.settled.closed.items) ≡ length plans
      → DrainedTold sinks r.settled.ends.items r.homes (map pass_of r.settled.closed.items)
  drained_told sinks at all many of finals = record {
    joined = λ place home final below. puts_end at all place home final (omega (arith, below, finals));
    as_many = sym (drained_ends (IsDrainedAt sink moments) r.workers r.homes r.settled.ends.items r.settled.sinks.items r.settles.drained r.settles.drains).0 ∙ many;
    each = λ place plan end home final below.
        let w = there r.workers place (omega (arith, below, many)) in
        let channel = (get_or sinks place plan).channel in
        let told_so = drains_told sink moments r.homes r.settles.drained r.settles.counted (λ i x low. from_drained_quiet i x (drained_of i low)) (λ i x low. end_at i x (drained_of i low))
        r.workers r.homes r.settled.ends.items r.settled.sinks.items
        (recursion_from_All (IsSinkHome r.homes) r.workers at) all r.settles.goes_on.as_many (λ i x. quiet_self (get_or r.homes i x).view) r.settles.drains place w end home (omega (arith, below, many)) in
        let here = subst (λ (n : ℕ). (n < length r.settles.drained) × DrainTold (get_or r.settled.ends.items place end) (get_or r.homes n home) (get_or r.settles.counted n home)) (of place w plan below) told_so in
        subst (DrainTold (get_or r.settled.ends.items place end) (get_or r.homes channel home)) (sym (final_at channel final home (drained_of channel here.0)))
        (rested (get_or r.settled.ends.items place end) (get_or r.homes channel home) (get_or r.settles.counted channel home) here.1);
  }
    where
      rested : (end : ChannelDrain) (home p : Known) → DrainTold end home p → DrainTold end home (at_rest p)
      rested Emptied home p is = record { front = is.front; behind = is.behind; within = is.within; none = is.none; stays = is.stays }
      rested (Stopped turn) home p is = is
