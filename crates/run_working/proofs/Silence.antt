-- Numbers that are silent while others are called with, and sinks in whole histories.
use Rattle.std.proofs.Common.{length, ◌≡◌, ◌∙◌, ℕ, List, [], ◌∷◌, ◌++◌, Bool, true, false, Option, get_or, refl, sym, ap, subst, ◌<◌, arith}
use Rattle.std.proofs.lemmas.List.{append-nil}
use Rattle.std.proofs.lemmas.List.Elements.{recursion_from_All}
use Rattle.std.specs.List.{AllByRecursion}
use mathlib.Core.Logic.{dite}
use native.Mathlib.Decide.{ℕ_discrete}
use Rattle.agent_end.specs.Drains.{Drains}
use Rattle.agent_end.specs.declared.draining.ChannelDrain.{ChannelDrain}
use Rattle.channel_face.specs.Faces.{Own}
use Rattle.channel_face.specs.History.{Opening, Step, opening}
use Rattle.shared_channel.specs.Passes.{Known}
use Rattle.shared_channel.specs.Ports.{AreUnder, Later, own_calls}
use Rattle.sink_runner.specs.declared.turn.Turn.{Turn}
use Rattle.sink_worker.specs.Rounds.{Rounds, Told}
use Rattle.sink_worker.specs.declared.worker.SinkWorker.{SinkWorker}
use Rattle.channel_lock.specs.Calls.{calls_by, has, keep}
use Rattle.channel_lock.proofs.Histories.{begins_self, calls_by-append, has_only}
use Rattle.two_channels.specs.Shares.{IsDisk}
use Rattle.two_channels.specs.declared.shared.EitherShared.{EitherShared}
use Rattle.run_tracks.specs.Dealt.{HasNumber}
use Rattle.run_tracks.specs.Drained.{Looked}
use Rattle.run_tracks.specs.Homes.{Took}
use Rattle.run_tracks.specs.Places.{Zips}
use Rattle.run_tracks.specs.Tracks.{Mended, Turned, ended, track_of}
use Rattle.run_tracks.proofs.Homing.{prefix_then}
use Rattle.run_tracks.proofs.Tracking.{own_same}
use Rattle.run_settling.specs.declared.at_home.AtHome.{AtHome}
use Rattle.run_settling.specs.Draining.{AreDrained, GoesOn, IsDrainedAt, IsDrainedHome, IsSinkHome, under}
use Rattle.run_working.specs.Histories.{IsSinkTold}
use Rattle.run_working.specs.Wholes.{AreBeside, AreOtherJobs, AreOthers, OthersStay, DrainsAreSilent, IsNot, IsOther, IsSilent, IsSilentAt, IsSinkWhole, SinksAreWhole, StaysSilent, WorkedAndDrained}
use Rattle.run_settling.proofs.Chaining.{drained_goes_on, sink_goes_on}
use Rattle.run_working.proofs.Widening.{rounds_wider}

rest_under : (m : ℕ) (b : Bool) (x : Step) (d : List Step) → AreUnder m (keep b x d) → AreUnder m d
rest_under m true x d all = all.1
rest_under m false x d all = all

-- where all calls of a pass carry one number, none carries another one of its numbers
none_other : (ns : List ℕ) (n m : ℕ) → has ns n ≡ true → (m ≡ n → ⊥) → (d : List Step) → AreUnder m (calls_by ns d) → calls_by (n ∷ []) d ≡ []
none_other ns n m is other [] all = refl
none_other ns n m is other (x ∷ d) all = at (none_other ns n m is other d (rest_under m (has ns x.pass) x (calls_by ns d) all)) (has (n ∷ []) x.pass) refl
  where
    at : calls_by (n ∷ []) d ≡ [] → (b : Bool) → has (n ∷ []) x.pass ≡ b → keep b x (calls_by (n ∷ []) d) ≡ []
    at none false e = none
    at none true e =
        let same : x.pass ≡ n = has_only n x.pass e in
        let mine : has ns x.pass ≡ true = subst (λ (k : ℕ). has ns k ≡ true) (sym same) is in
        let first : AreUnder m (x ∷ calls_by ns d) = subst (λ (b : Bool). AreUnder m (keep b x (calls_by ns d))) mine all in
        absurd (other (sym first.0 ∙ same))

-- no call was made between a pass and itself
pub silent_self : (n : ℕ) (p : Known) → IsSilent n p p
silent_self n p = record { base = refl; begins = begins_self p.view.seen; calls = refl }

-- silent first and silent then is silent in all
pub silent_then : (n : ℕ) (p q r : Known) → IsSilent n p q → IsSilent n q r → IsSilent n p r
silent_then n p q r f g = record { base = g.base ∙ f.base; begins = prefix_then p.view.seen q.view.seen r.view.seen f.begins g.begins; calls = g.calls ∙ f.calls }

-- calls under another number
pub silent_under : (n m : ℕ) (p q : Known) → has p.view.numbers n ≡ true → (m ≡ n → ⊥) → Later (under m p) (under m q) → IsSilent n p q
silent_under n m p q is other later =
    let d = later.begins.0 in
    let none = none_other p.view.numbers n m is other d later.under in
    record {
      base = later.base;
      begins = later.begins;
      calls = ap (calls_by (n ∷ [])) (sym later.begins.1) ∙ calls_by-append (n ∷ []) p.view.seen d ∙ ap (λ (l : List Step). calls_by (n ∷ []) p.view.seen ++ l) none ∙ append-nil (calls_by (n ∷ []) p.view.seen);
    }

-- a pass with one number that is silent, and was taken in
pub took_silent : (home last q : Known) (n : ℕ) → q.view.numbers ≡ n ∷ [] → GoesOn home last → IsSilent n home last → Took home q → Took last q
took_silent home last q n one on silent took = record {
  table = on.table ∙ took.table;
  base = on.base ∙ took.base;
  passes = on.passes ∙ took.passes;
  seen = (
    prefix_then q.view.seen home.view.seen last.view.seen took.seen.0 silent.begins,
    subst (λ (l : List ℕ). calls_by l last.view.seen ≡ calls_by l home.view.seen) (sym one) silent.calls ∙ took.seen.1,
  );
  numbers = λ m h. subst (λ (l : List ℕ). has l m ≡ true) (sym on.numbers) (took.numbers m h);
}

-- so its own calls are the same
pub silent_own : (n : ℕ) (p q : Known) → IsSilent n p q → own_calls (n ∷ []) (opening q.view.base) q.view.seen ≡ own_calls (n ∷ []) (opening p.view.base) p.view.seen
silent_own n p q silent =
    (λ i. own_calls (n ∷ []) (opening (silent.base i)) q.view.seen) ∙ own_same (n ∷ []) (opening p.view.base) p.view.seen q.view.seen silent.begins silent.calls

module _ {S C : Type 0} (sink : Told S) (moments : C → Option (ℕ → ℕ)) where
  -- rounds up to one pass at home, and then a draining, are all calls in a later one
  whole_at : (w : SinkWorker AtHome S C) (D : Type 0) (turns : List Turn) (end : ChannelDrain) (back first : S) (clock : Option (ℕ → ℕ)) (p0 p1 p2 p3 : Known)
      → has p1.view.numbers w.port.number ≡ true → IsSilent w.port.number p0 p1 → IsDrainedHome sink moments w p1 end back p2 → IsSilent w.port.number p2 p3
      → Rounds (Turned sink w.batch) (Mended D) turns (record { from = track_of p0 w.port.number; sink = first; moments = clock }) (record { from = ended (track_of p0 w.port.number); sink = w.sink; moments = moments w.clock })
      → (after : Option (ℕ → ℕ)) × WorkedAndDrained sink w.batch D turns end (record { from = track_of p3 w.port.number; sink = first; moments = clock }) (record { from = ended (track_of p3 w.port.number); sink = back; moments = after })
  whole_at w D turns end back first clock p0 p1 p2 p3 is before did behind ran =
      let n = w.port.number in
      let t = ended (track_of p3 n) in
      let numbers : has p2.view.numbers n ≡ true = subst (λ (l : List ℕ). has l n ≡ true) (sym did.later.numbers) is in
      let base : p3.view.base ≡ p0.view.base = behind.base ∙ did.later.base ∙ before.base in
      let begins = prefix_then p0.view.seen p1.view.seen p3.view.seen before.begins (prefix_then p1.view.seen p2.view.seen p3.view.seen did.later.begins behind.begins) in
      let own0 = own_calls (n ∷ []) (opening p0.view.base) p0.view.seen in
      let own1 : own_calls (n ∷ []) (opening p1.view.base) p1.view.seen ≡ own0 = silent_own n p0 p1 before in
      let drained = did.track t (record { has_it = numbers; now = refl; start = sym behind.base; own = sym (silent_own n p2 p3 behind); within = behind.begins }) in
      let wide = rounds_wider p3.view.seen sink w.batch D turns _ _ begins ran in (
        did.after,
        record {
          between = record { from = record t { own = own0 }; sink = w.sink; moments = moments w.clock };
          rounds = subst (λ (o : Opening). Rounds (Turned sink w.batch) (Mended D) turns
              (record { from = record { start = o; whole = p3.view.seen; number = n; own = [] }; sink = first; moments = clock })
              (record { from = record { start = o; whole = p3.view.seen; number = n; own = own0 }; sink = w.sink; moments = moments w.clock })) (sym base) wide;
          drains = subst (λ (own : List Own). Drains (Turned sink w.batch) Looked end (record { from = record t { own = own }; sink = w.sink; moments = moments w.clock }) (record { from = t; sink = back; moments = did.after })) own1 drained.1;
        },
      )

  at_later : (v w : SinkWorker AtHome S C) (old : List Known) (end : ChannelDrain) (back : S) (new : List Known) → IsSinkHome old w → IsDrainedAt sink moments v old end back new → IsSinkHome new w
  at_later v w old end back new at did = sink_goes_on old new (drained_goes_on sink moments v old end back new did) w at

  -- there is a pass at home at this place, and it has this number
  abbrev pub IsAtHome : List Known → ℕ → ℕ → Type 0
  IsAtHome homes place n = (place < length homes) × HasNumber homes place n

  home_later : (v : SinkWorker AtHome S C) (place n : ℕ) (old : List Known) (end : ChannelDrain) (back : S) (new : List Known) → IsAtHome old place n → IsDrainedAt sink moments v old end back new → IsAtHome new place n
  home_later v place n old end back new at did =
      let on = drained_goes_on sink moments v old end back new did in
      (let e = on.as_many in let l = at.0 in omega (arith, e, l), λ d. subst (λ (l : List ℕ). has l n ≡ true) (sym (on.each place d at.0).numbers) (at.1 d))

  -- a sink's draining is silent of another number
  step_silent : (v : SinkWorker AtHome S C) (place n : ℕ) (old : List Known) (end : ChannelDrain) (back : S) (new : List Known) → IsNot place n v
      → IsAtHome old place n → IsDrainedAt sink moments v old end back new → StaysSilent place n old new
  step_silent v place n old end back new other at did = λ d. dite (ℕ_discrete v.channel place)
      (λ same. silent_under n v.port.number (get_or old place d) (get_or new place d) (at.1 d) (other same)
      (subst (λ (k : ℕ). Later (under v.port.number (get_or old k d)) (under v.port.number (get_or new k d))) same (did.home d).later))
      (λ apart. subst (λ (q : Known). IsSilent n (get_or old place d) q) (sym (did.others place d ((λ e. apart (sym e)), tt))) (silent_self n (get_or old place d)))

  -- so are those of several others
  pub rest_silent : (place n : ℕ) (ws : List (SinkWorker AtHome S C)) (old : List Known) (ends : List ChannelDrain) (backs : List S) (new : List Known) → AllByRecursion (IsNot place n) ws
      → IsAtHome old place n → AreDrained (IsDrainedAt sink moments) ws old ends backs new → StaysSilent place n old new
  rest_silent place n [] old [] [] new others at all = λ d. subst (λ (l : List Known). IsSilent n (get_or old place d) (get_or l place d)) (sym all) (silent_self n (get_or old place d))
  rest_silent place n [] old [] (b ∷ backs) new others at all = absurd all
  rest_silent place n [] old (e ∷ ends) backs new others at all = absurd all
  rest_silent place n (v ∷ ws) old [] backs new others at all = absurd all
  rest_silent place n (v ∷ ws) old (e ∷ ends) [] new others at all = absurd all
  rest_silent place n (v ∷ ws) old (e ∷ ends) (b ∷ backs) new others at (mid, one, all) = λ d.
      silent_then n (get_or old place d) (get_or mid place d) (get_or new place d) (step_silent v place n old e b mid others.0 at one d)
      (rest_silent place n ws mid ends backs new others.1 (home_later v place n old e b mid at one) all d)

  -- drainings are silent of each number that is no sink's own
  pub drains_silent : DrainsAreSilent sink moments
  drains_silent place n old new ws ends backs below has_it others all = rest_silent place n ws old ends backs new (recursion_from_All (IsNot place n) ws others) (below, has_it) all

  module _ {A B : Type 0} (shares : List (EitherShared A B)) (homes last : List Known) where
    -- what is known of sinks that are still to be drained
    abbrev pub IsToGo : List Known → SinkWorker AtHome S C → Type 0
    IsToGo old w = IsSinkHome old w × IsSilentAt homes old w

    go_on : (w : SinkWorker AtHome S C) (ws : List (SinkWorker AtHome S C)) (old : List Known) (end : ChannelDrain) (back : S) (mid : List Known) → AllByRecursion (IsOther w) ws
        → AllByRecursion (IsToGo old) ws → IsDrainedAt sink moments w old end back mid → AllByRecursion (IsToGo mid) ws
    go_on w [] old end back mid others go did = tt
    go_on w (v ∷ ws) old end back mid others go did = (
      (
        at_later w v old end back mid go.0.0 did,
        λ d. silent_then v.port.number (get_or homes v.channel d) (get_or old v.channel d) (get_or mid v.channel d) (go.0.1 d)
            (step_silent w v.channel v.port.number old end back mid (λ c k. others.0 (sym c) (sym k)) go.0.0 did d),
      ),
      go_on w ws old end back mid others.1 go.1 did,
    )

    one_whole : (job : SinkWorker Known S C) (w : SinkWorker AtHome S C) (old : List Known) (end : ChannelDrain) (back : S) (mid : List Known) → IsSinkTold sink moments shares homes job w
        → IsToGo old w → IsDrainedAt sink moments w old end back mid → IsSilentAt mid last w → IsSinkWhole sink moments shares last job end back
    one_whole job w old end back mid told go did behind = record {
      turns = told.turns;
      calls = λ share home.
          subst (λ (x : ℕ × ℕ × ℕ). (after : Option (ℕ → ℕ)) × WorkedAndDrained sink x.2 (IsDisk (get_or shares x.0 share)) told.turns end
          (record { from = track_of (get_or last x.0 home) x.1; sink = job.sink; moments = moments job.clock }) (record { from = ended (track_of (get_or last x.0 home) x.1); sink = back; moments = after }))
          (λ i. (told.channel i, told.number i, told.batch i))
          (whole_at w (IsDisk (get_or shares w.channel share)) told.turns end back job.sink (moments job.clock) (get_or homes w.channel home) (get_or old w.channel home) (get_or mid w.channel home) (get_or last w.channel home)
          (go.0.1 home) (go.1 home) (did.home home) (behind home)
          (subst (λ (x : ℕ × ℕ × ℕ). Rounds (Turned sink x.2) (Mended (IsDisk (get_or shares x.0 share))) told.turns
          (record { from = track_of (get_or homes x.0 home) x.1; sink = job.sink; moments = moments job.clock }) (record { from = ended (track_of (get_or homes x.0 home) x.1); sink = w.sink; moments = moments w.clock }))
          (λ i. (sym told.channel i, sym told.number i, sym told.batch i)) (told.rounds share home)));
    }

    all_whole : (jobs : List (SinkWorker Known S C)) (ws : List (SinkWorker AtHome S C)) (old : List Known) (ends : List ChannelDrain) (backs : List S) (drained : List Known)
        → Zips (IsSinkTold sink moments shares homes) jobs ws → AllByRecursion (IsToGo old) ws → AreOthers ws → AreDrained (IsDrainedAt sink moments) ws old ends backs drained
        → AllByRecursion (IsSilentAt drained last) ws → AreBeside (IsSinkWhole sink moments shares last) jobs ends backs
    all_whole [] [] old [] [] drained told go others all behind = tt
    all_whole [] [] old [] (b ∷ backs) drained told go others all behind = absurd all
    all_whole [] [] old (e ∷ ends) backs drained told go others all behind = absurd all
    all_whole [] (w ∷ ws) old ends backs drained told go others all behind = absurd told
    all_whole (job ∷ jobs) [] old ends backs drained told go others all behind = absurd told
    all_whole (job ∷ jobs) (w ∷ ws) old [] backs drained told go others all behind = absurd all
    all_whole (job ∷ jobs) (w ∷ ws) old (e ∷ ends) [] drained told go others all behind = absurd all
    all_whole (job ∷ jobs) (w ∷ ws) old (e ∷ ends) (b ∷ backs) drained told go others (mid, one, all) behind = (
      one_whole job w old e b mid told.0 go.0 one
          (λ d. silent_then w.port.number (get_or mid w.channel d) (get_or drained w.channel d) (get_or last w.channel d)
          (rest_silent w.channel w.port.number ws mid ends backs drained others.0 (at_later w w old e b mid go.0.0 one) all d) (behind.0 d)),
      all_whole jobs ws mid ends backs drained told.1 (go_on w ws old e b mid others.0 go.1 one) others.1 all behind.1,
    )

    to_go : (ws : List (SinkWorker AtHome S C)) → AllByRecursion (IsSinkHome homes) ws → AllByRecursion (IsToGo homes) ws
    to_go [] at = tt
    to_go (w ∷ ws) at = ((at.0, λ d. silent_self w.port.number (get_or homes w.channel d)), to_go ws at.1)

  -- sinks with their rounds and drainings are told of in each longer history that has no other call of their numbers
  pub sinks_whole : (A B : Type 0) → SinksAreWhole A B sink moments
  sinks_whole A B shares homes drained last jobs workers ends backs told at others all behind =
      all_whole shares homes last jobs workers homes ends backs drained told (to_go shares homes last workers (recursion_from_All (IsSinkHome homes) workers at)) others all (recursion_from_All (IsSilentAt drained last) workers behind)

  module _ {A B : Type 0} (shares : List (EitherShared A B)) (homes : List Known) where
    other_one : (job : SinkWorker Known S C) (w : SinkWorker AtHome S C) → IsSinkTold sink moments shares homes job w → (jobs : List (SinkWorker Known S C)) (ws : List (SinkWorker AtHome S C))
        → Zips (IsSinkTold sink moments shares homes) jobs ws → AllByRecursion (λ (o : SinkWorker Known S C). o.channel ≡ job.channel → o.port.number ≡ job.port.number → ⊥) jobs → AllByRecursion (IsOther w) ws
    other_one job w is [] [] told others = tt
    other_one job w is [] (v ∷ ws) told others = absurd told
    other_one job w is (j ∷ jobs) [] told others = absurd told
    other_one job w is (j ∷ jobs) (v ∷ ws) told others =
        (λ c n. others.0 (sym told.0.channel ∙ c ∙ is.channel) (sym told.0.number ∙ n ∙ is.number), other_one job w is jobs ws told.1 others.1)

    all_other : (jobs : List (SinkWorker Known S C)) (ws : List (SinkWorker AtHome S C)) → Zips (IsSinkTold sink moments shares homes) jobs ws → AreOtherJobs jobs → AreOthers ws
    all_other [] [] told others = tt
    all_other [] (w ∷ ws) told others = absurd told
    all_other (job ∷ jobs) [] told others = absurd told
    all_other (job ∷ jobs) (w ∷ ws) told others = (other_one job w told.0 jobs ws told.1 others.0, all_other jobs ws told.1 others.1)

  -- sinks that had not one number in one channel have none after their run
  pub others_stay : (A B : Type 0) → OthersStay A B sink moments
  others_stay A B shares homes jobs workers told others = all_other shares homes jobs workers told others
