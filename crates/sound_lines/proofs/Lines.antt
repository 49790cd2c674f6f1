-- The verdict on a line where the histories of its channels are undisturbed.
use Rattle.std.proofs.Common.{◌⊎◌, inl, inr, ◌≡◌, ◌<◌, ◌+◌, ◌++◌, ◌∷◌, [], ℕ, zero, suc, List, length, filter, Option, Some, None, Result, Ok, Err, Bool, true, false, cond, refl, sym, ◌∙◌, ap, subst, append_assoc, arith}
use Rattle.std.proofs.lemmas.List.{append-nil}
use Rattle.std.specs.List.{AllByRecursion}
use Rattle.event_core.specs.Content.{Content}
use Rattle.event_core.specs.Journal.{is_among}
use Rattle.channel_face.specs.Faces.{Own, IsPutBatch}
use Rattle.channel_face.specs.History.{opening}
use Rattle.channel_face.specs.declared.replies.BeginRefused.TheVariants as begin
use Rattle.channel_face.specs.declared.replies.PutRefused.TheVariants as put
use Rattle.channel_face.specs.declared.replies.FaceRefused.{FaceRefused}
use Rattle.channel_face.specs.declared.replies.FaceRefused.TheVariants.{Begin, Put, Take, Stage, InDoubt}
use Rattle.shared_channel.specs.Ports.{own_calls}
use Rattle.selectors.specs.Choices.{required, optional}
use Rattle.selectors.specs.declared.selector.Selector.{Selector}
use Rattle.source_put.specs.Accepts.{Gives, Judges, events_for, is_want, verdict_of}
use Rattle.source_put.specs.Chains.{GoesOn, Intercepts, IfWent, IsMadeOrNot, Links, Meaning, Outcome, Passes, behind, passed_by}
use Rattle.regex_steps.specs.Steps.{ran, step as step_of}
use Rattle.source_put.specs.Into.{Into}
use Rattle.source_put.specs.Tries.{Ends, Follows, Offers, Requires, Tries, answer}
use Rattle.source_put.specs.declared.chain.ChainLink.{ChainLink}
use Rattle.source_put.specs.declared.chain.ChainLink.TheVariants as links
use Rattle.source_put.specs.declared.chain.HostNames.{HostNames}
use Rattle.source_put.specs.declared.chain.Passed.{Passed}
use Rattle.source_put.specs.declared.chain.Passed.TheVariants.{Event, Dropped, TooLarge as IsTooLarge, NoMemory as Wants}
use Rattle.source_put.specs.declared.chain.Stopped.TheVariants as stop
use Rattle.source_put.specs.declared.intake.Verdict.{Verdict}
use Rattle.source_put.specs.declared.intake.Verdict.TheVariants.{Taken, Refused, TooLarge, NoMemory}
use Rattle.source_put.specs.declared.put.Refusal.{Refusal}
use Rattle.plug_in.specs.declared.step.Intercepted.{Intercepted}
use Rattle.plug_in.specs.declared.step.Intercepted.TheVariants as gives
use Rattle.netcat_source.specs.Into.{TakesLine}
use Rattle.netcat_source.specs.Judged.{event_of}
use Rattle.netcat_source.specs.declared.lines.LineVerdict.{LineVerdict}
use Rattle.line_session.specs.Handled.{Handled, TakesAll}
use Rattle.line_worker.specs.Turns.{Feeding, MendsWhere, TakesTurn, is_due}
use Rattle.source_worker.specs.Rounds.{Answer, any_refused}
use Rattle.run_tracks.specs.Listening.{MendedEach}
use Rattle.run_tracks.specs.Places.{Zips}
use Rattle.run_tracks.specs.Told.{IsBehind}
use Rattle.run_tracks.specs.Tracks.{Calls, Gave, Stood, Track}
use Rattle.run_tracks.proofs.Tracking.{behind_self, behind_then}
use Rattle.sound_lines.specs.Limits.{IsForLimit}
use Rattle.sound_lines.specs.Laws.{LineIsSound, LinesAreSound}
use Rattle.sound_lines.specs.Sound.{AreCalled, AreSound, AtPlace, HasEnded, IsCalled, IsCalm, IsSound}
use Rattle.sound_lines.proofs.Batches.{IsFine, batch_fine}

-- ---- tracks

-- The track's own calls so far are the first of all calls with its number, in an undisturbed history.
pub record Runs (t : Track) : Type 0 where
  pub calm : IsCalm t
  pub later : List Own
  pub all : own_calls (t.number ∷ []) (opening t.start) t.whole ≡ t.own ++ later

-- a track with all its calls made, in an undisturbed history, is a front of that history's own calls
pub runs_ended : (t : Track) → IsCalm t → HasEnded t → Runs t
runs_ended t calm ended = record { calm = calm; later = []; all = sym ended ∙ sym (append-nil t.own) }

-- so it is before some of them
pub runs_before : (t u : Track) (more : List Own) → Calls t u more → Runs u → Runs t
runs_before t u more is r =
    let s : Runs (record t { own = t.own ++ more }) = subst Runs is r in
    record { calm = s.calm; later = more ++ s.later; all = s.all ∙ append_assoc t.own more s.later }

behind_calls : (t u : Track) (more : List Own) → Calls t u more → IsBehind t u
behind_calls t u more is = ap (λ (x : Track). record x { own = t.own }) (sym is)

abbrev pub AllRun : List Track → Type 0
AllRun ts = AllByRecursion Runs ts

-- the track's channel refuses for a limit
abbrev pub RefusesFor : FaceRefused → Track → Type 0
RefusesFor cause t = IsForLimit t.start t.whole t.number cause

-- a channel that refuses for a limit does so by each track of the same histories
pub at_behind : (cause : FaceRefused) (ts us : List Track) (place : ℕ) → Zips IsBehind ts us → AtPlace (RefusesFor cause) us place → AtPlace (RefusesFor cause) ts place
at_behind cause [] us place zips is = from us zips is
  where
    from : (us : List Track) → Zips IsBehind [] us → AtPlace (RefusesFor cause) us place → ⊥
    from [] zips is = is
    from (u ∷ us) zips is = zips
at_behind cause (t ∷ ts) [] place zips is = absurd zips
at_behind cause (t ∷ ts) (u ∷ us) zero zips is = subst (RefusesFor cause) (sym zips.0) is
at_behind cause (t ∷ ts) (u ∷ us) (suc place) zips is = at_behind cause ts us place zips.1 is

-- ---- what one channel answers

-- it takes the batch, or lacks memory, or a limit is met
abbrev pub IsFor : Track → Result (Unit {0}) FaceRefused → Type 0
IsFor t (Ok done) = Unit {0}
IsFor t (Err cause) = (is_want cause ≡ true) ⊎ RefusesFor cause t

-- before some calls, of which P is true
pub record Before (t u : Track) (P : Type 0) : Type 0 where
  pub runs : Runs t
  pub behind : IsBehind t u
  pub is : P

fine_for : (t : Track) (calm : IsCalm t) (result : Result ℕ FaceRefused) → IsFine t.start t.whole calm t.number result → IsFor t (answer result)
fine_for t calm (Ok n) is = tt
fine_for t calm (Err (Begin begin.NoMemory)) is = inl refl
fine_for t calm (Err (Begin begin.Broken)) is = inr is
fine_for t calm (Err (Begin (begin.TooManyOpen held))) is = inr is
fine_for t calm (Err (Begin (begin.Spent counter))) is = inr is
fine_for t calm (Err (Put put.NoMemory)) is = inl refl
fine_for t calm (Err (Put put.Stale)) is = inr is
fine_for t calm (Err (Put put.Broken)) is = inr is
fine_for t calm (Err (Put (put.Spent counter))) is = inr is
fine_for t calm (Err (Put (put.TxnFull many))) is = inr is
fine_for t calm (Err (Put (put.TooLarge size))) is = inr is
fine_for t calm (Err (Put (put.Full many))) is = inr is
fine_for t calm (Err (Put put.DiskFault)) is = inr is
fine_for t calm (Err (Take cause)) is = inr is
fine_for t calm (Err (Stage cause)) is = inr is
fine_for t calm (Err InDoubt) is = inr is

-- there is one event, or none
abbrev pub IsAtMostOne : List Content → Type 0
IsAtMostOne [] = Unit {0}
IsAtMostOne (event ∷ events) = events ≡ []

tries_one : (events : List Content) (t u : Track) (reply : Result (Unit {0}) FaceRefused) → IsAtMostOne events → Runs u → Tries Gave events t u reply → Before t u (IsFor t reply)
tries_one [] t u reply one r (is, same) = record { runs = subst Runs same r; behind = ap (λ (x : Track). record x { own = t.own }) (sym same); is = subst (IsFor t) (sym is) tt }
tries_one (event ∷ events) t u reply one r (result, (more, calls, batch), is) =
    let runs = runs_before t u more calls r in
    let s : Runs (record t { own = t.own ++ more }) = subst Runs calls r in
    let fine : IsFine t.start t.whole runs.calm t.number result =
    batch_fine t.start t.whole runs.calm t.number event result t.own more s.later (s.all ∙ append_assoc t.own more s.later) (subst (λ (es : List Content). IsPutBatch (Stood t) (length t.whole) (event ∷ es) result t.own more) one batch) in
    record { runs = runs; behind = behind_calls t u more calls; is = subst (IsFor t) (sym is) (fine_for t runs.calm result fine) }

-- ---- what several channels answer

-- the tracks before some calls, of which P is true
pub record Rows (ts us : List Track) (P : Type 0) : Type 0 where
  pub runs : AllRun ts
  pub behind : Zips IsBehind ts us
  pub is : P

-- where nothing was called, the tracks are as before
pub rows_none : (ts us : List Track) (P : Type 0) → us ≡ ts → AllRun us → P → Rows ts us P
rows_none ts us P same r is = record { runs = subst AllRun same r; behind = subst (λ (l : List Track). Zips IsBehind ts l) (sym same) (behind_self ts); is = is }

rows_as : (ts us : List Track) (P Q : Type 0) → Rows ts us P → (P → Q) → Rows ts us Q
rows_as ts us P Q r f = record { runs = r.runs; behind = r.behind; is = f r.is }

-- the refusal that names a channel from a place on, among these tracks
abbrev pub IsRefusal : ℕ → List Track → Option Refusal → Type 0
IsRefusal place ts None = Unit {0}
IsRefusal place ts (Some r) = (is_want r.cause ≡ true) ⊎ ((i : ℕ) × (r.channel ≡ place + i) × AtPlace (RefusesFor r.cause) ts i)

refusal_first : (place : ℕ) (cause : FaceRefused) (t : Track) (ts : List Track) → IsFor t (Err cause) → IsRefusal place (t ∷ ts) (Some (record { channel = place; cause = cause }))
refusal_first place cause t ts (inl want) = inl want
refusal_first place cause t ts (inr limit) = inr (0, omega arith, limit)

refusal_later : (place : ℕ) (t : Track) (ts : List Track) (refusal : Option Refusal) → IsRefusal (suc place) ts refusal → IsRefusal place (t ∷ ts) refusal
refusal_later place t ts None is = tt
refusal_later place t ts (Some r) (inl want) = inl want
refusal_later place t ts (Some r) (inr (i, at, limit)) = inr (suc i, omega (arith, at), limit)

module _ (events : ℕ → List Content) (few : (place : ℕ) → IsAtMostOne (events place)) where
  requires : (place : ℕ) (olds : List Track) (refusal : Option Refusal) (news : List Track) → AllRun news → Requires Gave events place olds refusal news → Rows olds news (IsRefusal place olds refusal)
  requires place [] refusal news r (is, none) = rows_none [] news (IsRefusal place [] refusal) none r (subst (IsRefusal place []) (sym is) tt)
  requires place (old ∷ olds) refusal news r (new, others, reply, split, tried, follows) =
      let s : AllRun (new ∷ others) = subst AllRun split r in
      let first = tries_one (events place) old new reply (few place) s.0 tried in
      let rest = follow reply follows first.is s.1 (requires (suc place) olds refusal others s.1) in
      record {
        runs = (first.runs, rest.runs);
        behind = subst (λ (l : List Track). Zips IsBehind (old ∷ olds) l) (sym split) (first.behind, rest.behind);
        is = rest.is;
      }
    where
      follow : (reply : Result (Unit {0}) FaceRefused) → Follows Gave reply place refusal olds others (Requires Gave events (suc place) olds refusal others) → IsFor old reply → AllRun others
          → (Requires Gave events (suc place) olds refusal others → Rows olds others (IsRefusal (suc place) olds refusal)) → Rows olds others (IsRefusal place (old ∷ olds) refusal)
      follow (Ok done) more fine s go = rows_as olds others (IsRefusal (suc place) olds refusal) (IsRefusal place (old ∷ olds) refusal) (go more) (refusal_later place old olds refusal)
      follow (Err cause) (is, same) fine s go = rows_none olds others (IsRefusal place (old ∷ olds) refusal) same s (subst (IsRefusal place (old ∷ olds)) (sym is) (refusal_first place cause old olds fine))

  offers : (place : ℕ) (olds news : List Track) → AllRun news → Offers Gave events place olds news → Rows olds news (Unit {0})
  offers place [] news r none = rows_none [] news (Unit {0}) none r tt
  offers place (old ∷ olds) news r (new, others, reply, split, tried, follows) =
      let s : AllRun (new ∷ others) = subst AllRun split r in
      let first = tries_one (events place) old new reply (few place) s.0 tried in
      let rest = offers (suc place) olds others s.1 follows in
      record { runs = (first.runs, rest.runs); behind = subst (λ (l : List Track). Zips IsBehind (old ∷ olds) l) (sym split) (first.behind, rest.behind); is = tt }

ends : (events : ℕ → List Content) → ((place : ℕ) → IsAtMostOne (events place)) → (refusal : Option Refusal) (olds news : List Track) → AllRun news → Ends Gave refusal events olds news → Rows olds news (Unit {0})
ends events few None olds news r offered = offers events few 0 olds news r offered
ends events few (Some refusal) olds news r same = rows_none olds news (Unit {0}) same r tt

-- at most one event is picked for a channel
few_for : (keep : Content → Bool) (events : List Content) → IsAtMostOne events → IsAtMostOne (filter keep events)
few_for keep [] one = tt
few_for keep (event ∷ events) one = subst (λ (es : List Content). IsAtMostOne (filter keep (event ∷ es))) (sym one) (by_test (keep event))
  where
    by_test : (b : Bool) → IsAtMostOne (cond b (event ∷ []) [])
    by_test true = refl
    by_test false = tt

sound_by : (ts : List Track) (refusal : Option Refusal) → IsRefusal 0 ts refusal → IsSound ts (verdict_of refusal)
sound_by ts None is = tt
sound_by ts (Some r) is = by_want (is_want r.cause) refl is
  where
    tt_ff : true ≡ false → ⊥
    tt_ff is = cc

    by_want : (b : Bool) → is_want r.cause ≡ b → IsRefusal 0 ts (Some r) → IsSound ts (cond b NoMemory (Refused r.channel r.cause))
    by_want true want is = tt
    by_want false want (inl yes_want) = absurd (tt_ff (sym yes_want ∙ want))
    by_want false want (inr (i, at, limit)) = subst (AtPlace (RefusesFor r.cause) ts) (sym (at ∙ omega arith)) limit

gives_sound : (selector : Selector) (events : List Content) (olds news : List Track) (verdict : Verdict) → IsAtMostOne events → AllRun news → Gives Gave selector events olds news verdict → Rows olds news (IsSound olds verdict)
gives_sound selector events olds news verdict one r (refusal, (between, first, last), is) =
    let end = ends (events_for (optional selector) events) (λ place. few_for (λ e. is_among (optional selector e.headers) place) events one) refusal between news r last in
    let begin = requires (events_for (required selector) events) (λ place. few_for (λ e. is_among (required selector e.headers) place) events one) 0 olds refusal between end.runs first in
    record { runs = begin.runs; behind = behind_then olds between news begin.behind end.behind; is = subst (IsSound olds) (sym is) (sound_by olds refusal begin.is) }

-- ---- interceptors

not_event : (size : ℕ) (event : Content) → IsTooLarge size ≡ Event event → ⊥
not_event size event is = cc

same_size : (a b : ℕ) → IsTooLarge a ≡ IsTooLarge b → b ≡ a
same_size a b is = cc

module _ {B : Type 0} (Means : Meaning B) (moment : ℕ) (host : HostNames) where
  made_large : (o : Option Content) (size : ℕ) → IsMadeOrNot o (IsTooLarge size) → 33_554_432 < size
  made_large None size is = absurd is
  made_large (Some made) size is = omega (arith, is.0, is.1)

  not_boxed : (size : ℕ) (answer : Intercepted) → IsTooLarge size ≡ passed_by answer → ⊥
  not_boxed size (gives.Keep event) is = cc
  not_boxed size gives.Dropped is = cc
  not_boxed size gives.NoMemory is = cc

  link_large : (link after : ChainLink B) (event : Content) (size : ℕ) → Links Means moment host link event (IsTooLarge size) after → 33_554_432 < size
  link_large (links.Step step) after event size is = omega (arith, is.0.0, is.0.1)
  link_large (links.Regex built) after event size (next, same, step, made) = made_large (ran (step_of built) event) size made
  link_large (links.Boxed box) after event size (next, same, (said, means, is)) = absurd (not_boxed size said is)

  pass_large : (chain after : List (ChainLink B)) (event : Content) (size : ℕ) → Passes Means moment host chain event (IsTooLarge size) after → 33_554_432 < size
  pass_large [] after event size is = absurd (not_event size event is.0)
  pass_large (link ∷ chain) after event size (made, first, others, links, is, went) = by_made (λ next more. pass_large chain others next size more) made links went
    where
      by_made : ((next : Content) → Passes Means moment host chain next (IsTooLarge size) others → 33_554_432 < size) → (made : Passed) → Links Means moment host link event made first → IfWent made (λ next. Passes Means moment host chain next (IsTooLarge size) others) ((IsTooLarge size ≡ made) × (others ≡ chain)) → 33_554_432 < size
      by_made go (Event next) links went = go next went
      by_made go Dropped links went = absurd (let e = went.0 in cc)
      by_made go (IsTooLarge n) links went = subst (λ (k : ℕ). 33_554_432 < k) (same_size size n went.0) (link_large link first event n links)
      by_made go Wants links went = absurd (let e = went.0 in cc)

  -- what a chain makes of one event: one or none; or that is too large; or there was no memory
  abbrev pub IsMadeOfOne : Outcome → Type 0
  IsMadeOfOne (Ok events) = IsAtMostOne events
  IsMadeOfOne (Err (stop.TooLarge size)) = 33_554_432 < size
  IsMadeOfOne (Err stop.NoMemory) = Unit {0}

  chain_one : (chain after : List (ChainLink B)) (event : Content) (made : Outcome) → Intercepts Means moment host chain (event ∷ []) made after → IsMadeOfOne made
  chain_one chain after event made (passed, next, passes, goes) = by_passed passed passes goes
    where
      by_passed : (passed : Passed) → Passes Means moment host chain event passed next → GoesOn Means moment host passed next made after (λ rest. Intercepts Means moment host next [] rest after) → IsMadeOfOne made
      by_passed (Event one) passes (inl (rest, none, is)) = subst IsMadeOfOne (sym (is ∙ ap (behind one) none.0)) refl
      by_passed (Event one) passes (inr (is, same)) = subst IsMadeOfOne (sym is) tt
      by_passed Dropped passes none = subst IsMadeOfOne (sym none.0) tt
      by_passed (IsTooLarge size) passes (is, same) = subst IsMadeOfOne (sym is) (pass_large chain next event size passes)
      by_passed Wants passes (is, same) = subst IsMadeOfOne (sym is) tt

judged_sound : {B : Type 0} (Means : Meaning B) (moment : ℕ) (host : HostNames) (selector : Selector) (made : Outcome) (olds news : List Track) (verdict : Verdict)
    → IsMadeOfOne Means moment host made → AllRun news → Judges Gave selector made olds news verdict → Rows olds news (IsSound olds verdict)
judged_sound Means moment host selector (Ok events) olds news verdict one r (inl given) = gives_sound selector events olds news verdict one r given
judged_sound Means moment host selector (Ok events) olds news verdict one r (inr (is, same)) = rows_none olds news (IsSound olds verdict) same r (subst (IsSound olds) (sym is) tt)
judged_sound Means moment host selector (Err (stop.TooLarge size)) olds news verdict large r (is, same) = rows_none olds news (IsSound olds verdict) same r (subst (IsSound olds) (sym is) large)
judged_sound Means moment host selector (Err stop.NoMemory) olds news verdict one r (is, same) = rows_none olds news (IsSound olds verdict) same r (subst (IsSound olds) (sym is) tt)

-- ---- lines

module _ {B : Type 0} (Means : Meaning B) (selector : Selector) (host : HostNames) where
  abbrev pub Line : Into Track B → List ℕ → Verdict → Into Track B → Type 0
  Line = TakesLine Gave selector Means host

  -- a line has a sound verdict where the histories of its channels are undisturbed
  pub line_sound : (old new : Into Track B) (line : List ℕ) (verdict : Verdict) → AllRun new.route.ports → Line old line verdict new → Rows old.route.ports new.route.ports (IsSound old.route.ports verdict)
  line_sound old new line verdict r (inl (moment, next, (made, intercepted, judged))) =
      judged_sound Means moment host selector made old.route.ports new.route.ports verdict
      (chain_one Means moment host old.route.links new.route.links (event_of line) made intercepted) r judged
  line_sound old new line verdict r (inr (is, same)) =
      rows_none old.route.ports new.route.ports (IsSound old.route.ports verdict) (ap (λ (x : Into Track B). x.route.ports) same) r (subst (IsSound old.route.ports) (sym is) tt)

  -- where tracks run, those before some calls, whatever these are, run too and are behind them
  pub called : (olds news : List Track) → AllRun news → Zips IsCalled olds news → Rows olds news (Unit {0})
  called [] [] r is = record { runs = tt; behind = tt; is = tt }
  called [] (new ∷ news) r is = absurd is
  called (old ∷ olds) [] r is = absurd is
  called (old ∷ olds) (new ∷ news) r is =
      let rest = called olds news r.1 is.1 in
      record { runs = (runs_before old new is.0.0 is.0.1 r.0, rest.runs); behind = (behind_calls old new is.0.0 is.0.1, rest.behind); is = tt }

  called_where : (due : Bool) (old new : Into Track B) (answers : List Answer) → AllRun new.route.ports → MendsWhere AreCalled due old answers new → Rows old.route.ports new.route.ports (Unit {0})
  called_where true old new answers r is = called old.route.ports new.route.ports r is
  called_where false old new answers r is = rows_none old.route.ports new.route.ports (Unit {0}) (ap (λ (x : Into Track B). x.route.ports) is.1) r tt

  -- a verdict that is sound by later tracks is sound by earlier ones
  pub sound_behind : (ts us : List Track) (verdict : Verdict) → Zips IsBehind ts us → IsSound us verdict → IsSound ts verdict
  sound_behind ts us Taken zips is = tt
  sound_behind ts us (Refused place cause) zips is = at_behind cause ts us place zips is
  sound_behind ts us (TooLarge size) zips is = is
  sound_behind ts us NoMemory zips is = tt

  abbrev pub Turn : Feeding (Into Track B) → List ℕ → LineVerdict → Feeding (Into Track B) → Type 0
  Turn = TakesTurn Line AreCalled

  verdicts_behind : (ts us : List Track) (done : List Handled) (old new : Feeding (Into Track B)) (takes : TakesAll Turn old done new) → Zips IsBehind ts us
      → AreSound Line AreCalled us done old new takes → AreSound Line AreCalled ts done old new takes
  verdicts_behind ts us [] old new none zips all = tt
  verdicts_behind ts us (h ∷ done) old new (next, one, others) zips all = (sound_behind ts us one.verdict zips all.0, verdicts_behind ts us done next new others zips all.1)

  turn_sound : (old new : Feeding (Into Track B)) (line : List ℕ) (said : LineVerdict) → AllRun new.into.route.ports → (turn : Turn old line said new)
      → Rows old.into.route.ports new.into.route.ports (IsSound old.into.route.ports turn.verdict)
  turn_sound old new line said r turn =
      let ts = old.into.route.ports in
      let third = called_where (is_due (any_refused turn.first) turn.verdict) turn.behind new.into turn.last r turn.mends in
      let second = line_sound turn.before turn.behind line turn.verdict third.runs turn.takes in
      let first = called_where old.due old.into turn.before turn.first second.runs turn.again in
      record {
        runs = first.runs;
        behind = behind_then ts turn.before.route.ports new.into.route.ports first.behind (behind_then turn.before.route.ports turn.behind.route.ports new.into.route.ports second.behind third.behind);
        is = sound_behind ts turn.before.route.ports turn.verdict first.behind second.is;
      }

  all_sound : (done : List Handled) (old new : Feeding (Into Track B)) → AllRun new.into.route.ports → (takes : TakesAll Turn old done new)
      → Rows old.into.route.ports new.into.route.ports (AreSound Line AreCalled old.into.route.ports done old new takes)
  all_sound [] old new r same = rows_none old.into.route.ports new.into.route.ports (Unit {0}) (ap (λ (x : Feeding (Into Track B)). x.into.route.ports) same) r tt
  all_sound (h ∷ done) old new r (next, one, others) =
      let rest = all_sound done next new r others in
      let first = turn_sound old next h.line h.verdict rest.runs one in
      record {
        runs = first.runs;
        behind = behind_then old.into.route.ports next.into.route.ports new.into.route.ports first.behind rest.behind;
        is = (first.is, verdicts_behind old.into.route.ports next.into.route.ports done next new others first.behind rest.is);
      }

-- tracks of undisturbed histories, with all their calls made, all run
pub all_run : (ts : List Track) → AllByRecursion IsCalm ts → AllByRecursion HasEnded ts → AllRun ts
all_run [] calm ended = tt
all_run (t ∷ ts) calm ended = (runs_ended t calm.0 ended.0, all_run ts calm.1 ended.1)

-- mends are calls
pub mended_called : (OnDisk : ℕ → Type 0) (olds : List Track) (answers : List Answer) (news : List Track) → MendedEach OnDisk olds answers news → Zips IsCalled olds news
mended_called OnDisk [] [] [] is = tt
mended_called OnDisk [] [] (new ∷ news) is = absurd is
mended_called OnDisk [] (answer ∷ answers) news is = absurd is
mended_called OnDisk (old ∷ olds) [] news is = absurd is
mended_called OnDisk (old ∷ olds) (answer ∷ answers) [] is = absurd is
mended_called OnDisk (old ∷ olds) (answer ∷ answers) (new ∷ news) is = ((is.0.0, is.0.1), mended_called (λ place. OnDisk (suc place)) olds answers news is.1)

-- a line that a source took has a sound verdict where nothing failed in its channels
pub line_is_sound : {B : Type 0} (Means : Meaning B) → LineIsSound Means
line_is_sound Means selector host old new line verdict takes calm ended = (line_sound Means selector host old new line verdict (all_run new.route.ports calm ended) takes).is

-- each line of a session has a sound verdict where nothing failed in its channels
pub lines_are_sound : {B : Type 0} (Means : Meaning B) → LinesAreSound Means
lines_are_sound Means max ack stops selector host old new end session calm ended =
    (all_sound Means selector host session.done old.store new.store (all_run new.store.into.route.ports calm ended) session.takes).is
