-- The lines on links where the histories of their channels are undisturbed.
use Rattle.std.proofs.Common.{inl, inr, ◌∷◌, [], ℕ, List, Option, Some, None, Result, Ok, Err, Bool, true, false, ap, subst}
use Rattle.std.specs.List.{AllByRecursion}
use Rattle.event_core.specs.Content.{Content}
use Rattle.channel_face.specs.declared.replies.FaceRefused.{FaceRefused}
use Rattle.flume_host.specs.Links.{LinkTold}
use Rattle.selectors.specs.declared.selector.Selector.{Selector}
use Rattle.source_put.specs.Chains.{Meaning}
use Rattle.source_put.specs.Into.{Into}
use Rattle.source_put.specs.declared.chain.HostNames.{HostNames}
use Rattle.netcat_source.specs.Into.{TakesAll}
use Rattle.netcat_source.specs.Judged.{Judged}
use Rattle.source_worker.specs.Rounds.{Answer, Finds, Found, MendsIf, Round, Rounds, Serving, Session, is_due}
use Rattle.source_worker.specs.declared.ends.LinkEnd.{LinkEnd}
use Rattle.source_worker.specs.declared.ends.LinkEnd.TheVariants as ended
use Rattle.source_worker.specs.declared.ends.SessionRules.{SessionRules}
use Rattle.source_worker.specs.declared.ends.SessionRules.TheVariants as rule
use Rattle.run_tracks.specs.Places.{Zips}
use Rattle.run_tracks.specs.Told.{IsBehind}
use Rattle.run_tracks.specs.Tracks.{Gave, Track}
use Rattle.run_tracks.proofs.Staying.{serves_stay}
use Rattle.run_tracks.proofs.Tracking.{behind_then}
use Rattle.sound_lines.specs.Links.{AreJudgedSoundly, AreSoundRounds, IsSoundFind, IsSoundSession, LinksAreSound}
use Rattle.sound_lines.specs.Sound.{AreCalled, HasEnded, IsCalm}
use Rattle.sound_lines.proofs.Lines.{AllRun, Line, Rows, Runs, all_run, called, line_sound, rows_none, runs_before, sound_behind}

-- where the later track runs, so does the earlier one
abbrev pub RunsBack : Track → Track → Type 0
RunsBack t u = Runs u → Runs t

self : (t : Track) → RunsBack t t
self t runs = runs

trans : (t u v : Track) → RunsBack t u → RunsBack u v → RunsBack t v
trans t u v f g runs = f (g runs)

gave_back : (t u : Track) (events : List Content) (result : Result ℕ FaceRefused) → Gave t u events result → RunsBack t u
gave_back t u events result (more, calls, batch) = runs_before t u more calls

all_back : (ts us : List Track) → Zips RunsBack ts us → AllRun us → AllRun ts
all_back [] [] back runs = tt
all_back [] (u ∷ us) back runs = absurd back
all_back (t ∷ ts) [] back runs = absurd back
all_back (t ∷ ts) (u ∷ us) back runs = (back.0 runs.0, all_back ts us back.1 runs.1)

module _ {B : Type 0} (Means : Meaning B) (selector : Selector) (host : HostNames) where
  judged_behind : (ts us : List Track) (done : List Judged) → Zips IsBehind ts us → AreJudgedSoundly us done → AreJudgedSoundly ts done
  judged_behind ts us [] zips all = tt
  judged_behind ts us (j ∷ done) zips all = (sound_behind Means selector host ts us j.verdict zips all.0, judged_behind ts us done zips all.1)

  judged : (done : List Judged) (old new : Into Track B) → AllRun new.route.ports → TakesAll (Line Means selector host) old done new → Rows old.route.ports new.route.ports (AreJudgedSoundly old.route.ports done)
  judged [] old new r same = rows_none old.route.ports new.route.ports (Unit {0}) (ap (λ (x : Into Track B). x.route.ports) same) r tt
  judged (j ∷ done) old new r (next, one, others) =
      let rest = judged done next new r others in
      let first = line_sound Means selector host old next j.line j.verdict rest.runs one in
      record {
        runs = first.runs;
        behind = behind_then old.route.ports next.route.ports new.route.ports first.behind rest.behind;
        is = (first.is, judged_behind old.route.ports next.route.ports done first.behind rest.is);
      }

  session_sound : (rules : SessionRules) (old : Into Track B) (told : Option LinkTold) (end : LinkEnd) (new : Into Track B) (now : Option LinkTold) → AllRun new.route.ports
      → (s : Session rules Gave selector Means host old told end new now) → IsSoundSession Means selector host rules old told end new now s
  session_sound (rule.Lines rules) old told (ended.Lines end) new now r (inl served) = (judged served.done old new r served.takes).is
  session_sound (rule.Lines rules) old told (ended.Lines end) new now r (inr none) = tt
  session_sound (rule.Lines rules) old told (ended.Avro end) new now r none = tt
  session_sound rule.Avro old told end new now r s = tt

  module _ (rules : SessionRules) where
    find_sound : (found : Found) (old new : Serving (Into Track B)) → AllRun new.into.route.ports → (f : Finds (Session rules Gave selector Means host) found old new) → IsSoundFind Means selector host rules found old new f
    find_sound (Ok (Some end)) old new r (now, kept, s) = session_sound rules old.into _ end new.into now r s
    find_sound (Ok None) old new r none = tt
    find_sound (Err failed) old new r none = tt

    module _ (Mends : Into Track B → List Answer → Into Track B → Type 0) (calls : (a : Into Track B) (answers : List Answer) (b : Into Track B) → Mends a answers b → AreCalled a answers b) where
      mended_runs : (due : Bool) (a b : Into Track B) (answers : List Answer) → AllRun b.route.ports → MendsIf (Session rules Gave selector Means host) Mends due a answers b → AllRun a.route.ports
      mended_runs true a b answers r is = (called Means selector host a.route.ports b.route.ports r (calls a answers b is)).runs
      mended_runs false a b answers r is = subst (λ (x : Into Track B). AllRun x.route.ports) is.1 r

      -- what is so of rounds, by the tracks before them
      record Ran (rounds : List Round) (old new : Serving (Into Track B)) (ran : Rounds (Session rules Gave selector Means host) Mends rounds old new) : Type 0 where
        runs : AllRun old.into.route.ports
        sound : AreSoundRounds Means selector host rules Mends rounds old new ran

      rounds_run : (rounds : List Round) (old new : Serving (Into Track B)) → AllRun new.into.route.ports → (ran : Rounds (Session rules Gave selector Means host) Mends rounds old new) → Ran rounds old new ran
      rounds_run [] old new r same = record { runs = subst (λ (x : Serving (Into Track B)). AllRun x.into.route.ports) same r; sound = tt }
      rounds_run (round ∷ rounds) old new r (next, one, others) =
          let rest = rounds_run rounds next new r others in
          let mid = mended_runs (is_due old.due round.found) one.between.into next.into round.mends rest.runs one.mends in
          record {
            runs = all_back old.into.route.ports one.between.into.route.ports (serves_stay RunsBack self trans Gave gave_back Means selector host rules round.found old one.between one.serves) mid;
            sound = (find_sound round.found old one.between mid one.serves.finds, rest.sound);
          }

      -- each line of a listener's rounds has a sound verdict where nothing failed in its channels
      pub rounds_sound : (rounds : List Round) (old new : Serving (Into Track B)) → (ran : Rounds (Session rules Gave selector Means host) Mends rounds old new)
          → AllByRecursion IsCalm new.into.route.ports → AllByRecursion HasEnded new.into.route.ports → AreSoundRounds Means selector host rules Mends rounds old new ran
      rounds_sound rounds old new ran calm ended = (rounds_run rounds old new (all_run new.into.route.ports calm ended) ran).sound

-- each line that links brought has a sound verdict where nothing failed
pub links_are_sound : {B : Type 0} (Means : Meaning B) → LinksAreSound Means
links_are_sound Means rules selector host rounds old new ran calm ended =
    rounds_sound Means selector host rules AreCalled (λ a answers b is. is) rounds old new ran calm ended
