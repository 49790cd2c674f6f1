-- What the lines on links are answered where nothing failed.
use Rattle.std.specs.Prelude.{List, [], ◌∷◌, Option, Some, None, Ok, Err}
use Rattle.std.specs.List.{AllByRecursion}
use Rattle.std.proofs.Common.{inl, inr}
use Rattle.flume_host.specs.Links.{LinkTold}
use Rattle.flume_host.specs.Listens.{fresh_from}
use Rattle.selectors.specs.declared.selector.Selector.{Selector}
use Rattle.source_put.specs.Chains.{Meaning}
use Rattle.source_put.specs.Into.{Into}
use Rattle.source_put.specs.declared.chain.HostNames.{HostNames}
use Rattle.netcat_source.specs.Judged.{Judged}
use Rattle.source_worker.specs.Rounds.{Answer, Finds, Found, Round, Rounds, Serving, Session}
use Rattle.source_worker.specs.declared.ends.LinkEnd.{LinkEnd}
use Rattle.source_worker.specs.declared.ends.LinkEnd.TheVariants as ended
use Rattle.source_worker.specs.declared.ends.SessionRules.{SessionRules}
use Rattle.source_worker.specs.declared.ends.SessionRules.TheVariants.{Lines, Avro}
use Rattle.run_tracks.specs.Tracks.{Gave, Track}
use Rattle.sound_lines.specs.Sound.{AreCalled, HasEnded, IsCalm, IsSound}

-- each of these lines has a sound verdict
abbrev pub AreJudgedSoundly : List Track → List Judged → Type 0
AreJudgedSoundly tracks done = AllByRecursion (λ (j : Judged). IsSound tracks j.verdict) done

module _ {B : Type 0} (Means : Meaning B) (selector : Selector) (host : HostNames) where
  -- So has each line of a session on a link. Nothing is said of one of Avro calls.
  abbrev pub IsSoundSession : (rules : SessionRules) (old : Into Track B) (told : Option LinkTold) (end : LinkEnd) (new : Into Track B) (now : Option LinkTold)
      → Session rules Gave selector Means host old told end new now → Type 0
  IsSoundSession (Lines rules) old told (ended.Lines end) new now (inl served) = AreJudgedSoundly old.route.ports served.done
  IsSoundSession (Lines rules) old told (ended.Lines end) new now (inr none) = Unit {0}
  IsSoundSession (Lines rules) old told (ended.Avro end) new now none = Unit {0}
  IsSoundSession Avro old told end new now session = Unit {0}

  module _ (rules : SessionRules) where
    -- so it is of the session of one accept, if there was one
    abbrev pub IsSoundFind : (found : Found) (old new : Serving (Into Track B)) → Finds (Session rules Gave selector Means host) found old new → Type 0
    IsSoundFind (Ok (Some end)) old new (now, kept, session) = IsSoundSession rules old.into (fresh_from old.heard.links) end new.into now session
    IsSoundFind (Ok None) old new none = Unit {0}
    IsSoundFind (Err failed) old new none = Unit {0}

    -- and of each round
    abbrev pub AreSoundRounds : (Mends : Into Track B → List Answer → Into Track B → Type 0) (rounds : List Round) (old new : Serving (Into Track B))
        → Rounds (Session rules Gave selector Means host) Mends rounds old new → Type 0
    AreSoundRounds Mends [] old new none = Unit {0}
    AreSoundRounds Mends (round ∷ rounds) old new (next, one, others) = IsSoundFind round.found old one.between one.serves.finds × AreSoundRounds Mends rounds next new others

-- Where the histories of the channels of a listener's worker are undisturbed, and its calls there are all told of, each line that its
-- links brought has a sound verdict.
abbrev pub LinksAreSound : {B : Type 0} → Meaning B → Type 0
LinksAreSound {B} Means =
    (rules : SessionRules) (selector : Selector) (host : HostNames) (rounds : List Round) (old new : Serving (Into Track B))
    → (ran : Rounds (Session rules Gave selector Means host) AreCalled rounds old new)
    → AllByRecursion IsCalm new.into.route.ports → AllByRecursion HasEnded new.into.route.ports
    → AreSoundRounds Means selector host rules AreCalled rounds old new ran
