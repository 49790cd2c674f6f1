-- What is known of a worker once all passes are joined.
use Rattle.std.specs.Prelude.{◌≡◌, ℕ, List, [], ◌∷◌, length}
use mathlib.Core.List.{IsPrefix}
use Rattle.event_core.specs.Content.{Content}
use Rattle.channel_face.specs.Faces.{Own}
use Rattle.channel_face.specs.Machine.{State}
use Rattle.selectors.specs.declared.selector.Selector.{Selector}
use Rattle.shared_channel.specs.Calls.{state_seen}
use Rattle.shared_channel.specs.Passes.{Known}
use Rattle.shared_channel.specs.Ports.{AreOwned, Later, owned}
use Rattle.sink_runner.specs.declared.turn.Turn.{Turn}
use Rattle.sink_worker.specs.Rounds.{Face, MendsOnce, Rounds, Taking, Told, TurnsOnce, face}
use Rattle.source_put.specs.Chains.{Meaning}
use Rattle.source_put.specs.Routes.{Accepts, Route}
use Rattle.source_put.specs.Tries.{Giving, Puts}
use Rattle.source_put.specs.declared.chain.HostNames.{HostNames}
use Rattle.source_put.specs.declared.intake.Verdict.{Verdict}
use Rattle.run_tracks.specs.Homes.{Took}
use Rattle.run_tracks.specs.Places.{Zips}
use Rattle.run_tracks.specs.Tracks.{Gave, Mended, Track, Turned, ended, track_of}

-- what a face saw is of its pass, and after some calls it has the same pass, later
pub record IsFace {F : Type 0} (pass : F → Known) (saw : F → List Own → State → Type 0) (kept : F → F → Type 0) : Type 0 where
  pub saws : (q : F) (own : List Own) (s : State) → saw q own s → (owned (pass q).view ≡ own) × (state_seen (pass q).view ≡ s)
  pub laters : (p q : F) → kept p q → Later (pass p) (pass q)

-- a pass is where a track is
pub record Matches (q : Known) (t : Track) : Type 0 where
  pub numbers : q.view.numbers ≡ t.number ∷ []
  pub start : q.view.base ≡ t.start
  pub own : owned q.view ≡ t.own
  pub within : IsPrefix q.view.seen t.whole

-- a pass with one number that has made no call
abbrev pub IsNew : Known → Type 0
IsNew pass = (pass.view.numbers ≡ pass.number ∷ []) × (owned pass.view ≡ [])

-- a track that differs in its own calls alone
abbrev pub IsBehind : Track → Track → Type 0
IsBehind u t = u ≡ record t { own = u.own }

-- after some calls it is on a disk exactly where it was
abbrev pub IsSteady : {F : Type 0} → (F → F → Type 0) → (F → Type 0) → Type 0
IsSteady {F} kept on_disk = (p q : F) → kept p q → (on_disk p → on_disk q) × (on_disk q → on_disk p)

-- the rounds of a sink by what its port says of itself
abbrev pub FaceRounds : {F : Type 0} → Face F → (F → Type 0) → {S : Type 0} → Told S → ℕ → List Turn → Taking F S → Taking F S → Type 0
FaceRounds face on_disk sink batch = Rounds (TurnsOnce face sink batch) (MendsOnce face on_disk)

module _ {F : Type 0} (pass : F → Known) (saw : F → List Own → State → Type 0) (kept : F → F → Type 0) where
  -- a put through a port with this pass
  abbrev pub PortPuts : Giving F
  PortPuts = Puts (λ p. AreOwned (pass p).view) saw (λ p. length (pass p).view.seen) kept

  -- what a port with this pass says of itself
  abbrev pub as_face : Face F
  as_face = face (λ p. AreOwned (pass p).view) saw (λ p. length (pass p).view.seen) kept

  -- Rounds that a sink made through a port are in each track at which its pass is: there they are all calls since the track
  -- before, in order and no others.
  abbrev pub RoundsAreInTrack : (F → Type 0) → {S : Type 0} → Told S → Type 0
  RoundsAreInTrack on_disk {S} sink =
      (batch : ℕ) (turns : List Turn) (old new : Taking F S) (t : Track)
      → Matches (pass new.from) t → FaceRounds as_face on_disk sink batch turns old new
      → let before = record t { own = owned (pass old.from).view } in
      Matches (pass old.from) before
      × Rounds (Turned sink batch) (Mended (on_disk old.from)) turns
      (record { from = before; sink = old.sink; moments = old.moments })
      (record { from = t; sink = new.sink; moments = new.moments })

  -- Of a new pass they are, once it is at home, all calls with its number in the whole history.
  abbrev pub RoundsAreHome : (F → Type 0) → {S : Type 0} → Told S → Type 0
  RoundsAreHome on_disk {S} sink =
      (batch : ℕ) (turns : List Turn) (old new : Taking F S) (home : Known)
      → IsNew (pass old.from) → Took home (pass new.from) → FaceRounds as_face on_disk sink batch turns old new
      → let track = track_of home (pass old.from).number in
      Rounds (Turned sink batch) (Mended (on_disk old.from)) turns
      (record { from = track; sink = old.sink; moments = old.moments })
      (record { from = ended track; sink = new.sink; moments = new.moments })

  -- A batch that a source put through its ports is in their tracks: where these stand at the tracks after it, there are tracks
  -- before it that differ in their own calls alone, and the batch was accepted from the ones to the others.
  abbrev pub BatchIsInTracks : {B : Type 0} → Meaning B → Type 0
  BatchIsInTracks {B} Means =
      (selector : Selector) (host : HostNames) (moment : ℕ) (old new : Route F B) (batch : List Content) (verdict : Verdict) (after : List Track)
      → Zips (λ port t. Matches (pass port) t) new.ports after
      → Accepts PortPuts selector Means moment host old batch verdict new
      → (before : List Track) × Zips (λ port t. Matches (pass port) t) old.ports before × Zips IsBehind before after
      × Accepts Gave selector Means moment host (record { links = old.links; ports = before }) batch verdict (record { links = new.links; ports = after })
