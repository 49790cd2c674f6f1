-- What a listener's worker did, in the whole histories of its channels.
use Rattle.std.specs.Prelude.{◌≡◌, ℕ, zero, suc, List, [], ◌∷◌, length, map, slice_index_or}
use Rattle.std.specs.List.{AllByRecursion}
use Rattle.channel_face.specs.Faces.{Own}
use Rattle.channel_face.specs.Keeps.{IsMend}
use Rattle.channel_face.specs.Machine.{State}
use Rattle.selectors.specs.declared.selector.Selector.{Selector}
use Rattle.shared_channel.specs.Passes.{Known}
use Rattle.shared_channel.specs.Ports.{AreOwned}
use Rattle.source_put.specs.Chains.{Meaning}
use Rattle.source_put.specs.Into.{Into}
use Rattle.source_put.specs.declared.chain.HostNames.{HostNames}
use Rattle.source_worker.specs.Rounds.{Answer, MendsInto, MendsPort, Round, Rounds, Serving, Session}
use Rattle.source_worker.specs.declared.ends.SessionRules.{SessionRules}
use Rattle.run_tracks.specs.Places.{TookEach, Zips}
use Rattle.run_tracks.specs.Told.{IsBehind, IsNew, Matches, PortPuts}
use Rattle.run_tracks.specs.Tracks.{Calls, Gave, Stood, Track, ended, track_of}

-- its next calls were a mend of the channel, which is on a disk where OnDisk holds
abbrev pub MendedPort : Type 0 → Track → Answer → Track → Type 0
MendedPort OnDisk old answer new =
    (more : List Own) × Calls old new more × IsMend OnDisk (Stood old) (length old.whole) answer old.own more

-- a mend of each channel, in order; OnDisk says by place which of them are on a disk
abbrev pub MendedEach : (ℕ → Type 0) → List Track → List Answer → List Track → Type 0
MendedEach OnDisk [] [] [] = Unit {0}
MendedEach OnDisk (old ∷ olds) (answer ∷ answers) (new ∷ news) =
    MendedPort (OnDisk 0) old answer new × MendedEach (λ place. OnDisk (suc place)) olds answers news
MendedEach OnDisk olds answers news = ⊥

-- the channels where events go
abbrev pub MendedInto : (ℕ → Type 0) → {B : Type 0} → Into Track B → List Answer → Into Track B → Type 0
MendedInto OnDisk old answers new =
    (new.moments ≡ old.moments) × (new.route.links ≡ old.route.links) × MendedEach OnDisk old.route.ports answers new.route.ports

-- the port at this place is on a disk
abbrev pub IsDiskAt : {F : Type 0} → (F → Type 0) → List F → ℕ → Type 0
IsDiskAt on_disk [] place = ⊥
IsDiskAt on_disk (port ∷ ports) zero = on_disk port
IsDiskAt on_disk (port ∷ ports) (suc place) = IsDiskAt on_disk ports place

-- with these tracks for the ports
abbrev pub along : {F B : Type 0} → List Track → Into F B → Into Track B
along tracks into = record { route = record { links = into.route.links; ports = tracks }; moments = into.moments }

abbrev pub serving_along : {F B : Type 0} → List Track → Serving (Into F B) → Serving (Into Track B)
serving_along tracks s = record { into = along tracks s.into; heard = s.heard; due = s.due }

-- for each of new ports, of the channel at its place, the track of its number in what the pass at home has seen
abbrev pub home_tracks : {F : Type 0} → (F → Known) → List Known → List ℕ → List F → List Track
home_tracks pass homes [] ports = []
home_tracks pass homes (place ∷ places) [] = []
home_tracks pass homes (place ∷ places) (port ∷ ports) =
    track_of (slice_index_or homes place (pass port)) (pass port).number ∷ home_tracks pass homes places ports

module _ {F : Type 0} (pass : F → Known) (saw : F → List Own → State → Type 0) (kept : F → F → Type 0) where
  -- a mend through a port with this pass
  abbrev pub PortMends : (F → Type 0) → F → Answer → F → Type 0
  PortMends = MendsPort (λ p. AreOwned (pass p).view) saw (λ p. length (pass p).view.seen) kept

  -- Rounds that a listener's worker made through its ports are in their tracks: where these stand at the tracks after them, there
  -- are tracks before them that differ in their own calls alone, and the rounds, each batch and the mends, are from the
  -- ones to the others.
  abbrev pub ListenedInTracks : (F → Type 0) → {B : Type 0} → Meaning B → Type 0
  ListenedInTracks on_disk {B} Means =
      (rules : SessionRules) (selector : Selector) (host : HostNames) (rounds : List Round) (old new : Serving (Into F B)) (after : List Track)
      → Zips (λ port t. Matches (pass port) t) new.into.route.ports after
      → Rounds (Session rules (PortPuts pass saw kept) selector Means host) (MendsInto (PortMends on_disk)) rounds old new
      → (before : List Track) × Zips (λ port t. Matches (pass port) t) old.into.route.ports before × Zips IsBehind before after
      × Rounds (Session rules Gave selector Means host) (MendedInto (IsDiskAt on_disk old.into.route.ports)) rounds
      (serving_along before old) (serving_along after new)

  -- Of new ports they are, once their passes are at home, all calls with their numbers in the whole histories.
  abbrev pub ListenedHome : (F → Type 0) → {B : Type 0} → Meaning B → Type 0
  ListenedHome on_disk {B} Means =
      (rules : SessionRules) (selector : Selector) (host : HostNames) (rounds : List Round) (old new : Serving (Into F B))
      (homes : List Known) (channels : List ℕ)
      → AllByRecursion (λ port. IsNew (pass port)) old.into.route.ports → TookEach homes pass channels new.into.route.ports
      → Rounds (Session rules (PortPuts pass saw kept) selector Means host) (MendsInto (PortMends on_disk)) rounds old new
      → let tracks = home_tracks pass homes channels old.into.route.ports in
      Rounds (Session rules Gave selector Means host) (MendedInto (IsDiskAt on_disk old.into.route.ports)) rounds
      (serving_along tracks old) (serving_along (map ended tracks) new)
