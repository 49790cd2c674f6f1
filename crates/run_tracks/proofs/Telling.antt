-- What is known of workers once all passes are joined.
use Rattle.std.proofs.Common.{◌≡◌, ◌∙◌, ◌<◌, ◌⊎◌, inl, inr, List, length, get_or, subst, arith}
use Rattle.channel_face.specs.Faces.{Own}
use Rattle.channel_face.specs.History.{Opening, Step}
use Rattle.shared_channel.specs.Passes.{Known}
use Rattle.channel_face.specs.Machine.{State}
use Rattle.shared_channel.specs.Calls.{state_seen}
use Rattle.shared_channel.specs.Ports.{Later, Saw, owned}
use Rattle.two_channels.specs.Ports.{IsOnDisk, LaterPort, SawIn, pass_of}
use Rattle.two_channels.specs.declared.port.EitherPort.{EitherPort}
use Rattle.two_channels.specs.declared.port.EitherPort.TheVariants.{Disk, Memory}
use Rattle.source_put.specs.Chains.{Meaning}
use Rattle.sink_worker.specs.Rounds.{Rounds, Told}
use Rattle.run_tracks.specs.Dealt.{EveryNumberIsHome, HasNumber, Owner}
use Rattle.run_tracks.specs.Told.{BatchIsInTracks, IsFace, IsSteady, Matches, RoundsAreHome, RoundsAreInTrack}
use Rattle.run_tracks.specs.Tracks.{Mended, Turned, ended, track_of}
use Rattle.run_tracks.proofs.Tracking.{accepts, matches_home, rounds, rounds_later}

module _ {F : Type 0} (pass : F → Known) (saw : F → List Own → State → Type 0) (kept : F → F → Type 0) (face : IsFace pass saw kept) where
  -- rounds that a sink made through a port are in each track at which its pass is
  pub rounds_in_track : (on_disk : F → Type 0) → IsSteady kept on_disk → {S : Type 0} (sink : Told S) → RoundsAreInTrack pass saw kept on_disk sink
  rounds_in_track on_disk steady sink batch turns old new t m ran = rounds pass saw kept face sink batch on_disk steady (on_disk old.from) turns old new t m (λ x. x, λ x. x) ran

  -- rounds through a new pass are all calls with its number, once it is at home
  pub rounds_home : (on_disk : F → Type 0) → IsSteady kept on_disk → {S : Type 0} (sink : Told S) → RoundsAreHome pass saw kept on_disk sink
  rounds_home on_disk steady sink batch turns old new home fresh took ran =
      let n = (pass old.from).number in
      let t = ended (track_of home n) in
      let D = on_disk old.from in
      let later = rounds_later pass saw kept face sink batch on_disk steady D turns old new ran in
      let m : Matches (pass new.from) t = matches_home home (pass new.from) n (later.numbers ∙ fresh.0) took in
      let got = rounds_in_track on_disk steady sink batch turns old new t m ran in
      subst (λ (l : List Own). Rounds (Turned sink batch) (Mended D) turns (record { from = record t { own = l }; sink = old.sink; moments = old.moments }) (record { from = t; sink = new.sink; moments = new.moments })) fresh.1 got.1

  -- a batch that a source put through its ports is in their tracks
  pub batch_in_tracks : {B : Type 0} (Means : Meaning B) → BatchIsInTracks pass saw kept Means
  batch_in_tracks Means selector host moment old new batch verdict after m accepted =
      let before = accepts pass saw kept face Means selector host moment old new batch verdict after m accepted in
      (before.us, before.all, before.behind, before.holds)

-- a port's words
pub port_face : {F : Type 0} (pass : F → Known) {C : Type 0} (stands : C → Opening → List Step → Type 0) → IsFace pass (λ p. Saw stands (pass p).view) (λ p q. Later (pass p) (pass q))
port_face pass stands = record { saws = λ q own s saw. (saw.own_all, saw.state); laters = λ p q l. l }

-- those of a port of either kind

either_saws : {R A B : Type 0} (disk : A → Opening → List Step → Type 0) (memory : B → Opening → List Step → Type 0) (q : EitherPort R A B) (own : List Own) (s : State) → SawIn disk memory q own s → (owned (pass_of q).view ≡ own) × (state_seen (pass_of q).view ≡ s)
either_saws disk memory (Disk q) own s saw = (saw.own_all, saw.state)
either_saws disk memory (Memory q) own s saw = (saw.own_all, saw.state)

either_laters : {R A B : Type 0} (p q : EitherPort R A B) → LaterPort p q → Later (pass_of p) (pass_of q)
either_laters (Disk p) (Disk q) l = l
either_laters (Disk p) (Memory q) l = absurd l
either_laters (Memory p) (Disk q) l = absurd l
either_laters (Memory p) (Memory q) l = l

-- a port of either kind tells what its pass saw
pub either_face : {R A B : Type 0} (disk : A → Opening → List Step → Type 0) (memory : B → Opening → List Step → Type 0) → IsFace {F = EitherPort R A B} pass_of (SawIn disk memory) LaterPort
either_face disk memory = record { saws = either_saws disk memory; laters = either_laters }

-- a port of either kind stays on a disk, or stays off it
pub either_steady : {R A B : Type 0} → IsSteady {F = EitherPort R A B} LaterPort IsOnDisk
either_steady (Disk p) (Disk q) l = (λ x. x, λ x. x)
either_steady (Disk p) (Memory q) l = absurd l
either_steady (Memory p) (Disk q) l = absurd l
either_steady (Memory p) (Memory q) l = (λ x. x, λ x. x)

-- once all passes are joined, those at home have each number
pub number_home : EveryNumberIsHome
number_home old new owners kept owned dealt = λ place d below n lt.
    let low : place < length old = let e = kept.as_many in omega arith in
    let took = kept.each place d low in
    let here : n < (get_or old place d).view.passes = let e = took.passes in omega arith in
    one_of (took.numbers n) (λ o. subst (λ (x : Owner). HasNumber new x.place x.number) (o.2 (record { place = place; number = n })) (owned o.0 (record { place = place; number = n }) o.1) d) (dealt place d low n here)
  where
    one_of : {A B D : Type 0} → (A → D) → (B → D) → A ⊎ B → D
    one_of f g (inl a) = f a
    one_of f g (inr b) = g b
