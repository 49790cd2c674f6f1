-- What a line is answered where nothing failed.
use Rattle.std.specs.Prelude.{◌≡◌, ◌<◌, ℕ, zero, suc, List, [], ◌∷◌}
use Rattle.channel_face.specs.Faces.{Own}
use Rattle.shared_channel.specs.Ports.{own_calls}
use Rattle.channel_face.specs.History.{opening}
use Rattle.source_put.specs.Into.{Into}
use Rattle.source_put.specs.declared.intake.Verdict.{Verdict}
use Rattle.source_put.specs.declared.intake.Verdict.TheVariants.{Taken, Refused, TooLarge, NoMemory}
use Rattle.line_session.specs.Handled.{Handled, TakesAll}
use Rattle.line_worker.specs.Turns.{Feeding, TakesTurn}
use Rattle.source_worker.specs.Rounds.{Answer}
use Rattle.run_tracks.specs.Places.{Zips}
use Rattle.run_tracks.specs.Tracks.{Calls, Track}
use Rattle.sound_lines.specs.Limits.{IsForLimit}
use Rattle.sound_lines.specs.Undisturbed.{IsUndisturbed}

-- P is true of what stands at this place
abbrev pub AtPlace : {A : Type 0} → (A → Type 0) → List A → ℕ → Type 0
AtPlace P [] place = ⊥
AtPlace P (x ∷ xs) zero = P x
AtPlace P (x ∷ xs) (suc place) = AtPlace P xs place

-- Of a source's channels, by the numbers of its passes there: a batch was taken; or the channel at a place refused it for a limit; or an
-- interceptor made its event larger than an event may be; or there was no memory for it.
abbrev pub IsSound : List Track → Verdict → Type 0
IsSound tracks Taken = Unit {0}
IsSound tracks (Refused place cause) = AtPlace (λ t. IsForLimit t.start t.whole t.number cause) tracks place
IsSound tracks (TooLarge size) = 33_554_432 < size
IsSound tracks NoMemory = Unit {0}

module _ {S : Type 0} (Takes : S → List ℕ → Verdict → S → Type 0) (Mends : S → List Answer → S → Type 0) where
  -- it is so of the verdict that each line of a session came to
  abbrev pub AreSound : List Track → (done : List Handled) (old new : Feeding S) → TakesAll (TakesTurn Takes Mends) old done new → Type 0
  AreSound tracks [] old new none = Unit {0}
  AreSound tracks (h ∷ done) old new (next, one, others) = IsSound tracks one.verdict × AreSound tracks done next new others

-- its next calls are some, whatever they are
abbrev pub IsCalled : Track → Track → Type 0
IsCalled old new = (more : List Own) × Calls old new more

-- so it is with each channel where events go, as where they are mended
abbrev pub AreCalled : {B : Type 0} → Into Track B → List Answer → Into Track B → Type 0
AreCalled old answers new = Zips IsCalled old.route.ports new.route.ports

-- The history of a track's channel is undisturbed.
abbrev pub IsCalm : Track → Type 0
IsCalm t = IsUndisturbed t.start t.whole

-- all calls with the track's number were made
abbrev pub HasEnded : Track → Type 0
HasEnded t = t.own ≡ own_calls (t.number ∷ []) (opening t.start) t.whole
