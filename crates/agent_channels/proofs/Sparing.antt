-- The disk of a channel that made no call.
use Rattle.std.proofs.Common.{◌≡◌, ℕ, List, [], ◌∷◌, Bool, true, false, Option, refl, subst, true≢false}
use Rattle.std.specs.Prelude.{◌||◌, string_bytes}
use Rattle.flume_host.specs.Told.{Told}
use Rattle.channel_face.specs.History.{Opening, Step}
use Rattle.channel_face.specs.Machine.{Call, BeginPut, BeginTake, Put, Take, StagePut, StageTake, Flush, RollbackPut, RollbackTake, Checkpoint, Prune, Reopen}
use Rattle.channel_lock.specs.Calls.{keep}
use Rattle.channel_writing.specs.Stands.{has_fault, is_fault}
use Rattle.file_channel.specs.Stands.{FileState, StandsOver}
use Rattle.shared_channel.specs.Counting.{StandsAgreeing, counted_calls, is_counted}
use Rattle.two_channels.specs.Shares.{StandsClosed}
use Rattle.two_channels.specs.declared.shared.EitherClosed.{EitherClosed}
use Rattle.two_channels.specs.declared.shared.EitherClosed.TheVariants as closed
use Rattle.two_channels.specs.declared.shared.EitherShared.{EitherShared}
use Rattle.two_channels.specs.declared.shared.EitherShared.TheVariants as share
use Rattle.channel_wishes.specs.Openings.{HostTold, IsOfKind}
use Rattle.channel_wishes.specs.Places.{IsOfPlace, IsOutIn}
use Rattle.agent_channels.specs.Closings.{DisksBack, back_of}
use Rattle.agent_channels.specs.Several.{IsSpared, IsUnused}
use Rattle.channel_wishes.specs.declared.wish.ChannelPlace.{ChannelPlace}
use Rattle.channel_wishes.specs.declared.wish.ChannelPlace.TheVariants.{Memory, Folder}

-- a call that is not counted is no fault
uncounted : (call : Call) → is_counted call ≡ false → is_fault call ≡ false
uncounted (BeginPut r) not = absurd (true≢false not)
uncounted (BeginTake r) not = absurd (true≢false not)
uncounted (Put t e r) not = absurd (true≢false not)
uncounted (Take t r) not = absurd (true≢false not)
uncounted (StagePut t r) not = absurd (true≢false not)
uncounted (StageTake t r) not = absurd (true≢false not)
uncounted (Flush r) not = absurd (true≢false not)
uncounted (RollbackPut t b) not = refl
uncounted (RollbackTake t b) not = refl
uncounted (Checkpoint r) not = absurd (true≢false not)
uncounted (Prune r) not = absurd (true≢false not)
uncounted (Reopen r) not = absurd (true≢false not)

keeps_none : (b : Bool) (step : Step) (h : List Step) → keep b step h ≡ [] → (b ≡ false) × (h ≡ [])
keeps_none true step h e = absurd (cc)
keeps_none false step h e = (refl, e)

or_none : (a b : Bool) → a ≡ false → b ≡ false → (a || b) ≡ false
or_none true b p q = p
or_none false b p q = q

no_fault : (h : List Step) → counted_calls h ≡ [] → has_fault h ≡ false
no_fault [] none = refl
no_fault (step ∷ h) none =
    let r = keeps_none (is_counted step.call) step (counted_calls h) none in
    or_none (is_fault step.call) (has_fault h) (uncounted step.call r.0) (no_fault h r.1)

-- its disk counted none since the opening
spared : (told : Option Told) (faults : ℕ) (c : FileState) (start : Opening) → StandsAgreeing (StandsOver told faults) c start [] → (faults ≡ start.faults) × IsSpared told start
spared told faults c start s =
    let e = s.1.clean (no_fault s.0 s.2) in
    (e, (c, (s.0, subst (λ (n : ℕ). StandsOver told n c start s.0) e s.1, s.2, s.3)))

module _ {D B : Type 0} (told : D → Option Told) (faults : D → ℕ) (memory : B → Opening → List Step → Type 0) where
  -- it is of the kind that was wanted
  pub unused_place : (place : ChannelPlace) (s : EitherShared (D × FileState) B) (start : Opening) (c : EitherClosed (D × FileState) B) (a : HostTold)
      → IsOfKind place s → IsOutIn a.folders place → StandsClosed (λ x. StandsOver (told x.0) (faults x.0) x.1) memory s start [] c → IsOfPlace a.folders place c
  unused_place Memory (share.Disk s) start c a kind out stands = absurd (kind tt)
  unused_place Memory (share.Memory s) start (closed.Disk c) a kind out stands = absurd stands
  unused_place Memory (share.Memory s) start (closed.Memory c) a kind out stands = tt
  unused_place (Folder path) (share.Memory s) start c a kind out stands = absurd kind
  unused_place (Folder path) (share.Disk s) start (closed.Memory c) a kind out stands = absurd stands
  unused_place (Folder path) (share.Disk s) start (closed.Disk c) a kind out stands = out

  -- the disk of a closed channel that made no call came back unused
  pub unused_back : (place : ChannelPlace) (s : EitherShared (D × FileState) B) (start : Opening) (c : EitherClosed (D × FileState) B) (a b : HostTold)
      → IsOfKind place s → StandsClosed (λ x. StandsOver (told x.0) (faults x.0) x.1) memory s start [] c → DisksBack (back_of told faults place c) a b → IsUnused place start a b
  unused_back Memory (share.Disk s) start c a b kind stands back = absurd (kind tt)
  unused_back Memory (share.Memory s) start (closed.Disk c) a b kind stands back = absurd stands
  unused_back Memory (share.Memory s) start (closed.Memory c) a b kind stands back = back
  unused_back (Folder path) (share.Memory s) start c a b kind stands back = absurd kind
  unused_back (Folder path) (share.Disk s) start (closed.Memory c) a b kind stands back = absurd stands
  unused_back (Folder path) (share.Disk s) start (closed.Disk c) a b kind stands back =
      let r = spared (told c.channel.0) (faults c.channel.0) c.channel.1 start stands in
      (told c.channel.0, subst (λ (n : ℕ). DisksBack (record { path = string_bytes path; told = told c.channel.0; faults = n } ∷ []) a b) r.0 back, r.1)
