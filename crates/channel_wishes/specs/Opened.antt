-- The channels of a run that were opened, one after the other.
use Rattle.std.specs.Prelude.{◌≡◌, Bool, List, [], ◌∷◌, ◌++◌, map}
use Rattle.flume_host.specs.HostState.{Folders}
use Rattle.channel_face.specs.History.{Opening, Step}
use Rattle.channel_lock.specs.Views.{View}
use Rattle.two_channels.specs.Shares.{LeftIn}
use Rattle.two_channels.specs.declared.shared.EitherClosed.{EitherClosed}
use Rattle.two_channels.specs.declared.shared.EitherShared.{EitherShared}
use Rattle.channel_wishes.specs.Openings.{HostTold, IsOpened}
use Rattle.channel_wishes.specs.Places.{AreClosedOf, AreOfWishes, AreOut, IsClosedOf}
use Rattle.channel_wishes.specs.declared.opened.OpenedChannel.{OpenedChannel}
use Rattle.channel_wishes.specs.declared.wish.ChannelWish.{ChannelWish}

-- each channel that was wanted was opened and shared, in order
abbrev pub AreOpened : {A B : Type 0} → List ChannelWish → List (OpenedChannel A B) → HostTold → HostTold → Type 0
AreOpened [] [] a b = b ≡ a
AreOpened (wish ∷ wishes) (c ∷ cs) a b = (m : HostTold) × IsOpened a m wish c.share c.home c.others.items × AreOpened wishes cs m b
AreOpened wishes cs a b = ⊥

abbrev pub WereOpened : {A B : Type 0} → List ChannelWish → List (OpenedChannel A B) → Type 0
WereOpened wishes cs = (a b : HostTold) × AreOpened wishes cs a b

-- a channel that was wanted was opened, and added to these
abbrev pub AddsOpened : {A B : Type 0} → ChannelWish → HostTold → HostTold → List (OpenedChannel A B) → List (OpenedChannel A B) → Type 0
AddsOpened {A} {B} wish a b before after =
    (c : OpenedChannel A B) × (after ≡ before ++ c ∷ []) × IsOpened a b wish c.share c.home c.others.items

-- What a channel left that was closed is on a disk exactly where the shared one was.
abbrev pub LeftFits : {A B : Type 0} → (A → Opening → List Step → Type 0) → (A → Bool) → (B → Opening → List Step → Type 0) → (B → Bool) → Type 0
LeftFits {A} {B} disk tells memory tells' =
    (s : EitherShared A B) (v : View) (c : EitherClosed A B) → LeftIn disk tells memory tells' s v c → IsClosedOf s c

-- The channels that a run opened can be given back once they are closed, as long as the host knows their folders.
abbrev pub ClosedFit : Type 0 → Type 0 → Type 0
ClosedFit A B =
    (wishes : List ChannelWish) (cs : List (OpenedChannel A B)) (ends : List (EitherClosed A B)) (folders : Folders) (a b : HostTold)
    → AreOpened wishes cs a b → AreClosedOf (map (λ (c : OpenedChannel A B). c.share) cs) ends → AreOut folders wishes → AreOfWishes folders wishes ends
