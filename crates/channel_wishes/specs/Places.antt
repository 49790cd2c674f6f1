-- Where the channels of a run are, and how a closed one fits what was wanted.
use Rattle.std.specs.Prelude.{List, [], ◌∷◌, IsTrue, string_bytes}
use Rattle.std.specs.List.{AllByRecursion}
use Rattle.flume_host.specs.HostState.{Folders}
use Rattle.two_channels.specs.declared.shared.EitherClosed.{EitherClosed}
use Rattle.two_channels.specs.declared.shared.EitherClosed.TheVariants as closed
use Rattle.two_channels.specs.declared.shared.EitherShared.{EitherShared}
use Rattle.two_channels.specs.declared.shared.EitherShared.TheVariants as share
use Rattle.channel_wishes.specs.declared.wish.ChannelPlace.{ChannelPlace}
use Rattle.channel_wishes.specs.declared.wish.ChannelPlace.TheVariants.{Memory, Folder}
use Rattle.channel_wishes.specs.declared.wish.ChannelWish.{ChannelWish}

-- the disk of a channel in a folder was opened, so it can be given back
abbrev pub IsOutIn : Folders → ChannelPlace → Type 0
IsOutIn folders Memory = Unit {0}
IsOutIn folders (Folder path) = IsTrue (folders.disk_opened (string_bytes path))

abbrev pub AreOut : Folders → List ChannelWish → Type 0
AreOut folders wishes = AllByRecursion (λ (wish : ChannelWish). IsOutIn folders wish.place) wishes

-- the channel is wanted in a folder, whose disk was opened, so it can be given back
abbrev pub IsInFolder : Folders → ChannelPlace → Type 0
IsInFolder folders Memory = ⊥
IsInFolder folders (Folder path) = IsTrue (folders.disk_opened (string_bytes path))

-- it is wanted in memory
abbrev pub IsInMemory : ChannelPlace → Type 0
IsInMemory Memory = Unit {0}
IsInMemory (Folder path) = ⊥

-- a closed channel is on a disk exactly where that was wanted, and that disk can be given back
abbrev pub IsOfPlace : {A B : Type 0} → Folders → ChannelPlace → EitherClosed A B → Type 0
IsOfPlace folders place (closed.Disk c) = IsInFolder folders place
IsOfPlace folders place (closed.Memory c) = IsInMemory place

-- these are the closed channels of these wishes, in their order
abbrev pub AreOfWishes : {A B : Type 0} → Folders → List ChannelWish → List (EitherClosed A B) → Type 0
AreOfWishes folders [] [] = Unit {0}
AreOfWishes folders (wish ∷ wishes) (c ∷ cs) = IsOfPlace folders wish.place c × AreOfWishes folders wishes cs
AreOfWishes folders wishes cs = ⊥

-- it is on a disk exactly where the shared channel is
abbrev pub IsClosedOf : {A B : Type 0} → EitherShared A B → EitherClosed A B → Type 0
IsClosedOf (share.Disk s) (closed.Disk c) = Unit {0}
IsClosedOf (share.Memory s) (closed.Memory c) = Unit {0}
IsClosedOf s c = ⊥

abbrev pub AreClosedOf : {A B : Type 0} → List (EitherShared A B) → List (EitherClosed A B) → Type 0
AreClosedOf [] [] = Unit {0}
AreClosedOf (s ∷ ss) (c ∷ cs) = IsClosedOf s c × AreClosedOf ss cs
AreClosedOf ss cs = ⊥
