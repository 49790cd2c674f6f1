-- A channel that is not on a disk is mended by no call.
use Rattle.std.proofs.Common.{◌∙◌, ℕ, List, [], Ok, false, refl}
use Rattle.std.proofs.lemmas.List.{append-nil}
use Rattle.channel_face.specs.Faces.{Gains, Own}
use Rattle.channel_face.specs.Keeps.{IsMend}
use Rattle.channel_face.specs.Machine.{State}
use Rattle.shared_channel.specs.Ports.{AreOwned}
use Rattle.channel_lock.specs.Views.{View}

-- a mend of a channel in memory calls nothing
pub not_called : (v : View) (saw : List Own → State → Type 0) (seen : ℕ) → Gains (AreOwned v) (AreOwned v) (IsMend ⊥ saw seen (Ok false))
not_called v saw seen start earlier own is = ([], (is.0, is.1, append-nil own ∙ is.2), (refl, λ on. absurd on))
