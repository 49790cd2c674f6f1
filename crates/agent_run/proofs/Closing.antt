-- Channels that were closed are of the kinds of the shared ones.
use Rattle.std.proofs.Common.{List, [], ◌∷◌, Bool}
use Rattle.channel_face.specs.History.{Opening, Step}
use Rattle.shared_channel.specs.Passes.{Known}
use Rattle.two_channels.specs.declared.shared.EitherClosed.{EitherClosed}
use Rattle.two_channels.specs.declared.shared.EitherShared.{EitherShared}
use Rattle.run_tracks.specs.Closes.{AreClosed, IsClosed}
use Rattle.channel_wishes.specs.Places.{AreClosedOf}
use Rattle.channel_wishes.specs.Opened.{LeftFits}

module _ {A B : Type 0} (disk : A → Opening → List Step → Type 0) (tells : A → Bool) (memory : B → Opening → List Step → Type 0) (tells' : B → Bool) (fits : LeftFits disk tells memory tells') where
  -- each channel that was closed is on a disk exactly where the shared one was
  pub closed_of : (ss : List (EitherShared A B)) (hs : List Known) (es : List (EitherClosed A B)) → AreClosed (IsClosed disk tells memory tells') ss hs es → AreClosedOf ss es
  closed_of [] [] [] all = tt
  closed_of [] [] (e ∷ es) all = absurd all
  closed_of [] (h ∷ hs) es all = absurd all
  closed_of (s ∷ ss) [] es all = absurd all
  closed_of (s ∷ ss) (h ∷ hs) [] all = absurd all
  closed_of (s ∷ ss) (h ∷ hs) (e ∷ es) all = (fits s h.view e all.0.left, closed_of ss hs es all.1)
