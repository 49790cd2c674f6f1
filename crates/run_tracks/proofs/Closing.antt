-- Channels that were closed, in a row.
use Rattle.std.proofs.Common.{◌≡◌, suc, List, [], ◌∷◌, ◌++◌, length, Bool, refl, ap}
use Rattle.channel_face.specs.History.{Opening, Step}
use Rattle.shared_channel.specs.Passes.{Known}
use Rattle.channel_lock.specs.Turns.{MadeInTurn}
use Rattle.channel_lock.specs.Views.{View}
use Rattle.two_channels.specs.Shares.{LeftIn, pass_of}
use Rattle.two_channels.specs.declared.shared.EitherClosed.{EitherClosed}
use Rattle.two_channels.specs.declared.shared.EitherClosed.TheVariants as closed
use Rattle.two_channels.specs.declared.shared.EitherShared.{EitherShared}
use Rattle.two_channels.specs.declared.shared.EitherShared.TheVariants as share
use Rattle.run_tracks.specs.Closes.{AreClosed}

-- the pass of a closed channel called nothing, whatever its kind
pub left_made : {A B : Type 0} (disk : A → Opening → List Step → Type 0) (tells : A → Bool) (memory : B → Opening → List Step → Type 0) (tells' : B → Bool) (s : EitherShared A B) (v : View) (c : EitherClosed A B) → LeftIn disk tells memory tells' s v c → MadeInTurn v [] (pass_of c).view
left_made disk tells memory tells' (share.Disk s) v (closed.Disk c) left = left.made
left_made disk tells memory tells' (share.Disk s) v (closed.Memory c) left = absurd left
left_made disk tells memory tells' (share.Memory s) v (closed.Disk c) left = absurd left
left_made disk tells memory tells' (share.Memory s) v (closed.Memory c) left = left.made

-- one more
pub closed_push : {S E : Type 0} (Closed : S → Known → E → Type 0) (ss : List S) (hs : List Known) (es : List E) (s : S) (h : Known) (e : E) → AreClosed Closed ss hs es → Closed s h e → AreClosed Closed (ss ++ s ∷ []) (hs ++ h ∷ []) (es ++ e ∷ [])
closed_push Closed [] [] [] s h e all one = (one, tt)
closed_push Closed [] [] (y ∷ es) s h e all one = absurd all
closed_push Closed [] (p ∷ hs) es s h e all one = absurd all
closed_push Closed (x ∷ ss) [] es s h e all one = absurd all
closed_push Closed (x ∷ ss) (p ∷ hs) [] s h e all one = absurd all
closed_push Closed (x ∷ ss) (p ∷ hs) (y ∷ es) s h e all one = (all.0, closed_push Closed ss hs es s h e all.1 one)

-- there are as many as there were passes
pub closed_length : {S E : Type 0} (Closed : S → Known → E → Type 0) (ss : List S) (hs : List Known) (es : List E) → AreClosed Closed ss hs es → length hs ≡ length es
closed_length Closed [] [] [] all = refl
closed_length Closed [] [] (y ∷ es) all = absurd all
closed_length Closed [] (p ∷ hs) es all = absurd all
closed_length Closed (x ∷ ss) [] es all = absurd all
closed_length Closed (x ∷ ss) (p ∷ hs) [] all = absurd all
closed_length Closed (x ∷ ss) (p ∷ hs) (y ∷ es) all = ap suc (closed_length Closed ss hs es all.1)
