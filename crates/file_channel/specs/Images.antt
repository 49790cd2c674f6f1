-- The law of what stands at a channel's pointers in whatever a crash leaves.
use Rattle.std.specs.Prelude.{◌≡◌, ◌⊎◌, Option, Some, IsSomeAnd, false}
use Rattle.flume_host.specs.Folder.{Files, IsImage}
use Rattle.flume_host.specs.Told.{Told}
use Rattle.flume_host.specs.declared.names.FileName.TheVariants.{Log}
use Rattle.event_core.specs.Content.{Content}
use Rattle.record_form.specs.declared.record.Pointer.{Pointer}
use Rattle.record_form.specs.Pointers.{PutAt}
use Rattle.channel_log.specs.Pointers.{IsWaiting}
use Rattle.channel_face.specs.Machine.{State}
use Rattle.channel_places.specs.Looks.{StandsIn}
use Rattle.file_channel.specs.Placed.{IsStateOf, Logged}

-- Unless the channel is broken, each event that is known at a pointer waits there for a flush, or its PUT stands there in every image.
abbrev pub StandsInImages : Type 0
StandsInImages =
    (told : Option Told) (c : Logged) (s : State) (is : IsStateOf told c s) (t : Told) (image : Files) (p : Pointer) (event : Content) → s.broken ≡ false → told ≡ Some t → IsImage t.now image → StandsIn is.known p event
    → IsWaiting c.log p ⊎ IsSomeAnd (image (Log p.file)) (λ bytes. PutAt bytes p event)
