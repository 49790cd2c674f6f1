-- What a transaction of puts leaves, call by call.
use Rattle.std.specs.Prelude.{◌≡◌, List, Bool, true, false, Option, Some, None}
use Rattle.event_core.specs.Content.{Content}
use Rattle.channel_face.specs.Token.{Token}
use Rattle.channel_face.specs.Machine.{State}
use Rattle.txn_core.specs.Shadow.{Journaled}
use Rattle.world_laws.specs.Channels.{put_all, stage_all, put_transaction}
use Rattle.world_laws.specs.World.{and_then}

-- The events were put by the token, or one of them is refused.
abbrev pub AreAdded : Journaled → Token → List Content → Bool → Journaled → Type 0
AreAdded old token events true new =
    (put_all old.counted.state token events ≡ Some new.counted.state) × (new.journal ≡ old.journal)
AreAdded old token events false new = put_all old.counted.state token events ≡ None

-- What the token put was staged, or the stage is refused.
abbrev pub IsStaged : Journaled → Token → Bool → Journaled → Type 0
IsStaged old token true new =
    (stage_all old.counted.state token ≡ Some new.counted.state) × (new.journal ≡ old.journal)
IsStaged old token false new = stage_all old.counted.state token ≡ None

-- the state after each was put by the token and all were staged
abbrev pub put_and_stage : Journaled → Token → List Content → Option State
put_and_stage old token events =
    and_then (put_all old.counted.state token events) (λ put. stage_all put token)

-- They were put and staged by the token, or one of them or the stage is refused.
abbrev pub ArePutAndStaged : Journaled → Token → List Content → Bool → Journaled → Type 0
ArePutAndStaged old token events true new =
    (put_and_stage old token events ≡ Some new.counted.state) × (new.journal ≡ old.journal)
ArePutAndStaged old token events false new = put_and_stage old token events ≡ None

-- They were put in one transaction, or a call of it is refused.
abbrev pub ArePut : Journaled → List Content → Bool → Journaled → Type 0
ArePut old events true new =
    (put_transaction old.counted.state events ≡ Some new.counted.state) × (new.journal ≡ old.journal)
ArePut old events false new = put_transaction old.counted.state events ≡ None
