-- What transactions of puts and of takes have in common.
use Rattle.std.specs.Prelude.{◌≡◌, ◌+◌, length, Bool, true, false}
use Rattle.channel_face.specs.Machine.{State, Call, Admits, after}
use Rattle.shared_channel.specs.Counting.{is_counted}

-- It is counted, and no channel refuses it because too many calls were counted.
abbrev pub IsCountedCall : Call → Bool → Type 0
IsCountedCall call spent = (is_counted call ≡ true) × ((tells : Bool) (s : State) → Admits tells s call → spent ≡ false)

-- A rollback that is counted closed a transaction, and the token of any other is stale.
pub record IsRollback (rollback : Bool → Call) (IsStale : State → Type 0) : Type 0 where
  pub counted : (ended : Bool) → is_counted (rollback ended) ≡ ended
  pub ends : (tells : Bool) (s : State) → Admits tells s (rollback true) → length (after s (rollback true)).opened + 1 ≡ length s.opened
  pub stale : (tells : Bool) (s : State) → Admits tells s (rollback false) → IsStale s
