-- What the one who holds the lock does, call by call.
use Rattle.std.specs.Prelude.{◌≡◌, ◌<◌, ◌≤◌, ◌-◌, ◌^◌, ℕ, List, [], ◌∷◌, ◌++◌, length, Bool, true, false, not, None, Result, Err}
use Rattle.atomic_table.specs.Seated.{TableId}
use Rattle.channel_face.specs.Token.{Token}
use Rattle.channel_face.specs.Machine.{State, Call}
use Rattle.channel_face.specs.History.{Opening, Step, Said, by_pass, calls}
use Rattle.channel_face.specs.Calls.{IsCommit}
use Rattle.channel_face.specs.declared.replies.Counter.TheVariants.{Calls as CallsCount}
use Rattle.channel_face.specs.declared.replies.Ticket.{Ticket}
use Rattle.channel_face.specs.declared.replies.StageCause.{StageCause}
use Rattle.channel_face.specs.declared.replies.StageCause.TheVariants.{Spent}
use Rattle.channel_face.specs.declared.replies.CommitRefused.{CommitRefused}
use Rattle.channel_face.specs.declared.replies.CommitRefused.TheVariants.{Stage}
use Rattle.channel_lock.specs.Calls.{has}
use Rattle.channel_lock.specs.Turns.{Making}
use Rattle.channel_lock.specs.Views.{View, saw}
use Rattle.shared_channel.specs.Calls.{Bounds, Left, made_if, state_seen, step}
use Rattle.shared_channel.specs.Counting.{Keeps}
use Rattle.shared_channel.specs.Passes.{view_of}
use Rattle.shared_channel.specs.declared.shared.Holder.{Holder}

-- the call that left the channel so
abbrev pub made_by : {C : Type 0} → (C → ℕ) → Holder C → Call → Holder C → Step
made_by moment old call new = step old.by call (moment new.home.channel)

module _ {C : Type 0} (stands : C → Opening → List Step → Type 0) where
  -- The seat has the lock, and took the channel out, which has room for the rollbacks to come.
  abbrev pub IsIn : Holder C → Type 0
  IsIn h = (h.seat.me.0.turn ≡ true) × (h.seat.me.0.live ≡ true) × (h.seat.me.1 ≡ (0, None) ∷ []) × Keeps stands h.home.channel h.seat.me.0.base h.seat.me.0.seen

  module _ (table : TableId) where
    -- It holds the lock of this table, its number is one of its own, and it knows how many calls are counted.
    abbrev pub Holds : Holder C → Type 0
    Holds h = (h.seat.table_id ≡ table) × IsIn h × (has h.seat.me.0.numbers h.by ≡ true) × (h.calls ≡ length h.seat.me.0.seen)

    -- It made these calls, and goes on holding the lock.
    pub record Makes (calls : List Step) (old new : Holder C) : Type 0 where
      pub holds : Holds new
      pub by : new.by ≡ old.by
      pub seen : new.seat.me.0.seen ≡ old.seat.me.0.seen ++ calls
      pub goes_on : (v : View) (es : List Step) → Making v es old.seat.me.0 → has v.numbers old.by ≡ true → Making v (es ++ calls) new.seat.me.0

    -- It made this call. One that is spent was not made, since so many were counted; each other one was made while they were fewer.
    abbrev pub Tries : (C → ℕ) → Bool → Call → Holder C → Holder C → Type 0
    Tries moment spent call old new =
        Makes (made_if (not spent) (made_by moment old call new)) old new × Bounds spent (2 ^ 64 - 1025) (length old.seat.me.0.seen)

    -- It made a rollback, or its token was stale.
    abbrev pub Rolls : (C → ℕ) → Bool → Call → (State → Type 0) → Holder C → Holder C → Type 0
    Rolls moment ended call IsStale old new =
        Makes (made_if ended (made_by moment old call new)) old new × (ended ≡ false → IsStale (state_seen new.seat.me.0))

    -- It made a commit, or that was spent.
    abbrev pub MakesCommit : Bool → (Result Ticket StageCause → Call) → Token → Result Ticket (CommitRefused Token) → Holder C → Holder C → Type 0
    MakesCommit true stage token result old new =
        Makes [] old new × (2 ^ 64 - 1026 ≤ length old.seat.me.0.seen) × (result ≡ Err (Stage (record { txn = token; cause = Spent CallsCount })))
    MakesCommit false stage token result old new =
        (own : List Said) × Makes (by_pass old.by own) old new × IsCommit stage token (calls own) result × (length old.seat.me.0.seen < 2 ^ 64 - 1026)

-- The lock was released, and the views of the badge and the count of calls are those of what was seen.
pub record IsReleased {C : Type 0} (stands : C → Opening → List Step → Type 0) (tells : C → Bool) (h : Holder C) (views : List View) (count : ℕ) : Type 0 where
  pub one : views ≡ view_of views ∷ []
  pub left : (v : View) (es : List Step) → Making v es h.seat.me.0 → Left stands tells v es (view_of views) h.home.channel
  pub saw : (v : View) (es : List Step) → Making v es h.seat.me.0 → view_of views ≡ saw v (view_of views).seen
  pub seen : (view_of views).seen ≡ h.seat.me.0.seen
  pub calls : count ≡ length (view_of views).seen
