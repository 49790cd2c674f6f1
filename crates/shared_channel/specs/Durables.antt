-- What a call of a channel on a disk did through a pass.
use Rattle.std.specs.Prelude.{◌≡◌, ℕ, List, [], ◌∷◌, ◌++◌, length, Bool, true, false, Result, Ok}
use Rattle.atomic_table.specs.Seated.{TableId}
use Rattle.channel_face.specs.Keeps.{is_spent_open, mended}
use Rattle.channel_face.specs.Machine.{Reopen, Reopened}
use Rattle.channel_face.specs.History.{Opening, Step, opening, state_after, reopen_reply}
use Rattle.channel_face.specs.declared.replies.OpenCause.{OpenCause}
use Rattle.channel_lock.specs.Views.{View}
use Rattle.shared_channel.specs.Counting.{Keeps}
use Rattle.shared_channel.specs.Calls.{step, state_seen, Answers, Looks}
use Rattle.shared_channel.specs.Holding.{Makes, Tries}
use Rattle.shared_channel.specs.declared.shared.Holder.{Holder}

-- how many calls a reply stands for
abbrev pub calls_of : Bool → ℕ
calls_of true = 0
calls_of false = 1

-- What is seen ends with so many calls, and before them the channel was broken.
abbrev pub WasBroken : ℕ → View → Type 0
WasBroken n w = (front last : List Step) × (w.seen ≡ front ++ last) × (length last ≡ n) × ((state_after (opening w.base) front).broken ≡ true)

-- The channel keeps standing for what was seen and this call, which is a reopen that was answered so and kept something.
abbrev pub IsReopen : {C : Type 0} → (C → Opening → List Step → Type 0) → ℕ → ℕ → Result (Unit {0}) OpenCause → C → View → Step → Type 0
IsReopen stands by moment reply d v e = (kept : Reopened) × (e ≡ step by (Reopen (reopen_reply reply kept)) moment) × Keeps stands d v.base (v.seen ++ e ∷ [])

module _ {C : Type 0} (stands : C → Opening → List Step → Type 0) (table : TableId) (moment : C → ℕ) where
  -- With the lock, it made a reopen with this reply, which kept something; or that was spent.
  abbrev pub TriesReopen : Result (Unit {0}) OpenCause → Holder C → Holder C → Type 0
  TriesReopen reply old new = (kept : Reopened) × Tries stands table moment (is_spent_open reply) (Reopen (reopen_reply reply kept)) old new

  -- With the lock, it reopened what was broken, and nothing else.
  abbrev pub MakesMended : Result Bool OpenCause → Holder C → Holder C → Type 0
  MakesMended (Ok false) old new = Makes stands table [] old new × ((state_seen old.seat.me.0).broken ≡ false)
  MakesMended result old new =
      (reply : Result (Unit {0}) OpenCause) × TriesReopen reply old new × ((state_seen old.seat.me.0).broken ≡ true) × (result ≡ mended reply)

module _ {C : Type 0} (stands : C → Opening → List Step → Type 0) (tells : C → Bool) (moment : C → ℕ) where
  -- A reopen was made and kept something, or it was spent.
  abbrev pub Reopens : View → ℕ → Result (Unit {0}) OpenCause → View → Type 0
  Reopens v by reply w = (kept : Reopened) × Answers stands tells moment (is_spent_open reply) v by (Reopen (reopen_reply reply kept)) w

  -- False: the channel was not broken, and nothing was called. Otherwise it was broken, and a reopen was answered so.
  abbrev pub Mends : View → ℕ → Result Bool OpenCause → View → Type 0
  Mends v by (Ok false) w = Looks stands tells v w × ((state_seen w).broken ≡ false)
  Mends v by result w = (reply : Result (Unit {0}) OpenCause) × Reopens v by reply w × WasBroken (calls_of (is_spent_open reply)) w × (result ≡ mended reply)
