-- The report of some channels: compact JSON of an object, and a newline.
use Rattle.std.specs.Prelude.{ℕ, List, [], ◌∷◌, ◌++◌, codes, decimal, fold, String, string_bytes}
use Rattle.std.specs.declared.alloc.Global.{Global}
use Rattle.channel_face.specs.declared.replies.Counts.{Counts}
use Rattle.serde_json.specs.Data.{Data, string, object, Members, no_members, member, put}
use Rattle.serde_json.specs.Written.{compact_text}

-- a number, as a text
abbrev pub number_text : ℕ → Data
number_text n = string (decimal n)

-- the counts of a channel by their names, in the order of the names' bytes
abbrev pub counters : Counts → Data
counters c = object
    (member (codes "ChannelCapacity") (number_text c.capacity)
    (member (codes "ChannelSize") (number_text c.size)
    (member (codes "EventPutAttemptCount") (number_text c.put_attempts)
    (member (codes "EventPutSuccessCount") (number_text c.put_successes)
    (member (codes "EventTakeAttemptCount") (number_text c.take_attempts)
    (member (codes "EventTakeSuccessCount") (number_text c.take_successes) no_members))))))

-- one channel more, in its place by the bytes of its name; of two channels of one name the later counts
abbrev pub with_channel : Members → String Global × Counts → Members
with_channel members channel = put (codes "CHANNEL." ++ string_bytes channel.0) (counters channel.1) members

abbrev pub channel_members : List (String Global × Counts) → Members
channel_members channels = fold with_channel no_members channels

abbrev pub report_text : List (String Global × Counts) → List ℕ
report_text channels = compact_text (object (channel_members channels)) ++ 10 ∷ []
