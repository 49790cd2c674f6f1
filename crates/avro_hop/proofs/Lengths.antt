-- How long answers are.
use Rattle.std.proofs.Common.{◌≡◌, ℕ, zero, suc, ◌*◌, ◌≤◌, ◌<◌, List, [], ◌++◌, length, refl, ap, arith}
use Rattle.std.specs.Prelude.{Bool, true, false, Result, Ok, Err, IfOk, codes, pos, slice_index}
use Rattle.std.specs.Int.{w32, to_le_bytes}
use Rattle.std.proofs.lemmas.List.{length-append}
use Rattle.md5.specs.Md5.{md5, digest_bytes}
use Rattle.event_core.specs.Content.{Content}
use Rattle.avro_binary.specs.Written.{written_number, written_boolean, written_bytes, written_map}
use Rattle.avro_binary.proofs.Writing.{groups_last}
use Rattle.avro_binary.proofs.Shortest.{few_groups, event_bytes, batch_bytes}
use Rattle.avro_hop.specs.declared.handshake.Match.{Match}
use Rattle.avro_hop.specs.declared.handshake.Match.TheVariants.{Both, Client, Stranger}
use Rattle.avro_hop.specs.declared.hop.Asked.{Asked}
use Rattle.avro_hop.specs.declared.hop.Asked.TheVariants.{Reply, Events}
use Rattle.avro_hop.specs.declared.hop.HopRefused.{HopRefused}
use Rattle.avro_hop.specs.declared.respond.Status.{Status}
use Rattle.avro_hop.specs.declared.respond.Status.TheVariants as status
use Rattle.avro_hop.specs.Handshake.{own_text, own_hash, written_null, written_some, written_own, greeting}
use Rattle.avro_hop.specs.Calls.{Call, Nothing, Other, Takes, Asks, Empty, Strange, One, Many, IsCall, IsAsked, status_index, response, unknown_message}
use Rattle.avro_hop.specs.Dialogue.{Answers, Opens}
use Rattle.avro_hop.specs.Bounds.{max_greeting, IsBounded}

-- ---- what is written

-- how long this agent's protocol text is
pub text_len : length own_text ≡ 509
unfolding own_text
text_len = refl

digest_len : (state : List ℕ) (n : ℕ) → length (digest_bytes state n) ≡ 4 * n
unfolding digest_bytes
digest_len state zero = refl
digest_len state (suc n) =
    omega (arith, digest_len state n, length-append (digest_bytes state n) (to_le_bytes w32 (slice_index state n)))

-- how long the text's hash is
pub hash_len : length own_hash ≡ 16
unfolding md5
hash_len = digest_len _ 4

-- a number below 64 is written in one byte
pub small_len : (n : ℕ) → n < 64 → length (written_number (pos n)) ≡ 1
small_len n small = ap length (groups_last 9 (2 * n) (omega arith))

-- how long the text is at most with its length before it
pub counted_len : length (written_bytes own_text) ≤ 511
counted_len =
    let few : length (written_number (pos 509)) ≤ 2 = few_groups 10 2 1018 (omega arith) (omega arith) in
    omega (arith, length-append (written_number (pos (length own_text))) own_text, text_len, ap (λ (n : ℕ). length (written_number (pos n))) text_len)

own_len : length written_own ≤ 530
own_len =
    let text = written_bytes own_text in
    omega (arith, counted_len, hash_len, small_len 0 (omega arith), small_len 1 (omega arith), length-append (written_some text) (written_some own_hash ++ written_null), length-append (written_number (pos 1)) text, length-append (written_some own_hash) written_null, length-append (written_number (pos 1)) own_hash)

greeting_len : (m : Match) → length (greeting m) ≤ max_greeting
greeting_len Both =
    omega (arith, small_len 0 (omega arith), length-append (written_number (pos 0)) (written_null ++ (written_null ++ written_null)), length-append written_null (written_null ++ written_null), length-append written_null written_null)
greeting_len Client = omega (arith, own_len, small_len 1 (omega arith), length-append (written_number (pos 1)) written_own)
greeting_len Stranger = omega (arith, own_len, small_len 2 (omega arith), length-append (written_number (pos 2)) written_own)

unknown_len : length unknown_message ≡ 19
unknown_len =
    let text = codes "unknown message" in
    omega (arith, small_len 0 (omega arith), small_len 15 (omega arith), length-append (written_map []) (written_boolean true ++ (written_number (pos 0) ++ written_bytes text)), length-append (written_boolean true) (written_number (pos 0) ++ written_bytes text), length-append (written_number (pos 0)) (written_bytes text), length-append (written_number (pos 15)) text)

below_three : (s : Status) → status_index s < 64
below_three status.Ok = omega arith
below_three status.Failed = omega arith
below_three status.Unknown = omega arith

-- how long a response to a call is
pub response_len : (s : Status) → length (response s) ≡ 3
response_len s =
    let index = status_index s in
    let small : index < 64 = below_three s in
    omega (arith, small_len index small, length-append (written_map []) (written_boolean false ++ written_number (pos index)), length-append (written_boolean false) (written_number (pos index)))

-- ---- what is answered

abbrev events_of : Call → List Content
events_of Nothing = []
events_of Other = []
events_of (Takes events) = events

asked_bytes : (name bytes : List ℕ) (call : Call) → Asks name bytes call → 2 * length (events_of call) ≤ length bytes
asked_bytes name bytes call (Empty e) = omega arith
asked_bytes name bytes call (Strange z o m) = omega arith
asked_bytes name bytes call (One events e one) = omega (arith, ap length one.2, event_bytes bytes one.0 one.1)
asked_bytes name bytes call (Many events e many) = omega (arith, batch_bytes 0 bytes events many)

call_bytes : (bytes : List ℕ) (call : Call) → IsCall bytes call → 2 * length (events_of call) ≤ length bytes
call_bytes bytes call c = omega (arith, asked_bytes c.name c.rest call c.asks, ap length c.whole, length-append c.head c.rest)

bounded : (front bytes message : List ℕ) (call : Call) (asked : Asked) → length front ≤ max_greeting → length bytes ≤ length message → IsCall bytes call → IsAsked front call asked → IsBounded message asked
bounded front bytes message Nothing (Reply x) short within c a = omega (arith, ap length a)
bounded front bytes message Nothing (Events f b) short within c a = absurd a
bounded front bytes message Other (Reply x) short within c a = omega (arith, ap length a, length-append front unknown_message, unknown_len)
bounded front bytes message Other (Events f b) short within c a = absurd a
bounded front bytes message (Takes events) (Reply x) short within c a = omega (arith, ap length a.1, length-append front (response status.Failed), response_len status.Failed)
bounded front bytes message (Takes events) (Events f b) short within c a =
    (omega (arith, ap length a.0), omega (arith, ap length a.1, call_bytes bytes (Takes events) c))

opened_bounded : (m : Match) (rest message : List ℕ) (asked : Asked) (g : Bool) → length rest ≤ length message → Opens m rest asked g → IsBounded message asked
opened_bounded Both rest message asked g within o = bounded (greeting Both) rest message o.0.0 asked (greeting_len Both) within o.0.1 o.0.2
opened_bounded Client rest message asked g within o = bounded (greeting Client) rest message o.0.0 asked (greeting_len Client) within o.0.1 o.0.2
opened_bounded Stranger rest message (Reply x) g within o = omega (arith, ap length o.0, greeting_len Stranger)
opened_bounded Stranger rest message (Events f b) g within o = absurd o

-- what is answered to a message is bounded
pub answer_bounded : (greeted : Bool) (bytes : List ℕ) (result : Result Asked HopRefused) (g : Bool) → Answers greeted bytes result g → IfOk result (λ asked. IsBounded bytes asked)
answer_bounded true bytes (Ok asked) g p = bounded [] bytes bytes p.0.0 asked (omega arith) (omega arith) p.0.1 p.0.2
answer_bounded false bytes (Ok asked) g p =
    let o = p.3 in
    opened_bounded p.2 p.0 bytes asked g (omega (arith, ap length o.whole, length-append o.front p.0)) p.5
answer_bounded greeted bytes (Err e) g p = tt
