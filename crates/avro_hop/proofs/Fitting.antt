-- How long requests are.
use Rattle.std.proofs.Common.{ℕ, ◌+◌, ◌*◌, ◌<◌, ◌≤◌, true, false, List, [], ◌∷◌, ◌++◌, length, ap, arith}
use Rattle.std.specs.Prelude.{pos}
use Rattle.std.specs.List.{flat_map, sum_by}
use Rattle.std.proofs.lemmas.List.{length-append}
use Rattle.std.proofs.lemmas.List.Concat.{flat_map-cons}
use Rattle.std.proofs.lemmas.List.Sums.{sum_by-cons}
use Rattle.event_core.specs.Content.{Header, Content, size, header_size, headers_size}
use Rattle.event_core.proofs.Sizes.{size-sum}
use Rattle.avro_binary.specs.Event.{max_size}
use Rattle.avro_binary.specs.Written.{written_number, written_bytes, written_entry, written_map, written_event, written_batch}
use Rattle.avro_binary.specs.Laws.{AreSmall}
use Rattle.avro_binary.proofs.Shortest.{few_groups}
use Rattle.avro_hop.specs.Handshake.{own_text, own_hash, written_null, written_some}
use Rattle.avro_hop.specs.Calls.{append_batch}
use Rattle.avro_hop.specs.Asking.{own_request, batch_call, FitsPack}
use Rattle.avro_hop.proofs.Lengths.{hash_len, small_len, counted_len}

-- a number below 2^27 takes four bytes at most
number_len : (n : ℕ) → n < 134_217_728 → length (written_number (pos n)) ≤ 4
number_len n small = few_groups 10 4 (2 * n) (omega arith) (omega arith)

bytes_len : (bytes : List ℕ) → length bytes < 134_217_728 → length (written_bytes bytes) ≤ length bytes + 4
bytes_len bytes small = omega (arith, number_len (length bytes) small, length-append (written_number (pos (length bytes))) bytes)

entry_len : (header : Header) → header_size header < 134_217_728 → length (written_entry header) ≤ header_size header
entry_len header small = omega (arith, bytes_len header.0 (omega (arith, small)), bytes_len header.1 (omega (arith, small)), length-append (written_bytes header.0) (written_bytes header.1))

entries_len : (headers : List Header) → headers_size headers < 134_217_728 → length (flat_map written_entry headers) ≤ headers_size headers
entries_len [] small = omega arith
entries_len (header ∷ headers) small =
    let sum = sum_by-cons header_size header headers in
    omega (arith, sum, entry_len header (omega (arith, sum, small)), entries_len headers (omega (arith, sum, small)), ap length (flat_map-cons written_entry header headers), length-append (written_entry header) (flat_map written_entry headers))

few_headers : (headers : List Header) → length headers ≤ headers_size headers
few_headers [] = omega arith
few_headers (header ∷ headers) = omega (arith, sum_by-cons header_size header headers, few_headers headers)

map_len : (headers : List Header) → headers_size headers < 134_217_728 → length (written_map headers) ≤ headers_size headers + 5
map_len [] small = omega arith
map_len (header ∷ headers) small =
    let all = header ∷ headers in
    let count = written_number (pos (length all)) in
    omega (arith, number_len (length all) (omega (arith, few_headers all, small)), entries_len all small, length-append count (flat_map written_entry all ++ 0 ∷ []), length-append (flat_map written_entry all) (0 ∷ []))

-- an event takes nine eighths of its size at most
event_len : (event : Content) → size event ≤ max_size → 8 * length (written_event event) ≤ 9 * size event
event_len event small =
    let sum = size-sum event in
    omega (arith, sum, map_len event.headers (omega (arith, sum, small)), bytes_len event.body (omega (arith, sum, small)), length-append (written_map event.headers) (written_bytes event.body))

events_len : (events : List Content) → AreSmall events → 8 * length (flat_map written_event events) ≤ 9 * sum_by size events
events_len [] small = omega arith
events_len (event ∷ events) small =
    omega (arith, sum_by-cons size event events, event_len event small.0, events_len events small.1, ap length (flat_map-cons written_event event events), length-append (written_event event) (flat_map written_event events))

few_events : (events : List Content) → length events ≤ sum_by size events
few_events [] = omega arith
few_events (event ∷ events) = omega (arith, sum_by-cons size event events, size-sum event, few_events events)

batch_len : (events : List Content) → AreSmall events → sum_by size events < 50_331_648 → length (written_batch events) ≤ 56_623_200
batch_len [] small less = omega arith
batch_len (event ∷ events) small less =
    let all = event ∷ events in
    let count = written_number (pos (length all)) in
    omega (arith, number_len (length all) (omega (arith, few_events all, less)), events_len all small, length-append count (flat_map written_event all ++ 0 ∷ []), length-append (flat_map written_event all) (0 ∷ []))

call_len : (events : List Content) → AreSmall events → sum_by size events < 50_331_648 → length (batch_call events) ≤ 56_623_300
call_len events small less =
    omega (arith, batch_len events small less, bytes_len append_batch (omega arith), length-append (written_map []) (written_bytes append_batch ++ written_batch events), length-append (written_bytes append_batch) (written_batch events))

own_request_len : length own_request ≤ 600
own_request_len =
    let text = written_bytes own_text in
    omega (arith, hash_len, counted_len, small_len 0 (omega arith), small_len 1 (omega arith), length-append own_hash (written_some text ++ (own_hash ++ written_null)), length-append (written_some text) (own_hash ++ written_null), length-append (written_number (pos 1)) text, length-append own_hash written_null)

-- a sink's batch fits into a pack
pub fits_pack : FitsPack
fits_pack true events small less = omega (arith, own_request_len, call_len events small less, length-append own_request (batch_call events))
fits_pack false events small less = omega (arith, call_len events small less)
