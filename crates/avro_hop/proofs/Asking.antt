-- What a client asks is what a server of this agent takes.
use Rattle.std.proofs.Common.{◌≡◌, ℕ, ◌++◌, ◌<◌, ◌^◌, true, false, List, [], length, refl, sym, ap, subst, append_assoc, arith, inl, inr}
use Rattle.std.specs.Prelude.{Bool, ◌⊎◌, Option, Some, None, IsSome, Result, Ok, Err}
use Rattle.std.specs.List.{AllByRecursion}
use Rattle.event_core.specs.Content.{Content}
use Rattle.avro_binary.specs.Fault.{Fault}
use Rattle.avro_binary.specs.Value.{IsText}
use Rattle.avro_binary.specs.Items.{IsMeta}
use Rattle.avro_binary.specs.Event.{first_large}
use Rattle.avro_binary.specs.Written.{written_bytes, written_map, written_batch}
use Rattle.avro_binary.specs.Laws.{FitsMemory}
use Rattle.avro_binary.proofs.Collect.{none_large}
use Rattle.avro_binary.proofs.PrefixFree.{rest_same}
use Rattle.avro_binary.proofs.Spelled.{texts_spelled, batches_spelled}
use Rattle.avro_hop.specs.declared.handshake.Match.{Match}
use Rattle.avro_hop.specs.declared.handshake.Match.TheVariants.{Both, Client, Stranger}
use Rattle.avro_hop.specs.declared.hop.Asked.{Asked}
use Rattle.avro_hop.specs.declared.hop.Asked.TheVariants.{Reply, Events}
use Rattle.avro_hop.specs.declared.hop.HopRefused.{HopRefused}
use Rattle.avro_hop.specs.declared.hop.HopRefused.TheVariants.{BadHandshake, OtherProtocol, NoMemory}
use Rattle.avro_hop.specs.Handshake.{Request, IsRequest, IsMatch, own_text, own_hash, written_null, written_some}
use Rattle.avro_hop.specs.Calls.{append_batch, Call, IsCall, CallFault, IsAsked, Many}
use Rattle.avro_hop.specs.Calls.{Takes as of_events}
use Rattle.avro_hop.specs.Dialogue.{Answers, Opens, FirstFault, InRequest, InCall}
use Rattle.avro_hop.specs.Asking.{own_request, batch_call, opening, Takes, IsAskedFor}
use Rattle.avro_hop.proofs.Lengths.{text_len, hash_len}
use Rattle.avro_hop.proofs.OneReading.{one_request, no_request_fault, one_call_lem, no_call_fault}
use Rattle.avro_hop.proofs.Responses.{null_spelled, some_spelled, no_meta, own_utf8, ascii_text}

abbrev own : Request
own = record { hash = own_hash; text = Some own_text; server_hash = own_hash }

request_spelled : IsRequest own_request own
request_spelled = record {
  hash_bytes = own_hash;
  text_bytes = written_some (written_bytes own_text);
  tail_bytes = own_hash ++ written_null;
  whole = refl;
  hash = (refl, hash_len);
  text = some_spelled IsText (written_bytes own_text) own_text (texts_spelled own_text (omega (arith, text_len)) own_utf8);
  tail = (None, record { front = own_hash; back = written_null; whole = refl; first = (refl, hash_len); second = null_spelled IsMeta });
}

call_spelled : (events : List Content) → length events < 2 ^ 63 → AllByRecursion FitsMemory events → IsCall (batch_call events) (of_events events)
call_spelled events few fit = record {
  head = written_map [] ++ written_bytes append_batch;
  rest = written_batch events;
  name = append_batch;
  whole = sym (append_assoc (written_map []) (written_bytes append_batch) (written_batch events));
  named = ([], record { front = written_map []; back = written_bytes append_batch; whole = refl; first = no_meta; second = texts_spelled append_batch (omega arith) (ascii_text _ refl) });
  asks = Many events refl (batches_spelled events few fit);
}

large_none : {A : Type 0} (large : Option ℕ) → IsSome large → large ≡ None → A
large_none None s e = absurd cc
large_none (Some n) s e = absurd cc

taken : (first : Bool) (events : List Content) (asked : Asked) → first_large events ≡ None → IsAsked (opening first) (of_events events) asked → Takes first events (Ok asked) true
taken first events (Reply bytes) small a = large_none (first_large events) a.0 small
taken first events (Events front batch) small a = (front, batch, refl, a.0, a.1, refl)

-- the events of a call wait for their verdict
waits : (first : Bool) (events : List Content) (call : Call) (asked : Asked) (after : Bool) → first_large events ≡ None → call ≡ of_events events → IsAsked (opening first) call asked → after ≡ true → Takes first events (Ok asked) after
waits first events call asked after small is a made =
    subst (λ (b : Bool). Takes first events (Ok asked) b) (sym made) (taken first events asked small (subst (λ (k : Call). IsAsked (opening first) k asked) is a))

-- after this agent's handshake
record IsTaken (events : List Content) : Type 0 where
  pub few : length events < 2 ^ 63
  pub fit : AllByRecursion FitsMemory events
  pub small : first_large events ≡ None

later_taken : (events : List Content) (result : Result Asked HopRefused) (after : Bool) → IsTaken events → Answers true (batch_call events) result after → Takes false events result after ⊎ (result ≡ Err NoMemory)
later_taken events (Ok asked) after a p =
    let call = call_spelled events a.few a.fit in
    inl (waits false events p.0.0 asked after a.small (one_call_lem (batch_call events) p.0.0 (of_events events) p.0.1 call) p.0.2 p.1)
later_taken events (Err (BadHandshake at)) after a p = absurd (no_call_fault (batch_call events) (of_events events) p.0.0 (call_spelled events a.few a.fit) p.0.1)
later_taken events (Err OtherProtocol) after a p = absurd p
later_taken events (Err NoMemory) after a p = inr refl

-- the handshake is this agent's, and its call stands after it
abbrev IsOwn : List Content → List ℕ → Request → Type 0
IsOwn events rest r = (rest ≡ batch_call events) × (r ≡ own)

is_own : (events : List Content) (rest front : List ℕ) (r : Request) → own_request ++ batch_call events ≡ front ++ rest → IsRequest front r → IsOwn events rest r
is_own events rest front r whole i =
    let s = one_request own_request front (batch_call events) rest own r request_spelled i whole in
    (sym (rest_same own_request front (batch_call events) rest s.0 whole), sym s.1)

opened : (events : List Content) (rest : List ℕ) (m : Match) (asked : Asked) (after : Bool) → IsTaken events → rest ≡ batch_call events → IsMatch own m → Opens m rest asked after → Takes true events (Ok asked) after
opened events rest Both asked after a is m o =
    let call = subst (λ (t : List ℕ). IsCall t o.0.0) is o.0.1 in
    waits true events o.0.0 asked after a.small (one_call_lem (batch_call events) o.0.0 (of_events events) call (call_spelled events a.few a.fit)) o.0.2 o.1
opened events rest Client asked after a is m o = absurd (m.1 refl)
opened events rest Stranger asked after a is m o = absurd (m.0 refl)

no_first_fault : (events : List Content) (f : Fault) → IsTaken events → FirstFault (own_request ++ batch_call events) f → ⊥
no_first_fault events f a (InRequest h) = no_request_fault own_request (batch_call events) own f request_spelled h
no_first_fault events f a (InCall front rest r inner whole i known h e) =
    let is = is_own events rest front r whole i in
    no_call_fault (batch_call events) (of_events events) inner (call_spelled events a.few a.fit) (subst (λ (t : List ℕ). CallFault t inner) is.0 h)

first_taken : (events : List Content) (result : Result Asked HopRefused) (after : Bool) → IsTaken events → Answers false (own_request ++ batch_call events) result after → Takes true events result after ⊎ (result ≡ Err NoMemory)
first_taken events (Ok asked) after a p =
    let is = is_own events p.0 p.3.front p.1 p.3.whole p.3.request in
    inl (opened events p.0 p.2 asked after a is.0 (subst (λ (r : Request). IsMatch r p.2) is.1 p.4) p.5)
first_taken events (Err (BadHandshake at)) after a p = absurd (no_first_fault events p.0.0 a p.0.1)
first_taken events (Err OtherProtocol) after a p =
    let is = is_own events p.0.0 p.0.2.front p.0.1 p.0.2.whole p.0.2.request in
    absurd (p.0.3.0 (ap (λ (r : Request). r.hash) is.1))
first_taken events (Err NoMemory) after a p = inr refl

-- a server of this agent is asked for just these events
pub is_asked_for : IsAskedFor
is_asked_for true events result after few fit small p = first_taken events result after (record { few = few; fit = fit; small = none_large events small }) p
is_asked_for false events result after few fit small p = later_taken events result after (record { few = few; fit = fit; small = none_large events small }) p
