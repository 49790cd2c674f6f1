-- From the parts of a call to the call.
use Rattle.std.proofs.Common.{◌≡◌, ℕ, ◌+◌, true, false, List, [], ◌∷◌, length, drop, refl, sym, ap, subst, ◌∙◌, arith, Bor}
use Rattle.std.specs.Prelude.{Result, Ok, Err, ◌==◌}
use Rattle.std.specs.Str.{bytes_eq}
use Rattle.std.proofs.lemmas.Bool.{eqb-true}
use Rattle.std.proofs.lemmas.Slice.Eq.{bytes_eq-Decides}
use Rattle.event_core.specs.Content.{Content}
use Rattle.avro_binary.specs.declared.refused.ValueRefused.{ValueRefused}
use Rattle.avro_binary.specs.declared.refused.ValueRefused.TheVariants.{Short, Bad, TooLarge, NoMemory}
use Rattle.avro_binary.specs.Fault.{Fault, Lacks, Wrong, shift}
use Rattle.avro_binary.specs.Value.{IsText, TextFault}
use Rattle.avro_binary.specs.Items.{IsMeta, MetaFault}
use Rattle.avro_binary.specs.Event.{IsEvent, EventFault, IsBatch, BatchFault}
use Rattle.avro_binary.specs.Reading.{part, IsPart, IsFault, Reads}
use Rattle.avro_binary.proofs.Lists.{rest_part, length-part}
use Rattle.avro_binary.proofs.Blocks.{further}
use Rattle.avro_hop.specs.declared.call.Unread.{Unread}
use Rattle.avro_hop.specs.declared.call.Unread.TheVariants.{At, Large}
use Rattle.avro_hop.specs.declared.call.Unread.TheVariants as unread
use Rattle.avro_hop.specs.declared.hop.Asked.{Asked}
use Rattle.avro_hop.specs.declared.hop.Asked.TheVariants.{Reply, Events}
use Rattle.avro_hop.specs.declared.hop.HopRefused.{HopRefused}
use Rattle.avro_hop.specs.declared.hop.HopRefused.TheVariants as hops
use Rattle.avro_hop.specs.Parts.{WholeFault, place}
use Rattle.avro_hop.specs.Calls.{append, append_batch, Call, Nothing, Other, Takes, IsHead, HeadFault, IsOne, Asks, Empty, Strange, One, Many, ParameterFault, OfOne, OfMany, IsCall, InHead, InParameter}
use Rattle.avro_hop.specs.Parameters.{ReadsAll, AsksFor, CallsAt}
use Rattle.avro_hop.specs.Refusal.{IsPlaceOf}
use Rattle.avro_hop.proofs.Sequences.{pair_at, second_fault}

-- a fault that is moved back stands further behind by as much
pub place-shift : (n : ℕ) (f : Fault) → place (shift n f) ≡ n + place f
place-shift n (Lacks at need) = refl
place-shift n (Wrong at) = refl

-- the metadata's end, and the name after it
pub head_of : (bytes : List ℕ) (at mid : ℕ) (meta : List (List ℕ × List ℕ)) (result : Result (Bor (List ℕ) × ℕ) ValueRefused) → IsPart bytes at mid → IsMeta (part bytes at mid) meta → Reads (λ (s : Bor (List ℕ)). s.now) IsText TextFault bytes mid result → Reads (λ (s : Bor (List ℕ)). s.now) IsHead HeadFault bytes at result
head_of bytes at mid meta (Ok found) p m r =
    (further bytes at mid found.1 p r.0, (meta, pair_at IsMeta IsText bytes at mid found.1 meta found.0.now p r.0 m r.1))
head_of bytes at mid meta (Err e) p m r = second_fault IsMeta MetaFault TextFault bytes at mid meta e p m r

-- a call whose head is at fault is refused at the fault's place
pub head_fault : (front bytes : List ℕ) (at place_of : ℕ) (e : ValueRefused) → IsFault HeadFault bytes at e → IsPlaceOf e place_of → CallsAt front bytes at (Err (hops.BadHandshake place_of))
head_fault front bytes at place_of (Short field need) f p = (Lacks f.0 f.1, InHead f.4, p ∙ f.2)
head_fault front bytes at place_of (Bad field) f p = (Wrong f.0, InHead f.2, p ∙ f.1)
head_fault front bytes at place_of (TooLarge n end) f p = absurd f
head_fault front bytes at place_of NoMemory f p = absurd f

call_of : (bytes : List ℕ) (at mid : ℕ) (name : List ℕ) (call : Call) → IsPart bytes at mid → IsHead (part bytes at mid) name → Asks name (drop mid bytes) call → IsCall (drop at bytes) call
call_of bytes at mid name call p h a = record {
  head = part bytes at mid;
  rest = drop mid bytes;
  name = name;
  whole = rest_part bytes at mid p;
  named = h;
  asks = a;
}

-- a name without bytes is the empty name
pub empty_of : (name : List ℕ) → (length name == 0) ≡ true → name ≡ []
empty_of [] e = refl
empty_of (c ∷ name) e = absurd (let h = eqb-true (length (c ∷ name)) 0 e in omega arith)

-- a call with an empty name, which only ends a handshake
pub empty_call : (front bytes : List ℕ) (at mid : ℕ) (name : List ℕ) → IsPart bytes at mid → IsHead (part bytes at mid) name → name ≡ [] → IsCall (drop at bytes) Nothing
empty_call front bytes at mid name p h e = call_of bytes at mid name Nothing p h (Empty e)

-- a call whose name is no message of the protocol
pub strange_call : (bytes : List ℕ) (at mid : ℕ) (name : List ℕ) → IsPart bytes at mid → IsHead (part bytes at mid) name → (length name == 0) ≡ false → bytes_eq name append ≡ false → bytes_eq name append_batch ≡ false → IsCall (drop at bytes) Other
strange_call bytes at mid name p h some one many =
    call_of bytes at mid name Other p h (Strange
    (λ e. let z : (length name == 0) ≡ true = ap (λ (n : List ℕ). length n == 0) e in cc)
    (λ e. let z = (bytes_eq-Decides name append).1 e in cc)
    (λ e. let z = (bytes_eq-Decides name append_batch).1 e in cc))

-- the fault of a parameter is one of the call
parameter_place : (front bytes : List ℕ) (at mid field : ℕ) (name : List ℕ) (f : Fault) → IsPart bytes at mid → IsHead (part bytes at mid) name → ParameterFault name (drop mid bytes) f → field ≡ mid + place f → CallsAt front bytes at (Err (hops.BadHandshake field))
parameter_place front bytes at mid field name f p h q e =
    let len = length-part bytes at mid p in
    let l = p.0 in
    let k = length (part bytes at mid) in
    (shift k f, InParameter (part bytes at mid) (drop mid bytes) name f (rest_part bytes at mid p) h q refl, omega (arith, place-shift k f))

-- a call of some message, from what its parameter was read as
pub parameter_call : (All : List ℕ → List Content → Type 0) (Faults : List ℕ → Fault → Type 0) (front bytes : List ℕ) (at mid : ℕ) (name : List ℕ) (events : Result (List Content) Unread) (result : Result Asked HopRefused) → IsPart bytes at mid → IsHead (part bytes at mid) name → ((es : List Content) → All (drop mid bytes) es → Asks name (drop mid bytes) (Takes es)) → ((f : Fault) → Faults (drop mid bytes) f → ParameterFault name (drop mid bytes) f) → ReadsAll All Faults bytes mid events → AsksFor front events result → CallsAt front bytes at result
parameter_call All Faults front bytes at mid name (Ok es) (Ok (Events front' batch)) p h asks faults r a = (Takes es, call_of bytes at mid name (Takes es) p h (asks es r.0), (a.0, a.1, r.1))
parameter_call All Faults front bytes at mid name (Ok es) (Ok (Reply payload)) p h asks faults r a = absurd a
parameter_call All Faults front bytes at mid name (Ok es) (Err e) p h asks faults r a = absurd a
parameter_call All Faults front bytes at mid name (Err Large) (Ok (Reply payload)) p h asks faults r a = (Takes r.0, call_of bytes at mid name (Takes r.0) p h (asks r.0 r.1), (r.2, a))
parameter_call All Faults front bytes at mid name (Err Large) (Ok (Events front' batch)) p h asks faults r a = absurd a
parameter_call All Faults front bytes at mid name (Err Large) (Err e) p h asks faults r a = subst (λ (x : HopRefused). CallsAt front bytes at (Err x)) (sym a) tt
parameter_call All Faults front bytes at mid name (Err (At field)) result p h asks faults r a =
    subst (λ (x : Result Asked HopRefused). CallsAt front bytes at x) (sym a) (parameter_place front bytes at mid field name r.0 p h (faults r.0 r.1) r.2)
parameter_call All Faults front bytes at mid name (Err unread.NoMemory) result p h asks faults r a =
    subst (λ (x : Result Asked HopRefused). CallsAt front bytes at x) (sym a) tt

-- names whose bytes compare equal are the same
pub named : (name text : List ℕ) → bytes_eq name text ≡ true → name ≡ text
named name text e = (bytes_eq-Decides name text).0 e

-- a call of append, from what its event was read as
pub one_call : (front bytes : List ℕ) (at mid : ℕ) (name : List ℕ) (events : Result (List Content) Unread) (result : Result Asked HopRefused) → IsPart bytes at mid → IsHead (part bytes at mid) name → bytes_eq name append ≡ true → ReadsAll IsOne (WholeFault IsEvent EventFault) bytes mid events → AsksFor front events result → CallsAt front bytes at result
one_call front bytes at mid name events result p h e r a =
    let n = named name append e in
    parameter_call IsOne (WholeFault IsEvent EventFault) front bytes at mid name events result p h (λ es s. One es n s) (λ f g. OfOne n g) r a

-- a call of appendBatch, from what its events were read as
pub many_call : (front bytes : List ℕ) (at mid : ℕ) (name : List ℕ) (events : Result (List Content) Unread) (result : Result Asked HopRefused) → IsPart bytes at mid → IsHead (part bytes at mid) name → bytes_eq name append_batch ≡ true → ReadsAll IsBatch (WholeFault IsBatch BatchFault) bytes mid events → AsksFor front events result → CallsAt front bytes at result
many_call front bytes at mid name events result p h e r a =
    let n = named name append_batch e in
    parameter_call IsBatch (WholeFault IsBatch BatchFault) front bytes at mid name events result p h (λ es s. Many es n s) (λ f g. OfMany n g) r a
