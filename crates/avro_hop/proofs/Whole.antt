-- Values with no byte after them.
use Rattle.std.proofs.Common.{◌≡◌, ℕ, ◌+◌, ◌-◌, ◌<◌, ◌≤◌, Bool, cond, List, [], ◌∷◌, length, drop, refl, sym, ap, subst, arith, inl, inr}
use Rattle.std.specs.Prelude.{Option, Some, None, IsSome, Err}
use Rattle.std.proofs.lemmas.Bool.{cases_lt, le-ltb, lt-ltb}
use Rattle.std.proofs.lemmas.List.{take_all, length-drop}
use Rattle.event_core.specs.Content.{Content, size}
use Rattle.avro_binary.specs.declared.refused.ValueRefused.{ValueRefused}
use Rattle.avro_binary.specs.declared.refused.ValueRefused.TheVariants.{Short, Bad, TooLarge, NoMemory}
use Rattle.avro_binary.specs.Fault.{Fault, Lacks, Wrong}
use Rattle.avro_binary.specs.Event.{IsEvent, EventFault, IsBatch, BatchFault, ReadsEvent, ReadsBatch, first_large, max_size}
use Rattle.avro_binary.specs.Reading.{part, IsPart, LacksAt, WrongAt}
use Rattle.avro_binary.proofs.Lists.{rest_part, length-part}
use Rattle.avro_hop.specs.declared.call.Unread.{Unread}
use Rattle.avro_hop.specs.declared.call.Unread.TheVariants.{At, Large}
use Rattle.avro_hop.specs.Parts.{WholeFault, place}
use Rattle.avro_hop.specs.Calls.{IsOne}
use Rattle.avro_hop.specs.Parameters.{ReadsAll, unread_of}

-- a part up to the end
pub part_all : (bytes : List ℕ) (at end : ℕ) → length bytes ≤ end → part bytes at end ≡ drop at bytes
part_all bytes at end past = take_all (end - at) (drop at bytes) (omega (arith, length-drop at bytes))

-- a fault of the bytes from an offset on, and where it is
abbrev pub IsFaultAt : (List ℕ → Fault → Type 0) → List ℕ → ℕ → ℕ → Type 0
IsFaultAt Faults bytes at field = (f : Fault) × Faults (drop at bytes) f × (field ≡ at + place f)

-- a byte that is left after a value is at fault
pub trailing : {V : Type 0} (Spells : List ℕ → V → Type 0) (Faults : List ℕ → Fault → Type 0) (bytes : List ℕ) (at end : ℕ) (v : V) → IsPart bytes at end → end < length bytes → Spells (part bytes at end) v → IsFaultAt (WholeFault Spells Faults) bytes at end
trailing Spells Faults bytes at end v p before s =
    let len = length-part bytes at end p in
    let front = p.0 in (
      Wrong (length (part bytes at end)),
      inr (record {
        front = part bytes at end;
        rest = drop end bytes;
        value = v;
        whole = rest_part bytes at end p;
        some = omega (arith, length-drop end bytes);
        spelled = s;
        at = refl;
      }),
      omega arith,
    )

lacks_whole : {V : Type 0} (Spells : List ℕ → V → Type 0) (Faults : List ℕ → Fault → Type 0) (bytes : List ℕ) (at field need : ℕ) → LacksAt Faults bytes at field need → IsFaultAt (WholeFault Spells Faults) bytes at field
lacks_whole Spells Faults bytes at field need f = (Lacks f.0 f.1, inl f.4, f.2)

wrong_whole : {V : Type 0} (Spells : List ℕ → V → Type 0) (Faults : List ℕ → Fault → Type 0) (bytes : List ℕ) (at field : ℕ) → WrongAt Faults bytes at field → IsFaultAt (WholeFault Spells Faults) bytes at field
wrong_whole Spells Faults bytes at field f = (Wrong f.0, inl f.2, f.1)

abbrev chosen : Bool → ℕ → Unread
chosen b end = cond b (At end) Large

-- too large an event, with a byte after it or none
behind_it : (All : List ℕ → List Content → Type 0) (Faults : List ℕ → Fault → Type 0) (bytes : List ℕ) (at n end : ℕ) → (end < length bytes → IsFaultAt Faults bytes at end) → (length bytes ≤ end → (events : List Content) × All (drop at bytes) events × IsSome (first_large events)) → ReadsAll All Faults bytes at (Err (unread_of (length bytes) (TooLarge n end)))
behind_it All Faults bytes at n end more none =
    elim (cases_lt end (length bytes)) [
      | inl lt ↦ subst (λ (b : Bool). ReadsAll All Faults bytes at (Err (chosen b end))) (sym (lt-ltb end (length bytes) lt)) (more lt)
      | inr le ↦ subst (λ (b : Bool). ReadsAll All Faults bytes at (Err (chosen b end))) (sym (le-ltb end (length bytes) le)) (none le)
    ]

some_large : (large : Option ℕ) (n : ℕ) → large ≡ Some n → IsSome large
some_large None n e = absurd cc
some_large (Some m) n e = refl

abbrev choice : Bool → ℕ → Option ℕ
choice b n = cond b (Some n) None

one_large : (event : Content) → max_size < size event → IsSome (first_large (event ∷ []))
one_large event large = some_large (first_large (event ∷ [])) (size event) (ap (λ (b : Bool). choice b (size event)) (lt-ltb max_size (size event) large))

-- what a call of one event comes to where its event was refused
pub event_refused : (bytes : List ℕ) (at : ℕ) (e : ValueRefused) → ReadsEvent bytes at (Err e) → ReadsAll IsOne (WholeFault IsEvent EventFault) bytes at (Err (unread_of (length bytes) e))
event_refused bytes at (Short field need) r = lacks_whole IsEvent EventFault bytes at field need r
event_refused bytes at (Bad field) r = wrong_whole IsEvent EventFault bytes at field r
event_refused bytes at (TooLarge n end) r =
    behind_it IsOne (WholeFault IsEvent EventFault) bytes at n end
    (λ before. trailing IsEvent EventFault bytes at end r.0 r.1 before r.2)
    (λ past. (r.0 ∷ [], (r.0, subst (λ (x : List ℕ). IsEvent x r.0) (part_all bytes at end past) r.2, refl), one_large r.0 (subst (λ (k : ℕ). max_size < k) r.3 r.4)))
event_refused bytes at NoMemory r = tt

-- what a call of a batch comes to where its events were refused
pub batch_refused : (bytes : List ℕ) (at : ℕ) (e : ValueRefused) → ReadsBatch bytes at (Err e) → ReadsAll IsBatch (WholeFault IsBatch BatchFault) bytes at (Err (unread_of (length bytes) e))
batch_refused bytes at (Short field need) r = lacks_whole IsBatch BatchFault bytes at field need r
batch_refused bytes at (Bad field) r = wrong_whole IsBatch BatchFault bytes at field r
batch_refused bytes at (TooLarge n end) r =
    behind_it IsBatch (WholeFault IsBatch BatchFault) bytes at n end
    (λ before. trailing IsBatch BatchFault bytes at end r.0 r.1 before r.2)
    (λ past. (r.0, subst (λ (x : List ℕ). IsBatch x r.0) (part_all bytes at end past) r.2, some_large (first_large r.0) n r.3))
batch_refused bytes at NoMemory r = tt
