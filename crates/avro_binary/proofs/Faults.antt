-- Faults of a part are faults of the whole.
use Rattle.std.proofs.Common.{ℕ, ◌+◌, List, ◌++◌, length, drop, refl, sym, subst, arith}
use Rattle.avro_binary.specs.declared.refused.ValueRefused.{ValueRefused}
use Rattle.avro_binary.specs.declared.refused.ValueRefused.TheVariants.{Short, Bad, TooLarge, NoMemory}
use Rattle.avro_binary.specs.Fault.{Fault, Lacks, Wrong, shift, Behind}
use Rattle.avro_binary.specs.Reading.{part, IsPart, LacksAt, WrongAt, IsFault}
use Rattle.avro_binary.specs.Found.{IsRefusal}
use Rattle.avro_binary.proofs.Lists.{rest_part, length-part}

-- a fault after this front is one of the whole
abbrev pub Moves : (List ℕ → Fault → Type 0) → (List ℕ → Fault → Type 0) → List ℕ → Type 0
Moves Inner Outer front = (rest : List ℕ) (f : Fault) → Inner rest f → Outer (front ++ rest) (shift (length front) f)

moved_short : (Inner Outer : List ℕ → Fault → Type 0) (bytes : List ℕ) (at mid field need : ℕ) → IsPart bytes at mid → Moves Inner Outer (part bytes at mid) → LacksAt Inner bytes mid field need → LacksAt Outer bytes at field need
moved_short Inner Outer bytes at mid field need p moves f =
    let len = length-part bytes at mid p in
    let front = p.0 in
    let k = length (part bytes at mid) in
    (k + f.0, k + f.1, omega (arith, f.2), omega (arith, f.3), subst (λ (x : List ℕ). Outer x (Lacks (k + f.0) (k + f.1))) (sym (rest_part bytes at mid p)) (moves (drop mid bytes) (Lacks f.0 f.1) f.4))

moved_bad : (Inner Outer : List ℕ → Fault → Type 0) (bytes : List ℕ) (at mid field : ℕ) → IsPart bytes at mid → Moves Inner Outer (part bytes at mid) → WrongAt Inner bytes mid field → WrongAt Outer bytes at field
moved_bad Inner Outer bytes at mid field p moves f =
    let len = length-part bytes at mid p in
    let front = p.0 in
    (length (part bytes at mid) + f.0, omega (arith, f.1), subst (λ (x : List ℕ). Outer x (Wrong (length (part bytes at mid) + f.0))) (sym (rest_part bytes at mid p)) (moves (drop mid bytes) (Wrong f.0) f.2))

-- a fault of a part is one of the whole, counted from where the whole begins
pub moved : (Inner Outer : List ℕ → Fault → Type 0) (bytes : List ℕ) (at mid : ℕ) (e : ValueRefused) → IsPart bytes at mid → Moves Inner Outer (part bytes at mid) → IsFault Inner bytes mid e → IsFault Outer bytes at e
moved Inner Outer bytes at mid (Short field need) p moves f = moved_short Inner Outer bytes at mid field need p moves f
moved Inner Outer bytes at mid (Bad place) p moves f = moved_bad Inner Outer bytes at mid place p moves f
moved Inner Outer bytes at mid (TooLarge n end) p moves f = absurd f
moved Inner Outer bytes at mid NoMemory p moves f = absurd f

-- a refusal of a part is one of the whole, out of memory too
pub moved_refusal : (Inner Outer : List ℕ → Fault → Type 0) (bytes : List ℕ) (at mid : ℕ) (e : ValueRefused) → IsPart bytes at mid → Moves Inner Outer (part bytes at mid) → IsRefusal Inner bytes mid e → IsRefusal Outer bytes at e
moved_refusal Inner Outer bytes at mid (Short field need) p moves f = moved_short Inner Outer bytes at mid field need p moves f
moved_refusal Inner Outer bytes at mid (Bad place) p moves f = moved_bad Inner Outer bytes at mid place p moves f
moved_refusal Inner Outer bytes at mid (TooLarge n end) p moves f = absurd f
moved_refusal Inner Outer bytes at mid NoMemory p moves f = tt

-- a fault that takes no memory
pub refusal_of : (Faults : List ℕ → Fault → Type 0) (bytes : List ℕ) (at : ℕ) (e : ValueRefused) → IsFault Faults bytes at e → IsRefusal Faults bytes at e
refusal_of Faults bytes at (Short field need) f = f
refusal_of Faults bytes at (Bad place) f = f
refusal_of Faults bytes at (TooLarge n end) f = absurd f
refusal_of Faults bytes at NoMemory f = absurd f

-- a fault of the first field is one of the whole
pub same_place : (Inner Outer : List ℕ → Fault → Type 0) (bytes : List ℕ) (at : ℕ) (e : ValueRefused) → ((f : Fault) → Inner (drop at bytes) f → Outer (drop at bytes) f) → IsFault Inner bytes at e → IsFault Outer bytes at e
same_place Inner Outer bytes at (Short field need) widens f = (f.0, f.1, f.2, f.3, widens (Lacks f.0 f.1) f.4)
same_place Inner Outer bytes at (Bad place) widens f = (f.0, f.1, widens (Wrong f.0) f.2)
same_place Inner Outer bytes at (TooLarge n end) widens f = absurd f
same_place Inner Outer bytes at NoMemory widens f = absurd f

-- a refusal of the first field is one of the whole
pub same_place_refusal : (Inner Outer : List ℕ → Fault → Type 0) (bytes : List ℕ) (at : ℕ) (e : ValueRefused) → ((f : Fault) → Inner (drop at bytes) f → Outer (drop at bytes) f) → IsRefusal Inner bytes at e → IsRefusal Outer bytes at e
same_place_refusal Inner Outer bytes at (Short field need) widens f = (f.0, f.1, f.2, f.3, widens (Lacks f.0 f.1) f.4)
same_place_refusal Inner Outer bytes at (Bad place) widens f = (f.0, f.1, widens (Wrong f.0) f.2)
same_place_refusal Inner Outer bytes at (TooLarge n end) widens f = absurd f
same_place_refusal Inner Outer bytes at NoMemory widens f = tt

-- a value, and then a fault
pub behind : {V : Type 0} (Spells : List ℕ → V → Type 0) (Inner : List ℕ → Fault → Type 0) (front : List ℕ) (value : V) → Spells front value → Moves Inner (Behind Spells Inner) front
behind Spells Inner front value s rest f h = record {
  front = front;
  rest = rest;
  value = value;
  inner = f;
  whole = refl;
  spelled = s;
  fault = h;
  shifted = refl;
}
