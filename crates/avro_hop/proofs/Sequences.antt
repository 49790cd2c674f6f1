-- Fields one after another.
use Rattle.std.proofs.Common.{◌≡◌, ℕ, List, ◌++◌, drop, refl, sym, ap, ◌∙◌, append_assoc, arith, inl, inr}
use Rattle.std.specs.Prelude.{Some, ℤ, pos, Result, Ok, Err}
use Rattle.avro_binary.specs.declared.refused.ValueRefused.{ValueRefused}
use Rattle.avro_binary.specs.Fault.{Fault}
use Rattle.avro_binary.specs.Number.{IsInt, IntFault}
use Rattle.avro_binary.specs.Reading.{part, IsPart, IsFault, WrongAt, ReadsOver}
use Rattle.avro_binary.proofs.Lists.{join_parts, rest_part}
use Rattle.avro_binary.proofs.Blocks.{further}
use Rattle.avro_binary.proofs.Faults.{moved, same_place, behind}
use Rattle.avro_hop.specs.Parts.{IsPair, PairFault, IsOption, OptionFault, InIndex, OtherIndex, InValue}
use Rattle.avro_hop.specs.Told.{NoFault}

-- two values that were read one after the other
pub pair_at : {V W : Type 0} (First : List ℕ → V → Type 0) (Second : List ℕ → W → Type 0) (bytes : List ℕ) (at mid end : ℕ) (v : V) (w : W) → IsPart bytes at mid → IsPart bytes mid end → First (part bytes at mid) v → Second (part bytes mid end) w → IsPair First Second (part bytes at end) v w
pair_at First Second bytes at mid end v w p q a b = record {
  front = part bytes at mid;
  back = part bytes mid end;
  whole = sym (join_parts bytes at mid end p q);
  first = a;
  second = b;
}

-- the fault of the first of two values is that of both
pub first_fault : {V : Type 0} (First : List ℕ → V → Type 0) (FirstFault SecondFault : List ℕ → Fault → Type 0) (bytes : List ℕ) (at : ℕ) (e : ValueRefused) → IsFault FirstFault bytes at e → IsFault (PairFault First FirstFault SecondFault) bytes at e
first_fault First FirstFault SecondFault bytes at e f = same_place FirstFault (PairFault First FirstFault SecondFault) bytes at e (λ g h. inl h) f

-- a fault behind a first value that was read
pub second_fault : {V : Type 0} (First : List ℕ → V → Type 0) (FirstFault SecondFault : List ℕ → Fault → Type 0) (bytes : List ℕ) (at mid : ℕ) (v : V) (e : ValueRefused) → IsPart bytes at mid → First (part bytes at mid) v → IsFault SecondFault bytes mid e → IsFault (PairFault First FirstFault SecondFault) bytes at e
second_fault First FirstFault SecondFault bytes at mid v e p a f = moved SecondFault (PairFault First FirstFault SecondFault) bytes at mid e p (λ rest g h. inr (behind First SecondFault (part bytes at mid) v a rest g h)) f

-- ---- a value that may be missing

any_option : (Faults : List ℕ → Fault → Type 0) (bytes : List ℕ) (f : Fault) → OptionFault NoFault bytes f → OptionFault Faults bytes f
any_option Faults bytes f (InIndex h) = InIndex h
any_option Faults bytes f (OtherIndex front rest z whole i zero one e) = OtherIndex front rest z whole i zero one e
any_option Faults bytes f (InValue front rest inner whole i h e) = absurd h

-- a fault of the index is one of the whole, whatever value might follow
pub index_fault : (Faults : List ℕ → Fault → Type 0) (bytes : List ℕ) (at : ℕ) (e : ValueRefused) → IsFault (OptionFault NoFault) bytes at e → IsFault (OptionFault Faults) bytes at e
index_fault Faults bytes at e f = same_place (OptionFault NoFault) (OptionFault Faults) bytes at e (λ g h. any_option Faults (drop at bytes) g h) f

-- an index that is no whole int
pub int_fault : (bytes : List ℕ) (at : ℕ) (e : ValueRefused) → IsFault IntFault bytes at e → IsFault (OptionFault NoFault) bytes at e
int_fault bytes at e f = same_place IntFault (OptionFault NoFault) bytes at e (λ g h. InIndex h) f

-- an index that is neither that of null nor that of a value
pub other_index : (bytes : List ℕ) (at end : ℕ) (z : ℤ) → IsPart bytes at end → IsInt (part bytes at end) z → (z ≡ pos 0 → ⊥) → (z ≡ pos 1 → ⊥) → WrongAt (OptionFault NoFault) bytes at at
other_index bytes at end z p i zero one = (0, omega arith, OtherIndex (part bytes at end) (drop end bytes) z (rest_part bytes at end p) i zero one refl)

-- the value behind an index of 1 is at fault
pub value_fault : (Faults : List ℕ → Fault → Type 0) (bytes : List ℕ) (at mid : ℕ) (e : ValueRefused) → IsPart bytes at mid → IsInt (part bytes at mid) (pos 1) → IsFault Faults bytes mid e → IsFault (OptionFault Faults) bytes at e
value_fault Faults bytes at mid e p i f = moved Faults (OptionFault Faults) bytes at mid e p (λ rest g h. InValue (part bytes at mid) rest g refl i h refl) f

-- a value was passed over behind an index of 1, or is at fault
pub over_value : {V : Type 0} (Spells : List ℕ → V → Type 0) (Faults : List ℕ → Fault → Type 0) (bytes : List ℕ) (at mid : ℕ) (result : Result ℕ ValueRefused) → IsPart bytes at mid → IsInt (part bytes at mid) (pos 1) → ReadsOver Spells Faults bytes mid result → ReadsOver (IsOption Spells) (OptionFault Faults) bytes at result
over_value Spells Faults bytes at mid (Ok end) p i r = (further bytes at mid end p r.0, (Some r.1.0, pair_at IsInt Spells bytes at mid end (pos 1) r.1.0 p r.0 i r.1.1))
over_value Spells Faults bytes at mid (Err e) p i r = value_fault Faults bytes at mid e p i r

-- four parts one after another
pub four_parts : (start a b c d w x y z : List ℕ) → w ≡ start ++ a → x ≡ w ++ b → y ≡ x ++ c → z ≡ y ++ d → z ≡ start ++ (a ++ (b ++ (c ++ d)))
four_parts start a b c d w x y z e f g h = h ∙ ap (λ (t : List ℕ). t ++ d) (g ∙ ap (λ (t : List ℕ). t ++ c) (f ∙ ap (λ (t : List ℕ). t ++ b) e)) ∙ simp append_assoc
