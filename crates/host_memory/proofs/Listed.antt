-- The list of the calls that are to fail, searched by their numbers, and what reading calls answer by it.
use Rattle.std.proofs.Common.{◌≡◌, ◌≢◌, ◌⊎◌, ◌↔◌, ◌<◌, ◌==◌, inl, inr, ℕ, List, length, take, get_or, suc, Option, Some, None, Result, Ok, Err, Bool, true, false, IsTrue, refl}
use Rattle.std.specs.Prelude.{IsErr}
use Rattle.flume_host.specs.declared.names.Failed.{Failed}
use Rattle.std.proofs.lemmas.Bool.{eqb-true, eq-eqb}
use Rattle.host_memory.specs.declared.mem_disk.DiskFault.{DiskFault}
use Rattle.host_memory.specs.declared.parts.Outcome.{Outcome}
use Rattle.host_memory.specs.declared.parts.Outcome.TheVariants.{Whole}
use Rattle.host_memory.specs.Faults.{cut_at, outcome_at}
use Rattle.host_memory.specs.Look.{place_by}
use Rattle.host_memory.proofs.Look as look

same_self : (a : ℕ) → (a == a) ≡ true
same_self a = eq-eqb a a refl

abbrev number_of : DiskFault → ℕ
number_of fault = fault.call

abbrev done_of : DiskFault → Outcome
done_of fault = cut_at fault.part

-- where the first fault of a call is
abbrev pub place : List DiskFault → ℕ → Option ℕ
place = place_by (λ a b. a == b) (λ fault. fault.call)

-- it is here
pub found : (faults : List DiskFault) (call i : ℕ) (d : DiskFault) → i < length faults → place (take i faults) call ≡ None → (call == (get_or faults i d).call) ≡ true → outcome_at faults call ≡ cut_at (get_or faults i d).part
found faults call i d below none is =
    (look.placed (λ a b. a == b) eqb-true same_self number_of done_of Whole faults call i (look.place_found (λ a b. a == b) eqb-true same_self number_of done_of Whole faults call i d below none is)).found d

-- it isn't here
pub more : (faults : List DiskFault) (call i : ℕ) (d : DiskFault) → i < length faults → place (take i faults) call ≡ None → (call == (get_or faults i d).call) ≡ false → place (take (suc i) faults) call ≡ None
more = look.place_more (λ a b. a == b) eqb-true same_self number_of done_of Whole

-- it is nowhere
pub unlisted : (faults : List DiskFault) (call : ℕ) → place faults call ≡ None → outcome_at faults call ≡ Whole
unlisted = look.not_placed (λ a b. a == b) eqb-true same_self number_of done_of Whole

-- a reading call that was to be whole and found its file
pub reads_file :
    {T : Type 0} (outcome : Outcome) (fails : Bool) (file : Option (List ℕ)) (bytes : List ℕ) (given : T) → (IsTrue fails ↔ (outcome ≢ Whole)) → fails ≡ false
    → file ≡ Some bytes → IsErr {E = Failed} (Ok given) ↔ ((outcome ≢ Whole) ⊎ (file ≡ None))
reads_file outcome fails file bytes given due is_whole is = (
  λ failed. cc,
  λ why. elim why [
    | inl cut ↦ let fails_is : fails ≡ true = due.1 cut in cc
    | inr gone ↦ cc
  ],
)

-- and one whose file is missing
pub misses_file : {T : Type 0} (outcome : Outcome) (file : Option (List ℕ)) (answer : Result T Failed) → answer ≡ Err (record {}) → file ≡ None → IsErr answer ↔ ((outcome ≢ Whole) ⊎ (file ≡ None))
misses_file outcome file answer is gone = (λ failed. inr gone, λ why. cc)
