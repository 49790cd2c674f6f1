-- The walk over groups.
use Rattle.std.proofs.Common.{◌≡◌, ℕ, suc, ◌+◌, ◌-◌, ◌*◌, ◌^◌, ◌<◌, ◌≤◌, List, [], ◌∷◌, length, take, drop, refl, sym, subst, add-one, arith}
use Rattle.std.proofs.lemmas.List.{take-append-drop, length-take}
use Rattle.avro_binary.specs.declared.number.Groups.{Groups}
use Rattle.avro_binary.specs.declared.number.Groups.TheVariants.{Whole, Cut, TooLong, TooWide}
use Rattle.avro_binary.specs.Fault.{Lacks, Wrong}
use Rattle.avro_binary.specs.Number.{IsGroups, AllGoOn, NumberFault, IsNumber, GoesOn}
use Rattle.avro_binary.specs.Number as spec
use Rattle.avro_binary.specs.Groups.{IsFront, GroupsAre}

-- a byte that goes on, in front of a number's groups, gives the lowest seven bits
pub cons_groups : (b n : ℕ) (bytes : List ℕ) → 128 ≤ b → b < 256 → IsGroups bytes n → IsGroups (b ∷ bytes) (b - 128 + 128 * n)
cons_groups b n [] low high g = absurd g
cons_groups b n (c ∷ bytes) low high g = (low, high, n, omega arith, g)

-- one group more in front
pub more_front : (b : ℕ) (rest : List ℕ) (most n used : ℕ) → 128 ≤ b → b < 256 → 1 ≤ most → IsFront (most - 1) rest n used → IsFront most (b ∷ rest) (b - 128 + 128 * n) (used + 1)
more_front b rest most n used low high some f =
    let u = f.short in
    record {
      within = let w = f.within in omega arith;
      short = omega arith;
      some = omega arith;
      groups = rw add-one (cons_groups b n (take used rest) low high f.groups);
    }

-- a group in front of a number from 2^57 on makes it too wide
pub wide_front : (b : ℕ) (rest : List ℕ) (most n used : ℕ) → 128 ≤ b → b < 256 → 1 ≤ most → IsFront (most - 1) rest n used → 2 ^ 57 ≤ n → GroupsAre most (b ∷ rest) TooWide
wide_front b rest most n used low high some f wide = (b - 128 + 128 * n, used + 1, more_front b rest most n used low high some f, omega arith)

-- a group in front of what is no whole number leaves the same reason
pub more_found : (b : ℕ) (rest : List ℕ) (most : ℕ) (found : Groups) → 128 ≤ b → b < 256 → 1 ≤ most → GroupsAre (most - 1) rest found → ((n used : ℕ) → found ≡ Whole n used → ⊥) → GroupsAre most (b ∷ rest) found
more_found b rest most (Whole n used) low high some g other = absurd (other n used refl)
more_found b rest most Cut low high some g other = let l = g.1 in ((low, g.0), omega arith)
more_found b rest most TooLong low high some g other =
    let l = g.1 in
    let e : most ≡ suc (most - 1) = omega arith in
    let go : AllGoOn (take (suc (most - 1)) (b ∷ rest)) = (low, g.0) in
    (subst (λ (m : ℕ). AllGoOn (take m (b ∷ rest))) (sym e) go, omega arith)
more_found b rest most TooWide low high some g other = wide_front b rest most g.0 g.1 low high some g.2 (let h = g.3 in omega arith)

-- why there is no number
pub cut_fault : (most max : ℕ) (rest : List ℕ) → GroupsAre most rest Cut → NumberFault most max rest (Lacks 0 (length rest + 1))
cut_fault most max rest g = GoesOn g.0 g.1 refl

-- a number above the greatest is at fault at its first byte
pub large_fault : (most max : ℕ) (rest : List ℕ) (n used : ℕ) → IsFront most rest n used → max < n → NumberFault most max rest (Wrong 0)
large_fault most max rest n used f large =
    spec.TooWide (take used rest) (drop used rest) n (sym (take-append-drop used rest)) f.groups (let w = f.within in let s = f.short in omega (arith, length-take used rest)) large refl

-- groups that aren't whole and weren't cut are at fault at their first byte
pub other_fault : (most max : ℕ) (rest : List ℕ) (found : Groups) → max < 2 ^ 64 → GroupsAre most rest found → ((n used : ℕ) → found ≡ Whole n used → ⊥) → (found ≡ Cut → ⊥) → NumberFault most max rest (Wrong 0)
other_fault most max rest (Whole n used) small g whole cut = absurd (whole n used refl)
other_fault most max rest Cut small g whole cut = absurd (cut refl)
other_fault most max rest TooLong small g whole cut =
    spec.TooLong (take most rest) (drop most rest) (sym (take-append-drop most rest)) g.0 (let l = g.1 in omega (arith, length-take most rest)) refl
other_fault most max rest TooWide small g whole cut = large_fault most max rest g.0 g.1 g.2 (let h = g.3 in omega arith)
