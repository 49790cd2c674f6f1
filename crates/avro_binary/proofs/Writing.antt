-- What is written.
use Rattle.std.proofs.Common.{◌≡◌, ℕ, suc, ◌+◌, ◌-◌, ◌/◌, ◌%◌, ◌<◌, ◌≤◌, Bool, cond, List, [], ◌∷◌, ◌++◌, length, get_or, take, refl, sym, ap, ◌∙◌, append_assoc, arith}
use Rattle.std.specs.List.{flat_map}
use Rattle.std.proofs.lemmas.Bool.{le-ltb, lt-ltb}
use Rattle.std.proofs.lemmas.List.{append-nil, take_more}
use Rattle.std.specs.Prelude.{pos, slice_get, Some}
use Rattle.std.proofs.lemmas.Option.{slice_get_within, get_or_from_slice_get}
use Rattle.std.proofs.lemmas.Grind.{flat_map-append}
use Rattle.avro_binary.specs.Written.{written_groups, written_number, written_items}

abbrev chosen : Bool → ℕ → List ℕ → List ℕ
chosen b n more = cond b (n ∷ []) more

-- with no group left nothing is written
pub groups_none : (n : ℕ) → written_groups 0 n ≡ []
unfolding written_groups
groups_none n = refl

-- a number of one group ends the groups
pub groups_last : (k n : ℕ) → n < 128 → written_groups (suc k) n ≡ n ∷ []
unfolding written_groups
groups_last k n small = ap (λ (b : Bool). chosen b n ((n % 128 + 128) ∷ written_groups k (n / 128))) (lt-ltb n 128 small)

-- a greater number gives its lowest seven bits and goes on
pub groups_more : (k n : ℕ) → 128 ≤ n → written_groups (suc k) n ≡ (n % 128 + 128) ∷ written_groups k (n / 128)
unfolding written_groups
groups_more k n large = ap (λ (b : Bool). chosen b n ((n % 128 + 128) ∷ written_groups k (n / 128))) (le-ltb n 128 large)

-- a step of the loop over groups
pub last_group : (into after : List ℕ) (i n : ℕ) (goal : List ℕ) → i < 10 → n < 128 → after ≡ into ++ n ∷ [] → into ++ written_groups (10 - i) n ≡ goal → after ≡ goal
last_group into after i n goal within small e h =
    let k : 10 - i ≡ suc (9 - i) = omega arith in
    e ∙ ap (λ (x : List ℕ). into ++ x) (sym (groups_last (9 - i) n small) ∙ ap (λ (m : ℕ). written_groups m n) (sym k)) ∙ h

-- a group that isn't the last leaves the rest of the number to write
pub next_group : (into after : List ℕ) (i n : ℕ) (goal : List ℕ) → i < 10 → 128 ≤ n → after ≡ into ++ (n % 128 + 128) ∷ [] → into ++ written_groups (10 - i) n ≡ goal → after ++ written_groups (10 - (i + 1)) (n / 128) ≡ goal
next_group into after i n goal within large e h =
    let k : 10 - i ≡ suc (10 - (i + 1)) = omega arith in
    let more = ap (λ (m : ℕ). written_groups m n) k ∙ groups_more (10 - (i + 1)) n large in
    ap (λ (x : List ℕ). x ++ written_groups (10 - (i + 1)) (n / 128)) e ∙ append_assoc into ((n % 128 + 128) ∷ []) (written_groups (10 - (i + 1)) (n / 128)) ∙ ap (λ (x : List ℕ). into ++ x) (sym more) ∙ h

-- after ten groups all is written
pub no_groups : (into : List ℕ) (i n : ℕ) (goal : List ℕ) → 10 ≤ i → into ++ written_groups (10 - i) n ≡ goal → into ≡ goal
no_groups into i n goal past h =
    let k : 10 - i ≡ 0 = omega arith in
    sym (append-nil into) ∙ ap (λ (x : List ℕ). into ++ x) (sym (groups_none n) ∙ ap (λ (m : ℕ). written_groups m n) (sym k)) ∙ h

-- some items are one block
pub some_written : {V : Type 0} (written : V → List ℕ) (values : List V) → 0 < length values → written_items written values ≡ written_number (pos (length values)) ++ (flat_map written values ++ 0 ∷ [])
some_written written [] some = absurd (omega arith)
some_written written (value ∷ values) some = refl

-- no items are written as a count of 0
pub none_written : {V : Type 0} (written : V → List ℕ) (values : List V) → length values ≡ 0 → written_items written values ≡ 0 ∷ []
none_written written [] none = refl
none_written written (value ∷ values) none = absurd (omega arith)

-- one value more of a list
pub taken_more : {V : Type 0} (written : V → List ℕ) (values : List V) (i : ℕ) (value : V) → slice_get values i ≡ Some value → flat_map written (take (i + 1) values) ≡ flat_map written (take i values) ++ written value
taken_more {V} written values i value e =
    let first : get_or values i value ≡ value = get_or_from_slice_get values i value value e in
    let more : take (i + 1) values ≡ take i values ++ get_or values i value ∷ [] = take_more values i value (slice_get_within values i value e) in
    ap (flat_map written) (more ∙ ap (λ (v : V). take i values ++ v ∷ []) first) ∙ flat_map-append written (take i values) (value ∷ []) ∙ ap (λ (x : List ℕ). flat_map written (take i values) ++ x) (append-nil (written value))
