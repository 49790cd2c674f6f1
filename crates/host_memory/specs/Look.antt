-- A list that is searched by a key.
use Rattle.std.specs.Prelude.{ℕ, suc, List, [], ◌∷◌, Option, Some, None, Bool, if◌then◌else◌}
use Rattle.std.specs.Option.{option_map}

-- the value of the first item of this key, or another value
abbrev pub look_up : {A K V : Type 0} → (K → K → Bool) → (A → K) → (A → V) → V → List A → K → V
look_up same key value other [] k = other
look_up same key value other (item ∷ items) k = if same k (key item) then value item else look_up same key value other items k

-- where it is
abbrev pub place_by : {A K : Type 0} → (K → K → Bool) → (A → K) → List A → K → Option ℕ
place_by same key [] k = None
place_by same key (item ∷ items) k = if same k (key item) then Some 0 else option_map (λ i. suc i) (place_by same key items k)
