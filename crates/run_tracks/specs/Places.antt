-- Where the ports of a worker belong.
use Rattle.std.specs.Prelude.{ℕ, List, [], ◌∷◌, slice_index_or}
use Rattle.atomic_table.specs.Seated.{TableId}
use Rattle.shared_channel.specs.Passes.{Known}
use Rattle.two_channels.specs.Shares.{IsPortOf}
use Rattle.two_channels.specs.declared.port.EitherPort.{EitherPort}
use Rattle.two_channels.specs.declared.shared.EitherShared.{EitherShared}
use Rattle.run_tracks.specs.Homes.{IsAt, TookAt}

-- each thing with that at its place
abbrev pub Zips : {A B : Type 0} → (A → B → Type 0) → List A → List B → Type 0
Zips R [] [] = Unit {0}
Zips R [] (b ∷ ys) = ⊥
Zips R (a ∷ xs) [] = ⊥
Zips R (a ∷ xs) (b ∷ ys) = R a b × Zips R xs ys

-- each port's pass is of the channel at its place
abbrev pub AreAt : {S F : Type 0} → (S → TableId) → List S → (F → Known) → List ℕ → List F → Type 0
AreAt table shares pass channels ports = Zips (λ place port. IsAt table shares place (pass port)) channels ports

-- each port is of the kind of the channel at its place
abbrev pub AreKinds : {R A B : Type 0} → List (EitherShared A B) → List ℕ → List (EitherPort R A B) → Type 0
AreKinds {R} {A} {B} shares channels ports =
    Zips (λ place port. (d : EitherShared A B) → IsPortOf (slice_index_or shares place d) port) channels ports

-- each port's pass was taken in at home
abbrev pub TookEach : {F : Type 0} → List Known → (F → Known) → List ℕ → List F → Type 0
TookEach homes pass channels ports = Zips (λ place port. TookAt homes place (pass port)) channels ports
