-- Whose calls a history has.
use Rattle.std.specs.Prelude.{◌≡◌, ◌==◌, ◌||◌, ◌<◌, ℕ, List, [], ◌∷◌, Bool, true, false}
use Rattle.channel_face.specs.History.{Step}

-- the number is one of these
abbrev pub has : List ℕ → ℕ → Bool
has [] n = false
has (m ∷ ms) n = (m == n) || has ms n

-- no number is one of both
abbrev pub AreApart : List ℕ → List ℕ → Type 0
AreApart ns ms = (n : ℕ) → has ns n ≡ true → has ms n ≡ false

abbrev pub keep : Bool → Step → List Step → List Step
keep true step h = step ∷ h
keep false step h = h

-- the calls of the passes with these numbers, in order
abbrev pub calls_by : List ℕ → List Step → List Step
calls_by numbers [] = []
calls_by numbers (step ∷ h) = keep (has numbers step.pass) step (calls_by numbers h)

-- each call is of a pass whose number is below
abbrev pub Below : ℕ → List Step → Type 0
Below bound [] = Unit {0}
Below bound (step ∷ h) = (step.pass < bound) × Below bound h
