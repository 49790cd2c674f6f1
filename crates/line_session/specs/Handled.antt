-- The lines of a session, and what became of them.
use Rattle.std.specs.Prelude.{◌≡◌, ℕ, List, [], ◌∷◌, map, Bool, false}
use Rattle.netcat_source.specs.declared.lines.LineVerdict.{LineVerdict}

pub record Handled : Type 0 where
  pub line : List ℕ
  pub verdict : LineVerdict

abbrev pub lines_of : List Handled → List (List ℕ)
lines_of done = map (λ (h : Handled). h.line) done

abbrev pub verdicts_of : List Handled → List LineVerdict
verdicts_of done = map (λ (h : Handled). h.verdict) done

-- a session goes on after a line with this verdict
abbrev pub GoesOn : (LineVerdict → Bool) → LineVerdict → Type 0
GoesOn stops verdict = stops verdict ≡ false

-- lines are taken one after another
abbrev pub TakesAll : {S : Type 0} → (S → List ℕ → LineVerdict → S → Type 0) → S → List Handled → S
    → Type 0
TakesAll Takes old [] new = new ≡ old
TakesAll {S} Takes old (h ∷ done) new =
    (next : S) × Takes old h.line h.verdict next × TakesAll Takes next done new
