-- The image that the choices name, one call after another.
use Rattle.std.proofs.Common.{◌≡◌, ◌≤◌, ◌+◌, ◌∙◌, ℕ, zero, suc, List, length, take, inl, inr, Option, Some, ap, add-one, arith}
use Rattle.std.proofs.lemmas.Bool.{cases_lt}
use Rattle.std.proofs.lemmas.Option.{slice_get_past}
use Rattle.std.specs.Prelude.{slice_get}
use Rattle.host_memory.specs.declared.parts.MemFile.{MemFile}
use Rattle.host_memory.specs.declared.parts.MemCall.{MemCall}
use Rattle.host_memory.specs.declared.stops.Stood.{Stood}
use Rattle.host_memory.specs.Parts.{call_of, told_of}
use Rattle.host_memory.specs.Stops.{image_after, image_by, image_chosen, image_torn, image_with, image_within}

module _ (stands : ℕ → Stood) (first : List MemFile) (calls : List MemCall) where
  -- after one call more
  pub image_after-next : (i : ℕ) (call : MemCall) → slice_get calls i ≡ Some call → image_after stands first calls (i + 1) ≡ image_by call.outcome (stands i) (call_of call.change) (told_of first (take i calls)).reads (image_after stands first calls i)
  image_after-next i call is =
      ap (λ (n : ℕ). image_after stands first calls n) (add-one i)
      ∙ ap (λ (c : Option MemCall). image_with (stands i) (told_of first (take i calls)).reads c (image_after stands first calls i)) is

  -- there is none after the last
  pub image_after-all : (n : ℕ) → length calls ≤ n → image_after stands first calls n ≡ image_after stands first calls (length calls)
  image_after-all zero all = ap (λ (k : ℕ). image_after stands first calls k) (let none : 0 ≡ length calls = omega (arith, all) in none)
  image_after-all (suc n) all = elim (cases_lt n (length calls)) [
    | inl last ↦ ap (λ (k : ℕ). image_after stands first calls k) (let same : suc n ≡ length calls = omega (arith, all, last) in same)
    | inr past ↦
        ap (λ (c : Option MemCall). image_with (stands n) (told_of first (take n calls)).reads c (image_after stands first calls n)) (slice_get_past calls n past)
        ∙ image_after-all n past
  ]

  -- a crash within a call
  pub chosen_within : (i : ℕ) (call : MemCall) → slice_get calls i ≡ Some call → image_chosen stands first calls i ≡ image_torn (stands i) (call_of call.change) (image_after stands first calls i)
  chosen_within i call is = ap (λ (c : Option MemCall). image_within (stands i) c (image_after stands first calls i)) is

  -- a crash after all calls
  pub chosen_after : (n : ℕ) → length calls ≤ n → image_chosen stands first calls n ≡ image_after stands first calls (length calls)
  chosen_after n all = ap (λ (c : Option MemCall). image_within (stands n) c (image_after stands first calls n)) (slice_get_past calls n all) ∙ image_after-all n all
