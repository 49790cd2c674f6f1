-- Members that are tried one after the other.
use Rattle.std.proofs.Common.{◌≡◌, ◌∙◌, ◌<◌, ap, sym, refl, length, get_or, set, ℕ, ◌≤◌, List, [], ◌∷◌, ◌++◌, Bool, true, false, Result, Err, arith}
use Rattle.std.specs.List.{sum_by}
use Rattle.std.proofs.lemmas.List.Sums.{sum_by-set}
use Rattle.event_core.specs.Content.{Content}
use Rattle.plug_in.specs.declared.sink.SinkRefused.{SinkRefused}
use Rattle.plug_in.specs.declared.sink.SinkRefused.TheVariants as sink
use Rattle.sink_groups.specs.Scheduler.{Group, reported, cools}
use Rattle.sink_groups.specs.Deliveries.{Handed, AreRefused, all_failed}

-- one more member refused the batch
pub refused_more : {S : Type 0} (delivers : S → List Content → ℕ → Result (Unit {0}) SinkRefused → S → Type 0) (batch : List Content) (now member : ℕ) (tried : List ℕ) (old mid new : List S) → AreRefused delivers batch now tried old mid → Handed delivers batch now member (Err sink.Refused) mid new → AreRefused delivers batch now (tried ++ member ∷ []) old new
refused_more delivers batch now member [] old mid new before handed = (new, rw (sym before) handed, refl)
refused_more delivers batch now member (first ∷ tried) old mid new before handed = (before.0, before.1, refused_more delivers batch now member tried before.0 mid new before.2 handed)

-- one member more that failed is reported after the others
pub failed_more : (g : Group) (tried : List ℕ) (member now : ℕ) → all_failed g (tried ++ member ∷ []) now ≡ reported (all_failed g tried now) member false now
failed_more g [] member now = refl
failed_more g (first ∷ tried) member now = failed_more (reported g first false now) tried member now

-- a report changes nothing of which members are due
pub reported_due : (g : Group) (due : List ℕ) (member now : ℕ) (ok : Bool) → reported (record g { due = due }) member ok now ≡ record (reported g member ok now) { due = due }
reported_due g due member now ok = by_cools (cools g.kind g.backoff) refl
  where
    by_cools : (b : Bool) → cools g.kind g.backoff ≡ b → reported (record g { due = due }) member ok now ≡ record (reported g member ok now) { due = due }
    by_cools true is = rw is refl
    by_cools false is = rw is refl

-- a group whose next member failed
pub record Failed (g at after : Group) (tried : List ℕ) (member now : ℕ) : Type 0 where
  pub due : after.due ≡ at.due
  pub group : after ≡ record (all_failed g (tried ++ member ∷ []) now) { due = after.due }

-- after the next member failed, the group is as after all that failed, but for which are due
pub failed_next : (g before at after : Group) (tried : List ℕ) (member now : ℕ) → before ≡ record (all_failed g tried now) { due = before.due } → at ≡ record before { due = at.due } → after ≡ reported at member false now → Failed g at after tried member now
failed_next g before at after tried member now so_far next is =
    let all = all_failed g tried now in
    let here : at ≡ record all { due = at.due } = next ∙ ap (λ (x : Group). record x { due = at.due }) so_far in
    let then : after ≡ record (reported all member false now) { due = at.due } = is ∙ ap (λ (x : Group). reported x member false now) here ∙ reported_due all at.due member now false in
    let due : after.due ≡ at.due = ap (λ (x : Group). x.due) then in
    record { due = due; group = then ∙ ap (λ (x : Group). record x { due = at.due }) (sym (failed_more g tried member now)) ∙ ap (λ (d : List ℕ). record (all_failed g (tried ++ member ∷ []) now) { due = d }) (sym due) }

-- a member's count did not fall, so the sum did not
pub sum_later : {S : Type 0} (count : S → ℕ) (members : List S) (member : ℕ) (was is : S) → member < length members → was ≡ get_or members member was → count was ≤ count is → sum_by count members ≤ sum_by count (set members member is)
sum_later count members member was is within here later =
    omega (arith, sum_by-set count members member is was within, ap count here, later)
