-- Coming to stand before a record.
use Rattle.std.proofs.Common.{◌≡◌, ◌<◌, ◌≤◌, inl, inr, ℕ, Bool, true, false, List, [], length, take, drop, Option, Some, None, Result, Ok, Err, IfOk, IfErr, OnOk, ◌+◌, refl, sym, ◌∙◌, ap, subst, arith}
use Rattle.std.proofs.lemmas.List.{drop_all, length-take}
use Rattle.flume_host.specs.Told.{Told}
use Rattle.record_form.specs.declared.record.Rec.{Rec}
use Rattle.channel_log.specs.declared.loading.FrameRefused.{FrameRefused}
use Rattle.channel_log.specs.declared.loading.FrameRefused.TheVariants as refusals
use Rattle.channel_log.proofs.Given.{are_records}
use Rattle.channel_log.proofs.Remaining.{below, entered, ended, broken, reads_ahead}
use Rattle.channel_log.specs.Reader.{AfterOpen, AreRecords, Gives, HasFile, IfTrue, IsAhead, IsEntered, IsFront, IsLoaded, OpensNone, Reader, Remains, Stands, WhereBad}

-- nothing is held after the frame's end
pub empty_held : (place stop : ℕ) (read : List ℕ) → stop ≤ place → drop place (take stop read) ≡ []
empty_held place stop read past = drop_all place (take stop read) (omega (arith, past, length-take stop read))

-- a reader that entered a frame holds records and their END
pub enters_held : (r : Result Bool FrameRefused) (old new : Reader) → IfOk r (λ found. IfTrue found (IsEntered old new)) → IfOk r (λ found. IfTrue found (AreRecords new.held))
enters_held (Ok true) old new is = are_records new.held is.frame
enters_held (Ok false) old new is = tt
enters_held (Err e) old new is = tt

-- what remains after the reader has sought the next frame
pub enters_stands : (r : Result Bool FrameRefused) (old new : Reader) (told : Option Told) → old.held ≡ []
    → IfOk r (λ found. IfTrue found (IsEntered old new)) → IfOk r (λ found. found ≡ false → new ≡ record old { ahead = new.ahead })
    → OnOk r ((bytes : List ℕ) → HasFile told old.file bytes → IsAhead old bytes → IsAhead new bytes)
    → IfOk r (λ found. old.blank ≡ false → old.at < old.size → (bytes : List ℕ) → HasFile told old.file bytes → IsAhead old bytes → IsLoaded found (drop old.at bytes) new.held)
    → IfOk r (λ found. old.blank ≡ true → found ≡ false)
    → IfOk r (λ found. (bytes : List ℕ) (items : List (Rec × ℕ)) (fault : Option ℕ) → HasFile told old.file bytes → Remains old bytes items fault → Stands found new bytes items fault)
enters_stands (Ok true) old new told empty is stays front loaded over = λ bytes items fault has remains.
    elim (remains.stands) [
      | inl blank ↦ absurd (let e : true ≡ false = over blank.0 in cc)
      | inr there ↦ entered old new bytes items fault remains empty there.0 is (front bytes has remains.ahead) (loaded there.0 (below old bytes items fault remains empty there.0) bytes has remains.ahead)
    ]
enters_stands (Ok false) old new told empty is stays front loaded over = λ bytes items fault has remains.
    let there : IsFront new.ahead (old.at + length old.held) bytes = subst (λ (r : Reader). IsFront new.ahead (r.at + length r.held) bytes) (stays refl) (front bytes has remains.ahead) in
    let same : Remains new bytes items fault = subst (λ (r : Reader). Remains r bytes items fault) (sym (stays refl)) (reads_ahead old new.ahead bytes items fault remains there) in
    elim (remains.stands) [
      | inl blank ↦ (blank.2, blank.3, same)
      | inr there ↦ let e = ended old bytes items fault remains empty there.0 (loaded there.0 (below old bytes items fault remains empty there.0) bytes has remains.ahead) in (e.0, e.1, same)
    ]
enters_stands (Err e) old new told empty is stays front loaded over = tt

-- a fault found at the next frame is the file's, and nothing remains before it
pub enters_bad : (r : Result Bool FrameRefused) (old : Reader) (told : Option Told) → old.held ≡ []
    → IfErr r (λ e. WhereBad e (λ f at. (f ≡ old.file) × (at ≡ old.at) × (old.blank ≡ false) × ((bytes : List ℕ) → HasFile told old.file bytes → length bytes ≡ old.size → IsAhead old bytes → AfterOpen (drop old.at bytes) OpensNone)))
    → IfErr r (λ e. WhereBad e (λ f at. (f ≡ old.file) × ((bytes : List ℕ) (items : List (Rec × ℕ)) (fault : Option ℕ) → HasFile told old.file bytes → Remains old bytes items fault → (items ≡ []) × (fault ≡ Some at))))
enters_bad (Ok found) old told empty bad = tt
enters_bad (Err refusals.DiskFault) old told empty bad = tt
enters_bad (Err (refusals.BadLog file at)) old told empty bad = (
  bad.0,
  λ bytes items fault has remains.
      let b = broken old bytes items fault remains empty bad.2 (bad.3 bytes has remains.long remains.ahead) in
      (b.0, b.1 ∙ ap (λ (n : ℕ). Some n) (sym bad.1)),
)
enters_bad (Err refusals.NoMemory) old told empty bad = tt

-- where no frame was found, the reader gives none
pub gives_none : (found : Bool) (r : Reader) (bytes : List ℕ) (items : List (Rec × ℕ)) (fault : Option ℕ) → found ≡ false → Stands found r bytes items fault → Gives None r bytes items fault
gives_none true r bytes items fault low stands = let e : true ≡ false = low in cc
gives_none false r bytes items fault low stands =
    let left : Remains r bytes [] fault = subst (λ (l : List (Rec × ℕ)). Remains r bytes l fault) stands.0 stands.2 in
    subst (λ (l : List (Rec × ℕ)). Gives None r bytes l fault) (sym stands.0) (stands.1, left)

-- where a frame was found, all remains still to be given
pub still_remains : (found : Bool) (r : Reader) (bytes : List ℕ) (items : List (Rec × ℕ)) (fault : Option ℕ) → found ≡ true → Stands found r bytes items fault → Remains r bytes items fault
still_remains true r bytes items fault high stands = stands
still_remains false r bytes items fault high stands = stands.2

-- what holds if a frame was found, where one was
pub if_true : (found : Bool) (P : Type 0) → found ≡ true → IfTrue found P → P
if_true true P high is = is
if_true false P high is = let e : false ≡ true = high in cc
