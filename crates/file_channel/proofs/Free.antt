-- Numbers of checkpoints stay free, and the newest is needed, through calls that make none.
use Rattle.std.proofs.Common.{◌⊎◌, inl, inr, ◌≡◌, ◌+◌, ℕ, List, Option, None, Some, Result, Ok, Err, Bool, true, false, refl, sym, ◌∙◌, ap, subst}
use Rattle.std.specs.Prelude.{IfSome}
use Rattle.flume_host.specs.Folder.{Allows, Entry, Files, Folder, IsImage, settle_entry}
use Rattle.flume_host.specs.Told.{Changes, DidPart, Does, Leads, Settle, Tells, Told, WhereTold, done}
use Rattle.flume_host.specs.declared.names.Failed.{Failed}
use Rattle.flume_host.specs.declared.names.FileName.TheVariants.{Check, Log}
use Rattle.flume_host.proofs.Telling.{back, follows, tells_more, tells_same}
use Rattle.channel_face.specs.Machine.{Call, State}
use Rattle.channel_writing.specs.Touches.{ChangesAlone, Flushed, flushes}
use Rattle.channel_writing.proofs.Flushing.{as_read}
use Rattle.checkpoint_opening.specs.declared.opening.NewestCheck.{NewestCheck}
use Rattle.channel_laying.specs.Laying.{AreUnused}
use Rattle.channel_laying.proofs.Needed.{AreLeft, needed_less}
use Rattle.file_channel.specs.Laid.{AreChecks, AreFree, CheckState, IsNeeded, IsNextCheck, KeepsChecks, SparesChecks}

-- one after another

spares_same : (t : Told) → SparesChecks t t
spares_same t n = (refl, inl refl)

spares_then : (t u v : Told) → SparesChecks t u → SparesChecks u v → SparesChecks t v
spares_then t u v first second n = ((second n).0 ∙ (first n).0, from (first n).1 (second n).1)
  where
    from : (u.now (Check n) ≡ t.now (Check n)) ⊎ (u.now (Check n) ≡ settle_entry (t.reads (Check n))) → (v.now (Check n) ≡ u.now (Check n)) ⊎ (v.now (Check n) ≡ settle_entry (u.reads (Check n))) → (v.now (Check n) ≡ t.now (Check n)) ⊎ (v.now (Check n) ≡ settle_entry (t.reads (Check n)))
    from (inl a) (inl b) = inl (b ∙ a)
    from (inr a) (inl b) = inr (b ∙ a)
    from before (inr b) = inr (b ∙ ap settle_entry (first n).0)

-- a disk that is as it was keeps its checkpoints
pub keeps_same : (told told' : Option Told) → told' ≡ told → KeepsChecks told told'
keeps_same told told' same = subst (λ (v : Option Told). KeepsChecks told v) (sym same) (tells_same told SparesChecks (λ t is. spares_same t))

-- two calls that each keep the checkpoints keep them together
pub keeps_then : (told mid told' : Option Told) → KeepsChecks told mid → KeepsChecks mid told' → KeepsChecks told told'
keeps_then told mid told' first second = follows told mid told' SparesChecks SparesChecks SparesChecks (λ t u v old between new a b. spares_then t u v a b) first second

-- where a log file alone is changed
pub keeps_changes : (told told' : Option Told) (file most : ℕ) (P : Option (List ℕ) → Type 0) → Tells told told' (Changes (Log file) P most) → KeepsChecks told told'
keeps_changes told told' file most P tells =
    tells_more told told' (Changes (Log file) P most) SparesChecks (λ t u old new changes n. ((changes.others (Check n) refl).1, inl (changes.others (Check n) refl).0)) tells

-- a flush
flushed_spares : (s : State) (t u : Told) → Flushed s t u → SparesChecks t u
flushed_spares s t u did n = from did.writes.writes
  where
    alone : (file most : ℕ) → ChangesAlone file most t u → (u.reads (Check n) ≡ t.reads (Check n)) × ((u.now (Check n) ≡ t.now (Check n)) ⊎ (u.now (Check n) ≡ settle_entry (t.reads (Check n))))
    alone file most changes = (changes.others (Check n) refl, inl (changes.left (Check n) refl))

    from : ChangesAlone did.writes.file 2 t u ⊎ ChangesAlone (did.writes.file + 1) 3 t u → (u.reads (Check n) ≡ t.reads (Check n)) × ((u.now (Check n) ≡ t.now (Check n)) ⊎ (u.now (Check n) ≡ settle_entry (t.reads (Check n))))
    from (inl here) = alone did.writes.file 2 here
    from (inr next) = alone (did.writes.file + 1) 3 next

-- a flush makes and removes no checkpoint
pub keeps_flushed : (told told' : Option Told) (s : State) → Tells told told' (λ t u. Flushed s t u) → KeepsChecks told told'
keeps_flushed told told' s tells = tells_more told told' (λ t u. Flushed s t u) SparesChecks (λ t u old new did. flushed_spares s t u did) tells

-- a call that flushes, or leaves the disk alone
pub keeps_after : (told told' : Option Told) (s : State) (call : Call) → (flushes call ≡ false → told' ≡ told) → (flushes call ≡ true → Tells told told' (λ t u. Flushed s t u)) → KeepsChecks told told'
keeps_after told told' s call quiet flushed = from (flushes call) refl
  where
    from : (b : Bool) → flushes call ≡ b → KeepsChecks told told'
    from true is = keeps_flushed told told' s (flushed is)
    from false is = keeps_same told told' (quiet is)

-- a folder is settled, or that fails

leads_spare : (r : Result (Unit {0}) Failed) (t u : Told) → Leads Settle r t u → SparesChecks t u
leads_spare (Ok d) t u leads n = subst (λ (v : Told). (v.reads (Check n) ≡ t.reads (Check n)) × ((v.now (Check n) ≡ t.now (Check n)) ⊎ (v.now (Check n) ≡ settle_entry (t.reads (Check n))))) (sym leads.ok) (refl, inr refl)
leads_spare (Err e) t u leads n = from leads.err
  where
    from : (u ≡ t) ⊎ DidPart Settle t u → (u.reads (Check n) ≡ t.reads (Check n)) × ((u.now (Check n) ≡ t.now (Check n)) ⊎ (u.now (Check n) ≡ settle_entry (t.reads (Check n))))
    from (inl same) = subst (λ (v : Told). (v.reads (Check n) ≡ t.reads (Check n)) × ((v.now (Check n) ≡ t.now (Check n)) ⊎ (v.now (Check n) ≡ settle_entry (t.reads (Check n))))) (sym same) (refl, inl refl)
    from (inr part) = (part.others (Check n) refl, inl (ap (λ (f : Folder). f (Check n)) part.now))

-- a settle keeps the checkpoints, also where it fails
pub keeps_settled : (told told' : Option Told) (r : Result (Unit {0}) Failed) → Does Settle r told told' → KeepsChecks told told'
keeps_settled told told' r tells = tells_more told told' (Leads Settle r) SparesChecks (λ t u old new leads. leads_spare r t u leads) tells

-- which numbers are free

unused_spared : (t u : Told) (number : ℕ) → SparesChecks t u → AreUnused t number → AreUnused u number
unused_spared t u number spares unused n high = ((spares n).0 ∙ (unused n high).0, from (spares n).1)
  where
    from : (u.now (Check n) ≡ t.now (Check n)) ⊎ (u.now (Check n) ≡ settle_entry (t.reads (Check n))) → u.now (Check n) ≡ settle_entry None
    from (inl same) = same ∙ (unused n high).1
    from (inr settled) = settled ∙ ap settle_entry (unused n high).0

-- the checkpoints that a crash leaves then it might have left before
left_spared : (t u : Told) → IsImage t.now t.reads → SparesChecks t u → (folder : Files) → AreLeft u folder → AreLeft t folder
left_spared t u reads spares folder left n = from (spares n).1
  where
    from : (u.now (Check n) ≡ t.now (Check n)) ⊎ (u.now (Check n) ≡ settle_entry (t.reads (Check n))) → Allows (t.now (Check n)) (folder (Check n))
    from (inl same) = subst (λ (e : Entry). Allows e (folder (Check n))) same (left n)
    from (inr settled) =
        let is : folder (Check n) ≡ t.reads (Check n) = as_read (t.reads (Check n)) (folder (Check n)) (subst (λ (e : Entry). Allows e (folder (Check n))) settled (left n)) in
        subst (λ (o : Option (List ℕ)). Allows (t.now (Check n)) o) (sym is) (reads (Check n))

-- a number that was free is free where the checkpoints are kept
pub free_spared : (told told' : Option Told) (number : ℕ) → KeepsChecks told told' → AreFree told number → AreFree told' number
free_spared told told' number keeps free u now =
    let was = back told told' SparesChecks keeps u now in
    unused_spared was.0 u number was.2 (free was.0 was.1)

-- a newest checkpoint that was needed is needed where the checkpoints are kept
pub needed_spared : (told told' : Option Told) (laid : NewestCheck) → WhereTold told (λ t. IsImage t.now t.reads) → KeepsChecks told told' → IsNeeded told laid → IsNeeded told' laid
needed_spared told told' laid reads keeps needed u now =
    let was = back told told' SparesChecks keeps u now in
    needed_less was.0 u laid.least laid.number (left_spared was.0 u (reads was.0 was.1) was.2) (needed was.0 was.1)

-- and so where there may be none
pub some_needed : (told told' : Option Told) (laid : Option NewestCheck) → ((l : NewestCheck) → IsNeeded told l → IsNeeded told' l) → IfSome laid (IsNeeded told) → IfSome laid (IsNeeded told')
some_needed told told' None keeps needed = tt
some_needed told told' (Some l) keeps needed = keeps l needed

-- what a channel knows of its checkpoints stays true where they are kept
pub checks_spared : (told told' : Option Told) (c : CheckState) → WhereTold told (λ t. IsImage t.now t.reads) → KeepsChecks told told' → AreChecks told c → AreChecks told' c
checks_spared told told' c reads keeps are = record { free = free_spared told told' c.next keeps are.free; needed = some_needed told told' c.laid (λ l. needed_spared told told' l reads keeps) are.needed }

-- after a settle the number after the checkpoints that are there is free
pub next_free : (told told' : Option Told) (number : ℕ) → Tells told told' (λ t u. u ≡ done Settle t) → WhereTold told (λ t. IsNextCheck t.reads number) → AreFree told' number
next_free told told' number tells next u now =
    let was = back told told' (λ t v. v ≡ done Settle t) tells u now in
    let is = next was.0 was.1 in
    subst (λ (v : Told). AreUnused v number) (sym was.2) (λ n high. (is.none n high, ap settle_entry (is.none n high)))
