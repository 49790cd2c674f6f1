-- What is put, taken and settled fits places and log to the state after it.
use Rattle.std.proofs.Common.{◌⊎◌, inl, inr, ◌≡◌, ◌≤◌, ◌+◌, ◌++◌, ◌∷◌, [], ℕ, List, length, Option, Some, None, Result, Ok, Err, true, false, refl, sym, ◌∙◌, ap, subst, arith}
use Rattle.std.specs.Prelude.{OnOk}
use Rattle.flume_host.specs.Folder.{Files}
use Rattle.flume_host.specs.Told.{Changes, LeavesOnly, Tells, Told}
use Rattle.flume_host.specs.declared.names.FileName.TheVariants.{Check, Log}
use Rattle.flume_host.proofs.Telling.{back, follows, tells_more}
use Rattle.event_core.specs.Content.{Content, size}
use Rattle.record_form.specs.declared.record.Pointer.{Pointer}
use Rattle.record_form.specs.declared.record.Rec.{Rec}
use Rattle.record_form.specs.declared.record.Rec.TheVariants.{Put, Take}
use Rattle.channel_log.specs.Writer.{Appends, IsPending, IsReady, LacksOrHas, Writer}
use Rattle.open_table.specs.Tables.{HasAt, added as with_item, open_at}
use Rattle.open_table.specs.declared.table.Item.TheVariants as items
use Rattle.channel_face.specs.Token.{Token}
use Rattle.channel_face.specs.Machine.{State, add_put, add_take, broken_state, free, puts_of, settle, takes_of}
use Rattle.channel_places.specs.Looks.{KeepsPuts, Known, Looks}
use Rattle.channel_writing.specs.Touches.{Flushed, WritesLast}
use Rattle.channel_writing.specs.Written.{IsLogged, MayRecover, RecoversSettled, Waits}
use Rattle.channel_writing.proofs.Flushing.{ready_frames}
use Rattle.channel_writing.proofs.Freeing.{take_in}
use Rattle.channel_writing.proofs.Opening.{joined, only_more}
use Rattle.channel_writing.proofs.Putting.{put_in}
use Rattle.channel_writing.proofs.Whole.{failed_whole, rests_over}
use Rattle.channel_places.proofs.Opening.{looks_grow}
use Rattle.file_channel.specs.Placed.{Fits, IsStateOf, Logged}
use Rattle.file_channel.proofs.Owning.{own_appends, own_grows, own_less, own_put, own_same}
use Rattle.file_channel.proofs.Placing.{Grows, frame_grows, needing_still, next_place, placed_appends, placed_grows, placed_put, same_grows}

-- a put
pub put_fits : (told : Option Told) (old new : Logged) (token : Token) (p : Pointer) (event : Content) (s : State) (events : List Content) → Fits told old s → puts_of s token ≡ Some events → Appends old.log new.log (Put token.number event) → p ≡ next_place old.log (size event)
    → ((settled known : Known) → Looks settled known old.places s → Looks settled ((p, event) ∷ known) new.places (add_put s token.number (puts_of s token) event)) → HasAt token.number (with_item (items.Put p) (open_at old.places.opened token.number)) old.places.opened new.places.opened → IsLogged told new.log new.busy (put_in s false token.number events event) → Fits told new (put_in s false token.number events event)
put_fits told old new token p event s events fits list adds is places added log = record {
  settled = fits.settled;
  known = (p, event) ∷ fits.known;
  looks = subst (λ (l : Option (List Content)). Looks fits.settled ((p, event) ∷ fits.known) new.places (add_put s token.number l event)) list (places fits.settled fits.known fits.looks);
  placed = placed_put told old.log new.log token.number event p fits.settled fits.known adds is fits.placed;
  owned = own_put told old.log new.log token.number event p old.places.opened new.places.opened adds is added fits.owned;
  logged = log;
}

-- a take
pub take_fits : (told : Option Told) (old new : Logged) (token : Token) (number : ℕ) (event : Content) (rest : List (ℕ × Content)) (s : State) (numbers : List ℕ) → Fits told old s → takes_of s token ≡ Some numbers → free s ≡ (number, event) ∷ rest → Appends old.log new.log (Take token.number number)
    → ((settled known : Known) → Looks settled known old.places s → Looks settled known new.places (add_take s token.number (takes_of s token) (free s))) → KeepsPuts old.places.opened new.places.opened → IsLogged told new.log new.busy (take_in s false token.number numbers number) → Fits told new (take_in s false token.number numbers number)
take_fits told old new token number event rest s numbers fits list first adds places keeps log = record {
  settled = fits.settled;
  known = fits.known;
  looks =
      let here : Looks fits.settled fits.known new.places (add_take s token.number (Some numbers) (free s)) = subst (λ (l : Option (List ℕ)). Looks fits.settled fits.known new.places (add_take s token.number l (free s))) list (places fits.settled fits.known fits.looks) in
      subst (λ (l : List (ℕ × Content)). Looks fits.settled fits.known new.places (add_take s token.number (Some numbers) l)) first here;
  placed = placed_appends told old.log new.log (Take token.number number) fits.settled fits.known adds fits.placed;
  owned = own_appends told old.log new.log (Take token.number number) new.places.opened adds (own_less told old.log old.places.opened new.places.opened keeps fits.owned);
  logged = log;
}

-- a flush

some_or_none : (n : ℕ) → (n ≡ 0) ⊎ (1 ≤ n)
some_or_none n = grind arith

-- a crash leaves of each checkpoint what it might have left
abbrev pub SameChecks : Told → Told → Type 0
SameChecks t u = (n : ℕ) → u.now (Check n) ≡ t.now (Check n)

-- of the two that a flush does the first
abbrev grows_alone : (told told' : Option Told) (w w' : Writer) → ((u : Told) → told' ≡ Some u → (t : Told) × (told ≡ Some t) × (Grows t u w w' × SameChecks t u)) → (u : Told) → told' ≡ Some u → (t : Told) × (told ≡ Some t) × Grows t u w w'
grows_alone told told' w w' grew u is = let was = grew u is in (was.0, was.1, was.2.0)

-- a disk that shows its contents after a flush did so before, and each checkpoint is left as it was
pub flush_grows : (told told' : Option Told) (w w' : Writer) (s : State) → Waits told w s
    → ((birth : ℕ) (frames : List (List Rec)) (records : List Rec) → IsReady told birth w.file w.gate frames → IsPending w records → 1 ≤ length records → Tells told told' (Changes (Log w.file) (LacksOrHas birth w.file frames records) 2))
    → ((birth : ℕ) (frames : List (List Rec)) (records : List Rec) → IsReady told birth w.file w.gate frames → IsPending w records → 1 ≤ length records → IsReady told' birth w.file w'.gate (frames ++ records ∷ []))
    → (1 ≤ w.count → w' ≡ record w { gate = w.gate + length w.bytes + 6; started = true; bytes = []; count = 0 }) → (w.count ≡ 0 → (w' ≡ w) × (told' ≡ told))
    → (u : Told) → told' ≡ Some u → (t : Told) × (told ≡ Some t) × (Grows t u w w' × SameChecks t u)
flush_grows told told' w w' s waits changes flushed moved same u is = from (some_or_none w.count)
  where
    from : (w.count ≡ 0) ⊎ (1 ≤ w.count) → (t : Told) × (told ≡ Some t) × (Grows t u w w' × SameChecks t u)
    from (inl nothing) =
        let both = same nothing in
        (u, sym both.1 ∙ is, (subst (λ (v : Writer). Grows u u w v) (sym both.0) (same_grows u w), λ n. refl))
    from (inr some) =
        let ready = ready_frames told w s waits in
        let many : 1 ≤ length waits.records = omega (arith, some, waits.pending.counted) in
        let was = back told told' (Changes (Log w.file) (LacksOrHas ready.0 w.file ready.1 waits.records) 2) (changes ready.0 ready.1 waits.records ready.2 waits.pending many) u is in
        let rest = flushed ready.0 ready.1 waits.records ready.2 waits.pending many u is in
        (was.0, was.1, (frame_grows was.0 u w w' ready.0 ready.1 waits.records (ready.2 was.0 was.1) rest waits.pending was.2 (moved some), λ n. (was.2.others (Check n) refl).0))

-- the log's own file is no earlier one
pub flush_file : (told told' : Option Told) (w w' : Writer) → (1 ≤ w.count → w' ≡ record w { gate = w.gate + length w.bytes + 6; started = true; bytes = []; count = 0 }) → (w.count ≡ 0 → (w' ≡ w) × (told' ≡ told)) → w.file ≤ w'.file
flush_file told told' w w' moved same = from (some_or_none w.count)
  where
    from : (w.count ≡ 0) ⊎ (1 ≤ w.count) → w.file ≤ w'.file
    from (inl nothing) = omega (arith, ap (λ (v : Writer). v.file) (same nothing).0)
    from (inr some) = omega (arith, ap (λ (v : Writer). v.file) (moved some))

-- places and log fit what is settled after a flush
pub settle_fits : (told told' : Option Told) (old new : Logged) (s : State) (is : IsStateOf told old s) (still : s.broken ≡ false) → ((u : Told) → told' ≡ Some u → (t : Told) × (told ≡ Some t) × (Grows t u old.log new.log × SameChecks t u)) → old.log.file ≤ new.log.file
    → ((known : Known) → Looks known known old.places s → Looks known known new.places (settle s)) → new.places.opened ≡ old.places.opened → new.log.bytes ≡ [] → IsLogged told' new.log new.busy (settle s) → Fits told' new (settle s)
settle_fits told told' old new s is still grew more places same empty log = record {
  settled = is.known;
  known = is.known;
  looks = places is.known (looks_grow is.settled is.known is.known old.places s (is.placed still).within (λ p event in_known. in_known) is.looks);
  placed =
      placed_grows told told' old.log new.log is.settled is.known empty (grows_alone told told' old.log new.log grew)
      (needing_still told told' old.log.file new.log.file is.known more (λ u now. let was = grew u now in (was.0, was.1, was.2.1)) (is.placed still).needing) (is.placed still);
  owned = own_grows told told' old.log new.log new.places.opened (grows_alone told told' old.log new.log grew) (own_same told old.log old.places.opened new.places.opened same (is.owned still));
  logged = log;
}

differ : {A : Type 0} → true ≡ false → A
differ is = absurd (cc)

-- one that failed
pub failed_state : (told told' : Option Told) (old new : Logged) (s : State) → IsStateOf told old s → Tells told told' (λ t u. LeavesOnly t u (MayRecover s)) → ((settled known : Known) → Looks settled known old.places s → Looks settled known new.places (broken_state s)) → IsStateOf told' new (broken_state s)
failed_state told told' old new s is images places = record {
  settled = is.settled;
  known = is.known;
  looks = places is.settled is.known is.looks;
  placed = λ still. differ still;
  owned = λ still. differ still;
  whole = failed_whole told' new.log new.busy s (rests_over told told' s images) is.whole.sound is.whole.kind;
}

-- what it did to the disk
pub flushed_both : (told told' : Option Told) (s : State) → s.broken ≡ false → Tells told told' (λ t u. LeavesOnly t u (MayRecover s)) → Tells told told' WritesLast → Tells told told' (λ t u. Flushed s t u)
flushed_both None None s still images writes = tt
flushed_both None (Some u) s still images writes = absurd images
flushed_both (Some t) None s still images writes = absurd images
flushed_both (Some t) (Some u) s still images writes = record { whole = still; images = images; writes = writes }

-- while the log goes on in a next file, a crash leaves what is settled
settled_may : (s : State) (image : Files) → RecoversSettled s image → MayRecover s image
settled_may s image found = (found.0, found.1, inl found.2)

-- what a crash leaves of settled events is also what a flush may leave
pub goes_over : (told told' : Option Told) (s : State) → Tells told told' (λ t u. LeavesOnly t u (RecoversSettled s)) → Tells told told' (λ t u. LeavesOnly t u (MayRecover s))
goes_over told told' s leaves =
    tells_more told told' (λ t u. LeavesOnly t u (RecoversSettled s)) (λ t u. LeavesOnly t u (MayRecover s)) (λ t u old new is. only_more t u (RecoversSettled s) (MayRecover s) (settled_may s) is) leaves

-- and then it is flushed there
pub goes_then : (told mid told' : Option Told) (s : State) → Tells told mid (λ t u. LeavesOnly t u (RecoversSettled s)) → Tells mid told' (λ t u. LeavesOnly t u (MayRecover s)) → Tells told told' (λ t u. LeavesOnly t u (MayRecover s))
goes_then told mid told' s first second =
    follows told mid told' (λ t u. LeavesOnly t u (MayRecover s)) (λ t u. LeavesOnly t u (MayRecover s)) (λ t u. LeavesOnly t u (MayRecover s)) (λ t u v old between new a b. joined t u v (MayRecover s) a b) (goes_over told mid s first) second

-- what is said of an answer that is Ok may be used for what follows from it
pub ok_then : {E : Type 0} (r : Result (Unit {0}) E) (A B : Type 0) → (A → B) → OnOk r A → OnOk r B
ok_then (Ok done) A B maps is = maps is
ok_then (Err e) A B maps is = tt
