-- A channel stands for the same after a prune.
use Rattle.std.proofs.Common.{◌⊎◌, inl, inr, ◌≡◌, ◌<◌, ◌≤◌, ℕ, List, drop, length, take, Option, Some, Result, Ok, Err, Bool, true, false, refl, sym, ◌∙◌, ap, subst, arith}
use Rattle.std.specs.Prelude.{IfSome, IsSomeAnd}
use Rattle.std.specs.List.{AllByRecursion}
use Rattle.std.proofs.lemmas.Bool.{cases_lt}
use Rattle.flume_host.specs.Folder.{IsImage, settle_entry}
use Rattle.flume_host.specs.Told.{LeavesOnly, Tells, Told, WhereTold}
use Rattle.flume_host.specs.declared.names.FileName.TheVariants.{Check, Log}
use Rattle.flume_host.proofs.Moments.{started}
use Rattle.flume_host.proofs.Telling.{back, tells_more, tells_same}
use Rattle.event_core.specs.Content.{Content}
use Rattle.record_form.specs.declared.record.Pointer.{Pointer}
use Rattle.open_table.specs.Tables.{open_at}
use Rattle.record_form.specs.Pointers.{PutAt}
use Rattle.channel_log.specs.Pointers.{end_of}
use Rattle.channel_log.specs.Window.{IsPieceOf}
use Rattle.channel_log.specs.Writer.{Writer}
use Rattle.channel_face.specs.Machine.{AdmitsPrune, Prune, State, entry_of}
use Rattle.channel_face.specs.declared.replies.PruneRefused.{PruneRefused}
use Rattle.channel_face.specs.declared.replies.PruneRefused.TheVariants as PruneNo
use Rattle.channel_places.specs.Looks.{Known, StandsIn, pointers_at}
use Rattle.channel_writing.specs.Stands.{is_fault}
use Rattle.channel_writing.specs.Written.{IsLogged, MayRecover, RecoversSettled}
use Rattle.channel_writing.proofs.Standing.{Spans, Touched}
use Rattle.channel_writing.proofs.Whole.{whole_rests}
use Rattle.checkpoint.specs.Newest.{IsPassed}
use Rattle.checkpoint_opening.specs.declared.opening.NewestCheck.{NewestCheck}
use Rattle.checkpoint_pruning.specs.Pruning.{KeepsFrom}
use Rattle.channel_laying.specs.Laying.{AreUnused}
use Rattle.channel_laying.proofs.Needed.{needed_pruned, needed_unpruned}
use Rattle.file_channel.specs.Laid.{AreChecks, CheckState, IsNeeded}
use Rattle.file_channel.specs.Placed.{AreNotBelow, ArePlaced, IsForgotten, IsOwn, IsStateOf, IsThere, Logged, PutBy, bytes_of, settled_in}
use Rattle.file_channel.specs.Stepped.{Steps}
use Rattle.file_channel.proofs.Adding.{goes_over}
use Rattle.file_channel.proofs.Bare.{both_maps, open_known}

module _ (told told' : Option Told) (w : Writer) (laid : NewestCheck) (keeps : Tells told told' (KeepsFrom laid.least laid.number)) (needed : IsNeeded told laid) where
  was : (u : Told) → told' ≡ Some u → (t : Told) × (told ≡ Some t) × KeepsFrom laid.least laid.number t u
  was u now = back told told' (KeepsFrom laid.least laid.number) keeps u now

  -- a file from the least one on has what it had
  same_part : (t u : Told) → KeepsFrom laid.least laid.number t u → (file : ℕ) → laid.least ≤ file → settled_in u w file ≡ settled_in t w file
  same_part t u kept file low = ap (λ (o : Option (List ℕ)). take (end_of w file) (bytes_of o)) (kept.same (Log file) low).1

  -- events stand at their pointers after a prune, which removed no file with one of them
  pub placed_pruned : (settled known : Known) → WhereTold told' (λ t. IsImage t.now t.reads) → ArePlaced told w settled known → ArePlaced told' w settled known
  placed_pruned settled known reads are = record {
    long = are.long;
    there = λ u now p event is. let b = was u now in there b.0 u b.2 p event ((below b.0 b.1).each p event is) (are.there b.0 b.1 p event is);
    still = λ u now p event is other.
        let b = was u now in
        let same = b.2.same (Log p.file) ((below b.0 b.1).each p event is) in
        same.0 ∙ (are.still b.0 b.1 p event is other ∙ ap settle_entry (sym same.1));
    piece = λ u now. let b = was u now in piece b.0 u b.2 (below b.0 b.1) (are.piece b.0 b.1) (cases_lt w.kept.file laid.least);
    within = are.within;
    written = λ u now p event is waits. let b = was u now in are.written b.0 b.1 p event is waits;
    needing = λ u now least number needs. let b = was u now in are.needing b.0 b.1 least number (needed_unpruned b.0 u laid.least laid.number b.2 (needed b.0 b.1) least number (reads u now) needs);
  }
    where
      below : (t : Told) → told ≡ Some t → AreNotBelow laid.least w.file known
      below t is = are.needing t is laid.least laid.number (needed t is)

      there : (t u : Told) → KeepsFrom laid.least laid.number t u → (p : Pointer) (event : Content) → laid.least ≤ p.file → IsThere t w p event → IsThere u w p event
      there t u kept p event low (inl at) = inl (subst (λ (l : List ℕ). PutAt l p event) (sym (same_part t u kept p.file low)) at)
      there t u kept p event low (inr waits) = inr waits

      piece : (t u : Told) → KeepsFrom laid.least laid.number t u → AreNotBelow laid.least w.file known → IsForgotten w known ⊎ IsPieceOf w.kept (settled_in t w) → ((w.kept.file < laid.least) ⊎ (laid.least ≤ w.kept.file)) → IsForgotten w known ⊎ IsPieceOf w.kept (settled_in u w)
      piece t u kept low (inl forgotten) any = inl forgotten
      piece t u kept low (inr is) (inl before) = inl (omega (arith, before, low.own), λ p event in_known same. absurd (omega (arith, before, low.each p event in_known, same)))
      piece t u kept low (inr is) (inr after) =
          inr (subst (λ (l : List ℕ). w.kept.bytes ≡ take (length w.kept.bytes) (drop w.kept.from l)) (sym (same_part t u kept w.kept.file after)) is)

  own_pruned : (t u : Told) → KeepsFrom laid.least laid.number t u → (txn : ℕ) (p : Pointer) → laid.least ≤ p.file → IsOwn t w txn p → IsOwn u w txn p
  own_pruned t u kept txn p low (event, inl at) = (event, inl (subst (λ (l : List ℕ). PutBy l txn p event) (sym (same_part t u kept p.file low)) at))
  own_pruned t u kept txn p low (event, inr waits) = (event, inr waits)

-- the state before a prune is that after it
pub pruned_state : (told told' : Option Told) (c : Logged) (s : State) (laid : NewestCheck) → IsStateOf told c s → s.broken ≡ false → Tells told told' (KeepsFrom laid.least laid.number) → IsNeeded told laid → WhereTold told' (λ t. IsImage t.now t.reads) → IsLogged told' c.log c.busy s → IsStateOf told' c s
pruned_state told told' c s laid is still keeps needed reads logged = record {
  settled = is.settled;
  known = is.known;
  looks = is.looks;
  placed = λ _. placed_pruned told told' c.log laid keeps needed is.settled is.known reads (is.placed still);
  owned = λ _ u now txn. owned u now txn;
  whole = record { logged = λ _. logged; left = λ broken. absurd (both s.broken broken still); sound = is.whole.sound; kind = is.whole.kind };
}
  where
    both : (b : Bool) → b ≡ true → b ≡ false → ⊥
    both b one other = cc

    owned : (u : Told) → told' ≡ Some u → (txn : ℕ) → AllByRecursion (λ p. IsOwn u c.log txn p) (pointers_at c.places.opened txn)
    owned u now txn =
        let b = back told told' (KeepsFrom laid.least laid.number) keeps u now in
        let below : AreNotBelow laid.least c.log.file is.known = (is.placed still).needing b.0 b.1 laid.least laid.number (needed b.0 b.1) in
        both_maps (λ p. IsOwn b.0 c.log txn p) (λ p. (event : Content) × StandsIn is.known p event) (λ p. IsOwn u c.log txn p) (pointers_at c.places.opened txn)
        (λ p own in_known. own_pruned told told' c.log laid keeps needed b.0 u b.2 txn p (below.each p in_known.0 in_known.1) own) (is.owned still b.0 b.1 txn)
        (open_known is.known s.rules.limits.txn_capacity (open_at c.places.opened txn) (entry_of txn s.opened) (is.looks.opened txn))

-- and so where the log and its count of open ones are as they were
pub pruned_as : (told told' : Option Told) (c : Logged) (w : Writer) (busy : ℕ) (s : State) (laid : NewestCheck) → IsStateOf told c s → s.broken ≡ false → Tells told told' (KeepsFrom laid.least laid.number) → IsNeeded told laid → WhereTold told' (λ t. IsImage t.now t.reads) → w ≡ c.log → busy ≡ c.busy → IsLogged told' w busy s
    → IsStateOf told' (record { places = c.places; log = w; busy = busy }) s
pruned_as told told' c w busy s laid is still keeps needed reads log busy_is logged =
    let as_before : IsLogged told' c.log c.busy s = subst (λ (v : Writer). IsLogged told' v c.busy s) log (subst (λ (n : ℕ). IsLogged told' w n s) busy_is logged) in
    subst (λ (v : Writer). IsStateOf told' (record { places = c.places; log = v; busy = busy }) s) (sym log)
    (subst (λ (n : ℕ). IsStateOf told' (record { places = c.places; log = c.log; busy = n }) s) (sym busy_is) (pruned_state told told' c s laid is still keeps needed reads as_before))

-- the machine's steps

-- a prune that removed files or failed on the disk
pub prune_steps : (told told' : Option Told) (old new : Logged) (s : State) (reply : Result ℕ PruneRefused) → IsStateOf told old s → s.broken ≡ false → IsStateOf told' new s → new.log.bytes ≡ old.log.bytes → (reply ≡ Err PruneNo.DiskFault) ⊎ ((count : ℕ) × (reply ≡ Ok count)) → Steps told told' old new (Prune reply) s
prune_steps told told' old new s reply is still stands same (inl failed) =
    subst (λ (r : Result ℕ PruneRefused). Steps told told' old new (Prune r) s) (sym failed) (record { admitted = (still, is.whole.kind); stands = stands; waits = ap (λ (l : List ℕ). length l) same })
prune_steps told told' old new s reply is still stands same (inr done) =
    subst (λ (r : Result ℕ PruneRefused). Steps told told' old new (Prune r) s) (sym done.1) (record { admitted = (still, is.whole.kind); stands = stands; waits = ap (λ (l : List ℕ). length l) same })

-- a broken channel refuses a prune, and stays as it was
pub prune_refuses : (told : Option Told) (c : Logged) (s : State) → IsStateOf told c s → s.broken ≡ true → Steps told told c c (Prune (Err PruneNo.Broken)) s
prune_refuses told c s is broken = record { admitted = (broken, is.whole.kind); stands = is; waits = refl }

-- what a crash leaves where nothing was to be removed
pub settled_still : (told : Option Told) (c : Logged) (s : State) → IsStateOf told c s → s.broken ≡ false → Tells told told (λ t u. LeavesOnly t u (RecoversSettled s))
settled_still told c s is still =
    tells_same told (λ t u. LeavesOnly t u (RecoversSettled s)) (λ t now. started t (RecoversSettled s) (λ image left. whole_rests told c.log c.busy s is.whole still t now image left))

-- the checkpoints

-- after a prune the next number is free and the newest checkpoint is needed still
pub pruned_checks : (told told' : Option Told) (c : CheckState) (laid : NewestCheck) → c.laid ≡ Some laid → WhereTold told (λ t. IsImage t.now t.reads) → Tells told told' (KeepsFrom laid.least laid.number) → AreChecks told c → AreChecks told' c
pruned_checks told told' c laid is reads keeps are = record {
  free = λ u now n high. let b = was u now in free b.0 u b.1 b.2 n high;
  needed = subst (λ (l : Option NewestCheck). IfSome l (IsNeeded told')) (sym is) (λ u now. let b = was u now in needed_pruned b.0 u laid.least laid.number b.2 (needed b.0 b.1) laid.least laid.number (reads b.0 b.1) (needed b.0 b.1));
}
  where
    needed : IsNeeded told laid
    needed = subst (λ (l : Option NewestCheck). IfSome l (IsNeeded told)) is are.needed

    was : (u : Told) → told' ≡ Some u → (t : Told) × (told ≡ Some t) × KeepsFrom laid.least laid.number t u
    was u now = back told told' (KeepsFrom laid.least laid.number) keeps u now

    late : (t : Told) → told ≡ Some t → laid.number < c.next
    late t told_is =
        let needs = needed t told_is t.reads (λ n. reads t told_is (Check n)) in
        elim (cases_lt needs.number c.next) [
          | inl less ↦ omega (arith, less, needs.late)
          | inr more ↦ absurd (subst (λ (o : Option (List ℕ)). IsSomeAnd o (λ bytes. IsPassed bytes → ⊥)) (are.free t told_is needs.number more).0 needs.newest.0)
        ]

    free : (t u : Told) → told ≡ Some t → KeepsFrom laid.least laid.number t u → AreUnused u c.next
    free t u told_is kept n high =
        let same = kept.same (Check n) (omega (arith, high, late t told_is)) in
        let unused = are.free t told_is n high in
        (same.1 ∙ unused.0, same.0 ∙ unused.1)

-- the channel

-- a prune's only fault is that of its disk
pub prune_fault : (r : Result ℕ PruneRefused) → is_fault (Prune r) ≡ true → r ≡ Err PruneNo.DiskFault
prune_fault (Ok count) is = absurd (cc)
prune_fault (Err PruneNo.Broken) is = absurd (cc)
prune_fault (Err (PruneNo.Spent counter)) is = absurd (cc)
prune_fault (Err PruneNo.DiskFault) is = refl

-- what a prune did to the disk: nothing, or what leaves the settled events
pub prune_touched : (told told' : Option Told) (c c' : Logged) (s : State) (r : Result ℕ PruneRefused) → Steps told told' c c' (Prune r) s → (r ≡ Err PruneNo.Broken → told' ≡ told) → (s.broken ≡ false → Tells told told' (λ t u. LeavesOnly t u (RecoversSettled s))) → Touched told told' s
prune_touched told told' c c' s r steps same images = from s.broken refl r steps.admitted.0 same
  where
    spans : s.broken ≡ false → Touched told told' s
    spans still = inr (tells_more told told' (λ t u. LeavesOnly t u (MayRecover s)) (λ t u. Spans s t u) (λ t u old new left. record { whole = still; images = left }) (goes_over told told' s (images still)))

    from : (b : Bool) → s.broken ≡ b → (r : Result ℕ PruneRefused) → AdmitsPrune s r → (r ≡ Err PruneNo.Broken → told' ≡ told) → Touched told told' s
    from false is reply may same_one = spans is
    from true is (Ok count) may same_one = spans may
    from true is (Err PruneNo.Broken) may same_one = inl (same_one refl)
    from true is (Err (PruneNo.Spent counter)) may same_one = absurd may
    from true is (Err PruneNo.DiskFault) may same_one = spans may
