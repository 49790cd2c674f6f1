-- Channels that were opened, one and in a row.
use Rattle.std.proofs.Common.{◌≡◌, ◌⊎◌, ◌<◌, ◌≤◌, ℕ, zero, suc, List, [], ◌∷◌, length, Option, Some, None, Result, Ok, Err, refl, sym, ap, subst, ◌∙◌, arith}
use Rattle.std.specs.List.{remove}
use Rattle.std.specs.Prelude.{IfOk, OnOk, slice_index_or, string_bytes}
use Rattle.std.proofs.lemmas.List.{length-append}
use Rattle.atomic_table.specs.Seated.{TableId}
use Rattle.flume_host.specs.HostState.{HostState}
use Rattle.flume_host.specs.Told.{Tells}
use Rattle.channel_face.specs.History.{Opening}
use Rattle.channel_face.specs.Machine.{is_some_of}
use Rattle.channel_face.specs.declared.replies.OpenCause.{OpenCause}
use Rattle.flume_host.specs.Causes.{Counts, Rose}
use Rattle.channel_face.specs.declared.replies.OpenCause.TheVariants.{DiskFault, NoMemory}
use Rattle.shared_channel.specs.Passes.{Known, new_pass, new_passes}
use Rattle.two_channels.specs.Shares.{IsDisk}
use Rattle.two_channels.specs.declared.shared.EitherShared.{EitherShared}
use Rattle.channel_wishes.specs.Openings.{Begins, BeginsOnDisk, GivesBack, HandsNone, HostTold, IsFresh, IsOfKind, IsOpened, IsOut, Refuses, TakesDisk, in_memory}
use Rattle.channel_wishes.specs.declared.wish.ChannelPlace.{ChannelPlace}
use Rattle.channel_wishes.specs.declared.wish.ChannelPlace.TheVariants.{Memory, Folder}
use Rattle.channel_wishes.specs.declared.wish.ChannelWish.{ChannelWish}

-- there are as many new passes as were asked for
pub length_new : (table : TableId) (start : Opening) (passes n : ℕ) → length (new_passes table start passes n) ≡ n
length_new table start passes zero = refl
length_new table start passes (suc n) =
    let e = length_new table start passes n in
    let h = length-append (new_passes table start passes n) (new_pass table start passes n ∷ []) in
    omega (arith, e, h)

-- a list is its first element and the others
pub first_stays : {X : Type 0} (xs : List X) (x : X) (rest : List X) → 0 < length xs → x ≡ slice_index_or xs 0 x → rest ≡ remove xs 0 → x ∷ rest ≡ xs
first_stays [] x rest some is gone = absurd (omega (arith, some))
first_stays (y ∷ ys) x rest some is gone = ap (λ z. z ∷ rest) is ∙ ap (λ l. y ∷ l) gone

-- a disk shows its contents after a call exactly where it did before
pub tells_still : {T : Type 0} (old new : Option T) (P : T → T → Type 0) → Tells old new P → is_some_of new ≡ is_some_of old
tells_still None None P is = refl
tells_still None (Some u) P is = absurd is
tells_still (Some t) None P is = absurd is
tells_still (Some t) (Some u) P is = refl

-- a count that stayed leaves the host as it was
pub same_state : (s t : HostState) (n : ℕ) → t ≡ record s { faults = n } → n ≡ s.faults → t ≡ s
same_state s t n is same = is ∙ ap (λ (m : ℕ). record s { faults = m }) same

-- a disk was given back
pub back_state : (s s1 s2 : HostState) (n own : ℕ) → s1 ≡ s → s2 ≡ record s1 { disk_faults = n } → Counts s1.disk_faults n own → (s2 ≡ record s { disk_faults = s2.disk_faults }) × Counts s.disk_faults s2.disk_faults own
back_state s s1 s2 n own same is counts =
    let m : s2.disk_faults ≡ n = ap (λ (x : HostState). x.disk_faults) is in
    let k : s1.disk_faults ≡ s.disk_faults = ap (λ (x : HostState). x.disk_faults) same in (
      is ∙ ap (λ (x : HostState). record x { disk_faults = n }) same ∙ ap (λ (j : ℕ). record s { disk_faults = j }) (sym m),
      subst (λ (x : ℕ × ℕ). Counts x.0 x.1 own) (λ i. (k i, sym m i)) counts,
    )

-- none was handed out
pub hands_none : (a b : HostTold) (cause : OpenCause) (n : ℕ) → b.folders ≡ a.folders → b.state ≡ record a.state { faults = n } → a.state.faults ≤ b.state.faults → ((cause ≡ DiskFault) × Rose a.state.faults n) ⊎ (cause ≡ NoMemory) → HandsNone a b cause
hands_none a b cause n folders is later why =
    let m : b.state.faults ≡ n = ap (λ (x : HostState). x.faults) is in
    record {
      folders = folders;
      state = is ∙ ap (λ (j : ℕ). record a.state { faults = j }) (sym m);
      later = later;
      why = subst (λ (j : ℕ). ((cause ≡ DiskFault) × Rose a.state.faults j) ⊎ (cause ≡ NoMemory)) (sym m) why;
    }

-- a channel of either kind was opened

-- a channel that was wanted in memory was opened
pub opened_in_memory : {A B : Type 0} (a b : HostTold) (wish : ChannelWish) (s : EitherShared A B) (home : Known) (others : List Known) → wish.place ≡ Memory → b ≡ a → (IsDisk s → ⊥)
    → IsFresh (λ start. start ≡ in_memory wish.limits) wish.users s home others → IsOpened a b wish s home others
opened_in_memory a b wish s home others is same kind fresh = record {
  kind = subst (λ (p : ChannelPlace). IsOfKind p s) (sym is) kind;
  fresh = subst (λ (p : ChannelPlace). IsFresh (Begins a.folders p wish.limits) wish.users s home others) (sym is) fresh;
  takes = subst (λ (p : ChannelPlace). TakesDisk p a b) (sym is) same;
}

-- a channel that was wanted in a folder was opened
pub opened_in_folder : {A B : Type 0} (a b : HostTold) (wish : ChannelWish) (path : _) (p : List ℕ) (s : EitherShared A B) (home : Known) (others : List Known) → wish.place ≡ Folder path → p ≡ string_bytes path → IsDisk s
    → IsFresh (BeginsOnDisk wish.limits (a.folders.disks p)) wish.users s home others → IsOut p a b → IsOpened a b wish s home others
opened_in_folder a b wish path p s home others is at kind fresh out =
    let begun = subst (λ (q : List ℕ). IsFresh (BeginsOnDisk wish.limits (a.folders.disks q)) wish.users s home others) at fresh in
    let taken = subst (λ (q : List ℕ). IsOut q a b) at out in
    record {
      kind = subst (λ (p : ChannelPlace). IsOfKind p s) (sym is) kind;
      fresh = subst (λ (p : ChannelPlace). IsFresh (Begins a.folders p wish.limits) wish.users s home others) (sym is) begun;
      takes = subst (λ (p : ChannelPlace). TakesDisk p a b) (sym is) taken;
    }

-- a channel that was wanted in a folder was refused
pub refused_in_folder : (a b : HostTold) (wish : ChannelWish) (path : _) (p : List ℕ) (cause : OpenCause) → wish.place ≡ Folder path → p ≡ string_bytes path
    → HandsNone a b cause ⊎ GivesBack p wish.limits.capacity a b cause → Refuses wish.place wish.limits.capacity a b cause
refused_in_folder a b wish path p cause is at refused =
    let here = subst (λ (q : List ℕ). HandsNone a b cause ⊎ GivesBack q wish.limits.capacity a b cause) at refused in
    subst (λ (q : ChannelPlace). Refuses q wish.limits.capacity a b cause) (sym is) here

-- of a result that is Ok, from two facts a third, and from three a fourth

-- of a success, a third fact from two
pub ok_of_two : {T E : Type 0} (r : Result T E) (P Q R : T → Type 0) → ((x : T) → P x → Q x → R x) → IfOk r P → IfOk r Q → IfOk r R
ok_of_two (Ok x) P Q R step p q = step x p q
ok_of_two (Err e) P Q R step p q = tt

-- of a success, a fourth fact from three
pub ok_of_three : {T E : Type 0} (r : Result T E) (P Q R : T → Type 0) (O : Type 0) → ((x : T) → P x → Q x → O → R x) → IfOk r P → IfOk r Q → OnOk r O → IfOk r R
ok_of_three (Ok x) P Q R O step p q o = step x p q o
ok_of_three (Err e) P Q R O step p q o = tt
