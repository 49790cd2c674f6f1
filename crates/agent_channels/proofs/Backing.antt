-- Disks of closed channels come back, one after the other.
use Rattle.std.proofs.Common.{◌≡◌, ◌≢◌, ◌∙◌, ◌+◌, ℕ, zero, suc, List, [], ◌∷◌, ◌++◌, Bool, true, false, cond, length, Option, refl, sym, ap, subst, bytes_eq, true≢false, append_assoc, arith}
use Rattle.std.specs.Prelude.{string_bytes}
use Rattle.std.proofs.lemmas.List.{append-nil}
use Rattle.std.proofs.lemmas.List.Sums.{sum_by-append}
use Rattle.std.proofs.lemmas.Slice.Eq.{bytes_eq-Decides}
use Rattle.flume_host.specs.Causes.{Counts, Rose}
use Rattle.flume_host.specs.HostState.{ButDisk, Folders, HostState}
use Rattle.flume_host.specs.Told.{Told}
use Rattle.file_channel.specs.Stands.{FileState}
use Rattle.two_channels.specs.declared.shared.EitherClosed.{EitherClosed}
use Rattle.two_channels.specs.declared.shared.EitherClosed.TheVariants as closed
use Rattle.channel_wishes.specs.Openings.{HostTold}
use Rattle.channel_wishes.specs.Places.{AreOfWishes, IsOfPlace}
use Rattle.agent_channels.specs.Closings.{DiskBack, DisksBack, back_of, backs_of, faults_of, told_of}
use Rattle.channel_wishes.specs.declared.wish.ChannelPlace.{ChannelPlace}
use Rattle.channel_wishes.specs.declared.wish.ChannelPlace.TheVariants.{Memory, Folder}
use Rattle.channel_wishes.specs.declared.wish.ChannelWish.{ChannelWish}

-- ---- texts

-- paths that compare alike are one
pub same_path : (a b : List ℕ) → bytes_eq a b ≡ true → a ≡ b
same_path a b is = (bytes_eq-Decides a b).0 is

-- paths that do not compare alike are two
pub other_path : (a b : List ℕ) → bytes_eq a b ≡ false → b ≢ a
other_path a b not is = absurd (true≢false (sym ((bytes_eq-Decides a b).1 (sym is)) ∙ not))

-- ---- counts

-- a count that stayed has no fault more
pub counts_none : (n : ℕ) → Counts n n 0
counts_none n = record { later = omega arith; clean = λ _. refl; raised = λ some. absurd (omega (arith, some)) }

-- one count after the other
pub counts_then : (m n o x y z : ℕ) → z ≡ x + y → Counts m n x → Counts n o y → Counts m o z
counts_then m n o zero y z e c d = record {
  later = let p = c.later in let q = d.later in omega arith;
  clean = λ none. d.clean (omega (arith, e, none)) ∙ c.clean refl;
  raised = λ some. subst (λ (k : ℕ). Rose k o) (c.clean refl) (d.raised (omega (arith, e, some)));
}
counts_then m n o (suc x) y z e c d = record {
  later = let p = c.later in let q = d.later in omega arith;
  clean = λ none. absurd (omega (arith, e, none));
  raised = λ some. let r = c.raised (omega arith) in let q = d.later in omega (arith, r, q);
}

-- ---- disks come back

told_append : (a b : List DiskBack) (p : List ℕ) (before : Option Told) → told_of (a ++ b) p before ≡ told_of a p (told_of b p before)
told_append [] b p before = refl
told_append (back ∷ a) b p before = ap (λ (told : Option Told). cond (bytes_eq back.path p) back.told told) (told_append a b p before)

-- where no disk came back, the host is as before
pub back_none : (a b : HostTold) → b ≡ a → DisksBack [] a b
back_none a b same = subst (λ (h : HostTold). DisksBack [] a h) (sym same) (record { disks = λ p. refl; opened = λ p. refl; rolls = refl; rolls_opened = refl; state = refl; counts = counts_none a.state.disk_faults })

-- one disk did
pub back_one : (path : List ℕ) (told : Option Told) (faults n : ℕ) (a b : HostTold) → a.folders.disk_opened path ≡ true → ButDisk path a.folders b.folders → b.folders.disks path ≡ told → b.folders.disk_opened path ≡ true
    → b.state ≡ record a.state { disk_faults = n } → Counts a.state.disk_faults n faults → DisksBack (record { path = path; told = told; faults = faults } ∷ []) a b
back_one path told faults n a b was but is marked state counts = record {
  disks = λ p. disks p (bytes_eq path p) refl;
  opened = λ p. marks p (bytes_eq path p) refl;
  rolls = but.rolls;
  rolls_opened = but.rolls_opened;
  state = state ∙ ap (λ (j : ℕ). record a.state { disk_faults = j }) (sym m);
  counts = subst (λ (x : ℕ × ℕ). Counts a.state.disk_faults x.0 x.1) (λ i. (sym m i, e i)) counts;
}
  where
    m : b.state.disk_faults ≡ n
    m = ap (λ (s : HostState). s.disk_faults) state

    e : faults ≡ faults_of (record { path = path; told = told; faults = faults } ∷ [])
    e = omega arith

    disks : (p : List ℕ) (test : Bool) → bytes_eq path p ≡ test → b.folders.disks p ≡ cond test told (a.folders.disks p)
    disks p true same = ap b.folders.disks (sym (same_path path p same)) ∙ is
    disks p false other = but.disks p (other_path path p other)

    marks : (p : List ℕ) (test : Bool) → bytes_eq path p ≡ test → b.folders.disk_opened p ≡ a.folders.disk_opened p
    marks p true same = ap b.folders.disk_opened (sym (same_path path p same)) ∙ marked ∙ sym was ∙ ap a.folders.disk_opened (same_path path p same)
    marks p false other = but.opened p (other_path path p other)

-- one after the other
pub back_then : (x y : List DiskBack) (a m b : HostTold) → DisksBack y a m → DisksBack x m b → DisksBack (x ++ y) a b
back_then x y a m b first second = record {
  disks = λ p. second.disks p ∙ ap (told_of x p) (first.disks p) ∙ sym (told_append x y p (a.folders.disks p));
  opened = λ p. second.opened p ∙ first.opened p;
  rolls = second.rolls ∙ first.rolls;
  rolls_opened = second.rolls_opened ∙ first.rolls_opened;
  state = second.state ∙ ap (λ (s : HostState). record s { disk_faults = b.state.disk_faults }) first.state;
  counts = counts_then a.state.disk_faults m.state.disk_faults b.state.disk_faults (faults_of y) (faults_of x) (faults_of (x ++ y)) (let e = sum_by-append (λ (back : DiskBack). back.faults) x y in omega (arith, e)) first.counts second.counts;
}

-- ---- closed channels, from the back

module _ {A B : Type 0} where
  -- a closed channel of a place stays one where disks that were opened are so still
  pub of_place_later : (f g : Folders) → ((p : List ℕ) → f.disk_opened p ≡ true → g.disk_opened p ≡ true) → (place : ChannelPlace) (c : EitherClosed A B) → IsOfPlace f place c → IsOfPlace g place c
  of_place_later f g later Memory (closed.Memory c) of = tt
  of_place_later f g later Memory (closed.Disk c) of = absurd of
  of_place_later f g later (Folder path) (closed.Disk c) of = later (string_bytes path) of
  of_place_later f g later (Folder path) (closed.Memory c) of = absurd of

  -- closed channels of wishes stay those where disks that were opened are so still
  pub of_later : (f g : Folders) → ((p : List ℕ) → f.disk_opened p ≡ true → g.disk_opened p ≡ true) → (wishes : List ChannelWish) (cs : List (EitherClosed A B)) → AreOfWishes f wishes cs → AreOfWishes g wishes cs
  of_later f g later [] [] of = tt
  of_later f g later [] (c ∷ cs) of = absurd of
  of_later f g later (wish ∷ wishes) [] of = absurd of
  of_later f g later (wish ∷ wishes) (c ∷ cs) of = (of_place_later f g later wish.place c of.0, of_later f g later wishes cs of.1)

  -- none has no wish
  pub of_some : (f : Folders) (wishes : List ChannelWish) (cs : List (EitherClosed A B)) (c : EitherClosed A B) → length wishes ≡ 0 → AreOfWishes f wishes (cs ++ c ∷ []) → ⊥
  of_some f [] [] c none of = of
  of_some f [] (d ∷ cs) c none of = of
  of_some f (wish ∷ wishes) cs c none of = absurd (omega (arith, none))

  -- without the last wish and the last channel, the others still fit, and so do these two
  pub of_last : (f : Folders) (wishes : List ChannelWish) (cs : List (EitherClosed A B)) (wish : ChannelWish) (c : EitherClosed A B) → AreOfWishes f (wishes ++ wish ∷ []) (cs ++ c ∷ []) → AreOfWishes f wishes cs × IsOfPlace f wish.place c
  of_last f [] [] wish c of = (tt, of.0)
  of_last f [] (d ∷ []) wish c of = absurd of.1
  of_last f [] (d ∷ e ∷ cs) wish c of = absurd of.1
  of_last f (w ∷ []) [] wish c of = absurd of.1
  of_last f (w ∷ x ∷ wishes) [] wish c of = absurd of.1
  of_last f (w ∷ wishes) (d ∷ cs) wish c of = let r = of_last f wishes cs wish c of.1 in ((of.0, r.0), r.1)

  -- closed channels fit their wishes, where the last of both was split off
  pub of_split : (f : Folders) (wishes front : List ChannelWish) (cs left : List (EitherClosed A B)) (wish : ChannelWish) (c : EitherClosed A B) → wishes ≡ front ++ wish ∷ [] → cs ≡ left ++ c ∷ []
      → AreOfWishes f wishes cs → AreOfWishes f front left × IsOfPlace f wish.place c
  of_split f wishes front cs left wish c w l of =
      of_last f front left wish c (subst (λ (x : List ChannelWish × List (EitherClosed A B)). AreOfWishes f x.0 x.1) (λ i. (w i, l i)) of)

-- of no channel no disk comes back
pub backs_none : {D B : Type 0} (told : D → Option Told) (faults : D → ℕ) (wishes : List ChannelWish) (cs : List (EitherClosed (D × FileState) B)) → cs ≡ [] → backs_of told faults wishes cs ≡ []
backs_none told faults [] cs none = refl
backs_none told faults (wish ∷ wishes) [] none = refl
backs_none told faults (wish ∷ wishes) (c ∷ cs) none = absurd (let e = ap length none in omega (arith, e))

module _ {D B : Type 0} (told : D → Option Told) (faults : D → ℕ) where
  -- one wish and one closed channel more have their disk last in the list
  pub backs_more : (f : Folders) (wishes : List ChannelWish) (cs : List (EitherClosed (D × FileState) B)) (wish : ChannelWish) (c : EitherClosed (D × FileState) B) → AreOfWishes f wishes cs
      → backs_of told faults (wishes ++ wish ∷ []) (cs ++ c ∷ []) ≡ backs_of told faults wishes cs ++ back_of told faults wish.place c
  backs_more f [] [] wish c of = append-nil (back_of told faults wish.place c)
  backs_more f [] (d ∷ cs) wish c of = absurd of
  backs_more f (w ∷ wishes) [] wish c of = absurd of
  backs_more f (w ∷ wishes) (d ∷ cs) wish c of =
      ap (λ (l : List DiskBack). back_of told faults w.place d ++ l) (backs_more f wishes cs wish c of.1)
      ∙ sym (append_assoc (back_of told faults w.place d) (backs_of told faults wishes cs) (back_of told faults wish.place c))

  -- the disks that come back, where the last wish and the last channel were split off
  pub backs_split : (f : Folders) (wishes front : List ChannelWish) (cs left : List (EitherClosed (D × FileState) B)) (wish : ChannelWish) (c : EitherClosed (D × FileState) B) → wishes ≡ front ++ wish ∷ [] → cs ≡ left ++ c ∷ []
      → AreOfWishes f front left → backs_of told faults wishes cs ≡ backs_of told faults front left ++ back_of told faults wish.place c
  backs_split f wishes front cs left wish c w l of = (λ i. backs_of told faults (w i) (l i)) ∙ backs_more f front left wish c of
