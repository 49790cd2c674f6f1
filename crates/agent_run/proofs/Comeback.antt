-- Channels that were opened and came back, with no call made.
use Rattle.std.proofs.Common.{◌≡◌, ◌∙◌, ◌<◌, ◌++◌, inl, inr, ℕ, zero, suc, List, [], ◌∷◌, Bool, true, false, cond, Option, length, get_or, refl, sym, ap, subst, arith, bytes_eq, string_bytes, length-append}
use Rattle.std.proofs.lemmas.Slice.Eq.{bytes_eq-Decides}
use Rattle.flume_host.specs.HostState.{Folders}
use Rattle.flume_host.specs.Told.{Told}
use Rattle.channel_face.specs.History.{Opening}
use Rattle.channel_face.specs.declared.replies.Limits.{Limits}
use Rattle.channel_face.specs.declared.replies.OpenCause.{OpenCause}
use Rattle.agent_channels.specs.Closings.{DiskBack, DisksBack, faults_of}
use Rattle.channel_wishes.specs.Openings.{Begins, HostTold, Refuses, TakesDisk}
use Rattle.channel_wishes.specs.Opened.{AreOpened}
use Rattle.agent_channels.specs.Several.{AreUnused, ComeBack, IsUnused, RefusesAt}
use Rattle.channel_wishes.specs.declared.opened.OpenedChannel.{OpenedChannel}
use Rattle.channel_wishes.specs.declared.wish.ChannelPlace.{ChannelPlace}
use Rattle.channel_wishes.specs.declared.wish.ChannelPlace.TheVariants.{Folder, Memory}
use Rattle.channel_wishes.specs.declared.wish.ChannelWish.{ChannelWish}
use Rattle.agent_run.specs.NotBegun.{IsSameDisk}
use Rattle.agent_run.proofs.Began.{IsPlacedIn, fresh_base}

-- ---- what was opened comes back

-- channels that were opened, and of which each came back unused, came back with no call made
pub come_back : {A B : Type 0} (wishes : List ChannelWish) (cs : List (OpenedChannel A B)) (a b c d : HostTold) → AreOpened wishes cs a b → AreUnused wishes cs c d → ComeBack wishes a b c d
come_back [] [] a b c d opened unused = (opened, unused)
come_back [] (x ∷ cs) a b c d opened unused = absurd opened
come_back (w ∷ wishes) [] a b c d opened unused = absurd opened
come_back (w ∷ wishes) (x ∷ cs) a b c d opened unused =
    let fresh = opened.1.fresh in
    let base = fresh_base (Begins a.folders w.place w.limits) w.users x.share x.home x.others.items fresh in (
      opened.0,
      unused.0,
      fresh.start,
      fresh.begins,
      opened.1.takes,
      come_back wishes cs opened.0 b c unused.0 opened.2 unused.1,
      subst (λ (s : Opening). IsUnused w.place s unused.0 d) base unused.2,
    )

-- ---- the host itself

takes_state : (place : ChannelPlace) (a b : HostTold) → TakesDisk place a b → b.state ≡ a.state
takes_state Memory a b takes = ap (λ (h : HostTold). h.state) takes
takes_state (Folder path) a b takes = takes.state

-- the host shows the same of itself while channels are opened
pub opened_state : {A B : Type 0} (wishes : List ChannelWish) (cs : List (OpenedChannel A B)) (a b : HostTold) → AreOpened wishes cs a b → b.state ≡ a.state
opened_state [] [] a b are = ap (λ (h : HostTold). h.state) are
opened_state [] (c ∷ cs) a b are = absurd are
opened_state (wish ∷ wishes) [] a b are = absurd are
opened_state (wish ∷ wishes) (c ∷ cs) a b are = opened_state wishes cs are.0 b are.2 ∙ takes_state wish.place a are.0 are.1.takes

-- disks that counted no fault came back
back_state : (backs : List DiskBack) (a b : HostTold) → DisksBack backs a b → faults_of backs ≡ 0 → b.state ≡ a.state
back_state backs a b back none = back.state ∙ ap (λ (n : ℕ). record a.state { disk_faults = n }) (back.counts.clean none)

unused_state : (folders : Folders) (place : ChannelPlace) (limits : Limits) (start : Opening) (a b : HostTold) → Begins folders place limits start → IsUnused place start a b → b.state ≡ a.state
unused_state folders Memory limits start a b begins unused = back_state [] a b unused (omega arith)
unused_state folders (Folder path) limits start a b begins unused =
    back_state (record { path = string_bytes path; told = unused.0; faults = start.faults } ∷ []) a b unused.1 (let none = begins.faults in omega (arith, none))

-- the host shows the same of itself while channels are opened, and while they come back unused
pub come_states : (wishes : List ChannelWish) (a b c d : HostTold) → ComeBack wishes a b c d → (b.state ≡ a.state) × (d.state ≡ c.state)
come_states [] a b c d back = (ap (λ (h : HostTold). h.state) back.0, ap (λ (h : HostTold). h.state) back.1)
come_states (wish ∷ wishes) a b c d back =
    let rest = come_states wishes back.0 b c back.1 back.5 in (
      rest.0 ∙ takes_state wish.place a back.0 back.4,
      unused_state a.folders wish.place wish.limits back.2 back.1 d back.3 back.6 ∙ rest.1,
    )

-- ---- rolled files

-- no folder of rolled files has changed
pub record IsSameRolls (f g : Folders) : Type 0 where
  pub told : g.rolls ≡ f.rolls
  pub mark : g.roll_opened ≡ f.roll_opened

same_rolls : (a b : HostTold) → b ≡ a → IsSameRolls a.folders b.folders
same_rolls a b same = record { told = ap (λ (h : HostTold). h.folders.rolls) same; mark = ap (λ (h : HostTold). h.folders.roll_opened) same }

-- over two steps that change no folder of rolled files, none has changed
pub rolls_then : (f g h : Folders) → IsSameRolls f g → IsSameRolls g h → IsSameRolls f h
rolls_then f g h first second = record { told = second.told ∙ first.told; mark = second.mark ∙ first.mark }

takes_rolls : (place : ChannelPlace) (a b : HostTold) → TakesDisk place a b → IsSameRolls a.folders b.folders
takes_rolls Memory a b takes = same_rolls a b takes
takes_rolls (Folder path) a b takes = record { told = takes.others.rolls; mark = takes.others.rolls_opened }

unused_rolls : (place : ChannelPlace) (start : Opening) (a b : HostTold) → IsUnused place start a b → IsSameRolls a.folders b.folders
unused_rolls Memory start a b unused = record { told = unused.rolls; mark = unused.rolls_opened }
unused_rolls (Folder path) start a b unused = record { told = unused.1.rolls; mark = unused.1.rolls_opened }

refuses_rolls : (place : ChannelPlace) (capacity : ℕ) (a b : HostTold) (cause : OpenCause) → Refuses place capacity a b cause → IsSameRolls a.folders b.folders
refuses_rolls Memory capacity a b cause refuses = same_rolls a b refuses.1
refuses_rolls (Folder path) capacity a b cause (inl none) = record { told = ap (λ (f : Folders). f.rolls) none.folders; mark = ap (λ (f : Folders). f.roll_opened) none.folders }
refuses_rolls (Folder path) capacity a b cause (inr back) = record { told = back.others.rolls; mark = back.others.rolls_opened }

-- no folder of rolled files changes while channels are opened, nor while they come back unused
pub come_rolls : (wishes : List ChannelWish) (a b c d : HostTold) → ComeBack wishes a b c d → IsSameRolls a.folders b.folders × IsSameRolls c.folders d.folders
come_rolls [] a b c d back = (same_rolls a b back.0, same_rolls c d back.1)
come_rolls (wish ∷ wishes) a b c d back =
    let rest = come_rolls wishes back.0 b c back.1 back.5 in (
      rolls_then a.folders back.0.folders b.folders (takes_rolls wish.place a back.0 back.4) rest.0,
      rolls_then c.folders back.1.folders d.folders rest.1 (unused_rolls wish.place back.2 back.1 d back.6),
    )

-- nor does one where a channel is refused
pub refused_rolls : (wishes : List ChannelWish) (a b : HostTold) (place : ℕ) (cause : OpenCause) → RefusesAt wishes a b place cause → IsSameRolls a.folders b.folders
refused_rolls wishes a b place cause r =
    let come = come_rolls r.front a r.come r.left b r.others in
    rolls_then a.folders r.come.folders b.folders come.0
    (rolls_then r.come.folders r.left.folders b.folders (refuses_rolls r.wish.place r.wish.limits.capacity r.come r.left cause r.why) come.1)

-- ---- the disk of a path that was not wanted

same_disk : (path : List ℕ) (a b : HostTold) → b ≡ a → IsSameDisk path a.folders b.folders
same_disk path a b same = record { told = ap (λ (h : HostTold). h.folders.disks path) same; mark = ap (λ (h : HostTold). h.folders.disk_opened path) same }

-- over two steps that leave the disk of a path as it was, it is as it was
pub disk_then : (path : List ℕ) (f g h : Folders) → IsSameDisk path f g → IsSameDisk path g h → IsSameDisk path f h
disk_then path f g h first second = record { told = second.told ∙ first.told; mark = second.mark ∙ first.mark }

else_told : (folder path : List ℕ) (told before : Option Told) → (folder ≡ path → ⊥) → cond (bytes_eq folder path) told before ≡ before
else_told folder path told before other = here (bytes_eq folder path) refl
  where
    here : (test : Bool) → bytes_eq folder path ≡ test → cond test told before ≡ before
    here true same = absurd (other ((bytes_eq-Decides folder path).0 same))
    here false not = refl

takes_else : (path : List ℕ) (place : ChannelPlace) (a b : HostTold) → (IsPlacedIn place path → ⊥) → TakesDisk place a b → IsSameDisk path a.folders b.folders
takes_else path Memory a b other takes = same_disk path a b takes
takes_else path (Folder folder) a b other takes =
    let no : path ≡ string_bytes folder → ⊥ = λ same. other (sym same) in
    record { told = takes.others.disks path no; mark = takes.others.opened path no }

unused_else : (path : List ℕ) (place : ChannelPlace) (start : Opening) (a b : HostTold) → (IsPlacedIn place path → ⊥) → IsUnused place start a b → IsSameDisk path a.folders b.folders
unused_else path Memory start a b other unused = record { told = unused.disks path; mark = unused.opened path }
unused_else path (Folder folder) start a b other unused = record {
  told = unused.1.disks path ∙ else_told (string_bytes folder) path unused.0 (a.folders.disks path) other;
  mark = unused.1.opened path;
}

refuses_else : (path : List ℕ) (place : ChannelPlace) (capacity : ℕ) (a b : HostTold) (cause : OpenCause) → (IsPlacedIn place path → ⊥) → Refuses place capacity a b cause → IsSameDisk path a.folders b.folders
refuses_else path Memory capacity a b cause other refuses = same_disk path a b refuses.1
refuses_else path (Folder folder) capacity a b cause other (inl none) =
    record { told = ap (λ (f : Folders). f.disks path) none.folders; mark = ap (λ (f : Folders). f.disk_opened path) none.folders }
refuses_else path (Folder folder) capacity a b cause other (inr back) =
    let no : path ≡ string_bytes folder → ⊥ = λ same. other (sym same) in
    record { told = back.others.disks path no; mark = back.others.opened path no }

-- none of these is wanted in the folder of this path
abbrev pub AreElse : List ℕ → List ChannelWish → Type 0
AreElse path wishes = (i : ℕ) (w : ChannelWish) → i < length wishes → IsPlacedIn (get_or wishes i w).place path → ⊥

-- the disk of a path that is not wanted stays as it was while channels are opened, and while they come back unused
pub come_else : (path : List ℕ) (wishes : List ChannelWish) (a b c d : HostTold) → AreElse path wishes → ComeBack wishes a b c d → IsSameDisk path a.folders b.folders × IsSameDisk path c.folders d.folders
come_else path [] a b c d none back = (same_disk path a b back.0, same_disk path c d back.1)
come_else path (wish ∷ wishes) a b c d none back =
    let no : IsPlacedIn wish.place path → ⊥ = none 0 wish (omega arith) in
    let rest = come_else path wishes back.0 b c back.1 (λ i w low. none (suc i) w (omega (arith, low))) back.5 in (
      disk_then path a.folders back.0.folders b.folders (takes_else path wish.place a back.0 no back.4) rest.0,
      disk_then path c.folders back.1.folders d.folders rest.1 (unused_else path wish.place back.2 back.1 d no back.6),
    )

-- ---- the first of some wishes

-- what is not so of the first of all is not so of them
pub front_else : (path : List ℕ) (front rest : List ChannelWish) → ((i : ℕ) (w : ChannelWish) → i < length front → IsPlacedIn (get_or (front ++ rest) i w).place path → ⊥) → AreElse path front
front_else path [] rest none i w low = absurd (omega (arith, low))
front_else path (wish ∷ front) rest none zero w low = none zero w low
front_else path (wish ∷ front) rest none (suc i) w low = front_else path front rest (λ j x below. none (suc j) x (omega (arith, below))) i w (omega (arith, low))

-- behind the wishes before it a wish stands at the place of their number
pub wish_there : (front : List ChannelWish) (wish : ChannelWish) (rest : List ChannelWish) (d : ChannelWish) → get_or (front ++ wish ∷ rest) (length front) d ≡ wish
wish_there [] wish rest d = refl
wish_there (w ∷ front) wish rest d = wish_there front wish rest d

-- and that place is within the whole list
pub wish_below : (front : List ChannelWish) (wish : ChannelWish) (rest : List ChannelWish) → length front < length (front ++ wish ∷ rest)
wish_below front wish rest = let many = length-append front (wish ∷ rest) in omega (arith, many)

-- the disk of a path that is not wanted stays as it was where a channel is refused
pub refused_else : (path : List ℕ) (wishes : List ChannelWish) (a b : HostTold) (place : ℕ) (cause : OpenCause) → AreElse path wishes → RefusesAt wishes a b place cause → IsSameDisk path a.folders b.folders
refused_else path wishes a b place cause none r =
    let whole = r.front ++ r.wish ∷ r.rest in
    let all = subst (AreElse path) r.split none in
    let front = front_else path r.front (r.wish ∷ r.rest) (λ i w low. all i w (let many = wish_below r.front r.wish r.rest in omega (arith, low, many))) in
    let no : IsPlacedIn r.wish.place path → ⊥ = λ placed.
    all (length r.front) r.wish (wish_below r.front r.wish r.rest) (subst (λ (w : ChannelWish). IsPlacedIn w.place path) (sym (wish_there r.front r.wish r.rest r.wish)) placed) in
    let come = come_else path r.front a r.come r.left b front r.others in
    disk_then path a.folders r.come.folders b.folders come.0
    (disk_then path r.come.folders r.left.folders b.folders (refuses_else path r.wish.place r.wish.limits.capacity r.come r.left cause no r.why) come.1)
