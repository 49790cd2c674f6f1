-- Channels are opened in order, and come back.
use Rattle.std.proofs.Common.{◌≡◌, ◌∙◌, inl, inr, ℕ, suc, List, [], ◌∷◌, ◌++◌, Bool, true, false, length, map, refl, sym, ap, subst, bytes_eq, append_assoc, arith}
use Rattle.std.specs.Prelude.{string_bytes}
use Rattle.flume_host.specs.HostState.{Folders}
use Rattle.channel_face.specs.History.{Opening, Step}
use Rattle.channel_face.specs.declared.replies.OpenCause.{OpenCause}
use Rattle.channel_face.specs.declared.replies.OpenCause.TheVariants.{NoMemory}
use Rattle.channel_lock.specs.Views.{View}
use Rattle.two_channels.specs.Shares.{LeftIn, table_of}
use Rattle.two_channels.specs.declared.shared.EitherClosed.{EitherClosed}
use Rattle.two_channels.specs.declared.shared.EitherClosed.TheVariants as closed
use Rattle.two_channels.specs.declared.shared.EitherShared.{EitherShared}
use Rattle.two_channels.specs.declared.shared.EitherShared.TheVariants as share
use Rattle.channel_wishes.specs.Openings.{HostTold, IsOfKind, IsOpened, Refuses, TakesDisk}
use Rattle.channel_wishes.specs.Places.{AreClosedOf, AreOfWishes, AreOut, IsClosedOf, IsOfPlace, IsOutIn}
use Rattle.channel_wishes.specs.Opened.{AddsOpened, AreOpened, WereOpened}
use Rattle.agent_channels.specs.Several.{AreNew, AreUnused, ComeBack, IsUnused, RefusesAt, RefusesLast}
use Rattle.channel_wishes.specs.declared.opened.OpenedChannel.{OpenedChannel}
use Rattle.channel_wishes.specs.declared.wish.ChannelPlace.{ChannelPlace}
use Rattle.channel_wishes.specs.declared.wish.ChannelPlace.TheVariants.{Memory, Folder}
use Rattle.channel_wishes.specs.declared.wish.ChannelWish.{ChannelWish}
use Rattle.agent_channels.proofs.Backing.{other_path, same_path}
use Rattle.agent_channels.proofs.Joining.{fresh_base, fresh_new}

-- ---- what was opened stays so

-- a folder that was opened in f is so in g
abbrev pub Marks : Folders → Folders → Type 0
Marks f g = (p : List ℕ) → f.disk_opened p ≡ true → g.disk_opened p ≡ true

-- folders that are as before have what was opened
pub same_marks : (f g : Folders) → g ≡ f → Marks f g
same_marks f g same p is = ap (λ (h : Folders). h.disk_opened p) same ∙ is

but_marks : (path : List ℕ) (f g : Folders) → g.disk_opened path ≡ true → ((p : List ℕ) → (p ≡ path → ⊥) → g.disk_opened p ≡ f.disk_opened p) → Marks f g
but_marks path f g marked but p is = here (bytes_eq path p) refl
  where
    here : (test : Bool) → bytes_eq path p ≡ test → g.disk_opened p ≡ true
    here true same = ap g.disk_opened (sym (same_path path p same)) ∙ marked
    here false other = but p (other_path path p other) ∙ is

-- what was opened stays so where a channel takes its disk
pub takes_marks : (place : ChannelPlace) (a b : HostTold) → TakesDisk place a b → Marks a.folders b.folders
takes_marks Memory a b takes = same_marks a.folders b.folders (ap (λ (h : HostTold). h.folders) takes)
takes_marks (Folder path) a b takes = but_marks (string_bytes path) a.folders b.folders takes.opened takes.others.opened

-- what was opened stays so where a channel is refused
pub refuses_marks : (place : ChannelPlace) (capacity : ℕ) (a b : HostTold) (cause : OpenCause) → Refuses place capacity a b cause → Marks a.folders b.folders
refuses_marks Memory capacity a b cause refuses = same_marks a.folders b.folders (ap (λ (h : HostTold). h.folders) refuses.1)
refuses_marks (Folder path) capacity a b cause (inl none) = same_marks a.folders b.folders none.folders
refuses_marks (Folder path) capacity a b cause (inr back) = but_marks (string_bytes path) a.folders b.folders back.opened back.others.opened

-- what was opened stays so where the disk of an unused channel comes back
pub unused_marks : (place : ChannelPlace) (start : Opening) (a b : HostTold) → IsUnused place start a b → Marks a.folders b.folders
unused_marks Memory start a b unused p is = unused.opened p ∙ is
unused_marks (Folder path) start a b unused p is = unused.1.opened p ∙ is

out_in_later : (f g : Folders) → Marks f g → (place : ChannelPlace) → IsOutIn f place → IsOutIn g place
out_in_later f g marks Memory out = tt
out_in_later f g marks (Folder path) out = marks (string_bytes path) out

-- disks that are out for wishes can be given back later too
pub out_later : (f g : Folders) → Marks f g → (wishes : List ChannelWish) → AreOut f wishes → AreOut g wishes
out_later f g marks [] out = tt
out_later f g marks (wish ∷ wishes) out = (out_in_later f g marks wish.place out.0, out_later f g marks wishes out.1)

-- disks are out for the first wishes and for the last one
pub out_last : (f : Folders) (wishes : List ChannelWish) (wish : ChannelWish) → AreOut f (wishes ++ wish ∷ []) → AreOut f wishes × IsOutIn f wish.place
out_last f [] wish out = (tt, out.0)
out_last f (w ∷ wishes) wish out = let r = out_last f wishes wish out.1 in ((out.0, r.0), r.1)

takes_out : (place : ChannelPlace) (a b : HostTold) → TakesDisk place a b → IsOutIn b.folders place
takes_out Memory a b takes = tt
takes_out (Folder path) a b takes = takes.opened

-- ---- channels that were opened

module _ {A B : Type 0} where
  opened_marks : (wishes : List ChannelWish) (cs : List (OpenedChannel A B)) (a b : HostTold) → AreOpened wishes cs a b → Marks a.folders b.folders
  opened_marks [] [] a b opened = same_marks a.folders b.folders (ap (λ (h : HostTold). h.folders) opened)
  opened_marks [] (c ∷ cs) a b opened = absurd opened
  opened_marks (wish ∷ wishes) [] a b opened = absurd opened
  opened_marks (wish ∷ wishes) (c ∷ cs) a b opened = λ p is. opened_marks wishes cs opened.0 b opened.2 p (takes_marks wish.place a opened.0 opened.1.takes p is)

  -- their disks are out
  pub opened_out : (wishes : List ChannelWish) (cs : List (OpenedChannel A B)) (a b : HostTold) → AreOpened wishes cs a b → AreOut b.folders wishes
  opened_out [] [] a b opened = tt
  opened_out [] (c ∷ cs) a b opened = absurd opened
  opened_out (wish ∷ wishes) [] a b opened = absurd opened
  opened_out (wish ∷ wishes) (c ∷ cs) a b opened =
      (out_in_later opened.0.folders b.folders (opened_marks wishes cs opened.0 b opened.2) wish.place (takes_out wish.place a opened.0 opened.1.takes), opened_out wishes cs opened.0 b opened.2)

  -- as many channels were opened as wished for
  pub opened_many : (wishes : List ChannelWish) (cs : List (OpenedChannel A B)) (a b : HostTold) → AreOpened wishes cs a b → length cs ≡ length wishes
  opened_many [] [] a b opened = refl
  opened_many [] (c ∷ cs) a b opened = absurd opened
  opened_many (wish ∷ wishes) [] a b opened = absurd opened
  opened_many (wish ∷ wishes) (c ∷ cs) a b opened = ap suc (opened_many wishes cs opened.0 b opened.2)

  -- one more
  pub opened_push : (wishes : List ChannelWish) (cs : List (OpenedChannel A B)) (wish : ChannelWish) (c : OpenedChannel A B) (a m b : HostTold) → AreOpened wishes cs a m
      → IsOpened m b wish c.share c.home c.others.items → AreOpened (wishes ++ wish ∷ []) (cs ++ c ∷ []) a b
  opened_push [] [] wish c a m b opened one = (b, subst (λ (h : HostTold). IsOpened h b wish c.share c.home c.others.items) opened one, refl)
  opened_push [] (d ∷ cs) wish c a m b opened one = absurd opened
  opened_push (w ∷ wishes) [] wish c a m b opened one = absurd opened
  opened_push (w ∷ wishes) (d ∷ cs) wish c a m b opened one = (opened.0, opened.1, opened_push wishes cs wish c opened.0 m b opened.2 one)

  -- the list of opened channels goes on by the one that was added
  pub opened_more : (wishes front : List ChannelWish) (before after : List (OpenedChannel A B)) (wish : ChannelWish) (a m b : HostTold) → wishes ≡ front ++ wish ∷ [] → AreOpened front before a m → AddsOpened wish m b before after → AreOpened wishes after a b
  opened_more wishes front before after wish a m b w opened added =
      subst (λ (x : List ChannelWish × List (OpenedChannel A B)). AreOpened x.0 x.1 a b) (λ i. (sym w i, sym added.1 i)) (opened_push front before wish added.0 a m b opened added.2)

  -- without a wish nothing was opened
  pub opened_zero : (wishes : List ChannelWish) (cs : List (OpenedChannel A B)) (a : HostTold) → length wishes ≡ 0 → cs ≡ [] → AreOpened wishes cs a a
  opened_zero [] cs a none empty = subst (λ (l : List (OpenedChannel A B)). AreOpened [] l a a) (sym empty) refl
  opened_zero (wish ∷ wishes) cs a none empty = absurd (omega (arith, none))

  -- without the last
  pub opened_last : (wishes : List ChannelWish) (cs : List (OpenedChannel A B)) (wish : ChannelWish) (c : OpenedChannel A B) (a b : HostTold) → AreOpened (wishes ++ wish ∷ []) (cs ++ c ∷ []) a b
      → (m : HostTold) × AreOpened wishes cs a m × IsOpened m b wish c.share c.home c.others.items
  opened_last [] [] wish c a b opened = (a, refl, subst (λ (h : HostTold). IsOpened a h wish c.share c.home c.others.items) (sym opened.2) opened.1)
  opened_last [] (d ∷ []) wish c a b opened = absurd opened.2
  opened_last [] (d ∷ e ∷ cs) wish c a b opened = absurd opened.2
  opened_last (w ∷ []) [] wish c a b opened = absurd opened.2
  opened_last (w ∷ x ∷ wishes) [] wish c a b opened = absurd opened.2
  opened_last (w ∷ wishes) (d ∷ cs) wish c a b opened =
      let r = opened_last wishes cs wish c opened.0 b opened.2 in
      (r.0, (opened.0, opened.1, r.1), r.2)

  -- without the last wish and its channel the others were opened, and that one is new and of its kind
  pub were_split : (wishes front : List ChannelWish) (cs left : List (OpenedChannel A B)) (wish : ChannelWish) (c : OpenedChannel A B) → wishes ≡ front ++ wish ∷ [] → cs ≡ left ++ c ∷ [] → WereOpened wishes cs
      → WereOpened front left × IsOfKind wish.place c.share × AreNew (table_of c.share) c.home c.others.items
  were_split wishes front cs left wish c w l opened =
      let o = opened_last front left wish c opened.0 opened.1 (subst (λ (x : List ChannelWish × List (OpenedChannel A B)). AreOpened x.0 x.1 opened.0 opened.1) (λ i. (w i, l i)) opened.2) in
      ((opened.0, o.0, o.1), o.2.kind, fresh_new (table_of c.share) o.2.fresh.start wish.users c.home c.others.items o.2.fresh.passes)

  -- none has no wish
  pub opened_some : (wishes : List ChannelWish) (cs : List (OpenedChannel A B)) (c : OpenedChannel A B) → length wishes ≡ 0 → WereOpened wishes (cs ++ c ∷ []) → ⊥
  opened_some [] [] c none opened = opened.2
  opened_some [] (d ∷ cs) c none opened = opened.2
  opened_some (wish ∷ wishes) cs c none opened = absurd (omega (arith, none))

  -- ---- channels that come back without a call

  -- one unused channel more came back, before the others
  pub unused_push : (wishes : List ChannelWish) (cs : List (OpenedChannel A B)) (wish : ChannelWish) (c : OpenedChannel A B) (a m b : HostTold) → IsUnused wish.place c.home.view.base a m
      → AreUnused wishes cs m b → AreUnused (wishes ++ wish ∷ []) (cs ++ c ∷ []) a b
  unused_push [] [] wish c a m b one unused = (a, refl, subst (λ (h : HostTold). IsUnused wish.place c.home.view.base a h) (sym unused) one)
  unused_push [] (d ∷ cs) wish c a m b one unused = absurd unused
  unused_push (w ∷ wishes) [] wish c a m b one unused = absurd unused
  unused_push (w ∷ wishes) (d ∷ cs) wish c a m b one unused = (unused.0, unused_push wishes cs wish c a m unused.0 one unused.1, unused.2)

  -- unused channels came back, where the last of them was split off
  pub unused_split : (wishes front : List ChannelWish) (cs left : List (OpenedChannel A B)) (wish : ChannelWish) (c : OpenedChannel A B) (a m b : HostTold) → wishes ≡ front ++ wish ∷ [] → cs ≡ left ++ c ∷ []
      → IsUnused wish.place c.home.view.base a m → AreUnused front left m b → AreUnused wishes cs a b
  unused_split wishes front cs left wish c a m b w l one unused =
      subst (λ (x : List ChannelWish × List (OpenedChannel A B)). AreUnused x.0 x.1 a b) (λ i. (sym w i, sym l i)) (unused_push front left wish c a m b one unused)

  -- where no channel was opened, none comes back
  pub unused_none : (wishes : List ChannelWish) (cs : List (OpenedChannel A B)) (a : HostTold) → WereOpened wishes cs → cs ≡ [] → AreUnused wishes cs a a
  unused_none [] [] a opened none = refl
  unused_none [] (c ∷ cs) a opened none = absurd opened.2
  unused_none (wish ∷ wishes) [] a opened none = absurd opened.2
  unused_none (wish ∷ wishes) (c ∷ cs) a opened none = absurd (let e = ap length none in omega (arith, e))

  -- channels that were opened and made no call come back as the wishes say
  pub come_back : (wishes : List ChannelWish) (cs : List (OpenedChannel A B)) (a b c d : HostTold) → AreOpened wishes cs a b → AreUnused wishes cs c d → ComeBack wishes a b c d
  come_back [] [] a b c d opened unused = (opened, unused)
  come_back [] (x ∷ cs) a b c d opened unused = absurd opened
  come_back (w ∷ wishes) [] a b c d opened unused = absurd opened
  come_back (w ∷ wishes) (x ∷ cs) a b c d opened unused =
      let fresh = opened.1.fresh in
      let base = fresh_base (table_of x.share) fresh.start w.users x.home x.others.items fresh.passes in
      (opened.0, unused.0, fresh.start, fresh.begins, opened.1.takes, come_back wishes cs opened.0 b c unused.0 opened.2 unused.1, subst (λ (s : Opening). IsUnused w.place s unused.0 d) base unused.2)

  -- ---- one was refused

  -- a refusal after channels that were opened and came back is told of all the wishes
  pub refuses_last : (front : List ChannelWish) (cs : List (OpenedChannel A B)) (wish : ChannelWish) (wishes : List ChannelWish) (a m b : HostTold) (place : ℕ) (cause : OpenCause) → wishes ≡ front ++ wish ∷ []
      → AreOpened front cs a m → RefusesLast front cs wish m b place cause → RefusesAt wishes a b place cause
  refuses_last front cs wish wishes a m b place cause split opened last = record {
    front = front;
    wish = wish;
    rest = [];
    split = split;
    at = last.at;
    come = m;
    left = last.left;
    why = last.why;
    others = come_back front cs a m last.left b opened last.others;
  }

  -- ---- closed channels are of the wishes

  -- a closed channel is on a disk exactly where the shared one was
  pub left_fits : (disk : A → Opening → List Step → Type 0) (tells : A → Bool) (memory : B → Opening → List Step → Type 0) (tells' : B → Bool) (s : EitherShared A B) (v : View) (c : EitherClosed A B)
      → LeftIn disk tells memory tells' s v c → IsClosedOf s c
  left_fits disk tells memory tells' (share.Disk s) v (closed.Disk c) left = tt
  left_fits disk tells memory tells' (share.Disk s) v (closed.Memory c) left = absurd left
  left_fits disk tells memory tells' (share.Memory s) v (closed.Disk c) left = absurd left
  left_fits disk tells memory tells' (share.Memory s) v (closed.Memory c) left = tt

  place_of_kind : (folders : Folders) (place : ChannelPlace) (s : EitherShared A B) (c : EitherClosed A B) → IsOfKind place s → IsClosedOf s c → IsOutIn folders place → IsOfPlace folders place c
  place_of_kind folders Memory (share.Disk s) c kind of out = absurd (kind tt)
  place_of_kind folders Memory (share.Memory s) (closed.Disk c) kind of out = absurd of
  place_of_kind folders Memory (share.Memory s) (closed.Memory c) kind of out = tt
  place_of_kind folders (Folder path) (share.Memory s) c kind of out = absurd kind
  place_of_kind folders (Folder path) (share.Disk s) (closed.Memory c) kind of out = absurd of
  place_of_kind folders (Folder path) (share.Disk s) (closed.Disk c) kind of out = out

  -- closed channels are of the wishes by which they were opened
  pub closed_fit : (wishes : List ChannelWish) (cs : List (OpenedChannel A B)) (ends : List (EitherClosed A B)) (folders : Folders) (a b : HostTold)
      → AreOpened wishes cs a b → AreClosedOf (map (λ (c : OpenedChannel A B). c.share) cs) ends → AreOut folders wishes → AreOfWishes folders wishes ends
  closed_fit [] [] [] folders a b opened of out = tt
  closed_fit [] [] (e ∷ ends) folders a b opened of out = absurd of
  closed_fit [] (c ∷ cs) ends folders a b opened of out = absurd opened
  closed_fit (wish ∷ wishes) [] ends folders a b opened of out = absurd opened
  closed_fit (wish ∷ wishes) (c ∷ cs) [] folders a b opened of out = absurd of
  closed_fit (wish ∷ wishes) (c ∷ cs) (e ∷ ends) folders a b opened of out =
      (place_of_kind folders wish.place c.share e opened.1.kind of.0 out.0, closed_fit wishes cs ends folders opened.0 b opened.2 of.1 out.1)

-- after those that were refused there may be more
pub refuses_more : (front : List ChannelWish) (wish : ChannelWish) (wishes : List ChannelWish) (a b : HostTold) (place : ℕ) (cause : OpenCause) → wishes ≡ front ++ wish ∷ [] → RefusesAt front a b place cause → RefusesAt wishes a b place cause
refuses_more front wish wishes a b place cause split r = record {
  front = r.front;
  wish = r.wish;
  rest = r.rest ++ wish ∷ [];
  split = split ∙ ap (λ (l : List ChannelWish). l ++ wish ∷ []) r.split ∙ append_assoc r.front (r.wish ∷ r.rest) (wish ∷ []);
  at = r.at;
  come = r.come;
  left = r.left;
  why = r.why;
  others = r.others;
}

-- no memory for the list
no_memory : (place : ChannelPlace) (capacity : ℕ) (a : HostTold) → Refuses place capacity a a NoMemory
no_memory Memory capacity a = (refl, refl)
no_memory (Folder path) capacity a = inl (record { folders = refl; state = refl; later = omega arith; why = inr refl })

-- out of memory before any channel was opened is a refusal of the first wish
pub refuses_first : (wishes : List ChannelWish) (a : HostTold) → (length wishes ≡ 0 → ⊥) → RefusesAt wishes a a 0 NoMemory
refuses_first [] a some = absurd (some refl)
refuses_first (wish ∷ wishes) a some = record {
  front = [];
  wish = wish;
  rest = wishes;
  split = refl;
  at = refl;
  come = a;
  left = a;
  why = no_memory wish.place wish.limits.capacity a;
  others = (refl, refl);
}
