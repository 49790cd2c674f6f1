-- No pointer of a channel is into a log file that its newest checkpoint does not need.
use Rattle.std.proofs.Common.{◌⊎◌, inl, inr, ◌≡◌, ◌≤◌, ◌^◌, ◌∷◌, [], ℕ, List, map, nat_le, Option, Some, None, Bool, true, false, cond, refl, sym, ◌∙◌, ap, subst, arith}
use Rattle.std.specs.Prelude.{if◌then◌else◌}
use Rattle.std.specs.List.{AllByRecursion}
use Rattle.std.proofs.lemmas.Bool.Decides.{nat_tests}
use Rattle.flume_host.specs.Folder.{IsImage, settle_entry}
use Rattle.flume_host.specs.Told.{Changes, Tells, Told, WhereTold}
use Rattle.flume_host.specs.declared.names.FileName.TheVariants.{Check}
use Rattle.flume_host.proofs.Telling.{back}
use Rattle.event_core.specs.Content.{Content}
use Rattle.event_core.specs.declared.journal.Entry.{Entry as JournalEntry}
use Rattle.event_core.specs.declared.journal.Entry.TheVariants as entry
use Rattle.record_form.specs.declared.record.Pointer.{Pointer}
use Rattle.event_ring.specs.Slots.{Index, Left}
use Rattle.open_table.specs.Tables.{Listed, Open, Puts, Table, Takes, open_at, puts_of}
use Rattle.channel_log.specs.Window.{IsPieceOf}
use Rattle.channel_log.specs.Writer.{Writer}
use Rattle.channel_face.specs.Machine.{State, entry_of}
use Rattle.channel_places.specs.Looks.{Known, LookLeft, LookPuts, LookStaged, Looks, LooksListed, LooksOpen, Places, StandsIn, pointers_at, pointers_of}
use Rattle.channel_replay.specs.Start.{Start}
use Rattle.checkpoint.specs.declared.place.Next.{Next}
use Rattle.checkpoint.specs.declared.place.Place.{Place}
use Rattle.checkpoint.specs.Says.{Says, live_at, puts_at, puts_in}
use Rattle.checkpoint.specs.Text.{CheckText, Rise, check_bytes}
use Rattle.checkpoint_places.specs.Named.{IsLeastNamed}
use Rattle.checkpoint_places.proofs.Lowest.{all_entries, all_listed}
use Rattle.checkpoint_recovery.specs.Laws.{NamesFrom}
use Rattle.checkpoint_recovery.specs.Recovers.{IsCheck}
use Rattle.checkpoint_opening.specs.declared.opening.NewestCheck.{NewestCheck}
use Rattle.channel_laying.specs.Laying.{AreNeeded, IsLaying, MayLay}
use Rattle.channel_laying.proofs.Needed.{IsNaming, needed_before, needed_laid, needed_laying}
use Rattle.file_channel.specs.Laid.{IsNeeded}
use Rattle.file_channel.specs.Placed.{AreNeeding, AreNotBelow, ArePlaced, IsForgotten, settled_in}
use Rattle.file_channel.proofs.Leaving.{image_numbered, text_right, text_stands}

-- what is known of pointers into files from a number on
abbrev pub cut : ℕ → Known → Known
cut m [] = []
cut m (k ∷ known) = if nat_le m k.0.file then k ∷ cut m known else cut m known

-- what is known at a pointer from that file on is among them
pub in_cut : (m : ℕ) (known : Known) (p : Pointer) (event : Content) → StandsIn known p event → m ≤ p.file → StandsIn (cut m known) p event
in_cut m [] p event is low = absurd is
in_cut m (k ∷ known) p event is low = from (nat_le m k.0.file) refl is (λ older. in_cut m known p event older low)
  where
    from : (b : Bool) → nat_le m k.0.file ≡ b → (k ≡ (p, event)) ⊎ StandsIn known p event → (StandsIn known p event → StandsIn (cut m known) p event) → StandsIn (cond b (k ∷ cut m known) (cut m known)) p event
    from true less (inl same) more = inl same
    from true less (inr older) more = inr (more older)
    from false less (inl same) more =
        let file : k.0.file ≡ p.file = ap (λ (x : Pointer × Content). x.0.file) same in
        absurd (grind (arith, nat_tests, less, low, file))
    from false less (inr older) more = more older

-- what is among them was known, and is in a file from that number on
pub cut_back : (m : ℕ) (known : Known) (p : Pointer) (event : Content) → StandsIn (cut m known) p event → StandsIn known p event × (m ≤ p.file)
cut_back m [] p event is = absurd is
cut_back m (k ∷ known) p event is = from (nat_le m k.0.file) refl is (λ older. cut_back m known p event older)
  where
    later : StandsIn known p event × (m ≤ p.file) → StandsIn (k ∷ known) p event × (m ≤ p.file)
    later both = (inr both.0, both.1)

    from : (b : Bool) → nat_le m k.0.file ≡ b → StandsIn (cond b (k ∷ cut m known) (cut m known)) p event → (StandsIn (cut m known) p event → StandsIn known p event × (m ≤ p.file)) → StandsIn (k ∷ known) p event × (m ≤ p.file)
    from true less (inl same) more =
        let file : k.0.file ≡ p.file = ap (λ (x : Pointer × Content). x.0.file) same in
        (inl same, grind (arith, nat_tests, less, file))
    from true less (inr older) more = later (more older)
    from false less older more = later (more older)

-- places whose pointers are into those files look the same by it

abbrev PutsFrom : ℕ → List Pointer → Type 0
PutsFrom m pointers = AllByRecursion (λ (p : Pointer). m ≤ p.file) pointers

abbrev LeftFrom : ℕ → List Left → Type 0
LeftFrom m live = AllByRecursion (λ (l : Left). m ≤ l.pointer.file) live

puts_cut : (m : ℕ) (known : Known) (pointers : List Pointer) (events : List Content) → PutsFrom m pointers → LookPuts known pointers events → LookPuts (cut m known) pointers events
puts_cut m known [] [] low look = tt
puts_cut m known [] (event ∷ events) low look = look
puts_cut m known (p ∷ pointers) [] low look = look
puts_cut m known (p ∷ pointers) (event ∷ events) low look = (in_cut m known p event look.0 low.0, puts_cut m known pointers events low.1 look.1)

open_cut : (m : ℕ) (known : Known) (room : ℕ) (o : Option Open) (e : Option JournalEntry) → PutsFrom m (pointers_of o) → LooksOpen known room o e → LooksOpen (cut m known) room o e
open_cut m known room None None low look = tt
open_cut m known room None (Some e) low look = look
open_cut m known room (Some o) None low look = look
open_cut m known room (Some o) (Some e) low look = (of_list o.listed e low look.0, look.1)
  where
    of_list : (l : Listed) (e : JournalEntry) → PutsFrom m (puts_of l) → LooksListed known l e → LooksListed (cut m known) l e
    of_list (Puts pointers) (entry.Puts events) low look = puts_cut m known pointers events low look
    of_list (Puts pointers) (entry.Takes taken) low look = look
    of_list (Takes numbers) (entry.Puts events) low look = look
    of_list (Takes numbers) (entry.Takes taken) low look = look

left_cut : (m : ℕ) (known : Known) (held : List ℕ) (live : List Left) (items : List (ℕ × Content)) → LeftFrom m live → LookLeft known held live items → LookLeft (cut m known) held live items
left_cut m known held [] [] low look = tt
left_cut m known held [] (item ∷ items) low look = look
left_cut m known held (l ∷ live) [] low look = look
left_cut m known held (l ∷ live) (item ∷ items) low look =
    ((look.0.0, look.0.1, in_cut m known l.pointer item.1 look.0.2 low.0), left_cut m known held live items low.1 look.1)

none_staged : (known other : Known) (staged : List Listed) (entries : List JournalEntry) → entries ≡ [] → LookStaged known staged entries → LookStaged other staged entries
none_staged known other [] [] none look = tt
none_staged known other [] (e ∷ entries) none look = look
none_staged known other (l ∷ staged) [] none look = look
none_staged known other (l ∷ staged) (e ∷ entries) none look = absurd (cc)

-- the places of a bare state look the same without the events that are in earlier files
pub looks_cut : (m : ℕ) (known : Known) (p : Places) (s : State) → Looks known known p s → s.staged ≡ [] → LeftFrom m p.live → ((txn : ℕ) → PutsFrom m (pointers_at p.opened txn)) → Looks (cut m known) (cut m known) p s
looks_cut m known p s looks staged live puts = record {
  sound = looks.sound;
  left = left_cut m known _ p.live s.items live looks.left;
  opened = λ txn. open_cut m known s.rules.limits.txn_capacity (open_at p.opened txn) (entry_of txn s.opened) (puts txn) (looks.opened txn);
  as_many = looks.as_many;
  open_puts = looks.open_puts;
  staged = none_staged known (cut m known) p.staged s.staged staged looks.staged;
  numbers = looks.numbers;
}

-- events stand at their pointers when those in earlier files are left out
pub placed_cut : (told : Option Told) (w : Writer) (m : ℕ) (settled known : Known) → ArePlaced told w settled known → ArePlaced told w (cut m settled) (cut m known)
placed_cut told w m settled known are = record {
  long = λ p event is. are.long p event (cut_back m known p event is).0;
  there = λ t now p event is. are.there t now p event (cut_back m known p event is).0;
  still = λ t now p event is. are.still t now p event (cut_back m known p event is).0;
  piece = λ t now. piece t (are.piece t now);
  within = λ p event is. let both = cut_back m settled p event is in in_cut m known p event (are.within p event both.0) both.1;
  written = λ t now p event is. are.written t now p event (cut_back m settled p event is).0;
  needing = λ t now least laid needs. let below = are.needing t now least laid needs in record { own = below.own; each = λ p event is. below.each p event (cut_back m known p event is).0 };
}
  where
    piece : (t : Told) → IsForgotten w known ⊎ IsPieceOf w.kept (settled_in t w) → IsForgotten w (cut m known) ⊎ IsPieceOf w.kept (settled_in t w)
    piece t (inl (before, none)) = inl (before, λ p event is. none p event (cut_back m known p event is).0)
    piece t (inr is) = inr is

-- what a checkpoint names

unmapped : (m : ℕ) (live : List Left) → AllByRecursion (λ (l : ℕ × Pointer). m ≤ l.1.file) (map live_at live) → LeftFrom m live
unmapped m [] all = tt
unmapped m (l ∷ live) all = (all.0, unmapped m live all.1)

same_puts : (o : Option Open) → puts_in o ≡ pointers_of o
same_puts None = refl
same_puts (Some o) = refl

module _ (place : Place) (next : Next) (ring : Index) (table : Table) (c : CheckText) (says : Says place next ring table c) where
  -- the ring has no pointer before the files that the checkpoint names
  pub left_named : (m : ℕ) → NamesFrom m c → LeftFrom m ring.live
  left_named m names = unmapped m ring.live (subst (λ (l : List (ℕ × Pointer)). AllByRecursion (λ (k : ℕ × Pointer). m ≤ k.1.file) l) says.live names.live)

  -- the open puts have no pointer before those files
  pub puts_named : (m : ℕ) → NamesFrom m c → (txn : ℕ) → PutsFrom m (pointers_at table txn)
  puts_named m names txn = subst (PutsFrom m) (says.puts.each txn ∙ same_puts (open_at table txn)) (all_listed (λ (p : Pointer). m ≤ p.file) txn c.puts names.puts)

  -- all that is known is in files from a number on, and so is what it names

  live_known : (m : ℕ) (known : Known) (held : List ℕ) (live : List Left) (items : List (ℕ × Content)) → ((p : Pointer) (event : Content) → StandsIn known p event → m ≤ p.file) → LookLeft known held live items → AllByRecursion (λ (l : ℕ × Pointer). m ≤ l.1.file) (map live_at live)
  live_known m known held [] items low look = tt
  live_known m known held (l ∷ live) [] low look = absurd look
  live_known m known held (l ∷ live) (item ∷ items) low look = (low l.pointer item.1 look.0.2, live_known m known held live items low look.1)

  puts_known : (m : ℕ) (known : Known) (pointers : List Pointer) (events : List Content) → ((p : Pointer) (event : Content) → StandsIn known p event → m ≤ p.file) → LookPuts known pointers events → PutsFrom m pointers
  puts_known m known [] events low look = tt
  puts_known m known (p ∷ pointers) [] low look = absurd look
  puts_known m known (p ∷ pointers) (event ∷ events) low look = (low p event look.0, puts_known m known pointers events low look.1)

  open_known : (m : ℕ) (known : Known) (room : ℕ) (o : Option Open) (e : Option JournalEntry) → ((p : Pointer) (event : Content) → StandsIn known p event → m ≤ p.file) → LooksOpen known room o e → PutsFrom m (pointers_of o)
  open_known m known room None e low look = tt
  open_known m known room (Some o) None low look = absurd look
  open_known m known room (Some o) (Some e) low look = of_list o.listed e look.0
    where
      of_list : (l : Listed) (e : JournalEntry) → LooksListed known l e → PutsFrom m (puts_of l)
      of_list (Puts pointers) (entry.Puts events) look = puts_known m known pointers events low look
      of_list (Puts pointers) (entry.Takes taken) look = absurd look
      of_list (Takes numbers) e look = tt

  -- where no pointer is below a number, the checkpoint names no file below it
  pub names_known : (m : ℕ) (known : Known) (p : Places) (s : State) → Looks known known p s → ring.live ≡ p.live → table ≡ p.opened → AreNotBelow m place.file known → NamesFrom m c
  names_known m known p s looks live opened below = record {
    place = subst (λ (at : Place). m ≤ at.file) (sym says.place_is) below.own;
    live =
        subst (λ (l : List (ℕ × Pointer)). AllByRecursion (λ (k : ℕ × Pointer). m ≤ k.1.file) l) (sym says.live)
        (subst (λ (l : List Left). AllByRecursion (λ (k : ℕ × Pointer). m ≤ k.1.file) (map live_at l)) (sym live) (live_known m known _ p.live s.items below.each looks.left));
    puts = all_entries (λ (q : Pointer). m ≤ q.file) 0 (2 ^ 64) c.puts says.puts.rise (λ txn more. subst (PutsFrom m) (sym (says.puts.each txn ∙ (ap (λ (t : Table). puts_at t txn) opened ∙ same_puts (open_at p.opened txn)))) (open_known m known s.rules.limits.txn_capacity (open_at p.opened txn) (entry_of txn s.opened) below.each (looks.opened txn)));
  }

-- the least file that a checkpoint names, as it was found

-- what is said of the least file of ring and table
pub record Finds (place : Place) (ring : Index) (table : Table) (least : ℕ) : Type 0 where
  pub names : (next : Next) (c : CheckText) → Says place next ring table c → Rise 0 next.number c.live → NamesFrom least c
  pub least_is : (next : Next) (c : CheckText) (other : ℕ) → Says place next ring table c → NamesFrom other c → other ≤ least

-- the least file that was found is the least that the checkpoint names
pub least_of : (place : Place) (next : Next) (ring : Index) (table : Table) (c : CheckText) (least : ℕ) → Says place next ring table c → Rise 0 next.number c.live → Finds place ring table least → IsLeastNamed least c
least_of place next ring table c least says rise finds = record { names = finds.names next c says rise; most = λ other names. finds.least_is next c other says names }

-- while a checkpoint is laid

module _ (told told' : Option Told) (w : Writer) (busy number : ℕ) (next : Next) (ring : Index) (table : Table) (s : State) (c : CheckText) (start : Start) (may : MayLay told w busy number next ring table s c start) (tells : Tells told told' (Changes (Check number) (IsLaying c) 3)) (reads : WhereTold told' (λ t. IsImage t.now t.reads)) where
  was : (u : Told) → told' ≡ Some u → (t : Told) × (told ≡ Some t) × Changes (Check number) (IsLaying c) 3 t u
  was u now = back told told' (Changes (Check number) (IsLaying c) 3) tells u now

  here : (t : Told) → told ≡ Some t → MayLay (Some t) w busy number next ring table s c start
  here t is = subst (λ (o : Option Told). MayLay o w busy number next ring table s c start) is may

  -- its text names log files, and is right for a folder
  naming : (u : Told) → told' ≡ Some u → (least : ℕ) → NamesFrom least c → IsNaming least c
  naming u now least names =
      let b = was u now in
      record {
        files = u.reads;
        left = start.base.items;
        opened = start.opened;
        right = text_right b.0 u w busy number next ring table s c start (here b.0 b.1) b.2 u.reads (reads u now);
        numbered = image_numbered b.0 u w busy number next ring table s c start (here b.0 b.1) b.2 u.reads (reads u now);
        names = names;
      }

  stands : (u : Told) (now : told' ≡ Some u) → u.reads (Check number) ≡ Some (1 ∷ check_bytes c) → (first : Start) × IsCheck u.reads number c first
  stands u now spelled = let b = was u now in (start, text_stands b.0 u w busy number next ring table s c start (here b.0 b.1) b.2 u.reads (reads u now) spelled)

  -- no pointer from the least file on that it names is into one that is not needed
  pub needing_laid : (m : ℕ) (known : Known) → IsLeastNamed m c → AreNeeding told w.file known → AreNeeding told' w.file (cut m known)
  needing_laid m known named before u now least laid needs =
      let b = was u now in
      from b.0 b.1 (needed_before b.0 u number c (may.unused b.0 b.1) b.2 (reads u now) least laid (stands u now) needs)
    where
      from : (t : Told) → told ≡ Some t → NamesFrom least c ⊎ AreNeeded t least laid → AreNotBelow least w.file (cut m known)
      from t is (inl names) = record {
        own = subst (λ (at : Place). least ≤ at.file) may.says.place_is names.place;
        each = λ p event in_cut. omega (arith, named.most least names, (cut_back m known p event in_cut).1);
      }
      from t is (inr needed) =
          let below = before t is least laid needed in
          record { own = below.own; each = λ p event in_cut. below.each p event (cut_back m known p event in_cut).0 }

  -- what was needed is needed still
  pub needed_kept : (known : Known) (p : Places) → WhereTold told (λ t. IsImage t.now t.reads) → Looks known known p s → ring.live ≡ p.live → table ≡ p.opened → AreNeeding told w.file known → (laid : NewestCheck) → IsNeeded told laid → IsNeeded told' laid
  needed_kept known p left looks live opened before laid needed u now =
      let b = was u now in
      let is : AreNeeded b.0 laid.least laid.number = needed b.0 b.1 in
      needed_laying b.0 u number c (may.unused b.0 b.1) b.2 (reads u now) laid.least laid.number (left b.0 b.1) is
      (naming u now laid.least (names_known _ next ring table c may.says laid.least known p s looks live opened (before b.0 b.1 laid.least laid.number is)))

  -- and once it is laid, it is
  pub needed_then : (m : ℕ) → IsLeastNamed m c → WhereTold told' (λ t. t.now (Check number) ≡ settle_entry (Some (1 ∷ check_bytes c))) → IsNeeded told' (record { number = number; least = m })
  needed_then m named kept u now =
      let b = was u now in
      needed_laid b.0 u number c (may.unused b.0 b.1) b.2 (reads u now) m (naming u now m named.names) (kept u now)
