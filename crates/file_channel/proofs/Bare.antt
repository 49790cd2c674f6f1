-- A checkpoint may be laid of a channel of which nothing waits for a flush.
use Rattle.std.proofs.Common.{◌⊎◌, inl, inr, ◌≡◌, ◌≢◌, ◌<◌, ◌≤◌, ◌^◌, ◌++◌, ◌∷◌, [], ◌==◌, ℕ, List, drop, length, length-append, map, take, Option, Some, None, Bool, true, false, refl, sym, ◌∙◌, ap, subst, arith}
use Rattle.std.specs.Prelude.{IsSomeAnd}
use Rattle.std.specs.List.{AllByRecursion}
use Rattle.std.proofs.Math.Seq.{take-nil}
use Rattle.std.proofs.lemmas.Bool.Decides.{eqb_tells}
use Rattle.std.proofs.lemmas.List.{append-nil, take-append-drop, take_at}
use Rattle.flume_host.specs.Folder.{Allows, Entry, Files, IsImage, settle_entry}
use Rattle.flume_host.specs.Told.{Changes, Tells, Told, WhereTold}
use Rattle.flume_host.proofs.Telling.{back, tells_more}
use Rattle.flume_host.specs.declared.names.FileName.TheVariants.{Check, Log}
use Rattle.event_core.specs.Content.{Content}
use Rattle.event_core.specs.declared.journal.Entry.{Entry as JournalEntry}
use Rattle.event_core.specs.declared.journal.Entry.TheVariants as entry
use Rattle.record_form.specs.declared.record.Pointer.{Pointer}
use Rattle.event_ring.specs.Slots.{Index, Left}
use Rattle.open_table.specs.Tables.{Listed, Open, Puts, Table, Takes, open_at, puts_of, takes_of}
use Rattle.channel_log.specs.Frames.{header, opened}
use Rattle.record_form.specs.Pointers.{PutAt}
use Rattle.channel_log.specs.Pointers.{end_of, in_frame}
use Rattle.channel_log.specs.Writer.{Writer}
use Rattle.channel_log.proofs.Pointing.{put_grows}
use Rattle.channel_face.specs.Machine.{State, base_of, entry_of}
use Rattle.channel_face.proofs.Numbers.{rising_base}
use Rattle.channel_places.specs.Looks.{IsFewOpen, Known, LookPuts, Looks, LooksListed, LooksOpen, Numbers, StandsIn, held_in, pointers_at, pointers_of}
use Rattle.channel_places.proofs.Opening.{looks_grow}
use Rattle.channel_writing.specs.Mirrors.{IsStartOf}
use Rattle.channel_writing.specs.Written.{IsLogged}
use Rattle.channel_writing.proofs.Checking.{busy_length}
use Rattle.channel_writing.proofs.Flushing.{as_read, none_waits}
use Rattle.channel_writing.proofs.Recovering.{length-header}
use Rattle.checkpoint.specs.declared.place.Next.{Next}
use Rattle.checkpoint.specs.declared.place.Place.{Place}
use Rattle.checkpoint.specs.Right.{PutIn}
use Rattle.checkpoint.specs.Says.{Says, live_at, puts_at, puts_in, takes_in}
use Rattle.checkpoint_places.specs.Laws.{AreFew, HasPlaces, IsPutOf}
use Rattle.checkpoint_places.specs.Texts.{started, text_of}
use Rattle.checkpoint_places.proofs.Righting.{live_rise, places_are_right}
use Rattle.checkpoint_places.proofs.Saying.{places_are_said}
use Rattle.checkpoint_places.proofs.Starting.{state_has_start}
use Rattle.channel_replay.specs.Start.{Start}
use Rattle.checkpoint.specs.Text.{CheckText, Rise}
use Rattle.checkpoint_opening.specs.declared.opening.NewestCheck.{NewestCheck}
use Rattle.checkpoint_places.specs.Named.{IsLeastNamed}
use Rattle.channel_laying.specs.Laying.{AreUnused, HasLog, IsLaying, MayLay}
use Rattle.file_channel.specs.Placed.{AreNeeding, IsOwn, IsStateOf, IsStill, IsThere, Logged, PutBy, bytes_of, settled_in}
use Rattle.file_channel.specs.Laid.{IsNeeded}
use Rattle.file_channel.proofs.Needing.{Finds, cut, least_of, left_named, looks_cut, needed_kept, needing_laid, placed_cut, puts_named}
use Rattle.file_channel.proofs.Owning.{by_grows, own_grows}
use Rattle.file_channel.proofs.Placing.{Grows, end_own, no_put, placed_grows}

-- the pointers of what is open, in either crate's words
same_pointers : (o : Option Open) → puts_in o ≡ pointers_of o
same_pointers None = refl
same_pointers (Some o) = refl

few_puts : (o : Option Open) → IsFewOpen o → length (puts_in o) < 2 ^ 32
few_puts None few = omega arith
few_puts (Some o) few = of_list o.listed few
  where
    of_list : (l : Listed) → Rattle.open_table.specs.Tables.size l < 2 ^ 32 → length (puts_of l) < 2 ^ 32
    of_list (Puts pointers) few = few
    of_list (Takes numbers) few = omega arith

few_takes : (o : Option Open) → IsFewOpen o → length (takes_in o) < 2 ^ 32
few_takes None few = omega arith
few_takes (Some o) few = of_list o.listed few
  where
    of_list : (l : Listed) → Rattle.open_table.specs.Tables.size l < 2 ^ 32 → length (takes_of l) < 2 ^ 32
    of_list (Puts pointers) few = omega arith
    of_list (Takes numbers) few = few

-- what stands in what is settled of a file stands there in each folder that has the log
module _ (t : Told) (w : Writer) (folder : Files) (has : HasLog t w folder) (q : Pointer) (P : List ℕ → Type 0) (grows : (l more : List ℕ) → P l → P (l ++ more)) (none : P [] → ⊥) where
  own_part : settled_in t w w.file ≡ has.front
  own_part =
      ap (λ (n : ℕ). take n (bytes_of (t.reads (Log w.file)))) (end_own w w.file refl)
      ∙ (ap (λ (o : Option (List ℕ)). take w.gate (bytes_of o)) has.reads ∙ take_at has.front (0 ∷ []) w.gate has.long)

  whole : (o : Option (List ℕ)) (n : ℕ) → P (take n (bytes_of o)) → IsSomeAnd o P
  whole None n at = absurd (none (subst P (take-nil n) at))
  whole (Some bytes) n at = subst P (take-append-drop n bytes) (grows (take n bytes) (drop n bytes) at)

  -- what holds of a log file's settled bytes holds of that file in whatever a crash leaves
  pub stands_there : P (settled_in t w q.file) → (q.file ≢ w.file → IsStill t q.file) → IsSomeAnd (folder (Log q.file)) P
  stands_there at still = from (eqb_tells q.file w.file)
    where
      from : ((q.file == w.file) ≡ true) × (q.file ≡ w.file) ⊎ ((q.file == w.file) ≡ false) × (q.file ≢ w.file) → IsSomeAnd (folder (Log q.file)) P
      from (inl same) =
          let front : P has.front = subst P own_part (subst (λ (n : ℕ). P (settled_in t w n)) same.1 at) in
          let here : IsSomeAnd (folder (Log w.file)) P = subst (λ (o : Option (List ℕ)). IsSomeAnd o P) (sym has.has) (grows has.front has.rest front) in
          subst (λ (n : ℕ). IsSomeAnd (folder (Log n)) P) (sym same.1) here
      from (inr other) =
          let reads : folder (Log q.file) ≡ t.reads (Log q.file) = as_read (t.reads (Log q.file)) (folder (Log q.file)) (subst (λ (e : Entry). Allows e (folder (Log q.file))) (still other.1) (has.others q.file other.1)) in
          subst (λ (o : Option (List ℕ)). IsSomeAnd o P) (sym reads) (whole (t.reads (Log q.file)) (end_of w q.file) at)

-- each pointer of an open transaction is known

puts_known : (known : Known) (pointers : List Pointer) (events : List Content) → LookPuts known pointers events → AllByRecursion (λ q. (event : Content) × StandsIn known q event) pointers
puts_known known [] [] look = tt
puts_known known [] (event ∷ events) look = tt
puts_known known (p ∷ pointers) [] look = absurd look
puts_known known (p ∷ pointers) (event ∷ events) look = ((event, look.0), puts_known known pointers events look.1)

-- the PUTs of one open transaction point to events that are known
pub open_known : (known : Known) (room : ℕ) (o : Option Open) (e : Option JournalEntry) → LooksOpen known room o e → AllByRecursion (λ q. (event : Content) × StandsIn known q event) (puts_in o)
open_known known room None e look = tt
open_known known room (Some o) None look = absurd look
open_known known room (Some o) (Some e) look = of_list o.listed e look.0
  where
    of_list : (l : Listed) (e : JournalEntry) → LooksListed known l e → AllByRecursion (λ q. (event : Content) × StandsIn known q event) (puts_of l)
    of_list (Puts pointers) (entry.Puts events) look = puts_known known pointers events look
    of_list (Puts pointers) (entry.Takes taken) look = absurd look
    of_list (Takes numbers) e look = tt

-- what follows from two claims of each element follows for the whole list
pub both_maps : {A : Type 0} (P Q R : A → Type 0) (xs : List A) → ((x : A) → P x → Q x → R x) → AllByRecursion P xs → AllByRecursion Q xs → AllByRecursion R xs
both_maps P Q R [] maps first second = tt
both_maps P Q R (x ∷ xs) maps first second = (maps x first.0 second.0, both_maps P Q R xs maps first.1 second.1)

module _ (told : Option Told) (c : Logged) (s : State) (is : IsStateOf told c s) (still : s.broken ≡ false) (staged : s.staged ≡ []) (empty : c.log.bytes ≡ []) where
  abbrev place : Place
  place = record { file = c.log.file; at = c.log.gate }

  looks : Looks is.known is.known c.places s
  looks = looks_grow is.settled is.known is.known c.places s (is.placed still).within (λ p event in_known. in_known) is.looks

  -- a folder that has the log has the events at their pointers
  has_places : (t : Told) → told ≡ Some t → (folder : Files) → 16 ≤ c.log.gate → HasLog t c.log folder → HasPlaces folder is.known c.places s place
  has_places t told_is folder low has = record {
    staged = staged;
    there = subst (λ (o : Option (List ℕ)). IsSomeAnd o (λ bytes. (16 ≤ c.log.gate) × (c.log.gate < length bytes))) (sym has.has) (low, omega (arith, length-append has.front has.rest, has.long, has.some));
    puts = λ q event in_known. put_there q event in_known ((is.placed still).there t told_is q event in_known);
    own = λ txn.
        both_maps (λ q. IsOwn t c.log txn q) (λ q. (event : Content) × StandsIn is.known q event) (λ q. IsPutOf folder txn q) (puts_at c.places.opened txn) (λ q own known. own_there txn q own known)
        (subst (λ (ps : List Pointer). AllByRecursion (λ q. IsOwn t c.log txn q) ps) (sym (same_pointers (open_at c.places.opened txn))) (is.owned still t told_is txn))
        (open_known is.known s.rules.limits.txn_capacity (open_at c.places.opened txn) (entry_of txn s.opened) (looks.opened txn));
  }
    where
      put_there : (q : Pointer) (event : Content) → StandsIn is.known q event → IsThere t c.log q event → PutIn folder q event
      put_there q event in_known (inl at) =
          stands_there t c.log folder has q (λ l. PutAt l q event) (λ l more at. put_grows l more q event at) (no_put q event) at ((is.placed still).still t told_is q event in_known)
      put_there q event in_known (inr waits) = absurd (no_put (in_frame c.log q) event (subst (λ (l : List ℕ). PutAt l (in_frame c.log q) event) empty waits.1))

      own_there : (txn : ℕ) (q : Pointer) → IsOwn t c.log txn q → (event : Content) × StandsIn is.known q event → IsPutOf folder txn q
      own_there txn q (event, inl by) known =
          (event, stands_there t c.log folder has q (λ l. PutBy l txn q event) (λ l more by. by_grows l more txn q event by) (λ by. no_put q event by.0) by ((is.placed still).still t told_is q known.0 known.1))
      own_there txn q (event, inr waits) known = absurd (no_put (in_frame c.log q) event (subst (λ (l : List ℕ). PutAt l (in_frame c.log q) event) empty waits.1.0))

  few : (t : Told) → told ≡ Some t → IsImage t.now t.reads → length c.places.live < 2 ^ 32 → ((txn : ℕ) → IsFewOpen (open_at c.places.opened txn)) → s.txn < 2 ^ 64 → AreFew c.places s
  few t told_is reads live each fits =
      let logged = is.whole.logged still in
      let waits = logged.waits still in
      let log = (waits.disk t told_is).logs t.reads (λ name other. reads name) in
      record {
        live = live;
        puts = λ txn. few_puts (open_at c.places.opened txn) (each txn);
        takes = λ txn. few_takes (open_at c.places.opened txn) (each txn);
        opened = logged.few;
        low = log.mirrors.low;
        txn = (log.mirrors.high.0, fits);
      }

  -- the start that the checkpoint describes has what the state has
  pub started_of : IsStartOf s (started s)
  started_of =
      let st = state_has_start is.settled is.known c.places s is.looks in
      record { base = refl; txn = refl; each = st.each; as_many = st.as_many ∙ busy_length s.opened; apart = st.apart; some = st.some; below = st.below }

  -- it may be laid, under a number that is not used
  pub may_lay : (number : ℕ) (ring : Index) → ring.live ≡ c.places.live → length c.places.live < 2 ^ 32 → ((txn : ℕ) → IsFewOpen (open_at c.places.opened txn)) → (c.places.numbers.first < 2 ^ 64) × (c.places.numbers.txn < 2 ^ 64) → WhereTold told (λ t. IsImage t.now t.reads)
      → WhereTold told (λ t. AreUnused t number) → MayLay told c.log c.busy number (record { number = c.places.numbers.first; txn = c.places.numbers.txn }) ring c.places.opened s (text_of place c.places s) (started s)
  may_lay number ring same live each fits reads unused =
      let first_is : c.places.numbers.first ≡ s.first = ap (λ (n : Numbers). n.first) is.looks.numbers in
      let txn_is : c.places.numbers.txn ≡ s.txn = ap (λ (n : Numbers). n.txn) is.looks.numbers in
      let txn_fits : s.txn < 2 ^ 64 = omega (arith, fits.1, txn_is) in
      record {
        logged = is.whole.logged still;
        whole = still;
        sound = is.whole.sound;
        staged = staged;
        empty = none_waits told c.log s ((is.whole.logged still).waits still) (ap (λ (l : List ℕ). length l) empty);
        low = omega (arith, fits.0, first_is);
        says = places_are_said is.settled is.known c.places s place ring is.looks txn_fits same;
        unused = unused;
        text = λ t told_is. record {
          start_of = started_of;
          number = sym first_is;
          txn = sym txn_is;
          right = λ folder has. places_are_right folder is.known c.places s place looks (few t told_is (reads t told_is) live each txn_fits) (has_places t told_is folder (low t told_is) has);
        };
      }
    where
      low : (t : Told) → told ≡ Some t → 16 ≤ c.log.gate
      low t told_is =
          let disk = ((is.whole.logged still).waits still).disk t told_is in
          omega (arith, disk.rest.offset, length-append (header disk.birth c.log.file) (opened disk.frames), length-header disk.birth c.log.file)

  -- and so with ring, table and next numbers as they are handed out
  pub may_lay_as : (number : ℕ) (pair : ℕ × ℕ) (next : Next) (ring : Index) (table : Table) → pair ≡ (c.places.numbers.first, c.places.numbers.txn) → next ≡ record { number = pair.0; txn = pair.1 } → (pair.0 < 2 ^ 64) × (pair.1 < 2 ^ 64) → ring.live ≡ c.places.live → length c.places.live < 2 ^ 32 → table ≡ c.places.opened → ((txn : ℕ) → IsFewOpen (open_at c.places.opened txn))
      → WhereTold told (λ t. IsImage t.now t.reads) → WhereTold told (λ t. AreUnused t number) → MayLay told c.log c.busy number next ring table s (text_of place c.places s) (started s)
  may_lay_as number pair next ring table pair_is next_is fits ring_is live table_is each reads unused =
      let here : Next = record { number = c.places.numbers.first; txn = c.places.numbers.txn } in
      let said : next ≡ here = next_is ∙ ap (λ (p : ℕ × ℕ). let n : Next = record { number = p.0; txn = p.1 } in n) pair_is in
      let low : (c.places.numbers.first < 2 ^ 64) × (c.places.numbers.txn < 2 ^ 64) = subst (λ (p : ℕ × ℕ). (p.0 < 2 ^ 64) × (p.1 < 2 ^ 64)) pair_is fits in
      subst (λ (n : Next). MayLay told c.log c.busy number n ring table s (text_of place c.places s) (started s)) (sym said)
      (subst (λ (t : Table). MayLay told c.log c.busy number here ring t s (text_of place c.places s) (started s)) (sym table_is) (may_lay number ring ring_is live each low reads unused))

-- what log files have is the same after a checkpoint was laid

abbrev pub SparesLogs : Told → Told → Type 0
SparesLogs t u = (n : ℕ) → (u.now (Log n) ≡ t.now (Log n)) × (u.reads (Log n) ≡ t.reads (Log n))

spares_grows : (t u : Told) (w : Writer) → SparesLogs t u → Grows t u w w
spares_grows t u w same = record {
  settled = λ file. ([], ap (λ (o : Option (List ℕ)). take (end_of w file) (bytes_of o)) (same file).1 ∙ sym (append-nil (settled_in t w file)));
  waited = λ p event txn waits at. inr (waits, at);
  still = λ file other was. (same file).0 ∙ (was other ∙ ap settle_entry (sym (same file).1));
  file = omega arith;
  kept = refl;
}

-- all that its places point to is in files from a number on, and no other files are needed
pub record ArePast (told' : Option Told) (c : Logged) (m : ℕ) (known : Known) : Type 0 where
  pub live : AllByRecursion (λ (l : Left). m ≤ l.pointer.file) c.places.live
  pub puts : (txn : ℕ) → AllByRecursion (λ (p : Pointer). m ≤ p.file) (pointers_at c.places.opened txn)
  pub needing : AreNeeding told' c.log.file (cut m known)

-- after a checkpoint was laid, all places are in files from the least named one on
pub are_past : (told told' : Option Told) (c : Logged) (s : State) (is : IsStateOf told c s) (still : s.broken ≡ false) (number : ℕ) (next : Next) (ring : Index) (table : Table) (text : CheckText) (start : Start) (may : MayLay told c.log c.busy number next ring table s text start) → Tells told told' (Changes (Check number) (IsLaying text) 3) → WhereTold told' (λ t. IsImage t.now t.reads)
    → (m : ℕ) → IsLeastNamed m text → ring.live ≡ c.places.live → table ≡ c.places.opened → ArePast told' c m is.known
are_past told told' c s is still number next ring table text start may changes reads m named live opened = record {
  live = subst (λ (l : List Left). AllByRecursion (λ (k : Left). m ≤ k.pointer.file) l) live (left_named _ next ring table text may.says m named.names);
  puts = subst (λ (t : Table). (txn : ℕ) → AllByRecursion (λ (p : Pointer). m ≤ p.file) (pointers_at t txn)) opened (puts_named _ next ring table text may.says m named.names);
  needing = needing_laid told told' c.log c.busy number next ring table s text start may changes reads m is.known named (is.placed still).needing;
}

-- what was needed is needed still
pub kept_needed : (told told' : Option Told) (c : Logged) (s : State) (is : IsStateOf told c s) (still : s.broken ≡ false) (number : ℕ) (next : Next) (ring : Index) (table : Table) (text : CheckText) (start : Start) (may : MayLay told c.log c.busy number next ring table s text start) → Tells told told' (Changes (Check number) (IsLaying text) 3) → WhereTold told' (λ t. IsImage t.now t.reads)
    → WhereTold told (λ t. IsImage t.now t.reads) → ring.live ≡ c.places.live → table ≡ c.places.opened → (laid : NewestCheck) → IsNeeded told laid → IsNeeded told' laid
kept_needed told told' c s is still number next ring table text start may changes reads before live opened laid needed =
    needed_kept told told' c.log c.busy number next ring table s text start may changes reads is.known c.places before
    (looks_grow is.settled is.known is.known c.places s (is.placed still).within (λ p event in_known. in_known) is.looks) live opened (is.placed still).needing laid needed

-- the least file that the text of places names is the one that was found for ring and table
pub text_least : (told : Option Told) (c : Logged) (s : State) (is : IsStateOf told c s) (at : Place) (next : Next) (ring : Index) (table : Table) (m : ℕ) → Says at next ring table (text_of at c.places s) → Finds at ring table m → IsLeastNamed m (text_of at c.places s)
text_least told c s is at next ring table m says finds =
    let first : s.first ≡ next.number = sym (ap (λ (n : Numbers). n.first) is.looks.numbers) ∙ ap (λ (n : Next). n.number) says.next_is in
    least_of at next ring table (text_of at c.places s) m says
    (subst (λ (n : ℕ). Rise 0 n (map live_at c.places.live)) first (live_rise is.settled (held_in s) c.places.live s.items 0 s.first is.looks.left (rising_base (base_of s) is.looks.sound.base))) finds

-- the channel stands for its state after that
pub laid_state : (told told' : Option Told) (c : Logged) (s : State) (is : IsStateOf told c s) → s.broken ≡ false → s.staged ≡ [] → c.log.bytes ≡ [] → (m : ℕ) → ArePast told' c m is.known → Tells told told' (λ t u. SparesLogs t u) → IsLogged told' c.log c.busy s → IsStateOf told' c s
laid_state told told' c s is still staged empty m past spares logged = record {
  settled = cut m is.known;
  known = cut m is.known;
  looks = looks_cut m is.known c.places s (looks_grow is.settled is.known is.known c.places s (is.placed still).within (λ p event in_known. in_known) is.looks) staged past.live past.puts;
  placed = λ _. placed_grows told told' c.log c.log (cut m is.settled) (cut m is.known) empty grew past.needing (placed_cut told c.log m is.settled is.known (is.placed still));
  owned = λ _. own_grows told told' c.log c.log c.places.opened grew (is.owned still);
  whole = record { logged = λ _. logged; left = λ broken. absurd (true_not_false s.broken broken still); sound = is.whole.sound; kind = is.whole.kind };
}
  where
    grew : (u : Told) → told' ≡ Some u → (t : Told) × (told ≡ Some t) × Grows t u c.log c.log
    grew u new =
        let b = back told told' (λ t u. SparesLogs t u) spares u new in
        (b.0, b.1, spares_grows b.0 u c.log b.2)

    true_not_false : (b : Bool) → b ≡ true → b ≡ false → ⊥
    true_not_false b is isnt = cc

-- and so where a checkpoint alone was changed
pub laid_as : (told told' : Option Told) (c : Logged) (s : State) (number most : ℕ) (P : Option (List ℕ) → Type 0) (w : Writer) (busy_ones : ℕ) (is : IsStateOf told c s) → s.broken ≡ false → s.staged ≡ [] → c.log.bytes ≡ [] → (m : ℕ) → ArePast told' c m is.known → Tells told told' (Changes (Check number) P most) → w ≡ c.log → busy_ones ≡ c.busy → IsLogged told' w busy_ones s
    → IsStateOf told' (record { places = c.places; log = w; busy = busy_ones }) s
laid_as told told' c s number most P w busy_ones is still staged empty m past changes same busy_is logged =
    let spares : Tells told told' (λ t u. SparesLogs t u) = tells_more told told' (Changes (Check number) P most) (λ t u. SparesLogs t u) (λ t u old new changed n. changed.others (Log n) refl) changes in
    let as_before : IsLogged told' c.log c.busy s = subst (λ (v : Writer). IsLogged told' v c.busy s) same (subst (λ (n : ℕ). IsLogged told' w n s) busy_is logged) in
    subst (λ (v : Writer). IsStateOf told' (record { places = c.places; log = v; busy = busy_ones }) s) (sym same)
    (subst (λ (n : ℕ). IsStateOf told' (record { places = c.places; log = c.log; busy = n }) s) (sym busy_is) (laid_state told told' c s is still staged empty m past spares as_before))
