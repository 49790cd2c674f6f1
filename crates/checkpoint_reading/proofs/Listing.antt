-- What an open transaction of a checkpoint lists, item by item.
use Rattle.std.specs.Prelude.{IsSome, IsSomeAnd, flat_map, map, nat_lt, option_map, true, false, Bool, None, Option, Some}
use Rattle.std.specs.List.{AllByRecursion}
use Rattle.std.proofs.lemmas.Bool.{ltb-true}
use Rattle.std.proofs.lemmas.List.{append-nil}
use Rattle.std.proofs.Common.{◌≡◌, ◌<◌, ◌≤◌, ◌+◌, ◌*◌, ◌^◌, ◌++◌, ◌∷◌, [], ℕ, List, cond, length, refl, sym, ap, subst, ◌∙◌, arith, append_assoc, length-append}
use Rattle.flume_host.specs.Folder.{Files}
use Rattle.flume_host.specs.Told.{Told, WhereTold}
use Rattle.flume_host.specs.declared.names.FileName.TheVariants.{Log}
use Rattle.event_core.proofs.Sizes.{length-u32_bytes, length-u64_bytes}
use Rattle.event_core.specs.Numbers.{u32_bytes, u64_bytes}
use Rattle.event_ring.specs.Slots.{Left}
use Rattle.open_table.specs.declared.table.Item.{Item}
use Rattle.open_table.specs.declared.table.Item.TheVariants.{Put, Take}
use Rattle.open_table.specs.Tables.{HasAt, IsOf, Listed, MayAdd, Open, Puts, Table, Takes, added, begun, open_at, size, wider, with_item}
use Rattle.record_form.specs.declared.record.Pointer.{Pointer}
use Rattle.record_form.specs.Pointers.{PutAt}
use Rattle.checkpoint.specs.Right.{AreOnceAmong, PutOf, number_of}
use Rattle.checkpoint.specs.Says.{live_at}
use Rattle.checkpoint.specs.Text.{entry_bytes, pointer_bytes}
use Rattle.checkpoint_reading.specs.declared.logs.Logs.{Logs}
use Rattle.checkpoint_reading.specs.declared.draft.Draft.{Draft}
use Rattle.checkpoint_reading.specs.Fields.{FitsFields, Is64, IsPut}
use Rattle.checkpoint_reading.specs.Logs.{IsKnown, IsPutIn, IsSized}
use Rattle.checkpoint_reading.specs.Opens.{HasPuts, HasTaken, HasTakes, IsListing, Lists, MayList, MayOpen, MayTake, NoEntry, NoList, NoOpen, nothing}
use Rattle.checkpoint_reading.specs.Reader.{Reader, Takes as Reads, rest}
use Rattle.checkpoint_reading.proofs.Living.{OnWay, put_of_in}
use Rattle.checkpoint_reading.proofs.Naming.{one_txn}
use Rattle.checkpoint_reading.proofs.Sound.{all_more}
use Rattle.checkpoint_reading.proofs.Taking.{length_pointer}
use Rattle.checkpoint_reading.proofs.Unique.{one_pointer, one_u32, one_u64, puts_fit}

flat_more : {A : Type 0} (spell : A → List ℕ) (xs : List A) (x : A) → flat_map spell (xs ++ x ∷ []) ≡ flat_map spell xs ++ spell x
flat_more spell [] x = append-nil (spell x)
flat_more spell (y ∷ xs) x = ap (λ (l : List ℕ). spell y ++ l) (flat_more spell xs x) ∙ sym (append_assoc (spell y) (flat_map spell xs) (spell x))

all_at : {A : Type 0} (P : A → Type 0) (xs : List A) (x : A) (ys : List A) → AllByRecursion P (xs ++ x ∷ ys) → P x
all_at P [] x ys all = all.0
all_at P (y ∷ xs) x ys all = all_at P xs x ys all.1

all_from : {A : Type 0} (P : A → Type 0) (xs ys : List A) → AllByRecursion P (xs ++ ys) → AllByRecursion P ys
all_from P [] ys all = all
all_from P (x ∷ xs) ys all = all_from P xs ys all.1

-- After some items of a list stands the next one.
record Behind {A : Type 0} (spell : A → List ℕ) (read items : List A) (bytes more : List ℕ) : Type 0 where
  next : A
  behind : List A
  split : items ≡ read ++ next ∷ behind
  stands : bytes ≡ spell next ++ (flat_map spell behind ++ more)

behind_items : {A : Type 0} (spell : A → List ℕ) (Fits : A → Type 0) → ((a b : A) (x y : List ℕ) → spell a ++ x ≡ spell b ++ y → Fits a → Fits b → (a ≡ b) × (x ≡ y))
    → (read items : List A) (bytes more : List ℕ) → flat_map spell read ++ bytes ≡ flat_map spell items ++ more → AllByRecursion Fits read → AllByRecursion Fits items → length read < length items
    → Behind spell read items bytes more
behind_items spell Fits one [] [] bytes more is fits fits' less = absurd (omega (arith, less))
behind_items spell Fits one [] (a ∷ items) bytes more is fits fits' less = record { next = a; behind = items; split = refl; stands = is ∙ append_assoc (spell a) (flat_map spell items) more }
behind_items spell Fits one (r ∷ read) [] bytes more is fits fits' less = absurd (omega (arith, less))
behind_items {A} spell Fits one (r ∷ read) (a ∷ items) bytes more is fits fits' less =
    let both = one r a (flat_map spell read ++ bytes) (flat_map spell items ++ more) (sym (append_assoc (spell r) (flat_map spell read) bytes) ∙ (is ∙ append_assoc (spell a) (flat_map spell items) more)) fits.0 fits'.0 in
    let rest' = behind_items spell Fits one read items bytes more both.1 fits.1 fits'.1 (omega (arith, less)) in
    record {
      next = rest'.next;
      behind = rest'.behind;
      split = ap (λ (l : List A). a ∷ l) rest'.split ∙ ap (λ (x : A). x ∷ (read ++ rest'.next ∷ rest'.behind)) (sym both.0);
      stands = rest'.stands;
    }

-- a transaction has begun
pub lists_begun : (puts : Bool) (txn : ℕ) (old new : Table) → HasAt txn (Some (begun puts 0)) old new → length new ≡ length old + 1 → Lists txn (nothing puts) old new
lists_begun true txn old new has count = record { here = (0, has.here_is); others = has.others; count = count }
lists_begun false txn old new has count = record { here = (0, has.here_is); others = has.others; count = count }

-- it may list what is of its kind
pub may_list : (txn : ℕ) (listed : Listed) (table : Table) (item : Item) → IsListing txn listed table → IsOf item listed → MayList item (open_at table txn)
may_list txn listed table item here of = subst (λ (o : Option Open). MayList item o) (sym here.1) of

-- no puts yet
pub no_puts_yet : (told : Option Told) (start : Reader) (txn : ℕ) (d : Draft) → IsListing txn (Puts []) d.table → HasPuts told start start txn d d []
no_puts_yet told start txn d here = record { read = λ t is. refl; fits = tt; sized = tt; stand = λ t is. tt; here = here; lists = λ base lists. lists; rest = refl }

-- a put more
pub puts_more : (was later : Option Told) (start now then' : Reader) (txn : ℕ) (before d e : Draft) (read : List Pointer) (p : Pointer) → later ≡ was → HasPuts was start now txn before d read → Reads later now then' (pointer_bytes p)
    → FitsFields p → IsSized p → WhereTold later (λ t. IsPut t.reads txn p) → ((base : Table) (listed : Listed) → Lists txn listed base d.table → Lists txn (with_item (Put p) listed) base e.table)
    → ((listed : Listed) → IsListing txn listed d.table → IsListing txn (with_item (Put p) listed) e.table) → e ≡ record d { table = e.table } → HasPuts was start then' txn before e (read ++ p ∷ [])
puts_more was later start now then' txn before d e read p same has reads fits sized stand lists here kept = record {
  read = λ t is. has.read t is ∙ (ap (λ (l : List ℕ). flat_map pointer_bytes read ++ l) (reads t (same ∙ is))
      ∙ (sym (append_assoc (flat_map pointer_bytes read) (pointer_bytes p) (rest t then')) ∙ ap (λ (l : List ℕ). l ++ rest t then') (sym (flat_more pointer_bytes read p))));
  fits = all_more FitsFields read p has.fits fits;
  sized = all_more IsSized read p has.sized sized;
  stand = λ t is. all_more (IsPut t.reads txn) read p (has.stand t is) (stand t (same ∙ is));
  here = here (Puts read) has.here;
  lists = λ base begun. lists base (Puts read) (has.lists base begun);
  rest = kept ∙ ap (λ (x : Draft). record x { table = e.table }) has.rest;
}

-- where none that is right comes next, the list is none of the transaction
pub puts_stop : (was later : Option Told) (start now : Reader) (txn : ℕ) (before d : Draft) (read : List Pointer) (more count : ℕ) → later ≡ was → HasPuts was start now txn before d read → length read + more ≡ count → 1 ≤ more
    → WhereTold later (λ t. (p : Pointer) (m : List ℕ) → rest t now ≡ pointer_bytes p ++ m → IsPut t.reads txn p → ⊥) → WhereTold was (λ t. NoList pointer_bytes (AllByRecursion (IsPut t.reads txn)) count (rest t start))
puts_stop was later start now txn before d read more count same has many some none = λ t is items m there long right.
    let b = behind_items pointer_bytes FitsFields one_pointer read items (rest t now) m (sym (has.read t is) ∙ there) has.fits (puts_fit t.reads txn items right) (omega (arith, many, some, long)) in
    none t (same ∙ is) b.next (flat_map pointer_bytes b.behind ++ m) b.stands (all_at (IsPut t.reads txn) read b.next b.behind (subst (λ (l : List Pointer). AllByRecursion (IsPut t.reads txn) l) b.split right))

-- no takes yet
pub no_takes_yet : (told : Option Told) (start : Reader) (txn : ℕ) (d : Draft) → IsListing txn (Takes []) d.table → HasTakes told start start txn d d []
no_takes_yet told start txn d here = record {
  read = λ t is. refl;
  fits = tt;
  here = here;
  lists = λ base lists. lists;
  taken = λ taken has. subst (λ (l : List ℕ). HasTaken l d.ring.live) (sym (append-nil taken)) has;
  events = refl;
  rest = refl;
}

-- a take more: its event is held, and then it is listed
pub takes_more : (was later : Option Told) (start now then' : Reader) (txn : ℕ) (before d h e : Draft) (read : List ℕ) (n : ℕ) → later ≡ was → HasTakes was start now txn before d read → Reads later now then' (u64_bytes n) → Is64 n
    → ((taken : List ℕ) → HasTaken taken d.ring.live → HasTaken (taken ++ n ∷ []) h.ring.live) → map live_at h.ring.live ≡ map live_at d.ring.live → h ≡ record d { ring = record d.ring { live = h.ring.live } }
    → ((base : Table) (listed : Listed) → Lists txn listed base h.table → Lists txn (with_item (Take n) listed) base e.table)
    → ((listed : Listed) → IsListing txn listed h.table → IsListing txn (with_item (Take n) listed) e.table) → e ≡ record h { table = e.table } → HasTakes was start then' txn before e (read ++ n ∷ [])
takes_more was later start now then' txn before d h e read n same has reads fits held events kept lists here kept' =
    let table : h.table ≡ d.table = ap (λ (x : Draft). x.table) kept in
    let live : e.ring.live ≡ h.ring.live = ap (λ (x : Draft). x.ring.live) kept' in
    record {
      read = λ t is. has.read t is ∙ (ap (λ (l : List ℕ). flat_map u64_bytes read ++ l) (reads t (same ∙ is))
          ∙ (sym (append_assoc (flat_map u64_bytes read) (u64_bytes n) (rest t then')) ∙ ap (λ (l : List ℕ). l ++ rest t then') (sym (flat_more u64_bytes read n))));
      fits = all_more Is64 read n has.fits fits;
      here = here (Takes read) (subst (λ (x : Table). IsListing txn (Takes read) x) (sym table) has.here);
      lists = λ base begun. lists base (Takes read) (subst (λ (x : Table). Lists txn (Takes read) base x) (sym table) (has.lists base begun));
      taken = λ taken all. subst (λ (l : List ℕ). HasTaken l e.ring.live) (append_assoc taken read (n ∷ [])) (subst (λ (l : List Left). HasTaken ((taken ++ read) ++ n ∷ []) l) (sym live) (held (taken ++ read) (has.taken taken all)));
      events = ap (λ (l : List Left). map live_at l) live ∙ (events ∙ has.events);
      rest = whole before d h e has.rest kept kept';
    }
  where
    whole : (before d h e : Draft) → d ≡ record before { ring = record before.ring { live = d.ring.live }; table = d.table } → h ≡ record d { ring = record d.ring { live = h.ring.live } } → e ≡ record h { table = e.table }
        → e ≡ record before { ring = record before.ring { live = e.ring.live }; table = e.table }
    whole before d h e one two three =
        let lives : e.ring.live ≡ h.ring.live = ap (λ (x : Draft). x.ring.live) three in
        three ∙ (ap (λ (x : Draft). record x { table = e.table }) two
        ∙ (ap (λ (x : Draft). record x { ring = record x.ring { live = h.ring.live }; table = e.table }) one ∙ ap (λ (l : List Left). record before { ring = record before.ring { live = l }; table = e.table }) (sym lives)))

-- where none that may be taken comes next, the list is none of the transaction
pub takes_stop : (was later : Option Told) (start now : Reader) (txn : ℕ) (before d : Draft) (read : List ℕ) (more count : ℕ) → later ≡ was → HasTakes was start now txn before d read → length read + more ≡ count → 1 ≤ more
    → WhereTold later (λ t. (n : ℕ) (m : List ℕ) → rest t now ≡ u64_bytes n ++ m → Is64 n → (taken behind : List ℕ) → HasTaken taken d.ring.live → MayTake d.ring.live taken (n ∷ behind) → ⊥)
    → WhereTold was (λ t. (taken : List ℕ) → HasTaken taken before.ring.live → NoList u64_bytes (MayTake before.ring.live taken) count (rest t start))
takes_stop was later start now txn before d read more count same has many some none = λ t is taken all items m there long right.
    let b = behind_items u64_bytes Is64 one_u64 read items (rest t now) m (sym (has.read t is) ∙ there) has.fits right.0 (omega (arith, many, some, long)) in
    let fits : AllByRecursion Is64 (b.next ∷ b.behind) = all_from Is64 read (b.next ∷ b.behind) (subst (λ (l : List ℕ). AllByRecursion Is64 l) b.split right.0) in
    none t (same ∙ is) b.next (flat_map u64_bytes b.behind ++ m) b.stands fits.0 (taken ++ read) b.behind (has.taken taken all) (
      fits,
      subst (λ (xs : List (ℕ × Pointer)). AreOnceAmong (map number_of xs) ((taken ++ read) ++ b.next ∷ b.behind)) (sym has.events)
          (subst (λ (l : List ℕ). AreOnceAmong (map number_of (map live_at before.ring.live)) l) (sym (append_assoc taken read (b.next ∷ b.behind)))
          (subst (λ (l : List ℕ). AreOnceAmong (map number_of (map live_at before.ring.live)) (taken ++ l)) b.split right.1)),
    )

entry_split : {A : Type 0} (spell : A → List ℕ) (o : ℕ × List A) (more : List ℕ) → entry_bytes spell o ++ more ≡ u64_bytes o.0 ++ (u32_bytes (length o.1) ++ (flat_map spell o.1 ++ more))
entry_split spell o more = append_assoc (u64_bytes o.0) (u32_bytes (length o.1) ++ flat_map spell o.1) more ∙ ap (λ (l : List ℕ). u64_bytes o.0 ++ l) (append_assoc (u32_bytes (length o.1)) (flat_map spell o.1) more)

-- where no open transaction begins that may be one, none stands there
pub no_open_entry : {A : Type 0} (spell : A → List ℕ) (IsRight : ℕ → List A → Type 0) (low high many : ℕ) (bytes : List ℕ) → NoOpen low high bytes → NoEntry spell IsRight low high many bytes
no_open_entry spell IsRight low high many bytes none = λ o more is may few right. none o.0 (length o.1) (flat_map spell o.1 ++ more) (is ∙ entry_split spell o more) may

-- where too many are open, none is right
pub too_many : {A : Type 0} (spell : A → List ℕ) (IsRight : ℕ → List A → Type 0) (low high many : ℕ) (bytes : List ℕ) → 1024 ≤ many → NoEntry spell IsRight low high many bytes
too_many spell IsRight low high many bytes full = λ o more is may few right. omega (arith, full, few)

-- the number, the count and the list of an open transaction that stands where these begin one
same_entry : {A : Type 0} (spell : A → List ℕ) (txn count : ℕ) (o : ℕ × List A) (bytes behind more : List ℕ) → bytes ≡ (u64_bytes txn ++ u32_bytes count) ++ behind → bytes ≡ entry_bytes spell o ++ more → txn < 2 ^ 64 → count < 2 ^ 32
    → o.0 < 2 ^ 64 → length o.1 < 2 ^ 32 → (txn ≡ o.0) × (count ≡ length o.1) × (behind ≡ flat_map spell o.1 ++ more)
same_entry spell txn count o bytes behind more is there fits few fits' few' =
    let one = one_u64 txn o.0 (u32_bytes count ++ behind) (u32_bytes (length o.1) ++ (flat_map spell o.1 ++ more)) (sym (append_assoc (u64_bytes txn) (u32_bytes count) behind) ∙ (sym is ∙ (there ∙ entry_split spell o more))) fits fits' in
    let two = one_u32 count (length o.1) behind (flat_map spell o.1 ++ more) one.1 few few' in
    (one.0, two.0, two.1)

-- where its number is not right, none stands there
pub wrong_number : {A : Type 0} (spell : A → List ℕ) (IsRight : ℕ → List A → Type 0) (low high many : ℕ) (told later : Option Told) (old now : Reader) (txn count : ℕ) → Reads told old now (u64_bytes txn ++ u32_bytes count) → MayOpen low high txn count
    → ((items : List A) → IsRight txn items → ⊥) → WhereTold told (λ t. NoEntry spell IsRight low high many (rest t old))
wrong_number {A} spell IsRight low high many told later old now txn count reads may wrong = λ t is o more there may' few right.
    let same = same_entry spell txn count o (rest t old) (rest t now) more (reads t is) there may.fits may.few may'.fits may'.few in
    wrong o.1 (subst (λ (n : ℕ). IsRight n o.1) (sym same.0) right)

-- where its list is not right, none stands there
pub wrong_list : {A : Type 0} (spell : A → List ℕ) (IsRight : ℕ → List A → Type 0) (Of : List A → Type 0) (low high many : ℕ) (t : Told) (old now : Reader) (txn count : ℕ) → rest t old ≡ (u64_bytes txn ++ u32_bytes count) ++ rest t now
    → MayOpen low high txn count → ((items : List A) → IsRight txn items → Of items) → NoList spell Of count (rest t now) → NoEntry spell IsRight low high many (rest t old)
wrong_list {A} spell IsRight Of low high many t old now txn count reads may of none = λ o more there may' few right.
    let same = same_entry spell txn count o (rest t old) (rest t now) more reads there may.fits may.few may'.fits may'.few in
    none o.1 more same.2 (sym same.1) (of o.1 (subst (λ (n : ℕ). IsRight n o.1) (sym same.0) right))

-- the bytes of an open transaction, by its parts
pub entry_read : {A : Type 0} (spell : A → List ℕ) (told later : Option Told) (old mid new : Reader) (txn count : ℕ) (items : List A) → later ≡ told → Reads told old mid (u64_bytes txn ++ u32_bytes count) → Reads later mid new (flat_map spell items)
    → length items ≡ count → Reads told old new (entry_bytes spell (txn, items))
entry_read {A} spell told later old mid new txn count items same head list many = λ t is.
    head t is ∙ (append_assoc (u64_bytes txn) (u32_bytes count) (rest t mid)
    ∙ (ap (λ (l : List ℕ). u64_bytes txn ++ (u32_bytes count ++ l)) (list t (same ∙ is))
    ∙ (ap (λ (n : ℕ). u64_bytes txn ++ (u32_bytes n ++ (flat_map spell items ++ rest t new))) (sym many) ∙ sym (split t))))
  where
    split : (t : Told) → entry_bytes spell (txn, items) ++ rest t new ≡ u64_bytes txn ++ (u32_bytes (length items) ++ (flat_map spell items ++ rest t new))
    split t = append_assoc (u64_bytes txn) (u32_bytes (length items) ++ flat_map spell items) (rest t new) ∙ ap (λ (l : List ℕ). u64_bytes txn ++ l) (append_assoc (u32_bytes (length items)) (flat_map spell items) (rest t new))

-- The invariant of the loop over the puts of a transaction.
pub record PointersOnWay (was told : Option Told) (faulty faults : ℕ) (start now : Reader) (known : Logs) (txn : ℕ) (before d : Draft) (more count : ℕ) : Type 0 where
  pub way : OnWay was told faulty faults start now (IsKnown told known)
  pub read : List Pointer
  pub has : HasPuts was start now txn before d read
  pub many : length read + more ≡ count

-- The invariant of the loop over the takes of a transaction.
pub record NumbersOnWay (was told : Option Told) (faulty faults : ℕ) (start now : Reader) (txn : ℕ) (before d : Draft) (more count : ℕ) : Type 0 where
  pub way : OnWay was told faulty faults start now (Unit {0})
  pub read : List ℕ
  pub has : HasTakes was start now txn before d read
  pub many : length read + more ≡ count

-- what is made room in has room for one more
pub may_add : (item : Item) (o : Option Open) → MayList item o → MayAdd item (option_map wider o)
may_add item None list = list
may_add item (Some o) list = by (nat_lt (size o.listed) o.room) refl
  where
    by : (b : Bool) → nat_lt (size o.listed) o.room ≡ b → MayAdd item (Some (cond b o (record o { room = 2 * size o.listed + 1 })))
    by true is = (list, ltb-true (size o.listed) o.room is)
    by false is = (list, omega arith)

-- what may list is open
pub list_some : (item : Item) (o : Option Open) → MayList item o → IsSome o
list_some item None list = absurd list
list_some item (Some o) list = refl

wider_listed : (o : Open) → (wider o).listed ≡ o.listed
wider_listed o = by (nat_lt (size o.listed) o.room)
  where
    by : (b : Bool) → (cond b o (record o { room = 2 * size o.listed + 1 })).listed ≡ o.listed
    by true = refl
    by false = refl

-- the item was added to what the transaction had, once there was room
pub listing_more : (item : Item) (txn : ℕ) (listed : Listed) (old mid new : Table) → HasAt txn (option_map wider (open_at old txn)) old mid → HasAt txn (added item (open_at mid txn)) mid new → IsListing txn listed old → IsListing txn (with_item item listed) new
listing_more item txn listed old mid new one two here =
    let was : Open = record { listed = listed; room = here.0 } in
    let wide : open_at mid txn ≡ Some (wider was) = one.here_is ∙ ap (λ (o : Option Open). option_map wider o) here.1 in
    ((wider was).room, two.here_is ∙ (ap (λ (o : Option Open). added item o) wide ∙ ap (λ (l : Listed). Some (record { listed = with_item item l; room = (wider was).room })) (wider_listed was)))

-- and the others are as they were
pub lists_more : (item : Item) (txn : ℕ) (listed : Listed) (base old mid new : Table) → HasAt txn (option_map wider (open_at old txn)) old mid → length mid ≡ length old → HasAt txn (added item (open_at mid txn)) mid new → length new ≡ length mid → Lists txn listed base old
    → Lists txn (with_item item listed) base new
lists_more item txn listed base old mid new one many two many' lists = record {
  here = listing_more item txn listed old mid new one two lists.here;
  others = λ other ne. two.others other ne ∙ (one.others other ne ∙ lists.others other ne);
  count = many' ∙ (many ∙ lists.count);
}

-- where fewer bytes are left than an open transaction begins with, none begins
pub short_open : (low high : ℕ) (bytes : List ℕ) → length bytes < 12 → NoOpen low high bytes
short_open low high bytes short = λ txn count more is may.
    omega (arith, short, ap (λ (l : List ℕ). length l) is, length-append (u64_bytes txn) (u32_bytes count ++ more), length-append (u32_bytes count) more, length-u64_bytes txn, length-u32_bytes count)

-- where one begins that may not be one, no other does
pub wrong_open : (low high txn count : ℕ) (bytes behind : List ℕ) → bytes ≡ (u64_bytes txn ++ u32_bytes count) ++ behind → txn < 2 ^ 64 → count < 2 ^ 32 → (MayOpen low high txn count → ⊥) → NoOpen low high bytes
wrong_open low high txn count bytes behind is fits few wrong = λ t n more there may.
    let one = one_u64 txn t (u32_bytes count ++ behind) (u32_bytes n ++ more) (sym (append_assoc (u64_bytes txn) (u32_bytes count) behind) ∙ (sym is ∙ there)) fits may.fits in
    let two = one_u32 count n behind more one.1 few may.few in
    wrong (subst (λ (k : ℕ). MayOpen low high k count) (sym one.0) (subst (λ (k : ℕ). MayOpen low high t k) (sym two.0) may))

-- where fewer bytes are left than a pointer has, none stands there
pub short_pointer : (bytes : List ℕ) → length bytes < 16 → (p : Pointer) (more : List ℕ) → bytes ≡ pointer_bytes p ++ more → ⊥
short_pointer bytes short p more is = omega (arith, short, ap (λ (l : List ℕ). length l) is, length-append (pointer_bytes p) more, length_pointer p)

-- where a pointer stands that names no such put, no other one does
pub other_put : (files : Files) (txn : ℕ) (bytes behind : List ℕ) (p : Pointer) → bytes ≡ pointer_bytes p ++ behind → FitsFields p → (IsPut files txn p → ⊥) → (q : Pointer) (more : List ℕ) → bytes ≡ pointer_bytes q ++ more → IsPut files txn q → ⊥
other_put files txn bytes behind p is fits wrong q more there right = wrong (subst (λ (r : Pointer). IsPut files txn r) (sym (one_pointer p q behind more (sym is ∙ there) fits right.0).0) right)

-- the PUT that was found is one of the transaction
pub put_is : (files : Files) (p : Pointer) (txn found : ℕ) → FitsFields p → found ≡ txn → IsPutIn files p (Some found) → IsPut files txn p
put_is files p txn found fits same is = (fits, is.0, subst (λ (n : ℕ). PutOf files n p is.0) same is.1)

-- or of another one
pub other_txn : (files : Files) (p : Pointer) (txn found : ℕ) → (found ≡ txn → ⊥) → IsPutIn files p (Some found) → IsPut files txn p → ⊥
other_txn files p txn found other is put = from (files (Log p.file)) is.1 put.2
  where
    from : (file : Option (List ℕ)) → IsSomeAnd file (λ bytes. (at : PutAt bytes p is.0) × (at.txn ≡ found)) → IsSomeAnd file (λ bytes. (at : PutAt bytes p put.1) × (at.txn ≡ txn)) → ⊥
    from None a b = absurd a
    from (Some bytes) a b = other (sym a.1 ∙ (one_txn bytes p is.0 put.1 a.0 b.0 ∙ b.1))

-- or there is none
pub no_put_of : (files : Files) (p : Pointer) (txn : ℕ) → IsPutIn files p None → IsPut files txn p → ⊥
no_put_of files p txn none put = none put.1 (put_of_in files txn p put.1 put.2)

-- of what was looked for
pub found_some : (files : Files) (p : Pointer) (txn : Option ℕ) (found : ℕ) → txn ≡ Some found → IsPutIn files p txn → IsPutIn files p (Some found)
found_some files p txn found same is = subst (λ (o : Option ℕ). IsPutIn files p o) same is

-- or nothing that was put stands where it was looked for
pub found_none : (files : Files) (p : Pointer) (txn : Option ℕ) → txn ≡ None → IsPutIn files p txn → IsPutIn files p None
found_none files p txn same is = subst (λ (o : Option ℕ). IsPutIn files p o) same is
