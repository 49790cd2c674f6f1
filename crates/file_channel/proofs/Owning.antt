-- At the pointers of open transactions stand PUTs of their own.
use Rattle.std.proofs.Common.{◌⊎◌, inl, inr, ◌≡◌, ◌≢◌, ◌+◌, ◌++◌, ◌∷◌, [], ◌==◌, ℕ, List, Option, Some, None, true, false, sym, ◌∙◌, ap, append_assoc, subst}
use Rattle.std.specs.List.{AllByRecursion}
use Rattle.std.proofs.lemmas.Bool.Decides.{eqb_tells}
use Rattle.flume_host.specs.Told.{Told}
use Rattle.event_core.specs.Content.{Content, size}
use Rattle.record_form.specs.declared.record.Pointer.{Pointer}
use Rattle.record_form.specs.declared.record.Rec.{Rec}
use Rattle.record_form.specs.declared.record.Rec.TheVariants.{Put}
use Rattle.record_form.specs.Record.{spelling}
use Rattle.open_table.specs.Tables.{HasAt, Listed, Open, Puts, Table, Takes, added, open_at, puts_of, with_item}
use Rattle.open_table.specs.declared.table.Item.TheVariants as items
use Rattle.channel_log.specs.Pointers.{in_frame}
use Rattle.channel_log.specs.Writer.{Appends, Writer}
use Rattle.channel_places.specs.Looks.{KeepsPuts, pointers_at, pointers_of}
use Rattle.file_channel.specs.Placed.{AreOwn, IsOwn, PutBy, settled_in}
use Rattle.file_channel.proofs.Placing.{Grows, next_place, waits_there}

each : {A : Type 0} (P Q : A → Type 0) (xs : List A) → ((x : A) → P x → Q x) → AllByRecursion P xs → AllByRecursion Q xs
each P Q [] maps all = tt
each P Q (x ∷ xs) maps all = (maps x all.0, each P Q xs maps all.1)

all_push : {A : Type 0} (P : A → Type 0) (xs : List A) (x : A) → AllByRecursion P xs → P x → AllByRecursion P (xs ++ x ∷ [])
all_push P [] x all last = (last, tt)
all_push P (y ∷ xs) x all last = (all.0, all_push P xs x all.1 last)

-- a PUT of a transaction stands where more bytes follow
pub by_grows : (bytes more : List ℕ) (txn : ℕ) (p : Pointer) (event : Content) → PutBy bytes txn p event → PutBy (bytes ++ more) txn p event
by_grows bytes more txn p event (at, of) = (
  record {
    txn = at.txn;
    before = at.before;
    behind = at.behind ++ more;
    split =
        ap (λ (l : List ℕ). l ++ more) at.split
        ∙ (append_assoc at.before (spelling (Put at.txn event) ++ at.behind) more ∙ ap (λ (l : List ℕ). at.before ++ l) (append_assoc (spelling (Put at.txn event)) at.behind more));
    place = at.place;
    long = at.long;
    fields = at.fields;
    limits = at.limits;
  },
  of,
)

-- transactions that keep their puts, or have none
pub own_less : (told : Option Told) (w : Writer) (old new : Table) → KeepsPuts old new → AreOwn told w old → AreOwn told w new
own_less told w old new keeps own t is txn = from (keeps txn) (own t is txn)
  where
    from : (pointers_at new txn ≡ pointers_at old txn) ⊎ (pointers_at new txn ≡ []) → AllByRecursion (λ p. IsOwn t w txn p) (pointers_at old txn) → AllByRecursion (λ p. IsOwn t w txn p) (pointers_at new txn)
    from (inl same) all = subst (λ (ps : List Pointer). AllByRecursion (λ p. IsOwn t w txn p) ps) (sym same) all
    from (inr none) all = subst (λ (ps : List Pointer). AllByRecursion (λ p. IsOwn t w txn p) ps) (sym none) tt

-- where the open transactions are the same, each pointer is its own
pub own_same : (told : Option Told) (w : Writer) (old new : Table) → new ≡ old → AreOwn told w old → AreOwn told w new
own_same told w old new same own = subst (λ (table : Table). AreOwn told w table) (sym same) own

-- where no transaction is open, there is no pointer to own
pub own_none : (told : Option Told) (w : Writer) (table : Table) → table ≡ [] → AreOwn told w table
own_none told w table none = subst (λ (t : Table). AreOwn told w t) (sym none) (λ t is txn. tt)

-- one record more waits
pub own_appends : (told : Option Told) (w w' : Writer) (rec : Rec) (table : Table) → Appends w w' rec → AreOwn told w table → AreOwn told w' table
own_appends told w w' rec table adds own = subst (λ (v : Writer). AreOwn told v table) (sym adds.is) (λ t is txn. each (λ p. IsOwn t w txn p) (λ p. IsOwn t grown txn p) (pointers_at table txn) (λ p. more t txn p) (own t is txn))
  where
    grown : Writer
    grown = record w { bytes = w.bytes ++ spelling rec; count = w.count + 1 }

    more : (t : Told) (txn : ℕ) (p : Pointer) → IsOwn t w txn p → IsOwn t grown txn p
    more t txn p (event, inl at) = (event, inl at)
    more t txn p (event, inr (waits, at)) = (event, inr (waits, by_grows w.bytes (spelling rec) txn (in_frame w p) event at))

-- a put more
pub own_put : (told : Option Told) (w w' : Writer) (txn : ℕ) (event : Content) (p : Pointer) (old new : Table) → Appends w w' (Put txn event) → p ≡ next_place w (size event) → HasAt txn (added (items.Put p) (open_at old txn)) old new → AreOwn told w old → AreOwn told w' new
own_put told w w' txn event p old new adds is has own t told_is n = from (eqb_tells n txn)
  where
    before : (m : ℕ) → AllByRecursion (λ q. IsOwn t w' m q) (pointers_at old m)
    before m = own_appends told w w' (Put txn event) old adds own t told_is m

    here : IsOwn t w' txn p
    here = subst (λ (r : Pointer). IsOwn t w' txn r) (sym is) (event, waits_there t w w' txn event adds)

    with_it : (o : Option Open) → AllByRecursion (λ q. IsOwn t w' txn q) (pointers_of o) → AllByRecursion (λ q. IsOwn t w' txn q) (pointers_of (added (items.Put p) o))
    with_it None all = tt
    with_it (Some o) all = of_list o.listed all
      where
        of_list : (listed : Listed) → AllByRecursion (λ q. IsOwn t w' txn q) (puts_of listed) → AllByRecursion (λ q. IsOwn t w' txn q) (puts_of (with_item (items.Put p) listed))
        of_list (Puts pointers) all = all_push (λ q. IsOwn t w' txn q) pointers p all here
        of_list (Takes numbers) all = tt

    from : ((n == txn) ≡ true) × (n ≡ txn) ⊎ ((n == txn) ≡ false) × (n ≢ txn) → AllByRecursion (λ q. IsOwn t w' n q) (pointers_at new n)
    from (inl same) =
        subst (λ (m : ℕ). AllByRecursion (λ q. IsOwn t w' m q) (pointers_at new m)) (sym same.1)
        (subst (λ (o : Option Open). AllByRecursion (λ q. IsOwn t w' txn q) (pointers_of o)) (sym has.here_is) (with_it (open_at old txn) (before txn)))
    from (inr other) = subst (λ (o : Option Open). AllByRecursion (λ q. IsOwn t w' n q) (pointers_of o)) (sym (has.others n other.1)) (before n)

-- what log files have settled grew, and what waited is there
pub own_grows : (told told' : Option Told) (w w' : Writer) (table : Table) → ((u : Told) → told' ≡ Some u → (t : Told) × (told ≡ Some t) × Grows t u w w') → AreOwn told w table → AreOwn told' w' table
own_grows told told' w w' table grew own u is txn =
    let was = grew u is in
    each (λ p. IsOwn was.0 w txn p) (λ p. IsOwn u w' txn p) (pointers_at table txn) (λ p. one was.0 was.2 p) (own was.0 was.1 txn)
  where
    one : (t : Told) → Grows t u w w' → (p : Pointer) → IsOwn t w txn p → IsOwn u w' txn p
    one t grows p (event, inl at) = (event, inl (subst (λ (l : List ℕ). PutBy l txn p event) (sym (grows.settled p.file).1) (by_grows (settled_in t w p.file) (grows.settled p.file).0 txn p event at)))
    one t grows p (event, inr waits) = (event, grows.waited p event txn waits.0 waits.1)
