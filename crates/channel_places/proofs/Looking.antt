-- What looks like a state, and what an open transaction more makes of it.
use Rattle.std.proofs.Common.{◌⊎◌, inl, inr, ◌≡◌, ◌≢◌, ◌+◌, ◌++◌, ◌∷◌, [], ℕ, List, length, Option, Some, None, Bool, true, false, ◌==◌, cond, refl, sym, ◌∙◌, ap, subst, arith, length-append}
use Rattle.std.proofs.lemmas.List.{append-nil}
use Rattle.std.proofs.lemmas.Bool.Decides.{eqb_tells}
use Rattle.event_core.specs.Content.{Content}
use Rattle.event_core.specs.Journal.{AreDistinctOf, IsBase, put_events, taken_numbers}
use Rattle.channel_face.specs.History.{Opening, opening}
use Rattle.event_core.specs.declared.journal.Entry.{Entry}
use Rattle.event_core.specs.declared.journal.Entry.TheVariants as entry
use Rattle.record_form.specs.declared.record.Pointer.{Pointer}
use Rattle.open_table.specs.Tables.{HasAt, Listed, Open, Puts, Table, Takes, begun, open_at}
use Rattle.event_ring.specs.Slots.{Left}
use Rattle.channel_face.specs.Machine.{State, broken_state, count, entries, entry_of}
use Rattle.channel_face.proofs.Numbers.{put_events-append, taken_numbers-append}
use Rattle.channel_face.specs.Sound.{AreNumbered, Opened}
use Rattle.channel_face.proofs.Opened.{entries-append, entry_of-push}
use Rattle.channel_places.proofs.Opening.{rise-all, rise-push}
use Rattle.channel_places.specs.Looks.{IsWithinRoom, Known, LookLeft, LookPuts, LookStaged, Looks, LooksOpen, Numbers, Places, count_in, held_in, no_entry, numbers_of, puts_in}

-- lengths

-- as many pointers as the events that stand there
pub puts_length : (known : Known) (pointers : List Pointer) (events : List Content) → LookPuts known pointers events → length pointers ≡ length events
puts_length known [] [] look = refl
puts_length known [] (e ∷ events) look = absurd look
puts_length known (p ∷ pointers) [] look = absurd look
puts_length known (p ∷ pointers) (e ∷ events) look = omega (arith, puts_length known pointers events look.1)

-- as many places are left as items
pub left_length : (known : Known) (held : List ℕ) (live : List Left) (items : List (ℕ × Content)) → LookLeft known held live items → length live ≡ length items
left_length known held [] [] look = refl
left_length known held [] (x ∷ items) look = absurd look
left_length known held (l ∷ live) [] look = absurd look
left_length known held (l ∷ live) (x ∷ items) look = omega (arith, left_length known held live items look.1)

-- as many puts are staged by pointers as by events
pub staged_length : (known : Known) (listed : List Listed) (staged : List Entry) → LookStaged known listed staged → puts_in listed ≡ length (put_events staged)
staged_length known [] [] look = refl
staged_length known [] (e ∷ staged) look = absurd look
staged_length known (l ∷ listed) [] look = absurd look
staged_length known (Puts pointers ∷ listed) (entry.Puts events ∷ staged) look =
    omega (arith, puts_length known pointers events look.0, staged_length known listed staged look.1, length-append events (put_events staged))
staged_length known (Puts pointers ∷ listed) (entry.Takes numbers ∷ staged) look = absurd look.0
staged_length known (Takes numbers ∷ listed) (entry.Puts events ∷ staged) look = absurd look.0
staged_length known (Takes numbers ∷ listed) (entry.Takes taken ∷ staged) look = omega (arith, staged_length known listed staged look.1)

-- the places count as many events as the state
pub count_is : (settled known : Known) (p : Places) (s : State) → Looks settled known p s → count_in p ≡ count s
count_is settled known p s looks =
    omega (arith, left_length settled (held_in s) p.live s.items looks.left, looks.open_puts, staged_length known p.staged s.staged looks.staged)

-- what is open

-- no open transaction has the next number
pub none_numbered : (txn : ℕ) (opened : Opened) → AreNumbered txn opened → entry_of txn opened ≡ None
none_numbered txn [] all = refl
none_numbered txn (o ∷ opened) all = from (eqb_tells o.0 txn) (none_numbered txn opened all.1)
  where
    from : ((o.0 == txn) ≡ true) × (o.0 ≡ txn) ⊎ ((o.0 == txn) ≡ false) × (o.0 ≢ txn) → entry_of txn opened ≡ None → cond (o.0 == txn) (Some o.1) (entry_of txn opened) ≡ None
    from (inl is) more = absurd (omega (arith, all.0, is.1))
    from (inr isnt) more = rw isnt.0 more

-- a transaction added at the end changes no other one
pub entry_of-other : (other txn : ℕ) (e : Entry) (opened : Opened) → other ≢ txn → entry_of other (opened ++ (txn, e) ∷ []) ≡ entry_of other opened
entry_of-other other txn e [] differs = from (eqb_tells txn other)
  where
    from : ((txn == other) ≡ true) × (txn ≡ other) ⊎ ((txn == other) ≡ false) × (txn ≢ other) → cond (txn == other) (Some e) None ≡ None
    from (inl is) = absurd (differs (sym is.1))
    from (inr isnt) = rw isnt.0 refl
entry_of-other other txn e (o ∷ opened) differs = by_test (o.0 == other) (entry_of-other other txn e opened differs)
  where
    by_test : (t : Bool) → entry_of other (opened ++ (txn, e) ∷ []) ≡ entry_of other opened → cond t (Some o.1) (entry_of other (opened ++ (txn, e) ∷ [])) ≡ cond t (Some o.1) (entry_of other opened)
    by_test true more = refl
    by_test false more = more

-- what the state doesn't have open, the table doesn't either
pub none_open : (known : Known) (room : ℕ) (o : Option Open) (e : Option Entry) → LooksOpen known room o e → e ≡ None → o ≡ None
none_open known room None e look none = refl
none_open known room (Some o) None look none = absurd look
none_open known room (Some o) (Some e) look none = absurd (differ none)
  where
    differ : Some e ≡ None → ⊥
    differ same = cc

-- no transaction has the next number yet
pub next_not_open : (settled known : Known) (p : Places) (s : State) → Looks settled known p s → open_at p.opened p.numbers.txn ≡ None
next_not_open settled known p s looks =
    let same : p.numbers.txn ≡ s.txn = ap (λ (n : Numbers). n.txn) looks.numbers in
    subst (λ (n : ℕ). open_at p.opened n ≡ None) (sym same)
    (none_open known s.rules.limits.txn_capacity (open_at p.opened s.txn) (entry_of s.txn s.opened) (looks.opened s.txn) (none_numbered s.txn s.opened (rise-all 0 s.txn s.opened looks.sound.opened)))

-- a transaction that has just begun takes nothing
pub no_takes : (puts : Bool) → taken_numbers (no_entry puts ∷ []) ≡ []
no_takes true = refl
no_takes false = refl

-- a transaction that has just begun puts nothing
pub no_puts : (puts : Bool) → put_events (no_entry puts ∷ []) ≡ []
no_puts true = refl
no_puts false = refl

begun_listed : (known : Known) (puts : Bool) (room : ℕ) → LooksOpen known room (Some (begun puts room)) (Some (no_entry puts))
begun_listed known true room = (tt, refl)
begun_listed known false room = (refl, refl)

-- a transaction more
pub begun_looks : (settled known : Known) (p : Places) (s : State) (t : Table) (puts : Bool) (room : ℕ) → Looks settled known p s → room ≡ p.numbers.rules.limits.txn_capacity → HasAt p.numbers.txn (Some (begun puts room)) p.opened t → length t ≡ length p.opened + 1
    → Looks settled known (record p { opened = t; numbers = record p.numbers { txn = p.numbers.txn + 1 } }) (record s { opened = s.opened ++ (s.txn, no_entry puts) ∷ []; txn = s.txn + 1 })
begun_looks settled known p s t puts room looks room_is has many = record {
  sound = record {
    base = looks.sound.base;
    held = subst (λ (h : List ℕ). AreDistinctOf s.items h) (sym held) looks.sound.held;
    opened = rise-push 0 s.txn (no_entry puts) s.opened looks.sound.opened;
    staged = looks.sound.staged;
  };
  left = subst (λ (h : List ℕ). LookLeft settled h p.live s.items) (sym held) looks.left;
  opened = each;
  as_many = omega (arith, many, looks.as_many, length-append s.opened ((s.txn, no_entry puts) ∷ []));
  open_puts = looks.open_puts ∙ sym (ap (λ (l : List Content). length l) puts_same);
  staged = looks.staged;
  numbers = ap (λ (n : Numbers). record n { txn = n.txn + 1 }) looks.numbers;
}
  where
    opened : Opened
    opened = s.opened ++ (s.txn, no_entry puts) ∷ []

    txn : p.numbers.txn ≡ s.txn
    txn = ap (λ (n : Numbers). n.txn) looks.numbers

    taken : taken_numbers (entries opened) ≡ taken_numbers (entries s.opened)
    taken =
        ap (λ (l : List Entry). taken_numbers l) (entries-append s.opened ((s.txn, no_entry puts) ∷ []))
        ∙ (taken_numbers-append (entries s.opened) (no_entry puts ∷ [])
        ∙ (ap (λ (l : List ℕ). taken_numbers (entries s.opened) ++ l) (no_takes puts) ∙ append-nil (taken_numbers (entries s.opened))))

    held : taken_numbers (entries opened) ++ taken_numbers s.staged ≡ held_in s
    held = ap (λ (l : List ℕ). l ++ taken_numbers s.staged) taken

    puts_same : put_events (entries opened) ≡ put_events (entries s.opened)
    puts_same =
        ap (λ (l : List Entry). put_events l) (entries-append s.opened ((s.txn, no_entry puts) ∷ []))
        ∙ (put_events-append (entries s.opened) (no_entry puts ∷ [])
        ∙ (ap (λ (l : List Content). put_events (entries s.opened) ++ l) (no_puts puts) ∙ append-nil (put_events (entries s.opened))))

    limit : room ≡ s.rules.limits.txn_capacity
    limit = room_is ∙ ap (λ (n : Numbers). n.rules.limits.txn_capacity) looks.numbers

    here : LooksOpen known s.rules.limits.txn_capacity (open_at t s.txn) (entry_of s.txn opened)
    here =
        let at : open_at t s.txn ≡ Some (begun puts room) = subst (λ (n : ℕ). open_at t n ≡ Some (begun puts room)) txn has.here_is in
        let e : entry_of s.txn opened ≡ Some (no_entry puts) = entry_of-push s.txn (no_entry puts) s.opened (rise-all 0 s.txn s.opened looks.sound.opened) in
        rw (at, e) (subst (λ (r : ℕ). LooksOpen known r (Some (begun puts room)) (Some (no_entry puts))) limit (begun_listed known puts room))

    each : (n : ℕ) → LooksOpen known s.rules.limits.txn_capacity (open_at t n) (entry_of n opened)
    each n = from (eqb_tells n s.txn)
      where
        from : ((n == s.txn) ≡ true) × (n ≡ s.txn) ⊎ ((n == s.txn) ≡ false) × (n ≢ s.txn) → LooksOpen known s.rules.limits.txn_capacity (open_at t n) (entry_of n opened)
        from (inl is) = subst (λ (m : ℕ). LooksOpen known s.rules.limits.txn_capacity (open_at t m) (entry_of m opened)) (sym is.1) here
        from (inr isnt) =
            let at : open_at t n ≡ open_at p.opened n = has.others n (λ same. isnt.1 (same ∙ txn)) in
            rw (at, entry_of-other n s.txn (no_entry puts) s.opened isnt.1) (looks.opened n)

-- another list equal to what is staged looks the same
pub restaged : (settled known : Known) (p : Places) (s : State) (staged : List Listed) → staged ≡ p.staged → Looks settled known p s → Looks settled known (record p { staged = staged }) s
restaged settled known p s staged same looks = subst (λ (l : List Listed). Looks settled known (record p { staged = l }) s) (sym same) looks

-- within their room

-- a transaction that has just begun is within its room
pub begun_within : (puts : Bool) (room : ℕ) → IsWithinRoom (Some (begun puts room))
begun_within true room = omega arith
begun_within false room = omega arith

-- where one transaction changed and is within its room, so is each
pub rooms_stay : (old t : Table) (n : ℕ) (o : Option Open) → HasAt n o old t → IsWithinRoom o → ((m : ℕ) → IsWithinRoom (open_at old m)) → (m : ℕ) → IsWithinRoom (open_at t m)
rooms_stay old t n o has here each m = from (eqb_tells m n)
  where
    from : ((m == n) ≡ true) × (m ≡ n) ⊎ ((m == n) ≡ false) × (m ≢ n) → IsWithinRoom (open_at t m)
    from (inl same) = subst (λ (k : ℕ). IsWithinRoom (open_at t k)) (sym same.1) (subst (λ (q : Option Open). IsWithinRoom q) (sym has.here_is) here)
    from (inr other) = subst (λ (q : Option Open). IsWithinRoom q) (sym (has.others m other.1)) (each m)

-- a channel that is opened
pub opened_looks : (settled known : Known) (p : Places) (o : Opening) → p.opened ≡ [] → p.staged ≡ [] → p.open_puts ≡ 0 → p.numbers ≡ numbers_of (opening o) → LookLeft settled [] p.live o.base.items → IsBase o.base → Looks settled known p (opening o)
opened_looks settled known p o none_open none_staged none_put numbers left base = record {
  sound = record { base = base; held = tt; opened = omega arith; staged = tt };
  left = left;
  opened = λ txn. subst (λ (t : Table). LooksOpen known o.rules.limits.txn_capacity (open_at t txn) None) (sym none_open) tt;
  as_many = ap (λ (t : Table). length t) none_open;
  open_puts = none_put;
  staged = subst (λ (l : List Listed). LookStaged known l []) (sym none_staged) tt;
  numbers = numbers;
}

-- as many events are left as the state has items
pub size_is : (settled known : Known) (p : Places) (s : State) → Looks settled known p s → length p.live ≡ length s.items
size_is settled known p s looks = left_length settled (held_in s) p.live s.items looks.left

-- a channel that is marked broken looks like the broken state
pub broken_looks : (settled known : Known) (p : Places) (s : State) → Looks settled known p s → Looks settled known (record p { numbers = record p.numbers { broken = true } }) (broken_state s)
broken_looks settled known p s looks = record {
  sound = record { base = looks.sound.base; held = looks.sound.held; opened = looks.sound.opened; staged = looks.sound.staged };
  left = looks.left;
  opened = looks.opened;
  as_many = looks.as_many;
  open_puts = looks.open_puts;
  staged = looks.staged;
  numbers = ap (λ (n : Numbers). record n { broken = true }) looks.numbers;
}
