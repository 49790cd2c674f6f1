-- A channel that is opened anew.
use Rattle.std.proofs.Common.{◌⊎◌, inl, inr, ◌≡◌, ◌<◌, ◌≤◌, ◌-◌, ◌^◌, ◌++◌, ◌∷◌, [], ℕ, List, length, length-append, take, Option, Some, None, Result, Ok, Err, Bool, true, false, cond, ◌==◌, refl, sym, ◌∙◌, ap, subst, arith}
use Rattle.std.specs.Prelude.{OnOk}
use Rattle.std.proofs.lemmas.Bool.Decides.{nat_tests}
use Rattle.std.proofs.lemmas.List.{take_all}
use Rattle.flume_host.specs.Causes.{Rose}
use Rattle.flume_host.specs.Folder.{Files, same_name}
use Rattle.flume_host.specs.Told.{LeavesOnly, Tells, Told, WhereTold, moment_of}
use Rattle.flume_host.specs.declared.names.FileName.TheVariants.{Log}
use Rattle.flume_host.proofs.Telling.{forth}
use Rattle.event_core.specs.Journal.{Base, IsBase, IsJournal, after_journal, is_among, left, numbered, put_events, taken_numbers}
use Rattle.event_core.specs.declared.journal.Entry.{Entry}
use Rattle.event_core.specs.declared.journal.Entry.TheVariants.{Puts, Takes}
use Rattle.event_ring.specs.Slots.{Left}
use Rattle.channel_log.specs.Writer.{IsBlank, Writer}
use Rattle.open_table.specs.Tables.{Listed}
use Rattle.channel_face.specs.Counters.{counted}
use Rattle.channel_face.specs.History.{AddsOne, Moves, Step, opening, state_after}
use Rattle.channel_face.specs.Machine.{Admits, Front, Kept, MayKeep, Read, Reopen, Reopened, State, after, after_reopen, base_of, broken_state, entries, is_some_of, kept_base}
use Rattle.channel_face.specs.declared.replies.Counter.TheVariants.{Life}
use Rattle.channel_face.specs.declared.replies.OpenCause.{OpenCause}
use Rattle.channel_face.specs.declared.replies.OpenCause.TheVariants as causes
use Rattle.channel_face.proofs.Adding.{state-push}
use Rattle.channel_face.proofs.LawLemmas.{after_none}
use Rattle.channel_face.specs.Sound.{Items, number_of, one_if, times}
use Rattle.channel_face.proofs.Numbers.{among_times, distinct_times, number_of-without, rising_base, same_number, times-append}
use Rattle.channel_places.specs.Looks.{IsSound, Known, LookLeft, LookStaged, Looks, Numbers, Places, held_in, numbers_of}
use Rattle.checkpoint_opening.specs.Laws.{AreBounded}
use Rattle.checkpoint_opening.proofs.Once.{recovers_to_once}
use Rattle.channel_writing.specs.Folders.{IsAsBefore, IsOfFile, Opens, OpensOver, OpensTo}
use Rattle.channel_writing.specs.Stands.{Seen, StandsIn, is_fault}
use Rattle.channel_writing.specs.Touches.{Rests}
use Rattle.channel_writing.specs.Waiting.{waiting_after}
use Rattle.channel_writing.specs.Written.{MayRecover, MayRest}
use Rattle.channel_writing.proofs.Opening.{ReadsAreLeft, as_before_opens, opens_to}
use Rattle.channel_writing.proofs.Reopening.{opens_leaves, refused_moves, renewal, renewed_fresh, renewed_whole, rests_still, spent_moves, whole_may_rest}
use Rattle.channel_writing.proofs.Standing.{DidReopen, adds_reopen, stands_as}
use Rattle.channel_writing.proofs.Whole.{failed_whole, rests_over, whole_rests}
use Rattle.ring_replay.specs.declared.folder.Replayed.{Replayed}
use Rattle.file_channel.specs.Opened.{IsBegunAs}
use Rattle.file_channel.specs.Placed.{HasState, IsStateOf, Logged}
use Rattle.file_channel.specs.Stands.{FileState, StandsOver}
use Rattle.file_channel.specs.Stepped.{ShowsOf, Steps, StepsOn}
use Rattle.file_channel.proofs.Owning.{own_none}

-- whatever events look like a ring, they have its numbers
same_numbers : (known other : Known) (held also : List ℕ) (live : List Left) (a b : Items) (n : ℕ) → LookLeft known held live a → LookLeft other also live b → number_of n a ≡ number_of n b
same_numbers known other held also [] [] [] n look looked = refl
same_numbers known other held also [] (x ∷ a) b n look looked = absurd look
same_numbers known other held also [] [] (y ∷ b) n look looked = absurd looked
same_numbers known other held also (l ∷ live) [] b n look looked = absurd look
same_numbers known other held also (l ∷ live) (x ∷ a) [] n look looked = absurd looked
same_numbers known other held also (l ∷ live) (x ∷ a) (y ∷ b) n look looked =
    let same : x.0 ≡ y.0 = sym look.0.0 ∙ looked.0.0 in
    omega (arith, ap (λ (k : ℕ). one_if (k == n)) same, same_numbers known other held also live a b n look.1 looked.1)

same_length : (known : Known) (listed : List Listed) (staged : List Entry) → LookStaged known listed staged → length staged ≡ length listed
same_length known [] [] look = refl
same_length known [] (e ∷ staged) look = absurd look
same_length known (l ∷ listed) [] look = absurd look
same_length known (l ∷ listed) (e ∷ staged) look = omega (arith, same_length known listed staged look.1)

-- what is staged has puts or takes
nothing_staged : (staged : List Entry) → IsJournal staged → length (put_events staged) ≡ 0 → taken_numbers staged ≡ [] → staged ≡ []
nothing_staged [] is puts takes = refl
nothing_staged (Puts events ∷ staged) is puts takes = absurd (omega (arith, is.0, puts, length-append events (put_events staged)))
nothing_staged (Takes numbers ∷ staged) is puts takes = absurd (omega (arith, is.0, ap (λ (l : List ℕ). length l) takes, length-append numbers (taken_numbers staged)))

-- where as many of each number are left as there were, nothing was taken
none_taken : (s : State) (items : Items) → IsSound s → left (base_of s) s.staged ≡ items → ((n : ℕ) → number_of n items ≡ number_of n s.items) → taken_numbers s.staged ≡ []
none_taken s items sound is same = by_list (taken_numbers s.staged) refl
  where
    by_list : (xs : List ℕ) → taken_numbers s.staged ≡ xs → taken_numbers s.staged ≡ []
    by_list [] taken = taken
    by_list (m ∷ xs) taken = absurd (from (among_times m (taken_numbers s.staged)))
      where
        some : 1 ≤ times m (taken_numbers s.staged)
        some = omega (arith, ap (λ (l : List ℕ). times m l) taken, same_number m m refl)

        there : 1 ≤ number_of m s.items
        there = omega (arith, some, distinct_times (held_in s) 0 s.items s.first (rising_base (base_of s) sound.base) sound.held m, times-append m (taken_numbers (entries s.opened)) (taken_numbers s.staged))

        gone : is_among (taken_numbers s.staged) m ≡ true → number_of m items ≡ 0
        gone among =
            ap (λ (l : Items). number_of m l) (sym is)
            ∙ (number_of-without m (taken_numbers s.staged) (s.items ++ numbered s.first (put_events s.staged))
            ∙ ap (λ (b : Bool). cond b 0 (number_of m (s.items ++ numbered s.first (put_events s.staged)))) among)

        from : ((is_among (taken_numbers s.staged) m ≡ true) × (1 ≤ times m (taken_numbers s.staged))) ⊎ ((is_among (taken_numbers s.staged) m ≡ false) × (times m (taken_numbers s.staged) ≡ 0)) → ⊥
        from (inl among) = omega (arith, gone among.0, same m, there)
        from (inr isnt) = omega (arith, some, isnt.1)

-- so many of the staged entries are kept, whatever state the places look like
abbrev KeepsSo : Base → ℕ → State → Type 0
KeepsSo base k s = (k ≤ length s.staged) × (kept_base s (Front k) ≡ base)

-- what was found is what was settled, or that with what was staged
abbrev Either : Base → State → Type 0
Either base s = (base ≡ base_of s) ⊎ (base ≡ after_journal (base_of s) s.staged)

take_none : (l : List Entry) → take 0 l ≡ []
take_none [] = refl
take_none (e ∷ l) = refl

keeps_none : (base : Base) (s : State) → base ≡ base_of s → KeepsSo base 0 s
keeps_none base s is = (omega arith, ap (λ (l : List Entry). after_journal (base_of s) l) (take_none s.staged) ∙ (after_none (base_of s) ∙ sym is))

keeps_all : (base : Base) (s : State) (k : ℕ) → length s.staged ≡ k → base ≡ after_journal (base_of s) s.staged → KeepsSo base k s
keeps_all base s k long is = (omega (arith, long), ap (λ (l : List Entry). after_journal (base_of s) l) (take_all k s.staged (omega (arith, long))) ∙ sym is)

-- where the numbers are those before, nothing was staged
none_was_staged : (s : State) (base : Base) → IsSound s → base ≡ after_journal (base_of s) s.staged → base.first ≡ s.first → ((n : ℕ) → number_of n base.items ≡ number_of n s.items) → s.staged ≡ []
none_was_staged s base sound is first same =
    nothing_staged s.staged sound.staged
    (omega (arith, ap (λ (b : Base). b.first) is, first))
    (none_taken s base.items sound (ap (λ (b : Base). b.items) (sym is)) same)

same_first : (settled known left other : Known) (p : Places) (s v : State) → Looks settled known p s → Looks left other p v → s.first ≡ v.first
same_first settled known left other p s v looks look = ap (λ (n : Numbers). n.first) (sym looks.numbers ∙ look.numbers)

-- One and the same count of staged entries was kept in each state that the places look like.
chosen : (settled known : Known) (p : Places) (s : State) (base : Base) → Looks settled known p s → Either base s → (k : ℕ) × ((left other : Known) (v : State) → Looks left other p v → Either base v → KeepsSo base k v)
chosen settled known p s base looks (inl is) = (0, λ left other v look either. from left other v look either)
  where
    from : (left other : Known) (v : State) → Looks left other p v → Either base v → KeepsSo base 0 v
    from left other v look (inl same) = keeps_none base v same
    from left other v look (inr all) =
        let first : base.first ≡ v.first = ap (λ (b : Base). b.first) is ∙ same_first settled known left other p s v looks look in
        let none : v.staged ≡ [] = none_was_staged v base look.sound all first (λ n. ap (λ (b : Base). number_of n b.items) is ∙ same_numbers settled left (held_in s) (held_in v) p.live s.items v.items n looks.left look.left) in
        keeps_none base v (all ∙ (ap (λ (l : List Entry). after_journal (base_of v) l) none ∙ after_none (base_of v)))
chosen settled known p s base looks (inr is) = (length s.staged, λ left other v look either. from left other v look either)
  where
    long : (left other : Known) (v : State) → Looks left other p v → length v.staged ≡ length s.staged
    long left other v look = same_length other p.staged v.staged look.staged ∙ sym (same_length known p.staged s.staged looks.staged)

    from : (left other : Known) (v : State) → Looks left other p v → Either base v → KeepsSo base (length s.staged) v
    from left other v look (inr same) = keeps_all base v (length s.staged) (long left other v look) same
    from left other v look (inl first_is) =
        let first : base.first ≡ s.first = ap (λ (b : Base). b.first) first_is ∙ same_first left other settled known p v s look looks in
        let none : s.staged ≡ [] = none_was_staged s base looks.sound is first (λ n. ap (λ (b : Base). number_of n b.items) first_is ∙ same_numbers left settled (held_in v) (held_in s) p.live v.items s.items n look.left looks.left) in
        subst (λ (k : ℕ). KeepsSo base k v) (sym (ap (λ (l : List Entry). length l) none)) (keeps_none base v first_is)

-- what a folder leaves that was settled so, or so with what was staged
either_found : (told : Option Told) (t : Told) (s : State) (base : Base) (txn capacity : ℕ) → told ≡ Some t → MayRest told s → ReadsAreLeft told → AreBounded t.reads → Opens t.reads capacity base txn → Either base s
either_found told t s base txn capacity is rests reads bounded opens = from (rests t is t.reads (reads t is))
  where
    one : (other : Base) (n : ℕ) → OpensTo t.reads other n → base ≡ other
    one other n found = (recovers_to_once t.reads base other txn n bounded opens.recovers found.0 opens.fits.0 found.1.0 opens.fits.1 found.1.1).0

    from : MayRecover s t.reads → Either base s
    from (n, low, inl found) = inl (one (base_of s) n found)
    from (n, low, inr found) = inr (one (after_journal (base_of s) s.staged) n found)

-- the machine's step

-- A channel's places as they are renewed.
abbrev Renews : Logged → Places → Replayed → Type 0
Renews old p r = (left before settled known : Known) (s : State) (k : Reopened) → Looks left before old.places s → k.txn ≡ r.next.txn → (kept_base s k.kept).first ≡ r.next.number → LookLeft settled [] r.ring.live (kept_base s k.kept).items → IsBase (kept_base s k.kept) → Looks settled known p (after_reopen s (Ok k))

renews : (told told' : Option Told) (old : Logged) (p : Places) (w : Writer) (r : Replayed) (capacity most : ℕ) (kept : Kept) (s : State) → IsStateOf told old s → old.places.numbers.life < 2 ^ 64 - 1 → most ≡ old.places.numbers.rules.limits.max_file → (b : IsBegunAs told told' capacity most r w) → length w.bytes ≡ 0
    → Renews old p r → p.opened ≡ [] → MayKeep (is_some_of told) s kept → kept_base s kept ≡ b.base → Steps told told' old (record { places = p; log = w; busy = 0 }) (Reopen (Ok (record { kept = kept; txn = r.next.txn }))) s
renews told told' old p w r capacity most kept s is life limit b empty renew none may same =
    let k : Reopened = record { kept = kept; txn = r.next.txn } in
    let s' : State = after_reopen s (Ok k) in
    let as_read : s' ≡ after_reopen s (Ok (renewal b.base r.next.txn)) = ap (λ (x : Base). after_reopen s (Ok (renewal x r.next.txn))) same in
    let of_s : old.places.numbers ≡ numbers_of s = is.looks.numbers in
    record {
      admitted = ((omega (arith, life, ap (λ (n : Numbers). n.life) of_s), may), is.whole.kind);
      stands = record {
        settled = b.known;
        known = b.known;
        looks = renew is.settled is.known b.known b.known s k is.looks refl (ap (λ (x : Base). x.first) same ∙ b.first) (subst (λ (x : Base). LookLeft b.known [] r.ring.live x.items) (sym same) b.left) (subst IsBase (sym same) b.rises);
        placed = λ _. b.placed;
        owned = λ _. own_none told' w p.opened none;
        whole = renewed_whole told' w 0 s s' b.base r.next.txn as_read is.whole.kind b.rises (b.logged s' (renewed_fresh s s' b.base r.next.txn as_read) (sym (limit ∙ ap (λ (n : Numbers). n.rules.limits.max_file) of_s)));
      };
      waits = empty;
    }

-- What was kept, with the next transaction number of what was replayed: one and the same in each state that the channel stood for.
pub reopened : (told told' : Option Told) (old : Logged) (p : Places) (w : Writer) (r : Replayed) (capacity most : ℕ) → HasState told old → ReadsAreLeft told → old.places.numbers.life < 2 ^ 64 - 1 → most ≡ old.places.numbers.rules.limits.max_file → IsBegunAs told told' capacity most r w → length w.bytes ≡ 0 → Renews old p r → p.opened ≡ []
    → (kept : Kept) × StepsOn told told' old (record { places = p; log = w; busy = 0 }) (Reopen (Ok (record { kept = kept; txn = r.next.txn })))
reopened told told' old p w r capacity most has reads life limit b empty renew none = from told refl
  where
    new : Logged
    new = record { places = p; log = w; busy = 0 }

    from : (o : Option Told) → told ≡ o → (kept : Kept) × StepsOn told told' old new (Reopen (Ok (record { kept = kept; txn = r.next.txn })))
    from None is = (Read b.base, λ s state. renews told told' old p w r capacity most (Read b.base) s state life limit b empty renew none (ap is_some_of is, b.rises) refl)
    from (Some t) is =
        let found : (v : State) → IsStateOf told old v → Either b.base v = λ v state. either_found told t v b.base r.next.txn capacity is (whole_may_rest told old.log old.busy v state.whole) reads (b.bounded t is) (b.opens t is) in
        let choice = chosen has.1.settled has.1.known old.places has.0 b.base has.1.looks (found has.0 has.1) in (
          Front choice.0,
          λ s state.
              let keeps = choice.1 state.settled state.known s state.looks (found s state) in
              renews told told' old p w r capacity most (Front choice.0) s state life limit b empty renew none keeps.0 keeps.1,
        )

-- a refusal

-- what a crash may leave of a channel's log
log_rests : (told : Option Told) (c : Logged) (s : State) → IsStateOf told c s → MayRest told s
log_rests told c s is = whole_may_rest told c.log c.busy s is.whole

-- while a call leaves the disk alone, and while a folder is opened
pub leaves_still : (told : Option Told) (c : Logged) → ShowsOf told c (λ s. Tells told told (λ t u. LeavesOnly t u (MayRecover s)))
leaves_still told c s is = rests_still told s (log_rests told c s is)

-- while a folder is opened, a crash leaves what may be recovered
pub leaves_over : (told told' : Option Told) (c : Logged) → ReadsAreLeft told → Tells told told' OpensOver → ShowsOf told c (λ s. Tells told told' (λ t u. LeavesOnly t u (MayRecover s)))
leaves_over told told' c reads over s is = opens_leaves told told' s (log_rests told c s is) reads over

-- places that were broken look like the broken state
abbrev pub Breaks : Logged → Places → Type 0
Breaks old p = (settled known : Known) (s : State) → Looks settled known old.places s → Looks settled known p (broken_state s)

refused : (told told' : Option Told) (old : Logged) (p : Places) (e : OpenCause) (s : State) → IsStateOf told old s → Breaks old p → MayRest told' s → Admits (is_some_of told) s (Reopen (Err e)) → Steps told told' old (record old { places = p }) (Reopen (Err e)) s
refused told told' old p e s is breaks rests may = record {
  admitted = may;
  stands = record {
    settled = is.settled;
    known = is.known;
    looks = breaks is.settled is.known s is.looks;
    placed = λ still. absurd (cc);
    owned = λ still. absurd (cc);
    whole = failed_whole told' old.log old.busy s rests is.whole.sound is.whole.kind;
  };
  waits = refl;
}

life_of : (told : Option Told) (c : Logged) (s : State) → IsStateOf told c s → c.places.numbers.life ≡ s.life
life_of told c s is = ap (λ (n : Numbers). n.life) is.looks.numbers

-- the places hold the state's limit of events
pub limit_of : (told : Option Told) (c : Logged) (s : State) → IsStateOf told c s → c.places.numbers.rules.limits.capacity ≡ s.rules.limits.capacity
limit_of told c s is = ap (λ (n : Numbers). n.rules.limits.capacity) is.looks.numbers

-- a reopening that a folder refused leaves the channel broken
pub refused_anew : (told told' : Option Told) (old : Logged) (p : Places) (e : OpenCause) → ReadsAreLeft told → old.places.numbers.life < 2 ^ 64 - 1 → IsOfFile e → Tells told told' OpensOver → Breaks old p → StepsOn told told' old (record old { places = p }) (Reopen (Err e))
refused_anew told told' old p e reads life counter over breaks s is =
    let lives : s.life < 2 ^ 64 - 1 = omega (arith, life, life_of told old s is) in
    refused told told' old p e s is breaks (rests_over told told' s (leaves_over told told' old reads over s is)) (refused_moves (is_some_of told) s (broken_state s) e lives is.whole.kind counter refl).1.admitted

-- when out of memory, before the folder was touched
pub refused_early : (told : Option Told) (old : Logged) (p : Places) → old.places.numbers.life < 2 ^ 64 - 1 → Breaks old p → StepsOn told told old (record old { places = p }) (Reopen (Err causes.NoMemory))
refused_early told old p life breaks s is =
    let lives : s.life < 2 ^ 64 - 1 = omega (arith, life, life_of told old s is) in
    refused told told old p causes.NoMemory s is breaks (log_rests told old s is) (refused_moves (is_some_of told) s (broken_state s) causes.NoMemory lives is.whole.kind tt refl).1.admitted

-- where no life is left
pub spent_anew : (told : Option Told) (old : Logged) (p : Places) → old.places.numbers.life ≡ 2 ^ 64 - 1 → Breaks old p → StepsOn told told old (record old { places = p }) (Reopen (Err (causes.Spent Life)))
spent_anew told old p life breaks s is =
    refused told told old p (causes.Spent Life) s is breaks (log_rests told old s is) (spent_moves (is_some_of told) s (broken_state s) (sym (life_of told old s is) ∙ life) is.whole.kind refl).1.admitted

-- a life is left
pub not_spent : (told : Option Told) (old : Logged) → old.places.numbers.life < 2 ^ 64 - 1 → ShowsOf told old (λ s. 2 ^ 64 - 1 ≤ s.life → ⊥)
not_spent told old life s is most = absurd (omega (arith, life, life_of told old s is, most))

same_number_is : (a b : ℕ) → (a == b) ≡ true → a ≡ b
same_number_is a b same = grind (arith, nat_tests)

-- numbers fit their fields in what an opening left of a folder, as they did in it
as_before_bounded : (files folder : Files) → IsAsBefore files folder → AreBounded files → AreBounded folder
as_before_bounded files folder (inl same) bounded n bytes is = bounded n bytes (sym (same (Log n)) ∙ is)
as_before_bounded files folder (inr gains) bounded n bytes is = by_name (same_name (Log n) (Log gains.number)) refl
  where
    short : (file : Option (List ℕ)) → IsBlank file → file ≡ Some bytes → length bytes ≤ 17
    short file blank same = subst (λ (f : Option (List ℕ)). IsBlank f) same blank

    by_name : (b : Bool) → same_name (Log n) (Log gains.number) ≡ b → (n < 2 ^ 32) × (length bytes < 2 ^ 64)
    by_name false differs = bounded n bytes (sym (gains.others (Log n) differs) ∙ is)
    by_name true same =
        let number : n ≡ gains.number = same_number_is n gains.number same in
        (omega (arith, number, gains.next.small), omega (arith, short (folder (Log gains.number)) gains.last (ap (λ (k : ℕ). folder (Log k)) (sym number) ∙ is)))

-- the folder opened to what the channel has then
pub opens_anew : (told told' : Option Told) (new : Logged) (r : Replayed) (capacity most : ℕ) → IsBegunAs told told' capacity most r new.log → ReadsAreLeft told' → Tells told told' (λ t u. IsAsBefore t.reads u.reads) → (was : State) → IsStateOf told' new was → was.broken ≡ false → was.txn ≡ r.next.txn → was.rules.limits.capacity ≡ capacity
    → ShowsOf told' new (λ s. WhereTold told (λ t. Opens t.reads s.rules.limits.capacity (base_of s) s.txn))
opens_anew told told' new r capacity most b reads stays was stands whole txn limit s is t told_is =
    let numbers : numbers_of was ≡ numbers_of s = sym stands.looks.numbers ∙ is.looks.numbers in
    let f = forth told told' (λ x y. IsAsBefore x.reads y.reads) stays t told_is in
    let rests : Rests told' s = whole_rests told' new.log new.busy s is.whole in
    let still : s.broken ≡ false = ap (λ (n : Numbers). n.broken) (sym numbers) ∙ whole in
    let here = rests still f.0 f.1 f.0.reads (reads f.0 f.1) in
    let opens : Opens t.reads capacity b.base r.next.txn = b.opens t told_is in
    let there : OpensTo f.0.reads b.base r.next.txn = as_before_opens t.reads f.0.reads b.base r.next.txn f.2 (opens_to t.reads capacity b.base r.next.txn opens) in
    let bounded : AreBounded f.0.reads = as_before_bounded t.reads f.0.reads f.2 (b.bounded t told_is) in
    let base : b.base ≡ base_of s = (recovers_to_once f.0.reads b.base (base_of s) r.next.txn here.0 bounded there.0 here.2.0 there.1.0 here.2.1.0 there.1.1 here.2.1.1).0 in
    let last : r.next.txn ≡ s.txn = sym txn ∙ ap (λ (n : Numbers). n.txn) numbers in
    let cap : capacity ≡ s.rules.limits.capacity = sym limit ∙ ap (λ (n : Numbers). n.rules.limits.capacity) numbers in
    subst (λ (n : ℕ). Opens t.reads n (base_of s) s.txn) cap
    (subst (λ (x : Base). Opens t.reads capacity x s.txn) base (subst (λ (n : ℕ). Opens t.reads capacity b.base n) last opens))

-- the channel

-- What a reopening of the channel did in a state, and what the disk told and counted.
pub record DidReopenIn (told told' : Option Told) (f f' : ℕ) (old new : FileState) (reply : Result Reopened OpenCause) (s : State) : Type 0 where
  pub steps : Steps told told' old.logged new.logged (Reopen reply) s
  pub tally : new.tally ≡ counted s (Reopen reply) old.tally
  pub waits : new.waiting ≡ waiting_after s (Reopen reply) old.waiting
  pub up : f ≤ f'
  pub cause : is_fault (Reopen reply) ≡ true → Rose f f'
  pub still : is_fault (Reopen reply) ≡ false → f' ≡ f
  pub spent : 2 ^ 64 - 1 ≤ s.life → told' ≡ told
  pub images : Tells told told' (λ t u. LeavesOnly t u (MayRecover s))

abbrev seen_in : FileState → State → Seen
seen_in c s = record { state = s; tally = c.tally; waiting = c.waiting }

-- a reopening adds itself to what the channel stands for
pub adds_reopened : (told told' : Option Told) (f f' : ℕ) (old new : FileState) (reply : Result Reopened OpenCause) → ((s : State) → IsStateOf told old.logged s → DidReopenIn told told' f f' old new reply s) → AddsOne (StandsOver told f old) (StandsOver told' f' new) (Reopen reply) (moment_of told')
adds_reopened told told' f f' old new reply each start h pass stands =
    let s : State = state_after (opening start) h in
    let did = each s stands.state in
    let s' : State = after s (Reopen reply) in
    let step : Step = record { pass = pass; call = Reopen reply; moment = moment_of told' } in
    let moves : Moves (is_some_of told) s (Reopen reply) s' = record { admitted = did.steps.admitted; state = refl } in
    let rests : Rests told' s' = whole_rests told' new.logged.log new.logged.busy s' did.steps.stands.whole in
    let does : DidReopen told told' f f' (seen_in old s) reply (seen_in new s') = record {
      moves = moves;
      tally = did.tally;
      waits = did.waits;
      up = did.up;
      cause = did.cause;
      still = did.still;
      spent = did.spent;
      images = did.images;
      rests = rests;
    } in
    let before : StandsIn told f (seen_in old s) start h = stands_as (IsStateOf told old.logged) (λ v. v ≡ s) told f old.tally old.waiting start h refl stands in
    let longer : StandsIn told' f' (seen_in new s') start (h ++ step ∷ []) = adds_reopen told told' told f f' f (seen_in old s) (seen_in new s') (seen_in old s) reply refl refl refl does start h pass before in
    let same : s' ≡ state_after (opening start) (h ++ step ∷ []) = sym (state-push (opening start) h step) in
    stands_as (λ v. v ≡ s') (IsStateOf told' new.logged) told' f' new.tally new.waiting start (h ++ step ∷ []) (subst (λ (v : State). IsStateOf told' new.logged v) same did.steps.stands) longer

-- what follows of an answer that is Ok, for a reopening
pub ok_each : (r : Result (Unit {0}) OpenCause) (A B : Type 0) → (A → B) → OnOk r A → OnOk r B
ok_each (Ok done) A B maps is = maps is
ok_each (Err e) A B maps is = tt
