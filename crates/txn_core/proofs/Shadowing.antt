-- Copies of what is open and staged stay those of the state.
use Rattle.std.proofs.Common.{◌≡◌, ◌≤◌, ◌+◌, ◌++◌, ◌∷◌, [], ℕ, List, length, Option, Some, None, Bool, true, false, ◌==◌, cond, refl, sym, ◌∙◌, ap, arith, length-append}
use Rattle.std.proofs.lemmas.List.{append-nil, drop-append-le}
use Rattle.event_core.specs.Content.{Content}
use Rattle.event_core.specs.declared.journal.Entry.{Entry}
use Rattle.event_core.specs.declared.journal.Entry.TheVariants.{Puts, Takes}
use Rattle.channel_face.specs.Machine.{State, Call, entry_of, without_entry, stage, put_refusal}
use Rattle.channel_face.specs.History.{kept_by}
use Rattle.txn_core.specs.Counted.{Makes}
use Rattle.txn_core.specs.Shadow.{Journaled, Journals, IsShadow, staged_more}

abbrev pub Opened : Type 0
Opened = List (ℕ × Entry)

one_kept : (b : Bool) (o : ℕ × Entry) (xs ys : Opened) → b ≡ false → ys ≡ xs → (cond b xs (o ∷ ys)) ≡ o ∷ xs
one_kept b o xs ys differs is = rw differs (ap (λ (l : Opened). o ∷ l) is)

none_first : (b : Bool) (e : Entry) (rest : Option Entry) → cond b (Some e) rest ≡ None → (b ≡ false) × (rest ≡ None)
none_first true e rest is = absurd (cc)
none_first false e rest is = (refl, is)

-- without a transaction that is not open the list stays
pub none_without : (number : ℕ) (opened : Opened) → entry_of number opened ≡ None → without_entry number opened ≡ opened
none_without number [] none = refl
none_without number (o ∷ opened) none =
    let no = none_first (o.0 == number) o.1 (entry_of number opened) none in
    one_kept (o.0 == number) o opened (without_entry number opened) no.0 (none_without number opened no.1)

more_length : (entry : Option Entry) → length (staged_more entry) ≤ 1
more_length None = omega arith
more_length (Some (Puts [])) = omega arith
more_length (Some (Takes [])) = omega arith
more_length (Some (Puts (e ∷ events))) = omega arith
more_length (Some (Takes (n ∷ numbers))) = omega arith

moved_step : (b : Bool) (o : ℕ × Entry) (opened rest : Opened) (entry : Option Entry) → length rest + length (staged_more entry) ≤ length opened
    → length (cond b opened (o ∷ rest)) + length (staged_more (cond b (Some o.1) entry)) ≤ length (o ∷ opened)
moved_step true o opened rest entry le = omega (arith, more_length (Some o.1))
moved_step false o opened rest entry le = omega (arith, le)

moved_length : (number : ℕ) (opened : Opened) → length (without_entry number opened) + length (staged_more (entry_of number opened)) ≤ length opened
moved_length number [] = omega arith
moved_length number (o ∷ opened) = moved_step (o.0 == number) o opened (without_entry number opened) (entry_of number opened) (moved_length number opened)

-- a call that settles nothing leaves the journal
pub quiet_call : (old new : Journaled) (call : Call) → Makes old.counted call new.counted → new.journal ≡ old.journal → kept_by old.counted.state call ≡ [] → Journals old call new
quiet_call old new call makes same none = record { makes = makes; journal = same ∙ (sym (append-nil old.journal) ∙ ap (λ (l : List Entry). old.journal ++ l) (sym none)) }

-- the copies stay those of the state where a transaction is closed in both
pub shadow_closed : (s s' : State) (copies copies' : Opened) (all : List Entry) (settled room number : ℕ) → IsShadow s copies all settled room → copies' ≡ without_entry number copies → s'.opened ≡ without_entry number s.opened → s'.staged ≡ s.staged → IsShadow s' copies' all settled room
shadow_closed s s' copies copies' all settled room number shadow ended opened staged =
    let fewer = moved_length number copies in
    rw ended (record {
      opened = ap (λ (l : Opened). without_entry number l) shadow.opened ∙ sym opened;
      staged = shadow.staged ∙ sym staged;
      within = shadow.within;
      fits = omega (arith, shadow.fits, fewer);
      few = omega (arith, shadow.few, fewer);
    })

staged_so : (s : State) (number : ℕ) (entry : Option Entry) → entry_of number s.opened ≡ entry → stage number entry s ≡ record s { opened = without_entry number s.opened; staged = s.staged ++ staged_more entry }
staged_so s number None is = rw (none_without number s.opened is, append-nil s.staged) refl
staged_so s number (Some (Puts [])) is = rw (append-nil s.staged) refl
staged_so s number (Some (Takes [])) is = rw (append-nil s.staged) refl
staged_so s number (Some (Puts (e ∷ events))) is = refl
staged_so s number (Some (Takes (n ∷ numbers))) is = refl

-- the copies stay those of the state where a transaction is staged in both
pub shadow_staged : (s s' : State) (copies copies' : Opened) (all all' : List Entry) (settled room room' number : ℕ) → IsShadow s copies all settled room → copies' ≡ without_entry number copies → all' ≡ all ++ staged_more (entry_of number copies) → room ≤ room'
    → s' ≡ stage number (entry_of number s.opened) s → IsShadow s' copies' all' settled room'
shadow_staged s s' copies copies' all all' settled room room' number shadow ended added more is =
    let entry : Option Entry = entry_of number s.opened in
    let same : entry_of number copies ≡ entry = ap (λ (l : Opened). entry_of number l) shadow.opened in
    let new : s' ≡ record s { opened = without_entry number s.opened; staged = s.staged ++ staged_more entry } = is ∙ staged_so s number entry refl in
    let fewer = moved_length number copies in
    let longer : length (all ++ staged_more (entry_of number copies)) ≡ length all + length (staged_more (entry_of number copies)) = length-append all (staged_more (entry_of number copies)) in
    rw (new, ended, added) (record {
      opened = ap (λ (l : Opened). without_entry number l) shadow.opened;
      staged = drop-append-le settled all (staged_more (entry_of number copies)) shadow.within ∙ (ap (λ (l : List Entry). l ++ staged_more (entry_of number copies)) shadow.staged ∙ ap (λ (e : Option Entry). s.staged ++ staged_more e) same);
      within = omega (arith, shadow.within, longer);
      fits = omega (arith, shadow.fits, fewer, longer, more);
      few = omega (arith, shadow.few, fewer);
    })

-- where a put is not refused, the transaction is one of puts
pub put_allowed : (s : State) (puts : Option (List Content)) (event : Content) → put_refusal s puts event ≡ None → (events : List Content) × (puts ≡ Some events)
put_allowed s None event allowed = absurd (cc)
put_allowed s (Some events) event allowed = (events, refl)
