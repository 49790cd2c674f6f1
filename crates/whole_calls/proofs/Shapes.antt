-- What each call does to the open transactions.
use Rattle.std.proofs.Common.{◌⊎◌, inl, inr, ◌≡◌, ◌≢◌, ◌<◌, ◌+◌, ◌++◌, ◌∷◌, [], ℕ, List, Option, Some, None, Ok, Err, Bool, true, false, ◌==◌, cond, refl, sym, ◌∙◌, ap, subst, arith}
use Rattle.std.proofs.lemmas.Bool.Decides.{eqb_tells}
use Rattle.event_core.specs.Content.{Content}
use Rattle.event_core.specs.declared.journal.Entry.{Entry}
use Rattle.event_core.specs.declared.journal.Entry.TheVariants.{Puts, Takes}
use Rattle.channel_face.specs.Token.{Token}
use Rattle.channel_face.specs.Machine.{State, Call, BeginPut, BeginTake, Put, Take, StagePut, StageTake, Flush, RollbackPut, RollbackTake, Checkpoint, Prune, Reopen, Admits, after, entry_of, with_entry, without_entry, puts_of, takes_of, free, settle_if, stage, add_put, add_take}
use Rattle.channel_face.specs.declared.replies.PutRefused.TheVariants as PutNo
use Rattle.channel_face.specs.declared.replies.TakeRefused.TheVariants as TakeNo
use Rattle.channel_face.specs.declared.replies.FlushRefused.TheVariants as FlushNo
use Rattle.channel_face.specs.declared.replies.CheckRefused.TheVariants as CheckNo
use Rattle.channel_face.specs.Sound.{AreNumbered, Opened}
use Rattle.channel_face.proofs.Opened.{numbered-push, numbered-with, numbered-without, puts_of-some, takes_of-some}

-- whether an entry is of takes
abbrev pub is_takes : Entry → Bool
is_takes (Puts events) = false
is_takes (Takes numbers) = true

abbrev pub kind : Option Entry → Option Bool
kind None = None
kind (Some entry) = Some (is_takes entry)

-- the call that began a transaction of puts or of takes
abbrev pub begins : Bool → Token → Call
begins true token = BeginTake (Ok token)
begins false token = BeginPut (Ok token)

abbrev pub fresh : Bool → Entry
fresh true = Takes []
fresh false = Puts []

-- what a call that leads from one state to another does to the open transactions
pub data Shape (s : State) (call : Call) (t : State) : Type 0 where
  Same : t.life ≡ s.life → t.txn ≡ s.txn → t.opened ≡ s.opened → Shape s call t
  With : (n : ℕ) (old new : Entry) → t.life ≡ s.life → t.txn ≡ s.txn → entry_of n s.opened ≡ Some old → is_takes new ≡ is_takes old → t.opened ≡ with_entry n new s.opened → Shape s call t
  Without : (n : ℕ) → t.life ≡ s.life → t.txn ≡ s.txn → t.opened ≡ without_entry n s.opened → Shape s call t
  Began : (takes : Bool) (token : Token) → call ≡ begins takes token → token ≡ record { life = s.life; number = s.txn } → t.life ≡ s.life → t.txn ≡ s.txn + 1 → t.opened ≡ s.opened ++ (s.txn, fresh takes) ∷ [] → Shape s call t
  Renewed : t.life ≡ s.life + 1 → t.opened ≡ [] → Shape s call t

-- it leaves them as they are
abbrev SameOpen : State → State → Type 0
SameOpen s t = (t.life ≡ s.life) × (t.txn ≡ s.txn) × (t.opened ≡ s.opened)

settled : (b : Bool) (s : State) → SameOpen s (settle_if b s)
settled true s = (refl, refl, refl)
settled false s = (refl, refl, refl)

shape_put : (s u : State) (call : Call) (number : ℕ) (puts : Option (List Content)) (event : Content) → SameOpen s u → ((events : List Content) → puts ≡ Some events → entry_of number s.opened ≡ Some (Puts events)) → Shape s call (add_put u number puts event)
shape_put s u call number None event (l, t, o) found = Same l t o
shape_put s u call number (Some events) event (l, t, o) found = With number (Puts events) (Puts (events ++ event ∷ [])) l t (found events refl) refl (ap (λ (x : Opened). with_entry number (Puts (events ++ event ∷ [])) x) o)

shape_take : (s u : State) (call : Call) (number : ℕ) (takes : Option (List ℕ)) (items : List (ℕ × Content)) → SameOpen s u → ((numbers : List ℕ) → takes ≡ Some numbers → entry_of number s.opened ≡ Some (Takes numbers)) → Shape s call (add_take u number takes items)
shape_take s u call number None items (l, t, o) found = Same l t o
shape_take s u call number (Some numbers) [] (l, t, o) found = Same l t o
shape_take s u call number (Some numbers) (item ∷ items) (l, t, o) found = With number (Takes numbers) (Takes (numbers ++ item.0 ∷ [])) l t (found numbers refl) refl (ap (λ (x : Opened). with_entry number (Takes (numbers ++ item.0 ∷ [])) x) o)

shape_stage : (s : State) (call : Call) (number : ℕ) (entry : Option Entry) → Shape s call (stage number entry s)
shape_stage s call number None = Same refl refl refl
shape_stage s call number (Some (Puts [])) = Without number refl refl refl
shape_stage s call number (Some (Takes [])) = Without number refl refl refl
shape_stage s call number (Some (Puts (e ∷ events))) = Without number refl refl refl
shape_stage s call number (Some (Takes (n ∷ numbers))) = Without number refl refl refl

-- each call that the machine admits changes the open transactions in one of these ways
pub shape : (tells : Bool) (s : State) (call : Call) → Admits tells s call → Shape s call (after s call)
shape tells s (BeginPut (Ok token)) may = Began false token refl may.1 refl refl refl
shape tells s (BeginPut (Err e)) may = Same refl refl refl
shape tells s (BeginTake (Ok token)) may = Began true token refl may.1 refl refl refl
shape tells s (BeginTake (Err e)) may = Same refl refl refl
shape tells s (Put token event (Ok done)) may =
    shape_put s (settle_if done.spilled s) (Put token event (Ok done)) token.number (puts_of s token) event (settled done.spilled s) (λ events is. (puts_of-some s token events is).1)
shape tells s (Put token event (Err PutNo.DiskFault)) may = Same refl refl refl
shape tells s (Put token event (Err e)) may = Same refl refl refl
shape tells s (Take token (Ok taken)) may =
    shape_take s (settle_if taken.spilled s) (Take token (Ok taken)) token.number (takes_of s token) (free s) (settled taken.spilled s) (λ numbers is. (takes_of-some s token numbers is).1)
shape tells s (Take token (Err TakeNo.DiskFault)) may = Same refl refl refl
shape tells s (Take token (Err e)) may = Same refl refl refl
shape tells s (StagePut token (Ok given)) may = shape_stage s (StagePut token (Ok given)) token.number (entry_of token.number s.opened)
shape tells s (StagePut token (Err cause)) may = Same refl refl refl
shape tells s (StageTake token (Ok given)) may = shape_stage s (StageTake token (Ok given)) token.number (entry_of token.number s.opened)
shape tells s (StageTake token (Err cause)) may = Same refl refl refl
shape tells s (Flush (Ok done)) may = Same refl refl refl
shape tells s (Flush (Err FlushNo.Broken)) may = Same refl refl refl
shape tells s (Flush (Err FlushNo.DiskFault)) may = Same refl refl refl
shape tells s (Flush (Err (FlushNo.Spent counter))) may = Same refl refl refl
shape tells s (RollbackPut token true) may = Without token.number refl refl refl
shape tells s (RollbackPut token false) may = Same refl refl refl
shape tells s (RollbackTake token true) may = Without token.number refl refl refl
shape tells s (RollbackTake token false) may = Same refl refl refl
shape tells s (Checkpoint (Ok done)) may = Same refl refl refl
shape tells s (Checkpoint (Err CheckNo.CheckFault)) may = Same refl refl refl
shape tells s (Checkpoint (Err CheckNo.DiskFault)) may = Same refl refl refl
shape tells s (Checkpoint (Err CheckNo.Broken)) may = Same refl refl refl
shape tells s (Checkpoint (Err (CheckNo.Spent counter))) may = Same refl refl refl
shape tells s (Prune reply) may = Same refl refl refl
shape tells s (Reopen (Ok r)) may = Renewed refl refl
shape tells s (Reopen (Err e)) may = Same refl refl refl

-- no two open transactions have one number
abbrev pub Apart : Opened → Type 0
Apart [] = Unit {0}
Apart (o ∷ opened) = (entry_of o.0 opened ≡ None) × Apart opened

-- an entry changed to one of its kind leaves the kinds of all as they were
pub kind_with : (n number : ℕ) (old new : Entry) (opened : Opened) → entry_of number opened ≡ Some old → is_takes new ≡ is_takes old → kind (entry_of n (with_entry number new opened)) ≡ kind (entry_of n opened)
kind_with n number old new [] is same = refl
kind_with n number old new (o ∷ opened) is same = by_test (o.0 == number) is (λ h. kind_with n number old new opened h same)
  where
    here : (u : Bool) → o.1 ≡ old → kind (cond u (Some new) (entry_of n opened)) ≡ kind (cond u (Some o.1) (entry_of n opened))
    here true it = ap (λ (b : Bool). Some b) (same ∙ ap is_takes (sym it))
    here false it = refl

    further : (u : Bool) → kind (entry_of n (with_entry number new opened)) ≡ kind (entry_of n opened) → kind (cond u (Some o.1) (entry_of n (with_entry number new opened))) ≡ kind (cond u (Some o.1) (entry_of n opened))
    further true more = refl
    further false more = more

    some_same : (a b : Entry) → Some a ≡ Some b → a ≡ b
    some_same a b it = cc

    by_test : (t : Bool) → cond t (Some o.1) (entry_of number opened) ≡ Some old → (entry_of number opened ≡ Some old → kind (entry_of n (with_entry number new opened)) ≡ kind (entry_of n opened))
        → kind (entry_of n (cond t ((o.0, new) ∷ opened) (o ∷ with_entry number new opened))) ≡ kind (cond (o.0 == n) (Some o.1) (entry_of n opened))
    by_test true it more = here (o.0 == n) (some_same o.1 old it)
    by_test false it more = further (o.0 == n) (more it)

some_none : (b : Bool) (e e' : Option Entry) (o : Entry) → cond b (Some o) e ≡ None → (e ≡ None → e' ≡ None) → cond b (Some o) e' ≡ None
some_none true e e' o is more = absurd (cc)
some_none false e e' o is more = more is

-- a transaction that is not open is not so either once an entry was changed
pub missing_with : (n number : ℕ) (new : Entry) (opened : Opened) → entry_of n opened ≡ None → entry_of n (with_entry number new opened) ≡ None
missing_with n number new [] is = refl
missing_with n number new (o ∷ opened) is = by_test (o.0 == number) (missing_with n number new opened)
  where
    here : (u : Bool) → cond u (Some o.1) (entry_of n opened) ≡ None → cond u (Some new) (entry_of n opened) ≡ None
    here true it = absurd (cc)
    here false it = it

    by_test : (t : Bool) → (entry_of n opened ≡ None → entry_of n (with_entry number new opened) ≡ None) → entry_of n (cond t ((o.0, new) ∷ opened) (o ∷ with_entry number new opened)) ≡ None
    by_test true more = here (o.0 == n) is
    by_test false more = some_none (o.0 == n) (entry_of n opened) (entry_of n (with_entry number new opened)) o.1 is more

-- a transaction that is not open is not so either once an entry was removed
pub missing_without : (n number : ℕ) (opened : Opened) → entry_of n opened ≡ None → entry_of n (without_entry number opened) ≡ None
missing_without n number [] is = refl
missing_without n number (o ∷ opened) is = by_test (o.0 == number) (missing_without n number opened)
  where
    here : (u : Bool) → cond u (Some o.1) (entry_of n opened) ≡ None → entry_of n opened ≡ None
    here true it = absurd (cc)
    here false it = it

    by_test : (t : Bool) → (entry_of n opened ≡ None → entry_of n (without_entry number opened) ≡ None) → entry_of n (cond t opened (o ∷ without_entry number opened)) ≡ None
    by_test true more = here (o.0 == n) is
    by_test false more = some_none (o.0 == n) (entry_of n opened) (entry_of n (without_entry number opened)) o.1 is more

-- once it is removed, there is none with its number
pub without_self : (number : ℕ) (opened : Opened) → Apart opened → entry_of number (without_entry number opened) ≡ None
without_self number [] apart = refl
without_self number (o ∷ opened) apart = from (eqb_tells o.0 number) (without_self number opened apart.1)
  where
    from : ((o.0 == number) ≡ true) × (o.0 ≡ number) ⊎ ((o.0 == number) ≡ false) × (o.0 ≢ number) → entry_of number (without_entry number opened) ≡ None → entry_of number (cond (o.0 == number) opened (o ∷ without_entry number opened)) ≡ None
    from (inl is) more = rw is.0 (subst (λ (k : ℕ). entry_of k opened ≡ None) is.1 apart.0)
    from (inr isnt) more = rw (isnt.0, isnt.0) more

-- what is there once one was removed was there before
pub kind_without : (b : Bool) (n number : ℕ) (opened : Opened) → Apart opened → kind (entry_of n (without_entry number opened)) ≡ Some b → kind (entry_of n opened) ≡ Some b
kind_without b n number [] apart is = is
kind_without b n number (o ∷ opened) apart is = from (eqb_tells o.0 number) (kind_without b n number opened apart.1)
  where
    none_some : None ≡ Some b → ⊥
    none_some h = cc

    here : ((o.0 == n) ≡ true) × (o.0 ≡ n) ⊎ ((o.0 == n) ≡ false) × (o.0 ≢ n) → kind (entry_of n opened) ≡ Some b → kind (cond (o.0 == n) (Some o.1) (entry_of n opened)) ≡ Some b
    here (inl same) found = absurd (none_some (ap kind (sym (subst (λ (k : ℕ). entry_of k opened ≡ None) same.1 apart.0)) ∙ found))
    here (inr other) found = rw other.0 found

    further : (u : Bool) → (kind (entry_of n (without_entry number opened)) ≡ Some b → kind (entry_of n opened) ≡ Some b) → kind (cond u (Some o.1) (entry_of n (without_entry number opened))) ≡ Some b → kind (cond u (Some o.1) (entry_of n opened)) ≡ Some b
    further true more found = found
    further false more found = more found

    from : ((o.0 == number) ≡ true) × (o.0 ≡ number) ⊎ ((o.0 == number) ≡ false) × (o.0 ≢ number) → (kind (entry_of n (without_entry number opened)) ≡ Some b → kind (entry_of n opened) ≡ Some b) → kind (cond (o.0 == n) (Some o.1) (entry_of n opened)) ≡ Some b
    from (inl same) more = here (eqb_tells o.0 n) (rw same.0 at is)
    from (inr other) more = further (o.0 == n) more (rw other.0 at is)

-- a transaction that is begun changes no other
pub entry_other : (n txn : ℕ) (entry : Entry) (opened : Opened) → txn ≢ n → entry_of n (opened ++ (txn, entry) ∷ []) ≡ entry_of n opened
entry_other n txn entry [] differ = from (eqb_tells txn n)
  where
    from : ((txn == n) ≡ true) × (txn ≡ n) ⊎ ((txn == n) ≡ false) × (txn ≢ n) → cond (txn == n) (Some entry) None ≡ None
    from (inl same) = absurd (differ same.1)
    from (inr other) = rw other.0 refl
entry_other n txn entry (o ∷ opened) differ = by_test (o.0 == n) (entry_other n txn entry opened differ)
  where
    by_test : (t : Bool) → entry_of n (opened ++ (txn, entry) ∷ []) ≡ entry_of n opened → cond t (Some o.1) (entry_of n (opened ++ (txn, entry) ∷ [])) ≡ cond t (Some o.1) (entry_of n opened)
    by_test true more = refl
    by_test false more = more

-- its number is above all
pub entry_push : (n txn : ℕ) (entry : Entry) (opened : Opened) → n < txn → entry_of n (opened ++ (txn, entry) ∷ []) ≡ entry_of n opened
entry_push n txn entry opened below = entry_other n txn entry opened (λ same. omega (arith, below, same))

apart_with : (number : ℕ) (new : Entry) (opened : Opened) → Apart opened → Apart (with_entry number new opened)
apart_with number new [] apart = tt
apart_with number new (o ∷ opened) apart = by_test (o.0 == number) (apart_with number new opened apart.1)
  where
    by_test : (t : Bool) → Apart (with_entry number new opened) → Apart (cond t ((o.0, new) ∷ opened) (o ∷ with_entry number new opened))
    by_test true more = (apart.0, apart.1)
    by_test false more = (missing_with o.0 number new opened apart.0, more)

apart_without : (number : ℕ) (opened : Opened) → Apart opened → Apart (without_entry number opened)
apart_without number [] apart = tt
apart_without number (o ∷ opened) apart = by_test (o.0 == number) (apart_without number opened apart.1)
  where
    by_test : (t : Bool) → Apart (without_entry number opened) → Apart (cond t opened (o ∷ without_entry number opened))
    by_test true more = apart.1
    by_test false more = (missing_without o.0 number opened apart.0, more)

apart_push : (txn : ℕ) (entry : Entry) (opened : Opened) → AreNumbered txn opened → Apart opened → Apart (opened ++ (txn, entry) ∷ [])
apart_push txn entry [] all apart = (refl, tt)
apart_push txn entry (o ∷ opened) all apart = (entry_push o.0 txn entry opened all.0 ∙ apart.0, apart_push txn entry opened all.1 apart.1)

-- open transactions have earlier numbers, each its own
abbrev pub InOrder : ℕ → Opened → Type 0
InOrder txn opened = AreNumbered txn opened × Apart opened

abbrev pub Kept : State → Type 0
Kept s = InOrder s.txn s.opened

as_kept : (t : State) (txn : ℕ) (opened : Opened) → t.txn ≡ txn → t.opened ≡ opened → InOrder txn opened → Kept t
as_kept t txn opened n o kept = subst (λ (x : ℕ × Opened). InOrder x.0 x.1) (λ i. (sym n i, sym o i)) kept

-- a call leaves open transactions in order, each with its own earlier number
pub kept_after : (s : State) (call : Call) (t : State) → Shape s call t → Kept s → Kept t
kept_after s call t (Same l n o) kept = as_kept t s.txn s.opened n o kept
kept_after s call t (With number old new l n is same o) kept = as_kept t s.txn (with_entry number new s.opened) n o (numbered-with s.txn number new s.opened kept.0, apart_with number new s.opened kept.1)
kept_after s call t (Without number l n o) kept = as_kept t s.txn (without_entry number s.opened) n o (numbered-without s.txn number s.opened kept.0, apart_without number s.opened kept.1)
kept_after s call t (Began takes token is own l n o) kept = as_kept t (s.txn + 1) (s.opened ++ (s.txn, fresh takes) ∷ []) n o (numbered-push s.txn (fresh takes) s.opened kept.0, apart_push s.txn (fresh takes) s.opened kept.0 kept.1)
kept_after s call t (Renewed l o) kept = as_kept t t.txn [] refl o (tt, tt)
