-- How files are removed one after another, and counted.
use Rattle.std.specs.Prelude.{IfSome, is_some, IsSome, nat_lt}
use Rattle.std.proofs.Common.{◌⊎◌, inl, inr, ◌≡◌, ◌≢◌, ◌≤◌, ◌<◌, ◌+◌, ◌-◌, ◌^◌, ℕ, zero, suc, List, ◌==◌, Bool, true, false, cond, Option, Some, None, Result, refl, sym, ap, subst, ◌∙◌, arith}
use Rattle.std.proofs.lemmas.Bool.{cases_lt, ltb-true}
use Rattle.std.proofs.lemmas.Bool.Decides.{eqb_tells}
use Rattle.flume_host.specs.declared.names.FileName.{FileName}
use Rattle.flume_host.specs.declared.names.FileName.TheVariants.{Check, Log}
use Rattle.flume_host.specs.declared.names.Failed.{Failed}
use Rattle.flume_host.specs.Folder.{Files, IsAbove, IsImage, IsNext, name_below, same_name}
use Rattle.flume_host.specs.Told.{Leads, On, Remove, Tells, Told, WhereTold, file_after}
use Rattle.flume_host.proofs.OneFile.{all_done, spared, with_at_self}
use Rattle.flume_host.proofs.Telling.{back, follows, forth, tells_more, tells_same}
use Rattle.checkpoint_pruning.specs.Pruning.{IsBeforeCheck, IsBeforeLog, IsFrom, IsNextOf, KeepsFrom, checks_in, count_below, logs_in}
use Rattle.checkpoint_pruning.proofs.Keeping.{keeps_less, keeps_on, keeps_start, keeps_then}

-- A kind of files: the name of each number, and the least numbers of both kinds from which files are kept, where those of this kind are kept from a number on.
pub record Kind : Type 0 where
  pub name : ℕ → FileName
  pub logs : ℕ → ℕ
  pub checks : ℕ → ℕ

abbrev pub checks_kind : Kind
checks_kind = record { name = Check; logs = λ n. 0; checks = λ n. n }

abbrev pub logs_kind : Kind
logs_kind = record { name = Log; logs = λ n. n; checks = λ n. 0 }

-- files of a kind are kept from a number on, and all others
abbrev pub Keeps : Kind → ℕ → Told → Told → Type 0
Keeps kind n t u = KeepsFrom (kind.logs n) (kind.checks n) t u

-- whether there is a file of the kind
abbrev pub there : Kind → Files → ℕ → Bool
there kind files n = is_some (files (kind.name n))

-- Files of a kind below a number are gone, and were counted.
pub record RemovedTo (kind : Kind) (was told : Option Told) (faulty faults bound count : ℕ) : Type 0 where
  pub kept : Tells was told (Keeps kind bound)
  pub well : faults ≡ faulty
  pub gone : WhereTold told (λ t. (n : ℕ) → n < bound → t.reads (kind.name n) ≡ None)
  pub counted : WhereTold was (λ t. count ≡ count_below (there kind t.reads) bound)
  pub few : count ≤ bound

-- What is known of a kind: its files are kept from a number on, they are apart, and fewer are kept from a greater number on.
pub record IsKind (kind : Kind) : Type 0 where
  pub from : (n k : ℕ) → k ≤ n → IsFrom (kind.logs k) (kind.checks k) (kind.name n)
  pub not_from : (n : ℕ) → IsFrom (kind.logs (n + 1)) (kind.checks (n + 1)) (kind.name n) → ⊥
  pub apart : (n m : ℕ) → n ≢ m → same_name (kind.name n) (kind.name m) ≡ false
  pub logs_rise : (a b : ℕ) → a ≤ b → kind.logs a ≤ kind.logs b
  pub checks_rise : (a b : ℕ) → a ≤ b → kind.checks a ≤ kind.checks b

apart_numbers : (n m : ℕ) → n ≢ m → (n == m) ≡ false
apart_numbers n m ne = by (eqb_tells n m)
  where
    by : (((n == m) ≡ true) × (n ≡ m)) ⊎ (((n == m) ≡ false) × (n ≢ m)) → (n == m) ≡ false
    by (inl same) = absurd (ne same.1)
    by (inr other) = other.0

-- checkpoints are a kind of files
pub checks_are : IsKind checks_kind
checks_are = record {
  from = λ n k le. le;
  not_from = λ n from. omega (arith, from);
  apart = apart_numbers;
  logs_rise = λ a b le. omega arith;
  checks_rise = λ a b le. le;
}

-- log files are a kind of files
pub logs_are : IsKind logs_kind
logs_are = record {
  from = λ n k le. le;
  not_from = λ n from. omega (arith, from);
  apart = apart_numbers;
  logs_rise = λ a b le. le;
  checks_rise = λ a b le. omega arith;
}

-- before the first
pub removed_none : (kind : Kind) (told : Option Told) (faults : ℕ) → RemovedTo kind told told faults faults 0 0
removed_none kind told faults = record {
  kept = tells_same told (Keeps kind 0) (λ t is. keeps_start (kind.logs 0) (kind.checks 0) t);
  well = refl;
  gone = λ t is n less. absurd (omega (arith, less));
  counted = λ t is. refl;
  few = omega arith;
}

-- numbers of which none passes are not counted
none_counted : (passes : ℕ → Bool) (low high : ℕ) → low ≤ high → ((n : ℕ) → low ≤ n → n < high → passes n ≡ false) → count_below passes high ≡ count_below passes low
none_counted passes low zero le none = ap (count_below passes) (let e : zero ≡ low = omega (arith, le) in e)
none_counted passes low (suc high) le none = by (cases_lt low (suc high)) (λ le'. none_counted passes low high le' (λ n above below. none n above (omega (arith, below))))
  where
    nothing : (n : ℕ) → 0 + n ≡ n
    nothing n = omega arith

    by : ((low < suc high) ⊎ (suc high ≤ low)) → (low ≤ high → count_below passes high ≡ count_below passes low) → count_below passes (suc high) ≡ count_below passes low
    by (inl less) rest = ap (λ (b : Bool). cond b 1 0 + count_below passes high) (none high (omega (arith, less)) (omega arith)) ∙ (nothing (count_below passes high) ∙ rest (omega (arith, less)))
    by (inr same) rest = ap (count_below passes) (let e : suc high ≡ low = omega (arith, le, same) in e)

one_counted : (passes : ℕ → Bool) (n : ℕ) → passes n ≡ true → count_below passes (n + 1) ≡ count_below passes n + 1
one_counted passes n is = by (n + 1) (let e : n + 1 ≡ suc n = omega arith in e)
  where
    turned : (k : ℕ) → 1 + k ≡ k + 1
    turned k = omega arith

    by : (k : ℕ) → k ≡ suc n → count_below passes k ≡ count_below passes n + 1
    by k same = ap (count_below passes) same ∙ (ap (λ (b : Bool). cond b 1 0 + count_below passes n) is ∙ turned (count_below passes n))

none_is : (file : Option (List ℕ)) → file ≡ None → is_some file ≡ false
none_is file is = ap (λ (o : Option (List ℕ)). is_some o) is

-- one more of the kind went
pub removed_more : (kind : Kind) → IsKind kind → (was mid told : Option Told) (faulty faults later bound count number : ℕ) (result : Result (Unit {0}) Failed) → RemovedTo kind was mid faulty faults bound count → bound ≤ number
    → WhereTold mid (λ t. IsSome (t.reads (kind.name number)) × ((n : ℕ) → bound ≤ n → n < number → t.reads (kind.name n) ≡ None)) → WhereTold mid (λ t. IsImage t.now t.reads)
    → result ≡ all_done → Tells mid told (Leads (On (kind.name number) Remove) result) → later ≡ faults → RemovedTo kind was told faulty later (number + 1) (count + 1)
removed_more kind is was mid told faulty faults later bound count number result so_far above next image done leads well = record {
  kept = follows was mid told (Keeps kind bound) (Leads (On (kind.name number) Remove) result) (Keeps kind (number + 1)) (λ t u v t_is u_is v_is keeps lead. keeps_on _ _ (kind.name number) result t u v (is.not_from number) (image u u_is)
      (keeps_less _ _ _ _ (is.logs_rise bound (number + 1) (omega (arith, above))) (is.checks_rise bound (number + 1) (omega (arith, above))) t u keeps) lead) so_far.kept leads;
  well = well ∙ so_far.well;
  gone = λ v v_is n less. let b = back mid told (Leads (On (kind.name number) Remove) result) leads v v_is in gone_at v b.0 b.1 b.2 n less (eqb_tells n number);
  counted = λ t t_is. let f = forth was mid (Keeps kind bound) so_far.kept t t_is in counted_at t f.0 t_is f.1 f.2;
  few = omega (arith, so_far.few, above);
}
  where
    gone_at : (v u : Told) → mid ≡ Some u → Leads (On (kind.name number) Remove) result u v → (n : ℕ) → n < number + 1 → (((n == number) ≡ true) × (n ≡ number)) ⊎ (((n == number) ≡ false) × (n ≢ number)) → v.reads (kind.name n) ≡ None
    gone_at v u u_is lead n less (inl same) =
        subst (λ (k : ℕ). v.reads (kind.name k) ≡ None) (sym same.1)
        (removed (subst (λ (r : Result (Unit {0}) Failed). Leads (On (kind.name number) Remove) r u v) done lead))
      where
        removed : Leads (On (kind.name number) Remove) all_done u v → v.reads (kind.name number) ≡ None
        removed l = ap (λ (w : Told). w.reads (kind.name number)) l.ok ∙ with_at_self u.reads (kind.name number) (file_after Remove (u.reads (kind.name number)))
    gone_at v u u_is lead n less (inr other) = (spared Remove result u v (kind.name number) lead (kind.name n) (is.apart n number other.1)).1 ∙ before (cases_lt n bound)
      where
        before : ((n < bound) ⊎ (bound ≤ n)) → u.reads (kind.name n) ≡ None
        before (inl below) = so_far.gone u u_is n below
        before (inr not_below) = (next u u_is).1 n not_below (omega (arith, less, other.1))

    counted_at : (t u : Told) → was ≡ Some t → mid ≡ Some u → Keeps kind bound t u → count + 1 ≡ count_below (there kind t.reads) (number + 1)
    counted_at t u t_is u_is keeps =
        let some : there kind t.reads number ≡ true = ap (λ (o : Option (List ℕ)). is_some o) (sym (keeps.same (kind.name number) (is.from number bound above)).1) ∙ (next u u_is).0 in
        let none : (n : ℕ) → bound ≤ n → n < number → there kind t.reads n ≡ false =
        λ n low high. none_is (t.reads (kind.name n)) (sym (keeps.same (kind.name n) (is.from n bound low)).1 ∙ (next u u_is).1 n low high) in
        sym (one_counted (there kind t.reads) number some ∙ ap (λ (n : ℕ). n + 1) (none_counted (there kind t.reads) bound number above none ∙ sym (so_far.counted t t_is)))

-- nothing was called since
pub removed_same : (kind : Kind) (was mid told : Option Told) (faulty faults later bound count : ℕ) → RemovedTo kind was mid faulty faults bound count → told ≡ mid → later ≡ faults → RemovedTo kind was told faulty later bound count
removed_same kind was mid told faulty faults later bound count so_far same well = record {
  kept = subst (λ (o : Option Told). Tells was o (Keeps kind bound)) (sym same) so_far.kept;
  well = well ∙ so_far.well;
  gone = λ t is. so_far.gone t (sym same ∙ is);
  counted = so_far.counted;
  few = so_far.few;
}

-- the next one is there, and none before it
pub next_there : (of : ℕ → Option (List ℕ)) (low number : ℕ) (next : Option ℕ) → next ≡ Some number → IsNextOf of low next → IsSome (of number) × ((n : ℕ) → low ≤ n → n < number → of n ≡ None)
next_there of low number next same is = let s = subst (λ (o : Option ℕ). IsNextOf of low o) same is in (s.0, s.2)

-- a removal that failed
pub removal_failed : (kind : Kind) → IsKind kind → (was mid told : Option Told) (faulty faults bound count number high : ℕ) (result : Result (Unit {0}) Failed) → RemovedTo kind was mid faulty faults bound count → bound ≤ number → number < high
    → WhereTold mid (λ t. IsImage t.now t.reads) → Tells mid told (Leads (On (kind.name number) Remove) result) → Tells was told (Keeps kind high)
removal_failed kind is was mid told faulty faults bound count number high result so_far above below image leads =
    follows was mid told (Keeps kind bound) (Leads (On (kind.name number) Remove) result) (Keeps kind high)
    (λ t u v t_is u_is v_is keeps lead. keeps_less _ _ _ _ (is.logs_rise (number + 1) high (omega (arith, below))) (is.checks_rise (number + 1) high (omega (arith, below))) t v
    (keeps_on _ _ (kind.name number) result t u v (is.not_from number) (image u u_is)
    (keeps_less _ _ _ _ (is.logs_rise bound (number + 1) (omega (arith, above))) (is.checks_rise bound (number + 1) (omega (arith, above))) t u keeps) lead))
    so_far.kept leads

-- what was kept up to here is kept to the end
pub kept_to : (kind : Kind) → IsKind kind → (was told : Option Told) (faulty faults bound count high : ℕ) → RemovedTo kind was told faulty faults bound count → bound ≤ high → Tells was told (Keeps kind high)
kept_to kind is was told faulty faults bound count high so_far le =
    tells_more was told (Keeps kind bound) (Keeps kind high) (λ t u t_is u_is keeps. keeps_less _ _ _ _ (is.logs_rise bound high le) (is.checks_rise bound high le) t u keeps) so_far.kept

-- where no file of the kind is between here and the end, all below the end are gone
pub gone_to : (kind : Kind) → IsKind kind → (was told : Option Told) (faulty faults bound count high : ℕ) → RemovedTo kind was told faulty faults bound count → WhereTold told (λ t. (n : ℕ) → bound ≤ n → n < high → t.reads (kind.name n) ≡ None)
    → WhereTold told (λ t. (n : ℕ) → n < high → t.reads (kind.name n) ≡ None)
gone_to kind is was told faulty faults bound count high so_far none = λ t t_is n less. by t t_is n less (cases_lt n bound)
  where
    by : (t : Told) → told ≡ Some t → (n : ℕ) → n < high → ((n < bound) ⊎ (bound ≤ n)) → t.reads (kind.name n) ≡ None
    by t t_is n less (inl below) = so_far.gone t t_is n below
    by t t_is n less (inr above) = none t t_is n above less

-- and all of them were counted
pub counted_to : (kind : Kind) → IsKind kind → (was told : Option Told) (faulty faults bound count high : ℕ) → RemovedTo kind was told faulty faults bound count → bound ≤ high → WhereTold told (λ t. (n : ℕ) → bound ≤ n → n < high → t.reads (kind.name n) ≡ None)
    → WhereTold was (λ t. count ≡ count_below (there kind t.reads) high)
counted_to kind is was told faulty faults bound count high so_far le none = λ t t_is. let f = forth was told (Keeps kind bound) so_far.kept t t_is in at t f.0 t_is f.1 f.2
  where
    at : (t u : Told) → was ≡ Some t → told ≡ Some u → Keeps kind bound t u → count ≡ count_below (there kind t.reads) high
    at t u t_is u_is keeps =
        so_far.counted t t_is ∙ sym (none_counted (there kind t.reads) bound high le (λ n low less. none_is (t.reads (kind.name n)) (sym (keeps.same (kind.name n) (is.from n bound low)).1 ∙ none u u_is n low less)))

less_true : (a b : ℕ) → a < b → nat_lt a b ≡ true
less_true a b less = grind (arith)

-- a log file above the last one that may be there
no_log_above : (m : ℕ) → m < 2 ^ 32 → nat_lt 4_294_967_295 m ≡ true → ⊥
no_log_above m low above = omega (arith, low, ltb-true 4_294_967_295 m above)

above_before : (name : FileName) (low n : ℕ) → IsBeforeCheck name low → low ≤ n → IsAbove (Some name) (Check n)
above_before name low n (inl is) le = subst (λ (a : FileName). name_below a (Check n) ≡ true) (sym is.0) refl
above_before name low n (inr is) le = subst (λ (a : FileName). name_below a (Check n) ≡ true) (sym is.0) (less_true (low - 1) n (omega (arith, le, is.1)))

-- a checkpoint above that name
pub check_above : (name : FileName) (low n : ℕ) → IsBeforeCheck name low → IsAbove (Some name) (Check n) → low ≤ n
check_above name low n (inl is) above = omega (arith, is.1)
check_above name low n (inr is) above = omega (arith, ltb-true (low - 1) n (subst (λ (a : FileName). name_below a (Check n) ≡ true) is.0 above), is.1)

-- the next name is that of the next checkpoint
pub next_check_is : (files : Files) (name : FileName) (low number : ℕ) → IsBeforeCheck name low → IsNext files (Some name) (Some (Check number)) → IsNextOf (λ n. files (Check n)) low (Some number)
next_check_is files name low number before next = (next.0, check_above name low number before next.1, λ n le less. next.2 (Check n) (above_before name low n before le) (less_true n number less))

-- or there is none
pub no_check_is : (files : Files) (name : FileName) (low : ℕ) → IsBeforeCheck name low → IsNext files (Some name) None → IsNextOf (λ n. files (Check n)) low None
no_check_is files name low before none = λ n le. none (Check n) (above_before name low n before le)

-- no log file comes after
pub no_log_is : (name : FileName) (low m : ℕ) → IsBeforeCheck name low → m < 2 ^ 32 → IsAbove (Some name) (Log m) → ⊥
no_log_is name low m (inl is) small above = no_log_above m small (subst (λ (a : FileName). name_below a (Log m) ≡ true) is.0 above)
no_log_is name low m (inr is) small above = check_first (low - 1) m (subst (λ (a : FileName). name_below a (Log m) ≡ true) is.0 above)
  where
    check_first : (a b : ℕ) → name_below (Check a) (Log b) ≡ true → ⊥
    check_first a b is' = cc

above_log : (after : Option FileName) (low n : ℕ) → IsBeforeLog after low → low ≤ n → IsAbove after (Log n)
above_log after low n (inl is) le = subst (λ (a : Option FileName). IsAbove a (Log n)) (sym is.0) tt
above_log after low n (inr is) le = subst (λ (a : Option FileName). IsAbove a (Log n)) (sym is.0) (less_true (low - 1) n (omega (arith, le, is.1)))

-- a log file above that name
pub log_above : (after : Option FileName) (low n : ℕ) → IsBeforeLog after low → IsAbove after (Log n) → low ≤ n
log_above after low n (inl is) above = omega (arith, is.1)
log_above after low n (inr is) above = omega (arith, ltb-true (low - 1) n (subst (λ (a : Option FileName). IsAbove a (Log n)) is.0 above), is.1)

-- the next name is that of the next log file
pub next_log_is : (files : Files) (after : Option FileName) (low number : ℕ) → IsBeforeLog after low → IsNext files after (Some (Log number)) → IsNextOf (λ n. files (Log n)) low (Some number)
next_log_is files after low number before next = (next.0, log_above after low number before next.1, λ n le less. next.2 (Log n) (above_log after low n before le) (less_true n number less))

-- or there is none
pub no_log_next : (files : Files) (after : Option FileName) (low : ℕ) → IsBeforeLog after low → IsNext files after None → IsNextOf (λ n. files (Log n)) low None
no_log_next files after low before none = λ n le. none (Log n) (above_log after low n before le)

-- as all log files come before checkpoints
pub check_behind : (files : Files) (after : Option FileName) (low number : ℕ) → IsBeforeLog after low → IsNext files after (Some (Check number)) → IsNextOf (λ n. files (Log n)) low None
check_behind files after low number before next = λ n le. next.2 (Log n) (above_log after low n before le) refl

-- between the low one and the end there is none
pub none_to : (files : ℕ → Option (List ℕ)) (low high : ℕ) (next : Option ℕ) → IsNextOf files low next → ((number : ℕ) → next ≡ Some number → high ≤ number) → (n : ℕ) → low ≤ n → n < high → files n ≡ None
none_to files low high None none past n le less = none n le
none_to files low high (Some number) is past n le less = is.2 n le (omega (arith, less, past number refl))

-- what keeps files from some numbers on keeps them from greater ones on
pub weaker : (a b c d : ℕ) → a ≤ c → b ≤ d → (o n : Option Told) → Tells o n (KeepsFrom a b) → Tells o n (KeepsFrom c d)
weaker a b c d le le' o n keeps = tells_more o n (KeepsFrom a b) (KeepsFrom c d) (λ t u t_is u_is k. keeps_less a b c d le le' t u k) keeps

-- checkpoints went, and then log files
pub both_kept : (least laid : ℕ) (o m n : Option Told) → Tells o m (KeepsFrom 0 laid) → Tells m n (KeepsFrom least 0) → Tells o n (KeepsFrom least laid)
both_kept least laid o m n one two =
    follows o m n (KeepsFrom 0 laid) (KeepsFrom least 0) (KeepsFrom least laid)
    (λ t u v t_is u_is v_is k l. keeps_then least laid t u v (keeps_less 0 laid least laid (omega arith) (omega arith) t u k) (keeps_less least 0 least laid (omega arith) (omega arith) u v l)) one two

count_same : (p q : ℕ → Bool) (n : ℕ) → ((k : ℕ) → p k ≡ q k) → count_below p n ≡ count_below q n
count_same p q zero same = refl
count_same p q (suc n) same = ap (λ (b : Bool). cond b 1 0 + count_below p n) (same n) ∙ ap (λ (k : ℕ). cond (q n) 1 0 + k) (count_same p q n same)

-- and both are counted as they were before
pub both_counted : (least laid checks logs : ℕ) (o m : Option Told) → Tells o m (KeepsFrom 0 laid) → WhereTold o (λ t. checks ≡ count_below (checks_in t.reads) laid) → WhereTold m (λ t. logs ≡ count_below (logs_in t.reads) least)
    → WhereTold o (λ t. checks + logs ≡ count_below (checks_in t.reads) laid + count_below (logs_in t.reads) least)
both_counted least laid checks logs o m keeps one two = λ t is.
    let f = forth o m (KeepsFrom 0 laid) keeps t is in
    let logs_are : count_below (logs_in f.0.reads) least ≡ count_below (logs_in t.reads) least =
    count_same (logs_in f.0.reads) (logs_in t.reads) least (λ n. ap (λ (file : Option (List ℕ)). is_some file) (f.2.same (Log n) (omega arith)).1) in
    omega (arith, one t is, two f.0 f.1, logs_are)

-- what was kept is still kept when a call that changes nothing failed
pub kept_since : (kind : Kind) → IsKind kind → (was mid told : Option Told) (faulty faults bound count high : ℕ) → RemovedTo kind was mid faulty faults bound count → told ≡ mid → bound ≤ high → Tells was told (Keeps kind high)
kept_since kind is was mid told faulty faults bound count high so_far same le = subst (λ (o : Option Told). Tells was o (Keeps kind high)) (sym same) (kept_to kind is was mid faulty faults bound count high so_far le)

-- the next number is not below the low one
pub low_number : (low number : ℕ) (next : Option ℕ) → next ≡ Some number → IfSome next (λ n. low ≤ n) → low ≤ number
low_number low number next same above = subst (λ (o : Option ℕ). IfSome o (λ n. low ≤ n)) same above

-- it is past the end
pub next_past : (high found : ℕ) (next : Option ℕ) → next ≡ Some found → high ≤ found → (number : ℕ) → next ≡ Some number → high ≤ number
next_past high found next same past number is = let e : found ≡ number = some_number found number (sym same ∙ is) in omega (arith, e, past)
  where
    some_number : (a b : ℕ) → Some a ≡ Some b → a ≡ b
    some_number a b is' = cc

-- or there is none
pub next_none : (high : ℕ) (next : Option ℕ) → next ≡ None → (number : ℕ) → next ≡ Some number → high ≤ number
next_none high next none number is = absurd (no number (sym none ∙ is))
  where
    no : (n : ℕ) → None ≡ Some n → ⊥
    no n is' = cc
