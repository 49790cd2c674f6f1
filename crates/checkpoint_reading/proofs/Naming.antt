-- What a pointer names.
use Rattle.std.specs.Prelude.{◌↔◌, IfSome, IsSome, IsSomeAnd, true, false}
use Rattle.std.proofs.Common.{◌⊎◌, inl, inr, ◌≡◌, ◌≢◌, ◌≤◌, ◌<◌, ◌+◌, ◌++◌, ◌∷◌, [], ℕ, List, take, drop, nat_lt, ◌==◌, Option, Some, None, refl, sym, ap, subst, ◌∙◌, arith}
use Rattle.std.proofs.lemmas.Bool.Decides.{eqb_tells}
use Rattle.std.proofs.lemmas.Bool.{ltb-true}
use Rattle.std.proofs.lemmas.List.{drop_at}
use Rattle.flume_host.specs.declared.names.FileName.{FileName}
use Rattle.flume_host.specs.declared.names.FileName.TheVariants.{Check, Log}
use Rattle.flume_host.specs.Folder.{Files, IsAbove, IsNext, name_below}
use Rattle.event_core.specs.Content.{Content}
use Rattle.record_form.specs.declared.record.Pointer.{Pointer}
use Rattle.record_form.specs.declared.record.Rec.{Rec}
use Rattle.record_form.specs.declared.record.Rec.TheVariants.{Put}
use Rattle.record_form.specs.Grammar.{Complete, outcome_of}
use Rattle.record_form.specs.Record.{Spells, record_length, spelling}
use Rattle.record_form.proofs.Again.{one-spelling}
use Rattle.record_form.proofs.Pointed.{front, no_put, put_back, put_here, seen_long}
use Rattle.record_form.specs.Pointers.{PutAt}
use Rattle.checkpoint_reading.specs.Logs.{IsBefore, IsPutAt, IsPutIn, IsPutRec, IsSized}

less_true : (a b : ℕ) → a < b → nat_lt a b ≡ true
less_true a b less = grind (arith)

above_before : (after : Option FileName) (file : ℕ) → IsBefore after file → IsAbove after (Log file)
above_before None file is = tt
above_before (Some name) file is = subst (λ (n : FileName). name_below n (Log file) ≡ true) (sym is.1) (less_true is.0 file (omega (arith, is.2)))

not_below : (after : Option FileName) (file found : ℕ) → IsBefore after file → IsAbove after (Log found) → file ≤ found
not_below None file found is above = omega (arith, is)
not_below (Some name) file found is above =
    let less : nat_lt is.0 found ≡ true = subst (λ (n : FileName). name_below n (Log found) ≡ true) is.1 above in
    omega (arith, ltb-true is.0 found less, is.2)

none_there : {A : Type 0} (o : Option A) → o ≡ None → IsSome o → ⊥
none_there None is some = absurd (cc)
none_there (Some a) is some = absurd (cc)

-- whether a log file is there, by the least name that is not below it
pub log_next : (files : Files) (after : Option FileName) (file found : ℕ) → IsBefore after file → IsNext files after (Some (Log found)) → ((found == file) ≡ true) ↔ IsSome (files (Log file))
log_next files after file found before next = at (eqb_tells found file)
  where
    at : (((found == file) ≡ true) × (found ≡ file)) ⊎ (((found == file) ≡ false) × (found ≢ file)) → ((found == file) ≡ true) ↔ IsSome (files (Log file))
    at (inl same) = (λ yes. subst (λ (n : ℕ). IsSome (files (Log n))) same.1 next.0, λ some. same.0)
    at (inr other) =
        let more : file ≤ found = not_below after file found before next.1 in
        (λ yes. absurd (cc), λ some. absurd (none_there (files (Log file)) (next.2 (Log file) (above_before after file before) (less_true file found (omega (arith, more, other.1)))) some))

-- where a checkpoint comes next, it is not there
pub check_next : (files : Files) (after : Option FileName) (file found : ℕ) → IsBefore after file → IsNext files after (Some (Check found)) → (false ≡ true) ↔ IsSome (files (Log file))
check_next files after file found before next = (λ yes. absurd (cc), λ some. absurd (none_there (files (Log file)) (next.2 (Log file) (above_before after file before) refl) some))

-- where nothing comes next, it is not there
pub none_next : (files : Files) (after : Option FileName) (file : ℕ) → IsBefore after file → IsNext files after None → (false ≡ true) ↔ IsSome (files (Log file))
none_next files after file before next = (λ yes. absurd (cc), λ some. absurd (none_there (files (Log file)) (next (Log file) (above_before after file before)) some))

-- what a record that a front of the bytes spells says of the pointer there
pub put_rec : (bytes : List ℕ) (rec : Rec) (p : Pointer) (n : ℕ) (txn : Option ℕ) → outcome_of bytes ≡ Complete rec (record_length rec) → Spells (take (record_length rec) bytes) rec → p.at ≡ 0 → p.length ≡ n
    → IsPutRec rec n txn → IsPutAt bytes p txn
put_rec bytes rec p n None read spells zero long is = λ event at. no_put bytes rec p event read (λ t e put sized. is t e put (sized ∙ long)) zero at
put_rec bytes rec p n (Some txn) read spells zero long is = let here = put_here bytes rec txn is.0 p spells is.1 zero (is.2 ∙ sym long) in (is.0, here.0, here.1)

some_bytes : (file : Option (List ℕ)) → IsSome file → (bytes : List ℕ) × (file ≡ Some bytes)
some_bytes None some = absurd (cc)
some_bytes (Some bytes) some = (bytes, refl)

-- what a piece that is as long as the PUT has shows of the pointer
pub put_in : (files : Files) (p : Pointer) (piece : List ℕ) (txn : Option ℕ) → IsSome (files (Log p.file)) → ((bytes : List ℕ) → files (Log p.file) ≡ Some bytes → piece ≡ take (p.length + 13) (drop p.at bytes))
    → IsPutAt piece (front p) txn → IsPutIn files p txn
put_in files p piece None there read is = λ event put. from (files (Log p.file)) refl event put
  where
    from : (file : Option (List ℕ)) → files (Log p.file) ≡ file → (event : Content) → IsSomeAnd file (λ bytes. PutAt bytes p event) → ⊥
    from None same event put = absurd put
    from (Some bytes) same event put = is event (seen_long bytes piece (p.length + 13) p event (read bytes same) (omega arith) put)
put_in files p piece (Some txn) there read is =
    let some = some_bytes (files (Log p.file)) there in
    let bytes : List ℕ = some.0 in
    let cut : piece ≡ take (p.length + 13) (drop p.at bytes) = read bytes some.1 in
    let piece' : (at : PutAt (take (p.length + 13) (drop p.at bytes)) (front p) is.0) × (at.txn ≡ txn) = subst (λ (l : List ℕ). (at : PutAt l (front p) is.0) × (at.txn ≡ txn)) cut (is.1, is.2) in
    let here = put_back bytes (p.length + 13) p is.0 piece'.0 in
    (is.0, subst (λ (file : Option (List ℕ)). IsSomeAnd file (λ b. (at : PutAt b p is.0) × (at.txn ≡ txn))) (sym some.1) (here.0, here.1 ∙ piece'.1))

-- a file that is not there has nothing
pub put_nowhere : (files : Files) (p : Pointer) → (IsSome (files (Log p.file)) → ⊥) → IsPutIn files p None
put_nowhere files p none = λ event put. from event (files (Log p.file)) none put
  where
    from : (event : Content) (file : Option (List ℕ)) → (IsSome file → ⊥) → IsSomeAnd file (λ bytes. PutAt bytes p event) → ⊥
    from event None none' put = absurd put
    from event (Some bytes) none' put = none' refl

-- no PUT has so long an event
pub put_too_long : (files : Files) (p : Pointer) → 1_048_576 < p.length → IsPutIn files p None
put_too_long files p long = λ event put. from (files (Log p.file)) event put
  where
    from : (file : Option (List ℕ)) (event : Content) → IsSomeAnd file (λ bytes. PutAt bytes p event) → ⊥
    from None event put = absurd put
    from (Some bytes) event put = omega (arith, put.limits, put.long, long)

-- the PUT that was found has an event of the pointer's length
pub sized_put : (bytes : List ℕ) (p : Pointer) (txn : Option ℕ) → ((q : Pointer) → q.at ≡ 0 → q.length ≡ p.length → IsPutAt bytes q txn) → IfSome txn (λ _. IsSized p)
sized_put bytes p None is = tt
sized_put bytes p (Some txn) is = let here = is (front p) refl refl in (here.0, here.1.long)

-- one transaction has the PUT at a pointer
pub one_txn : (bytes : List ℕ) (p : Pointer) (event other : Content) → (one : PutAt bytes p event) → (two : PutAt bytes p other) → one.txn ≡ two.txn
one_txn bytes p event other one two =
    let front_one : drop p.at bytes ≡ spelling (Put one.txn event) ++ one.behind = ap (λ (l : List ℕ). drop p.at l) one.split ∙ drop_at one.before (spelling (Put one.txn event) ++ one.behind) p.at one.place in
    let front_two : drop p.at bytes ≡ spelling (Put two.txn other) ++ two.behind = ap (λ (l : List ℕ). drop p.at l) two.split ∙ drop_at two.before (spelling (Put two.txn other) ++ two.behind) p.at two.place in
    same_txn one.txn two.txn event other (one-spelling (Put one.txn event) (Put two.txn other) one.behind two.behind one.fields one.limits two.fields two.limits (sym front_one ∙ front_two))
  where
    same_txn : (t u : ℕ) (a b : Content) → Put t a ≡ Put u b → t ≡ u
    same_txn t u a b same = cc
