-- What a reader of bytes finds of a PUT that stands at a pointer.
use Rattle.std.proofs.Common.{◌≡◌, ◌≤◌, ◌<◌, ◌+◌, ◌++◌, ◌∷◌, ℕ, zero, suc, List, [], length, take, drop, length-append, append_assoc, refl, sym, ap, subst, ◌∙◌, arith}
use Rattle.std.proofs.lemmas.List.{drop_at, length-drop, length-take, take-append-drop, take_at}
use Rattle.event_core.specs.Content.{Content, size}
use Rattle.record_form.specs.declared.record.Pointer.{Pointer}
use Rattle.record_form.specs.declared.record.Rec.{Rec}
use Rattle.record_form.specs.declared.record.Rec.TheVariants.{Put}
use Rattle.record_form.specs.declared.record.Read.{Read}
use Rattle.record_form.specs.declared.record.Read.TheVariants.{Whole}
use Rattle.record_form.specs.Grammar.{Complete, Outcome, as_read, outcome_of, read_of}
use Rattle.record_form.specs.Pointers.{PutAt}
use Rattle.record_form.specs.Record.{Spells, record_length, spelling}
use Rattle.record_form.proofs.Again.{length-spelling, record-again}

-- a front of a front
pub take_take : (n m : ℕ) (xs : List ℕ) → n ≤ m → take n (take m xs) ≡ take n xs
take_take zero m xs less = refl
take_take (suc n) zero xs less = absurd (omega (arith, less))
take_take (suc n) (suc m) [] less = refl
take_take (suc n) (suc m) (x ∷ xs) less = ap (λ (l : List ℕ). x ∷ l) (take_take n m xs (omega (arith, less)))

-- the same place, once all before it is dropped
abbrev pub front : Pointer → Pointer
front p = record { file = p.file; at = 0; length = p.length }

-- how long it is spelled
pub spelled_length : (part : List ℕ) (p : Pointer) (event : Content) → (at : PutAt part p event) → length (spelling (Put at.txn event)) ≡ p.length + 13
spelled_length part p event at = omega (arith, length-spelling (Put at.txn event), at.long)

-- and all of it stands in the bytes
pub within : (part : List ℕ) (p : Pointer) (event : Content) → PutAt part p event → p.at + (p.length + 13) ≤ length part
within part p event at =
    omega (
      arith,
      ap (λ (l : List ℕ). length l) at.split,
      length-append at.before (spelling (Put at.txn event) ++ at.behind),
      length-append (spelling (Put at.txn event)) at.behind,
      spelled_length part p event at,
      at.place,
    )

-- what stands at a pointer is read there
pub put_read : (bytes : List ℕ) (p : Pointer) (event : Content) → PutAt bytes p event → (txn : ℕ) × (outcome_of (drop p.at bytes) ≡ Complete (Put txn event) (p.length + 13))
put_read bytes p event at = (
  at.txn,
  ap (λ (l : List ℕ). outcome_of (drop p.at l)) at.split
      ∙ (ap outcome_of (drop_at at.before (spelling (Put at.txn event) ++ at.behind) p.at at.place)
      ∙ (record-again (Put at.txn event) at.behind at.fields at.limits
      ∙ ap (λ (n : ℕ). Complete (Put at.txn event) (n + 13)) at.long)),
)

-- what a front of bytes is read as
pub front_outcome : (bytes : List ℕ) (p : Pointer) (event : Content) → PutAt bytes p event → p.at ≡ 0 → (txn : ℕ) × (outcome_of bytes ≡ Complete (Put txn event) (p.length + 13))
front_outcome bytes p event at begins =
    let r = put_read bytes p event at in
    (r.0, ap (λ (n : ℕ). outcome_of (drop n bytes)) (sym begins) ∙ r.1)

whole_read : (bytes : List ℕ) (txn : ℕ) (event : Content) (n : ℕ) → outcome_of bytes ≡ Complete (Put txn event) n → read_of bytes ≡ Whole 1 n
whole_read bytes txn event n is = ap (λ (o : Outcome). as_read o) is

-- a PUT that a front of the bytes spells stands there, as a record of its transaction
pub put_here : (bytes : List ℕ) (rec : Rec) (txn : ℕ) (event : Content) (p : Pointer) → Spells (take (record_length rec) bytes) rec → rec ≡ Put txn event → p.at ≡ 0 → size event ≡ p.length
    → (at : PutAt bytes p event) × (at.txn ≡ txn)
put_here bytes rec txn event p spells is begins long =
    let s : Spells (take (record_length (Put txn event)) bytes) (Put txn event) = subst (λ (r : Rec). Spells (take (record_length r) bytes) r) is spells in
    let n : ℕ = record_length (Put txn event) in (
      record {
        txn = txn;
        before = [];
        behind = drop n bytes;
        split = sym (take-append-drop n bytes) ∙ ap (λ (l : List ℕ). l ++ drop n bytes) s.is;
        place = sym begins;
        long = long;
        fields = s.fields;
        limits = s.limits;
      },
      refl,
    )

-- another record than a PUT of an event of the pointer's length is no PUT of one that stands there
pub no_put : (bytes : List ℕ) (rec : Rec) (p : Pointer) (event : Content) → outcome_of bytes ≡ Complete rec (record_length rec) → ((txn : ℕ) (e : Content) → rec ≡ Put txn e → size e ≡ p.length → ⊥) → p.at ≡ 0 → PutAt bytes p event → ⊥
no_put bytes rec p event read none begins at =
    let o = front_outcome bytes p event at begins in
    none o.0 event (same_rec _ rec o.0 event _ _ read o.1) at.long
  where
    same_rec : (o : Outcome) (r : Rec) (t : ℕ) (e : Content) (m n : ℕ) → o ≡ Complete r m → o ≡ Complete (Put t e) n → r ≡ Put t e
    same_rec o r t e m n one two = cc

-- where no record is whole, none stands
none_whole : (bytes : List ℕ) (p : Pointer) (event : Content) → p.at ≡ 0 → PutAt bytes p event → (n : ℕ) × (read_of bytes ≡ Whole 1 n)
none_whole bytes p event begins at =
    let o = front_outcome bytes p event at begins in
    (_, whole_read bytes o.0 event _ o.1)

-- nor where a reader finds none
pub none_unread : (bytes : List ℕ) (read : Read) → read ≡ read_of bytes → ((kind n : ℕ) → read ≡ Whole kind n → ⊥) → (p : Pointer) → p.at ≡ 0 → (event : Content) → PutAt bytes p event → ⊥
none_unread bytes read is none p begins event at = none _ _ (is ∙ (none_whole bytes p event begins at).1)

no_before : (l : List ℕ) → length l ≡ 0 → l ≡ []
no_before [] is = refl
no_before (x ∷ l) is = absurd (omega (arith, is))

-- what stands at the front of a piece of the bytes stands in these
pub put_back : (bytes : List ℕ) (n : ℕ) (p : Pointer) (event : Content) → (at : PutAt (take n (drop p.at bytes)) (front p) event) → (here : PutAt bytes p event) × (here.txn ≡ at.txn)
put_back bytes n p event at =
    let spelt : List ℕ = spelling (Put at.txn event) in
    let none : at.before ≡ [] = no_before at.before at.place in
    let here : take n (drop p.at bytes) ≡ spelt ++ at.behind = at.split ∙ ap (λ (l : List ℕ). l ++ (spelt ++ at.behind)) none in
    let some : p.at ≤ length bytes = omega (arith, ap (λ (l : List ℕ). length l) here, length-append spelt at.behind, length-spelling (Put at.txn event), length-take n (drop p.at bytes), length-drop p.at bytes) in (
      record {
        txn = at.txn;
        before = take p.at bytes;
        behind = at.behind ++ drop n (drop p.at bytes);
        split = sym (take-append-drop p.at bytes)
            ∙ ap (λ (l : List ℕ). take p.at bytes ++ l) (sym (take-append-drop n (drop p.at bytes)) ∙ (ap (λ (l : List ℕ). l ++ drop n (drop p.at bytes)) here ∙ append_assoc spelt at.behind (drop n (drop p.at bytes))));
        place = length-take p.at bytes ∙ omega (arith, some);
        long = at.long;
        fields = at.fields;
        limits = at.limits;
      },
      refl,
    )

-- a piece that is as long as a PUT has it
pub seen_long : (bytes piece : List ℕ) (m : ℕ) (p : Pointer) (event : Content) → piece ≡ take m (drop p.at bytes) → p.length + 13 ≤ m → PutAt bytes p event → PutAt piece (front p) event
seen_long bytes piece m p event is room at =
    let want : ℕ = p.length + 13 in
    let spelt : List ℕ = spelling (Put at.txn event) in
    let here : drop p.at bytes ≡ spelt ++ at.behind = ap (λ (l : List ℕ). drop p.at l) at.split ∙ drop_at at.before (spelt ++ at.behind) p.at at.place in
    let first : take want piece ≡ spelt =
    ap (λ (l : List ℕ). take want l) is ∙ (take_take want m (drop p.at bytes) room ∙ (ap (λ (l : List ℕ). take want l) here ∙ take_at spelt at.behind want (spelled_length bytes p event at))) in
    record {
      txn = at.txn;
      before = [];
      behind = drop want piece;
      split = sym (take-append-drop want piece) ∙ ap (λ (l : List ℕ). l ++ drop want piece) first;
      place = refl;
      long = at.long;
      fields = at.fields;
      limits = at.limits;
    }

-- what stands at a pointer stands at the front of what is left from its place on
pub put_dropped : (bytes : List ℕ) (p : Pointer) (event : Content) → PutAt bytes p event → PutAt (drop p.at bytes) (front p) event
put_dropped bytes p event at = record {
  txn = at.txn;
  before = [];
  behind = at.behind;
  split = ap (λ (l : List ℕ). drop p.at l) at.split ∙ drop_at at.before (spelling (Put at.txn event) ++ at.behind) p.at at.place;
  place = refl;
  long = at.long;
  fields = at.fields;
  limits = at.limits;
}
