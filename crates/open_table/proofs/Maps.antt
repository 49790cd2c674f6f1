-- The table of a map, and after a change of the map.
use Rattle.std.proofs.Common.{◌≡◌, ℕ, List, [], ◌∷◌, Option, None, Some, IsSome, is_some, Bool, true, false, Result, Ok, Err, OnOk, OnErr, BTreeMap, nat_cmp, refl, sym, ap, ◌∙◌, subst}
use Rattle.std.specs.Option.{option_map}
use Rattle.std.specs.BTreeMap.{WritesThrough, Updates, get_by}
use Rattle.std.specs.BTreeMap.Range.{IsRangeOf}
use Rattle.std.specs.declared.ops.Bound.TheVariants.{Unbounded}
use Rattle.event_core.specs.declared.refused.NoMemory.{NoMemory}
use Rattle.open_table.specs.Tables.{Listed, Open, Table, HasAt, IsNext, begun, open_at}
use Rattle.open_table.proofs.Orders.{apart, start_of, inside, above, at_most}

-- what the map has at the number
pub found : (m : BTreeMap ℕ Open) (old : Table) (txn : ℕ) (o : Option Open) → m.entries ≡ old → get_by (nat_cmp txn) m ≡ o → open_at old txn ≡ o
found m old txn o same is = ap (λ (t : Table). open_at t txn) (sym same) ∙ is

-- the map was given something at this number, or nothing
pub updated : (txn : ℕ) (here : Option Open) (m n : BTreeMap ℕ Open) (old : Table) → m.entries ≡ old → Updates nat_cmp m n txn here → HasAt txn here old n.entries
updated txn here m n old same updates = record {
  here_is = updates.1;
  others = λ other ne. updates.2 other (apart txn other ne) ∙ ap (λ (t : Table). open_at t other) same;
}

-- the value that stands at the number was changed
pub changed : (f : Open → Open) (txn : ℕ) (was is : Open) (m n : BTreeMap ℕ Open) (old : Table) → m.entries ≡ old → get_by (nat_cmp txn) m ≡ Some was → is ≡ f was → WritesThrough nat_cmp (nat_cmp txn) m is n
    → HasAt txn (option_map f (open_at old txn)) old n.entries
changed f txn was is m n old same here to written =
    let there : IsSome (get_by (nat_cmp txn) m) = subst (λ (o : Option Open). IsSome o) (sym here) refl in
    let now : option_map f (open_at old txn) ≡ Some is = ap (λ (o : Option Open). option_map f o) (found m old txn (Some was) same here) ∙ ap Some (sym to) in
    subst (λ (o : Option Open). HasAt txn o old n.entries) (sym now) (updated txn (Some is) m n old same (written.3 there))

-- the value that stands there was put back
pub put_back : (txn : ℕ) (was is : Open) (m n : BTreeMap ℕ Open) (old : Table) → m.entries ≡ old → get_by (nat_cmp txn) m ≡ Some was → is ≡ was → WritesThrough nat_cmp (nat_cmp txn) m is n → HasAt txn (open_at old txn) old n.entries
put_back txn was is m n old same here to written =
    let there : IsSome (get_by (nat_cmp txn) m) = subst (λ (o : Option Open). IsSome o) (sym here) refl in
    let now : open_at old txn ≡ Some is = found m old txn (Some was) same here ∙ ap Some (sym to) in
    subst (λ (o : Option Open). HasAt txn o old n.entries) (sym now) (updated txn (Some is) m n old same (written.3 there))

-- a change may want memory
pub when_ok : (r : Result (Unit {0}) NoMemory) (P Q : Type 0) → (P → Q) → OnOk r P → OnOk r Q
when_ok (Ok done) P Q maps is = maps is
when_ok (Err e) P Q maps is = tt

-- what a change says where there was no memory for it may be told in other words
pub when_err : (r : Result (Unit {0}) NoMemory) (P Q : Type 0) → (P → Q) → OnErr r P → OnErr r Q
when_err (Ok done) P Q maps is = tt
when_err (Err e) P Q maps is = maps is

-- nothing stands there, and nothing was changed
pub unchanged : (f : Open → Open) (txn : ℕ) (m n : BTreeMap ℕ Open) (old : Table) → m.entries ≡ old → get_by (nat_cmp txn) m ≡ None → n ≡ m → HasAt txn (option_map f (open_at old txn)) old n.entries
unchanged f txn m n old same here kept =
    let none : open_at old txn ≡ None = found m old txn None same here in
    let is : n.entries ≡ old = ap (λ (b : BTreeMap ℕ Open). b.entries) kept ∙ same in
    record {
      here_is = ap (λ (t : Table). open_at t txn) is ∙ none ∙ sym (ap (λ (o : Option Open). option_map f o) none);
      others = λ other ne. ap (λ (t : Table). open_at t other) is;
    }

-- the first of a range
pub first : (after : Option ℕ) (m : BTreeMap ℕ Open) (old : Table) (next : ℕ) (o : Open) (r rest : List (ℕ × Open)) → m.entries ≡ old → r ≡ (next, o) ∷ rest → IsRangeOf nat_cmp (start_of after) Unbounded m r → IsNext old after (Some next)
first after m old next o r rest same is range = subst (λ (t : Table). IsNext t after (Some next)) same (from is)
  where
    from : r ≡ (next, o) ∷ rest → IsNext m.entries after (Some next)
    from refl-is =
        let all : IsRangeOf nat_cmp (start_of after) Unbounded m ((next, o) ∷ rest) = subst (λ (l : List (ℕ × Open)). IsRangeOf nat_cmp (start_of after) Unbounded m l) refl-is range in
        (above after next all.1.0, ap (λ (x : Option Open). is_some x) all.1.1, λ txn up there. at_most next txn (all.2 txn (inside after txn up) there))

-- an empty one
pub none_above : (after : Option ℕ) (m : BTreeMap ℕ Open) (old : Table) (r : List (ℕ × Open)) → m.entries ≡ old → r ≡ [] → IsRangeOf nat_cmp (start_of after) Unbounded m r → IsNext old after None
none_above after m old r same is range = subst (λ (t : Table). IsNext t after None) same (λ txn up. range.5 is txn (inside after txn up))

-- a transaction that has just begun, by its list
pub begun_in : (puts : Bool) (room : ℕ) (listed : Listed) (o : Open) → o ≡ record { listed = listed; room = room } → listed ≡ (begun puts room).listed → o ≡ begun puts room
begun_in true room listed o is nothing = is ∙ ap (λ (l : Listed). record { listed = l; room = room }) nothing
begun_in false room listed o is nothing = is ∙ ap (λ (l : Listed). record { listed = l; room = room }) nothing
