-- A type is looked for at any depth.
use Rattle.std.proofs.Common.{◌≡◌, true, false, List, ℕ, refl, subst, inl, inr}
use Rattle.std.specs.Prelude.{Bool, ◌&&◌, ◌||◌, ◌⊎◌}
use Rattle.serde_json.specs.Data.{Data, null, boolean, number, string, array, object, Items, no_items, item, Members, no_members, member}
use Rattle.avro_hop.specs.Accepted.{is_nesting, is_fields, is_typing, has_type, has_type_in_items, has_type_in_members, has_field_type, has_type_in_fields, has_own_type, has_type_of_field}
use Rattle.avro_hop.specs.Within.{IsItem, FirstItem, LaterItem, IsTyped, FirstType, LaterType, IsFieldType, IsPartOf, FirstPart, FieldPart, LaterPart, IsWithin, Itself, InItem, InPart, TypesAreFound, FieldTypesAreFound}

either : (a b : Bool) → (a || b) ≡ true → (a ≡ true) ⊎ (b ≡ true)
either true b e = inl refl
either false b e = inr e

both : (a b : Bool) → (a && b) ≡ true → (a ≡ true) × (b ≡ true)
both true b e = (refl, e)
both false b e = absurd cc

first_true : (a b : Bool) → a ≡ true → (a || b) ≡ true
first_true true b e = refl
first_true false b e = absurd cc

second_true : (a b : Bool) → b ≡ true → (a || b) ≡ true
second_true true b e = refl
second_true false b e = e

both_true : (a b : Bool) → a ≡ true → b ≡ true → (a && b) ≡ true
both_true true b e f = f
both_true false b e f = absurd cc

none_true : {A : Type 0} → false ≡ true → A
none_true e = absurd cc

abbrev Found : (Data → Bool) → Data → Type 0
Found passes d = (inner : Data) × IsWithin inner d × (passes inner ≡ true)

abbrev ItemFound : (Data → Bool) → Items → Type 0
ItemFound passes ds = (d : Data) × IsItem d ds × Found passes d

abbrev PartFound : (Data → Bool) → Members → Type 0
PartFound passes ms = (d : Data) × IsPartOf d ms × Found passes d

later_item : (passes : Data → Bool) (e : Data) (ds : Items) → ItemFound passes ds → ItemFound passes (item e ds)
later_item passes e ds f = (f.0, LaterItem f.0 e ds f.1, f.2)

later_part : (passes : Data → Bool) (key : List ℕ) (e : Data) (ms : Members) → PartFound passes ms → PartFound passes (member key e ms)
later_part passes key e ms f = (f.0, LaterPart key f.0 e ms f.1, f.2)

-- a type that is found among the items of fields, or in the members of one
abbrev ListedFound : (Data → Bool) → Items → Type 0
ListedFound passes ds = (field : Members) × IsItem (object field) ds × (d : Data) × IsTyped d field × Found passes d

abbrev TypeFound : (Data → Bool) → Members → Type 0
TypeFound passes ms = (d : Data) × IsTyped d ms × Found passes d

abbrev OwnFound : (Data → Bool) → Data → Type 0
OwnFound passes d = (field : Members) × (d ≡ object field) × TypeFound passes field

abbrev FieldFound : (Data → Bool) → Data → Type 0
FieldFound passes fields = (d : Data) × IsFieldType d fields × Found passes d

later_listed : (passes : Data → Bool) (e : Data) (ds : Items) → ListedFound passes ds → ListedFound passes (item e ds)
later_listed passes e ds f = (f.0, LaterItem (object f.0) e ds f.1, f.2, f.3, f.4)

later_type : (passes : Data → Bool) (key : List ℕ) (e : Data) (ms : Members) → TypeFound passes ms → TypeFound passes (member key e ms)
later_type passes key e ms f = (f.0, LaterType key f.0 e ms f.1, f.2)

field_type : (passes : Data → Bool) (ds : Items) → ListedFound passes ds → FieldFound passes (array ds)
field_type passes ds f = (f.2, record { items = ds; field = f.0; listed = refl; one = f.1; typed = f.3 }, f.4)

listed_first : (passes : Data → Bool) (d : Data) (ds : Items) → OwnFound passes d → ListedFound passes (item d ds)
listed_first passes d ds f = (f.0, subst (λ (x : Data). IsItem x (item d ds)) f.1 (FirstItem d ds), f.2.0, f.2.1, f.2.2)

mutual
  found : (passes : Data → Bool) (d : Data) → has_type passes d ≡ true → Found passes d
  found passes null h = none_true h
  found passes (boolean b) h = none_true h
  found passes (number n) h = none_true h
  found passes (string s) h = none_true h
  found passes (array ds) h =
      let f = found_item passes ds h in
      (f.2.0, InItem f.2.0 f.0 ds f.1 f.2.1, f.2.2)
  found passes (object ms) h =
      elim (either (passes (object ms)) (has_type_in_members passes ms) h) [
        | inl e ↦ (object ms, Itself ms, e)
        | inr e ↦ let f = found_part passes ms e in (f.2.0, InPart f.2.0 f.0 ms f.1 f.2.1, f.2.2)
      ]

  found_item : (passes : Data → Bool) (ds : Items) → has_type_in_items passes ds ≡ true → ItemFound passes ds
  found_item passes no_items h = none_true h
  found_item passes (item d ds) h =
      elim (either (has_type passes d) (has_type_in_items passes ds) h) [
        | inl e ↦ (d, FirstItem d ds, found passes d e)
        | inr e ↦ later_item passes d ds (found_item passes ds e)
      ]

  found_part : (passes : Data → Bool) (ms : Members) → has_type_in_members passes ms ≡ true → PartFound passes ms
  found_part passes no_members h = none_true h
  found_part passes (member key d ms) h =
      elim (either (is_nesting key && has_type passes d || is_fields key && has_field_type passes d) (has_type_in_members passes ms) h) [
        | inl e ↦
            elim (either (is_nesting key && has_type passes d) (is_fields key && has_field_type passes d) e) [
              | inl g ↦ let b = both (is_nesting key) (has_type passes d) g in (d, FirstPart key d ms b.0, found passes d b.1)
              | inr g ↦
                  let b = both (is_fields key) (has_field_type passes d) g in
                  let f = found_field passes d b.1 in
                  (f.0, FieldPart key f.0 d ms b.0 f.1, f.2)
            ]
        | inr e ↦ later_part passes key d ms (found_part passes ms e)
      ]

  found_field : (passes : Data → Bool) (d : Data) → has_field_type passes d ≡ true → FieldFound passes d
  found_field passes null h = none_true h
  found_field passes (boolean b) h = none_true h
  found_field passes (number n) h = none_true h
  found_field passes (string s) h = none_true h
  found_field passes (array ds) h = field_type passes ds (found_listed passes ds h)
  found_field passes (object ms) h = none_true h

  found_listed : (passes : Data → Bool) (ds : Items) → has_type_in_fields passes ds ≡ true → ListedFound passes ds
  found_listed passes no_items h = none_true h
  found_listed passes (item d ds) h =
      elim (either (has_own_type passes d) (has_type_in_fields passes ds) h) [
        | inl e ↦ listed_first passes d ds (found_own passes d e)
        | inr e ↦ later_listed passes d ds (found_listed passes ds e)
      ]

  found_own : (passes : Data → Bool) (d : Data) → has_own_type passes d ≡ true → OwnFound passes d
  found_own passes null h = none_true h
  found_own passes (boolean b) h = none_true h
  found_own passes (number n) h = none_true h
  found_own passes (string s) h = none_true h
  found_own passes (array ds) h = none_true h
  found_own passes (object ms) h = (ms, refl, found_typed passes ms h)

  found_typed : (passes : Data → Bool) (ms : Members) → has_type_of_field passes ms ≡ true → TypeFound passes ms
  found_typed passes no_members h = none_true h
  found_typed passes (member key d ms) h =
      elim (either (is_typing key && has_type passes d) (has_type_of_field passes ms) h) [
        | inl e ↦ let b = both (is_typing key) (has_type passes d) e in (d, FirstType key d ms b.0, found passes d b.1)
        | inr e ↦ later_type passes key d ms (found_typed passes ms e)
      ]

item_found : (passes : Data → Bool) (d : Data) (ds : Items) → IsItem d ds → has_type passes d ≡ true → has_type_in_items passes ds ≡ true
item_found passes d ds (FirstItem e es) h = first_true (has_type passes e) (has_type_in_items passes es) h
item_found passes d ds (LaterItem e f es i) h = second_true (has_type passes f) (has_type_in_items passes es) (item_found passes e es i h)

listed_found : (passes : Data → Bool) (d : Data) (ds : Items) → IsItem d ds → has_own_type passes d ≡ true → has_type_in_fields passes ds ≡ true
listed_found passes d ds (FirstItem e es) h = first_true (has_own_type passes e) (has_type_in_fields passes es) h
listed_found passes d ds (LaterItem e f es i) h = second_true (has_own_type passes f) (has_type_in_fields passes es) (listed_found passes e es i h)

typed_found : (passes : Data → Bool) (d : Data) (ms : Members) → IsTyped d ms → has_type passes d ≡ true → has_type_of_field passes ms ≡ true
typed_found passes d ms (FirstType key e es n) h = first_true (is_typing key && has_type passes e) (has_type_of_field passes es) (both_true (is_typing key) (has_type passes e) n h)
typed_found passes d ms (LaterType key e f es i) h = second_true (is_typing key && has_type passes f) (has_type_of_field passes es) (typed_found passes e es i h)

field_found : (passes : Data → Bool) (d fields : Data) → IsFieldType d fields → has_type passes d ≡ true → has_field_type passes fields ≡ true
field_found passes d fields t h = rw t.listed (listed_found passes (object t.field) t.items t.one (typed_found passes d t.field t.typed h))

part_found : (passes : Data → Bool) (d : Data) (ms : Members) → IsPartOf d ms → has_type passes d ≡ true → has_type_in_members passes ms ≡ true
part_found passes d ms (FirstPart key e es n) h =
    first_true (is_nesting key && has_type passes e || is_fields key && has_field_type passes e) (has_type_in_members passes es) (first_true (is_nesting key && has_type passes e) (is_fields key && has_field_type passes e) (both_true (is_nesting key) (has_type passes e) n h))
part_found passes d ms (FieldPart key e fields es n t) h =
    first_true (is_nesting key && has_type passes fields || is_fields key && has_field_type passes fields) (has_type_in_members passes es) (second_true (is_nesting key && has_type passes fields) (is_fields key && has_field_type passes fields) (both_true (is_fields key) (has_field_type passes fields) n (field_found passes e fields t h)))
part_found passes d ms (LaterPart key e f es i) h =
    second_true (is_nesting key && has_type passes f || is_fields key && has_field_type passes f) (has_type_in_members passes es) (part_found passes e es i h)

within_found : (passes : Data → Bool) (inner d : Data) → IsWithin inner d → passes inner ≡ true → has_type passes d ≡ true
within_found passes inner d (Itself ms) p = first_true (passes (object ms)) (has_type_in_members passes ms) p
within_found passes inner d (InItem e f ds i w) p = item_found passes f ds i (within_found passes e f w p)
within_found passes inner d (InPart e f ms i w) p = second_true (passes (object ms)) (has_type_in_members passes ms) (part_found passes f ms i (within_found passes e f w p))

-- a type passes exactly where some object within it does, at any depth
pub types_are_found : TypesAreFound
types_are_found passes d = (found passes d, λ inner w p. within_found passes inner d w p)

field_of : (passes : Data → Bool) (fields : Data) → FieldFound passes fields → (d : Data) × IsFieldType d fields × (has_type passes d ≡ true)
field_of passes fields f = (f.0, f.1, within_found passes f.2.0 f.0 f.2.1 f.2.2)

-- fields or parameters pass exactly where the type of one of them does
pub field_types_are_found : FieldTypesAreFound
field_types_are_found passes fields = (λ h. field_of passes fields (found_field passes fields h), λ d t h. field_found passes d fields t h)
