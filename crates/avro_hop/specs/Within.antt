-- What stands within a type of a protocol's text.
use Rattle.std.specs.Prelude.{◌≡◌, Bool, true, List, ℕ}
use Rattle.serde_json.specs.Data.{Data, array, object, Items, item, Members, member}
use Rattle.avro_hop.specs.Accepted.{is_nesting, is_fields, is_typing, has_type, has_field_type}

-- one of the items
pub data IsItem : Data → Items → Type 0 where
  FirstItem : (d : Data) (ds : Items) → IsItem d (item d ds)
  LaterItem : (d e : Data) (ds : Items) → IsItem d ds → IsItem d (item e ds)

-- the type of a field or a parameter with these members
pub data IsTyped : Data → Members → Type 0 where
  FirstType : (key : List ℕ) (d : Data) (ms : Members) → is_typing key ≡ true → IsTyped d (member key d ms)
  LaterType : (key : List ℕ) (d e : Data) (ms : Members) → IsTyped d ms → IsTyped d (member key e ms)

-- the type of one of these fields or parameters
pub record IsFieldType (d fields : Data) : Type 0 where
  pub items : Items
  pub field : Members
  pub listed : fields ≡ array items
  pub one : IsItem (object field) items
  pub typed : IsTyped d field

-- what stands under a key of a type's parts, and the type of one of its fields
pub data IsPartOf : Data → Members → Type 0 where
  FirstPart : (key : List ℕ) (d : Data) (ms : Members) → is_nesting key ≡ true → IsPartOf d (member key d ms)
  FieldPart : (key : List ℕ) (d fields : Data) (ms : Members) → is_fields key ≡ true → IsFieldType d fields → IsPartOf d (member key fields ms)
  LaterPart : (key : List ℕ) (d e : Data) (ms : Members) → IsPartOf d ms → IsPartOf d (member key e ms)

-- An object stands within a type: it is the type, or stands within an item of it or within one of its parts.
pub data IsWithin : Data → Data → Type 0 where
  Itself : (ms : Members) → IsWithin (object ms) (object ms)
  InItem : (inner d : Data) (ds : Items) → IsItem d ds → IsWithin inner d → IsWithin inner (array ds)
  InPart : (inner d : Data) (ms : Members) → IsPartOf d ms → IsWithin inner d → IsWithin inner (object ms)

-- A type has one that passes exactly where some object within it, at any depth, passes.
abbrev pub TypesAreFound : Type 0
TypesAreFound = (passes : Data → Bool) (d : Data) → (has_type passes d ≡ true → (inner : Data) × IsWithin inner d × (passes inner ≡ true)) × ((inner : Data) → IsWithin inner d → passes inner ≡ true → has_type passes d ≡ true)

-- Fields or parameters have one that passes exactly where the type of one of them has.
abbrev pub FieldTypesAreFound : Type 0
FieldTypesAreFound = (passes : Data → Bool) (fields : Data) → (has_field_type passes fields ≡ true → (d : Data) × IsFieldType d fields × (has_type passes d ≡ true)) × ((d : Data) → IsFieldType d fields → has_type passes d ≡ true → has_field_type passes fields ≡ true)
