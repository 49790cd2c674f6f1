use Rattle.std.proofs.Common.{◌≡◌, drop}
use Rattle.serde_json.specs.View.{items_view, members_view}
use Rattle.avro_hop.specs.Accepted.{has_type_in_items, has_type_in_members, has_type_in_fields, has_type_of_field}
use Rattle.avro_hop.specs.Sought.{is_sought}
use Rattle.avro_hop.proofs.types.+has_type.Given as goal

abbrev pub invariant-has_type_in_items-types : goal.invariant-has_type_in_items-types
invariant-has_type_in_items-types l = has_type_in_items (is_sought l.sought) (items_view (drop l.item-index l.item-items)) ≡ has_type_in_items (is_sought l.sought) (items_view l.item-items)

abbrev pub invariant-has_type_in_members-types : goal.invariant-has_type_in_members-types
invariant-has_type_in_members-types l = has_type_in_members (is_sought l.sought) (members_view l.key-iterator) ≡ has_type_in_members (is_sought l.sought) (members_view l.members.entries)

abbrev pub invariant-has_type_in_fields-fields : goal.invariant-has_type_in_fields-fields
invariant-has_type_in_fields-fields l = has_type_in_fields (is_sought l.sought) (items_view (drop l.field-index l.field-items)) ≡ has_type_in_fields (is_sought l.sought) (items_view l.field-items)

abbrev pub invariant-has_type_of_field-types : goal.invariant-has_type_of_field-types
invariant-has_type_of_field-types l = has_type_of_field (is_sought l.sought) (members_view l.key-iterator) ≡ has_type_of_field (is_sought l.sought) (members_view l.members.entries)
