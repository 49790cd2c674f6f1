-- The table of a text's keys, as the definitions see it.
use Rattle.std.specs.Prelude.{List, [], ◌∷◌, map, string_bytes, if◌then◌else◌}
use Rattle.std.specs.declared.alloc.Global.{Global}
use Rattle.std.specs.declared.string.String.{String}
use Rattle.prop_text.specs.declared.table.Entry.{Entry}
use Rattle.prop_text.specs.Pairs.{Pair}
use Rattle.prop_text.specs.Winners.{same_key}

abbrev pub entry_pair : String Global × Entry → Pair
entry_pair e = record { key = string_bytes e.0; value = string_bytes e.1.value; line = e.1.line }

abbrev pub pairs_in : List (String Global × Entry) → List Pair
pairs_in entries = map entry_pair entries

-- the pairs with one more, in the place of the one that has its key, or last
abbrev pub put : Pair → List Pair → List Pair
put p [] = p ∷ []
put p (q ∷ qs) = if same_key q p then p ∷ qs else q ∷ put p qs
