-- Which properties have come in a component, as bits of a word.
use Rattle.std.specs.Prelude.{◌==◌, Bool, bit_or, ◌*◌, ◌^◌, ◌%◌}
use Rattle.std.specs.Int.{bit_at}
use Rattle.cal_object.specs.declared.property.Property.{Property}
use Rattle.cal_object.specs.declared.seen_names.SeenNames.{SeenNames}
use Rattle.cal_object.specs.Properties.{number_of}

abbrev pub none_seen : SeenNames
none_seen = record { 0 = 0 }

-- whether a property has come
unfoldable pub has_seen : SeenNames → Property → Bool
has_seen seen property = bit_at seen.0 (number_of property) == 1

-- the same with one that comes
unfoldable pub seen_with : SeenNames → Property → SeenNames
seen_with seen property = record { 0 = bit_or seen.0 (1 * 2 ^ number_of property % 4294967296) }
