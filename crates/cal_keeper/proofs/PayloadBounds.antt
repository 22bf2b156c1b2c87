-- How long payloads are whose names are short.
use Rattle.std.proofs.Common.{ℕ, ◌+◌, ◌*◌, ◌≤◌, List, [], ◌∷◌, ◌++◌, length, flat_map, Option, Some, None, arith, length-append}
use Rattle.std.specs.List.{AllByRecursion}
use Rattle.std.proofs.lemmas.List.Sums.{sum_by-cons}
use Rattle.cal_model.specs.declared.property.PropSet.{PropSet}
use Rattle.cal_model.specs.Bodies.AclBodies.{grant_limit}
use Rattle.cal_model.specs.Bodies.ContentSizes.{octets_in, values_size}
use Rattle.cal_model.specs.History.Journal.{Entry}
use Rattle.cal_model.specs.Requests.ContentBounds.{most_properties}
use Rattle.cal_model.specs.State.Changes.{Change, put, delete_object, delete_calendar, make, patch, acl}
use Rattle.cal_model.specs.State.PropertyTexts.{name_size}
use Rattle.cal_model.specs.Streams.WireLimits.{body_limit}
use Rattle.cal_keeper.specs.Files.Payloads.{value_text, set_text, long_text, name_text, own_text, calendar_of, payload_of}
use Rattle.cal_keeper.specs.Files.RecordForm.{payload_limit}
use Rattle.cal_keeper.proofs.PayloadTexts.{grants_size}

-- the names of accepted settings are so short
abbrev pub AreShort : List PropSet → Type 0
AreShort sets = AllByRecursion (λ (set : PropSet). name_size set.name ≤ 256) sets

value_bound : (value : Option (List ℕ)) → length (value_text value) ≤ 5 + octets_in value
value_bound None = omega arith
value_bound (Some value) = omega arith

set_bound : (set : PropSet) → name_size set.name ≤ 256 → length (set_text set) ≤ 269 + octets_in set.value
set_bound set short =
    omega (arith, short, value_bound set.value, length-append (long_text set.name.space ++ long_text set.name.name) (value_text set.value), length-append (long_text set.name.space) (long_text set.name.name))

pub sets_bound : (sets : List PropSet) → AreShort sets → length (flat_map set_text sets) ≤ 269 * length sets + values_size sets
sets_bound [] short = omega arith
sets_bound (set ∷ sets) short =
    omega (arith, set_bound set short.0, sets_bound sets short.1, length-append (set_text set) (flat_map set_text sets), sum_by-cons (λ (s : PropSet). octets_in s.value) set sets)

-- an accepted change, as far as its length goes
abbrev pub IsShortChange : Change → Type 0
IsShortChange (put home calendar object octets) = (length object ≤ 200) × (length octets ≤ 262_144)
IsShortChange (delete_object home calendar object) = length object ≤ 200
IsShortChange (delete_calendar home calendar) = Unit {0}
IsShortChange (make home calendar sets size) = (length sets ≤ most_properties) × (values_size sets ≤ body_limit) × AreShort sets
IsShortChange (patch home calendar sets size) = (length sets ≤ most_properties) × (values_size sets ≤ body_limit) × AreShort sets
IsShortChange (acl home calendar grants size) = length grants ≤ grant_limit

own_bound : (change : Change) → IsShortChange change → length (own_text change) ≤ 80_000_000
own_bound (put home calendar object octets) short = omega (arith, short.0, short.1, length-append (name_text object) (long_text octets))
own_bound (delete_object home calendar object) short = omega (arith, short)
own_bound (delete_calendar home calendar) short = omega arith
own_bound (make home calendar sets size) short = omega (arith, short.0, short.1, sets_bound sets short.2)
own_bound (patch home calendar sets size) short = omega (arith, short.0, short.1, sets_bound sets short.2)
own_bound (acl home calendar grants size) short = omega (arith, short, grants_size grants)

pub payload_is_short : (entry : Entry) → length (calendar_of entry.change) ≤ 200 → IsShortChange entry.change → length (payload_of entry) ≤ payload_limit
payload_is_short entry name short =
    omega (arith, name, own_bound entry.change short, length-append (calendar_of entry.change) (own_text entry.change))
