-- The octets of the values of settings, and settings behind their number.
use Rattle.std.proofs.Common.{◌≡◌, ℕ, ◌+◌, ◌<◌, ◌≤◌, ◌^◌, nat_le, false, List, [], ◌∷◌, ◌++◌, length, get_or, take, drop, flat_map, Option, Some, None, sym, ◌∙◌, ap, arith, length-append}
use Rattle.std.specs.Int.{w32, to_be_bytes}
use Rattle.std.proofs.lemmas.Bool.Decides.{nat_tests}
use Rattle.std.proofs.lemmas.List.Sums.{sum_by-cons, sum_by_more, sum_by-take-le}
use Rattle.cal_model.specs.declared.property.PropSet.{PropSet}
use Rattle.cal_model.specs.Bodies.ContentSizes.{octets_in, values_size}
use Rattle.cal_model.specs.Streams.WireLimits.{body_limit}
use Rattle.cal_keeper.specs.Steps.Decoding.{IsAny}
use Rattle.cal_keeper.specs.Files.Payloads.{value_text, set_text, sets_text, long_text, SettingsHaveForm}
use Rattle.cal_keeper.proofs.PartLaws.{set_told, whole_told, all_any, same_4}

-- one more value
pub values_more : (sets : List PropSet) (k : ℕ) (set : PropSet) → k < length sets → set ≡ get_or sets k set → values_size (take (k + 1) sets) ≡ values_size (take k sets) + octets_in set.value
values_more sets k set within is =
    sum_by_more (λ (s : PropSet). octets_in s.value) sets k set within ∙ ap (λ (s : PropSet). values_size (take k sets) + octets_in s.value) (sym is)

pub values_front : (sets : List PropSet) (k : ℕ) → values_size (take k sets) ≤ values_size sets
values_front sets k = sum_by-take-le (λ (s : PropSet). octets_in s.value) sets k

-- the values are among the octets of the settings
value_within : (value : Option (List ℕ)) → octets_in value ≤ length (value_text value)
value_within None = omega arith
value_within (Some value) = omega arith

pub values_within : (sets : List PropSet) → values_size sets ≤ length (flat_map set_text sets)
values_within [] = omega arith
values_within (set ∷ sets) =
    omega (arith, value_within set.value, values_within sets, sum_by-cons (λ (s : PropSet). octets_in s.value) set sets, length-append (set_text set) (flat_map set_text sets), length-append (long_text set.name.space ++ long_text set.name.name) (value_text set.value))

-- settings whose values are too long have no text in the form
pub values_too_long : (octets rest after : List ℕ) (size count : ℕ) (sets : List PropSet) → length octets < 2 ^ 32 → octets ≡ to_be_bytes w32 size ++ rest → rest ≡ to_be_bytes w32 count ++ after
    → after ≡ flat_map set_text sets → length sets ≡ count → count < 2 ^ 32 → nat_le (values_size sets) body_limit ≡ false
    → (other_size : ℕ) (others : List PropSet) → SettingsHaveForm others → octets ≡ sets_text other_size others → ⊥
values_too_long octets rest after size count sets small size_is count_is after_is sized few long other_size others form is =
    let same : to_be_bytes w32 size ++ (to_be_bytes w32 count ++ after) ≡ sets_text other_size others = ap (λ (xs : List ℕ). to_be_bytes w32 size ++ xs) (sym count_is) ∙ sym size_is ∙ is in
    let counts = same_4 count (length others) few (omega (arith, form.0)) (ap (λ (xs : List ℕ). take 4 (drop 4 xs)) same) in
    let texts : after ≡ flat_map set_text others = ap (drop 8) same in
    let smaller : length after < 2 ^ 32 = omega (arith, small, ap length size_is, ap length count_is) in
    let whole = whole_told set_text IsAny set_told sets others after smaller (all_any sets) (all_any others) after_is texts (omega (arith, sized, counts)) in
    let values : values_size sets ≡ values_size others = ap values_size whole in
    grind (arith, nat_tests, long, values, form.1)
