-- Places of values that are made of read ones.
use Rattle.std.proofs.Common.{◌≡◌, ℕ, List, Option, option_map, Err, ap, subst}
use Rattle.std.specs.Prelude.{IsErrOf}
use Rattle.cal_moment.specs.BadPlace.{IsBadAt}
use Rattle.cal_model.specs.Values.BadValues.{Reads}
use Rattle.cal_model.proofs.Values.BadValueLaws.{bad_by_same}
use Rattle.cal_model.proofs.Values.CutLemmas.{option_map_some}
use Rattle.ical_values.specs.declared.fault.ValueFault.{ValueFault}
use Rattle.ical_values.specs.declared.fault.ValueFault.TheVariants.{Bad}

-- What is made of each value that is read is bad where nothing is read.
pub bad_map : {X Y : Type 0} → (f : X → Y) (read : List ℕ → Option X) (text : List ℕ) (place : ℕ) → IsBadAt (Reads read) text place → IsBadAt (Reads (λ t. option_map f (read t))) text place
bad_map {X} {Y} f read =
    bad_by_same (Reads read) (Reads (λ t. option_map f (read t)))
    (λ t is. (f is.0, ap (option_map f) is.1))
    (λ t is. let found = option_map_some f (read t) is.0 is.1 in (found.0, found.1))

-- what holds of the place that a fault has holds of the one that it tells
pub place_told : {X : Type 0} → (P : ℕ → Type 0) (own place : ℕ) → IsErrOf {T = X} (Err (Bad own)) (Bad place) → P own → P place
place_told {X} P own place is holds = let same : own ≡ place = cc in subst P same holds

-- the same fault, of another call
pub same_fault : {X Y : Type 0} → (fault other : ValueFault) → IsErrOf {T = X} (Err fault) other → IsErrOf {T = Y} (Err fault) other
same_fault {X} {Y} fault other is = let same : fault ≡ other = cc in ap (λ e. Err e) same
