use Rattle.std.proofs.Common.{◌≡◌, ◌++◌, length, map}
use Rattle.std.specs.Prelude.{All}
use Rattle.cal_moment.specs.declared.stamp.Stamp.{Stamp}
use Rattle.cal_model.specs.Instances.Alignment.{align}
use Rattle.override_merge.specs.Conversions.{tables_of, IsConvertible}
use Rattle.override_merge.specs.NamedStarts.{values_in, days_in}
use Rattle.rrule_sets.proofs.ends.exceptions.Given as goal

-- the values and days so far, and those of the dates that are left
abbrev pub invariant-except : goal.invariant-except
invariant-except l = record {
  values : l.values ++ values_in (map (λ (x : Stamp). align (tables_of l.zones) x l.stamp) l.rest) ≡ values_in (map (λ (x : Stamp). align (tables_of l.zones) x l.stamp) l.except);
  days : l.days ++ days_in (map (λ (x : Stamp). align (tables_of l.zones) x l.stamp) l.rest) ≡ days_in (map (λ (x : Stamp). align (tables_of l.zones) x l.stamp) l.except);
  left : All (IsConvertible (length l.zones)) l.rest;
}

abbrev pub decreases-except : goal.decreases-except
decreases-except l = length l.rest
