-- What an object has that was read, as far as its rows are found: no rule by seconds or minutes, stamps that can be converted, and one master at most.
use Rattle.std.specs.Prelude.{All, length}
use Rattle.cal_model.specs.declared.object.Object.{Object}
use Rattle.cal_model.specs.Objects.ObjectFacts.{IsReadObject}
use Rattle.override_merge.specs.Conversions.{HasConvertibleRows}
use Rattle.override_merge.specs.ExpandableComponents.{IsExpandable}

pub record HasRowsToFind (object : Object) : Type 0 where
  pub read : IsReadObject object
  pub rows : HasConvertibleRows object
  pub components : All (IsExpandable (length object.zones)) object.components
