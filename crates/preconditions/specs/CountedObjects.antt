-- Objects of which it is known whether they have too many instances.
use Rattle.std.specs.Prelude.{◌≡◌, ◌<◌, ◌^◌, Bool, length}
use Rattle.cal_model.specs.declared.object.Object.{Object}
use Rattle.cal_model.specs.Refusals.Preconditions.{has_too_many}

pub record IsCounted (object : Object) (many : Bool) : Type 0 where
  pub is : many ≡ has_too_many object
  pub few_components : length object.components < 2 ^ 32
