-- A calendar as a store keeps it: of each object the octets and the origin, beside the calendar's own data.
-- Given: what is kept. Gives: the calendar that it stands for.
use Rattle.std.specs.Prelude.{ℕ, List, map}
use Rattle.cal_base.specs.Lists.NameMap.{Named}
use Rattle.cal_model.specs.declared.privilege.Grant.{Grant}
use Rattle.cal_model.specs.State.PropertyTexts.{Texts}
use Rattle.cal_model.specs.State.ServerState.{Calendar}

-- an object: its octets, and the number of the journal's entry that made it
pub record KeptObject : Type 0 where
  pub octets : List ℕ
  pub origin : ℕ

-- a calendar, with the number of the user whose home it is in, and its name
pub record KeptCalendar : Type 0 where
  pub home : ℕ
  pub name : List ℕ
  pub grants : List Grant
  pub kinds : ℕ
  pub texts : Texts
  pub objects : Named KeptObject

-- a map with a function of each value
abbrev pub each_value : {V W : Type 0} → (V → W) → Named V → Named W
each_value f named = map (λ entry. (entry.0, f entry.1)) named

abbrev pub calendar_of : KeptCalendar → Calendar
calendar_of kept = record {
  grants = kept.grants;
  kinds = kept.kinds;
  texts = kept.texts;
  objects = each_value (λ (object : KeptObject). object.octets) kept.objects;
}
