-- The faults of settings by the code's names.
use Rattle.std.specs.Prelude.{Bool, not, ◌&&◌, ◌||◌, nat_lt}
use Rattle.cal_model.specs.declared.property.PropName.{PropName}
use Rattle.cal_model.specs.declared.reply.Refusal.{Refusal}
use Rattle.cal_model.specs.State.PropertyTexts.{name_size}
use Rattle.cal_model.specs.Properties.PropertyTable.{Setting, is_text}
use Rattle.cal_model.specs.Properties.Settings.{protected_property, bad_zone, may_be_set}
use Rattle.cal_model.specs.Refusals.RequestLimits.{name_limit}
use Rattle.dav_props.specs.declared.setting_faults.Fault.{Fault}
use Rattle.dav_props.specs.declared.setting_faults.Fault.TheVariants.{Protected, BadZone}

abbrev pub refusal_of : Fault → Refusal
refusal_of Protected = protected_property
refusal_of BadZone = bad_zone

-- it may not be set, or the name of a text is too long
abbrev pub is_barred : Bool → Setting → PropName → Bool
is_barred making setting name = not (may_be_set making setting) || (is_text name && nat_lt name_limit (name_size name))
