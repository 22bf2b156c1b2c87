use Rattle.std.proofs.Common.{◌∙◌, sym, ap}
use Rattle.cal_model.specs.Objects.ObjectReading.{first_there}
use Rattle.cal_model.specs.Properties.Settings.{value_faults}
use Rattle.dav_props.specs.Rows.{setting_of}
use Rattle.dav_props.proofs.setting_faults.fault_of_value.Goals as goal

pub returns-in_ok-fault_of_zone-in-Zone : goal.returns-in_ok-fault_of_zone-in-Zone
returns-in_ok-fault_of_zone-in-Zone c texts is =
    c.in_ok-fault_of_zone-in-Zone.ensures texts c.args.name.now ∙ ap (λ setting. first_there (value_faults (setting_of setting) texts c.args.name.now c.args.value.now)) (sym c.in-Zone.is)
