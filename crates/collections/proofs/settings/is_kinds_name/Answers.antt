use Rattle.std.proofs.Common.{◌∙◌, sym}
use Rattle.collections.proofs.SettingLemmas.{kinds_row}
use Rattle.collections.proofs.settings.is_kinds_name.Goals as goal

pub returns : goal.returns
returns c = c.is_caldav_name.ensures ∙ sym (kinds_row c.args.name.now)
