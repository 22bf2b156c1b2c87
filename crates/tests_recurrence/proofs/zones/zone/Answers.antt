use Rattle.std.proofs.Common.{◌≡◌, ◌∙◌, sym, subst, rules, w32, to_z, of_z}
use Rattle.cal_model.specs.TimeZones.TableBounds.{IsOffset}
use Rattle.tests_recurrence.proofs.ZoneTables.{IsTable-two}
use Rattle.tests_recurrence.proofs.zones.zone.Goals as goal

pub returns : goal.returns
returns c =
    let same : to_z w32 (of_z w32 c.args.before) ≡ c.args.before = search rules in
    IsTable-two _ _ _ (c.in_ok-of.ensures ∙ c.in_ok-onsets.ensures) c.requires.order (subst IsOffset (sym same) c.requires.before) c.requires.first c.requires.second
