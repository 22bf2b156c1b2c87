use Rattle.std.proofs.Common.{sym, ap, ◌∙◌}
use Rattle.cal_model.specs.Values.StampTexts.{zone_number}
use Rattle.ical_values.proofs.Numbering.{number_behind}
use Rattle.ical_values.proofs.zones.ZoneNames.number.Goals as goal

pub returns-in-None : goal.returns-in-None
returns-in-None c =
    let name = c.args.name.now in
    let behind = number_behind c.self.inside.names name (sym (c.self.invariant.1 name) ∙ sym c.in-None.ensures) in
    c.len.ensures ∙ (behind ∙ ap (λ zones. zone_number zones name) c.self.view_is)
