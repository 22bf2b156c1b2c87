use Rattle.std.proofs.Common.{◌≡◌}
use Rattle.cal_model.specs.Values.RuleTexts.{list_of}
use Rattle.ical_values.specs.Parts.{preceded, text_left, text_there}
use Rattle.ical_values.proofs.ListReading.{BadInRest, left_values}
use Rattle.ical_values.proofs.list.read_list.Given as goal

-- the values so far before those of the rest, and where the text is bad if the rest is
abbrev pub invariant-items : goal.invariant-items
invariant-items g l = record {
  values : preceded l.values (left_values (g.I.Items.reads l.items) (text_there l.rest)) ≡ list_of (g.I.Items.reads l.items) l.text;
  bad : BadInRest (g.I.Items.reads l.items) l.text (text_there l.rest);
}

abbrev pub decreases-items : goal.decreases-items
decreases-items g l = text_left (text_there l.rest)
