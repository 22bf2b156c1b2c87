use Rattle.std.proofs.Common.{◌≡◌, max, drop}
use Rattle.cal_base.specs.Texts.Text.{raised_all}
use Rattle.ical_values.specs.RuleNames.{most_free}
use Rattle.ical_values.proofs.rule_names.most_free.Given as goal

-- the most so far and that of the parts to come
abbrev pub invariant-parts : goal.invariant-parts
invariant-parts l = max l.most (most_free l.rule l.names (raised_all l.text) (drop l.part-index l.parts)) ≡ most_free l.rule l.names (raised_all l.text) l.parts
