use Rattle.ical_values.specs.Parts.{text_left, text_there}
use Rattle.ical_values.proofs.PartsLeft.{AreLeft}
use Rattle.ical_values.proofs.rule_reader.RuleReader.take_parts.Given as goal

-- what is known of the parts so far, and of what is left of the text
abbrev pub invariant-parts : goal.invariant-parts
invariant-parts l = AreLeft l.text l.self.rule l.self.names (text_there l.rest)

abbrev pub decreases-parts : goal.decreases-parts
decreases-parts l = text_left (text_there l.rest)
