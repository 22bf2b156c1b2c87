use Rattle.std.proofs.Common.{codes, rules}
use Rattle.command_words.specs.Options.{value_text}
use Rattle.command_words.proofs.SlotWordLaws.{range_within}
use Rattle.command_words.proofs.slot_words.said.Goals as goal

pub returns-in-Ok-clause-within : goal.returns-in-Ok-clause-within
returns-in-Ok-clause-within c = record {
  some_minutes = search rules;
  few_minutes = search rules;
  few = search rules;
  served = range_within (value_text (codes "from") c.args.matches.now) (value_text (codes "to") c.args.matches.now) c.args.range c.requires;
}
