use Rattle.std.proofs.Common.{length}
use Rattle.ical_values.proofs.rule_words.+common.Given as goal

abbrev pub decreases-common : goal.decreases-common
decreases-common l = length l.text.now
