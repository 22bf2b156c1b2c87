use Rattle.std.proofs.Common.{ap, true}
use Rattle.clap.specs.Words.{Rule}
use Rattle.command_words.proofs.options.needed_option.Goals as goal

pub returns-clause-rule : goal.returns-clause-rule
returns-clause-rule c = rw c.required.ensures (ap (λ (r : Rule). record r { required = true }) c.free_option.ensures.rule)
