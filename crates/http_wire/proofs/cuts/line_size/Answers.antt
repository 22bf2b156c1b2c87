use Rattle.std.proofs.Common.{ap, sym, ◌∙◌, ◌+◌}
use Rattle.std.specs.Prelude.{option_map}
use Rattle.http_wire.proofs.Places.{line_size_at}
use Rattle.http_wire.proofs.cuts.line_size.Goals as goal

pub returns-in-Some-clause-size : goal.returns-in-Some-clause-size
returns-in-Some-clause-size c = ap (option_map (λ n. n + 1)) c.in-Some.ensures.place ∙ sym (line_size_at c.args.octets.now)

pub returns-in-None-clause-size : goal.returns-in-None-clause-size
returns-in-None-clause-size c = ap (option_map (λ n. n + 1)) c.in-None.ensures.place ∙ sym (line_size_at c.args.octets.now)
