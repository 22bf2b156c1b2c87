use Rattle.std.proofs.Common.{sym, ◌==◌, arith}
use Rattle.std.proofs.lemmas.Bool.Decides.{nat_tests}
use Rattle.std.proofs.lemmas.List.Sums.{position_or_len_is}
use Rattle.cal_model.proofs.cuts.octets_before.Goals as goal

pub returns-then-other-octet : goal.returns-then-other-octet
returns-then-other-octet c = record { first = sym (position_or_len_is (λ other. other == c.args.octet) c.args.text.now c.octets.place 0 (omega arith) c.octets.invariant (λ within. grind (arith, nat_tests))); within = omega arith }

pub returns : goal.returns
returns c = record { first = sym (position_or_len_is (λ other. other == c.args.octet) c.args.text.now _ 0 (omega arith) (λ k within. c.octets.invariant k (omega arith)) (λ within. absurd (omega arith))); within = omega arith }
