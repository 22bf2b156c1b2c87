use Rattle.std.proofs.Common.{◌≡◌, ◌*◌}
use Rattle.cal_model.specs.Load.LoadRequests.{after_draws, first_number}
use Rattle.load_requests.specs.DrawnEvents.{first_requests}
use Rattle.load_requests.specs.WrittenRequests.{HasAsked}
use Rattle.load_requests.proofs.requests.ask_all.Given as goal

abbrev pub invariant-puts : goal.invariant-puts
invariant-puts l = record {
  draws : l.draws.number ≡ after_draws (4 * l.number) (first_number l.asker.puts l.asker.session);
  asked : HasAsked l.asker.users.now l.asker.session (first_requests l.asker.puts l.asker.session l.number) l.asking.octets l.asking.count l.asking.wire;
}
