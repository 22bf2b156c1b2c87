use Rattle.std.proofs.Common.{List, ◌∷◌, [], ◌++◌, subst}
use Rattle.cal_model.specs.declared.request.Request.{Request}
use Rattle.cal_model.specs.Load.LoadRequests.{put_of}
use Rattle.load_requests.specs.DrawnEvents.{first_requests}
use Rattle.load_requests.specs.WrittenRequests.{HasAsked}
use Rattle.load_requests.proofs.AskingLemmas.{drawn-next, requests-more}
use Rattle.load_requests.proofs.requests.ask_all.Goals as goal

pub ask_put-requires-clause-drawn : goal.ask_put-requires-clause-drawn
ask_put-requires-clause-drawn c =
    let drawn = c.next-drawn.ensures in
    (drawn-next c.args.asker.now.puts c.args.asker.now.session c.puts.number c.puts.draws.number c.next-drawn.new.draws.number c.next-drawn.result c.puts.invariant.draws
    drawn.day.0 drawn.hour.0 drawn.form drawn.minutes.0 drawn.next).0

pub puts-preserved : goal.puts-preserved
puts-preserved c =
    let drawn = c.next-drawn.ensures in
    let puts = c.args.asker.now.puts in
    let session = c.args.asker.now.session in
    let number = c.puts.number in
    record {
      draws = (drawn-next puts session number c.puts.draws.number c.next-drawn.new.draws.number c.next-drawn.result c.puts.invariant.draws
          drawn.day.0 drawn.hour.0 drawn.form drawn.minutes.0 drawn.next).1;
      asked = subst (λ (requests : List Request). HasAsked c.args.asker.now.users.now session requests c.ask_after.new.asking.octets c.ask_after.new.asking.count c.ask_after.new.asking.wire) (requests-more puts session number)
          (c.in_ok-ask_after.ensures (first_requests puts session number ++ put_of puts session number ∷ []) (c.in_ok-ask_put.ensures (first_requests puts session number) c.puts.invariant.asked));
    }
