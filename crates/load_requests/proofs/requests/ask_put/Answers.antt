use Rattle.std.proofs.Common.{◌≡◌, ◌∙◌, ◌++◌}
use Rattle.std.specs.Prelude.{codes, decimal}
use Rattle.cal_model.specs.Load.LoadRequests.{put_of}
use Rattle.load_requests.proofs.AskingLemmas.{asked-as, put-is}
use Rattle.load_requests.proofs.requests.ask_put.Goals as goal

pub returns : goal.returns
returns c =
    let name : c.as_bytes.result.now ≡ decimal c.args.number ++ codes ".ics" = c.as_bytes.ensures.value ∙ c.in_ok-name.ensures in
    let event = c.as_slice-2.ensures ∙ c.in_ok-event.ensures in
    asked-as c.args.asker.now.users.now c.args.asker.now.session _ (put_of c.args.asker.now.puts c.args.asker.now.session c.args.number) _ _ _ _ _ _
    (put-is c.args.asker.now.puts c.args.asker.now.session c.args.number c.args.drawn c.as_bytes.result.now c.as_slice-2.result.now name event c.requires.drawn)
    c.ask.result c.ask.ensures
