use Rattle.cal_model.specs.Load.LoadSummary.{load_summary}
use Rattle.caldav_server.proofs.LoadPrinted.{loaded-so}
use Rattle.caldav_server.proofs.load.run_load.Goals as goal

pub returns-in-Ok-clause-loaded : goal.returns-in-Ok-clause-loaded
returns-in-Ok-clause-loaded g c =
    let said = c.in-Ok.ensures.said in
    loaded-so c.as_slice.result.now c.args.words.now (load_summary c.in-Ok.words.puts c.in-Ok.words.sessions) c.print_load-status.result _ _ _ _
    c.as_slice.ensures c.in-Ok.ensures.taken (λ i. load_summary (said.puts_are i) (said.sessions_are i)) c.print_load-status.ensures.printed
