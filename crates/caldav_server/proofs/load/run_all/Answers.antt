use Rattle.std.proofs.Common.{List, subst}
use Rattle.std.specs.List.{AllZip}
use Rattle.caldav_server.specs.LoadDone.{HasDone}
use Rattle.caldav_server.specs.declared.load_sessions.Job.{Job}
use Rattle.caldav_server.proofs.LoadWhole.{all-summed, all-back}
use Rattle.caldav_server.proofs.load.run_all.Goals as goal

pub joined-tally-requires-clause-back : goal.joined-tally-requires-clause-back
joined-tally-requires-clause-back g c =
    let users = c.args.users.now in
    let puts = c.args.words.puts in
    let done = c.in_ok-done.done.items in
    all-back users puts c.args.service.now c.fill_jobs.new.jobs done c.in_ok-fill_jobs.ensures.made.each
    (subst (λ (jobs : List Job). AllZip (HasDone users puts) jobs done) c.into_vec.ensures c.in_ok-done.ensures)

pub returns-then-tally : goal.returns-then-tally
returns-then-tally g c =
    let users = c.args.users.now in
    let puts = c.args.words.puts in
    let done = c.in_ok-done.done.items in
    let made = c.in_ok-fill_jobs.ensures in
    all-summed users puts c.args.words.sessions c.args.service.now c.fill_jobs.new.pass c.joined-tally.new.pass c.fill_jobs.new.jobs done c.joined-tally.result
    c.requires.named c.requires.found c.requires.words.1 made.made made.jobs
    (subst (λ (jobs : List Job). AllZip (HasDone users puts) jobs done) c.into_vec.ensures c.in_ok-done.ensures)
    c.joined-tally.ensures.joined (c.joined-tally.ensures.tally c.if-tally.true)
