use Rattle.std.proofs.Common.{◌≡◌, ◌∙◌, ℕ, List, inr, subst, ap}
use Rattle.std.specs.Prelude.{◌⊎◌, IfSome}
use Rattle.cal_base.specs.World.Outside.{Rose}
use Rattle.cal_model.specs.Users.UsersFile.{Users}
use Rattle.cal_script.specs.UsersTaken.{AreUsersOf}
use Rattle.clap.specs.Words.{Text}
use Rattle.command_words.specs.ServeWords.{TakesKeptServe, users_path}
use Rattle.caldav_server.specs.KeptServers.{ServedFrom}
use Rattle.caldav_server.proofs.kept_serve.run_kept_serve.Goals as goal

pub returns-in-Ok-clause-words_taken : goal.returns-in-Ok-clause-words_taken
returns-in-Ok-clause-words_taken g c = inr (inr (subst TakesKeptServe c.as_slice.ensures c.in-Ok.ensures.taken))

pub returns-in-Ok-clause-journal_fault : goal.returns-in-Ok-clause-journal_fault
returns-in-Ok-clause-journal_fault g c = λ is.
    let ran = c.serve_file in
    let path = c.in-Ok.ensures.said.users_are ∙ ap (λ (words : List Text). users_path words) c.as_slice.ensures in
    subst
    (λ (at : List ℕ). ((ran.new.door ≡ c.args.door.now) × Rose (g.K.Disk.faults c.args.disk) (g.K.Disk.faults ran.result.1))
    ⊎ ((users : Users) × IfSome (g.F.Files.content c.args.files.now at) (λ octets. AreUsersOf octets users) × ServedFrom users ran.result.0.status (g.K.Disk.past c.args.disk) (g.K.Disk.past ran.result.1)))
    path (ran.ensures.journal_fault is)
