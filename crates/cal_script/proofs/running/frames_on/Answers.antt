use Rattle.std.proofs.Common.{ap₂, sym, subst, ◌∙◌}
use Rattle.std.proofs.lemmas.List.Elements.{All-contains_itself}
use Rattle.cal_model.specs.History.Journal.{IsLegal}
use Rattle.cal_model.specs.State.ServerState.{directory_of}
use Rattle.cal_book.specs.Cores.{state_in}
use Rattle.cal_script.specs.EnteredRequests.{IsEnteredBy}
use Rattle.cal_script.specs.Standings.{running}
use Rattle.cal_script.proofs.EnteredLemmas.{run_entered_none}
use Rattle.cal_script.proofs.RunLemmas.{wrote_none, same_state, ended_later, left_later, told_book}
use Rattle.cal_script.proofs.ScriptLemmas.{sound_start, stands_start}
use Rattle.cal_script.proofs.running.frames_on.Goals as goal

pub returns-in_default-clause-ended : goal.returns-in_default-clause-ended
returns-in_default-clause-ended g c = wrote_none _ _ (g.I.Source.left c.args.input.now) (g.O.Sink.written c.args.output.now)

pub returns-in_default-clause-entered : goal.returns-in_default-clause-entered
returns-in_default-clause-entered g c = run_entered_none _ _ _

pub returns-in_default-clause-claims : goal.returns-in_default-clause-claims
returns-in_default-clause-claims g c = All-contains_itself _

pub returns-in_default-clause-legal : goal.returns-in_default-clause-legal
returns-in_default-clause-legal g c =
    let desk = c.args.desk.now in
    let book = g.B.Desk.book desk in
    let passes = sym (g.met.B.Desk.tests book.users book.work.journal) ∙ (ap₂ g.B.Keeps.lawful (sym (g.met.B.Desk.bases desk)) (sym (g.met.B.Desk.journals desk)) ∙ c.entries-entries.ensures.lawful) in
    (told_book c.args.users.now book c.journals_are_told.ensures c.requires.users passes).legal

pub run_under-end-requires-clause-sound : goal.run_under-end-requires-clause-sound
run_under-end-requires-clause-sound g c κs bounds =
    let desk = c.args.desk.now in
    let book = g.B.Desk.book desk in
    let passes = sym (g.met.B.Desk.tests book.users book.work.journal) ∙ (ap₂ g.B.Keeps.lawful (sym (g.met.B.Desk.bases desk)) (sym (g.met.B.Desk.journals desk)) ∙ c.entries-entries.ensures.lawful) in
    (book.work.out, sound_start c.args.users.now (running book c.in-Ok.script) (told_book c.args.users.now book c.journals_are_told.ensures c.requires.users passes) c.in-Ok.ensures.connections c.in-Ok.ensures.slots)

pub run_under-end-requires-clause-stands : goal.run_under-end-requires-clause-stands
run_under-end-requires-clause-stands g c κs bounds = stands_start (running (g.B.Desk.book c.args.desk.now) c.in-Ok.script) c.in-Ok.ensures.connections

pub returns-clause-ended : goal.returns-clause-ended
returns-clause-ended g c =
    ended_later c.args.users.now _ (state_in (g.B.Desk.book c.run_under-end.new.desk)) (state_in (g.B.Desk.book c.give_up_all.new.desk)) c.run_under-end.result _
    (same_state (g.B.Desk.book c.run_under-end.new.desk) (g.B.Desk.book c.give_up_all.new.desk) c.give_up_all.ensures.users c.give_up_all.ensures.journal) c.run_under-end.ensures.ended

pub returns-clause-entered : goal.returns-clause-entered
returns-clause-entered g c =
    subst (IsEnteredBy c.args.users.now (g.I.Source.left c.args.input.now) (g.B.Desk.book c.args.desk.now).work.journal) (sym c.give_up_all.ensures.journal) c.run_under-end.ensures.entered

pub returns-clause-broken : goal.returns-clause-broken
returns-clause-broken g c = left_later c.run_under-end.result _ _ _ _ _ _ c.give_up_all.ensures.broken c.give_up_all.ensures.never_falls c.run_under-end.ensures.broken

pub returns-clause-users : goal.returns-clause-users
returns-clause-users g c =
    let desk = c.args.desk.now in
    let book = g.B.Desk.book desk in
    let passes = sym (g.met.B.Desk.tests book.users book.work.journal) ∙ (ap₂ g.B.Keeps.lawful (sym (g.met.B.Desk.bases desk)) (sym (g.met.B.Desk.journals desk)) ∙ c.entries-entries.ensures.lawful) in
    let started = sound_start c.args.users.now (running book c.in-Ok.script) (told_book c.args.users.now book c.journals_are_told.ensures c.requires.users passes) c.in-Ok.ensures.connections c.in-Ok.ensures.slots in
    let sound = c.run_under-end.ensures.sound book.work.out started in
    c.give_up_all.ensures.users ∙ sound.book_of.users_are

pub returns-clause-legal : goal.returns-clause-legal
returns-clause-legal g c =
    let desk = c.args.desk.now in
    let book = g.B.Desk.book desk in
    let passes = sym (g.met.B.Desk.tests book.users book.work.journal) ∙ (ap₂ g.B.Keeps.lawful (sym (g.met.B.Desk.bases desk)) (sym (g.met.B.Desk.journals desk)) ∙ c.entries-entries.ensures.lawful) in
    let started = sound_start c.args.users.now (running book c.in-Ok.script) (told_book c.args.users.now book c.journals_are_told.ensures c.requires.users passes) c.in-Ok.ensures.connections c.in-Ok.ensures.slots in
    let sound = c.run_under-end.ensures.sound book.work.out started in
    subst (IsLegal (directory_of c.args.users.now)) (sym c.give_up_all.ensures.journal) sound.book_of.legal

pub returns-clause-claims : goal.returns-clause-claims
returns-clause-claims g c =
    let desk = c.args.desk.now in
    let book = g.B.Desk.book desk in
    let passes = sym (g.met.B.Desk.tests book.users book.work.journal) ∙ (ap₂ g.B.Keeps.lawful (sym (g.met.B.Desk.bases desk)) (sym (g.met.B.Desk.journals desk)) ∙ c.entries-entries.ensures.lawful) in
    let started = sound_start c.args.users.now (running book c.in-Ok.script) (told_book c.args.users.now book c.journals_are_told.ensures c.requires.users passes) c.in-Ok.ensures.connections c.in-Ok.ensures.slots in
    let sound = c.run_under-end.ensures.sound book.work.out started in
    c.give_up_all.ensures.out book.work.out sound.held
