use Rattle.std.proofs.Common.{◌≡◌, ◌+◌, ◌≤◌, ◌<◌, arith, ap, sym, subst, ◌∙◌, length}
use Rattle.std.specs.Prelude.{IfOk}
use Rattle.std.proofs.lemmas.List.{length-map}
use Rattle.cal_model.specs.declared.reply.Reply.{Reply}
use Rattle.cal_model.specs.Serving.EventReplies.{reply_to}
use Rattle.cal_model.specs.State.ServerState.{Directory}
use Rattle.cal_model.specs.Users.UsersFile.{User}
use Rattle.collections.specs.Kept.{origins_of, state_of}
use Rattle.dav_reports.specs.CalendarObjects.{AreHeldRight}
use Rattle.request_checks.specs.Sightings.{AreShort}
use Rattle.cal_book.specs.Answering.ReadingCost.{reading_cost}
use Rattle.cal_book.specs.Looks.{Sight, look_directory, look_held, look_origins, look_state}
use Rattle.cal_book.proofs.look.Look.read.Goals as goal

pub read_shown-requires-clause-user : goal.read_shown-requires-clause-user
read_shown-requires-clause-user g c =
    let users = c.args.self.now.users in
    let known = c.requires.bookable.user in
    let count = length-map users.people (λ (user : User). user.name) in
    let here : c.args.event.now.who < length (look_directory c.args.self.now).names = omega (arith, known, count) in
    subst (λ (d : Directory). c.args.event.now.who < length d.names) (ap look_directory (sym c.self.view_is) ∙ sym c.self.invariant.same) here

pub read_shown-requires-clause-names : goal.read_shown-requires-clause-names
read_shown-requires-clause-names g c = subst AreShort (ap look_directory (sym c.self.view_is) ∙ sym c.self.invariant.same) c.names_are_short.ensures

pub read_shown-requires-clause-right : goal.read_shown-requires-clause-right
read_shown-requires-clause-right g c home calendar =
    subst (λ (s : Sight). AreHeldRight (look_held s) (origins_of c.self.inside.shown) (state_of c.self.inside.shown) home calendar) c.self.view_is (c.self.invariant.right home calendar)

pub returns-clause-reply : goal.returns-clause-reply
returns-clause-reply g c =
    let event = c.args.event.now in
    let answered =
    ap (λ (d : Directory). reply_to d (state_of c.self.inside.shown) event) c.self.invariant.same
    ∙ ap (λ (s : Sight). reply_to (look_directory s) (look_state s) event) c.self.view_is in
    subst (λ told. IfOk c.read_shown.result (λ (reply : Reply). reply ≡ told)) answered c.read_shown.ensures.reply

pub returns-clause-steps : goal.returns-clause-steps
returns-clause-steps g c =
    let event = c.args.event.now in
    let held = look_held c.args.self.now in
    let cost =
    ap (λ (d : Directory). reading_cost held (origins_of c.self.inside.shown) d (state_of c.self.inside.shown) event) c.self.invariant.same
    ∙ ap (λ (s : Sight). reading_cost held (look_origins s) (look_directory s) (look_state s) event) c.self.view_is in
    subst (λ n. c.read_shown.new.steps ≤ c.args.steps.now + n) cost c.read_shown.ensures.steps
