use Rattle.std.proofs.Common.{rules, sym, ap, ◌∙◌, subst, FitsSigned, w64, to_z, of_z, to_z-of_z, ◌≡◌}
use Rattle.cal_model.specs.declared.path.Path.{Path}
use Rattle.cal_model.specs.Serving.ReadingReplies.{reading_reply}
use Rattle.cal_model.specs.Serving.SeenResources.{scene_seen}
use Rattle.request_checks.specs.Scenes.{IsFoundAt}
use Rattle.request_checks.specs.SharedReplies.{shared_reply}
use Rattle.cal_book.proofs.Answering.OwnRows.{reading-refused, reading-unrefused}
use Rattle.cal_book.proofs.Answering.RefusalRooms.{room-fits}
use Rattle.cal_book.proofs.Answering.ReportPlaces.{path-seen}
use Rattle.cal_book.proofs.Answering.SameReplies.{if_ok_same}
use Rattle.cal_book.specs.Answering.OwnReplies.{own_reply}
use Rattle.cal_book.proofs.reads.reading.answer_reading.Goals as goal

pub refuse-requires : goal.refuse-requires
refuse-requires g c =
    let directory = g.V.View.directory c.args.seen.now.view.now in
    let state = g.V.View.state c.args.seen.now.view.now in
    let path = c.args.event.now.request.path in
    let same = c.scene_at-scene.ensures.scene.path ∙ path-seen directory state c.args.seen.now.who path in
    room-fits path c.in-Some.refusal c.args.room.now
    (λ takes. c.scene_at-scene.ensures.names c.requires.names c.requires.path (subst (IsFoundAt c.scene_at-scene.result) same (c.in-Some.ensures.found takes))) c.requires.room

pub returns-in-Some-clause-reply : goal.returns-in-Some-clause-reply
returns-in-Some-clause-reply g c =
    let directory = g.V.View.directory c.args.seen.now.view.now in
    let state = g.V.View.state c.args.seen.now.view.now in
    let request = c.args.event.now.request in
    let scene = scene_seen directory state c.args.seen.now.who request.path in
    let row = c.in-Some.ensures.row scene c.scene_at-scene.ensures.scene in
    let whole =
    ap (λ (p : Path). shared_reply p c.in-Some.refusal) (sym (path-seen directory state c.args.seen.now.who request.path))
    ∙ sym (reading-refused scene c.args.event.now.moment request (shared_reply scene.path c.in-Some.refusal) (sym row))
    ∙ ap (λ who. reading_reply (scene_seen directory state who request.path) c.args.event.now.moment request) c.requires.who in
    if_ok_same c.refuse.result (shared_reply request.path c.in-Some.refusal) (reading_reply (scene_seen directory state c.args.event.now.who request.path) c.args.event.now.moment request) whole
    c.refuse.ensures.reply

pub returns-in-None-clause-reply : goal.returns-in-None-clause-reply
returns-in-None-clause-reply g c =
    let directory = g.V.View.directory c.args.seen.now.view.now in
    let state = g.V.View.state c.args.seen.now.view.now in
    let request = c.args.event.now.request in
    let scene = scene_seen directory state c.args.seen.now.who request.path in
    let row = c.in-None.ensures.row scene c.scene_at-scene.ensures.scene in
    let moment = c.args.event.now.moment in
    let fits : FitsSigned w64 moment = search rules in
    let kept : to_z w64 (of_z w64 moment) ≡ moment = simp to_z-of_z in
    let whole =
    ap (λ m. own_reply scene m request) kept
    ∙ sym (reading-unrefused scene moment request (sym row))
    ∙ ap (λ who. reading_reply (scene_seen directory state who request.path) moment request) c.requires.who in
    if_ok_same c.answer_unrefused.result (own_reply scene (to_z w64 (of_z w64 moment)) request) (reading_reply (scene_seen directory state c.args.event.now.who request.path) moment request) whole
    c.answer_unrefused.ensures.reply
