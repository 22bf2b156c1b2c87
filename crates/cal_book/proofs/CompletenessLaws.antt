-- What is not refused is done.
use Rattle.std.proofs.Common.{◌≡◌, ℕ, Bool, true, false, ◌≤◌, not, ◌&&◌, ◌||◌, List, [], ◌∷◌, ◌++◌, map, length, Option, Some, None, refl, sym, ap, ◌∙◌, subst}
use Rattle.std.specs.Prelude.{is_none, is_some, unwrap_or, option_and_then, ℤ, IsTrue, codes}
use Rattle.std.proofs.lemmas.Bool.{false≢true, le-ltb}
use Rattle.std.proofs.lemmas.List.Elements.{All-head, All-tail}
use Rattle.cal_base.specs.Lists.NameMap.{Named}
use Rattle.cal_model.specs.declared.path.Path.{Path}
use Rattle.cal_model.specs.declared.path.Path.TheVariants.{Root, Principal, Home, Calendar, Object}
use Rattle.cal_model.specs.declared.reply.Refusal.{Refusal}
use Rattle.cal_model.specs.declared.reply.Reply.{Reply}
use Rattle.cal_model.specs.declared.report.ReportRequest.{ReportRequest}
use Rattle.cal_model.specs.declared.report.ReportRequest.TheVariants.{Query, Multiget, FreeBusy}
use Rattle.cal_model.specs.declared.request.Content.{Content}
use Rattle.cal_model.specs.declared.request.Content.TheVariants as content
use Rattle.cal_model.specs.declared.request.Event.{Event}
use Rattle.cal_model.specs.declared.request.Method.{Method}
use Rattle.cal_model.specs.declared.request.Method.TheVariants as method
use Rattle.cal_model.specs.declared.request.Method.TheVariants.{Report, Get, Head}
use Rattle.cal_model.specs.declared.request.Request.{Request}
use Rattle.cal_model.specs.Access.Privileges.{has_all, read, read_free_busy}
use Rattle.cal_model.specs.Bodies.Refusals.{dav_refusal}
use Rattle.cal_model.specs.Objects.ObjectReading.{first_there}
use Rattle.cal_model.specs.Refusals.ChangeRefusals.{own_rows}
use Rattle.cal_model.specs.Refusals.RefusalReplies.{refusal_reply, refuse, when, need_privileges}
use Rattle.cal_model.specs.Refusals.ReportRefusals.{report_faults}
use Rattle.cal_model.specs.Refusals.RequestLimits.{answer_limit}
use Rattle.cal_model.specs.Refusals.SharedRefusals.{fault_of, held, is_conditional, is_missing, is_options, is_object_missing, makes_or_asks, need, shared_rows, unmet}
use Rattle.cal_model.specs.Replies.BareReplies.{bare_reply}
use Rattle.cal_model.specs.Requests.MethodContents.{Suits, is_plain}
use Rattle.cal_model.specs.Requests.Methods.{has_method}
use Rattle.cal_model.specs.Serving.EventReplies.{reply_of, reply_to}
use Rattle.cal_model.specs.Serving.Outcomes.{changed, is_reading, outcome, outcome_where, rows_of_change, scene_by, unless_refused}
use Rattle.cal_model.specs.Serving.ReadingReplies.{answer_of, content_reply, get_reply, reading_reply, report_reply, report_rows, too_long}
use Rattle.cal_model.specs.Sight.Scenes.{Scene, at_both, held_in, calendar_in, object_in, scene_at}
use Rattle.cal_model.specs.Sight.Views.{Sight, sight_of, whole_sight}
use Rattle.cal_model.specs.State.Changes.{change_of}
use Rattle.cal_model.specs.State.ServerState.{Directory, ServerState}
use Rattle.cal_model.proofs.History.ReplayLaws.{NoRow, first_there-none, no_row}
use Rattle.cal_model.proofs.Sight.LookingAlikeLaws.{outcome-reading}
use Rattle.dav_reports.specs.ReportOutcomes.{privilege_needed}
use Rattle.dav_reports.proofs.BusyBodies.{some_there}
use Rattle.cal_book.specs.Answering.OwnReplies.{IsUnrefused, own_reply}
use Rattle.cal_book.specs.Completeness.{NoneRefuses, answered_status, reading_status, rows_of_reading, ReportsAreAnswered, ReadingsAreAnswered, ChangesAreMade}
use Rattle.cal_book.proofs.Answering.OwnRows.{first-behind, need-held, reading-unrefused, unrefused-good, unrefused-met}
use Rattle.cal_book.proofs.Answering.ReportPlaces.{no_privilege}
use Rattle.cal_book.proofs.Checking.PassedLemmas.{not_when}
use Rattle.cal_book.proofs.ReasonLaws.{ShowsAll, change-some, held-sight, scene-shows}

-- Rows

-- rows of which none refuses, one by one; those before others; and faults as rows
rows-none : {X : Type 0} (rows : List (Option X)) → NoneRefuses rows → NoRow rows
rows-none [] none = tt
rows-none (row ∷ rows) none = (All-head (λ row. row ≡ None) row rows none, rows-none rows (All-tail (λ row. row ≡ None) row rows none))

first-front : {X : Type 0} (rows more : List (Option X)) → NoRow (rows ++ more) → NoRow rows
first-front [] more none = tt
first-front (row ∷ rows) more none = (none.0, first-front rows more none.1)

refused-none : (faults : List (Option Refusal)) → NoRow faults → NoRow (map refuse faults)
refused-none [] none = tt
refused-none (fault ∷ faults) none = (ap refuse none.0, refused-none faults none.1)

-- Reports

-- a report is on a calendar
on_calendar : (path : Path) → IsTrue (has_method path Report) → (user : List ℕ) × ((calendar : List ℕ) × (path ≡ Calendar user calendar))
on_calendar Root has = absurd (false≢true has)
on_calendar (Principal user) has = absurd (false≢true has)
on_calendar (Home user) has = absurd (false≢true has)
on_calendar (Calendar user calendar) has = (user, (calendar, refl))
on_calendar (Object user calendar object) has = absurd (false≢true has)

-- a calendar is in a home
both-home : {X : Type 0} (home : Option (Named X)) (name : Option (List ℕ)) (x : X) → at_both home name ≡ Some x → is_none home ≡ false
both-home None name x e = absurd cc
both-home (Some named) name x e = refl

home-there : (directory : Directory) (state : ServerState) (event : Event) (sight : Sight) → (scene_by sight_of directory state event).calendar ≡ Some sight
    → is_none (scene_by sight_of directory state event).home ≡ false
unfolding scene_at
home-there directory state event sight e = both-home _ (calendar_in event.request.path) sight e

-- no shared row refuses a report whose caller holds what it needs
module _ (scene : Scene) (request : Request) (report : ReportRequest) (how : request.method ≡ Report) (what : request.content ≡ content.Report report) where
  met : (privileges : ℕ) → has_all (held_in scene) privileges ≡ true → unmet scene (held privileges) ≡ None
  met privileges holds = ap (λ has. when (not has) (refusal_reply (need_privileges scene.path privileges))) holds

  needs-met : (asked : ReportRequest) → has_all (held_in scene) (privilege_needed asked) ≡ true → unmet scene (need scene Report (content.Report asked)) ≡ None
  needs-met (Query props select filter timezone) holds = met read holds
  needs-met (Multiget props select hrefs) holds = met read holds
  needs-met (FreeBusy range) holds = met read_free_busy holds

  report-unrefused : (user calendar : List ℕ) → scene.path ≡ Calendar user calendar → is_none scene.home ≡ false → is_none scene.calendar ≡ false → has_all (held_in scene) (privilege_needed report) ≡ true
      → IsUnrefused scene request
  unfolding shared_rows
  report-unrefused user calendar at home seen holds =
      let there : when (is_missing request.method scene scene.path) (bare_reply 404) ≡ None =
      (λ i. when (is_missing (how i) scene (at i)) (bare_reply 404)) ∙ (λ i. when (home i || (seen i && not (makes_or_asks Report))) (bare_reply 404)) in
      let needs : unmet scene (need scene request.method request.content) ≡ None =
      (λ i. unmet scene (need scene (how i) (what i))) ∙ needs-met report holds in
      let object : when (is_object_missing request.method scene) (bare_reply 404) ≡ None = ap (λ m. when (is_object_missing m scene) (bare_reply 404)) how in
      let good : fault_of request.content ≡ None = ap fault_of what in
      first_there-none (shared_rows scene request) (there, (needs, (object, (good, (unconditional _ _, (unconditional _ _, tt))))))
    where
      unconditional : (fails : Bool) (reply : Reply) → when (is_conditional request.method scene && fails) reply ≡ None
      unconditional fails reply = ap (λ (path : Path). when ((is_some (object_in path) && not (is_options request.method)) && fails) reply) at

-- what it shows, where the calendar is seen with what it needs
abbrev Seen : Scene → ReportRequest → Type 0
Seen scene report = (sight : Sight) × ((scene.calendar ≡ Some sight) × (has_all sight.held (privilege_needed report) ≡ true))

report-status : (scene : Scene) (moment : ℤ) (report : ReportRequest) → ShowsAll scene → Seen scene report → (report_reply scene moment report).status ≡ answered_status report
report-status scene moment (Query props select filter timezone) shows seen =
    let contents = some_there seen.0.contents ((shows seen.0 seen.1.0).contents seen.1.1) in
    rw seen.1.0 (rw contents.1 refl)
report-status scene moment (Multiget props select hrefs) shows seen =
    let contents = some_there seen.0.contents ((shows seen.0 seen.1.0).contents seen.1.1) in
    rw seen.1.0 (rw contents.1 refl)
report-status scene moment (FreeBusy range) shows seen =
    let class = some_there seen.0.busy ((shows seen.0 seen.1.0).busy seen.1.1) in
    let busy : option_and_then (λ (sight : Sight). sight.busy) scene.calendar ≡ Some class.0 = ap (option_and_then (λ (sight : Sight). sight.busy)) seen.1.0 ∙ class.1 in
    rw (busy, report_reply) refl

-- the reply, once no shared row refuses
module _ (directory : Directory) (state : ServerState) (event : Event) (report : ReportRequest) (how : event.request.method ≡ Report) (what : event.request.content ≡ content.Report report) where
  abbrev seen_scene : Scene
  seen_scene = scene_by sight_of directory state event

  abbrev shown : Reply
  shown = report_reply seen_scene event.moment report

  answer-shown : answer_of seen_scene event.moment event.request event.request.method ≡ shown
  answer-shown = ap (answer_of seen_scene event.moment event.request) how ∙ ap (content_reply seen_scene event.moment) what

  own-shown : NoneRefuses (report_faults report) → length shown.body ≤ answer_limit → own_reply seen_scene event.moment event.request ≡ shown
  own-shown none short =
      let answered = answer_of seen_scene event.moment event.request event.request.method in
      let rows : first_there (report_rows event.request.content ++ (too_long event.request.method answered ∷ [])) ≡ None =
      (λ i. first_there (report_rows (what i) ++ (too_long (how i) (answer-shown i) ∷ [])))
      ∙ first-behind (map refuse (report_faults report)) (too_long Report shown ∷ []) (first_there-none (map refuse (report_faults report)) (refused-none (report_faults report) (rows-none (report_faults report) none)))
      ∙ ap (λ long. first_there (when long (refusal_reply (dav_refusal (codes "number-of-matches-within-limits"))) ∷ [])) (le-ltb answer_limit (length shown.body) short) in
      ap (λ o. unwrap_or o answered) rows ∙ answer-shown

  path-is : seen_scene.path ≡ event.request.path
  unfolding scene_at
  path-is = refl

  report-shown : IsTrue (has_method event.request.path event.request.method) → Seen seen_scene report → has_all (held_in seen_scene) (privilege_needed report) ≡ true
      → NoneRefuses (report_faults report) → length shown.body ≤ answer_limit → reply_to directory state event ≡ shown
  report-shown allowed seen holds none short =
      let at = on_calendar event.request.path (subst (λ m. IsTrue (has_method event.request.path m)) how allowed) in
      let unrefused = report-unrefused seen_scene event.request report how what at.0 at.1.0 (path-is ∙ at.1.1) (home-there directory state event seen.0 seen.1.0) (ap is_none seen.1.0) holds in
      ap (reply_of event.request) (outcome-reading directory state event (ap is_reading how)) ∙ reading-unrefused seen_scene event.moment event.request unrefused ∙ own-shown none short

pub reports_are_answered : ReportsAreAnswered
reports_are_answered users directory state event report bookable what holds none short =
    let scene = scene_by sight_of directory state event in
    let how = (subst (Suits event.request.method) what bookable.suits).0 in
    let seen = held-sight scene (privilege_needed report) (no_privilege report) holds in
    let is = report-shown directory state event report how what bookable.allowed seen holds none short in
    (is, ap (λ (reply : Reply). reply.status) is ∙ report-status scene event.moment report (scene-shows directory state event.who event.request.path) seen)

-- Readings

-- a GET or a HEAD is of an object
get-object : (path : Path) → IsTrue (has_method path Get) → is_some (object_in path) ≡ true
get-object Root has = absurd (false≢true has)
get-object (Principal user) has = absurd (false≢true has)
get-object (Home user) has = absurd (false≢true has)
get-object (Calendar user calendar) has = absurd (false≢true has)
get-object (Object user calendar object) has = refl

head-object : (path : Path) → IsTrue (has_method path Head) → is_some (object_in path) ≡ true
head-object Root has = absurd (false≢true has)
head-object (Principal user) has = absurd (false≢true has)
head-object (Home user) has = absurd (false≢true has)
head-object (Calendar user calendar) has = absurd (false≢true has)
head-object (Object user calendar object) has = refl

-- a method without a content asks for nothing that is answered 207
plain-status : (how : Method) (what : Content) → is_plain how ≡ true → Suits how what → reading_status what ≡ 200
plain-status how content.None plain suits = refl
plain-status how (content.Put media_ok octets) plain suits = refl
plain-status how (content.Find props deep) plain suits = absurd (false≢true (sym (ap is_plain suits.0) ∙ plain))
plain-status how (content.Patch sets) plain suits = refl
plain-status how (content.Make sets) plain suits = refl
plain-status how (content.Acl grants) plain suits = refl
plain-status how (content.Report report) plain suits = absurd (false≢true (sym (ap is_plain suits.0) ∙ plain))
plain-status how (content.Bad refusal) plain suits = refl

-- what a method answers whose content suits it
module _ (scene : Scene) (moment : ℤ) (request : Request) (shows : ShowsAll scene) where
  abbrev answer_with : Method → Content → Reply
  answer_with how what = answer_of scene moment (record request { content = what }) how

  object-there : is_some (object_in scene.path) ≡ true → is_some (object_in scene.path) && is_none scene.object ≡ false → is_none scene.object ≡ false
  object-there of_object there = sym (ap (λ is. is && is_none scene.object) of_object) ∙ there

  get-status : (object : Option (List ℕ)) → scene.object ≡ object → is_none object ≡ false → (get_reply scene).status ≡ 200
  get-status None e there = absurd (false≢true (sym there))
  get-status (Some octets) e there = rw e refl

  find-status : (what : Content) → Suits method.Propfind what → fault_of what ≡ None → (answer_with method.Propfind what).status ≡ reading_status what
  find-status content.None suits good = absurd (false≢true suits)
  find-status (content.Put media_ok octets) suits good = absurd cc
  find-status (content.Find props deep) suits good = refl
  find-status (content.Patch sets) suits good = absurd cc
  find-status (content.Make sets) suits good = absurd cc
  find-status (content.Acl grants) suits good = let never = suits.0 in absurd cc
  find-status (content.Report report) suits good = let never = suits.0 in absurd cc
  find-status (content.Bad refusal) suits good = absurd cc

  asked-status : (what : Content) → Suits Report what → fault_of what ≡ None → unmet scene (need scene Report what) ≡ None → (answer_with Report what).status ≡ reading_status what
  asked-status content.None suits good met = absurd (false≢true suits)
  asked-status (content.Put media_ok octets) suits good met = absurd cc
  asked-status (content.Find props deep) suits good met = let never = suits.0 in absurd cc
  asked-status (content.Patch sets) suits good met = absurd cc
  asked-status (content.Make sets) suits good met = absurd cc
  asked-status (content.Acl grants) suits good met = let never = suits.0 in absurd cc
  asked-status (content.Report report) suits good met =
      report-status scene moment report shows (held-sight scene (privilege_needed report) (no_privilege report) (need-held scene report met))
  asked-status (content.Bad refusal) suits good met = absurd cc

  answer-status : (how : Method) (what : Content) → is_reading how ≡ true → IsTrue (has_method scene.path how) → Suits how what → is_object_missing how scene ≡ false
      → fault_of what ≡ None → unmet scene (need scene how what) ≡ None → (answer_with how what).status ≡ reading_status what
  answer-status method.Options what reads has suits there good met = sym (plain-status method.Options what refl suits)
  answer-status method.Get what reads has suits there good met =
      get-status scene.object refl (object-there (get-object scene.path has) there) ∙ sym (plain-status method.Get what refl suits)
  answer-status method.Head what reads has suits there good met =
      get-status scene.object refl (object-there (head-object scene.path has) there) ∙ sym (plain-status method.Head what refl suits)
  answer-status method.Put what reads has suits there good met = absurd (false≢true reads)
  answer-status method.Delete what reads has suits there good met = absurd (false≢true reads)
  answer-status method.Propfind what reads has suits there good met = find-status what suits good
  answer-status method.Proppatch what reads has suits there good met = absurd (false≢true reads)
  answer-status method.Report what reads has suits there good met = asked-status what suits good met
  answer-status method.Mkcalendar what reads has suits there good met = absurd (false≢true reads)
  answer-status method.Acl what reads has suits there good met = absurd (false≢true reads)

unrefused-there : (scene : Scene) (request : Request) → IsUnrefused scene request → is_object_missing request.method scene ≡ false
unfolding shared_rows
unrefused-there scene request none = not_when _ _ (no_row (shared_rows scene request) none).1.1.0

answer-given : (scene : Scene) (moment : ℤ) (request : Request) → NoRow (rows_of_reading scene moment request) → reading_reply scene moment request ≡ answer_of scene moment request request.method
unfolding reading_reply
answer-given scene moment request none = ap (λ row. unwrap_or row (answer_of scene moment request request.method)) (first_there-none (rows_of_reading scene moment request) none)

path-kept : (directory : Directory) (state : ServerState) (event : Event) → event.request.path ≡ (scene_by sight_of directory state event).path
unfolding scene_at
path-kept directory state event = refl

pub readings_are_answered : ReadingsAreAnswered
readings_are_answered users directory state event bookable reads none =
    let scene = scene_by sight_of directory state event in
    let request = event.request in
    let free = rows-none (rows_of_reading scene event.moment request) none in
    let unrefused = first_there-none (shared_rows scene request) (first-front (shared_rows scene request) _ free) in
    let allowed = subst (λ (path : Path). IsTrue (has_method path request.method)) (path-kept directory state event) bookable.allowed in (
      ap (reply_of request) (outcome-reading directory state event reads) ∙ answer-given scene event.moment request free,
      answer-status scene event.moment request (scene-shows directory state event.who request.path) request.method request.content reads allowed bookable.suits
          (unrefused-there scene request unrefused) (unrefused-good scene request unrefused) (unrefused-met scene request unrefused),
    )

-- Changes

pub changes_are_made : ChangesAreMade
unfolding outcome
changes_are_made users directory state event bookable changes none =
    let scene = scene_by whole_sight directory state event in
    let rows = rows_of_change state scene event.request in
    let free = rows-none rows none in
    let unrefused = first_there-none (shared_rows scene event.request)
    (first-front (shared_rows scene event.request) (own_rows state scene event.request event.request.method) free) in
    let asked = some_there (change_of directory event.request) (change-some directory state event.who event.request unrefused bookable.allowed changes bookable.suits) in (
      asked.0,
      asked.1,
      ap (λ reads. outcome_where reads directory state event) changes
          ∙ ap (λ row. unless_refused row (changed state scene event.request.method (change_of directory event.request))) (first_there-none rows free)
          ∙ ap (changed state scene event.request.method) asked.1,
    )
