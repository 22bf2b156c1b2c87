-- Each reply has a status with a reason phrase, so that its octets can be written; and none to a request that can be booked has that of an unknown method.
use Rattle.std.proofs.Common.{◌≡◌, ◌≢◌, ℕ, zero, suc, ◌<◌, Bool, true, false, not, ◌&&◌, ◌||◌, cond, List, [], ◌∷◌, ◌++◌, map, length, Option, Some, None, refl, sym, ap, ◌∙◌, subst, arith, rules}
use Rattle.std.specs.List.{AllByRecursion}
use Rattle.std.specs.Prelude.{◌==◌, is_some, is_none, int_lt, codes, if◌then◌else◌, unwrap_or, flat_map, slice_get, ℤ, option_and_then, option_map, Ok, Err, IsSome, IsTrue}
use Rattle.std.specs.BTreeMap.{is_at}
use Rattle.std.specs.List.{enumerate_from}
use Rattle.std.specs.Option.{option_map_or}
use Rattle.std.proofs.lemmas.Bool.{false≢true, and_parts}
use Rattle.cal_base.specs.Lists.NameMap.{Named, name_order, value_at}
use Rattle.cal_model.specs.declared.object.Class.{Class}
use Rattle.cal_model.specs.declared.privilege.Grant.{Grant}
use Rattle.cal_model.specs.declared.property.PropName.{PropName}
use Rattle.cal_model.specs.declared.property.PropSet.{PropSet}
use Rattle.cal_model.specs.declared.reply.Cond.{Cond}
use Rattle.cal_model.specs.declared.reply.Cond.TheVariants as cond
use Rattle.cal_model.specs.declared.reply.Refusal.{Refusal}
use Rattle.cal_model.specs.declared.reply.Reply.{Reply}
use Rattle.cal_model.specs.declared.report.ReportRequest.{ReportRequest}
use Rattle.cal_model.specs.declared.report.ReportRequest.TheVariants.{Query, Multiget, FreeBusy}
use Rattle.cal_model.specs.declared.request.Content.{Content}
use Rattle.cal_model.specs.declared.request.Content.TheVariants as content
use Rattle.cal_model.specs.declared.request.Event.{Event}
use Rattle.cal_model.specs.declared.request.Method.{Method}
use Rattle.cal_model.specs.declared.request.Method.TheVariants as method
use Rattle.cal_model.specs.declared.request.Request.{Request}
use Rattle.cal_model.specs.declared.row.Range.{Range}
use Rattle.cal_model.specs.Words.Limits.{first_date, last_date}
use Rattle.cal_model.specs.Objects.ObjectReading.{first_there, not_calendar, not_resource, date_outside, read_object}
use Rattle.cal_model.specs.State.ServerState.{Directory, Calendar, Home, ServerState, user_number}
use Rattle.cal_model.specs.Access.Privileges.{has_all, read, read_free_busy}
use Rattle.cal_model.specs.Sight.Views.{Contents, Sight, View, contents_of, served_class, only_where, sight_of, whole_sight, visible_calendars, home_by, seen_by, view_by}
use Rattle.cal_model.specs.State.PropertyTexts.{Texts}
use Rattle.cal_model.specs.Refusals.RefusalReplies.{refusal_reply, refused_where, when, refuse}
use Rattle.cal_model.specs.Bodies.Refusals.{caldav_refusal}
use Rattle.cal_model.specs.Properties.PropertyTable.{Setting, protected, text, zone, kinds}
use Rattle.cal_model.specs.Properties.Settings.{setting_table, setting_fault, faults_of_value, value_faults, texts_after, faults_of_all, first_fault}
use Rattle.cal_model.specs.Refusals.ReportRefusals.{report_faults, range_refusal, zone_refusal, zone_text}
use Rattle.cal_model.specs.Refusals.Preconditions.{Reading, put_table, date_refusal}
use Rattle.cal_model.specs.State.Changes.{Change, change_of, change_at, change_of_object, change_of_calendar}
use Rattle.cal_model.specs.Sight.Scenes.{Scene, scene_at, at_both, visible_home, held_in, user_in, calendar_in}
use Rattle.cal_model.specs.Refusals.SharedRefusals.{shared_rows, is_missing, unmet, Need, nothing, held, owned, need, fault_of, not_modified, is_get}
use Rattle.cal_model.specs.Serving.ReadingReplies.{reading_reply, answer_of, report_reply, reply_over_contents, get_reply, report_rows}
use Rattle.cal_model.specs.Refusals.ChangeRefusals.{own_rows, put_rows, put_faults, make_rows, patch_rows, acl_rows, contents_in}
use Rattle.cal_model.specs.Serving.Outcomes.{Outcome, accepted, unchanged, outcome, outcome_where, changed, changing_outcome, unless_refused, accepted_status, scene_by, is_reading}
use Rattle.cal_model.specs.Serving.EventReplies.{reply_of, reply_to, reply_to_change}
use Rattle.std.specs.Map.{lookup}
use Rattle.std.specs.List.{Contains}
use Rattle.cal_model.specs.declared.path.Path.{Path}
use Rattle.cal_model.specs.declared.path.Path.TheVariants.{Root, Principal as PrincipalPath, Home as HomePath, Calendar as CalendarPath, Object as ObjectPath}
use Rattle.cal_model.specs.declared.wire.WireRequest.{WireRequest}
use Rattle.cal_model.specs.Paths.TargetPaths.{target_path}
use Rattle.cal_model.specs.Replies.BareReplies.{bare_reply}
use Rattle.cal_model.specs.Replies.Statuses.{reasons, reason}
use Rattle.cal_model.specs.Requests.AskedRequests.{Asked, asked, refused, not_allowed, request_at, asked_by, asked_with, asked_of}
use Rattle.cal_model.specs.Requests.BookableRequests.{IsBookable}
use Rattle.cal_model.specs.Requests.MethodContents.{Suits, refusals_of}
use Rattle.cal_model.specs.Requests.Methods.{has_method, method_of}
use Rattle.cal_model.specs.Users.Credentials.{authenticated}
use Rattle.cal_model.specs.Users.UsersFile.{Users}
use Rattle.cal_model.specs.Words.Lists.{is_empty}
use Rattle.cal_model.proofs.History.ReplayLaws.{no_row}
use Rattle.dav_reports.specs.ReportOutcomes.{privilege_needed}
use Rattle.dav_reports.proofs.BusyBodies.{some_there}
use Rattle.cal_book.specs.Answering.OwnReplies.{IsUnrefused}
use Rattle.cal_book.specs.ReplyReasons.{HasReason, RepliesHaveReasons}
use Rattle.cal_book.proofs.Answering.OwnRows.{first-behind, first-before, reading-refused, reading-unrefused, unrefused-good, unrefused-met, need-held}
use Rattle.cal_book.proofs.Checking.PassedLemmas.{named, not_when}
use Rattle.cal_book.proofs.RequestLemmas.{other-status as no_want-status}

-- a status has a reason phrase
abbrev pub Known : ℕ → Type 0
Known status = is_some (lookup (λ known. known == status) reasons) ≡ true

-- and is not that of an unknown method
abbrev pub Fine : ℕ → Type 0
Fine status = (not (status == 501) && is_some (lookup (λ known. known == status) reasons)) ≡ true

known : (status : ℕ) → Fine status → Known status
known status fine = (and_parts _ _ fine).1

other-status : (status : ℕ) → Fine status → status ≢ 501
other-status status fine is = false≢true (sym (ap (λ n. not (n == 501)) is) ∙ (and_parts _ _ fine).0)

-- of a row, and of a refusal that may be there
abbrev pub FineRow : Option Reply → Type 0
FineRow None = Unit {0}
FineRow (Some reply) = Fine reply.status

abbrev pub FineRefusal : Option Refusal → Type 0
FineRefusal None = Unit {0}
FineRefusal (Some refusal) = Fine refusal.status

-- Rows

when-fine : (applies : Bool) (reply : Reply) → Fine reply.status → FineRow (when applies reply)
when-fine true reply fine = fine
when-fine false reply fine = tt

refused_where-fine : (applies : Bool) (refusal : Refusal) → Fine refusal.status → FineRefusal (refused_where applies refusal)
refused_where-fine true refusal fine = fine
refused_where-fine false refusal fine = tt

refusal_reply-status : (status : ℕ) (condition : Cond) → (refusal_reply (record { status = status; cond = condition })).status ≡ status
refusal_reply-status status cond.None = refl
refusal_reply-status status (cond.Dav octets) = refl
refusal_reply-status status (cond.Cal octets) = refl

refuse-fine : (refusal : Option Refusal) → FineRefusal refusal → FineRow (refuse refusal)
refuse-fine None fine = tt
refuse-fine (Some refusal) fine = subst Fine (sym (refusal_reply-status refusal.status refusal.cond)) fine

refuse_all-fine : (refusals : List (Option Refusal)) → AllByRecursion FineRefusal refusals → AllByRecursion FineRow (map refuse refusals)
refuse_all-fine [] fine = tt
refuse_all-fine (r ∷ rs) fine = (refuse-fine r fine.0, refuse_all-fine rs fine.1)

first-fine : (rows : List (Option Reply)) → AllByRecursion FineRow rows → FineRow (first_there rows)
first-fine [] fine = tt
first-fine (None ∷ rows) fine = first-fine rows fine.1
first-fine (Some reply ∷ rows) fine = fine.0

first_refusal-fine : (rows : List (Option Refusal)) → AllByRecursion FineRefusal rows → FineRefusal (first_there rows)
first_refusal-fine [] fine = tt
first_refusal-fine (None ∷ rows) fine = first_refusal-fine rows fine.1
first_refusal-fine (Some refusal ∷ rows) fine = fine.0

both-fine : (xs ys : List (Option Reply)) → AllByRecursion FineRow xs → AllByRecursion FineRow ys → AllByRecursion FineRow (xs ++ ys)
both-fine [] ys fine more = more
both-fine (x ∷ xs) ys fine more = (fine.0, both-fine xs ys fine.1 more)

-- The shared rows

unmet-fine : (scene : Scene) (n : Need) → FineRow (unmet scene n)
unmet-fine scene nothing = tt
unmet-fine scene (held privileges) = when-fine _ _ refl
unmet-fine scene (owned privileges) = when-fine _ _ refl

-- what was found wrong when the request was read is another status
abbrev pub FineContent : Content → Type 0
FineContent (content.Bad refusal) = Fine refusal.status
FineContent other = Unit {0}

fault_of-fine : (c : Content) → FineContent c → FineRow (fault_of c)
fault_of-fine content.None fine = tt
fault_of-fine (content.Put media_ok octets) fine = tt
fault_of-fine (content.Find props deep) fine = tt
fault_of-fine (content.Patch sets) fine = tt
fault_of-fine (content.Make sets) fine = tt
fault_of-fine (content.Acl grants) fine = tt
fault_of-fine (content.Report report) fine = tt
fault_of-fine (content.Bad refusal) fine = refuse-fine (Some refusal) fine

not_modified-fine : (object : Option (List ℕ)) → Fine (not_modified object).status
not_modified-fine None = refl
not_modified-fine (Some octets) = refl

either-fine : (test : Bool) (a b : Reply) → Fine a.status → Fine b.status → Fine (if test then a else b).status
either-fine true a b fine other = fine
either-fine false a b fine other = other

shared-fine : (scene : Scene) (request : Request) → FineContent request.content → AllByRecursion FineRow (shared_rows scene request)
unfolding shared_rows
shared-fine scene request fine = (
  when-fine _ _ refl,
  (
    unmet-fine scene _,
    (
      when-fine _ _ refl,
      (
        fault_of-fine request.content fine,
        (
          when-fine _ _ refl,
          (when-fine _ _ (either-fine (is_get request.method) _ _ (not_modified-fine scene.object) refl), tt),
        ),
      ),
    ),
  ),
)

-- What is seen

-- what is held shows what it is to show
pub record ShowsHeld (sight : Sight) : Type 0 where
  pub contents : has_all sight.held read ≡ true → IsSome sight.contents
  pub busy : has_all sight.held read_free_busy ≡ true → IsSome sight.busy

abbrev pub ShowsAll : Scene → Type 0
ShowsAll scene = (sight : Sight) → scene.calendar ≡ Some sight → ShowsHeld sight

abbrev AllShow : Named Sight → Type 0
AllShow named = AllByRecursion (λ (entry : List ℕ × Sight). ShowsHeld entry.1) named

shown-some : {X : Type 0} (shown : Bool) (x : X) → shown ≡ true → IsSome (only_where shown x)
shown-some shown x is = subst (λ b. IsSome (only_where b x)) (sym is) refl

calendars-show : (directory : Directory) (owner who : ℕ) (calendars : Named Calendar) → AllShow (map (λ (entry : List ℕ × Calendar). (entry.0, sight_of directory owner who entry.1)) calendars)
calendars-show directory owner who [] = tt
calendars-show directory owner who (entry ∷ calendars) =
    (record { contents = shown-some _ (contents_of entry.1); busy = shown-some _ (served_class entry.1) }, calendars-show directory owner who calendars)

homes-show : (directory : Directory) (who : ℕ) (homes : List (ℕ × Home)) → AllByRecursion AllShow (map (home_by sight_of directory who) homes)
homes-show directory who [] = tt
homes-show directory who (home ∷ homes) = (calendars-show directory home.0 who (visible_calendars directory home.0 who home.1), homes-show directory who homes)

home-shows : (view : View) (user : ℕ) (named : Named Sight) → AllByRecursion AllShow view → slice_get view user ≡ Some named → AllShow named
home-shows [] user named all e = absurd cc
home-shows (home ∷ homes) zero named all e = let same : home ≡ named = cc in subst AllShow same all.0
home-shows (home ∷ homes) (suc user) named all e = home-shows homes user named all.1 e

value-shows : (named : Named Sight) (name : List ℕ) (sight : Sight) → AllShow named → value_at named name ≡ Some sight → ShowsHeld sight
value-shows [] name sight all e = absurd cc
value-shows (entry ∷ named) name sight all e = by (is_at (name_order name) entry.0) (value-shows named name sight all.1) e where
  by : (b : Bool) → (value_at named name ≡ Some sight → ShowsHeld sight) → cond b (Some entry.1) (value_at named name) ≡ Some sight → ShowsHeld sight
  by true later e = let same : entry.1 ≡ sight = cc in subst ShowsHeld same all.0
  by false later e = later e

abbrev visible_of : ℕ → ℕ → Option (Named Sight) → Option (Named Sight)
visible_of who user home = option_and_then (λ (calendars : Named Sight). if (user == who) || not (is_empty calendars) then Some calendars else None) home

module _ (directory : Directory) (state : ServerState) (who : ℕ) (path : Path) where
  abbrev view : View
  view = seen_by directory state who

  at-shows : (home : Option (Named Sight)) (name : Option (List ℕ)) (sight : Sight) → ((named : Named Sight) → home ≡ Some named → AllShow named) → at_both home name ≡ Some sight → ShowsHeld sight
  at-shows None name sight all e = absurd cc
  at-shows (Some named) None sight all e = absurd cc
  at-shows (Some named) (Some name) sight all e = value-shows named name sight (all named refl) e

  visible-shows : (user : Option ℕ) (named : Named Sight) → option_and_then (visible_home view who) user ≡ Some named → AllShow named
  visible-shows None named e = absurd cc
  visible-shows (Some user) named e = by (slice_get view user) refl e where
    visible : (test : Bool) (found : Named Sight) → AllShow found → (if test then Some found else None) ≡ Some named → AllShow named
    visible true found all e = let same : found ≡ named = cc in subst AllShow same all
    visible false found all e = absurd cc

    by : (home : Option (Named Sight)) → slice_get view user ≡ home → visible_of who user home ≡ Some named → AllShow named
    by None is e = absurd cc
    by (Some found) is e = visible ((user == who) || not (is_empty found)) found (home-shows view user found (homes-show directory who (enumerate_from 0 state.homes)) is) e

  pub scene-shows : ShowsAll (scene_at directory view who path)
  unfolding scene_at
  scene-shows sight e = at-shows (option_and_then (visible_home view who) (option_and_then (user_number directory) (user_in path))) (calendar_in path) sight
      (visible-shows (option_and_then (user_number directory) (user_in path))) e

-- Reading

if-fine : (early : Bool) (first : Refusal) (other : Option Refusal) → Fine first.status → FineRefusal other → FineRefusal (if early then Some first else other)
if-fine true first other fine more = fine
if-fine false first other fine more = more

ranges-fine : (ranges : List Range) → AllByRecursion FineRefusal (map range_refusal ranges)
ranges-fine [] = tt
ranges-fine (range ∷ more) = (
  if-fine (int_lt range.start.0 first_date) (caldav_refusal (codes "min-date-time")) (refused_where (int_lt last_date range.end.0) (caldav_refusal (codes "max-date-time"))) refl
      (refused_where-fine (int_lt last_date range.end.0) (caldav_refusal (codes "max-date-time")) refl),
  ranges-fine more,
)

zone-fine : (octets : Option (List ℕ)) → FineRefusal (option_and_then zone_refusal octets)
zone-fine None = tt
zone-fine (Some octets) = refused_where-fine _ _ refl

report_faults-fine : (report : ReportRequest) → AllByRecursion FineRefusal (report_faults report)
report_faults-fine report = (zone-fine (zone_text report), ranges-fine _)

report_rows-fine : (c : Content) → AllByRecursion FineRow (report_rows c)
report_rows-fine content.None = tt
report_rows-fine (content.Put media_ok octets) = tt
report_rows-fine (content.Find props deep) = tt
report_rows-fine (content.Patch sets) = tt
report_rows-fine (content.Make sets) = tt
report_rows-fine (content.Acl grants) = tt
report_rows-fine (content.Report report) = refuse_all-fine (report_faults report) (report_faults-fine report)
report_rows-fine (content.Bad refusal) = tt

get-fine : (scene : Scene) (object : Option (List ℕ)) → scene.object ≡ object → Fine (get_reply scene).status
get-fine scene None e = rw e refl
get-fine scene (Some octets) e = rw e refl

over-fine : (report : ReportRequest) (scene : Scene) (sight : Sight) (contents : Contents) → privilege_needed report ≡ read → scene.calendar ≡ Some sight → sight.contents ≡ Some contents
    → Fine (reply_over_contents scene report).status
over-fine (Query props select filter tz) scene sight contents needs e c = rw e (rw c refl)
over-fine (Multiget props select hrefs) scene sight contents needs e c = rw e (rw c refl)
over-fine (FreeBusy range) scene sight contents needs e c = absurd (omega (arith, needs))

busy-fine : (scene : Scene) (moment : ℤ) (range : Range) (class : ℤ → Option Class) → option_and_then (λ (sight : Sight). sight.busy) scene.calendar ≡ Some class
    → Fine (report_reply scene moment (FreeBusy range)).status
busy-fine scene moment range class e = rw (e, report_reply) refl

abbrev holds_all : ℕ → Option Sight → Bool
holds_all privilege seen = has_all (option_map_or (λ (sight : Sight). sight.held) seen 0) privilege

-- who holds a privilege on what is at a path sees a calendar there
pub held-sight : (scene : Scene) (privilege : ℕ) → has_all 0 privilege ≡ false → has_all (held_in scene) privilege ≡ true
    → (sight : Sight) × ((scene.calendar ≡ Some sight) × (has_all sight.held privilege ≡ true))
held-sight scene privilege none holds = by scene.calendar refl where
  by : (seen : Option Sight) → scene.calendar ≡ seen → (sight : Sight) × ((scene.calendar ≡ Some sight) × (has_all sight.held privilege ≡ true))
  by None e = absurd (false≢true (sym none ∙ sym (ap (holds_all privilege) e) ∙ holds))
  by (Some sight) e = (sight, (e, sym (ap (holds_all privilege) e) ∙ holds))

report-fine : (scene : Scene) (moment : ℤ) (report : ReportRequest) → ShowsAll scene → has_all (held_in scene) (privilege_needed report) ≡ true → Fine (report_reply scene moment report).status
report-fine scene moment (Query props select filter tz) shows holds =
    let seen = held-sight scene read refl holds in
    let contents = some_there seen.0.contents ((shows seen.0 seen.1.0).contents seen.1.1) in
    over-fine (Query props select filter tz) scene seen.0 contents.0 refl seen.1.0 contents.1
report-fine scene moment (Multiget props select hrefs) shows holds =
    let seen = held-sight scene read refl holds in
    let contents = some_there seen.0.contents ((shows seen.0 seen.1.0).contents seen.1.1) in
    over-fine (Multiget props select hrefs) scene seen.0 contents.0 refl seen.1.0 contents.1
report-fine scene moment (FreeBusy range) shows holds =
    let seen = held-sight scene read_free_busy refl holds in
    let class = some_there seen.0.busy ((shows seen.0 seen.1.0).busy seen.1.1) in
    busy-fine scene moment range class.0 (ap (option_and_then (λ (sight : Sight). sight.busy)) seen.1.0 ∙ class.1)

-- what a method answers whose content suits it
module _ (scene : Scene) (moment : ℤ) (request : Request) (shows : ShowsAll scene) where
  abbrev answer_with : Method → Content → Reply
  answer_with how what = answer_of scene moment (record request { content = what }) how

  find-fine : (what : Content) → Suits method.Propfind what → fault_of what ≡ None → Fine (answer_with method.Propfind what).status
  find-fine content.None suits good = absurd (false≢true suits)
  find-fine (content.Put media_ok octets) suits good = absurd cc
  find-fine (content.Find props deep) suits good = refl
  find-fine (content.Patch sets) suits good = absurd cc
  find-fine (content.Make sets) suits good = absurd cc
  find-fine (content.Acl grants) suits good = let never = suits.0 in absurd cc
  find-fine (content.Report report) suits good = let never = suits.0 in absurd cc
  find-fine (content.Bad refusal) suits good = absurd cc

  asked_report-fine : (what : Content) → Suits method.Report what → fault_of what ≡ None → unmet scene (need scene method.Report what) ≡ None → Fine (answer_with method.Report what).status
  asked_report-fine content.None suits good met = absurd (false≢true suits)
  asked_report-fine (content.Put media_ok octets) suits good met = absurd cc
  asked_report-fine (content.Find props deep) suits good met = let never = suits.0 in absurd cc
  asked_report-fine (content.Patch sets) suits good met = absurd cc
  asked_report-fine (content.Make sets) suits good met = absurd cc
  asked_report-fine (content.Acl grants) suits good met = let never = suits.0 in absurd cc
  asked_report-fine (content.Report report) suits good met = report-fine scene moment report shows (need-held scene report met)
  asked_report-fine (content.Bad refusal) suits good met = absurd cc

  answer-fine : (how : Method) (what : Content) → is_reading how ≡ true → Suits how what → fault_of what ≡ None → unmet scene (need scene how what) ≡ None → Fine (answer_with how what).status
  answer-fine method.Options what reads suits good met = refl
  answer-fine method.Get what reads suits good met = get-fine scene scene.object refl
  answer-fine method.Head what reads suits good met = get-fine scene scene.object refl
  answer-fine method.Put what reads suits good met = absurd (false≢true reads)
  answer-fine method.Delete what reads suits good met = absurd (false≢true reads)
  answer-fine method.Propfind what reads suits good met = find-fine what suits good
  answer-fine method.Proppatch what reads suits good met = absurd (false≢true reads)
  answer-fine method.Report what reads suits good met = asked_report-fine what suits good met
  answer-fine method.Mkcalendar what reads suits good met = absurd (false≢true reads)
  answer-fine method.Acl what reads suits good met = absurd (false≢true reads)

or-fine : (row : Option Reply) (other : Reply) → FineRow row → Fine other.status → Fine (unwrap_or row other).status
or-fine None other fine more = more
or-fine (Some reply) other fine more = fine

-- the reply of the first shared row that refuses
refused-fine : (scene : Scene) (request : Request) (reply : Reply) → FineContent request.content → first_there (shared_rows scene request) ≡ Some reply → Fine reply.status
refused-fine scene request reply fine is = subst FineRow is (first-fine (shared_rows scene request) (shared-fine scene request fine))

reading-fine : (scene : Scene) (moment : ℤ) (request : Request) → ShowsAll scene → is_reading request.method ≡ true → Suits request.method request.content → FineContent request.content
    → Fine (reading_reply scene moment request).status
reading-fine scene moment request shows reads suits fine = by (first_there (shared_rows scene request)) refl where
  by : (row : Option Reply) → first_there (shared_rows scene request) ≡ row → Fine (reading_reply scene moment request).status
  by (Some reply) is = subst (λ (r : Reply). Fine r.status) (sym (reading-refused scene moment request reply is)) (refused-fine scene request reply fine is)
  by None is =
      let answered = answer-fine scene moment request shows request.method request.content reads suits (unrefused-good scene request is) (unrefused-met scene request is) in
      subst (λ (r : Reply). Fine r.status) (sym (reading-unrefused scene moment request is))
      (or-fine _ (answer_of scene moment request request.method) (first-fine _ (both-fine _ _ (report_rows-fine request.content) (when-fine _ _ refl, tt))) answered)

-- Changing

date-fine : (reading : Reading) → FineRefusal (date_refusal reading)
date-fine (Ok object) = tt
date-fine (Err (not_calendar place)) = tt
date-fine (Err (not_resource why)) = tt
date-fine (Err (date_outside kind stamp)) = refl

put_table-fine : (media_ok : Bool) (octets : List ℕ) (kinds_taken : ℕ) → AllByRecursion FineRefusal (put_table media_ok octets kinds_taken)
unfolding put_table
put_table-fine media_ok octets kinds_taken = (
  refused_where-fine _ _ refl,
  (
    refused_where-fine _ _ refl,
    (
      refused_where-fine _ _ refl,
      (
        refused_where-fine _ _ refl,
        (
          refused_where-fine _ _ refl,
          (date-fine (read_object octets), (refused_where-fine _ _ refl, tt)),
        ),
      ),
    ),
  ),
)

mapped-fine : {X : Type 0} (f : X → Refusal) (o : Option X) → ((x : X) → Fine (f x).status) → FineRefusal (option_map f o)
mapped-fine f None fine = tt
mapped-fine f (Some x) fine = fine x

put_faults-fine : (scene : Scene) (media_ok : Bool) (octets : List ℕ) (contents : List Contents) → AllByRecursion FineRefusal (flat_map (put_faults scene media_ok octets) contents)
put_faults-fine scene media_ok octets [] = tt
put_faults-fine scene media_ok octets (c ∷ cs) =
    (first_refusal-fine _ (put_table-fine media_ok octets c.kinds), (mapped-fine _ _ (λ entry. refl), put_faults-fine scene media_ok octets cs))

-- settings
value-fine : (setting : Setting) (texts : Texts) (name : PropName) (value : List ℕ) → AllByRecursion FineRefusal (value_faults setting texts name value)
value-fine protected texts name value = (refl, tt)
value-fine text texts name value = (refused_where-fine _ _ refl, (refused_where-fine _ _ refl, tt))
value-fine zone texts name value = (refused_where-fine _ _ refl, (refused_where-fine _ _ refl, tt))
value-fine kinds texts name value = (refused_where-fine _ _ refl, tt)

of_value-fine : (making : Bool) (setting : Setting) (texts : Texts) (name : PropName) (value : Option (List ℕ)) → AllByRecursion FineRefusal (faults_of_value making setting texts name value)
of_value-fine making setting texts name None = (refused_where-fine _ _ refl, tt)
of_value-fine making setting texts name (Some value) = value-fine setting texts name value

setting_table-fine : (making : Bool) (texts : Texts) (set : PropSet) → AllByRecursion FineRefusal (setting_table making texts set)
setting_table-fine making texts set = (refused_where-fine _ _ refl, (refused_where-fine _ _ refl, of_value-fine making _ texts set.name set.value))

setting-fine : (making : Bool) (texts : Texts) (set : PropSet) → FineRefusal (setting_fault making texts set)
setting-fine making texts set = first_refusal-fine (setting_table making texts set) (setting_table-fine making texts set)

all-fine : (making : Bool) (sets : List PropSet) (texts : Texts) → AllByRecursion FineRefusal (map (λ (entry : PropName × Option Refusal). entry.1) (faults_of_all making texts sets))
all-fine making [] texts = tt
all-fine making (set ∷ sets) texts = (setting-fine making texts set, all-fine making sets (if is_some (setting_fault making texts set) then texts else texts_after texts set))

-- what a method that changes something asks for, whose content suits it and is not at fault
put-asked : (what : Content) → Suits method.Put what → fault_of what ≡ None → (media_ok : Bool) × ((octets : List ℕ) × (what ≡ content.Put media_ok octets))
put-asked content.None suits good = absurd (false≢true suits)
put-asked (content.Put media_ok octets) suits good = (media_ok, (octets, refl))
put-asked (content.Find props deep) suits good = let never = suits.0 in absurd cc
put-asked (content.Patch sets) suits good = absurd cc
put-asked (content.Make sets) suits good = absurd cc
put-asked (content.Acl grants) suits good = let never = suits.0 in absurd cc
put-asked (content.Report report) suits good = let never = suits.0 in absurd cc
put-asked (content.Bad refusal) suits good = absurd cc

make-asked : (what : Content) → Suits method.Mkcalendar what → fault_of what ≡ None → (sets : List PropSet) × (what ≡ content.Make sets)
make-asked content.None suits good = absurd (false≢true suits)
make-asked (content.Put media_ok octets) suits good = absurd cc
make-asked (content.Find props deep) suits good = let never = suits.0 in absurd cc
make-asked (content.Patch sets) suits good = absurd cc
make-asked (content.Make sets) suits good = (sets, refl)
make-asked (content.Acl grants) suits good = let never = suits.0 in absurd cc
make-asked (content.Report report) suits good = let never = suits.0 in absurd cc
make-asked (content.Bad refusal) suits good = absurd cc

patch-asked : (what : Content) → Suits method.Proppatch what → fault_of what ≡ None → (sets : List PropSet) × (what ≡ content.Patch sets)
patch-asked content.None suits good = absurd (false≢true suits)
patch-asked (content.Put media_ok octets) suits good = absurd cc
patch-asked (content.Find props deep) suits good = let never = suits.0 in absurd cc
patch-asked (content.Patch sets) suits good = (sets, refl)
patch-asked (content.Make sets) suits good = absurd cc
patch-asked (content.Acl grants) suits good = let never = suits.0 in absurd cc
patch-asked (content.Report report) suits good = let never = suits.0 in absurd cc
patch-asked (content.Bad refusal) suits good = absurd cc

acl-asked : (what : Content) → Suits method.Acl what → fault_of what ≡ None → (grants : List Grant) × (what ≡ content.Acl grants)
acl-asked content.None suits good = absurd (false≢true suits)
acl-asked (content.Put media_ok octets) suits good = absurd cc
acl-asked (content.Find props deep) suits good = let never = suits.0 in absurd cc
acl-asked (content.Patch sets) suits good = absurd cc
acl-asked (content.Make sets) suits good = absurd cc
acl-asked (content.Acl grants) suits good = (grants, refl)
acl-asked (content.Report report) suits good = let never = suits.0 in absurd cc
acl-asked (content.Bad refusal) suits good = absurd cc

-- the rows of a method's own
put-fine : (state : ServerState) (scene : Scene) (size : ℕ) (what : Content) → Suits method.Put what → fault_of what ≡ None → AllByRecursion FineRow (put_rows state scene size what)
put-fine state scene size what suits good =
    let puts = put-asked what suits good in
    subst (λ c. AllByRecursion FineRow (put_rows state scene size c)) (sym puts.1.1) (both-fine _ _ (refuse_all-fine _ (put_faults-fine scene puts.0 puts.1.0 (contents_in scene))) (when-fine _ _ refl, tt))

make-fine : (state : ServerState) (scene : Scene) (size : ℕ) (what : Content) → Suits method.Mkcalendar what → fault_of what ≡ None → AllByRecursion FineRow (make_rows state scene size what)
make-fine state scene size what suits good =
    let makes = make-asked what suits good in
    subst (λ c. AllByRecursion FineRow (make_rows state scene size c)) (sym makes.1)
    (when-fine _ _ refl, (refuse-fine (first_fault makes.0) (first_refusal-fine _ (all-fine true makes.0 [])), (when-fine _ _ refl, tt)))

patch-fine : (state : ServerState) (scene : Scene) (size : ℕ) (what : Content) → Suits method.Proppatch what → fault_of what ≡ None → AllByRecursion FineRow (patch_rows state scene size what)
patch-fine state scene size what suits good =
    subst (λ c. AllByRecursion FineRow (patch_rows state scene size c)) (sym (patch-asked what suits good).1) (when-fine _ _ refl, (when-fine _ _ refl, tt))

acl-fine : (state : ServerState) (scene : Scene) (size : ℕ) (what : Content) → Suits method.Acl what → fault_of what ≡ None → AllByRecursion FineRow (acl_rows state scene size what)
acl-fine state scene size what suits good = subst (λ c. AllByRecursion FineRow (acl_rows state scene size c)) (sym (acl-asked what suits good).1) (when-fine _ _ refl, tt)

own-fine : (state : ServerState) (scene : Scene) (request : Request) (how : Method) → Suits how request.content → fault_of request.content ≡ None → AllByRecursion FineRow (own_rows state scene request how)
own-fine state scene request method.Options suits good = tt
own-fine state scene request method.Get suits good = tt
own-fine state scene request method.Head suits good = tt
own-fine state scene request method.Put suits good = put-fine state scene request.size request.content suits good
own-fine state scene request method.Delete suits good = tt
own-fine state scene request method.Propfind suits good = tt
own-fine state scene request method.Proppatch suits good = patch-fine state scene request.size request.content suits good
own-fine state scene request method.Report suits good = tt
own-fine state scene request method.Mkcalendar suits good = make-fine state scene request.size request.content suits good
own-fine state scene request method.Acl suits good = acl-fine state scene request.size request.content suits good

-- What is asked for is a change

some-asked : {X : Type 0} (o : Option X) (x : X) → o ≡ Some x → IsSome o
some-asked o x is = subst IsSome (sym is) refl

at_object-some : (how : Method) (what : Content) (user calendar object : List ℕ) (home : ℕ) → is_reading how ≡ false → IsTrue (has_method (ObjectPath user calendar object) how) → Suits how what → fault_of what ≡ None
    → IsSome (change_of_object how what home calendar object)
at_object-some method.Options what user calendar object home changes allowed suits good = absurd (false≢true (sym changes))
at_object-some method.Get what user calendar object home changes allowed suits good = absurd (false≢true (sym changes))
at_object-some method.Head what user calendar object home changes allowed suits good = absurd (false≢true (sym changes))
at_object-some method.Put what user calendar object home changes allowed suits good =
    let puts = put-asked what suits good in
    some-asked (change_of_object method.Put what home calendar object) _ (ap (λ c. change_of_object method.Put c home calendar object) puts.1.1)
at_object-some method.Delete what user calendar object home changes allowed suits good = refl
at_object-some method.Propfind what user calendar object home changes allowed suits good = absurd (false≢true (sym changes))
at_object-some method.Proppatch what user calendar object home changes allowed suits good = absurd (false≢true allowed)
at_object-some method.Report what user calendar object home changes allowed suits good = absurd (false≢true (sym changes))
at_object-some method.Mkcalendar what user calendar object home changes allowed suits good = absurd (false≢true allowed)
at_object-some method.Acl what user calendar object home changes allowed suits good = absurd (false≢true allowed)

at_calendar-some : (how : Method) (what : Content) (user calendar : List ℕ) (home size : ℕ) → is_reading how ≡ false → IsTrue (has_method (CalendarPath user calendar) how) → Suits how what → fault_of what ≡ None
    → IsSome (change_of_calendar how what home calendar size)
at_calendar-some method.Options what user calendar home size changes allowed suits good = absurd (false≢true (sym changes))
at_calendar-some method.Get what user calendar home size changes allowed suits good = absurd (false≢true (sym changes))
at_calendar-some method.Head what user calendar home size changes allowed suits good = absurd (false≢true (sym changes))
at_calendar-some method.Put what user calendar home size changes allowed suits good = absurd (false≢true allowed)
at_calendar-some method.Delete what user calendar home size changes allowed suits good = refl
at_calendar-some method.Propfind what user calendar home size changes allowed suits good = absurd (false≢true (sym changes))
at_calendar-some method.Proppatch what user calendar home size changes allowed suits good =
    some-asked (change_of_calendar method.Proppatch what home calendar size) _ (ap (λ c. change_of_calendar method.Proppatch c home calendar size) (patch-asked what suits good).1)
at_calendar-some method.Report what user calendar home size changes allowed suits good = absurd (false≢true (sym changes))
at_calendar-some method.Mkcalendar what user calendar home size changes allowed suits good =
    some-asked (change_of_calendar method.Mkcalendar what home calendar size) _ (ap (λ c. change_of_calendar method.Mkcalendar c home calendar size) (make-asked what suits good).1)
at_calendar-some method.Acl what user calendar home size changes allowed suits good =
    some-asked (change_of_calendar method.Acl what home calendar size) _ (ap (λ c. change_of_calendar method.Acl c home calendar size) (acl-asked what suits good).1)

module _ (directory : Directory) (state : ServerState) (who : ℕ) (request : Request) where
  abbrev scene_of : Scene
  scene_of = scene_at directory (view_by whole_sight directory state who) who request.path

  missing-none : IsUnrefused scene_of request → is_missing request.method scene_of scene_of.path ≡ false
  unfolding shared_rows
  missing-none none = not_when (is_missing request.method scene_of scene_of.path) (bare_reply 404) (no_row (shared_rows scene_of request) none).0

  path-is : scene_of.path ≡ request.path
  unfolding scene_at
  path-is = refl

  abbrev home_by_user : Option ℕ → Option (Named Sight)
  home_by_user user = option_and_then (visible_home (view_by whole_sight directory state who) who) user

  home-is : scene_of.home ≡ home_by_user (option_and_then (user_number directory) (user_in request.path))
  unfolding scene_at
  home-is = refl

  -- the user of a path is known, where the home is not missing
  user-known : (name : List ℕ) (missing : Bool) → user_in request.path ≡ Some name → (is_none scene_of.home || missing) ≡ false → IsSome (user_number directory name)
  user-known name missing is there = by (user_number directory name) refl where
    home : scene_of.home ≡ home_by_user (user_number directory name)
    home = home-is ∙ ap (λ o. home_by_user (option_and_then (user_number directory) o)) is

    by : (found : Option ℕ) → user_number directory name ≡ found → IsSome (user_number directory name)
    by None e = absurd (false≢true (sym there ∙ ap (λ (h : Option (Named Sight)). is_none h || missing) (home ∙ ap home_by_user e)))
    by (Some n) e = some-asked (user_number directory name) n e

  and_then-some : {X : Type 0} (o : Option ℕ) (f : ℕ → Option X) → IsSome o → ((n : ℕ) → IsSome (f n)) → IsSome (option_and_then f o)
  and_then-some None f there some = absurd (false≢true there)
  and_then-some (Some n) f there some = some n

  at-some : (path : Path) → request.path ≡ path → IsTrue (has_method path request.method) → is_reading request.method ≡ false → Suits request.method request.content → fault_of request.content ≡ None
      → is_missing request.method scene_of path ≡ false → IsSome (change_at directory request path)
  at-some Root is allowed changes suits good there = absurd (false≢true (named Root request.method allowed changes))
  at-some (PrincipalPath user) is allowed changes suits good there = absurd (false≢true (named (PrincipalPath user) request.method allowed changes))
  at-some (HomePath user) is allowed changes suits good there = absurd (false≢true (named (HomePath user) request.method allowed changes))
  at-some (CalendarPath user calendar) is allowed changes suits good there =
      and_then-some (user_number directory user) (λ home. change_of_calendar request.method request.content home calendar request.size) (user-known user _ (ap user_in is) there)
      (λ home. at_calendar-some request.method request.content user calendar home request.size changes allowed suits good)
  at-some (ObjectPath user calendar object) is allowed changes suits good there =
      and_then-some (user_number directory user) (λ home. change_of_object request.method request.content home calendar object) (user-known user _ (ap user_in is) there)
      (λ home. at_object-some request.method request.content user calendar object home changes allowed suits good)

  -- a request that no shared row refuses asks for a change
  pub change-some : IsUnrefused scene_of request → IsTrue (has_method request.path request.method) → is_reading request.method ≡ false → Suits request.method request.content → IsSome (change_of directory request)
  unfolding change_of
  change-some none allowed changes suits =
      at-some request.path refl allowed changes suits (unrefused-good scene_of request none) (ap (λ path. is_missing request.method scene_of path) (sym path-is) ∙ missing-none none)

-- What is found wrong

contained-fine : (refusals : List Refusal) (refusal : Refusal) → AllByRecursion (λ (r : Refusal). Fine r.status) refusals → Contains refusals refusal → Fine refusal.status
contained-fine [] refusal fine (k, within, e) = absurd (omega (arith, within))
contained-fine (r ∷ rs) refusal fine (zero, within, e) = subst (λ (x : Refusal). Fine x.status) e fine.0
contained-fine (r ∷ rs) refusal fine (suc k, within, e) = contained-fine rs refusal fine.1 (k, omega (arith, within), e)

refusals-fine : (how : Method) → AllByRecursion (λ (r : Refusal). Fine r.status) (refusals_of how)
refusals-fine method.Options = (refl, (refl, tt))
refusals-fine method.Get = (refl, (refl, tt))
refusals-fine method.Head = (refl, (refl, tt))
refusals-fine method.Put = (refl, (refl, tt))
refusals-fine method.Delete = (refl, (refl, tt))
refusals-fine method.Propfind = (refl, (refl, (refl, tt)))
refusals-fine method.Proppatch = (refl, (refl, tt))
refusals-fine method.Report = (refl, (refl, (refl, (refl, (refl, (refl, (refl, tt)))))))
refusals-fine method.Mkcalendar = (refl, (refl, tt))
refusals-fine method.Acl = (refl, (refl, (refl, (refl, (refl, (refl, (refl, (refl, tt))))))))

suits-fine : (how : Method) (c : Content) → Suits how c → FineContent c
suits-fine how content.None suits = tt
suits-fine how (content.Put media_ok octets) suits = tt
suits-fine how (content.Find props deep) suits = tt
suits-fine how (content.Patch sets) suits = tt
suits-fine how (content.Make sets) suits = tt
suits-fine how (content.Acl grants) suits = tt
suits-fine how (content.Report report) suits = tt
suits-fine how (content.Bad refusal) suits = contained-fine (refusals_of how) refusal (refusals-fine how) suits

-- Outcomes

accepted-fine : (scene : Scene) (how : Method) → Fine (accepted_status scene how)
accepted-fine scene method.Options = refl
accepted-fine scene method.Get = refl
accepted-fine scene method.Head = refl
accepted-fine scene method.Put = status-fine (is_some scene.object) where
  status-fine : (there : Bool) → Fine (if there then 204 else 201)
  status-fine true = refl
  status-fine false = refl
accepted-fine scene method.Delete = refl
accepted-fine scene method.Propfind = refl
accepted-fine scene method.Proppatch = refl
accepted-fine scene method.Report = refl
accepted-fine scene method.Mkcalendar = refl
accepted-fine scene method.Acl = refl

abbrev FineOutcome : Outcome → Type 0
FineOutcome (accepted status state) = Fine status
FineOutcome (unchanged reply) = Fine reply.status

changed-fine : (state : ServerState) (scene : Scene) (how : Method) (change : Option Change) → IsSome change → FineOutcome (changed state scene how change)
changed-fine state scene how None there = absurd (false≢true there)
changed-fine state scene how (Some change) there = accepted-fine scene how

unless-fine : (row : Option Reply) (made : Outcome) → FineRow row → FineOutcome made → FineOutcome (unless_refused row made)
unless-fine None made fine more = more
unless-fine (Some reply) made fine more = fine

module _ (directory : Directory) (state : ServerState) (event : Event) (suits : Suits event.request.method event.request.content) (allowed : IsTrue (has_method event.request.path event.request.method)) where
  abbrev seen : Scene
  seen = scene_by whole_sight directory state event

  abbrev made_by_rows : Option Reply → Outcome
  made_by_rows row = unless_refused row (changed state seen event.request.method (change_of directory event.request))

  abbrev fine_content : FineContent event.request.content
  fine_content = suits-fine event.request.method event.request.content suits

  abbrev own : List (Option Reply)
  own = own_rows state seen event.request event.request.method

  changing-fine : is_reading event.request.method ≡ false → FineOutcome (changing_outcome directory state event)
  changing-fine changes = by (first_there (shared_rows seen event.request)) refl where
    by : (row : Option Reply) → first_there (shared_rows seen event.request) ≡ row → FineOutcome (changing_outcome directory state event)
    by (Some reply) is =
        subst (λ row. FineOutcome (made_by_rows row)) (sym (first-before reply (shared_rows seen event.request) own is)) (refused-fine seen event.request reply fine_content is)
    by None is =
        subst (λ row. FineOutcome (made_by_rows row)) (sym (first-behind (shared_rows seen event.request) own is))
        (unless-fine (first_there own) _ (first-fine own (own-fine state seen event.request event.request.method suits (unrefused-good seen event.request is)))
        (changed-fine state seen event.request.method _ (change-some directory state event.who event.request is allowed changes suits)))

  by_method-fine : (reads : Bool) → is_reading event.request.method ≡ reads → FineOutcome (outcome_where reads directory state event)
  by_method-fine true reads =
      reading-fine (scene_by sight_of directory state event) event.moment event.request (scene-shows directory state event.who event.request.path) reads suits fine_content
  by_method-fine false reads = changing-fine reads

  outcome-fine : FineOutcome (outcome directory state event)
  unfolding outcome
  outcome-fine = by_method-fine (is_reading event.request.method) refl

change-fine : (status : ℕ) (request : Request) (c : Content) → Fine status → FineContent c → Fine (reply_to_change status request c).status
change-fine status request content.None fine more = fine
change-fine status request (content.Put media_ok octets) fine more = fine
change-fine status request (content.Find props deep) fine more = fine
change-fine status request (content.Patch sets) fine more = refl
change-fine status request (content.Make sets) fine more = fine
change-fine status request (content.Acl grants) fine more = fine
change-fine status request (content.Report report) fine more = fine
change-fine status request (content.Bad refusal) fine more = fine

reply_of-fine : (request : Request) (o : Outcome) → FineContent request.content → FineOutcome o → Fine (reply_of request o).status
reply_of-fine request (accepted status state) more fine = change-fine status request request.content fine more
reply_of-fine request (unchanged reply) more fine = fine

-- Each reply to a request that can be booked has a status with a phrase, and not that of an unknown method.
pub reply_to-status : (directory : Directory) (state : ServerState) (event : Event) → Suits event.request.method event.request.content → IsTrue (has_method event.request.path event.request.method)
    → Fine (reply_to directory state event).status
reply_to-status directory state event suits allowed =
    reply_of-fine event.request (outcome directory state event) (suits-fine event.request.method event.request.content suits) (outcome-fine directory state event suits allowed)

-- Reasons

first-reason : (here : Bool) (phrase : List ℕ) (later : Option (List ℕ)) → 0 < length phrase → (is_some later ≡ true → 0 < length (unwrap_or later []))
    → is_some (if here then Some phrase else later) ≡ true → 0 < length (unwrap_or (if here then Some phrase else later) [])
first-reason true phrase later long others e = long
first-reason false phrase later long others e = others e

found-reason : (known : List (ℕ × List ℕ)) (test : ℕ → Bool) → AllByRecursion (λ (entry : ℕ × List ℕ). 0 < length entry.1) known → is_some (lookup test known) ≡ true → 0 < length (unwrap_or (lookup test known) [])
found-reason [] test long e = absurd (cc)
found-reason (entry ∷ known) test long e = first-reason (test entry.0) entry.1 (lookup test known) long.0 (found-reason known test long.1) e

reasons-some : AllByRecursion (λ (entry : ℕ × List ℕ). 0 < length entry.1) reasons
reasons-some = search rules

pub known-reason : (status : ℕ) → Known status → 0 < length (reason status)
unfolding reason
known-reason status is = found-reason reasons (λ known. known == status) reasons-some is

-- the reply to a request that can be booked
module _ (users : Users) (directory : Directory) (state : ServerState) (event : Event) (bookable : IsBookable users event.who event.request) where
  booked-fine : Fine (reply_to directory state event).status
  booked-fine = reply_to-status directory state event bookable.suits bookable.allowed

  reply-reason : HasReason (reply_to directory state event)
  reply-reason = known-reason (reply_to directory state event).status (known (reply_to directory state event).status booked-fine)

  pub reply-known : (reply_to directory state event).status ≢ 501
  reply-known = other-status (reply_to directory state event).status booked-fine

reply-no_want : (users : Users) (directory : Directory) (state : ServerState) (event : Event) → IsBookable users event.who event.request → (reply_to directory state event).status ≢ 503
reply-no_want users directory state event bookable = no_want-status users event.who directory state event bookable

busy-reason : 0 < length (reason 503)
busy-reason = known-reason 503 refl

-- and so has one that is refused before any state is looked at; and none of these is that to a want of memory
abbrev RefusedKnown : Asked → Type 0
RefusedKnown (refused reply) = (not (reply.status == 503) && is_some (lookup (λ known. known == reply.status) reasons)) ≡ true
RefusedKnown (asked who request) = Unit {0}

has-fine : (has : Bool) (who : ℕ) (request : Request) (path : Path) → RefusedKnown (if has then asked who request else refused (not_allowed path))
has-fine true who request path = tt
has-fine false who request path = refl

path-fine : (users : Users) (wire : WireRequest) (who : ℕ) (how : Method) (found : Option Path)
    → RefusedKnown (elim found [ None ↦ refused (bare_reply 404) | Some path ↦ if has_method path how then asked who (request_at users wire how path) else refused (not_allowed path) ])
path-fine users wire who how None = refl
path-fine users wire who how (Some path) = has-fine (has_method path how) who (request_at users wire how path) path

method-fine : (users : Users) (wire : WireRequest) (who : ℕ) (found : Option Method) → RefusedKnown (elim found [ None ↦ refused (bare_reply 501) | Some how ↦ asked_by users wire who how ])
method-fine users wire who None = refl
method-fine users wire who (Some how) = path-fine users wire who how (target_path wire.target)

user-fine : (users : Users) (wire : WireRequest) (found : Option ℕ) → RefusedKnown (elim found [ None ↦ refused (bare_reply 401) | Some user ↦ asked_with users wire user ])
user-fine users wire None = refl
user-fine users wire (Some user) = method-fine users wire user (method_of wire.method)

asked-fine : (users : Users) (wire : WireRequest) → RefusedKnown (asked_of users wire)
unfolding asked_of
asked-fine users wire = user-fine users wire (authenticated users wire.authorization)

refused-known : (users : Users) (wire : WireRequest) (reply : Reply) → asked_of users wire ≡ refused reply → RefusedKnown (refused reply)
refused-known users wire reply e = subst RefusedKnown e (asked-fine users wire)

refused-reason : (users : Users) (wire : WireRequest) (reply : Reply) → asked_of users wire ≡ refused reply → HasReason reply
refused-reason users wire reply e = known-reason reply.status (and_parts _ _ (refused-known users wire reply e)).1

refused-no_want : (users : Users) (wire : WireRequest) (reply : Reply) → asked_of users wire ≡ refused reply → reply.status ≢ 503
refused-no_want users wire reply e is = false≢true (sym (ap (λ n. not (n == 503)) is) ∙ (and_parts _ _ (refused-known users wire reply e)).0)

pub replies_have_reasons : RepliesHaveReasons
replies_have_reasons = record {
  answered = reply-reason;
  known = reply-known;
  no_want = reply-no_want;
  refused_before = refused-reason;
  no_want_before = refused-no_want;
  busy = busy-reason;
}
