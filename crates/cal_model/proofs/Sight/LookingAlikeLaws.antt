-- States that look alike to a user are seen alike by that user, so that each request which only reads has the same reply in both.
use Rattle.std.proofs.Common.{◌≡◌, ℕ, Bool, true, false, List, [], ◌∷◌, map, Some, None, refl, sym, ap, ◌∙◌, arith}
use Rattle.std.specs.Prelude.{ℤ, ◌≤ℤ◌, int_le, if◌then◌else◌}
use Rattle.std.specs.List.{AllZip, enumerate_from}
use Rattle.std.proofs.lemmas.Int.{ints}
use Rattle.std.proofs.lemmas.Bool.{and_parts}
use Rattle.cal_base.specs.Lists.NameMap.{Named}
use Rattle.cal_model.specs.declared.request.Event.{Event}
use Rattle.cal_model.specs.Words.Limits.{first_date, last_date}
use Rattle.cal_model.specs.Access.Privileges.{has_all, read, read_acl, read_free_busy}
use Rattle.cal_model.specs.Busy.BusyRuns.{class_at, calendar_times}
use Rattle.cal_model.specs.Reports.FloatingZone.{floating_zone}
use Rattle.cal_model.specs.State.ServerState.{Directory, Calendar, Home, ServerState, objects_of, own_zone}
use Rattle.cal_model.specs.Sight.Views.{held_on, contents_of, busy_class, is_served, served_class, Sight, only_where, sight_with, sight_of, visible_calendars, home_by, seen_by}
use Rattle.cal_model.specs.Sight.LookingAlike.{CalendarsLookAlike, EntriesLookAlike, HomesLookAlike, LookAlike}
use Rattle.cal_model.specs.Sight.Scenes.{scene_at}
use Rattle.cal_model.specs.Serving.ReadingReplies.{reading_reply}
use Rattle.cal_model.specs.Serving.Outcomes.{outcome, outcome_where, unchanged, is_reading}
use Rattle.cal_model.specs.Serving.EventReplies.{reply_of, state_of, reply_to, state_after}
use Rattle.cal_model.specs.Sight.SightLaws.{RepliesAreAlike, ReadingChangesNothing}

-- what is shown only under a condition is the same where it is the same under that condition
only_where-same : {X : Type 0} (shown : Bool) (x y : X) → (shown ≡ true → x ≡ y) → only_where shown x ≡ only_where shown y
only_where-same true x y same = ap Some (same refl)
only_where-same false x y same = refl

if-same : {X : Type 0} (test : Bool) (x y other : X) → (test ≡ true → x ≡ y) → (if test then x else other) ≡ (if test then y else other)
if-same true x y other same = same refl
if-same false x y other same = refl

from_first : (t : ℤ) → is_served t ≡ true → first_date ≤ℤ t
from_first t served = grind (arith, ints, and_parts (int_le first_date t) (int_le t last_date) served)

to_last : (t : ℤ) → is_served t ≡ true → t ≤ℤ last_date
to_last t served = grind (arith, ints, and_parts (int_le first_date t) (int_le t last_date) served)

abbrev SameBusy : Calendar → Calendar → Type 0
SameBusy a b = (t : ℤ) → first_date ≤ℤ t → t ≤ℤ last_date → busy_class a t ≡ busy_class b t

served_class-same : (a b : Calendar) → SameBusy a b → served_class a ≡ served_class b
served_class-same a b same = λ i t. if-same (is_served t) (busy_class a t) (busy_class b t) None (λ served. same t (from_first t served) (to_last t served)) i

busy_class-contents : (a b : Calendar) → contents_of a ≡ contents_of b → SameBusy a b
busy_class-contents a b same t from to = ap (λ contents. class_at (calendar_times (floating_zone None (own_zone contents.texts)) (objects_of contents.objects)) t) same

-- with read or without it
busy-same : (directory : Directory) (owner who : ℕ) (a b : Calendar) → CalendarsLookAlike directory owner who a b
    → has_all (held_on directory owner who a) read_free_busy ≡ true → (can_read : Bool) → has_all (held_on directory owner who a) read ≡ can_read → SameBusy a b
busy-same directory owner who a b alike free_busy true reads = busy_class-contents a b (alike.contents reads)
busy-same directory owner who a b alike free_busy false reads = alike.busy free_busy reads

-- calendars that look alike are one sight
sight_of-same : (directory : Directory) (owner who : ℕ) (a b : Calendar) → CalendarsLookAlike directory owner who a b → sight_of directory owner who a ≡ sight_of directory owner who b
sight_of-same directory owner who a b alike =
    let held = held_on directory owner who a in
    let contents = only_where-same (has_all held read) (contents_of a) (contents_of b) alike.contents in
    let grants = only_where-same (has_all held read_acl) a.grants b.grants alike.grants in
    let busy = only_where-same (has_all held read_free_busy) (served_class a) (served_class b)
    (λ free_busy. served_class-same a b (busy-same directory owner who a b alike free_busy (has_all held read) refl)) in
    let same_held : sight_with held a ≡ sight_with held b = λ i. record { held = held; contents = contents i; grants = grants i; busy = busy i } in
    same_held ∙ ap (λ h. sight_with h b) alike.held

abbrev seen_calendar : Directory → ℕ → ℕ → List ℕ × Calendar → List ℕ × Sight
seen_calendar directory owner who entry = (entry.0, sight_of directory owner who entry.1)

calendars-same : (directory : Directory) (owner who : ℕ) (xs ys : Named Calendar) → AllZip (EntriesLookAlike directory owner who) xs ys
    → map (seen_calendar directory owner who) xs ≡ map (seen_calendar directory owner who) ys
calendars-same directory owner who [] [] same = refl
calendars-same directory owner who [] (y ∷ ys) same = absurd same
calendars-same directory owner who (x ∷ xs) [] same = absurd same
calendars-same directory owner who (x ∷ xs) (y ∷ ys) same =
    λ i. (same.0.0 i, sight_of-same directory owner who x.1 y.1 same.0.1 i) ∷ calendars-same directory owner who xs ys same.1 i

home-same : (directory : Directory) (who : ℕ) (a b : ℕ × Home) → HomesLookAlike directory who a b → home_by sight_of directory who a ≡ home_by sight_of directory who b
home-same directory who a b same =
    calendars-same directory a.0 who (visible_calendars directory a.0 who a.1) (visible_calendars directory b.0 who b.1) same.1
    ∙ ap (λ owner. map (seen_calendar directory owner who) (visible_calendars directory b.0 who b.1)) same.0

homes-same : (directory : Directory) (who : ℕ) (xs ys : List (ℕ × Home)) → AllZip (HomesLookAlike directory who) xs ys
    → map (home_by sight_of directory who) xs ≡ map (home_by sight_of directory who) ys
homes-same directory who [] [] same = refl
homes-same directory who [] (y ∷ ys) same = absurd same
homes-same directory who (x ∷ xs) [] same = absurd same
homes-same directory who (x ∷ xs) (y ∷ ys) same = λ i. home-same directory who x y same.0 i ∷ homes-same directory who xs ys same.1 i

-- States that look alike are seen alike.
pub seen_by-LookAlike : (directory : Directory) (a b : ServerState) (who : ℕ) → LookAlike directory a b who → seen_by directory a who ≡ seen_by directory b who
seen_by-LookAlike directory a b who agree = homes-same directory who (enumerate_from 0 a.homes) (enumerate_from 0 b.homes) agree

-- The reply to a request that only reads is a function of what its caller sees.
pub outcome-reading : (directory : Directory) (state : ServerState) (event : Event) → is_reading event.request.method ≡ true
    → outcome directory state event ≡ unchanged (reading_reply (scene_at directory (seen_by directory state event.who) event.who event.request.path) event.moment event.request)
unfolding outcome
outcome-reading directory state event reads = ap (λ reading. outcome_where reading directory state event) reads

-- It is the same in all states that look alike to its caller.
pub outcome-LookAlike : (directory : Directory) (a b : ServerState) (event : Event) → is_reading event.request.method ≡ true → LookAlike directory a b event.who
    → outcome directory a event ≡ outcome directory b event
outcome-LookAlike directory a b event reads agree =
    outcome-reading directory a event reads
    ∙ ap (λ view. unchanged (reading_reply (scene_at directory view event.who event.request.path) event.moment event.request)) (seen_by-LookAlike directory a b event.who agree)
    ∙ sym (outcome-reading directory b event reads)

pub reply_to-LookAlike : (directory : Directory) (a b : ServerState) (event : Event) → is_reading event.request.method ≡ true → LookAlike directory a b event.who
    → reply_to directory a event ≡ reply_to directory b event
reply_to-LookAlike directory a b event reads agree = ap (reply_of event.request) (outcome-LookAlike directory a b event reads agree)

-- A request that only reads leaves the state as it is.
pub state_after-reading : (directory : Directory) (state : ServerState) (event : Event) → is_reading event.request.method ≡ true → state_after directory state event ≡ state
state_after-reading directory state event reads = ap (state_of state) (outcome-reading directory state event reads)

pub replies_are_alike : RepliesAreAlike
replies_are_alike = reply_to-LookAlike

pub reading_changes_nothing : ReadingChangesNothing
reading_changes_nothing = state_after-reading
