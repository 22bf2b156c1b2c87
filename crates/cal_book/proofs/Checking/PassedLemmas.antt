-- What follows for a request that changes something from no shared row refusing it: its user and its calendar are there.
use Rattle.std.proofs.Common.{◌≡◌, Bool, true, false, not, ◌&&◌, ◌||◌, [], ◌∷◌, Option, Some, None, refl, sym, ap, ◌∙◌, subst}
use Rattle.std.specs.Prelude.{is_none, bytes_eq, option_map, IsSome, IsTrue}
use Rattle.std.specs.List.{list_any}
use Rattle.std.proofs.lemmas.Bool.{false≢true}
use Rattle.cal_model.specs.declared.path.Path.{Path}
use Rattle.cal_model.specs.declared.path.Path.TheVariants.{Root, Principal, Home, Calendar, Object}
use Rattle.cal_model.specs.declared.reply.Reply.{Reply}
use Rattle.cal_model.specs.declared.request.Method.{Method}
use Rattle.cal_model.specs.declared.request.Method.TheVariants.{Options, Get, Head, Put, Delete, Propfind, Proppatch, Report, Mkcalendar, Acl}
use Rattle.cal_model.specs.declared.request.Request.{Request}
use Rattle.cal_model.specs.Objects.ObjectReading.{first_there}
use Rattle.cal_model.specs.Refusals.RefusalReplies.{when}
use Rattle.cal_model.specs.Refusals.SharedRefusals.{shared_rows, is_missing, makes_or_asks, is_object_missing}
use Rattle.cal_model.specs.Requests.Methods.{has_method, method_name}
use Rattle.cal_model.specs.Serving.Outcomes.{is_reading}
use Rattle.cal_model.specs.Sight.Scenes.{calendar_in}
use Rattle.cal_model.specs.State.ServerState.{Directory, ServerState}
use Rattle.cal_model.proofs.History.ReplayLaws.{NoRow, no_row, some≢none}
use Rattle.request_checks.specs.declared.scenes.Scene.{Scene}
use Rattle.request_checks.specs.Scenes.{IsFoundAt, least_of}
use Rattle.request_checks.proofs.LeastScenes.{rows-least, found}
use Rattle.cal_book.specs.Checking.Passed.{IsPassed, IsThere, IsOfCalendar, sighted}

-- a row that refuses nothing
pub not_when : (applies : Bool) (reply : Reply) → when applies reply ≡ None → applies ≡ false
not_when true reply e = absurd (some≢none reply e)
not_when false reply e = refl

-- Paths by the methods that they have

no_change : (method : Method) → list_any (λ other. bytes_eq (method_name other) (method_name method)) (Options ∷ Propfind ∷ []) ≡ true → is_reading method ≡ false → ⊥
no_change Options e changes = false≢true (sym changes)
no_change Get e changes = false≢true (sym changes)
no_change Head e changes = false≢true (sym changes)
no_change Propfind e changes = false≢true (sym changes)
no_change Report e changes = false≢true (sym changes)
no_change Put e changes = false≢true e
no_change Delete e changes = false≢true e
no_change Proppatch e changes = false≢true e
no_change Mkcalendar e changes = false≢true e
no_change Acl e changes = false≢true e

pub named : (path : Path) (method : Method) → IsTrue (has_method path method) → is_reading method ≡ false → IsSome (calendar_in path)
named Root method has changes = absurd (no_change method has changes)
named (Principal user) method has changes = absurd (no_change method has changes)
named (Home user) method has changes = absurd (no_change method has changes)
named (Calendar user calendar) method has changes = refl
named (Object user calendar object) method has changes = refl

-- the methods that change a calendar itself, or make one
abbrev pub is_of_calendars : Method → Bool
is_of_calendars Mkcalendar = true
is_of_calendars Proppatch = true
is_of_calendars Acl = true
is_of_calendars other = false

pub of_calendar : (path : Path) (method : Method) → IsTrue (has_method path method) → is_of_calendars method ≡ true → IsOfCalendar path
of_calendar Root Mkcalendar has is = false≢true has
of_calendar (Principal user) Mkcalendar has is = false≢true has
of_calendar (Home user) Mkcalendar has is = false≢true has
of_calendar (Object user calendar object) Mkcalendar has is = false≢true has
of_calendar Root Proppatch has is = false≢true has
of_calendar (Principal user) Proppatch has is = false≢true has
of_calendar (Home user) Proppatch has is = false≢true has
of_calendar (Object user calendar object) Proppatch has is = false≢true has
of_calendar Root Acl has is = false≢true has
of_calendar (Principal user) Acl has is = false≢true has
of_calendar (Home user) Acl has is = false≢true has
of_calendar (Object user calendar object) Acl has is = false≢true has
of_calendar (Calendar user calendar) method has is = tt
of_calendar path Options has is = absurd (false≢true is)
of_calendar path Get has is = absurd (false≢true is)
of_calendar path Head has is = absurd (false≢true is)
of_calendar path Put has is = absurd (false≢true is)
of_calendar path Delete has is = absurd (false≢true is)
of_calendar path Propfind has is = absurd (false≢true is)
of_calendar path Report has is = absurd (false≢true is)

-- What is there

home_found : (shown : Scene) (path : Path) → IsSome (calendar_in path) → IsFoundAt shown path → shown.home ≡ true
home_found shown Root has there = absurd (false≢true has)
home_found shown (Principal user) has there = absurd (false≢true has)
home_found shown (Home user) has there = there
home_found shown (Calendar user calendar) has there = there
home_found shown (Object user calendar object) has there = there

calendar_by : {X Y : Type 0} (f : X → Y) (gone makes : Bool) (calendar : Option X) → makes ≡ false → (gone || (is_none (option_map f calendar) && not makes)) ≡ false → IsSome calendar
calendar_by f gone makes (Some x) not_made e = refl
calendar_by f true makes None not_made e = absurd (false≢true (sym e))
calendar_by f false true None not_made e = absurd (false≢true (sym not_made))
calendar_by f false false None not_made e = absurd (false≢true (sym e))

calendar_found : (method : Method) (shown : Scene) (path : Path) → makes_or_asks method ≡ false → IsSome (calendar_in path) → is_missing method (least_of shown) path ≡ false → IsSome shown.calendar
calendar_found method shown Root not_made has e = absurd (false≢true has)
calendar_found method shown (Principal user) not_made has e = absurd (false≢true has)
calendar_found method shown (Home user) not_made has e = absurd (false≢true has)
calendar_found method shown (Calendar user calendar) not_made has e = calendar_by _ _ (makes_or_asks method) shown.calendar not_made e
calendar_found method shown (Object user calendar object) not_made has e = calendar_by _ _ (makes_or_asks method) shown.calendar not_made e

module _ (directory : Directory) (state : ServerState) (shown : Scene) (request : Request) (passed : IsPassed directory state shown request) where
  rows : NoRow (shared_rows (least_of shown) request)
  rows = no_row (shared_rows (least_of shown) request) (ap first_there (rows-least shown (sighted directory state shown) request passed.scene) ∙ passed.passes)

  not_missing : is_missing request.method (least_of shown) shown.path.now ≡ false
  unfolding shared_rows
  not_missing = not_when _ _ rows.0

  pub named_by_path : is_reading request.method ≡ false → IsSome (calendar_in shown.path.now)
  named_by_path changes = named shown.path.now request.method (subst (λ path. IsTrue (has_method path request.method)) (sym passed.path_is) passed.asked.bookable.allowed) changes

  pub user_there : is_reading request.method ≡ false → IsSome shown.user
  user_there changes = passed.known (home_found shown shown.path.now (named_by_path changes) (found request.method shown shown.path.now (sym not_missing)))

  pub all_there : is_reading request.method ≡ false → makes_or_asks request.method ≡ false → IsThere shown
  all_there changes not_made = record {
    user = user_there changes;
    calendar = calendar_found request.method shown shown.path.now not_made (named_by_path changes) not_missing;
    named = named_by_path changes;
  }

  -- the object of a DELETE is there too
  pub object_not_missing : is_object_missing request.method (sighted directory state shown) ≡ false
  unfolding shared_rows
  object_not_missing = not_when _ _ (no_row (shared_rows (sighted directory state shown) request) passed.passes).1.1.0
