-- The content of a request is that of its method, or a refusal of that method.
use Rattle.std.specs.Prelude.{◌≡◌, ℕ, ◌+◌, Bool, true, false, not, ◌||◌, if◌then◌else◌, List, [], ◌∷◌, ◌++◌, map, flat_map, codes, Option, Some, None, option_to_list}
use Rattle.std.specs.List.{list_any, enumerate_from, Contains}
use Rattle.std.proofs.Common.{arith, refl, ap, ◌∙◌}
use Rattle.std.proofs.lemmas.Bool.{false≢true}
use Rattle.cal_base.specs.declared.element.Element.{Element}
use Rattle.cal_model.specs.declared.property.Props.TheVariants.{All as AllProps, Names as AllNames, Some as SomeProps}
use Rattle.cal_model.specs.declared.reply.Refusal.{Refusal}
use Rattle.cal_model.specs.declared.report.ReportRequest.{ReportRequest}
use Rattle.cal_model.specs.declared.report.ReportRequest.TheVariants.{FreeBusy}
use Rattle.cal_model.specs.declared.request.Content.{Content}
use Rattle.cal_model.specs.declared.request.Content.TheVariants.{None as NoContent, Put, Find, Patch, Make, Acl, Report, Bad}
use Rattle.cal_model.specs.declared.request.Method.{Method}
use Rattle.cal_model.specs.declared.request.Method.TheVariants.{Options, Get, Head, Put as PutMethod, Delete, Propfind, Proppatch, Report as ReportMethod, Mkcalendar, Acl as AclMethod}
use Rattle.cal_model.specs.declared.wire.WireRequest.{WireRequest}
use Rattle.cal_model.specs.Words.Namespaces.{dav, caldav}
use Rattle.cal_model.specs.Words.Lists.{is_empty}
use Rattle.cal_model.specs.Bodies.AclBodies.{lacks_part, aces, ace_rows, ace_refusals, grants_of, acl_by, acl_content}
use Rattle.cal_model.specs.Requests.AskedRequests.{is_deep, content_of}
use Rattle.cal_model.specs.Bodies.ElementParts.{children, has_name, named, first_named}
use Rattle.cal_model.specs.Bodies.PropertyBodies.{find_content, are_bad, settings_of, instructions, patch_content, make_content}
use Rattle.cal_model.specs.Bodies.Refusals.{bad_request, unsupported_media, caldav_refusal, Row, first_row}
use Rattle.cal_model.specs.Bodies.ElementParts.{only}
use Rattle.cal_model.specs.Bodies.AskedProperties.{property_name, asked_props, props_by}
use Rattle.cal_model.specs.Bodies.ReportBodies.{report_rows, report_unless, asked_data, query_with, multiget_content, free_busy_with, report_content}
use Rattle.cal_model.specs.Bodies.RangeElements.{is_bad_range, stated}
use Rattle.cal_model.specs.Users.UsersFile.{Users}
use Rattle.cal_model.specs.Requests.MethodContents.{refusals_of, AsksSomething, Suits}
use Rattle.cal_model.proofs.Bodies.AclSizes.{grants_are_few}
use Rattle.cal_model.proofs.Bodies.SoundReportLaws.{reports_are_sound}
use Rattle.cal_model.proofs.Requests.ContentParts.{OfMethod, OfDepth, if-holds, content-holds}

bad_is : (method : Method) → Contains (refusals_of method) bad_request
bad_is method = (0, omega arith, refl)

media_is : (method : Method) → Contains (refusals_of method) unsupported_media
media_is method = (1, omega arith, refl)

-- Tables

abbrev EachRow : (Refusal → Type 0) → List Row → Type 0
EachRow P [] = Unit {0}
EachRow P (row ∷ rows) = P row.1 × EachRow P rows

abbrev HoldsOf : (Refusal → Type 0) → Option Refusal → Type 0
HoldsOf P None = Unit {0}
HoldsOf P (Some refusal) = P refusal

chosen : (P : Refusal → Type 0) (rows : List Row) → EachRow P rows → HoldsOf P (first_row rows)
chosen P [] h = tt
chosen P (row ∷ rows) h = by row.0 (chosen P rows h.1)
  where
    by : (b : Bool) → HoldsOf P (first_row rows) → HoldsOf P (if b then Some row.1 else first_row rows)
    by true k = h.0
    by false k = k

-- Properties

or_true : (b : Bool) → (b || true) ≡ true
or_true true = refl
or_true false = refl

find_suits : (deep : Bool) (root : Element) → Suits Propfind (find_content deep root)
find_suits deep root = by (not (has_name dav (codes "propfind") root) || is_empty (asked_props root)) (asked_props root) (λ e. ap (λ (those : List Element). not (has_name dav (codes "propfind") root) || is_empty those) e ∙ or_true (not (has_name dav (codes "propfind") root)))
  where
    by_names : (all names : Bool) (asked : Element) → AsksSomething (if all then AllProps else if names then AllNames else SomeProps (map property_name (children asked)))
    by_names true names asked = tt
    by_names false true asked = tt
    by_names false false asked = tt

    by : (b : Bool) (asked : List Element) → (asked ≡ [] → b ≡ true) → Suits Propfind (if b then Bad bad_request else Find (props_by asked) deep)
    by true asked h = bad_is Propfind
    by false [] h = absurd (false≢true (h refl))
    by false (asked ∷ more) h = (refl, by_names (has_name dav (codes "allprop") asked) (has_name dav (codes "propname") asked) asked)

patch_suits : (root : Element) → Suits Proppatch (patch_content root)
patch_suits root = if-holds (Suits Proppatch) (not (has_name dav (codes "propertyupdate") root) || are_bad (instructions root)) (Bad bad_request) (Patch (flat_map settings_of (instructions root))) (bad_is Proppatch) refl

make_suits : (root : Element) → Suits Mkcalendar (make_content root)
make_suits root =
    let sets = first_named dav (codes "set") root in
    if-holds (Suits Mkcalendar) (not (has_name caldav (codes "mkcalendar") root) || are_bad sets) (Bad bad_request) (Make (flat_map settings_of sets)) (bad_is Mkcalendar) refl

-- Reports

abbrev IsReportOrBad : Content → Type 0
IsReportOrBad (Report report) = Unit {0}
IsReportOrBad (Bad refusal) = Contains (refusals_of ReportMethod) refusal
IsReportOrBad _ = ⊥

unless_is : (rows : List Row) (report : ReportRequest) → EachRow (Contains (refusals_of ReportMethod)) rows → IsReportOrBad (report_unless rows report)
unless_is rows report h = by (first_row rows) (chosen (Contains (refusals_of ReportMethod)) rows h)
  where
    by : (found : Option Refusal) → HoldsOf (Contains (refusals_of ReportMethod)) found → IsReportOrBad (elim found [ None ↦ Report report | Some refusal ↦ Bad refusal ])
    by None k = tt
    by (Some refusal) k = k

rows_are : (lacks : Bool) (tops data_ : List Element) → EachRow (Contains (refusals_of ReportMethod)) (report_rows lacks tops data_)
rows_are lacks tops data_ = ((0, omega arith, refl), ((3, omega arith, refl), ((4, omega arith, refl), ((5, omega arith, refl), ((6, omega arith, refl), tt)))))

query_is : (root : Element) (tops : List Element) → IsReportOrBad (query_with root tops)
query_is root [] = bad_is ReportMethod
query_is root (top ∷ more) = unless_is (report_rows false (top ∷ []) (asked_data root)) _ (rows_are false (top ∷ []) (asked_data root))

multiget_is : (root : Element) → IsReportOrBad (multiget_content root)
multiget_is root = unless_is (report_rows (is_empty (named dav (codes "href") root)) [] (asked_data root)) _ (rows_are (is_empty (named dav (codes "href") root)) [] (asked_data root))

free_busy_is : (ranges : List Element) → IsReportOrBad (free_busy_with ranges)
free_busy_is [] = bad_is ReportMethod
free_busy_is (range ∷ more) = unless_is ((is_bad_range range, caldav_refusal (codes "valid-filter")) ∷ []) (FreeBusy (stated range)) ((3, omega arith, refl), tt)

report_is : (root : Element) → IsReportOrBad (report_content root)
unfolding report_content
report_is root =
    if-holds IsReportOrBad (has_name caldav (codes "calendar-query") root) _ _ (query_is root (flat_map (only (codes "comp-filter")) (only (codes "filter") root)))
    (if-holds IsReportOrBad (has_name caldav (codes "calendar-multiget") root) _ _ (multiget_is root)
    (if-holds IsReportOrBad (has_name caldav (codes "free-busy-query") root) _ _ (free_busy_is (only (codes "time-range") root)) (2, omega arith, refl)))

report_suits : (root : Element) → Suits ReportMethod (report_content root)
report_suits root = by (report_content root) refl (report_is root)
  where
    by : (content : Content) → report_content root ≡ content → IsReportOrBad content → Suits ReportMethod content
    by (Report report) e h = (refl, reports_are_sound root report e)
    by (Bad refusal) e h = h
    by NoContent e h = absurd h
    by (Put media octets) e h = absurd h
    by (Find props deep) e h = absurd h
    by (Patch settings) e h = absurd h
    by (Make settings) e h = absurd h
    by (Acl grants) e h = absurd h

-- Grants

abbrev EachIs : List Refusal → Type 0
EachIs [] = Unit {0}
EachIs (refusal ∷ more) = Contains (refusals_of AclMethod) refusal × EachIs more

one_more : (found : Option Refusal) (rest : List Refusal) → HoldsOf (Contains (refusals_of AclMethod)) found → EachIs rest → EachIs (option_to_list found ++ rest)
one_more None rest h k = k
one_more (Some refusal) rest h k = (h, k)

ace_rows_are : (users : Users) (before : ℕ) (ace : Element) → EachRow (Contains (refusals_of AclMethod)) (ace_rows users before ace)
ace_rows_are users before ace =
    ((2, omega arith, refl), ((3, omega arith, refl), ((4, omega arith, refl), ((5, omega arith, refl), ((6, omega arith, refl), ((7, omega arith, refl), tt))))))

ace_refusals_are : (users : Users) (before : ℕ) (kept : List Element) → EachIs (flat_map (λ (ace : ℕ × Element). option_to_list (first_row (ace_rows users ace.0 ace.1))) (enumerate_from before kept))
ace_refusals_are users before [] = tt
ace_refusals_are users before (ace ∷ kept) =
    one_more (first_row (ace_rows users before ace)) _ (chosen (Contains (refusals_of AclMethod)) (ace_rows users before ace) (ace_rows_are users before ace)) (ace_refusals_are users (before + 1) kept)

acl_suits : (users : Users) (root : Element) → Suits AclMethod (acl_content users root)
unfolding acl_content
acl_suits users root =
    if-holds (Suits AclMethod) (not (has_name dav (codes "acl") root) || list_any lacks_part (aces root)) (Bad bad_request) (acl_by (ace_refusals users (aces root)) (flat_map (grants_of users) (aces root))) (bad_is AclMethod)
    (by (ace_refusals users (aces root)) refl (ace_refusals_are users 0 (aces root)))
  where
    by : (refusals : List Refusal) → ace_refusals users (aces root) ≡ refusals → EachIs refusals → Suits AclMethod (acl_by refusals (flat_map (grants_of users) (aces root)))
    by [] e h = (refl, grants_are_few users root e)
    by (refusal ∷ more) e h = h.0

-- All methods

of_suits : (users : Users) (wire : WireRequest) (method : Method) → OfMethod (Suits method) users wire method
of_suits users wire Options = refl
of_suits users wire Get = refl
of_suits users wire Head = refl
of_suits users wire PutMethod = refl
of_suits users wire Delete = refl
of_suits users wire Propfind = ((refl, tt), λ root is. find_suits (is_deep wire) root)
of_suits users wire Proppatch = λ root is. patch_suits root
of_suits users wire ReportMethod = λ root is. report_suits root
of_suits users wire Mkcalendar = (refl, λ root is. make_suits root)
of_suits users wire AclMethod = λ root is. acl_suits users root

depth_suits : (method : Method) → OfDepth (Suits method) method
depth_suits Options = tt
depth_suits Get = tt
depth_suits Head = tt
depth_suits PutMethod = tt
depth_suits Delete = tt
depth_suits Propfind = (2, omega arith, refl)
depth_suits Proppatch = tt
depth_suits ReportMethod = tt
depth_suits Mkcalendar = tt
depth_suits AclMethod = tt

pub content_suits : (users : Users) (wire : WireRequest) (method : Method) → Suits method (content_of users wire method)
content_suits users wire method = content-holds (Suits method) users wire method (bad_is method) (media_is method) (depth_suits method) (of_suits users wire method)
