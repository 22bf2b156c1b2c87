-- Which properties of a resource are told.
use Rattle.std.proofs.Common.{◌≡◌, ℕ, ◌+◌, ◌<◌, Bool, true, false, not, cond, ◌==◌, List, [], ◌∷◌, ◌++◌, map, length, get_or, take, drop, Option, Some, None, refl, sym, ap, ◌∙◌, subst, append-nil, append_assoc}
use Rattle.std.specs.Prelude.{filter, is_some, find, option_map, Result, Ok, Err, OnOk}
use Rattle.std.proofs.Math.Seq.{take-append_seam, drop-append_seam}
use Rattle.std.proofs.lemmas.Bool.{false≢true}
use Rattle.std.proofs.lemmas.List.{map-append, take_more}
use Rattle.std.proofs.lemmas.List.Elements.{filter-append}
use Rattle.cal_model.specs.declared.property.PropName.{PropName}
use Rattle.cal_model.specs.declared.property.PropSet.{PropSet}
use Rattle.cal_model.specs.Access.Privileges.{same_name, has_all}
use Rattle.cal_model.specs.Properties.PropertyTable.{Answer, Property, Listing, answer, answer_of_row, properties, row_of, is_text, text_names, without_value}
use Rattle.cal_model.specs.Properties.PropertyReplies.{with_status}
use Rattle.cal_model.specs.Sight.Resources.{Resource, Asker, held_of}
use Rattle.cal_model.specs.State.ServerState.{Directory}
use Rattle.cal_model.specs.Words.Lists.{is_empty}
use Rattle.multistatus.specs.Answered.{IsAnswered}
use Rattle.multistatus.specs.declared.responses.Response.{Response}
use Rattle.dav_props.specs.declared.rows.Asked.{Asked}
use Rattle.dav_props.specs.declared.rows.Row.{Row}
use Rattle.dav_props.specs.declared.rows.Row.TheVariants as rows
use Rattle.dav_props.specs.declared.subjects.Subject.{Subject}
use Rattle.dav_props.specs.declared.telling.Telling.{Telling}
use Rattle.dav_props.specs.declared.telling.Telling.TheVariants.{Every, There, Names}
use Rattle.dav_props.specs.Answers.{answered}
use Rattle.dav_props.specs.Contents.{IsShownHere}
use Rattle.dav_props.specs.Finding.{IsFound, Tells, asking, bare, told}
use Rattle.dav_props.specs.Rows.{asked_name, name_of, property_of, listed_rows}
use Rattle.dav_props.specs.Subjects.{Unseen, resource_of, texts_of, text_of}
use Rattle.dav_props.proofs.RowLemmas.{properties_are, looked_up, name_kept}

-- Some answers, and behind them others

pub told-append : (telling : Telling) (xs ys : List Answer) → told telling (xs ++ ys) ≡ told telling xs ++ told telling ys
told-append Every xs ys = refl
told-append There xs ys = filter-append (λ (a : Answer). a.status == 200) xs ys
told-append Names xs ys =
    ap (map bare) (filter-append (λ (a : Answer). a.status == 200) xs ys) ∙ map-append bare (with_status 200 xs) (with_status 200 ys)

module _ (asker : Asker) (resource : Resource) (telling : Telling) where
  pub tells_more : (names more : List PropName) (r0 : Response) (w0 : List ℕ) (r1 : Response) (w1 : List ℕ) (r2 : Response) (w2 : List ℕ)
      → Tells asker resource telling names r0 w0 r1 w1 → Tells asker resource telling more r1 w1 r2 w2 → Tells asker resource telling (names ++ more) r0 w0 r2 w2
  tells_more names more r0 w0 r1 w1 r2 w2 first second front href before so_far =
      let one = told telling (map (answer asker resource) names) in
      let two = told telling (map (answer asker resource) more) in
      subst (λ (answers : List Answer). IsAnswered front href answers r2 w2)
      (append_assoc before one two
      ∙ ap (λ answers. before ++ answers) (sym (told-append telling (map (answer asker resource) names) (map (answer asker resource) more)) ∙ ap (told telling) (sym (map-append (answer asker resource) names more))))
      (second front href (before ++ one) (first front href before so_far))

  pub tells_as : (names others : List PropName) (r0 : Response) (w0 : List ℕ) (r1 : Response) (w1 : List ℕ)
      → names ≡ others → Tells asker resource telling names r0 w0 r1 w1 → Tells asker resource telling others r0 w0 r1 w1
  tells_as names others r0 w0 r1 w1 same tells = subst (λ (n : List PropName). Tells asker resource telling n r0 w0 r1 w1) same tells

  -- an answer that does not stand in the response
  pub tells_absent : (name : PropName) (response : Response) (written : List ℕ) → told telling (answer asker resource name ∷ []) ≡ []
      → Tells asker resource telling (name ∷ []) response written response written
  tells_absent name response written none front href before so_far =
      subst (λ (answers : List Answer). IsAnswered front href answers response written) (sym (ap (λ more. before ++ more) none ∙ append-nil before)) so_far

-- One answer

-- outside of reports no property hangs on what a report shows
pub shown_none : (row : Row) → IsShownHere row None
shown_none rows.ResourceType = tt
shown_none rows.AskingPrincipal = tt
shown_none rows.Owner = tt
shown_none rows.HeldPrivileges = tt
shown_none rows.DisplayName = tt
shown_none rows.PrincipalUrl = tt
shown_none rows.CalendarHome = tt
shown_none rows.GroupMembers = tt
shown_none rows.GroupMemberships = tt
shown_none rows.Etag = tt
shown_none rows.ContentType = tt
shown_none rows.ContentLength = tt
shown_none rows.CalendarData = refl
shown_none rows.Description = tt
shown_none rows.Timezone = tt
shown_none rows.Kinds = tt
shown_none rows.DataType = tt
shown_none rows.MaxSize = tt
shown_none rows.MinDate = tt
shown_none rows.MaxDate = tt
shown_none rows.MaxInstances = tt
shown_none rows.Reports = tt
shown_none rows.Acl = tt
shown_none rows.Text = tt

pub answered_is : (directory : Directory) (who : ℕ) (asked : Asked) (seen : Subject) (unseen : Unseen) → IsFound asked
    → answered directory who None asked seen unseen ≡ answer (asking directory who) (resource_of seen unseen) (asked_name asked)
unfolding answer
answered_is directory who asked seen unseen found = ap (answer_of_row (asking directory who) (resource_of seen unseen) (asked_name asked)) (sym found)

-- A property that is left out: it is not there, and not each is answered

left_out_there : (a : Answer) (test : Bool) → not test ≡ is_empty (cond test (a ∷ []) [])
left_out_there a true = refl
left_out_there a false = refl

left_out_names : (a : Answer) (test : Bool) → not test ≡ is_empty (map bare (cond test (a ∷ []) []))
left_out_names a true = refl
left_out_names a false = refl

pub left_out_by : (telling : Telling) (a : Answer) (status : ℕ) → (telling ≡ Every → ⊥) → status ≡ a.status → not (status == 200) ≡ is_empty (told telling (a ∷ []))
left_out_by Every a status some is = absurd (some refl)
left_out_by There a status some is = ap (λ n. not (n == 200)) is ∙ left_out_there a (a.status == 200)
left_out_by Names a status some is = ap (λ n. not (n == 200)) is ∙ left_out_names a (a.status == 200)

-- What is told of a property that is not left out

whole_there : (a : Answer) (test : Bool) → is_empty (cond test (a ∷ []) []) ≡ false → cond test (a ∷ []) [] ≡ a ∷ []
whole_there a true some = refl
whole_there a false some = absurd (false≢true (sym some))

pub told_whole : (telling : Telling) (a : Answer) → (telling ≡ Names → ⊥) → is_empty (told telling (a ∷ [])) ≡ false → told telling (a ∷ []) ≡ a ∷ []
told_whole Every a whole some = refl
told_whole There a whole some = whole_there a (a.status == 200) some
told_whole Names a whole some = absurd (whole refl)

bare_names : (a : Answer) (test : Bool) → is_empty (map bare (cond test (a ∷ []) [])) ≡ false → map bare (cond test (a ∷ []) []) ≡ bare a ∷ []
bare_names a true some = refl
bare_names a false some = absurd (false≢true (sym some))

pub told_bare : (telling : Telling) (a : Answer) → telling ≡ Names → is_empty (told telling (a ∷ [])) ≡ false → told telling (a ∷ []) ≡ bare a ∷ []
told_bare telling a names =
    subst (λ (t : Telling). is_empty (told t (a ∷ [])) ≡ false → told t (a ∷ []) ≡ bare a ∷ []) (sym names) (bare_names a (a.status == 200))

-- The rows that are listed

listed_names_of : (p : Listing → Bool) (some : List Row)
    → map (λ (property : Property). property.name) (filter (λ (property : Property). p property.listed) (map (λ row. property_of row (name_of row)) some))
    ≡ map name_of (filter (λ row. p (property_of row (name_of row)).listed) some)
listed_names_of p [] = refl
listed_names_of p (row ∷ some) = by (p (property_of row (name_of row)).listed) (listed_names_of p some) where
  rest : List Property
  rest = filter (λ (property : Property). p property.listed) (map (λ row. property_of row (name_of row)) some)

  rest_rows : List Row
  rest_rows = filter (λ row. p (property_of row (name_of row)).listed) some

  by : (test : Bool) → map (λ (property : Property). property.name) rest ≡ map name_of rest_rows
      → map (λ (property : Property). property.name) (cond test (property_of row (name_of row) ∷ rest) rest) ≡ map name_of (cond test (row ∷ rest_rows) rest_rows)
  by true later = λ i. name_kept row (name_of row) i ∷ later i
  by false later = later

pub listed_names : (p : Listing → Bool)
    → map (λ (property : Property). property.name) (filter (λ (property : Property). p property.listed) properties) ≡ map name_of (filter (λ row. p (property_of row (name_of row)).listed) listed_rows)
listed_names p = ap (λ (all : List Property). map (λ (property : Property). property.name) (filter (λ (property : Property). p property.listed) all)) properties_are ∙ listed_names_of p listed_rows

-- one row more
pub rows_more : (p : Row → Bool) (all : List Row) (i : ℕ) (d : Row) → i < length all
    → map name_of (filter p (take i all)) ++ map name_of (filter p (get_or all i d ∷ [])) ≡ map name_of (filter p (take (i + 1) all))
rows_more p all i d within =
    sym (map-append name_of (filter p (take i all)) (filter p (get_or all i d ∷ [])))
    ∙ ap (map name_of) (sym (filter-append p (take i all) (get_or all i d ∷ [])) ∙ ap (filter p) (sym (take_more all i d within)))

-- a row's own name finds it
pub row_of-own : (row : Row) → row_of (name_of row) ≡ property_of row (name_of row)
unfolding properties
row_of-own rows.ResourceType = refl
row_of-own rows.AskingPrincipal = refl
row_of-own rows.Owner = refl
row_of-own rows.HeldPrivileges = refl
row_of-own rows.DisplayName = refl
row_of-own rows.PrincipalUrl = refl
row_of-own rows.CalendarHome = refl
row_of-own rows.GroupMembers = refl
row_of-own rows.GroupMemberships = refl
row_of-own rows.Etag = refl
row_of-own rows.ContentType = refl
row_of-own rows.ContentLength = refl
row_of-own rows.CalendarData = refl
row_of-own rows.Description = refl
row_of-own rows.Timezone = refl
row_of-own rows.Kinds = refl
row_of-own rows.DataType = refl
row_of-own rows.MaxSize = refl
row_of-own rows.MinDate = refl
row_of-own rows.MaxDate = refl
row_of-own rows.MaxInstances = refl
row_of-own rows.Reports = refl
row_of-own rows.Acl = refl
row_of-own rows.Text = refl

-- Texts

pub is_text-looked_up : (name : PropName) → is_text name ≡ not (is_some (find (λ row. same_name (name_of row) name) listed_rows))
is_text-looked_up name = ap (λ found. not (is_some found)) (looked_up name) ∙ by (find (λ row. same_name (name_of row) name) listed_rows) where
  by : (found : Option Row) → not (is_some (option_map (λ row. property_of row (name_of row)) found)) ≡ not (is_some found)
  by None = refl
  by (Some row) = refl

pub texts_more : (all : List PropSet) (i : ℕ) (set : PropSet) → i < length all → set ≡ get_or all i set
    → text_names (texts_of (take i all)) ++ text_names (texts_of (set ∷ [])) ≡ text_names (texts_of (take (i + 1) all))
texts_more all i set within is =
    let names = λ (sets : List PropSet). map (λ (entry : PropName × List ℕ). entry.0) (texts_of sets) in
    sym (filter-append is_text (names (take i all)) (names (set ∷ [])))
    ∙ ap (filter is_text) (sym (map-append (λ (entry : PropName × List ℕ). entry.0) (texts_of (take i all)) (texts_of (set ∷ []))) ∙ ap (map (λ (entry : PropName × List ℕ). entry.0)) (sym (map-append text_of (take i all) (set ∷ []))))
    ∙ ap (λ (sets : List PropSet). text_names (texts_of sets)) (ap (λ x. take i all ++ x ∷ []) is ∙ sym (take_more all i set within))

-- What was appended at a place

pub appended_at : (old new element : List ℕ) (place : ℕ) → place ≡ length old → new ≡ old ++ element → (take place new ≡ old) × (drop place new ≡ element)
appended_at old new element place at is =
    ((λ i. take (at i) (is i)) ∙ take-append_seam old element, (λ i. drop (at i) (is i)) ∙ drop-append_seam old element)

-- where memory sufficed, some answers are taken in behind all others
pub on_ok_told : {X E : Type 0} (result : Result X E) (r0 : Response) (w0 : List ℕ) (r1 : Response) (w1 : List ℕ) (more : List Answer)
    → ((front href : List ℕ) (before : List Answer) → IsAnswered front href before r0 w0 → OnOk result (IsAnswered front href (before ++ more) r1 w1))
    → OnOk result ((front href : List ℕ) (before : List Answer) → IsAnswered front href before r0 w0 → IsAnswered front href (before ++ more) r1 w1)
on_ok_told (Ok x) r0 w0 r1 w1 more all = all
on_ok_told (Err e) r0 w0 r1 w1 more all = tt

pub on_ok_each : {X E A : Type 0} (P : A → Type 0) (result : Result X E) → ((a : A) → OnOk result (P a)) → OnOk result ((a : A) → P a)
on_ok_each P (Ok x) all = all
on_ok_each P (Err e) all = tt

pub found_row : (asked : Asked) (row : Row) → asked_name asked ≡ name_of row → asked.row ≡ row → IsFound asked
found_row asked row name is = ap row_of name ∙ row_of-own row ∙ (λ i. property_of (sym is i) (sym name i))

pub row_listed : (p : Row → Bool) (row : Row) (name : PropName) → name ≡ name_of row → p row ≡ true → name ∷ [] ≡ map name_of (filter p (row ∷ []))
row_listed p row name is shown = ap (λ n. n ∷ []) is ∙ sym (ap (λ b. map name_of (cond b (row ∷ []) [])) shown)

pub text_listed : (set : PropSet) (name : PropName) → name ≡ set.name → is_text set.name ≡ true → name ∷ [] ≡ text_names (texts_of (set ∷ []))
text_listed set name is shown = ap (λ n. n ∷ []) is ∙ sym (ap (λ b. cond b (set.name ∷ []) []) shown)

answered_name : (name : PropName) (on held : Bool) (value : Option (List ℕ))
    → (cond (not on) (without_value name 404) (cond (not held) (without_value name 403) (elim value [ None ↦ without_value name 404 | Some content ↦ record { name = name; status = 200; content = content } ]))).name ≡ name
answered_name name false held value = refl
answered_name name true false value = refl
answered_name name true true None = refl
answered_name name true true (Some content) = refl

pub bare_is : (asker : Asker) (resource : Resource) (name : PropName) → bare (answer asker resource name) ≡ without_value name 200
unfolding answer
bare_is asker resource name =
    ap (λ (n : PropName). without_value n 200) (answered_name name ((row_of name).on resource) (has_all (held_of resource) (row_of name).needs) ((row_of name).value asker resource))
