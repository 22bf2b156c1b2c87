-- What is answered to the names that a report asks of an object, one after another.
use Rattle.std.proofs.Common.{◌≡◌, ℕ, Bool, true, false, cond, List, [], ◌∷◌, ◌++◌, ◌+◌, get_or, length, map, take, refl, sym, ap, ◌∙◌, append-nil, ◌<◌}
use Rattle.std.specs.Prelude.{◌==◌, not, flat_map, Some, None, Option}
use Rattle.std.proofs.lemmas.List.{take_more}
use Rattle.std.proofs.lemmas.Grind.{flat_map-append}
use Rattle.std.proofs.lemmas.List.Concat.{flat_map_single}
use Rattle.cal_model.specs.declared.property.PropName.{PropName}
use Rattle.cal_model.specs.declared.property.Props.{Props}
use Rattle.cal_model.specs.declared.property.Props.TheVariants.{All as AllProps, Names as AllNames, None as NoProps, Some as SomeProps}
use Rattle.cal_model.specs.Properties.PropertyReplies.{answers, once, propstats, resource_response, with_status}
use Rattle.cal_model.specs.Properties.PropertyTable.{Answer, answer, row_of, without_value, names_where, is_in_both, is_in_names}
use Rattle.cal_model.specs.Access.Privileges.{has_all}
use Rattle.cal_model.specs.Replies.Hrefs.{href}
use Rattle.cal_model.specs.Replies.XmlText.{response}
use Rattle.cal_model.specs.Sight.Resources.{Resource, root, principal, group, home, calendar, object, Asker, held_of, is_object, path_of_resource}
use Rattle.std.proofs.lemmas.Bool.{false≢true}
use Rattle.dav_reports.specs.AskedProperties.{if_there, names_asked, names_listed, said_of}

-- one answer more
pub said_more : (f : PropName → List Answer) (names : List PropName) (i : ℕ) (name : PropName) → i < length names → name ≡ get_or names i name
    → flat_map f (take (i + 1) names) ≡ flat_map f (take i names) ++ f name
said_more f names i name below is =
    ap (flat_map f) (take_more names i name below)
    ∙ flat_map-append f (take i names) (get_or names i name ∷ [])
    ∙ ap (λ (n : PropName). flat_map f (take i names) ++ (f n ++ [])) (sym is)
    ∙ ap (λ said. flat_map f (take i names) ++ said) (append-nil (f name))

-- an answer is to the name that is asked
pub answer-name : (asker : Asker) (resource : Resource) (name : PropName) → (answer asker resource name).name ≡ name
unfolding answer
answer-name asker resource name = by ((row_of name).on resource) (has_all (held_of resource) (row_of name).needs) ((row_of name).value asker resource)
  where
    by : (on held : Bool) (value : Option (List ℕ))
        → (cond (not on) (without_value name 404) (cond (not held) (without_value name 403) (elim value [ None ↦ without_value name 404 | Some content ↦ record { name = name; status = 200; content = content } ]))).name ≡ name
    by false held value = refl
    by true false value = refl
    by true true None = refl
    by true true (Some content) = refl

there_said : (f : PropName → Answer) (names : List PropName) → flat_map (λ n. if_there (f n)) names ≡ with_status 200 (map f names)
there_said f [] = refl
there_said f (n ∷ names) = by ((f n).status == 200) (there_said f names)
  where
    by : (b : Bool) → flat_map (λ m. if_there (f m)) names ≡ with_status 200 (map f names) → cond b (f n ∷ []) [] ++ flat_map (λ m. if_there (f m)) names ≡ cond b (f n ∷ with_status 200 (map f names)) (with_status 200 (map f names))
    by true e = ap (λ later. f n ∷ later) e
    by false e = e

names_said : (f : PropName → Answer) (g : Answer → Answer) (names : List PropName) → flat_map (λ n. map g (if_there (f n))) names ≡ map g (with_status 200 (map f names))
names_said f g [] = refl
names_said f g (n ∷ names) = by ((f n).status == 200) (names_said f g names)
  where
    by : (b : Bool) → flat_map (λ m. map g (if_there (f m))) names ≡ map g (with_status 200 (map f names)) → map g (cond b (f n ∷ []) []) ++ flat_map (λ m. map g (if_there (f m))) names ≡ map g (cond b (f n ∷ with_status 200 (map f names)) (with_status 200 (map f names)))
    by true e = ap (λ later. g (f n) ∷ later) e
    by false e = e

-- an object has no texts, so its listed names are those of the table
no_texts : (resource : Resource) → is_object resource ≡ true → (names_where is_in_both resource ≡ names_listed is_in_both) × (names_where is_in_names resource ≡ names_listed is_in_names)
no_texts root e = absurd (false≢true e)
no_texts (principal user) e = absurd (false≢true e)
no_texts (group name) e = absurd (false≢true e)
no_texts (home owner) e = absurd (false≢true e)
no_texts (calendar owner name sight) e = absurd (false≢true e)
no_texts (object owner within name sight octets) e = (append-nil (names_listed is_in_both), append-nil (names_listed is_in_names))

-- all that is answered
said_all : (props : Props) (asker : Asker) (resource : Resource) → is_object resource ≡ true → flat_map (said_of props asker resource) (names_asked props) ≡ answers asker resource props
said_all AllProps asker resource e =
    there_said (answer asker resource) (names_listed is_in_both) ∙ ap (λ names. with_status 200 (map (answer asker resource) names)) (sym (no_texts resource e).0)
said_all AllNames asker resource e =
    names_said (answer asker resource) (λ (a : Answer). without_value a.name 200) (names_listed is_in_names)
    ∙ ap (λ names. map (λ (a : Answer). without_value a.name 200) (with_status 200 (map (answer asker resource) names))) (sym (no_texts resource e).1)
said_all NoProps asker resource e = refl
said_all (SomeProps names) asker resource e = flat_map_single (answer asker resource) (once names)

pub response_said : (props : Props) (asker : Asker) (resource : Resource) → is_object resource ≡ true → (props ≡ NoProps → ⊥)
    → response (href (path_of_resource resource)) (propstats (flat_map (said_of props asker resource) (names_asked props))) ≡ resource_response asker props resource
response_said AllProps asker resource e some = ap (λ said. response (href (path_of_resource resource)) (propstats said)) (said_all AllProps asker resource e)
response_said AllNames asker resource e some = ap (λ said. response (href (path_of_resource resource)) (propstats said)) (said_all AllNames asker resource e)
response_said NoProps asker resource e some = absurd (some refl)
response_said (SomeProps names) asker resource e some = ap (λ said. response (href (path_of_resource resource)) (propstats said)) (said_all (SomeProps names) asker resource e)
