-- What a payload has behind the calendar's name, for each kind of change.
use Rattle.std.proofs.Common.{◌≡◌, ℕ, ◌<◌, ◌≤◌, ◌^◌, true, All, List, [], ◌++◌, length, refl, sym, ◌∙◌, ap, arith, length-append}
use Rattle.std.proofs.lemmas.List.{append-nil, nil_from_length}
use Rattle.cal_model.specs.declared.path.Path.TheVariants.{Calendar, Object}
use Rattle.cal_model.specs.declared.privilege.Grant.{Grant}
use Rattle.cal_model.specs.declared.property.PropSet.{PropSet}
use Rattle.cal_model.specs.declared.request.Content.TheVariants as content
use Rattle.cal_model.specs.declared.request.Method.TheVariants.{Put, Delete, Mkcalendar, Proppatch, Acl}
use Rattle.cal_model.specs.declared.request.Request.{Request}
use Rattle.cal_model.specs.Bodies.AclBodies.{grant_limit}
use Rattle.cal_model.specs.History.Journal.{plain}
use Rattle.cal_model.specs.State.Changes.{Change, put, delete_object, delete_calendar, make, patch, acl}
use Rattle.cal_model.specs.State.ServerState.{directory_of, user_name}
use Rattle.cal_model.specs.Users.UsersFile.{Users}
use Rattle.cal_keeper.specs.Steps.Decoding.{HasNo, IsAny, AsksForOwn, HasNoOwn}
use Rattle.cal_keeper.specs.Files.Payloads.{name_text, long_text, sets_text, grants_text, own_text, kind_of, IsName, SettingsHaveForm, GrantHasForm, ChangeHasForm}
use Rattle.cal_keeper.proofs.PartLaws.{name_told, long_told}
use Rattle.cal_keeper.specs.Principals.{counts_of}

-- nothing stands behind a part
alone : (text rest octets : List ℕ) → octets ≡ text ++ rest → length rest ≡ 0 → octets ≡ text
alone text rest octets is none = is ∙ ap (λ (xs : List ℕ). text ++ xs) (nil_from_length rest none) ∙ append-nil text

-- PUT

pub put_asks : (users : Users) (home : ℕ) (calendar octets object text rest after : List ℕ) (request : Request) → IsName object → octets ≡ name_text object ++ rest → rest ≡ long_text text ++ after → length after ≡ 0
    → request ≡ plain Put (Object (user_name (directory_of users) home) calendar object) (length text) (content.Put true text) → AsksForOwn users 1 home calendar octets request
put_asks users home calendar octets object text rest after request name is rest_is none request_is = (
  put home calendar object text,
  record { kind_is = refl; home_is = refl; calendar_is = refl; form = name; text = is ∙ ap (λ (xs : List ℕ). name_text object ++ xs) (alone (long_text text) after rest rest_is none) },
  request_is,
)

pub put_without_text : (users : Users) (home : ℕ) (calendar octets object rest : List ℕ) → octets ≡ name_text object ++ rest → HasNo long_text IsAny rest → HasNoOwn users 1 home calendar octets
put_without_text users home calendar octets object rest is none change own = by change own.kind_is own.text
  where
    by : (change : Change) → kind_of change ≡ 1 → octets ≡ own_text change → ⊥
    by (put h c o text) kind whole =
        let told = name_told octets object o rest (long_text text) is whole in
        none text [] tt (told.1 ∙ sym (append-nil (long_text text)))
    by other kind whole = absurd (omega (arith, kind))

pub put_with_more : (users : Users) (home : ℕ) (calendar octets object text rest after : List ℕ) → length octets < 2 ^ 32 → octets ≡ name_text object ++ rest → rest ≡ long_text text ++ after → (length after ≡ 0 → ⊥)
    → HasNoOwn users 1 home calendar octets
put_with_more users home calendar octets object text rest after small is rest_is some change own = by change own.kind_is own.text
  where
    by : (change : Change) → kind_of change ≡ 1 → octets ≡ own_text change → ⊥
    by (put h c o t) kind whole =
        let told = name_told octets object o rest (long_text t) is whole in
        let smaller : length rest < 2 ^ 32 = omega (arith, small, ap length is, length-append (name_text object) rest) in
        let texts = long_told rest text t after [] smaller rest_is (told.1 ∙ sym (append-nil (long_text t))) in
        some (ap length texts.1)
    by other kind whole = absurd (omega (arith, kind))

-- DELETE

pub object_deletion_asks : (users : Users) (home : ℕ) (calendar octets object rest : List ℕ) (request : Request) → IsName object → octets ≡ name_text object ++ rest → length rest ≡ 0
    → request ≡ plain Delete (Object (user_name (directory_of users) home) calendar object) 0 content.None → AsksForOwn users 2 home calendar octets request
object_deletion_asks users home calendar octets object rest request name is none request_is =
    (delete_object home calendar object, record { kind_is = refl; home_is = refl; calendar_is = refl; form = name; text = alone (name_text object) rest octets is none }, request_is)

pub object_deletion_without_name : (users : Users) (home : ℕ) (calendar octets : List ℕ) → HasNo name_text IsName octets → HasNoOwn users 2 home calendar octets
object_deletion_without_name users home calendar octets none change own = by change own.kind_is own.form own.text
  where
    by : (change : Change) → kind_of change ≡ 2 → ChangeHasForm (counts_of users) change → octets ≡ own_text change → ⊥
    by (delete_object h c object) kind form whole = none object [] form (whole ∙ sym (append-nil (name_text object)))
    by other kind form whole = absurd (omega (arith, kind))

pub calendar_deletion_asks : (users : Users) (home : ℕ) (calendar octets : List ℕ) (request : Request) → length octets ≡ 0
    → request ≡ plain Delete (Calendar (user_name (directory_of users) home) calendar) 0 content.None → AsksForOwn users 3 home calendar octets request
calendar_deletion_asks users home calendar octets request none request_is =
    (delete_calendar home calendar, record { kind_is = refl; home_is = refl; calendar_is = refl; form = tt; text = nil_from_length octets none }, request_is)

-- MKCALENDAR, PROPPATCH and ACL

pub make_asks : (users : Users) (home : ℕ) (calendar octets : List ℕ) (size : ℕ) (sets : List PropSet) (request : Request) → octets ≡ sets_text size sets → SettingsHaveForm sets → size < 2 ^ 32
    → request ≡ plain Mkcalendar (Calendar (user_name (directory_of users) home) calendar) size (content.Make sets) → AsksForOwn users 4 home calendar octets request
make_asks users home calendar octets size sets request is form small request_is =
    (make home calendar sets size, record { kind_is = refl; home_is = refl; calendar_is = refl; form = (form, small); text = is }, request_is)

pub patch_asks : (users : Users) (home : ℕ) (calendar octets : List ℕ) (size : ℕ) (sets : List PropSet) (request : Request) → octets ≡ sets_text size sets → SettingsHaveForm sets → size < 2 ^ 32
    → request ≡ plain Proppatch (Calendar (user_name (directory_of users) home) calendar) size (content.Patch sets) → AsksForOwn users 5 home calendar octets request
patch_asks users home calendar octets size sets request is form small request_is =
    (patch home calendar sets size, record { kind_is = refl; home_is = refl; calendar_is = refl; form = (form, small); text = is }, request_is)

pub acl_asks : (users : Users) (home : ℕ) (calendar octets : List ℕ) (size : ℕ) (grants : List Grant) (request : Request) → octets ≡ grants_text size grants → length grants ≤ grant_limit → All (GrantHasForm (counts_of users)) grants → size < 2 ^ 32
    → request ≡ plain Acl (Calendar (user_name (directory_of users) home) calendar) size (content.Acl grants) → AsksForOwn users 6 home calendar octets request
acl_asks users home calendar octets size grants request is few form small request_is =
    (acl home calendar grants size, record { kind_is = refl; home_is = refl; calendar_is = refl; form = (few, form, small); text = is }, request_is)
