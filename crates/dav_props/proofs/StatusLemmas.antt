-- What the definition's table answers, by the code's tests and contents.
use Rattle.std.proofs.Common.{◌≡◌, ℕ, Bool, true, false, not, cond, List, [], Option, Some, None, refl, sym, ap, ◌∙◌, arith}
use Rattle.std.specs.Prelude.{is_some, option_map, option_and_then, unwrap_or, if◌then◌else◌}
use Rattle.std.proofs.lemmas.Bool.{false≢true}
use Rattle.cal_model.specs.declared.property.PropName.{PropName}
use Rattle.cal_model.specs.Access.Privileges.{has_all, read, read_acl}
use Rattle.cal_model.specs.State.ServerState.{Directory}
use Rattle.cal_model.specs.State.PropertyTexts.{text_at}
use Rattle.cal_model.specs.Replies.XmlText.{xml_text}
use Rattle.cal_model.specs.Sight.Views.{Contents, only_where}
use Rattle.cal_model.specs.Sight.Resources.{Asker, Resource, held_of}
use Rattle.cal_model.specs.Properties.PropertyTable.{Answer, without_value}
use Rattle.cal_model.specs.Properties.PropertyValues.{kinds_elements, acl_elements, members_of, memberships_of}
use Rattle.dav_props.specs.declared.rows.Row.{Row}
use Rattle.dav_props.specs.declared.rows.Row.TheVariants as rows
use Rattle.dav_props.specs.declared.rows.Asked.{Asked}
use Rattle.dav_props.specs.declared.subjects.Subject.{Subject}
use Rattle.dav_props.specs.declared.subjects.Subject.TheVariants as subject
use Rattle.dav_props.specs.declared.rows.Columns.{Columns}
use Rattle.dav_props.specs.Rows.{property_of, asked_name, is_on, AreColumns}
use Rattle.dav_props.specs.Subjects.{Unseen, HasUsers, resource_of, texts_of}
use Rattle.dav_props.specs.Contents.{IsShownHere, shown_content, type_elements, text_element, display_element, members_shown, memberships_shown, kinds_shown, acl_shown}
use Rattle.dav_props.specs.Answers.{answered, has_text_set, is_known, is_there_in, is_there_at}

-- where all is held, what is shown is there
shown_there : {X : Type 0} (test : Bool) (x : X) → test ≡ true → is_some (only_where test x) ≡ true
shown_there true x e = refl
shown_there false x e = absurd (false≢true e)

mapped_there : {X Y : Type 0} (f : X → Y) (o : Option X) → is_some (option_map f o) ≡ is_some o
mapped_there f None = refl
mapped_there f (Some x) = refl

text_there : (test : Bool) (contents : Contents) (name : PropName) → test ≡ true
    → is_some (option_and_then (λ (c : Contents). option_map xml_text (text_at c.texts name)) (only_where test contents)) ≡ is_some (text_at contents.texts name)
text_there true contents name e = mapped_there xml_text (text_at contents.texts name)
text_there false contents name e = absurd (false≢true e)

module _ (directory : Directory) (who : ℕ) (shown : Option (List ℕ → List ℕ)) (unseen : Unseen) where
  abbrev pub asker : Asker
  asker = record { directory = directory; who = who; shown = shown }

  abbrev pub value_at : Row → PropName → Subject → Option (List ℕ)
  value_at row name seen = (property_of row name).value asker (resource_of seen unseen)

  abbrev pub is_on_at : Row → PropName → Subject → Bool
  is_on_at row name seen = (property_of row name).on (resource_of seen unseen)

  abbrev pub is_held_at : Row → PropName → Subject → Bool
  is_held_at row name seen = has_all (held_of (resource_of seen unseen)) (property_of row name).needs

  type_there : (name : PropName) (seen : Subject) → is_some (value_at rows.ResourceType name seen) ≡ true
  type_there name subject.Root = refl
  type_there name (subject.Principal user number) = refl
  type_there name (subject.Group of number) = refl
  type_there name (subject.Home user) = refl
  type_there name (subject.Calendar user held kept) = refl
  type_there name (subject.Object user held stored) = refl

  -- texts of calendars, under any row that is one
  text_set_there : (asked : Asked) (seen : Subject) → is_on_at rows.Text (asked_name asked) seen ≡ true → is_held_at rows.Text (asked_name asked) seen ≡ true
      → is_some (value_at rows.Text (asked_name asked) seen) ≡ has_text_set asked seen
  text_set_there asked subject.Root on held = absurd (false≢true on)
  text_set_there asked (subject.Principal user number) on held = absurd (false≢true on)
  text_set_there asked (subject.Group of number) on held = absurd (false≢true on)
  text_set_there asked (subject.Home user) on held = absurd (false≢true on)
  text_set_there asked (subject.Calendar user set kept) on held =
      text_there (has_all set read) (record { kinds = kept.now.kinds; texts = texts_of kept.now.texts; objects = unseen.objects }) (asked_name asked) held
  text_set_there asked (subject.Object user set stored) on held = absurd (false≢true on)

  display_there : (asked : Asked) (seen : Subject) → is_on_at rows.DisplayName (asked_name asked) seen ≡ true → is_held_at rows.DisplayName (asked_name asked) seen ≡ true
      → is_some (value_at rows.DisplayName (asked_name asked) seen) ≡ has_text_set asked seen
  display_there asked subject.Root on held = absurd (false≢true on)
  display_there asked (subject.Principal user number) on held = refl
  display_there asked (subject.Group of number) on held = refl
  display_there asked (subject.Home user) on held = absurd (false≢true on)
  display_there asked (subject.Calendar user set kept) on held =
      text_there (has_all set read) (record { kinds = kept.now.kinds; texts = texts_of kept.now.texts; objects = unseen.objects }) (asked_name asked) held
  display_there asked (subject.Object user set stored) on held = absurd (false≢true on)

  etag_there : (name : PropName) (seen : Subject) → is_on_at rows.Etag name seen ≡ true → is_held_at rows.Etag name seen ≡ true → is_some (value_at rows.Etag name seen) ≡ true
  etag_there name subject.Root on held = absurd (false≢true on)
  etag_there name (subject.Principal user number) on held = absurd (false≢true on)
  etag_there name (subject.Group of number) on held = absurd (false≢true on)
  etag_there name (subject.Home user) on held = absurd (false≢true on)
  etag_there name (subject.Calendar user set kept) on held = absurd (false≢true on)
  etag_there name (subject.Object user set stored) on held = refl

  content_type_there : (name : PropName) (seen : Subject) → is_on_at rows.ContentType name seen ≡ true → is_held_at rows.ContentType name seen ≡ true → is_some (value_at rows.ContentType name seen) ≡ true
  content_type_there name subject.Root on held = absurd (false≢true on)
  content_type_there name (subject.Principal user number) on held = absurd (false≢true on)
  content_type_there name (subject.Group of number) on held = absurd (false≢true on)
  content_type_there name (subject.Home user) on held = absurd (false≢true on)
  content_type_there name (subject.Calendar user set kept) on held = absurd (false≢true on)
  content_type_there name (subject.Object user set stored) on held = refl

  length_there : (name : PropName) (seen : Subject) → is_on_at rows.ContentLength name seen ≡ true → is_held_at rows.ContentLength name seen ≡ true → is_some (value_at rows.ContentLength name seen) ≡ true
  length_there name subject.Root on held = absurd (false≢true on)
  length_there name (subject.Principal user number) on held = absurd (false≢true on)
  length_there name (subject.Group of number) on held = absurd (false≢true on)
  length_there name (subject.Home user) on held = absurd (false≢true on)
  length_there name (subject.Calendar user set kept) on held = absurd (false≢true on)
  length_there name (subject.Object user set stored) on held = refl

  kinds_there : (name : PropName) (seen : Subject) → is_on_at rows.Kinds name seen ≡ true → is_held_at rows.Kinds name seen ≡ true → is_some (value_at rows.Kinds name seen) ≡ true
  kinds_there name subject.Root on held = absurd (false≢true on)
  kinds_there name (subject.Principal user number) on held = absurd (false≢true on)
  kinds_there name (subject.Group of number) on held = absurd (false≢true on)
  kinds_there name (subject.Home user) on held = absurd (false≢true on)
  kinds_there name (subject.Calendar user set kept) on held = mapped_there (λ (contents : Contents). kinds_elements contents.kinds) (only_where (has_all set read) _) ∙ shown_there (has_all set read) (record { kinds = kept.now.kinds; texts = texts_of kept.now.texts; objects = unseen.objects }) held
  kinds_there name (subject.Object user set stored) on held = absurd (false≢true on)

  acl_there : (name : PropName) (seen : Subject) → is_on_at rows.Acl name seen ≡ true → is_held_at rows.Acl name seen ≡ true → is_some (value_at rows.Acl name seen) ≡ true
  acl_there name subject.Root on held = absurd (false≢true on)
  acl_there name (subject.Principal user number) on held = absurd (false≢true on)
  acl_there name (subject.Group of number) on held = absurd (false≢true on)
  acl_there name (subject.Home user) on held = absurd (false≢true on)
  acl_there name (subject.Calendar user set kept) on held = mapped_there (acl_elements directory) (only_where (has_all set read_acl) kept.now.acl.grants) ∙ shown_there (has_all set read_acl) kept.now.acl.grants held
  acl_there name (subject.Object user set stored) on held = absurd (false≢true on)

  data_absent : (name : PropName) (seen : Subject) → shown ≡ None → is_on_at rows.CalendarData name seen ≡ true → is_some (value_at rows.CalendarData name seen) ≡ false
  data_absent name subject.Root none on = absurd (false≢true on)
  data_absent name (subject.Principal user number) none on = absurd (false≢true on)
  data_absent name (subject.Group of number) none on = absurd (false≢true on)
  data_absent name (subject.Home user) none on = absurd (false≢true on)
  data_absent name (subject.Calendar user set kept) none on = absurd (false≢true on)
  data_absent name (subject.Object user set stored) none on = ap (λ (o : Option (List ℕ → List ℕ)). is_some (option_map (λ (f : List ℕ → List ℕ). xml_text (f stored.now.octets)) o)) none

  -- the members of a group that there is
  members_there : (name : PropName) (seen : Subject) → HasUsers directory seen → is_on_at rows.GroupMembers name seen ≡ true → is_some (value_at rows.GroupMembers name seen) ≡ true
  members_there name subject.Root users on = absurd (false≢true on)
  members_there name (subject.Principal user number) users on = absurd (false≢true on)
  members_there name (subject.Group of number) users on = ap (λ (found : Option ℕ). is_some (option_map (members_of directory) found)) (sym users)
  members_there name (subject.Home user) users on = absurd (false≢true on)
  members_there name (subject.Calendar user set kept) users on = absurd (false≢true on)
  members_there name (subject.Object user set stored) users on = absurd (false≢true on)

  -- the groups of a user that there is, or of a group
  memberships_there : (name : PropName) (seen : Subject) → HasUsers directory seen → is_on_at rows.GroupMemberships name seen ≡ true → is_some (value_at rows.GroupMemberships name seen) ≡ is_known seen
  memberships_there name subject.Root users on = absurd (false≢true on)
  memberships_there name (subject.Principal user None) users on = ap (λ (found : Option ℕ). is_some (option_map (memberships_of directory) found)) (sym users)
  memberships_there name (subject.Principal user (Some number)) users on = ap (λ (found : Option ℕ). is_some (option_map (memberships_of directory) found)) (sym users)
  memberships_there name (subject.Group of number) users on = refl
  memberships_there name (subject.Home user) users on = absurd (false≢true on)
  memberships_there name (subject.Calendar user set kept) users on = absurd (false≢true on)
  memberships_there name (subject.Object user set stored) users on = absurd (false≢true on)

  -- a property that is on a resource, and whose privilege is held, is there where the code says so
  pub there_is : (asked : Asked) (row : Row) (seen : Subject) → HasUsers directory seen → IsShownHere row shown → is_on_at row (asked_name asked) seen ≡ true → is_held_at row (asked_name asked) seen ≡ true
      → is_some (value_at row (asked_name asked) seen) ≡ is_there_in row asked seen
  there_is asked rows.ResourceType seen users here on held = type_there (asked_name asked) seen
  there_is asked rows.AskingPrincipal seen users here on held = refl
  there_is asked rows.Owner seen users here on held = refl
  there_is asked rows.HeldPrivileges seen users here on held = refl
  there_is asked rows.DisplayName seen users here on held = display_there asked seen on held
  there_is asked rows.PrincipalUrl seen users here on held = refl
  there_is asked rows.CalendarHome seen users here on held = refl
  there_is asked rows.GroupMembers seen users here on held = members_there (asked_name asked) seen users on
  there_is asked rows.GroupMemberships seen users here on held = memberships_there (asked_name asked) seen users on
  there_is asked rows.Etag seen users here on held = etag_there (asked_name asked) seen on held
  there_is asked rows.ContentType seen users here on held = content_type_there (asked_name asked) seen on held
  there_is asked rows.ContentLength seen users here on held = length_there (asked_name asked) seen on held
  there_is asked rows.CalendarData seen users here on held = data_absent (asked_name asked) seen here on
  there_is asked rows.Description seen users here on held = text_set_there asked seen on held
  there_is asked rows.Timezone seen users here on held = text_set_there asked seen on held
  there_is asked rows.Kinds seen users here on held = kinds_there (asked_name asked) seen on held
  there_is asked rows.DataType seen users here on held = refl
  there_is asked rows.MaxSize seen users here on held = refl
  there_is asked rows.MinDate seen users here on held = refl
  there_is asked rows.MaxDate seen users here on held = refl
  there_is asked rows.MaxInstances seen users here on held = refl
  there_is asked rows.Reports seen users here on held = refl
  there_is asked rows.Acl seen users here on held = acl_there (asked_name asked) seen on held
  there_is asked rows.Text seen users here on held = text_set_there asked seen on held

  -- Contents

  same_content : (x content : List ℕ) → Some x ≡ Some content → x ≡ content
  same_content x content e = cc

  only_text : (test : Bool) (contents : Contents) (name : PropName) (content : List ℕ)
      → option_and_then (λ (c : Contents). option_map xml_text (text_at c.texts name)) (only_where test contents) ≡ Some content → xml_text (unwrap_or (text_at contents.texts name) []) ≡ content
  only_text true contents name content e = by (text_at contents.texts name) e where
    by : (o : Option (List ℕ)) → option_map xml_text o ≡ Some content → xml_text (unwrap_or o []) ≡ content
    by None e = absurd cc
    by (Some text) e = cc
  only_text false contents name content e = absurd cc

  only_mapped : {X : Type 0} (test : Bool) (x : X) (f : X → List ℕ) (content : List ℕ) → option_map f (only_where test x) ≡ Some content → f x ≡ content
  only_mapped true x f content e = cc
  only_mapped false x f content e = absurd cc

  type_is : (name : PropName) (seen : Subject) (content : List ℕ) → value_at rows.ResourceType name seen ≡ Some content → type_elements seen ≡ content
  type_is name subject.Root content e = same_content _ content e
  type_is name (subject.Principal user number) content e = same_content _ content e
  type_is name (subject.Group of number) content e = same_content _ content e
  type_is name (subject.Home user) content e = same_content _ content e
  type_is name (subject.Calendar user set kept) content e = same_content _ content e
  type_is name (subject.Object user set stored) content e = same_content _ content e

  held_is : (name : PropName) (seen : Subject) (content : List ℕ) → value_at rows.HeldPrivileges name seen ≡ Some content → shown_content directory who rows.HeldPrivileges name seen ≡ content
  held_is name subject.Root content e = same_content _ content e
  held_is name (subject.Principal user number) content e = same_content _ content e
  held_is name (subject.Group of number) content e = same_content _ content e
  held_is name (subject.Home user) content e = same_content _ content e
  held_is name (subject.Calendar user set kept) content e = same_content _ content e
  held_is name (subject.Object user set stored) content e = same_content _ content e

  owner_is : (name : PropName) (seen : Subject) (content : List ℕ) → value_at rows.Owner name seen ≡ Some content → shown_content directory who rows.Owner name seen ≡ content
  owner_is name subject.Root content e = same_content _ content e
  owner_is name (subject.Principal user number) content e = same_content _ content e
  owner_is name (subject.Group of number) content e = same_content _ content e
  owner_is name (subject.Home user) content e = same_content _ content e
  owner_is name (subject.Calendar user set kept) content e = same_content _ content e
  owner_is name (subject.Object user set stored) content e = same_content _ content e

  home_is : (name : PropName) (seen : Subject) (content : List ℕ) → value_at rows.CalendarHome name seen ≡ Some content → shown_content directory who rows.CalendarHome name seen ≡ content
  home_is name subject.Root content e = same_content _ content e
  home_is name (subject.Principal user number) content e = same_content _ content e
  home_is name (subject.Group of number) content e = same_content _ content e
  home_is name (subject.Home user) content e = same_content _ content e
  home_is name (subject.Calendar user set kept) content e = same_content _ content e
  home_is name (subject.Object user set stored) content e = same_content _ content e

  text_is : (name : PropName) (seen : Subject) (content : List ℕ) → value_at rows.Text name seen ≡ Some content → text_element name seen ≡ content
  text_is name subject.Root content e = absurd cc
  text_is name (subject.Principal user number) content e = absurd cc
  text_is name (subject.Group of number) content e = absurd cc
  text_is name (subject.Home user) content e = absurd cc
  text_is name (subject.Calendar user set kept) content e = only_text (has_all set read) (record { kinds = kept.now.kinds; texts = texts_of kept.now.texts; objects = unseen.objects }) name content e
  text_is name (subject.Object user set stored) content e = absurd cc

  display_is : (name : PropName) (seen : Subject) (content : List ℕ) → value_at rows.DisplayName name seen ≡ Some content → display_element name seen ≡ content
  display_is name subject.Root content e = absurd cc
  display_is name (subject.Principal user number) content e = same_content _ content e
  display_is name (subject.Group of number) content e = same_content _ content e
  display_is name (subject.Home user) content e = absurd cc
  display_is name (subject.Calendar user set kept) content e = only_text (has_all set read) (record { kinds = kept.now.kinds; texts = texts_of kept.now.texts; objects = unseen.objects }) name content e
  display_is name (subject.Object user set stored) content e = absurd cc

  etag_is : (name : PropName) (seen : Subject) (content : List ℕ) → value_at rows.Etag name seen ≡ Some content → shown_content directory who rows.Etag name seen ≡ content
  etag_is name subject.Root content e = absurd cc
  etag_is name (subject.Principal user number) content e = absurd cc
  etag_is name (subject.Group of number) content e = absurd cc
  etag_is name (subject.Home user) content e = absurd cc
  etag_is name (subject.Calendar user set kept) content e = absurd cc
  etag_is name (subject.Object user set stored) content e = same_content _ content e

  content_type_is : (name : PropName) (seen : Subject) (content : List ℕ) → value_at rows.ContentType name seen ≡ Some content → shown_content directory who rows.ContentType name seen ≡ content
  content_type_is name subject.Root content e = absurd cc
  content_type_is name (subject.Principal user number) content e = absurd cc
  content_type_is name (subject.Group of number) content e = absurd cc
  content_type_is name (subject.Home user) content e = absurd cc
  content_type_is name (subject.Calendar user set kept) content e = absurd cc
  content_type_is name (subject.Object user set stored) content e = same_content _ content e

  length_is : (name : PropName) (seen : Subject) (content : List ℕ) → value_at rows.ContentLength name seen ≡ Some content → shown_content directory who rows.ContentLength name seen ≡ content
  length_is name subject.Root content e = absurd cc
  length_is name (subject.Principal user number) content e = absurd cc
  length_is name (subject.Group of number) content e = absurd cc
  length_is name (subject.Home user) content e = absurd cc
  length_is name (subject.Calendar user set kept) content e = absurd cc
  length_is name (subject.Object user set stored) content e = same_content _ content e

  kinds_is : (name : PropName) (seen : Subject) (content : List ℕ) → value_at rows.Kinds name seen ≡ Some content → kinds_shown seen ≡ content
  kinds_is name subject.Root content e = absurd cc
  kinds_is name (subject.Principal user number) content e = absurd cc
  kinds_is name (subject.Group of number) content e = absurd cc
  kinds_is name (subject.Home user) content e = absurd cc
  kinds_is name (subject.Calendar user set kept) content e = only_mapped (has_all set read) (record { kinds = kept.now.kinds; texts = texts_of kept.now.texts; objects = unseen.objects }) (λ (contents : Contents). kinds_elements contents.kinds) content e
  kinds_is name (subject.Object user set stored) content e = absurd cc

  acl_is : (name : PropName) (seen : Subject) (content : List ℕ) → value_at rows.Acl name seen ≡ Some content → acl_shown directory seen ≡ content
  acl_is name subject.Root content e = absurd cc
  acl_is name (subject.Principal user number) content e = absurd cc
  acl_is name (subject.Group of number) content e = absurd cc
  acl_is name (subject.Home user) content e = absurd cc
  acl_is name (subject.Calendar user set kept) content e = only_mapped (has_all set read_acl) kept.now.acl.grants (acl_elements directory) content e
  acl_is name (subject.Object user set stored) content e = absurd cc

  data_is_not : (name : PropName) (seen : Subject) (content : List ℕ) → shown ≡ None → value_at rows.CalendarData name seen ≡ Some content → [] ≡ content
  data_is_not name subject.Root content none e = absurd cc
  data_is_not name (subject.Principal user number) content none e = absurd cc
  data_is_not name (subject.Group of number) content none e = absurd cc
  data_is_not name (subject.Home user) content none e = absurd cc
  data_is_not name (subject.Calendar user set kept) content none e = absurd cc
  data_is_not name (subject.Object user set stored) content none e =
      let gone : None ≡ Some content = sym (ap (λ (o : Option (List ℕ → List ℕ)). option_map (λ (f : List ℕ → List ℕ). xml_text (f stored.now.octets)) o) none) ∙ e in absurd cc

  members_are : (name : PropName) (seen : Subject) (content : List ℕ) → HasUsers directory seen → value_at rows.GroupMembers name seen ≡ Some content → members_shown directory seen ≡ content
  members_are name subject.Root content users e = absurd cc
  members_are name (subject.Principal user number) content users e = absurd cc
  members_are name (subject.Group of number) content users e = same_content _ content (ap (option_map (members_of directory)) users ∙ e)
  members_are name (subject.Home user) content users e = absurd cc
  members_are name (subject.Calendar user set kept) content users e = absurd cc
  members_are name (subject.Object user set stored) content users e = absurd cc

  memberships_are : (name : PropName) (seen : Subject) (content : List ℕ) → HasUsers directory seen → value_at rows.GroupMemberships name seen ≡ Some content → memberships_shown directory seen ≡ content
  memberships_are name subject.Root content users e = absurd cc
  memberships_are name (subject.Principal user None) content users e = let gone : None ≡ Some content = ap (option_map (memberships_of directory)) users ∙ e in absurd cc
  memberships_are name (subject.Principal user (Some number)) content users e = same_content _ content (ap (option_map (memberships_of directory)) users ∙ e)
  memberships_are name (subject.Group of number) content users e = same_content _ content e
  memberships_are name (subject.Home user) content users e = absurd cc
  memberships_are name (subject.Calendar user set kept) content users e = absurd cc
  memberships_are name (subject.Object user set stored) content users e = absurd cc

  -- the content of a property that is there is the one that the code writes
  pub content_is : (row : Row) (name : PropName) (seen : Subject) (content : List ℕ) → HasUsers directory seen → IsShownHere row shown → value_at row name seen ≡ Some content
      → shown_content directory who row name seen ≡ content
  content_is rows.ResourceType name seen content users here e = type_is name seen content e
  content_is rows.AskingPrincipal name seen content users here e = same_content _ content e
  content_is rows.Owner name seen content users here e = owner_is name seen content e
  content_is rows.HeldPrivileges name seen content users here e = held_is name seen content e
  content_is rows.DisplayName name seen content users here e = display_is name seen content e
  content_is rows.PrincipalUrl name seen content users here e = owner_is name seen content e
  content_is rows.CalendarHome name seen content users here e = home_is name seen content e
  content_is rows.GroupMembers name seen content users here e = members_are name seen content users e
  content_is rows.GroupMemberships name seen content users here e = memberships_are name seen content users e
  content_is rows.Etag name seen content users here e = etag_is name seen content e
  content_is rows.ContentType name seen content users here e = content_type_is name seen content e
  content_is rows.ContentLength name seen content users here e = length_is name seen content e
  content_is rows.CalendarData name seen content users here e = data_is_not name seen content here e
  content_is rows.Description name seen content users here e = text_is name seen content e
  content_is rows.Timezone name seen content users here e = text_is name seen content e
  content_is rows.Kinds name seen content users here e = kinds_is name seen content e
  content_is rows.DataType name seen content users here e = same_content _ content e
  content_is rows.MaxSize name seen content users here e = same_content _ content e
  content_is rows.MinDate name seen content users here e = same_content _ content e
  content_is rows.MaxDate name seen content users here e = same_content _ content e
  content_is rows.MaxInstances name seen content users here e = same_content _ content e
  content_is rows.Reports name seen content users here e = same_content _ content e
  content_is rows.Acl name seen content users here e = acl_is name seen content e
  content_is rows.Text name seen content users here e = text_is name seen content e

-- Answers

abbrev answer_by : PropName → Bool → Bool → Option (List ℕ) → Answer
answer_by name on held value =
    if not on then without_value name 404 else (if not held then without_value name 403 else elim value [ None ↦ without_value name 404 | Some content ↦ record { name = name; status = 200; content = content } ])

pub status_there : (name : PropName) (on held there : Bool) (value : Option (List ℕ)) → on ≡ true → held ≡ true → (on ≡ true → held ≡ true → is_some value ≡ there)
    → cond there 200 404 ≡ (answer_by name on held value).status
status_there name false held there value on e is = absurd (false≢true on)
status_there name true false there value on e is = absurd (false≢true e)
status_there name true true there None on e is = ap (λ b. cond b 200 404) (sym (is refl refl))
status_there name true true there (Some content) on e is = ap (λ b. cond b 200 404) (sym (is refl refl))

-- an answer of status 200 has the content that is there
pub answer_whole : (name : PropName) (on held : Bool) (value : Option (List ℕ)) (content : List ℕ) → ((c : List ℕ) → value ≡ Some c → content ≡ c) → (answer_by name on held value).status ≡ 200
    → answer_by name on held value ≡ record { name = name; status = 200; content = content }
answer_whole name false held value content is e = absurd (omega (arith, e))
answer_whole name true false value content is e = absurd (omega (arith, e))
answer_whole name true true None content is e = absurd (omega (arith, e))
answer_whole name true true (Some c) content is e = ap (λ text. record { name = name; status = 200; content = text }) (sym (is c refl))

-- an answer of another status has none
pub answer_without : (name : PropName) (on held : Bool) (value : Option (List ℕ)) (status : ℕ) → status ≡ (answer_by name on held value).status → (status ≡ 200 → ⊥)
    → answer_by name on held value ≡ without_value name status
answer_without name false held value status is other = ap (without_value name) (sym is)
answer_without name true false value status is other = ap (without_value name) (sym is)
answer_without name true true None status is other = ap (without_value name) (sym is)
answer_without name true true (Some c) status is other = absurd (other is)

-- the status where all that is tested holds
pub status_by : (directory : Directory) (who : ℕ) (shown : Option (List ℕ → List ℕ)) (unseen : Unseen) (asked : Asked) (seen : Subject) → HasUsers directory seen → IsShownHere asked.row shown
    → (columns : Columns) (set : ℕ) (on held there : Bool) → AreColumns columns (property_of asked.row (asked_name asked)) → on ≡ is_on columns.place (resource_of seen unseen)
    → set ≡ held_of (resource_of seen unseen) → held ≡ has_all set columns.needs → there ≡ is_there_at asked seen → on ≡ true → held ≡ true → there ≡ true
    → 200 ≡ (answered directory who shown asked seen unseen).status
status_by directory who shown unseen asked seen users here columns set on held there say on_is set_is held_is there_is_at on_true held_true there_true =
    let name = asked_name asked in
    let resource = resource_of seen unseen in
    let is_on_here : (property_of asked.row name).on resource ≡ true = ap (λ (test : Resource → Bool). test resource) say.on ∙ sym on_is ∙ on_true in
    let is_held_here : has_all (held_of resource) (property_of asked.row name).needs ≡ true = (λ i. has_all (sym set_is i) (say.needs i)) ∙ sym held_is ∙ held_true in
    status_there name ((property_of asked.row name).on resource) (has_all (held_of resource) (property_of asked.row name).needs) true
    ((property_of asked.row name).value (record { directory = directory; who = who; shown = shown }) resource) is_on_here is_held_here
    (λ o h. there_is directory who shown unseen asked asked.row seen users here o h ∙ sym there_is_at ∙ there_true)
