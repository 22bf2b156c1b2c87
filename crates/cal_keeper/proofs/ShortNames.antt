-- Names of settings that are accepted are short: those of the table are, and no other may be longer than is allowed.
use Rattle.std.proofs.Common.{◌≡◌, ℕ, ◌≤◌, Bool, true, false, cond, nat_le, nat_lt, not, ◌&&◌, ◌||◌, codes, is_some, List, [], ◌∷◌, length, map, flat_map, Option, Some, None, refl, sym, ◌∙◌, ap, arith}
use Rattle.std.specs.List.{find, list_all}
use Rattle.std.proofs.lemmas.Bool.Decides.{nat_tests}
use Rattle.std.proofs.lemmas.Slice.Eq.{bytes_eq-Decides}
use Rattle.cal_model.specs.declared.property.PropName.{PropName}
use Rattle.cal_model.specs.declared.property.PropSet.{PropSet}
use Rattle.cal_model.specs.declared.reply.Refusal.{Refusal}
use Rattle.cal_model.specs.Access.Privileges.{same_name}
use Rattle.cal_model.specs.Objects.ObjectReading.{first_there}
use Rattle.cal_model.specs.Properties.PropertyTable.{Property, properties, listed_row, row_of, is_text}
use Rattle.cal_model.specs.Properties.Settings.{setting_fault, faults_of_all, texts_after, faults_of_value, may_be_set, protected_property, first_fault}
use Rattle.cal_model.specs.declared.request.Content.TheVariants as content
use Rattle.cal_model.specs.Bodies.Refusals.{dav_refusal}
use Rattle.cal_model.specs.Refusals.ChangeRefusals.{make_rows, patch_rows, patch_faults, some_fault, contents_in, no_room, has_all_calendars, is_full}
use Rattle.cal_model.specs.Refusals.RefusalReplies.{refused_where, refuse, when, refusal_reply}
use Rattle.cal_model.specs.Properties.PropertyReplies.{setting_answers, settings_reply}
use Rattle.cal_model.specs.declared.reply.Reply.{Reply}
use Rattle.cal_model.specs.Sight.Scenes.{Scene}
use Rattle.cal_model.specs.Sight.Views.{Contents}
use Rattle.std.proofs.lemmas.List.{append-nil}
use Rattle.cal_model.specs.State.ServerState.{ServerState}
use Rattle.cal_model.specs.Refusals.RequestLimits.{name_limit}
use Rattle.cal_model.specs.State.PropertyTexts.{Texts, name_size}
use Rattle.cal_model.proofs.Objects.ReadingSteps.{head_none, tail_none}
use Rattle.cal_keeper.proofs.PayloadBounds.{AreShort}

-- names that are the same have the same size
both_true : (a b : Bool) → (a && b) ≡ true → (a ≡ true) × (b ≡ true)
both_true true true same = (refl, refl)
both_true true false same = absurd cc
both_true false b same = absurd cc

same_size : (a b : PropName) → same_name a b ≡ true → name_size b ≡ name_size a
same_size a b same =
    let parts = both_true _ _ same in
    let space : a.space ≡ b.space = (bytes_eq-Decides a.space b.space).0 parts.0 in
    let name : a.name ≡ b.name = (bytes_eq-Decides a.name b.name).0 parts.1 in
    omega (arith, ap length space, ap length name)

-- a name that a list of short ones has is short
abbrev short_rows : List Property → Bool
short_rows rows = list_all (λ (p : Property). nat_le (name_size p.name) name_limit) rows

first_short : (name : PropName) (row : Property) (rows : List Property) (same : Bool) → nat_le (name_size row.name) name_limit ≡ true → same_name row.name name ≡ same
    → (is_some (find (λ (p : Property). same_name p.name name) rows) ≡ true → name_size name ≤ name_limit) → is_some (cond same (Some row) (find (λ (p : Property). same_name p.name name) rows)) ≡ true → name_size name ≤ name_limit
first_short name row rows true short is others there =
    let size = same_size row.name name is in
    let small : name_size row.name ≤ name_limit = grind (arith, nat_tests, short) in
    omega (arith, size, small)
first_short name row rows false short is others there = others there

found_short : (name : PropName) (rows : List Property) → short_rows rows ≡ true → is_some (find (λ (p : Property). same_name p.name name) rows) ≡ true → name_size name ≤ name_limit
found_short name [] short found = absurd cc
found_short name (row ∷ rows) short found =
    let parts = both_true (nat_le (name_size row.name) name_limit) (short_rows rows) short in
    first_short name row rows (same_name row.name name) parts.0 refl (λ others. found_short name rows parts.1 others) found

table_short : short_rows properties ≡ true
unfolding properties
table_short = refl

listed_short : (name : PropName) → is_text name ≡ false → name_size name ≤ name_limit
listed_short name listed = found_short name properties table_short (by (is_some (listed_row name)) listed)
  where
    by : (there : Bool) → not there ≡ false → there ≡ true
    by true is = refl
    by false is = absurd cc

-- a setting without a fault has a short name
none_refused : (applies : Bool) (refusal : Refusal) → refused_where applies refusal ≡ None → applies ≡ false
none_refused true refusal none = absurd cc
none_refused false refusal none = refl

short_or_listed : (name : PropName) (free : Bool) → is_text name ≡ free → (free && nat_lt name_limit (name_size name)) ≡ false → name_size name ≤ name_limit
short_or_listed name true is few = grind (arith, nat_tests, few)
short_or_listed name false is few = listed_short name is

set_short : (making : Bool) (texts : Texts) (set : PropSet) → setting_fault making texts set ≡ None → name_size set.name ≤ name_limit
set_short making texts set none =
    short_or_listed set.name (is_text set.name) refl
    (none_refused (is_text set.name && nat_lt name_limit (name_size set.name)) protected_property
    (head_none (refused_where (is_text set.name && nat_lt name_limit (name_size set.name)) protected_property) (faults_of_value making (row_of set.name).setting texts set.name set.value)
    (tail_none (refused_where (not (may_be_set making (row_of set.name).setting)) protected_property) (refused_where (is_text set.name && nat_lt name_limit (name_size set.name)) protected_property ∷ faults_of_value making (row_of set.name).setting texts set.name set.value) none)))

-- settings of which none has a fault have short names
pub without_faults_short : (making : Bool) (texts : Texts) (sets : List PropSet) → first_there (map (λ (entry : PropName × Option Refusal). entry.1) (faults_of_all making texts sets)) ≡ None → AreShort sets
without_faults_short making texts [] none = tt
without_faults_short making texts (set ∷ sets) none = (
  set_short making texts set (head_none (setting_fault making texts set) (map (λ (entry : PropName × Option Refusal). entry.1) (faults_of_all making (cond (is_some (setting_fault making texts set)) texts (texts_after texts set)) sets)) none),
  without_faults_short making (cond (is_some (setting_fault making texts set)) texts (texts_after texts set)) sets
      (tail_none (setting_fault making texts set) (map (λ (entry : PropName × Option Refusal). entry.1) (faults_of_all making (cond (is_some (setting_fault making texts set)) texts (texts_after texts set)) sets)) none),
)

-- Rows that refuse nothing

not_refused : (refusal : Option Refusal) → refuse refusal ≡ None → refusal ≡ None
not_refused None none = refl
not_refused (Some refusal) none = absurd cc

-- a MKCALENDAR that no row of its own refuses
pub made_short : (state : ServerState) (scene : Scene) (size : ℕ) (sets : List PropSet) → first_there (make_rows state scene size (content.Make sets)) ≡ None → AreShort sets
made_short state scene size sets none =
    without_faults_short true [] sets (not_refused (first_fault sets) (head_none (refuse (first_fault sets)) (no_room (has_all_calendars state scene || is_full state scene size) ∷ [])
    (tail_none (when (is_some scene.calendar) (refusal_reply (dav_refusal (codes "resource-must-be-null")))) (refuse (first_fault sets) ∷ no_room (has_all_calendars state scene || is_full state scene size) ∷ []) none)))

not_when : (applies : Bool) (reply : Reply) → when applies reply ≡ None → applies ≡ false
not_when true reply none = absurd cc
not_when false reply none = refl

none_there : {X : Type 0} (o : Option X) → is_some o ≡ false → o ≡ None
none_there None none = refl
none_there (Some x) none = absurd cc

-- a PROPPATCH of a calendar with contents, which no row of its own refuses
pub patched_short : (state : ServerState) (scene : Scene) (size : ℕ) (sets : List PropSet) (contents : Contents) → contents_in scene ≡ contents ∷ [] → first_there (patch_rows state scene size (content.Patch sets)) ≡ None → AreShort sets
patched_short state scene size sets contents there none =
    let faults : patch_faults scene sets ≡ faults_of_all false contents.texts sets =
    ap (flat_map (λ (c : Contents). faults_of_all false c.texts sets)) there ∙ append-nil (faults_of_all false contents.texts sets) in
    let fault : some_fault (patch_faults scene sets) ≡ false =
    not_when (some_fault (patch_faults scene sets)) (settings_reply scene.path (setting_answers (patch_faults scene sets) 424))
    (head_none (when (some_fault (patch_faults scene sets)) (settings_reply scene.path (setting_answers (patch_faults scene sets) 424))) (no_room (is_full state scene size) ∷ []) none) in
    without_faults_short false contents.texts sets
    (none_there (first_there (map (λ (entry : PropName × Option Refusal). entry.1) (faults_of_all false contents.texts sets))) (ap some_fault (sym faults) ∙ fault))
