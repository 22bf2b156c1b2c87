-- Properties that are kept as settings: what is written at a place, and what is at a name afterwards.
use Rattle.std.proofs.Common.{◌≡◌, ℕ, suc, ◌+◌, Bool, true, false, ◌&&◌, ◌||◌, cond, List, [], ◌∷◌, ◌++◌, Option, Some, None, get_or, refl, sym, ap, ◌∙◌, subst, inl, inr}
use Rattle.std.specs.Prelude.{bytes_eq, slice_get, slice_set, find, unwrap_or, option_and_then, if◌then◌else◌, codes}
use Rattle.std.specs.Result.{result_ok}
use Rattle.std.specs.List.{insert, remove, list_any, AllByRecursion}
use Rattle.std.specs.List.Sorted.{IsStrictlySortedBy}
use Rattle.std.specs.declared.cmp.Ordering.{Ordering}
use Rattle.std.specs.declared.cmp.Ordering.TheVariants.{Less, Equal, Greater}
use Rattle.std.specs.Ordering.{match_ordering, is_eq, eq_by_cmp}
use Rattle.std.specs.BTreeMap.{is_at}
use Rattle.std.specs.Map.{keys_of}
use Rattle.std.proofs.lemmas.Bool.{cases_Bool, false≢true}
use Rattle.std.proofs.lemmas.Cmp.{eq_by_cmp_equiv}
use Rattle.std.proofs.lemmas.Map.{lookup-remove_entry}
use Rattle.std.proofs.lemmas.Map.Keys.{IsDistinct-from_sorted}
use Rattle.std.proofs.lemmas.Option.{get_or_from_slice_get}
use Rattle.std.proofs.lemmas.Slice.Eq.{bytes_eq-Decides}
use Rattle.cal_base.specs.Lines.ComponentTrees.{or_else}
use Rattle.cal_model.specs.declared.property.PropName.{PropName}
use Rattle.cal_model.specs.declared.property.PropSet.{PropSet}
use Rattle.cal_model.specs.Access.Privileges.{same_name}
use Rattle.cal_model.specs.State.PropertyTexts.{Texts, prop_order, text_at, with_text, without_text, as_settings}
use Rattle.cal_model.specs.State.ServerState.{calendar_timezone, own_zone}
use Rattle.cal_model.specs.Objects.ObjectReading.{read_zone}
use Rattle.cal_model.specs.Properties.PropertyTable.{Property, properties, row_of, text_row, in_both, text, in_caldav}
use Rattle.cal_model.specs.Properties.Settings.{is_kinds, texts_after, texts_after_all, texts_with_value}
use Rattle.cal_model.proofs.State.TextOrder.{props_total, at_same}
pub use Rattle.cal_model.proofs.State.TextOrder.{in_order-after, in_order-after_all}
use Rattle.collections.specs.Settings.{texts_of, place_in, is_named_at, is_zone, last_zone, zone_set}

-- Texts are settings

pub texts_of-as_settings : (texts : Texts) → texts_of (as_settings texts) ≡ texts
texts_of-as_settings [] = refl
texts_of-as_settings (entry ∷ texts) = ap (λ rest. entry ∷ rest) (texts_of-as_settings texts)

-- Writing at a place

abbrev setting : PropName × List ℕ → PropSet
setting entry = record { name = entry.0; value = Some entry.1 }

module _ (name : PropName) where
  -- over the value that is there
  replaced_by : (o : Ordering) (entry : PropName × List ℕ) (texts : Texts) (value : List ℕ) (old : PropSet) → prop_order name entry.0 ≡ o
      → (slice_get (as_settings texts) (place_in (as_settings texts) name) ≡ Some old → is_at (prop_order name) old.name ≡ true
      → slice_set (as_settings texts) (place_in (as_settings texts) name) (record { name = old.name; value = Some value }) ≡ as_settings (with_text texts name value))
      → slice_get (setting entry ∷ as_settings texts) (match_ordering o 0 0 (suc (place_in (as_settings texts) name))) ≡ Some old → is_at (prop_order name) old.name ≡ true
      → slice_set (setting entry ∷ as_settings texts) (match_ordering o 0 0 (suc (place_in (as_settings texts) name))) (record { name = old.name; value = Some value })
      ≡ as_settings (match_ordering o ((name, value) ∷ entry ∷ texts) ((entry.0, value) ∷ texts) (entry ∷ with_text texts name value))
  replaced_by Less entry texts value old is later at named =
      let here : entry.0 ≡ old.name = cc in
      let same : is_at (prop_order name) entry.0 ≡ true = ap (is_at (prop_order name)) here ∙ named in
      absurd (false≢true (sym (ap is_eq is) ∙ same))
  replaced_by Equal entry texts value old is later at named =
      let here : setting entry ≡ old = cc in
      ap (λ (s : PropSet). record { name = s.name; value = Some value } ∷ as_settings texts) (sym here)
  replaced_by Greater entry texts value old is later at named = ap (λ rest. setting entry ∷ rest) (later at named)

  pub replaced : (texts : Texts) (value : List ℕ) (old : PropSet) → slice_get (as_settings texts) (place_in (as_settings texts) name) ≡ Some old → is_at (prop_order name) old.name ≡ true
      → slice_set (as_settings texts) (place_in (as_settings texts) name) (record { name = old.name; value = Some value }) ≡ as_settings (with_text texts name value)
  replaced [] value old at named = absurd cc
  replaced (entry ∷ texts) value old at named = replaced_by (prop_order name entry.0) entry texts value old refl (replaced texts value old) at named

  -- where nothing of the name is
  inserted_by : (o : Ordering) (entry : PropName × List ℕ) (texts : Texts) (value : List ℕ) → prop_order name entry.0 ≡ o
      → (is_named_at (slice_get (as_settings texts) (place_in (as_settings texts) name)) name ≡ false
      → insert (as_settings texts) (place_in (as_settings texts) name) (setting (name, value)) ≡ as_settings (with_text texts name value))
      → is_named_at (slice_get (setting entry ∷ as_settings texts) (match_ordering o 0 0 (suc (place_in (as_settings texts) name)))) name ≡ false
      → insert (setting entry ∷ as_settings texts) (match_ordering o 0 0 (suc (place_in (as_settings texts) name))) (setting (name, value))
      ≡ as_settings (match_ordering o ((name, value) ∷ entry ∷ texts) ((entry.0, value) ∷ texts) (entry ∷ with_text texts name value))
  inserted_by Less entry texts value is later free = refl
  inserted_by Equal entry texts value is later free = absurd (false≢true (sym free ∙ ap is_eq is))
  inserted_by Greater entry texts value is later free = ap (λ rest. setting entry ∷ rest) (later free)

  pub inserted : (texts : Texts) (value : List ℕ) → is_named_at (slice_get (as_settings texts) (place_in (as_settings texts) name)) name ≡ false
      → insert (as_settings texts) (place_in (as_settings texts) name) (setting (name, value)) ≡ as_settings (with_text texts name value)
  inserted [] value free = refl
  inserted (entry ∷ texts) value free = inserted_by (prop_order name entry.0) entry texts value refl (inserted texts value) free

  -- taking out what is there
  removed_by : (o : Ordering) (entry : PropName × List ℕ) (texts : Texts) → prop_order name entry.0 ≡ o
      → (is_named_at (slice_get (as_settings texts) (place_in (as_settings texts) name)) name ≡ true
      → remove (as_settings texts) (place_in (as_settings texts) name) ≡ as_settings (without_text texts name))
      → is_named_at (slice_get (setting entry ∷ as_settings texts) (match_ordering o 0 0 (suc (place_in (as_settings texts) name)))) name ≡ true
      → remove (setting entry ∷ as_settings texts) (match_ordering o 0 0 (suc (place_in (as_settings texts) name))) ≡ as_settings (cond (is_eq o) texts (entry ∷ without_text texts name))
  removed_by Less entry texts is later named = absurd (false≢true (sym (ap is_eq is) ∙ named))
  removed_by Equal entry texts is later named = refl
  removed_by Greater entry texts is later named = ap (λ rest. setting entry ∷ rest) (later named)

  pub removed : (texts : Texts) → is_named_at (slice_get (as_settings texts) (place_in (as_settings texts) name)) name ≡ true
      → remove (as_settings texts) (place_in (as_settings texts) name) ≡ as_settings (without_text texts name)
  removed [] named = absurd (false≢true named)
  removed (entry ∷ texts) named = removed_by (prop_order name entry.0) entry texts refl (removed texts) named

  -- nothing to take out
  all_above : (texts : Texts) → AllByRecursion (λ key. prop_order name key ≡ Less) (keys_of texts) → without_text texts name ≡ texts
  all_above [] all = refl
  all_above (entry ∷ texts) all = ap (λ o. cond (is_eq o) texts (entry ∷ without_text texts name)) all.0 ∙ ap (λ rest. entry ∷ rest) (all_above texts all.1)

  still_above : (entry : PropName × List ℕ) (keys : List PropName) → prop_order name entry.0 ≡ Less → AllByRecursion (λ key. prop_order entry.0 key ≡ Less) keys → AllByRecursion (λ key. prop_order name key ≡ Less) keys
  still_above entry [] is all = tt
  still_above entry (key ∷ keys) is all = (props_total.trans name entry.0 key is all.0, still_above entry keys is all.1)

  absent_by : (o : Ordering) (entry : PropName × List ℕ) (texts : Texts) → prop_order name entry.0 ≡ o → AllByRecursion (λ key. prop_order entry.0 key ≡ Less) (keys_of texts)
      → (is_named_at (slice_get (as_settings texts) (place_in (as_settings texts) name)) name ≡ false → without_text texts name ≡ texts)
      → is_named_at (slice_get (setting entry ∷ as_settings texts) (match_ordering o 0 0 (suc (place_in (as_settings texts) name)))) name ≡ false
      → cond (is_eq o) texts (entry ∷ without_text texts name) ≡ entry ∷ texts
  absent_by Less entry texts is above later free = ap (λ rest. entry ∷ rest) (all_above texts (still_above entry (keys_of texts) is above))
  absent_by Equal entry texts is above later free = absurd (false≢true (sym free ∙ ap is_eq is))
  absent_by Greater entry texts is above later free = ap (λ rest. entry ∷ rest) (later free)

  pub absent : (texts : Texts) → IsStrictlySortedBy prop_order (keys_of texts) → is_named_at (slice_get (as_settings texts) (place_in (as_settings texts) name)) name ≡ false → without_text texts name ≡ texts
  unfolding IsStrictlySortedBy
  absent [] in_order free = refl
  absent (entry ∷ texts) in_order free = absent_by (prop_order name entry.0) entry texts refl in_order.0 (absent texts in_order.1) free

-- The one row that is the list of kinds

abbrev kinds_name : PropName
kinds_name = in_caldav (codes "supported-calendar-component-set")

same : (a b : PropName) → same_name a b ≡ true → a ≡ b
same a b e =
    let both = and_both (bytes_eq a.space b.space) (bytes_eq a.name b.name) e in
    λ i. record { space = (bytes_eq-Decides a.space b.space).0 both.0 i; name = (bytes_eq-Decides a.name b.name).0 both.1 i } where
      and_both : (x y : Bool) → (x && y) ≡ true → (x ≡ true) × (y ≡ true)
      and_both true y h = (refl, h)
      and_both false y h = absurd (false≢true h)

same_itself : (a : PropName) → same_name a a ≡ true
same_itself a = ap (λ b. b && bytes_eq a.name a.name) ((bytes_eq-Decides a.space a.space).1 refl) ∙ (bytes_eq-Decides a.name a.name).1 refl

abbrev found_in : List Property → PropName → Property
found_in rows name = unwrap_or (find (λ (p : Property). same_name p.name name) rows) (text_row name in_both text)

abbrev has_kinds : List Property → Bool
has_kinds rows = list_any (λ (p : Property). same_name p.name kinds_name) rows

-- of rows among which this one alone is of kinds
by_rows : (rows : List Property) → AllByRecursion (λ (p : Property). is_kinds p.setting ≡ same_name p.name kinds_name) rows → (name : PropName)
    → is_kinds (found_in rows name).setting ≡ (has_kinds rows && same_name name kinds_name)
by_rows [] all name = refl
by_rows (row ∷ rows) all name = elim (cases_Bool (same_name row.name name)) [
  | inl here ↦
      let is : row.name ≡ name = same row.name name here in
      ap (λ b. is_kinds (unwrap_or (cond b (Some row) (find (λ (p : Property). same_name p.name name) rows)) (text_row name in_both text)).setting) here
      ∙ (all.0 ∙ (ap (λ n. same_name n kinds_name) is ∙ either (same_name row.name kinds_name) (has_kinds rows) (same_name name kinds_name) (ap (λ n. same_name n kinds_name) is)))
  | inr other ↦
      ap (λ b. is_kinds (unwrap_or (cond b (Some row) (find (λ (p : Property). same_name p.name name) rows)) (text_row name in_both text)).setting) other
      ∙ (by_rows rows all.1 name ∙ apart (same_name row.name kinds_name) (has_kinds rows) (same_name name kinds_name) (λ first also. false≢true (sym other ∙ (ap (same_name row.name) (same name kinds_name also) ∙ first))))
] where
  either : (x y z : Bool) → x ≡ z → z ≡ ((x || y) && z)
  either true y z e = refl
  either false true z e = refl
  either false false z e = sym e

  apart : (x y z : Bool) → (x ≡ true → z ≡ true → ⊥) → (y && z) ≡ ((x || y) && z)
  apart true y true never = absurd (never refl refl)
  apart true true false never = refl
  apart true false false never = refl
  apart false y z never = refl

pub kinds_row : (name : PropName) → is_kinds (row_of name).setting ≡ same_name name kinds_name
unfolding properties
kinds_row name = by_rows properties (refl, (refl, (refl, (refl, (refl, (refl, (refl, (refl, (refl, (refl, (refl, (refl, (refl, (refl, (refl, (refl, (refl, (refl, (refl, (refl, (refl, (refl, (refl, tt))))))))))))))))))))))) name

-- The time zone by its name

same-sym : (a b : PropName) → same_name a b ≡ same_name b a
same-sym a b = elim (cases_Bool (same_name a b)) [
  | inl one ↦ one ∙ sym (subst (λ n. same_name n a ≡ true) (same a b one) (same_itself a))
  | inr apart ↦ elim (cases_Bool (same_name b a)) [
    | inl one ↦ absurd (false≢true (sym apart ∙ subst (λ n. same_name n b ≡ true) (same b a one) (same_itself b)))
    | inr also ↦ apart ∙ sym also
  ]
]

pub zone_by_name : (set : PropSet) → is_zone set ≡ same_name set.name (in_caldav (codes "calendar-timezone"))
zone_by_name set = at_same calendar_timezone set.name ∙ same-sym calendar_timezone set.name

-- The same of the items of a vector

named_there : (o : Option PropSet) (name : PropName) → is_named_at o name ≡ true → (set : PropSet) × (o ≡ Some set) × (is_at (prop_order name) set.name ≡ true)
named_there None name e = absurd (false≢true e)
named_there (Some set) name e = (set, refl, e)

pub replaced_in : (items : List PropSet) (texts : Texts) (name : PropName) (at : ℕ) (value : List ℕ) (old : PropSet) → items ≡ as_settings texts → at ≡ place_in items name
    → is_named_at (slice_get items at) name ≡ true → old ≡ get_or items at old → slice_set items at (record { name = old.name; value = Some value }) ≡ as_settings (with_text texts name value)
replaced_in items texts name at value old is place named read =
    let there = named_there (slice_get items at) name named in
    let old_is : old ≡ there.0 = read ∙ get_or_from_slice_get items at there.0 old there.1 in
    let at_is : at ≡ place_in (as_settings texts) name = place ∙ ap (λ them. place_in them name) is in
    let found : slice_get (as_settings texts) (place_in (as_settings texts) name) ≡ Some old = sym (ap (λ them. slice_get them at) is ∙ ap (slice_get (as_settings texts)) at_is) ∙ (there.1 ∙ ap Some (sym old_is)) in
    ap (λ them. slice_set them at (record { name = old.name; value = Some value })) is
    ∙ (ap (λ n. slice_set (as_settings texts) n (record { name = old.name; value = Some value })) at_is
    ∙ replaced name texts value old found (ap (λ (s : PropSet). is_at (prop_order name) s.name) old_is ∙ there.2))

pub inserted_in : (items : List PropSet) (texts : Texts) (name : PropName) (at : ℕ) (value : List ℕ) → items ≡ as_settings texts → at ≡ place_in items name
    → is_named_at (slice_get items at) name ≡ false → insert items at (record { name = name; value = Some value }) ≡ as_settings (with_text texts name value)
inserted_in items texts name at value is place free =
    let at_is : at ≡ place_in (as_settings texts) name = place ∙ ap (λ them. place_in them name) is in
    let moved : is_named_at (slice_get items at) name ≡ is_named_at (slice_get (as_settings texts) (place_in (as_settings texts) name)) name =
    ap (λ them. is_named_at (slice_get them at) name) is ∙ ap (λ n. is_named_at (slice_get (as_settings texts) n) name) at_is in
    ap (λ them. insert them at (record { name = name; value = Some value })) is
    ∙ (ap (λ n. insert (as_settings texts) n (record { name = name; value = Some value })) at_is ∙ inserted name texts value (sym moved ∙ free))

-- The last setting of the zone

or_else-assoc : {X : Type 0} (a b c : Option X) → or_else (or_else a b) c ≡ or_else a (or_else b c)
or_else-assoc None b c = refl
or_else-assoc (Some x) b c = refl

or_else-none : {X : Type 0} (a : Option X) → or_else a None ≡ a
or_else-none None = refl
or_else-none (Some x) = refl

abbrev own_zone_setting : PropSet → Option PropSet
own_zone_setting set = if is_zone set then Some set else None

pub last_zone_more : (sets : List PropSet) (set : PropSet) → last_zone (sets ++ set ∷ []) ≡ or_else (if is_zone set then Some set else None) (last_zone sets)
last_zone_more [] set = sym (or_else-none (own_zone_setting set))
last_zone_more (first ∷ sets) set =
    ap (λ o. or_else o (own_zone_setting first)) (last_zone_more sets set) ∙ or_else-assoc (own_zone_setting set) (last_zone sets) (own_zone_setting first)

-- What is at the name of the zone

pub prop_exact : (a b : PropName) → is_at (prop_order a) b ≡ true → a ≡ b
prop_exact a b e = same a b (sym (at_same a b) ∙ e)

at_itself : (a : PropName) → is_at (prop_order a) a ≡ true
at_itself a = at_same a a ∙ same_itself a

is_at_equal : (a b : PropName) (o : Ordering) → prop_order a b ≡ o → is_eq o ≡ true → a ≡ b
is_at_equal a b o is e = prop_exact a b (ap is_eq is ∙ e)

module _ (key : PropName) (value : List ℕ) (name : PropName) where
  with_by : (entry : PropName × List ℕ) (texts : Texts) (o : Ordering) → prop_order key entry.0 ≡ o
      → text_at (with_text texts key value) name ≡ cond (is_at (prop_order name) key) (Some value) (text_at texts name)
      → text_at (match_ordering o ((key, value) ∷ entry ∷ texts) ((entry.0, value) ∷ texts) (entry ∷ with_text texts key value)) name ≡ cond (is_at (prop_order name) key) (Some value) (text_at (entry ∷ texts) name)
  with_by entry texts Less is later = refl
  with_by entry texts Equal is later =
      let one : key ≡ entry.0 = is_at_equal key entry.0 Equal is refl in
      rw (← one) (elim (is_at (prop_order name) key) as (λ b. cond b (Some value) (text_at texts name) ≡ cond b (Some value) (cond b (Some entry.1) (text_at texts name))) [ true ↦ refl | false ↦ refl ])
  with_by entry texts Greater is later = elim (cases_Bool (is_at (prop_order name) key)) [
    | inl here ↦
        let one : name ≡ key = prop_exact name key here in
        let other : is_at (prop_order name) entry.0 ≡ false = ap (λ n. is_at (prop_order n) entry.0) one ∙ ap is_eq is in
        ap (λ b. cond b (Some entry.1) (text_at (with_text texts key value) name)) other ∙ (later ∙ (ap (λ b. cond b (Some value) (text_at texts name)) here ∙ sym (ap (λ b. cond b (Some value) (text_at (entry ∷ texts) name)) here)))
    | inr apart ↦
        ap (λ rest. cond (is_at (prop_order name) entry.0) (Some entry.1) rest) (later ∙ ap (λ b. cond b (Some value) (text_at texts name)) apart)
        ∙ sym (ap (λ b. cond b (Some value) (text_at (entry ∷ texts) name)) apart)
  ]

  text_at_with : (texts : Texts) → text_at (with_text texts key value) name ≡ cond (is_at (prop_order name) key) (Some value) (text_at texts name)
  text_at_with [] = refl
  text_at_with (entry ∷ texts) = with_by entry texts (prop_order key entry.0) refl (text_at_with texts)

one_prop : (key x y : PropName) → is_at (prop_order key) x ≡ true → is_at (prop_order key) y ≡ eq_by_cmp prop_order x y
one_prop key x y at = ap (λ n. is_at (prop_order n) y) (prop_exact key x at)

text_at_without : (texts : Texts) (key name : PropName) → IsStrictlySortedBy prop_order (keys_of texts) → text_at (without_text texts key) name ≡ cond (is_at (prop_order key) name) None (text_at texts name)
text_at_without texts key name in_order =
    lookup-remove_entry (eq_by_cmp_equiv props_total) (is_at (prop_order key)) (one_prop key) name texts (IsDistinct-from_sorted prop_order (keys_of texts) in_order)

-- after one setting
zone_no_kinds : is_kinds (row_of calendar_timezone).setting ≡ false
zone_no_kinds = kinds_row calendar_timezone

zone_set_by : (texts : Texts) (value : Option (List ℕ)) → IsStrictlySortedBy prop_order (keys_of texts) → text_at (texts_with_value texts calendar_timezone value) calendar_timezone ≡ value
zone_set_by texts None in_order = text_at_without texts calendar_timezone calendar_timezone in_order ∙ ap (λ b. cond b None (text_at texts calendar_timezone)) (at_itself calendar_timezone)
zone_set_by texts (Some value) in_order = text_at_with calendar_timezone value calendar_timezone texts ∙ ap (λ b. cond b (Some value) (text_at texts calendar_timezone)) (at_itself calendar_timezone)

other_set_by : (texts : Texts) (name : PropName) (value : Option (List ℕ)) → IsStrictlySortedBy prop_order (keys_of texts) → is_at (prop_order calendar_timezone) name ≡ false
    → text_at (texts_with_value texts name value) calendar_timezone ≡ text_at texts calendar_timezone
other_set_by texts name None in_order apart =
    text_at_without texts name calendar_timezone in_order ∙ ap (λ b. cond b None (text_at texts calendar_timezone)) (at_same name calendar_timezone ∙ (same-sym name calendar_timezone ∙ (sym (at_same calendar_timezone name) ∙ apart)))
other_set_by texts name (Some value) in_order apart = text_at_with name value calendar_timezone texts ∙ ap (λ b. cond b (Some value) (text_at texts calendar_timezone)) apart

zone_after : (texts : Texts) (set : PropSet) → IsStrictlySortedBy prop_order (keys_of texts) → text_at (texts_after texts set) calendar_timezone ≡ (if is_zone set then set.value else text_at texts calendar_timezone)
zone_after texts set in_order = elim (cases_Bool (is_zone set)) [
  | inl here ↦
      let one : calendar_timezone ≡ set.name = prop_exact calendar_timezone set.name here in
      let plain : is_kinds (row_of set.name).setting ≡ false = ap (λ n. is_kinds (row_of n).setting) (sym one) ∙ zone_no_kinds in
      ap (λ b. text_at (if b then texts else texts_with_value texts set.name set.value) calendar_timezone) plain
      ∙ (ap (λ n. text_at (texts_with_value texts n set.value) calendar_timezone) (sym one)
      ∙ (zone_set_by texts set.value in_order ∙ sym (ap (λ b. if b then set.value else text_at texts calendar_timezone) here)))
  | inr apart ↦
      either (is_kinds (row_of set.name).setting) (other_set_by texts set.name set.value in_order apart) ∙ sym (ap (λ b. if b then set.value else text_at texts calendar_timezone) apart)
] where
  either : (b : Bool) → text_at (texts_with_value texts set.name set.value) calendar_timezone ≡ text_at texts calendar_timezone
      → text_at (if b then texts else texts_with_value texts set.name set.value) calendar_timezone ≡ text_at texts calendar_timezone
  either true e = refl
  either false e = e

-- the value of the last setting of the zone, or else what is there
abbrev pub value_or : Option PropSet → Option (List ℕ) → Option (List ℕ)
value_or None value = value
value_or (Some set) value = set.value

value_or-else : (a : Option PropSet) (b : Bool) (set : PropSet) (value : Option (List ℕ)) → value_or a (if b then set.value else value) ≡ value_or (or_else a (if b then Some set else None)) value
value_or-else None true set value = refl
value_or-else None false set value = refl
value_or-else (Some s) b set value = refl

pub zone_after_all : (sets : List PropSet) (texts : Texts) → IsStrictlySortedBy prop_order (keys_of texts) → text_at (texts_after_all texts sets) calendar_timezone ≡ value_or (last_zone sets) (text_at texts calendar_timezone)
zone_after_all [] texts in_order = refl
zone_after_all (set ∷ sets) texts in_order =
    zone_after_all sets (texts_after texts set) (in_order-after texts set in_order)
    ∙ (ap (value_or (last_zone sets)) (zone_after texts set in_order) ∙ value_or-else (last_zone sets) (is_zone set) set (text_at texts calendar_timezone))

-- so the zone is that of the last setting, or else the one that there was
pub own_zone-unset : (sets : List PropSet) (texts : Texts) → IsStrictlySortedBy prop_order (keys_of texts) → last_zone sets ≡ None → own_zone (texts_after_all texts sets) ≡ own_zone texts
own_zone-unset sets texts in_order none =
    ap (option_and_then (λ value. result_ok (read_zone value))) (zone_after_all sets texts in_order ∙ ap (λ o. value_or o (text_at texts calendar_timezone)) none)

pub own_zone-set : (sets : List PropSet) (texts : Texts) (set : PropSet) → IsStrictlySortedBy prop_order (keys_of texts) → last_zone sets ≡ Some set → own_zone (texts_after_all texts sets) ≡ zone_set set
own_zone-set sets texts set in_order some =
    ap (option_and_then (λ value. result_ok (read_zone value))) (zone_after_all sets texts in_order ∙ ap (λ o. value_or o (text_at texts calendar_timezone)) some)
