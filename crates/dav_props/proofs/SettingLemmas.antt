-- The names of a calendar's texts, as settings change them, and which faults settings have.
use Rattle.std.proofs.Common.{◌≡◌, ℕ, zero, suc, ◌+◌, ◌-◌, ◌<◌, ◌≤◌, drop, get_or, arith, Bool, true, false, cond, List, [], ◌∷◌, ◌++◌, length, Option, Some, None, refl, sym, ap, ap₂, ◌∙◌, subst}
use Rattle.std.specs.Prelude.{not, ◌&&◌, ◌==◌, is_some, is_none, unwrap_or, nat_le, if◌then◌else◌}
use Rattle.std.specs.List.{AllByRecursion, slice_split}
use Rattle.std.specs.List.Sorted.{IsStrictlySortedBy}
use Rattle.std.specs.declared.cmp.Ordering.{Ordering}
use Rattle.std.specs.declared.cmp.Ordering.TheVariants.{Less, Equal, Greater}
use Rattle.std.specs.Ordering.{match_ordering, is_eq, ordering_then, nat_cmp}
use Rattle.std.specs.BTreeMap.{is_at}
use Rattle.std.specs.Map.{keys_of}
use Rattle.std.proofs.lemmas.Bool.{false≢true, le-leb, lt-leb}
use Rattle.cal_base.specs.Lists.NameMap.{Named, name_order, value_at, with_value, without}
use Rattle.cal_model.specs.declared.property.PropName.{PropName}
use Rattle.cal_model.specs.declared.property.PropSet.{PropSet}
use Rattle.cal_model.specs.State.PropertyTexts.{Texts, prop_order, text_at, with_text, without_text, as_settings}
use Rattle.cal_model.specs.Properties.PropertyTable.{Property, is_text, listed_row, row_of, text_row, text_names, in_both, text}
use Rattle.cal_model.specs.Properties.Settings.{is_kinds, texts_after, texts_with_value, is_one_too_many, kinds_in}
use Rattle.cal_model.proofs.State.TextOrder.{props_total, at_same}
use Rattle.multistatus.specs.NameKeys.{marked, key}
use Rattle.dav_props.specs.KeptTexts.{kept_names, names_with, names_after}
use Rattle.dav_props.proofs.RowLemmas.{same_name-true}

-- Names without rows

text_row-by : (name : PropName) (found : Option Property) → not (is_some found) ≡ true → unwrap_or found (text_row name in_both text) ≡ text_row name in_both text
text_row-by name None e = refl
text_row-by name (Some p) e = absurd (false≢true e)

pub row_of_text : (name : PropName) → is_text name ≡ true → row_of name ≡ text_row name in_both text
row_of_text name e = text_row-by name (listed_row name) e

-- The order of names is that of their keys

then_assoc : (a b c : Ordering) → ordering_then a (ordering_then b c) ≡ ordering_then (ordering_then a b) c
then_assoc Less b c = refl
then_assoc Equal b c = refl
then_assoc Greater b c = refl

key_texts : (a b x y : List ℕ) → name_order (marked a ++ 0 ∷ x) (marked b ++ 0 ∷ y) ≡ ordering_then (name_order a b) (name_order x y)
unfolding marked
key_texts [] [] x y = refl
key_texts [] (c ∷ b) x y = refl
key_texts (c ∷ a) [] x y = refl
key_texts (c ∷ a) (d ∷ b) x y = ap (ordering_then (nat_cmp c d)) (key_texts a b x y) ∙ then_assoc (nat_cmp c d) (name_order a b) (name_order x y)

pub key_order : (a b : PropName) → name_order (key a) (key b) ≡ prop_order a b
key_order a b = key_texts a.space b.space a.name b.name

same_at : (a b : PropName) → prop_order a b ≡ Equal → a ≡ b
same_at a b e = same_name-true a b (sym (at_same a b) ∙ ap is_eq e)

-- A name below all others comes first

abbrev entry_of : PropName × List ℕ → List ℕ × Bool
entry_of entry = (key entry.0, true)

still_above : (name first : PropName) (keys : List PropName) → prop_order name first ≡ Less → AllByRecursion (λ other. prop_order first other ≡ Less) keys → AllByRecursion (λ other. prop_order name other ≡ Less) keys
still_above name first [] below all = tt
still_above name first (other ∷ keys) below all = (props_total.trans name first other below all.0, still_above name first keys below all.1)

pub insert_first : (name : PropName) (texts : Texts) → AllByRecursion (λ other. prop_order name other ≡ Less) (keys_of texts) → with_value (kept_names texts) (key name) true ≡ (key name, true) ∷ kept_names texts
insert_first name [] all = refl
insert_first name (entry ∷ texts) all = by (is_text entry.0) (insert_first name texts all.1) where
  by : (test : Bool) → with_value (kept_names texts) (key name) true ≡ (key name, true) ∷ kept_names texts
      → with_value (if test then entry_of entry ∷ kept_names texts else kept_names texts) (key name) true ≡ (key name, true) ∷ (if test then entry_of entry ∷ kept_names texts else kept_names texts)
  by true later =
      ap (λ o. match_ordering o ((key name, true) ∷ entry_of entry ∷ kept_names texts) ((key entry.0, true) ∷ kept_names texts) (entry_of entry ∷ with_value (kept_names texts) (key name) true)) (key_order name entry.0 ∙ all.0)
  by false later = later

-- Texts that are set and removed

module _ (name : PropName) (value : List ℕ) where
  set_by : (entry : PropName × List ℕ) (texts : Texts) (o : Ordering) → prop_order name entry.0 ≡ o → is_text name ≡ true → AllByRecursion (λ other. prop_order entry.0 other ≡ Less) (keys_of texts)
      → kept_names (with_text texts name value) ≡ with_value (kept_names texts) (key name) true
      → kept_names (match_ordering o ((name, value) ∷ entry ∷ texts) ((entry.0, value) ∷ texts) (entry ∷ with_text texts name value)) ≡ with_value (kept_names (entry ∷ texts)) (key name) true
  set_by entry texts Less is own above later =
      ap (λ b. if b then entry_of (name, value) ∷ kept_names (entry ∷ texts) else kept_names (entry ∷ texts)) own ∙ sym (insert_first name (entry ∷ texts) (is, still_above name entry.0 (keys_of texts) is above))
  set_by entry texts Equal is own above later =
      let text_here : is_text entry.0 ≡ true = ap is_text (sym (same_at name entry.0 is)) ∙ own in
      ap (λ b. if b then entry_of entry ∷ kept_names texts else kept_names texts) text_here
      ∙ sym (ap (λ b. with_value (if b then entry_of entry ∷ kept_names texts else kept_names texts) (key name) true) text_here
      ∙ ap (λ o. match_ordering o ((key name, true) ∷ entry_of entry ∷ kept_names texts) ((key entry.0, true) ∷ kept_names texts) (entry_of entry ∷ with_value (kept_names texts) (key name) true)) (key_order name entry.0 ∙ is))
  set_by entry texts Greater is own above later = by (is_text entry.0) where
    by : (test : Bool) → (if test then entry_of entry ∷ kept_names (with_text texts name value) else kept_names (with_text texts name value))
        ≡ with_value (if test then entry_of entry ∷ kept_names texts else kept_names texts) (key name) true
    by true =
        ap (λ rest. entry_of entry ∷ rest) later
        ∙ sym (ap (λ o. match_ordering o ((key name, true) ∷ entry_of entry ∷ kept_names texts) ((key entry.0, true) ∷ kept_names texts) (entry_of entry ∷ with_value (kept_names texts) (key name) true)) (key_order name entry.0 ∙ is))
    by false = later

  pub set_text : (texts : Texts) → is_text name ≡ true → IsStrictlySortedBy prop_order (keys_of texts) → kept_names (with_text texts name value) ≡ with_value (kept_names texts) (key name) true
  unfolding IsStrictlySortedBy
  set_text [] own s = ap (λ b. if b then entry_of (name, value) ∷ [] else []) own
  set_text (entry ∷ texts) own s = set_by entry texts (prop_order name entry.0) refl own s.0 (set_text texts own s.1)

  other_set_by : (entry : PropName × List ℕ) (texts : Texts) (o : Ordering) → is_text name ≡ false → kept_names (with_text texts name value) ≡ kept_names texts
      → kept_names (match_ordering o ((name, value) ∷ entry ∷ texts) ((entry.0, value) ∷ texts) (entry ∷ with_text texts name value)) ≡ kept_names (entry ∷ texts)
  other_set_by entry texts Less other later = ap (λ b. if b then entry_of (name, value) ∷ kept_names (entry ∷ texts) else kept_names (entry ∷ texts)) other
  other_set_by entry texts Equal other later = refl
  other_set_by entry texts Greater other later = ap (λ rest. if is_text entry.0 then entry_of entry ∷ rest else rest) later

  pub other_set : (texts : Texts) → is_text name ≡ false → kept_names (with_text texts name value) ≡ kept_names texts
  other_set [] other = ap (λ b. if b then entry_of (name, value) ∷ [] else []) other
  other_set (entry ∷ texts) other = other_set_by entry texts (prop_order name entry.0) other (other_set texts other)

module _ (name : PropName) where
  key_at : (other : PropName) → is_at (name_order (key name)) (key other) ≡ is_at (prop_order name) other
  key_at other = ap is_eq (key_order name other)

  pub removed_text : (texts : Texts) → is_text name ≡ true → kept_names (without_text texts name) ≡ without (kept_names texts) (key name)
  removed_text [] own = refl
  removed_text (entry ∷ texts) own = by (is_at (prop_order name) entry.0) (is_text entry.0) refl refl (removed_text texts own) where
    by : (here test : Bool) → is_at (prop_order name) entry.0 ≡ here → is_text entry.0 ≡ test → kept_names (without_text texts name) ≡ without (kept_names texts) (key name)
        → kept_names (cond here texts (entry ∷ without_text texts name)) ≡ without (if test then entry_of entry ∷ kept_names texts else kept_names texts) (key name)
    by true true is text_is later = sym (ap (λ b. cond b (kept_names texts) (entry_of entry ∷ without (kept_names texts) (key name))) (key_at entry.0 ∙ is))
    by true false is text_is later =
        let same : name ≡ entry.0 = same_name-true name entry.0 (sym (at_same name entry.0) ∙ is) in
        absurd (false≢true (sym text_is ∙ (ap is_text (sym same) ∙ own)))
    by false true is text_is later =
        ap (λ b. if b then entry_of entry ∷ kept_names (without_text texts name) else kept_names (without_text texts name)) text_is
        ∙ (ap (λ rest. entry_of entry ∷ rest) later ∙ sym (ap (λ b. cond b (kept_names texts) (entry_of entry ∷ without (kept_names texts) (key name))) (key_at entry.0 ∙ is)))
    by false false is text_is later = ap (λ b. if b then entry_of entry ∷ kept_names (without_text texts name) else kept_names (without_text texts name)) text_is ∙ later

  pub other_removed : (texts : Texts) → is_text name ≡ false → kept_names (without_text texts name) ≡ kept_names texts
  other_removed [] other = refl
  other_removed (entry ∷ texts) other = by (is_at (prop_order name) entry.0) refl (other_removed texts other) where
    by : (here : Bool) → is_at (prop_order name) entry.0 ≡ here → kept_names (without_text texts name) ≡ kept_names texts → kept_names (cond here texts (entry ∷ without_text texts name)) ≡ kept_names (entry ∷ texts)
    by true is later =
        let same : name ≡ entry.0 = same_name-true name entry.0 (sym (at_same name entry.0) ∙ is) in
        sym (ap (λ b. if b then entry_of entry ∷ kept_names texts else kept_names texts) (ap is_text (sym same) ∙ other))
    by false is later = ap (λ rest. if is_text entry.0 then entry_of entry ∷ rest else rest) later

  -- what is there, and how much
  pub kept_at : (texts : Texts) → is_text name ≡ true → is_some (value_at (kept_names texts) (key name)) ≡ is_some (text_at texts name)
  kept_at [] own = refl
  kept_at (entry ∷ texts) own = by (is_at (prop_order name) entry.0) (is_text entry.0) refl refl (kept_at texts own) where
    by : (here test : Bool) → is_at (prop_order name) entry.0 ≡ here → is_text entry.0 ≡ test → is_some (value_at (kept_names texts) (key name)) ≡ is_some (text_at texts name)
        → is_some (value_at (if test then entry_of entry ∷ kept_names texts else kept_names texts) (key name)) ≡ is_some (cond here (Some entry.1) (text_at texts name))
    by true true is text_is later = ap (λ b. is_some (cond b (Some true) (value_at (kept_names texts) (key name)))) (key_at entry.0 ∙ is)
    by true false is text_is later =
        let same : name ≡ entry.0 = same_name-true name entry.0 (sym (at_same name entry.0) ∙ is) in
        absurd (false≢true (sym text_is ∙ (ap is_text (sym same) ∙ own)))
    by false true is text_is later = ap (λ b. is_some (cond b (Some true) (value_at (kept_names texts) (key name)))) (key_at entry.0 ∙ is) ∙ later
    by false false is text_is later = later

pub kept_length : (texts : Texts) → length (kept_names texts) ≡ length (text_names texts)
kept_length [] = refl
kept_length (entry ∷ texts) = by (is_text entry.0) (kept_length texts) where
  by : (test : Bool) → length (kept_names texts) ≡ length (text_names texts)
      → length (if test then entry_of entry ∷ kept_names texts else kept_names texts) ≡ length (cond test (entry.0 ∷ text_names texts) (text_names texts))
  by true later = ap suc later
  by false later = later

-- A setting that is carried out

pub kept_after : (texts : Texts) (set : PropSet) → IsStrictlySortedBy prop_order (keys_of texts) → names_after (kept_names texts) set ≡ kept_names (texts_after texts set)
kept_after texts set s = by (is_text set.name) refl where
  own : is_text set.name ≡ true → (value : Option (List ℕ)) → names_with (kept_names texts) set.name value ≡ kept_names (texts_with_value texts set.name value)
  own e None = sym (removed_text set.name texts e)
  own e (Some value) = sym (set_text set.name value texts e s)

  other : is_text set.name ≡ false → (value : Option (List ℕ)) → kept_names texts ≡ kept_names (texts_with_value texts set.name value)
  other e None = sym (other_removed set.name texts e)
  other e (Some value) = sym (other_set set.name value texts e)

  other_by : is_text set.name ≡ false → (test : Bool) → kept_names texts ≡ kept_names (if test then texts else texts_with_value texts set.name set.value)
  other_by e true = refl
  other_by e false = other e set.value

  by : (test : Bool) → is_text set.name ≡ test → (if test then names_with (kept_names texts) set.name set.value else kept_names texts) ≡ kept_names (texts_after texts set)
  by true e = own e set.value ∙ sym (ap (λ (p : Property). kept_names (if is_kinds p.setting then texts else texts_with_value texts set.name set.value)) (row_of_text set.name e))
  by false e = other_by e (is_kinds (row_of set.name).setting)

-- a text is kept before those that are above it
pub kept_before : (entry : PropName × List ℕ) (texts : Texts) → IsStrictlySortedBy prop_order (keys_of (entry ∷ texts)) → names_after (kept_names texts) (record { name = entry.0; value = Some entry.1 }) ≡ kept_names (entry ∷ texts)
unfolding IsStrictlySortedBy
kept_before entry texts s = ap (λ kept. if is_text entry.0 then kept else kept_names texts) (insert_first entry.0 texts s.0)

-- One text too many

none_of : {X : Type 0} (found : Option X) → is_none found ≡ not (is_some found)
none_of None = refl
none_of (Some x) = refl

and_false : (a : Bool) → (a && false) ≡ false
and_false true = refl
and_false false = refl

pub many_few : (kept : Named Bool) (texts : Texts) (name : PropName) → kept ≡ kept_names texts → length kept < 64 → false ≡ is_one_too_many texts name
many_few kept texts name is few =
    let size : length kept ≡ length (text_names texts) = ap length is ∙ kept_length texts in
    let above : nat_le 64 (length (text_names texts)) ≡ false = lt-leb 64 (length (text_names texts)) (omega arith) in
    sym (ap (λ b. (is_text name && is_none (text_at texts name)) && b) above ∙ and_false (is_text name && is_none (text_at texts name)))

pub many_there : (kept : Named Bool) (texts : Texts) (name : PropName) (there : Bool) → kept ≡ kept_names texts → 64 ≤ length kept → is_text name ≡ true → is_some (value_at kept (key name)) ≡ there
    → not there ≡ is_one_too_many texts name
many_there kept texts name there is many own found =
    let size : length kept ≡ length (text_names texts) = ap length is ∙ kept_length texts in
    let above : nat_le 64 (length (text_names texts)) ≡ true = le-leb 64 (length (text_names texts)) (omega arith) in
    let at : is_some (text_at texts name) ≡ there = sym (kept_at name texts own) ∙ (ap (λ k. is_some (value_at k (key name))) (sym is) ∙ found) in
    ap not (sym at) ∙ (sym (none_of (text_at texts name)) ∙ (sym (and_true (is_none (text_at texts name))) ∙ sym (ap₂ (λ a b. (a && is_none (text_at texts name)) && b) own above))) where
      and_true : (b : Bool) → (b && true) ≡ b
      and_true true = refl
      and_true false = refl

-- One more name is kept, from the last text to the first

set_item : (texts : Texts) (at : ℕ) (set : PropSet) → at < length texts → set ≡ get_or (as_settings texts) at set → (entry : PropName × List ℕ) × (set ≡ record { name = entry.0; value = Some entry.1 }) × (drop at texts ≡ entry ∷ drop (suc at) texts)
set_item [] at set within is = absurd (omega arith)
set_item (entry ∷ texts) zero set within is = (entry, is, refl)
set_item (entry ∷ texts) (suc at) set within is = set_item texts at set (omega arith) is

sorted_behind : (texts : Texts) (at : ℕ) → IsStrictlySortedBy prop_order (keys_of texts) → IsStrictlySortedBy prop_order (keys_of (drop at texts))
unfolding IsStrictlySortedBy
sorted_behind texts zero s = s
sorted_behind [] (suc at) s = s
sorted_behind (entry ∷ texts) (suc at) s = sorted_behind texts at s.1

pub kept_one : (texts : Texts) (behind : ℕ) (set : PropSet) → IsStrictlySortedBy prop_order (keys_of texts) → behind < length texts → set ≡ get_or (as_settings texts) (length texts - 1 - behind) set
    → names_after (kept_names (drop (length texts - behind) texts)) set ≡ kept_names (drop (length texts - (behind + 1)) texts)
kept_one texts behind set s within is =
    let at : ℕ = length texts - 1 - behind in
    let next : suc at ≡ length texts - behind = omega arith in
    let here : at ≡ length texts - (behind + 1) = omega arith in
    let item = set_item texts at set (omega arith) is in
    let sorted : IsStrictlySortedBy prop_order (keys_of (item.0 ∷ drop (suc at) texts)) = subst (λ rest. IsStrictlySortedBy prop_order (keys_of rest)) item.2 (sorted_behind texts at s) in
    ap (λ n. names_after (kept_names (drop n texts)) set) (sym next)
    ∙ (ap (names_after (kept_names (drop (suc at) texts))) item.1
    ∙ (kept_before item.0 (drop (suc at) texts) sorted
    ∙ (ap kept_names (sym item.2) ∙ ap (λ n. kept_names (drop n texts)) here)))

pub settings_length : (texts : Texts) → length (as_settings texts) ≡ length texts
settings_length [] = refl
settings_length (entry ∷ texts) = ap suc (settings_length texts)

-- Lists of kinds

pub kinds_in_split : (value : List ℕ) → (length value == 0) ≡ false → kinds_in value ≡ slice_split (λ octet. octet == 44) value
kinds_in_split [] some = absurd (false≢true (sym some))
kinds_in_split (octet ∷ value) some = refl
