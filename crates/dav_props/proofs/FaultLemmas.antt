-- The faults of settings, the names of those that are refused, and the answers to all.
use Rattle.std.proofs.Common.{◌≡◌, ℕ, zero, suc, ◌+◌, ◌<◌, ◌≤◌, arith, take, Bool, true, false, cond, List, [], ◌∷◌, ◌++◌, map, length, drop, get_or, Option, Some, None, refl, sym, ap, ap₂, ◌∙◌, add-one}
use Rattle.std.specs.Prelude.{bytes_eq, not, ◌&&◌, ◌||◌, is_some, option_map, if◌then◌else◌, Result, Ok, Err, OnOk}
use Rattle.std.specs.List.Sorted.{IsStrictlySortedBy}
use Rattle.std.specs.declared.cmp.Ordering.{Ordering}
use Rattle.std.specs.declared.cmp.Ordering.TheVariants.{Less, Equal, Greater}
use Rattle.std.specs.Ordering.{match_ordering, is_eq}
use Rattle.std.specs.Map.{keys_of}
use Rattle.std.proofs.Math.Seq.{drop-cons}
use Rattle.std.proofs.lemmas.Bool.{false≢true}
use Rattle.std.proofs.lemmas.Cmp.{nat_list_eq_equiv}
use Rattle.std.proofs.lemmas.Map.Text.{is_eq-slice_cmp}
use Rattle.cal_base.specs.Lists.NameMap.{Named, name_order, value_at, with_value}
use Rattle.cal_base.proofs.Lists.NameMapLemmas.{value_at_with}
use Rattle.cal_model.specs.declared.property.PropName.{PropName}
use Rattle.cal_model.specs.declared.property.PropSet.{PropSet}
use Rattle.cal_model.specs.declared.reply.Refusal.{Refusal}
use Rattle.cal_model.specs.Access.Privileges.{same_name}
use Rattle.cal_model.specs.State.PropertyTexts.{Texts, prop_order}
use Rattle.cal_model.specs.Objects.ObjectReading.{first_there}
use Rattle.cal_model.specs.Properties.PropertyTable.{without_value}
use Rattle.cal_model.specs.Properties.PropertyReplies.{once, is_refused, setting_answers}
use Rattle.cal_model.specs.Properties.Settings.{setting_fault, texts_after, faults_of_all}
use Rattle.cal_model.specs.Refusals.ChangeRefusals.{some_fault}
use Rattle.cal_model.specs.Serving.EventReplies.{all_set}
use Rattle.cal_model.proofs.State.TextOrder.{at_same, in_order-after}
use Rattle.multistatus.specs.NameKeys.{key}
use Rattle.dav_props.specs.declared.setting_faults.Fault.{Fault}
use Rattle.dav_props.specs.KeptTexts.{marked_by, marks, TellsRefused, answer_in}
use Rattle.dav_props.specs.SettingFaults.{refusal_of}
use Rattle.dav_props.specs.SettingChecks.{texts_passed, fault_in}
use Rattle.dav_props.proofs.SettingLemmas.{key_order}

-- Order stays

pub in_order-passed : (making : Bool) (texts : Texts) (set : PropSet) → IsStrictlySortedBy prop_order (keys_of texts) → IsStrictlySortedBy prop_order (keys_of (texts_passed making texts set))
in_order-passed making texts set in_order = by (is_some (setting_fault making texts set)) where
  by : (test : Bool) → IsStrictlySortedBy prop_order (keys_of (if test then texts else texts_after texts set))
  by true = in_order
  by false = in_order-after texts set in_order

-- Going over settings

pub sets_behind : (sets : List PropSet) (place : ℕ) (set : PropSet) → place < length sets → set ≡ get_or sets place set → set ∷ drop (place + 1) sets ≡ drop place sets
sets_behind sets place set within here =
    sym (drop-cons sets place set within ∙ ap (λ first. first ∷ drop (suc place) sets) (sym here) ∙ ap (λ n. set ∷ drop n sets) (sym (add-one place)))

pub marks_step : (refused after : Named Bool) (now : Texts) (set : PropSet) (sets : List PropSet) → after ≡ marked_by refused set.name (setting_fault false now set)
    → marks after (faults_of_all false (texts_passed false now set) sets) ≡ marks refused (faults_of_all false now (set ∷ sets))
marks_step refused after now set sets e = ap (λ m. marks m (faults_of_all false (texts_passed false now set) sets)) e

-- a setting without a fault is passed over
pub fault_passed : (making : Bool) (now : Texts) (set : PropSet) (sets : List PropSet) → None ≡ setting_fault making now set → fault_in (faults_of_all making now (set ∷ sets)) ≡ fault_in (faults_of_all making (texts_after now set) sets)
fault_passed making now set sets e =
    ap (λ (fault : Option Refusal). first_there (fault ∷ map (λ (entry : PropName × Option Refusal). entry.1) (faults_of_all making (if is_some fault then now else texts_after now set) sets))) (sym e)

-- The names that are refused

same_key : (a b : PropName) → bytes_eq (key a) (key b) ≡ same_name a b
same_key a b = sym (is_eq-slice_cmp (key a) (key b)) ∙ (ap is_eq (key_order a b) ∙ at_same a b)

marked_at : (refused : Named Bool) (name other : PropName) → is_some (value_at (with_value refused (key name) true) (key other)) ≡ (same_name name other || is_some (value_at refused (key other)))
marked_at refused name other =
    ap is_some (value_at_with (key name) true (key other) refused)
    ∙ (ap (λ same. is_some (cond same (Some true) (value_at refused (key other)))) (nat_list_eq_equiv.symm (key other) (key name) ∙ same_key name other)
    ∙ by (same_name name other)) where
      by : (same : Bool) → is_some (cond same (Some true) (value_at refused (key other))) ≡ (same || is_some (value_at refused (key other)))
      by true = refl
      by false = refl

or_swap : (a b c : Bool) → ((a || b) || c) ≡ (b || (a || c))
or_swap true true c = refl
or_swap true false c = refl
or_swap false b c = refl

pub marks_at : (refused : Named Bool) (faults : List (PropName × Option Refusal)) (name : PropName) → is_some (value_at (marks refused faults) (key name)) ≡ (is_some (value_at refused (key name)) || is_refused faults name)
marks_at refused [] name = or_false (is_some (value_at refused (key name))) where
  or_false : (b : Bool) → b ≡ (b || false)
  or_false true = refl
  or_false false = refl
marks_at refused ((other, None) ∷ faults) name = marks_at refused faults name
marks_at refused ((other, Some refusal) ∷ faults) name =
    marks_at (with_value refused (key other) true) faults name
    ∙ (ap (λ b. b || is_refused faults name) (marked_at refused other name) ∙ or_swap (same_name other name) (is_some (value_at refused (key name))) (is_refused faults name))

pub tells : (refused : Named Bool) (faults : List (PropName × Option Refusal)) → refused ≡ marks [] faults → TellsRefused refused faults
tells refused faults is name = ap (λ m. is_some (value_at m (key name))) is ∙ marks_at [] faults name

abbrev has_none : Named Bool → Bool
has_none [] = true
has_none (entry ∷ refused) = false

one_more : (refused : Named Bool) (name : List ℕ) → has_none (with_value refused name true) ≡ false
one_more [] name = refl
one_more (entry ∷ refused) name = by (name_order name entry.0) where
  by : (o : Ordering) → has_none (match_ordering o ((name, true) ∷ entry ∷ refused) ((entry.0, true) ∷ refused) (entry ∷ with_value refused name true)) ≡ false
  by Less = refl
  by Equal = refl
  by Greater = refl

and_false : (a : Bool) → (a && false) ≡ false
and_false true = refl
and_false false = refl

pub marks_none : (refused : Named Bool) (faults : List (PropName × Option Refusal)) → has_none (marks refused faults) ≡ (has_none refused && not (some_fault faults))
marks_none refused [] = and_true (has_none refused) where
  and_true : (b : Bool) → b ≡ (b && true)
  and_true true = refl
  and_true false = refl
marks_none refused ((name, None) ∷ faults) = marks_none refused faults
marks_none refused ((name, Some refusal) ∷ faults) =
    marks_none (with_value refused (key name) true) faults ∙ (ap (λ b. b && not (some_fault faults)) (one_more refused (key name)) ∙ sym (and_false (has_none refused)))

-- Answers

pub fault_names : (making : Bool) (texts : Texts) (sets : List PropSet) → map (λ (entry : PropName × Option Refusal). entry.0) (faults_of_all making texts sets) ≡ map (λ (set : PropSet). set.name) sets
fault_names making texts [] = refl
fault_names making texts (set ∷ sets) = ap (λ names. set.name ∷ names) (fault_names making (texts_passed making texts set) sets)

pub set_names : (sets : List PropSet) → map (λ (entry : PropName × Option Refusal). entry.0) (all_set sets) ≡ map (λ (set : PropSet). set.name) sets
set_names [] = refl
set_names (set ∷ sets) = ap (λ names. set.name ∷ names) (set_names sets)

pub none_refused : (sets : List PropSet) (name : PropName) → is_refused (all_set sets) name ≡ false
none_refused [] name = refl
none_refused (set ∷ sets) name = none_refused sets name

no_names : (refused : Named Bool) → length refused ≡ 0 → refused ≡ []
no_names [] e = refl
no_names (entry ∷ refused) e = absurd (omega arith)

some_names : (refused : Named Bool) → 0 < length refused → has_none refused ≡ false
some_names [] more = absurd (omega arith)
some_names (entry ∷ refused) more = refl

pub tells_none : (refused : Named Bool) (sets : List PropSet) → length refused ≡ 0 → TellsRefused refused (all_set sets)
tells_none refused sets none name = ap (λ m. is_some (value_at m (key name))) (no_names refused none) ∙ sym (none_refused sets name)

pub no_fault : (refused : Named Bool) (faults : List (PropName × Option Refusal)) → refused ≡ marks [] faults → length refused ≡ 0 → some_fault faults ≡ false
no_fault refused faults is none = by (some_fault faults) (sym (marks_none [] faults) ∙ (ap has_none (sym is) ∙ ap has_none (no_names refused none))) where
  by : (b : Bool) → not b ≡ true → b ≡ false
  by true e = absurd (false≢true e)
  by false e = refl

pub a_fault : (refused : Named Bool) (faults : List (PropName × Option Refusal)) → refused ≡ marks [] faults → 0 < length refused → some_fault faults ≡ true
a_fault refused faults is some = by (some_fault faults) (sym (marks_none [] faults) ∙ (ap has_none (sym is) ∙ some_names refused some)) where
  by : (b : Bool) → not b ≡ false → b ≡ true
  by true e = refl
  by false e = absurd (false≢true (sym e))

answers_of : (refused : Named Bool) (faults : List (PropName × Option Refusal)) (otherwise : ℕ) → TellsRefused refused faults → (names : List PropName)
    → map (answer_in refused otherwise) names ≡ map (λ name. without_value name (if is_refused faults name then 403 else otherwise)) names
answers_of refused faults otherwise tells [] = refl
answers_of refused faults otherwise tells (name ∷ names) =
    ap₂ (λ b rest. without_value name (if b then 403 else otherwise) ∷ rest) (tells name) (answers_of refused faults otherwise tells names)

pub answers_are : (refused : Named Bool) (faults : List (PropName × Option Refusal)) (otherwise : ℕ) (sets : List PropSet) → TellsRefused refused faults
    → map (λ (entry : PropName × Option Refusal). entry.0) faults ≡ map (λ (set : PropSet). set.name) sets → map (answer_in refused otherwise) (once (map (λ (set : PropSet). set.name) sets)) ≡ setting_answers faults otherwise
answers_are refused faults otherwise sets tells same = ap (λ names. map (answer_in refused otherwise) (once names)) (sym same) ∙ answers_of refused faults otherwise tells (once (map (λ (entry : PropName × Option Refusal). entry.0) faults))

-- Steps

pub map_one : {X Y : Type 0} (f : X → Y) (xs : List X) (at : ℕ) (x : X) → at < length xs → x ≡ get_or xs at x → map f (take at xs) ++ f x ∷ [] ≡ map f (take (at + 1) xs)
map_one f xs at x within is = one xs at within is ∙ ap (λ n. map f (take n xs)) (sym (add-one at)) where
  one : (xs : List _) (at : ℕ) → at < length xs → x ≡ get_or xs at x → map f (take at xs) ++ f x ∷ [] ≡ map f (take (suc at) xs)
  one [] at within is = absurd (omega arith)
  one (y ∷ xs) zero within is = ap (λ z. f z ∷ []) is
  one (y ∷ xs) (suc at) within is = ap (λ rest. f y ∷ rest) (one xs at (omega arith) is)

pub none_left : {X : Type 0} (xs : List X) (at : ℕ) → length xs ≤ at → drop at xs ≡ []
none_left [] zero all = refl
none_left [] (suc at) all = refl
none_left (x ∷ xs) zero all = absurd (omega arith)
none_left (x ∷ xs) (suc at) all = none_left xs at (omega arith)

pub sorted_none : IsStrictlySortedBy prop_order (keys_of {X = List ℕ} [])
unfolding IsStrictlySortedBy
sorted_none = tt

pub no_refusal : (fault : Option Fault) → is_some fault ≡ false → None ≡ option_map refusal_of fault
no_refusal None e = refl
no_refusal (Some fault) e = absurd (false≢true (sym e))

pub passed_fine : (making : Bool) (texts : Texts) (set : PropSet) → None ≡ setting_fault making texts set → texts_after texts set ≡ texts_passed making texts set
passed_fine making texts set e = ap (λ (fault : Option Refusal). if is_some fault then texts else texts_after texts set) e

pub on_ok : {X E A B : Type 0} (result : Result X E) → (A → B) → OnOk result A → OnOk result B
on_ok (Ok x) f a = f a
on_ok (Err e) f a = tt
