-- One part of a rule: what is known once it is read, and where it is bad.
use Rattle.std.proofs.Common.{◌≡◌, ℕ, ◌+◌, ◌-◌, ◌≤◌, Bool, true, false, not, ◌&&◌, ◌==◌, nat_le, if◌then◌else◌, List, [], ◌∷◌, ◌++◌, length, take, Some, None, is_some, option_map, option_and_then, Err, refl, sym, ap, subst, ◌∙◌, arith, inl, inr, append_assoc}
use Rattle.std.specs.Prelude.{IsErrOf}
use Rattle.std.specs.List.{list_all}
use Rattle.std.proofs.Math.Seq.{take-length}
use Rattle.std.proofs.lemmas.Bool.{cases_Bool, eq-eqb, eqb-true, false≢true, and_parts, le-leb, leb-true}
use Rattle.std.proofs.lemmas.List.{length-append, append-nil}
use Rattle.std.proofs.lemmas.Option.{none-some, same_Some}
use Rattle.cal_base.specs.Lines.ContentLines.{is_name, is_name_octet}
use Rattle.cal_base.specs.Lists.NameMap.{Named, value_at, with_value}
use Rattle.cal_base.specs.Texts.Text.{raised, raised_all}
use Rattle.cal_moment.specs.BadPlace.{IsIn, IsBadAt}
use Rattle.cal_model.specs.declared.rule.Rule.{Rule}
use Rattle.cal_model.specs.Values.BadValues.{Reads}
use Rattle.cal_model.specs.Values.RuleTexts.{if_named, part_of, is_allowed}
use Rattle.cal_model.specs.Values.ValueTexts.{cut}
use Rattle.cal_model.proofs.Values.CutLemmas.{cut-some, option_map_some}
use Rattle.cal_model.proofs.Values.PartFronts.{part_of-named}
use Rattle.cal_model.proofs.Values.RuleFronts.{not_true}
use Rattle.ical_values.specs.declared.fault.ValueFault.{ValueFault}
use Rattle.ical_values.specs.declared.fault.ValueFault.TheVariants.{Bad}
use Rattle.ical_values.specs.declared.rule_parts.RulePart.{RulePart}
use Rattle.ical_values.specs.declared.rule_parts.PartValue.{PartValue}
use Rattle.ical_values.specs.RuleBeside.{takes, value_beside}
use Rattle.ical_values.specs.RuleNames.{is_free, is_own, name_length, hyphen_length, own_length, name_place}
use Rattle.ical_values.specs.RuleParts.{name_of, part_named, value_of, put, put_named, put_part}
use Rattle.ical_values.specs.RuleReading.{Fits, HasTaken}
use Rattle.ical_values.proofs.BesideParts.{stands_read, value_stands}
use Rattle.ical_values.proofs.NamePlaces.{IsFreeName, IsOwn, bad_name, name_raised, named_is, names_are, own_named, own_reaches, own_says_nothing, own_unknown, own_within}
use Rattle.ical_values.proofs.PartPlaces.{bad_behind_fixed}

-- what holds of the place that a fault has holds of the one that it tells
pub fault_told : {X : Type 0} → (P : ℕ → Type 0) (fault : ValueFault) (own place : ℕ) → fault ≡ Bad own → IsErrOf {T = X} (Err fault) (Bad place) → P own → P place
fault_told {X} P fault own place has is holds = let same : own ≡ place = cc in subst P same holds

-- Names of others' own, as a test

all_names : (text : List ℕ) → name_length text ≡ length text → list_all is_name_octet text ≡ true
all_names [] e = refl
all_names (c ∷ text) e =
    elim (cases_Bool (is_name_octet c)) [
      | inl named ↦ (let is : name_length (c ∷ text) ≡ 1 + name_length text = ap (λ b. if b then 1 + name_length text else 0) named in
          let rest = all_names text (omega (arith, e, is)) in
          λ i. named i && rest i)
      | inr other ↦ (let is : name_length (c ∷ text) ≡ 0 = ap (λ b. if b then 1 + name_length text else 0) other in absurd (omega (arith, e, is)))
    ]

pub is_own-true : (name : List ℕ) → is_own name ≡ true → IsOwn name
is_own-true name e =
    let both = and_parts (nat_le 2 (length name)) (own_length name == length name) e in
    by_text name (leb-true 2 (length name) both.0) (eqb-true (own_length name) (length name) both.1)
  where
    by_text : (name : List ℕ) → 2 ≤ length name → own_length name ≡ length name → IsOwn name
    by_text [] long whole = absurd (omega (arith, long))
    by_text (c ∷ []) long whole = absurd (omega (arith, long))
    by_text (c ∷ d ∷ rest) long whole =
        elim (cases_Bool (raised c == 88)) [
          | inr other ↦ (let is : own_length (c ∷ d ∷ rest) ≡ 0 = ap (λ b. if b then 1 + hyphen_length (d ∷ rest) else 0) other in absurd (omega (arith, is, whole)))
          | inl first ↦ (let is : own_length (c ∷ d ∷ rest) ≡ 1 + hyphen_length (d ∷ rest) = ap (λ b. if b then 1 + hyphen_length (d ∷ rest) else 0) first in
              elim (cases_Bool (raised d == 45)) [
                | inr other ↦ (let none : hyphen_length (d ∷ rest) ≡ 0 = ap (λ b. if b then 1 + name_length rest else 0) other in absurd (omega (arith, is, none, whole)))
                | inl second ↦ (let more : hyphen_length (d ∷ rest) ≡ 1 + name_length rest = ap (λ b. if b then 1 + name_length rest else 0) second in
                    (eqb-true (raised c) 88 first, (eqb-true (raised d) 45 second, all_names rest (omega (arith, is, more, whole)))))
              ])
        ]

pub true-is_own : (name : List ℕ) → IsOwn name → is_own name ≡ true
true-is_own name own =
    let reached = own_reaches (length name) name [] (omega arith) (subst IsOwn (sym (append-nil (take (length name) name) ∙ take-length name)) own) in
    let whole : own_length name ≡ length name = omega (arith, reached, own_within name) in
    λ i. le-leb 2 (length name) (two name own) i && eq-eqb (own_length name) (length name) whole i
  where
    two : (name : List ℕ) → IsOwn name → 2 ≤ length name
    two [] own = absurd own
    two (c ∷ []) own = absurd own.1
    two (c ∷ d ∷ rest) own = omega arith

module _ (rule : Rule) (names : Named Bool) (allowed : is_allowed rule ≡ true) (text : List ℕ) where
  pub bad_without_name : cut 61 text ≡ None → IsBadAt (Fits rule names) text (name_place rule names text)
  bad_without_name none = bad_name rule names allowed text (λ name value cuts _. none-some (name, value) (sym none ∙ cuts))

  module _ (name value : List ℕ) (cuts : cut 61 text ≡ Some (name, value)) where
    -- a name that is none that may come
    bad_by_name : (IsFreeName rule names name → ⊥) → IsBadAt (Fits rule names) text (name_place rule names text)
    bad_by_name not_free = bad_name rule names allowed text (λ other behind its free. (let same : name ≡ other = ap (λ (p : List ℕ × List ℕ). p.0) (same_Some (name, value) (other, behind) (sym cuts ∙ its)) in
        not_free (subst (IsFreeName rule names) (sym same) free)))

    pub bad_not_free : (part : RulePart) → part_named (raised_all name) ≡ Some part → is_free rule names part ≡ false → IsBadAt (Fits rule names) text (name_place rule names text)
    bad_not_free part known not_free = bad_by_name (λ free. by_kind free)
      where
        by_kind : IsFreeName rule names name → ⊥
        by_kind free =
            elim free.kind [
              | inl its ↦ (let same = same_Some its.0 part (sym its.1 ∙ known) in
                  let is = named_is (raised_all name) part known in
                  let fresh : not (is_some (value_at names (name_of part))) ≡ true = ap (λ t. not (is_some (value_at names t))) (sym is) ∙ ap not free.fresh in
                  let taken : takes rule part ≡ true = ap (takes rule) (sym same) ∙ its.2 in
                  false≢true (sym not_free ∙ (λ i. taken i && fresh i)))
              | inr own ↦ none-some part (sym (own_unknown name own) ∙ known)
            ]

    pub bad_not_own : part_named (raised_all name) ≡ None → is_own name ≡ false → IsBadAt (Fits rule names) text (name_place rule names text)
    bad_not_own unknown other = bad_by_name (λ free. elim free.kind [ inl its ↦ none-some its.0 (sym unknown ∙ its.1) | inr own ↦ false≢true (sym other ∙ true-is_own name own) ])

    pub bad_used : is_some (value_at names (raised_all name)) ≡ true → IsBadAt (Fits rule names) text (name_place rule names text)
    bad_used used = bad_by_name (λ free. false≢true (sym free.fresh ∙ used))

    reads : is_name name ≡ true → part_of text ≡ Some (raised_all name, value)
    reads named = ap (option_and_then if_named) cuts ∙ ap (λ b. if b then Some (raised_all name, value) else None) named

    pub own_taken : (more : Named Bool) → is_own name ≡ true → is_some (value_at names (raised_all name)) ≡ false → more ≡ with_value names (raised_all name) true → HasTaken rule names text rule more
    own_taken more own fresh kept =
        let is = is_own-true name own in
        record { part = (raised_all name, value); fits = record { reads = reads (own_named name is); fresh = fresh; made = rule; puts = own_says_nothing name value rule is; allowed = allowed }; made = refl; named = kept }

    module _ (part : RulePart) (known : part_named (raised_all name) ≡ Some part) (free : is_free rule names part ≡ true) where
      its_name : raised_all name ≡ name_of part
      its_name = named_is (raised_all name) part known

      named_so : is_name name ≡ true
      named_so = name_raised name (ap is_name its_name ∙ (names_are part).2)

      taken : takes rule part ≡ true
      taken = (and_parts (takes rule part) (not (is_some (value_at names (name_of part)))) free).0

      new_name : is_some (value_at names (raised_all name)) ≡ false
      new_name = ap (λ t. is_some (value_at names t)) its_name ∙ not_true (is_some (value_at names (name_of part))) (and_parts (takes rule part) (not (is_some (value_at names (name_of part)))) free).1

      -- a part of this name with another value
      part_fits : (other : List ℕ) (whole : List ℕ) → part_of whole ≡ Some (raised_all name, other) → IsIn (Reads (value_beside rule part)) other → IsIn (Fits rule names) whole
      part_fits other whole is said =
          let v = said.0 in
          let stands = value_stands part rule other v allowed taken said.1 in
          ((raised_all name, other), record { reads = is; fresh = new_name; made = put v rule; puts = ap (λ o. put_named o (raised_all name, other) rule) known ∙ ap (option_map (λ v. put v rule)) stands.0; allowed = stands.1 })

      pub value_taken : (v : PartValue) (later : Rule) (more : Named Bool) → value_beside rule part value ≡ Some v → later ≡ put v rule → more ≡ with_value names (name_of part) true → HasTaken rule names text later more
      value_taken v later more said put_in kept =
          let stands = value_stands part rule value v allowed taken said in
          record {
            part = (raised_all name, value);
            fits = record { reads = reads named_so; fresh = new_name; made = put v rule; puts = ap (λ o. put_named o (raised_all name, value) rule) known ∙ ap (option_map (λ v. put v rule)) stands.0; allowed = stands.1 };
            made = put_in;
            named = kept ∙ ap (λ n. with_value names n true) (sym its_name);
          }

      pub value_bad : (place : ℕ) → IsBadAt (Reads (value_beside rule part)) value place → IsBadAt (Fits rule names) text (length text - length value + place)
      value_bad place bad =
          let front = name ++ (61 ∷ []) in
          let whole : text ≡ front ++ value = cut-some 61 text (name, value) cuts ∙ sym (append_assoc name (61 ∷ []) value) in
          let found = bad_behind_fixed (Fits rule names) (Reads (value_beside rule part)) front to back value place bad in
          let there : length front + place ≡ length text - length value + place = omega (arith, ap length whole, length-append front value) in
          subst (IsBadAt (Fits rule names) text) there (subst (λ (t : List ℕ). IsBadAt (Fits rule names) t (length front + place)) (sym whole) found)
        where
          reads_other : (other : List ℕ) → part_of ((name ++ (61 ∷ [])) ++ other) ≡ Some (raised_all name, other)
          reads_other other = ap part_of (append_assoc name (61 ∷ []) other) ∙ part_of-named name other named_so

          to : (other : List ℕ) → IsIn (Fits rule names) ((name ++ (61 ∷ [])) ++ other) → IsIn (Reads (value_beside rule part)) other
          to other is =
              let f = is.1 in
              let same = same_Some (raised_all name, other) is.0 (sym (reads_other other) ∙ f.reads) in
              let puts : put_part (raised_all name, other) rule ≡ Some f.made = ap (λ p. put_part p rule) same ∙ f.puts in
              let v = option_map_some (λ v. put v rule) (value_of part other) f.made (sym (ap (λ o. put_named o (raised_all name, other) rule) known) ∙ puts) in
              (v.0, stands_read part rule other v.0 v.1 (ap is_allowed v.2 ∙ f.allowed))

          back : (other : List ℕ) → IsIn (Reads (value_beside rule part)) other → IsIn (Fits rule names) ((name ++ (61 ∷ [])) ++ other)
          back other is = part_fits other ((name ++ (61 ∷ [])) ++ other) (reads_other other) is
