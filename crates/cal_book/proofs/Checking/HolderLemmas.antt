-- Which object conflicts with one that is put (RFC 4791, 5.3.2.1), by the one that has its UID.
use Rattle.std.proofs.Common.{◌≡◌, ℕ, Bool, true, false, not, ◌&&◌, if◌then◌else◌, List, Option, Some, None, refl, sym, ap, ◌∙◌, subst}
use Rattle.std.specs.Prelude.{bytes_eq, filter, is_some, option_map}
use Rattle.std.proofs.lemmas.Bool.{false≢true, and_from, not-true}
use Rattle.std.proofs.lemmas.Slice.Eq.{bytes_eq-Decides}
use Rattle.cal_base.proofs.Xml.XmlNameLemmas.{both_true}
use Rattle.cal_base.specs.Lines.ComponentTrees.{first, or_else}
use Rattle.cal_base.specs.Lists.NameMap.{Named, IsInOrder, value_at}
use Rattle.cal_model.specs.Refusals.Preconditions.{has_uid, uid_of}
use Rattle.collections.specs.UidHolders.{with_uid, IsAloneWith}
use Rattle.collections.proofs.NamedLemmas.{bytes_same, FirstPassing, none, some, first_passing}
use Rattle.cal_book.specs.Checking.Rows.{holder_name}

abbrev name_in : Option (List ℕ × List ℕ) → Option (List ℕ)
name_in o = option_map (λ (entry : List ℕ × List ℕ). entry.0) o

name_or_else : (a b : Option (List ℕ × List ℕ)) → name_in (or_else a b) ≡ or_else (name_in a) (name_in b)
name_or_else None b = refl
name_or_else (Some x) b = refl

or_else_by : (a b c d : Option (List ℕ)) → a ≡ c → b ≡ d → or_else a b ≡ or_else c d
or_else_by a b c d e e' = λ i. or_else (e i) (e' i)

module _ (objects : Named (List ℕ)) (in_order : IsInOrder objects) (name uid octets : List ℕ) (own : uid_of octets ≡ Some uid) where
  abbrev has : List ℕ × List ℕ → Bool
  has entry = has_uid (Some uid) entry.1

  abbrev is_other : List ℕ × List ℕ → Bool
  is_other entry = not (bytes_eq entry.0 name) && has_uid (Some uid) entry.1

  abbrev is_changed : List ℕ × List ℕ → Bool
  is_changed entry = bytes_eq entry.0 name && not (has_uid (Some uid) entry.1)

  -- another object with the UID, and the one of the name with another UID
  abbrev other_name : Option (List ℕ)
  other_name = name_in (first (filter is_other objects))

  abbrev changed_name : Option (List ℕ)
  changed_name = name_in (first (filter is_changed objects))

  holder_parts : holder_name objects name octets ≡ or_else other_name changed_name
  holder_parts =
      ap (λ u. name_in (or_else (first (filter (λ (entry : List ℕ × List ℕ). not (bytes_eq entry.0 name) && has_uid u entry.1) objects)) (first (filter (λ (entry : List ℕ × List ℕ). bytes_eq entry.0 name && not (has_uid u entry.1)) objects)))) own
      ∙ name_or_else (first (filter is_other objects)) (first (filter is_changed objects))

  named_so : (entry : List ℕ × List ℕ) → bytes_eq entry.0 name ≡ true → entry.0 ≡ name
  named_so entry e = (bytes_eq-Decides entry.0 name).0 e

  module _ (alone : IsAloneWith objects uid) (found : List ℕ × List ℕ) (at : value_at objects found.0 ≡ Some found.1) (passes : has found ≡ true) where
    -- the object with the UID has another name
    other_found : bytes_eq found.0 name ≡ false → FirstPassing objects is_other → other_name ≡ Some found.0
    other_found differs (none nothing all) = absurd (false≢true (sym (all found.0 found.1 at) ∙ and_from (not (bytes_eq found.0 name)) (has found) (ap not differs) passes))
    other_found differs (some entry first_is there fits) = ap name_in first_is ∙ ap Some (alone entry.0 found.0 entry.1 found.1 there at (both_true _ _ fits).1 passes)

    -- it has this name: then there is no other, and it has no other UID
    no_other : bytes_eq found.0 name ≡ true → FirstPassing objects is_other → other_name ≡ None
    no_other same (none nothing all) = ap name_in nothing
    no_other same (some entry first_is there fits) =
        let is : entry.0 ≡ found.0 = alone entry.0 found.0 entry.1 found.1 there at (both_true _ _ fits).1 passes in
        absurd (false≢true (sym (not-true _ (both_true _ _ fits).0) ∙ (ap (λ n. bytes_eq n name) is ∙ same)))

    not_changed : bytes_eq found.0 name ≡ true → FirstPassing objects is_changed → changed_name ≡ None
    not_changed same (none nothing all) = ap name_in nothing
    not_changed same (some entry first_is there fits) =
        let is : entry.0 ≡ found.0 = named_so entry (both_true _ _ fits).0 ∙ sym (named_so found same) in
        let octets_are : Some entry.1 ≡ Some found.1 = sym there ∙ (ap (value_at objects) is ∙ at) in
        let same_octets : entry.1 ≡ found.1 = cc in
        absurd (false≢true (sym (not-true _ (both_true _ _ fits).1) ∙ (ap (has_uid (Some uid)) same_octets ∙ passes)))

    holder_found : holder_name objects name octets ≡ (if bytes_eq found.0 name then None else Some found.0)
    holder_found = by (bytes_eq found.0 name) refl where
      by : (b : Bool) → bytes_eq found.0 name ≡ b → holder_name objects name octets ≡ (if b then None else Some found.0)
      by true same = holder_parts ∙ or_else_by other_name changed_name None None (no_other same (first_passing objects is_other in_order)) (not_changed same (first_passing objects is_changed in_order))
      by false differs = holder_parts ∙ ap (λ o. or_else o changed_name) (other_found differs (first_passing objects is_other in_order))

  module _ (nobody : with_uid objects uid ≡ None) where
    fails : FirstPassing objects has → (entry : List ℕ × List ℕ) → value_at objects entry.0 ≡ Some entry.1 → has entry ≡ false
    fails (none nothing all) entry at = all entry.0 entry.1 at
    fails (some found first_is there fits) entry at = let gone : Some found ≡ None = sym first_is ∙ nobody in absurd cc

    nobody_else : FirstPassing objects is_other → other_name ≡ None
    nobody_else (none nothing all) = ap name_in nothing
    nobody_else (some entry first_is there fits) = absurd (false≢true (sym (fails (first_passing objects has in_order) entry there) ∙ (both_true _ _ fits).1))

    changed_there : (o : Option (List ℕ)) → value_at objects name ≡ o → FirstPassing objects is_changed → changed_name ≡ (if is_some o then Some name else None)
    changed_there (Some here) at (none nothing all) =
        absurd (false≢true (sym (all name here at) ∙ and_from (bytes_eq name name) (not (has (name, here))) (bytes_same name) (ap not (fails (first_passing objects has in_order) (name, here) at))))
    changed_there (Some here) at (some entry first_is there fits) = ap name_in first_is ∙ ap Some (named_so entry (both_true _ _ fits).0)
    changed_there None at (none nothing all) = ap name_in nothing
    changed_there None at (some entry first_is there fits) =
        let gone : Some entry.1 ≡ None = sym there ∙ (ap (value_at objects) (named_so entry (both_true _ _ fits).0) ∙ at) in absurd cc

    pub holder_none : holder_name objects name octets ≡ (if is_some (value_at objects name) then Some name else None)
    holder_none = holder_parts ∙ or_else_by other_name changed_name None _ (nobody_else (first_passing objects is_other in_order)) (changed_there (value_at objects name) refl (first_passing objects is_changed in_order))

  first_found : (found : List ℕ × List ℕ) → with_uid objects uid ≡ Some found → FirstPassing objects has → (value_at objects found.0 ≡ Some found.1) × (has found ≡ true)
  first_found found is (none nothing all) = let gone : Some found ≡ None = sym is ∙ nothing in absurd cc
  first_found found is (some entry first_is at fits) =
      let both_are : Some entry ≡ Some found = sym first_is ∙ is in
      let same : entry ≡ found = cc in
      (subst (λ (e : List ℕ × List ℕ). value_at objects e.0 ≡ Some e.1) same at, subst (λ (e : List ℕ × List ℕ). has e ≡ true) same fits)

  pub holder_some : (found : List ℕ × List ℕ) → with_uid objects uid ≡ Some found → IsAloneWith objects uid → holder_name objects name octets ≡ (if bytes_eq found.0 name then None else Some found.0)
  holder_some found is alone =
      let at = first_found found is (first_passing objects has in_order) in
      holder_found alone found at.0 at.1
