-- The index of UIDs follows the objects: when one is put, when that fails for want of memory, and when one is taken out.
use Rattle.std.proofs.Common.{◌≡◌, ◌≢◌, ℕ, List, Option, Some, None, sym, ap, ◌∙◌, subst, inl, inr}
use Rattle.std.proofs.lemmas.Cmp.{nat_list_cmp_total}
use Rattle.cal_base.specs.Lists.NameMap.{Named, IsInOrder, value_at, with_value, without}
use Rattle.cal_model.specs.declared.stored.Stored.{Stored}
use Rattle.cal_model.proofs.State.OrderLaws.{sorted-insert, sorted-remove}
use Rattle.object_walk.specs.declared.entry.ObjectEntry.{ObjectEntry}
use Rattle.collections.specs.Objects.{IsIndexed, IsAlone}
use Rattle.collections.proofs.NamedLemmas.{same_or_not, value_at_with_same, value_at_with_other, value_at_without_same, value_at_without_other}

some≢none : {X : Type 0} (x : X) → Some x ≡ None → ⊥
some≢none x e = absurd cc

same_value : {X : Type 0} (o : Option X) (x y : X) → o ≡ Some x → o ≡ Some y → x ≡ y
same_value o x y a b = cc

module _ (by_name : Named ObjectEntry) (by_uid : Named Stored) (indexed : IsIndexed by_name by_uid) where
  -- an object that is put
  module _ (stored : Stored) (origin : ℕ) (alone : IsAlone by_name stored) where
    abbrev name : List ℕ
    name = stored.path.object

    abbrev uid : List ℕ
    uid = stored.object.uid

    abbrev entry : ObjectEntry
    entry = record { stored = stored; origin = origin }

    named_put : (n : List ℕ) (e : ObjectEntry) → value_at (with_value by_name name entry) n ≡ Some e → e.stored.path.object ≡ n
    named_put n e at = elim (same_or_not n name) [
      | inl same ↦ ap (λ (o : ObjectEntry). o.stored.path.object) (same_value _ e entry (subst (λ m. value_at (with_value by_name name entry) m ≡ Some e) same at) (value_at_with_same by_name name entry)) ∙ sym same
      | inr other ↦ indexed.named n e (sym (value_at_with_other by_name name entry n other) ∙ at)
    ]

    found_put : (n : List ℕ) (e : ObjectEntry) → value_at (with_value by_name name entry) n ≡ Some e → value_at (with_value by_uid uid stored) e.stored.object.uid ≡ Some e.stored
    found_put n e at = elim (same_or_not n name) [
      | inl same ↦
          let here : e ≡ entry = same_value _ e entry (subst (λ m. value_at (with_value by_name name entry) m ≡ Some e) same at) (value_at_with_same by_name name entry) in
          subst (λ (o : ObjectEntry). value_at (with_value by_uid uid stored) o.stored.object.uid ≡ Some o.stored) (sym here) (value_at_with_same by_uid uid stored)
      | inr other ↦
          let before : value_at by_name n ≡ Some e = sym (value_at_with_other by_name name entry n other) ∙ at in
          value_at_with_other by_uid uid stored e.stored.object.uid (λ same. other (alone.others n e before same)) ∙ indexed.found n e before
    ]

    known_put : (u : List ℕ) (s : Stored) → value_at (with_value by_uid uid stored) u ≡ Some s
        → (s.object.uid ≡ u) × (o : ℕ) × (value_at (with_value by_name name entry) s.path.object ≡ Some (record { stored = s; origin = o }))
    known_put u s at = elim (same_or_not u uid) [
      | inl same ↦
          let here : stored ≡ s = same_value _ stored s (value_at_with_same by_uid uid stored) (subst (λ v. value_at (with_value by_uid uid stored) v ≡ Some s) same at) in
          subst (λ (t : Stored). (t.object.uid ≡ u) × (o : ℕ) × (value_at (with_value by_name name entry) t.path.object ≡ Some (record { stored = t; origin = o }))) here
          (sym same, origin, value_at_with_same by_name name entry)
      | inr other ↦
          let before : value_at by_uid u ≡ Some s = sym (value_at_with_other by_uid uid stored u other) ∙ at in
          let old = indexed.known u s before in
          let apart : s.path.object ≢ name = λ same. other (sym old.0 ∙ alone.own (record { stored = s; origin = old.1 }) (subst (λ n. value_at by_name n ≡ Some (record { stored = s; origin = old.1 })) same old.2)) in
          (old.0, old.1, value_at_with_other by_name name entry s.path.object apart ∙ old.2)
    ]

    pub IsIndexed-put : IsIndexed (with_value by_name name entry) (with_value by_uid uid stored)
    IsIndexed-put = record {
      names_in_order = sorted-insert nat_list_cmp_total by_name name entry indexed.names_in_order;
      uids_in_order = sorted-insert nat_list_cmp_total by_uid uid stored indexed.uids_in_order;
      named = named_put;
      found = found_put;
      known = known_put;
    }

    -- where there was no memory for a new name, the UID was new too, and its entry is taken back
    fresh_uid : value_at by_name name ≡ None → (s : Stored) → value_at by_uid uid ≡ Some s → ⊥
    fresh_uid absent s at =
        let old = indexed.known uid s at in
        let here : s.path.object ≡ name = alone.others s.path.object (record { stored = s; origin = old.1 }) old.2 old.0 in
        some≢none _ (sym (subst (λ n. value_at by_name n ≡ Some (record { stored = s; origin = old.1 })) here old.2) ∙ absent)

    abbrev back : Named Stored
    back = without (with_value by_uid uid stored) uid

    in_order_put : IsInOrder (with_value by_uid uid stored)
    in_order_put = sorted-insert nat_list_cmp_total by_uid uid stored indexed.uids_in_order

    back_other : (u : List ℕ) → u ≢ uid → value_at back u ≡ value_at by_uid u
    back_other u other = value_at_without_other (with_value by_uid uid stored) uid u in_order_put other ∙ value_at_with_other by_uid uid stored u other

    pub IsIndexed-put_back : value_at by_name name ≡ None → IsIndexed by_name back
    IsIndexed-put_back absent = record {
      names_in_order = indexed.names_in_order;
      uids_in_order = sorted-remove nat_list_cmp_total _ (with_value by_uid uid stored) in_order_put;
      named = indexed.named;
      found = λ n e at. back_other e.stored.object.uid (λ same. fresh_uid absent e.stored (subst (λ u. value_at by_uid u ≡ Some e.stored) same (indexed.found n e at))) ∙ indexed.found n e at;
      known = λ u s at. indexed.known u s (sym (back_other u (λ same. some≢none s (sym (subst (λ v. value_at back v ≡ Some s) same at) ∙ value_at_without_same (with_value by_uid uid stored) uid in_order_put))) ∙ at);
    }

  -- an object that is taken out
  module _ (name : List ℕ) (entry : ObjectEntry) (there : value_at by_name name ≡ Some entry) where
    abbrev uid_out : List ℕ
    uid_out = entry.stored.object.uid

    left : (n : List ℕ) (e : ObjectEntry) → value_at (without by_name name) n ≡ Some e → (n ≢ name) × (value_at by_name n ≡ Some e)
    left n e at = elim (same_or_not n name) [
      | inl same ↦ absurd (some≢none e (sym (subst (λ m. value_at (without by_name name) m ≡ Some e) same at) ∙ value_at_without_same by_name name indexed.names_in_order))
      | inr other ↦ (other, sym (value_at_without_other by_name name n indexed.names_in_order other) ∙ at)
    ]

    -- another object has another UID
    apart : (n : List ℕ) (e : ObjectEntry) → n ≢ name → value_at by_name n ≡ Some e → e.stored.object.uid ≢ uid_out
    apart n e other at same =
        let one : e.stored ≡ entry.stored = same_value _ e.stored entry.stored (subst (λ u. value_at by_uid u ≡ Some e.stored) same (indexed.found n e at)) (indexed.found name entry there) in
        other (sym (indexed.named n e at) ∙ (ap (λ (s : Stored). s.path.object) one ∙ indexed.named name entry there))

    pub IsIndexed-taken : IsIndexed (without by_name name) (without by_uid uid_out)
    IsIndexed-taken = record {
      names_in_order = sorted-remove nat_list_cmp_total _ by_name indexed.names_in_order;
      uids_in_order = sorted-remove nat_list_cmp_total _ by_uid indexed.uids_in_order;
      named = λ n e at. indexed.named n e (left n e at).1;
      found = λ n e at.
          let before = left n e at in
          value_at_without_other by_uid uid_out e.stored.object.uid indexed.uids_in_order (apart n e before.0 before.1) ∙ indexed.found n e before.1;
      known = λ u s at. elim (same_or_not u uid_out) [
        | inl same ↦ absurd (some≢none s (sym (subst (λ v. value_at (without by_uid uid_out) v ≡ Some s) same at) ∙ value_at_without_same by_uid uid_out indexed.uids_in_order))
        | inr other ↦
            let old = indexed.known u s (sym (value_at_without_other by_uid uid_out u indexed.uids_in_order other) ∙ at) in
            let elsewhere : s.path.object ≢ name = λ same.
            other (sym old.0 ∙ ap (λ (e : ObjectEntry). e.stored.object.uid) (same_value _ (record { stored = s; origin = old.1 }) entry (subst (λ n. value_at by_name n ≡ Some (record { stored = s; origin = old.1 })) same old.2) there)) in
            (old.0, old.1, value_at_without_other by_name name s.path.object indexed.names_in_order elsewhere ∙ old.2)
      ];
    }

  -- where the object isn't there nothing is taken out
  pub IsIndexed-absent : (name : List ℕ) → value_at by_name name ≡ None → IsIndexed (without by_name name) by_uid
  IsIndexed-absent name absent =
      let kept : (n : List ℕ) (e : ObjectEntry) → value_at (without by_name name) n ≡ Some e → value_at by_name n ≡ Some e = λ n e at.
      elim (same_or_not n name) [
        | inl same ↦ absurd (some≢none e (sym (subst (λ m. value_at (without by_name name) m ≡ Some e) same at) ∙ value_at_without_same by_name name indexed.names_in_order))
        | inr other ↦ sym (value_at_without_other by_name name n indexed.names_in_order other) ∙ at
      ] in
      record {
        names_in_order = sorted-remove nat_list_cmp_total _ by_name indexed.names_in_order;
        uids_in_order = indexed.uids_in_order;
        named = λ n e at. indexed.named n e (kept n e at);
        found = λ n e at. indexed.found n e (kept n e at);
        known = λ u s at.
            let old = indexed.known u s at in
            let elsewhere : s.path.object ≢ name = λ same. some≢none _ (sym (subst (λ n. value_at by_name n ≡ Some (record { stored = s; origin = old.1 })) same old.2) ∙ absent) in
            (old.0, old.1, value_at_without_other by_name name s.path.object indexed.names_in_order elsewhere ∙ old.2);
      }

-- the same of maps that are these
pub IsIndexed-same : (by_name by_name' : Named ObjectEntry) (by_uid by_uid' : Named Stored) → by_name ≡ by_name' → by_uid ≡ by_uid' → IsIndexed by_name' by_uid' → IsIndexed by_name by_uid
IsIndexed-same by_name by_name' by_uid by_uid' names uids indexed = subst (λ m. IsIndexed m by_uid) (sym names) (subst (λ m. IsIndexed by_name' m) (sym uids) indexed)
