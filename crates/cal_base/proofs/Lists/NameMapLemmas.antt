-- A map whose keys stand for names is seen as the list of its pairs with the names in place of the keys.
use Rattle.std.proofs.Common.{◌≡◌, ℕ, refl, sym, ap, ◌∙◌, inl, inr, List, [], ◌∷◌, map, filter, Bool, true, false, cond, Some, None}
use Rattle.std.specs.declared.cmp.Ordering.{Ordering}
use Rattle.std.specs.declared.cmp.Ordering.TheVariants.{Less, Equal, Greater}
use Rattle.std.specs.Ordering.{match_ordering, is_lt, is_eq}
use Rattle.std.specs.Str.{bytes_eq}
use Rattle.std.proofs.lemmas.Bool.{cases_Bool}
use Rattle.std.proofs.lemmas.Map.Text.{is_eq-slice_cmp}
use Rattle.std.proofs.lemmas.Slice.Eq.{bytes_eq-Decides}
use Rattle.std.specs.Option.{option_map}
use Rattle.std.specs.List.{slice_get, AllByRecursion}
use Rattle.std.specs.List.Sorted.{IsStrictlySortedBy}
use Rattle.std.proofs.lemmas.Option.{slice_get-map}
use Rattle.std.proofs.lemmas.Cmp.{nat_list_cmp_total}
use Rattle.std.specs.Map.{lookup, remove_entry, set_value, keys_of}
use Rattle.std.specs.BTreeMap.{insert_entry, is_at}
use Rattle.cal_base.specs.Lists.NameMap.{Named, name_order, IsInOrder, value_at, with_value, with_changed, without, above, next_above}

module _ {X Y : Type 0} (g : X → Y) where
  -- a function of one of three lists
  map-match_ordering : (o : Ordering) (a b c : List X) → map g (match_ordering o a b c) ≡ match_ordering o (map g a) (map g b) (map g c)
  map-match_ordering Less a b c = refl
  map-match_ordering Equal a b c = refl
  map-match_ordering Greater a b c = refl

  -- a function of one of two lists
  map-cond : (b : Bool) (xs ys : List X) → map g (cond b xs ys) ≡ cond b (map g xs) (map g ys)
  map-cond true xs ys = refl
  map-cond false xs ys = refl

module _ {K V : Type 0} (octets : K → List ℕ) where
  -- a pair with the name in place of the key
  abbrev pub shown : K × V → List ℕ × V
  shown pair = (octets pair.0, pair.1)

  pub value_at-shown : (pairs : List (K × V)) (name : List ℕ) → value_at (map shown pairs) name ≡ lookup (is_at (λ key. name_order name (octets key))) pairs
  value_at-shown [] name = refl
  value_at-shown (pair ∷ pairs) name = ap (cond (is_at (name_order name) (octets pair.0)) (Some pair.1)) (value_at-shown pairs name)

  pub with_value-shown : (pairs : List (K × V)) (key : K) (value : V) → map shown (insert_entry (λ a b. name_order (octets a) (octets b)) pairs key value) ≡ with_value (map shown pairs) (octets key) value
  with_value-shown [] key value = refl
  with_value-shown (pair ∷ pairs) key value =
      let order = name_order (octets key) (octets pair.0) in
      map-match_ordering shown order ((key, value) ∷ pair ∷ pairs) ((pair.0, value) ∷ pairs) (pair ∷ insert_entry (λ a b. name_order (octets a) (octets b)) pairs key value)
      ∙ ap (λ rest. match_ordering order (shown (key, value) ∷ shown pair ∷ map shown pairs) (shown (pair.0, value) ∷ map shown pairs) (shown pair ∷ rest)) (with_value-shown pairs key value)

  pub with_changed-shown : (pairs : List (K × V)) (name : List ℕ) (value : V) → map shown (set_value (is_at (λ key. name_order name (octets key))) pairs value) ≡ with_changed (map shown pairs) name value
  with_changed-shown [] name value = refl
  with_changed-shown (pair ∷ pairs) name value =
      let here = is_at (name_order name) (octets pair.0) in
      map-cond shown here ((pair.0, value) ∷ pairs) (pair ∷ set_value (is_at (λ key. name_order name (octets key))) pairs value)
      ∙ ap (λ rest. cond here (shown (pair.0, value) ∷ map shown pairs) (shown pair ∷ rest)) (with_changed-shown pairs name value)

  pub without-shown : (pairs : List (K × V)) (name : List ℕ) → map shown (remove_entry (is_at (λ key. name_order name (octets key))) pairs) ≡ without (map shown pairs) name
  without-shown [] name = refl
  without-shown (pair ∷ pairs) name =
      let here = is_at (name_order name) (octets pair.0) in
      map-cond shown here pairs (pair ∷ remove_entry (is_at (λ key. name_order name (octets key))) pairs)
      ∙ ap (λ rest. cond here (map shown pairs) (shown pair ∷ rest)) (without-shown pairs name)

  -- the entries above a name, where the entries are seen by their keys
  abbrev pub entries_above : List (K × V) → List ℕ → List (K × V)
  entries_above pairs name = filter (λ pair. is_lt (name_order name (octets pair.0))) pairs

  above-shown : (pairs : List (K × V)) (name : List ℕ) → above (map shown pairs) name ≡ map shown (entries_above pairs name)
  above-shown [] name = refl
  above-shown (pair ∷ pairs) name =
      let here = is_lt (name_order name (octets pair.0)) in
      ap (λ rest. cond here (shown pair ∷ rest) rest) (above-shown pairs name)
      ∙ sym (map-cond shown here (pair ∷ entries_above pairs name) (entries_above pairs name))

  pub next_above-shown : (pairs : List (K × V)) (name : List ℕ) → next_above (map shown pairs) name ≡ option_map shown (slice_get (entries_above pairs name) 0)
  next_above-shown pairs name =
      ap (λ rest. slice_get rest 0) (above-shown pairs name) ∙ slice_get-map shown (entries_above pairs name) 0

  -- two names that compare equal have the same entries above them
  pub entries_above-same : (pairs : List (K × V)) (name other : List ℕ) → name_order name other ≡ Equal → entries_above pairs other ≡ entries_above pairs name
  entries_above-same [] name other equal = refl
  entries_above-same (pair ∷ pairs) name other equal =
      ap (λ order. cond (is_lt order) (pair ∷ entries_above pairs other) (entries_above pairs other)) (sym (nat_list_cmp_total.congr name other (octets pair.0) equal))
      ∙ ap (λ rest. cond (is_lt (name_order name (octets pair.0))) (pair ∷ rest) rest) (entries_above-same pairs name other equal)

  all_behind-shown : (name : List ℕ) (pairs : List (K × V)) → AllByRecursion (λ key. name_order name (octets key) ≡ Less) (keys_of pairs) → AllByRecursion (λ other. name_order name other ≡ Less) (keys_of (map shown pairs))
  all_behind-shown name [] all = tt
  all_behind-shown name (pair ∷ pairs) all = (all.0, all_behind-shown name pairs all.1)

  pub IsInOrder-shown : (pairs : List (K × V)) → IsStrictlySortedBy (λ a b. name_order (octets a) (octets b)) (keys_of pairs) → IsInOrder (map shown pairs)
  unfolding IsStrictlySortedBy
  IsInOrder-shown [] sorted = tt
  IsInOrder-shown (pair ∷ pairs) sorted = (all_behind-shown (octets pair.0) pairs sorted.0, IsInOrder-shown pairs sorted.1)

-- What a map has at a name behind a write

text_is : (one other : List ℕ) → bytes_eq one other ≡ true → one ≡ other
text_is one other same = (bytes_eq-Decides one other).0 same

module _ {V : Type 0} (key : List ℕ) (value : V) (name : List ℕ) where
  behind_entry : (entry : List ℕ × V) (entries : Named V) (order : Ordering) → name_order key entry.0 ≡ order
      → value_at (with_value entries key value) name ≡ cond (bytes_eq name key) (Some value) (value_at entries name)
      → value_at (match_ordering order ((key, value) ∷ entry ∷ entries) ((entry.0, value) ∷ entries) (entry ∷ with_value entries key value)) name ≡ cond (bytes_eq name key) (Some value) (value_at (entry ∷ entries) name)
  behind_entry entry entries Less is later = ap (λ b. cond b (Some value) (value_at (entry ∷ entries) name)) (is_eq-slice_cmp name key)
  behind_entry entry entries Equal is later =
      let same : key ≡ entry.0 = text_is key entry.0 (sym (is_eq-slice_cmp key entry.0) ∙ ap is_eq is) in
      let here : is_at (name_order name) entry.0 ≡ bytes_eq name key = is_eq-slice_cmp name entry.0 ∙ ap (bytes_eq name) (sym same) in
      rw here (elim (bytes_eq name key) as (λ b. cond b (Some value) (value_at entries name) ≡ cond b (Some value) (cond b (Some entry.1) (value_at entries name))) [ true ↦ refl | false ↦ refl ])
  behind_entry entry entries Greater is later =
      let here : is_at (name_order name) entry.0 ≡ bytes_eq name entry.0 = is_eq-slice_cmp name entry.0 in
      let apart : bytes_eq key entry.0 ≡ false = sym (is_eq-slice_cmp key entry.0) ∙ ap is_eq is in
      elim (cases_Bool (bytes_eq name key)) [
        | inl same ↦
            let other : bytes_eq name entry.0 ≡ false = ap (λ n. bytes_eq n entry.0) (text_is name key same) ∙ apart in
            rw (here, later, other, same) refl
        | inr different ↦ rw (later, different) refl
      ]

  -- the value that was written, at its name, and what was there before, at any other
  pub value_at_with : (entries : Named V) → value_at (with_value entries key value) name ≡ cond (bytes_eq name key) (Some value) (value_at entries name)
  value_at_with [] = ap (λ b. cond b (Some value) None) (is_eq-slice_cmp name key)
  value_at_with (entry ∷ entries) = behind_entry entry entries (name_order key entry.0) refl (value_at_with entries)
