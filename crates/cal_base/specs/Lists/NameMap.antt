-- A map from octet strings to values, as the list of its pairs in rising order of the names.
use Rattle.std.specs.Prelude.{ℕ, List, Option, filter, slice_get}
use Rattle.std.specs.declared.cmp.Ordering.{Ordering}
use Rattle.std.specs.Ordering.{nat_cmp, is_lt}
use Rattle.std.specs.Cmp.Lexicographic.{slice_cmp}
use Rattle.std.specs.List.Sorted.{IsStrictlySortedBy}
use Rattle.std.specs.Map.{lookup, remove_entry, set_value, keys_of}
use Rattle.std.specs.BTreeMap.{insert_entry, is_at}

-- pairs of a name and a value
abbrev pub Named : Type 0 → Type 0
Named V = List (List ℕ × V)

-- names are ordered as words in a dictionary: the first octet that differs decides, and a beginning comes before the whole
abbrev pub name_order : List ℕ → List ℕ → Ordering
name_order = slice_cmp nat_cmp

-- the names rise
abbrev pub IsInOrder : {V : Type 0} → Named V → Type 0
IsInOrder named = IsStrictlySortedBy name_order (keys_of named)

-- the value at a name, if it is there
abbrev pub value_at : {V : Type 0} → Named V → List ℕ → Option V
value_at named name = lookup (is_at (name_order name)) named

-- with a value at a name: in the place of the old one, or else as a new pair where the order wants it
abbrev pub with_value : {V : Type 0} → Named V → List ℕ → V → Named V
with_value named name value = insert_entry name_order named name value

-- with another value at a name that is there
abbrev pub with_changed : {V : Type 0} → Named V → List ℕ → V → Named V
with_changed named name value = set_value (is_at (name_order name)) named value

-- without the pair of a name
abbrev pub without : {V : Type 0} → Named V → List ℕ → Named V
without named name = remove_entry (is_at (name_order name)) named

-- the pairs whose names are above a name
abbrev pub above : {V : Type 0} → Named V → List ℕ → Named V
above named name = filter (λ pair. is_lt (name_order name pair.0)) named

-- the pair with the least name above a name
abbrev pub next_above : {V : Type 0} → Named V → List ℕ → Option (List ℕ × V)
next_above named name = slice_get (above named name) 0
