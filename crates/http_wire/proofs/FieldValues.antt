-- The map of a head's fields: how it grows field by field, and which values stand in it under a name.
use Rattle.std.proofs.Common.{◌≡◌, ℕ, ◌+◌, ◌<◌, ◌≤◌, List, [], ◌∷◌, ◌++◌, All, map, take, length, length-append, get_or, bytes_eq, refl, sym, ap, subst, ◌∙◌, inl, inr, arith, append_assoc, append-nil}
use Rattle.std.proofs.lemmas.Bool.{cases_Bool}
use Rattle.std.proofs.lemmas.Slice.Eq.{bytes_eq-Decides}
use Rattle.std.proofs.lemmas.List.{take_more, map-append, get_or-map}
use Rattle.std.proofs.lemmas.List.Sums.{fold-append, sum_by-cons}
use Rattle.std.proofs.lemmas.List.Elements.{All-get_or}
use Rattle.std.proofs.Math.ListN.{length-map}
use Rattle.httparse.specs.declared.spans.HeaderSpan.{HeaderSpan}
use Rattle.httparse.specs.Spans.{header_bytes}
use Rattle.http_header.specs.Token.{lowercase}
use Rattle.http_header.specs.FieldValue.{FieldValue, plain_value}
use Rattle.http_header.specs.HeaderMap.{Entry, Entries, append, append_all, get_all, value_count}
use Rattle.http_header.proofs.HeaderMapLemmas.{get_all-append_same, get_all-append_other}
use Rattle.http_wire.specs.declared.fields.Fields.{Fields}
use Rattle.http_wire.specs.FieldMaps.{RawField, IsRawField, map_item, fields_map}
use Rattle.http_wire.specs.FieldTexts.{values_named, values_of}

pub field_at : (block : List ℕ) (headers : List HeaderSpan) (i : ℕ) (d : HeaderSpan) → i < length headers → All IsRawField (map (header_bytes block) headers) → IsRawField (header_bytes block (get_or headers i d))
field_at block headers i d within all =
    let there : i < length (map (header_bytes block) headers) = rw length-map within in
    subst IsRawField (get_or-map (header_bytes block) headers i d (header_bytes block d) within)
    (All-get_or IsRawField (map (header_bytes block) headers) i (header_bytes block d) there all)

pub map_more : (block : List ℕ) (headers : List HeaderSpan) (i : ℕ) (d : HeaderSpan) → i < length headers → fields_map (map (header_bytes block) (take (i + 1) headers)) ≡ append (fields_map (map (header_bytes block) (take i headers))) (lowercase (header_bytes block (get_or headers i d)).0) (plain_value (header_bytes block (get_or headers i d)).1)
map_more block headers i d within =
    simp (take_more headers i d within, map-append, fold-append)

pub length-append_le : (m : Entries FieldValue) (name : List ℕ) (v : FieldValue) → length (append m name v) ≤ length m + 1
length-append_le [] name v = omega arith
length-append_le (e ∷ m) name v =
    elim (cases_Bool (bytes_eq e.0 name)) [
      | inl t ↦ rw t (omega arith)
      | inr n ↦ rw n (omega (arith, length-append_le m name v))
    ]

pub value_count-append : (m : Entries FieldValue) (name : List ℕ) (v : FieldValue) → value_count (append m name v) ≡ value_count m + 1
value_count-append [] name v = refl
value_count-append (e ∷ m) name v =
    elim (cases_Bool (bytes_eq e.0 name)) [
      | inl t ↦ rw t (omega (arith, length-append e.1 (v ∷ []), sum_by-cons (λ (e : Entry FieldValue). length e.1) (e.0, e.1 ++ v ∷ []) m, sum_by-cons (λ (e : Entry FieldValue). length e.1) e m))
      | inr n ↦ rw n (omega (arith, value_count-append m name v, sum_by-cons (λ (e : Entry FieldValue). length e.1) e (append m name v), sum_by-cons (λ (e : Entry FieldValue). length e.1) e m))
    ]

pub append_same : (m k : Entries FieldValue) (a b : List ℕ) (v w : FieldValue) → m ≡ k → a ≡ b → v ≡ w → append m a v ≡ append k b w
append_same m k a b v w x y z = rw (x, y, z) refl

get_all_more : (m : Entries FieldValue) (fields : List RawField) (name : List ℕ) → get_all (append_all m (map map_item fields)) (lowercase name) ≡ get_all m (lowercase name) ++ map plain_value (values_named name fields)
get_all_more m [] name = sym (append-nil (get_all m (lowercase name)))
get_all_more m (f ∷ fields) name =
    let item = append m (lowercase f.0) (plain_value f.1) in
    let rest : get_all (append_all item (map map_item fields)) (lowercase name) ≡ get_all item (lowercase name) ++ map plain_value (values_named name fields) = get_all_more item fields name in
    elim (cases_Bool (bytes_eq (lowercase f.0) (lowercase name))) [
      | inl t ↦
          let same : lowercase f.0 ≡ lowercase name = (bytes_eq-Decides (lowercase f.0) (lowercase name)).0 t in
          let added : get_all item (lowercase name) ≡ get_all m (lowercase name) ++ plain_value f.1 ∷ [] = rw (← same) (get_all-append_same m (lowercase f.0) (plain_value f.1)) in
          rw t (rest ∙ ap (λ xs. xs ++ map plain_value (values_named name fields)) added ∙ append_assoc (get_all m (lowercase name)) (plain_value f.1 ∷ []) (map plain_value (values_named name fields)))
      | inr n ↦
          let kept : get_all item (lowercase name) ≡ get_all m (lowercase name) = get_all-append_other m (lowercase f.0) (lowercase name) (plain_value f.1) (λ e. let yes = (bytes_eq-Decides (lowercase f.0) (lowercase name)).1 e in cc) in
          rw n (rest ∙ ap (λ xs. xs ++ map plain_value (values_named name fields)) kept)
    ]

bytes_of_plain : (texts : List (List ℕ)) → map (λ (value : FieldValue). value.bytes) (map plain_value texts) ≡ texts
bytes_of_plain [] = refl
bytes_of_plain (text ∷ texts) = ap (λ rest. text ∷ rest) (bytes_of_plain texts)

-- the values under a name are those of its fields, in order
pub values_of-map : (name : List ℕ) (fields : Fields) (pairs : List RawField) → fields.by_name ≡ fields_map pairs → values_of name fields ≡ values_named name pairs
values_of-map name fields pairs e =
    ap (λ m. map (λ (value : FieldValue). value.bytes) (get_all m (lowercase name))) e ∙ ap (map (λ (value : FieldValue). value.bytes)) (get_all_more [] pairs name) ∙ bytes_of_plain (values_named name pairs)
