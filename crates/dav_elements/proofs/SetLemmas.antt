-- The privileges that the name of an element of WebDAV stands for, by comparing it with each name.
use Rattle.std.proofs.Common.{◌≡◌, ℕ, Bool, true, false, ◌&&◌, List, [], ◌∷◌, ◌++◌, map, Some, None, refl, sym, ap, ◌∙◌, ⊎_elim}
use Rattle.std.specs.Prelude.{filter, bytes_eq, codes, if◌then◌else◌}
use Rattle.std.specs.List.{list_any}
use Rattle.std.proofs.lemmas.Bool.{false≢true, and_parts, and_left, and_right, and_cases, or_parts, or_from, cond-false}
use Rattle.cal_base.specs.declared.element.Element.{Element}
use Rattle.cal_model.specs.declared.property.PropName.{PropName}
use Rattle.cal_model.specs.Words.Lists.{is_empty}
use Rattle.cal_model.specs.Words.Namespaces.{dav, caldav}
use Rattle.cal_model.specs.Bodies.ElementParts.{has_name}
use Rattle.cal_model.specs.Bodies.AskedProperties.{property_name}
use Rattle.cal_model.specs.Access.Privileges.{privileges, aggregates, united, same_name, set_named}
use Rattle.cal_model.proofs.Values.CutLemmas.{same_text, is_same_text}

abbrev pub dav_name : List ℕ → PropName
dav_name name = record { space = dav; name = name }

pub set_of_text : (name word : List ℕ) → bytes_eq name word ≡ true → set_named (dav_name word) ≡ set_named (dav_name name)
set_of_text name word e = ap (λ text. set_named (dav_name text)) (sym (is_same_text name word e))

kept_none : {X : Type 0} (keep : X → Bool) (xs : List X) → list_any keep xs ≡ false → filter keep xs ≡ []
kept_none keep [] e = refl
kept_none keep (x ∷ xs) e = let both = or_parts (keep x) (list_any keep xs) e in cond-false (keep x) (x ∷ filter keep xs) (filter keep xs) both.0 ∙ kept_none keep xs both.1

turned : (a b : List ℕ) → bytes_eq a b ≡ false → bytes_eq b a ≡ false
turned a b e = by (bytes_eq b a) refl
  where
    by : (same : Bool) → bytes_eq b a ≡ same → same ≡ false
    by true h = absurd (false≢true (sym e ∙ ap (λ text. bytes_eq a text) (is_same_text b a h) ∙ same_text a))
    by false h = refl

-- a name that is none of those
pub record IsOtherSet (name : List ℕ) : Type 0 where
  pub read : bytes_eq name (codes "read") ≡ false
  pub write_content : bytes_eq name (codes "write-content") ≡ false
  pub write_properties : bytes_eq name (codes "write-properties") ≡ false
  pub bind : bytes_eq name (codes "bind") ≡ false
  pub unbind : bytes_eq name (codes "unbind") ≡ false
  pub read_acl : bytes_eq name (codes "read-acl") ≡ false
  pub write_acl : bytes_eq name (codes "write-acl") ≡ false
  pub read_held : bytes_eq name (codes "read-current-user-privilege-set") ≡ false
  pub write : bytes_eq name (codes "write") ≡ false
  pub all : bytes_eq name (codes "all") ≡ false

pub no_set : (name : List ℕ) → IsOtherSet name → None ≡ set_named (dav_name name)
no_set name is =
    let fails = λ (word : List ℕ) (e : bytes_eq name word ≡ false). turned name word e in
    let none : list_any (λ (row : PropName × ℕ). same_name row.0 (dav_name name)) (privileges ++ aggregates) ≡ false =
    or_from _ _ (fails (codes "read") is.read)
    (or_from _ _ (fails (codes "write-content") is.write_content)
    (or_from _ _ (fails (codes "write-properties") is.write_properties)
    (or_from _ _ (fails (codes "bind") is.bind)
    (or_from _ _ (fails (codes "unbind") is.unbind)
    (or_from _ _ (fails (codes "read-acl") is.read_acl)
    (or_from _ _ (fails (codes "write-acl") is.write_acl)
    (or_from _ _ (fails (codes "read-current-user-privilege-set") is.read_held)
    (or_from _ _ (fails (codes "read") is.read)
    (or_from _ _ (fails (codes "write") is.write)
    (or_from _ _ (fails (codes "all") is.all) refl)))))))))) in
    ap (λ (sets : List (PropName × ℕ)). if is_empty (map (λ (row : PropName × ℕ). row.1) sets) then None else Some (united (map (λ (row : PropName × ℕ). row.1) sets)))
    (sym (kept_none (λ (row : PropName × ℕ). same_name row.0 (dav_name name)) (privileges ++ aggregates) none))

-- Elements of either namespace

pub dav_set_of : (element : Element) → bytes_eq element.space dav ≡ true → set_named (dav_name element.name) ≡ set_named (property_name element)
dav_set_of element e = ap (λ space. set_named (record { space = space; name = element.name })) (sym (is_same_text element.space dav e))

pub free_busy_set : (element : Element) → has_name caldav (codes "read-free-busy") element ≡ true → Some 1 ≡ set_named (property_name element)
free_busy_set element e =
    let both = and_parts (bytes_eq element.space caldav) (bytes_eq element.name (codes "read-free-busy")) e in
    ap (λ space. set_named (record { space = space; name = codes "read-free-busy" })) (sym (is_same_text element.space caldav both.0))
    ∙ ap (λ name. set_named (record { space = element.space; name = name })) (sym (is_same_text element.name (codes "read-free-busy") both.1))

pub no_set_beside : (element : Element) → bytes_eq element.space dav ≡ false → has_name caldav (codes "read-free-busy") element ≡ false → None ≡ set_named (property_name element)
no_set_beside element away other =
    let far = turned element.space dav away in
    let near : (bytes_eq caldav element.space && bytes_eq (codes "read-free-busy") element.name) ≡ false =
    ⊎_elim
    (λ a. and_left (bytes_eq caldav element.space) (bytes_eq (codes "read-free-busy") element.name) (turned element.space caldav a))
    (λ b. and_right (bytes_eq caldav element.space) (bytes_eq (codes "read-free-busy") element.name) (turned element.name (codes "read-free-busy") b))
    (and_cases (bytes_eq element.space caldav) (bytes_eq element.name (codes "read-free-busy")) other) in
    let fails = λ (word : List ℕ). and_left (bytes_eq dav element.space) (bytes_eq word element.name) far in
    let none : list_any (λ (row : PropName × ℕ). same_name row.0 (property_name element)) (privileges ++ aggregates) ≡ false =
    or_from _ _ near
    (or_from _ _ (fails (codes "read"))
    (or_from _ _ (fails (codes "write-content"))
    (or_from _ _ (fails (codes "write-properties"))
    (or_from _ _ (fails (codes "bind"))
    (or_from _ _ (fails (codes "unbind"))
    (or_from _ _ (fails (codes "read-acl"))
    (or_from _ _ (fails (codes "write-acl"))
    (or_from _ _ (fails (codes "read-current-user-privilege-set"))
    (or_from _ _ (fails (codes "read"))
    (or_from _ _ (fails (codes "write"))
    (or_from _ _ (fails (codes "all")) refl))))))))))) in
    ap (λ (sets : List (PropName × ℕ)). if is_empty (map (λ (row : PropName × ℕ). row.1) sets) then None else Some (united (map (λ (row : PropName × ℕ). row.1) sets)))
    (sym (kept_none (λ (row : PropName × ℕ). same_name row.0 (property_name element)) (privileges ++ aggregates) none))
