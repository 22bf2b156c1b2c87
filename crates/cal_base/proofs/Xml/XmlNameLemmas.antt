-- Names have none of the octets that mark tags.
use Rattle.std.specs.Prelude.{◌≡◌, ℕ, ◌<◌, Bool, true, false, ◌&&◌, ◌||◌, ◌==◌, nat_lt, List, [], ◌∷◌, length, get_or, Some, None, if◌then◌else◌}
use Rattle.std.specs.List.{list_any, list_all}
use Rattle.std.specs.Str.{chars, is_utf8, NoCharPasses, NonePass}
use Rattle.std.proofs.Common.{inl, inr, arith, refl, sym, ap, subst, ◌∙◌}
use Rattle.std.proofs.lemmas.Bool.{cases_Bool, eqb-true, ltb-true}
use Rattle.std.proofs.lemmas.List.{get_or_default}
use Rattle.std.proofs.lemmas.List.Folds.{list_any_none}
use Rattle.std.proofs.lemmas.Str.{NoCharPasses-byte, encodes-chars, IsUtf8-from_is_utf8}
use Rattle.cal_base.specs.Texts.Octets.{colon}
use Rattle.cal_base.specs.Lines.ContentLines.{pieces, onto_first}
use Rattle.cal_base.specs.Xml.XmlNames.{QName, is_name_start, is_name_character, are_name_characters, is_plain_name, qname_of, qname_of_pieces}

pub both_true : (one other : Bool) → (one && other) ≡ true → (one ≡ true) × (other ≡ true)
both_true true other e = (refl, e)
both_true false other e = absurd cc

pub both_false : (one other : Bool) → (one || other) ≡ false → (one ≡ false) × (other ≡ false)
both_false false other e = (refl, e)
both_false true other e = absurd cc

pub true_or : (one other : Bool) → one ≡ true → (one || other) ≡ true
true_or true other e = refl
true_or false other e = absurd cc

-- Octets of a table

abbrev pub is_one_of : List ℕ → ℕ → Bool
is_one_of table octet = list_any (λ other. octet == other) table

pub is_one_of-small : (table : List ℕ) → list_all (λ other. nat_lt other 128) table ≡ true → (octet : ℕ) → is_one_of table octet ≡ true → octet < 128
is_one_of-small [] t octet h = absurd cc
is_one_of-small (other ∷ table) t octet h =
    let small = both_true (nat_lt other 128) _ t in
    elim (cases_Bool (octet == other)) [
      | inl same ↦ omega (arith, eqb-true octet other same, ltb-true other 128 small.0)
      | inr apart ↦ is_one_of-small table small.1 octet (subst (λ test. (test || is_one_of table octet) ≡ true) apart h)
    ]

pub is_one_of-apart : (table : List ℕ) → list_any is_name_character table ≡ false → (octet : ℕ) → is_name_character octet ≡ true → is_one_of table octet ≡ false
is_one_of-apart [] t octet h = refl
is_one_of-apart (other ∷ table) t octet h =
    let no_name = both_false (is_name_character other) _ t in
    elim (cases_Bool (octet == other)) [
      | inl same ↦
          let as_other : is_name_character other ≡ true = subst (λ (character : ℕ). is_name_character character ≡ true) (eqb-true octet other same) h in
          absurd cc
      | inr apart ↦ subst (λ test. (test || is_one_of table octet) ≡ false) (sym apart) (is_one_of-apart table no_name.1 octet h)
    ]

-- Names

pub all_lack : (table : List ℕ) → list_any is_name_character table ≡ false → (characters : List ℕ) → list_all is_name_character characters ≡ true → NonePass (is_one_of table) characters
all_lack table t [] h = tt
all_lack table t (character ∷ characters) h =
    let each = both_true (is_name_character character) _ h in
    (is_one_of-apart table t character each.0, all_lack table t characters each.1)

pub characters_lack : (table : List ℕ) → list_any is_name_character table ≡ false → (characters : List ℕ) → are_name_characters characters ≡ true → NonePass (is_one_of table) characters
characters_lack table t [] h = tt
characters_lack table t (character ∷ characters) h =
    let each = both_true (is_name_start character) _ h in
    (is_one_of-apart table t character (true_or _ _ each.0), all_lack table t characters each.1)

-- a name has no octet of a table in which no name character stands
pub plain_name_lacks : (table : List ℕ) → list_all (λ other. nat_lt other 128) table ≡ true → list_any is_name_character table ≡ false → (text : List ℕ) → is_plain_name text ≡ true → list_any (is_one_of table) text ≡ false
plain_name_lacks table s t text h =
    let each = both_true (is_utf8 text) _ h in
    let lacks : NoCharPasses (is_one_of table) text = (chars text, encodes-chars text (IsUtf8-from_is_utf8 text each.0), characters_lack table t (chars text) each.1) in
    list_any_none (is_one_of table) text (λ k d l. at k d l lacks)
  where
    at : (k d : ℕ) → k < length text → NoCharPasses (is_one_of table) text → is_one_of table (get_or text k d) ≡ false
    at k d l lacks = elim (cases_Bool (is_one_of table (get_or text k d))) [
      | inl found ↦
          let same : get_or text k d ≡ get_or text k 0 = get_or_default text k d 0 l in
          let small : get_or text k d < 128 = is_one_of-small table s (get_or text k d) found in
          let fails : is_one_of table (get_or text k 0) ≡ false = NoCharPasses-byte (is_one_of table) text k lacks l (subst (λ (octet : ℕ). octet < 128) same small) in
          ap (λ (octet : ℕ). is_one_of table octet) same ∙ fails
      | inr none ↦ none
    ]

-- Names with a prefix

or_assoc : (a b c : Bool) → (a || (b || c)) ≡ ((a || b) || c)
or_assoc true b c = refl
or_assoc false b c = refl

onto_first-any : (test : ℕ → Bool) (octet : ℕ) (parts : List (List ℕ)) → list_any (list_any test) (onto_first octet parts) ≡ (test octet || list_any (list_any test) parts)
onto_first-any test octet [] = or_false (test octet)
  where
    or_false : (one : Bool) → ((one || false) || false) ≡ (one || false)
    or_false true = refl
    or_false false = refl
onto_first-any test octet (part ∷ parts) = sym (or_assoc (test octet) (list_any test part) _)

-- what no piece has, the whole text lacks, the separator aside
pub pieces-any : (test : ℕ → Bool) (separator : ℕ) → test separator ≡ false → (text : List ℕ) → list_any test text ≡ list_any (list_any test) (pieces separator text)
pieces-any test separator s [] = refl
pieces-any test separator s (octet ∷ text) = elim (cases_Bool (octet == separator)) [
  | inl same ↦ rw (same, subst (λ (other : ℕ). test other ≡ false) (sym (eqb-true octet separator same)) s) (pieces-any test separator s text)
  | inr apart ↦ rw (apart) (ap (λ rest. test octet || rest) (pieces-any test separator s text) ∙ sym (onto_first-any test octet (pieces separator text)))
]

qname_pieces_lack : (table : List ℕ) → list_all (λ other. nat_lt other 128) table ≡ true → list_any is_name_character table ≡ false → (parts : List (List ℕ)) (name : QName) → qname_of_pieces parts ≡ Some name → list_any (list_any (is_one_of table)) parts ≡ false
qname_pieces_lack table s t [] name h = refl
qname_pieces_lack table s t (local ∷ []) name h = elim (cases_Bool (is_plain_name local)) [
  | inl plain ↦ rw (plain_name_lacks table s t local plain) refl
  | inr other ↦ let none : None ≡ Some name = sym (ap (λ test. if test then Some (record { prefix = []; local = local }) else None) other) ∙ h in absurd cc
]
qname_pieces_lack table s t (prefix ∷ local ∷ []) name h = elim (cases_Bool (is_plain_name prefix && is_plain_name local)) [
  | inl plain ↦
      let each = both_true (is_plain_name prefix) _ plain in
      rw (plain_name_lacks table s t prefix each.0, plain_name_lacks table s t local each.1) refl
  | inr other ↦ let none : None ≡ Some name = sym (ap (λ test. if test then Some (record { prefix = prefix; local = local }) else None) other) ∙ h in absurd cc
]
qname_pieces_lack table s t (first ∷ second ∷ third ∷ more) name h = absurd cc

-- nor has a name with a prefix, the colon aside
pub qname_of-lacks : (table : List ℕ) → list_all (λ other. nat_lt other 128) table ≡ true → list_any is_name_character table ≡ false → is_one_of table colon ≡ false → (text : List ℕ) (name : QName) → qname_of text ≡ Some name → list_any (is_one_of table) text ≡ false
qname_of-lacks table s t c text name h = pieces-any (is_one_of table) colon c text ∙ qname_pieces_lack table s t (pieces colon text) name h

-- a name is not empty
pub qname_of-nil : (name : QName) → qname_of [] ≡ Some name → ⊥
unfolding chars is_utf8
qname_of-nil name h = cc
