-- What a map has at a name behind a write; what a prefix stands for in joined scopes.
use Rattle.std.proofs.Common.{◌≡◌, ℕ, true, false, List, [], ◌∷◌, ◌++◌, Option, Some, None, refl, sym, ap, ◌∙◌, inl, inr}
use Rattle.std.specs.Prelude.{cond, find, option_map}
use Rattle.std.specs.Option.{option_or}
use Rattle.std.specs.Str.{bytes_eq}
use Rattle.std.proofs.lemmas.Slice.Eq.{bytes_eq-Decides}
use Rattle.std.proofs.lemmas.Bool.{cases_Bool}
use Rattle.cal_base.proofs.Lists.NameMapLemmas.{value_at_with}
use Rattle.cal_base.specs.Lists.NameMap.{Named, value_at, with_value}
use Rattle.cal_base.specs.Xml.XmlScopes.{Scope, space_of}

pub same_text : (one other : List ℕ) → bytes_eq one other ≡ true → one ≡ other
same_text one other same = (bytes_eq-Decides one other).0 same

pub text_same : (one other : List ℕ) → one ≡ other → bytes_eq one other ≡ true
text_same one other same = (bytes_eq-Decides one other).1 same

pub bytes_eq_sym : (one other : List ℕ) → bytes_eq one other ≡ bytes_eq other one
bytes_eq_sym one other = elim (cases_Bool (bytes_eq one other)) [
  | inl same ↦ same ∙ sym (text_same other one (sym (same_text one other same)))
  | inr apart ↦ elim (cases_Bool (bytes_eq other one)) [
    | inl same ↦ text_same one other (sym (same_text other one same)) ∙ sym same
    | inr other_apart ↦ apart ∙ sym other_apart
  ]
]

-- Scopes

pub space_of_cons : (binding : List ℕ × List ℕ) (scope : Scope) (prefix : List ℕ) → space_of (binding ∷ scope) prefix ≡ cond (bytes_eq binding.0 prefix) (Some binding.1) (space_of scope prefix)
space_of_cons binding scope prefix =
    elim (bytes_eq binding.0 prefix) as (λ b. option_map (λ (entry : List ℕ × List ℕ). entry.1) (cond b (Some binding) (find (λ entry. bytes_eq entry.0 prefix) scope)) ≡ cond b (Some binding.1) (space_of scope prefix)) [ true ↦ refl | false ↦ refl ]

pub space_of_append : (scope other : Scope) (prefix : List ℕ) → space_of (scope ++ other) prefix ≡ option_or (space_of scope prefix) (space_of other prefix)
space_of_append [] other prefix = refl
space_of_append (binding ∷ scope) other prefix =
    rw (space_of_cons binding (scope ++ other) prefix, space_of_cons binding scope prefix, space_of_append scope other prefix)
    (elim (bytes_eq binding.0 prefix) as (λ b. cond b (Some binding.1) (option_or (space_of scope prefix) (space_of other prefix)) ≡ option_or (cond b (Some binding.1) (space_of scope prefix)) (space_of other prefix)) [ true ↦ refl | false ↦ refl ])

-- one binding more in a map that has the first of each prefix
abbrev pub found_by : Named (List ℕ) → Scope → List ℕ → Option (List ℕ)
found_by spaces scope prefix = option_or (value_at spaces prefix) (space_of scope prefix)

pub found_by_new : (spaces : Named (List ℕ)) (binding : List ℕ × List ℕ) (scope : Scope) → value_at spaces binding.0 ≡ None
    → (prefix : List ℕ) → found_by (with_value spaces binding.0 binding.1) scope prefix ≡ found_by spaces (binding ∷ scope) prefix
found_by_new spaces binding scope none prefix =
    rw (value_at_with binding.0 binding.1 prefix spaces, space_of_cons binding scope prefix, bytes_eq_sym binding.0 prefix)
    (elim (cases_Bool (bytes_eq prefix binding.0)) [
      | inl same ↦
          let here : value_at spaces prefix ≡ None = ap (value_at spaces) (same_text prefix binding.0 same) ∙ none in
          rw (same, here) refl
      | inr other ↦ rw other refl
    ])

pub found_by_old : (spaces : Named (List ℕ)) (binding : List ℕ × List ℕ) (scope : Scope) (space : List ℕ) → value_at spaces binding.0 ≡ Some space
    → (prefix : List ℕ) → found_by spaces scope prefix ≡ found_by spaces (binding ∷ scope) prefix
found_by_old spaces binding scope space some prefix =
    rw (space_of_cons binding scope prefix, bytes_eq_sym binding.0 prefix)
    (elim (cases_Bool (bytes_eq prefix binding.0)) [
      | inl same ↦
          let here : value_at spaces prefix ≡ Some space = ap (value_at spaces) (same_text prefix binding.0 same) ∙ some in
          rw (same, here) refl
      | inr other ↦ rw other refl
    ])
