-- What a prefix stands for in joined scopes; texts that are equal by a test.
use Rattle.std.proofs.Common.{◌≡◌, ℕ, true, false, List, [], ◌∷◌, ◌++◌, Some, refl}
use Rattle.std.specs.Prelude.{cond, find, option_map}
use Rattle.std.specs.Option.{option_or}
use Rattle.std.specs.Str.{bytes_eq}
use Rattle.std.proofs.lemmas.Slice.Eq.{bytes_eq-Decides}
use Rattle.cal_base.specs.Xml.XmlScopes.{Scope, space_of}

pub same_text : (one other : List ℕ) → bytes_eq one other ≡ true → one ≡ other
same_text one other same = (bytes_eq-Decides one other).0 same

pub text_same : (one other : List ℕ) → one ≡ other → bytes_eq one other ≡ true
text_same one other same = (bytes_eq-Decides one other).1 same

pub space_of_cons : (binding : List ℕ × List ℕ) (scope : Scope) (prefix : List ℕ) → space_of (binding ∷ scope) prefix ≡ cond (bytes_eq binding.0 prefix) (Some binding.1) (space_of scope prefix)
space_of_cons binding scope prefix =
    elim (bytes_eq binding.0 prefix) as (λ b. option_map (λ (entry : List ℕ × List ℕ). entry.1) (cond b (Some binding) (find (λ entry. bytes_eq entry.0 prefix) scope)) ≡ cond b (Some binding.1) (space_of scope prefix)) [ true ↦ refl | false ↦ refl ]

pub space_of_append : (scope other : Scope) (prefix : List ℕ) → space_of (scope ++ other) prefix ≡ option_or (space_of scope prefix) (space_of other prefix)
space_of_append [] other prefix = refl
space_of_append (binding ∷ scope) other prefix =
    rw (space_of_cons binding (scope ++ other) prefix, space_of_cons binding scope prefix, space_of_append scope other prefix)
    (elim (bytes_eq binding.0 prefix) as (λ b. cond b (Some binding.1) (option_or (space_of scope prefix) (space_of other prefix)) ≡ option_or (cond b (Some binding.1) (space_of scope prefix)) (space_of other prefix)) [ true ↦ refl | false ↦ refl ])
