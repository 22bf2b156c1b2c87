-- Who is admitted, step by step.
use Rattle.std.proofs.Common.{◌≡◌, ℕ, Bool, true, List, Option, Some, None, cond, sym, ap, ◌∙◌}
use Rattle.std.specs.Prelude.{bytes_eq, option_map, option_and_then}
use Rattle.std.specs.Str.{str_eq_ignore_ascii_case, str_to_ascii_lowercase}
use Rattle.std.proofs.lemmas.Option.{same_Some}
use Rattle.std.proofs.lemmas.Bool.Decides.{same_from_decides}
use Rattle.std.proofs.lemmas.Slice.Eq.{bytes_eq-Decides}
use Rattle.cal_model.specs.Users.Credentials.{base64_octets, basic_text, credentials_of, spelled_credentials, user_of_credentials, authenticated}
use Rattle.cal_model.specs.Users.UsersFile.{User, Users}

-- what `eq_ignore_ascii_case` answers is the test of the definition
pub same_name : (a b : List ℕ) (r : Bool) → (r ≡ true → str_to_ascii_lowercase a ≡ str_to_ascii_lowercase b) × (str_to_ascii_lowercase a ≡ str_to_ascii_lowercase b → r ≡ true) → str_eq_ignore_ascii_case a b ≡ r
same_name a b r h = same_from_decides _ r (bytes_eq-Decides (str_to_ascii_lowercase a) (str_to_ascii_lowercase b)) h

-- a user who is there is admitted exactly where the digests are the same
pub admitted_by_digest : (digest : List ℕ) (who : ℕ) (found : Option User) (same : Bool) → option_map (λ (user : User). bytes_eq digest user.digest) found ≡ Some same → option_and_then (λ (user : User). cond (bytes_eq digest user.digest) (Some who) None) found ≡ cond same (Some who) None
admitted_by_digest digest who None same is = absurd (cc)
admitted_by_digest digest who (Some user) same is = ap (λ b. cond b (Some who) None) (same_Some (bytes_eq digest user.digest) same is)

-- the credentials in the text behind the scheme, if it is there
pub spelled_by_text : (value : List ℕ) (text : Option (List ℕ)) → text ≡ basic_text value → spelled_credentials value ≡ option_and_then (λ text. option_and_then credentials_of (base64_octets text)) text
unfolding spelled_credentials
spelled_by_text value text is = ap (option_and_then (λ text. option_and_then credentials_of (base64_octets text))) (sym is)

pub authenticated_by_value : (users : Users) (field : Option (List ℕ)) (value text : List ℕ) → field ≡ Some value → text ≡ value → authenticated users field ≡ option_and_then (user_of_credentials users) (spelled_credentials text)
unfolding authenticated
authenticated_by_value users field value text is same = ap (authenticated users) (is ∙ ap Some (sym same))

pub nobody_authenticated : (users : Users) (field : Option (List ℕ)) → field ≡ None → authenticated users field ≡ None
unfolding authenticated
nobody_authenticated users field is = ap (authenticated users) is
