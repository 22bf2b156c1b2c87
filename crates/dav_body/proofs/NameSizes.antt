-- How many octets stand before the first blank.
use Rattle.std.proofs.Common.{◌≡◌, ℕ, ◌+◌, true, false, List, [], ◌∷◌, length, refl, ap, ◌∙◌, arith}
use Rattle.std.specs.Prelude.{not, cond}
use Rattle.std.specs.List.{prefix_len}
use Rattle.cal_base.specs.Xml.XmlNames.{is_blank}
use Rattle.cal_base.specs.Xml.XmlMarkup.{is_not_blank}

pub name_size_here : (text behind : List ℕ) (octet : ℕ) → text ≡ octet ∷ behind → is_blank octet ≡ true → prefix_len is_not_blank text ≡ 0
name_size_here text behind octet is blank = ap (prefix_len is_not_blank) is ∙ ap (λ b. cond (not b) (1 + prefix_len is_not_blank behind) 0) blank

pub name_size_step : (text behind : List ℕ) (octet : ℕ) → text ≡ octet ∷ behind → is_blank octet ≡ false → prefix_len is_not_blank text ≡ 1 + prefix_len is_not_blank behind
name_size_step text behind octet is other = ap (prefix_len is_not_blank) is ∙ ap (λ b. cond (not b) (1 + prefix_len is_not_blank behind) 0) other

pub name_size_nil : (text : List ℕ) → length text ≡ 0 → prefix_len is_not_blank text ≡ 0
name_size_nil [] none = refl
name_size_nil (octet ∷ text) none = absurd (omega arith)
