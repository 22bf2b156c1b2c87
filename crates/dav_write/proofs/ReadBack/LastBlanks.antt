-- A text whose last octet is no blank has no blanks at its end.
use Rattle.std.proofs.Common.{◌≡◌, ℕ, Bool, true, false, List, [], ◌∷◌, ◌++◌, refl, sym, ap, ◌∙◌}
use Rattle.std.specs.Prelude.{◌&&◌}
use Rattle.cal_base.specs.Xml.XmlNames.{is_blank, are_blanks}
use Rattle.cal_base.specs.Xml.XmlMarkup.{without_last_blanks}

and_assoc : (a b c : Bool) → (a && b && c) ≡ (a && (b && c))
and_assoc true b c = refl
and_assoc false b c = refl

and_true : (a : Bool) → (a && true) ≡ a
and_true true = refl
and_true false = refl

and_false : (a : Bool) → (a && false) ≡ false
and_false true = refl
and_false false = refl

blanks_behind : (front : List ℕ) (last : ℕ) → are_blanks (front ++ last ∷ []) ≡ (are_blanks front && is_blank last)
blanks_behind [] last = and_true (is_blank last)
blanks_behind (octet ∷ front) last = ap (λ b. is_blank octet && b) (blanks_behind front last) ∙ sym (and_assoc (is_blank octet) (are_blanks front) (is_blank last))

no_last_blank_of : (front : List ℕ) (last : ℕ) → is_blank last ≡ false → without_last_blanks (front ++ last ∷ []) ≡ front ++ last ∷ []
no_last_blank_of [] last other = ap (λ b. elim (b && true) [ true ↦ [] | false ↦ last ∷ [] ]) other
no_last_blank_of (octet ∷ front) last other =
    let none : are_blanks ((octet ∷ front) ++ last ∷ []) ≡ false = blanks_behind (octet ∷ front) last ∙ ap (λ b. are_blanks (octet ∷ front) && b) other ∙ and_false (are_blanks (octet ∷ front)) in
    ap (λ b. elim b [ true ↦ [] | false ↦ octet ∷ without_last_blanks (front ++ last ∷ []) ]) none
    ∙ ap (λ rest. octet ∷ rest) (no_last_blank_of front last other)

pub no_last_blank : (text front : List ℕ) (last : ℕ) → text ≡ front ++ last ∷ [] → is_blank last ≡ false → without_last_blanks text ≡ text
no_last_blank text front last is other = ap without_last_blanks is ∙ no_last_blank_of front last other ∙ sym is
