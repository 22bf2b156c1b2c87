-- The definitions of where a markup ends and of what a text holds, one octet more.
use Rattle.std.proofs.Common.{◌≡◌, ℕ, ◌<◌, suc, true, false, List, [], ◌∷◌, length, drop, take, Option, Some, None, refl, ap, ◌∙◌, arith}
use Rattle.std.specs.Prelude.{◌||◌, ◌&&◌, ◌==◌, is_none}
use Rattle.std.proofs.lemmas.Bool.{ne_eqb}
use Rattle.cal_base.specs.Xml.XmlNames.{begins_with_blank}
use Rattle.cal_base.specs.Xml.XmlMarkup.{begins, holds, size_through, tag_size, quote_after, without_first_blanks, markup_size, markups}
use Rattle.cal_base.proofs.Xml.XmlMarkupLemmas.{markups-cons, markup_size-positive}

pub holds_step : (part text : List ℕ) → 0 < length text → begins text part ≡ false → holds part text ≡ holds part (drop 1 text)
holds_step part [] some none = absurd (omega arith)
holds_step part (octet ∷ text) some none = ap (λ b. b || holds part text) none

pub holds_here : (part text : List ℕ) → 0 < length text → begins text part ≡ true → holds part text ≡ true
holds_here part [] some here = absurd (omega arith)
holds_here part (octet ∷ text) some here = ap (λ b. b || holds part text) here

pub holds_nil : (part text : List ℕ) → 0 < length part → length text ≡ 0 → holds part text ≡ false
holds_nil [] text some none = absurd (omega arith)
holds_nil (octet ∷ part) [] some none = ne_eqb (suc (length part)) 0 (λ same. absurd (omega (arith, same)))
holds_nil (octet ∷ part) (other ∷ text) some none = absurd (omega arith)

pub size_through_step : (end text : List ℕ) → 0 < length text → begins text end ≡ false → size_through end text ≡ suc (size_through end (drop 1 text))
size_through_step end [] some none = absurd (omega arith)
size_through_step end (octet ∷ text) some none = ap (λ b. elim b [ true ↦ length end | false ↦ suc (size_through end text) ]) none

pub size_through_here : (end text : List ℕ) → 0 < length text → begins text end ≡ true → size_through end text ≡ length end
size_through_here end [] some here = absurd (omega arith)
size_through_here end (octet ∷ text) some here = ap (λ b. elim b [ true ↦ length end | false ↦ suc (size_through end text) ]) here

pub size_through_nil : (end text : List ℕ) → length text ≡ 0 → size_through end text ≡ 0
size_through_nil end [] none = refl
size_through_nil end (octet ∷ text) none = absurd (omega arith)

pub tag_size_here : (quote : Option ℕ) (octet : ℕ) (text behind : List ℕ) → text ≡ octet ∷ behind → (octet == 62) ≡ true → quote ≡ None → tag_size quote text ≡ 1
tag_size_here quote octet text behind is here unquoted =
    ap (tag_size quote) is ∙ ap (λ q. tag_size q (octet ∷ behind)) unquoted ∙ ap (λ b. elim b [ true ↦ 1 | false ↦ suc (tag_size (quote_after None octet) behind) ]) here

tag_size_cons : (quote : Option ℕ) (octet : ℕ) (behind : List ℕ) → ((octet == 62) && is_none quote) ≡ false → tag_size quote (octet ∷ behind) ≡ suc (tag_size (quote_after quote octet) behind)
tag_size_cons (Some quote) octet behind other = refl
tag_size_cons None octet behind other =
    elim (octet == 62) as (λ b. (b && true) ≡ false → (elim b [ true ↦ 1 | false ↦ suc (tag_size (quote_after None octet) behind) ]) ≡ suc (tag_size (quote_after None octet) behind)) [ true ↦ λ h. absurd cc | false ↦ λ h. refl ] other

pub tag_size_step : (quote : Option ℕ) (octet : ℕ) (text behind : List ℕ) → text ≡ octet ∷ behind → ((octet == 62) && is_none quote) ≡ false → tag_size quote text ≡ suc (tag_size (quote_after quote octet) behind)
tag_size_step quote octet text behind is other = ap (tag_size quote) is ∙ tag_size_cons quote octet behind other

pub tag_size_nil : (quote : Option ℕ) (text : List ℕ) → length text ≡ 0 → tag_size quote text ≡ 0
tag_size_nil None [] none = refl
tag_size_nil (Some quote) [] none = refl
tag_size_nil quote (octet ∷ text) none = absurd (omega arith)

pub first_blanks_step : (text : List ℕ) → begins_with_blank text ≡ true → without_first_blanks text ≡ without_first_blanks (drop 1 text)
first_blanks_step [] blank = absurd cc
first_blanks_step (octet ∷ text) blank = ap (λ b. elim b [ true ↦ without_first_blanks text | false ↦ octet ∷ text ]) blank

pub first_blanks_end : (text : List ℕ) → begins_with_blank text ≡ false → without_first_blanks text ≡ text
first_blanks_end [] blank = refl
first_blanks_end (octet ∷ text) blank = ap (λ b. elim b [ true ↦ without_first_blanks text | false ↦ octet ∷ text ]) blank

pub some_blank : (text : List ℕ) → begins_with_blank text ≡ true → 0 < length text
some_blank [] blank = absurd cc
some_blank (octet ∷ text) blank = omega arith

-- the first markup of a text, and those behind it
pub markups_first : (text : List ℕ) → 0 < length text → markups text ≡ take (markup_size text) text ∷ markups (drop (markup_size text) text)
markups_first [] some = absurd (omega arith)
markups_first (octet ∷ text) some = markups-cons octet text

pub markup_size_positive : (text : List ℕ) → 0 < length text → 0 < markup_size text
markup_size_positive [] some = absurd (omega arith)
markup_size_positive (octet ∷ text) some = omega (arith, markup_size-positive octet text)
