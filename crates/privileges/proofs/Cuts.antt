-- The pieces of a text and its first cut.
use Rattle.std.proofs.Common.{◌≡◌, ℕ, suc, ◌+◌, Bool, true, false, cond, ◌==◌, List, [], ◌∷◌, take, drop, Option, Some, None, refl, sym, ap, ◌∙◌, add-one}
use Rattle.std.specs.Option.{option_map}
use Rattle.std.specs.List.{position}
use Rattle.cal_base.specs.Lines.ContentLines.{pieces, onto_first}
use Rattle.privileges.proofs.Places.{place_in, position-place_in}

-- the pieces of a text, where the place of its first separator is known
abbrev first_cut : ℕ → List ℕ → Option ℕ → List (List ℕ)
first_cut separator text None = text ∷ []
first_cut separator text (Some place) = take place text ∷ pieces separator (drop (suc place) text)

one_octet : (separator octet : ℕ) (text : List ℕ) (here : Bool) (o : Option ℕ) → pieces separator text ≡ first_cut separator text o
    → cond here ([] ∷ pieces separator text) (onto_first octet (pieces separator text)) ≡ first_cut separator (octet ∷ text) (cond here (Some 0) (option_map suc o))
one_octet separator octet text true o e = refl
one_octet separator octet text false None e = ap (onto_first octet) e
one_octet separator octet text false (Some place) e = ap (onto_first octet) e

pieces-place_in : (separator : ℕ) (text : List ℕ) → pieces separator text ≡ first_cut separator text (place_in (λ octet. octet == separator) text)
pieces-place_in separator [] = refl
pieces-place_in separator (octet ∷ text) = one_octet separator octet text (octet == separator) (place_in (λ o. o == separator) text) (pieces-place_in separator text)

pieces-position : (separator : ℕ) (text : List ℕ) → pieces separator text ≡ first_cut separator text (position (λ octet. octet == separator) text)
pieces-position separator text = pieces-place_in separator text ∙ ap (first_cut separator text) (sym (position-place_in (λ octet. octet == separator) text))

pub pieces-found : (separator : ℕ) (text : List ℕ) (place : ℕ) → position (λ octet. octet == separator) text ≡ Some place
    → pieces separator text ≡ take place text ∷ pieces separator (drop (place + 1) text)
pieces-found separator text place found =
    pieces-position separator text ∙ ap (first_cut separator text) found ∙ ap (λ n. take place text ∷ pieces separator (drop n text)) (sym (add-one place))

pub pieces-whole : (separator : ℕ) (text : List ℕ) → position (λ octet. octet == separator) text ≡ None → pieces separator text ≡ text ∷ []
pieces-whole separator text none = pieces-position separator text ∙ ap (first_cut separator text) none
