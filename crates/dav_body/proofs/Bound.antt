-- What a prefix stands for, looked up from the innermost element outwards.
use Rattle.std.proofs.Common.{◌≡◌, ℕ, zero, suc, ◌+◌, List, [], ◌∷◌, ◌<◌, ◌≤◌, length, map, drop, Some, None, refl, sym, ap, ◌∙◌, arith}
use Rattle.std.proofs.Math.Numerals.{suc-eq-add-one}
use Rattle.std.specs.Option.{option_or}
use Rattle.cal_base.specs.Xml.XmlMarkup.{Tag}
use Rattle.cal_base.specs.Xml.XmlScopes.{Scope, outer_scope, declarations, space_of}
use Rattle.dav_body.specs.declared.open_elements.OpenElement.{OpenElement}
use Rattle.dav_body.specs.Reading.{scope_of}
use Rattle.dav_body.specs.OpenParts.{open_part}
use Rattle.dav_body.specs.Tags.{scope_within, declared_at}
use Rattle.dav_body.proofs.Lookups.{space_of_append}

-- what holds within the elements behind so many
abbrev pub scope_behind : ℕ → List OpenElement → Scope
scope_behind depth around = scope_of (map open_part (drop depth around))

-- an element and those around it
at_depth : (depth : ℕ) (around : List OpenElement) (prefix : List ℕ) → depth < length around → space_of (scope_behind depth around) prefix ≡ option_or (declared_at depth around prefix) (space_of (scope_behind (suc depth) around) prefix)
at_depth depth [] prefix within = absurd (omega arith)
at_depth zero (first ∷ around) prefix within = space_of_append (declarations first.tag) (scope_of (map open_part around)) prefix
at_depth (suc depth) (first ∷ around) prefix within = at_depth depth around prefix (omega arith)

-- the innermost that binds a prefix decides
pub bound_here : (depth : ℕ) (around : List OpenElement) (prefix space : List ℕ) → depth < length around → Some space ≡ declared_at depth around prefix → space_of (scope_behind depth around) prefix ≡ Some space
bound_here depth around prefix space within found =
    at_depth depth around prefix within ∙ ap (λ own. option_or own (space_of (scope_behind (suc depth) around) prefix)) (sym found)

pub bound_around : (depth : ℕ) (around : List OpenElement) (prefix : List ℕ) → depth < length around → None ≡ declared_at depth around prefix → space_of (scope_behind depth around) prefix ≡ space_of (scope_behind (depth + 1) around) prefix
bound_around depth around prefix within none =
    at_depth depth around prefix within
    ∙ ap (λ own. option_or own (space_of (scope_behind (suc depth) around) prefix)) (sym none)
    ∙ ap (λ next. space_of (scope_behind next around) prefix) (suc-eq-add-one depth)

pub bound_outside : (depth : ℕ) (around : List OpenElement) → length around ≤ depth → scope_behind depth around ≡ outer_scope
bound_outside zero [] past = refl
bound_outside (suc depth) [] past = refl
bound_outside zero (first ∷ around) past = absurd (omega arith)
bound_outside (suc depth) (first ∷ around) past = bound_outside depth around (omega arith)

-- At a tag

pub own_space : (tag : Tag) (around : List OpenElement) (prefix space : List ℕ) → Some space ≡ space_of (declarations tag) prefix → space_of (scope_within tag around) prefix ≡ Some space
own_space tag around prefix space found =
    space_of_append (declarations tag) (scope_of (map open_part around)) prefix ∙ ap (λ own. option_or own (space_of (scope_of (map open_part around)) prefix)) (sym found)

pub outer_space_of : (tag : Tag) (around : List OpenElement) (prefix : List ℕ) → None ≡ space_of (declarations tag) prefix → space_of (scope_within tag around) prefix ≡ space_of (scope_of (map open_part around)) prefix
outer_space_of tag around prefix none =
    space_of_append (declarations tag) (scope_of (map open_part around)) prefix ∙ ap (λ own. option_or own (space_of (scope_of (map open_part around)) prefix)) (sym none)
