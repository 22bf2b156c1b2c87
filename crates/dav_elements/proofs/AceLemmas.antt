-- What the privileges of an ace come to, and the aces of a body one after another.
use Rattle.std.proofs.Common.{◌≡◌, ℕ, ◌+◌, Bool, true, false, not, ◌&&◌, ◌||◌, List, [], ◌∷◌, ◌++◌, length, map, take, Option, Some, None, is_none, refl, sym, ap, ◌∙◌, arith}
use Rattle.std.specs.Prelude.{Result, IfOk, filter, flat_map, fold, bit_or, codes, option_to_list}
use Rattle.std.specs.List.{list_any, filter_map}
use Rattle.std.proofs.lemmas.Bool.{false≢true}
use Rattle.std.proofs.lemmas.Result.{IfOk-weaker}
use Rattle.std.proofs.lemmas.List.{append-nil, append_assoc, map-append}
use Rattle.std.proofs.lemmas.Grind.{flat_map-append}
use Rattle.cal_base.specs.declared.element.Element.{Element}
use Rattle.cal_model.specs.Words.Lists.{is_empty}
use Rattle.cal_model.specs.Words.Namespaces.{dav}
use Rattle.cal_model.specs.Access.Privileges.{set_named}
use Rattle.cal_model.specs.Bodies.AskedProperties.{property_name}
use Rattle.cal_model.specs.Bodies.ElementParts.{children, named, first_named}
use Rattle.cal_model.specs.Bodies.AclBodies.{other_form, holds, is_form, meant_by_form, meant_by, meant, granted_elements, granted_sets, bits_of, ace_rows}
use Rattle.cal_model.specs.Bodies.Refusals.{first_row}
use Rattle.cal_model.specs.Users.UsersFile.{Users}
use Rattle.dav_elements.specs.declared.aces.GrantedBits.{GrantedBits}
use Rattle.dav_elements.specs.declared.aces.Whom.{Whom}
use Rattle.dav_elements.specs.AceAnswers.{as_meant, with_sets, refusals_from}
use Rattle.dav_elements.proofs.AnyLemmas.{or_true}
use Rattle.dav_elements.proofs.FirstLemmas.{some_from_first, none_from_first}
use Rattle.dav_elements.proofs.ListSteps.{More}

-- Privileges

pub sets-append : (before : GrantedBits) (sets more : List (Option ℕ)) → with_sets before (sets ++ more) ≡ with_sets (with_sets before sets) more
sets-append before [] more = refl
sets-append before (Some bits ∷ sets) more = sets-append (record before { bits = bit_or before.bits bits }) sets more
sets-append before (None ∷ sets) more = sets-append (record before { unknown = true }) sets more

pub sets_bits : (before : GrantedBits) (sets : List (Option ℕ)) → (with_sets before sets).bits ≡ fold bit_or before.bits (filter_map (λ (set : Option ℕ). set) sets)
sets_bits before [] = refl
sets_bits before (Some bits ∷ sets) = sets_bits (record before { bits = bit_or before.bits bits }) sets
sets_bits before (None ∷ sets) = sets_bits (record before { unknown = true }) sets

pub sets_unknown : (before : GrantedBits) (sets : List (Option ℕ)) → (with_sets before sets).unknown ≡ (before.unknown || list_any is_none sets)
sets_unknown before [] = same before.unknown
  where
    same : (b : Bool) → b ≡ (b || false)
    same true = refl
    same false = refl
sets_unknown before (Some bits ∷ sets) = sets_unknown (record before { bits = bit_or before.bits bits }) sets
sets_unknown before (None ∷ sets) = sets_unknown (record before { unknown = true }) sets ∙ sym (or_true before.unknown)

-- the set that an element stands for, if it is the name of one
abbrev pub set_of : Element → Option ℕ
set_of name = set_named (property_name name)

-- with the names in one item more
pub sets_more : (before : GrantedBits) {early piece after : List Element} (these : List Element) {old new : GrantedBits} → More early piece after → these ≡ piece → old ≡ with_sets before (map set_of early) → new ≡ with_sets old (map set_of these)
    → new ≡ with_sets before (map set_of after)
sets_more before {early} {piece} {after} these {old} {new} more found so_far now =
    now ∙ ap (λ o. with_sets o (map set_of these)) so_far ∙ ap (λ those. with_sets (with_sets before (map set_of early)) (map set_of those)) found
    ∙ sym (sets-append before (map set_of early) (map set_of piece)) ∙ ap (with_sets before) (sym (map-append set_of early piece) ∙ ap (map set_of) (sym more.is))

pub children_more : {early piece after : List Element} → More early piece after → More (flat_map children early) (flat_map children piece) (flat_map children after)
children_more {early} {piece} {after} more = record { is = ap (flat_map children) more.is ∙ flat_map-append children early piece }

pub granted_one : (ace grant : Element) → (grant ∷ []) ≡ first_named dav (codes "grant") ace → granted_elements ace ≡ named dav (codes "privilege") grant
granted_one ace grant one = ap (flat_map (named dav (codes "privilege"))) (sym one) ∙ append-nil (named dav (codes "privilege") grant)

pub granted_none : (ace : Element) → [] ≡ first_named dav (codes "grant") ace → granted_elements ace ≡ []
granted_none ace none = ap (flat_map (named dav (codes "privilege"))) (sym none)

-- the elements in one, and in none
pub children_one : (one : Element) (xs : List Element) → (one ∷ []) ≡ xs → flat_map children xs ≡ children one
children_one one xs e = ap (flat_map children) (sym e) ∙ append-nil (children one)

pub children_none : (xs : List Element) → [] ≡ xs → flat_map children xs ≡ []
children_none xs e = ap (flat_map children) (sym e)

pub granted_bits : (ace grant : Element) (granted : GrantedBits) → (grant ∷ []) ≡ first_named dav (codes "grant") ace
    → granted ≡ with_sets (record { bits = 0; unknown = false }) (map set_of (flat_map children (named dav (codes "privilege") grant))) → (granted.bits ≡ bits_of ace) × (granted.unknown ≡ list_any is_none (granted_sets ace))
granted_bits ace grant granted one is =
    let sets = map set_of (flat_map children (named dav (codes "privilege") grant)) in
    let whole : granted_sets ace ≡ sets = ap (λ those. map set_of (flat_map children those)) (granted_one ace grant one) in (
      ap (λ (g : GrantedBits). g.bits) is ∙ sets_bits (record { bits = 0; unknown = false }) sets ∙ ap (λ those. fold bit_or 0 (filter_map (λ (set : Option ℕ). set) those)) (sym whole),
      ap (λ (g : GrantedBits). g.unknown) is ∙ sets_unknown (record { bits = 0; unknown = false }) sets ∙ ap (list_any is_none) (sym whole),
    )

pub granted_nothing : (ace : Element) → [] ≡ first_named dav (codes "grant") ace → (0 ≡ bits_of ace) × (false ≡ list_any is_none (granted_sets ace))
granted_nothing ace none =
    let whole = ap (λ those. map set_of (flat_map children those)) (sym (granted_none ace none)) in (
      ap (λ (those : List (Option ℕ)). fold bit_or 0 (filter_map (λ (set : Option ℕ). set) those)) whole,
      ap (list_any is_none) whole,
    )

-- Principals

pub meant_one : {E : Type 0} (users : Users) (ace principal : Element) (read : Result Whom E) → (principal ∷ []) ≡ first_named dav (codes "principal") ace
    → IfOk read (λ whom. as_meant whom ≡ meant_by users (filter is_form (children principal))) → IfOk read (λ whom. meant users ace ≡ as_meant whom ∷ [])
meant_one users ace principal read one =
    IfOk-weaker read (λ whom. as_meant whom ≡ meant_by users (filter is_form (children principal))) (λ whom. meant users ace ≡ as_meant whom ∷ [])
    (λ whom is. ap (map (λ those. meant_by users (filter is_form (children those)))) (sym one) ∙ ap (λ m. m ∷ []) (sym is))

pub meant_never : (users : Users) (ace : Element) → [] ≡ first_named dav (codes "principal") ace → holds (codes "principal") ace ≡ true → meant users ace ≡ other_form ∷ []
meant_never users ace none there = absurd (false≢true (ap (λ those. not (is_empty those)) (sym (none_from_first (named dav (codes "principal") ace) none)) ∙ there))

pub meant_first : {E : Type 0} (users : Users) (form : Element) (forms : List Element) (read : Result Whom E) → (form ∷ []) ≡ take 1 forms
    → IfOk read (λ whom. as_meant whom ≡ meant_by_form users form) → IfOk read (λ whom. as_meant whom ≡ meant_by users forms)
meant_first users form forms read first =
    IfOk-weaker read (λ whom. as_meant whom ≡ meant_by_form users form) (λ whom. as_meant whom ≡ meant_by users forms) (λ whom is. is ∙ by forms first)
  where
    by : (those : List Element) → (form ∷ []) ≡ take 1 those → meant_by_form users form ≡ meant_by users those
    by [] e = absurd cc
    by (other ∷ more) e = let same : form ≡ other = cc in ap (meant_by_form users) same

pub meant_by_none : (users : Users) (forms : List Element) → [] ≡ take 1 forms → other_form ≡ meant_by users forms
meant_by_none users forms none = ap (meant_by users) (sym (none_from_first forms none))

-- an empty privilege
abbrev pub is_bare : Element → Bool
is_bare privilege = is_empty (children privilege)

pub nothing_one : (ace grant : Element) → (grant ∷ []) ≡ first_named dav (codes "grant") ace
    → (not (holds (codes "privilege") grant) || list_any is_bare (named dav (codes "privilege") grant)) ≡ (holds (codes "grant") ace && is_empty (granted_elements ace) || list_any is_bare (granted_elements ace))
nothing_one ace grant one =
    ap (λ b. b || list_any is_bare (named dav (codes "privilege") grant)) (twice (is_empty (named dav (codes "privilege") grant)))
    ∙ ap (λ b. b && is_empty (named dav (codes "privilege") grant) || list_any is_bare (named dav (codes "privilege") grant)) (sym (some_from_first grant (named dav (codes "grant") ace) one))
    ∙ ap (λ those. holds (codes "grant") ace && is_empty those || list_any is_bare those) (sym (granted_one ace grant one))
  where
    twice : (b : Bool) → not (not b) ≡ b
    twice true = refl
    twice false = refl

pub nothing_none : (ace : Element) → [] ≡ first_named dav (codes "grant") ace → false ≡ (holds (codes "grant") ace && is_empty (granted_elements ace) || list_any is_bare (granted_elements ace))
nothing_none ace none =
    let without : holds (codes "grant") ace ≡ false = ap (λ those. not (is_empty those)) (none_from_first (named dav (codes "grant") ace) none) in
    λ i. sym without i && is_empty (granted_elements ace) || list_any is_bare (sym (granted_none ace none) i)

-- Aces

pub refusals-append : (users : Users) (before : ℕ) (aces more : List Element) → refusals_from users before (aces ++ more) ≡ refusals_from users before aces ++ refusals_from users (before + length aces) more
refusals-append users before [] more = ap (λ n. refusals_from users n more) (omega arith)
refusals-append users before (ace ∷ aces) more =
    let first = option_to_list (first_row (ace_rows users before ace)) in
    ap (λ rest. first ++ rest) (refusals-append users (before + 1) aces more)
    ∙ sym (append_assoc first (refusals_from users (before + 1) aces) (refusals_from users ((before + 1) + length aces) more))
    ∙ ap (λ n. (first ++ refusals_from users (before + 1) aces) ++ refusals_from users n more) (omega arith)
