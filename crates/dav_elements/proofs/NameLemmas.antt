-- Names joined by an octet, one name more.
use Rattle.std.proofs.Common.{◌≡◌, ℕ, Bool, false, List, [], ◌∷◌, ◌++◌, length, map, ◌==◌, refl, sym, ap, ◌∙◌, arith}
use Rattle.std.specs.Prelude.{if◌then◌else◌}
use Rattle.std.specs.List.{join_with_byte}
use Rattle.std.proofs.lemmas.Bool.{ne_eqb}
use Rattle.std.proofs.lemmas.List.{append_assoc, map-append, length-append, length-map}
use Rattle.cal_model.specs.Words.Lists.{is_empty}
use Rattle.dav_elements.proofs.ListSteps.{More}

some_is_not_empty : {X : Type 0} (x : X) (xs : List X) → is_empty (x ∷ xs) ≡ false
some_is_not_empty x xs = ne_eqb (length (x ∷ xs)) 0 (λ e. omega (arith, e))

-- what stands before a name
abbrev pub separator : ℕ → Bool → List ℕ
separator octet first = if first then [] else octet ∷ []

pub join_more : (octet : ℕ) (names : List (List ℕ)) (name : List ℕ) → join_with_byte octet (names ++ name ∷ []) ≡ join_with_byte octet names ++ (separator octet (is_empty names) ++ name)
join_more octet [] name = refl
join_more octet (one ∷ []) name = refl
join_more octet (one ∷ two ∷ names) name =
    ap (λ text. one ++ (octet ∷ text)) (join_more octet (two ∷ names) name ∙ ap (λ b. join_with_byte octet (two ∷ names) ++ (separator octet b ++ name)) (some_is_not_empty two names ∙ sym (some_is_not_empty one (two ∷ names))))
    ∙ sym (append_assoc one (octet ∷ join_with_byte octet (two ∷ names)) (separator octet (is_empty (one ∷ two ∷ names)) ++ name))

-- the names of some elements, with that of one more
pub names_more : {Y : Type 0} (octet : ℕ) (name_of : Y → List ℕ) {before piece after : List Y} (one : Y) {old new : List ℕ} (first : Bool) → More before piece after → (one ∷ []) ≡ piece
    → old ≡ join_with_byte octet (map name_of before) → first ≡ is_empty before → new ≡ old ++ (separator octet first ++ name_of one)
    → new ≡ join_with_byte octet (map name_of after)
names_more octet name_of {before} {piece} {after} one {old} {new} first more found joined none now =
    now ∙ ap (λ text. text ++ (separator octet first ++ name_of one)) joined
    ∙ ap (λ b. join_with_byte octet (map name_of before) ++ (separator octet b ++ name_of one)) (none ∙ ap (λ n. n == 0) (sym (length-map before name_of)))
    ∙ sym (join_more octet (map name_of before) (name_of one))
    ∙ ap (join_with_byte octet) (sym (map-append name_of before (one ∷ [])) ∙ ap (map name_of) (ap (λ those. before ++ those) found ∙ sym more.is))

pub not_first : {Y : Type 0} {before piece after : List Y} (one : Y) → More before piece after → (one ∷ []) ≡ piece → false ≡ is_empty after
not_first {Y} {before} {piece} {after} one more found = sym (ne_eqb (length after) 0 (λ e. omega (arith, e, ap length more.is, length-append before piece, ap length found)))
