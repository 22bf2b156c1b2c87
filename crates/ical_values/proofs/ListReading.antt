-- A list of values, item by item.
use Rattle.std.proofs.Common.{◌≡◌, ◌≢◌, ℕ, ◌+◌, ◌-◌, ◌≤◌, ◌==◌, Bool, true, false, List, [], ◌∷◌, ◌++◌, length, map, Option, Some, None, option_map, refl, sym, ap, subst, ◌∙◌, arith, append_assoc}
use Rattle.std.specs.Prelude.{IfNone}
use Rattle.std.specs.Borrow.{Bor}
use Rattle.std.proofs.lemmas.Bool.{eqb-false}
use Rattle.std.proofs.lemmas.List.{length-append, append-nil}
use Rattle.cal_base.specs.Lines.ContentLines.{pieces, every}
use Rattle.cal_moment.specs.BadPlace.{IsIn, IsBadAt}
use Rattle.cal_model.specs.Values.BadValues.{Reads}
use Rattle.cal_model.specs.Values.RuleTexts.{list_of}
use Rattle.cal_model.specs.Values.ValueTexts.{cut}
use Rattle.cal_model.proofs.Values.CutLemmas.{Lacks, cut-some}
use Rattle.ical_values.specs.Parts.{LacksComma, later_pieces, piece_parts, preceded, text_there}
use Rattle.ical_values.proofs.CutTexts.{found}
use Rattle.ical_values.proofs.ListPlaces.{bad_alone, bad_first, bad_behind}

-- what stands before the first of an octet has none of it
found_lacks : (octet : ℕ) (test : Bool) (c : ℕ) (text : List ℕ) (later : Option (List ℕ × List ℕ)) (before behind : List ℕ) → (test ≡ false → c ≢ octet) → ((front back : List ℕ) → later ≡ Some (front, back) → Lacks octet front) → found test c text later ≡ Some (before, behind) → Lacks octet before
found_lacks octet true c text later before behind other those is =
    let same : ([], text) ≡ (before, behind) = cc in
    subst (Lacks octet) (ap (λ (parts : List ℕ × List ℕ). parts.0) same) tt
found_lacks octet false c text None before behind other those is = absurd (cc)
found_lacks octet false c text (Some (front, back)) before behind other those is =
    let same : (c ∷ front, back) ≡ (before, behind) = cc in
    subst (Lacks octet) (ap (λ (parts : List ℕ × List ℕ). parts.0) same) (other refl, those front back refl)

pub cut-lacks : (octet : ℕ) (text before behind : List ℕ) → cut octet text ≡ Some (before, behind) → Lacks octet before
cut-lacks octet [] before behind is = absurd (cc)
cut-lacks octet (c ∷ text) before behind is =
    found_lacks octet (c == octet) c text (cut octet text) before behind (λ test. eqb-false c octet test) (λ front back there. cut-lacks octet text front back there) is

none_lacks : (octet : ℕ) (test : Bool) (c : ℕ) (text : List ℕ) (later : Option (List ℕ × List ℕ)) → (test ≡ false → c ≢ octet) → (later ≡ None → Lacks octet text) → found test c text later ≡ None → Lacks octet (c ∷ text)
none_lacks octet true c text later other those is = absurd (cc)
none_lacks octet false c text None other those is = (other refl, those refl)
none_lacks octet false c text (Some parts) other those is = absurd (cc)

pub no_cut-lacks : (octet : ℕ) (text : List ℕ) → cut octet text ≡ None → Lacks octet text
no_cut-lacks octet [] is = tt
no_cut-lacks octet (c ∷ text) is = none_lacks octet (c == octet) c text (cut octet text) (λ test. eqb-false c octet test) (λ none. no_cut-lacks octet text none) is

pub as_lacks : (text : List ℕ) → LacksComma text → Lacks 44 text
as_lacks [] lacks = tt
as_lacks (c ∷ text) lacks = (lacks.0, as_lacks text lacks.1)

-- The values so far

preceded_more : {X : Type 0} (done : List X) (x : X) (rest : Option (List X)) → preceded (done ++ x ∷ []) rest ≡ preceded done (option_map (λ xs. x ∷ xs) rest)
preceded_more done x None = refl
preceded_more done x (Some xs) = ap (λ those. Some those) (append_assoc done (x ∷ []) xs)

module _ {X : Type 0} (read : List ℕ → Option X) where
  -- the values of what is left
  abbrev pub left_values : Option (List ℕ) → Option (List X)
  left_values left = every (map read (later_pieces 44 left))

  pub one_more : (text left piece : List ℕ) (behind : Option (List ℕ)) (done more : List X) (x : X) → preceded done (left_values (Some left)) ≡ list_of read text → pieces 44 left ≡ piece ∷ later_pieces 44 behind → read piece ≡ Some x → more ≡ done ++ x ∷ [] → preceded more (left_values behind) ≡ list_of read text
  one_more text left piece behind done more x so_far split is pushed =
      ap (λ those. preceded those (left_values behind)) pushed
      ∙ (preceded_more done x (left_values behind)
      ∙ (sym (ap (preceded done) (ap (λ ps. every (map read ps)) split ∙ ap (λ o. every (o ∷ map read (later_pieces 44 behind))) is)) ∙ so_far))

  pub all_values : (text : List ℕ) (done : List X) → preceded done (left_values None) ≡ list_of read text → list_of read text ≡ Some done
  all_values text done so_far = sym so_far ∙ ap (λ those. Some those) (append-nil done)

  -- the place in a text of a bad rest
  abbrev pub BadInRest : List ℕ → Option (List ℕ) → Type 0
  BadInRest text None = Unit {0}
  BadInRest text (Some left) = (length left ≤ length text) × ((place : ℕ) → IsBadAt (Reads (list_of read)) left place → IsBadAt (Reads (list_of read)) text (length text - length left + place))

  pub rest_begins : (text : List ℕ) → BadInRest text (Some text)
  rest_begins text = (omega arith, λ place bad. subst (IsBadAt (Reads (list_of read)) text) (omega arith) bad)

  pub rest_goes_on : (text left piece : List ℕ) (behind : Option (List ℕ)) (x : X) → BadInRest text (Some left) → piece_parts piece behind ≡ cut 44 left → read piece ≡ Some x → BadInRest text behind
  rest_goes_on text left piece None x rest parts is = tt
  rest_goes_on text left piece (Some behind) x rest parts is =
      let whole = cut-some 44 left (piece, behind) (sym parts) in
      let size : length left ≡ length piece + 1 + length behind = omega (arith, ap length whole, length-append piece (44 ∷ behind)) in (
        omega (arith, size, rest.0),
        λ place bad.
            let here = subst (λ (t : List ℕ). IsBadAt (Reads (list_of read)) t (length piece + 1 + place)) (sym whole) (bad_behind read piece behind x place (cut-lacks 44 left piece behind (sym parts)) is bad) in
            let same : length text - length left + (length piece + 1 + place) ≡ length text - length behind + place = omega (arith, size, rest.0) in
            subst (IsBadAt (Reads (list_of read)) text) same (rest.1 (length piece + 1 + place) here),
      )

  pub rest_is_bad : ((item : List ℕ) → IsIn (Reads read) item → LacksComma item) → (text left piece : List ℕ) (behind : Option (List ℕ)) (place : ℕ) → BadInRest text (Some left) → piece_parts piece behind ≡ cut 44 left → (behind ≡ None → piece ≡ left) → IsBadAt (Reads read) piece place → IsBadAt (Reads (list_of read)) text (length text - length left + place)
  rest_is_bad no_comma text left piece None place rest parts whole bad =
      let lacks = no_cut-lacks 44 left (sym parts) in
      let own = subst (λ (t : List ℕ). IsBadAt (Reads read) t place) (whole refl) bad in
      rest.1 place (bad_alone read (λ t is. as_lacks t (no_comma t is)) left place lacks own)
  rest_is_bad no_comma text left piece (Some behind) place rest parts whole bad =
      let same = cut-some 44 left (piece, behind) (sym parts) in
      let own = bad_first read (λ t is. as_lacks t (no_comma t is)) piece behind place (cut-lacks 44 left piece behind (sym parts)) bad in
      rest.1 place (subst (λ (t : List ℕ). IsBadAt (Reads (list_of read)) t place) (sym same) own)

-- what holds of a borrowed text that is absent
pub if_absent : (P : Type 0) (text : Option (Bor (List ℕ))) → IfNone text P → text_there text ≡ None → P
if_absent P None is none = is
if_absent P (Some text) is none = absurd (some_none text.now none)
  where
    some_none : (text : List ℕ) → Some text ≡ None → ⊥
    some_none text e = cc
