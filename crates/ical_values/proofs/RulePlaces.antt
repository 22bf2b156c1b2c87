-- Rules, part by part: the parts that are read, and where the rest is bad behind them.
use Rattle.std.proofs.Common.{◌≡◌, ℕ, suc, ◌+◌, ◌-◌, ◌≤◌, true, false, if◌then◌else◌, List, [], ◌∷◌, ◌++◌, length, map, take, Option, Some, None, option_map, option_and_then, refl, sym, ap, subst, ◌∙◌, arith, inl, inr, append_assoc}
use Rattle.std.proofs.lemmas.List.{length-append, append-nil}
use Rattle.std.proofs.lemmas.Option.{none-some}
use Rattle.cal_base.specs.Lines.ContentLines.{pieces, every}
use Rattle.cal_moment.specs.BadPlace.{IsBadAt}
use Rattle.cal_model.specs.declared.rule.Rule.{Rule}
use Rattle.cal_model.specs.Values.BadValues.{Reads, IsBadRuleAt}
use Rattle.cal_model.specs.Values.RuleTexts.{Part, part_of, without_last_empty, rule_parts, rule_of_parts, rule_in_grammar, is_within_bound, rule_of, if_within_bound}
use Rattle.cal_model.proofs.Values.BadValueLaws.{first_piece, pieces-lacks}
use Rattle.cal_model.proofs.Values.CutLemmas.{Lacks, cases_Option, cut-append}
use Rattle.cal_model.proofs.Values.LengthLaws.{some_octets}
use Rattle.ical_values.proofs.CutTexts.{pieces_at}
use Rattle.ical_values.proofs.SignPlaces.{Same, bad_behind_octet}

-- What stands behind a text is bad at a place behind it.
pub bad_behind_front : {V W : Type 0} (read : List ℕ → Option V) (other : List ℕ → Option W) (front : List ℕ) → ((rest : List ℕ) → Same read other (front ++ rest) rest) → (rest : List ℕ) (place : ℕ) → IsBadAt (Reads other) rest place → IsBadAt (Reads read) (front ++ rest) (length front + place)
bad_behind_front {V} {W} read other [] same rest place bad =
    let here : IsBadAt (Reads read) rest place = record {
      outside = λ is. bad.outside ((same rest).0 is);
      within = bad.within;
      begins = (bad.begins.0, (same (take place rest ++ bad.begins.0)).1 bad.begins.1);
      longest = λ n above most begins. bad.longest n above most (begins.0, (same (take n rest ++ begins.0)).0 begins.1);
    } in
    let there : place ≡ 0 + place = omega arith in
    subst (IsBadAt (Reads read) rest) there here
bad_behind_front {V} {W} read other (c ∷ front) same rest place bad =
    let later = λ (text : List ℕ). read (c ∷ text) in
    let found = bad_behind_octet read later c (λ text. (λ is. is, λ is. is)) (front ++ rest) (length front + place) (bad_behind_front later other front same rest place bad) in
    let there : suc (length front + place) ≡ length (c ∷ front) + place = omega arith in
    subst (IsBadAt (Reads read) (c ∷ front ++ rest)) there found

-- Parts that are read

-- the rule of some parts and of those of a text
abbrev pub rule_behind : List Part → List ℕ → Option Rule
rule_behind done text = option_and_then (λ parts. rule_of_parts (done ++ parts)) (rule_parts text)

-- before the first part it is the rule of the text
pub rule_begins : (text : List ℕ) → rule_behind [] text ≡ rule_in_grammar text
unfolding rule_in_grammar
rule_begins text = refl

-- the parts of a text behind a part
pub parts_behind : (piece behind : List ℕ) (part : Part) → Lacks 59 piece → part_of piece ≡ Some part → rule_parts (piece ++ (59 ∷ behind)) ≡ option_map (λ parts. part ∷ parts) (rule_parts behind)
parts_behind piece behind part lacks reads =
    let next = first_piece 59 behind in
    let split : pieces 59 (piece ++ (59 ∷ behind)) ≡ piece ∷ next.0 ∷ next.1 = pieces_at 59 (piece ++ (59 ∷ behind)) piece behind (cut-append 59 piece behind lacks) ∙ ap (λ ps. piece ∷ ps) next.2 in
    ap (λ ps. every (map part_of (without_last_empty ps))) split
    ∙ (ap (λ o. every (o ∷ map part_of (without_last_empty (next.0 ∷ next.1)))) reads
    ∙ sym (ap (λ ps. option_map (λ parts. part ∷ parts) (every (map part_of (without_last_empty ps)))) next.2))

-- one more part is done
pub one_more_part : (done : List Part) (piece behind : List ℕ) (part : Part) → Lacks 59 piece → part_of piece ≡ Some part → rule_behind done (piece ++ (59 ∷ behind)) ≡ rule_behind (done ++ part ∷ []) behind
one_more_part done piece behind part lacks reads = ap (option_and_then (λ parts. rule_of_parts (done ++ parts))) (parts_behind piece behind part lacks reads) ∙ moved (rule_parts behind)
  where
    moved : (o : Option (List Part)) → option_and_then (λ parts. rule_of_parts (done ++ parts)) (option_map (λ parts. part ∷ parts) o) ≡ option_and_then (λ parts. rule_of_parts ((done ++ part ∷ []) ++ parts)) o
    moved None = refl
    moved (Some parts) = ap rule_of_parts (sym (append_assoc done (part ∷ []) parts))

-- a last piece that is not empty stays
pub one_piece : (c : ℕ) (piece : List ℕ) → without_last_empty ((c ∷ piece) ∷ []) ≡ (c ∷ piece) ∷ []
one_piece c piece = ap (λ b. if b then [] else (c ∷ piece) ∷ []) (some_octets (c ∷ piece) (λ none. omega (arith, ap length none)))

-- the last part of a text
pub last_part_read : (done : List Part) (piece : List ℕ) (part : Part) → Lacks 59 piece → part_of piece ≡ Some part → rule_behind done piece ≡ rule_of_parts (done ++ part ∷ [])
last_part_read done [] part lacks reads = absurd (none-some part reads)
last_part_read done (c ∷ piece) part lacks reads =
    ap (λ ps. option_and_then (λ parts. rule_of_parts (done ++ parts)) (every (map part_of (without_last_empty ps)))) (pieces-lacks 59 (c ∷ piece) lacks)
    ∙ (ap (λ ps. option_and_then (λ parts. rule_of_parts (done ++ parts)) (every (map part_of ps))) (one_piece c piece)
    ∙ ap (λ o. option_and_then (λ parts. rule_of_parts (done ++ parts)) (every (o ∷ []))) reads)

-- an empty piece at the end is passed over
pub nothing_behind : (done : List Part) → rule_behind done [] ≡ rule_of_parts done
nothing_behind done = ap rule_of_parts (append-nil done)

-- A text is bad behind a part where what stands behind the part is bad.
pub bad_behind_part : (done : List Part) (piece behind : List ℕ) (part : Part) (place : ℕ) → Lacks 59 piece → part_of piece ≡ Some part → IsBadAt (Reads (rule_behind (done ++ part ∷ []))) behind place → IsBadAt (Reads (rule_behind done)) (piece ++ (59 ∷ behind)) (length piece + 1 + place)
bad_behind_part done piece behind part place lacks reads bad =
    let front = piece ++ (59 ∷ []) in
    let read = rule_behind done in
    let later = rule_behind (done ++ part ∷ []) in
    let same : (rest : List ℕ) → read (front ++ rest) ≡ later rest = λ rest. ap read (append_assoc piece (59 ∷ []) rest) ∙ one_more_part done piece rest part lacks reads in
    let found = bad_behind_front read later front (λ rest. (λ is. (is.0, sym (same rest) ∙ is.1), λ is. (is.0, same rest ∙ is.1))) behind place bad in
    let there : length front + place ≡ length piece + 1 + place = omega (arith, length-append piece (59 ∷ [])) in
    subst (IsBadAt (Reads read) (piece ++ (59 ∷ behind))) there (subst (λ (t : List ℕ). IsBadAt (Reads read) t (length front + place)) (append_assoc piece (59 ∷ []) behind) found)

-- The rest of a text, part by part

-- where a text is bad if what is left of it is
abbrev pub BadBehindParts : List ℕ → List Part → Option (List ℕ) → Type 0
BadBehindParts text done None = Unit {0}
BadBehindParts text done (Some left) = (length left ≤ length text) × ((place : ℕ) → IsBadAt (Reads (rule_behind done)) left place → IsBadAt (Reads rule_in_grammar) text (length text - length left + place))

pub parts_begin : (text : List ℕ) → BadBehindParts text [] (Some text)
parts_begin text = (
  omega arith,
  λ place bad.
      let there : place ≡ length text - length text + place = omega arith in
      subst (IsBadAt (Reads rule_in_grammar) text) there (record {
        outside = λ is. bad.outside (is.0, rule_begins text ∙ is.1);
        within = bad.within;
        begins = (bad.begins.0, (bad.begins.1.0, sym (rule_begins (take place text ++ bad.begins.0)) ∙ bad.begins.1.1));
        longest = λ n above most begins. bad.longest n above most (begins.0, (begins.1.0, rule_begins (take n text ++ begins.0) ∙ begins.1.1));
      }),
)

pub parts_go_on : (text left piece behind : List ℕ) (done : List Part) (part : Part) → BadBehindParts text done (Some left) → left ≡ piece ++ (59 ∷ behind) → Lacks 59 piece → part_of piece ≡ Some part → BadBehindParts text (done ++ part ∷ []) (Some behind)
parts_go_on text left piece behind done part rest whole lacks reads =
    let size : length left ≡ length piece + 1 + length behind = omega (arith, ap length whole, length-append piece (59 ∷ behind)) in (
      omega (arith, size, rest.0),
      λ place bad.
          let here = subst (λ (t : List ℕ). IsBadAt (Reads (rule_behind done)) t (length piece + 1 + place)) (sym whole) (bad_behind_part done piece behind part place lacks reads bad) in
          let there : length text - length left + (length piece + 1 + place) ≡ length text - length behind + place = omega (arith, size, rest.0) in
          subst (IsBadAt (Reads rule_in_grammar) text) there (rest.1 (length piece + 1 + place) here),
    )

-- What is said of the whole text

-- what is said of a text that is such a rule in the grammar, or none
abbrev place_said : List ℕ → ℕ → Option Rule → Type 0
place_said text place o = elim o [
  | None ↦ IsBadAt (Reads rule_in_grammar) text place
  | Some rule ↦ (is_within_bound rule ≡ false) × (place ≡ 0)
]

-- outside the grammar the place is that of the text
pub bad_outside : (text : List ℕ) (place : ℕ) → IsBadAt (Reads rule_in_grammar) text place → (rule_of text ≡ None) × IsBadRuleAt text place
bad_outside text place bad =
    elim (cases_Option (rule_in_grammar text)) [
      | inl none ↦ (ap (option_and_then if_within_bound) none, subst (place_said text place) (sym none) bad)
      | inr some ↦ absurd (bad.outside some)
    ]

-- where only the bound refuses a rule
pub bad_by_bound : (text : List ℕ) (rule : Rule) → rule_in_grammar text ≡ Some rule → is_within_bound rule ≡ false → (rule_of text ≡ None) × IsBadRuleAt text 0
bad_by_bound text rule is past = (
  ap (option_and_then if_within_bound) is ∙ ap (λ b. if b then Some rule else None) past,
  subst (place_said text 0) (sym is) (past, refl),
)

pub whole_rule : (text : List ℕ) (rule : Rule) → rule_in_grammar text ≡ Some rule → is_within_bound rule ≡ true → rule_of text ≡ Some rule
whole_rule text rule is within = ap (option_and_then if_within_bound) is ∙ ap (λ b. if b then Some rule else None) within
