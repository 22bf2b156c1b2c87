-- The lengths that are computed are those that their texts spell.
use Rattle.std.proofs.Common.{◌≡◌, ◌≢◌, ℕ, ◌+◌, ◌*◌, ◌<◌, Bool, true, false, ◌==◌, if◌then◌else◌, List, [], ◌∷◌, ◌++◌, length, map, codes, Option, Some, None, option_map, option_and_then, ℤ, refl, sym, ap, ap₂, subst, ◌∙◌, arith, inl, inr, append_assoc}
use Rattle.std.proofs.lemmas.Bool.{eqb-true, ne_eqb, cases_Bool}
use Rattle.std.proofs.lemmas.Option.{none-some, same_Some}
use Rattle.cal_base.specs.Lines.ComponentTrees.{or_else}
use Rattle.cal_moment.specs.declared.stamp.Length.{Length}
use Rattle.cal_moment.specs.LengthTexts.{SpellsCount, SpellsPart, SpellsParts, SpellsTimes, SpellsBody, SpellsSign, SpellsLength, unit_letter, unit_seconds, time_units}
use Rattle.cal_moment.specs.LengthTexts.SpellsBody.{weeks, days_alone, times_alone, days_and_times}
use Rattle.cal_moment.specs.Texts.{sign_text}
use Rattle.cal_model.specs.Values.ValueTexts.{cut, count_before, parts_of, time_letters, times_of, alone, count_with, days_of, both, days_before, body_of, sign_of, signed_length, length_of_parts, length_of}
use Rattle.cal_model.proofs.Values.CutLemmas.{cases_Option, option_map_some, and_then_some, if_some, no_octets, Lacks, lacks-append, lacks-count, cut-none, cut-append, cut-some, BeginsWithCount, count_before-append, count_before-none, count_before-some}

-- Units

-- what a function is applied to
abbrev Domain : {A B : Type 0} → (A → B) → Type 0
Domain {A} f = A

-- hours, minutes and seconds
abbrev TimeUnit : Type 0
TimeUnit = Domain unit_letter

-- the letter of a unit and its seconds
abbrev letter_and_seconds : TimeUnit → ℕ × ℕ
letter_and_seconds unit = (unit_letter unit, unit_seconds unit)

-- an option that is not empty has no octet count of 0
pub some_octets : (text : List ℕ) → text ≢ [] → (length text == 0) ≡ false
some_octets [] some = absurd (some refl)
some_octets (c ∷ text) some = ne_eqb (length (c ∷ text)) 0 (λ e. omega (arith, e))

-- no unit has this letter
abbrev AreOthers : ℕ → List TimeUnit → Type 0
AreOthers letter [] = Unit {0}
AreOthers letter (unit ∷ units) = (unit_letter unit ≢ letter) × AreOthers letter units

-- each letter is above the digits, and no later unit has it
abbrev AreLetters : List TimeUnit → Type 0
AreLetters [] = Unit {0}
AreLetters (unit ∷ units) = (57 < unit_letter unit) × AreOthers (unit_letter unit) units × AreLetters units

-- parts of such units lack another letter
lacks-parts : (letter : ℕ) (units : List TimeUnit) (text : List ℕ) (seconds : ℕ) → 57 < letter → AreOthers letter units → SpellsParts units text seconds → Lacks letter text
lacks-parts letter [] text seconds above others s = rw s.0 tt
lacks-parts letter (unit ∷ units) text seconds above others s =
    elim s [
      | inl without ↦ lacks-parts letter units text seconds above others.1 without
      | inr part ↦ rw part.spelled (lacks-append letter part.number (unit_letter unit ∷ part.rest) (lacks-count letter part.number part.n above part.spells_number) (others.0, lacks-parts letter units part.rest part.others above others.1 part.spells_rest))
    ]

-- the parts of a text by the number that may stand in front
abbrev parts_found : ℕ → List (ℕ × ℕ) → List ℕ → Option (ℕ × List ℕ) → Option ℕ
parts_found seconds units text o = elim o [
  | None ↦ parts_of units text
  | Some found ↦ option_map (λ others. found.0 * seconds + others) (parts_of units found.1)
]

parts_of-SpellsParts : (units : List TimeUnit) (text : List ℕ) (seconds : ℕ) → AreLetters units → SpellsParts units text seconds → parts_of (map letter_and_seconds units) text ≡ Some seconds
parts_of-SpellsParts [] text seconds letters s = rw (s.0, s.1) refl
parts_of-SpellsParts (unit ∷ units) text seconds letters s =
    let later = map letter_and_seconds units in
    elim s [
      | inl without ↦ (ap (parts_found (unit_seconds unit) later text) (count_before-none (unit_letter unit) text (lacks-parts (unit_letter unit) units text seconds letters.0 letters.1 without))
          ∙ parts_of-SpellsParts units text seconds letters.2 without)
      | inr part ↦ (ap (parts_found (unit_seconds unit) later text) (ap (count_before (unit_letter unit)) part.spelled ∙ count_before-append (unit_letter unit) part.number part.rest part.n letters.0 part.spells_number)
          ∙ (ap (option_map (λ others. part.n * unit_seconds unit + others)) (parts_of-SpellsParts units part.rest part.others letters.2 part.spells_rest)
          ∙ ap (λ n. Some n) (sym part.total)))
    ]

-- a part in front, where the law holds of what follows it
part_in_front : (unit : TimeUnit) (units : List TimeUnit) (text : List ℕ) (seconds n : ℕ) (rest : List ℕ) → ((t : List ℕ) (s : ℕ) → parts_of (map letter_and_seconds units) t ≡ Some s → SpellsParts units t s)
    → parts_of (map letter_and_seconds (unit ∷ units)) text ≡ Some seconds → count_before (unit_letter unit) text ≡ Some (n, rest) → SpellsPart unit (SpellsParts units) text seconds
part_in_front unit units text seconds n rest law e is =
    let front = count_before-some (unit_letter unit) text n rest is in
    let whole = sym (ap (parts_found (unit_seconds unit) (map letter_and_seconds units) text) is) ∙ e in
    let others = option_map_some (λ others. n * unit_seconds unit + others) (parts_of (map letter_and_seconds units) rest) seconds whole in
    record { number = front.number; n = n; rest = rest; others = others.0; spells_number = front.spells; spells_rest = law rest others.0 others.1; spelled = front.split; total = sym others.2 }

SpellsParts-parts_of : (units : List TimeUnit) (text : List ℕ) (seconds : ℕ) → parts_of (map letter_and_seconds units) text ≡ Some seconds → SpellsParts units text seconds
SpellsParts-parts_of [] text seconds e =
    let found = if_some (length text == 0) (Some 0) seconds e in
    (no_octets text found.0, sym (same_Some 0 seconds found.1))
SpellsParts-parts_of (unit ∷ units) text seconds e =
    elim (cases_Option (count_before (unit_letter unit) text)) [
      | inl none ↦ inl (SpellsParts-parts_of units text seconds (sym (ap (parts_found (unit_seconds unit) (map letter_and_seconds units) text) none) ∙ e))
      | inr some ↦ inr (part_in_front unit units text seconds some.0.0 some.0.1 (SpellsParts-parts_of units) e some.1)
    ]

-- Times

time_units_are_letters : AreLetters time_units
time_units_are_letters = (omega arith, (λ e. omega (arith, e), (λ e. omega (arith, e), tt)), (omega arith, (λ e. omega (arith, e), tt), (omega arith, tt, tt)))

times_of-SpellsTimes : (text : List ℕ) (seconds : ℕ) → SpellsTimes text seconds → times_of text ≡ Some seconds
times_of-SpellsTimes text seconds s =
    ap (λ b. if b then None else parts_of time_letters text) (some_octets text s.0)
    ∙ parts_of-SpellsParts time_units text seconds time_units_are_letters s.1

SpellsTimes-times_of : (text : List ℕ) (seconds : ℕ) → times_of text ≡ Some seconds → SpellsTimes text seconds
SpellsTimes-times_of [] seconds e = absurd (none-some seconds e)
SpellsTimes-times_of (c ∷ text) seconds e =
    let some = some_octets (c ∷ text) (λ none. absurd_list c text none) in
    (λ none. absurd_list c text none, SpellsParts-parts_of time_units (c ∷ text) seconds (sym (ap (λ b. if b then None else parts_of time_letters (c ∷ text)) some) ∙ e))
  where
    absurd_list : (c : ℕ) (text : List ℕ) → c ∷ text ≡ [] → ⊥
    absurd_list c text none = omega (arith, ap length none)

-- a number and the letter that ends the text
count_with-append : (letter : ℕ) (number : List ℕ) (n : ℕ) → 57 < letter → SpellsCount number n → count_with letter (number ++ (letter ∷ [])) ≡ Some n
count_with-append letter number n above s = ap (option_and_then alone) (count_before-append letter number [] n above s)

count_with-none : (letter : ℕ) (text : List ℕ) → Lacks letter text → count_with letter text ≡ None
count_with-none letter text lacks = ap (option_and_then alone) (count_before-none letter text lacks)

count_with-some : (letter : ℕ) (text : List ℕ) (n : ℕ) → count_with letter text ≡ Some n → BeginsWithCount letter text n []
count_with-some letter text n e =
    let found = and_then_some alone (count_before letter text) n e in
    let ended = if_some (length found.0.1 == 0) (Some found.0.0) n found.2 in
    count_before-some letter text n [] (found.1 ∙ ap₂ (λ m rest. Some (m, rest)) (same_Some found.0.0 n ended.1) (no_octets found.0.1 ended.0))

-- Bodies

both_some : (days seconds : Option ℕ) (value : ℕ × ℕ) → both days seconds ≡ Some value → (days ≡ Some value.0) × (seconds ≡ Some value.1)
both_some (Some d) (Some s) value e = let same = same_Some (d, s) value e in (ap (λ (v : ℕ × ℕ). Some v.0) same, ap (λ (v : ℕ × ℕ). Some v.1) same)
both_some (Some d) None value e = absurd (none-some value e)
both_some None seconds value e = absurd (none-some value e)

abbrev body_cut : List ℕ → Option (List ℕ × List ℕ) → Option (ℕ × ℕ)
body_cut text o = elim o [
  | None ↦ both (days_of text) (Some 0)
  | Some parts ↦ both (days_before parts.0) (times_of parts.1)
]

-- days or weeks, without times
body_of-days : (text : List ℕ) (days : ℕ) → Lacks 84 text → days_of text ≡ Some days → body_of text ≡ Some (days, 0)
body_of-days text days lacks e = ap (body_cut text) (cut-none 84 text lacks) ∙ ap (λ d. both d (Some 0)) e

-- a number with a letter lacks another one
lacks-count_with : (other letter : ℕ) (number : List ℕ) (n : ℕ) → 57 < other → letter ≢ other → SpellsCount number n → Lacks other (number ++ (letter ∷ []))
lacks-count_with other letter number n above apart s = lacks-append other number (letter ∷ []) (lacks-count other number n above s) (apart, tt)

weeks_body : (number : List ℕ) (n : ℕ) → SpellsCount number n → body_of (number ++ codes "W") ≡ Some (7 * n, 0)
weeks_body number n s =
    body_of-days (number ++ codes "W") (7 * n) (lacks-count_with 84 87 number n (omega arith) (λ e. omega (arith, e)) s)
    (ap (λ o. or_else (option_map (λ n. 7 * n) o) (count_with 68 (number ++ codes "W"))) (count_with-append 87 number n (omega arith) s))

days_body : (number : List ℕ) (n : ℕ) → SpellsCount number n → body_of (number ++ codes "D") ≡ Some (n, 0)
days_body number n s =
    body_of-days (number ++ codes "D") n (lacks-count_with 84 68 number n (omega arith) (λ e. omega (arith, e)) s)
    (ap (λ o. or_else (option_map (λ n. 7 * n) o) (count_with 68 (number ++ codes "D"))) (count_with-none 87 (number ++ codes "D") (lacks-count_with 87 68 number n (omega arith) (λ e. omega (arith, e)) s))
    ∙ count_with-append 68 number n (omega arith) s)

days_before-count : (number : List ℕ) (n : ℕ) → SpellsCount number n → days_before (number ++ codes "D") ≡ Some n
days_before-count number n s =
    ap (λ b. if b then Some 0 else count_with 68 (number ++ codes "D")) (some_octets (number ++ codes "D") (some number))
    ∙ count_with-append 68 number n (omega arith) s
  where
    some : (number : List ℕ) → number ++ codes "D" ≢ []
    some [] e = omega (arith, ap length e)
    some (c ∷ number) e = omega (arith, ap length e)

body_of-SpellsBody : (text : List ℕ) (days seconds : ℕ) → SpellsBody text days seconds → body_of text ≡ Some (days, seconds)
body_of-SpellsBody text days seconds (weeks number n s spelled d z) = ap body_of spelled ∙ (weeks_body number n s ∙ ap₂ (λ a b. Some (a, b)) (sym d) (sym z))
body_of-SpellsBody text days seconds (days_alone number s spelled z) = ap body_of spelled ∙ (days_body number days s ∙ ap (λ b. Some (days, b)) (sym z))
body_of-SpellsBody text days seconds (times_alone times s spelled z) =
    ap body_of spelled ∙ (ap (both (Some 0)) (times_of-SpellsTimes times seconds s) ∙ ap (λ a. Some (a, seconds)) (sym z))
body_of-SpellsBody text days seconds (days_and_times number times s t spelled) =
    let cut_here = cut-append 84 (number ++ codes "D") times (lacks-count_with 84 68 number days (omega arith) (λ e. omega (arith, e)) s) in
    let whole : text ≡ (number ++ codes "D") ++ (84 ∷ times) = spelled ∙ sym (append_assoc number (codes "D") (84 ∷ times)) in
    ap body_of whole
    ∙ (ap (body_cut ((number ++ codes "D") ++ (84 ∷ times))) cut_here
    ∙ ap₂ both (days_before-count number days s) (times_of-SpellsTimes times seconds t))

-- weeks or days
SpellsBody-days : (text : List ℕ) (days : ℕ) → days_of text ≡ Some days → SpellsBody text days 0
SpellsBody-days text days e =
    elim (cases_Option (count_with 87 text)) [
      | inl none ↦ (let front = count_with-some 68 text days (sym (ap (λ o. or_else (option_map (λ n. 7 * n) o) (count_with 68 text)) none) ∙ e) in
          days_alone front.number front.spells front.split refl)
      | inr some ↦ (let front = count_with-some 87 text some.0 some.1 in
          let number = same_Some (7 * some.0) days (sym (ap (λ o. or_else (option_map (λ n. 7 * n) o) (count_with 68 text)) some.1) ∙ e) in
          weeks front.number some.0 front.spells front.split (sym number) refl)
    ]

-- perhaps days, and times
SpellsBody-times : (text front times : List ℕ) (days seconds : ℕ) → text ≡ front ++ (84 ∷ times) → days_before front ≡ Some days → times_of times ≡ Some seconds → SpellsBody text days seconds
SpellsBody-times text [] times days seconds split d t =
    times_alone times (SpellsTimes-times_of times seconds t) split (sym (same_Some 0 days d))
SpellsBody-times text (c ∷ front) times days seconds split d t =
    let some = some_octets (c ∷ front) (λ none. omega (arith, ap length none)) in
    let before = count_with-some 68 (c ∷ front) days (sym (ap (λ b. if b then Some 0 else count_with 68 (c ∷ front)) some) ∙ d) in
    days_and_times before.number times before.spells (SpellsTimes-times_of times seconds t)
    (split ∙ (ap (λ f. f ++ (84 ∷ times)) before.split ∙ append_assoc before.number (codes "D") (84 ∷ times)))

SpellsBody-body_of : (text : List ℕ) (days seconds : ℕ) → body_of text ≡ Some (days, seconds) → SpellsBody text days seconds
SpellsBody-body_of text days seconds e =
    elim (cases_Option (cut 84 text)) [
      | inl none ↦ (let parts = both_some (days_of text) (Some 0) (days, seconds) (sym (ap (body_cut text) none) ∙ e) in
          subst (λ (s : ℕ). SpellsBody text days s) (same_Some 0 seconds parts.1) (SpellsBody-days text days parts.0))
      | inr some ↦ (let parts = both_some (days_before some.0.0) (times_of some.0.1) (days, seconds) (sym (ap (body_cut text) some.1) ∙ e) in
          SpellsBody-times text some.0.0 some.0.1 days seconds (cut-some 84 text some.0 some.1) parts.0 parts.1)
    ]

-- Signs

sign_of-SpellsSign : (text : List ℕ) (negative : Bool) → SpellsSign text negative → sign_of text ≡ Some negative
sign_of-SpellsSign text true s = elim s [ inl sign ↦ ap sign_of sign | inr none ↦ ap sign_of none.0 ∙ ap (λ b. Some b) (sym none.1) ]
sign_of-SpellsSign text false s = elim s [ inl sign ↦ ap sign_of sign | inr none ↦ ap sign_of none.0 ]

SpellsSign-sign_of : (text : List ℕ) (negative : Bool) → sign_of text ≡ Some negative → SpellsSign text negative
SpellsSign-sign_of [] negative e = inr (refl, sym (same_Some false negative e))
SpellsSign-sign_of (c ∷ []) negative e =
    elim (cases_Bool (c == 45)) [
      | inl minus ↦ (let is = same_Some true negative (sym (ap (λ b. if b then Some true else (if c == 43 then Some false else None)) minus) ∙ e) in
          inl (ap (λ o. o ∷ []) (eqb-true c 45 minus) ∙ ap sign_text is))
      | inr other ↦ (let plus = if_some (c == 43) (Some false) negative (sym (ap (λ b. if b then Some true else (if c == 43 then Some false else None)) other) ∙ e) in
          inl (ap (λ o. o ∷ []) (eqb-true c 43 plus.0) ∙ ap sign_text (same_Some false negative plus.1)))
    ]
SpellsSign-sign_of (c ∷ d ∷ text) negative e = absurd (none-some negative e)

lacks-sign : (text : List ℕ) (negative : Bool) → SpellsSign text negative → Lacks 80 text
lacks-sign text true s = elim s [ inl sign ↦ rw sign (λ e. omega (arith, e), tt) | inr none ↦ rw none.0 tt ]
lacks-sign text false s = elim s [ inl sign ↦ rw sign (λ e. omega (arith, e), tt) | inr none ↦ rw none.0 tt ]

-- Lengths

abbrev length_with : ℤ → ℤ → Length
length_with days seconds = record { days = days; seconds = seconds }

-- the length of a sign and a body
abbrev signed_body : Option (ℕ × ℕ) → Bool → Option Length
signed_body body negative = option_map (signed_length negative) body

-- A text that spells a length has it.
pub length_of-SpellsLength : (text : List ℕ) (value : Length) → SpellsLength text value → length_of text ≡ Some value
unfolding length_of
length_of-SpellsLength text value s =
    let cut_here = ap (cut 80) s.spelled ∙ cut-append 80 s.sign s.body (lacks-sign s.sign s.negative s.spells_sign) in
    ap (option_and_then length_of_parts) cut_here
    ∙ (ap (option_and_then (signed_body (body_of s.body))) (sign_of-SpellsSign s.sign s.negative s.spells_sign)
    ∙ (ap (option_map (signed_length s.negative)) (body_of-SpellsBody s.body s.days s.seconds s.spells_body)
    ∙ ap₂ (λ d t. Some (length_with d t)) (sym s.days_number) (sym s.seconds_number)))

-- A text that has a length spells it.
pub SpellsLength-length_of : (text : List ℕ) (value : Length) → length_of text ≡ Some value → SpellsLength text value
unfolding length_of
SpellsLength-length_of text value e =
    let parts = and_then_some length_of_parts (cut 80 text) value e in
    let sign = and_then_some (signed_body (body_of parts.0.1)) (sign_of parts.0.0) value parts.2 in
    let body = option_map_some (signed_length sign.0) (body_of parts.0.1) value sign.2 in
    record {
      sign = parts.0.0;
      negative = sign.0;
      body = parts.0.1;
      days = body.0.0;
      seconds = body.0.1;
      spells_sign = SpellsSign-sign_of parts.0.0 sign.0 sign.1;
      spells_body = SpellsBody-body_of parts.0.1 body.0.0 body.0.1 body.1;
      spelled = cut-some 80 text parts.0 parts.1;
      days_number = sym (ap (λ (l : Length). l.days) body.2);
      seconds_number = sym (ap (λ (l : Length). l.seconds) body.2);
    }
