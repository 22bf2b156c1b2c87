-- Fronts of weekdays, with an ordinal or without, and of words in a table.
use Rattle.std.proofs.Common.{◌≡◌, ℕ, suc, ◌-◌, ◌<◌, ◌≤◌, true, ◌&&◌, nat_le, if◌then◌else◌, List, [], ◌∷◌, ◌++◌, length, take, drop, find, bytes_eq, codes, Option, Some, None, option_map, option_and_then, ℤ, pos, refl, sym, ap, ap₂, subst, ◌∙◌, arith, ◌⊎◌, inl, inr, append_assoc}
use Rattle.std.specs.Prelude.{nat_abs}
use Rattle.std.proofs.Math.Seq.{take-append_seam, drop-append_seam}
use Rattle.std.proofs.lemmas.Bool.{cases_Bool, and_parts, leb-true, lt-ltb, false≢true}
use Rattle.std.proofs.lemmas.List.{length-append}
use Rattle.std.proofs.lemmas.Option.{none-some, same_Some}
use Rattle.cal_base.specs.Texts.Text.{raised, raised_all}
use Rattle.cal_model.specs.declared.rule.DayPart.{DayPart}
use Rattle.cal_model.specs.Values.RuleTexts.{word_of, weekdays, weekday_named, if_place, place_number, ordinal_of, day_part, day_of, is_ordinal}
use Rattle.cal_model.specs.Values.RuleTrial.{value_ends}
use Rattle.cal_model.specs.Values.ValueTexts.{integer_of}
use Rattle.cal_model.proofs.Values.CutLemmas.{and_then_some, if_some, is_same_text}
use Rattle.cal_model.proofs.Values.LengthLaws.{some_octets}
use Rattle.cal_model.proofs.Values.ListFronts.{IsAmong, ItemFront, HasFronts, Anything, kept, place_is_narrow}
use Rattle.cal_model.proofs.Values.NumberFronts.{integer_front}
use Rattle.cal_model.proofs.Values.NumberFronts.IsDigitEnd.{nothing, a_zero, a_one}

-- Words

-- the row of a table that a text names
abbrev pub HasRow : {X : Type 0} → List (List ℕ × X) → List ℕ → X → Type 0
HasRow {X} [] text x = ⊥
HasRow {X} (row ∷ rows) text x = ((raised_all text ≡ row.0) × (row.1 ≡ x)) ⊎ HasRow rows text x

pub word_row : {X : Type 0} → (table : List (List ℕ × X)) (text : List ℕ) (x : X) → word_of table text ≡ Some x → HasRow table text x
word_row {X} [] text x e = absurd (none-some x e)
word_row {X} (row ∷ rows) text x e =
    let others = find (λ (row : List ℕ × X). bytes_eq row.0 (raised_all text)) rows in
    elim (cases_Bool (bytes_eq row.0 (raised_all text))) [
      | inl is ↦ inl (sym (is_same_text row.0 (raised_all text) is), same_Some row.1 x (sym (ap (λ b. option_map (λ (row : List ℕ × X). row.1) (if b then Some row else others)) is) ∙ e))
      | inr not ↦ inr (word_row rows text x (sym (ap (λ b. option_map (λ (row : List ℕ × X). row.1) (if b then Some row else others)) not) ∙ e))
    ]

-- Weekdays

-- what a raised text is decides its weekday
same_weekday : (text word : List ℕ) (day : ℕ) → raised_all text ≡ word → option_map (λ (row : List ℕ × ℕ). row.1) (find (λ (row : List ℕ × ℕ). bytes_eq row.0 word) weekdays) ≡ Some day → weekday_named text ≡ Some day
same_weekday text word day e is = ap (λ t. option_map (λ (row : List ℕ × ℕ). row.1) (find (λ (row : List ℕ × ℕ). bytes_eq row.0 t) weekdays)) e ∙ is

-- a first letter with a second one of the ends
record SecondLetter (c : ℕ) (day : ℕ) : Type 0 where
  letter : ℕ
  is_end : IsAmong (letter ∷ []) value_ends
  names : weekday_named (c ∷ letter ∷ []) ≡ Some day

first_letter : (c d : ℕ) (a b : ℕ) → raised_all (c ∷ d ∷ []) ≡ a ∷ b ∷ [] → raised c ≡ a
first_letter c d a b e = cc

letters : (c a b : ℕ) → raised c ≡ a → raised b ≡ b → raised_all (c ∷ b ∷ []) ≡ a ∷ b ∷ []
letters c a b first second = ap₂ (λ a b. a ∷ b ∷ []) first second

-- the first letters of Tuesday and Thursday, and of Saturday and Sunday, are one: their ends are those of the first
second_letter : (c d day : ℕ) → weekday_named (c ∷ d ∷ []) ≡ Some day → (day' : ℕ) × SecondLetter c day'
second_letter c d day e =
    elim (word_row weekdays (c ∷ d ∷ []) day e) [
      | inl mo ↦ (0, record { letter = 79; is_end = inr (inr (inr (inr (inr (inl refl))))); names = same_weekday (c ∷ codes "O") (codes "MO") 0 (letters c 77 79 (first_letter c d 77 79 mo.0) refl) refl })
      | inr (inl tu) ↦ (1, record { letter = 85; is_end = inr (inr (inr (inr (inr (inr (inl refl)))))); names = same_weekday (c ∷ codes "U") (codes "TU") 1 (letters c 84 85 (first_letter c d 84 85 tu.0) refl) refl })
      | inr (inr (inl we)) ↦ (2, record { letter = 69; is_end = inr (inr (inr (inr (inr (inr (inr (inl refl))))))); names = same_weekday (c ∷ codes "E") (codes "WE") 2 (letters c 87 69 (first_letter c d 87 69 we.0) refl) refl })
      | inr (inr (inr (inl th))) ↦ (1, record { letter = 85; is_end = inr (inr (inr (inr (inr (inr (inl refl)))))); names = same_weekday (c ∷ codes "U") (codes "TU") 1 (letters c 84 85 (first_letter c d 84 72 th.0) refl) refl })
      | inr (inr (inr (inr (inl fr)))) ↦ (4, record { letter = 82; is_end = inr (inr (inr (inr (inr (inr (inr (inr (inl refl)))))))); names = same_weekday (c ∷ codes "R") (codes "FR") 4 (letters c 70 82 (first_letter c d 70 82 fr.0) refl) refl })
      | inr (inr (inr (inr (inr (inl sa))))) ↦ (5, record { letter = 65; is_end = inr (inr (inr (inr (inr (inr (inr (inr (inr (inl refl))))))))); names = same_weekday (c ∷ codes "A") (codes "SA") 5 (letters c 83 65 (first_letter c d 83 65 sa.0) refl) refl })
      | inr (inr (inr (inr (inr (inr (inl su)))))) ↦ (6, record { letter = 85; is_end = inr (inr (inr (inr (inr (inr (inl refl)))))); names = same_weekday (c ∷ codes "U") (codes "SU") 6 (letters c 83 85 (first_letter c d 83 85 su.0) refl) refl })
      | inr (inr (inr (inr (inr (inr (inr none)))))) ↦ absurd none
    ]

-- a weekday has two letters
weekday_length : (text : List ℕ) (day : ℕ) → weekday_named text ≡ Some day → length text ≡ 2
weekday_length text day e =
    let same : (word : List ℕ) → raised_all text ≡ word → length text ≡ length word = λ word is. sym (length-map text) ∙ ap length is in
    elim (word_row weekdays text day e) [
      | inl is ↦ same (codes "MO") is.0
      | inr (inl is) ↦ same (codes "TU") is.0
      | inr (inr (inl is)) ↦ same (codes "WE") is.0
      | inr (inr (inr (inl is))) ↦ same (codes "TH") is.0
      | inr (inr (inr (inr (inl is)))) ↦ same (codes "FR") is.0
      | inr (inr (inr (inr (inr (inl is))))) ↦ same (codes "SA") is.0
      | inr (inr (inr (inr (inr (inr (inl is)))))) ↦ same (codes "SU") is.0
      | inr (inr (inr (inr (inr (inr (inr none)))))) ↦ absurd none
    ]
  where
    length-map : (text : List ℕ) → length (raised_all text) ≡ length text
    length-map [] = refl
    length-map (c ∷ text) = ap suc (length-map text)

mo_is : weekday_named (codes "MO") ≡ Some 0
mo_is = refl

pub weekday_fronts : HasFronts weekday_named Anything
weekday_fronts text [] x e = record { end = []; is_end = inl refl; value = x; reads = e; below = tt }
weekday_fronts [] (d ∷ h) x e = record { end = codes "MO"; is_end = inr (inr (inr (inl refl))); value = 0; reads = mo_is; below = tt }
weekday_fronts (c ∷ []) (d ∷ []) x e =
    let second = second_letter c d x e in
    record { end = second.1.letter ∷ []; is_end = second.1.is_end; value = second.0; reads = second.1.names; below = tt }
weekday_fronts (c ∷ []) (d ∷ f ∷ h) x e = absurd (omega (arith, weekday_length (c ∷ d ∷ f ∷ h) x e))
weekday_fronts (c ∷ b ∷ text) (d ∷ h) x e = absurd (omega (arith, weekday_length (c ∷ b ∷ text ++ d ∷ h) x e, length-append text (d ∷ h)))

-- Days of BYDAY

-- a day that is made has an ordinal only where the one that was begun has one
abbrev pub DayBelow : DayPart → DayPart → Type 0
DayBelow y x = is_ordinal y ≡ true → is_ordinal x ≡ true

-- the last two octets of a text
LastTwo : List ℕ → Type 0
LastTwo text = (front : List ℕ) × (a : ℕ) × (b : ℕ) × (text ≡ front ++ (a ∷ b ∷ []))

last_two : (text : List ℕ) → (length text < 2) ⊎ LastTwo text
unfolding LastTwo
last_two [] = inl (omega arith)
last_two (a ∷ []) = inl (omega arith)
last_two (a ∷ b ∷ []) = inr ([], a, b, refl)
last_two (a ∷ b ∷ c ∷ text) =
    elim (last_two (b ∷ c ∷ text)) [
      | inl short ↦ absurd (omega (arith, short))
      | inr two ↦ inr (a ∷ two.0, two.1, two.2, ap (λ t. a ∷ t) two.3)
    ]

day_of-split : (front : List ℕ) (a b : ℕ) → day_of (front ++ (a ∷ b ∷ [])) ≡ day_part (ordinal_of front) (weekday_named (a ∷ b ∷ []))
day_of-split front a b =
    let text = front ++ (a ∷ b ∷ []) in
    let size : length text - 2 ≡ length front = omega (arith, length-append front (a ∷ b ∷ [])) in
    ap₂ (λ f w. day_part (ordinal_of f) (weekday_named w))
    (ap (λ n. take n text) size ∙ take-append_seam front (a ∷ b ∷ []))
    (ap (λ n. drop n text) size ∙ drop-append_seam front (a ∷ b ∷ []))

-- a day of an ordinal and a weekday
record IsDayPart (ordinal : Option ℤ) (weekday : Option ℕ) (day : DayPart) : Type 0 where
  its_ordinal : ordinal ≡ Some day.ordinal
  its_weekday : weekday ≡ Some day.weekday

day_part_some : (ordinal : Option ℤ) (weekday : Option ℕ) (day : DayPart) → day_part ordinal weekday ≡ Some day → IsDayPart ordinal weekday day
day_part_some (Some o) (Some w) day e =
    let is = same_Some (record { ordinal = o; weekday = w }) day e in
    record { its_ordinal = ap (λ (d : DayPart). Some d.ordinal) is; its_weekday = ap (λ (d : DayPart). Some d.weekday) is }
day_part_some (Some o) None day e = absurd (none-some day e)
day_part_some None weekday day e = absurd (none-some day e)

abbrev made_day : ℤ → ℕ → DayPart
made_day ordinal weekday = record { ordinal = ordinal; weekday = weekday }

-- an ordinal that is written is none of 0
written_ordinal : (c : ℕ) (text : List ℕ) (o : ℤ) → ordinal_of (c ∷ text) ≡ Some o → (z : ℤ) × (integer_of (c ∷ text) ≡ Some z) × (if_place 53 z ≡ Some o) × (z ≡ o) × (1 ≤ nat_abs o)
written_ordinal c text o e =
    let some = some_octets (c ∷ text) (λ none. omega (arith, ap length none)) in
    let place = sym (ap (λ b. if b then Some (pos 0) else place_number 53 (c ∷ text)) some) ∙ e in
    let z = and_then_some (if_place 53) (integer_of (c ∷ text)) o place in
    let test = if_some (nat_le 1 (nat_abs z.0) && nat_le (nat_abs z.0) 53) (Some z.0) o z.2 in
    let parts = and_parts (nat_le 1 (nat_abs z.0)) (nat_le (nat_abs z.0) 53) test.0 in
    let is = same_Some z.0 o test.1 in
    (z.0, z.1, z.2, is, subst (λ (n : ℤ). 1 ≤ nat_abs n) is (leb-true 1 (nat_abs z.0) parts.0))

-- the ordinal of a text with an octet
ordinal_by_place : (c : ℕ) (text : List ℕ) → ordinal_of (c ∷ text) ≡ place_number 53 (c ∷ text)
ordinal_by_place c text = ap (λ b. if b then Some (pos 0) else place_number 53 (c ∷ text)) (some_octets (c ∷ text) (λ none. omega (arith, ap length none)))

no_ordinal_day : day_of (codes "MO") ≡ Some (made_day (pos 0) 0)
no_ordinal_day = refl

-- a front within the ordinal
ordinal_front : (text h1 : List ℕ) (x : DayPart) → ordinal_of (text ++ h1) ≡ Some x.ordinal → ItemFront day_of DayBelow text x
ordinal_front [] h1 x e = record { end = codes "MO"; is_end = inr (inr (inr (inl refl))); value = made_day (pos 0) 0; reads = no_ordinal_day; below = λ is. absurd (false≢true is) }
ordinal_front (c ∷ text) h1 x e =
    let o = written_ordinal c (text ++ h1) x.ordinal e in
    let front = integer_front (c ∷ text) h1 o.0 o.1 in
    let number = kept (if_place 53) (place_is_narrow 53 (omega arith)) front.number o.0 x.ordinal front.near o.2 in
    let ordinal : is_ordinal x ≡ true = lt-ltb 0 (nat_abs x.ordinal) (omega (arith, o.4)) in
    let with_day : (end : List ℕ) → front.end ≡ end → day_of ((c ∷ text) ++ (end ++ codes "MO")) ≡ Some (made_day number.0 0) = λ end is.
    ap day_of (sym (append_assoc (c ∷ text) end (codes "MO"))) ∙ (day_of-split ((c ∷ text) ++ end) 77 79
    ∙ ap (λ o. day_part o (Some 0)) (ordinal_by_place c (text ++ end) ∙ (ap (option_and_then (if_place 53)) (sym (ap (λ t. integer_of ((c ∷ text) ++ t)) is) ∙ front.reads) ∙ number.1))) in
    elim front.is_end [
      | nothing is ↦ record { end = codes "MO"; is_end = inr (inr (inr (inl refl))); value = made_day number.0 0; reads = with_day [] is; below = λ _. ordinal }
      | a_zero is none ↦ absurd (omega (arith, rw o.3 at none, o.4))
      | a_one is ↦ record { end = codes "1MO"; is_end = inr (inr (inr (inr (inl refl)))); value = made_day number.0 0; reads = with_day (codes "1") is; below = λ _. ordinal }
    ]

-- the last octet of a text
LastOne : List ℕ → Type 0
LastOne text = (front : List ℕ) × (c : ℕ) × (text ≡ front ++ (c ∷ []))

last_one : (text : List ℕ) → (text ≡ []) ⊎ LastOne text
unfolding LastOne
last_one [] = inl refl
last_one (a ∷ []) = inr ([], a, refl)
last_one (a ∷ b ∷ text) =
    elim (last_one (b ∷ text)) [
      | inl none ↦ absurd (omega (arith, ap length none))
      | inr last ↦ inr (a ∷ last.0, last.1, ap (λ t. a ∷ t) last.2)
    ]

-- a front within the weekday
letter_front : (text : List ℕ) (d : ℕ) (x : DayPart) → day_of (text ++ (d ∷ [])) ≡ Some x → ItemFront day_of DayBelow text x
unfolding LastOne
letter_front text d x e =
    elim (last_one text) [
      | inl none ↦ (let day = day_part_some (Some (pos 0)) (weekday_named (d ∷ [])) x (sym (ap (λ t. day_of (t ++ (d ∷ []))) none) ∙ e) in
          absurd (omega (arith, weekday_length (d ∷ []) x.weekday day.its_weekday)))
      | inr last ↦ (let front = last.0 in let c = last.1 in
          let split : text ++ (d ∷ []) ≡ front ++ (c ∷ d ∷ []) = ap (λ t. t ++ (d ∷ [])) last.2 ∙ append_assoc front (c ∷ []) (d ∷ []) in
          let day = day_part_some (ordinal_of front) (weekday_named (c ∷ d ∷ [])) x (sym (day_of-split front c d) ∙ (sym (ap day_of split) ∙ e)) in
          let second = second_letter c d x.weekday day.its_weekday in
          let b = second.1.letter in
          let made : text ++ (b ∷ []) ≡ front ++ (c ∷ b ∷ []) = ap (λ t. t ++ (b ∷ [])) last.2 ∙ append_assoc front (c ∷ []) (b ∷ []) in
          record {
            end = b ∷ [];
            is_end = second.1.is_end;
            value = made_day x.ordinal second.0;
            reads = ap day_of made ∙ (day_of-split front c b ∙ ap₂ day_part day.its_ordinal second.1.names);
            below = λ is. is;
          })
    ]

pub day_fronts : HasFronts day_of DayBelow
unfolding LastTwo
day_fronts text [] x e = record { end = []; is_end = inl refl; value = x; reads = e; below = λ is. is }
day_fronts text (d ∷ []) x e = letter_front text d x e
day_fronts text (d ∷ f ∷ h) x e =
    elim (last_two (d ∷ f ∷ h)) [
      | inl short ↦ absurd (omega (arith, short))
      | inr two ↦ (let split : text ++ (d ∷ f ∷ h) ≡ (text ++ two.0) ++ (two.1 ∷ two.2 ∷ []) = ap (λ t. text ++ t) two.3 ∙ sym (append_assoc text two.0 (two.1 ∷ two.2 ∷ [])) in
          let day = day_part_some (ordinal_of (text ++ two.0)) (weekday_named (two.1 ∷ two.2 ∷ [])) x (sym (day_of-split (text ++ two.0) two.1 two.2) ∙ (sym (ap day_of split) ∙ e)) in
          ordinal_front text two.0 x day.its_ordinal)
    ]
