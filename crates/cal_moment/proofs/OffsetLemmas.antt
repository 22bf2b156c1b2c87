-- Where the text of an offset stops.
use Rattle.std.proofs.Common.{◌≡◌, ◌≢◌, ℕ, ◌+◌, ◌*◌, ◌≤◌, inl, inr, Bool, true, false, List, [], ◌∷◌, ◌++◌, refl, sym, ap, subst, ◌∙◌, arith}
use Rattle.std.proofs.lemmas.List.{append-nil}
use Rattle.cal_moment.specs.BadPlace.{IsIn}
use Rattle.cal_moment.specs.Stops.{BeginsWithNoSign, GoOnAlike, IsNumber, Stops, Opens}
use Rattle.cal_moment.specs.Texts.{digits, sign_text, signed, SpellsSecond, SpellsOffset}
use Rattle.cal_moment.proofs.DigitLemmas.{digits_then}
use Rattle.cal_moment.proofs.NumberLemmas.{stops_number}
use Rattle.cal_moment.proofs.StopsLemmas.{stops_here, stops_after, stops_end, stops_in, stops_same}

-- nothing or two digits
pub second_stops : (text left : List ℕ) → text ≢ [] → Stops (Opens (IsNumber 2 0 59)) text left → Stops (IsIn SpellsSecond) text left
second_stops text left some s =
    stops_in (IsNumber 2 0 59) (IsIn SpellsSecond) text left
    (λ t number. ([], (number.0, inr (number.2, append-nil t ∙ number.4))))
    (λ t whole. elim whole.1 [
      | inl none ↦ inr (none.0, some)
      | inr two ↦ inl (t, [], (whole.0, omega arith, two.0, omega (arith, two.0), two.1), sym (append-nil t))
    ])
    s

nothing_behind : (second : ℕ) (next : List ℕ) → IsIn SpellsSecond (digits 2 second ++ next) → next ≡ []
nothing_behind second next whole =
    elim whole.1 [ inl none ↦ cc (none.0) | inr two ↦ cc (two.1) ]

-- something behind two digits
pub second_stops_end : (second : ℕ) (left : List ℕ) → second ≤ 59 → left ≢ [] → Stops (IsIn SpellsSecond) (digits 2 second ++ left) left
second_stops_end second left within some =
    stops_end (IsIn SpellsSecond) (digits 2 second) left (second, inr (within, refl)) (λ next h. nothing_behind second next h) some

-- what stands behind the sign
record BehindSign (text : List ℕ) : Type 0 where
  hour : ℕ
  minute : ℕ
  second : ℕ
  second_text : List ℕ
  hour_in : hour ≤ 23
  minute_in : minute ≤ 59
  spells_second : SpellsSecond second_text second
  split : text ≡ digits 2 hour ++ (digits 2 minute ++ second_text)

cons_head : (x y : ℕ) (b d : List ℕ) → x ∷ b ≡ y ∷ d → x ≡ y
cons_head x y b d e = cc

cons_tail : (x y : ℕ) (b d : List ℕ) → x ∷ b ≡ y ∷ d → b ≡ d
cons_tail x y b d e = cc

-- two signs at the front of one text are one
pub signs_then : (m n : Bool) (b d : List ℕ) → sign_text m ++ b ≡ sign_text n ++ d → (m ≡ n) × (b ≡ d)
signs_then true true b d e = (refl, cons_tail 45 45 b d e)
signs_then true false b d e = absurd (omega (arith, cons_head 45 43 b d e))
signs_then false true b d e = absurd (omega (arith, cons_head 43 45 b d e))
signs_then false false b d e = (refl, cons_tail 43 43 b d e)

behind_sign : (negative : Bool) (text : List ℕ) → IsIn SpellsOffset (sign_text negative ++ text) → BehindSign text
behind_sign negative text whole =
    let w = whole.1 in
    record { hour = w.hour; minute = w.minute; second = w.second; second_text = w.second_text; hour_in = w.hour_in; minute_in = w.minute_in; spells_second = w.spells_second; split = (signs_then negative w.negative text (digits 2 w.hour ++ (digits 2 w.minute ++ w.second_text)) w.spelled).1 }

with_sign : (negative : Bool) (text : List ℕ) → BehindSign text → IsIn SpellsOffset (sign_text negative ++ text)
with_sign negative text b = (
  signed negative (3600 * b.hour + 60 * b.minute + b.second),
  record { negative = negative; hour = b.hour; minute = b.minute; second = b.second; second_text = b.second_text; hour_in = b.hour_in; minute_in = b.minute_in; spells_second = b.spells_second; spelled = ap (λ t. sign_text negative ++ t) b.split; number = refl },
)

-- an hour and a minute
behind_of : (h m : ℕ) → h ≤ 23 → m ≤ 59 → BehindSign (digits 2 h ++ (digits 2 m ++ []))
behind_of h m hour minute =
    record { hour = h; minute = m; second = 0; second_text = []; hour_in = hour; minute_in = minute; spells_second = inl (refl, refl); split = refl }

pub sign_not_alike : (negative : Bool) (rest text : List ℕ) → BeginsWithNoSign text → ¬ GoOnAlike (sign_text negative ++ rest) text
sign_not_alike true rest [] none alike = alike
sign_not_alike false rest [] none alike = alike
sign_not_alike true rest (c ∷ text) none alike = none.1 (sym alike)
sign_not_alike false rest (c ∷ text) none alike = none.0 (sym alike)

pub offset_stops_sign : (text : List ℕ) → BeginsWithNoSign text → Stops (IsIn SpellsOffset) text text
offset_stops_sign text none =
    stops_here (IsIn SpellsOffset) text (sign_text false ++ (digits 2 0 ++ (digits 2 0 ++ [])))
    (with_sign false (digits 2 0 ++ (digits 2 0 ++ [])) (behind_of 0 0 (omega arith) (omega arith)))
    (λ next whole. let w = whole.1 in
    rw w.spelled (sign_not_alike w.negative (digits 2 w.hour ++ (digits 2 w.minute ++ w.second_text)) text none))

module _ (negative : Bool) where
  pub offset_stops_hour : (text left : List ℕ) → Stops (Opens (IsNumber 2 0 23)) text left → Stops (IsIn SpellsOffset) (sign_text negative ++ text) left
  offset_stops_hour text left s =
      stops_after (IsIn SpellsOffset) (sign_text negative) text left
      (stops_number 2 0 23 (λ t. IsIn SpellsOffset (sign_text negative ++ t)) text left
      (λ h low high fits. (digits 2 0 ++ [], with_sign negative (digits 2 h ++ (digits 2 0 ++ [])) (behind_of h 0 high (omega arith))))
      (λ t whole. let b = behind_sign negative t whole in
      record { n = b.hour; rest = digits 2 b.minute ++ b.second_text; from = omega arith; until = b.hour_in; fits = omega (arith, b.hour_in); split = b.split })
      s)

  pub offset_stops_minute : (h : ℕ) (text left : List ℕ) → h ≤ 23 → Stops (Opens (IsNumber 2 0 59)) text left → Stops (IsIn SpellsOffset) (sign_text negative ++ (digits 2 h ++ text)) left
  offset_stops_minute h text left hour s =
      stops_after (IsIn SpellsOffset) (sign_text negative) (digits 2 h ++ text) left
      (stops_after (λ t. IsIn SpellsOffset (sign_text negative ++ t)) (digits 2 h) text left
      (stops_number 2 0 59 (λ t. IsIn SpellsOffset (sign_text negative ++ (digits 2 h ++ t))) text left
      (λ m low high fits. ([], with_sign negative (digits 2 h ++ (digits 2 m ++ [])) (behind_of h m hour high)))
      (λ t whole. let b = behind_sign negative (digits 2 h ++ t) whole in
      let same = digits_then 2 h b.hour t (digits 2 b.minute ++ b.second_text) (omega arith) (omega (arith, b.hour_in)) b.split in
      record { n = b.minute; rest = b.second_text; from = omega arith; until = b.minute_in; fits = omega (arith, b.minute_in); split = same.1 })
      s))

  pub offset_stops_second : (h m : ℕ) (text left : List ℕ) → h ≤ 23 → m ≤ 59 → Stops (IsIn SpellsSecond) text left → Stops (IsIn SpellsOffset) (sign_text negative ++ (digits 2 h ++ (digits 2 m ++ text))) left
  offset_stops_second h m text left hour minute s =
      stops_after (IsIn SpellsOffset) (sign_text negative) (digits 2 h ++ (digits 2 m ++ text)) left
      (stops_after (λ t. IsIn SpellsOffset (sign_text negative ++ t)) (digits 2 h ++ digits 2 m) text left
      (stops_same (IsIn SpellsSecond) (λ t. IsIn SpellsOffset (sign_text negative ++ (digits 2 h ++ (digits 2 m ++ t)))) text left
      (λ t second. with_sign negative (digits 2 h ++ (digits 2 m ++ t)) (record { hour = h; minute = m; second = second.0; second_text = t; hour_in = hour; minute_in = minute; spells_second = second.1; split = refl }))
      (λ t whole. let b = behind_sign negative (digits 2 h ++ (digits 2 m ++ t)) whole in
      let hours = digits_then 2 h b.hour (digits 2 m ++ t) (digits 2 b.minute ++ b.second_text) (omega arith) (omega (arith, b.hour_in)) b.split in
      let minutes = digits_then 2 m b.minute t b.second_text (omega arith) (omega (arith, b.minute_in)) hours.1 in
      (b.second, subst (λ (s : List ℕ). SpellsSecond s b.second) (sym minutes.1) b.spells_second))
      s))
