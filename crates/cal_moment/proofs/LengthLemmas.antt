-- Where the text of a length stops.
use Rattle.std.proofs.Common.{◌≡◌, ℕ, inl, inr, Bool, true, false, List, [], ◌∷◌, ◌++◌, refl, sym, ap, subst, ◌∙◌, arith, ℤ}
use Rattle.cal_moment.specs.BadPlace.{IsIn}
use Rattle.cal_moment.specs.declared.stamp.Length.{Length}
use Rattle.cal_moment.specs.LengthPieces.{CutsSign, IsBody}
use Rattle.cal_moment.specs.LengthTexts.{SpellsBody, SpellsLength, SpellsSign}
use Rattle.cal_moment.specs.Stops.{BeginsWithNo, BeginsWithNoSign, Stops}
use Rattle.cal_moment.specs.Texts.{sign_text, signed}
use Rattle.cal_moment.proofs.BodyLemmas.{one_body, weeks_body}
use Rattle.cal_moment.proofs.CountLemmas.{zero_counts}
use Rattle.cal_moment.proofs.OffsetLemmas.{signs_then, sign_not_alike}
use Rattle.cal_moment.proofs.PartLemmas.{no_alike}
use Rattle.cal_moment.proofs.StopsLemmas.{stops_after, stops_here, stops_letter, stops_same}

-- no sign is P
no_sign : (negative : Bool) (a b : List ℕ) → sign_text negative ++ a ≡ 80 ∷ b → ⊥
no_sign true a b e = let head : ◌≡◌ {A = ℕ} 45 80 = cc in omega (arith, head)
no_sign false a b e = let head : ◌≡◌ {A = ℕ} 43 80 = cc in omega (arith, head)

-- two signs before P are one
lengths_then : (a c : List ℕ) (m n : Bool) (b d : List ℕ) → SpellsSign a m → SpellsSign c n → a ++ (80 ∷ b) ≡ c ++ (80 ∷ d) → (m ≡ n) × (b ≡ d)
lengths_then a c m n b d first second e =
    elim first [
      | inl v ↦ elim second [
        | inl w ↦ (let same = signs_then m n (80 ∷ b) (80 ∷ d) (rw (v, w) at e) in (same.0, cc (same.1)))
        | inr w ↦ absurd (no_sign m (80 ∷ b) d (rw (v, w.0) at e))
      ]
      | inr v ↦ elim second [
        | inl w ↦ absurd (no_sign n (80 ∷ d) b (sym (rw (v.0, w) at e)))
        | inr w ↦ (v.1 ∙ sym w.1, cc (rw (v.0, w.0) at e))
      ]
    ]

with_body : (sign : List ℕ) (negative : Bool) (body : List ℕ) → SpellsSign sign negative → IsBody body → IsIn SpellsLength (sign ++ (80 ∷ body))
with_body sign negative body s b = (
  record { days = signed negative b.0; seconds = signed negative b.1 },
  record { sign = sign; negative = negative; body = body; days = b.0; seconds = b.1; spells_sign = s; spells_body = b.2; spelled = refl; days_number = refl; seconds_number = refl },
)

behind_sign : (sign : List ℕ) (negative : Bool) (body : List ℕ) → SpellsSign sign negative → IsIn SpellsLength (sign ++ (80 ∷ body)) → IsBody body
behind_sign sign negative body s whole =
    let w = whole.1 in
    let same = lengths_then sign w.sign negative w.negative body w.body s w.spells_sign w.spelled in
    (w.days, w.seconds, subst (λ (t : List ℕ). SpellsBody t w.days w.seconds) (sym same.1) w.spells_body)

-- the sign that is cut off, and what follows
cut_sign : (text : List ℕ) (negative : Bool) (rest : List ℕ) → CutsSign text negative rest → (sign : List ℕ) × SpellsSign sign negative × (text ≡ sign ++ rest)
cut_sign text negative rest cut =
    elim cut [ inl sign ↦ (sign_text negative, inl refl, sign) | inr none ↦ ([], inr (refl, none.1), none.0) ]

pub length_stops_body : (text : List ℕ) (negative : Bool) (body left : List ℕ) → CutsSign text negative (80 ∷ body) → Stops IsBody body left → Stops (IsIn SpellsLength) text left
length_stops_body text negative body left cut s =
    let sign = cut_sign text negative (80 ∷ body) cut in
    rw sign.2
    (stops_after (IsIn SpellsLength) sign.0 (80 ∷ body) left
    (stops_after (λ t. IsIn SpellsLength (sign.0 ++ t)) (80 ∷ []) body left
    (stops_same IsBody (λ t. IsIn SpellsLength (sign.0 ++ (80 ∷ t))) body left
    (λ t b. with_body sign.0 negative t sign.1 b)
    (λ t whole. behind_sign sign.0 negative t sign.1 whole)
    s)))

-- no weeks
zero_weeks : IsBody (48 ∷ 87 ∷ [])
zero_weeks = (0, 0, weeks_body (48 ∷ []) 0 zero_counts)

stops_no_letter : (negative : Bool) (text : List ℕ) → BeginsWithNo 80 text → Stops (IsIn SpellsLength) (sign_text negative ++ text) text
stops_no_letter negative text none =
    stops_after (IsIn SpellsLength) (sign_text negative) text text
    (stops_letter (λ t. IsIn SpellsLength (sign_text negative ++ t)) 80 text (48 ∷ 87 ∷ [])
    (with_body (sign_text negative) negative (48 ∷ 87 ∷ []) (inl refl) zero_weeks)
    (λ next whole. let w = whole.1 in
    elim w.spells_sign [
      | inl sign ↦ (w.body, (signs_then negative w.negative next (80 ∷ w.body) (rw sign at w.spelled)).1)
      | inr nothing ↦ absurd (no_sign negative next w.body (rw nothing.0 at w.spelled))
    ])
    none)

stops_no_sign : (text : List ℕ) → BeginsWithNoSign text → BeginsWithNo 80 text → Stops (IsIn SpellsLength) text text
stops_no_sign text no_sign none =
    stops_here (IsIn SpellsLength) text (80 ∷ 48 ∷ 87 ∷ [])
    (with_body [] false (48 ∷ 87 ∷ []) (inr (refl, refl)) zero_weeks)
    (λ next whole alike. let w = whole.1 in
    elim w.spells_sign [
      | inl sign ↦ sign_not_alike w.negative (80 ∷ w.body) text no_sign (rw (w.spelled, sign) at alike)
      | inr nothing ↦ (rw (w.spelled, nothing.0) at (no_alike 80 next text alike none)) refl
    ])

-- neither P nor a sign that is not read yet
pub length_stops_letter : (text : List ℕ) (negative : Bool) (rest : List ℕ) → CutsSign text negative rest → BeginsWithNo 80 rest → Stops (IsIn SpellsLength) text rest
length_stops_letter text negative rest cut none =
    elim cut [
      | inl sign ↦ rw sign (stops_no_letter negative rest none)
      | inr nothing ↦ rw nothing.0 (stops_no_sign rest nothing.2 none)
    ]

pub length_spells : (text : List ℕ) (negative : Bool) (body : List ℕ) (days seconds : ℕ) (length : Length) → CutsSign text negative (80 ∷ body) → SpellsBody body days seconds → length.days ≡ signed negative days → length.seconds ≡ signed negative seconds → SpellsLength text length
length_spells text negative body days seconds length cut b d s =
    let sign = cut_sign text negative (80 ∷ body) cut in
    record { sign = sign.0; negative = negative; body = body; days = days; seconds = seconds; spells_sign = sign.1; spells_body = b; spelled = sign.2; days_number = d; seconds_number = s }

abbrev length_with : ℤ → ℤ → Length
length_with days seconds = record { days = days; seconds = seconds }

-- a text spells one length
pub one_length : (text : List ℕ) (a b : Length) → SpellsLength text a → SpellsLength text b → a ≡ b
one_length text a b first second =
    let same = lengths_then first.sign second.sign first.negative second.negative first.body second.body first.spells_sign second.spells_sign (sym first.spelled ∙ second.spelled) in
    let body = one_body second.body first.days first.seconds second.days second.seconds (subst (λ (t : List ℕ). SpellsBody t first.days first.seconds) same.1 first.spells_body) second.spells_body in
    let days : a.days ≡ b.days = first.days_number ∙ rw (same.0, body.0) (sym second.days_number) in
    let seconds : a.seconds ≡ b.seconds = first.seconds_number ∙ rw (same.0, body.1) (sym second.seconds_number) in
    ap (λ d. length_with d a.seconds) days ∙ ap (length_with b.days) seconds
