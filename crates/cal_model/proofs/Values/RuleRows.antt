-- The parts of a rule, row by row of their table: what each puts into a rule, and how the front of each goes on.
use Rattle.std.proofs.Common.{◌≡◌, ℕ, Bool, true, false, not, ◌&&◌, ◌||◌, List, [], ◌∷◌, ◌++◌, length, map, drop, bytes_eq, codes, Option, Some, None, is_some, option_map, refl, sym, ap, ap₂, subst, ◌∙◌, arith, ◌⊎◌, inl, inr}
use Rattle.std.specs.List.{list_any}
use Rattle.std.proofs.lemmas.Bool.{false≢true, lt-ltb}
use Rattle.std.proofs.lemmas.Option.{none-some}
use Rattle.cal_base.specs.Lines.ContentLines.{every, is_name}
use Rattle.cal_base.specs.Texts.Text.{raised_all}
use Rattle.cal_model.specs.declared.rule.DayPart.{DayPart}
use Rattle.cal_model.specs.declared.rule.Freq.{Freq}
use Rattle.cal_model.specs.declared.rule.Freq.TheVariants.{Secondly, Minutely, Hourly, Daily, Weekly, Monthly, Yearly}
use Rattle.cal_model.specs.declared.rule.Rule.{Rule}
use Rattle.cal_model.specs.Values.RuleTexts.{freq_of, list_of, is_ordinal, has_some, refuses, has_ordinals, is_allowed}
use Rattle.cal_model.specs.Values.RuleTrial.{value_ends, frequency_parts, other_parts}
use Rattle.cal_model.proofs.Values.BadValueLaws.{first_piece}
use Rattle.cal_model.proofs.Values.CutLemmas.{option_map_some}
use Rattle.cal_model.proofs.Values.DayFronts.{DayBelow}
use Rattle.cal_model.proofs.Values.ListFronts.{IsAmong, HasFronts, ListBelow}

-- Rules that refuse no more

abbrev pub Implies : Bool → Bool → Type 0
Implies a b = a ≡ true → b ≡ true

-- what the first rule has of what others refuse, the second has too
pub record Lesser (r s : Rule) : Type 0 where
  pub freq : r.freq ≡ s.freq
  pub count : Implies (is_some r.count) (is_some s.count)
  pub until : Implies (is_some r.until) (is_some s.until)
  pub weeks : Implies (has_some r.by_week) (has_some s.by_week)
  pub year_days : Implies (has_some r.by_year_day) (has_some s.by_year_day)
  pub month_days : Implies (has_some r.by_month_day) (has_some s.by_month_day)
  pub ordinals : Implies (list_any is_ordinal r.by_day) (list_any is_ordinal s.by_day)

pub lesser_same : (r : Rule) → Lesser r r
lesser_same r = record { freq = refl; count = λ e. e; until = λ e. e; weeks = λ e. e; year_days = λ e. e; month_days = λ e. e; ordinals = λ e. e }

pub lesser_then : (r s t : Rule) → Lesser r s → Lesser s t → Lesser r t
lesser_then r s t a b = record {
  freq = a.freq ∙ b.freq;
  count = λ e. b.count (a.count e);
  until = λ e. b.until (a.until e);
  weeks = λ e. b.weeks (a.weeks e);
  year_days = λ e. b.year_days (a.year_days e);
  month_days = λ e. b.month_days (a.month_days e);
  ordinals = λ e. b.ordinals (a.ordinals e);
}

pub not_both : (a b c d : Bool) → Implies a c → Implies b d → not (c && d) ≡ true → not (a && b) ≡ true
not_both true true c d ac bd e = absurd (false≢true (sym (ap₂ (λ x y. not (x && y)) (ac refl) (bd refl)) ∙ e))
not_both true false c d ac bd e = refl
not_both false b c d ac bd e = refl

not_this : (a b : Bool) → Implies a b → not b ≡ true → not a ≡ true
not_this true b ab e = absurd (false≢true (sym (ap not (ab refl)) ∙ e))
not_this false b ab e = refl

or_implies : (a b c d : Bool) → Implies a c → Implies b d → Implies (a || b) (c || d)
or_implies true b c d ac bd e = ap (λ x. x || d) (ac refl)
or_implies false b true d ac bd e = refl
or_implies false b false d ac bd e = bd e

refuses_more : (f : Freq) (r s : Rule) → Lesser r s → Implies (refuses f r) (refuses f s)
refuses_more Yearly r s l e = e
refuses_more Monthly r s l e = or_implies (has_some r.by_week) (has_some r.by_year_day) (has_some s.by_week) (has_some s.by_year_day) l.weeks l.year_days e
refuses_more Weekly r s l e =
    or_implies (has_some r.by_week || has_some r.by_year_day) (has_some r.by_month_day) (has_some s.by_week || has_some s.by_year_day) (has_some s.by_month_day)
    (or_implies (has_some r.by_week) (has_some r.by_year_day) (has_some s.by_week) (has_some s.by_year_day) l.weeks l.year_days) l.month_days e
refuses_more Daily r s l e = or_implies (has_some r.by_week) (has_some r.by_year_day) (has_some s.by_week) (has_some s.by_year_day) l.weeks l.year_days e
refuses_more Hourly r s l e = l.weeks e
refuses_more Minutely r s l e = l.weeks e
refuses_more Secondly r s l e = l.weeks e

ordinals_allowed : (a b c d h : Bool) → Implies a c → Implies b d → (not c || (h && not d)) ≡ true → (not a || (h && not b)) ≡ true
ordinals_allowed false b c d h ac bd e = refl
ordinals_allowed true true c d h ac bd e = absurd (false≢true (sym (ap₂ (λ x y. not x || (h && not y)) (ac refl) (bd refl) ∙ and_false h) ∙ e))
  where
    and_false : (h : Bool) → (h && false) ≡ false
    and_false true = refl
    and_false false = refl
ordinals_allowed true false true d true ac bd e = refl
ordinals_allowed true false true d false ac bd e = e
ordinals_allowed true false false d h ac bd e = absurd (false≢true (ac refl))

pub all_three : (a b c : Bool) → a ≡ true → b ≡ true → c ≡ true → (a && b && c) ≡ true
all_three a b c x y z = λ i. x i && y i && z i

pub three_parts : (a b c : Bool) → (a && b && c) ≡ true → (a ≡ true) × (b ≡ true) × (c ≡ true)
three_parts true true c e = (refl, refl, e)
three_parts true false c e = absurd (false≢true e)
three_parts false b c e = absurd (false≢true e)

-- a rule with less is allowed where one with more is
pub allowed_less : (r s : Rule) → Lesser r s → is_allowed s ≡ true → is_allowed r ≡ true
allowed_less r s l e =
    let parts = three_parts (not (is_some s.count && is_some s.until)) (not (refuses s.freq s)) (not (list_any is_ordinal s.by_day) || (has_ordinals s.freq && not (has_some s.by_week))) e in
    all_three (not (is_some r.count && is_some r.until)) (not (refuses r.freq r)) (not (list_any is_ordinal r.by_day) || (has_ordinals r.freq && not (has_some r.by_week)))
    (not_both (is_some r.count) (is_some r.until) (is_some s.count) (is_some s.until) l.count l.until parts.0)
    (not_this (refuses r.freq r) (refuses r.freq s) (refuses_more r.freq r s l) (ap (λ f. not (refuses f s)) l.freq ∙ parts.1))
    (ordinals_allowed (list_any is_ordinal r.by_day) (has_some r.by_week) (list_any is_ordinal s.by_day) (has_some s.by_week) (has_ordinals r.freq) l.ordinals l.weeks (ap (λ f. not (list_any is_ordinal s.by_day) || (has_ordinals f && not (has_some s.by_week))) l.freq ∙ parts.2))

-- Values of lists

some_items : {X : Type 0} → (before : List X) (x : X) (more : List X) → has_some (before ++ (x ∷ more)) ≡ true
some_items {X} [] x more = lt-ltb 0 (length (x ∷ more)) (omega arith)
some_items {X} (y ∷ before) x more = lt-ltb 0 (length (y ∷ before ++ (x ∷ more))) (omega arith)

-- a list that is read has an item
pub list_is_some : {X : Type 0} → (read : List ℕ → Option X) (text : List ℕ) (xs : List X) → list_of read text ≡ Some xs → has_some xs ≡ true
list_is_some {X} read text xs e =
    let first = first_piece 44 text in
    first_some (read first.0) (map read first.1) (sym (ap (λ ps. every (map read ps)) first.2) ∙ e)
  where
    first_some : (o : Option X) (os : List (Option X)) → every (o ∷ os) ≡ Some xs → has_some xs ≡ true
    first_some None os e = absurd (none-some xs e)
    first_some (Some x) os e = let rest = option_map_some (λ xs. x ∷ xs) (every os) xs e in ap has_some (sym rest.2) ∙ some_items [] x rest.0

pub below_is_some : {X : Type 0} {Below : X → X → Type 0} → (ys xs : List X) → ListBelow Below ys xs → has_some xs ≡ true
below_is_some {X} {Below} ys xs b = ap has_some b.those ∙ some_items b.before b.began b.more

-- ordinals of a list that is below another
any_more : (before : List DayPart) (y x : DayPart) (more : List DayPart) → DayBelow y x → Implies (list_any is_ordinal (before ++ (y ∷ []))) (list_any is_ordinal (before ++ (x ∷ more)))
any_more [] y x more below e = or_implies (is_ordinal y) false (is_ordinal x) (list_any is_ordinal more) below (λ f. absurd (false≢true f)) e
any_more (d ∷ before) y x more below e = or_implies (is_ordinal d) (list_any is_ordinal (before ++ (y ∷ []))) (is_ordinal d) (list_any is_ordinal (before ++ (x ∷ more))) (λ f. f) (any_more before y x more below) e

pub days_below : (ys xs : List DayPart) → ListBelow DayBelow ys xs → Implies (list_any is_ordinal ys) (list_any is_ordinal xs)
days_below ys xs b e = ap (list_any is_ordinal) b.those ∙ any_more b.before b.last b.began b.more b.below (sym (ap (list_any is_ordinal) b.these) ∙ e)

-- Rows

abbrev pub Effect : Type 0
Effect = List ℕ → Rule → Option Rule

abbrev pub Row : Type 0
Row = List ℕ × Effect

-- whole parts that are tried
abbrev pub whole_parts : List (List ℕ)
whole_parts = frequency_parts ++ other_parts

-- another value of a part, which is put into a rule and refuses no more
pub record Instead (row : Row) (value : List ℕ) (rule r : Rule) (other : List ℕ) : Type 0 where
  pub result : Rule
  pub puts : row.1 other rule ≡ Some result
  pub lesser : Lesser result r
  pub freq : (freq_of other ≡ freq_of value) ⊎ (bytes_eq row.0 (codes "FREQ") ≡ false)

-- the ends of a part with a name and a front of its value
abbrev pub IsEndOf : List ℕ → List ℕ → List ℕ → Type 0
IsEndOf name front end = IsAmong end value_ends ⊎ ((whole : List ℕ) × IsAmong (name ++ (61 ∷ whole)) whole_parts × (end ≡ drop (length front) whole))

pub record RowFront (row : Row) : Type 0 where
  pub upper : raised_all row.0 ≡ row.0
  pub named : is_name row.0 ≡ true
  -- a whole part stands for any value
  pub whole : (value : List ℕ) (rule r : Rule) → row.1 value rule ≡ Some r → (text : List ℕ) × IsAmong (row.0 ++ (61 ∷ text)) whole_parts × Instead row value rule r text
  -- the front of a value goes on with an end
  pub goes_on : (front h : List ℕ) (rule r : Rule) → row.1 (front ++ h) rule ≡ Some r → (end : List ℕ) × IsEndOf row.0 front end × Instead row (front ++ h) rule r (front ++ end)

-- a row by what its value is put into
abbrev pub putting : {X : Type 0} → (X → Rule → Rule) → (List ℕ → Option X) → Effect
putting {X} put read text rule = option_map (λ x. put x rule) (read text)

-- what a row needs
pub record PutFront {X : Type 0} (name : List ℕ) (put : X → Rule → Rule) (read : List ℕ → Option X) (Below : X → X → Type 0) : Type 0 where
  pub upper : raised_all name ≡ name
  pub named : is_name name ≡ true
  pub other : bytes_eq name (codes "FREQ") ≡ false
  pub sample : List ℕ
  pub tried : IsAmong (name ++ (61 ∷ sample)) whole_parts
  pub value : X
  pub reads : read sample ≡ Some value
  pub first : (text : List ℕ) (x : X) (rule : Rule) → read text ≡ Some x → Lesser (put value rule) (put x rule)
  pub lesser : (y x : X) (rule : Rule) → Below y x → Lesser (put y rule) (put x rule)
  pub fronts : HasFronts read Below

pub put_row : {X : Type 0} {Below : X → X → Type 0} → (name : List ℕ) (put : X → Rule → Rule) (read : List ℕ → Option X) → PutFront name put read Below → RowFront (name, putting put read)
put_row {X} {Below} name put read f = record {
  upper = f.upper;
  named = f.named;
  whole = λ value rule r e. whole value rule r e;
  goes_on = λ front h rule r e. goes_on front h rule r e;
}
  where
    whole : (value : List ℕ) (rule r : Rule) → putting put read value rule ≡ Some r → (text : List ℕ) × IsAmong (name ++ (61 ∷ text)) whole_parts × Instead (name, putting put read) value rule r text
    whole value rule r e =
        let x = option_map_some (λ x. put x rule) (read value) r e in (
          f.sample,
          f.tried,
          record {
            result = put f.value rule;
            puts = ap (option_map (λ x. put x rule)) f.reads;
            lesser = subst (λ (s : Rule). Lesser (put f.value rule) s) x.2 (f.first value x.0 rule x.1);
            freq = inr f.other;
          },
        )

    goes_on : (front h : List ℕ) (rule r : Rule) → putting put read (front ++ h) rule ≡ Some r → (end : List ℕ) × IsEndOf name front end × Instead (name, putting put read) (front ++ h) rule r (front ++ end)
    goes_on front h rule r e =
        let x = option_map_some (λ x. put x rule) (read (front ++ h)) r e in
        let item = f.fronts front h x.0 x.1 in (
          item.end,
          inl item.is_end,
          record {
            result = put item.value rule;
            puts = ap (option_map (λ x. put x rule)) item.reads;
            lesser = subst (λ (s : Rule). Lesser (put item.value rule) s) x.2 (f.lesser item.value x.0 rule item.below);
            freq = inr f.other;
          },
        )
