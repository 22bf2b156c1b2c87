-- A part whose name is none that may come is bad where it leaves such names.
use Rattle.std.proofs.Common.{◌≡◌, ℕ, zero, suc, ◌+◌, ◌-◌, ◌<◌, ◌≤◌, Bool, true, false, not, ◌&&◌, ◌||◌, ◌==◌, nat_eq, nat_lt, nat_le, if◌then◌else◌, List, [], ◌∷◌, ◌++◌, length, take, drop, bytes_eq, codes, Some, None, is_some, option_map, cond, refl, sym, ap, ap₂, subst, ◌∙◌, arith, ◌⊎◌, inl, inr}
use Rattle.std.specs.Prelude.{replicate}
use Rattle.std.specs.List.{list_all, starts_with}
use Rattle.std.proofs.lemmas.Bool.{cases_Bool, cases_lt, eq-eqb, eqb-true, false≢true, and_parts, ltb-true}
use Rattle.std.proofs.lemmas.List.{length-append, take-append-drop}
use Rattle.std.proofs.lemmas.Map.Text.{is_eq-slice_cmp}
use Rattle.std.proofs.lemmas.Option.{none-some, same_Some}
use Rattle.cal_base.specs.Lines.ContentLines.{is_name, is_name_octet}
use Rattle.cal_base.specs.Lists.NameMap.{Named, value_at}
use Rattle.cal_base.specs.Texts.Text.{raised, raised_all}
use Rattle.cal_moment.specs.BadPlace.{BeginsOne, IsBadAt}
use Rattle.cal_model.specs.declared.rule.Rule.{Rule}
use Rattle.cal_model.specs.Values.RuleTexts.{Part, if_named, is_allowed}
use Rattle.cal_model.specs.Values.ValueTexts.{cut}
use Rattle.cal_model.proofs.Values.BadValueLaws.{begins-append}
use Rattle.cal_model.proofs.Values.CutLemmas.{cases_Option, and_then_some, option_map_some, if_some, is_same_text}
use Rattle.cal_model.proofs.Values.PartFronts.{all-append, all-left, cut-behind, cut-front, length-raised, named_by, part_of-named}
use Rattle.cal_model.proofs.Values.RuleFronts.{not_true}
use Rattle.ical_values.specs.declared.rule_lists.CountForm.TheVariants.{Month, Hour, Minute, Second}
use Rattle.ical_values.specs.declared.rule_lists.PlaceForm.TheVariants.{Week, YearDay, MonthDay, SetPos}
use Rattle.ical_values.specs.declared.rule_parts.RulePart.{RulePart}
use Rattle.ical_values.specs.declared.rule_parts.RulePart.TheVariants.{Freq, Interval, Count, Until, WeekStart, Days, Counts, Places}
use Rattle.ical_values.specs.RuleBeside.{takes}
use Rattle.ical_values.specs.RuleNames.{is_free, free_common, most_free, name_length, hyphen_length, own_length, name_place}
use Rattle.ical_values.specs.RuleParts.{name_of, named_in, parts, part_named, value_of, put, put_named, put_part}
use Rattle.ical_values.specs.RuleReading.{Fits}
use Rattle.ical_values.specs.RuleWords.{common}
use Rattle.ical_values.proofs.BesideParts.{none_stands, sample_of}
use Rattle.ical_values.proofs.WordPlaces.{common_within, front_common, goes_on}

-- Octets of names

-- an octet is one of a name where it is one as it is raised
named_octet : (c : ℕ) → is_name_octet (raised c) ≡ true → is_name_octet c ≡ true
named_octet c named =
    elim (cases_Bool (nat_le 97 c && nat_le c 122)) [
      | inl lower ↦ (λ i. (nat_le 65 c && nat_le c 90) || lower i || (nat_le 48 c && nat_le c 57) || (c == 45)) ∙ third (nat_le 65 c && nat_le c 90) (nat_le 48 c && nat_le c 57) (c == 45)
      | inr other ↦ ap is_name_octet (sym (ap (λ b. if b then c - 32 else c) other)) ∙ named
    ]
  where
    third : (a b d : Bool) → (a || true || b || d) ≡ true
    third true b d = refl
    third false b d = refl

octet_of : (c d : ℕ) → raised c ≡ d → is_name_octet d ≡ true → is_name_octet c ≡ true
octet_of c d same named = named_octet c (ap is_name_octet same ∙ named)

all_named : (text : List ℕ) → list_all is_name_octet (raised_all text) ≡ true → list_all is_name_octet text ≡ true
all_named [] all = refl
all_named (c ∷ text) all =
    let both = and_parts (is_name_octet (raised c)) (list_all is_name_octet (raised_all text)) all in
    λ i. named_octet c both.0 i && all_named text both.1 i

pub name_raised : (text : List ℕ) → is_name (raised_all text) ≡ true → is_name text ≡ true
name_raised text named =
    let both = and_parts (nat_lt 0 (length (raised_all text))) (list_all is_name_octet (raised_all text)) named in
    named_by text (omega (arith, ltb-true 0 (length (raised_all text)) both.0, length-raised text)) (all_named text both.1)

-- Names of others' own

abbrev pub IsBehindX : List ℕ → Type 0
IsBehindX [] = ⊥
IsBehindX (octet ∷ text) = (raised octet ≡ 45) × (list_all is_name_octet text ≡ true)

abbrev pub IsOwn : List ℕ → Type 0
IsOwn [] = ⊥
IsOwn (octet ∷ text) = (raised octet ≡ 88) × IsBehindX text

-- such a name as it is raised
record RaisedOwn (name : List ℕ) : Type 0 where
  rest : List ℕ
  is : name ≡ 88 ∷ 45 ∷ rest

raised_own : (name : List ℕ) → IsOwn name → RaisedOwn (raised_all name)
raised_own [] own = absurd own
raised_own (c ∷ []) own = absurd own.1
raised_own (c ∷ d ∷ name) own = record { rest = raised_all name; is = ap₂ (λ a b. a ∷ b ∷ raised_all name) own.0 own.1.0 }

pub own_named : (name : List ℕ) → IsOwn name → is_name name ≡ true
own_named [] own = absurd own
own_named (c ∷ []) own = absurd own.1
own_named (c ∷ d ∷ name) own = named_by (c ∷ d ∷ name) (omega arith) (λ i. octet_of c 88 own.0 refl i && (octet_of d 45 own.1.0 refl i && own.1.1 i))

pub own_unknown : (name : List ℕ) → IsOwn name → part_named (raised_all name) ≡ None
own_unknown name own = let r = raised_own name own in ap part_named r.is

pub own_says_nothing : (name value : List ℕ) (rule : Rule) → IsOwn name → put_part (raised_all name, value) rule ≡ Some rule
own_says_nothing name value rule own = let r = raised_own name own in ap (λ n. put_part (n, value) rule) r.is

starts_own : (name : List ℕ) → is_name name ≡ true → starts_with nat_eq (raised_all name) (codes "X-") ≡ true → IsOwn name
starts_own [] named starts = absurd (false≢true starts)
starts_own (c ∷ []) named starts = absurd (short (raised c) (is_same_text (codes "X-") (raised c ∷ []) starts))
  where
    short : (d : ℕ) → codes "X-" ≡ d ∷ [] → ⊥
    short d e = omega (arith, ap length e)
starts_own (c ∷ d ∷ name) named starts =
    let front = is_same_text (codes "X-") (raised c ∷ raised d ∷ []) starts in
    let all = (and_parts (nat_lt 0 (length (c ∷ d ∷ name))) (list_all is_name_octet (c ∷ d ∷ name)) named).1 in
    let first : raised c ≡ 88 = cc in
    let second : raised d ≡ 45 = cc in
    (first, (second, (and_parts (is_name_octet d) (list_all is_name_octet name) (and_parts (is_name_octet c) (list_all is_name_octet (d ∷ name)) all).1).1))

-- How far a text goes along them

names_reach : (n : ℕ) (text : List ℕ) → n ≤ length text → list_all is_name_octet (take n text) ≡ true → n ≤ name_length text
names_reach zero text within all = omega arith
names_reach (suc n) [] within all = absurd (omega (arith, within))
names_reach (suc n) (c ∷ text) within all =
    let both = and_parts (is_name_octet c) (list_all is_name_octet (take n text)) all in
    let is : name_length (c ∷ text) ≡ 1 + name_length text = ap (λ b. if b then 1 + name_length text else 0) both.0 in
    omega (arith, is, names_reach n text (omega (arith, within)) both.1)

hyphen_reaches : (n : ℕ) (text end : List ℕ) → n ≤ length text → IsBehindX (take n text ++ end) → n ≤ hyphen_length text
hyphen_reaches zero text end within own = omega arith
hyphen_reaches (suc n) [] end within own = absurd (omega (arith, within))
hyphen_reaches (suc n) (c ∷ text) end within own =
    let is : hyphen_length (c ∷ text) ≡ 1 + name_length text = ap (λ b. if b then 1 + name_length text else 0) (eq-eqb (raised c) 45 own.0) in
    omega (arith, is, names_reach n text (omega (arith, within)) (all-left (take n text) end own.1))

pub own_reaches : (n : ℕ) (text end : List ℕ) → n ≤ length text → IsOwn (take n text ++ end) → n ≤ own_length text
own_reaches zero text end within own = omega arith
own_reaches (suc n) [] end within own = absurd (omega (arith, within))
own_reaches (suc n) (c ∷ text) end within own =
    let is : own_length (c ∷ text) ≡ 1 + hyphen_length text = ap (λ b. if b then 1 + hyphen_length text else 0) (eq-eqb (raised c) 88 own.0) in
    omega (arith, is, hyphen_reaches n text end (omega (arith, within)) own.1)

names_within : (text : List ℕ) → name_length text ≤ length text
names_within [] = omega arith
names_within (c ∷ text) = elim (is_name_octet c) as (λ b. (if b then 1 + name_length text else 0) ≤ length (c ∷ text)) [ true ↦ omega (arith, names_within text) | false ↦ omega arith ]

hyphen_within : (text : List ℕ) → hyphen_length text ≤ length text
hyphen_within [] = omega arith
hyphen_within (c ∷ text) = elim (raised c == 45) as (λ b. (if b then 1 + name_length text else 0) ≤ length (c ∷ text)) [ true ↦ omega (arith, names_within text) | false ↦ omega arith ]

pub own_within : (text : List ℕ) → own_length text ≤ length text
own_within [] = omega arith
own_within (c ∷ text) = elim (raised c == 88) as (λ b. (if b then 1 + hyphen_length text else 0) ≤ length (c ∷ text)) [ true ↦ omega (arith, hyphen_within text) | false ↦ omega arith ]

all_a : (room : ℕ) → list_all is_name_octet (replicate room 65) ≡ true
all_a zero = refl
all_a (suc room) = all_a room

length-replicate : (room : ℕ) → length (replicate {A = ℕ} room 65) ≡ room
length-replicate zero = refl
length-replicate (suc room) = ap suc (length-replicate room)

names_taken : (text : List ℕ) → list_all is_name_octet (take (name_length text) text) ≡ true
names_taken [] = refl
names_taken (c ∷ text) =
    elim (cases_Bool (is_name_octet c)) [
      | inl named ↦ (let is : name_length (c ∷ text) ≡ suc (name_length text) = ap (λ b. if b then 1 + name_length text else 0) named ∙ omega arith in
          subst (λ (n : ℕ). list_all is_name_octet (take n (c ∷ text)) ≡ true) (sym is) (λ i. named i && names_taken text i))
      | inr other ↦ subst (λ (n : ℕ). list_all is_name_octet (take n (c ∷ text)) ≡ true) (sym (ap (λ b. if b then 1 + name_length text else 0) other)) refl
    ]

-- a front goes on to such a name, however long
record GoesOn (Is : List ℕ → Type 0) (front : List ℕ) (room : ℕ) : Type 0 where
  end : List ℕ
  is : Is (front ++ end)
  long : room ≤ length end

hyphen_goes_on : (text : List ℕ) (room : ℕ) → GoesOn IsBehindX (take (hyphen_length text) text) room
hyphen_goes_on [] room = record { end = 45 ∷ replicate room 65; is = (refl, all_a room); long = omega (arith, length-replicate room) }
hyphen_goes_on (c ∷ text) room =
    elim (cases_Bool (raised c == 45)) [
      | inl same ↦ (let is : hyphen_length (c ∷ text) ≡ suc (name_length text) = ap (λ b. if b then 1 + name_length text else 0) same ∙ omega arith in
          subst (λ (n : ℕ). GoesOn IsBehindX (take n (c ∷ text)) room) (sym is)
          (record { end = replicate room 65; is = (eqb-true (raised c) 45 same, all-append (take (name_length text) text) (replicate room 65) (names_taken text) (all_a room)); long = omega (arith, length-replicate room) }))
      | inr other ↦ subst (λ (n : ℕ). GoesOn IsBehindX (take n (c ∷ text)) room) (sym (ap (λ b. if b then 1 + name_length text else 0) other))
          (record { end = 45 ∷ replicate room 65; is = (refl, all_a room); long = omega (arith, length-replicate room) })
    ]

own_goes_on : (text : List ℕ) (room : ℕ) → GoesOn IsOwn (take (own_length text) text) room
own_goes_on [] room = record { end = 88 ∷ 45 ∷ replicate room 65; is = (refl, (refl, all_a room)); long = omega (arith, length-replicate room) }
own_goes_on (c ∷ text) room =
    elim (cases_Bool (raised c == 88)) [
      | inl same ↦ (let is : own_length (c ∷ text) ≡ suc (hyphen_length text) = ap (λ b. if b then 1 + hyphen_length text else 0) same ∙ omega arith in
          let rest = hyphen_goes_on text room in
          subst (λ (n : ℕ). GoesOn IsOwn (take n (c ∷ text)) room) (sym is) (record { end = rest.end; is = (eqb-true (raised c) 88 same, rest.is); long = rest.long }))
      | inr other ↦ subst (λ (n : ℕ). GoesOn IsOwn (take n (c ∷ text)) room) (sym (ap (λ b. if b then 1 + hyphen_length text else 0) other))
          (record { end = 88 ∷ 45 ∷ replicate room 65; is = (refl, (refl, all_a room)); long = omega (arith, length-replicate room) })
    ]

-- Names that have not come

names_size : Named Bool → ℕ
names_size [] = 0
names_size (entry ∷ names) = length entry.0 + names_size names

long_is_new : (name : List ℕ) (names : Named Bool) → names_size names < length name → is_some (value_at names name) ≡ false
unfolding names_size
long_is_new name [] long = refl
long_is_new name (entry ∷ names) long = ap (λ b. is_some (cond b (Some entry.1) (value_at names name))) (is_eq-slice_cmp name entry.0 ∙ other) ∙ long_is_new name names (omega (arith, long))
  where
    other : bytes_eq name entry.0 ≡ false
    other = elim (cases_Bool (bytes_eq name entry.0)) [
      | inl same ↦ absurd (omega (arith, ap length (is_same_text name entry.0 same), long))
      | inr differs ↦ differs
    ]

-- The names of the parts

pub names_are : (part : RulePart) → (part_named (name_of part) ≡ Some part) × (raised_all (name_of part) ≡ name_of part) × (is_name (name_of part) ≡ true)
names_are Freq = (refl, refl, refl)
names_are Interval = (refl, refl, refl)
names_are Count = (refl, refl, refl)
names_are Until = (refl, refl, refl)
names_are WeekStart = (refl, refl, refl)
names_are Days = (refl, refl, refl)
names_are (Counts Month) = (refl, refl, refl)
names_are (Counts Hour) = (refl, refl, refl)
names_are (Counts Minute) = (refl, refl, refl)
names_are (Counts Second) = (refl, refl, refl)
names_are (Places Week) = (refl, refl, refl)
names_are (Places YearDay) = (refl, refl, refl)
names_are (Places MonthDay) = (refl, refl, refl)
names_are (Places SetPos) = (refl, refl, refl)

found_name : (some : List RulePart) (name : List ℕ) (part : RulePart) → named_in some name ≡ Some part → name ≡ name_of part
found_name [] name part is = absurd (none-some part is)
found_name (first ∷ some) name part is =
    let by_test = λ (b : Bool). if b then Some first else named_in some name in
    elim (cases_Bool (bytes_eq name (name_of first))) [
      | inl same ↦ is_same_text name (name_of first) same ∙ ap name_of (same_Some first part (sym (ap by_test same) ∙ is))
      | inr other ↦ found_name some name part (sym (ap by_test other) ∙ is)
    ]

pub named_is : (name : List ℕ) (part : RulePart) → part_named name ≡ Some part → name ≡ name_of part
named_is = found_name parts

module _ (rule : Rule) (names : Named Bool) where
  -- a name that a next part may have
  pub record IsFreeName (name : List ℕ) : Type 0 where
    pub named : is_name name ≡ true
    pub fresh : is_some (value_at names (raised_all name)) ≡ false
    pub kind : ((part : RulePart) × (part_named (raised_all name) ≡ Some part) × (takes rule part ≡ true)) ⊎ IsOwn name

  most_within : (text : List ℕ) (some : List RulePart) → most_free rule names text some ≤ length text
  most_within text [] = omega arith
  most_within text (part ∷ some) = omega (arith, by_test (is_free rule names part), most_within text some)
    where
      by_test : (b : Bool) → (if b then common text (name_of part) else 0) ≤ length text
      by_test true = common_within text (name_of part)
      by_test false = omega arith

  most_reached : (text name : List ℕ) (some : List RulePart) (part : RulePart) → named_in some name ≡ Some part → is_free rule names part ≡ true → common text name ≤ most_free rule names text some
  most_reached text name [] part is free = absurd (none-some part is)
  most_reached text name (first ∷ some) part is free =
      let by_test = λ (b : Bool). if b then Some first else named_in some name in
      elim (cases_Bool (bytes_eq name (name_of first))) [
        | inl same ↦ (let this : first ≡ part = same_Some first part (sym (ap by_test same) ∙ is) in
            let here : free_common rule names text first ≡ common text name = ap (λ b. if b then common text (name_of first) else 0) (ap (is_free rule names) this ∙ free) ∙ ap (common text) (sym (is_same_text name (name_of first) same)) in
            omega (arith, here))
        | inr other ↦ omega (arith, most_reached text name some part (sym (ap by_test other) ∙ is) free)
      ]

  -- the part along whose name a text goes farthest
  farthest : (text : List ℕ) (some : List RulePart) → (most_free rule names text some ≡ 0) ⊎ ((part : RulePart) × (is_free rule names part ≡ true) × (most_free rule names text some ≡ common text (name_of part)))
  farthest text [] = inl refl
  farthest text (part ∷ some) =
      elim (cases_lt (most_free rule names text some) (free_common rule names text part)) [
        | inl this ↦ (elim (cases_Bool (is_free rule names part)) [
          | inl free ↦ (let here : free_common rule names text part ≡ common text (name_of part) = ap (λ b. if b then common text (name_of part) else 0) free in
              inr (part, free, omega (arith, this, here)))
          | inr taken ↦ (let here : free_common rule names text part ≡ 0 = ap (λ b. if b then common text (name_of part) else 0) taken in
              absurd (omega (arith, this, here)))
        ])
        | inr rest ↦ (elim (farthest text some) [
          | inl none ↦ inl (omega (arith, none, rest))
          | inr far ↦ inr (far.0, far.1, omega (arith, far.2, rest))
        ])
      ]

  module _ (allowed : is_allowed rule ≡ true) where
    -- the name of a part that fits
    pub record HasFreeName (text : List ℕ) (part : Part) : Type 0 where
      pub name : List ℕ
      pub value : List ℕ
      pub cuts : cut 61 text ≡ Some (name, value)
      pub same : part ≡ (raised_all name, value)
      pub free : IsFreeName name

    pub name_fits : (text : List ℕ) (part : Part) → Fits rule names text part → HasFreeName text part
    name_fits text part f =
        let cuts = and_then_some if_named (cut 61 text) part f.reads in
        let name = cuts.0.0 in
        let value = cuts.0.1 in
        let its : Part = (raised_all name, value) in
        let named = if_some (is_name name) (Some its) part cuts.2 in
        let same = same_Some its part named.1 in
        let puts : put_part its rule ≡ Some f.made = ap (λ p. put_part p rule) same ∙ f.puts in
        record {
          name = name;
          value = value;
          cuts = cuts.1;
          same = sym same;
          free = record {
            named = named.0;
            fresh = ap (λ (p : Part). is_some (value_at names p.0)) same ∙ f.fresh;
            kind = elim (cases_Option (part_named (raised_all name))) [
              | inl none ↦ inr (starts_own name named.0 (if_some (starts_with nat_eq (raised_all name) (codes "X-")) (Some rule) f.made (sym (ap (λ o. put_named o its rule) none) ∙ puts)).0)
              | inr known ↦ (let v = option_map_some (λ v. put v rule) (value_of known.0 value) f.made (sym (ap (λ o. put_named o its rule) known.1) ∙ puts) in
                  elim (cases_Bool (takes rule known.0)) [
                    | inl taken ↦ inl (known.0, known.1, taken)
                    | inr never ↦ absurd (none_stands known.0 rule value v.0 never v.1 (ap is_allowed v.2 ∙ f.allowed))
                  ])
            ];
          };
        }

    -- a text with such a name goes on
    free_fits : (name : List ℕ) → IsFreeName name → BeginsOne (Fits rule names) name
    free_fits name free =
        elim free.kind [
          | inl known ↦ (let sample = sample_of known.0 rule allowed known.2 in (
            61 ∷ sample.text,
            (
              (raised_all name, sample.text),
              record {
                reads = part_of-named name sample.text free.named;
                fresh = free.fresh;
                made = put sample.value rule;
                puts = ap (λ o. put_named o (raised_all name, sample.text) rule) known.1 ∙ ap (option_map (λ v. put v rule)) sample.reads;
                allowed = sample.stands;
              },
            ),
          ))
          | inr own ↦ (61 ∷ [], ((raised_all name, []), record { reads = part_of-named name [] free.named; fresh = free.fresh; made = rule; puts = own_says_nothing name [] rule own; allowed = allowed }))
        ]

    -- the front of a text up to where it leaves the names
    own_begins : (text : List ℕ) → BeginsOne (Fits rule names) (take (own_length text) text)
    own_begins text =
        let on = own_goes_on text (suc (names_size names)) in
        let name = take (own_length text) text ++ on.end in
        let fresh = long_is_new (raised_all name) names (omega (arith, on.long, length-raised name, length-append (take (own_length text) text) on.end)) in
        begins-append (Fits rule names) (take (own_length text) text) on.end (free_fits name (record { named = own_named name on.is; fresh = fresh; kind = inr on.is }))

    known_begins : (text : List ℕ) (part : RulePart) → is_free rule names part ≡ true → BeginsOne (Fits rule names) (take (common (raised_all text) (name_of part)) text)
    known_begins text part free =
        let n = common (raised_all text) (name_of part) in
        let its = names_are part in
        let name = take n text ++ drop n (name_of part) in
        let same : raised_all name ≡ name_of part = goes_on text (name_of part) its.1 in
        let both = and_parts (takes rule part) (not (is_some (value_at names (name_of part)))) free in
        begins-append (Fits rule names) (take n text) (drop n (name_of part))
        (free_fits name (record { named = name_raised name (ap is_name same ∙ its.2); fresh = ap (λ t. is_some (value_at names t)) same ∙ not_true (is_some (value_at names (name_of part))) both.1; kind = inl (part, ap part_named same ∙ its.0, both.0) }))

    module _ (text : List ℕ) (none : (name value : List ℕ) → cut 61 text ≡ Some (name, value) → IsFreeName name → ⊥) where
      place_begins : BeginsOne (Fits rule names) (take (name_place rule names text) text)
      place_begins =
          elim (cases_lt (own_length text) (most_free rule names (raised_all text) parts)) [
            | inl known ↦ (elim (farthest (raised_all text) parts) [
              | inl nothing ↦ absurd (omega (arith, known, nothing))
              | inr far ↦ (let place : common (raised_all text) (name_of far.0) ≡ name_place rule names text = omega (arith, known, far.2) in
                  subst (λ (n : ℕ). BeginsOne (Fits rule names) (take n text)) place (known_begins text far.0 far.1))
            ])
            | inr own ↦ (let place : own_length text ≡ name_place rule names text = omega (arith, own) in
                subst (λ (n : ℕ). BeginsOne (Fits rule names) (take n text)) place (own_begins text))
          ]

      -- a name that begins so is not free
      not_longer : (n : ℕ) (rest name : List ℕ) → name_place rule names text < n → n ≤ length text → name ≡ take n text ++ rest → IsFreeName name → ⊥
      not_longer n rest name above most is free =
          elim free.kind [
            | inl known ↦ (let front : n ≤ common (raised_all text) (raised_all name) = subst (λ (t : List ℕ). n ≤ common (raised_all text) (raised_all t)) (sym is) (front_common n text rest most) in
                let its = found_name parts (raised_all name) known.0 known.1 in
                let fresh : not (is_some (value_at names (name_of known.0))) ≡ true = ap (λ t. not (is_some (value_at names t))) (sym its) ∙ ap not free.fresh in
                let reached = most_reached (raised_all text) (raised_all name) parts known.0 known.1 (λ i. known.2 i && fresh i) in
                omega (arith, above, front, reached))
            | inr own ↦ omega (arith, above, own_reaches n text rest most (subst IsOwn is own))
          ]

      past : (n : ℕ) → name_place rule names text < n → n ≤ length text → BeginsOne (Fits rule names) (take n text) → ⊥
      past n above most begins =
          let its = name_fits (take n text ++ begins.0) begins.1.0 begins.1.1 in
          elim (cases_Option (cut 61 (take n text))) [
            | inl whole ↦ (let x = cut-behind 61 (take n text) begins.0 (its.name, its.value) whole its.cuts in not_longer n x.0 its.name above most x.1 its.free)
            | inr found ↦ (let here = cut-front 61 (take n text) begins.0 found.0 found.1 in
                let there = cut-front 61 (take n text) (drop n text) found.0 found.1 in
                let same : its.name ≡ found.0.0 = ap (λ (p : List ℕ × List ℕ). p.0) (same_Some (its.name, its.value) (found.0.0, found.0.1 ++ begins.0) (sym its.cuts ∙ here)) in
                none found.0.0 (found.0.1 ++ drop n text) (sym (ap (cut 61) (take-append-drop n text)) ∙ there) (subst IsFreeName same its.free))
          ]

      -- A text whose name is none that may come is bad where it leaves such names.
      pub bad_name : IsBadAt (Fits rule names) text (name_place rule names text)
      bad_name = record {
        outside = λ is. (let its = name_fits text is.0 is.1 in none its.name its.value its.cuts its.free);
        within = omega (arith, most_within (raised_all text) parts, own_within text, length-raised text);
        begins = place_begins;
        longest = past;
      }
