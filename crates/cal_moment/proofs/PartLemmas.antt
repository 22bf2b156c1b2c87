-- Where the parts of a time stop.
use Rattle.std.proofs.Common.{◌≡◌, ◌≢◌, ℕ, ◌+◌, ◌*◌, ◌<◌, ◌⊎◌, inl, inr, List, [], ◌∷◌, ◌++◌, length, refl, sym, ap, ◌∙◌, arith}
use Rattle.std.proofs.lemmas.List.{length-append}
use Rattle.cal_moment.specs.BadPlace.{IsIn}
use Rattle.cal_moment.specs.declared.lengths.TimeUnit.{TimeUnit}
use Rattle.cal_moment.specs.declared.lengths.TimeUnit.TheVariants.{Hour, Minute, Second}
use Rattle.cal_moment.specs.LengthPieces.{AreApart, HasLetter, IsLongestCount, SpellsBehind}
use Rattle.cal_moment.specs.LengthTexts.{SpellsCount, SpellsParts, SpellsTimes, time_units, unit_letter, unit_seconds}
use Rattle.cal_moment.specs.Stops.{BeginsWithNo, BeginsWithNoDigit, GoOnAlike, Stops}
use Rattle.cal_moment.proofs.CountLemmas.{BeginsWithLetter, WithCount, count_length, counts_then, stops_behind_count, stops_no_count, with_count_digit}
use Rattle.cal_moment.proofs.StopsLemmas.{stops_after, stops_end, stops_letter, stops_same, stops_wider}

letter_above : (unit : TimeUnit) → 57 < unit_letter unit
letter_above Hour = omega arith
letter_above Minute = omega arith
letter_above Second = omega arith

-- behind a number stands the letter of one of the units
record HeadOf (units : List TimeUnit) (text : List ℕ) : Type 0 where
  octet : ℕ
  rest : List ℕ
  has : HasLetter units octet
  above : 57 < octet
  split : text ≡ octet ∷ rest

behind_head : (units : List TimeUnit) (n : ℕ) (text : List ℕ) (seconds : ℕ) → SpellsBehind units n text seconds → HeadOf units text
behind_head [] n text seconds h = absurd h
behind_head (unit ∷ units) n text seconds h =
    elim h [
      | inl later ↦ (let head = behind_head units n text seconds later in
          record { octet = head.octet; rest = head.rest; has = inr head.has; above = head.above; split = head.split })
      | inr here ↦ record { octet = unit_letter unit; rest = here.0; has = inl refl; above = letter_above unit; split = here.3 }
    ]

pub behind_letter : (units : List TimeUnit) (n : ℕ) (text : List ℕ) (seconds : ℕ) → SpellsBehind units n text seconds → BeginsWithLetter text
behind_letter units n text seconds h =
    let head = behind_head units n text seconds h in
    record { octet = head.octet; rest = head.rest; above = head.above; split = head.split }

-- all parts may be left out
pub parts_none : (units : List TimeUnit) → SpellsParts units [] 0
parts_none [] = (refl, refl)
parts_none (unit ∷ units) = inl (parts_none units)

-- a number and what follows it are parts
pub parts_join : (units : List TimeUnit) (number : List ℕ) (n : ℕ) (rest : List ℕ) (seconds : ℕ) → SpellsCount number n → SpellsBehind units n rest seconds → SpellsParts units (number ++ rest) seconds
parts_join [] number n rest seconds count behind = absurd behind
parts_join (unit ∷ units) number n rest seconds count behind =
    elim behind [
      | inl later ↦ inl (parts_join units number n rest seconds count later)
      | inr here ↦ inr (record {
        number = number;
        n = n;
        rest = here.0;
        others = here.1;
        spells_number = count;
        spells_rest = here.2;
        spelled = ap (λ t. number ++ t) here.3;
        total = here.4;
      })
    ]

-- a number, and what follows it
record IsSplit (units : List TimeUnit) (text : List ℕ) (seconds : ℕ) : Type 0 where
  number : List ℕ
  n : ℕ
  rest : List ℕ
  count : SpellsCount number n
  behind : SpellsBehind units n rest seconds
  split : text ≡ number ++ rest

-- and there are no other parts
parts_split : (units : List TimeUnit) (text : List ℕ) (seconds : ℕ) → SpellsParts units text seconds → ((text ≡ []) × (seconds ≡ 0)) ⊎ IsSplit units text seconds
parts_split [] text seconds parts = inl parts
parts_split (unit ∷ units) text seconds parts =
    elim parts [
      | inl later ↦ elim (parts_split units text seconds later) [
        | inl none ↦ inl none
        | inr w ↦ inr (record { number = w.number; n = w.n; rest = w.rest; count = w.count; behind = inl w.behind; split = w.split })
      ]
      | inr here ↦ inr (record {
        number = here.number;
        n = here.n;
        rest = unit_letter unit ∷ here.rest;
        count = here.spells_number;
        behind = inr (here.rest, here.others, here.spells_rest, refl, here.total);
        split = here.spelled;
      })
    ]

-- what may follow any number
abbrev Behind : List TimeUnit → ℕ → List ℕ → Type 0
Behind units n text = IsIn (SpellsBehind units n) text

with_count : (units : List TimeUnit) (text : List ℕ) → text ≢ [] → IsIn (SpellsParts units) text → WithCount (Behind units) text
with_count units text some parts =
    elim (parts_split units text parts.0 parts.1) [
      | inl none ↦ absurd (some none.0)
      | inr w ↦ record { number = w.number; n = w.n; rest = w.rest; spells = w.count; behind = (parts.0, w.behind); split = w.split }
    ]

from_count : (units : List TimeUnit) (text : List ℕ) → WithCount (Behind units) text → IsIn (SpellsParts units) text
from_count units text w = (w.behind.0, rw w.split (parts_join units w.number w.n w.rest w.behind.0 w.spells w.behind.1))

letters : (units : List TimeUnit) (n : ℕ) (text : List ℕ) → Behind units n text → BeginsWithLetter text
letters units n text h = behind_letter units n text h.0 h.1

-- some text goes on behind a number, where there is a unit
some_behind : (units : List TimeUnit) (n : ℕ) → units ≢ [] → (text : List ℕ) × Behind units n text
some_behind [] n some = absurd (some refl)
some_behind (unit ∷ units) n some =
    (unit_letter unit ∷ [], (n * unit_seconds unit + 0, inr ([], 0, parts_none units, refl, refl)))

pub not_empty_alike : (a b : List ℕ) → GoOnAlike a b → b ≢ [] → a ≢ []
not_empty_alike [] [] alike some = some
not_empty_alike [] (d ∷ b) alike some = absurd alike
not_empty_alike (c ∷ a) b alike some = λ e. cc

-- parts stop where the number that they begin with stops, or what follows it
parts_stop : (units : List TimeUnit) (text left : List ℕ) → text ≢ [] → Stops (WithCount (Behind units)) text left → Stops (IsIn (SpellsParts units)) text left
parts_stop units text left some s =
    stops_wider (WithCount (Behind units)) (IsIn (SpellsParts units)) (λ t. t ≢ []) text left not_empty_alike
    (λ t w. from_count units t w)
    (λ t parts. elim (parts_split units t parts.0 parts.1) [
      | inl none ↦ inr (λ more. more none.0, some)
      | inr w ↦ inl (record { number = w.number; n = w.n; rest = w.rest; spells = w.count; behind = (parts.0, w.behind); split = w.split })
    ])
    s

pub parts_stop_behind : (units : List TimeUnit) (text : List ℕ) (n : ℕ) (rest left : List ℕ) → text ≢ [] → IsLongestCount text n rest → Stops (IsIn (SpellsBehind units n)) rest left → Stops (IsIn (SpellsParts units)) text left
parts_stop_behind units text n rest left some count s =
    parts_stop units text left some (stops_behind_count (Behind units) text n rest left (letters units) count s)

pub parts_stop_count : (units : List TimeUnit) (text : List ℕ) → units ≢ [] → text ≢ [] → BeginsWithNoDigit text → Stops (IsIn (SpellsParts units)) text text
parts_stop_count units text more some none =
    let b = some_behind units 0 more in
    parts_stop units text text some (stops_no_count (Behind units) text b.0 b.1 none)

pub no_alike : (octet : ℕ) (a b : List ℕ) → GoOnAlike a b → BeginsWithNo octet b → BeginsWithNo octet a
no_alike octet [] b alike none = tt
no_alike octet (c ∷ a) [] alike none = absurd alike
no_alike octet (c ∷ a) (d ∷ b) alike none = rw alike none

-- the letter of a unit alone
unit_behind : (unit : TimeUnit) (n : ℕ) → IsIn (SpellsBehind (unit ∷ []) n) (unit_letter unit ∷ [])
unit_behind unit n = (n * unit_seconds unit + 0, inr ([], 0, (refl, refl), refl, refl))

-- neither the unit's letter nor a later one
pub behind_stops_letter : (unit : TimeUnit) (n : ℕ) (text : List ℕ) → BeginsWithNo (unit_letter unit) text → Stops (IsIn (SpellsBehind (unit ∷ []) n)) text text
behind_stops_letter unit n text none =
    stops_letter (IsIn (SpellsBehind (unit ∷ []) n)) (unit_letter unit) text [] (unit_behind unit n)
    (λ next h. elim h.1 [ inl later ↦ absurd later | inr here ↦ (here.0, here.3) ])
    none

-- a unit that is left out
pub behind_stops_later : (unit : TimeUnit) (units : List TimeUnit) (n : ℕ) (text left : List ℕ) → BeginsWithNo (unit_letter unit) text → Stops (IsIn (SpellsBehind units n)) text left → Stops (IsIn (SpellsBehind (unit ∷ units) n)) text left
behind_stops_later unit units n text left none s =
    stops_wider (IsIn (SpellsBehind units n)) (IsIn (SpellsBehind (unit ∷ units) n)) (BeginsWithNo (unit_letter unit)) text left (no_alike (unit_letter unit))
    (λ t h. (h.0, inl h.1))
    (λ t h. elim h.1 [
      | inl later ↦ inl (h.0, later)
      | inr here ↦ inr (λ other. (rw here.3 at other) refl, none)
    ])
    s

-- behind a letter stand the parts of the later units
behind_unit : (unit : TimeUnit) (units : List TimeUnit) (n : ℕ) (text : List ℕ) → AreApart (unit ∷ units) → IsIn (SpellsBehind (unit ∷ units) n) (unit_letter unit ∷ text) → IsIn (SpellsParts units) text
behind_unit unit units n text apart h =
    elim h.1 [
      | inl later ↦ (let head = behind_head units n (unit_letter unit ∷ text) h.0 later in
          let same : unit_letter unit ≡ head.octet = cc (head.split) in
          absurd (apart.0 (rw same head.has)))
      | inr here ↦ (let same : text ≡ here.0 = cc (here.3) in (here.1, rw same here.2))
    ]

pub behind_stops_parts : (unit : TimeUnit) (units : List TimeUnit) (n : ℕ) (text left : List ℕ) → AreApart (unit ∷ units) → Stops (IsIn (SpellsParts units)) text left → Stops (IsIn (SpellsBehind (unit ∷ units) n)) (unit_letter unit ∷ text) left
behind_stops_parts unit units n text left apart s =
    stops_after (IsIn (SpellsBehind (unit ∷ units) n)) (unit_letter unit ∷ []) text left
    (stops_same (IsIn (SpellsParts units)) (λ t. IsIn (SpellsBehind (unit ∷ units) n) (unit_letter unit ∷ t)) text left
    (λ t parts. (n * unit_seconds unit + parts.0, inr (t, parts.0, parts.1, refl, refl)))
    (λ t h. behind_unit unit units n t apart h)
    s)

-- nothing follows the last unit
pub behind_stops_end : (unit : TimeUnit) (n : ℕ) (left : List ℕ) → left ≢ [] → Stops (IsIn (SpellsBehind (unit ∷ []) n)) (unit_letter unit ∷ left) left
behind_stops_end unit n left some =
    stops_end (IsIn (SpellsBehind (unit ∷ []) n)) (unit_letter unit ∷ []) left (unit_behind unit n)
    (λ next h. elim h.1 [ inl later ↦ absurd later | inr here ↦ cc (here.3, here.2.0) ])
    some

pub time_units_apart : AreApart time_units
time_units_apart = (
  λ h. elim h [ inl minute ↦ omega (arith, minute) | inr h ↦ elim h [ inl second ↦ omega (arith, second) | inr none ↦ none ] ],
  (
    λ h. elim h [ inl second ↦ omega (arith, second) | inr none ↦ none ],
    (λ none. none, tt),
  ),
)

-- a text that begins with a number is not empty
count_some : (text : List ℕ) (n : ℕ) (rest : List ℕ) → IsLongestCount text n rest → text ≢ []
count_some text n rest count e =
    let width = count_length count.number n count.spells in
    absurd (omega (arith, width, length-append count.number rest, ap length count.split, ap length e))

times_same : (text left : List ℕ) → Stops (WithCount (Behind time_units)) text left → Stops (IsIn SpellsTimes) text left
times_same text left s =
    stops_same (WithCount (Behind time_units)) (IsIn SpellsTimes) text left
    (λ t w. let parts = from_count time_units t w in (parts.0, (λ e. with_count_digit (Behind time_units) t w (rw e tt), parts.1)))
    (λ t times. with_count time_units t times.1.0 (times.0, times.1.1))
    s

-- times stop where the number that they begin with stops, or what follows it
pub times_stop_behind : (text : List ℕ) (n : ℕ) (rest left : List ℕ) → IsLongestCount text n rest → Stops (IsIn (SpellsBehind time_units n)) rest left → Stops (IsIn SpellsTimes) text left
times_stop_behind text n rest left count s =
    times_same text left (stops_behind_count (Behind time_units) text n rest left (letters time_units) count s)

pub times_stop_count : (text : List ℕ) → BeginsWithNoDigit text → Stops (IsIn SpellsTimes) text text
times_stop_count text none =
    let b = some_behind time_units 0 (λ e. cc) in
    times_same text text (stops_no_count (Behind time_units) text b.0 b.1 none)

pub times_join : (text : List ℕ) (n : ℕ) (rest : List ℕ) (seconds : ℕ) → IsLongestCount text n rest → SpellsBehind time_units n rest seconds → SpellsTimes text seconds
times_join text n rest seconds count behind =
    (count_some text n rest count, rw count.split (parts_join time_units count.number n rest seconds count.spells behind))

not_nothing : (units : List TimeUnit) (text : List ℕ) (seconds : ℕ) → text ≡ [] → IsSplit units text seconds → ⊥
not_nothing units text seconds none w =
    let width = count_length w.number w.n w.count in
    absurd (omega (arith, width, length-append w.number w.rest, ap length w.split, ap length none))

-- parts have one sum, where what follows a number has one
one_parts : (units : List TimeUnit) → ((n : ℕ) (text : List ℕ) (a b : ℕ) → SpellsBehind units n text a → SpellsBehind units n text b → a ≡ b) → (text : List ℕ) (a b : ℕ) → SpellsParts units text a → SpellsParts units text b → a ≡ b
one_parts units one text a b first second =
    elim (parts_split units text a first) [
      | inl none ↦ elim (parts_split units text b second) [
        | inl also ↦ none.1 ∙ sym also.1
        | inr w ↦ absurd (not_nothing units text b none.0 w)
      ]
      | inr v ↦ elim (parts_split units text b second) [
        | inl none ↦ absurd (not_nothing units text a none.0 v)
        | inr w ↦ (let same = counts_then v.number v.rest w.number w.rest v.n w.n v.count w.count (letters units v.n v.rest (a, v.behind)) (letters units w.n w.rest (b, w.behind)) (sym v.split ∙ w.split) in
            one w.n w.rest a b (rw same.0 at (rw same.1 at v.behind)) w.behind)
      ]
    ]

other_head : (unit : TimeUnit) (units : List TimeUnit) (n : ℕ) (text : List ℕ) (seconds : ℕ) (rest : List ℕ) → ¬ HasLetter units (unit_letter unit) → SpellsBehind units n text seconds → text ≡ unit_letter unit ∷ rest → ⊥
other_head unit units n text seconds rest apart later e =
    let head = behind_head units n text seconds later in
    let same : unit_letter unit ≡ head.octet = cc (e, head.split) in
    apart (rw same head.has)

one_behind : (units : List TimeUnit) → AreApart units → (n : ℕ) (text : List ℕ) (a b : ℕ) → SpellsBehind units n text a → SpellsBehind units n text b → a ≡ b
one_behind [] apart n text a b first second = absurd first
one_behind (unit ∷ units) apart n text a b first second =
    elim first [
      | inl v ↦ elim second [
        | inl w ↦ one_behind units apart.1 n text a b v w
        | inr w ↦ absurd (other_head unit units n text a w.0 apart.0 v w.3)
      ]
      | inr v ↦ elim second [
        | inl w ↦ absurd (other_head unit units n text b v.0 apart.0 w v.3)
        | inr w ↦ (let same : w.0 ≡ v.0 = cc (v.3, w.3) in
            let others = one_parts units (one_behind units apart.1) v.0 v.1 w.1 v.2 (rw same at w.2) in
            omega (arith, v.4, w.4, others))
      ]
    ]

-- times have one sum of seconds
pub one_times : (text : List ℕ) (a b : ℕ) → SpellsTimes text a → SpellsTimes text b → a ≡ b
one_times text a b first second =
    one_parts time_units (one_behind time_units time_units_apart) text a b first.1 second.1
