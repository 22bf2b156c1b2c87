-- Of a text without fault, each line passes the test of its name; and what the tests say of lengths.
use Rattle.std.proofs.Common.{◌≡◌, ℕ, Bool, true, false, List, [], ◌∷◌, map, refl, sym, ap, ap₂, ◌∙◌}
use Rattle.std.specs.Prelude.{Option, Some, None, find, not, ◌&&◌, if◌then◌else◌, option_map, unwrap_or, bytes_eq, is_some}
use Rattle.std.specs.List.{AllByRecursion as Each, list_any, list_all}
use Rattle.std.proofs.lemmas.Bool.{false≢true}
use Rattle.std.proofs.lemmas.Option.{none-some}
use Rattle.std.proofs.lemmas.Slice.Eq.{bytes_eq-Decides}
use Rattle.cal_base.specs.declared.line.Line.{Line}
use Rattle.cal_base.specs.Lines.ContentLines.{every}
use Rattle.cal_base.specs.Lines.ComponentTrees.{or_else}
use Rattle.cal_moment.specs.declared.stamp.Local.{Local}
use Rattle.cal_moment.specs.declared.stamp.Period.{Period}
use Rattle.cal_moment.specs.declared.stamp.PeriodEnd.TheVariants.{At as EndAt}
use Rattle.cal_model.specs.Values.ValueTexts.{date_time_of, cut}
use Rattle.cal_model.specs.Values.StampTexts.{is_one_of, utc_names, utc_stamp, time_stamp, stamp_of_time, line_zone, items_of, length_ahead, written_period_end, period_of_ends, period_with, period_of, periods_in_grammar}
use Rattle.cal_moment.specs.declared.stamp.PeriodEnd.{PeriodEnd}
use Rattle.cal_moment.specs.declared.stamp.Stamp.{Stamp}
use Rattle.cal_model.specs.Objects.LineValues.{looked_at, cannot_stand, has_own_fault, repeatable, is_second, is_short_end, are_short_periods}
use Rattle.cal_model.specs.Objects.ObjectFacts.{HasShortEnd}
use Rattle.cal_model.proofs.Words.EachLemmas.{neither, both_hold}

-- a line of the text, by its number, has no fault of its own
abbrev pub IsTested : List Line → Line → Type 0
IsTested lines line = (k : ℕ) × (has_own_fault lines k line ≡ false)

known_true : (b : Bool) → not b ≡ false → b ≡ true
known_true true is = refl
known_true false is = absurd (false≢true (sym is))

-- the test of its name holds of a line
pub test_holds : (lines : List Line) (name : List ℕ) (test : Line → Bool) (line : Line) → find (λ (row : List ℕ × (Line → Bool)). bytes_eq row.0 name) looked_at ≡ Some (name, test) →
    bytes_eq line.name name ≡ true → IsTested lines line → test line ≡ true
test_holds lines name test line row named (k, sound) =
    let found : find (λ (row : List ℕ × (Line → Bool)). bytes_eq row.0 line.name) looked_at ≡ Some (name, test) =
    ap (λ n. find (λ (row : List ℕ × (Line → Bool)). bytes_eq row.0 n) looked_at) ((bytes_eq-Decides line.name name).0 named) ∙ row in
    let stands : cannot_stand lines k line test ≡ false =
    sym (ap (λ (o : Option (List ℕ × (Line → Bool))). elim o [ None ↦ false | Some r ↦ cannot_stand lines k line r.1 ]) found) ∙ sound in
    known_true (test line) (neither (not (test line)) (not (list_any (bytes_eq line.name) repeatable) && is_second lines k line) stands).0

-- Lengths of periods do not depend on zones

abbrev short_of : Option Period → Option Bool
short_of period = option_map (λ (p : Period). is_short_end p.end) period

ends_alike : (start start' : Option Stamp) (end end' : Option Stamp) (ahead : Option PeriodEnd) → is_some start ≡ is_some start' → is_some end ≡ is_some end' →
    short_of (period_of_ends start (or_else (option_map EndAt end) ahead)) ≡ short_of (period_of_ends start' (or_else (option_map EndAt end') ahead))
ends_alike None None end end' ahead starts ends = refl
ends_alike None (Some s) end end' ahead starts ends = absurd (false≢true starts)
ends_alike (Some s) None end end' ahead starts ends = absurd (false≢true (sym starts))
ends_alike (Some s) (Some s') None None None starts ends = refl
ends_alike (Some s) (Some s') None None (Some end) starts ends = refl
ends_alike (Some s) (Some s') None (Some e) ahead starts ends = absurd (false≢true ends)
ends_alike (Some s) (Some s') (Some e) None ahead starts ends = absurd (false≢true (sym ends))
ends_alike (Some s) (Some s') (Some e) (Some e') ahead starts ends = refl

abbrev pub period_by : (List ℕ → Option Stamp) → Option (List ℕ × List ℕ) → Option Period
period_by moment parts = elim parts [ None ↦ None | Some p ↦ period_of_ends (moment p.0) (written_period_end moment p.1) ]

parts_alike : (moment other : List ℕ → Option Stamp) → ((text : List ℕ) → is_some (moment text) ≡ is_some (other text)) → (parts : Option (List ℕ × List ℕ)) →
    short_of (period_by moment parts) ≡ short_of (period_by other parts)
parts_alike moment other alike None = refl
parts_alike moment other alike (Some p) = ends_alike (moment p.0) (other p.0) (moment p.1) (other p.1) (length_ahead p.1) (alike p.0) (alike p.1)

times_alike : (number other : Option ℕ) (time : Option (Local × Bool)) → is_some (option_map (stamp_of_time number) time) ≡ is_some (option_map (stamp_of_time other) time)
times_alike number other None = refl
times_alike number other (Some time) = refl

period_alike : (zones : List (List ℕ)) (line : Line) (text : List ℕ) (utc : Bool) →
    short_of (if utc then period_with utc_stamp text else period_with (time_stamp (line_zone zones line)) text)
    ≡ short_of (if utc then period_with utc_stamp text else period_with (time_stamp (line_zone [] line)) text)
period_alike zones line text true = refl
period_alike zones line text false =
    parts_alike (time_stamp (line_zone zones line)) (time_stamp (line_zone [] line)) (λ t. times_alike (line_zone zones line) (line_zone [] line) (date_time_of t)) (cut 47 text)

abbrev all_short : Option (List Period) → Option Bool
all_short periods = option_map (list_all (λ (p : Period). is_short_end p.end)) periods

every_one : (period other : Option Period) (rest others : List (Option Period)) → short_of period ≡ short_of other → all_short (every rest) ≡ all_short (every others) →
    all_short (every (period ∷ rest)) ≡ all_short (every (other ∷ others))
every_one None None rest others one more = refl
every_one None (Some p) rest others one more = absurd (none-some _ one)
every_one (Some p) None rest others one more = absurd (none-some _ (sym one))
every_one (Some p) (Some q) rest others one more = both (every rest) (every others) more
  where
    both : (xs ys : Option (List Period)) → all_short xs ≡ all_short ys → all_short (option_map (λ zs. p ∷ zs) xs) ≡ all_short (option_map (λ zs. q ∷ zs) ys)
    both None None more = refl
    both None (Some ys) more = absurd (none-some _ more)
    both (Some xs) None more = absurd (none-some _ (sym more))
    both (Some xs) (Some ys) more = ap₂ (λ a b. Some (a && b)) (ap (λ o. unwrap_or o false) one) (ap (λ o. unwrap_or o false) more)

every_alike : (f g : List ℕ → Option Period) → ((text : List ℕ) → short_of (f text) ≡ short_of (g text)) → (texts : List (List ℕ)) → all_short (every (map f texts)) ≡ all_short (every (map g texts))
every_alike f g alike [] = refl
every_alike f g alike (text ∷ texts) = every_one (f text) (g text) (map f texts) (map g texts) (alike text) (every_alike f g alike texts)

grammar_alike : (zones : List (List ℕ)) (line : Line) → all_short (periods_in_grammar zones line) ≡ all_short (periods_in_grammar [] line)
unfolding periods_in_grammar
grammar_alike zones line = every_alike (period_of zones line) (period_of [] line) (λ text. period_alike zones line text (is_one_of utc_names line)) (items_of line)

-- each end of a list of which all are short is short
each_of_all : (periods : List Period) → list_all (λ (p : Period). is_short_end p.end) periods ≡ true → Each HasShortEnd periods
each_of_all [] all = tt
each_of_all (p ∷ periods) all = let parts = both_hold (is_short_end p.end) (list_all (λ (p : Period). is_short_end p.end) periods) all in (parts.0, each_of_all periods parts.1)

each_of_some : (periods other : Option (List Period)) → all_short periods ≡ all_short other → are_short_periods other ≡ true → Each HasShortEnd (unwrap_or periods [])
each_of_some None other alike short = tt
each_of_some (Some periods) None alike short = absurd (false≢true short)
each_of_some (Some periods) (Some others) alike short = each_of_all periods (ap (λ o. unwrap_or o false) alike ∙ short)

-- the periods of a line that passes its test have short ends
pub line_short : (zones : List (List ℕ)) (line : Line) → are_short_periods (periods_in_grammar [] line) ≡ true → Each HasShortEnd (unwrap_or (periods_in_grammar zones line) [])
line_short zones line short = each_of_some (periods_in_grammar zones line) (periods_in_grammar [] line) (grammar_alike zones line) short
