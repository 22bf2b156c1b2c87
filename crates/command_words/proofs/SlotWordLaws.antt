-- What a parse of the command `slot` gives.
use Rattle.std.proofs.Common.{◌≡◌, ◌∙◌, List, [], Bool, true, false, cond, ◌&&◌, refl, ap, ap₂, sym, subst, arith}
use Rattle.std.specs.Prelude.{Option, Some, None, Result, Ok, Err, IfOk, IfSome, IsSome, IsErrOf, unwrap_or, option_and_then, codes, ℤ, ◌≤ℤ◌, ◌<ℤ◌, int_le, int_lt}
use Rattle.std.proofs.lemmas.Int.{ints}
use Rattle.std.proofs.lemmas.Bool.{and_parts}
use Rattle.std.proofs.lemmas.Option.{none-some, same_Some}
use Rattle.cal_model.specs.declared.row.Range.{Range}
use Rattle.cal_model.specs.Bodies.RangeElements.{range_between}
use Rattle.cal_model.specs.Values.UtcTexts.{utc_of}
use Rattle.cal_model.specs.Words.Limits.{first_date, last_date}
use Rattle.clap.specs.Words.{App, Text, all_of, fault_of, found_of, is_simple, is_simple_and_free, matches_of, rows_of}
use Rattle.clap.specs.declared.error.Error.{Error}
use Rattle.clap.specs.declared.parser.matches.ArgMatches.{ArgMatches}
use Rattle.clap.proofs.OnLiterals.{clap_on_literals}
use Rattle.clap.proofs.WalkLemmas.{raw_values-rows}
use Rattle.command_words.specs.Options.{IsPlain, number_said, value_text}
use Rattle.command_words.specs.RangeSaid.{range_said, served}
use Rattle.command_words.specs.SlotSaid.{AreChosen, IsFoundIn, IsSaidBy, paths_found, range_found}
use Rattle.command_words.specs.SlotWords.{TakesSlot, option_text, paths, range_of_words, slot}
use Rattle.command_words.specs.declared.slot_words.SlotWords.{SlotWords}
use Rattle.command_words.specs.declared.options.Untaken.{Untaken}
use Rattle.command_words.specs.declared.options.Untaken.TheVariants.{Words}
use Rattle.command_words.proofs.CommandLaws.{text_said}

simple : is_simple_and_free slot ≡ true
unfolding slot clap_on_literals
simple = refl

plain : is_simple slot ≡ true
unfolding slot clap_on_literals
plain = refl

pub simple_made : (a : App) → a ≡ slot → is_simple_and_free a ≡ true
simple_made a e = ap is_simple_and_free e ∙ simple

pub plain_made : (a : App) → a ≡ slot → is_simple a ≡ true
plain_made a e = ap is_simple e ∙ plain

module _ (m : ArgMatches) (ws : List Text) (rows : rows_of (found_of m) ≡ matches_of slot ws) where
  there : (name : Text) → IsPlain (value_text name m) → IsPlain (option_text name ws)
  there name h = subst IsPlain (text_said slot m ws name rows) h

  back : (name : Text) → IsPlain (option_text name ws) → IsPlain (value_text name m)
  back name h = subst IsPlain (sym (text_said slot m ws name rows)) h

  same_range : range_found m ≡ range_of_words ws
  same_range = ap₂ range_said (text_said slot m ws (codes "from") rows) (text_said slot m ws (codes "to") rows)

  same_paths : paths_found m ≡ paths ws
  same_paths = ap (λ (o : Option (List Text)). unwrap_or o []) (raw_values-rows (found_of m) (codes "path") ∙ ap (all_of (codes "path")) rows)

  -- words that the library takes are taken where what was found is chosen
  pub taken : (r : Result SlotWords Untaken) → fault_of slot ws ≡ [] → IfOk r (λ _. AreChosen m) → IfOk r (λ _. TakesSlot ws)
  taken (Ok w) faultless h = (faultless, there _ h.0, there _ h.1, subst IsSome same_range h.2)
  taken (Err e) faultless h = tt

  -- and else not
  pub refused : (r : Result SlotWords Untaken) → (IsErrOf r Words → AreChosen m → ⊥) → IsErrOf r Words → TakesSlot ws → ⊥
  refused r not_chosen is takes = not_chosen is (back _ takes.1, back _ takes.2, subst IsSome (sym same_range) takes.3)

  -- what is said is what the words say
  pub said : (r : Result SlotWords Untaken) → IfOk r (IsFoundIn m) → IfOk r (IsSaidBy ws)
  said (Ok w) h = record {
    users_are = h.users_are ∙ text_said slot m ws (codes "users") rows;
    journal_is = h.journal_is ∙ text_said slot m ws (codes "journal") rows;
    user_is = h.user_is ∙ text_said slot m ws (codes "as") rows;
    range_is = sym same_range ∙ h.range_is;
    minutes_are = h.minutes_are ∙ ap (λ (t : Text). number_said 1 100_000 1 t) (text_said slot m ws (codes "minutes") rows);
    most_are = h.most_are ∙ ap (λ (t : Text). number_said 1 100 1 t) (text_said slot m ws (codes "most") rows);
    paths_are = h.paths_are ∙ same_paths;
  }
  said (Err e) h = tt

-- words for which a parse gives the help or the version are not taken
pub not_asked : (ws : List Text) (r : Option Error) → IfSome r (λ _. fault_of slot ws ≡ [] → ⊥) → IfSome r (λ _. TakesSlot ws → ⊥)
not_asked ws None untaken = tt
not_asked ws (Some text) untaken = λ takes. untaken takes.0

-- A range that is said lies within the dates that are served.

low_of : (a m x : ℤ) → int_le a m ≡ true → m ≡ x → a ≤ℤ x
low_of a m x is same = grind (arith, ints)

high_of : (m b x : ℤ) → int_le m b ≡ true → m ≡ x → x ≤ℤ b
high_of m b x is same = grind (arith, ints)

less_of : (a b : ℤ) → int_lt a b ≡ true → a <ℤ b
less_of a b is = grind (arith, ints)

served_bounds : (test : Bool) (m x : ℤ) → (int_le first_date m && int_le m last_date) ≡ test → cond test (Some m) None ≡ Some x → (first_date ≤ℤ x) × (x ≤ℤ last_date)
served_bounds true m x is e =
    let both = and_parts (int_le first_date m) (int_le m last_date) is in
    let same : m ≡ x = same_Some m x e in
    (low_of first_date m x both.0 same, high_of m last_date x both.1 same)
served_bounds false m x is e = absurd (none-some x e)

moment_bounds : (o : Option ℤ) (x : ℤ) → option_and_then served o ≡ Some x → (first_date ≤ℤ x) × (x ≤ℤ last_date)
moment_bounds None x e = absurd (none-some x e)
moment_bounds (Some m) x e = served_bounds (int_le first_date m && int_le m last_date) m x refl e

between_bounds : (test : Bool) (start end : ℤ) (range : Range) → int_lt start end ≡ test → cond test (Some (record { start = record { 0 = start }; end = record { 0 = end } })) None ≡ Some range
    → (range.start.0 ≡ start) × (range.end.0 ≡ end) × (start <ℤ end)
between_bounds true start end range is e =
    let same = same_Some _ range e in
    (sym (ap (λ (r : Range). r.start.0) same), sym (ap (λ (r : Range). r.end.0) same), less_of start end is)
between_bounds false start end range is e = absurd (none-some range e)

parts_bounds : (a b : Option ℤ) (range : Range) → option_and_then (λ start. option_and_then (λ end. range_between start end) (option_and_then served b)) (option_and_then served a) ≡ Some range
    → (first_date ≤ℤ range.start.0) × (range.start.0 <ℤ range.end.0) × (range.end.0 ≤ℤ last_date)
parts_bounds a b range e = by_start (option_and_then served a) (moment_bounds a) e
  where
    by_end : (start : ℤ) (o : Option ℤ) → ((x : ℤ) → o ≡ Some x → (first_date ≤ℤ x) × (x ≤ℤ last_date)) → first_date ≤ℤ start → option_and_then (λ end. range_between start end) o ≡ Some range
        → (first_date ≤ℤ range.start.0) × (range.start.0 <ℤ range.end.0) × (range.end.0 ≤ℤ last_date)
    by_end start None bounds low e = absurd (none-some range e)
    by_end start (Some end) bounds low e =
        let is = between_bounds (int_lt start end) start end range refl e in
        let high = (bounds end refl).1 in
        let first = is.0 in
        let last = is.1 in
        let less = is.2 in
        (omega (arith, ints, low, first), omega (arith, ints, first, last, less), omega (arith, ints, last, high))

    by_start : (o : Option ℤ) → ((x : ℤ) → o ≡ Some x → (first_date ≤ℤ x) × (x ≤ℤ last_date))
        → option_and_then (λ start. option_and_then (λ end. range_between start end) (option_and_then served b)) o ≡ Some range
        → (first_date ≤ℤ range.start.0) × (range.start.0 <ℤ range.end.0) × (range.end.0 ≤ℤ last_date)
    by_start None bounds e = absurd (none-some range e)
    by_start (Some start) bounds e = by_end start (option_and_then served b) (moment_bounds b) (bounds start refl).0 e

pub range_within : (from to : Text) (range : Range) → range_said from to ≡ Some range → (first_date ≤ℤ range.start.0) × (range.start.0 <ℤ range.end.0) × (range.end.0 ≤ℤ last_date)
range_within from to range e = parts_bounds (utc_of from) (utc_of to) range e
