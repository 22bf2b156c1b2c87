-- What a parse of the command `expand` gives.
use Rattle.std.proofs.Common.{◌≡◌, ◌∙◌, List, [], true, refl, ap, ap₂, sym, subst}
use Rattle.std.specs.Prelude.{Option, Some, None, Result, Ok, Err, IfOk, IfSome, IsSome, IsErrOf, codes}
use Rattle.clap.specs.Words.{App, Text, fault_of, first_value, found_of, is_simple, is_simple_and_free, matches_of, rows_of}
use Rattle.clap.specs.declared.error.Error.{Error}
use Rattle.clap.specs.declared.parser.matches.ArgMatches.{ArgMatches}
use Rattle.clap.proofs.OnLiterals.{clap_on_literals}
use Rattle.cal_model.specs.declared.row.Range.{Range}
use Rattle.command_words.specs.Options.{value_text}
use Rattle.command_words.specs.ExpandSaid.{IsSaid}
use Rattle.command_words.specs.ExpandWords.{TakesExpand, expand, file_path, range_of_words, zone_path}
use Rattle.command_words.specs.RangeSaid.{range_said}
use Rattle.command_words.specs.declared.expand_words.ExpandWords.{ExpandWords}
use Rattle.command_words.specs.declared.options.Untaken.{Untaken}
use Rattle.command_words.specs.declared.options.Untaken.TheVariants.{Words}
use Rattle.command_words.proofs.CommandLaws.{first_said, text_said}

simple : is_simple_and_free expand ≡ true
unfolding expand clap_on_literals
simple = refl

plain : is_simple expand ≡ true
unfolding expand clap_on_literals
plain = refl

pub simple_made : (a : App) → a ≡ expand → is_simple_and_free a ≡ true
simple_made a e = ap is_simple_and_free e ∙ simple

pub plain_made : (a : App) → a ≡ expand → is_simple a ≡ true
plain_made a e = ap is_simple e ∙ plain

-- what the library finds in words that it takes
abbrev found_range : ArgMatches → Option Range
found_range m = range_said (value_text (codes "from") m) (value_text (codes "to") m)

abbrev SaysFound : ArgMatches → ExpandWords → Type 0
SaysFound m w = IsSaid (value_text (codes "file") m) (first_value (found_of m) (codes "zone")) (found_range m) w

module _ (m : ArgMatches) (ws : List Text) (rows : rows_of (found_of m) ≡ matches_of expand ws) where
  same_range : found_range m ≡ range_of_words ws
  same_range = ap₂ range_said (text_said expand m ws (codes "from") rows) (text_said expand m ws (codes "to") rows)

  -- they are taken where their moments state a range
  pub taken : (r : Result ExpandWords Untaken) → fault_of expand ws ≡ [] → IfOk r (SaysFound m) → IfOk r (λ _. TakesExpand ws)
  taken (Ok w) faultless is = (faultless, subst IsSome (sym (sym same_range ∙ is.range_is)) refl)
  taken (Err e) faultless is = tt

  -- and else not
  pub refused : (r : Result ExpandWords Untaken) → (IsErrOf r Words → found_range m ≡ None) → IsErrOf r Words → TakesExpand ws → ⊥
  refused r none is takes = nothing (subst IsSome (sym same_range ∙ none is) takes.1)
    where
      nothing : IsSome {T = Range} None → ⊥
      nothing e = absurd cc

  -- what is said is what the words say
  pub said : (r : Result ExpandWords Untaken) → IfOk r (SaysFound m) → IfOk r (λ w. IsSaid (file_path ws) (zone_path ws) (range_of_words ws) w)
  said (Ok w) is = record {
    file_is = is.file_is ∙ text_said expand m ws (codes "file") rows;
    zone_is = is.zone_is ∙ first_said expand m ws (codes "zone") rows;
    range_is = sym same_range ∙ is.range_is;
  }
  said (Err e) is = tt

-- words for which a parse gives the help or the version are not taken
pub not_asked : (ws : List Text) (r : Option Error) → IfSome r (λ _. fault_of expand ws ≡ [] → ⊥) → IfSome r (λ _. TakesExpand ws → ⊥)
not_asked ws None untaken = tt
not_asked ws (Some text) untaken = λ takes. untaken takes.0
