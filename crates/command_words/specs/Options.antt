-- Options of a command line, as a parse sees them.
use Rattle.std.specs.Prelude.{◌≡◌, ◌≢◌, ◌⊎◌, ◌<◌, EachIndex, length, slice_index, ℕ, true, [], ◌∷◌, Some, unwrap_or, if◌then◌else◌}
use Rattle.std.specs.Str.Parse.{digits_value, without_leading_plus}
use Rattle.clap.specs.ValueTests.{is_unsigned_in}
use Rattle.clap.specs.Words.{App, Rule, Text, first_value, found_of, kind_of, new_rule}
use Rattle.clap.specs.declared.error.Error.{Error}
use Rattle.clap.specs.declared.error.kind.ErrorKind.TheVariants as kind
use Rattle.clap.specs.declared.parser.matches.ArgMatches.{ArgMatches}
use Rattle.clap.specs.declared.builder.value_parser.ValueParser.TheVariants.{Unsigned}

-- an option that may be given, and one that has to be
abbrev pub free : Text → Rule
free name = record (new_rule name) { long = Some name; value_names = 1 }

abbrev pub needed : Text → Rule
needed name = record (free name) { required = true }

-- an option that is a number, with its bounds, and the text that stands for it where it is not given
abbrev pub number : Text → ℕ → ℕ → Text → Rule
number name low high other =
    record (new_rule name) { long = Some name; value_names = 1; defaults = other ∷ []; parser = Some (Unsigned low high) }

-- a command that has a version
abbrev pub with_version : App → App
with_version app = record app { top = record app.top { has_version = true } }

-- the number that a text says, where it says one between these two, and else the other one
abbrev pub number_said : ℕ → ℕ → ℕ → Text → ℕ
number_said low high other text =
    if is_unsigned_in low high text then digits_value 10 (without_leading_plus text) else other

-- the text of an option in what a parse found, where it has one
abbrev pub value_text : Text → ArgMatches → Text
value_text name matches = unwrap_or (first_value (found_of matches) name) []

-- a number is written in this way alone: it has no sign, and no digit 0 in front of another
abbrev pub IsPlain : Text → Type 0
IsPlain text =
    EachIndex text (λ k. slice_index text k < 58) × EachIndex text (λ k. 47 < slice_index text k)
    × ((length text ≡ 1) ⊎ ((0 < length text) × (slice_index text 0 ≢ 48)))

-- what a parse gives in place of what was found is the help or the version
abbrev pub IsShown : Error → Type 0
IsShown error = (kind_of error ≡ kind.DisplayHelp) ⊎ (kind_of error ≡ kind.DisplayVersion)
