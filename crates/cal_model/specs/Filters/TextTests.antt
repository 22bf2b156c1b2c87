-- Tests of texts and of parameters: text-match and param-filter (RFC 4791, 9.7.3 and 9.7.5) under the collations i;ascii-casemap and i;octet (RFC 4790, 9.2 and 9.3).
-- A text is found in another or is not; the place where it stands says nothing.
use Rattle.std.specs.Prelude.{ℕ, Bool, not, ◌||◌, ◌==◌, nat_eq, if◌then◌else◌, List, [], ◌∷◌, length, filter, bytes_eq}
use Rattle.std.specs.List.{list_any, list_all, starts_with}
use Rattle.cal_base.specs.declared.line.Param.{Param}
use Rattle.cal_base.specs.Texts.Text.{raised_all}
use Rattle.cal_model.specs.declared.filter.Collation.{Collation}
use Rattle.cal_model.specs.declared.filter.Collation.TheVariants.{AsciiCasemap, Octet}
use Rattle.cal_model.specs.declared.filter.TextMatch.{TextMatch}
use Rattle.cal_model.specs.declared.filter.ParamTest.{ParamTest}
use Rattle.cal_model.specs.declared.filter.ParamTest.TheVariants.{Absent, Defined, Text}
use Rattle.cal_model.specs.declared.filter.ParamFilter.{ParamFilter}
use Rattle.cal_model.specs.Words.Lists.{is_empty}
use Rattle.cal_model.specs.Values.ValueTexts.{unescaped}

-- the part stands somewhere in the text
abbrev pub stands_in : List ℕ → List ℕ → Bool
stands_in part [] = length part == 0
stands_in part (octet ∷ text) = starts_with nat_eq (octet ∷ text) part || stands_in part text

-- a text as a collation compares it: by its octets, or with the ASCII letters in one case
abbrev pub collated : Collation → List ℕ → List ℕ
collated AsciiCasemap text = raised_all text
collated Octet text = text

-- text-match: whether the text is found in the value without its escapes; negate-condition turns the answer
abbrev pub text_passes : TextMatch → List ℕ → Bool
text_passes test value =
    let found = stands_in (collated test.collation test.text) (collated test.collation (unescaped value)) in
    if test.negate then not found else found

-- the parameters of a name
abbrev pub params_named : List ℕ → List Param → List Param
params_named name params = filter (λ (param : Param). bytes_eq param.name name) params

-- some value of a parameter passes
abbrev pub param_passes : TextMatch → Param → Bool
param_passes test param = list_any (text_passes test) param.values

-- What is asked of the parameters of a name: that there is none, that there is one, or that a value of one passes. A text-match, also one that is negated, is never passed by a parameter that is not there.
abbrev pub param_test_holds : ParamTest → List Param → Bool
param_test_holds Absent params = is_empty params
param_test_holds Defined params = not (is_empty params)
param_test_holds (Text test) params = list_any (param_passes test) params

-- a param-filter, on the parameters of one line
abbrev pub param_filter_holds : List Param → ParamFilter → Bool
param_filter_holds params filter = param_test_holds filter.test (params_named filter.name params)

abbrev pub param_filters_hold : List ParamFilter → List Param → Bool
param_filters_hold filters params = list_all (param_filter_holds params) filters
