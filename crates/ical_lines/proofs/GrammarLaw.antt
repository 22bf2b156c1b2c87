-- A text is a line exactly where the standard's grammar writes it.
use Rattle.std.proofs.Common.{◌≡◌, ℕ, ◌-◌, ◌≤◌, Bool, true, false, cond, not, ◌&&◌, ◌==◌, nat_eq, List, [], ◌∷◌, ◌++◌, map, flat_map, length, take, drop, All, Option, Some, None, option_map, option_and_then, refl, sym, ap, ap₂, subst, ◌∙◌, ⊎_elim, arith, length-append, take-append-drop, take_at, drop_at}
use Rattle.std.specs.List.{list_any, list_all, ends_with, join_with_byte, AllByRecursion}
use lib.Pointwise.{pointwise}
use borrow.Author.Tests.{eqb-true, ne_eqb, not-true}
use Rattle.std.proofs.lemmas.Bool.{and_parts, and_from, or_parts, and_right, and_left, cond-true, cond-false, cases_Bool, false≢true}
use Rattle.std.proofs.lemmas.List.{append-nil, length-map}
use Rattle.std.proofs.lemmas.List.Elements.{All-nil, All-cons, All-head, All-tail}
use Rattle.cal_base.specs.declared.line.Param.{Param}
use Rattle.cal_base.specs.declared.line.Line.{Line}
use Rattle.cal_base.specs.Texts.Octets.{double_quote, comma, colon, semicolon, equals_sign}
use Rattle.cal_base.specs.Texts.Text.{raised_all}
use Rattle.cal_base.specs.Lines.ContentLines.{every, unquoted_pieces, first_unquoted, is_name_octet, is_name, is_special, quoted_value, param_value, param_of_parts, param_of, line_of_pieces, line_of_parts, line_of}
use Rattle.cal_base.specs.Lines.LineGrammar.{WrittenValue, WrittenParam, WrittenLine, is_value, IsParam, IsWritten, value_text, param_text, line_text, param_meant, line_meant, LinesAreTheGrammar}
use Rattle.ical_lines.proofs.LineTexts.{map_behind_test}
use Rattle.ical_lines.proofs.QuotedCuts.{first_unquoted-text, unquoted_pieces-some, unquoted_pieces-join, IsClear, clear_append, clear_found, join-pieces}

-- Lists of things read from texts, and written as these texts

mapped_some : {X Y : Type 0} (f : X → Y) (o : Option X) (y : Y) → option_map f o ≡ Some y → (x : X) × (o ≡ Some x) × (f x ≡ y)
mapped_some f None y is = absurd (cc)
mapped_some f (Some x) y is = (x, refl, cc)

every_parts : {X : Type 0} (o : Option X) (more : List (Option X)) (xs : List X) → every (o ∷ more) ≡ Some xs → (x : X) × (ys : List X) × (o ≡ Some x) × (every more ≡ Some ys) × (x ∷ ys ≡ xs)
every_parts None more xs is = absurd (cc)
every_parts {X} (Some x) more xs is =
    let rest = mapped_some (λ (ys : List X). x ∷ ys) (every more) xs is in
    (x, rest.0, refl, rest.1, rest.2)

unmapped : {X W : Type 0} (read : List ℕ → Option X) (written : W → List ℕ) (meant : W → X) (Good : W → Type 0) → ((text : List ℕ) (x : X) → read text ≡ Some x → (w : W) × (written w ≡ text) × (meant w ≡ x) × Good w) → (texts : List (List ℕ)) (xs : List X) → every (map read texts) ≡ Some xs → (ws : List W) × (map written ws ≡ texts) × (map meant ws ≡ xs) × All Good ws
unmapped read written meant Good one [] xs is = ([], refl, cc, All-nil Good)
unmapped read written meant Good one (text ∷ texts) xs is =
    let parts = every_parts (read text) (map read texts) xs is in
    let first = one text parts.0 parts.2 in
    let rest = unmapped read written meant Good one texts parts.1 parts.3 in
    (first.0 ∷ rest.0, ap₂ (λ t ts. t ∷ ts) first.1 rest.1, ap₂ (λ x ys. x ∷ ys) first.2 rest.2 ∙ parts.4, All-cons Good first.0 rest.0 first.3 rest.3)

mapped : {X W : Type 0} (read : List ℕ → Option X) (written : W → List ℕ) (meant : W → X) (Good : W → Type 0) → ((w : W) → Good w → read (written w) ≡ Some (meant w)) → (ws : List W) → All Good ws → every (map read (map written ws)) ≡ Some (map meant ws)
mapped read written meant Good one [] all = refl
mapped read written meant Good one (w ∷ ws) all =
    ap (λ o. every (o ∷ map read (map written ws))) (one w (All-head Good w ws all))
    ∙ ap (option_map (λ xs. meant w ∷ xs)) (mapped read written meant Good one ws (All-tail Good w ws all))

-- A parameter's value

abbrev IsGood : WrittenValue → Type 0
IsGood value = is_value value ≡ true

one_octet : (octet : ℕ) (text : List ℕ) → pointwise nat_eq (octet ∷ []) text ≡ true → text ≡ octet ∷ []
one_octet octet [] is = absurd (false≢true is)
one_octet octet (other ∷ []) is = ap (λ o. o ∷ []) (sym (eqb-true octet other (and_parts (octet == other) true is).0))
one_octet octet (other ∷ next ∷ text) is = absurd (false≢true (and_parts (octet == other) false is).1)

-- a text that ends in an octet
pub end_octet : (octet : ℕ) (text : List ℕ) → ends_with nat_eq text (octet ∷ []) ≡ true → take (length text - 1) text ++ octet ∷ [] ≡ text
end_octet octet text is = ap (λ end. take (length text - 1) text ++ end) (sym (one_octet octet (drop (length text - 1) text) is)) ∙ take-append-drop (length text - 1) text

-- a value that is written so and read so
abbrev WritesValue : List ℕ → List ℕ → Type 0
WritesValue text value = (w : WrittenValue) × (value_text w ≡ text) × (w.text ≡ value) × (is_value w ≡ true)

quoted_written : (text value : List ℕ) → quoted_value text ≡ Some value → WritesValue (double_quote ∷ text) value
quoted_written text value is =
    let inside = take (length text - 1) text in
    let parts = test_some (ends_with nat_eq text (double_quote ∷ []) && not (list_any (λ octet. octet == double_quote) inside)) inside value is in
    let tests = and_parts (ends_with nat_eq text (double_quote ∷ [])) _ parts.0 in
    (record { quoted = true; text = inside }, ap (λ rest. double_quote ∷ rest) (end_octet double_quote text tests.0), parts.1, tests.1)
  where
    test_some : (test : Bool) (x y : List ℕ) → cond test (Some x) None ≡ Some y → (test ≡ true) × (x ≡ y)
    test_some true x y is = (refl, cc)
    test_some false x y is = absurd (cc)

plain_written : (text value : List ℕ) → cond (list_any is_special text) None (Some text) ≡ Some value → WritesValue text value
plain_written text value is =
    let parts = test_none (list_any is_special text) text value is in
    (record { quoted = false; text = text }, refl, parts.1, ap not parts.0)
  where
    test_none : (test : Bool) (x y : List ℕ) → cond test None (Some x) ≡ Some y → (test ≡ false) × (x ≡ y)
    test_none true x y is = absurd (cc)
    test_none false x y is = (refl, cc)

value_written : (text value : List ℕ) → param_value text ≡ Some value → WritesValue text value
value_written [] value is = (record { quoted = false; text = [] }, refl, cc, refl)
value_written (octet ∷ text) value is =
    ⊎_elim
    (λ (quote : (octet == double_quote) ≡ true).
    let written = quoted_written text value (sym (cond-true _ _ _ quote) ∙ is) in
    (written.0, written.1 ∙ ap (λ o. o ∷ text) (sym (eqb-true octet double_quote quote)), written.2, written.3))
    (λ (other : (octet == double_quote) ≡ false). plain_written (octet ∷ text) value (sym (cond-false _ _ _ other) ∙ is))
    (cases_Bool (octet == double_quote))

-- A parameter

-- what stands behind a parameter's semicolon
abbrev piece_text : WrittenParam → List ℕ
piece_text param = param.name ++ equals_sign ∷ join_with_byte comma (map value_text param.values)

some_behind : {X Y : Type 0} (f : X → Option Y) (o : Option X) (y : Y) → option_and_then f o ≡ Some y → (x : X) × (o ≡ Some x) × (f x ≡ Some y)
some_behind f None y is = absurd (cc)
some_behind f (Some x) y is = (x, refl, is)

param_written : (text : List ℕ) (param : Param) → param_of text ≡ Some param → (w : WrittenParam) × (piece_text w ≡ text) × (param_meant w ≡ param) × IsParam w
param_written text param is =
    let parts = some_behind param_of_parts (first_unquoted equals_sign false text) param is in
    let name = parts.0.0 in
    let behind = parts.0.1 in
    let cut = first_unquoted-text equals_sign false text name behind parts.1 in
    let read = map_behind_test (is_name name) _ (every (map param_value (unquoted_pieces comma false behind))) param parts.2 in
    let values = unmapped param_value value_text (λ (w : WrittenValue). w.text) IsGood value_written (unquoted_pieces comma false behind) read.1.0 read.1.1.0 in
    let joined = ap (join_with_byte comma) values.1 ∙ unquoted_pieces-join comma false behind in
    let some = unquoted_pieces-some comma false behind in (
      record { name = name; values = values.0 },
      ap (λ rest. name ++ equals_sign ∷ rest) joined ∙ sym cut,
      ap (λ them. record { name = raised_all name; values = them }) values.2 ∙ read.1.1.1,
      (read.0, omega (arith, ap length values.1, length-map values.0 value_text), values.3),
    )

-- A line

join_params : (first : List ℕ) (params : List WrittenParam) → join_with_byte semicolon (first ∷ map piece_text params) ≡ first ++ flat_map param_text params
join_params first [] = sym (append-nil first)
join_params first (param ∷ params) = ap (λ rest. first ++ semicolon ∷ rest) (join_params (piece_text param) params)

pieces_written : (raw value : List ℕ) (them : List (List ℕ)) (line : Line) → line_of_pieces raw value them ≡ Some line → (name : List ℕ) × (params : List WrittenParam) × (is_name name ≡ true) × All IsParam params × (name ∷ map piece_text params ≡ them) × (record { name = raised_all name; params = map param_meant params; value = value; raw = raw } ≡ line)
pieces_written raw value [] line is = absurd (cc)
pieces_written raw value (name ∷ pieces) line is =
    let read = map_behind_test (is_name name) _ (every (map param_of pieces)) line is in
    let params = unmapped param_of piece_text param_meant IsParam param_written pieces read.1.0 read.1.1.0 in (
      name,
      params.0,
      read.0,
      params.3,
      ap (λ rest. name ∷ rest) params.1,
      ap (λ them. record { name = raised_all name; params = them; value = value; raw = raw }) params.2 ∙ read.1.1.1,
    )

pub line_written : (raw : List ℕ) (line : Line) → line_of raw ≡ Some line → (w : WrittenLine) × IsWritten w × (line_text w ≡ raw) × (line_meant w ≡ line)
line_written raw line is =
    let parts = some_behind (line_of_parts raw) (first_unquoted colon false raw) line is in
    let head = parts.0.0 in
    let value = parts.0.1 in
    let pieces = pieces_written raw value (unquoted_pieces semicolon false head) line parts.2 in
    let name = pieces.0 in
    let params = pieces.1 in
    let joined : name ++ flat_map param_text params ≡ head = sym (join_params name params) ∙ ap (join_with_byte semicolon) pieces.4 ∙ unquoted_pieces-join semicolon false head in
    let whole : name ++ flat_map param_text params ++ colon ∷ value ≡ raw = ap (λ front. front ++ colon ∷ value) joined ∙ sym (first_unquoted-text colon false raw head value parts.1) in (
      record { name = name; params = params; value = value },
      (pieces.2, pieces.3),
      whole,
      ap (λ text. record { name = raised_all name; params = map param_meant params; value = value; raw = text }) whole ∙ pieces.5,
    )

-- What is written is read

-- neither a separator nor a quote
abbrev IsPlain : ℕ → ℕ → Type 0
IsPlain separator octet = ((octet == separator) ≡ false) × ((octet == double_quote) ≡ false)

octets_clear : (separator : ℕ) (text : List ℕ) → AllByRecursion (IsPlain separator) text → IsClear separator false text false
octets_clear separator [] all = refl
octets_clear separator (octet ∷ text) all =
    (and_left _ _ all.0.0, subst (λ state. IsClear separator state text false) (sym (cond-false (octet == double_quote) true false all.0.1)) (octets_clear separator text all.1))

inside_clear : (separator : ℕ) (text : List ℕ) → list_any (λ octet. octet == double_quote) text ≡ false → IsClear separator true text true
inside_clear separator [] none = refl
inside_clear separator (octet ∷ text) none =
    let parts = or_parts (octet == double_quote) _ none in
    (and_right _ _ refl, subst (λ state. IsClear separator state text true) (sym (cond-false (octet == double_quote) false true parts.0)) (inside_clear separator text parts.1))

pub differs : (test : ℕ → Bool) (octet other : ℕ) → test octet ≡ true → test other ≡ false → (octet == other) ≡ false
differs test octet other is not_other = ne_eqb octet other (λ (same : octet ≡ other). false≢true (sym not_other ∙ ap test (sym same) ∙ is))

-- octets that pass a test which neither the separator nor a quote passes
passing_plain : (test : ℕ → Bool) (separator : ℕ) → test separator ≡ false → test double_quote ≡ false → (text : List ℕ) → list_all test text ≡ true → AllByRecursion (IsPlain separator) text
passing_plain test separator other quote [] all = tt
passing_plain test separator other quote (octet ∷ text) all =
    let parts = and_parts (test octet) _ all in
    ((differs test octet separator parts.0 other, differs test octet double_quote parts.0 quote), passing_plain test separator other quote text parts.1)

none_special : (text : List ℕ) → list_any is_special text ≡ false → list_all (λ octet. not (is_special octet)) text ≡ true
none_special [] none = refl
none_special (octet ∷ text) none =
    let parts = or_parts (is_special octet) _ none in
    and_from _ _ (ap not parts.0) (none_special text parts.1)

-- a separator that a value without quotes cannot have
pub record IsSeparator (separator : ℕ) : Type 0 where
  special : is_special separator ≡ true
  no_quote : (double_quote == separator) ≡ false

value_clear : (separator : ℕ) → IsSeparator separator → (quoted : Bool) (text : List ℕ) → is_value (record { quoted = quoted; text = text }) ≡ true → IsClear separator false (value_text (record { quoted = quoted; text = text })) false
value_clear separator is true text good =
    (and_left _ _ is.no_quote, clear_append separator true true text (double_quote ∷ []) false (inside_clear separator text (not-true _ good)) (and_left _ _ is.no_quote, refl))
value_clear separator is false text good =
    octets_clear separator text (passing_plain (λ octet. not (is_special octet)) separator (ap not is.special) refl text (none_special text (not-true _ good)))

name_clear : (separator : ℕ) → is_name_octet separator ≡ false → (name : List ℕ) → is_name name ≡ true → IsClear separator false name false
name_clear separator other name is = octets_clear separator name (passing_plain is_name_octet separator other refl name (and_parts _ (list_all is_name_octet name) is).1)

values_clear : (separator : ℕ) → IsSeparator separator → (comma == separator) ≡ false → (values : List WrittenValue) → All IsGood values → IsClear separator false (join_with_byte comma (map value_text values)) false
values_clear separator is no_comma [] all = refl
values_clear separator is no_comma (value ∷ []) all = value_clear separator is value.quoted value.text (All-head IsGood value [] all)
values_clear separator is no_comma (value ∷ next ∷ values) all =
    clear_append separator false false (value_text value) _ false (value_clear separator is value.quoted value.text (All-head IsGood value (next ∷ values) all))
    (and_left _ _ no_comma, values_clear separator is no_comma (next ∷ values) (All-tail IsGood value (next ∷ values) all))

param_clear : (separator : ℕ) → IsSeparator separator → (comma == separator) ≡ false → (equals_sign == separator) ≡ false → is_name_octet separator ≡ false → (param : WrittenParam) → IsParam param → IsClear separator false (piece_text param) false
param_clear separator is no_comma no_equals no_name param good =
    clear_append separator false false param.name _ false (name_clear separator no_name param.name good.0)
    (and_left _ _ no_equals, values_clear separator is no_comma param.values good.2)

params_clear : (params : List WrittenParam) → All IsParam params → IsClear colon false (flat_map param_text params) false
params_clear [] all = refl
params_clear (param ∷ params) all =
    clear_append colon false false (param_text param) (flat_map param_text params) false
    (refl, param_clear colon (record { special = refl; no_quote = refl }) refl refl refl param (All-head IsParam param params all))
    (params_clear params (All-tail IsParam param params all))

all_mapped : {W : Type 0} (Good : W → Type 0) (written : W → List ℕ) (P : List ℕ → Type 0) → ((w : W) → Good w → P (written w)) → (ws : List W) → All Good ws → AllByRecursion P (map written ws)
all_mapped Good written P one [] all = tt
all_mapped Good written P one (w ∷ ws) all = (one w (All-head Good w ws all), all_mapped Good written P one ws (All-tail Good w ws all))

value_read : (quoted : Bool) (text : List ℕ) → is_value (record { quoted = quoted; text = text }) ≡ true → param_value (value_text (record { quoted = quoted; text = text })) ≡ Some text
value_read true text good =
    let size = length-append text (double_quote ∷ []) in
    let inside : take (length (text ++ double_quote ∷ []) - 1) (text ++ double_quote ∷ []) ≡ text = take_at text (double_quote ∷ []) _ (omega arith) in
    let end : drop (length (text ++ double_quote ∷ []) - 1) (text ++ double_quote ∷ []) ≡ double_quote ∷ [] = drop_at text (double_quote ∷ []) _ (omega arith) in
    cond-true _ _ _ (ap₂ (λ rest front. pointwise nat_eq (double_quote ∷ []) rest && not (list_any (λ octet. octet == double_quote) front)) end inside ∙ good) ∙ ap Some inside
value_read false [] good = refl
value_read false (octet ∷ text) good =
    let none = not-true _ good in
    let plain = (or_parts (is_special octet) _ none).0 in
    cond-false (octet == double_quote) _ _ (differs (λ o. not (is_special o)) octet double_quote (ap not plain) refl) ∙ cond-false _ _ _ none

values_pieces : (values : List WrittenValue) → 1 ≤ length values → All IsGood values → unquoted_pieces comma false (join_with_byte comma (map value_text values)) ≡ map value_text values
values_pieces [] some all = absurd (omega arith)
values_pieces (value ∷ values) some all =
    join-pieces comma (value_text value) (map value_text values)
    (all_mapped IsGood value_text (λ piece. IsClear comma false piece false) (λ v good. value_clear comma (record { special = refl; no_quote = refl }) v.quoted v.text good) (value ∷ values) all)

param_read : (param : WrittenParam) → IsParam param → param_of (piece_text param) ≡ Some (param_meant param)
param_read param good =
    ap (option_and_then param_of_parts) (clear_found equals_sign false param.name (join_with_byte comma (map value_text param.values)) (name_clear equals_sign refl param.name good.0))
    ∙ cond-true _ _ _ good.0
    ∙ ap (λ pieces. option_map (λ values. record { name = raised_all param.name; values = values }) (every (map param_value pieces))) (values_pieces param.values good.1 good.2)
    ∙ ap (option_map (λ values. record { name = raised_all param.name; values = values }))
    (mapped param_value value_text (λ (w : WrittenValue). w.text) IsGood (λ w is. value_read w.quoted w.text is) param.values good.2)

line_read : (w : WrittenLine) → IsWritten w → line_of (line_text w) ≡ Some (line_meant w)
line_read w good =
    let head = w.name ++ flat_map param_text w.params in
    let raw = line_text w in
    let clear : IsClear colon false head false = clear_append colon false false w.name (flat_map param_text w.params) false (name_clear colon refl w.name good.0) (params_clear w.params good.1) in
    let pieces : unquoted_pieces semicolon false head ≡ w.name ∷ map piece_text w.params =
    ap (unquoted_pieces semicolon false) (sym (join_params w.name w.params))
    ∙ join-pieces semicolon w.name (map piece_text w.params)
    (name_clear semicolon refl w.name good.0, all_mapped IsParam piece_text (λ piece. IsClear semicolon false piece false) (λ param is. param_clear semicolon (record { special = refl; no_quote = refl }) refl refl refl param is) w.params good.1) in
    ap (option_and_then (line_of_parts raw)) (clear_found colon false head w.value clear)
    ∙ ap (line_of_pieces raw w.value) pieces
    ∙ cond-true _ _ _ good.0
    ∙ ap (option_map (λ params. record { name = raised_all w.name; params = params; value = w.value; raw = raw })) (mapped param_of piece_text param_meant IsParam param_read w.params good.1)

pub lines_are_the_grammar : LinesAreTheGrammar
lines_are_the_grammar raw line = (line_written raw line, λ written. ap line_of (sym written.2) ∙ line_read written.0 written.1 ∙ ap Some written.3)
