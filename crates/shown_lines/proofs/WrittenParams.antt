-- The parameters of a line as they are written.
use Rattle.std.proofs.Common.{◌≡◌, ℕ, ◌-◌, Bool, true, false, cond, not, ◌&&◌, ◌==◌, nat_eq, List, [], ◌∷◌, ◌++◌, map, length, take, All, Option, Some, None, option_map, option_and_then, refl, sym, ap, ap₂, ◌∙◌, ⊎_elim, arith}
use Rattle.std.specs.List.{list_any, ends_with, join_with_byte}
use borrow.Author.Tests.{eqb-true}
use Rattle.std.proofs.lemmas.Bool.{and_parts, cond-true, cond-false, cases_Bool}
use Rattle.std.proofs.lemmas.List.{length-map}
use Rattle.std.proofs.lemmas.List.Elements.{All-nil, All-cons}
use Rattle.cal_base.specs.declared.line.Param.{Param}
use Rattle.cal_base.specs.declared.line.Line.{Line}
use Rattle.cal_base.specs.Texts.Octets.{double_quote, comma, equals_sign}
use Rattle.cal_base.specs.Texts.Text.{raised_all}
use Rattle.cal_base.specs.Lines.ContentLines.{every, unquoted_pieces, first_unquoted, is_name, is_special, quoted_value, param_value, param_of_parts, param_of, line_of_pieces}
use Rattle.cal_base.specs.Lines.LineGrammar.{WrittenValue, WrittenParam, is_value, IsParam, value_text, param_meant}
use Rattle.ical_lines.proofs.GrammarLaw.{end_octet}
use Rattle.ical_lines.proofs.LineTexts.{map_behind_test}
use Rattle.ical_lines.proofs.QuotedCuts.{first_unquoted-text, unquoted_pieces-some, unquoted_pieces-join}

pub mapped_some : {X Y : Type 0} (f : X → Y) (o : Option X) (y : Y) → option_map f o ≡ Some y → (x : X) × (o ≡ Some x) × (f x ≡ y)
mapped_some f None y is = absurd (cc)
mapped_some f (Some x) y is = (x, refl, cc)

every_parts : {X : Type 0} (o : Option X) (more : List (Option X)) (xs : List X) → every (o ∷ more) ≡ Some xs → (x : X) × (ys : List X) × (o ≡ Some x) × (every more ≡ Some ys) × (x ∷ ys ≡ xs)
every_parts None more xs is = absurd (cc)
every_parts {X} (Some x) more xs is =
    let rest = mapped_some (λ (ys : List X). x ∷ ys) (every more) xs is in
    (x, rest.0, refl, rest.1, rest.2)

unmapped : {X W : Type 0} (read : List ℕ → Option X) (written : W → List ℕ) (meant : W → X) (Good : W → Type 0) → ((text : List ℕ) (x : X) → read text ≡ Some x → (w : W) × (written w ≡ text) × (meant w ≡ x) × Good w) → (texts : List (List ℕ)) (xs : List X) → every (map read texts) ≡ Some xs → (ws : List W) × (map written ws ≡ texts) × (map meant ws ≡ xs) × All Good ws
unmapped read written meant Good one [] xs is = ([], refl, cc, All-nil Good)
unmapped read written meant Good one (text ∷ texts) xs is =
    let parts = every_parts (read text) (map read texts) xs is in
    let first = one text parts.0 parts.2 in
    let rest = unmapped read written meant Good one texts parts.1 parts.3 in
    (first.0 ∷ rest.0, ap₂ (λ t ts. t ∷ ts) first.1 rest.1, ap₂ (λ x ys. x ∷ ys) first.2 rest.2 ∙ parts.4, All-cons Good first.0 rest.0 first.3 rest.3)

-- A parameter's value

abbrev IsGood : WrittenValue → Type 0
IsGood value = is_value value ≡ true

-- a value that is written so and read so
abbrev WritesValue : List ℕ → List ℕ → Type 0
WritesValue text value = (w : WrittenValue) × (value_text w ≡ text) × (w.text ≡ value) × (is_value w ≡ true)

quoted_written : (text value : List ℕ) → quoted_value text ≡ Some value → WritesValue (double_quote ∷ text) value
quoted_written text value is =
    let inside = take (length text - 1) text in
    let parts = test_some (ends_with nat_eq text (double_quote ∷ []) && not (list_any (λ octet. octet == double_quote) inside)) inside value is in
    let tests = and_parts (ends_with nat_eq text (double_quote ∷ [])) _ parts.0 in
    (record { quoted = true; text = inside }, ap (λ rest. double_quote ∷ rest) (end_octet double_quote text tests.0), parts.1, tests.1)
  where
    test_some : (test : Bool) (x y : List ℕ) → cond test (Some x) None ≡ Some y → (test ≡ true) × (x ≡ y)
    test_some true x y is = (refl, cc)
    test_some false x y is = absurd (cc)

plain_written : (text value : List ℕ) → cond (list_any is_special text) None (Some text) ≡ Some value → WritesValue text value
plain_written text value is =
    let parts = test_none (list_any is_special text) text value is in
    (record { quoted = false; text = text }, refl, parts.1, ap not parts.0)
  where
    test_none : (test : Bool) (x y : List ℕ) → cond test None (Some x) ≡ Some y → (test ≡ false) × (x ≡ y)
    test_none true x y is = absurd (cc)
    test_none false x y is = (refl, cc)

value_written : (text value : List ℕ) → param_value text ≡ Some value → WritesValue text value
value_written [] value is = (record { quoted = false; text = [] }, refl, cc, refl)
value_written (octet ∷ text) value is =
    ⊎_elim
    (λ (quote : (octet == double_quote) ≡ true).
    let written = quoted_written text value (sym (cond-true _ _ _ quote) ∙ is) in
    (written.0, written.1 ∙ ap (λ o. o ∷ text) (sym (eqb-true octet double_quote quote)), written.2, written.3))
    (λ (other : (octet == double_quote) ≡ false). plain_written (octet ∷ text) value (sym (cond-false _ _ _ other) ∙ is))
    (cases_Bool (octet == double_quote))

-- A parameter

-- what stands behind a parameter's semicolon
abbrev pub piece_text : WrittenParam → List ℕ
piece_text param = param.name ++ equals_sign ∷ join_with_byte comma (map value_text param.values)

pub some_behind : {X Y : Type 0} (f : X → Option Y) (o : Option X) (y : Y) → option_and_then f o ≡ Some y → (x : X) × (o ≡ Some x) × (f x ≡ Some y)
some_behind f None y is = absurd (cc)
some_behind f (Some x) y is = (x, refl, is)

param_written : (text : List ℕ) (param : Param) → param_of text ≡ Some param → (w : WrittenParam) × (piece_text w ≡ text) × (param_meant w ≡ param) × IsParam w
param_written text param is =
    let parts = some_behind param_of_parts (first_unquoted equals_sign false text) param is in
    let name = parts.0.0 in
    let behind = parts.0.1 in
    let cut = first_unquoted-text equals_sign false text name behind parts.1 in
    let read = map_behind_test (is_name name) _ (every (map param_value (unquoted_pieces comma false behind))) param parts.2 in
    let values = unmapped param_value value_text (λ (w : WrittenValue). w.text) IsGood value_written (unquoted_pieces comma false behind) read.1.0 read.1.1.0 in
    let joined = ap (join_with_byte comma) values.1 ∙ unquoted_pieces-join comma false behind in
    let some = unquoted_pieces-some comma false behind in (
      record { name = name; values = values.0 },
      ap (λ rest. name ++ equals_sign ∷ rest) joined ∙ sym cut,
      ap (λ them. record { name = raised_all name; values = them }) values.2 ∙ read.1.1.1,
      (read.0, omega (arith, ap length values.1, length-map values.0 value_text), values.3),
    )

pub pieces_written : (raw value : List ℕ) (them : List (List ℕ)) (line : Line) → line_of_pieces raw value them ≡ Some line → (name : List ℕ) × (params : List WrittenParam) × (is_name name ≡ true) × All IsParam params × (name ∷ map piece_text params ≡ them) × (record { name = raised_all name; params = map param_meant params; value = value; raw = raw } ≡ line)
pieces_written raw value [] line is = absurd (cc)
pieces_written raw value (name ∷ pieces) line is =
    let read = map_behind_test (is_name name) _ (every (map param_of pieces)) line is in
    let params = unmapped param_of piece_text param_meant IsParam param_written pieces read.1.0 read.1.1.0 in (
      name,
      params.0,
      read.0,
      params.3,
      ap (λ rest. name ∷ rest) params.1,
      ap (λ them. record { name = raised_all name; params = them; value = value; raw = raw }) params.2 ∙ read.1.1.1,
    )
