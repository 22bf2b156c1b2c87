-- What stands before the colon of a line, and that it makes a line of the grammar with any text of one line behind its colon.
use Rattle.std.proofs.Common.{◌≡◌, ℕ, ◌-◌, ◌<◌, ◌≤◌, Bool, true, false, not, List, [], ◌∷◌, ◌++◌, length, map, take, Some, None, All, refl, sym, ap, subst, ◌∙◌, arith, append-nil, append_assoc, length-append, rules}
use Rattle.std.specs.Prelude.{IsTrue, if◌then◌else◌, flat_map, filter, codes}
use Rattle.std.specs.List.{AllByRecursion, join_with_byte}
use Rattle.std.specs.Str.{is_utf8}
use Rattle.std.proofs.lemmas.Bool.{cond-false, or_from}
use Rattle.std.proofs.lemmas.List.{take_at}
use Rattle.std.proofs.lemmas.List.Elements.{All-nil, All-cons, All-head, All-tail}
use Rattle.std.proofs.lemmas.Str.{is_utf8-from_IsUtf8, IsUtf8-from_is_utf8}
use Rattle.cal_base.specs.declared.line.Line.{Line}
use Rattle.cal_base.specs.Texts.Octets.{colon, semicolon}
use Rattle.cal_base.specs.Lines.ContentLines.{Physical, unquoted_pieces, first_unquoted, every, param_of, is_name, line_of, line_of_parts, line_of_pieces}
use Rattle.cal_base.specs.Lines.LineGrammar.{IsReadLine, IsLineText, WrittenLine, WrittenParam, IsParam, param_text, line_text, line_meant, is_value}
use Rattle.cal_model.specs.declared.row.RowKind.{RowKind}
use Rattle.cal_model.specs.Selections.Picks.{header}
use Rattle.cal_model.specs.Selections.RowLines.{kept_header, kept_pieces, text_stays}
use Rattle.ical_lines.specs.GroupReading.{refused_place, read_groups, read_text}
use Rattle.ical_lines.proofs.GrammarLaw.{lines_are_the_grammar}
use Rattle.ical_lines.proofs.LineTexts.{IsOneLine, read_line_is_one, one_physical, no_line-nil, map_behind_test}
use Rattle.ical_lines.proofs.OpenLines.{open_at_first}
use Rattle.ical_lines.proofs.QuotedCuts.{first_unquoted-text, unquoted_pieces-join, unquoted_pieces-some}
use Rattle.ical_lines.proofs.ReadBack.{read_behind}
use Rattle.ical_lines.proofs.ReadingInOrder.{read_groups-all}
use Rattle.cal_base.specs.Lines.ContentLines.{groups}
use Rattle.shown_lines.specs.Heads.{IsClean, IsHead, behind_semicolon}
use Rattle.shown_lines.proofs.CleanTexts.{clean-append, clean-plain, clean-cut, clean-pieces, clean-join, clean-name, clean-nil, all-filter}
use Rattle.shown_lines.proofs.WrittenParams.{piece_text, some_behind, pieces_written}

-- A line of one text is read from it

read_clean : (line : Line) → line_of line.raw ≡ Some line → IsClean line.raw → IsReadLine line
read_clean line read clean =
    let some = no_line-nil line line.raw read in
    let utf8 = is_utf8-from_IsUtf8 line.raw clean.utf8 in
    let is : IsOneLine line = record { some = some; one = clean.one_line; read = read; utf8 = utf8; allowed = clean.allowed } in
    let physical : Physical = record { place = 0; text = line.raw } in
    let good : refused_place physical ≡ None = cond-false _ _ _ (or_from (not (is_utf8 line.raw)) _ (ap not utf8) clean.allowed) in
    sym (read_groups-all line.raw)
    ∙ ap (λ them. read_groups [] (groups them)) (one_physical line.raw 0 some clean.one_line)
    ∙ open_at_first [] physical []
    ∙ ap (λ refused. read_text [] 0 line.raw refused []) good
    ∙ read_behind [] line 0 is

pub head-line : (head value : List ℕ) → IsHead head → IsClean value → IsLineText (head ++ colon ∷ value)
head-line head value is clean =
    let w : WrittenLine = record { name = is.name; params = is.params; value = value } in
    let line : Line = line_meant w in
    let text : line_text w ≡ head ++ colon ∷ value = ap (λ front. front ++ colon ∷ value) is.written in
    let read : line_of (line_text w) ≡ Some line = (lines_are_the_grammar (line_text w) line).1 (w, (is.named, is.good), refl, refl) in
    let whole : IsClean (head ++ colon ∷ value) =
    clean-append head (colon ∷ value) is.clean (clean-append (colon ∷ []) value (clean-plain (colon ∷ []) ((omega arith, omega arith), tt)) clean) in
    (line, text, read_clean line read (subst IsClean (sym text) whole))

-- The parts of a line that was read

pub record LineParts (line : Line) : Type 0 where
  pub head : List ℕ
  pub raw : line.raw ≡ head ++ colon ∷ line.value
  pub pieces : line_of_pieces line.raw line.value (unquoted_pieces semicolon false head) ≡ Some line
  pub clean : IsClean line.raw

pub line-parts : (line : Line) → IsReadLine line → LineParts line
line-parts line is =
    let one = read_line_is_one line is in
    let parts = some_behind (line_of_parts line.raw) (first_unquoted colon false line.raw) line one.read in
    let head = parts.0.0 in
    let behind = parts.0.1 in
    let them = pieces_written line.raw behind (unquoted_pieces semicolon false head) line parts.2 in
    let value : behind ≡ line.value = ap (λ (l : Line). l.value) them.5 in
    record {
      head = head;
      raw = first_unquoted-text colon false line.raw head behind parts.1 ∙ ap (λ v. head ++ colon ∷ v) value;
      pieces = ap (λ v. line_of_pieces line.raw v (unquoted_pieces semicolon false head)) (sym value) ∙ parts.2;
      clean = record { utf8 = IsUtf8-from_is_utf8 line.raw one.utf8; allowed = one.allowed; one_line = one.one };
    }

clean_parts : (line : Line) (parts : LineParts line) → IsClean parts.head × IsClean line.value
clean_parts line parts = clean-cut parts.head line.value colon (omega arith) (subst IsClean parts.raw parts.clean)

pub clean-value : (line : Line) → IsReadLine line → IsClean line.value
clean-value line is = (clean_parts line (line-parts line is)).1

join_params : (first : List ℕ) (params : List WrittenParam) → join_with_byte semicolon (first ∷ map piece_text params) ≡ first ++ flat_map param_text params
join_params first [] = sym (append-nil first)
join_params first (param ∷ params) = ap (λ rest. first ++ semicolon ∷ rest) (join_params (piece_text param) params)

-- parameters that are written so
abbrev AreWritten : List (List ℕ) → Type 0
AreWritten texts = (those : List WrittenParam) × (map piece_text those ≡ texts) × All IsParam those

-- some of the parameters, chosen by their texts
some_params : (test : List ℕ → Bool) (params : List WrittenParam) → All IsParam params → AreWritten (filter test (map piece_text params))
some_params test [] good = ([], refl, All-nil IsParam)
some_params test (param ∷ params) good =
    let rest = some_params test params (All-tail IsParam param params good) in
    elim (test (piece_text param)) as (λ b. AreWritten (if b then piece_text param ∷ filter test (map piece_text params) else filter test (map piece_text params))) [
      | true ↦ (param ∷ rest.0, ap (λ texts. piece_text param ∷ texts) rest.1, All-cons IsParam param rest.0 (All-head IsParam param params good) rest.2)
      | false ↦ rest
    ]

-- the name of a line with some of its parameters stands before a colon too
kept_pieces_head : (line : Line) (parts : LineParts line) (test : List ℕ → Bool) (name : List ℕ) (texts : List (List ℕ)) → name ∷ texts ≡ unquoted_pieces semicolon false parts.head → IsHead (join_with_byte semicolon (name ∷ filter test texts))
kept_pieces_head line parts test name texts same =
    let them = pieces_written line.raw line.value (name ∷ texts) line (ap (line_of_pieces line.raw line.value) same ∙ parts.pieces) in
    let texts_are : map piece_text them.1 ≡ texts = ap (tail_or []) them.4 in
    let name_is : them.0 ≡ name = ap (head_or []) them.4 in
    let those = some_params test them.1 them.3 in
    let joined : join_with_byte semicolon (name ∷ texts) ≡ parts.head = ap (join_with_byte semicolon) same ∙ unquoted_pieces-join semicolon false parts.head in
    let all : AllByRecursion IsClean (name ∷ texts) = clean-pieces semicolon (omega arith) name texts (subst IsClean (sym joined) (clean_parts line parts).0) in
    record {
      name = name;
      params = those.0;
      named = subst (λ n. is_name n ≡ true) name_is them.2;
      good = those.2;
      written = sym (join_params name those.0) ∙ ap (λ them'. join_with_byte semicolon (name ∷ them')) (those.1 ∙ ap (filter test) texts_are);
      clean = clean-join semicolon (omega arith, omega arith) (name ∷ filter test texts) (all.0, all-filter IsClean test texts all.1);
    }
  where
    tail_or : {X : Type 0} → List X → List X → List X
    tail_or none [] = none
    tail_or none (x ∷ xs) = xs

    head_or : {X : Type 0} → X → List X → X
    head_or none [] = none
    head_or none (x ∷ xs) = x

-- The text up to the colon

pub before_value : (line : Line) (parts : LineParts line) → header line ≡ parts.head ++ colon ∷ []
before_value line parts =
    let front = parts.head ++ colon ∷ [] in
    let size = length-append front line.value in
    let whole : line.raw ≡ front ++ line.value = parts.raw ∙ sym (append_assoc parts.head (colon ∷ []) line.value) in
    let count : length front ≡ length line.raw - length line.value = omega (arith, size, ap length whole) in
    ap (take (length line.raw - length line.value)) whole ∙ take_at front line.value (length line.raw - length line.value) count

pub before_colon : (line : Line) (parts : LineParts line) → take (length line.raw - length line.value - 1) line.raw ≡ parts.head
before_colon line parts =
    let size = length-append parts.head (colon ∷ line.value) in
    let count : length parts.head ≡ length line.raw - length line.value - 1 = omega (arith, size, ap length parts.raw) in
    ap (take (length line.raw - length line.value - 1)) parts.raw ∙ take_at parts.head (colon ∷ line.value) (length line.raw - length line.value - 1) count

-- a line that was read has a text before its colon, and a line of it with no value or another one is a line too
pub head-read : (line : Line) → IsReadLine line → (head : List ℕ) × (header line ≡ head ++ colon ∷ []) × IsHead head
head-read line is =
    let parts = line-parts line is in
    let pieces = unquoted_pieces semicolon false parts.head in
    let them = pieces_written line.raw line.value pieces line parts.pieces in (
      parts.head,
      before_value line parts,
      record {
        name = them.0;
        params = them.1;
        named = them.2;
        good = them.3;
        written = sym (join_params them.0 them.1) ∙ ap (join_with_byte semicolon) them.4 ∙ unquoted_pieces-join semicolon false parts.head;
        clean = (clean_parts line parts).0;
      },
    )

pub head-header : (line : Line) → IsReadLine line → IsLineText (header line)
head-header line is =
    let head = head-read line is in
    subst IsLineText (sym head.1) (head-line head.0 [] head.2 clean-nil)

-- Some of the parameters

join_behind : (first : List ℕ) (texts : List (List ℕ)) → join_with_byte semicolon (first ∷ texts) ≡ first ++ flat_map behind_semicolon texts
join_behind first [] = sym (append-nil first)
join_behind first (text ∷ texts) = ap (λ rest. first ++ semicolon ∷ rest) (join_behind text texts)

-- the text before the colon as it is cut
pub record CutHead (line : Line) (name : List ℕ) (texts : List (List ℕ)) : Type 0 where
  pub parts : LineParts line
  pub same : name ∷ texts ≡ unquoted_pieces semicolon false parts.head

pub cut-head : (line : Line) (name : List ℕ) (texts : List (List ℕ)) (front : List ℕ) (n : ℕ) → IsReadLine line → front ≡ header line → unquoted_pieces semicolon false (take n front) ≡ name ∷ texts → n ≡ length front - 1 → CutHead line name texts
cut-head line name texts front n is same pieces count =
    let parts = line-parts line is in
    let whole : front ≡ parts.head ++ colon ∷ [] = same ∙ before_value line parts in
    let size = length-append parts.head (colon ∷ []) in
    let head : take n front ≡ parts.head = ap (take n) whole ∙ take_at parts.head (colon ∷ []) n (omega (arith, size, ap length whole)) in
    record { parts = parts; same = sym pieces ∙ ap (unquoted_pieces semicolon false) head }

-- the colon at least
pub header-some : (line : Line) → IsReadLine line → 1 ≤ length (header line)
header-some line is =
    let parts = line-parts line is in
    omega (arith, ap length (before_value line parts), length-append parts.head (colon ∷ []))

-- the texts are read as the parameters of the line
pub params-cut : (line : Line) (name : List ℕ) (texts : List (List ℕ)) → CutHead line name texts → every (map param_of texts) ≡ Some line.params
params-cut line name texts cut =
    let read = map_behind_test (is_name name) _ (every (map param_of texts)) line (ap (line_of_pieces line.raw line.value) cut.same ∙ cut.parts.pieces) in
    read.1.1.0 ∙ ap (λ (l : Line). Some l.params) read.1.1.1

pub kept_header-cut : (kind : RowKind) (line : Line) (name : List ℕ) (texts : List (List ℕ)) → CutHead line name texts → kept_header kind line ≡ name ++ flat_map behind_semicolon (filter (text_stays kind) texts)
kept_header-cut kind line name texts cut =
    ap (λ head. join_with_byte semicolon (kept_pieces kind (unquoted_pieces semicolon false head))) (before_colon line cut.parts)
    ∙ ap (λ them. join_with_byte semicolon (kept_pieces kind them)) (sym cut.same)
    ∙ join_behind name (filter (text_stays kind) texts)

first_there : (texts : List (List ℕ)) → 0 < length texts → (name : List ℕ) × (more : List (List ℕ)) × (name ∷ more ≡ texts)
first_there [] some = absurd (omega arith)
first_there (name ∷ more) some = (name, more, refl)

pub head-kept : (kind : RowKind) (line : Line) → IsReadLine line → IsHead (kept_header kind line)
head-kept kind line is =
    let parts = line-parts line is in
    let them = first_there (unquoted_pieces semicolon false parts.head) (unquoted_pieces-some semicolon false parts.head) in
    let cut : CutHead line them.0 them.1 = record { parts = parts; same = them.2 } in
    subst IsHead (join_behind them.0 (filter (text_stays kind) them.1) ∙ sym (kept_header-cut kind line them.0 them.1 cut)) (kept_pieces_head line parts (text_stays kind) them.0 them.1 them.2)

-- New lines

pub head-name : (name : List ℕ) → is_name name ≡ true → IsHead name
head-name name is = record { name = name; params = []; named = is; good = All-nil IsParam; written = append-nil name; clean = clean-name name is }

date_param : WrittenParam
date_param = record { name = codes "VALUE"; values = record { quoted = false; text = codes "DATE" } ∷ [] }

pub head-date : (name : List ℕ) → is_name name ≡ true → IsHead (name ++ codes ";VALUE=DATE")
unfolding date_param
head-date name is = record {
  name = name;
  params = date_param ∷ [];
  named = is;
  good = All-cons IsParam date_param [] (refl, omega arith, All-cons (λ value. IsTrue (is_value value)) (record { quoted = false; text = codes "DATE" }) [] refl (All-nil (λ value. IsTrue (is_value value)))) (All-nil IsParam);
  written = refl;
  clean = clean-append name (codes ";VALUE=DATE") (clean-name name is) (clean-plain (codes ";VALUE=DATE") (search rules));
}
