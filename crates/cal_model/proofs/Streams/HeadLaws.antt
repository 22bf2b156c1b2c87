-- The head that is read of a block is the one of the grammar that `httparse` states.
use Rattle.std.proofs.Common.{◌+◌, ◌≡◌, ◌≢◌, ℕ, ◌≤◌, ◌<◌, Bool, true, false, cond, ◌==◌, ◌&&◌, List, [], ◌∷◌, ◌++◌, length, Option, Some, None, All, refl, sym, ap, subst, ◌∙◌, arith, ◌⊎◌, ⊎_elim, append_assoc, append-nil}
use Rattle.std.specs.Prelude.{option_map, option_and_then, codes, nat_lt}
use Rattle.std.specs.List.{flat_map, list_all, AllPass, join_with_byte, count_by}
use Rattle.std.proofs.lemmas.List.Sums.{sum_by-cons}
use Rattle.std.specs.Str.{is_utf8, bytes_eq}
use Rattle.std.proofs.lemmas.Option.{same_Some}
use Rattle.std.proofs.lemmas.Bool.{false≢true, eqb-true}
use Rattle.std.proofs.lemmas.Bool.Decides.{nat_tests}
use Rattle.std.proofs.lemmas.List.Sums.{list_all-from_AllPass, AllPass-from_list_all}
use Rattle.std.proofs.lemmas.List.Elements.{All-head, All-tail, All-cons, All-nil}
use Rattle.std.proofs.lemmas.Str.{IsUtf8-from_is_utf8, is_utf8-from_IsUtf8}
use Rattle.std.proofs.lemmas.Slice.Eq.{bytes_eq-Decides}
use Rattle.httparse.specs.Grammar.{is_token_byte, is_uri_byte, is_value_byte, is_token, IsToken, LineEnd, crlf, lf, print_end, print_version, Field, IsField, print_field, print_section, RequestHead, IsRequestHead, print_request}
use Rattle.cal_base.specs.Texts.Octets.{carriage_return, space, colon}
use Rattle.cal_base.specs.Lines.ContentLines.{pieces, onto_first, without_return}
use Rattle.cal_model.specs.Words.Lists.{is_empty}
use Rattle.cal_model.specs.Streams.Heads.{end_of, field_of_parts, field_of, version_of, is_target, head_of_words, Section, with_field, section_of, head_of_lines, head_of}
use Rattle.cal_model.specs.Words.Cuts.{cut_at}
use Rattle.cal_model.specs.Streams.HeadGrammar.{IsHead, HeadsAreTheGrammar}
use Rattle.cal_model.proofs.Streams.StreamFronts.{bool_cases, none_some}

-- Texts without an octet

unfoldable pub Free : ℕ → List ℕ → Type 0
Free s [] = Unit {0}
Free s (c ∷ text) = ((c == s) ≡ false) × Free s text

pub both : (a b : Bool) → (a && b) ≡ true → (a ≡ true) × (b ≡ true)
both true b e = (refl, e)
both false b e = absurd (false≢true e)

-- octets that pass a test which the octet fails
pub free_passing : (test : ℕ → Bool) (s : ℕ) → ((c : ℕ) → test c ≡ true → (c == s) ≡ false) → (text : List ℕ) → list_all test text ≡ true → Free s text
unfolding Free
free_passing test s apart [] all = tt
free_passing test s apart (c ∷ text) all =
    let each = both (test c) (list_all test text) all in
    (apart c each.0, free_passing test s apart text each.1)

pub free-append : (s : ℕ) (a b : List ℕ) → Free s a → Free s b → Free s (a ++ b)
unfolding Free
free-append s [] b h k = k
free-append s (c ∷ a) b h k = (h.0, free-append s a b h.1 k)

pub other : (c s : ℕ) → c ≢ s → (c == s) ≡ false
other c s apart = Prim.grind (arith, nat_tests)

token_apart : (c s : ℕ) → is_token_byte s ≡ false → is_token_byte c ≡ true → (c == s) ≡ false
token_apart c s fails passes = other c s (λ e. false≢true (sym fails ∙ ap is_token_byte (sym e) ∙ passes))

uri_apart : (c s : ℕ) → is_uri_byte s ≡ false → is_uri_byte c ≡ true → (c == s) ≡ false
uri_apart c s fails passes = other c s (λ e. false≢true (sym fails ∙ ap is_uri_byte (sym e) ∙ passes))

value_apart : (c s : ℕ) → is_value_byte s ≡ false → is_value_byte c ≡ true → (c == s) ≡ false
value_apart c s fails passes = other c s (λ e. false≢true (sym fails ∙ ap is_value_byte (sym e) ∙ passes))

-- Pieces

pub piece_here : (s c : ℕ) (text : List ℕ) → (c == s) ≡ true → pieces s (c ∷ text) ≡ [] ∷ pieces s text
piece_here s c text h = rw (h, pieces) refl

pub piece_later : (s c : ℕ) (text : List ℕ) → (c == s) ≡ false → pieces s (c ∷ text) ≡ onto_first c (pieces s text)
piece_later s c text h = rw (h, pieces) refl

pub pieces_free : (s : ℕ) (text rest : List ℕ) → (s == s) ≡ true → Free s text → pieces s (text ++ s ∷ rest) ≡ text ∷ pieces s rest
unfolding Free
pieces_free s [] rest same free = piece_here s s rest same
pieces_free s (c ∷ text) rest same free = piece_later s c (text ++ s ∷ rest) free.0 ∙ ap (onto_first c) (pieces_free s text rest same free.1)

pub pieces_last : (s : ℕ) (text : List ℕ) → Free s text → pieces s text ≡ text ∷ []
unfolding Free
pieces_last s [] free = refl
pieces_last s (c ∷ text) free = piece_later s c text free.0 ∙ ap (onto_first c) (pieces_last s text free.1)

-- the parts joined give the text back
join_onto : (s c : ℕ) (ps : List (List ℕ)) → join_with_byte s (onto_first c ps) ≡ c ∷ join_with_byte s ps
join_onto s c [] = refl
join_onto s c (p ∷ []) = refl
join_onto s c (p ∷ q ∷ ps) = refl

some_piece : (s : ℕ) (text : List ℕ) → (p : List ℕ) × (ps : List (List ℕ)) × (pieces s text ≡ p ∷ ps)
some_piece s [] = ([], [], refl)
some_piece s (c ∷ text) =
    ⊎_elim
    (λ same. ([], pieces s text, piece_here s c text same))
    (λ apart. let more = some_piece s text in (c ∷ more.0, more.1, piece_later s c text apart ∙ ap (onto_first c) more.2))
    (bool_cases (c == s))

join-pieces : (s : ℕ) (text : List ℕ) → join_with_byte s (pieces s text) ≡ text
join-pieces s [] = refl
join-pieces s (c ∷ text) =
    ⊎_elim
    (λ same.
    let more = some_piece s text in
    ap (join_with_byte s) (piece_here s c text same ∙ ap (λ ps. [] ∷ ps) more.2)
    ∙ ap (λ l. s ∷ l) (ap (join_with_byte s) (sym more.2) ∙ join-pieces s text)
    ∙ ap (λ x. x ∷ text) (sym (eqb-true c s same)))
    (λ apart. ap (join_with_byte s) (piece_later s c text apart) ∙ join_onto s c (pieces s text) ∙ ap (λ l. c ∷ l) (join-pieces s text))
    (bool_cases (c == s))

-- Line ends

return_of : LineEnd → List ℕ
return_of crlf = 13 ∷ []
return_of lf = []

end_is : (e : LineEnd) → print_end e ≡ return_of e ++ 10 ∷ []
unfolding return_of
end_is crlf = refl
end_is lf = refl

return_free : (e : LineEnd) → Free 10 (return_of e)
unfolding Free return_of
return_free crlf = (refl, tt)
return_free lf = tt

line_piece : (text rest : List ℕ) (e : LineEnd) → Free 10 text → pieces 10 (text ++ (print_end e ++ rest)) ≡ (text ++ return_of e) ∷ pieces 10 rest
line_piece text rest e free =
    ap (λ x. pieces 10 (text ++ (x ++ rest))) (end_is e)
    ∙ ap (λ x. pieces 10 (text ++ x)) (append_assoc (return_of e) (10 ∷ []) rest)
    ∙ ap (pieces 10) (sym (append_assoc text (return_of e) (10 ∷ rest)))
    ∙ pieces_free 10 (text ++ return_of e) rest refl (free-append 10 text (return_of e) free (return_free e))

no_return_end : (text : List ℕ) → Free 13 text → (without_return text ≡ text) × (end_of text ≡ lf)
unfolding Free
no_return_end [] free = (refl, refl)
no_return_end (c ∷ []) free = (rw free.0 refl, rw free.0 refl)
no_return_end (c ∷ d ∷ text) free = let more = no_return_end (d ∷ text) free.1 in (ap (λ l. c ∷ l) more.0, more.1)

pub return_end : (text : List ℕ) → (without_return (text ++ 13 ∷ []) ≡ text) × (end_of (text ++ 13 ∷ []) ≡ crlf)
return_end [] = (refl, refl)
return_end (c ∷ []) = (refl, refl)
return_end (c ∷ d ∷ text) = let more = return_end (d ∷ text) in (ap (λ l. c ∷ l) more.0, more.1)

-- a line without CR in it is read back with its end
line_back : (text : List ℕ) (e : LineEnd) → Free 13 text → (without_return (text ++ return_of e) ≡ text) × (end_of (text ++ return_of e) ≡ e)
unfolding return_of
line_back text crlf free = return_end text
line_back text lf free =
    let plain = no_return_end text free in
    (ap without_return (append-nil text) ∙ plain.0, ap end_of (append-nil text) ∙ plain.1)

-- and each line is its text and its end
line_is : (line : List ℕ) → line ≡ without_return line ++ return_of (end_of line)
unfolding return_of
line_is [] = refl
line_is (c ∷ []) =
    ⊎_elim (λ cr. rw cr (ap (λ x. x ∷ []) (eqb-true c 13 cr))) (λ none. rw none refl) (bool_cases (c == carriage_return))
line_is (c ∷ d ∷ line) = ap (λ l. c ∷ l) (line_is (d ∷ line))

-- Fields

pub cut_here : (s c : ℕ) (text : List ℕ) → (c == s) ≡ true → cut_at s (c ∷ text) ≡ Some ([], text)
unfolding cut_at
cut_here s c text h = rw (h, cut_at) refl

pub cut_later : (s c : ℕ) (text : List ℕ) → (c == s) ≡ false → cut_at s (c ∷ text) ≡ option_map (λ (parts : List ℕ × List ℕ). (c ∷ parts.0, parts.1)) (cut_at s text)
unfolding cut_at
cut_later s c text h = rw (h, cut_at) refl

pub cut_free : (s : ℕ) (name raw : List ℕ) → (s == s) ≡ true → Free s name → cut_at s (name ++ s ∷ raw) ≡ Some (name, raw)
unfolding Free
cut_free s [] raw same free = cut_here s s raw same
cut_free s (c ∷ name) raw same free =
    cut_later s c (name ++ s ∷ raw) free.0 ∙ ap (option_map (λ (parts : List ℕ × List ℕ). (c ∷ parts.0, parts.1))) (cut_free s name raw same free.1)

pub cut_none : (s : ℕ) (text : List ℕ) → Free s text → cut_at s text ≡ None
unfolding Free cut_at
cut_none s [] free = refl
cut_none s (c ∷ text) free = cut_later s c text free.0 ∙ rw (cut_none s text free.1) refl

pub cut_is : (s : ℕ) (text : List ℕ) (parts : List ℕ × List ℕ) → cut_at s text ≡ Some parts → text ≡ parts.0 ++ s ∷ parts.1
unfolding cut_at
cut_is s [] parts e = none_some parts e
cut_is s (c ∷ text) parts e =
    ⊎_elim
    (λ same.
    let found = same_Some _ _ (sym (cut_here s c text same) ∙ e) in
    ap (λ x. x ∷ text) (eqb-true c s same) ∙ ap (λ (p : List ℕ × List ℕ). p.0 ++ s ∷ p.1) found)
    (λ apart. later (cut_at s text) (λ p h. cut_is s text p h) (sym (cut_later s c text apart) ∙ e))
    (bool_cases (c == s))
  where
    later : (o : Option (List ℕ × List ℕ)) → ((p : List ℕ × List ℕ) → o ≡ Some p → text ≡ p.0 ++ s ∷ p.1) → option_map (λ (p : List ℕ × List ℕ). (c ∷ p.0, p.1)) o ≡ Some parts → c ∷ text ≡ parts.0 ++ s ∷ parts.1
    later None h k = none_some parts k
    later (Some p) h k = ap (λ l. c ∷ l) (h p refl) ∙ ap (λ (q : List ℕ × List ℕ). q.0 ++ s ∷ q.1) (same_Some _ _ k)

-- a field line before its line feed
field_piece : Field → List ℕ
field_piece f = (f.name ++ 58 ∷ f.raw) ++ return_of f.end

-- a test of tokens
token_passes : (text : List ℕ) → IsToken text → is_token text ≡ true
token_passes text t = join_and (nat_lt 0 (length text)) (list_all is_token_byte text) (Prim.grind (arith, nat_tests, t.0)) (list_all-from_AllPass is_token_byte text t.1)
  where
    join_and : (a b : Bool) → a ≡ true → b ≡ true → (a && b) ≡ true
    join_and a b h k = rw (h, k) refl

token_from : (text : List ℕ) → is_token text ≡ true → IsToken text
token_from text t =
    let each = both (nat_lt 0 (length text)) (list_all is_token_byte text) t in
    (Prim.grind (arith, nat_tests, each.0), AllPass-from_list_all is_token_byte text each.1)

free_token : (s : ℕ) (text : List ℕ) → is_token_byte s ≡ false → IsToken text → Free s text
free_token s text fails t = free_passing is_token_byte s (λ c p. token_apart c s fails p) text (list_all-from_AllPass is_token_byte text t.1)

free_value : (s : ℕ) (text : List ℕ) → is_value_byte s ≡ false → AllPass is_value_byte text → Free s text
free_value s text fails t = free_passing is_value_byte s (λ c p. value_apart c s fails p) text (list_all-from_AllPass is_value_byte text t)

free_uri : (s : ℕ) (text : List ℕ) → is_uri_byte s ≡ false → AllPass is_uri_byte text → Free s text
free_uri s text fails t = free_passing is_uri_byte s (λ c p. uri_apart c s fails p) text (list_all-from_AllPass is_uri_byte text t)

free_cons : (s c : ℕ) (text : List ℕ) → (c == s) ≡ false → Free s text → Free s (c ∷ text)
unfolding Free
free_cons s c text h k = (h, k)

free_field : (s : ℕ) (f : Field) → is_token_byte s ≡ false → is_value_byte s ≡ false → (58 == s) ≡ false → IsField f → Free s (f.name ++ 58 ∷ f.raw)
free_field s f token value apart is = free-append s f.name (58 ∷ f.raw) (free_token s f.name token is.name) (free_cons s 58 f.raw apart (free_value s f.raw value is.raw))

-- a field line is read back
field_back : (f : Field) → IsField f → field_of (field_piece f) ≡ Some f
unfolding field_piece is_token_byte
field_back f is =
    let text = f.name ++ 58 ∷ f.raw in
    let back = line_back text f.end (free_field 13 f refl refl refl is) in
    let fits = join_and (is_token f.name) (list_all is_value_byte f.raw) (token_passes f.name is.name) (list_all-from_AllPass is_value_byte f.raw is.raw) in
    ap (λ l. option_and_then (field_of_parts (end_of (text ++ return_of f.end))) (cut_at colon l)) back.0
    ∙ ap (λ e. option_and_then (field_of_parts e) (cut_at colon text)) back.1
    ∙ ap (option_and_then (field_of_parts f.end)) (cut_free colon f.name f.raw refl (free_token 58 f.name refl is.name))
    ∙ ap (λ b. cond b (Some f) None) fits
  where
    join_and : (a b : Bool) → a ≡ true → b ≡ true → (a && b) ≡ true
    join_and a b h k = rw (h, k) refl

-- and what is read is one
field_is : (line : List ℕ) (f : Field) → field_of line ≡ Some f → (line ≡ field_piece f) × IsField f
unfolding field_piece
field_is line f e = by_parts (cut_at colon (without_return line)) (λ p h. cut_is colon (without_return line) p h) e
  where
    by_test : (p : List ℕ × List ℕ) → without_return line ≡ p.0 ++ 58 ∷ p.1 → (b : Bool) → (is_token p.0 && list_all is_value_byte p.1) ≡ b → cond b (Some (record { name = p.0; raw = p.1; end = end_of line })) None ≡ Some f → (line ≡ field_piece f) × IsField f
    by_test p split true h k =
        let each = both (is_token p.0) (list_all is_value_byte p.1) h in
        let same = same_Some _ _ k in (
          line_is line ∙ ap (λ l. l ++ return_of (end_of line)) split ∙ ap field_piece same,
          subst IsField same (record { name = token_from p.0 each.0; raw = AllPass-from_list_all is_value_byte p.1 each.1 }),
        )
    by_test p split false h k = none_some f k

    by_parts : (o : Option (List ℕ × List ℕ)) → ((p : List ℕ × List ℕ) → o ≡ Some p → without_return line ≡ p.0 ++ 58 ∷ p.1) → option_and_then (field_of_parts (end_of line)) o ≡ Some f → (line ≡ field_piece f) × IsField f
    by_parts None h k = none_some f k
    by_parts (Some p) h k = by_test p (h p refl) (is_token p.0 && list_all is_value_byte p.1) refl k

-- Sections

section_pieces : List Field → LineEnd → List (List ℕ)
section_pieces [] last = return_of last ∷ [] ∷ []
section_pieces (f ∷ fields) last = field_piece f ∷ section_pieces fields last

with_both : (o : Option Field) (s : Option Section) (f : Field) (rest : Section) → o ≡ Some f → s ≡ Some rest → with_field o s ≡ Some (f ∷ rest.0, rest.1)
with_both o s f rest h k = rw (h, k) refl

section_more : (x y : List ℕ) (fields : List Field) (last : LineEnd) → section_of (x ∷ y ∷ section_pieces fields last) ≡ with_field (field_of x) (section_of (y ∷ section_pieces fields last))
unfolding section_pieces
section_more x y [] last = refl
section_more x y (f ∷ fields) last = refl

section_back : (fields : List Field) (last : LineEnd) → All IsField fields → section_of (section_pieces fields last) ≡ Some (fields, last)
unfolding section_pieces return_of
section_back [] crlf all = refl
section_back [] lf all = refl
section_back (f ∷ []) last all =
    with_both (field_of (field_piece f)) (section_of (return_of last ∷ [] ∷ [])) f ([], last) (field_back f (All-head IsField f [] all)) (section_back [] last (All-tail IsField f [] all))
section_back (f ∷ g ∷ fields) last all =
    section_more (field_piece f) (field_piece g) fields last
    ∙ with_both (field_of (field_piece f)) (section_of (section_pieces (g ∷ fields) last)) f (g ∷ fields, last) (field_back f (All-head IsField f (g ∷ fields) all)) (section_back (g ∷ fields) last (All-tail IsField f (g ∷ fields) all))

regrouped : (t e r l : List ℕ) → ((t ++ e) ++ r) ++ l ≡ t ++ (e ++ (r ++ l))
regrouped t e r l = simp append_assoc

section_text : (fields : List Field) (last : LineEnd) → All IsField fields → pieces 10 (print_section fields last) ≡ section_pieces fields last
unfolding section_pieces return_of field_piece is_token_byte
section_text [] crlf all = refl
section_text [] lf all = refl
section_text (f ∷ fields) last all =
    let here = All-head IsField f fields all in
    ap (pieces 10) (regrouped (f.name ++ 58 ∷ f.raw) (print_end f.end) (flat_map print_field fields) (print_end last))
    ∙ line_piece (f.name ++ 58 ∷ f.raw) (print_section fields last) f.end (free_field 10 f refl refl refl here)
    ∙ ap (λ ps. ((f.name ++ 58 ∷ f.raw) ++ return_of f.end) ∷ ps) (section_text fields last (All-tail IsField f fields all))

-- lines joined are the text of the section
section_joined : (p : List ℕ) (fields : List Field) (last : LineEnd) → join_with_byte 10 (p ∷ section_pieces fields last) ≡ p ++ 10 ∷ print_section fields last
unfolding section_pieces field_piece
section_joined p [] last = ap (λ l. p ++ 10 ∷ l) (sym (end_is last))
section_joined p (f ∷ fields) last =
    ap (λ l. p ++ 10 ∷ l)
    (section_joined (field_piece f) fields last ∙ lined f (print_section fields last)
    ∙ sym (regrouped (f.name ++ 58 ∷ f.raw) (print_end f.end) (flat_map print_field fields) (print_end last)))
  where
    lined : (f : Field) (rest : List ℕ) → field_piece f ++ 10 ∷ rest ≡ (f.name ++ 58 ∷ f.raw) ++ (print_end f.end ++ rest)
    lined f rest =
        append_assoc (f.name ++ 58 ∷ f.raw) (return_of f.end) (10 ∷ rest)
        ∙ ap (λ l. (f.name ++ 58 ∷ f.raw) ++ l) (sym (append_assoc (return_of f.end) (10 ∷ []) rest) ∙ ap (λ e. e ++ rest) (sym (end_is f.end)))

empty_is : (line : List ℕ) → is_empty line ≡ true → line ≡ []
empty_is [] h = refl
empty_is (c ∷ line) h = absurd (Prim.grind (arith, nat_tests, h))

section_is : (ps : List (List ℕ)) (s : Section) → section_of ps ≡ Some s → (ps ≡ section_pieces s.0 s.1) × All IsField s.0
unfolding section_pieces
section_is [] s e = none_some s e
section_is (line ∷ []) s e = none_some s e
section_is (line ∷ behind ∷ []) s e =
    ⊎_elim
    (λ yes.
    let each = both (is_empty (without_return line)) (is_empty behind) yes in
    let same = same_Some _ _ (rw yes at e) in
    let text : line ≡ return_of (end_of line) = line_is line ∙ ap (λ l. l ++ return_of (end_of line)) (empty_is (without_return line) each.0) in (
      ap (λ l. l ∷ behind ∷ []) text ∙ ap (λ l. return_of (end_of line) ∷ l ∷ []) (empty_is behind each.1) ∙ ap (λ (x : Section). section_pieces x.0 x.1) same,
      subst (λ (x : Section). All IsField x.0) same (All-nil IsField),
    ))
    (λ apart. none_some s (rw apart at e))
    (bool_cases (is_empty (without_return line) && is_empty behind))
section_is (line ∷ next ∷ third ∷ more) s e =
    by_field (field_of line) (λ f h. field_is line f h) (section_of (next ∷ third ∷ more)) (λ r h. section_is (next ∷ third ∷ more) r h) e
  where
    by_field : (o : Option Field) → ((f : Field) → o ≡ Some f → (line ≡ field_piece f) × IsField f) → (p : Option Section) → ((r : Section) → p ≡ Some r → (next ∷ third ∷ more ≡ section_pieces r.0 r.1) × All IsField r.0) → with_field o p ≡ Some s → (line ∷ next ∷ third ∷ more ≡ section_pieces s.0 s.1) × All IsField s.0
    by_field None h p k e = none_some s e
    by_field (Some f) h None k e = none_some s e
    by_field (Some f) h (Some r) k e =
        let field = h f refl in
        let rest = k r refl in
        let same = same_Some _ _ e in (
          ap (λ l. l ∷ next ∷ third ∷ more) field.0 ∙ ap (λ ps. field_piece f ∷ ps) rest.0 ∙ ap (λ (x : Section). section_pieces x.0 x.1) same,
          subst (λ (x : Section). All IsField x.0) same (All-cons IsField f r.0 field.1 rest.1),
        )

-- Request lines

version_facts : (minor : ℕ) → minor ≤ 1 → (version_of (print_version minor) ≡ Some minor) × Free 10 (print_version minor) × Free 13 (print_version minor) × Free 32 (print_version minor)
unfolding Free
version_facts minor most =
    ⊎_elim
    (λ zero. subst (λ m. (version_of (print_version m) ≡ Some m) × Free 10 (print_version m) × Free 13 (print_version m) × Free 32 (print_version m)) (sym zero)
    (refl, (refl, (refl, (refl, (refl, (refl, (refl, (refl, (refl, tt)))))))), (refl, (refl, (refl, (refl, (refl, (refl, (refl, (refl, tt)))))))), (refl, (refl, (refl, (refl, (refl, (refl, (refl, (refl, tt))))))))))
    (λ one. subst (λ m. (version_of (print_version m) ≡ Some m) × Free 10 (print_version m) × Free 13 (print_version m) × Free 32 (print_version m)) (sym one)
    (refl, (refl, (refl, (refl, (refl, (refl, (refl, (refl, (refl, tt)))))))), (refl, (refl, (refl, (refl, (refl, (refl, (refl, (refl, tt)))))))), (refl, (refl, (refl, (refl, (refl, (refl, (refl, (refl, tt))))))))))
    (zero_or_one minor most)
  where
    zero_or_one : (m : ℕ) → m ≤ 1 → (m ≡ 0) ⊎ (m ≡ 1)
    zero_or_one m h = Prim.grind arith

words_back : (method target version : List ℕ) → Free 32 method → Free 32 target → Free 32 version → pieces 32 ((method ++ 32 ∷ target) ++ 32 ∷ version) ≡ method ∷ target ∷ version ∷ []
words_back method target version a b c =
    ap (pieces 32) (append_assoc method (32 ∷ target) (32 ∷ version))
    ∙ pieces_free 32 method (target ++ 32 ∷ version) refl a
    ∙ ap (λ ps. method ∷ ps) (pieces_free 32 target version refl b ∙ ap (λ ps. target ∷ ps) (pieces_last 32 version c))

target_passes : (target : List ℕ) → 0 < length target → AllPass is_uri_byte target → is_utf8 target ≡ true → is_target target ≡ true
target_passes target some all text =
    join_three (nat_lt 0 (length target)) (list_all is_uri_byte target) (is_utf8 target) (Prim.grind (arith, nat_tests, some)) (list_all-from_AllPass is_uri_byte target all) text
  where
    join_three : (a b c : Bool) → a ≡ true → b ≡ true → c ≡ true → (a && b && c) ≡ true
    join_three a b c h k l = rw (h, k, l) refl

-- the two directions

abbrev pub bare_head : List ℕ → List ℕ → ℕ → LineEnd → List Field → LineEnd → RequestHead
bare_head method target minor line_end fields last = record { blank = []; method = method; target = target; minor = minor; line_end = line_end; fields = fields; last = last }

words_head : (method target : List ℕ) (minor : ℕ) (e : LineEnd) (fields : List Field) (last : LineEnd) (version : List ℕ) → is_token method ≡ true → is_target target ≡ true → version_of version ≡ Some minor → head_of_words (method ∷ target ∷ version ∷ []) e fields last ≡ Some (bare_head method target minor e fields last)
words_head method target minor e fields last version a b c =
    ap (λ t. cond t (option_map (λ m. bare_head method target m e fields last) (version_of version)) None) (join_and (is_token method) (is_target target) a b)
    ∙ ap (option_map (λ m. bare_head method target m e fields last)) c
  where
    join_and : (x y : Bool) → x ≡ true → y ≡ true → (x && y) ≡ true
    join_and x y h k = rw (h, k) refl

lines_head : (first : List ℕ) (more : List (List ℕ)) (s : Section) → section_of more ≡ Some s → head_of_lines (first ∷ more) ≡ head_of_words (pieces space (without_return first)) (end_of first) s.0 s.1
lines_head first more s h = ap (option_and_then (λ (x : Section). head_of_words (pieces space (without_return first)) (end_of first) x.0 x.1)) h

-- a head of the grammar is read
head_back : (h : RequestHead) → IsRequestHead h → h.blank ≡ [] → head_of (print_request h) ≡ Some h
unfolding head_of print_request is_token_byte
head_back h valid none =
    let text = (h.method ++ 32 ∷ h.target) ++ 32 ∷ print_version h.minor in
    let first = text ++ return_of h.line_end in
    let version = version_facts h.minor valid.minor in
    let free10 : Free 10 text = free-append 10 (h.method ++ 32 ∷ h.target) (32 ∷ print_version h.minor)
    (free-append 10 h.method (32 ∷ h.target) (free_token 10 h.method refl valid.method) (free_cons 10 32 h.target refl (free_uri 10 h.target refl valid.target.1)))
    (free_cons 10 32 (print_version h.minor) refl version.1) in
    let free13 : Free 13 text = free-append 13 (h.method ++ 32 ∷ h.target) (32 ∷ print_version h.minor)
    (free-append 13 h.method (32 ∷ h.target) (free_token 13 h.method refl valid.method) (free_cons 13 32 h.target refl (free_uri 13 h.target refl valid.target.1)))
    (free_cons 13 32 (print_version h.minor) refl version.2) in
    let back = line_back text h.line_end free13 in
    let words = words_back h.method h.target (print_version h.minor) (free_token 32 h.method refl valid.method) (free_uri 32 h.target refl valid.target.1) version.3 in
    let cut : pieces 10 (print_request h) ≡ first ∷ section_pieces h.fields h.last =
    ap (λ blank. pieces 10 ((((flat_map_blank blank ++ h.method ++ 32 ∷ h.target) ++ 32 ∷ print_version h.minor) ++ print_end h.line_end) ++ print_section h.fields h.last)) none
    ∙ ap (pieces 10) (append_assoc text (print_end h.line_end) (print_section h.fields h.last))
    ∙ line_piece text (print_section h.fields h.last) h.line_end free10
    ∙ ap (λ ps. first ∷ ps) (section_text h.fields h.last valid.fields) in
    ap head_of_lines cut
    ∙ lines_head first (section_pieces h.fields h.last) (h.fields, h.last) (section_back h.fields h.last valid.fields)
    ∙ ap (λ l. head_of_words (pieces 32 l) (end_of first) h.fields h.last) back.0
    ∙ ap (λ ws. head_of_words ws (end_of first) h.fields h.last) words
    ∙ ap (λ e. head_of_words (h.method ∷ h.target ∷ print_version h.minor ∷ []) e h.fields h.last) back.1
    ∙ words_head h.method h.target h.minor h.line_end h.fields h.last (print_version h.minor) (token_passes h.method valid.method)
    (target_passes h.target valid.target.0 valid.target.1 (is_utf8-from_IsUtf8 h.target valid.target_text)) version.0
    ∙ ap (λ blank. Some (record { blank = blank; method = h.method; target = h.target; minor = h.minor; line_end = h.line_end; fields = h.fields; last = h.last })) (sym none)
  where
    flat_map_blank : List LineEnd → List ℕ
    flat_map_blank blank = flat_map print_end blank

-- what a request line of three words is
pub record IsLine (words : List (List ℕ)) (e : LineEnd) (fields : List Field) (last : LineEnd) (h : RequestHead) : Type 0 where
  pub words_are : words ≡ h.method ∷ h.target ∷ print_version h.minor ∷ []
  pub head_is : h ≡ bare_head h.method h.target h.minor e fields last
  pub method : IsToken h.method
  pub target : is_target h.target ≡ true
  pub minor : h.minor ≤ 1

bytes_are : (text word : List ℕ) → bytes_eq text word ≡ true → text ≡ word
bytes_are text word h = (bytes_eq-Decides text word).0 h

version_is : (text : List ℕ) (minor : ℕ) → version_of text ≡ Some minor → (text ≡ print_version minor) × (minor ≤ 1)
version_is text minor e =
    ⊎_elim
    (λ zero.
    let same = same_Some _ _ (rw zero at e) in
    (bytes_are text (codes "HTTP/1.0") zero ∙ ap print_version same, omega arith))
    (λ apart.
    let h = rw apart at e in
    ⊎_elim
    (λ one.
    let same = same_Some _ _ (rw one at h) in
    (bytes_are text (codes "HTTP/1.1") one ∙ ap print_version same, omega arith))
    (λ neither. none_some minor (rw neither at h))
    (bool_cases (bytes_eq text (codes "HTTP/1.1"))))
    (bool_cases (bytes_eq text (codes "HTTP/1.0")))

line_of_words : (words : List (List ℕ)) (e : LineEnd) (fields : List Field) (last : LineEnd) (h : RequestHead) → head_of_words words e fields last ≡ Some h → IsLine words e fields last h
line_of_words [] e fields last h k = none_some h k
line_of_words (a ∷ []) e fields last h k = none_some h k
line_of_words (a ∷ b ∷ []) e fields last h k = none_some h k
line_of_words (a ∷ b ∷ c ∷ d ∷ more) e fields last h k = none_some h k
line_of_words (method ∷ target ∷ version ∷ []) e fields last h k =
    ⊎_elim (λ fits. by_version (both (is_token method) (is_target target) fits) (version_of version) (λ m v. version_is version m v) (rw fits at k)) (λ fails. none_some h (rw fails at k)) (bool_cases (is_token method && is_target target))
  where
    by_version : (is_token method ≡ true) × (is_target target ≡ true) → (o : Option ℕ) → ((m : ℕ) → o ≡ Some m → (version ≡ print_version m) × (m ≤ 1)) → option_map (λ m. bare_head method target m e fields last) o ≡ Some h → IsLine (method ∷ target ∷ version ∷ []) e fields last h
    by_version fit None v k = none_some h k
    by_version fit (Some m) v k =
        let same = same_Some _ _ k in
        let is = v m refl in
        subst (IsLine (method ∷ target ∷ version ∷ []) e fields last) same
        (record { words_are = ap (λ x. method ∷ target ∷ x ∷ []) is.0; head_is = refl; method = token_from method fit.0; target = fit.1; minor = is.1 })

target_facts : (target : List ℕ) → is_target target ≡ true → (0 < length target) × AllPass is_uri_byte target × (is_utf8 target ≡ true)
target_facts target h =
    let outer = both (nat_lt 0 (length target) && list_all is_uri_byte target) (is_utf8 target) h in
    let inner = both (nat_lt 0 (length target)) (list_all is_uri_byte target) outer.0 in
    (Prim.grind (arith, nat_tests, inner.0), AllPass-from_list_all is_uri_byte target inner.1, outer.1)

three_words : (method target version : List ℕ) → join_with_byte 32 (method ∷ target ∷ version ∷ []) ≡ (method ++ 32 ∷ target) ++ 32 ∷ version
three_words method target version = sym (append_assoc method (32 ∷ target) (32 ∷ version))

-- of lines that are read as a head: they joined are its text, and it is one of the grammar
lines_are : (first : List ℕ) (fields : List Field) (last : LineEnd) (h : RequestHead) → All IsField fields → IsLine (pieces 32 (without_return first)) (end_of first) fields last h → (first ++ 10 ∷ print_section fields last ≡ print_request h) × IsRequestHead h × (h.blank ≡ [])
unfolding print_request
lines_are first fields last h all line =
    let target = target_facts h.target line.target in
    let text : without_return first ≡ (h.method ++ 32 ∷ h.target) ++ 32 ∷ print_version h.minor =
    sym (join-pieces 32 (without_return first)) ∙ ap (join_with_byte 32) line.words_are ∙ three_words h.method h.target (print_version h.minor) in
    let whole : first ++ 10 ∷ print_section fields last ≡ ((((h.method ++ 32 ∷ h.target) ++ 32 ∷ print_version h.minor) ++ print_end (end_of first)) ++ print_section fields last) =
    ap (λ l. l ++ 10 ∷ print_section fields last) (line_is first ∙ ap (λ l. l ++ return_of (end_of first)) text)
    ∙ append_assoc ((h.method ++ 32 ∷ h.target) ++ 32 ∷ print_version h.minor) (return_of (end_of first)) (10 ∷ print_section fields last)
    ∙ ap (λ l. ((h.method ++ 32 ∷ h.target) ++ 32 ∷ print_version h.minor) ++ l) (sym (append_assoc (return_of (end_of first)) (10 ∷ []) (print_section fields last)) ∙ ap (λ e. e ++ print_section fields last) (sym (end_is (end_of first))))
    ∙ sym (append_assoc ((h.method ++ 32 ∷ h.target) ++ 32 ∷ print_version h.minor) (print_end (end_of first)) (print_section fields last)) in (
      whole ∙ ap print_request (sym line.head_is),
      record { method = line.method; target = (target.0, target.1); target_text = IsUtf8-from_is_utf8 h.target target.2; minor = line.minor; fields = subst (All IsField) (sym (ap (λ (x : RequestHead). x.fields) line.head_is)) all },
      ap (λ (x : RequestHead). x.blank) line.head_is,
    )

-- what is read is a head of the grammar
head_is : (block : List ℕ) (h : RequestHead) → head_of block ≡ Some h → IsHead block h
unfolding head_of
head_is block h e =
    let piece = some_piece 10 block in
    by_section piece.0 piece.1 (sym (join-pieces 10 block) ∙ ap (join_with_byte 10) piece.2) (section_of piece.1) (λ s k. section_is piece.1 s k) (sym (ap head_of_lines piece.2) ∙ e)
  where
    by_section : (first : List ℕ) (more : List (List ℕ)) → block ≡ join_with_byte 10 (first ∷ more) → (o : Option Section) → ((s : Section) → o ≡ Some s → (more ≡ section_pieces s.0 s.1) × All IsField s.0) → option_and_then (λ (x : Section). head_of_words (pieces space (without_return first)) (end_of first) x.0 x.1) o ≡ Some h → IsHead block h
    by_section first more joined None k e = none_some h e
    by_section first more joined (Some s) k e =
        let section = k s refl in
        let are = lines_are first s.0 s.1 h section.1 (line_of_words (pieces 32 (without_return first)) (end_of first) s.0 s.1 h e) in
        ((are.1, joined ∙ ap (λ ps. join_with_byte 10 (first ∷ ps)) section.0 ∙ section_joined first s.0 s.1 ∙ are.0 ∙ sym (append-nil (print_request h))), are.2)

pub heads_are_the_grammar : HeadsAreTheGrammar
heads_are_the_grammar block h = (
  λ e. head_is block h e,
  λ is. ap head_of (is.0.1 ∙ append-nil (print_request h)) ∙ head_back h is.0.0 is.1,
)

-- How many lines a block has

counted : (s c : ℕ) (text : List ℕ) (b : Bool) → (c == s) ≡ b → count_by (λ x. x == s) (c ∷ text) ≡ cond b 1 0 + count_by (λ x. x == s) text
counted s c text b h = sum_by-cons (λ x. cond (x == s) 1 0) c text ∙ ap (λ x. cond x 1 0 + count_by (λ y. y == s) text) h

-- one more than its line feeds
pub length-pieces : (s : ℕ) (text : List ℕ) → length (pieces s text) ≡ count_by (λ x. x == s) text + 1
length-pieces s [] = omega arith
length-pieces s (c ∷ text) =
    ⊎_elim
    (λ same.
    let more = length-pieces s text in
    let here = ap length (piece_here s c text same) in
    let count = counted s c text true same in
    omega arith)
    (λ apart.
    let more = length-pieces s text in
    let first = some_piece s text in
    let here = ap length (piece_later s c text apart ∙ ap (onto_first c) first.2) ∙ sym (ap length first.2) in
    let count = counted s c text false apart in
    omega arith)
    (bool_cases (c == s))
