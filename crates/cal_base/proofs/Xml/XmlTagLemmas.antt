-- A markup that begins with `<` or `&` is cut off whatever stands behind it: none begins another.
use Rattle.std.specs.Prelude.{◌≡◌, ℕ, zero, suc, ◌+◌, ◌-◌, ◌≤◌, Bool, true, false, not, ◌==◌, nat_eq, nat_le, if◌then◌else◌, List, [], ◌∷◌, ◌++◌, length, take, drop, codes, Option, Some, None, is_some, option_map, option_and_then, ◌⊎◌}
use Rattle.std.specs.List.{list_any, take_while, prefix_len}
use Rattle.std.specs.Cmp.Lexicographic.{same_text}
use Rattle.std.proofs.Common.{inl, inr, arith, refl, sym, ap, subst, ◌∙◌}
use Rattle.std.proofs.lemmas.Bool.{cases_Bool, eqb-true, eqb-false, leb-true}
use Rattle.std.proofs.lemmas.Option.{same_Some}
use Rattle.std.proofs.lemmas.List.{append_assoc, take-append-drop, drop-drop}
use Rattle.cal_base.specs.Lines.ContentLines.{onto_first}
use Rattle.cal_base.specs.Xml.XmlNames.{QName, qname_of, is_blank, are_blanks, is_xml_text}
use Rattle.cal_base.specs.Xml.XmlMarkup.{Markup, closing, WrittenAttribute, begins, ends, is_quote, quote_after, size_through, tag_size, markup_size, markups, inside, quoted_pieces, is_not_blank, without_last_blanks, attribute_of, attributes_of, tag_of, opening_of, closing_of, comment_of, section_of, instruction_of, reference_of, markup_of, is_one_markup}
use Rattle.cal_base.proofs.Xml.XmlMarkupLemmas.{size_through-append, markups-append}
use Rattle.cal_base.proofs.Xml.XmlNameLemmas.{both_true, both_false, is_one_of, qname_of-lacks, qname_of-nil}

-- Quotes

-- the quote that is open behind a text
quote_behind : Option ℕ → List ℕ → Option ℕ
quote_behind quote [] = quote
quote_behind quote (octet ∷ text) = quote_behind (quote_after quote octet) text

quote_behind-append : (quote : Option ℕ) (text more : List ℕ) → quote_behind quote (text ++ more) ≡ quote_behind (quote_behind quote text) more
unfolding quote_behind
quote_behind-append quote [] more = refl
quote_behind-append quote (octet ∷ text) more = quote_behind-append (quote_after quote octet) text more

-- the first `>` outside quotes is found, whatever stands behind it
tag_size-append : (quote : Option ℕ) (text rest : List ℕ) → quote_behind quote text ≡ None → tag_size quote (text ++ 62 ∷ rest) ≡ tag_size quote (text ++ 62 ∷ [])
unfolding quote_behind
tag_size-append None [] rest e = refl
tag_size-append (Some quote) [] rest e = absurd cc
tag_size-append None (octet ∷ text) rest e = ap (λ size. elim (octet == 62) [ true ↦ 1 | false ↦ suc size ]) (tag_size-append (quote_after None octet) text rest e)
tag_size-append (Some quote) (octet ∷ text) rest e = ap (λ (size : ℕ). suc size) (tag_size-append (quote_after (Some quote) octet) text rest e)

-- a text without quotes opens none
unquoted : (text : List ℕ) → list_any is_quote text ≡ false → quote_behind None text ≡ None
unfolding quote_behind
unquoted [] e = refl
unquoted (octet ∷ text) e =
    let each = both_false (is_quote octet) _ e in
    let still : quote_after None octet ≡ None = ap (λ test. if test then Some octet else None) each.0 in
    rw still (unquoted text each.1)

-- Attributes close their quotes

is_odd : {X : Type 0} → List X → Bool
is_odd [] = false
is_odd (x ∷ xs) = not (is_odd xs)

not_true : (test : Bool) → not test ≡ true → test ≡ false
not_true true e = absurd cc
not_true false e = refl

not_false : (test : Bool) → not test ≡ false → test ≡ true
not_false true e = refl
not_false false e = absurd cc

others_of : (found : Option WrittenAttribute) (others : Option (List WrittenAttribute)) (attributes : List WrittenAttribute) →
    option_and_then (λ attribute. option_map (λ more. attribute ∷ more) others) found ≡ Some attributes → (more : List WrittenAttribute) × (others ≡ Some more)
others_of None others attributes e = absurd cc
others_of (Some attribute) None attributes e = absurd cc
others_of (Some attribute) (Some more) attributes e = (more, refl)

attributes_of-odd : (parts : List (List ℕ)) (attributes : List WrittenAttribute) → attributes_of parts ≡ Some attributes → is_odd parts ≡ true
unfolding is_odd
attributes_of-odd [] attributes e = absurd cc
attributes_of-odd (last ∷ []) attributes e = refl
attributes_of-odd (before ∷ value ∷ parts) attributes e =
    let (more, found) = others_of (attribute_of before value) (attributes_of parts) attributes e in
    ap (λ test. not (not test)) (attributes_of-odd parts more found)

onto_first-odd : (octet other : ℕ) (parts : List (List ℕ)) → is_odd (onto_first octet (onto_first other parts)) ≡ is_odd (onto_first other parts)
unfolding is_odd
onto_first-odd octet other [] = refl
onto_first-odd octet other (part ∷ parts) = refl

quoted_pieces-odd : (quote : Option ℕ) (octet : ℕ) (text : List ℕ) → is_odd (onto_first octet (quoted_pieces quote text)) ≡ is_odd (quoted_pieces quote text)
unfolding is_odd
quoted_pieces-odd quote octet [] = refl
quoted_pieces-odd None octet (next ∷ text) = elim (is_quote next) as (λ test. is_odd (onto_first octet (elim test [ true ↦ [] ∷ quoted_pieces (Some next) text | false ↦ onto_first next (quoted_pieces None text) ])) ≡ is_odd (elim test [ true ↦ [] ∷ quoted_pieces (Some next) text | false ↦ onto_first next (quoted_pieces None text) ])) [
  | true ↦ refl
  | false ↦ onto_first-odd octet next (quoted_pieces None text)
]
quoted_pieces-odd (Some quote) octet (next ∷ text) = elim (next == quote) as (λ test. is_odd (onto_first octet (elim test [ true ↦ [] ∷ quoted_pieces None text | false ↦ onto_first next (quoted_pieces (Some quote) text) ])) ≡ is_odd (elim test [ true ↦ [] ∷ quoted_pieces None text | false ↦ onto_first next (quoted_pieces (Some quote) text) ])) [
  | true ↦ refl
  | false ↦ onto_first-odd octet next (quoted_pieces (Some quote) text)
]

is_shut : Option ℕ → Bool
is_shut None = true
is_shut (Some quote) = false

-- as many quotes open as close, where the pieces are odd in number
closed_behind : (quote : Option ℕ) (text : List ℕ) → is_odd (quoted_pieces quote text) ≡ is_shut quote → quote_behind quote text ≡ None
unfolding is_odd quote_behind is_shut
closed_behind None [] e = refl
closed_behind (Some quote) [] e = absurd cc
closed_behind None (octet ∷ text) e =
    (elim (is_quote octet) as (λ test. is_odd (elim test [ true ↦ [] ∷ quoted_pieces (Some octet) text | false ↦ onto_first octet (quoted_pieces None text) ]) ≡ true → quote_behind (if test then Some octet else None) text ≡ None) [
      | true ↦ λ h. closed_behind (Some octet) text (not_true _ h)
      | false ↦ λ h. closed_behind None text (sym (quoted_pieces-odd None octet text) ∙ h)
    ]) e
closed_behind (Some quote) (octet ∷ text) e =
    (elim (octet == quote) as (λ test. is_odd (elim test [ true ↦ [] ∷ quoted_pieces None text | false ↦ onto_first octet (quoted_pieces (Some quote) text) ]) ≡ false → quote_behind (if test then None else Some quote) text ≡ None) [
      | true ↦ λ h. closed_behind None text (not_false _ h)
      | false ↦ λ h. closed_behind (Some quote) text (sym (quoted_pieces-odd (Some quote) octet text) ∙ h)
    ]) e

closed_outside : (text : List ℕ) → is_odd (quoted_pieces None text) ≡ true → quote_behind None text ≡ None
unfolding is_shut
closed_outside text e = closed_behind None text e

-- What stands between a front and an end

pub pick : {X : Type 0} (test : Bool) (x y : X) → test ≡ true → (if test then x else y) ≡ x
pick true x y e = refl
pick false x y e = absurd cc

pub skip : {X : Type 0} (test : Bool) (x y : X) → test ≡ false → (if test then x else y) ≡ y
skip false x y e = refl
skip true x y e = absurd cc

-- a text that is there has its test
pub given : {X : Type 0} (test : Bool) (x y : X) → (if test then Some x else None) ≡ Some y → (test ≡ true) × (x ≡ y)
given true x y e = (refl, cc)
given false x y e = absurd cc

pub inside_is : (start : ℕ) (end text found : List ℕ) → inside start end text ≡ Some found → text ≡ take start text ++ (found ++ end)
inside_is start end text found e =
    let size = start + length end in
    let (test, same) = given _ _ found e in
    let each = both_true (nat_le size (length text)) _ test in
    let fits : size ≤ length text = leb-true size (length text) each.0 in
    let last : end ≡ drop (length text - length end) text = same_text end (drop (length text - length end) text) (sym each.1) in
    let place : start + (length text - size) ≡ length text - length end = omega arith in
    let rest : drop (length text - size) (drop start text) ≡ end = drop-drop (length text - size) start text ∙ ap (λ n. drop n text) place ∙ sym last in
    sym (ap (λ front. take start text ++ front) (ap (λ middle. middle ++ end) (sym same) ∙ ap (λ behind. take (length text - size) (drop start text) ++ behind) (sym rest) ∙ take-append-drop (length text - size) (drop start text)) ∙ take-append-drop start text)

pub begins_is : (front text : List ℕ) → begins text front ≡ true → front ≡ take (length front) text
begins_is front text e = same_text front (take (length front) text) (sym e)

-- Tags

-- a tag, which is told from a comment, a section and an instruction by its second octet, and which leaves no quote open
record TagText (text : List ℕ) : Type 0 where
  first : ℕ
  more : List ℕ
  is : text ≡ 60 ∷ first ∷ (more ++ 62 ∷ [])
  apart : (nat_eq 33 first ≡ false) × (nat_eq 63 first ≡ false)
  closed : quote_behind None (first ∷ more) ≡ None

pub markup_size-tag : (first : ℕ) (more : List ℕ) → nat_eq 33 first ≡ false → nat_eq 63 first ≡ false → markup_size (60 ∷ first ∷ more) ≡ 1 + tag_size None (first ∷ more)
markup_size-tag first more bang question =
    let comment : begins (60 ∷ first ∷ more) (codes "<!--") ≡ false = rw bang refl in
    let section : begins (60 ∷ first ∷ more) (codes "<![CDATA[") ≡ false = rw bang refl in
    let instruction : begins (60 ∷ first ∷ more) (codes "<?") ≡ false = rw question refl in
    skip _ _ _ comment ∙ (skip _ _ _ section ∙ skip _ _ _ instruction)

tag_cut : (text rest : List ℕ) → TagText text → markup_size (text ++ rest) ≡ markup_size text
tag_cut text rest tag =
    let whole = 60 ∷ tag.first ∷ (tag.more ++ 62 ∷ []) in
    let split : whole ++ rest ≡ 60 ∷ tag.first ∷ (tag.more ++ 62 ∷ rest) = ap (λ (behind : List ℕ). 60 ∷ tag.first ∷ behind) (append_assoc tag.more (62 ∷ []) rest) in
    let long : markup_size (whole ++ rest) ≡ 1 + tag_size None ((tag.first ∷ tag.more) ++ 62 ∷ rest) = ap markup_size split ∙ markup_size-tag tag.first (tag.more ++ 62 ∷ rest) tag.apart.0 tag.apart.1 in
    let short : markup_size whole ≡ 1 + tag_size None ((tag.first ∷ tag.more) ++ 62 ∷ []) = markup_size-tag tag.first (tag.more ++ 62 ∷ []) tag.apart.0 tag.apart.1 in
    ap (λ (octets : List ℕ). markup_size (octets ++ rest)) tag.is ∙ (long ∙ (ap (λ size. 1 + size) (tag_size-append None (tag.first ∷ tag.more) rest tag.closed) ∙ (sym short ∙ ap markup_size (sym tag.is))))

-- Names in tags

abbrev marks : List ℕ
marks = 33 ∷ 34 ∷ 39 ∷ 63 ∷ []

marks_apart : (octet : ℕ) → is_one_of marks octet ≡ false → (nat_eq 33 octet ≡ false) × (nat_eq 63 octet ≡ false)
marks_apart octet e =
    let bang = both_false (octet == 33) _ e in
    let double = both_false (octet == 34) _ bang.1 in
    let single = both_false (octet == 39) _ double.1 in
    let question = both_false (octet == 63) _ single.1 in
    (other_way 33 octet bang.0, other_way 63 octet question.0)
  where
    other_way : (a b : ℕ) → (b == a) ≡ false → nat_eq a b ≡ false
    other_way a b f = elim (cases_Bool (nat_eq a b)) [
      | inl same ↦ absurd (eqb-false b a f (sym (eqb-true a b same)))
      | inr apart ↦ apart
    ]

marks_quotes : (text : List ℕ) → list_any (is_one_of marks) text ≡ false → list_any is_quote text ≡ false
marks_quotes [] e = refl
marks_quotes (octet ∷ text) e =
    let each = both_false (is_one_of marks octet) _ e in
    let bang = both_false (octet == 33) _ each.0 in
    let double = both_false (octet == 34) _ bang.1 in
    let single = both_false (octet == 39) _ double.1 in
    rw (double.0, single.0) (marks_quotes text each.1)

name_marks : (text : List ℕ) (name : QName) → qname_of text ≡ Some name → list_any (is_one_of marks) text ≡ false
name_marks text name e = qname_of-lacks marks refl refl refl text name e

blank_unquoted : (octet : ℕ) → is_blank octet ≡ true → is_quote octet ≡ false
blank_unquoted octet e = elim (cases_Bool (octet == 34)) [
  | inl same ↦ let blank : is_blank 34 ≡ true = subst (λ (other : ℕ). is_blank other ≡ true) (eqb-true octet 34 same) e in absurd cc
  | inr double ↦ elim (cases_Bool (octet == 39)) [
    | inl same ↦ let blank : is_blank 39 ≡ true = subst (λ (other : ℕ). is_blank other ≡ true) (eqb-true octet 39 same) e in absurd cc
    | inr single ↦ rw (double, single) refl
  ]
]

blanks_unquoted : (text : List ℕ) → are_blanks text ≡ true → list_any is_quote text ≡ false
blanks_unquoted [] e = refl
blanks_unquoted (octet ∷ text) e =
    let each = both_true (is_blank octet) _ e in
    rw (blank_unquoted octet each.0) (blanks_unquoted text each.1)

unquoted_before : (octet : ℕ) (text : List ℕ) (test : Bool) → are_blanks (octet ∷ text) ≡ test → list_any is_quote (elim test [ true ↦ [] | false ↦ octet ∷ without_last_blanks text ]) ≡ false →
    (list_any is_quote (without_last_blanks text) ≡ false → list_any is_quote text ≡ false) → list_any is_quote (octet ∷ text) ≡ false
unquoted_before octet text true blanks h more = blanks_unquoted (octet ∷ text) blanks
unquoted_before octet text false none h more =
    let each = both_false (is_quote octet) _ h in
    rw (each.0) (more each.1)

last_blanks_unquoted : (text : List ℕ) → list_any is_quote (without_last_blanks text) ≡ false → list_any is_quote text ≡ false
last_blanks_unquoted [] e = refl
last_blanks_unquoted (octet ∷ text) e = unquoted_before octet text (are_blanks (octet ∷ text)) refl e (last_blanks_unquoted text)

-- What made an answer

pub bind_is : {X Y : Type 0} (next : X → Option Y) (found : Option X) (answer : Y) → option_and_then next found ≡ Some answer → (x : X) × (found ≡ Some x) × (next x ≡ Some answer)
bind_is next None answer e = absurd cc
bind_is next (Some x) answer e = (x, refl, e)

pub map_is : {X Y : Type 0} (change : X → Y) (found : Option X) (answer : Y) → option_map change found ≡ Some answer → (x : X) × (found ≡ Some x) × (change x ≡ answer)
map_is change None answer e = absurd cc
map_is change (Some x) answer e = (x, refl, same_Some (change x) answer e)

closing_text : (text : List ℕ) (markup : Markup) → begins text (codes "</") ≡ true → closing_of text ≡ Some markup → TagText text
unfolding quote_behind
closing_text text markup b e =
    let (name, found, next) = bind_is _ (inside 2 (codes ">") text) markup e in
    let (qname, named, same) = map_is closing (qname_of (without_last_blanks name)) markup next in
    let front : codes "</" ≡ take 2 text = begins_is (codes "</") text b in
    record {
      first = 47;
      more = name;
      is = inside_is 2 (codes ">") text name found ∙ ap (λ (start : List ℕ). start ++ (name ++ 62 ∷ [])) (sym front);
      apart = (refl, refl);
      closed = unquoted name (last_blanks_unquoted name (marks_quotes (without_last_blanks name) (name_marks (without_last_blanks name) qname named)));
    }

pub take_drop_length : (count : ℕ) (text : List ℕ) → take count text ++ drop (length (take count text)) text ≡ text
take_drop_length zero text = refl
take_drop_length (suc count) [] = refl
take_drop_length (suc count) (octet ∷ text) = ap (λ more. octet ∷ more) (take_drop_length count text)

-- what stands in a tag begins with no mark, and closes its quotes
record TagInside (text : List ℕ) : Type 0 where
  first : ℕ
  more : List ℕ
  is : text ≡ first ∷ more
  no_mark : is_one_of marks first ≡ false
  closed : quote_behind None text ≡ None

named_inside : (name rest text : List ℕ) (qname : QName) (attributes : List WrittenAttribute) → name ++ rest ≡ text → qname_of name ≡ Some qname → attributes_of (quoted_pieces None rest) ≡ Some attributes → TagInside text
named_inside [] rest text qname attributes e n a = absurd (qname_of-nil qname n)
named_inside (octet ∷ name) rest text qname attributes e n a =
    let lacks = name_marks (octet ∷ name) qname n in
    let each = both_false (is_one_of marks octet) _ lacks in
    let outside : quote_behind None (octet ∷ name) ≡ None = unquoted (octet ∷ name) (marks_quotes (octet ∷ name) lacks) in
    let behind : quote_behind None rest ≡ None = closed_outside rest (attributes_of-odd (quoted_pieces None rest) attributes a) in
    record {
      first = octet;
      more = name ++ rest;
      is = sym e;
      no_mark = each.0;
      closed = ap (λ (octets : List ℕ). quote_behind None octets) (sym e) ∙ (quote_behind-append None (octet ∷ name) rest ∙ (ap (λ quote. quote_behind quote rest) outside ∙ behind));
    }

tag_inside : (is_empty : Bool) (text : List ℕ) (markup : Markup) → tag_of is_empty text ≡ Some markup → TagInside text
tag_inside is_empty text markup e =
    let name = take_while is_not_blank text in
    let (qname, named, next) = bind_is _ (qname_of name) markup e in
    let (attributes, found, same) = map_is _ (attributes_of (quoted_pieces None (drop (length name) text))) markup next in
    named_inside name (drop (length name) text) text qname attributes (take_drop_length (prefix_len is_not_blank text) text) named found

opening_text : (text : List ℕ) (markup : Markup) → begins text (codes "<") ≡ true → opening_of text ≡ Some markup → TagText text
unfolding quote_behind
opening_text text markup b e = by_end (ends text (codes "/>")) e
  where
    front : codes "<" ≡ take 1 text
    front = begins_is (codes "<") text b

    by_end : (test : Bool) → (if test then option_and_then (tag_of true) (inside 1 (codes "/>") text) else option_and_then (tag_of false) (inside 1 (codes ">") text)) ≡ Some markup → TagText text
    by_end true h =
        let (inner, found, made) = bind_is (tag_of true) (inside 1 (codes "/>") text) markup h in
        let in_tag = tag_inside true inner markup made in
        record {
          first = in_tag.first;
          more = in_tag.more ++ 47 ∷ [];
          is = inside_is 1 (codes "/>") text inner found ∙ (ap (λ (start : List ℕ). start ++ (inner ++ 47 ∷ 62 ∷ [])) (sym front)
              ∙ (ap (λ (octets : List ℕ). 60 ∷ (octets ++ 47 ∷ 62 ∷ [])) in_tag.is ∙ ap (λ (octets : List ℕ). 60 ∷ in_tag.first ∷ octets) (sym (append_assoc in_tag.more (47 ∷ []) (62 ∷ [])))));
          apart = marks_apart in_tag.first in_tag.no_mark;
          closed = quote_behind-append None (in_tag.first ∷ in_tag.more) (47 ∷ [])
              ∙ ap (λ quote. quote_behind quote (47 ∷ [])) (ap (λ (octets : List ℕ). quote_behind None octets) (sym in_tag.is) ∙ in_tag.closed);
        }
    by_end false h =
        let (inner, found, made) = bind_is (tag_of false) (inside 1 (codes ">") text) markup h in
        let in_tag = tag_inside false inner markup made in
        record {
          first = in_tag.first;
          more = in_tag.more;
          is = inside_is 1 (codes ">") text inner found ∙ (ap (λ (start : List ℕ). start ++ (inner ++ 62 ∷ [])) (sym front) ∙ ap (λ (octets : List ℕ). 60 ∷ (octets ++ 62 ∷ [])) in_tag.is);
          apart = marks_apart in_tag.first in_tag.no_mark;
          closed = ap (λ (octets : List ℕ). quote_behind None octets) (sym in_tag.is) ∙ in_tag.closed;
        }

-- Markups with a front and an end

-- what goes from a front through an end that it has at its end alone
abbrev FindsEnd : List ℕ → List ℕ → Type 0
FindsEnd text rest = markup_size text ≡ length text → markup_size (text ++ rest) ≡ length text

-- the text of a front, some octets and an end
pub shape : (front end text found : List ℕ) → begins text front ≡ true → inside (length front) end text ≡ Some found → text ≡ front ++ (found ++ end)
shape front end text found b e = inside_is (length front) end text found e ∙ ap (λ (start : List ℕ). start ++ (found ++ end)) (sym (begins_is front text b))

comment_cut : (found rest : List ℕ) → FindsEnd (codes "<!--" ++ (found ++ codes "-->")) rest
comment_cut found rest e =
    let short : size_through (codes "-->") (found ++ codes "-->") ≡ length (found ++ codes "-->") = omega (arith, e) in
    let long : size_through (codes "-->") ((found ++ codes "-->") ++ rest) ≡ length (found ++ codes "-->") = size_through-append (codes "-->") found rest (omega arith) short in
    omega (arith, long)

section_cut : (found rest : List ℕ) → FindsEnd (codes "<![CDATA[" ++ (found ++ codes "]]>")) rest
section_cut found rest e =
    let short : size_through (codes "]]>") (found ++ codes "]]>") ≡ length (found ++ codes "]]>") = omega (arith, e) in
    let long : size_through (codes "]]>") ((found ++ codes "]]>") ++ rest) ≡ length (found ++ codes "]]>") = size_through-append (codes "]]>") found rest (omega arith) short in
    omega (arith, long)

instruction_cut : (found rest : List ℕ) → FindsEnd (codes "<?" ++ (found ++ codes "?>")) rest
instruction_cut found rest e =
    let short : size_through (codes "?>") (found ++ codes "?>") ≡ length (found ++ codes "?>") = omega (arith, e) in
    let long : size_through (codes "?>") ((found ++ codes "?>") ++ rest) ≡ length (found ++ codes "?>") = size_through-append (codes "?>") found rest (omega arith) short in
    omega (arith, long)

reference_cut : (found rest : List ℕ) → FindsEnd (codes "&" ++ (found ++ codes ";")) rest
reference_cut found rest e = size_through-append (codes ";") (38 ∷ found) rest (omega arith) e

moved : (text shaped rest : List ℕ) → text ≡ shaped → FindsEnd shaped rest → FindsEnd text rest
moved text shaped rest e finds = subst (λ (octets : List ℕ). FindsEnd octets rest) (sym e) finds

cut_comment : (text rest : List ℕ) (markup : Markup) → begins text (codes "<!--") ≡ true → comment_of text ≡ Some markup → FindsEnd text rest
cut_comment text rest markup b e =
    let (found, there, next) = bind_is _ (inside 4 (codes "-->") text) markup e in
    moved text _ rest (shape (codes "<!--") (codes "-->") text found b there) (comment_cut found rest)

cut_section : (text rest : List ℕ) (markup : Markup) → begins text (codes "<![CDATA[") ≡ true → section_of text ≡ Some markup → FindsEnd text rest
cut_section text rest markup b e =
    let (found, there, same) = map_is _ (inside 9 (codes "]]>") text) markup e in
    moved text _ rest (shape (codes "<![CDATA[") (codes "]]>") text found b there) (section_cut found rest)

cut_instruction : (text rest : List ℕ) (markup : Markup) → begins text (codes "<?") ≡ true → instruction_of text ≡ Some markup → FindsEnd text rest
cut_instruction text rest markup b e =
    let (found, there, next) = bind_is _ (inside 2 (codes "?>") text) markup e in
    moved text _ rest (shape (codes "<?") (codes "?>") text found b there) (instruction_cut found rest)

cut_reference : (text rest : List ℕ) (markup : Markup) → begins text (codes "&") ≡ true → reference_of text ≡ Some markup → FindsEnd text rest
cut_reference text rest markup b e =
    let (found, there, next) = bind_is _ (inside 1 (codes ";") text) markup e in
    moved text _ rest (shape (codes "&") (codes ";") text found b there) (reference_cut found rest)

cut_tag : (text rest : List ℕ) → TagText text → FindsEnd text rest
cut_tag text rest tag e = tag_cut text rest tag ∙ e

-- Any markup

-- a markup that is told by its first octet, `<` or `&`
abbrev pub IsMarked : List ℕ → Type 0
IsMarked text = (begins text (codes "<") ≡ true) ⊎ (begins text (codes "&") ≡ true)

markup_cut : (text rest : List ℕ) (markup : Markup) → IsMarked text → markup_of text ≡ Some markup → FindsEnd text rest
markup_cut text rest markup marked e = elim (cases_Bool (is_xml_text text)) [
  | inr other ↦ let none : None ≡ Some markup = sym (pick _ _ _ (ap not other)) ∙ e in absurd cc
  | inl characters ↦
      let e0 = sym (skip _ _ _ (ap not characters)) ∙ e in
      elim (cases_Bool (begins text (codes "<!--"))) [
        | inl comment ↦ cut_comment text rest markup comment (sym (pick _ _ _ comment) ∙ e0)
        | inr no_comment ↦
            let e1 = sym (skip _ _ _ no_comment) ∙ e0 in
            elim (cases_Bool (begins text (codes "<![CDATA["))) [
              | inl section ↦ cut_section text rest markup section (sym (pick _ _ _ section) ∙ e1)
              | inr no_section ↦
                  let e2 = sym (skip _ _ _ no_section) ∙ e1 in
                  elim (cases_Bool (begins text (codes "<?"))) [
                    | inl instruction ↦ cut_instruction text rest markup instruction (sym (pick _ _ _ instruction) ∙ e2)
                    | inr no_instruction ↦
                        let e3 = sym (skip _ _ _ no_instruction) ∙ e2 in
                        elim (cases_Bool (begins text (codes "</"))) [
                          | inl closes ↦ cut_tag text rest (closing_text text markup closes (sym (pick _ _ _ closes) ∙ e3))
                          | inr no_closing ↦
                              let e4 = sym (skip _ _ _ no_closing) ∙ e3 in
                              elim (cases_Bool (begins text (codes "<"))) [
                                | inl opens ↦ cut_tag text rest (opening_text text markup opens (sym (pick _ _ _ opens) ∙ e4))
                                | inr no_opening ↦
                                    let e5 = sym (skip _ _ _ no_opening) ∙ e4 in
                                    elim marked [
                                      | inl opens ↦ let clash : true ≡ false = sym opens ∙ no_opening in absurd cc
                                      | inr refers ↦ cut_reference text rest markup refers (sym (pick _ _ _ refers) ∙ e5)
                                    ]
                              ]
                        ]
                  ]
            ]
      ]
]

is_Some : {X : Type 0} (found : Option X) → is_some found ≡ true → (x : X) × (found ≡ Some x)
is_Some None e = absurd cc
is_Some (Some x) e = (x, refl)

-- a markup with its mark is cut off whole, whatever stands behind it
pub markups-marked : (text rest : List ℕ) → IsMarked text → is_one_markup text ≡ true → markups (text ++ rest) ≡ text ∷ markups rest
markups-marked [] rest marked e = elim marked [ inl opens ↦ absurd cc | inr refers ↦ absurd cc ]
markups-marked (octet ∷ text) rest marked e =
    let each = both_true (markup_size (octet ∷ text) == length (octet ∷ text)) _ e in
    let (markup, found) = is_Some (markup_of (octet ∷ text)) each.1 in
    markups-append octet text rest (markup_cut (octet ∷ text) rest markup marked found (eqb-true _ _ each.0))
