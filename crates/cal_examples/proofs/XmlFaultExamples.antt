-- Worked examples of the faults of XML bodies: each reason with its place, and what stands beside it. The verdicts are those of
-- XML 1.0 and Namespaces in XML 1.0.
use Rattle.std.specs.Prelude.{◌≡◌, refl, ℕ, List, [], ◌∷◌, ◌++◌, replicate, flat_map, Option, Some, None, codes}
use Rattle.std.specs.Str.{is_utf8, chars}
use lib.Utf8.{encode}
use Rattle.cal_base.specs.Xml.XmlFaults.{Why, Fault, encoding, syntax, dtd, entity, prefix, too_deep, cut_short, fault_at, body_fault}

abbrev at : ℕ → Why → Option Fault
at place why = Some (fault_at place why)

-- The front

-- an encoding other than UTF-8, in any case; a declaration needs none, nor anything else
declared_encoding : (body_fault (codes "<?xml version=\"1.0\" encoding='latin1'?><a/>") ≡ at 0 encoding)
    × (body_fault (codes "<?xml version='1.0' encoding = \"utf-8\" ?>\n<a/>") ≡ None)
    × (body_fault (codes "<?xml version=\"1.0\" encoding=\"UTF-8\" standalone=\"yes\"?><a/>") ≡ None)
    × (body_fault (codes "<?xml foo?><a/>") ≡ None)
unfolding is_utf8 chars encode
declared_encoding = (refl, refl, refl, refl)

-- a byte order mark comes first and once; a declaration comes next or not at all
mark_and_declaration : (body_fault (0xEF ∷ 0xBB ∷ 0xBF ∷ codes "<?xml version='1.0'?><a/>") ≡ None)
    × (body_fault (0xEF ∷ 0xBB ∷ 0xBF ∷ codes "<?xml encoding='latin1'?><a/>") ≡ at 3 encoding)
    × (body_fault (0xEF ∷ 0xBB ∷ 0xBF ∷ 0xEF ∷ 0xBB ∷ 0xBF ∷ codes "<a/>") ≡ at 3 syntax)
    × (body_fault (codes " <?xml version='1.0'?><a/>") ≡ at 1 syntax)
unfolding is_utf8 chars encode
mark_and_declaration = (refl, refl, refl, refl)

doctype : body_fault (codes "<!-- c --><!DOCTYPE a><a/>") ≡ at 10 dtd
unfolding is_utf8 chars encode
doctype = refl

-- Around the root

-- blanks, comments and instructions can stand around it, text, references and a second root cannot
around_root : (body_fault (codes "\n<?t d?><a/> <!-- c -->\n") ≡ None)
    × (body_fault (codes " x<a/>") ≡ at 1 syntax)
    × (body_fault (codes "<a/>&amp;") ≡ at 4 syntax)
    × (body_fault (codes "<a/><b/>") ≡ at 4 syntax)
    × (body_fault (codes "</a>") ≡ at 0 syntax)
unfolding is_utf8 chars encode
around_root = (refl, refl, refl, refl, refl)

-- Text

-- `]]>` has the place of its first octet, and an octet that is no UTF-8 or no character its own
in_text : (body_fault (codes "<a>x]]]></a>") ≡ at 5 syntax)
    × (body_fault (codes "<a>x" ++ 0xFF ∷ codes "</a>") ≡ at 4 syntax)
    × (body_fault (codes "<a>x" ++ 1 ∷ codes "</a>") ≡ at 4 syntax)
    × (body_fault (codes "<a>" ++ 0xEF ∷ 0xBF ∷ 0xBE ∷ codes "</a>") ≡ at 3 syntax)
unfolding is_utf8 chars encode
in_text = (refl, refl, refl, refl)

-- in a markup they have the place of the markup
in_markup : (body_fault (codes "<a><!-- " ++ 0xFF ∷ codes " --></a>") ≡ at 3 syntax)
    × (body_fault (codes "<a b='" ++ 1 ∷ codes "'/>") ≡ at 0 syntax)
unfolding is_utf8 chars encode
in_markup = (refl, refl)

-- no `--` in a comment, and no `-` before its end; an instruction's target is a name other than `xml`
comments_and_instructions : (body_fault (codes "<a><!-- a -- b --></a>") ≡ at 3 syntax)
    × (body_fault (codes "<a><!-- a ---></a>") ≡ at 3 syntax)
    × (body_fault (codes "<a><!--->--><!----></a>") ≡ None)
    × (body_fault (codes "<a><?XML d?></a>") ≡ at 3 syntax)
    × (body_fault (codes "<a><?xml-x d?></a>") ≡ None)
unfolding is_utf8 chars encode
comments_and_instructions = (refl, refl, refl, refl, refl)

-- References

-- another entity, and the number of no character; a reference that is none is at fault as it is written
references : (body_fault (codes "<a>&amp;&nbsp;</a>") ≡ at 8 entity)
    × (body_fault (codes "<a>&#0;</a>") ≡ at 3 entity)
    × (body_fault (codes "<a>&#x110000;</a>") ≡ at 3 entity)
    × (body_fault (codes "<a>& </a>") ≡ at 3 syntax)
    × (body_fault (codes "<a>&#x;</a>") ≡ at 3 syntax)
    × (body_fault (codes "<a>&amp</a>") ≡ at 3 syntax)
unfolding is_utf8 chars encode
references = (refl, refl, refl, refl, refl, refl)

-- in a value a reference is a markup of its own; a fault of its tag stands before it
references_in_values : (body_fault (codes "<a b='x&nbsp;'/>") ≡ at 7 entity)
    × (body_fault (codes "<a b='x& '/>") ≡ at 7 syntax)
    × (body_fault (codes "<a b='x&nbsp;' b=''/>") ≡ at 0 syntax)
    × (body_fault (codes "<p:a b='x&nbsp;'/>") ≡ at 0 prefix)
    × (body_fault (codes "<a b='x&nbsp;'") ≡ at 7 entity)
unfolding is_utf8 chars encode
references_in_values = (refl, refl, refl, refl, refl)

-- Tags

-- an attribute twice, without its quotes, with `<` in its value, without a blank before it, without a value
attributes : (body_fault (codes "<r><a b='1' b='2'/></r>") ≡ at 3 syntax)
    × (body_fault (codes "<r><a b=1/></r>") ≡ at 3 syntax)
    × (body_fault (codes "<r><a b='<'/></r>") ≡ at 3 syntax)
    × (body_fault (codes "<r><a b='1'c='2'/></r>") ≡ at 3 syntax)
    × (body_fault (codes "<r><a b/></r>") ≡ at 3 syntax)
unfolding is_utf8 chars encode
attributes = (refl, refl, refl, refl, refl)

-- an end tag of another name, also of another prefix for the same namespace
other_end : (body_fault (codes "<a><b></a></b>") ≡ at 6 syntax)
    × (body_fault (codes "<p:a xmlns:p='u' xmlns:q='u'></q:a>") ≡ at 29 syntax)
unfolding is_utf8 chars encode
other_end = (refl, refl)

-- Namespaces

undeclared : (body_fault (codes "<a><p:b/></a>") ≡ at 3 prefix)
    × (body_fault (codes "<a><b p:c=''/></a>") ≡ at 3 prefix)
    × (body_fault (codes "<a><p:b xmlns:p='u'/><p:c/></a>") ≡ at 21 prefix)
    × (body_fault (codes "<a xml:lang='de'/>") ≡ None)
unfolding is_utf8 chars encode
undeclared = (refl, refl, refl, refl)

-- Namespaces in XML 1.0, 3: what cannot be declared; a default can be taken back, a prefix cannot
declarations : (body_fault (codes "<a xmlns:p=''/>") ≡ at 0 syntax)
    × (body_fault (codes "<a xmlns:p='u'><b xmlns=''/></a>") ≡ None)
    × (body_fault (codes "<a xmlns:xml='u'/>") ≡ at 0 syntax)
    × (body_fault (codes "<a xmlns:p='http://www.w3.org/XML/1998/namespace'/>") ≡ at 0 syntax)
    × (body_fault (codes "<a xmlns:xml='http://www.w3.org/XML/1998/namespace'/>") ≡ None)
    × (body_fault (codes "<a xmlns:xmlns='u'/>") ≡ at 0 syntax)
    × (body_fault (codes "<a xmlns='http://www.w3.org/2000/xmlns/'/>") ≡ at 0 syntax)
unfolding is_utf8 chars encode
declarations = (refl, refl, refl, refl, refl, refl, refl)

-- 6.3, with its own examples: by what two attributes name, and the default does not speak of attributes
same_attribute : (body_fault (codes "<x xmlns:n1='http://www.w3.org' xmlns:n2='http://www.w3.org'><bad n1:a='1' n2:a='2'/></x>") ≡ at 61 syntax)
    × (body_fault (codes "<x xmlns:n1='http://www.w3.org' xmlns='http://www.w3.org'><good a='1' n1:a='2'/></x>") ≡ None)
unfolding is_utf8 chars encode
same_attribute = (refl, refl)

-- Depth

abbrev nested : ℕ → List ℕ → List ℕ
nested depth inner =
    flat_map (λ (tag : List ℕ). tag) (replicate depth (codes "<a>")) ++ inner ++ flat_map (λ (tag : List ℕ). tag) (replicate depth (codes "</a>"))

-- an element 32 deep stands, one 33 deep does not; at one place an undeclared prefix comes first
depths : (body_fault (nested 32 (codes "x")) ≡ None)
    × (body_fault (nested 31 (codes "<b/>")) ≡ None)
    × (body_fault (nested 32 (codes "<b/>")) ≡ at 96 too_deep)
    × (body_fault (nested 32 (codes "<p:b/>")) ≡ at 96 prefix)
unfolding is_utf8 chars encode
depths = (refl, refl, refl, refl)

-- The end

-- within the root, before it, and within a markup that could go on; its place is the end
ends_inside : (body_fault (codes "<a><b></b>") ≡ at 10 cut_short)
    × (body_fault [] ≡ at 0 cut_short)
    × (body_fault (codes "<a><b c=\"x>") ≡ at 11 cut_short)
    × (body_fault (codes "<a>&am") ≡ at 6 cut_short)
    × (body_fault (codes "<?xml version='1.0'") ≡ at 19 cut_short)
    × (body_fault (codes "<a/><!-- -") ≡ at 10 cut_short)
unfolding is_utf8 chars encode
ends_inside = (refl, refl, refl, refl, refl, refl)

-- what could not go on is at fault where it stands
ends_wrongly : (body_fault (codes "<a><b c=x") ≡ at 3 syntax)
    × (body_fault (codes "<a>&am ") ≡ at 3 syntax)
    × (body_fault (codes "<a/><!-- -- ") ≡ at 4 syntax)
    × (body_fault (codes "<a>" ++ 0xC3 ∷ []) ≡ at 3 syntax)
unfolding is_utf8 chars encode
ends_wrongly = (refl, refl, refl, refl)
