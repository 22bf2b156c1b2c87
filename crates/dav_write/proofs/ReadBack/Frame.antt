-- An element is spelled by its canonical text, given what its tag is read as.
use Rattle.std.proofs.Common.{◌≡◌, ℕ, ◌+◌, ◌<◌, zero, suc, Bool, true, false, List, [], ◌∷◌, ◌++◌, map, length, None, refl, sym, ap, ◌∙◌, subst, append_assoc, arith}
use Rattle.std.specs.Prelude.{codes, unwrap_or, if◌then◌else◌}
use Rattle.std.specs.List.{concat}
use Rattle.cal_base.specs.declared.element.Attr.{Attr}
use Rattle.cal_base.specs.declared.element.Element.{Element}
use Rattle.cal_base.specs.declared.element.Item.{Item}
use Rattle.cal_base.specs.Xml.XmlNames.{QName, is_xml_text}
use Rattle.cal_base.specs.Xml.XmlMarkup.{Tag, opening, closing}
use Rattle.cal_base.specs.Xml.XmlScopes.{Scope, declarations, space_of, attributes_in}
use Rattle.cal_base.specs.Xml.XmlFaults.{is_within, closes_innermost, tag_fault, greatest_depth, markup_fault}
use Rattle.cal_base.specs.Xml.XmlBodies.{Part, said, held, items_behind, Level, with_tag, element_of_tag}
use Rattle.cal_base.specs.Xml.CanonicalXml.{prefixes, xml_text, written_element, element_with, named_element}
use Rattle.cal_base.proofs.Xml.CanonicalXmlLemmas.{written_item, written_element-out}
use Rattle.dav_write.specs.Readable.{HasTag, AreParts, IsReadable}
use Rattle.dav_write.proofs.ReadBack.Spelling.{IsMarkup, NoFault, levels_of, scope_in, NoEnd, Grown, Spells, written_parts, HasKnown}
use Rattle.dav_write.proofs.ReadBack.Steps.{sound_step, levels_step}
use Rattle.dav_write.proofs.ReadBack.Alikes.{spells_join, spells_none, items_behind-written}

-- the texts of an element's tags, and what they are read as
pub record ReadsTag (element : Element) (front : List ℕ) (around : List Tag) : Type 0 where
  pub name : List ℕ
  pub attributes : List ℕ
  pub written : (content : List ℕ) → named_element front element.space element.name element.attrs content ≡ element_with name attributes content
  pub tag : Bool → Tag
  pub is_empty : (empty : Bool) → (tag empty).is_empty ≡ empty
  pub opens : (rest : List ℕ) → IsMarkup (codes "<" ++ (name ++ (attributes ++ codes ">"))) (opening (tag false)) rest
  pub alone : (rest : List ℕ) → IsMarkup (codes "<" ++ (name ++ (attributes ++ codes "/>"))) (opening (tag true)) rest
  pub qname : QName
  pub closes : (rest : List ℕ) → IsMarkup (codes "</" ++ (name ++ codes ">")) (closing qname) rest
  pub closes_it : closes_innermost qname (tag false ∷ around) ≡ true
  pub no_fault : (empty : Bool) → tag_fault around (tag empty) ≡ None
  pub space : (empty : Bool) → unwrap_or (space_of (declarations (tag empty) ++ scope_in around) (tag empty).name.prefix) [] ≡ element.space
  pub local : (empty : Bool) → (tag empty).name.local ≡ element.name
  pub known : HasKnown (declarations (tag false) ++ scope_in around)
  pub attrs : (empty : Bool) → attributes_in (declarations (tag empty) ++ scope_in around) (tag empty) ≡ element.attrs

-- Texts of tags

abbrev pub open_text : List ℕ → List ℕ → List ℕ
open_text name attributes = codes "<" ++ (name ++ (attributes ++ codes ">"))

abbrev pub alone_text : List ℕ → List ℕ → List ℕ
alone_text name attributes = codes "<" ++ (name ++ (attributes ++ codes "/>"))

abbrev pub close_text : List ℕ → List ℕ
close_text name = codes "</" ++ (name ++ codes ">")

-- a tag begins with no end of a section
less_no_end : (text : List ℕ) → NoEnd (60 ∷ text)
less_no_end text = record { one = refl; two = refl }

xml_nil : xml_text [] ≡ []
unfolding xml_text
xml_nil = refl

written_with : (element : Element) (front : List ℕ) (around : List Tag) (parts : List Part) (t : ReadsTag element front around) → items_behind [] parts ≡ element.items
    → written_element element front ≡ element_with t.name t.attributes (written_parts parts)
written_with element front around parts t items =
    written_element-out element front
    ∙ t.written (concat (map written_item element.items))
    ∙ ap (element_with t.name t.attributes) (ap (λ items. concat (map written_item items)) (sym items) ∙ items_behind-written [] parts ∙ ap (λ (f : List ℕ). f ++ written_parts parts) xml_nil)

split_text : (name attributes : List ℕ) (octet : ℕ) (more rest : List ℕ) → element_with name attributes (octet ∷ more) ++ rest ≡ open_text name attributes ++ ((octet ∷ more) ++ (close_text name ++ rest))
split_text name attributes octet more rest =
    let content = octet ∷ more in
    ap (λ (behind : List ℕ). 60 ∷ behind)
    (append_assoc name (attributes ++ (codes ">" ++ (content ++ close_text name))) rest
    ∙ ap (λ (behind : List ℕ). name ++ behind) (append_assoc attributes (codes ">" ++ (content ++ close_text name)) rest
    ∙ ap (λ (behind : List ℕ). attributes ++ (62 ∷ behind)) (append_assoc content (close_text name) rest)
    ∙ sym (append_assoc attributes (codes ">") (content ++ (close_text name ++ rest))))
    ∙ sym (append_assoc name (attributes ++ codes ">") (content ++ (close_text name ++ rest))))

-- Elements

made : List ℕ → List ℕ → List Attr → List Item → Element
made space name attrs items = record { space = space; name = name; attrs = attrs; items = items }

same_element : (element : Element) (front : List ℕ) (around : List Tag) (t : ReadsTag element front around) (empty : Bool) (level : Level) → items_behind [] (level (declarations (t.tag empty) ++ scope_in around)) ≡ element.items
    → element_of_tag (t.tag empty) level (scope_in around) ≡ element
unfolding made
same_element element front around t empty level items =
    let scope = declarations (t.tag empty) ++ scope_in around in
    let all = items_behind [] (level scope) in
    ap (λ space. made space (t.tag empty).name.local (attributes_in scope (t.tag empty)) all) (t.space empty)
    ∙ ap (λ name. made element.space name (attributes_in scope (t.tag empty)) all) (t.local empty)
    ∙ ap (λ attrs. made element.space element.name attrs all) (t.attrs empty)
    ∙ ap (λ all_items. made element.space element.name element.attrs all_items) items

-- the levels before a tag
levels_alone : (tag : Tag) (level : Level) (levels : List Level) → tag.is_empty ≡ true → with_tag tag (level ∷ levels) ≡ (λ scope. held (element_of_tag tag (λ scope'. []) scope) ∷ level scope) ∷ levels
levels_alone tag level levels e = rw e refl

levels_open : (tag : Tag) (inner level : Level) (levels : List Level) → tag.is_empty ≡ false → with_tag tag (inner ∷ level ∷ levels) ≡ (λ scope. held (element_of_tag tag inner scope) ∷ level scope) ∷ levels
levels_open tag inner level levels e = rw e refl

abbrev no_level : Level
no_level = λ scope. []

append_none : (parts : List Part) → parts ++ [] ≡ parts
append_none [] = refl
append_none (part ∷ parts) = ap (λ (more : List Part). part ∷ more) (append_none parts)

-- the levels before an end tag
levels_close : (element : Element) (front : List ℕ) (around : List Tag) (t : ReadsTag element front around) (rest : List ℕ) → levels_of (close_text t.name ++ rest) ≡ no_level ∷ levels_of rest
levels_close element front around t rest = levels_step (close_text t.name) (closing t.qname) rest (t.closes rest)

-- what is spelled before an end tag makes the items
items_inside : (element : Element) (front : List ℕ) (around : List Tag) (t : ReadsTag element front around) (parts : List Part) → items_behind [] parts ≡ element.items → (level : Level) (levels grown : List Level) →
    (g : Grown (scope_in (t.tag false ∷ around)) parts no_level levels grown) → items_behind [] (g.first (declarations (t.tag false) ++ scope_in around)) ≡ element.items
items_inside element front around t parts items level levels grown g =
    ap (items_behind []) g.parts_of_first ∙ g.alike [] [] ∙ ap (items_behind []) (append_none parts) ∙ items

-- Content that is spelled
abbrev pub Inside : List Tag → List Part → Type 0
Inside around parts = (rest : List ℕ) → NoEnd rest → Spells around (written_parts parts) parts rest

first_same : (one other : Level) (more : List Level) → one ∷ more ≡ other ∷ more → one ≡ other
first_same one other more e = ap (λ (levels : List Level). elim levels [ [] ↦ one | level ∷ rest ↦ level ]) e

-- no content, no items
none_inside : (element : Element) (front : List ℕ) (around : List Tag) (t : ReadsTag element front around) (parts : List Part) → items_behind [] parts ≡ element.items → Inside (t.tag false ∷ around) parts → written_parts parts ≡ [] → [] ≡ element.items
none_inside element front around t parts items inside none =
    let close = close_text t.name in
    let g = (inside (close ++ []) (less_no_end _)).grows no_level (levels_of []) (levels_close element front around t []) in
    let same : g.first ∷ levels_of [] ≡ no_level ∷ levels_of [] = sym g.is ∙ ap (λ (front : List ℕ). levels_of (front ++ (close ++ []))) none ∙ levels_close element front around t [] in
    ap (λ (level : Level). items_behind [] (level (declarations (t.tag false) ++ scope_in around))) (sym (first_same g.first no_level (levels_of []) same))
    ∙ items_inside element front around t parts items no_level (levels_of []) _ g

-- the levels with an element in the first
pub record GrownOne (scope : Scope) (element : Element) (level : Level) (levels grown : List Level) : Type 0 where
  pub first : Level
  pub is : grown ≡ first ∷ levels
  pub first_is : first scope ≡ held element ∷ level scope

-- an element: its faults and its levels
pub record SpellsElement (around : List Tag) (rooted : Bool) (text : List ℕ) (element : Element) (rest : List ℕ) : Type 0 where
  pub no_end : NoEnd (text ++ rest)
  pub sound : NoFault around true rest → NoFault around rooted (text ++ rest)
  pub grows : (level : Level) (levels : List Level) → levels_of rest ≡ level ∷ levels → GrownOne (scope_in around) element level levels (levels_of (text ++ rest))

pub spells_element : (element : Element) (front : List ℕ) (around : List Tag) (rooted : Bool) (parts : List Part) (rest : List ℕ) (t : ReadsTag element front around)
    → items_behind [] parts ≡ element.items
    → ((empty : Bool) → markup_fault around rooted (opening (t.tag empty)) ≡ None)
    → Inside (t.tag false ∷ around) parts
    → SpellsElement around rooted (written_element element front) element rest
spells_element element front around rooted parts rest t items stands inside =
    subst (λ (text : List ℕ). SpellsElement around rooted text element rest) (sym (written_with element front around parts t items)) (by_content (written_parts parts) refl)
  where
    by_content : (content : List ℕ) → written_parts parts ≡ content → SpellsElement around rooted (element_with t.name t.attributes content) element rest
    by_content [] e =
        let alone = alone_text t.name t.attributes in
        record {
          no_end = less_no_end _;
          sound = λ h. sound_step around rooted alone (opening (t.tag true)) rest (t.alone rest) (stands true) (subst (λ (test : Bool). NoFault (if test then around else t.tag true ∷ around) true rest) (sym (t.is_empty true)) h);
          grows = λ level levels l. record {
            first = λ scope. held (element_of_tag (t.tag true) no_level scope) ∷ level scope;
            is = levels_step alone (opening (t.tag true)) rest (t.alone rest) ∙ ap (with_tag (t.tag true)) l ∙ levels_alone (t.tag true) level levels (t.is_empty true);
            first_is = ap (λ (one : Element). held one ∷ level (scope_in around)) (same_element element front around t true no_level (none_inside element front around t parts items inside e));
          };
        }
    by_content (octet ∷ more) e =
        let name = t.name in
        let opened = open_text name t.attributes in
        let tag = t.tag false in
        let behind = close_text name ++ rest in
        let split = split_text name t.attributes octet more rest in
        let same : written_parts parts ++ behind ≡ (octet ∷ more) ++ behind = ap (λ (front : List ℕ). front ++ behind) e in
        let spelled = inside behind (less_no_end _) in
        let m = t.opens ((octet ∷ more) ++ behind) in
        record {
          no_end = less_no_end _;
          sound = λ h.
              let closed : NoFault (tag ∷ around) true behind = sound_step (tag ∷ around) true (close_text name) (closing t.qname) rest (t.closes rest) (rw (t.closes_it) refl) h in
              let within : NoFault (tag ∷ around) true ((octet ∷ more) ++ behind) = subst (NoFault (tag ∷ around) true) same (spelled.sound closed) in
              subst (NoFault around rooted) (sym split)
              (sound_step around rooted opened (opening tag) ((octet ∷ more) ++ behind) m (stands false) (subst (λ (test : Bool). NoFault (if test then around else tag ∷ around) true ((octet ∷ more) ++ behind)) (sym (t.is_empty false)) within));
          grows = λ level levels l.
              let g = spelled.grows no_level (level ∷ levels) (levels_close element front around t rest ∙ ap (λ (more_levels : List Level). no_level ∷ more_levels) l) in
              record {
                first = λ scope. held (element_of_tag tag g.first scope) ∷ level scope;
                is = ap levels_of split ∙ levels_step opened (opening tag) ((octet ∷ more) ++ behind) m ∙ ap (with_tag tag) (ap levels_of (sym same) ∙ g.is) ∙ levels_open tag g.first level levels (t.is_empty false);
                first_is = ap (λ (one : Element). held one ∷ level (scope_in around)) (same_element element front around t false g.first (items_inside element front around t parts items no_level (level ∷ levels) _ g));
              };
        }

-- Parts

abbrev pub TextStep : Type 0
TextStep = (around : List Tag) (text rest : List ℕ) → is_within around ≡ true → is_xml_text text ≡ true → NoEnd rest → Spells around (xml_text text) (said text ∷ []) rest

abbrev pub TagStep : Type 0
TagStep = (element : Element) (around : List Tag) → HasTag element → HasKnown (scope_in around) → length around < greatest_depth → ReadsTag element [] around

abbrev pub RootStep : Type 0
RootStep = (element : Element) → HasTag element → ReadsTag element prefixes []

as_parts : (around : List Tag) (text : List ℕ) (element : Element) (rest : List ℕ) → SpellsElement around true text element rest → Spells around text (held element ∷ []) rest
as_parts around text element rest s = record {
  no_end = s.no_end;
  sound = s.sound;
  grows = λ level levels l.
      let g = s.grows level levels l in
      record { first = g.first; is = g.is; new = held element ∷ []; parts_of_first = g.first_is; alike = λ text' more. refl };
}

stands_within : (around : List Tag) (tag : Tag) → is_within around ≡ true → tag_fault around tag ≡ None → markup_fault around true (opening tag) ≡ None
stands_within around tag within none = rw (within) none

within_tag : (tag : Tag) (around : List Tag) → is_within (tag ∷ around) ≡ true
within_tag tag around = refl

spells_parts : TextStep → TagStep → (depth : ℕ) (parts : List Part) → AreParts (IsReadable depth) parts → (around : List Tag) → HasKnown (scope_in around) → is_within around ≡ true → length around + depth ≡ greatest_depth → Inside around parts
spells_parts texts tags depth [] are around known within room rest n = spells_none around rest n
spells_parts texts tags depth (said text ∷ parts) (fine, are) around known within room rest n =
    let more = spells_parts texts tags depth parts are around known within room rest n in
    spells_join around (xml_text text) (written_parts parts) (said text ∷ []) parts rest (texts around text (written_parts parts ++ rest) within fine more.no_end) more
spells_parts texts tags zero (held element ∷ parts) (fine, are) around known within room rest n = absurd fine
spells_parts texts tags (suc depth) (held element ∷ parts) ((has, (inner, items, fine)), are) around known within room rest n =
    let more = spells_parts texts tags (suc depth) parts are around known within room rest n in
    let t = tags element around has known (omega (arith, room)) in
    let inside = spells_parts texts tags depth inner fine (t.tag false ∷ around) t.known (within_tag (t.tag false) around) (omega (arith, room)) in
    spells_join around (written_element element []) (written_parts parts) (held element ∷ []) parts rest
    (as_parts around (written_element element []) element (written_parts parts ++ rest)
    (spells_element element [] around true inner (written_parts parts ++ rest) t items (λ empty. stands_within around (t.tag empty) within (t.no_fault empty)) inside))
    more

pub spells_root : TextStep → TagStep → RootStep → (element : Element) → IsReadable greatest_depth element → (rest : List ℕ) → SpellsElement [] false (written_element element prefixes) element rest
spells_root texts tags roots element readable rest = by_depth greatest_depth refl readable
  where
    by_depth : (depth : ℕ) → depth ≡ greatest_depth → IsReadable depth element → SpellsElement [] false (written_element element prefixes) element rest
    by_depth zero e r = absurd r
    by_depth (suc depth) e (has, (inner, items, fine)) =
        let t = roots element has in
        let inside = spells_parts texts tags depth inner fine (t.tag false ∷ []) t.known (within_tag (t.tag false) []) (omega (arith, e)) in
        spells_element element prefixes [] false inner rest t items (λ empty. t.no_fault empty) inside
