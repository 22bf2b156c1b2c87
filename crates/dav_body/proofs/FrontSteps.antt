-- The front of a body: the declaration and its encoding.
use Rattle.std.proofs.Common.{◌≡◌, ℕ, ◌+◌, ◌<◌, ◌≤◌, suc, Bool, true, false, List, [], ◌∷◌, ◌++◌, length, drop, Option, Some, None, refl, sym, ap, ◌∙◌, inl, inr, arith}
use Rattle.std.proofs.lemmas.Bool.{lt-ltb, le-ltb, ltb-true, ltb-false, cases_Bool}
use Rattle.std.proofs.lemmas.List.{nil_from_length, drop-drop}
use Rattle.std.proofs.Math.Seq.{drop-append_seam}
use Rattle.std.proofs.lemmas.List.Sums.{take_while-cons}
use Rattle.std.specs.Prelude.{cond, if◌then◌else◌, not, ◌&&◌, ◌==◌, nat_lt, option_map, filter_map}
use Rattle.std.specs.List.{take_while}
use Rattle.cal_base.specs.Lines.ComponentTrees.{or_else}
use Rattle.cal_base.specs.Xml.XmlMarkup.{is_quote, markups, markup_of}
use Rattle.cal_base.specs.Xml.XmlFaults.{mark_size, is_declaration, quoted_text, encoding_name, declaration_fault, fault_behind, first_fault, body_fault}
use Rattle.cal_base.specs.Xml.XmlBodies.{body_element, without_declaration, levels_before, outermost}
use Rattle.dav_body.specs.declared.fault.Fault.{Fault as FaultAt}
use Rattle.dav_body.specs.declared.fault.BodyFault.TheVariants.{At}
use Rattle.dav_body.specs.Front.{encoding_at}
use Rattle.dav_body.specs.Keeping.{nothing, fault_with, element_with}
use Rattle.dav_body.specs.Splits.{first_split, is_octet}
use Rattle.dav_body.specs.Faults.{fault_told, IsFaultOf}

-- Quoted text

abbrev other_than : ℕ → ℕ → Bool
other_than quote octet = not (octet == quote)

-- what stands before the first of a quote, where there is one
abbrev before_quote : ℕ → List ℕ → Option (List ℕ)
before_quote quote text = if nat_lt (length (take_while (other_than quote) text)) (length text) then Some (take_while (other_than quote) text) else None

onto : (octet : ℕ) (b : Bool) (value : List ℕ) → (if b then Some (octet ∷ value) else None) ≡ option_map (λ those. octet ∷ those) (if b then Some value else None)
onto octet true value = refl
onto octet false value = refl

split_onto : (octet : ℕ) (parts : Option (List ℕ × List ℕ)) → option_map (λ (p : List ℕ × List ℕ). p.0) (option_map (λ (p : List ℕ × List ℕ). (octet ∷ p.0, p.1)) parts) ≡ option_map (λ those. octet ∷ those) (option_map (λ (p : List ℕ × List ℕ). p.0) parts)
split_onto octet None = refl
split_onto octet (Some parts) = refl

longer : (octet : ℕ) (value text : List ℕ) → nat_lt (length (octet ∷ value)) (length (octet ∷ text)) ≡ nat_lt (length value) (length text)
longer octet value text = elim (cases_Bool (nat_lt (length value) (length text))) [
  | inl less ↦ let shown : length value < length text = ltb-true (length value) (length text) less in lt-ltb (suc (length value)) (suc (length text)) (omega (arith, shown)) ∙ sym less
  | inr not_less ↦ let shown : length text ≤ length value = ltb-false (length value) (length text) not_less in le-ltb (suc (length value)) (suc (length text)) (omega (arith, shown)) ∙ sym not_less
]

-- what stands before the first of a quote, if one comes
abbrev shorter : List ℕ → List ℕ → Option (List ℕ)
shorter text value = if nat_lt (length value) (length text) then Some value else None

pub before_quote-split : (quote : ℕ) (text : List ℕ) → before_quote quote text ≡ option_map (λ (p : List ℕ × List ℕ). p.0) (first_split (is_octet quote) text)
before_quote-split quote [] = refl
before_quote-split quote (octet ∷ text) =
    let value = take_while (other_than quote) text in
    ap (shorter (octet ∷ text)) (take_while-cons (other_than quote) octet text)
    ∙ (elim (octet == quote) as (λ b.
    shorter (octet ∷ text) (cond (not b) (octet ∷ value) [])
    ≡ option_map (λ (p : List ℕ × List ℕ). p.0) (elim b [ true ↦ Some ([], octet ∷ text) | false ↦ option_map (λ (p : List ℕ × List ℕ). (octet ∷ p.0, p.1)) (first_split (is_octet quote) text) ])) [
      | true ↦ ap (λ b. if b then Some [] else None) (lt-ltb 0 (length (octet ∷ text)) (omega arith))
      | false ↦
          ap (λ b. if b then Some (octet ∷ value) else None) (longer octet value text)
          ∙ onto octet (nat_lt (length value) (length text)) value
          ∙ ap (option_map (λ those. octet ∷ those)) (before_quote-split quote text)
          ∙ sym (split_onto octet (first_split (is_octet quote) text))
    ])

quoted_is : (quote : ℕ) (text : List ℕ) → is_quote quote ≡ true → quoted_text (quote ∷ text) ≡ before_quote quote text
quoted_is quote text is = ap (λ b. if b && nat_lt (length (take_while (other_than quote) text)) (length text) then Some (take_while (other_than quote) text) else None) is

pub quoted_whole : (quote : ℕ) (text value behind : List ℕ) → is_quote quote ≡ true → Some (value, behind) ≡ first_split (is_octet quote) text → quoted_text (quote ∷ text) ≡ Some value
quoted_whole quote text value behind is cut = quoted_is quote text is ∙ before_quote-split quote text ∙ ap (option_map (λ (p : List ℕ × List ℕ). p.0)) (sym cut)

pub quoted_open : (quote : ℕ) (text : List ℕ) → is_quote quote ≡ true → None ≡ first_split (is_octet quote) text → quoted_text (quote ∷ text) ≡ None
quoted_open quote text is cut = quoted_is quote text is ∙ before_quote-split quote text ∙ ap (option_map (λ (p : List ℕ × List ℕ). p.0)) (sym cut)

pub quoted_other : (octet : ℕ) (text : List ℕ) → is_quote octet ≡ false → quoted_text (octet ∷ text) ≡ None
quoted_other octet text other = ap (λ b. if b && nat_lt (length (take_while (other_than octet) text)) (length text) then Some (take_while (other_than octet) text) else None) other

-- The encoding

pub encoding_here : (octet : ℕ) (text name : List ℕ) → Some name ≡ encoding_at octet text → encoding_name (octet ∷ text) ≡ Some name
encoding_here octet text name is = ap (λ found. or_else found (encoding_name text)) (sym is)

pub encoding_later : (octet : ℕ) (text : List ℕ) → None ≡ encoding_at octet text → encoding_name (octet ∷ text) ≡ encoding_name text
encoding_later octet text is = ap (λ found. or_else found (encoding_name text)) (sym is)

-- The front: what stands behind it is read from nothing

module _ (octets : List ℕ) (mark : ℕ) (is : mark ≡ mark_size octets) where
  fault_behind_mark : body_fault octets ≡ fault_behind (length octets) mark (markups (drop mark octets))
  fault_behind_mark = sym (ap (λ size. fault_behind (length octets) size (markups (drop size octets))) is)

  element_behind_mark : body_element octets ≡ outermost (levels_before (filter_map markup_of (without_declaration (markups (drop mark octets)))))
  element_behind_mark = sym (ap (λ size. outermost (levels_before (filter_map markup_of (without_declaration (markups (drop size octets)))))) is)

  pub empty_faults : length (drop mark octets) ≡ 0 → fault_with (length octets) nothing mark (markups (drop mark octets)) ≡ body_fault octets
  empty_faults none =
      let end : drop mark octets ≡ [] = nil_from_length (drop mark octets) none in
      ap (λ rest. first_fault (length octets) [] false mark (markups rest)) end
      ∙ sym (fault_behind_mark ∙ ap (λ rest. fault_behind (length octets) mark (markups rest)) end)

  pub empty_elements : length (drop mark octets) ≡ 0 → element_with nothing (filter_map markup_of (markups (drop mark octets))) ≡ body_element octets
  empty_elements none =
      let end : drop mark octets ≡ [] = nil_from_length (drop mark octets) none in
      ap (λ rest. outermost (levels_before (filter_map markup_of (markups rest)))) end
      ∙ sym (element_behind_mark ∙ ap (λ rest. outermost (levels_before (filter_map markup_of (without_declaration (markups rest))))) end)

  module _ (text : List ℕ) (texts : List (List ℕ)) (cut : markups (drop mark octets) ≡ text ∷ texts) where
    -- without a declaration

    pub plain_faults : is_declaration text ≡ false → fault_with (length octets) nothing mark (markups (drop mark octets)) ≡ body_fault octets
    plain_faults other =
        ap (first_fault (length octets) [] false mark) cut
        ∙ sym (fault_behind_mark
        ∙ ap (fault_behind (length octets) mark) cut
        ∙ ap (λ b. if b then or_else (declaration_fault (length octets) mark text) (first_fault (length octets) [] false (mark + length text) texts) else first_fault (length octets) [] false mark (text ∷ texts)) other)

    pub plain_elements : is_declaration text ≡ false → element_with nothing (filter_map markup_of (markups (drop mark octets))) ≡ body_element octets
    plain_elements other =
        ap (λ all. outermost (levels_before (filter_map markup_of all))) cut
        ∙ sym (element_behind_mark
        ∙ ap (λ all. outermost (levels_before (filter_map markup_of (without_declaration all)))) cut
        ∙ ap (λ b. outermost (levels_before (filter_map markup_of (if b then texts else text ∷ texts)))) other)

    -- with one

    declared_faults : is_declaration text ≡ true → body_fault octets ≡ or_else (declaration_fault (length octets) mark text) (first_fault (length octets) [] false (mark + length text) texts)
    declared_faults here =
        fault_behind_mark
        ∙ ap (fault_behind (length octets) mark) cut
        ∙ ap (λ b. if b then or_else (declaration_fault (length octets) mark text) (first_fault (length octets) [] false (mark + length text) texts) else first_fault (length octets) [] false mark (text ∷ texts)) here

    declared_elements : is_declaration text ≡ true → body_element octets ≡ outermost (levels_before (filter_map markup_of texts))
    declared_elements here =
        element_behind_mark
        ∙ ap (λ all. outermost (levels_before (filter_map markup_of (without_declaration all)))) cut
        ∙ ap (λ b. outermost (levels_before (filter_map markup_of (if b then texts else text ∷ texts)))) here

    pub declared_stop : is_declaration text ≡ true → (fault : FaultAt) → Some (fault_told fault) ≡ declaration_fault (length octets) mark text → IsFaultOf (body_fault octets) (At fault.place fault.why)
    declared_stop here fault found =
        declared_faults here ∙ ap (λ first. or_else first (first_fault (length octets) [] false (mark + length text) texts)) (sym found)

    pub declared_rest : is_declaration text ≡ true → None ≡ declaration_fault (length octets) mark text → first_fault (length octets) [] false (mark + length text) texts ≡ body_fault octets
    declared_rest here none =
        sym (declared_faults here ∙ ap (λ first. or_else first (first_fault (length octets) [] false (mark + length text) texts)) (sym none))

  -- what stands behind the declaration
  module _ (text behind_it : List ℕ) (whole : text ++ behind_it ≡ drop mark octets) where
    behind_both : drop (mark + length text) octets ≡ behind_it
    behind_both = sym (drop-drop (length text) mark octets) ∙ ap (drop (length text)) (sym whole) ∙ drop-append_seam text behind_it

    pub declared_whole_faults : markups (drop mark octets) ≡ text ∷ markups behind_it → is_declaration text ≡ true → None ≡ declaration_fault (length octets) mark text
        → fault_with (length octets) nothing (mark + length text) (markups (drop (mark + length text) octets)) ≡ body_fault octets
    declared_whole_faults cut here none =
        ap (λ rest. first_fault (length octets) [] false (mark + length text) (markups rest)) behind_both ∙ declared_rest text (markups behind_it) cut here none

    pub declared_whole_elements : markups (drop mark octets) ≡ text ∷ markups behind_it → is_declaration text ≡ true
        → element_with nothing (filter_map markup_of (markups (drop (mark + length text) octets))) ≡ body_element octets
    declared_whole_elements cut here =
        ap (λ rest. outermost (levels_before (filter_map markup_of (markups rest)))) behind_both ∙ sym (declared_elements text (markups behind_it) cut here)
