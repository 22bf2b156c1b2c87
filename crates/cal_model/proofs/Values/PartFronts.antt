-- The front of a part of a rule: it becomes a part with one of the ends that are tried, which leaves less in the rule.
use Rattle.std.proofs.Common.{◌≡◌, ℕ, zero, suc, ◌+◌, ◌≤◌, Bool, true, false, ◌&&◌, ◌==◌, nat_eq, nat_lt, if◌then◌else◌, List, [], ◌∷◌, ◌++◌, length, map, take, drop, find, bytes_eq, codes, Option, Some, None, is_some, option_map, option_and_then, refl, sym, ap, subst, ◌∙◌, arith, ◌⊎◌, inl, inr, append_assoc}
use Rattle.std.specs.Prelude.{replicate}
use Rattle.std.specs.List.{list_all, starts_with}
use Rattle.std.proofs.Math.Seq.{drop-append-add}
use Rattle.std.proofs.lemmas.Bool.{cases_Bool, false≢true, and_parts, lt-ltb, ltb-true}
use Rattle.std.proofs.lemmas.List.{length-append, length-drop, drop-append-le}
use Rattle.std.proofs.lemmas.Option.{none-some, same_Some}
use Rattle.cal_base.specs.Lines.ContentLines.{is_name, is_name_octet}
use Rattle.cal_base.specs.Texts.Text.{raised, raised_all}
use Rattle.cal_model.specs.declared.rule.Rule.{Rule}
use Rattle.cal_model.specs.Values.ValueTexts.{cut}
use Rattle.cal_model.specs.Values.RuleTexts.{Part, if_named, part_of, is_part_named, freq_of, meanings, with_part}
use Rattle.cal_model.specs.Values.RuleTrial.{value_ends}
use Rattle.cal_model.proofs.Values.CutLemmas.{cases_Option, option_map_some, and_then_some, if_some, is_same_text, Lacks, lacks-append, cut-append, cut-some}
use Rattle.cal_model.proofs.Values.ListFronts.{IsAmong, HoldsOfAll, among, no_semicolons}
use Rattle.cal_model.proofs.Values.RuleRows.{Lesser, lesser_same, Row, whole_parts, RowFront}
use Rattle.cal_model.proofs.Values.RuleTable.{HoldsOfRows, rows_go_on, raised_with}

-- Among joined and mapped lists

pub among-left : (text : List ℕ) (a b : List (List ℕ)) → IsAmong text a → IsAmong text (a ++ b)
among-left text [] b is = absurd is
among-left text (x ∷ a) b is = elim is [ inl e ↦ inl e | inr more ↦ inr (among-left text a b more) ]

pub among-right : (text : List ℕ) (a b : List (List ℕ)) → IsAmong text b → IsAmong text (a ++ b)
among-right text [] b is = is
among-right text (x ∷ a) b is = inr (among-right text a b is)

pub among-map : (f : List ℕ → List ℕ) (text : List ℕ) (a : List (List ℕ)) → IsAmong text a → IsAmong (f text) (map f a)
among-map f text [] is = absurd is
among-map f text (x ∷ a) is = elim is [ inl e ↦ inl (ap f e) | inr more ↦ inr (among-map f text a more) ]

-- Cuts of a text and what follows it

-- an octet before what stands in front
abbrev onto : ℕ → List ℕ × List ℕ → List ℕ × List ℕ
onto c p = (c ∷ p.0, p.1)

-- a cut by its first octet
abbrev by_first : ℕ → ℕ → List ℕ → Bool → Option (List ℕ × List ℕ)
by_first s c text b = if b then Some ([], text) else option_map (onto c) (cut s text)

abbrev no_front : List ℕ → List ℕ × List ℕ
no_front text = ([], text)

pub cut-front : (s : ℕ) (text h : List ℕ) (parts : List ℕ × List ℕ) → cut s text ≡ Some parts → cut s (text ++ h) ≡ Some (parts.0, parts.1 ++ h)
cut-front s [] h parts e = absurd (none-some parts e)
cut-front s (c ∷ text) h parts e =
    elim (cases_Bool (c == s)) [
      | inl same ↦ (let is = same_Some (no_front text) parts (sym (ap (by_first s c text) same) ∙ e) in
          ap (by_first s c (text ++ h)) same ∙ ap (λ (p : List ℕ × List ℕ). Some (p.0, p.1 ++ h)) is)
      | inr other ↦ (let rest = option_map_some (onto c) (cut s text) parts (sym (ap (by_first s c text) other) ∙ e) in
          ap (by_first s c (text ++ h)) other
          ∙ (ap (option_map (onto c)) (cut-front s text h rest.0 rest.1) ∙ ap (λ (p : List ℕ × List ℕ). Some (p.0, p.1 ++ h)) rest.2))
    ]

pub cut-behind : (s : ℕ) (text h : List ℕ) (parts : List ℕ × List ℕ) → cut s text ≡ None → cut s (text ++ h) ≡ Some parts → (x : List ℕ) × (parts.0 ≡ text ++ x)
cut-behind s [] h parts none e = (parts.0, refl)
cut-behind s (c ∷ text) h parts none e =
    elim (cases_Bool (c == s)) [
      | inl same ↦ absurd (none-some (no_front text) (sym none ∙ ap (by_first s c text) same))
      | inr other ↦ (let none_behind = sym (ap (by_first s c text) other) ∙ none in
          let rest = option_map_some (onto c) (cut s (text ++ h)) parts (sym (ap (by_first s c (text ++ h)) other) ∙ e) in
          let x = cut-behind s text h rest.0 (mapped_none (cut s text) none_behind) rest.1 in
          (x.0, sym (ap (λ (p : List ℕ × List ℕ). p.0) rest.2) ∙ ap (λ t. c ∷ t) x.1))
    ]
  where
    mapped_none : (o : Option (List ℕ × List ℕ)) → option_map (onto c) o ≡ None → o ≡ None
    mapped_none None e = refl
    mapped_none (Some p) e = let other : List ℕ × List ℕ = (c ∷ p.0, p.1) in absurd (none-some other (sym e))

-- Names

pub length-raised : (text : List ℕ) → length (raised_all text) ≡ length text
length-raised [] = refl
length-raised (c ∷ text) = ap suc (length-raised text)

pub all-left : (a b : List ℕ) → list_all is_name_octet (a ++ b) ≡ true → list_all is_name_octet a ≡ true
all-left [] b e = refl
all-left (c ∷ a) b e = let parts = and_parts (is_name_octet c) (list_all is_name_octet (a ++ b)) e in λ i. parts.0 i && all-left a b parts.1 i

pub all-append : (a b : List ℕ) → list_all is_name_octet a ≡ true → list_all is_name_octet b ≡ true → list_all is_name_octet (a ++ b) ≡ true
all-append [] b x y = y
all-append (c ∷ a) b x y = let parts = and_parts (is_name_octet c) (list_all is_name_octet a) x in λ i. parts.0 i && all-append a b parts.1 y i

all-drop : (n : ℕ) (a : List ℕ) → list_all is_name_octet a ≡ true → list_all is_name_octet (drop n a) ≡ true
all-drop zero a e = e
all-drop (suc n) [] e = refl
all-drop (suc n) (c ∷ a) e = all-drop n a (and_parts (is_name_octet c) (list_all is_name_octet a) e).1

pub names-lack : (text : List ℕ) → list_all is_name_octet text ≡ true → Lacks 61 text
names-lack [] e = tt
names-lack (c ∷ text) e =
    let parts = and_parts (is_name_octet c) (list_all is_name_octet text) e in
    (λ is. false≢true (sym (ap is_name_octet is) ∙ parts.0), names-lack text parts.1)

pub named_by : (text : List ℕ) → 1 ≤ length text → list_all is_name_octet text ≡ true → is_name text ≡ true
named_by text some all = λ i. lt-ltb 0 (length text) some i && all i

-- a part of a name and a value
pub part_of-named : (name value : List ℕ) → is_name name ≡ true → part_of (name ++ (61 ∷ value)) ≡ Some (raised_all name, value)
part_of-named name value named =
    let all = (and_parts (nat_lt 0 (length name)) (list_all is_name_octet name) named).1 in
    ap (option_and_then if_named) (cut-append 61 name value (names-lack name all)) ∙ ap (λ b. if b then Some (raised_all name, value) else None) named

lacks-drop : (octet n : ℕ) (text : List ℕ) → Lacks octet text → Lacks octet (drop n text)
lacks-drop octet zero text lacks = lacks
lacks-drop octet (suc n) [] lacks = tt
lacks-drop octet (suc n) (c ∷ text) lacks = lacks-drop octet n text lacks.1

whole_parts_lack : HoldsOfAll (Lacks 59) whole_parts
whole_parts_lack = grind arith

-- Rows

pub row_of : (P : Row → Type 0) (rows : List Row) (part : Part) (row : Row) → HoldsOfRows P rows → find (λ (row : Row). is_part_named row.0 part) rows ≡ Some row → P row × (part.0 ≡ row.0)
row_of P [] part row all e = absurd (none-some row e)
row_of P (first ∷ rows) part row all e =
    elim (cases_Bool (is_part_named first.0 part)) [
      | inl is ↦ (let same = same_Some first row (sym (ap (λ b. if b then Some first else find (λ (row : Row). is_part_named row.0 part) rows) is) ∙ e) in
          (subst P same all.0, is_same_text part.0 first.0 is ∙ ap (λ (r : Row). r.0) same))
      | inr not ↦ row_of P rows part row all.1 (sym (ap (λ b. if b then Some first else find (λ (row : Row). is_part_named row.0 part) rows) not) ∙ e)
    ]

abbrev pub by_row : Part → Rule → Option Row → Option Rule
by_row part rule o = elim o [
  | None ↦ if starts_with nat_eq part.0 (codes "X-") then Some rule else None
  | Some row ↦ row.1 part.1 rule
]

-- Fronts of parts

-- a part of one's own that is tried
abbrev pub own_name : ℕ → List ℕ
own_name room = codes "X-" ++ replicate room 65

abbrev pub ends_of : List ℕ → ℕ → List (List ℕ)
ends_of front room = value_ends ++ map (drop (length front)) (whole_parts ++ (own_name room ++ codes "=") ∷ [])

pub record PartFront (room : ℕ) (front : List ℕ) (part : Part) (rule r : Rule) : Type 0 where
  pub end : List ℕ
  pub tried : IsAmong end (ends_of front room)
  pub lacks : Lacks 59 end
  pub made : Part
  pub reads : part_of (front ++ end) ≡ Some made
  -- its name is that of the part, or a long one of one's own
  pub name : (made.0 ≡ part.0) ⊎ (length made.0 ≡ room + 2)
  pub freq : made.0 ≡ codes "FREQ" → (part.0 ≡ codes "FREQ") × (freq_of made.1 ≡ freq_of part.1)
  pub result : Rule
  pub puts : with_part made rule ≡ Some result
  pub lesser : Lesser result r

value_end_tried : (end front : List ℕ) (room : ℕ) → IsAmong end value_ends → IsAmong end (ends_of front room)
value_end_tried end front room is = among-left end value_ends (map (drop (length front)) (whole_parts ++ (own_name room ++ codes "=") ∷ [])) is

whole_tried : (whole front : List ℕ) (room : ℕ) → IsAmong whole whole_parts → IsAmong (drop (length front) whole) (ends_of front room)
whole_tried whole front room is =
    among-right (drop (length front) whole) value_ends (map (drop (length front)) (whole_parts ++ (own_name room ++ codes "=") ∷ []))
    (among-map (drop (length front)) whole (whole_parts ++ (own_name room ++ codes "=") ∷ []) (among-left whole whole_parts ((own_name room ++ codes "=") ∷ []) is))

own_tried : (front : List ℕ) (room : ℕ) → IsAmong (drop (length front) (own_name room ++ codes "=")) (ends_of front room)
own_tried front room =
    let own = own_name room ++ codes "=" in
    among-right (drop (length front) own) value_ends (map (drop (length front)) (whole_parts ++ own ∷ []))
    (among-map (drop (length front)) own (whole_parts ++ own ∷ []) (among-right own whole_parts (own ∷ []) (inl refl)))

-- where a row's frequency is the same, or the row is not that of FREQ
same_freq : (name made value : List ℕ) → (freq_of made ≡ freq_of value) ⊎ (bytes_eq name (codes "FREQ") ≡ false) → name ≡ codes "FREQ" → freq_of made ≡ freq_of value
same_freq name made value either is = elim either [ inl e ↦ e | inr not ↦ absurd (false≢true (sym not ∙ ap (λ n. bytes_eq n (codes "FREQ")) is)) ]

-- FREQ has a row
none_of_freq : find (λ (row : Row). bytes_eq (codes "FREQ") row.0) meanings ≡ None → ⊥
none_of_freq e = none_is_none (find (λ (row : Row). bytes_eq (codes "FREQ") row.0) meanings) refl e
  where
    none_is_none : (o : Option Row) → is_some o ≡ true → o ≡ None → ⊥
    none_is_none None some e = false≢true some
    none_is_none (Some row) some e = none-some row (sym e)

-- a part that the octets in front say whole: its name, `=`, and a front of its value
value_front : (room : ℕ) (n v h : List ℕ) (rule r : Rule) → is_name n ≡ true → with_part (raised_all n, v ++ h) rule ≡ Some r → PartFront room (n ++ (61 ∷ v)) (raised_all n, v ++ h) rule r
value_front room n v h rule r named e =
    let part : Part = (raised_all n, v ++ h) in
    let u = n ++ (61 ∷ v) in
    let reads : (end : List ℕ) → part_of (u ++ end) ≡ Some (raised_all n, v ++ end) = λ end. ap part_of (append_assoc n (61 ∷ v) end) ∙ part_of-named n (v ++ end) named in
    elim (cases_Option (find (λ (row : Row). is_part_named row.0 part) meanings)) [
      | inl none ↦ record {
        end = [];
        tried = value_end_tried [] u room (inl refl);
        lacks = tt;
        made = (raised_all n, v ++ []);
        reads = reads [];
        name = inl refl;
        freq = λ is. absurd (unknown is none);
        result = rule;
        puts = ap (by_row (raised_all n, v ++ []) rule) none ∙ own rule r (sym (ap (by_row part rule) none) ∙ e);
        lesser = subst (λ (s : Rule). Lesser rule s) (own_same rule r (sym (ap (by_row part rule) none) ∙ e)) (lesser_same rule);
      }
      | inr found ↦ (let row = found.0 in
          let its = row_of RowFront meanings part row rows_go_on found.1 in
          let more = its.0.goes_on v h rule r (sym (ap (by_row part rule) found.1) ∙ e) in
          let end = more.0 in
          record {
            end = end;
            tried = elim more.1 [ inl value ↦ value_end_tried end u room value | inr whole ↦ subst (λ (t : List ℕ). IsAmong t (ends_of u room)) (dropped row.0 its.1 whole.0 ∙ sym whole.2) (whole_tried (row.0 ++ (61 ∷ whole.0)) u room whole.1) ];
            lacks = elim more.1 [ inl value ↦ among (Lacks 59) end value_ends no_semicolons value | inr whole ↦ rw whole.2 (lacks-drop 59 (length v) whole.0 (behind row.0 whole.0 (among (Lacks 59) (row.0 ++ (61 ∷ whole.0)) whole_parts whole_parts_lack whole.1))) ];
            made = (raised_all n, v ++ end);
            reads = reads end;
            name = inl refl;
            freq = λ is. (is, same_freq row.0 (v ++ end) (v ++ h) more.2.freq (sym its.1 ∙ is));
            result = more.2.result;
            puts = ap (by_row (raised_all n, v ++ end) rule) found.1 ∙ more.2.puts;
            lesser = more.2.lesser;
          })
    ]
  where
    unknown : raised_all n ≡ codes "FREQ" → find (λ (row : Row). is_part_named row.0 (raised_all n, v ++ h)) meanings ≡ None → ⊥
    unknown is none = none_of_freq (sym (ap (λ name. find (λ (row : Row). bytes_eq name row.0) meanings) is) ∙ none)

    own : (rule r : Rule) → (if starts_with nat_eq (raised_all n) (codes "X-") then Some rule else None) ≡ Some r → (if starts_with nat_eq (raised_all n) (codes "X-") then Some rule else None) ≡ Some rule
    own rule r e = ap (λ b. if b then Some rule else None) (if_some (starts_with nat_eq (raised_all n) (codes "X-")) (Some rule) r e).0

    own_same : (rule r : Rule) → (if starts_with nat_eq (raised_all n) (codes "X-") then Some rule else None) ≡ Some r → rule ≡ r
    own_same rule r e = same_Some rule r (if_some (starts_with nat_eq (raised_all n) (codes "X-")) (Some rule) r e).1

    dropped : (name : List ℕ) → raised_all n ≡ name → (whole : List ℕ) → drop (length (n ++ (61 ∷ v))) (name ++ (61 ∷ whole)) ≡ drop (length v) whole
    dropped name is whole =
        let size : length (n ++ (61 ∷ v)) ≡ length name + suc (length v) = omega (arith, length-append n (61 ∷ v), length-raised n, ap length is) in
        ap (λ k. drop k (name ++ (61 ∷ whole))) size ∙ drop-append-add name (61 ∷ whole) (suc (length v))

    behind : (name whole : List ℕ) → Lacks 59 (name ++ (61 ∷ whole)) → Lacks 59 whole
    behind [] whole lacks = lacks.1
    behind (c ∷ name) whole lacks = behind name whole lacks.1

-- A front within a name

-- a row by its name
abbrev row_named : List ℕ → Option Row
row_named name = find (λ (row : Row). bytes_eq name row.0) meanings

all_a : (room : ℕ) → list_all is_name_octet (replicate room 65) ≡ true
all_a zero = refl
all_a (suc room) = all_a room

length-replicate : (room : ℕ) → length (replicate {A = ℕ} room 65) ≡ room
length-replicate zero = refl
length-replicate (suc room) = ap suc (length-replicate room)

-- a name of one's own, as it is raised
record IsOwnName (name : List ℕ) : Type 0 where
  rest : List ℕ
  is : name ≡ 88 ∷ 45 ∷ rest

own_begins : (u x : List ℕ) (room : ℕ) → starts_with nat_eq (raised_all (u ++ x)) (codes "X-") ≡ true → IsOwnName (raised_all (u ++ drop (length u) (own_name room)))
own_begins [] x room e = record { rest = raised_all (replicate room 65); is = refl }
own_begins (c ∷ []) x room e =
    let front = is_same_text (codes "X-") (take 2 (raised_all (c ∷ x))) e in
    let first : raised c ≡ 88 = sym (first_of 88 45 (raised c) (take 1 (raised_all x)) front) in
    record { rest = raised_all (replicate room 65); is = ap (λ d. d ∷ 45 ∷ raised_all (replicate room 65)) first }
  where
    first_of : (a b d : ℕ) (t : List ℕ) → a ∷ b ∷ [] ≡ d ∷ t → a ≡ d
    first_of a b d t e = cc
own_begins (c ∷ d ∷ u) x room e =
    let front = is_same_text (codes "X-") (take 2 (raised_all (c ∷ d ∷ u ++ x))) e in
    let tail = drop (length u) (replicate room 65) in
    record { rest = raised_all (u ++ tail); is = ap (λ t. t ++ raised_all (u ++ tail)) (sym front) }

-- a part with such a name says nothing
own_says_nothing : (name value : List ℕ) (rule : Rule) → IsOwnName name → with_part (name, value) rule ≡ Some rule
own_says_nothing name value rule own = ap (λ n. with_part (n, value) rule) own.is

own_is_not_freq : (name : List ℕ) → IsOwnName name → name ≡ codes "FREQ" → ⊥
own_is_not_freq name own is = false≢true (sym (ap (λ n. bytes_eq n (codes "FREQ")) own.is) ∙ ap (λ n. bytes_eq n (codes "FREQ")) is)

-- a name that a front and the rest of another name make
made_name : (u x name : List ℕ) → is_name (u ++ x) ≡ true → list_all is_name_octet name ≡ true → 1 ≤ length (u ++ drop (length u) name) → is_name (u ++ drop (length u) name) ≡ true
made_name u x name named all some =
    let whole = and_parts (nat_lt 0 (length (u ++ x))) (list_all is_name_octet (u ++ x)) named in
    named_by (u ++ drop (length u) name) some (all-append u (drop (length u) name) (all-left u x whole.1) (all-drop (length u) name all))

made_length : (u name : List ℕ) → length u ≤ length name → length (u ++ drop (length u) name) ≡ length name
made_length u name le = omega (arith, length-append u (drop (length u) name), length-drop (length u) name, le)

made_text : (u name value : List ℕ) → length u ≤ length name → u ++ drop (length u) (name ++ (61 ∷ value)) ≡ (u ++ drop (length u) name) ++ (61 ∷ value)
made_text u name value le = ap (λ t. u ++ t) (drop-append-le (length u) name (61 ∷ value) le) ∙ sym (append_assoc u (drop (length u) name) (61 ∷ value))

known_front : (room : ℕ) (u x value : List ℕ) (rule r : Rule) (row : Row) → is_name (u ++ x) ≡ true → RowFront row → raised_all (u ++ x) ≡ row.0 → row_named (raised_all (u ++ x)) ≡ Some row → row.1 value rule ≡ Some r → PartFront room u (raised_all (u ++ x), value) rule r
known_front room u x value rule r row named its is found e =
    let name = row.0 in
    let other = its.whole value rule r e in
    let text = other.0 in
    let size : length name ≡ length u + length x = omega (arith, ap length is, length-raised (u ++ x), length-append u x) in
    let le : length u ≤ length name = omega (arith, size) in
    let some : 1 ≤ length name = omega (arith, size, length-append u x, ltb-true 0 (length (u ++ x)) (and_parts (nat_lt 0 (length (u ++ x))) (list_all is_name_octet (u ++ x)) named).0) in
    let its_all = (and_parts (nat_lt 0 (length name)) (list_all is_name_octet name) its.named).1 in
    let made = u ++ drop (length u) name in
    let made_named = made_name u x name named its_all (omega (arith, made_length u name le, some)) in
    record {
      end = drop (length u) (name ++ (61 ∷ text));
      tried = whole_tried (name ++ (61 ∷ text)) u room other.1;
      lacks = lacks-drop 59 (length u) (name ++ (61 ∷ text)) (among (Lacks 59) (name ++ (61 ∷ text)) whole_parts whole_parts_lack other.1);
      made = (name, text);
      reads = ap part_of (made_text u name text le) ∙ (part_of-named made text made_named ∙ ap (λ n. Some (n, text)) (raised_with u x name is its.upper));
      name = inl (sym is);
      freq = λ f. (is ∙ f, same_freq name text value other.2.freq f);
      result = other.2.result;
      puts = ap (by_row (name, text) rule) (sym (ap row_named is) ∙ found) ∙ other.2.puts;
      lesser = other.2.lesser;
    }

own_front : (room : ℕ) (u x value : List ℕ) (rule r : Rule) → length u ≤ room → is_name (u ++ x) ≡ true → (if starts_with nat_eq (raised_all (u ++ x)) (codes "X-") then Some rule else None) ≡ Some r → PartFront room u (raised_all (u ++ x), value) rule r
own_front room u x value rule r le named e =
    let test = if_some (starts_with nat_eq (raised_all (u ++ x)) (codes "X-")) (Some rule) r e in
    let name = own_name room in
    let made = u ++ drop (length u) name in
    let own = own_begins u x room test.0 in
    let size : length name ≡ room + 2 = omega (arith, length-replicate room) in
    let within : length u ≤ length name = omega (arith, size, le) in
    let made_named = made_name u x name named (all_a room) (omega (arith, made_length u name within, size)) in
    record {
      end = drop (length u) (name ++ codes "=");
      tried = own_tried u room;
      lacks = lacks-drop 59 (length u) (name ++ codes "=") (lacks-append 59 name (codes "=") (own_lacks room) (λ e. omega (arith, e), tt));
      made = (raised_all made, []);
      reads = ap part_of (made_text u name [] within) ∙ part_of-named made [] made_named;
      name = inr (length-raised made ∙ (made_length u name within ∙ size));
      freq = λ f. absurd (own_is_not_freq (raised_all made) own f);
      result = rule;
      puts = own_says_nothing (raised_all made) [] rule own;
      lesser = subst (λ (s : Rule). Lesser rule s) (same_Some rule r test.1) (lesser_same rule);
    }
  where
    lacks_a : (room : ℕ) → Lacks 59 (replicate room 65)
    lacks_a zero = tt
    lacks_a (suc room) = (λ e. omega (arith, e), lacks_a room)

    own_lacks : (room : ℕ) → Lacks 59 (own_name room)
    own_lacks room = (λ e. omega (arith, e), (λ e. omega (arith, e), lacks_a room))

-- The front of a part goes on with one of the ends that are tried.
pub part_front : (room : ℕ) (u h : List ℕ) (part : Part) (rule r : Rule) → length u ≤ room → part_of (u ++ h) ≡ Some part → with_part part rule ≡ Some r → PartFront room u part rule r
part_front room u h part rule r le reads e =
    let parts = and_then_some if_named (cut 61 (u ++ h)) part reads in
    let named = if_some (is_name parts.0.0) (Some (raised_all parts.0.0, parts.0.1)) part parts.2 in
    let is : (raised_all parts.0.0, parts.0.1) ≡ part = same_Some (raised_all parts.0.0, parts.0.1) part named.1 in
    elim (cases_Option (cut 61 u)) [
      | inl none ↦ (let x = cut-behind 61 u h parts.0 none parts.1 in
          let same : (raised_all (u ++ x.0), parts.0.1) ≡ part = sym (ap (λ n. (raised_all n, parts.0.1)) x.1) ∙ is in
          let name = sym (ap is_name x.1) ∙ named.0 in
          subst (λ (p : Part). PartFront room u p rule r) same (within_name x.0 parts.0.1 name (ap (λ p. with_part p rule) same ∙ e)))
      | inr found ↦ (let both : (found.0.0, found.0.1 ++ h) ≡ parts.0 = same_Some (found.0.0, found.0.1 ++ h) parts.0 (sym (cut-front 61 u h found.0 found.1) ∙ parts.1) in
          let same : (raised_all found.0.0, found.0.1 ++ h) ≡ part = ap (λ (p : List ℕ × List ℕ). (raised_all p.0, p.1)) both ∙ is in
          let name : is_name found.0.0 ≡ true = ap (λ (p : List ℕ × List ℕ). is_name p.0) both ∙ named.0 in
          subst (λ (t : List ℕ). PartFront room t part rule r) (sym (cut-some 61 u found.0 found.1))
          (subst (λ (p : Part). PartFront room (found.0.0 ++ (61 ∷ found.0.1)) p rule r) same (value_front room found.0.0 found.0.1 h rule r name (ap (λ p. with_part p rule) same ∙ e))))
    ]
  where
    within_name : (x value : List ℕ) → is_name (u ++ x) ≡ true → with_part (raised_all (u ++ x), value) rule ≡ Some r → PartFront room u (raised_all (u ++ x), value) rule r
    within_name x value name puts =
        let part : Part = (raised_all (u ++ x), value) in
        elim (cases_Option (row_named (raised_all (u ++ x)))) [
          | inl none ↦ own_front room u x value rule r le name (sym (ap (by_row part rule) none) ∙ puts)
          | inr found ↦ (let its = row_of RowFront meanings part found.0 rows_go_on found.1 in
              known_front room u x value rule r found.0 name its.0 its.1 found.1 (sym (ap (by_row part rule) found.1) ∙ puts))
        ]
