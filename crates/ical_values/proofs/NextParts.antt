-- The parts that can stand behind those of a rule so far, as a grammar of one part.
use Rattle.std.proofs.Common.{◌≡◌, ℕ, zero, suc, ◌+◌, ◌<◌, ◌==◌, true, ◌&&◌, if◌then◌else◌, List, [], ◌∷◌, ◌++◌, length, map, codes, Option, Some, None, option_and_then, refl, sym, ap, ap₂, subst, ◌∙◌, arith, ◌⊎◌, inl, inr, append_assoc}
use Rattle.std.specs.Prelude.{replicate}
use Rattle.std.specs.List.{list_all}
use Rattle.std.proofs.lemmas.Bool.{cases_Bool, eqb-false, lt-ltb}
use Rattle.std.proofs.lemmas.List.{length-append, append-nil}
use Rattle.std.proofs.lemmas.Option.{same_Some}
use Rattle.cal_base.specs.Lines.ContentLines.{pieces, onto_first, every, is_name, is_name_octet}
use Rattle.cal_base.specs.Texts.Text.{raised_all}
use Rattle.cal_moment.specs.BadPlace.{IsIn, BeginsOne, IsBadAt}
use Rattle.cal_model.specs.declared.rule.Freq.{Freq}
use Rattle.cal_model.specs.declared.rule.Freq.TheVariants.{Secondly, Minutely, Hourly, Daily, Weekly, Monthly, Yearly}
use Rattle.cal_model.specs.declared.rule.Rule.{Rule}
use Rattle.cal_model.specs.Values.BadValues.{Reads}
use Rattle.cal_model.specs.Values.RuleTexts.{Part, if_named, part_of, without_last_empty, rule_of_parts}
use Rattle.cal_model.specs.Values.ValueTexts.{cut}
use Rattle.cal_model.proofs.Values.BadValueLaws.{joined, first_piece, pieces-append, pieces-lacks}
use Rattle.cal_model.proofs.Values.CutLemmas.{Lacks, and_then_some, cut-append, lacks-append}
use Rattle.cal_model.proofs.Values.ListFronts.{every-cons}
use Rattle.cal_model.proofs.Values.RuleFronts.{Stand, front_stands, own_stands, freq_part, freq_text, freq_text_is}
use Rattle.ical_values.proofs.CutTexts.{pieces_at}
use Rattle.ical_values.proofs.PartPlaces.{IsNextOf, bad_behind_fixed}
use Rattle.ical_values.proofs.RulePlaces.{rule_behind, one_more_part, last_part_read, one_piece}

-- a part that can stand behind others
pub record SpellsNext (done : List Part) (text : List ℕ) (part : Part) : Type 0 where
  pub lacks : Lacks 59 text
  pub reads : part_of text ≡ Some part
  pub stands : Stand (done ++ part ∷ [])

pub freq_lacks : (f : Freq) → Lacks 59 (freq_text f)
freq_lacks Secondly = grind arith
freq_lacks Minutely = grind arith
freq_lacks Hourly = grind arith
freq_lacks Daily = grind arith
freq_lacks Weekly = grind arith
freq_lacks Monthly = grind arith
freq_lacks Yearly = grind arith

-- The text of such a part goes on to a rule.
next_goes_on : (done : List Part) (text : List ℕ) → IsIn (SpellsNext done) text → BeginsOne (Reads (rule_behind done)) text
next_goes_on done text is =
    let part = is.0 in
    let s = is.1 in
    elim s.stands [
      | inl alone ↦ ([], (alone.0, ap (rule_behind done) (append-nil text) ∙ (last_part_read done text part s.lacks s.reads ∙ alone.1)))
      | inr with_freq ↦ (let f = with_freq.0 in
          (59 ∷ freq_text f, (with_freq.1, one_more_part done text (freq_text f) part s.lacks s.reads ∙ (last_part_read (done ++ part ∷ []) (freq_text f) (freq_part f) (freq_lacks f) (freq_text_is f).0 ∙ with_freq.2))))
    ]

-- a piece of a rule, and what stands behind it
piece_stands : (done : List Part) (piece : List ℕ) (more : List (List ℕ)) (r : Rule) → Lacks 59 piece → option_and_then (λ parts. rule_of_parts (done ++ parts)) (every (map part_of (piece ∷ more))) ≡ Some r → IsIn (SpellsNext done) piece
piece_stands done piece more r lacks e =
    let parts = and_then_some (λ parts. rule_of_parts (done ++ parts)) (every (map part_of (piece ∷ more))) r e in
    let first = every-cons (part_of piece) (map part_of more) parts.0 parts.1 in
    let part = first.0 in
    let whole : rule_of_parts ((done ++ part ∷ []) ++ first.1) ≡ Some r = ap rule_of_parts (append_assoc done (part ∷ []) first.1 ∙ ap (λ ps. done ++ ps) first.4) ∙ parts.2 in
    (part, record { lacks = lacks; reads = first.2; stands = front_stands (done ++ part ∷ []) first.1 r whole })

next_first : (done : List Part) (text behind : List ℕ) → Lacks 59 text → IsIn (Reads (rule_behind done)) (text ++ (59 ∷ behind)) → IsIn (SpellsNext done) text
next_first done text behind lacks is =
    let next = first_piece 59 behind in
    let split : pieces 59 (text ++ (59 ∷ behind)) ≡ text ∷ next.0 ∷ next.1 = pieces_at 59 (text ++ (59 ∷ behind)) text behind (cut-append 59 text behind lacks) ∙ ap (λ ps. text ∷ ps) next.2 in
    piece_stands done text (without_last_empty (next.0 ∷ next.1)) is.0 lacks
    (sym (ap (λ ps. option_and_then (λ parts. rule_of_parts (done ++ parts)) (every (map part_of (without_last_empty ps)))) split) ∙ is.1)

next_last : (done : List Part) (text : List ℕ) → Lacks 59 text → 0 < length text → IsIn (Reads (rule_behind done)) text → IsIn (SpellsNext done) text
next_last done [] lacks some is = absurd (omega (arith, some))
next_last done (c ∷ text) lacks some is =
    piece_stands done (c ∷ text) [] is.0 lacks
    (sym (ap (λ ps. option_and_then (λ parts. rule_of_parts (done ++ parts)) (every (map part_of (without_last_empty ps)))) (pieces-lacks 59 (c ∷ text) lacks)
    ∙ ap (λ ps. option_and_then (λ parts. rule_of_parts (done ++ parts)) (every (map part_of ps))) (one_piece c text)) ∙ is.1)

-- the first piece of a text has no separator
first_lacks : (octet : ℕ) (text : List ℕ) → (piece : List ℕ) × (more : List (List ℕ)) × (pieces octet text ≡ piece ∷ more) × Lacks octet piece
first_lacks octet [] = ([], [], refl, tt)
first_lacks octet (c ∷ text) =
    elim (cases_Bool (c == octet)) [
      | inl same ↦ ([], pieces octet text, ap (λ b. if b then [] ∷ pieces octet text else onto_first c (pieces octet text)) same, tt)
      | inr other ↦ (let rest = first_lacks octet text in
          (c ∷ rest.0, rest.1, ap (λ b. if b then [] ∷ pieces octet text else onto_first c (pieces octet text)) other ∙ ap (onto_first c) rest.2, (eqb-false c octet other, rest.3)))
    ]

-- a part of one's own
own_text : (name : List ℕ) → List ℕ
own_text name = codes "X-" ++ (name ++ codes "=")

own_begins : (done : List Part) (r : Rule) → rule_of_parts done ≡ Some r → BeginsOne (SpellsNext done) []
unfolding own_text
own_begins done r e =
    let own = own_stands done r e in
    let reads : part_of (own_text own.0) ≡ Some (codes "X-" ++ own.0, []) = subst (λ (name : List ℕ). part_of (codes "X-" ++ (name ++ codes "=")) ≡ Some (codes "X-" ++ name, [])) (sym own.2) (read_own (length own.0)) in
    (own_text own.0, ((codes "X-" ++ own.0, []), record { lacks = subst (λ (name : List ℕ). Lacks 59 (codes "X-" ++ (name ++ codes "="))) (sym own.2) (own_lacks (length own.0)); reads = reads; stands = own.1 }))
  where
    all_a : (room : ℕ) → list_all is_name_octet (replicate room 65) ≡ true
    all_a zero = refl
    all_a (suc room) = all_a room

    a_lacks : (octet room : ℕ) → 65 < octet ⊎ octet < 65 → Lacks octet (replicate room 65)
    a_lacks octet zero other = tt
    a_lacks octet (suc room) other = (elim other [ inl above ↦ (λ e. omega (arith, e, above)) | inr below ↦ (λ e. omega (arith, e, below)) ], a_lacks octet room other)

    raised_a : (room : ℕ) → raised_all (replicate room 65) ≡ replicate room 65
    raised_a zero = refl
    raised_a (suc room) = ap (λ t. 65 ∷ t) (raised_a room)

    read_own : (room : ℕ) → part_of (codes "X-" ++ (replicate room 65 ++ codes "=")) ≡ Some (codes "X-" ++ replicate room 65, [])
    read_own room =
        let name = codes "X-" ++ replicate room 65 in
        let cuts : cut 61 (name ++ (61 ∷ [])) ≡ Some (name, []) = cut-append 61 name [] ((λ e. omega (arith, e)), ((λ e. omega (arith, e)), a_lacks 61 room (inr (omega arith)))) in
        let named : is_name name ≡ true = λ i. lt-ltb 0 (length name) (omega arith) i && all_a room i in
        let none : List ℕ = [] in
        ap (option_and_then if_named) cuts ∙ (ap (λ b. if b then Some (raised_all name, none) else None) named ∙ ap (λ t. Some (codes "X-" ++ t, [])) (raised_a room))

    own_lacks : (room : ℕ) → Lacks 59 (codes "X-" ++ (replicate room 65 ++ codes "="))
    own_lacks room = ((λ e. omega (arith, e)), ((λ e. omega (arith, e)), lacks-append 59 (replicate room 65) (codes "=") (a_lacks 59 room (inr (omega arith))) ((λ e. omega (arith, e)), tt)))

-- The front of what stands behind the parts so far is the front of such a part.
next_begun : (done : List Part) (text : List ℕ) → Lacks 59 text → BeginsOne (Reads (rule_behind done)) text → BeginsOne (SpellsNext done) text
unfolding joined
next_begun done text lacks begins =
    let rest = first_lacks 59 begins.0 in
    let split : pieces 59 (text ++ begins.0) ≡ (text ++ rest.0) ∷ rest.1 = pieces-append 59 text begins.0 ∙ ap₂ joined (pieces-lacks 59 text lacks) rest.2 in
    let rule = sym (ap (λ ps. option_and_then (λ parts. rule_of_parts (done ++ parts)) (every (map part_of (without_last_empty ps)))) split) ∙ begins.1.1 in
    by_pieces text rest.0 rest.1 (lacks-append 59 text rest.0 lacks rest.3) rule
  where
    alone : (c : ℕ) (piece : List ℕ) → option_and_then (λ parts. rule_of_parts (done ++ parts)) (every (map part_of (without_last_empty ((c ∷ piece) ∷ [])))) ≡ Some begins.1.0 → option_and_then (λ parts. rule_of_parts (done ++ parts)) (every (map part_of ((c ∷ piece) ∷ []))) ≡ Some begins.1.0
    alone c piece rule = sym (ap (λ ps. option_and_then (λ parts. rule_of_parts (done ++ parts)) (every (map part_of ps))) (one_piece c piece)) ∙ rule

    by_pieces : (text end : List ℕ) (more : List (List ℕ)) → Lacks 59 (text ++ end) → option_and_then (λ parts. rule_of_parts (done ++ parts)) (every (map part_of (without_last_empty ((text ++ end) ∷ more)))) ≡ Some begins.1.0 → BeginsOne (SpellsNext done) text
    by_pieces [] [] [] none rule = own_begins done begins.1.0 (ap rule_of_parts (sym (append-nil done)) ∙ rule)
    by_pieces [] (d ∷ end) [] none rule = (d ∷ end, piece_stands done (d ∷ end) [] begins.1.0 none (alone d end rule))
    by_pieces (c ∷ text) end [] none rule = (end, piece_stands done (c ∷ text ++ end) [] begins.1.0 none (alone c (text ++ end) rule))
    by_pieces text end (next ∷ more) none rule = (end, piece_stands done (text ++ end) (without_last_empty (next ∷ more)) begins.1.0 none rule)

-- So these parts are what can stand behind those so far.
pub next_part : (done : List Part) → IsNextOf done (SpellsNext done)
next_part done = record {
  goes_on = next_goes_on done;
  begun = next_begun done;
  first = next_first done;
  last = next_last done;
}

-- Values

-- a name without its `=`, and the value behind it
part_is : (name value : List ℕ) → is_name name ≡ true → Lacks 61 name → part_of (name ++ (61 ∷ value)) ≡ Some (raised_all name, value)
part_is name value named lacks = ap (option_and_then if_named) (cut-append 61 name value lacks) ∙ ap (λ b. if b then Some (raised_all name, value) else None) named

-- Where a part with a name can stand exactly if its value is read, it is bad where the value is.
pub bad_value : {V : Type 0} (done : List Part) (name : List ℕ) (read : List ℕ → Option V) → is_name name ≡ true → Lacks 61 name → Lacks 59 name
    → ((value : List ℕ) → IsIn (Reads read) value → Lacks 59 value × Stand (done ++ (raised_all name, value) ∷ [])) → ((value : List ℕ) → Stand (done ++ (raised_all name, value) ∷ []) → IsIn (Reads read) value)
    → (text : List ℕ) (place : ℕ) → IsBadAt (Reads read) text place → IsBadAt (SpellsNext done) (name ++ (61 ∷ text)) (length name + 1 + place)
bad_value {V} done name read named no_equals no_semicolon stands only text place bad =
    let front = name ++ (61 ∷ []) in
    let found = bad_behind_fixed (SpellsNext done) (Reads read) front to back text place bad in
    let there : length front + place ≡ length name + 1 + place = omega (arith, length-append name (61 ∷ [])) in
    subst (IsBadAt (SpellsNext done) (name ++ (61 ∷ text))) there (subst (λ (t : List ℕ). IsBadAt (SpellsNext done) t (length front + place)) (append_assoc name (61 ∷ []) text) found)
  where
    to : (value : List ℕ) → IsIn (SpellsNext done) ((name ++ (61 ∷ [])) ++ value) → IsIn (Reads read) value
    to value is =
        let same = same_Some (raised_all name, value) is.0 (sym (part_is name value named no_equals) ∙ (sym (ap part_of (append_assoc name (61 ∷ []) value)) ∙ is.1.reads)) in
        only value (subst (λ (part : Part). Stand (done ++ part ∷ [])) (sym same) is.1.stands)

    back : (value : List ℕ) → IsIn (Reads read) value → IsIn (SpellsNext done) ((name ++ (61 ∷ [])) ++ value)
    back value is =
        let its = stands value is in (
          (raised_all name, value),
          record {
            lacks = subst (Lacks 59) (sym (append_assoc name (61 ∷ []) value)) (lacks-append 59 name (61 ∷ value) no_semicolon ((λ e. omega (arith, e)), its.0));
            reads = ap part_of (append_assoc name (61 ∷ []) value) ∙ part_is name value named no_equals;
            stands = its.1;
          },
        )
