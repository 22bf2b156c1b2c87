-- The parts of a text, one after another: what is known of those that are read and of the rest, and where the text is bad.
use Rattle.std.proofs.Common.{◌≡◌, ℕ, ◌+◌, ◌-◌, ◌<◌, Bool, true, false, not, List, [], ◌∷◌, ◌++◌, length, Option, Some, None, is_some, is_none, refl, sym, ap, subst, ◌∙◌, arith, inl, inr}
use Rattle.std.specs.Borrow.{Bor}
use Rattle.std.proofs.lemmas.Bool.{false≢true}
use Rattle.std.proofs.lemmas.Option.{none-some}
use Rattle.cal_base.specs.Lists.NameMap.{Named, with_value}
use Rattle.cal_moment.specs.BadPlace.{IsIn, IsBadAt}
use Rattle.cal_model.specs.declared.rule.Freq.TheVariants.{Yearly}
use Rattle.cal_model.specs.declared.rule.Rule.{Rule}
use Rattle.cal_model.specs.Values.BadValues.{Reads}
use Rattle.cal_model.specs.Values.RuleTexts.{Part, every_time, rule_of_parts, rule_in_grammar}
use Rattle.cal_model.specs.Values.ValueTexts.{cut}
use Rattle.cal_model.proofs.Values.CutLemmas.{Lacks, cut-some}
use Rattle.cal_model.proofs.Values.RuleFronts.{freq_part, freq_text, freq_text_is}
use Rattle.ical_values.specs.Parts.{piece_parts, text_there}
use Rattle.ical_values.specs.RuleReading.{Fits, HasTaken, HasTakenPiece, IsBadPiece, IsReadWhole}
use Rattle.ical_values.proofs.FittingParts.{bad_next, fits_next}
use Rattle.ical_values.proofs.ListReading.{cut-lacks, no_cut-lacks}
use Rattle.ical_values.proofs.NextParts.{SpellsNext, freq_lacks, next_part}
use Rattle.ical_values.proofs.PartPlaces.{bad_before_freq, bad_last_part, bad_part_before}
use Rattle.ical_values.proofs.RulePlaces.{BadBehindParts, last_part_read, nothing_behind, one_more_part, parts_begin, parts_go_on, rule_begins, rule_behind}
use Rattle.ical_values.proofs.RuleStates.{AreReadAs, are_standing, no_rule_is, nothing_read, one_more_read, read_rule_is}

-- what is known of some parts that are read and of what is left of a text; where nothing is, and the parts are no rule, the text is bad at its end
abbrev pub PartsLeft : List ℕ → List Part → Option (List ℕ) → Type 0
PartsLeft text done (Some left) = (rule_behind done left ≡ rule_in_grammar text) × BadBehindParts text done (Some left)
PartsLeft text done None = (rule_of_parts done ≡ rule_in_grammar text) × (rule_of_parts done ≡ None → IsBadAt (Reads rule_in_grammar) text (length text))

-- that, of some parts
pub record AreLeft (text : List ℕ) (rule : Rule) (names : Named Bool) (left : Option (List ℕ)) : Type 0 where
  pub done : List Part
  pub read : AreReadAs done rule names
  pub rest : PartsLeft text done left

pub all_left : (text : List ℕ) (rule : Rule) (names : Named Bool) → rule ≡ every_time Yearly → names ≡ [] → AreLeft text rule names (Some text)
all_left text rule names is none = record { done = []; read = subst (AreReadAs [] rule) (sym none) (nothing_read rule is); rest = (rule_begins text, parts_begin text) }

-- Nothing is left

no_rule_in : (done : List Part) (text : List ℕ) → rule_behind done text ≡ None → IsIn (Reads (rule_behind done)) text → ⊥
no_rule_in done text none is = none-some is.0 (sym none ∙ is.1)

-- at the end of a text with an empty part at its end
bad_at_end : (done : List Part) (rule : Rule) (names : Named Bool) → AreReadAs done rule names → rule_of_parts done ≡ None → IsBadAt (Reads (rule_behind done)) [] 0
bad_at_end done rule names s none = record {
  outside = no_rule_in done [] (nothing_behind done ∙ none);
  within = omega arith;
  begins = elim (are_standing done rule names s) [
    | inl alone ↦ absurd (none-some alone.0 (sym none ∙ alone.1))
    | inr with_freq ↦ (let f = with_freq.0 in
        (freq_text f, (with_freq.1, last_part_read done (freq_text f) (freq_part f) (freq_lacks f) (freq_text_is f).0 ∙ with_freq.2)))
  ];
  longest = λ n above most _. omega (arith, above, most);
}

-- the place of a whole text behind the parts that are read
whole_place : (text left : List ℕ) (done : List Part) → BadBehindParts text done (Some left) → IsBadAt (Reads (rule_behind done)) left (length left) → IsBadAt (Reads rule_in_grammar) text (length text)
whole_place text left done rest bad =
    let there : length text - length left + length left ≡ length text = omega (arith, rest.0) in
    subst (IsBadAt (Reads rule_in_grammar) text) there (rest.1 (length left) bad)

last_taken : (text left : List ℕ) (rule : Rule) (names : Named Bool) (later : Rule) (more : Named Bool) (a : AreLeft text rule names (Some left)) → Lacks 59 left → HasTaken rule names left later more → AreLeft text later more None
last_taken text left rule names later more a lacks taken =
    let done = a.done in
    let part = taken.part in
    let f = taken.fits in
    let read = one_more_read done rule names a.read left part f in
    let last = last_part_read done left part lacks f.reads in
    record {
      done = done ++ part ∷ [];
      read = subst (AreReadAs (done ++ part ∷ []) later) (sym taken.named) (subst (λ (r : Rule). AreReadAs (done ++ part ∷ []) r (with_value names part.0 true)) (sym taken.made) read);
      rest = (
        sym last ∙ a.rest.0,
        λ none. whole_place text left done a.rest.1 (bad_before_freq done (SpellsNext done) (next_part done) left (part, fits_next done rule names a.read left part lacks f) (no_rule_in done left (last ∙ none))),
      );
    }

last_passed : (text left : List ℕ) (rule : Rule) (names : Named Bool) (a : AreLeft text rule names (Some left)) → left ≡ [] → AreLeft text rule names None
last_passed text left rule names a empty =
    let done = a.done in
    record {
      done = done;
      read = a.read;
      rest = (
        sym (nothing_behind done) ∙ (ap (rule_behind done) (sym empty) ∙ a.rest.0),
        λ none. whole_place text left done a.rest.1 (subst (λ (t : List ℕ). IsBadAt (Reads (rule_behind done)) t (length t)) (sym empty) (bad_at_end done rule names a.read none)),
      );
    }

-- One more piece

more_taken : (text left piece behind : List ℕ) (rule : Rule) (names : Named Bool) (later : Rule) (more : Named Bool) (a : AreLeft text rule names (Some left)) → left ≡ piece ++ (59 ∷ behind) → Lacks 59 piece → HasTaken rule names piece later more → AreLeft text later more (Some behind)
more_taken text left piece behind rule names later more a whole lacks taken =
    let done = a.done in
    let part = taken.part in
    let f = taken.fits in
    let read = one_more_read done rule names a.read piece part f in
    record {
      done = done ++ part ∷ [];
      read = subst (AreReadAs (done ++ part ∷ []) later) (sym taken.named) (subst (λ (r : Rule). AreReadAs (done ++ part ∷ []) r (with_value names part.0 true)) (sym taken.made) read);
      rest = (
        sym (one_more_part done piece behind part lacks f.reads) ∙ (ap (rule_behind done) (sym whole) ∙ a.rest.0),
        parts_go_on text left piece behind done part a.rest.1 whole lacks f.reads,
      );
    }

pub piece_taken : (text left piece : List ℕ) (behind : Option (List ℕ)) (rule : Rule) (names : Named Bool) (later : Rule) (more : Named Bool) → AreLeft text rule names (Some left) → piece_parts piece behind ≡ cut 59 left → (behind ≡ None → piece ≡ left) → HasTakenPiece rule names piece (is_none behind) later more → AreLeft text later more behind
piece_taken text left piece None rule names later more a parts whole taken =
    let lacks = no_cut-lacks 59 left (sym parts) in
    elim taken [
      | inl part ↦ last_taken text left rule names later more a lacks (subst (λ (t : List ℕ). HasTaken rule names t later more) (whole refl) part)
      | inr passed ↦ subst (λ (r : Rule). AreLeft text r more None) (sym passed.2) (subst (λ (m : Named Bool). AreLeft text rule m None) (sym passed.3) (last_passed text left rule names a (sym (whole refl) ∙ passed.1)))
    ]
piece_taken text left piece (Some behind) rule names later more a parts whole taken =
    elim taken [
      | inl part ↦ more_taken text left piece behind rule names later more a (cut-some 59 left (piece, behind) (sym parts)) (cut-lacks 59 left piece behind (sym parts)) part
      | inr passed ↦ absurd (false≢true passed.0)
    ]

-- A bad piece

pub piece_bad : (text left piece : List ℕ) (behind : Option (List ℕ)) (rule : Rule) (names : Named Bool) (place : ℕ) → AreLeft text rule names (Some left) → piece_parts piece behind ≡ cut 59 left → (behind ≡ None → piece ≡ left) → IsBadPiece rule names piece (is_none behind) (length text - length left) place → IsBadAt (Reads rule_in_grammar) text place
piece_bad text left piece None rule names place a parts whole b =
    let lacks = no_cut-lacks 59 left (sym parts) in
    let done = a.done in
    let bad = subst (λ (t : List ℕ). IsBadAt (Fits rule names) t b.own) (whole refl) b.bad in
    let some = subst (λ (t : List ℕ). 0 < length t) (whole refl) (b.counts refl) in
    subst (IsBadAt (Reads rule_in_grammar) text) (sym b.place_is)
    (a.rest.1.1 b.own (bad_last_part done (SpellsNext done) (next_part done) left b.own lacks some (bad_next done rule names a.read left b.own lacks bad)))
piece_bad text left piece (Some behind) rule names place a parts whole b =
    let lacks = cut-lacks 59 left piece behind (sym parts) in
    let same = cut-some 59 left (piece, behind) (sym parts) in
    let done = a.done in
    let bad = bad_part_before done (SpellsNext done) (next_part done) piece behind b.own lacks (bad_next done rule names a.read piece b.own lacks b.bad) in
    subst (IsBadAt (Reads rule_in_grammar) text) (sym b.place_is)
    (a.rest.1.1 b.own (subst (λ (t : List ℕ). IsBadAt (Reads (rule_behind done)) t b.own) (sym same) bad))

-- The end

pub whole_read : (text : List ℕ) (rule : Rule) (names : Named Bool) → AreLeft text rule names None → IsReadWhole text rule names
whole_read text rule names a = record {
  whole = λ has. sym a.rest.0 ∙ read_rule_is a.done rule names a.read has;
  early = λ none. a.rest.1 (no_rule_is a.done rule names a.read none);
}

-- whether a borrowed text is absent
pub none_there : (text : Option (Bor (List ℕ))) (none : Bool) → is_some text ≡ not none → none ≡ is_none (text_there text)
none_there None true e = refl
none_there None false e = absurd (false≢true e)
none_there (Some text) true e = absurd (false≢true (sym e))
none_there (Some text) false e = refl
