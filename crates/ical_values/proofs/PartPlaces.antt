-- A part of a rule that is bad: where its text leaves what can stand behind the parts that are read.
use Rattle.std.proofs.Common.{◌≡◌, ℕ, ◌+◌, ◌-◌, ◌<◌, List, [], ◌∷◌, ◌++◌, length, take, Some, sym, ap, subst, ◌∙◌, arith, inl, inr, append_assoc}
use Rattle.std.proofs.Math.Seq.{take-length, take-append-add}
use Rattle.std.proofs.lemmas.Bool.{cases_lt}
use Rattle.std.proofs.lemmas.List.{length-append, take-append-le}
use Rattle.cal_moment.specs.BadPlace.{IsIn, BeginsOne, IsBadAt}
use Rattle.cal_model.specs.Values.BadValues.{Reads}
use Rattle.cal_model.specs.Values.RuleTexts.{Part, part_of, rule_in_grammar}
use Rattle.cal_model.proofs.Values.BadValueLaws.{begins-append, begins-take}
use Rattle.cal_model.proofs.Values.CutLemmas.{Lacks}
use Rattle.ical_values.proofs.ListPlaces.{lacks_take, take_behind}
use Rattle.ical_values.proofs.RulePlaces.{rule_behind, rule_begins, one_more_part}

-- the rule of a text that begins so is that of the parts in it and of what stands behind them
abbrev pub Leads : List ℕ → List Part → Type 0
Leads lead done = (text : List ℕ) → rule_in_grammar (lead ++ text) ≡ rule_behind done text

pub leads_begin : Leads [] []
leads_begin text = sym (rule_begins text)

pub leads_on : (lead : List ℕ) (done : List Part) (piece : List ℕ) (part : Part) → Leads lead done → Lacks 59 piece → part_of piece ≡ Some part → Leads (lead ++ (piece ++ (59 ∷ []))) (done ++ part ∷ [])
leads_on lead done piece part leads lacks reads = λ text.
    ap rule_in_grammar (append_assoc lead (piece ++ (59 ∷ [])) text ∙ ap (λ t. lead ++ t) (append_assoc piece (59 ∷ []) text))
    ∙ (leads (piece ++ (59 ∷ text)) ∙ one_more_part done piece text part lacks reads)

-- What can stand behind some parts, as a grammar of one part: its texts go on to rules, the fronts of rules without a
-- semicolon are its fronts, and a piece of a rule is one of its texts.
pub record IsNextOf (done : List Part) {V : Type 0} (Next : List ℕ → V → Type 0) : Type 0 where
  pub goes_on : (text : List ℕ) → IsIn Next text → BeginsOne (Reads (rule_behind done)) text
  pub begun : (text : List ℕ) → Lacks 59 text → BeginsOne (Reads (rule_behind done)) text → BeginsOne Next text
  pub first : (text behind : List ℕ) → Lacks 59 text → IsIn (Reads (rule_behind done)) (text ++ (59 ∷ behind)) → IsIn Next text
  pub last : (text : List ℕ) → Lacks 59 text → 0 < length text → IsIn (Reads (rule_behind done)) text → IsIn Next text

module _ (done : List Part) {V : Type 0} (Next : List ℕ → V → Type 0) (next : IsNextOf done Next) where
  -- the front of a next part is the front of a rule
  front_goes_on : (front : List ℕ) → BeginsOne Next front → BeginsOne (Reads (rule_behind done)) front
  front_goes_on front begins = begins-append (Reads (rule_behind done)) front begins.0 (next.goes_on (front ++ begins.0) begins.1)

  too_long : (piece behind : List ℕ) (place n : ℕ) → Lacks 59 piece → IsBadAt Next piece place → place < n → BeginsOne (Reads (rule_behind done)) (take n (piece ++ (59 ∷ behind))) → ⊥
  too_long piece behind place n lacks bad above begins =
      elim (cases_lt (length piece) n) [
        | inl past ↦ (let shorter = begins-take (Reads (rule_behind done)) (length piece + 1 + 0) n (piece ++ (59 ∷ behind)) (omega (arith, past)) begins in
            let front = subst (λ (t : List ℕ). BeginsOne (Reads (rule_behind done)) t) (take_behind 59 piece behind 0) shorter in
            let whole = subst (λ (t : List ℕ). IsIn (Reads (rule_behind done)) t) (append_assoc piece (59 ∷ take 0 behind) front.0) front.1 in
            bad.outside (next.first piece (take 0 behind ++ front.0) lacks whole))
        | inr within ↦ bad.longest n above within (next.begun (take n piece) (lacks_take 59 n piece lacks) (subst (λ (t : List ℕ). BeginsOne (Reads (rule_behind done)) t) (take-append-le n piece (59 ∷ behind) within) begins))
      ]

  -- A bad part before others.
  pub bad_part_before : (piece behind : List ℕ) (place : ℕ) → Lacks 59 piece → IsBadAt Next piece place → IsBadAt (Reads (rule_behind done)) (piece ++ (59 ∷ behind)) place
  bad_part_before piece behind place lacks bad = record {
    outside = λ is. bad.outside (next.first piece behind lacks is);
    within = omega (arith, bad.within, length-append piece (59 ∷ behind));
    begins = subst (λ (t : List ℕ). BeginsOne (Reads (rule_behind done)) t) (sym (take-append-le place piece (59 ∷ behind) bad.within)) (front_goes_on (take place piece) bad.begins);
    longest = λ n above most begins. too_long piece behind place n lacks bad above begins;
  }

  -- A bad part at the end.
  pub bad_last_part : (piece : List ℕ) (place : ℕ) → Lacks 59 piece → 0 < length piece → IsBadAt Next piece place → IsBadAt (Reads (rule_behind done)) piece place
  bad_last_part piece place lacks some bad = record {
    outside = λ is. bad.outside (next.last piece lacks some is);
    within = bad.within;
    begins = front_goes_on (take place piece) bad.begins;
    longest = λ n above most begins. bad.longest n above most (next.begun (take n piece) (lacks_take 59 n piece lacks) begins);
  }

  -- A text that ends behind a part before its FREQ has come is bad at its end.
  pub bad_before_freq : (piece : List ℕ) → IsIn Next piece → ¬ IsIn (Reads (rule_behind done)) piece → IsBadAt (Reads (rule_behind done)) piece (length piece)
  bad_before_freq piece is outside = record {
    outside = outside;
    within = omega arith;
    begins = subst (λ (t : List ℕ). BeginsOne (Reads (rule_behind done)) t) (sym (take-length piece)) (next.goes_on piece is);
    longest = λ n above most _. omega (arith, above, most);
  }

-- What stands behind a front that is fixed is bad at a place behind it.
pub bad_behind_fixed : {V W : Type 0} (A : List ℕ → V → Type 0) (B : List ℕ → W → Type 0) (front : List ℕ) → ((rest : List ℕ) → IsIn A (front ++ rest) → IsIn B rest) → ((rest : List ℕ) → IsIn B rest → IsIn A (front ++ rest)) → (rest : List ℕ) (place : ℕ) → IsBadAt B rest place → IsBadAt A (front ++ rest) (length front + place)
bad_behind_fixed {V} {W} A B front to back rest place bad =
    let size = length-append front rest in
    record {
      outside = λ is. bad.outside (to rest is);
      within = omega (arith, bad.within, size);
      begins = subst (λ (t : List ℕ). BeginsOne A t) (sym (take-append-add front rest place))
          (bad.begins.0, subst (λ (t : List ℕ). IsIn A t) (sym (append_assoc front (take place rest) bad.begins.0)) (back (take place rest ++ bad.begins.0) bad.begins.1));
      longest = λ n above most begins. (let m = n - length front in
          let split : take n (front ++ rest) ≡ front ++ take m rest = ap (λ k. take k (front ++ rest)) (same_number n above) ∙ take-append-add front rest m in
          let whole = subst (λ (t : List ℕ). IsIn A t) (ap (λ t. t ++ begins.0) split ∙ append_assoc front (take m rest) begins.0) begins.1 in
          bad.longest m (omega (arith, above)) (omega (arith, most, size)) (begins.0, to (take m rest ++ begins.0) whole));
    }
  where
    same_number : (n : ℕ) → length front + place < n → n ≡ length front + (n - length front)
    same_number n above = omega (arith, above)
