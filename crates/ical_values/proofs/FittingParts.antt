-- A text is bad behind the parts that are read where it leaves the parts that fit.
use Rattle.std.proofs.Common.{◌≡◌, ℕ, ◌+◌, ◌<◌, ◌≤◌, Bool, true, false, ◌||◌, List, [], ◌∷◌, ◌++◌, length, take, bytes_eq, codes, Option, Some, option_map, refl, sym, ap, ap₂, subst, ◌∙◌, arith, inl, inr}
use Rattle.std.specs.List.{list_any}
use Rattle.std.proofs.lemmas.Bool.{cases_Bool, false≢true}
use Rattle.std.proofs.lemmas.Option.{same_Some}
use Rattle.cal_base.specs.Lists.NameMap.{Named}
use Rattle.cal_moment.specs.BadPlace.{IsIn, BeginsOne, IsBadAt}
use Rattle.cal_model.specs.declared.rule.Freq.TheVariants.{Yearly}
use Rattle.cal_model.specs.declared.rule.Rule.{Rule}
use Rattle.cal_model.specs.Values.RuleTexts.{Part, is_part_named, freq_of, is_allowed}
use Rattle.cal_model.proofs.Values.CutLemmas.{Lacks, option_map_some, is_same_text, lacks-append}
use Rattle.cal_model.proofs.Values.PartFronts.{PartFront, part_front}
use Rattle.cal_model.proofs.Values.RuleRows.{allowed_less}
use Rattle.ical_values.specs.RuleParts.{put_part}
use Rattle.ical_values.specs.RuleReading.{Fits}
use Rattle.ical_values.proofs.ListPlaces.{lacks_take}
use Rattle.ical_values.proofs.NextParts.{SpellsNext}
use Rattle.ical_values.proofs.RuleStates.{AreReadAs, FreqBehind, FreqIs, allowed_yearly, are_standing, new_here, not_in, one_more_read, part_freq, put-with_part, stands_fit}

-- names that are long enough have not come
names_size : List Part → ℕ
names_size [] = 0
names_size (part ∷ done) = length part.0 + names_size done

long_is_new : (name : List ℕ) (done : List Part) → names_size done < length name → list_any (is_part_named name) done ≡ false
unfolding names_size
long_is_new name [] long = refl
long_is_new name (part ∷ done) long = ap₂ (λ a b. a || b) other (long_is_new name done (omega (arith, long)))
  where
    other : bytes_eq part.0 name ≡ false
    other = elim (cases_Bool (bytes_eq part.0 name)) [
      | inl same ↦ absurd (omega (arith, ap length (is_same_text part.0 name same), long))
      | inr differs ↦ differs
    ]

module _ (done : List Part) (rule : Rule) (names : Named Bool) (s : AreReadAs done rule names) where
  -- the rule of a part that stands for another one of the same front is allowed too
  made_allowed : (part made : Part) (its other : Rule) → list_any (is_part_named part.0) done ≡ false → put_part part rule ≡ Some its → put_part made rule ≡ Some other
      → (made.0 ≡ codes "FREQ" → (part.0 ≡ codes "FREQ") × (freq_of made.1 ≡ freq_of part.1)) → is_allowed (record other { freq = its.freq }) ≡ true → is_allowed other ≡ true
  made_allowed part made its other fresh puts makes freq allowed =
      by_freqs (part_freq part rule its puts) (part_freq made rule other makes)
    where
      same : other.freq ≡ its.freq → is_allowed other ≡ true
      same e = ap (λ f. is_allowed (record other { freq = f })) e ∙ allowed

      not_freq : bytes_eq part.0 (codes "FREQ") ≡ false → part.0 ≡ codes "FREQ" → ⊥
      not_freq other is = false≢true (sym other ∙ ap (λ n. bytes_eq n (codes "FREQ")) is)

      by_freqs : FreqBehind part.0 part.1 rule its → FreqBehind made.0 made.1 rule other → is_allowed other ≡ true
      by_freqs (inl p) (inl m) = same (same_Some other.freq its.freq (sym m.1 ∙ ((freq m.0).1 ∙ p.1)))
      by_freqs (inr p) (inl m) = absurd (not_freq p.0 (freq m.0).0)
      by_freqs (inr p) (inr m) = same (m.1 ∙ sym p.1)
      by_freqs (inl p) (inr m) =
          let none = not_in (codes "FREQ") done (ap (λ n. list_any (is_part_named n) done) (sym p.0) ∙ fresh) in
          let year : rule.freq ≡ Yearly = subst (λ (o : Option Part). FreqIs o rule.freq) none s.freq in
          ap (λ f. is_allowed (record other { freq = f })) (m.1 ∙ year) ∙ allowed_yearly other its.freq allowed

  made_fits : (u h : List ℕ) (part : Part) (f : Fits rule names (u ++ h) part) (room : ℕ) → names_size done + length u ≤ room → PartFront room u part (record rule { freq = f.made.freq }) f.made → (end : List ℕ) × (made : Part) × Lacks 59 end × Fits rule names (u ++ end) made
  made_fits u h part f room le m =
      let back = option_map_some (λ (r : Rule). record r { freq = f.made.freq }) (put_part m.made rule) m.result (sym (put-with_part m.made rule f.made.freq) ∙ m.puts) in
      let fresh = new_here done rule names s part f.fresh in
      let result = allowed_less m.result f.made m.lesser f.allowed in
      let new : list_any (is_part_named m.made.0) done ≡ false = elim m.name [ inl same ↦ ap (λ n. list_any (is_part_named n) done) same ∙ fresh | inr long ↦ long_is_new m.made.0 done (omega (arith, long, le)) ] in (
        m.end,
        m.made,
        m.lacks,
        record {
          reads = m.reads;
          fresh = s.named m.made.0 ∙ new;
          made = back.0;
          puts = back.1;
          allowed = made_allowed part m.made f.made back.0 fresh f.puts back.1 m.freq (ap is_allowed back.2 ∙ result);
        },
      )

  -- The front of a part that fits goes on to one without a semicolon.
  fitting_front : (u : List ℕ) → BeginsOne (Fits rule names) u → (end : List ℕ) × (made : Part) × Lacks 59 end × Fits rule names (u ++ end) made
  fitting_front u begins =
      let part = begins.1.0 in
      let f = begins.1.1 in
      let room = names_size done + length u in
      made_fits u begins.0 part f room (omega arith) (part_front room u begins.0 part (record rule { freq = f.made.freq }) f.made (omega arith) f.reads (put-with_part part rule f.made.freq ∙ ap (option_map (λ (r : Rule). record r { freq = f.made.freq })) f.puts))

  pub fits_next : (text : List ℕ) (part : Part) → Lacks 59 text → Fits rule names text part → SpellsNext done text part
  fits_next text part lacks f = record { lacks = lacks; reads = f.reads; stands = are_standing (done ++ part ∷ []) f.made _ (one_more_read done rule names s text part f) }

  next_fits : (text : List ℕ) → IsIn (SpellsNext done) text → IsIn (Fits rule names) text
  next_fits text is = (is.0, stands_fit done rule names s text is.0 is.1.reads is.1.stands)

  -- A text is bad behind the parts that are read where it leaves the parts that fit.
  pub bad_next : (text : List ℕ) (place : ℕ) → Lacks 59 text → IsBadAt (Fits rule names) text place → IsBadAt (SpellsNext done) text place
  bad_next text place lacks bad =
      let front = take place text in
      let on = fitting_front front bad.begins in
      record {
        outside = λ is. bad.outside (next_fits text is);
        within = bad.within;
        begins = (on.0, (on.1, fits_next (front ++ on.0) on.1 (lacks-append 59 front on.0 (lacks_take 59 place text lacks) on.2) on.3));
        longest = λ n above most begins. bad.longest n above most (begins.0, next_fits (take n text ++ begins.0) begins.1);
      }
