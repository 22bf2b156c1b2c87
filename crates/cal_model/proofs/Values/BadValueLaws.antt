-- Fronts of texts: a shorter front goes on where a longer one does, a list goes on where its last item does, and what the trial of rules
-- finds is a front of a rule.
use Rattle.std.proofs.Common.{◌≡◌, ℕ, ◌+◌, ◌<◌, ◌≤◌, Bool, true, ◌||◌, ◌==◌, if◌then◌else◌, List, [], ◌∷◌, ◌++◌, length, take, drop, Option, Some, None, is_some, refl, sym, ap, subst, ◌∙◌, arith, inl, inr, append_assoc}
use Rattle.std.specs.List.{list_any}
use Rattle.std.proofs.lemmas.Bool.{cases_Bool, cases_lt, false≢true, ne_eqb}
use Rattle.std.proofs.lemmas.List.{take-append-drop, take-take}
use Rattle.cal_base.specs.Lines.ContentLines.{pieces, onto_first}
use Rattle.cal_moment.specs.BadPlace.{IsIn, BeginsOne, IsBadAt}
use Rattle.cal_model.specs.Values.RuleTexts.{rule_in_grammar}
use Rattle.cal_model.specs.Values.BadValues.{Reads}
use Rattle.cal_model.specs.Values.RuleTrial.{can_go_on, rests}
use Rattle.cal_model.proofs.Values.CutLemmas.{Lacks}

-- Fronts

module _ {V : Type 0} (Spells : List ℕ → V → Type 0) where
  -- a front of a front
  pub begins-append : (front more : List ℕ) → BeginsOne Spells (front ++ more) → BeginsOne Spells front
  begins-append front more begins =
      (more ++ begins.0, (begins.1.0, subst (λ (t : List ℕ). Spells t begins.1.0) (append_assoc front more begins.0) begins.1.1))

  pub begins-take : (m n : ℕ) (text : List ℕ) → m ≤ n → BeginsOne Spells (take n text) → BeginsOne Spells (take m text)
  begins-take m n text le begins =
      let shorter = sym (take-append-drop m (take n text)) ∙ ap (λ t. t ++ drop m (take n text)) (take-take m n text le) in
      begins-append (take m text) (drop m (take n text)) (subst (λ (t : List ℕ). BeginsOne Spells t) shorter begins)

  -- The place of a text is the end of a front that goes on, where one more octet does not
  pub bad_by_next : (text : List ℕ) (place : ℕ) → ¬ IsIn Spells text → place ≤ length text → BeginsOne Spells (take place text) → (place < length text → ¬ BeginsOne Spells (take (place + 1) text)) → IsBadAt Spells text place
  bad_by_next text place outside within begins next = record {
    outside = outside;
    within = within;
    begins = begins;
    longest = λ n above most longer. next (omega (arith, above, most)) (begins-take (place + 1) n text (omega (arith, above)) longer);
  }

  -- a text has one place at most
  pub one_place : (text : List ℕ) (a b : ℕ) → IsBadAt Spells text a → IsBadAt Spells text b → b ≤ a
  one_place text a b first second =
      elim (cases_lt a b) [ inl above ↦ absurd (first.longest b above second.within second.begins) | inr le ↦ le ]

-- relations that hold of the same texts have the same places
pub bad_by_same : {V W : Type 0} (A : List ℕ → V → Type 0) (B : List ℕ → W → Type 0) → ((text : List ℕ) → IsIn A text → IsIn B text) → ((text : List ℕ) → IsIn B text → IsIn A text) → (text : List ℕ) (place : ℕ) → IsBadAt A text place → IsBadAt B text place
bad_by_same A B to back text place bad = record {
  outside = λ is. bad.outside (back text is);
  within = bad.within;
  begins = (bad.begins.0, to (take place text ++ bad.begins.0) bad.begins.1);
  longest = λ n above most begins. bad.longest n above most (begins.0, back (take n text ++ begins.0) begins.1);
}

-- Rules

some_value : {A : Type 0} → (o : Option A) → is_some o ≡ true → (x : A) × (o ≡ Some x)
some_value None e = absurd (false≢true e)
some_value (Some x) e = (x, refl)

one_passes : {A : Type 0} → (test : A → Bool) (xs : List A) → list_any test xs ≡ true → (x : A) × (test x ≡ true)
one_passes test [] e = absurd (false≢true e)
one_passes test (x ∷ xs) e =
    elim (cases_Bool (test x)) [
      | inl passes ↦ (x, passes)
      | inr not ↦ one_passes test xs (sym (ap (λ b. b || list_any test xs) not) ∙ e)
    ]

-- What the trial finds is the front of a rule.
pub can_go_on-BeginsOne : (front : List ℕ) → can_go_on front ≡ true → BeginsOne (Reads rule_in_grammar) front
can_go_on-BeginsOne front e =
    let found = one_passes (λ rest. is_some (rule_in_grammar (front ++ rest))) (rests front) e in
    (found.0, some_value (rule_in_grammar (front ++ found.0)) found.1)

-- Lists

-- the pieces of two texts that stand one behind the other: the last of the first goes on with the first of the second
unfoldable pub joined : List (List ℕ) → List (List ℕ) → List (List ℕ)
joined [] qs = qs
joined (p ∷ []) [] = p ∷ []
joined (p ∷ []) (q ∷ qs) = (p ++ q) ∷ qs
joined (p ∷ next ∷ ps) qs = p ∷ joined (next ∷ ps) qs

-- all pieces but the last, and the last
abbrev pub firsts : List (List ℕ) → List (List ℕ)
firsts [] = []
firsts (p ∷ []) = []
firsts (p ∷ next ∷ ps) = p ∷ firsts (next ∷ ps)

abbrev pub final : List (List ℕ) → List ℕ
final [] = []
final (p ∷ []) = p
final (p ∷ next ∷ ps) = final (next ∷ ps)

-- a text has a first piece
pub first_piece : (s : ℕ) (text : List ℕ) → (p : List ℕ) × (ps : List (List ℕ)) × (pieces s text ≡ p ∷ ps)
first_piece s [] = ([], [], refl)
first_piece s (c ∷ text) =
    elim (cases_Bool (c == s)) [
      | inl same ↦ ([], pieces s text, ap (λ b. if b then [] ∷ pieces s text else onto_first c (pieces s text)) same)
      | inr other ↦ (let more = first_piece s text in
          (c ∷ more.0, more.1, ap (λ b. if b then [] ∷ pieces s text else onto_first c (pieces s text)) other ∙ ap (onto_first c) more.2))
    ]

-- an octet before joined pieces
onto_first-joined : (c : ℕ) (p : List ℕ) (ps qs : List (List ℕ)) → onto_first c (joined (p ∷ ps) qs) ≡ joined (onto_first c (p ∷ ps)) qs
unfolding joined
onto_first-joined c p [] [] = refl
onto_first-joined c p [] (q ∷ qs) = refl
onto_first-joined c p (next ∷ ps) qs = refl

pub pieces-append : (s : ℕ) (a b : List ℕ) → pieces s (a ++ b) ≡ joined (pieces s a) (pieces s b)
unfolding joined
pieces-append s [] b = let first = first_piece s b in first.2 ∙ sym (ap (joined ([] ∷ [])) first.2)
pieces-append s (c ∷ a) b =
    let first = first_piece s a in
    elim (cases_Bool (c == s)) [
      | inl same ↦ (ap (λ t. if t then [] ∷ pieces s (a ++ b) else onto_first c (pieces s (a ++ b))) same
          ∙ (ap (λ ps. [] ∷ ps) (pieces-append s a b ∙ ap (λ ps. joined ps (pieces s b)) first.2)
          ∙ sym (ap (λ t. joined (if t then [] ∷ pieces s a else onto_first c (pieces s a)) (pieces s b)) same ∙ ap (λ ps. joined ([] ∷ ps) (pieces s b)) first.2)))
      | inr other ↦ (ap (λ t. if t then [] ∷ pieces s (a ++ b) else onto_first c (pieces s (a ++ b))) other
          ∙ (ap (onto_first c) (pieces-append s a b ∙ ap (λ ps. joined ps (pieces s b)) first.2)
          ∙ (onto_first-joined c first.0 first.1 (pieces s b)
          ∙ sym (ap (λ t. joined (if t then [] ∷ pieces s a else onto_first c (pieces s a)) (pieces s b)) other ∙ ap (λ ps. joined (onto_first c ps) (pieces s b)) first.2))))
    ]

-- a text without the separator is one piece
pub pieces-lacks : (s : ℕ) (text : List ℕ) → Lacks s text → pieces s text ≡ text ∷ []
pieces-lacks s [] lacks = refl
pieces-lacks s (c ∷ text) lacks =
    ap (λ b. if b then [] ∷ pieces s text else onto_first c (pieces s text)) (ne_eqb c s lacks.0) ∙ ap (onto_first c) (pieces-lacks s text lacks.1)
