-- A logical line that is there in part, and the physical lines that continue it.
use Rattle.std.proofs.Common.{◌≡◌, ℕ, Bool, true, false, cond, List, [], ◌∷◌, ◌++◌, flat_map, drop, Option, Some, None, refl, sym, ap₂, ◌∙◌, append-nil, append_assoc}
use Rattle.std.specs.Option.{option_or}
use Rattle.std.proofs.lemmas.Bool.{cond-true, cond-false}
use Rattle.cal_base.specs.declared.line.Line.{Line}
use Rattle.cal_base.specs.Lines.ContentLines.{Physical, begins_with_blank, continues, joined, groups}
use Rattle.ical_lines.specs.GroupReading.{refused_place, first_refused, read_groups, read_text, read_open}

option_or-none : (o : Option ℕ) → option_or o None ≡ o
option_or-none None = refl
option_or-none (Some place) = refl

option_or_assoc : (a b c : Option ℕ) → option_or (option_or a b) c ≡ option_or a (option_or b c)
option_or_assoc None b c = refl
option_or_assoc (Some place) b c = refl

-- what stands behind the blank of each fold
abbrev fold_texts : List Physical → List ℕ
fold_texts folds = flat_map (λ (fold : Physical). drop 1 fold.text) folds

start_joined : (test : Bool) (done : List Line) (physical : Physical) (group : List Physical) (others : List (List Physical)) → read_groups done (cond test ((physical ∷ group) ∷ others) ((physical ∷ []) ∷ group ∷ others)) ≡ cond test (read_text done physical.place (physical.text ++ fold_texts group) (option_or (refused_place physical) (first_refused group)) others) (read_text done physical.place physical.text (refused_place physical) (group ∷ others))
start_joined true done physical group others = refl
start_joined false done physical group others = ap₂ (λ text refused. read_text done physical.place text refused (group ∷ others)) (append-nil physical.text) (option_or-none (refused_place physical))

-- the first physical line begins a logical line
pub open_at_first : (done : List Line) (physical : Physical) (more : List Physical) → read_groups done (groups (physical ∷ more)) ≡ read_open done physical.place physical.text (refused_place physical) (groups more)
open_at_first done physical more = with_groups (groups more)
  where
    with_groups : (them : List (List Physical)) → read_groups done (joined physical them) ≡ read_open done physical.place physical.text (refused_place physical) them
    with_groups [] = ap₂ (λ text refused. read_text done physical.place text refused []) (append-nil physical.text) (option_or-none (refused_place physical))
    with_groups (group ∷ others) = start_joined (continues group) done physical group others

fold_taken : (done : List Line) (place : ℕ) (text : List ℕ) (refused : Option ℕ) (fold : Physical) (group : List Physical) (others : List (List Physical)) → begins_with_blank fold.text ≡ true → read_open done place text refused ((fold ∷ group) ∷ others) ≡ read_text done place (text ++ (drop 1 fold.text ++ fold_texts group)) (option_or refused (option_or (refused_place fold) (first_refused group))) others
fold_taken done place text refused fold group others blank = cond-true _ _ _ blank

fold_joined : (test : Bool) (done : List Line) (place : ℕ) (text : List ℕ) (refused : Option ℕ) (fold : Physical) (group : List Physical) (others : List (List Physical)) → begins_with_blank fold.text ≡ true → read_open done place text refused (cond test ((fold ∷ group) ∷ others) ((fold ∷ []) ∷ group ∷ others)) ≡ cond test (read_text done place (text ++ drop 1 fold.text ++ fold_texts group) (option_or (option_or refused (refused_place fold)) (first_refused group)) others) (read_text done place (text ++ drop 1 fold.text) (option_or refused (refused_place fold)) (group ∷ others))
fold_joined true done place text refused fold group others blank =
    fold_taken done place text refused fold group others blank
    ∙ ap₂ (λ whole fault. read_text done place whole fault others) (sym (append_assoc text (drop 1 fold.text) (fold_texts group))) (sym (option_or_assoc refused (refused_place fold) (first_refused group)))
fold_joined false done place text refused fold group others blank =
    fold_taken done place text refused fold [] (group ∷ others) blank
    ∙ ap₂ (λ behind fault. read_text done place (text ++ behind) (option_or refused fault) (group ∷ others)) (append-nil (drop 1 fold.text)) (option_or-none (refused_place fold))

-- a physical line that begins with a blank continues it
pub open_at_fold : (done : List Line) (place : ℕ) (text : List ℕ) (refused : Option ℕ) (fold : Physical) (more : List Physical) → begins_with_blank fold.text ≡ true → read_open done place text refused (groups (fold ∷ more)) ≡ read_open done place (text ++ drop 1 fold.text) (option_or refused (refused_place fold)) (groups more)
open_at_fold done place text refused fold more blank = with_groups (groups more)
  where
    with_groups : (them : List (List Physical)) → read_open done place text refused (joined fold them) ≡ read_open done place (text ++ drop 1 fold.text) (option_or refused (refused_place fold)) them
    with_groups [] =
        fold_taken done place text refused fold [] [] blank
        ∙ ap₂ (λ behind fault. read_text done place (text ++ behind) (option_or refused fault) []) (append-nil (drop 1 fold.text)) (option_or-none (refused_place fold))
    with_groups (group ∷ others) = fold_joined (continues group) done place text refused fold group others blank

end_joined : (test : Bool) (done : List Line) (place : ℕ) (text : List ℕ) (refused : Option ℕ) (physical : Physical) (group : List Physical) (others : List (List Physical)) → begins_with_blank physical.text ≡ false → read_open done place text refused (cond test ((physical ∷ group) ∷ others) ((physical ∷ []) ∷ group ∷ others)) ≡ read_text done place text refused (cond test ((physical ∷ group) ∷ others) ((physical ∷ []) ∷ group ∷ others))
end_joined true done place text refused physical group others end = cond-false _ _ _ end
end_joined false done place text refused physical group others end = cond-false _ _ _ end

-- what doesn't begin with a blank doesn't continue it
pub open_at_end : (done : List Line) (place : ℕ) (text : List ℕ) (refused : Option ℕ) (more : List Physical) → continues more ≡ false → read_open done place text refused (groups more) ≡ read_text done place text refused (groups more)
open_at_end done place text refused [] end = refl
open_at_end done place text refused (physical ∷ more) end = with_groups (groups more)
  where
    with_groups : (them : List (List Physical)) → read_open done place text refused (joined physical them) ≡ read_text done place text refused (joined physical them)
    with_groups [] = cond-false _ _ _ end
    with_groups (group ∷ others) = end_joined (continues group) done place text refused physical group others end
