-- Lines that name no user, of three words that are not right, and of more; and lines of groups.
use Rattle.std.proofs.Common.{◌≡◌, ℕ, ◌<◌, Bool, true, false, not, ◌&&◌, ◌==◌, List, [], ◌∷◌, length, Option, Some, None, refl, sym, ap, ◌∙◌, arith}
use Rattle.std.specs.Prelude.{bytes_eq, codes, is_some, if◌then◌else◌}
use Rattle.std.specs.Borrow.{Bor}
use Rattle.std.specs.Option.{option_map}
use Rattle.std.proofs.lemmas.Bool.{false≢true, cond_both}
use Rattle.cal_base.specs.Lines.ContentLines.{pieces, onto_first}
use Rattle.cal_base.specs.Texts.Octets.{space}
use Rattle.cal_model.specs.Users.UsersFile.{user_of_words, user_of_line, group_of_words, group_of_line, are_apart, is_user_name, is_digest}
use Rattle.privileges.specs.LineCuts.{both_texts, behind_cut, if_apart}

onto_first-some : (octet : ℕ) (them : List (List ℕ)) → 0 < length (onto_first octet them)
onto_first-some octet [] = omega arith
onto_first-some octet (piece ∷ them) = omega arith

-- a text has at least one piece
pub pieces-some : (separator : ℕ) (text : List ℕ) → 0 < length (pieces separator text)
pieces-some separator [] = omega arith
pieces-some separator (octet ∷ text) =
    cond_both (octet == separator) _ _ (λ (them : List (List ℕ)). 0 < length them) (λ _. omega arith) (λ _. onto_first-some octet (pieces separator text))

more_words : (word name text : List ℕ) (them : List (List ℕ)) → 0 < length them → user_of_words (word ∷ name ∷ text ∷ them) ≡ None
more_words word name text [] some = absurd (omega (arith, some))
more_words word name text (one ∷ them) some = refl

-- what two cuts make of a line
module _ (line word behind name digest : List ℕ) (first : pieces space line ≡ word ∷ pieces space behind) (second : pieces space behind ≡ name ∷ pieces space digest) where
  of_words : (o : Option (List ℕ × List ℕ)) → pieces space digest ≡ behind_cut space digest o → user_of_line line ≡ user_of_words (word ∷ name ∷ behind_cut space digest o)
  of_words o third = ap user_of_words (first ∙ ap (λ them. word ∷ them) (second ∙ ap (λ them. name ∷ them) third))

  -- a third cut
  pub longer : (r : Option (Bor (List ℕ) × Bor (List ℕ))) (none : Bool) → pieces space digest ≡ behind_cut space digest (option_map both_texts r)
      → is_some r ≡ not none → none ≡ false → None ≡ user_of_line line
  longer None none third is there = absurd (false≢true (is ∙ ap not there))
  longer (Some parts) none third is there =
      sym (of_words (option_map both_texts (Some parts)) third ∙ more_words word name parts.0.now (pieces space parts.1.now) (pieces-some space parts.1.now))

  abbrev is_right : Bool
  is_right = bytes_eq word (codes "user") && is_user_name name && is_digest digest

  -- three words
  pub of_three : (r : Option (Bor (List ℕ) × Bor (List ℕ))) (none : Bool) → pieces space digest ≡ behind_cut space digest (option_map both_texts r)
      → is_some r ≡ not none → none ≡ true → user_of_line line ≡ (if is_right then Some (record { name = name; digest = digest }) else None)
  of_three None none third is there = of_words None third
  of_three (Some parts) none third is there = absurd (false≢true (sym (is ∙ ap not there)))

  pub not_right : (r : Option (Bor (List ℕ) × Bor (List ℕ))) (none right : Bool) → pieces space digest ≡ behind_cut space digest (option_map both_texts r)
      → is_some r ≡ not none → none ≡ true → right ≡ is_right → right ≡ false → None ≡ user_of_line line
  not_right r none right third is there wrong here =
      sym (of_three r none third is there ∙ ap (λ b. if b then Some (record { name = name; digest = digest }) else None) (sym wrong ∙ here))

-- Lines of groups

-- what two cuts make of one
pub right_group : (line word behind name members : List ℕ) → pieces space line ≡ word ∷ pieces space behind → pieces space behind ≡ name ∷ pieces space members
    → (bytes_eq word (codes "group") && is_user_name name) ≡ true → if_apart (record { name = name; members = pieces space members }) ≡ group_of_line line
right_group line word behind name members first second right =
    of_some (pieces space members) (pieces-some space members) ∙ sym (ap group_of_words (first ∙ ap (λ them. word ∷ them) second)) where
      of_some : (them : List (List ℕ)) → 0 < length them → if_apart (record { name = name; members = them }) ≡ group_of_words (word ∷ name ∷ them)
      of_some [] some = absurd (omega (arith, some))
      of_some (one ∷ them) some = ap (λ b. if b && are_apart (one ∷ them) then Some (record { name = name; members = one ∷ them }) else None) (sym right)
