-- The options of a field.
use Rattle.std.proofs.Common.{◌≡◌, ℕ, Bool, true, false, ◌==◌, ◌||◌, List, [], ◌∷◌, Option, Some, None, refl, sym, ap, ◌∙◌, ⊎_elim}
use Rattle.std.specs.Prelude.{bytes_eq, codes, option_map}
use Rattle.std.specs.List.{list_any}
use Rattle.std.proofs.lemmas.Option.{same_Some}
use Rattle.httparse.specs.Grammar.{trim_ows}
use Rattle.cal_base.specs.Lines.ContentLines.{pieces, onto_first}
use Rattle.cal_model.specs.Words.Cuts.{cut_at}
use Rattle.cal_model.specs.Streams.HeadFields.{names_close}
use Rattle.cal_model.proofs.Streams.StreamFronts.{bool_cases, none_some}
use Rattle.cal_model.proofs.Streams.HeadLaws.{piece_here, piece_later, cut_here, cut_later}

-- an octet in front of the first of two parts
abbrev pub ahead : ℕ → List ℕ × List ℕ → List ℕ × List ℕ
ahead c parts = (c ∷ parts.0, parts.1)

-- the pieces of a text that is cut
pub pieces_cut : (s : ℕ) (text before behind : List ℕ) → Some (before, behind) ≡ cut_at s text → pieces s text ≡ before ∷ pieces s behind
unfolding cut_at
pieces_cut s [] before behind e = none_some (before, behind) (sym e)
pieces_cut s (c ∷ text) before behind e =
    ⊎_elim
    (λ here.
    let same = same_Some _ _ (sym (cut_here s c text here) ∙ sym e) in
    piece_here s c text here ∙ ap (λ (parts : List ℕ × List ℕ). parts.0 ∷ pieces s parts.1) same)
    (λ later. more (cut_at s text) (λ b h. pieces_cut s text b behind h) (sym (cut_later s c text later) ∙ sym e) later)
    (bool_cases (c == s))
  where
    more : (o : Option (List ℕ × List ℕ)) → ((b : List ℕ) → Some (b, behind) ≡ o → pieces s text ≡ b ∷ pieces s behind) → option_map (ahead c) o ≡ Some (before, behind) → (c == s) ≡ false → pieces s (c ∷ text) ≡ before ∷ pieces s behind
    more None h k later = none_some (before, behind) k
    more (Some parts) h k later =
        let same = same_Some _ _ k in
        let front : c ∷ parts.0 ≡ before = ap (λ (p : List ℕ × List ℕ). p.0) same in
        let back : parts.1 ≡ behind = ap (λ (p : List ℕ × List ℕ). p.1) same in
        piece_later s c text later ∙ ap (onto_first c) (h parts.0 (ap (λ b. Some (parts.0, b)) (sym back))) ∙ ap (λ x. x ∷ pieces s behind) front

pub pieces_whole : (s : ℕ) (text : List ℕ) → None ≡ cut_at s text → pieces s text ≡ text ∷ []
unfolding cut_at
pieces_whole s [] e = refl
pieces_whole s (c ∷ text) e =
    ⊎_elim
    (λ here. none_some ([], text) (e ∙ cut_here s c text here))
    (λ later. piece_later s c text later ∙ ap (onto_first c) (pieces_whole s text (below (cut_at s text) (e ∙ cut_later s c text later))))
    (bool_cases (c == s))
  where
    below : (o : Option (List ℕ × List ℕ)) → None ≡ option_map (ahead c) o → None ≡ o
    below None h = refl
    below (Some parts) h = none_some (c ∷ parts.0, parts.1) h

pub some_option : (rest option behind : List ℕ) → Some (option, behind) ≡ cut_at 44 rest → names_close rest ≡ (bytes_eq (trim_ows option) (codes "close") || names_close behind)
some_option rest option behind e = ap (list_any (λ o. bytes_eq (trim_ows o) (codes "close"))) (pieces_cut 44 rest option behind e)

pub closing_option : (rest option behind : List ℕ) → Some (option, behind) ≡ cut_at 44 rest → bytes_eq (trim_ows option) (codes "close") ≡ true → true ≡ names_close rest
closing_option rest option behind e h = sym (some_option rest option behind e ∙ ap (λ b. b || names_close behind) h)

pub other_option : (rest option behind : List ℕ) → Some (option, behind) ≡ cut_at 44 rest → bytes_eq (trim_ows option) (codes "close") ≡ false → names_close behind ≡ names_close rest
other_option rest option behind e h = sym (some_option rest option behind e ∙ ap (λ b. b || names_close behind) h)

pub last_option : (rest : List ℕ) → None ≡ cut_at 44 rest → bytes_eq (trim_ows rest) (codes "close") ≡ names_close rest
last_option rest e = sym (ap (list_any (λ o. bytes_eq (trim_ows o) (codes "close"))) (pieces_whole 44 rest e) ∙ alone (bytes_eq (trim_ows rest) (codes "close")))
  where
    alone : (b : Bool) → (b || false) ≡ b
    alone true = refl
    alone false = refl
