-- How the places at which pieces of a text stop come together to the place of the whole.
use Rattle.std.proofs.Common.{◌≡◌, ◌≢◌, ℕ, ◌+◌, ◌-◌, ◌≤◌, ◌⊎◌, inl, inr, List, [], ◌∷◌, ◌++◌, length, take, refl, sym, ap, ◌∙◌, arith, append_assoc, add-one}
use Rattle.std.proofs.Math.Seq.{take-append_seam, take-append-add}
use Rattle.std.proofs.lemmas.List.{length-append, append-nil}
use Rattle.cal_moment.specs.BadPlace.{IsIn, IsBadAt}
use Rattle.cal_moment.specs.Stops.{BeginsWithNo, GoOnAlike, Stops, Opens}
use Rattle.cal_moment.proofs.Fronts.{fronts_cases}

alike_self : (text : List ℕ) → GoOnAlike text text
alike_self [] = tt
alike_self (c ∷ text) = refl

-- a text that none of the set begins like stops at once
pub stops_here : (Texts : List ℕ → Type 0) (text more : List ℕ) → Texts more → ((next : List ℕ) → Texts next → ¬ GoOnAlike next text) → Stops Texts text text
stops_here Texts text more begins apart =
    record { front = []; more = more; split = refl; begins = begins; apart = apart }

-- a text that does not begin with the octet that all of the set begin with
pub stops_letter : (Texts : List ℕ → Type 0) (octet : ℕ) (text more : List ℕ) → Texts (octet ∷ more) → ((next : List ℕ) → Texts next → (rest : List ℕ) × (next ≡ octet ∷ rest)) → BeginsWithNo octet text → Stops Texts text text
stops_letter Texts octet text more begins only none =
    stops_here Texts text (octet ∷ more) begins (λ next h. let o = only next h in rw o.1 (not_alike octet o.0 text none))
  where
    not_alike : (octet : ℕ) (rest text : List ℕ) → BeginsWithNo octet text → ¬ GoOnAlike (octet ∷ rest) text
    not_alike octet rest [] none alike = alike
    not_alike octet rest (c ∷ text) none alike = none alike

-- the place in what is left is the place in the whole
pub stops_after : (Texts : List ℕ → Type 0) (front text left : List ℕ) → Stops (λ t. Texts (front ++ t)) text left → Stops Texts (front ++ text) left
stops_after Texts front text left s =
    record {
      front = front ++ s.front;
      more = s.more;
      split = ap (λ t. front ++ t) s.split ∙ sym (append_assoc front s.front left);
      begins = rw append_assoc s.begins;
      apart = λ next h. s.apart next (rw append_assoc at h);
    }

-- where the pieces of a set stop, the set stops: each piece is the front of one of the set, and each of the set begins with a piece or is empty
pub stops_in : (Pieces Texts : List ℕ → Type 0) (text left : List ℕ) → ((t : List ℕ) → Pieces t → (rest : List ℕ) × Texts (t ++ rest)) → ((t : List ℕ) → Texts t → Opens Pieces t ⊎ ((t ≡ []) × (text ≢ []))) → Stops (Opens Pieces) text left → Stops Texts text left
stops_in Pieces Texts text left complete only s =
    let begun : (more : List ℕ) × Texts (s.front ++ more) =
    elim (fronts_cases s.front s.more s.begins.0 s.begins.1 s.begins.3) [
      | inl w ↦ (let c = complete s.begins.0 s.begins.2 in
          (w.0 ++ c.0, rw (← append_assoc, ← w.1) c.1))
      | inr w ↦ absurd (s.apart left (s.begins.0, w.0 ++ left, s.begins.2, ap (λ t. t ++ left) w.1 ∙ append_assoc s.begins.0 w.0 left) (alike_self left))
    ] in
    record {
      front = s.front;
      more = begun.0;
      split = s.split;
      begins = begun.1;
      apart = λ next h alike. elim (only (s.front ++ next) h) [
        | inl opens ↦ s.apart next opens alike
        | inr empty ↦ empty_stops s.front next left (rw s.split at empty.1) empty.0 alike
      ];
    }
  where
    empty_stops : (front next left : List ℕ) → front ++ left ≢ [] → front ++ next ≡ [] → GoOnAlike next left → ⊥
    empty_stops [] [] [] some none alike = some refl
    empty_stops [] [] (d ∷ left) some none alike = alike
    empty_stops [] (c ∷ next) left some none alike = cc
    empty_stops (c ∷ front) next left some none alike = cc

-- a wider set stops at the same place, where its other texts begin otherwise than this text: P tells by how a text begins
pub stops_wider : (A B P : List ℕ → Type 0) (text left : List ℕ) → ((a b : List ℕ) → GoOnAlike a b → P b → P a) → ((t : List ℕ) → A t → B t) → ((t : List ℕ) → B t → A t ⊎ (¬ P t × P text)) → Stops A text left → Stops B text left
stops_wider A B P text left by_begin wider only s =
    record {
      front = s.front;
      more = s.more;
      split = s.split;
      begins = wider _ s.begins;
      apart = λ next h alike. elim (only (s.front ++ next) h) [
        | inl a ↦ s.apart next a alike
        | inr other ↦ other.0 (by_begin (s.front ++ next) text (rw s.split (alike_behind s.front next left alike)) other.1)
      ];
    }
  where
    alike_behind : (front a b : List ℕ) → GoOnAlike a b → GoOnAlike (front ++ a) (front ++ b)
    alike_behind [] a b alike = alike
    alike_behind (c ∷ front) a b alike = refl

-- two sets with the same texts stop at the same place
pub stops_same : (A B : List ℕ → Type 0) (text left : List ℕ) → ((t : List ℕ) → A t → B t) → ((t : List ℕ) → B t → A t) → Stops A text left → Stops B text left
stops_same A B text left to back s =
    record {
      front = s.front;
      more = s.more;
      split = s.split;
      begins = to _ s.begins;
      apart = λ next h. s.apart next (back _ h);
    }

-- where the texts of a set stop at the front of a text, the set stops
pub stops_whole : (Texts : List ℕ → Type 0) (text left : List ℕ) → Stops (Opens Texts) text left → Stops Texts text left
stops_whole Texts text left s =
    stops_in Texts Texts text left (λ t h. ([], rw append-nil h)) (λ t h. inl (t, [], h, sym (append-nil t))) s

-- a set that goes no further than this front stops behind it
pub stops_end : (Texts : List ℕ → Type 0) (front left : List ℕ) → Texts front → ((next : List ℕ) → Texts (front ++ next) → next ≡ []) → left ≢ [] → Stops Texts (front ++ left) left
stops_end Texts front left whole last some =
    stops_after Texts front left left
    (stops_here (λ t. Texts (front ++ t)) left [] (rw append-nil whole) (λ next h. not_alike next left (last next h) some))
  where
    not_alike : (next left : List ℕ) → next ≡ [] → left ≢ [] → ¬ GoOnAlike next left
    not_alike [] [] e some alike = some refl
    not_alike [] (d ∷ left) e some alike = alike
    not_alike (c ∷ next) left e some alike = cc

no_longer : (Texts : List ℕ → Type 0) (front left : List ℕ) → ((next : List ℕ) → Texts (front ++ next) → ¬ GoOnAlike next left) → (n : ℕ) → length front + (n + 1) ≤ length (front ++ left) → (rest : List ℕ) → ¬ Texts (take (length front + (n + 1)) (front ++ left) ++ rest)
no_longer Texts front [] apart n h rest t =
    absurd (omega (arith, h, length-append {A = ℕ} front []))
no_longer Texts front (c ∷ left) apart n h rest t =
    let cut = take-append-add front (c ∷ left) (n + 1) in
    apart (c ∷ (take n left ++ rest)) (rw (cut, add-one, append_assoc) at t) refl

-- the place where a grammar stops is the place of the bad text
pub bad_at : {V : Type 0} (Spells : List ℕ → V → Type 0) (text left : List ℕ) → Stops (IsIn Spells) text left → IsBadAt Spells text (length text - length left)
bad_at Spells text left s =
    let cut : length text - length left ≡ length s.front = omega (arith, ap length s.split, length-append s.front left) in
    rw (cut, s.split) record {
      outside = λ spelled. s.apart left spelled (alike_self left);
      within = omega (arith, length-append s.front left);
      begins = rw take-append_seam (s.more, s.begins);
      longest = λ n h k begun.
          let more : n ≡ length s.front + (n - length s.front - 1 + 1) = omega arith in
          no_longer (IsIn Spells) s.front left s.apart (n - length s.front - 1) (rw (← more) k) begun.0 (rw more at begun.1);
    }
