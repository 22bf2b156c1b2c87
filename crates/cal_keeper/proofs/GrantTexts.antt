-- Grants in a payload: which one stands in front of octets is told by the octets.
use Rattle.std.proofs.Common.{◌≡◌, ℕ, List, ◌∷◌, ◌++◌, length, get_or, take, drop, refl, sym, ◌∙◌, ap, arith, append_assoc}
use Rattle.std.specs.Int.{w16, to_be_bytes}
use Rattle.cal_model.specs.declared.privilege.Grant.{Grant}
use Rattle.cal_model.specs.declared.privilege.Who.{Who}
use Rattle.cal_model.specs.declared.privilege.Who.TheVariants.{Everyone, Owner, Principal, Group}
use Rattle.cal_keeper.specs.Files.Payloads.{who_text, grant_text, IsKnown, GrantHasForm}
use Rattle.cal_keeper.proofs.PartLaws.{IsTold, same_2, same_4, same_front}
use Rattle.cal_keeper.specs.Principals.{AreFew}
use Rattle.cal_keeper.specs.declared.principals.PrincipalCounts.{PrincipalCounts}

who_size : (who : Who) → length (who_text who) ≡ 5
who_size Everyone = refl
who_size Owner = refl
who_size (Principal user) = refl
who_size (Group group) = refl

-- two kinds differ
other_kind : {Z : Type 0} (a b : ℕ) (xs ys : List ℕ) → (a ≡ b → ⊥) → a ∷ xs ≡ b ∷ ys → Z
other_kind a b xs ys differ same = absurd (differ (ap (λ (zs : List ℕ). get_or zs 0 0) same))

pub who_told : (counts : PrincipalCounts) → AreFew counts → (a b : Who) → IsKnown counts a → IsKnown counts b → who_text a ≡ who_text b → a ≡ b
who_told counts few Everyone Everyone known_a known_b same = refl
who_told counts few Everyone Owner known_a known_b same = other_kind 0 1 _ _ (λ e. omega (arith, e)) same
who_told counts few Everyone (Principal b) known_a known_b same = other_kind 0 2 _ _ (λ e. omega (arith, e)) same
who_told counts few Everyone (Group b) known_a known_b same = other_kind 0 3 _ _ (λ e. omega (arith, e)) same
who_told counts few Owner Everyone known_a known_b same = other_kind 1 0 _ _ (λ e. omega (arith, e)) same
who_told counts few Owner Owner known_a known_b same = refl
who_told counts few Owner (Principal b) known_a known_b same = other_kind 1 2 _ _ (λ e. omega (arith, e)) same
who_told counts few Owner (Group b) known_a known_b same = other_kind 1 3 _ _ (λ e. omega (arith, e)) same
who_told counts few (Principal a) Everyone known_a known_b same = other_kind 2 0 _ _ (λ e. omega (arith, e)) same
who_told counts few (Principal a) Owner known_a known_b same = other_kind 2 1 _ _ (λ e. omega (arith, e)) same
who_told counts few (Principal a) (Principal b) known_a known_b same =
    ap (λ (n : ℕ). Principal n) (same_4 a b (omega (arith, few.0, known_a)) (omega (arith, few.0, known_b)) (ap (drop 1) same))
who_told counts few (Principal a) (Group b) known_a known_b same = other_kind 2 3 _ _ (λ e. omega (arith, e)) same
who_told counts few (Group a) Everyone known_a known_b same = other_kind 3 0 _ _ (λ e. omega (arith, e)) same
who_told counts few (Group a) Owner known_a known_b same = other_kind 3 1 _ _ (λ e. omega (arith, e)) same
who_told counts few (Group a) (Principal b) known_a known_b same = other_kind 3 2 _ _ (λ e. omega (arith, e)) same
who_told counts few (Group a) (Group b) known_a known_b same =
    ap (λ (n : ℕ). Group n) (same_4 a b (omega (arith, few.1, known_a)) (omega (arith, few.1, known_b)) (ap (drop 1) same))

pub grant_told : (counts : PrincipalCounts) → AreFew counts → IsTold grant_text (GrantHasForm counts)
grant_told counts few octets a b r s small fits_a fits_b is_a is_b =
    let in_a : octets ≡ who_text a.who ++ (to_be_bytes w16 a.held.0 ++ r) = is_a ∙ append_assoc (who_text a.who) (to_be_bytes w16 a.held.0) r in
    let in_b : octets ≡ who_text b.who ++ (to_be_bytes w16 b.held.0 ++ s) = is_b ∙ append_assoc (who_text b.who) (to_be_bytes w16 b.held.0) s in
    let whose = same_front (who_text a.who) (who_text b.who) _ _ (who_size a.who ∙ sym (who_size b.who)) (sym in_a ∙ in_b) in
    let who = who_told counts few a.who b.who fits_a.0 fits_b.0 whose.0 in
    let bits = same_2 a.held.0 b.held.0 (omega (arith, fits_a.1)) (omega (arith, fits_b.1)) (ap (take 2) whose.1) in
    let make : Who → ℕ → Grant = λ x y. record { who = x; held = record { 0 = y } } in
    (ap (λ (x : Who). make x a.held.0) who ∙ ap (λ (y : ℕ). make b.who y) bits, ap (drop 2) whose.1)
