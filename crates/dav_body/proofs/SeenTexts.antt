-- Texts that stand twice, met one after another with those that were seen.
use Rattle.std.proofs.Common.{◌≡◌, ℕ, Bool, true, false, List, [], ◌∷◌, Some, refl, sym, ap, ap₂, ◌∙◌}
use Rattle.std.specs.Prelude.{◌||◌, is_some, cond}
use Rattle.std.specs.List.{list_any}
use Rattle.std.specs.Str.{bytes_eq}
use Rattle.cal_base.specs.Lists.NameMap.{Named, value_at, with_value}
use Rattle.cal_base.specs.Xml.XmlScopes.{has_repeat}
use Rattle.cal_base.proofs.Lists.NameMapLemmas.{value_at_with}
use Rattle.dav_body.proofs.Lookups.{bytes_eq_sym}

abbrev was_seen : Named Bool → List ℕ → Bool
was_seen seen text = is_some (value_at seen text)

-- whether one of some texts was seen, or one stands twice among them
abbrev pub repeats_after : Named Bool → List (List ℕ) → Bool
repeats_after seen texts = list_any (was_seen seen) texts || has_repeat bytes_eq texts

none_seen : (texts : List (List ℕ)) → list_any (was_seen []) texts ≡ false
none_seen [] = refl
none_seen (text ∷ texts) = none_seen texts

pub repeats_after_nothing : (texts : List (List ℕ)) → repeats_after [] texts ≡ has_repeat bytes_eq texts
repeats_after_nothing texts = ap (λ b. b || has_repeat bytes_eq texts) (none_seen texts)

pub repeats_after_seen : (seen : Named Bool) (text : List ℕ) (texts : List (List ℕ)) → is_some (value_at seen text) ≡ true → repeats_after seen (text ∷ texts) ≡ true
repeats_after_seen seen text texts here = ap (λ b. (b || list_any (was_seen seen) texts) || has_repeat bytes_eq (text ∷ texts)) here

or_swap : (a b c d : Bool) → ((a || b) || (c || d)) ≡ ((a || c) || (b || d))
or_swap true b c d = refl
or_swap false true true d = refl
or_swap false true false d = refl
or_swap false false true d = refl
or_swap false false false d = refl

or_assoc : (a b c : Bool) → (a || b || c) ≡ (a || (b || c))
or_assoc true b c = refl
or_assoc false b c = refl

or_comm : (a b : Bool) → (a || b) ≡ (b || a)
or_comm true true = refl
or_comm true false = refl
or_comm false true = refl
or_comm false false = refl

seen_behind : (seen : Named Bool) (text other : List ℕ) → was_seen (with_value seen text true) other ≡ (bytes_eq text other || was_seen seen other)
seen_behind seen text other =
    ap is_some (value_at_with text true other seen)
    ∙ ap (λ b. is_some (cond b (Some true) (value_at seen other))) (bytes_eq_sym other text)
    ∙ (elim (bytes_eq text other) as (λ b. is_some (cond b (Some true) (value_at seen other)) ≡ (b || was_seen seen other)) [ true ↦ refl | false ↦ refl ])

any_behind : (seen : Named Bool) (text : List ℕ) (texts : List (List ℕ)) → list_any (was_seen (with_value seen text true)) texts ≡ (list_any (bytes_eq text) texts || list_any (was_seen seen) texts)
any_behind seen text [] = refl
any_behind seen text (other ∷ texts) =
    ap₂ (λ a b. a || b) (seen_behind seen text other) (any_behind seen text texts)
    ∙ or_swap (bytes_eq text other) (was_seen seen other) (list_any (bytes_eq text) texts) (list_any (was_seen seen) texts)

pub repeats_after_new : (seen : Named Bool) (text : List ℕ) (texts : List (List ℕ)) → is_some (value_at seen text) ≡ false → repeats_after seen (text ∷ texts) ≡ repeats_after (with_value seen text true) texts
repeats_after_new seen text texts other =
    ap (λ b. (b || list_any (was_seen seen) texts) || has_repeat bytes_eq (text ∷ texts)) other
    ∙ sym (or_assoc (list_any (was_seen seen) texts) (list_any (bytes_eq text) texts) (has_repeat bytes_eq texts))
    ∙ ap (λ b. b || has_repeat bytes_eq texts) (or_comm (list_any (was_seen seen) texts) (list_any (bytes_eq text) texts) ∙ sym (any_behind seen text texts))
