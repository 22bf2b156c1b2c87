-- Items that are joined one after another.
use Rattle.std.proofs.Common.{◌≡◌, ℕ, Bool, true, false, List, [], ◌∷◌, ◌++◌, Option, Some, None, refl, sym, ap, ◌∙◌, append-nil, append_assoc}
use Rattle.std.specs.Prelude.{flat_map, if◌then◌else◌}
use Rattle.std.specs.List.{join_with_byte}
use Rattle.cal_base.specs.Texts.Octets.{comma}
use Rattle.expand_limit.specs.BusyItems.{joined_items, with_item, more_items}

behind_comma : List ℕ → List ℕ
behind_comma item = comma ∷ item

join_behind : (first : List ℕ) (items : List (List ℕ)) → join_with_byte comma (first ∷ items) ≡ first ++ flat_map behind_comma items
unfolding behind_comma
join_behind first [] = sym (append-nil first)
join_behind first (item ∷ items) = ap (λ rest. first ++ comma ∷ rest) (join_behind item items)

more_behind : (text : List ℕ) (items : List (List ℕ)) → more_items (Some text) items ≡ Some (text ++ flat_map behind_comma items)
unfolding behind_comma
more_behind text [] = ap Some (sym (append-nil text))
more_behind text (item ∷ items) = more_behind (text ++ comma ∷ item) items ∙ ap Some (append_assoc text (comma ∷ item) (flat_map behind_comma items))

pub more_items-joined : (items : List (List ℕ)) → more_items None items ≡ joined_items items
more_items-joined [] = refl
more_items-joined (item ∷ items) = more_behind item items ∙ ap Some (sym (join_behind item items))

pub more_items-next : (meets : Bool) (joined : Option (List ℕ)) (item : List ℕ) (items : List (List ℕ)) → more_items (if meets then with_item joined item else joined) items ≡ more_items joined (if meets then item ∷ items else items)
more_items-next true joined item items = refl
more_items-next false joined item items = refl

pub joined-some : (items : List (List ℕ)) (text : List ℕ) → joined_items items ≡ Some text → text ≡ join_with_byte comma items
joined-some [] text is = absurd (cc)
joined-some (item ∷ items) text is = cc
