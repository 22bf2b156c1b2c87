-- How a `List` holds its items, so that a type may hold itself through it, as a component holds its
-- child components. A list is seen as its items, so each member below is that of a plain list.
use mathlib.Core.Path.{◌≡◌, refl, sym}
use mathlib.Core.List.{List, []}
use mathlib.Core.Former.{Former, this, list, via, children}
use base.Stored.{code_map}
use denote.RattleType.{RattleType}
use denote.HoleLaws.{Alike}
use denote.HolePlaces.{Recodes, struct_places, laid}
use denote.Hole.Carrier.{listed, list-listed}
use denote.Hole.Fix.{over}
use denote.Param.Weighed.{Weighed, w_list}
use denote.Model.Placed.{view_places}
use Rattle.std.specs.formers.vec.Vec as vec
use Rattle.std.specs.declared.alloc.Global.{Global}
use Rattle.std.specs.contracts.alloc.Global as global
use Rattle.std.specs.contracts.impls.GlobalAllocator.TheImpl.{ghosts}
use Rattle.cal_base.specs.declared.list.List.TheInside.{Inside}
use Rattle.cal_base.specs.declared.list.List.TheView.{view, invariant}
use Rattle.cal_base.specs.contracts.list.List as Contract
use Rattle.cal_base.specs.contracts.list.List.TheInside as InsideContract

-- a list of what the items are made of
abbrev pub the_former : Former {0} → Former {0}
the_former item = list item

-- its measure is the greatest of its items' measures
abbrev pub the_weighed : {item : Former {0}} → Weighed item → Weighed (the_former item)
the_weighed weighed = w_list weighed

-- a list may be empty, so a type that holds itself through lists has values
pub the_empty : List ⊥
the_empty = []

-- the values of the item type in a list are its items, in order
abbrev pub the_items : (X : Type 0) → List X → List X
the_items X items = items

-- the former lists the same ones
pub the_items_listed : (X : Type 0) (items : List X) → listed _ (children (the_former this) X items) ≡ the_items X items
the_items_listed X items = list-listed X items

-- the one field is a vector of the items
abbrev the_fields : Former {0}
the_fields =
    via (vec.the_former this Global) Inside (λ X inside. inside.items) (λ X held. record { items = held }) (λ X inside. refl) (λ X held. refl)

module _ (R S : RattleType) (h : R.Denot → S.Denot) where
  -- two item types that lie alike in memory make lists that lie alike
  pub the_places : Alike R S h → Alike (Contract.the_row R) (Contract.the_row S) ((the_former this).map R.Denot S.Denot h)
  the_places alike =
      view_places the_fields (list this) view (λ X Y k inside. refl) (λ X inside. refl) R.Denot S.Denot h
      (Contract.the_row R).coded (Contract.the_row S).coded
      (invariant R.Denot) (invariant S.Denot) (λ inside p q. refl) (λ inside p q. refl) (λ inside holds. tt) (λ inside holds. tt)
      (over (InsideContract.the_row R)) (over (InsideContract.the_row S))
      (struct_places (InsideContract.the_type R) (InsideContract.the_type S) (vec.mapped h, tt) _ (λ held. refl) refl
      (laid _ _ _ (vec.the_places global.the_row ghosts R S h alike), tt))

  -- and the code of such a list is that of its items
  pub the_codes_placed : Recodes R S h → Recodes (Contract.the_row R) (Contract.the_row S) ((the_former this).map R.Denot S.Denot h)
  the_codes_placed recodes items = sym (code_map R.coded.code S.coded.code h (λ x. sym (recodes x)) items)
