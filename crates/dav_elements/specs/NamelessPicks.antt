-- Whether something picked has no name, gone over from the outermost component on.
use Rattle.std.specs.Prelude.{ℕ, zero, suc, Bool, false, ◌||◌, codes}
use Rattle.std.specs.List.{list_any}
use Rattle.cal_base.specs.declared.element.Element.{Element}
use Rattle.cal_model.specs.Bodies.ElementParts.{lacks_name, each}

abbrev pub is_nameless_to : ℕ → Element → Bool
is_nameless_to zero pick = false
is_nameless_to (suc depth) pick =
    lacks_name pick || list_any lacks_name (each (codes "prop") pick) || list_any (is_nameless_to depth) (each (codes "comp") pick)
