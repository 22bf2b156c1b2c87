use Rattle.std.proofs.Common.{ℕ, sym, ap, ◌∙◌}
use Rattle.std.proofs.lemmas.List.{append-nil}
use Rattle.std.specs.Global.{Vec}
use Rattle.std.specs.Map.{values_of}
use Rattle.object_walk.proofs.EntryValues.{values_named}
use Rattle.object_walk.proofs.walk.ObjectWalk.of.Goals as goal

pub returns : goal.returns
returns c = append-nil (values_of c.iter.result) ∙ (sym (values_named (λ (name : Vec ℕ). name.items) c.iter.result) ∙ ap values_of c.iter.ensures.rest)
