use Rattle.std.proofs.Common.{◌≡◌, ◌∷◌, ◌++◌, [], List, All, Ok, Err, subst, sym}
use Rattle.std.specs.Prelude.{OnOk, OnErr, Result}
use Rattle.std.proofs.lemmas.List.Elements.{All-nil, All-cons, All-append}
use Rattle.cal_model.specs.declared.zone.ZonePart.{ZonePart}
use Rattle.cal_model.specs.TimeZones.TableBounds.{IsPart}
use Rattle.tests_recurrence.proofs.zone_tables.put.Goals as goal

pushed : {T E : Type 0} (r : Result T E) (old new : List ZonePart) (x : ZonePart) → OnOk r (new ≡ old ++ x ∷ []) → OnErr r (new ≡ old) → All IsPart old → IsPart x → All IsPart new
pushed (Ok u) old new x ok err all one = subst (All IsPart) (sym ok) (All-append IsPart old (x ∷ []) all (All-cons IsPart x [] one (All-nil IsPart)))
pushed (Err e) old new x ok err all one = subst (All IsPart) (sym err) all

pub returns : goal.returns
returns c = pushed c.push.result c.args.list.now c.push.new.self c.args.part c.push.ensures.ok c.push.ensures.err c.requires.list c.requires.part
