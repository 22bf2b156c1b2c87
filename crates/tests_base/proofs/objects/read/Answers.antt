use Rattle.std.proofs.Common.{Result, Ok, Err}
use Rattle.std.specs.Prelude.{IfOk}
use Rattle.tests_base.proofs.objects.read.Goals as goal

IfOk-then : {X E : Type 0} {P Q : X → Type 0} (result : Result X E) → ((x : X) → P x → Q x) → IfOk result P → IfOk result Q
IfOk-then (Ok x) then_on holds = then_on x holds
IfOk-then (Err e) then_on holds = holds

pub returns-in-Ok : goal.returns-in-Ok
returns-in-Ok c = IfOk-then c.build.result (λ node made. (c.in-Ok.lines, c.in-Ok.ensures.own_texts, made.0, made.1)) c.build.ensures.tree
