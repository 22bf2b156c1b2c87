-- What holds of an answer, from what holds of another of the same kind.
use Rattle.std.specs.Prelude.{Result, Ok, Err, IfOk, IfErr}

pub ok_moved : {X E : Type 0} (answer : Result X E) (P Q : X → Type 0) → ((value : X) → P value → Q value) → IfOk answer P → IfOk answer Q
ok_moved (Ok value) P Q move holds = move value holds
ok_moved (Err error) P Q move holds = tt

pub err_moved : {X E : Type 0} (answer : Result X E) (P Q : E → Type 0) → ((error : E) → P error → Q error) → IfErr answer P → IfErr answer Q
err_moved (Ok value) P Q move holds = tt
err_moved (Err error) P Q move holds = move error holds
