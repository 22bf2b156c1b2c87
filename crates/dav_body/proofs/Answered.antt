-- What holds of an answer, from what holds of another of the same kind.
use Rattle.std.proofs.Common.{◌≤◌, ℕ, List, length}
use Rattle.std.specs.Prelude.{Result, Ok, Err, IfOk, IfErr}
use Rattle.cal_base.specs.declared.element.Element.{Element}
use Rattle.cal_base.specs.Xml.XmlBodies.{IsBody}
use Rattle.cal_base.specs.Xml.XmlSizes.{element_size}
use Rattle.cal_base.proofs.Xml.XmlSizeLemmas.{IsBody-size}

pub err_moved : {X E : Type 0} (answer : Result X E) (P Q : E → Type 0) → ((error : E) → P error → Q error) → IfErr answer P → IfErr answer Q
err_moved (Ok x) P Q move holds = tt
err_moved (Err error) P Q move holds = move error holds

pub sized : {E : Type 0} (octets : List ℕ) (answer : Result Element E) → IfOk answer (λ element. IsBody octets element) → IfOk answer (λ element. element_size element ≤ length octets)
sized octets (Ok element) is = IsBody-size octets element is
sized octets (Err error) is = tt
