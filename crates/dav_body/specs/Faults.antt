-- Faults as the definition has them.
use Rattle.std.specs.Prelude.{◌≡◌, ℕ, Option, Some}
use Rattle.cal_base.specs.Xml.XmlFaults as definition
use Rattle.dav_body.specs.declared.fault.Why.{Why}
use Rattle.dav_body.specs.declared.fault.Why.TheVariants.{Encoding, Syntax, Dtd, Entity, Prefix, TooDeep, Cut}
use Rattle.dav_body.specs.declared.fault.Fault.{Fault}
use Rattle.dav_body.specs.declared.fault.BodyFault.{BodyFault}
use Rattle.dav_body.specs.declared.fault.BodyFault.TheVariants.{At, NoMemory}

abbrev pub why_told : Why → definition.Why
why_told Encoding = definition.encoding
why_told Syntax = definition.syntax
why_told Dtd = definition.dtd
why_told Entity = definition.entity
why_told Prefix = definition.prefix
why_told TooDeep = definition.too_deep
why_told Cut = definition.cut_short

abbrev pub fault_told : Fault → definition.Fault
fault_told fault = definition.fault_at fault.place (why_told fault.why)

-- the fault that the definition finds, with its place and its reason; want of memory says nothing
abbrev pub IsFaultOf : Option definition.Fault → BodyFault → Type 0
IsFaultOf found (At place why) = found ≡ Some (definition.fault_at place (why_told why))
IsFaultOf found NoMemory = Unit {0}

-- why a markup cannot stand, at the place of the markup
abbrev pub IsWhyOf : ℕ → Option definition.Why → BodyFault → Type 0
IsWhyOf place found (At at why) = (at ≡ place) × (found ≡ Some (why_told why))
IsWhyOf place found NoMemory = Unit {0}
