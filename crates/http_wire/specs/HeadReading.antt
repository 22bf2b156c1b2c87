-- What is read of a block, and of the parts of a head that stand in it.
use Rattle.std.specs.Prelude.{◌≡◌, ℕ, nat_lt, if◌then◌else◌, List, [], bytes_eq, codes, Option, Some, None, Result, Ok, Err}
use Rattle.httparse.specs.declared.spans.HeaderSpan.{HeaderSpan}
use Rattle.httparse.specs.declared.spans.RequestSpans.{RequestSpans}
use Rattle.httparse.specs.Grammar.{RequestHead, ReadsRequest}
use Rattle.httparse.specs.Spans.{IsRequestAt}
use Rattle.cal_model.specs.declared.wire.WireFault.{WireFault}
use Rattle.cal_model.specs.declared.wire.WireFault.TheVariants.{BadHead, BodyTooLong}
use Rattle.cal_model.specs.declared.wire.WireRequest.{WireRequest}
use Rattle.cal_model.specs.Streams.WireLimits.{body_limit}
use Rattle.cal_model.specs.Streams.HeadFields.{Framing, sized, chunked, framing_of, length_of, is_contradictory, is_too_long, read_head, wire_request}
use Rattle.http_wire.specs.declared.fields.Fields.{Fields}
use Rattle.http_wire.specs.declared.head.HeadRead.{HeadRead}
use Rattle.http_wire.specs.declared.head.HeadRead.TheVariants.{Head, Fault, NoMemory}
use Rattle.http_wire.specs.declared.part.Part.{Part}
use Rattle.http_wire.specs.declared.part.Part.TheVariants.{Sized, Line}
use Rattle.http_wire.specs.declared.request.Line.{Line as RequestLine}
use Rattle.http_wire.specs.FieldTexts.{AreFieldsOf}

-- what stands first in a body
abbrev pub first_part : Framing → Part
first_part (sized size) = Sized size
first_part chunked = Line

-- a head, or its fault by what its fields say
abbrev pub judged : RequestHead → Result RequestHead WireFault
judged head = if is_contradictory head then Err BadHead else if is_too_long (framing_of head) then Err BodyTooLong else Ok head

-- what stands first in the body behind a head, or the fault
abbrev pub FramingReads : Result Part WireFault → RequestHead → Type 0
FramingReads (Ok part) head = (judged head ≡ Ok head) × (part ≡ first_part (framing_of head))
FramingReads (Err why) head = judged head ≡ Err why

-- a body whose length stands there
abbrev pub sized_part : List ℕ → Result Part WireFault
sized_part value = elim (length_of value) [ None ↦ Err BadHead | Some size ↦ if nat_lt body_limit size then Err BodyTooLong else Ok (Sized size) ]

-- what a Transfer-Encoding and a Content-Length say, each of which stands once at most
abbrev pub framed : Option (List ℕ) → Option (List ℕ) → Result Part WireFault
framed None None = Ok (Sized 0)
framed None (Some value) = sized_part value
framed (Some coding) None = if bytes_eq coding (codes "chunked") then Ok Line else Err BadHead
framed (Some coding) (Some value) = Err BadHead

-- the block is a head, and the spans cover its parts
abbrev pub IsHeadAt : List ℕ → List HeaderSpan → RequestSpans → Type 0
IsHeadAt block headers spans = (head : RequestHead) × ReadsRequest block head [] × IsRequestAt block headers spans head

abbrev pub IsNoHead : List ℕ → Type 0
IsNoHead block = (head : RequestHead) → ¬ (ReadsRequest block head [])

-- a head of this request line and these fields
pub record IsHeadOf (line : RequestLine) (fields : Fields) (head : RequestHead) : Type 0 where
  pub method : line.method.now ≡ head.method
  pub target : line.target.now ≡ head.target
  pub minor : line.minor ≡ head.minor
  pub fields_are : AreFieldsOf fields head

-- the request of such a head
abbrev pub RequestReads : RequestLine → Fields → WireRequest → Type 0
RequestReads line fields request = (head : RequestHead) → IsHeadOf line fields head → request ≡ wire_request head []

-- what is read of a head by its fields
abbrev pub Judges : HeadRead → RequestHead → Type 0
Judges (Head request part) head = (judged head ≡ Ok head) × (request ≡ wire_request head []) × (part ≡ first_part (framing_of head))
Judges (Fault why) head = judged head ≡ Err why
Judges NoMemory head = Unit {0}

abbrev pub BlockReads : HeadRead → RequestLine → Fields → Type 0
BlockReads read line fields = (head : RequestHead) → IsHeadOf line fields head → Judges read head

-- what is read of a block
abbrev pub HeadReads : HeadRead → List ℕ → Type 0
HeadReads (Head request part) block = (head : RequestHead) × (read_head block ≡ Ok head) × (request ≡ wire_request head []) × (part ≡ first_part (framing_of head))
HeadReads (Fault why) block = read_head block ≡ Err why
HeadReads NoMemory block = Unit {0}
