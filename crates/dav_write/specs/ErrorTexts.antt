-- The bodies of refusals in pieces, as they are written one after another.
use Rattle.std.specs.Prelude.{ℕ, List, ◌++◌, codes}
use Rattle.cal_base.specs.Xml.CanonicalXml.{prefixes}

-- up to the end of the tag of the error: `>`, or `/>` where it is all
unfoldable pub error_front : List ℕ
error_front = codes "<?xml version=\"1.0\" encoding=\"utf-8\"?>\n<D:error" ++ prefixes

-- of the refusal for want of a privilege: what stands before the path, and what stands behind the privilege
unfoldable pub need_privileges_front : List ℕ
need_privileges_front = error_front ++ codes "><D:need-privileges><D:resource><D:href>"

abbrev pub need_privileges_end : List ℕ
need_privileges_end = codes "</D:resource></D:need-privileges></D:error>"
