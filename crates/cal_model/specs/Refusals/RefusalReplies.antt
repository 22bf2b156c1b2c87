-- A refusal as a reply (RFC 4918, 14.5 and 16; RFC 3744, 7.1.1), and rows of tables of refusals.
-- Given: a refusal, that is a status and perhaps a condition. Gives: the reply; where there is a condition, its body holds that.
use Rattle.std.specs.Prelude.{ℕ, Bool, ◌==◌, if◌then◌else◌, List, ◌++◌, flat_map, filter, Option, Some, None, option_map, codes}
use Rattle.cal_model.specs.declared.path.Path.{Path}
use Rattle.cal_model.specs.declared.property.PropName.{PropName}
use Rattle.cal_model.specs.declared.reply.Cond.TheVariants.{None as NoCondition, Dav, Cal}
use Rattle.cal_model.specs.declared.reply.Refusal.{Refusal}
use Rattle.cal_model.specs.declared.reply.Reply.{Reply}
use Rattle.cal_model.specs.Access.Privileges.{privileges}
use Rattle.cal_model.specs.Replies.BareReplies.{bare_reply}
use Rattle.cal_model.specs.Replies.ReplyElements.{href_element, privilege_element}
use Rattle.cal_model.specs.Replies.ReplyForms.{xml_reply}
use Rattle.cal_model.specs.Replies.XmlText.{element, document}

-- the body that names a condition: an element `D:error` that holds it
abbrev pub error_body : List ℕ → List ℕ
error_body condition = document (codes "D:error") condition

-- a refusal without a condition is a status alone
abbrev pub refusal_reply : Refusal → Reply
refusal_reply refusal = elim refusal.cond [
  | NoCondition ↦ bare_reply refusal.status
  | Dav condition ↦ xml_reply refusal.status (error_body condition)
  | Cal condition ↦ xml_reply refusal.status (error_body condition)
]

-- Rows of tables: a refusal or its reply where a condition holds. A table is read from its top.

abbrev pub refused_where : Bool → Refusal → Option Refusal
refused_where applies refusal = if applies then Some refusal else None

abbrev pub when : Bool → Reply → Option Reply
when applies reply = if applies then Some reply else None

abbrev pub refuse : Option Refusal → Option Reply
refuse refusal = option_map refusal_reply refusal

-- Privileges

-- those that have exactly these bits
abbrev pub privileges_of : ℕ → List ℕ
privileges_of bits = flat_map (λ (row : PropName × ℕ). privilege_element row.0) (filter (λ (row : PropName × ℕ). row.1 == bits) privileges)

-- 403: what is needed, and on which resource
abbrev pub need_privileges : Path → ℕ → Refusal
need_privileges path bits = record {
  status = 403;
  cond = Dav (element (codes "D:need-privileges") (element (codes "D:resource") (href_element path ++ privileges_of bits)));
}
