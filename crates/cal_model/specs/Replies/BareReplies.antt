-- Replies that are a status alone.
use Rattle.std.specs.Prelude.{ℕ, [], None}
use Rattle.cal_model.specs.declared.reply.Media.TheVariants.{None as NoMedia}
use Rattle.cal_model.specs.declared.reply.Reply.{Reply}

-- a reply that is a status alone
abbrev pub bare_reply : ℕ → Reply
bare_reply status = record { status = status; etag = None; allow = None; media = NoMedia; body = [] }
