-- The text that a line is replied with.
use Rattle.std.specs.Prelude.{ℕ, List, [], Option, None, Some}
use Rattle.wc_report.specs.ReplyText.{reply_text}
use Rattle.wc_report.specs.declared.replies.Reply.{Reply}

-- what is written for a line that may have no reply
abbrev pub text_of : Option Reply → List ℕ
text_of None = []
text_of (Some reply) = reply_text reply
