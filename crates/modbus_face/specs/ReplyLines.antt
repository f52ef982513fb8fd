-- How a report tells a reply. Own rule.
use Rattle.std.specs.Prelude.{ℕ, pos, List, ◌++◌, codes, Option, Some, None}
use Rattle.std.specs.Fmt.{signed_decimal}
use Rattle.hex.specs.Hex.{encode_upper}

-- A reply's bytes in capital hexadecimal digits, or NONE where the request isn't framed.
abbrev pub reply_text : Option (List ℕ) → List ℕ
reply_text None = codes "NONE"
reply_text (Some reply) = encode_upper reply

-- The line of a reply: the scan's number, a space, the reply.
abbrev pub reply_line : ℕ → Option (List ℕ) → List ℕ
reply_line scan reply = signed_decimal (pos scan) ++ (codes " " ++ (reply_text reply ++ codes "\n"))
