-- How reports and status lines tell why a text is no program, or can't take the place of another. Own rule.
use Rattle.std.specs.Prelude.{ℕ, pos, List, [], ◌++◌, codes}
use Rattle.tri_base.specs.declared.faults.LexCause.{LexCause}
use Rattle.tri_base.specs.declared.faults.LexCause.TheVariants.{BadByte, OpenComment, BadNumber, NumberTooLarge, NameTooLong}
use Rattle.tri_base.specs.declared.faults.TypeCause.{TypeCause}
use Rattle.tri_base.specs.declared.faults.TypeCause.TheVariants.{UnknownName, Twice, NoSuchPoint, PointKind, WrongType, NotAssignable, BadField, ArgumentCount, ZeroStep, LoopTag, ExitOutside, LiteralRange}
use Rattle.engine_face.specs.declared.refusal.Refusal.{Refusal}
use Rattle.engine_face.specs.declared.refusal.Refusal.TheVariants.{TooLarge, Lex, TooDeep, Syntax, Typing, TooManyWords, TooLong, RenameUnknown, RenameTwice, KindChanged, NoMemory}
use Rattle.report_lines.specs.Lines.{spaced}

-- The cause of a lexical fault in capital letters.
abbrev pub lex_cause_text : LexCause → List ℕ
lex_cause_text BadByte = codes "BADBYTE"
lex_cause_text OpenComment = codes "OPENCOMMENT"
lex_cause_text BadNumber = codes "BADNUMBER"
lex_cause_text NumberTooLarge = codes "NUMBERTOOLARGE"
lex_cause_text NameTooLong = codes "NAMETOOLONG"

-- The cause of a typing fault in capital letters.
abbrev pub type_cause_text : TypeCause → List ℕ
type_cause_text UnknownName = codes "UNKNOWNNAME"
type_cause_text Twice = codes "TWICE"
type_cause_text NoSuchPoint = codes "NOSUCHPOINT"
type_cause_text PointKind = codes "POINTKIND"
type_cause_text WrongType = codes "WRONGTYPE"
type_cause_text NotAssignable = codes "NOTASSIGNABLE"
type_cause_text BadField = codes "BADFIELD"
type_cause_text ArgumentCount = codes "ARGUMENTCOUNT"
type_cause_text ZeroStep = codes "ZEROSTEP"
type_cause_text LoopTag = codes "LOOPTAG"
type_cause_text ExitOutside = codes "EXITOUTSIDE"
type_cause_text LiteralRange = codes "LITERALRANGE"

-- A word and a number.
abbrev pub counted : List ℕ → ℕ → List ℕ
counted word number = word ++ spaced (pos number)

-- A word, the place of a fault, and its cause.
abbrev pub placed : List ℕ → ℕ → List ℕ → List ℕ
placed word place cause = counted word place ++ (codes " " ++ cause)

-- A word and a name.
abbrev pub named : List ℕ → List ℕ → List ℕ
named word name = word ++ (codes " " ++ name)

-- A refusal. Want of memory is told by no report.
abbrev pub refusal_text : Refusal → List ℕ
refusal_text TooLarge = codes "LARGE"
refusal_text (Lex place cause) = placed (codes "LEX") place (lex_cause_text cause)
refusal_text (TooDeep token) = counted (codes "DEEP") token
refusal_text (Syntax token) = counted (codes "SYNTAX") token
refusal_text (Typing fault) = placed (codes "TYPING") fault.place (type_cause_text fault.cause)
refusal_text (TooManyWords words) = counted (codes "WORDS") words
refusal_text (TooLong cost) = codes "LONG" ++ spaced cost
refusal_text (RenameUnknown name) = named (codes "RENAMEUNKNOWN") name
refusal_text (RenameTwice name) = named (codes "RENAMETWICE") name
refusal_text (KindChanged name) = named (codes "KIND") name
refusal_text NoMemory = []
