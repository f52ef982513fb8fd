-- What a leg made of a scan's results and of its download, as the report of the three legs tells it. Own rule.
use Rattle.std.specs.Prelude.{ℕ, List, [], Option, Some, None, codes}
use Rattle.tri_base.specs.declared.leg.Leg.{Leg}
use Rattle.tri_base.specs.declared.leg.Leg.TheVariants.{A, B, C}
use Rattle.tri_base.specs.declared.judged.Judged.{Judged}
use Rattle.tri_base.specs.declared.judged.Judged.TheVariants.{Agrees, Accuses, Minority, NoVote, Waiting, Learned, Ready, Rejected}
use Rattle.engine_face.specs.declared.verdict.Verdict.{Verdict}
use Rattle.engine_face.specs.declared.verdict.Verdict.TheVariants.{Accepted, Refused, Learning}
use Rattle.report_lines.specs.Lines.{two_words}
use Rattle.report_lines.specs.Refusals.{counted, named, refusal_text}

-- A leg's letter.
abbrev pub leg_letter : Leg → List ℕ
leg_letter A = codes "A"
leg_letter B = codes "B"
leg_letter C = codes "C"

-- What a leg was judged. An accusation names the leg that is accused; learning tells how many windows there are.
abbrev pub judgement_text : Judged → List ℕ
judgement_text Agrees = codes "AGREES"
judgement_text (Accuses accused) = named (codes "ACCUSES") (leg_letter accused)
judgement_text Minority = codes "MINORITY"
judgement_text NoVote = codes "NOVOTE"
judgement_text Waiting = codes "WAITING"
judgement_text (Learned windows) = counted (codes "LEARN") windows
judgement_text Ready = codes "READY"
judgement_text Rejected = codes "REJECTED"

-- What a leg made of a download: a leg that learns has no program to change, and takes none.
abbrev pub verdict_text : Verdict → List ℕ
verdict_text Accepted = codes "ACCEPTED"
verdict_text (Refused refusal) = named (codes "REFUSED") (refusal_text refusal)
verdict_text Learning = codes "NONE"

-- The line of a leg's verdict; no line where its note has none, as in a scan without a download.
abbrev pub verdict_line : Leg → Option Verdict → List ℕ
verdict_line leg None = []
verdict_line leg (Some verdict) = two_words (named (codes "VERDICT") (leg_letter leg)) (verdict_text verdict)

-- The line of what a leg was judged.
abbrev pub judgement_line : Leg → Judged → List ℕ
judgement_line leg judged = two_words (named (codes "LEG") (leg_letter leg)) (judgement_text judged)
