-- The first fault of an expression at a place that asks for a type.
use Rattle.std.proofs.Common.{◌≡◌, refl, ap, sym, ◌∙◌}
use Rattle.function_blocks.specs.declared.kinds.Kind.{Kind}
use Rattle.st_types.specs.Inner.Summaries.{checked_of, fault_of, finding_of, kind_of, asked, as_integer}
use Rattle.st_types.proofs.Summing.{sum-fault, sum-asked, sum-as_integer}
use Rattle.st_tree.specs.Typing.Faults.{first_of}
use Rattle.st_tree.specs.Typing.Operands as operand
use Rattle.st_tree.specs.Typing.Operands.{Outcome, Faulty, Typed, Free, Typing, faults_of, type_in}

pub kept_asked : (k : Kind) (t : Typing) → first_of (faults_of (operand.asked k t)) ≡ fault_of (asked k (checked_of t))
kept_asked k t = sum-fault (operand.asked k t) ∙ ap fault_of (sum-asked k t)

pub kept_integer : (t : Typing) → first_of (faults_of (operand.as_integer t)) ≡ fault_of (as_integer (checked_of t))
kept_integer t = sum-fault (operand.as_integer t) ∙ ap fault_of (sum-as_integer t)

kept_type : (o : Outcome) → kind_of (finding_of o) ≡ type_in o
kept_type (Faulty f fs) = refl
kept_type (Typed k) = refl
kept_type (Free ls) = refl

pub kept_kind : (t : Typing) → kind_of (as_integer (checked_of t)) ≡ type_in (operand.as_integer t)
kept_kind t = ap kind_of (sym (sum-as_integer t)) ∙ kept_type (operand.as_integer t)
