-- Where there is no first fault, no rule is broken.
use Rattle.std.proofs.Common.{◌≡◌, List, [], ◌∷◌, None, refl}
use Rattle.tri_base.specs.declared.point.Point.{Point}
use Rattle.tri_base.specs.declared.faults.TypeFault.{TypeFault}
use Rattle.st_tree.specs.declared.program.Tree.{Tree}
use Rattle.st_tree.specs.Typing.Faults.{first_of}
use Rattle.st_tree.specs.Typing.Programs.{typing_faults, WellTyped, first_typing_fault}

none_first : (fs : List TypeFault) → first_of fs ≡ None → fs ≡ []
none_first [] h = refl
none_first (f ∷ fs) h = absurd (cc)

pub sound : (points : List Point) (tree : Tree) → first_typing_fault points tree ≡ None → WellTyped points tree
unfolding first_typing_fault WellTyped
sound points tree h = none_first (typing_faults points tree) h
