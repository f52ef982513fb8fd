use Rattle.std.proofs.Common.{List, [], sym, subst}
use Rattle.st_tree.specs.declared.program.Tree.{Tree}
use Rattle.st_tree.specs.Tags.{tags_of}
use Rattle.st_core.specs.Fits.{IsSound}
use Rattle.st_meaning.specs.Programs.{body_of}
use Rattle.st_sound.specs.Shapes.{shape_in}
use Rattle.st_sound.proofs.SoundStatements.{well_typed_sound}
use Rattle.scan_code.proofs.compiling.compile.Goals as goal

pub compile_sound-requires-clause-sound : goal.compile_sound-requires-clause-sound
compile_sound-requires-clause-sound c =
    let typed = c.args.typed.now in
    subst (λ (tree : Tree). IsSound (shape_in (tags_of tree)) [] (body_of tree)) (sym c.tree.ensures.value)
    (well_typed_sound typed.points typed.tree c.tree.ensures.well_typed)
