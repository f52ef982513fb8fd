use Rattle.std.proofs.Common.{List, [], ap, sym, ◌∙◌, subst}
use Rattle.st_tree.specs.declared.statement.Statement.{Statement}
use Rattle.st_tree.specs.declared.tag.Tag.{Tag}
use Rattle.st_tree.specs.Tags.{tags_of}
use Rattle.st_core.specs.Fits.{ActFits}
use Rattle.st_meaning.specs.Statements.{acts_of}
use Rattle.st_sound.specs.Shapes.{shape_in}
use Rattle.scan_code.proofs.Assembled.{body_fits}
use Rattle.scan_code.proofs.compiling.compile_sound.Goals as goal

pub assemble-requires : goal.assemble-requires
assemble-requires c =
    let tree = c.args.tree.now in let tags = tags_of tree in
    let same = c.as_slice-statements.ensures in
    record {
      fits = subst (λ (tags : List Tag). ActFits (shape_in tags) [] (acts_of tags c.as_slice-statements.result.now)) (sym c.requires.laid)
          (subst (λ (l : List Statement). ActFits (shape_in tags) [] (acts_of tags l)) (sym same)
          (body_fits (shape_in tags) tags tree.statements c.requires.sound c.requires.shallow));
    }
