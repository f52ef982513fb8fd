use Rattle.std.proofs.Common.{subst, Err}
use Rattle.st_tree.specs.Tags.{tags_of}
use Rattle.tag_layout.specs.Layout.{Lays}
use Rattle.st_front.proofs.front_end.front.Goals as goal

pub returns-in-Err-TooManyWords : goal.returns-in-Err-TooManyWords
returns-in-Err-TooManyWords c =
    let typed = c.in_ok-typed.ensures c.args.text.now.list c.in-Ok.ensures in
    let told = subst (λ fault. Lays (tags_of c.in_ok-typed.typed.tree) (Err fault)) c.in-Err-TooManyWords.field-0-is c.in-Err-TooManyWords.ensures in
    record { tree = c.in_ok-typed.typed.tree; has = typed.0; typed = typed.1; many = told.0; told = told.1 }
