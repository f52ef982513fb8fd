use Rattle.std.proofs.Common.{subst, sym}
use Rattle.script_text.proofs.Tapes.{rise}
use Rattle.script_text.specs.Inner.LegParts.{Rise}
use Rattle.script_text.proofs.script.Script.download.Goals as goal

pub find_moment-requires : goal.find_moment-requires
find_moment-requires c =
    let v = c.args.self.now.value in
    subst (Rise 0) (sym c.moments.ensures.value) (rise v.points 0 v.scans v.moments c.moments.ensures.script.moments)
