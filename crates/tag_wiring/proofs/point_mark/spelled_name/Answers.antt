use Rattle.std.proofs.Common.{rules, sym, subst}
use Rattle.std.specs.Str.{IsUtf8}
use Rattle.tag_wiring.proofs.Spelled.{name_utf8}
use Rattle.tag_wiring.proofs.point_mark.spelled_name.Goals as goal

pub unwrap-requires : goal.unwrap-requires
unwrap-requires c =
    let utf8 = subst IsUtf8 (sym c.bytes.ensures.value) (name_utf8 c.args.name.now c.bytes.ensures.again) in
    search (rules, utf8)
