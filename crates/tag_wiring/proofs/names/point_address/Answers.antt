use Rattle.std.proofs.Common.{◌<◌, refl, sym, subst}
use Rattle.std.specs.Prelude.{IfSome}
use Rattle.tag_layout.specs.Layout.{total_words}
use Rattle.tag_wiring.proofs.Named.{declared_point}
use Rattle.tag_wiring.proofs.Wired.{one_in}
use Rattle.tag_wiring.proofs.names.point_address.Goals as goal

pub returns-clause-value : goal.returns-clause-value
returns-clause-value c = declared_point c.args.layout.now c.args.name.now c.in_ok-tag.tag c.address.result c.requires c.in_ok-tag.ensures c.if-not-tag.false c.address.ensures

pub returns-clause-within : goal.returns-clause-within
returns-clause-within c =
    let layout = c.args.layout.now in
    subst (λ o. IfSome o (λ at. at < total_words layout)) (sym (returns-clause-value c)) (one_in layout c.args.name.now (total_words layout) c.requires refl)
