use Rattle.std.proofs.Common.{◌≡◌, ◌∙◌, ◌++◌, ◌∷◌, [], ap, sym, Ok, true, false, arith}
use Rattle.cause_effect.specs.declared.matrix.Link.{Link}
use Rattle.cause_effect.specs.Matrices.{MatrixValue, cause_names, effect_names}
use Rattle.cause_effect.specs.Standing.{is_among, is_link_among, with_link}
use Rattle.cause_effect.proofs.Tables.{link_last, linked_new}
use Rattle.cause_effect.proofs.matrix.Matrix.take_link.Goals as goal

pub returns : goal.returns
returns c =
    let m : MatrixValue = c.args.self.now in
    let link : Link = c.args.link in
    let new : is_link_among m.links link ≡ false = sym c.has_link.ensures ∙ c.if-has_link.false in
    let cause : is_among (cause_names m) link.cause ≡ true = sym c.is_cause.ensures ∙ grind arith in
    let effect : is_among (effect_names m) link.effect ≡ true = sym c.is_effect.ensures ∙ grind arith in
    let inside = ap (λ (x : MatrixValue). is_link_among x.links link) c.self.view_is ∙ new in
    let keys : c.insert.new.self.keys ≡ c.self.inside.links.keys ++ link ∷ [] = c.in-Ok.ensures.keys ∙ link_last link c.self.inside.links.keys inside in
    let more : with_link m link ≡ record m { links = c.insert.new.self.keys } =
    λ i. record m { links = (ap (λ (x : MatrixValue). x.links ++ link ∷ []) (sym c.self.view_is) ∙ sym keys) i } in
    let kept : record m { links = c.insert.new.self.keys } ≡ record { causes = c.self.inside.causes.entries; effects = c.self.inside.effects.entries; reset = c.self.inside.reset; links = c.insert.new.self.keys } =
    ap (λ (x : MatrixValue). record x { links = c.insert.new.self.keys }) (sym c.self.view_is) in
    linked_new m link new cause effect ∙ ap Ok (more ∙ kept)
