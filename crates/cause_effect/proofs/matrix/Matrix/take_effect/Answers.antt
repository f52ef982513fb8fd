use Rattle.std.proofs.Common.{◌≡◌, ◌∙◌, ◌++◌, ◌∷◌, [], ap, sym, None, Ok, nat_le, length, List, ℕ}
use Rattle.cause_effect.specs.Matrices.{MatrixValue, effect_names, row_limit}
use Rattle.cause_effect.specs.Standing.{refusal_of, unless, is_among, with_effect}
use Rattle.cause_effect.proofs.Tables.{allowed, new_effect, goes_last}
use Rattle.cause_effect.proofs.matrix.Matrix.take_effect.Goals as goal

pub returns : goal.returns
returns c =
    let m : MatrixValue = c.args.self.now in
    let name : List ℕ = c.args.name in
    let full = nat_le row_limit (length m.effects) in
    let many : c.len.result ≡ length m.effects = c.len.ensures.len ∙ ap (λ (x : MatrixValue). length x.effects) c.self.view_is in
    let none : refusal_of m name full ≡ None = ap (λ n. refusal_of m name (nat_le row_limit n)) (sym many) ∙ sym c.in_default.ensures in
    let new = ap (λ (x : MatrixValue). is_among (effect_names x) name) c.self.view_is ∙ new_effect m name (allowed m name full none).new in
    let entries : c.insert.new.self.entries ≡ c.self.inside.effects.entries ++ (name, c.args.mode) ∷ [] =
    c.in-Ok.ensures.entries ∙ goes_last name c.args.mode c.self.inside.effects.entries new in
    let made : MatrixValue = with_effect m name c.args.mode in
    let more : made ≡ record m { effects = c.insert.new.self.entries } =
    λ i. record m { effects = (ap (λ (x : MatrixValue). x.effects ++ (name, c.args.mode) ∷ []) (sym c.self.view_is) ∙ sym entries) i } in
    let kept : record m { effects = c.insert.new.self.entries } ≡ record { causes = c.self.inside.causes.entries; effects = c.insert.new.self.entries; reset = c.self.inside.reset; links = c.self.inside.links.keys } =
    ap (λ (x : MatrixValue). record x { effects = c.insert.new.self.entries }) (sym c.self.view_is) in
    ap (λ o. unless o made) none ∙ ap Ok (more ∙ kept)
