use Rattle.std.proofs.Common.{◌≡◌, ◌∙◌, ◌++◌, ◌∷◌, [], ap, sym, None, Ok, nat_le, length, List, ℕ}
use Rattle.cause_effect.specs.Matrices.{MatrixValue, cause_names, row_limit}
use Rattle.cause_effect.specs.Standing.{refusal_of, unless, is_among, with_cause}
use Rattle.cause_effect.proofs.Tables.{allowed, new_cause, goes_last}
use Rattle.cause_effect.proofs.matrix.Matrix.take_cause.Goals as goal

pub returns : goal.returns
returns c =
    let m : MatrixValue = c.args.self.now in
    let name : List ℕ = c.args.name in
    let full = nat_le row_limit (length m.causes) in
    let many : c.len.result ≡ length m.causes = c.len.ensures.len ∙ ap (λ (x : MatrixValue). length x.causes) c.self.view_is in
    let none : refusal_of m name full ≡ None = ap (λ n. refusal_of m name (nat_le row_limit n)) (sym many) ∙ sym c.in_default.ensures in
    let new = ap (λ (x : MatrixValue). is_among (cause_names x) name) c.self.view_is ∙ new_cause m name (allowed m name full none).new in
    let entries : c.insert.new.self.entries ≡ c.self.inside.causes.entries ++ (name, c.args.level) ∷ [] =
    c.in-Ok.ensures.entries ∙ goes_last name c.args.level c.self.inside.causes.entries new in
    let made : MatrixValue = with_cause m name c.args.level in
    let more : made ≡ record m { causes = c.insert.new.self.entries } =
    λ i. record m { causes = (ap (λ (x : MatrixValue). x.causes ++ (name, c.args.level) ∷ []) (sym c.self.view_is) ∙ sym entries) i } in
    let kept : record m { causes = c.insert.new.self.entries } ≡ record { causes = c.insert.new.self.entries; effects = c.self.inside.effects.entries; reset = c.self.inside.reset; links = c.self.inside.links.keys } =
    ap (λ (x : MatrixValue). record x { causes = c.insert.new.self.entries }) (sym c.self.view_is) in
    ap (λ o. unless o made) none ∙ ap Ok (more ∙ kept)
